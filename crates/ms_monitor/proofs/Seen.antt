-- What is shown of the addresses: a run of unpainted ones is one of open ones.
use Rattle.std.proofs.Common.{◌≡◌, ℕ, ◌+◌, ◌-◌, ◌<◌, Bool, true, Some, refl, arith, subst, inl, inr}
use Rattle.std.proofs.lemmas.Bool.{cases_lt}
use Rattle.ms_event.specs.Monitor.{IsGap, IsUnpainted, State}
use Rattle.ms_live.specs.refinement.Layout.{IsOpen, IsRun}
use Rattle.ms_live.proofs.Layouts.{closed}
use Rattle.ms_monitor.specs.refinement.Colours.{colour_of}
use Rattle.ms_monitor.specs.refinement.Gaps.{segment}
use Rattle.ms_monitor.specs.refinement.Kept.{IsLive, Kept}
use Rattle.ms_monitor.specs.refinement.Showing.{Shows}
use Rattle.ms_monitor.specs.declared.colours.Colour.{Colour}

-- a live colour is a live allocation
pub is_live : (k : Kept) (id : ℕ) (c : Colour) → colour_of k.colours id ≡ Some c → c.is_live ≡ true → IsLive k.colours (segment id c.base c.size)
is_live k id c e live = let P : Bool → Type 0 = λ b. colour_of k.colours id ≡ Some (record { base = c.base; size = c.size; is_live = b }) in (subst P live e, refl)

pub is_open : (k : Kept) (s : State) → Shows k s → (a : ℕ) → a < k.capacity → IsUnpainted s a → IsOpen (IsLive k.colours) k.capacity a
is_open k s shows a below un = (
  below,
  λ t live low. elim (cases_lt a (t.base + t.size)) [
    | inl in_it ↦
        absurd (
        un t.id (a - t.base)
        ((shows.painted (record { address = a; colour = t.id; place = a - t.base })).1 (record { base = t.base; size = t.size; is_live = true }, live.0, refl, omega arith, omega arith))
        )
    | inr out ↦ out
  ],
)

pub is_unpainted : (k : Kept) (s : State) → Shows k s → (a : ℕ) → IsOpen (IsLive k.colours) k.capacity a → IsUnpainted s a
is_unpainted k s shows a o colour place there =
    let p = (shows.painted (record { address = a; colour = colour; place = place })).0 there in
    let c = p.0 in
    let at : a ≡ c.base + place = p.4 in
    let below : place < c.size = p.3 in
    closed (IsLive k.colours) k.capacity a (segment colour c.base c.size) o (is_live k colour c p.1 p.2) (omega arith, omega arith)

pub run_from_gap : (k : Kept) (s : State) → Shows k s → (a n : ℕ) → IsGap k.capacity s a n → IsRun (IsLive k.colours) k.capacity a (a + n)
run_from_gap k s shows a n gap x from to =
    let e : a + (x - a) ≡ x = omega arith in
    let p = gap (x - a) (omega arith) in
    is_open k s shows x (subst (λ (y : ℕ). y < k.capacity) e p.0) (subst (IsUnpainted s) e p.1)

pub gap_from_run : (k : Kept) (s : State) → Shows k s → (a n : ℕ) → IsRun (IsLive k.colours) k.capacity a (a + n) → IsGap k.capacity s a n
gap_from_run k s shows a n run i below =
    let o = run (a + i) (omega arith) (omega arith) in (o.0, is_unpainted k s shows (a + i) o)
