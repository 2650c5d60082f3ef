-- An access, and a shade that joins: when they may come, and what is shown after them.
use Rattle.std.proofs.Common.{◌≡◌, Bool, false, Result, Ok, Err, ℕ, ◌+◌, ◌-◌, ◌<◌, ◌≤◌, List, [], ◌∷◌, ◌++◌, arith, ap, sym, subst, inl, inr}
use Rattle.std.specs.List.{Contains}
use Rattle.std.proofs.lemmas.List.Elements.{Contains-append_left, Contains-push, Contains-push_cases}
use Rattle.ms_event.specs.Monitor.{IsInside, MayAccess, Shade, State}
use Rattle.ms_event.specs.declared.event.Event.TheVariants.{Read, Write}
use Rattle.ms_monitor.specs.refinement.Colours.{colour_of}
use Rattle.ms_monitor.specs.refinement.Judging.{Judges}
use Rattle.ms_monitor.specs.refinement.Kept.{Kept}
use Rattle.ms_monitor.specs.refinement.Shades.{Learns}
use Rattle.ms_monitor.specs.refinement.Showing.{IsCovered, IsKnown, Shows}
use Rattle.ms_monitor.specs.declared.colours.Colour.{Colour}
use Rattle.ms_monitor.specs.declared.monitor.Verdict.{Verdict}
use Rattle.ms_monitor.specs.declared.monitor.Verdict.TheVariants.{Memory, Reject}
use Rattle.ms_monitor.proofs.Allocated.{one_colour}

pub covered_from_inside : (k : Kept) (s : State) (x : Shade) (a w : ℕ) → Shows k s → IsInside s x a w → IsCovered k.colours x a w
covered_from_inside k s x a w shows inside some =
    let p = inside 0 some in
    let q = inside (w - 1) (omega arith) in
    let first = (shows.painted (record { address = a + 0; colour = x.colour; place = p.0 })).0 p.3 in
    let last = (shows.painted (record { address = a + (w - 1); colour = x.colour; place = q.0 })).0 q.3 in
    let e = one_colour (colour_of k.colours x.colour) first.0 last.0 first.1 last.1 in
    let eb : first.0.base ≡ last.0.base = ap (λ (c : Colour). c.base) e in
    let es : first.0.size ≡ last.0.size = ap (λ (c : Colour). c.size) e in
    let p1 : x.lo ≤ p.0 = p.1 in
    let f4 : a + 0 ≡ first.0.base + p.0 = first.4 in
    let q2 : q.0 < x.hi = q.2 in
    let l3 : q.0 < last.0.size = last.3 in
    let l4 : a + (w - 1) ≡ last.0.base + q.0 = last.4 in
    (first.0, first.1, first.2, (omega arith, omega arith, omega arith))

pub inside_from_covered : (k : Kept) (s : State) (x : Shade) (a w : ℕ) → Shows k s → IsCovered k.colours x a w → IsInside s x a w
inside_from_covered k s x a w shows covered i below =
    let c = covered (omega arith) in
    let c3 : c.0.base + x.lo ≤ a = c.3.0 in
    let c4 : a + w ≤ c.0.base + x.hi = c.3.1 in
    let c5 : a + w ≤ c.0.base + c.0.size = c.3.2 in (
      a + i - c.0.base,
      omega arith,
      omega arith,
      (shows.painted (record { address = a + i; colour = x.colour; place = a + i - c.0.base })).1 (c.0, c.1, c.2, omega arith, omega arith),
    )

pub access_may : (k : Kept) (s : State) (x : Shade) (a w : ℕ) → Shows k s → IsKnown k x → IsCovered k.colours x a w → MayAccess s x a w
access_may k s x a w shows known covered = ((shows.shades x).1 known, inside_from_covered k s x a w shows covered)

-- a write through a writable shade is judged as the read is
pub as_write : (k : Kept) (sealed : Bool) (colour lo hi a w : ℕ) (r : Result Unit Verdict) → sealed ≡ false → Judges k k (Read sealed colour lo hi a w) r → Judges k k (Write colour lo hi a w) r
as_write k sealed colour lo hi a w r open' read = by r (subst (λ (b : Bool). Judges k k (Read b colour lo hi a w) r) open' read) where
  by : (r : Result Unit Verdict) → Judges k k (Read false colour lo hi a w) r → Judges k k (Write colour lo hi a w) r
  by (Ok x) read = read
  by (Err Reject) read = read
  by (Err Memory) read = read

-- a shade joins
pub joined_shows : (k : Kept) (s : State) (part : Shade) (new : List Shade) → Shows k s → Learns k.shades new part
    → Shows (record { capacity = k.capacity; colours = k.colours; shades = new; rooms = k.rooms }) (record s { shades = s.shades ++ part ∷ [] })
joined_shows k s part new shows learns =
    record {
      painted = shows.painted;
      live = shows.live;
      used = shows.used;
      shades = λ x. (
        λ there. elim (Contains-push_cases s.shades part x there) [
          | inl was ↦ elim ((shows.shades x).0 was) [ inl whole ↦ inl whole | inr sliced ↦ inr ((learns x).1 (inl sliced)) ]
          | inr same ↦ inr ((learns x).1 (inr (sym same)))
        ],
        λ known. elim known [
          | inl whole ↦ Contains-append_left s.shades (part ∷ []) x ((shows.shades x).1 (inl whole))
          | inr sliced ↦ elim ((learns x).0 sliced) [
            | inl was ↦ Contains-append_left s.shades (part ∷ []) x ((shows.shades x).1 (inr was))
            | inr same ↦ subst (Contains (s.shades ++ part ∷ [])) (sym same) (Contains-push s.shades part)
          ]
        ],
      );
      count = shows.count;
      once = shows.once;
    }
