-- What steps and the meaning have in common, however many steps and however much fuel there are: the sizes that are asked for, the
-- output, the end, a prefix, and a bound. It speaks of no code, and of any steps of which more go on as fewer do.
use Rattle.std.proofs.Common.{◌≡◌, ◌≢◌, ℕ, suc, ◌+◌, ◌≤◌, ⊎_elim, inl, inr, List, [], ◌∷◌, ◌++◌, length, length-append, Bool, refl, sym, ap, ◌∙◌, arith, append-nil}
use Rattle.std.proofs.lemmas.Bool.{cases_lt}
use Rattle.ms_event.specs.declared.event.Event.{Event}
use Rattle.ms_event.specs.declared.event.Event.TheVariants as events
use Rattle.ms_event.specs.Monitor.{grants, sizes_of}
use Rattle.c_meaning.specs.World as world
use Rattle.c_meaning.specs.World.{End, World}
use Rattle.c_runs.specs.Threads.{Ended, Trapped, Paused, Stuck, Stop, Ran, ran, behind}
use Rattle.c_runs.specs.Correct.{IsPrefix}
use Rattle.c_runs.specs.Crews.{Extends}
use Rattle.c_runs.proofs.Goes.{sizes_append}
use Rattle.c_runs.proofs.Grants.{Fit, grants_append}

-- ---- what is known of the meaning, against what so many steps of the machine do

pub record Known (R : ℕ → Ran) (g : List Bool) (st : Stop) (e : End) (w : World) : Type 0 where
  pub puts : List ℕ
  pub events : List Event
  pub cost : ℕ
  pub so : R cost ≡ behind puts events (ran st)
  pub output : w.output ≡ puts
  pub sizes : w.sizes ≡ sizes_of events
  pub taken : g ≡ grants events ++ w.grants

-- the machine stops so, within so many steps: it is over, or fuel or grants have been used up
pub data How (R : ℕ → Ran) (most fuel : ℕ) (st : Stop) (e : End) (w : World) (cost : ℕ) (events : List Event) : Type 0 where
  over : st ≢ Paused → cost ≤ most → How R most fuel st e w cost events
  spent : e ≡ world.out_of_fuel → st ≡ Paused → fuel ≤ cost → How R most fuel st e w cost events
  asking : e ≡ world.ungranted → st ≡ Paused → w.grants ≡ [] → length (grants (R (suc cost)).events) ≡ suc (length (grants events)) → suc cost ≤ most → How R most fuel st e w cost events

-- ---- lists

-- as many sizes as grants
as_many : (es : List Event) → length (sizes_of es) ≡ length (grants es)
as_many [] = refl
as_many (events.Alloc id addr size ∷ es) = ap suc (as_many es)
as_many (events.Refused size ∷ es) = ap suc (as_many es)
as_many (events.Slice a b c d e f ∷ es) = as_many es
as_many (events.Read a b c d e f ∷ es) = as_many es
as_many (events.Write a b c d e ∷ es) = as_many es
as_many (events.Free a ∷ es) = as_many es
as_many (events.Seal a b c ∷ es) = as_many es

none_of : {A : Type 0} (xs : List A) → length xs ≡ 0 → xs ≡ []
none_of [] e = refl
none_of (x ∷ xs) e = absurd (omega (arith, e))

-- ---- the laws, of the steps and of what is known

module _ (R : ℕ → Ran) (longer : (n m : ℕ) → n ≤ m → Extends (R n) (R m)) where
  abbrev G : ℕ → List Bool
  G b = grants (R b).events

  pub agrees : (b n : ℕ) → Fit (grants (R n).events) (G b)
  agrees b n = ⊎_elim
      (λ lt. let x = longer n b (omega (arith, lt)) in inl (grants x.events, ap grants x.events_are ∙ grants_append (R n).events x.events))
      (λ le. let x = longer b n (omega (arith, le)) in inr (grants x.events, ap grants x.events_are ∙ grants_append (R b).events x.events))
      (cases_lt n b)

  module _ (b most fuel : ℕ) (st : Stop) (e : End) (w : World) (k : Known R (G b) st e w) (how : How R most fuel st e w k.cost k.events) where
    n : ℕ
    n = k.cost

    stop_is : (R k.cost).stop ≡ st
    stop_is = ap (λ (r : Ran). r.stop) k.so

    puts_is : (R k.cost).puts ≡ k.puts
    puts_is = ap (λ (r : Ran). r.puts) k.so ∙ append-nil k.puts

    events_is : (R k.cost).events ≡ k.events
    events_is = ap (λ (r : Ran). r.events) k.so ∙ append-nil k.events

    -- a run that asked for one more than there is isn't this one
    not_longer : length (grants (R (suc k.cost)).events) ≡ suc (length (grants k.events)) → w.grants ≡ [] → suc k.cost ≤ b → ⊥
    not_longer more none le =
        let x = longer (suc k.cost) b le in
        let long = ap length (ap grants x.events_are ∙ grants_append (R (suc k.cost)).events x.events) ∙ length-append (grants (R (suc k.cost)).events) (grants x.events) in
        let all = ap length k.taken ∙ length-append (grants k.events) w.grants ∙ ap (λ (l : List Bool). length (grants k.events) + length l) none in
        omega (arith, long, all, more)

    -- the meaning is at least as long as the run, or the run is over where it is
    pub data Beside : Type 0 where
      equal : R b ≡ R k.cost → st ≢ Paused → Beside
      ahead : Extends (R b) (R k.cost) → (R b).stop ≡ Paused → Beside

    not_paused : st ≢ Paused → (R k.cost).stop ≢ Paused
    not_paused d q = d (sym stop_is ∙ q)

    module _ (is_fuel : fuel ≡ b) where
      ahead_of : b ≤ k.cost → Beside
      ahead_of le = go (R b).stop refl where
        x : Extends (R b) (R k.cost)
        x = longer b k.cost le

        over_is : (q : Stop) → (R b).stop ≡ q → q ≢ Paused → Beside
        over_is q eq d = equal (sym (x.over (λ p. d (sym eq ∙ p)))) (λ p. d (sym eq ∙ ap (λ (r : Ran). r.stop) (sym (x.over (λ p. d (sym eq ∙ p)))) ∙ stop_is ∙ p))

        go : (q : Stop) → (R b).stop ≡ q → Beside
        go (Ended v) eq = over_is (Ended v) eq (λ p. absurd cc)
        go (Trapped t) eq = over_is (Trapped t) eq (λ p. absurd cc)
        go Paused eq = ahead x eq
        go Stuck eq = over_is Stuck eq (λ p. absurd cc)

      pub beside : Beside
      beside = by how where
        by : How R most fuel st e w k.cost k.events → Beside
        by (over d room) = ⊎_elim (λ lt. equal ((longer k.cost b (omega (arith, lt))).over (not_paused d)) d) (λ le. ahead_of le) (cases_lt k.cost b)
        by (spent e1 e2 le) = ahead_of (omega (arith, le, is_fuel))
        by (asking e1 e2 none more room) = ⊎_elim (λ lt. absurd (not_longer more none (omega (arith, lt)))) (λ le. ahead_of le) (cases_lt k.cost b)

      -- ---- the sizes, the output, the end, a prefix

      later_none : (x : Extends (R b) (R k.cost)) → sizes_of x.events ≡ []
      later_none x =
          let split = ap length (ap grants (sym events_is ∙ x.events_are) ∙ grants_append (R b).events x.events) ∙ length-append (grants (R b).events) (grants x.events) in
          let all = ap length k.taken ∙ length-append (grants k.events) w.grants in
          none_of (sizes_of x.events) (as_many x.events ∙ omega (arith, split, all))

      pub sizes_law : sizes_of (R b).events ≡ w.sizes
      sizes_law = by beside where
        by : Beside → sizes_of (R b).events ≡ w.sizes
        by (equal q d) = ap (λ (r : Ran). sizes_of r.events) q ∙ ap sizes_of events_is ∙ sym k.sizes
        by (ahead x p) = sym (append-nil (sizes_of (R b).events)) ∙ ap (λ (l : List ℕ). sizes_of (R b).events ++ l) (sym (later_none x)) ∙ sym (sizes_append (R b).events x.events) ∙ ap sizes_of (sym x.events_are ∙ events_is) ∙ sym k.sizes

      pub output_law : (R b).stop ≢ Paused → (R b).puts ≡ w.output
      output_law d = by beside where
        by : Beside → (R b).puts ≡ w.output
        by (equal q d') = ap (λ (r : Ran). r.puts) q ∙ puts_is ∙ sym k.output
        by (ahead x p) = absurd (d p)

      pub end_law : (R b).stop ≢ Paused → (R b).stop ≡ st
      end_law d = by beside where
        by : Beside → (R b).stop ≡ st
        by (equal q d') = ap (λ (r : Ran). r.stop) q ∙ stop_is
        by (ahead x p) = absurd (d p)

      pub prefix_law : (R b).stop ≡ Paused → IsPrefix (R b).puts w.output
      prefix_law p = by beside where
        by : Beside → IsPrefix (R b).puts w.output
        by (equal q d) = absurd (d (sym stop_is ∙ sym (ap (λ (r : Ran). r.stop) q) ∙ p))
        by (ahead x p') = (x.puts, k.output ∙ sym puts_is ∙ x.puts_are)

    -- where the budget has room for all of them
    pub bound_law : most ≤ b → (R b).stop ≡ Paused → e ≡ world.out_of_fuel
    bound_law le p = by how where
      by : How R most fuel st e w k.cost k.events → e ≡ world.out_of_fuel
      by (over d room) = absurd (d (sym stop_is ∙ sym (ap (λ (r : Ran). r.stop) ((longer k.cost b (omega (arith, room, le))).over (not_paused d))) ∙ p))
      by (spent e1 e2 le') = e1
      by (asking e1 e2 none more room) = absurd (not_longer more none (omega (arith, room, le)))
