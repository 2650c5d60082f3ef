-- What a map of colours is after a change.
use Rattle.std.proofs.Common.{◌≡◌, ◌≢◌, ℕ, ◌+◌, ◌≤◌, Bool, true, false, cond, ◌&&◌, nat_lt, List, Option, Some, None, refl, arith, ap, sym, unwrap_or, option_map, sum_by}
use Rattle.std.specs.BTreeMap.{BTreeMap, IsOrdered, Updates, insert_entry, is_at}
use Rattle.std.specs.Map.{values_of}
use Rattle.std.specs.Ordering.{nat_cmp}
use Rattle.std.proofs.lemmas.Cmp.{nat_cmp_total}
use Rattle.std.proofs.lemmas.List.Sums.{sum_by-le-sum_by}
use Rattle.std.proofs.lemmas.Map.Entries.{sum_by-insert_entry, sum_by-set_value}
use Rattle.std.proofs.lemmas.Map.Lookups.{exact_unsigned}
use Rattle.std.proofs.lemmas.Map.Views.{tells_apart}
use Rattle.ms_monitor.specs.refinement.Colours.{Adds, Ends, IsPutOut, colour_of, ended, filled_in, live_in, one_filled, one_live}
use Rattle.ms_monitor.specs.declared.colours.Colour.{Colour}
use Rattle.ms_live.proofs.Keeping.{one_at_most}

by_test : (b : Bool) → (b ≡ true → ⊥) → b ≡ false
by_test true h = absurd (h refl)
by_test false h = refl

apart : (id other : ℕ) → other ≢ id → is_at (nat_cmp id) other ≡ false
apart id other ne = by_test (is_at (nat_cmp id) other) (λ t. ne (sym (tells_apart exact_unsigned id other t)))

none_weighs : (f : Colour → ℕ) (o : Option Colour) → o ≡ None → unwrap_or (option_map f o) 0 ≡ 0
none_weighs f o e = ap (λ (p : Option Colour). unwrap_or (option_map f p) 0) e

pub added : (m n : BTreeMap ℕ Colour) (id : ℕ) (c : Colour) → IsOrdered nat_cmp m → n.entries ≡ insert_entry nat_cmp m.entries id c → Updates nat_cmp m n id (Some c) → colour_of m.entries id ≡ None → Adds m.entries n.entries id c
added m n id c sorted entries u absent =
    let more = λ (f : Colour → ℕ).
    let e : sum_by f (values_of n.entries) ≡ sum_by f (values_of (insert_entry nat_cmp m.entries id c)) = ap (λ (es : List (ℕ × Colour)). sum_by f (values_of es)) entries in
    let s = sum_by-insert_entry f nat_cmp_total m.entries id c sorted in
    let z : unwrap_or (option_map f (colour_of m.entries id)) 0 ≡ 0 = none_weighs f (colour_of m.entries id) absent in
    let r : sum_by f (values_of n.entries) ≡ sum_by f (values_of m.entries) + f c = omega arith in
    r in
    record {
      changes = record { here = u.1; others = λ q ne. u.2 q (apart id q ne) };
      live = more one_live;
      filled = more one_filled;
    }

pub put_out_ends : (m n : BTreeMap ℕ Colour) (id : ℕ) (c : Colour) → colour_of m.entries id ≡ Some c → IsPutOut m n id → Ends m.entries n.entries id c
put_out_ends m n id c found out =
    let o = out c found in
    let less = λ (f : Colour → ℕ) (none : f (ended c) ≡ 0).
    let e = ap (λ (es : List (ℕ × Colour)). sum_by f (values_of es)) o.1 in
    let s = sum_by-set_value f (is_at (nat_cmp id)) m.entries c (ended c) found in
    let r : sum_by f (values_of n.entries) + f c ≡ sum_by f (values_of m.entries) = omega arith in
    r in
    record { changes = o.0; live = less one_live refl; filled = less one_filled refl }

pub live_one : (c : Colour) → c.is_live ≡ true → one_live c ≡ 1
live_one c e = ap (λ (b : Bool). cond {A = ℕ} b 1 0) e

-- no more colours have bytes than are live
pub filled_few : (colours : List (ℕ × Colour)) → filled_in colours ≤ live_in colours
filled_few colours =
    sum_by-le-sum_by one_filled one_live (values_of colours) (λ c. elim c.is_live as (λ b. cond {A = ℕ} (b && nat_lt 0 c.size) 1 0 ≤ cond b 1 0) [ true ↦ one_at_most (nat_lt 0 c.size) | false ↦ omega arith ])
