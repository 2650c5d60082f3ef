-- What a set of shades is after a change.
use Rattle.std.proofs.Common.{◌≡◌, ◌↔◌, ◌⊎◌, zero, suc, Bool, true, false, cond, List, [], ◌∷◌, map, IsTrue, refl, arith, ap, sym, ◌∙◌, subst, inl, inr}
use Rattle.std.specs.BTreeMap.{is_at}
use Rattle.std.specs.BTreeSet.{BTreeSet, Updates, contains}
use Rattle.std.specs.List.{Contains}
use Rattle.std.specs.Ordering.{bool_cmp, nat_cmp, ordering_then}
use Rattle.std.specs.declared.cmp.Ordering.{Ordering}
use Rattle.std.specs.declared.cmp.Ordering.TheVariants.{Equal, Greater, Less}
use Rattle.std.proofs.lemmas.List.Elements.{Contains-append_right}
use Rattle.std.proofs.lemmas.Map.Lookups.{CmpEqualImpliesEq, exact_unsigned}
use Rattle.std.proofs.lemmas.Map.Views.{btree_set_contains_iff, tells_apart}
use Rattle.ms_event.specs.Monitor.{Shade}
use Rattle.ms_monitor.specs.refinement.Shades.{Learns, shade_of}
use Rattle.ms_monitor.specs.contracts.shades.PartOrd.TheImpl.{cmp-value}
use Rattle.ms_monitor.specs.contracts.shades.PartOrd.TheImpl.Laws.{total-law}
use Rattle.ms_monitor.specs.declared.shades.Part.{Part}

both_equal : (a b : Ordering) → ordering_then a b ≡ Equal → (a ≡ Equal) × (b ≡ Equal)
both_equal Less b e = absurd (cc)
both_equal Equal b e = (refl, e)
both_equal Greater b e = absurd (cc)

-- the order of parts
abbrev order : Part → Part → Ordering
order = (cmp-value).it

exact_bool : (a b : Bool) → bool_cmp a b ≡ Equal → a ≡ b
exact_bool false false e = refl
exact_bool false true e = absurd (cc)
exact_bool true false e = absurd (cc)
exact_bool true true e = refl

-- parts that compare equal are the same
exact : CmpEqualImpliesEq order
exact x y e =
    let p = both_equal (nat_cmp x.colour y.colour) (ordering_then (nat_cmp x.lo y.lo) (ordering_then (nat_cmp x.hi y.hi) (bool_cmp x.sealed y.sealed))) e in
    let q = both_equal (nat_cmp x.lo y.lo) (ordering_then (nat_cmp x.hi y.hi) (bool_cmp x.sealed y.sealed)) p.1 in
    let r = both_equal (nat_cmp x.hi y.hi) (bool_cmp x.sealed y.sealed) q.1 in
    λ i. record { colour = exact_unsigned x.colour y.colour p.0 i; lo = exact_unsigned x.lo y.lo q.0 i; hi = exact_unsigned x.hi y.hi r.0 i; sealed = exact_bool x.sealed y.sealed r.1 i }

-- a shade is of one part
abbrev part_of : Shade → Part
part_of s = record { colour = s.colour; lo = s.lo; hi = s.hi; sealed = s.sealed }

to_map : (xs : List Part) (p : Part) → Contains xs p → Contains (map shade_of xs) (shade_of p)
to_map [] p c = let l = c.1 in absurd (omega arith)
to_map (x ∷ xs) p (zero, l, e) = (0, omega arith, ap shade_of e)
to_map (x ∷ xs) p (suc k, l, e) = Contains-append_right (shade_of x ∷ []) (map shade_of xs) (shade_of p) (to_map xs p (k, omega arith, e))

from_map : (xs : List Part) (s : Shade) → Contains (map shade_of xs) s → Contains xs (part_of s)
from_map [] s c = let l = c.1 in absurd (omega arith)
from_map (x ∷ xs) s (zero, l, e) = (0, omega arith, ap part_of e)
from_map (x ∷ xs) s (suc k, l, e) = Contains-append_right (x ∷ []) xs (part_of s) (from_map xs s (k, omega arith, e))

pub known : (s : BTreeSet Part) (p : Part) (b : Bool) → b ≡ contains order s p → IsTrue b ↔ Contains (map shade_of s.keys) (shade_of p)
known s p b e =
    let i = btree_set_contains_iff total-law exact s p in (
      λ t. to_map s.keys p (i.0 (sym e ∙ t)),
      λ c. e ∙ i.1 (from_map s.keys (shade_of p) c),
    )

by_cond : (a b c : Bool) → a ≡ cond b true c → a ≡ true → (b ≡ true) ⊎ (c ≡ true)
by_cond a true c e t = inl refl
by_cond a false c e t = inr (sym e ∙ t)

cond_here : (a b c : Bool) → a ≡ cond b true c → b ≡ true → a ≡ true
cond_here a true c e h = e
cond_here a false c e h = absurd (cc)

cond_there : (a b c : Bool) → a ≡ cond b true c → c ≡ true → a ≡ true
cond_there a true c e h = e
cond_there a false c e h = e ∙ h

pub learnt : (m n : BTreeSet Part) (p : Part) → Updates order m n p true → Learns (map shade_of m.keys) (map shade_of n.keys) (shade_of p)
learnt m n p u x =
    let q = part_of x in
    let now = btree_set_contains_iff total-law exact n q in
    let was = btree_set_contains_iff total-law exact m q in
    let e : contains order n q ≡ cond (is_at (order p) q) true (contains order m q) = u.0 q in (
      λ c. elim (by_cond (contains order n q) (is_at (order p) q) (contains order m q) e (now.1 (from_map n.keys x c))) [
        | inl same ↦ inr (ap shade_of (sym (tells_apart exact p q same)))
        | inr there ↦ inl (to_map m.keys q (was.0 there))
      ],
      λ o. elim o [
        | inl c ↦ to_map n.keys q (now.0 (cond_there (contains order n q) (is_at (order p) q) (contains order m q) e (was.1 (from_map m.keys x c))))
        | inr same ↦
            let there = (btree_set_contains_iff total-law exact n p).0 (u.1) in
            subst (Contains (map shade_of n.keys)) (sym same) (to_map n.keys p there)
      ],
    )
