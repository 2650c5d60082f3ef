-- What is left of parts, a step further, and of all of them.
use Rattle.std.proofs.Common.{◌≡◌, ◌∙◌, ◌+◌, ◌-◌, ◌*◌, ◌<◌, ◌≤◌, ℕ, zero, suc, List, [], ◌∷◌, ◌++◌, length, length-append, drop, Option, Some, None, add-one, append_assoc, refl, sym, ap, subst, arith}
use Rattle.std.specs.Prelude.{MatchOption, slice_get, slice_index}
use Rattle.std.proofs.lemmas.List.{append-nil, drop_all}
use Rattle.c_types.specs.Layout.{IsLaidOut, Layout, Table, end_from, laid_out, layout_at, members_in, members_of, offset, offsets_from, offsets_in, round_up, align, size}
use Rattle.c_types.specs.Types.{Ty, void, integer, struct, pointer, array, function, scalar_of, type_of}
use Rattle.c_types.specs.declared.types.Scalar.{Scalar}
use Rattle.c_meaning.specs.Shapes as shapes
use Rattle.c_meaning.specs.Shapes.{Shape, elements, record', no_members, member, members_with, shape, shape_in, shape_with}
use Rattle.c_code.specs.Leaves as words
use Rattle.c_code.specs.Leaves.{each_from, leaves, leaves_at, leaves_of}
use Rattle.c_emit.specs.declared.leaves.Leaf.{Leaf}
use Rattle.c_emit.specs.declared.leaves.Part.{Part}
use Rattle.c_emit.specs.declared.leaves.Parts.{Parts}
use Rattle.c_emit.specs.declared.leaves.Parts.TheVariants.{Members}
use Rattle.c_emit.specs.refinement.Leaves.{AreLeaves, IsLeaf}
use Rattle.c_emit.specs.refinement.LeafWalk.{Goes, IsFound, Walks, elements_left, members_left, own, part_left, parts_left, stack_left}
use Rattle.c_emit.proofs.Shapes.{own_same, size_is, struct_is}

-- ---- members

length-offsets : (table : Table) (end : ℕ) (ts : List Ty) → length ts ≡ length (offsets_from table end ts)
length-offsets table end [] = refl
length-offsets table end (t ∷ ts) = ap suc (length-offsets table (round_up (align table t) end + size table t) ts)

same_lengths : (table : Table) → IsLaidOut table → (n : ℕ) → length (members_in (layout_at table n)) ≡ length (offsets_in (layout_at table n))
same_lengths table laid n = by (layout_at table n) refl where
  by : (o : Option Layout) → layout_at table n ≡ o → length (members_in o) ≡ length (offsets_in o)
  by None is = refl
  by (Some l) is = length-offsets table 0 l.members ∙ sym (ap (λ (x : Layout). length x.offsets) (laid.is n l is))

members_next : (of : ℕ → Shape) (ts : List Ty) (os : List ℕ) (m : ℕ) (t : Ty) → length ts ≡ length os → slice_get ts m ≡ Some t
    → members_with of (drop m ts) (drop m os) ≡ member (slice_index os m) (shape_with of t) (members_with of (drop (suc m) ts) (drop (suc m) os))
members_next of [] os m t e at = absurd (cc)
members_next of (u ∷ ts) [] m t e at = absurd (omega (arith, e))
members_next of (u ∷ ts) (o ∷ os) zero t e at =
    let same : u ≡ t = cc in ap (λ x. member o (shape_with of x) (members_with of ts os)) same
members_next of (u ∷ ts) (o ∷ os) (suc m) t e at = members_next of ts os m t (omega (arith, e)) at

member_first : (table : Table) → IsLaidOut table → (n place m : ℕ) (t : Ty) → slice_get (members_of table (struct n)) m ≡ Some t
    → members_left table n place m
    ≡ leaves_at (shape table t) (place + offset table (struct n) m) (size table t) 0 (place + offset table (struct n) m) ++ members_left table n place (m + 1)
member_first table laid n place m t at =
    let ts = members_in (layout_at table n) in
    let os = offsets_in (layout_at table n) in
    let here = place + offset table (struct n) m in
    let next : suc m ≡ m + 1 = omega arith in
    ap (λ ms. leaves_of ms place) (members_next (own table) ts os m t (same_lengths table laid n) at)
    ∙ ap (λ s. leaves_at s here (shapes.size s) 0 here ++ leaves_of (members_with (own table) (drop (suc m) ts) (drop (suc m) os)) place) (own_same table t)
    ∙ ap (λ k. leaves_at (shape table t) here k 0 here ++ leaves_of (members_with (own table) (drop (suc m) ts) (drop (suc m) os)) place) (size_is table laid t)
    ∙ ap (λ k. leaves_at (shape table t) here (size table t) 0 here ++ members_left table n place k) next

-- by the numbers that the code has
pub member_next : (table : Table) → IsLaidOut table → (n place m : ℕ) (t : Ty) (from k m' : ℕ) → slice_get (members_of table (struct n)) m ≡ Some t
    → from ≡ place + offset table (struct n) m → k ≡ size table t → m' ≡ m + 1
    → members_left table n place m ≡ leaves_at (shape table t) from k 0 from ++ members_left table n place m'
member_next table laid n place m t from k m' at e1 e2 e3 =
    member_first table laid n place m t at
    ∙ ap (λ i. leaves_at (shape table t) i (size table t) 0 i ++ members_left table n place (m + 1)) (sym e1)
    ∙ ap (λ i. leaves_at (shape table t) from i 0 from ++ members_left table n place (m + 1)) (sym e2)
    ∙ ap (λ i. leaves_at (shape table t) from k 0 from ++ members_left table n place i) (sym e3)

-- ---- what is in a part

record_left : (table : Table) (o : Option Layout) (from k i place : ℕ)
    → leaves_at (shape_in (own table) o) from k i place ≡ leaves_of (members_with (own table) (members_in o) (offsets_in o)) place
record_left table None from k i place = refl
record_left table (Some l) from k i place = refl

pub struct_left : (table : Table) → IsLaidOut table → (n from k i place : ℕ) → leaves_at (shape table (struct n)) from k i place ≡ members_left table n place 0
struct_left table laid n from k i place =
    ap (λ s. leaves_at s from k i place) (struct_is table laid n) ∙ record_left table (layout_at table n) from k i place

pub array_left : (table : Table) → IsLaidOut table → (t : Ty) (k from n i place : ℕ) → leaves_at (shape table (array t k)) from n i place ≡ elements_left table t k place 0
array_left table laid t k from n i place =
    let all : k ≡ k - 0 = omega arith in
    ap (λ z. each_from k 0 (λ j. leaves_at (shape table t) place (k * z) j (place + j * z))) (size_is table laid t)
    ∙ ap (λ c. each_from c 0 (λ j. leaves_at (shape table t) place (k * size table t) j (place + j * size table t))) all

pub scalar_left : (table : Table) (t : Ty) (s : Scalar) (from n i place : ℕ) → scalar_of t ≡ Some s
    → leaves_at (shape table t) from n i place ≡ (record { from = from; length = n; index = i; ty = t }) ∷ []
scalar_left table void s from n i place e = refl
scalar_left table (integer t) s from n i place e = refl
scalar_left table (struct m) s from n i place e = absurd (cc)
scalar_left table (pointer t) s from n i place e = refl
scalar_left table (array t m) s from n i place e = absurd (cc)
scalar_left table (function r ps) s from n i place e = refl

-- ---- all parts: the last one comes first

stack_more : (table : Table) (ps : List Parts) (p : Parts) → stack_left table (ps ++ p ∷ []) ≡ parts_left table p ++ stack_left table ps
stack_more table [] p = sym (append-nil (parts_left table p))
stack_more table (q ∷ ps) p =
    ap (λ l. l ++ parts_left table q) (stack_more table ps p) ∙ append_assoc (parts_left table p) (stack_left table ps) (parts_left table q)

pub stack_end : (table : Table) (ps : List Parts) → length ps ≡ 0 → stack_left table ps ≡ []
stack_end table [] none = refl
stack_end table (p ∷ ps) none = absurd (omega (arith, none))

-- what is said of an answer, by its case
abbrev pub Answers : Table → Parts → Option (Part × Parts) → Type 0
Answers table parts o = MatchOption o (parts_left table parts ≡ []) (λ p. parts_left table parts ≡ part_left table p.0 ++ parts_left table p.1)

pub none_left : (table : Table) (parts : Parts) (o : Option (Part × Parts)) → o ≡ None → Answers table parts o → parts_left table parts ≡ []
none_left table parts o is h = subst (Answers table parts) is h

pub some_left : (table : Table) (parts : Parts) (o : Option (Part × Parts)) (q : Part) (rest : Parts) → o ≡ Some (q, rest) → Answers table parts o
    → parts_left table parts ≡ part_left table q ++ parts_left table rest
some_left table parts o q rest is h = subst (Answers table parts) is h

-- the last of the parts are empty
pub stack_past : (table : Table) (old new : List Parts) (p : Parts) → old ≡ new ++ p ∷ [] → parts_left table p ≡ [] → stack_left table old ≡ stack_left table new
stack_past table old new p is none = ap (stack_left table) is ∙ stack_more table new p ∙ ap (λ l. l ++ stack_left table new) none

-- they have a part, and others are left
pub stack_next : (table : Table) (old new pushed : List Parts) (p rest : Parts) (q : Part)
    → old ≡ new ++ p ∷ [] → parts_left table p ≡ part_left table q ++ parts_left table rest → pushed ≡ new ++ rest ∷ []
    → stack_left table old ≡ part_left table q ++ stack_left table pushed
stack_next table old new pushed p rest q is split e =
    ap (stack_left table) is ∙ stack_more table new p ∙ ap (λ l. l ++ stack_left table new) split
    ∙ append_assoc (part_left table q) (parts_left table rest) (stack_left table new)
    ∙ ap (λ l. part_left table q ++ l) (sym (ap (stack_left table) e ∙ stack_more table new rest))

-- there are parts in a part
pub stack_inside : (table : Table) (ps pushed : List Parts) (q : Part) (inside : Parts) → part_left table q ≡ parts_left table inside → pushed ≡ ps ++ inside ∷ []
    → part_left table q ++ stack_left table ps ≡ stack_left table pushed
stack_inside table ps pushed q inside is e = ap (λ l. l ++ stack_left table ps) is ∙ sym (ap (stack_left table) e ∙ stack_more table ps inside)

-- ---- what is found

found_one : (table : Table) (ks : List Leaf) (k : Leaf) (l : words.Leaf) (left all : List words.Leaf) → IsLeaf table l k → IsFound table ks (l ∷ left) all → IsFound table (ks ++ k ∷ []) left all
found_one table [] k l left [] is h = absurd (cc)
found_one table [] k l left (x ∷ all) is h = let here : l ≡ x = cc in let rest : left ≡ all = cc in (subst (λ y. IsLeaf table y k) here is, rest)
found_one table (j ∷ ks) k l left [] is h = absurd h
found_one table (j ∷ ks) k l left (x ∷ all) is h = (h.0, found_one table ks k l left all is h.1)

found_length : (table : Table) (ks : List Leaf) (left all : List words.Leaf) → IsFound table ks left all → length ks + length left ≡ length all
found_length table [] left all h = let e : length left ≡ length all = ap length h in omega (arith, e)
found_length table (k ∷ ks) left [] h = absurd h
found_length table (k ∷ ks) left (x ∷ all) h = let rest = found_length table ks left all h.1 in omega (arith, rest)

found_all : (table : Table) (ks : List Leaf) (all : List words.Leaf) → IsFound table ks [] all → AreLeaves table all ks
found_all table [] [] h = tt
found_all table [] (x ∷ all) h = absurd (cc)
found_all table (k ∷ ks) [] h = absurd h
found_all table (k ∷ ks) (x ∷ all) h = (h.0, found_all table ks all h.1)

-- ---- turns

pub walks_as : (table : Table) (most : ℕ) (ks : List Leaf) (left left' all : List words.Leaf) → left ≡ left' → Walks table most ks left all → Walks table most ks left' all
walks_as table most ks left left' all is h = subst (λ l. Walks table most ks l all) is h

pub walks_on : (table : Table) (most : ℕ) (ks ks' : List Leaf) (k : Leaf) (l : words.Leaf) (left all : List words.Leaf)
    → ks' ≡ ks ++ k ∷ [] → IsLeaf table l k → length ks < most → Walks table most ks (l ∷ left) all → Walks table most ks' left all
walks_on table most ks ks' k l left all e is less h =
    let few : length (ks ++ k ∷ []) ≤ most = let n = length-append ks (k ∷ []) in omega (arith, n, less) in
    subst (λ x. Walks table most x left all) (sym e) (record { found = found_one table ks k l left all is h.found; few = few })

pub walks_end : (table : Table) (most : ℕ) (ks : List Leaf) (left all : List words.Leaf) → left ≡ [] → Walks table most ks left all → AreLeaves table all ks × (length all ≤ most)
walks_end table most ks left all is h =
    let g = walks_as table most ks left [] all is h in
    let n = found_length table ks [] all g.found in
    let few = g.few in (found_all table ks all g.found, omega (arith, n, few))

pub walks_past : (table : Table) (most : ℕ) (ks : List Leaf) (l : words.Leaf) (left all : List words.Leaf) → most ≤ length ks → Walks table most ks (l ∷ left) all → most < length all
walks_past table most ks l left all full h = let n = found_length table ks (l ∷ left) all h.found in omega (arith, n, full)

pub walks_start : (table : Table) → IsLaidOut table → (most n : ℕ) (ks : List Leaf) (waiting none : List Parts) → ks ≡ [] → none ≡ [] → waiting ≡ none ++ Members n 0 0 ∷ []
    → Walks table most ks (stack_left table waiting) (leaves table n)
walks_start table laid most n ks waiting none e1 e2 e3 =
    let left : stack_left table waiting ≡ leaves table n =
    ap (stack_left table) (e3 ∙ ap (λ l. l ++ Members n 0 0 ∷ []) e2) ∙ sym (struct_left table laid n 0 (shapes.size (shape table (struct n))) 0 0) in
    subst (λ l. Walks table most l (stack_left table waiting) (leaves table n)) (sym e1) (record { found = left; few = omega arith })
