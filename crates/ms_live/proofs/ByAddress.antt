-- Segments in the order of their addresses: one more, one fewer, and the place that a walk along them finds.
use Rattle.std.proofs.Common.{subst, ◌≡◌, ◌∙◌, ℕ, suc, ◌+◌, ◌*◌, ◌/◌, ◌<◌, ◌≤◌, ◌⊎◌, Bool, true, false, cond, nat_lt, List, [], ◌∷◌, ◌++◌, length, drop, get_or, Option, Some, None, Result, IsOk, is_ok, if◌then◌else◌, inl, inr, refl, ap, sym, arith}
use Rattle.std.specs.List.{All, Contains, filter, insert}
use Rattle.std.proofs.lemmas.Bool.Decides.{nat_tests}
use Rattle.std.proofs.lemmas.Bool.{cases_lt}
use Rattle.std.proofs.lemmas.List.{at_drop_all, at_drop_more}
use Rattle.std.proofs.lemmas.List.Elements.{All-nil, All-cons, All-head, All-tail, All-contains_itself}
use Rattle.ms_live.proofs.Places.{ends_behind, free-from_apart, none_at_all, none_behind}
use Rattle.ms_live.specs.Overlap.{overlaps}
use Rattle.ms_live.specs.Place.{IsAligned, IsFree, IsOutside, IsPlace}
use Rattle.ms_live.specs.declared.gaps.Live.{Live}
use Rattle.ms_live.specs.refinement.ByAddress.{AreFrom, all_in, by_address, no_later, passed, past, placed_with, put_in}

-- ---- one segment more

insert-head : (s t : Live) (ts : List Live) (b : Bool) → insert ts (no_later s.base ts) s ≡ put_in s ts → insert (t ∷ ts) (cond b 0 (suc (no_later s.base ts))) s ≡ cond b (s ∷ t ∷ ts) (t ∷ put_in s ts)
insert-head s t ts true rest = refl
insert-head s t ts false rest = ap (λ l. t ∷ l) rest

insert_is : (s : Live) (ts : List Live) → insert ts (no_later s.base ts) s ≡ put_in s ts
insert_is s [] = refl
insert_is s (t ∷ ts) = insert-head s t ts (nat_lt s.base t.base) (insert_is s ts)

bound-head : (b : Bool) (n m : ℕ) → n ≤ m → cond b 0 (suc n) ≤ suc m
bound-head true n m le = omega arith
bound-head false n m le = omega arith

pub no_later-bound : (address : ℕ) (ts : List Live) → no_later address ts ≤ length ts
no_later-bound address [] = omega arith
no_later-bound address (t ∷ ts) = bound-head (nat_lt address t.base) (no_later address ts) (length ts) (no_later-bound address ts)

later-head : (b : Bool) (i n start : ℕ) → b ≡ false → i + cond b 0 (suc n) ≡ start → (i + 1) + n ≡ start
later-head true i n start e is = absurd (cc)
later-head false i n start e is = omega (arith, is)

pub later_more : (address : ℕ) (ts : List Live) (i : ℕ) (d : Live) (start : ℕ) → i < length ts → (get_or ts i d).base ≤ address → i + no_later address (drop i ts) ≡ start → (i + 1) + no_later address (drop (i + 1) ts) ≡ start
later_more address ts i d start within le is =
    later-head (nat_lt address (get_or ts i d).base) i (no_later address (drop (i + 1) ts)) start (grind (arith, nat_tests)) (ap (λ n. i + n) (sym (at_drop_more (no_later address) ts i d within)) ∙ is)

none-head : (b : Bool) (n : ℕ) → b ≡ true → cond b 0 (suc n) ≡ 0
none-head true n e = refl
none-head false n e = absurd (cc)

pub later_none : (address : ℕ) (ts : List Live) (i : ℕ) (d : Live) → i < length ts → address < (get_or ts i d).base → no_later address (drop i ts) ≡ 0
later_none address ts i d within lt =
    at_drop_more (no_later address) ts i d within ∙ none-head (nat_lt address (get_or ts i d).base) (no_later address (drop (i + 1) ts)) (grind (arith, nat_tests))

pub later_all : (address : ℕ) (ts : List Live) (i : ℕ) → length ts ≤ i → no_later address (drop i ts) ≡ 0
later_all address ts i over = at_drop_all (no_later address) ts i over

pub placed_empty : (s : Live) (ts : List Live) → s.size ≡ 0 → ts ≡ placed_with s ts
placed_empty s ts e = sym (ap (λ b. cond b (put_in s ts) ts) (let no : nat_lt 0 s.size ≡ false = grind (arith, nat_tests) in no))

pub placed_there : (s : Live) (ts : List Live) → 0 < s.size → insert ts (no_later s.base ts) s ≡ placed_with s ts
placed_there s ts some = insert_is s ts ∙ sym (ap (λ b. cond b (put_in s ts) ts) (let yes : nat_lt 0 s.size ≡ true = grind (arith, nat_tests) in yes))

pub where_ok : {A B X : Type 0} (r : Result A B) (x y : X) → IsOk r → (if is_ok r then x else y) ≡ x
where_ok r x y ok = ap (λ (b : Bool). if b then x else y) ok

pub all_in-push : (ss : List Live) (s : Live) (ts : List Live) → all_in (ss ++ s ∷ []) ts ≡ placed_with s (all_in ss ts)
all_in-push [] s ts = refl
all_in-push (r ∷ ss) s ts = all_in-push ss s (placed_with r ts)

length-head : (s t : Live) (ts : List Live) (b : Bool) → length (put_in s ts) ≡ suc (length ts) → length (cond b (s ∷ t ∷ ts) (t ∷ put_in s ts)) ≡ suc (suc (length ts))
length-head s t ts true rest = refl
length-head s t ts false rest = ap suc rest

length-put_in : (s : Live) (ts : List Live) → length (put_in s ts) ≡ suc (length ts)
length-put_in s [] = refl
length-put_in s (t ∷ ts) = length-head s t ts (nat_lt s.base t.base) (length-put_in s ts)

length-placed : (b : Bool) (s : Live) (ts : List Live) → length (cond b (put_in s ts) ts) ≤ suc (length ts)
length-placed true s ts = let e = length-put_in s ts in omega (arith, e)
length-placed false s ts = omega arith

length-all_in : (ss ts : List Live) → length (all_in ss ts) ≤ length ss + length ts
length-all_in [] ts = omega arith
length-all_in (s ∷ ss) ts =
    let rest = length-all_in ss (placed_with s ts) in
    let one = length-placed (nat_lt 0 s.size) s ts in
    omega (arith, rest, one)

pub length-by_address : (live : List Live) → length (by_address live) ≤ length live
length-by_address live = let e = length-all_in live [] in omega (arith, e)

-- ---- their order

from_less : (least less : ℕ) (ts : List Live) → less ≤ least → AreFrom least ts → AreFrom less ts
from_less least less [] le from = tt
from_less least less (t ∷ ts) le from = (let low = from.0 in omega arith, from.1)

put_in-head : (least : ℕ) (s t : Live) (ts : List Live) (b : Bool) → nat_lt s.base t.base ≡ b → least ≤ s.base → least ≤ t.base → AreFrom t.base ts → ((t.base ≤ s.base) → AreFrom t.base (put_in s ts)) → AreFrom least (cond b (s ∷ t ∷ ts) (t ∷ put_in s ts))
put_in-head least s t ts true e low low' from rest = (low, (let lt : s.base < t.base = grind (arith, nat_tests) in omega arith, from))
put_in-head least s t ts false e low low' from rest = (low', rest (grind (arith, nat_tests)))

put_in-from : (least : ℕ) (s : Live) (ts : List Live) → least ≤ s.base → AreFrom least ts → AreFrom least (put_in s ts)
put_in-from least s [] low from = (low, tt)
put_in-from least s (t ∷ ts) low from = put_in-head least s t ts (nat_lt s.base t.base) refl low from.0 from.1 (λ le. put_in-from t.base s ts le from.1)

placed-from : (b : Bool) (s : Live) (ts : List Live) → AreFrom 0 ts → AreFrom 0 (cond b (put_in s ts) ts)
placed-from true s ts from = put_in-from 0 s ts (omega arith) from
placed-from false s ts from = from

all_in-from : (ss ts : List Live) → AreFrom 0 ts → AreFrom 0 (all_in ss ts)
all_in-from [] ts from = from
all_in-from (s ∷ ss) ts from = all_in-from ss (placed_with s ts) (placed-from (nat_lt 0 s.size) s ts from)

pub by_address-from : (live : List Live) → AreFrom 0 (by_address live)
by_address-from live = all_in-from live [] tt

-- ---- some fewer

in_front : (s : Live) (least : ℕ) (ts : List Live) → s.base < least → AreFrom least ts → put_in s ts ≡ s ∷ ts
in_front s least [] lt from = refl
in_front s least (t ∷ ts) lt from =
    let low = from.0 in
    let first : nat_lt s.base t.base ≡ true = grind (arith, nat_tests) in
    ap (λ b. cond b (s ∷ t ∷ ts) (t ∷ put_in s ts)) first

filter_from-head : (p : Live → Bool) (t : Live) (fs : List Live) (least : ℕ) (b : Bool) → least ≤ t.base → AreFrom t.base fs → AreFrom least (cond b (t ∷ fs) fs)
filter_from-head p t fs least true low from = (low, from)
filter_from-head p t fs least false low from = from_less t.base least fs low from

filter-from : (p : Live → Bool) (least : ℕ) (ts : List Live) → AreFrom least ts → AreFrom least (filter p ts)
filter-from p least [] from = tt
filter-from p least (t ∷ ts) from = filter_from-head p t (filter p ts) least (p t) from.0 (filter-from p t.base ts from.1)

-- where the segment goes to the front
front : (p : Live → Bool) (s : Live) (least : ℕ) (fs : List Live) (b : Bool) → s.base < least → AreFrom least fs → cond b (s ∷ fs) fs ≡ cond b (put_in s fs) fs
front p s least fs true lt from = sym (in_front s least fs lt from)
front p s least fs false lt from = refl

-- where it goes behind the first one
behind_first : (p : Live → Bool) (s t : Live) (fs gs : List Live) (b c : Bool) → nat_lt s.base t.base ≡ false → gs ≡ cond c (put_in s fs) fs → cond b (t ∷ gs) gs ≡ cond c (put_in s (cond b (t ∷ fs) fs)) (cond b (t ∷ fs) fs)
behind_first p s t fs gs true true late is = ap (λ l. t ∷ l) is ∙ sym (ap (λ b. cond b (s ∷ t ∷ fs) (t ∷ put_in s fs)) late)
behind_first p s t fs gs true false late is = ap (λ l. t ∷ l) is
behind_first p s t fs gs false true late is = is
behind_first p s t fs gs false false late is = is

filter-put_in-head : (p : Live → Bool) (s t : Live) (ts : List Live) (b : Bool) → nat_lt s.base t.base ≡ b → AreFrom t.base ts → filter p (put_in s ts) ≡ cond (p s) (put_in s (filter p ts)) (filter p ts)
    → filter p (cond b (s ∷ t ∷ ts) (t ∷ put_in s ts)) ≡ cond (p s) (put_in s (filter p (t ∷ ts))) (filter p (t ∷ ts))
filter-put_in-head p s t ts true e from rest =
    let lt : s.base < t.base = grind (arith, nat_tests) in
    front p s t.base (filter p (t ∷ ts)) (p s) lt (filter_from-head p t (filter p ts) t.base (p t) (omega arith) (filter-from p t.base ts from))
filter-put_in-head p s t ts false e from rest = behind_first p s t (filter p ts) (filter p (put_in s ts)) (p t) (p s) e rest

filter-put_in : (p : Live → Bool) (s : Live) (least : ℕ) (ts : List Live) → AreFrom least ts → filter p (put_in s ts) ≡ cond (p s) (put_in s (filter p ts)) (filter p ts)
filter-put_in p s least [] from = refl
filter-put_in p s least (t ∷ ts) from = filter-put_in-head p s t ts (nat_lt s.base t.base) refl from.1 (filter-put_in p s t.base ts from.1)

filter-placed : (p : Live → Bool) (s : Live) (ts : List Live) (b : Bool) → AreFrom 0 ts → filter p (cond b (put_in s ts) ts) ≡ cond (p s) (cond b (put_in s (filter p ts)) (filter p ts)) (filter p ts)
filter-placed p s ts true from = filter-put_in p s 0 ts from
filter-placed p s ts false from = same (p s) (filter p ts) where
  same : (b : Bool) (fs : List Live) → fs ≡ cond b fs fs
  same true fs = refl
  same false fs = refl

filter-all_in-head : (p : Live → Bool) (s : Live) (ss fs : List Live) (b : Bool) → all_in (filter p ss) (cond b (placed_with s fs) fs) ≡ all_in (cond b (s ∷ filter p ss) (filter p ss)) fs
filter-all_in-head p s ss fs true = refl
filter-all_in-head p s ss fs false = refl

filter-all_in : (p : Live → Bool) (ss ts : List Live) → AreFrom 0 ts → filter p (all_in ss ts) ≡ all_in (filter p ss) (filter p ts)
filter-all_in p [] ts from = refl
filter-all_in p (s ∷ ss) ts from =
    filter-all_in p ss (placed_with s ts) (placed-from (nat_lt 0 s.size) s ts from)
    ∙ (ap (all_in (filter p ss)) (filter-placed p s ts (nat_lt 0 s.size) from) ∙ filter-all_in-head p s ss (filter p ts) (p s))

pub filter-by_address : (p : Live → Bool) (live : List Live) → filter p (by_address live) ≡ by_address (filter p live)
filter-by_address p live = filter-all_in p live [] tt

-- ---- a place that is free of them is free of all

put_in-all-head : (P : Live → Type 0) (s t : Live) (ts : List Live) (b : Bool) → (All P (put_in s ts) → P s × All P ts) → All P (cond b (s ∷ t ∷ ts) (t ∷ put_in s ts)) → P s × All P (t ∷ ts)
put_in-all-head P s t ts true rest all = (All-head P s (t ∷ ts) all, All-tail P s (t ∷ ts) all)
put_in-all-head P s t ts false rest all =
    let both = rest (All-tail P t (put_in s ts) all) in
    (both.0, All-cons P t ts (All-head P t (put_in s ts) all) both.1)

put_in-all : (P : Live → Type 0) (s : Live) (ts : List Live) → All P (put_in s ts) → P s × All P ts
put_in-all P s [] all = (All-head P s [] all, All-nil P)
put_in-all P s (t ∷ ts) all = put_in-all-head P s t ts (nat_lt s.base t.base) (put_in-all P s ts) all

all-put_in-head : (P : Live → Type 0) (s t : Live) (ts : List Live) (b : Bool) → P s → All P (t ∷ ts) → All P (put_in s ts) → All P (cond b (s ∷ t ∷ ts) (t ∷ put_in s ts))
all-put_in-head P s t ts true one all rest = All-cons P s (t ∷ ts) one all
all-put_in-head P s t ts false one all rest = All-cons P t (put_in s ts) (All-head P t ts all) rest

all-put_in : (P : Live → Type 0) (s : Live) (ts : List Live) → P s → All P ts → All P (put_in s ts)
all-put_in P s [] one all = All-cons P s [] one all
all-put_in P s (t ∷ ts) one all = all-put_in-head P s t ts (nat_lt s.base t.base) one all (all-put_in P s ts one (All-tail P t ts all))

-- an address lies outside of a segment of no bytes
outside-empty : (address : ℕ) (s : Live) → nat_lt 0 s.size ≡ false → IsOutside address s
outside-empty address s e le = let none : s.size ≡ 0 = grind (arith, nat_tests) in omega (arith, none, le)

placed-outside : (address : ℕ) (s : Live) (ts : List Live) (b : Bool) → nat_lt 0 s.size ≡ b → All (IsOutside address) (cond b (put_in s ts) ts) → IsOutside address s × All (IsOutside address) ts
placed-outside address s ts true e all = put_in-all (IsOutside address) s ts all
placed-outside address s ts false e all = (outside-empty address s e, all)

outside-placed : (address : ℕ) (s : Live) (ts : List Live) (b : Bool) → IsOutside address s → All (IsOutside address) ts → All (IsOutside address) (cond b (put_in s ts) ts)
outside-placed address s ts true one all = all-put_in (IsOutside address) s ts one all
outside-placed address s ts false one all = all

all_in-outside : (address : ℕ) (ss ts : List Live) → All (IsOutside address) (all_in ss ts) → All (IsOutside address) ss × All (IsOutside address) ts
all_in-outside address [] ts all = (All-nil (IsOutside address), all)
all_in-outside address (s ∷ ss) ts all =
    let rest = all_in-outside address ss (placed_with s ts) all in
    let one = placed-outside address s ts (nat_lt 0 s.size) refl rest.1 in
    (All-cons (IsOutside address) s ss one.0 rest.0, one.1)

outside-all_in : (address : ℕ) (ss ts : List Live) → All (IsOutside address) ss → All (IsOutside address) ts → All (IsOutside address) (all_in ss ts)
outside-all_in address [] ts all placed = placed
outside-all_in address (s ∷ ss) ts all placed =
    outside-all_in address ss (placed_with s ts) (All-tail (IsOutside address) s ss all) (outside-placed address s ts (nat_lt 0 s.size) (All-head (IsOutside address) s ss all) placed)

free_of_all : (live : List Live) (capacity n place : ℕ) → IsFree (by_address live) capacity n place → IsFree live capacity n place
free_of_all live capacity n place free k below = ((free k below).0, (all_in-outside (place + k) live [] (free k below).1).0)

free_of_placed : (live : List Live) (capacity n place : ℕ) → IsFree live capacity n place → IsFree (by_address live) capacity n place
free_of_placed live capacity n place free k below = ((free k below).0, outside-all_in (place + k) live [] (free k below).1 (All-nil (IsOutside (place + k))))

pub place_of_all : (live : List Live) (capacity n : ℕ) (place : Option ℕ) → IsPlace (by_address live) capacity n place → IsPlace live capacity n place
place_of_all live capacity n (Some place) is = (is.0, free_of_all live capacity n place is.1, λ lower less aligned free. is.2 lower less aligned (free_of_placed live capacity n lower free))
place_of_all live capacity n None is = λ place aligned free. is place aligned (free_of_placed live capacity n place free)

-- ---- the walk along them

next_is : (n c : ℕ) (s : Live) → overlaps c n s ≡ true → c ≤ 16 * ((s.base + s.size + 15) / 16)
next_is n c s meets = let behind = ends_behind c n s meets in omega (arith, behind)

passed-head : (n c : ℕ) (s : Live) (ss : List Live) (b : Bool) → overlaps c n s ≡ b → ((c' : ℕ) → c' ≤ passed n c' ss) → c ≤ passed n (cond b (16 * ((s.base + s.size + 15) / 16)) c) ss
passed-head n c s ss true e rest = let next = next_is n c s e in let more = rest (16 * ((s.base + s.size + 15) / 16)) in omega (arith, next, more)
passed-head n c s ss false e rest = rest c

passed-least : (n c : ℕ) (ss : List Live) → c ≤ passed n c ss
passed-least n c [] = omega arith
passed-least n c (s ∷ ss) = passed-head n c s ss (overlaps c n s) refl (λ c'. passed-least n c' ss)

aligned-head : (n c : ℕ) (s : Live) (b : Bool) → IsAligned c → IsAligned (cond b (16 * ((s.base + s.size + 15) / 16)) c)
aligned-head n c s true aligned = omega arith
aligned-head n c s false aligned = aligned

passed-aligned : (n c : ℕ) (ss : List Live) → IsAligned c → IsAligned (passed n c ss)
passed-aligned n c [] aligned = aligned
passed-aligned n c (s ∷ ss) aligned = passed-aligned n (cond (overlaps c n s) (16 * ((s.base + s.size + 15) / 16)) c) ss (aligned-head n c s (overlaps c n s) aligned)

-- those that begin behind the addresses change nothing
behind_apart : (n c : ℕ) (s : Live) → c + n ≤ s.base → overlaps c n s ≡ false
behind_apart n c s le = grind (arith, nat_tests)

stays : (n c least : ℕ) (ss : List Live) → c + n ≤ least → AreFrom least ss → passed n c ss ≡ c
stays n c least [] le from = refl
stays n c least (s ∷ ss) le from =
    let low = from.0 in
    let behind : c + n ≤ s.base = omega (arith, low) in
    ap (λ b. passed n (cond b (16 * ((s.base + s.size + 15) / 16)) c) ss) (behind_apart n c s behind) ∙ stays n c s.base ss behind from.1

-- a segment lies behind the addresses, or its end isn't behind their first one, or it has no bytes
ended_apart : (n r : ℕ) (s : Live) → s.base + s.size ≤ r → overlaps r n s ≡ false
ended_apart n r s le = grind (arith, nat_tests)

apart_cases : (n c : ℕ) (s : Live) → overlaps c n s ≡ false → (c + n ≤ s.base) ⊎ ((s.base + s.size ≤ c) ⊎ (s.size ≡ 0))
apart_cases n c s e =
    elim (cases_lt s.base (c + n)) [
      | inr behind ↦ inl behind
      | inl before ↦ elim (cases_lt c (s.base + s.size)) [
        | inr ended ↦ inr (inl ended)
        | inl within ↦ inr (inr (grind (arith, nat_tests)))
      ]
    ]

empty_apart : (n r : ℕ) (s : Live) → s.size ≡ 0 → overlaps r n s ≡ false
empty_apart n r s e = grind (arith, nat_tests)

first_apart : (n c : ℕ) (s : Live) (ss : List Live) (b : Bool) → overlaps c n s ≡ b → AreFrom s.base ss → overlaps (passed n (cond b (16 * ((s.base + s.size + 15) / 16)) c) ss) n s ≡ false
first_apart n c s ss true e from =
    let more = passed-least n (16 * ((s.base + s.size + 15) / 16)) ss in
    ended_apart n (passed n (16 * ((s.base + s.size + 15) / 16)) ss) s (omega (arith, more))
first_apart n c s ss false e from =
    elim (apart_cases n c s e) [
      | inl behind ↦ ap (λ r. overlaps r n s) (stays n c s.base ss behind from) ∙ e
      | inr (inl ended) ↦ let more = passed-least n c ss in ended_apart n (passed n c ss) s (omega (arith, more, ended))
      | inr (inr empty) ↦ empty_apart n (passed n c ss) s empty
    ]

passed-apart : (n c least : ℕ) (ss : List Live) → AreFrom least ss → All (λ s. overlaps (passed n c ss) n s ≡ false) ss
passed-apart n c least [] from = All-nil (λ s. overlaps c n s ≡ false)
passed-apart n c least (s ∷ ss) from =
    let next : ℕ = cond (overlaps c n s) (16 * ((s.base + s.size + 15) / 16)) c in
    All-cons (λ t. overlaps (passed n next ss) n t ≡ false) s ss (first_apart n c s ss (overlaps c n s) refl from.1) (passed-apart n next s.base ss from.1)

none_below-head : (live : List Live) (capacity n c : ℕ) (s : Live) (b : Bool) → overlaps c n s ≡ b → 0 < n → Contains live s → ((lower : ℕ) → lower < c → IsAligned lower → ¬ (IsFree live capacity n lower))
    → (lower : ℕ) → lower < cond b (16 * ((s.base + s.size + 15) / 16)) c → IsAligned lower → ¬ (IsFree live capacity n lower)
none_below-head live capacity n c s true e some has none = none_behind live capacity n c (16 * ((s.base + s.size + 15) / 16)) s some has e (omega arith) (omega arith) none
none_below-head live capacity n c s false e some has none = none

none_below : (live : List Live) (capacity n c : ℕ) (ss : List Live) → 0 < n → All (Contains live) ss → ((lower : ℕ) → lower < c → IsAligned lower → ¬ (IsFree live capacity n lower)) → (lower : ℕ) → lower < passed n c ss → IsAligned lower → ¬ (IsFree live capacity n lower)
none_below live capacity n c [] some all none = none
none_below live capacity n c (s ∷ ss) some all none =
    none_below live capacity n (cond (overlaps c n s) (16 * ((s.base + s.size + 15) / 16)) c) ss some (All-tail (Contains live) s ss all) (none_below-head live capacity n c s (overlaps c n s) refl some (All-head (Contains live) s ss all) none)

none_at_first : (live : List Live) (capacity n lower : ℕ) → lower < 0 → IsAligned lower → ¬ (IsFree live capacity n lower)
none_at_first live capacity n lower less = absurd (omega arith)

none_before : (ts : List Live) (capacity n : ℕ) → 0 < n → (lower : ℕ) → lower < passed n 0 ts → IsAligned lower → ¬ (IsFree ts capacity n lower)
none_before ts capacity n some = none_below ts capacity n 0 ts some (All-contains_itself ts) (none_at_first ts capacity n)

-- the place that it finds, if it is within the capacity
finds : (ts : List Live) (capacity n : ℕ) → 0 < n → AreFrom 0 ts → passed n 0 ts + n ≤ capacity → IsPlace ts capacity n (Some (passed n 0 ts))
finds ts capacity n some from within = (passed-aligned n 0 ts refl, free-from_apart ts capacity n (passed n 0 ts) within (passed-apart n 0 0 ts from), none_before ts capacity n some)

finds_none : (ts : List Live) (capacity n : ℕ) → 0 < n → capacity < passed n 0 ts + n → IsPlace ts capacity n None
finds_none ts capacity n some past = none_at_all ts capacity n (passed n 0 ts) some past (none_before ts capacity n some)

-- ---- a step of the walk

pub past_more : (n m c r : ℕ) (ss : List Live) (i : ℕ) (d : Live) (start : ℕ) → i < length ss → m ≡ n → r ≡ past m c (get_or ss i d) → passed n c (drop i ss) ≡ start → passed n r (drop (i + 1) ss) ≡ start
past_more n m c r ss i d start within same is left =
    ap (λ k. passed n k (drop (i + 1) ss)) (is ∙ ap (λ k. past k c (get_or ss i d)) same) ∙ (sym (at_drop_more (passed n c) ss i d within) ∙ left)

at_end : (n c : ℕ) (ts : List Live) (i : ℕ) → length ts ≤ i → passed n c (drop i ts) ≡ passed n 0 ts → c ≡ passed n 0 ts
at_end n c ts i over left = sym (at_drop_all (passed n c) ts i over) ∙ left

pub found_at_end : (ts : List Live) (capacity n c i : ℕ) → 0 < n → AreFrom 0 ts → length ts ≤ i → passed n c (drop i ts) ≡ passed n 0 ts → c + n ≤ capacity → IsPlace ts capacity n (Some c)
found_at_end ts capacity n c i some from over left within =
    let e = at_end n c ts i over left in
    subst (λ (r : ℕ). IsPlace ts capacity n (Some r)) (sym e) (finds ts capacity n some from (omega (arith, e)))

pub none_at_end : (ts : List Live) (capacity n c i : ℕ) → 0 < n → length ts ≤ i → passed n c (drop i ts) ≡ passed n 0 ts → capacity < c + n → IsPlace ts capacity n None
none_at_end ts capacity n c i some over left past = let e = at_end n c ts i over left in finds_none ts capacity n some (omega (arith, e))
