-- The numbers that pass a test, in order, and where each stands among them.
use Rattle.std.proofs.Common.{◌≡◌, ◌∙◌, ℕ, zero, suc, ◌+◌, ◌<◌, ◌≤◌, List, [], ◌∷◌, ◌++◌, length, map, Bool, true, false, Option, Some, None, ◌⊎◌, inl, inr, replicate, get_or, append-nil, length-append, refl, sym, ap, arith}
use Rattle.std.specs.Prelude.{◌&&◌, ◌==◌, not, cond, if◌then◌else◌, filter, nat_lt, slice_get, slice_set}
use Rattle.std.specs.List.{position_or_len}
use Rattle.std.proofs.lemmas.Bool.{cases_lt}
use Rattle.std.proofs.lemmas.List.{get_or_append_left, length-map, length-replicate, length-set, map-append}
use Rattle.std.proofs.Math.Seq.{get_or-append_seam}
use Rattle.std.proofs.lemmas.List.Elements.{filter-append}
use Rattle.std.proofs.lemmas.List.Folds.{position_or_len_push}
use Rattle.std.proofs.lemmas.List.Sums.{prefix_len-le-length}
use Rattle.std.proofs.lemmas.Option.{none-some, same_Some, slice_get_within}
use Rattle.c_typed.specs.Units.{numbers}
use Rattle.c_code.specs.Modules.{rank_in}
use Rattle.c_emit.specs.refinement.Placed.{placed}

-- ---- numbers that pass, one after another

abbrev passing : (ℕ → Bool) → ℕ → List ℕ
passing p n = filter p (numbers n)

next : (p : ℕ → Bool) (n : ℕ) → passing p (suc n) ≡ passing p n ++ cond (p n) (n ∷ []) []
next p n = filter-append p (numbers n) (n ∷ [])

next_passes : (p : ℕ → Bool) (n : ℕ) → p n ≡ true → passing p (suc n) ≡ passing p n ++ n ∷ []
next_passes p n h = next p n ∙ ap (λ (b : Bool). passing p n ++ cond b (n ∷ []) []) h

next_fails : (p : ℕ → Bool) (n : ℕ) → p n ≡ false → passing p (suc n) ≡ passing p n
next_fails p n h = next p n ∙ ap (λ (b : Bool). passing p n ++ cond b (n ∷ []) []) h ∙ append-nil (passing p n)

one_more : (n : ℕ) → n + 1 ≡ suc n
one_more n = omega arith

pub picked : (p : ℕ → Bool) (n : ℕ) (xs : List ℕ) → xs ≡ passing p n → p n ≡ true → xs ++ n ∷ [] ≡ passing p (n + 1)
picked p n xs e h = ap (λ (l : List ℕ). l ++ n ∷ []) e ∙ sym (ap (passing p) (one_more n) ∙ next_passes p n h)

pub passed : (p : ℕ → Bool) (n : ℕ) (xs : List ℕ) → xs ≡ passing p n → p n ≡ false → xs ≡ passing p (n + 1)
passed p n xs e h = e ∙ sym (ap (passing p) (one_more n) ∙ next_fails p n h)

-- ---- flags of the first numbers

pub long : (n : ℕ) → length (numbers n) ≡ n
long zero = refl
long (suc n) = let e = long n in omega (arith, length-append (numbers n) (n ∷ []), e)

flag_at : (p : ℕ → Bool) (m n : ℕ) → n < m → get_or (map p (numbers m)) n false ≡ p n
flag_at p zero n lt = absurd (omega (arith, lt))
flag_at p (suc m) n lt = ap (λ (l : List Bool). get_or l n false) (map-append p (numbers m) (m ∷ [])) ∙ by (λ l. flag_at p m n l) (cases_lt n m) where
  all : length (map p (numbers m)) ≡ m
  all = length-map (numbers m) p ∙ long m

  by : (n < m → get_or (map p (numbers m)) n false ≡ p n) → (n < m) ⊎ (m ≤ n) → get_or (map p (numbers m) ++ p m ∷ []) n false ≡ p n
  by rest (inl l) = let h : n < length (map p (numbers m)) = omega (arith, l, all) in get_or_append_left (map p (numbers m)) (p m ∷ []) false n h ∙ rest l
  by rest (inr g) =
      let e : n ≡ m = omega (arith, lt, g) in
      ap (λ (k : ℕ). get_or (map p (numbers m) ++ p m ∷ []) k false) (e ∙ sym all) ∙ get_or-append_seam (map p (numbers m)) (p m) [] false ∙ ap p (sym e)

same_passing : (p q : ℕ → Bool) (m : ℕ) → ((n : ℕ) → n < m → p n ≡ q n) → passing p m ≡ passing q m
same_passing p q zero same = refl
same_passing p q (suc m) same = next p m ∙ ap (λ (l : List ℕ). l ++ cond (p m) (m ∷ []) []) (same_passing p q m (λ n lt. same n (omega (arith, lt))))
    ∙ ap (λ (b : Bool). passing q m ++ cond b (m ∷ []) []) (same m (omega arith)) ∙ sym (next q m)

pub flagged : (p : ℕ → Bool) (m : ℕ) (flags : List Bool) → flags ≡ map p (numbers m)
    → passing (λ n. get_or flags n false) (length flags) ≡ passing p m
flagged p m flags e =
    ap (λ (l : List Bool). passing (λ n. get_or l n false) (length l)) e ∙ ap (passing (λ n. get_or (map p (numbers m)) n false)) (length-map (numbers m) p ∙ long m)
    ∙ same_passing (λ n. get_or (map p (numbers m)) n false) p m (flag_at p m)

-- the same beside another test
pub both_flagged : (q p : ℕ → Bool) (m k : ℕ) (flags : List Bool) → flags ≡ map p (numbers m) → k ≡ m
    → passing (λ n. q n && get_or flags n false) k ≡ passing (λ n. q n && p n) m
both_flagged q p m k flags e same =
    ap (λ (l : List Bool). passing (λ n. q n && get_or l n false) k) e ∙ ap (passing (λ n. q n && get_or (map p (numbers m)) n false)) same
    ∙ same_passing (λ n. q n && get_or (map p (numbers m)) n false) (λ n. q n && p n) m (λ n lt. ap (λ (b : Bool). q n && b) (flag_at p m n lt))

-- ---- ranks

abbrev place : ℕ → List ℕ → ℕ
place n xs = position_or_len (λ m. m == n) xs

abbrev or_zero : Option ℕ → ℕ
or_zero None = 0
or_zero (Some i) = i

abbrev rank : (place count : ℕ) → ℕ
rank k l = or_zero (cond (nat_lt k l) (Some k) None)

rank_below : (k l : ℕ) → k < l → rank k l ≡ k
rank_below k l h = let e : nat_lt k l ≡ true = grind (arith, h) in ap (λ (b : Bool). or_zero (cond b (Some k) None)) e

rank_past : (k l : ℕ) → l ≤ k → rank k l ≡ 0
rank_past k l h = let e : nat_lt k l ≡ false = grind (arith, h) in ap (λ (b : Bool). or_zero (cond b (Some k) None)) e

within : (xs : List ℕ) (n : ℕ) → place n xs ≤ length xs
within xs n = prefix_len-le-length (λ m. not (m == n)) xs

place_pushed : (xs : List ℕ) (y n : ℕ) → place n (xs ++ y ∷ []) ≡ cond (place n xs == length xs) (length xs + cond (y == n) 0 1) (place n xs)
place_pushed xs y n = position_or_len_push (λ m. m == n) xs y

pushed : (xs : List ℕ) (y : ℕ) → length (xs ++ y ∷ []) ≡ length xs + 1
pushed xs y = omega (arith, length-append xs (y ∷ []))

-- a number that isn't there
place_other : (xs : List ℕ) (y n : ℕ) → y == n ≡ false → place n xs ≡ length xs → place n (xs ++ y ∷ []) ≡ length (xs ++ y ∷ [])
place_other xs y n other none =
    let e : place n xs == length xs ≡ true = grind (arith, none) in
    place_pushed xs y n ∙ ap (λ (b : Bool). cond b (length xs + cond (y == n) 0 1) (place n xs)) e ∙ ap (λ (b : Bool). length xs + cond b 0 1) other ∙ sym (pushed xs y)

rank_other : (xs : List ℕ) (y n : ℕ) → y == n ≡ false → rank_in (xs ++ y ∷ []) n ≡ rank_in xs n
rank_other xs y n other = by (place n xs == length xs) refl where
  by : (b : Bool) → place n xs == length xs ≡ b → rank_in (xs ++ y ∷ []) n ≡ rank_in xs n
  by true e =
      let none : place n xs ≡ length xs = grind (arith, e) in
      rank_past (place n (xs ++ y ∷ [])) (length (xs ++ y ∷ [])) (let q = place_other xs y n other none in omega (arith, q))
      ∙ sym (rank_past (place n xs) (length xs) (omega (arith, none)))
  by false e =
      let same : place n (xs ++ y ∷ []) ≡ place n xs = place_pushed xs y n ∙ ap (λ (b : Bool). cond b (length xs + cond (y == n) 0 1) (place n xs)) e in
      let le = within xs n in
      let lt : place n xs < length xs = grind (arith, e, le) in
      rank_below (place n (xs ++ y ∷ [])) (length (xs ++ y ∷ [])) (let q = pushed xs y in omega (arith, same, lt, q)) ∙ same
      ∙ sym (rank_below (place n xs) (length xs) lt)

rank_last : (xs : List ℕ) (n : ℕ) → place n xs ≡ length xs → rank_in (xs ++ n ∷ []) n ≡ length xs
rank_last xs n none =
    let e : place n xs == length xs ≡ true = grind (arith, none) in
    let this : n == n ≡ true = grind arith in
    let at : place n (xs ++ n ∷ []) ≡ length xs =
    place_pushed xs n n ∙ ap (λ (b : Bool). cond b (length xs + cond (n == n) 0 1) (place n xs)) e ∙ ap (λ (b : Bool). length xs + cond b 0 1) this ∙ (let z : length xs + 0 ≡ length xs = omega arith in z) in
    rank_below (place n (xs ++ n ∷ [])) (length (xs ++ n ∷ [])) (let q = pushed xs n in omega (arith, at, q)) ∙ at

unlike : (p : ℕ → Bool) (m n : ℕ) → p m ≡ true → (m ≡ n → p n ≡ false) → m == n ≡ false
unlike p m n h fails = by (m == n) refl where
  by : (b : Bool) → m == n ≡ b → m == n ≡ false
  by false e = e
  by true e =
      let same : m ≡ n = grind (arith, e) in
      let q : p m ≡ false = ap p same ∙ fails same in
      absurd cc

absent : (p : ℕ → Bool) (m n : ℕ) → (n < m → p n ≡ false) → place n (passing p m) ≡ length (passing p m)
absent p zero n none = refl
absent p (suc m) n none = by (absent p m n (λ lt. none (omega (arith, lt)))) (p m) refl where
  by : place n (passing p m) ≡ length (passing p m) → (b : Bool) → p m ≡ b → place n (passing p (suc m)) ≡ length (passing p (suc m))
  by rest true h =
      let e = next_passes p m h in
      let other = unlike p m n h (λ same. none (omega (arith, same))) in
      ap (place n) e ∙ place_other (passing p m) m n other rest ∙ sym (ap length e)
  by rest false h = let e = next_fails p m h in ap (place n) e ∙ rest ∙ sym (ap length e)

-- ---- tables

set_here : (xs : List ℕ) (n v i : ℕ) → slice_get (slice_set xs n v) n ≡ Some i → i ≡ v
set_here [] n v i e = absurd (none-some i e)
set_here (x ∷ xs) zero v i e = sym (same_Some v i e)
set_here (x ∷ xs) (suc n) v i e = set_here xs n v i e

set_elsewhere : (xs : List ℕ) (m n v : ℕ) → m == n ≡ false → slice_get (slice_set xs m v) n ≡ slice_get xs n
set_elsewhere [] m n v e = refl
set_elsewhere (x ∷ xs) zero zero v e = absurd (grind (arith, e))
set_elsewhere (x ∷ xs) zero (suc n) v e = refl
set_elsewhere (x ∷ xs) (suc m) zero v e = refl
set_elsewhere (x ∷ xs) (suc m) (suc n) v e = set_elsewhere xs m n v (grind (arith, e))

placed_pushed : (is ns : List ℕ) (n k : ℕ) → placed is (ns ++ n ∷ []) k ≡ slice_set (placed is ns k) n (k + length ns)
placed_pushed is [] n k = ap (slice_set is n) (let z : k ≡ k + 0 = omega arith in z)
placed_pushed is (m ∷ ns) n k =
    let z : suc k + length ns ≡ k + suc (length ns) = omega arith in
    placed_pushed (slice_set is m k) ns n (suc k) ∙ ap (slice_set (placed (slice_set is m k) ns (suc k)) n) z

as_long : (is ns : List ℕ) (k : ℕ) → length (placed is ns k) ≡ length is
as_long is [] k = refl
as_long is (n ∷ ns) k = as_long (slice_set is n k) ns (suc k) ∙ length-set is n k

-- what passes, placed behind what stood in a table
module _ (p : ℕ → Bool) (is : List ℕ) (k : ℕ) where
  abbrev table : ℕ → List ℕ
  table m = placed is (passing p m) k

  table_passes : (m : ℕ) → p m ≡ true → table (suc m) ≡ slice_set (table m) m (k + length (passing p m))
  table_passes m h = ap (λ (l : List ℕ). placed is l k) (next_passes p m h) ∙ placed_pushed is (passing p m) m k

  table_fails : (m : ℕ) → p m ≡ false → table (suc m) ≡ table m
  table_fails m h = ap (λ (l : List ℕ). placed is l k) (next_fails p m h)

  stays : (m n : ℕ) → p n ≡ false → slice_get (table m) n ≡ slice_get is n
  stays zero n fails = refl
  stays (suc m) n fails = by (stays m n fails) (p m) refl where
    by : slice_get (table m) n ≡ slice_get is n → (b : Bool) → p m ≡ b → slice_get (table (suc m)) n ≡ slice_get is n
    by rest true h =
        let other = unlike p m n h (λ _. fails) in
        ap (λ (l : List ℕ). slice_get l n) (table_passes m h) ∙ set_elsewhere (table m) m n (k + length (passing p m)) other ∙ rest
    by rest false h = ap (λ (l : List ℕ). slice_get l n) (table_fails m h) ∙ rest

  found_last : (n i : ℕ) → p n ≡ true → slice_get (table (suc n)) n ≡ Some i → i ≡ k + rank_in (passing p (suc n)) n
  found_last n i hit e =
      let there = sym (ap (λ (l : List ℕ). slice_get l n) (table_passes n hit)) ∙ e in
      let last : rank_in (passing p (suc n)) n ≡ length (passing p n) =
      ap (λ (l : List ℕ). rank_in l n) (next_passes p n hit) ∙ rank_last (passing p n) n (absent p n n (λ lt. absurd (omega (arith, lt)))) in
      set_here (table n) n (k + length (passing p n)) i there ∙ ap (λ (j : ℕ). k + j) (sym last)

  found : (m n i : ℕ) → p n ≡ true → n < m → slice_get (table m) n ≡ Some i → i ≡ k + rank_in (passing p m) n
  found zero n i hit lt e = absurd (omega (arith, lt))
  found (suc m) n i hit lt e = by (λ l q. found m n i hit l q) (m == n) refl (p m) refl where
    by : (n < m → slice_get (table m) n ≡ Some i → i ≡ k + rank_in (passing p m) n) → (b : Bool) → m == n ≡ b → (c : Bool) → p m ≡ c
        → i ≡ k + rank_in (passing p (suc m)) n
    by rest true q c h =
        let same : n ≡ m = grind (arith, q) in
        let there = ap (λ (j : ℕ). slice_get (table (suc j)) n) same ∙ e in
        found_last n i hit there ∙ ap (λ (j : ℕ). k + rank_in (passing p (suc j)) n) same
    by rest false q true h =
        let there = sym (ap (λ (l : List ℕ). slice_get l n) (table_passes m h) ∙ set_elsewhere (table m) m n (k + length (passing p m)) q) ∙ e in
        let same : rank_in (passing p (suc m)) n ≡ rank_in (passing p m) n = ap (λ (l : List ℕ). rank_in l n) (next_passes p m h) ∙ rank_other (passing p m) m n q in
        rest (grind (arith, lt, q)) there ∙ ap (λ (j : ℕ). k + j) (sym same)
    by rest false q false h =
        let there = sym (ap (λ (l : List ℕ). slice_get l n) (table_fails m h)) ∙ e in
        rest (grind (arith, lt, q)) there ∙ ap (λ (l : List ℕ). k + rank_in l n) (sym (next_fails p m h))

get_replicate : (m k n i : ℕ) → slice_get (replicate m k) n ≡ Some i → i ≡ k
get_replicate zero k n i e = absurd (none-some i e)
get_replicate (suc m) k zero i e = sym (same_Some k i e)
get_replicate (suc m) k (suc n) i e = get_replicate m k n i e

-- where nothing but k stood before
pub found_over : (p : ℕ → Bool) (m n k i : ℕ) → slice_get (placed (replicate m k) (passing p m) k) n ≡ Some i → i ≡ k + rank_in (passing p m) n
found_over p m n k i e = by (p n) refl where
  below : n < m
  below =
      let w = slice_get_within (placed (replicate m k) (passing p m) k) n i e in
      let a = as_long (replicate m k) (passing p m) k in
      let b = length-replicate {A = ℕ} m k in
      omega (arith, w, a, b)

  by : (b : Bool) → p n ≡ b → i ≡ k + rank_in (passing p m) n
  by true h = found p (replicate m k) k m n i h below e
  by false h =
      let past : rank_in (passing p m) n ≡ 0 = rank_past (place n (passing p m)) (length (passing p m)) (let q = absent p m n (λ _. h) in omega (arith, q)) in
      let it = get_replicate m k n i (sym (stays p (replicate m k) k m n h) ∙ e) in
      omega (arith, it, past)

-- two lists, one behind the other
pub index_over : (p q : ℕ → Bool) (m n k first i : ℕ) → first ≡ k + length (passing q m)
    → slice_get (placed (placed (replicate m k) (passing q m) k) (passing p m) first) n ≡ Some i
    → i ≡ (if p n then k + length (passing q m) + rank_in (passing p m) n else k + rank_in (passing q m) n)
index_over p q m n k first i is e = by (p n) refl where
  below : n < m
  below =
      let w = slice_get_within (placed (placed (replicate m k) (passing q m) k) (passing p m) first) n i e in
      let c = as_long (placed (replicate m k) (passing q m) k) (passing p m) first in
      let a = as_long (replicate m k) (passing q m) k in
      let b = length-replicate {A = ℕ} m k in
      omega (arith, w, a, b, c)

  by : (b : Bool) → p n ≡ b → i ≡ (if p n then k + length (passing q m) + rank_in (passing p m) n else k + rank_in (passing q m) n)
  by true h =
      found p (placed (replicate m k) (passing q m) k) first m n i h below e ∙ ap (λ (j : ℕ). j + rank_in (passing p m) n) is
      ∙ sym (ap (λ (b : Bool). cond b (k + length (passing q m) + rank_in (passing p m) n) (k + rank_in (passing q m) n)) h)
  by false h =
      found_over q m n k i (sym (stays p (placed (replicate m k) (passing q m) k) first m n h) ∙ e)
      ∙ sym (ap (λ (b : Bool). cond b (k + length (passing q m) + rank_in (passing p m) n) (k + rank_in (passing q m) n)) h)
