-- Masks in blocks.
use Rattle.std.proofs.Common.{◌≡◌, ℕ, Bool, true, false, not, cond, ◌||◌, ◌+◌, ◌*◌, ◌/◌, ◌≤◌, zero, suc, List, [], ◌∷◌, ◌++◌, eqb, length, take, drop, map, replicate, refl, ap, sym, ◌∙◌, arith}
use Rattle.std.proofs.lemmas.List.{take-append-drop, drop-drop, replicate-append-replicate}
use Rattle.std.proofs.lemmas.Bool.Decides.{nat_tests}
use Rattle.std.proofs.lemmas.Simd.{take_more_put_chunk}
use Rattle.std.specs.List.{list_any}
use Rattle.std.specs.Simd.{first_chunks}
use lib.Lanes.{mask_l, put_chunk}
use Rattle.ms_tagged.specs.refinement.Lanes.{has_piece}

odd_not_zero : (n : ℕ) → not (eqb (1 + 2 * n) 0) ≡ true
odd_not_zero n = grind (arith, nat_tests)

double_is_zero : (n : ℕ) → eqb (0 + 2 * n) 0 ≡ eqb n 0
double_is_zero n = grind (arith, nat_tests)

-- the mask of a test is 0 exactly where nothing passes
pub mask_l-any : {X : Type 0} (p : X → Bool) (xs : List X) → not (eqb (mask_l (map p xs)) 0) ≡ list_any p xs
mask_l-any p [] = refl
mask_l-any p (x ∷ xs) =
    elim (p x) as (λ b. not (eqb (cond b 1 0 + 2 * mask_l (map p xs)) 0) ≡ (b || list_any p xs)) [
      | true ↦ odd_not_zero (mask_l (map p xs))
      | false ↦ ap not (double_is_zero (mask_l (map p xs))) ∙ mask_l-any p xs
    ]

or_assoc : (a b c : Bool) → ((a || b) || c) ≡ (a || (b || c))
or_assoc true b c = refl
or_assoc false b c = refl

any-append : {X : Type 0} (p : X → Bool) (xs ys : List X) → list_any p (xs ++ ys) ≡ (list_any p xs || list_any p ys)
any-append p [] ys = refl
any-append p (x ∷ xs) ys = ap (λ b. p x || b) (any-append p xs ys) ∙ sym (or_assoc (p x) (list_any p xs) (list_any p ys))

-- a test of blocks, and of what is left behind them
pub any-chunks : {X : Type 0} (p : X → Bool) (n k : ℕ) (xs : List X) → (list_any (list_any p) (first_chunks n k xs) || list_any p (drop (k * n) xs)) ≡ list_any p xs
any-chunks p n zero xs = ap (λ m. list_any p (drop m xs)) (let e : 0 * n ≡ 0 = omega arith in e)
any-chunks p n (suc k) xs =
    let e : suc k * n ≡ n + k * n = omega arith in
    or_assoc (list_any p (take n xs)) (list_any (list_any p) (first_chunks n k (drop n xs))) (list_any p (drop (suc k * n) xs))
    ∙ ap (λ b. list_any p (take n xs) || b) (ap (λ l. list_any (list_any p) (first_chunks n k (drop n xs)) || list_any p l) (ap (λ m. drop m xs) e ∙ sym (drop-drop (k * n) n xs)) ∙ any-chunks p n k (drop n xs))
    ∙ sym (any-append p (take n xs) (drop n xs)) ∙ ap (list_any p) (take-append-drop n xs)

-- eight more masks are wiped
pub wiped_more : (masks : List ℕ) (at : ℕ) → at + 8 ≤ length masks → take at masks ≡ replicate at 0 → take (at + 8) (put_chunk at masks (replicate 8 0)) ≡ replicate (at + 8) 0
wiped_more masks at within wiped =
    take_more_put_chunk at masks (replicate 8 0) (at + 8) refl within ∙ (ap (λ l. l ++ replicate 8 0) wiped ∙ replicate-append-replicate at 8 0)

-- masks of which some are in blocks
pub has_piece-blocks : (part rest : List ℕ) (blocks : List (List ℕ)) (found : Bool) → blocks ≡ first_chunks 8 (length part / 8) part → rest ≡ drop (length part / 8 * 8) part → found ≡ list_any has_piece blocks → (found || has_piece rest) ≡ has_piece part
has_piece-blocks part rest blocks found are left is =
    ap (λ b. b || has_piece rest) (is ∙ ap (list_any has_piece) are) ∙ ap (λ l. list_any has_piece (first_chunks 8 (length part / 8) part) || has_piece l) left ∙ any-chunks (λ mask. not (eqb mask 0)) 8 (length part / 8) part
