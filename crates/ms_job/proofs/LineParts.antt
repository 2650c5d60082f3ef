-- The first line of a text.
use Rattle.std.proofs.Common.{◌≡◌, ◌==◌, ◌∙◌, ℕ, ◌+◌, ◌<◌, ◌≤◌, Bool, true, false, cond, List, [], ◌∷◌, Some, None, length, take, drop, nat_lt, ltb-true, ltb-false, refl, ap, arith, rules, tests}
use Rattle.std.specs.List.{position, position_or_len, slice_split}
use Rattle.std.specs.Str.Lines.{lines, lines_of_parts, strip_carriage_return}
use Rattle.std.proofs.lemmas.List.Splits.{length-slice_split, slice_split_first, slice_split_none}
use Rattle.std.proofs.lemmas.List.Sums.{fails_before_first}

abbrev is_lf : ℕ → Bool
is_lf b = b == 10

more_parts : (x : List ℕ) (parts : List (List ℕ)) → 0 < length parts
    → lines_of_parts (x ∷ parts) ≡ strip_carriage_return x ∷ lines_of_parts parts
more_parts x [] h = absurd (omega arith)
more_parts x (y ∷ more) h = refl

found : (b : Bool) (n at : ℕ) → cond b (Some n) None ≡ Some at → (b ≡ true) × (n ≡ at)
found true n at e = (refl, cc)
found false n at e = absurd (cc)

nowhere : (b : Bool) (n : ℕ) → cond b (Some n) None ≡ None → b ≡ false
nowhere true n e = absurd (cc)
nowhere false n e = refl

-- where there is an LF
pub lines-first : (text : List ℕ) (at : ℕ) → position is_lf text ≡ Some at
    → lines text ≡ strip_carriage_return (take at text) ∷ lines (drop (at + 1) text)
lines-first text at e =
    let n = position_or_len is_lf text in
    let f = found (nat_lt n (length text)) n at e in
    let rest = slice_split is_lf (drop (at + 1) text) in
    let split : slice_split is_lf text ≡ take at text ∷ rest = rw (← f.1) (slice_split_first is_lf text 0 (ltb-true _ _ f.0)) in
    let some : 0 < length rest = omega (arith, length-slice_split is_lf (drop (at + 1) text)) in
    ap lines_of_parts split ∙ more_parts (take at text) rest some

-- where there is none
pub lines-last : (text : List ℕ) → position is_lf text ≡ None → 0 < length text → lines text ≡ text ∷ []
lines-last text e some =
    let n = position_or_len is_lf text in
    let past : length text ≤ n = ltb-false _ _ (nowhere (nat_lt n (length text)) n e) in
    let one = slice_split_none is_lf text (λ k d h. fails_before_first is_lf text k d (omega arith)) in
    ap lines_of_parts one ∙ alone text some
  where
    alone : (xs : List ℕ) → 0 < length xs → lines_of_parts (xs ∷ []) ≡ xs ∷ []
    alone [] h = absurd (omega arith)
    alone (x ∷ xs) h = search (rules, tests)
