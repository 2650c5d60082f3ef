-- The first line of a text, by the place of its LF.
use Rattle.std.proofs.Common.{◌≡◌, ◌==◌, ℕ, suc, ◌+◌, ◌<◌, ◌≤◌, Bool, true, false, not, cond, List, [], ◌∷◌, Some, None, length, take, drop, nat_lt, ltb-true, ltb-false, refl, ap, arith}
use Rattle.std.specs.List.{position, position_or_len}
use Rattle.ms_monitor.specs.Traces.{lengthened, lines_of}

abbrev is_lf : ℕ → Bool
is_lf b = b == 10

-- one byte more in front, which is an LF or not
one_more : (b : ℕ) (bs : List ℕ) (t : Bool) → let n = position_or_len is_lf bs in (n < length bs → lines_of bs ≡ take n bs ∷ lines_of (drop (n + 1) bs))
    → cond (not t) (1 + n) 0 < length (b ∷ bs)
    → cond t ([] ∷ lines_of bs) (lengthened b (lines_of bs)) ≡ take (cond (not t) (1 + n) 0) (b ∷ bs) ∷ lines_of (drop (cond (not t) (1 + n) 0 + 1) (b ∷ bs))
one_more b bs true behind below = refl
one_more b bs false behind below =
    let n = position_or_len is_lf bs in
    let front : 1 + n ≡ suc n = omega arith in
    let after : 1 + n + 1 ≡ suc (n + 1) = omega arith in
    rw (after, front) (ap (lengthened b) (behind (omega (arith, below))))

up_to_lf : (text : List ℕ) → let n = position_or_len is_lf text in n < length text → lines_of text ≡ take n text ∷ lines_of (drop (n + 1) text)
up_to_lf [] below = absurd (omega arith)
up_to_lf (b ∷ bs) below = one_more b bs (b == 10) (up_to_lf bs) below

last_more : (b : ℕ) (bs : List ℕ) (t : Bool) → let n = position_or_len is_lf bs in (0 < length bs → length bs ≤ n → lines_of bs ≡ bs ∷ [])
    → length (b ∷ bs) ≤ cond (not t) (1 + n) 0 → cond t ([] ∷ lines_of bs) (lengthened b (lines_of bs)) ≡ (b ∷ bs) ∷ []
last_more b bs true behind past = absurd (omega (arith, past))
last_more b [] false behind past = refl
last_more b (c ∷ cs) false behind past = ap (lengthened b) (behind (omega arith) (omega (arith, past)))

up_to_end : (text : List ℕ) → 0 < length text → length text ≤ position_or_len is_lf text → lines_of text ≡ text ∷ []
up_to_end [] some past = absurd (omega arith)
up_to_end (b ∷ bs) some past = last_more b bs (b == 10) (up_to_end bs) past

found : (b : Bool) (n at : ℕ) → cond b (Some n) None ≡ Some at → (b ≡ true) × (n ≡ at)
found true n at e = (refl, cc)
found false n at e = absurd (cc)

nowhere : (b : Bool) (n : ℕ) → cond b (Some n) None ≡ None → b ≡ false
nowhere true n e = absurd (cc)
nowhere false n e = refl

-- where there is an LF
pub line_and_rest : (text : List ℕ) (at : ℕ) → position is_lf text ≡ Some at → lines_of text ≡ take at text ∷ lines_of (drop (at + 1) text)
line_and_rest text at e =
    let n = position_or_len is_lf text in
    let f = found (nat_lt n (length text)) n at e in
    rw (← f.1) (up_to_lf text (ltb-true _ _ f.0))

-- where there is none
pub last_line : (text : List ℕ) → position is_lf text ≡ None → 0 < length text → lines_of text ≡ text ∷ []
last_line text e some = up_to_end text some (ltb-false _ _ (nowhere (nat_lt (position_or_len is_lf text) (length text)) _ e))
