-- How many bytes there are.
use Rattle.std.proofs.Common.{◌≡◌, ℕ, zero, suc, ◌-◌, ◌<◌, ◌≤◌, ◌^◌, List, [], ◌∷◌, length, get_or, true, eqb, inl, inr, sym, subst, ◌∙◌, arith}
use Rattle.std.specs.Prelude.{OnOk, Result, Ok, Err}
use Rattle.std.specs.List.{flat_map}
use Rattle.std.proofs.lemmas.Bool.{cases_lt, eqb-true}
use Rattle.std.proofs.lemmas.List.{length-append, nil_from_length}
use Rattle.ms_leb.specs.Leb128.{IsUnsigned}
use Rattle.ms_leb.specs.Shortest.{shortest_unsigned}
use Rattle.ms_leb.proofs.Spelling.{unsigned_last, unsigned_more, unsigned_spelled}
use Rattle.ms_flat.specs.refinement.Ranges.{AllFit}
use Rattle.ms_bin_write.specs.Parts.{number_bytes, sized_bytes, vec_bytes}

-- a fact whatever the answer
pub on_ok : {A E : Type 0} (r : Result A E) (P : Type 0) → P → OnOk r P
on_ok (Ok x) P p = p
on_ok (Err e) P p = tt

pub on_ok_too : {A E : Type 0} (r : Result A E) (P Q : Type 0) → OnOk r P → (P → Q) → OnOk r Q
on_ok_too (Ok x) P Q p f = f p
on_ok_too (Err e) P Q p f = tt

-- an error that is handed on
pub same_err : {A E : Type 0} (r : Result A E) (x y z : E) → r ≡ Err x → x ≡ y → r ≡ Err z → ◌≡◌ {A = Result A E} (Err y) (Err z)
same_err {A} {E} r x y z e f g = let h : ◌≡◌ {A = Result A E} (Err x) (Err z) = sym e ∙ g in subst (λ (v : E). ◌≡◌ {A = Result A E} (Err v) (Err z)) f h

-- each byte has seven bits, but the last one
unsigned_len : (bits : ℕ) (front : List ℕ) (n : ℕ) → IsUnsigned bits front n → length front ≤ suc bits
unsigned_len bits [] n h = absurd h
unsigned_len bits (b ∷ []) n h = omega arith
unsigned_len bits (b ∷ c ∷ bs) n h = let i = unsigned_len (bits - 7) (c ∷ bs) h.2.0 h.2.1 in omega (arith, h.1)

pub number_len : (n : ℕ) → n < 2 ^ 32 → length (number_bytes n) < 2 ^ 32
number_len n lt = let le = unsigned_len 32 (shortest_unsigned n) n (unsigned_spelled 32 n lt) in omega arith

-- a number has a byte
pub number_any : (n : ℕ) → 1 ≤ length (number_bytes n)
number_any n = elim (cases_lt n 128) [ inl lt ↦ rw (unsigned_last n lt) (omega arith) | inr le ↦ rw (unsigned_more n le) (omega arith) ]

pub number_some : (n : ℕ) → n < 2 ^ 32 → 1 ≤ length (number_bytes n)
number_some n lt = number_any n

pub sized_len : (bs : List ℕ) → length bs ≤ length (sized_bytes bs)
unfolding sized_bytes
sized_len bs = omega (arith, length-append (number_bytes (length bs)) bs)

pub sized_some : (bs : List ℕ) → 1 ≤ length (sized_bytes bs)
unfolding sized_bytes
sized_some bs = omega (arith, length-append (number_bytes (length bs)) bs, number_any (length bs))

pub vec_len : {A : Type 0} (text : A → List ℕ) (xs : List A) → length (flat_map text xs) ≤ length (vec_bytes text xs)
unfolding vec_bytes
vec_len text xs = omega (arith, length-append (number_bytes (length xs)) (flat_map text xs))

-- no items
pub none_few : {A : Type 0} (text : A → List ℕ) (xs : List A) → eqb (length xs) 0 ≡ true → length (vec_bytes text xs) < 2 ^ 32
unfolding vec_bytes
none_few text xs e =
    let none : xs ≡ [] = nil_from_length xs (eqb-true (length xs) 0 e) in
    rw none (omega (arith, length-append (number_bytes 0) [], number_len 0 (omega arith)))

-- the bytes of one item
among : {A : Type 0} (text : A → List ℕ) (xs : List A) (i : ℕ) (x : A) → i < length xs → x ≡ get_or xs i x → length (text x) ≤ length (flat_map text xs)
among text [] i x lt e = absurd (omega arith)
among text (y ∷ ys) zero x lt e = rw e (omega (arith, length-append (text y) (flat_map text ys)))
among text (y ∷ ys) (suc i) x lt e = let h = among text ys i x (omega arith) e in omega (arith, length-append (text y) (flat_map text ys))

pub among_len : {A : Type 0} (text : A → List ℕ) (xs : List A) (i : ℕ) (x : A) → i < length xs → x ≡ get_or xs i x → length (text x) ≤ length (vec_bytes text xs)
among_len text xs i x lt e = let a = among text xs i x lt e in let b = vec_len text xs in omega arith

-- no more items than bytes, where each has a byte
pub count_few : {A : Type 0} (text : A → List ℕ) (fits : A → Type 0) → ((x : A) → fits x → 1 ≤ length (text x)) → (xs : List A) → AllFit fits xs → length xs ≤ length (flat_map text xs)
count_few text fits some [] h = omega arith
count_few text fits some (x ∷ xs) h = let r = count_few text fits some xs h.1 in omega (arith, length-append (text x) (flat_map text xs), some x h.0)
