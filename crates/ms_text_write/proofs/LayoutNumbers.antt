-- What is written of a number is a number token, whatever number it is.
use Rattle.std.proofs.Common.{◌≡◌, ℕ, zero, suc, ◌/◌, ◌%◌, ◌<◌, ◌≤◌, Bool, true, false, cond, List, [], ◌∷◌, ◌++◌, refl, arith, eqb, ltb}
use Rattle.std.specs.Prelude.{ℤ, pos, negsuc, ◌==◌, codes, decimal}
use Rattle.std.specs.Fmt.{digit_glyph, digits, digits_onto, signed_decimal}
use Rattle.std.proofs.lemmas.Bool.Decides.{nat_tests}
use Rattle.ms_bytes.specs.Texts.{all_pass}
use Rattle.ms_text_lex.specs.declared.token.Kind.TheVariants.{Number}
use Rattle.ms_text_lex.specs.Classes.{is_decimal, is_idchar}
use Rattle.ms_text_lex.specs.Words.{are_digits, has_sign, is_hexadecimal, is_id, is_unsigned}
use Rattle.ms_module.specs.Instructions.{has_inside, is_float_word}
use Rattle.ms_text_grammar.specs.Keywords.{align_is, offset_is}
use Rattle.ms_text_write.proofs.LayoutSteps.{IsToken}

-- decimal digits alone, and at least one
abbrev pub AllDigits : List ℕ → Type 0
AllDigits [] = Unit {0}
AllDigits (b ∷ bs) = (48 ≤ b) × (b ≤ 57) × AllDigits bs

abbrev Digits : List ℕ → Type 0
Digits [] = ⊥
Digits (b ∷ bs) = (48 ≤ b) × (b ≤ 57) × AllDigits bs

either : (b : Bool) (x y : List ℕ) → Digits x → Digits y → Digits (cond b x y)
either true x y p q = p
either false x y p q = q

all_of : (x : List ℕ) → Digits x → AllDigits x
all_of [] d = tt
all_of (b ∷ bs) d = d

glyph : (n : ℕ) (acc : List ℕ) → AllDigits acc → Digits (digit_glyph false (n % 10) ∷ acc)
glyph n acc a =
    let low : n % 10 < 10 = omega arith in
    let t : ltb (n % 10) 10 ≡ true = grind (arith, nat_tests) in
    rw t (omega arith, omega arith, a)

onto : (k n : ℕ) (acc : List ℕ) → Digits acc → Digits (digits_onto k 10 false n acc)
onto zero n acc d = d
onto (suc k) n acc d =
    let g = glyph n acc (all_of acc d) in
    either (n / 10 == 0) _ _ g (onto k (n / 10) (digit_glyph false (n % 10) ∷ acc) g)

begun : (k n : ℕ) → Digits (digits_onto (suc k) 10 false n [])
begun k n =
    let g = glyph n [] tt in
    either (n / 10 == 0) _ _ g (onto k (n / 10) (digit_glyph false (n % 10) ∷ []) g)

decimal_digits : (n : ℕ) → Digits (decimal n)
unfolding digits
decimal_digits n = begun 63 n

-- ---- what digits are as a token

digit_idchar : (b : ℕ) → 48 ≤ b → b ≤ 57 → is_idchar b ≡ true
digit_idchar b low high = grind (arith, nat_tests)

pub all_idchars : (bs : List ℕ) → AllDigits bs → all_pass is_idchar bs ≡ true
all_idchars [] a = refl
all_idchars (b ∷ bs) a = rw (digit_idchar b a.0 a.1) (all_idchars bs a.2)

decimal_digit : (b : ℕ) → 48 ≤ b → b ≤ 57 → is_decimal b ≡ true
decimal_digit b low high = grind (arith, nat_tests)

no_underscore : (b : ℕ) → b ≤ 57 → eqb b 95 ≡ false
no_underscore b h = grind (arith, nat_tests)

all_digits : (bs : List ℕ) → AllDigits bs → are_digits false false bs ≡ true
all_digits [] a = refl
all_digits (b ∷ bs) a = rw (no_underscore b a.1, decimal_digit b a.0 a.1) (all_digits bs a.2)

not_hexadecimal : (b : ℕ) (bs : List ℕ) → AllDigits bs → is_hexadecimal (b ∷ bs) ≡ false
not_hexadecimal b [] a = refl
not_hexadecimal b (c ∷ bs) a = let high : c ≤ 57 = a.1 in grind (arith, nat_tests)

no_sign : (b : ℕ) (bs : List ℕ) → 48 ≤ b → has_sign (b ∷ bs) ≡ false
no_sign b bs low = grind (arith, nat_tests)

no_id : (b : ℕ) (bs : List ℕ) → 48 ≤ b → is_id (b ∷ bs) ≡ false
no_id b [] low = refl
no_id b (c ∷ bs) low = grind (arith, nat_tests)

unsigned : (x : List ℕ) → Digits x → is_unsigned x ≡ true
unsigned [] d = absurd d
unsigned (b ∷ bs) d = rw (not_hexadecimal b bs d.2, no_underscore b d.1, decimal_digit b d.0 d.1) (all_digits bs d.2)

digits_token : (x : List ℕ) → Digits x → IsToken Number x
digits_token [] d = absurd d
digits_token (b ∷ bs) d = record {
  chars = all_idchars (b ∷ bs) d;
  first = digit_idchar b d.0 d.1;
  is = rw (no_id b bs d.0, no_sign b bs d.0, unsigned (b ∷ bs) d) refl;
}

pub decimal_token : (n : ℕ) → IsToken Number (decimal n)
decimal_token n = digits_token (decimal n) (decimal_digits n)

pub decimal_idchars : (n : ℕ) → all_pass is_idchar (decimal n) ≡ true
decimal_idchars n = all_idchars (decimal n) (all_of (decimal n) (decimal_digits n))

minus_no_id : (x : List ℕ) → is_id (45 ∷ x) ≡ false
minus_no_id [] = refl
minus_no_id (b ∷ bs) = refl

minus_token : (x : List ℕ) → Digits x → IsToken Number (45 ∷ x)
minus_token x d = record { chars = all_idchars x (all_of x d); first = refl; is = rw (minus_no_id x, unsigned x d) refl }

pub constant_token : (z : ℤ) → IsToken Number (signed_decimal z)
constant_token (pos n) = decimal_token n
constant_token (negsuc n) = minus_token (decimal (suc n)) (decimal_digits (suc n))

-- ---- digits behind a front are no word of floating-point numbers

not_underscore : (b : ℕ) → b ≤ 57 → eqb 95 b ≡ false
not_underscore b h = grind (arith, nat_tests)

no_underscored : (part bs : List ℕ) → AllDigits bs → has_inside (95 ∷ part) bs ≡ false
no_underscored part [] a = refl
no_underscored part (b ∷ bs) a = rw (not_underscore b a.1, no_underscored part bs a.2) refl

pub offset_no_float : (n : ℕ) → is_float_word (offset_is ++ decimal n) ≡ false
offset_no_float n = let a = all_of (decimal n) (decimal_digits n) in rw (no_underscored (codes "f32") (decimal n) a, no_underscored (codes "f64") (decimal n) a) refl

pub align_no_float : (n : ℕ) → is_float_word (align_is ++ decimal n) ≡ false
align_no_float n = let a = all_of (decimal n) (decimal_digits n) in rw (no_underscored (codes "f32") (decimal n) a, no_underscored (codes "f64") (decimal n) a) refl
