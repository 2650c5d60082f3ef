-- Strings that are written are read as what they are.
use Rattle.std.proofs.Common.{◌≡◌, ℕ, ◌+◌, ◌-◌, ◌*◌, ◌/◌, ◌%◌, ◌<◌, ◌≤◌, Bool, true, false, List, [], ◌∷◌, ◌++◌, All, length, refl, sym, ap, subst, ◌∙◌, arith, eqb, ltb, append_assoc}
use Rattle.std.specs.Prelude.{Some}
use Rattle.std.specs.List.{flat_map}
use Rattle.std.proofs.lemmas.Bool.Decides.{nat_tests}
use Rattle.std.proofs.lemmas.List.{append-nil}
use Rattle.std.proofs.lemmas.List.Elements.{All-head, All-tail}
use Rattle.ms_bytes.specs.Runs.{Runs, goes, rests}
use Rattle.ms_text_lex.specs.Classes.{hex, is_between}
use Rattle.ms_text_lex.specs.Strings.{behind_escape, behind_first, escape, escape_of, piece, plain_byte, string_goes}
use Rattle.ms_text_lex.specs.Values.{bytes_in, element, elements, string_bytes}
use Rattle.ms_text_lex.specs.declared.strings.Escape.TheVariants.{High}
use Rattle.ms_text_lex.specs.declared.strings.Piece.TheVariants.{Byte}
use Rattle.ms_text_write.specs.refinement.ReadBack.{StringIsRead}
use Rattle.ms_text_write.specs.Parts.{byte_text, hex_digit, is_itself, string_text}

-- ---- digits

digit_low : (d : ℕ) → d < 10 → hex_digit d ≡ 48 + d
digit_low d h = let e : ltb d 10 ≡ true = grind (arith, nat_tests) in rw e refl

digit_high : (d : ℕ) → 10 ≤ d → hex_digit d ≡ 87 + d
digit_high d h = let e : ltb d 10 ≡ false = grind (arith, nat_tests) in rw e refl

hex_of : (d : ℕ) → d < 16 → hex (hex_digit d) ≡ Some d
hex_of d h = go (ltb d 10) refl where
  go : (t : Bool) → ltb d 10 ≡ t → hex (hex_digit d) ≡ Some d
  go true e = let k : d < 10 = grind (arith, nat_tests) in let t : is_between 48 57 (48 + d) ≡ true = grind (arith, nat_tests) in let m : 48 + d - 48 ≡ d = omega arith in rw (digit_low d k, t, m) refl
  go false e = let k : 10 ≤ d = grind (arith, nat_tests) in let t : is_between 48 57 (87 + d) ≡ false = grind (arith, nat_tests) in let u : is_between 97 102 (87 + d) ≡ true = grind (arith, nat_tests) in let m : 87 + d - 87 ≡ d = omega arith in rw (digit_high d k, t, u, m) refl

escape_at : (b d : ℕ) → b ≤ 102 → hex b ≡ Some d → (eqb b 34 ≡ false) → (eqb b 39 ≡ false) → (eqb b 92 ≡ false) → escape_of b ≡ Some (High d)
escape_at b d h e q a s =
    let t1 : eqb b 116 ≡ false = grind (arith, nat_tests) in
    let t2 : eqb b 110 ≡ false = grind (arith, nat_tests) in
    let t3 : eqb b 114 ≡ false = grind (arith, nat_tests) in
    let t4 : eqb b 117 ≡ false = grind (arith, nat_tests) in
    rw (t1, t2, t3, q, a, s, t4, e) refl

escape_digit : (d : ℕ) → d < 16 → escape_of (hex_digit d) ≡ Some (High d)
escape_digit d h = go (ltb d 10) refl where
  go : (t : Bool) → ltb d 10 ≡ t → escape_of (hex_digit d) ≡ Some (High d)
  go true e =
      let k : d < 10 = grind (arith, nat_tests) in
      let f : hex (48 + d) ≡ Some d = sym (ap hex (digit_low d k)) ∙ hex_of d h in
      rw (digit_low d k) (escape_at (48 + d) d (omega arith) f (grind (arith, nat_tests)) (grind (arith, nat_tests)) (grind (arith, nat_tests)))
  go false e =
      let k : 10 ≤ d = grind (arith, nat_tests) in
      let f : hex (87 + d) ≡ Some d = sym (ap hex (digit_high d k)) ∙ hex_of d h in
      rw (digit_high d k) (escape_at (87 + d) d (omega arith) f (grind (arith, nat_tests)) (grind (arith, nat_tests)) (grind (arith, nat_tests)))

-- ---- elements

itself_taken : (b : ℕ) (s : List ℕ) → is_itself b ≡ true → piece.spelled (b ∷ s) (Byte b) s
unfolding piece behind_first
itself_taken b s e =
    let plain : plain_byte b ≡ Some b = grind (arith, nat_tests) in
    let slash : eqb b 92 ≡ false = grind (arith, nat_tests) in
    (b, s, (b, refl, plain), rw slash (refl, refl))

escape_taken : (b : ℕ) (s : List ℕ) → b < 256 → piece.spelled (0x5C ∷ hex_digit (b / 16) ∷ hex_digit (b % 16) ∷ s) (Byte b) s
unfolding piece behind_first escape behind_escape
escape_taken b s h =
    let high : b / 16 < 16 = omega arith in
    let low : b % 16 < 16 = omega arith in
    let sum : b ≡ b / 16 * 16 + b % 16 = omega arith in (
      0x5C,
      hex_digit (b / 16) ∷ hex_digit (b % 16) ∷ s,
      (0x5C, refl, refl),
      (
        High (b / 16),
        hex_digit (b % 16) ∷ s,
        (hex_digit (b / 16), refl, escape_digit (b / 16) high),
        (b % 16, s, (hex_digit (b % 16), refl, hex_of (b % 16) low), (ap Byte sum, refl)),
      ),
    )

byte_taken : (b : ℕ) (s : List ℕ) → b < 256 → (piece.spelled (byte_text b ++ s) (Byte b) s) × (string_goes {S = List ℕ} [] (byte_text b ++ s) ≡ true)
byte_taken b s h = go (is_itself b) refl where
  go : (t : Bool) → is_itself b ≡ t → (piece.spelled (byte_text b ++ s) (Byte b) s) × (string_goes {S = List ℕ} [] (byte_text b ++ s) ≡ true)
  go true e = let quote : eqb b 34 ≡ false = grind (arith, nat_tests) in rw e (itself_taken b s e, rw quote refl)
  go false e = rw e (escape_taken b s h, refl)

bytes_taken : (done bs rest : List ℕ) → All (λ b. b < 256) bs → Runs string_goes element done (flat_map byte_text bs ++ 34 ∷ rest) (done ++ bs) (34 ∷ rest)
unfolding element
bytes_taken done [] rest h = rw append-nil (rests refl)
bytes_taken done (b ∷ bs) rest h =
    let first : b < 256 = All-head (λ c. c < 256) b bs h in
    let more = All-tail (λ c. c < 256) b bs h in
    let left = flat_map byte_text bs ++ 34 ∷ rest in
    let taken = byte_taken b left first in
    let all = subst (λ (l : List ℕ). Runs string_goes element (done ++ b ∷ []) left l (34 ∷ rest)) (append_assoc done (b ∷ []) bs) (bytes_taken (done ++ b ∷ []) bs rest more) in
    subst (λ (s : List ℕ). Runs string_goes element done s (done ++ b ∷ bs) (34 ∷ rest)) (sym (append_assoc (byte_text b) (flat_map byte_text bs) (34 ∷ rest)))
    (goes (done ++ b ∷ []) taken.1 (Byte b, left, taken.0, (refl, refl)) all)

-- a string that is written is a string of these bytes, wherever it stands
string_taken : (bs rest : List ℕ) → All (λ b. b < 256) bs → string_bytes.spelled (string_text bs ++ rest) bs rest
unfolding string_bytes elements string_text
string_taken bs rest h =
    rw (append_assoc (flat_map byte_text bs) (34 ∷ []) rest)
    (34, flat_map byte_text bs ++ 34 ∷ rest, (34, refl, refl), (bs, 34 ∷ rest, bytes_taken [] bs rest h, (34, rest, (34, refl, refl), (refl, refl))))

string_read : (bs : List ℕ) → All (λ b. b < 256) bs → bytes_in (string_text bs) ≡ bs
unfolding bytes_in
string_read bs h =
    let text = string_text bs in
    let all = subst (λ (s : List ℕ). string_bytes.spelled s bs []) (append-nil text) (string_taken bs [] h) in
    rw (string_bytes.again (length text) text bs [] all) refl

pub string_is_read : (bs : List ℕ) → All (λ b. b < 256) bs → StringIsRead bs
string_is_read bs h = (λ rest. string_taken bs rest h, string_read bs h)
