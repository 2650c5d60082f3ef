-- A string that is written is a string token.
use Rattle.std.proofs.Common.{◌≡◌, ℕ, ◌+◌, ◌/◌, ◌%◌, ◌<◌, Bool, true, false, List, [], ◌∷◌, ◌++◌, All, length, refl, arith, ltb, if◌then◌else◌}
use Rattle.std.specs.List.{flat_map}
use Rattle.std.specs.Str.{is_utf8}
use Rattle.std.proofs.lemmas.Bool.Decides.{nat_tests}
use Rattle.std.proofs.lemmas.List.Elements.{All-append, All-cons, All-head, All-nil, All-tail}
use Rattle.std.proofs.lemmas.Str.{IsUtf8-from_ascii, is_utf8-from_IsUtf8}
use Rattle.std.proofs.lemmas.Str.Ascii.{IsAscii-from_all}
use Rattle.ms_bytes.specs.Spot.{place_of}
use Rattle.ms_bytes.specs.Runs.{Runs, goes, rests}
use Rattle.ms_text_lex.specs.declared.strings.Elements.{Elements}
use Rattle.ms_text_lex.specs.declared.token.Kind.TheVariants.{Text}
use Rattle.ms_text_lex.specs.declared.token.Token.{Token}
use Rattle.ms_text_lex.specs.Lexing.{behind, here, lexeme, token}
use Rattle.ms_text_lex.specs.Strings.{quoted, skip_piece, skip_pieces, string, string_goes, string_text as utf8_string}
use Rattle.ms_text_lex.specs.Values.{element, elements, string_bytes}
use Rattle.ms_text_write.specs.Parts.{byte_text, hex_digit, is_itself, string_text}
use Rattle.ms_text_write.proofs.ReadStrings.{string_is_read}
use Rattle.ms_text_write.proofs.LayoutSteps.{At, Past, adds, text_before_is}
use Rattle.ms_text_write.proofs.Pieces.{Piece}
use Rattle.ms_text_write.proofs.Pieces as pieces

-- ---- the elements of a string with its bytes are those without

skipped : {a b s u : List ℕ} → Runs string_goes element a s b u → Runs {S = Elements} string_goes skip_piece (record {}) s (record {}) u
unfolding element skip_piece
skipped (rests h) = rests h
skipped (goes next g h r) = goes (record {}) g (h.0, h.1, h.2, (refl, h.3.1)) (skipped r)

is_quoted : (bs s rest : List ℕ) → string_bytes.spelled s bs rest → quoted.spelled s tt rest
unfolding string_bytes elements quoted skip_pieces
is_quoted bs s rest h = (h.0, h.1, h.2, (record {}, h.3.1, skipped h.3.2, (h.3.3.0, h.3.3.1, h.3.3.2, (refl, h.3.3.3.1))))

-- ---- its text is ASCII

abbrev IsLow : ℕ → Type 0
IsLow b = b < 128

digit_low : (d : ℕ) → d < 16 → IsLow (hex_digit d)
digit_low d h = go (ltb d 10) where
  go : (t : Bool) → IsLow (if t then 48 + d else 87 + d)
  go true = omega arith
  go false = omega arith

byte_low : (b : ℕ) → b < 256 → All IsLow (byte_text b)
byte_low b h = go (is_itself b) refl where
  go : (t : Bool) → is_itself b ≡ t → All IsLow (if t then b ∷ [] else 92 ∷ hex_digit (b / 16) ∷ hex_digit (b % 16) ∷ [])
  go true e = let low : b < 128 = grind (arith, nat_tests) in All-cons IsLow b [] low (All-nil IsLow)
  go false e =
      All-cons IsLow 92 (hex_digit (b / 16) ∷ hex_digit (b % 16) ∷ []) (omega arith)
      (All-cons IsLow (hex_digit (b / 16)) (hex_digit (b % 16) ∷ []) (digit_low (b / 16) (omega arith))
      (All-cons IsLow (hex_digit (b % 16)) [] (digit_low (b % 16) (omega arith)) (All-nil IsLow)))

bytes_low : (bs : List ℕ) → All (λ b. b < 256) bs → All IsLow (flat_map byte_text bs)
bytes_low [] h = All-nil IsLow
bytes_low (b ∷ bs) h = All-append IsLow (byte_text b) (flat_map byte_text bs) (byte_low b (All-head (λ c. c < 256) b bs h)) (bytes_low bs (All-tail (λ c. c < 256) b bs h))

string_low : (bs : List ℕ) → All (λ b. b < 256) bs → All IsLow (string_text bs)
unfolding string_text
string_low bs h =
    All-cons IsLow 34 (flat_map byte_text bs ++ 34 ∷ []) (omega arith)
    (All-append IsLow (flat_map byte_text bs) (34 ∷ []) (bytes_low bs h) (All-cons IsLow 34 [] (omega arith) (All-nil IsLow)))

string_utf8 : (bs : List ℕ) → All (λ b. b < 256) bs → is_utf8 (string_text bs) ≡ true
string_utf8 bs h = is_utf8-from_IsUtf8 (string_text bs) (IsUtf8-from_ascii (string_text bs) (IsAscii-from_all (string_text bs) (string_low bs h)))

-- ---- the token

string_spelled : (size : ℕ) (ts : List Token) (bs rest : List ℕ) → All (λ b. b < 256) bs
    → (lexeme size ts).spelled (string_text bs ++ rest) (ts ++ token Text (place_of size (string_text bs ++ rest)) (place_of size rest) ∷ []) rest
unfolding lexeme behind here string utf8_string string_text
string_spelled size ts bs rest h =
    let is = is_quoted bs (string_text bs ++ rest) rest ((string_is_read bs h).0 rest) in
    let utf8 = rw (← text_before_is (string_text bs) rest) at (string_utf8 bs h) in
    (tt, rest, (is, utf8), (place_of size rest, rest, (refl, refl), (refl, refl)))

pub string_at : {source rest : List ℕ} {ps : List Piece} (bs : List ℕ) → All (λ b. b < 256) bs → Past source rest ps → At source (string_text bs ++ rest) (pieces.string bs ∷ ps)
unfolding string_text
string_at {source} {rest} {ps} bs h past = record {
  starts = refl;
  lexed = adds source (string_text bs) rest ps past.lexed (λ ts. refl) Text (λ ts. string_spelled (length source) ts bs rest h);
}
