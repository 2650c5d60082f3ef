-- What a string stands for: the bytes of its elements, one behind the other (WebAssembly 1.0, 6.3.3).
use Rattle.std.specs.Prelude.{◌≡◌, ℕ, List, [], ◌∷◌, ◌++◌, length, Result, Ok, Err, encode_utf8}
use Rattle.std.proofs.Common.{arith}
use Rattle.ms_bytes.specs.Format.{Format}
use Rattle.ms_bytes.specs.Parts.{item, pure}
use Rattle.ms_bytes.specs.Runs.{TakesItem}
use Rattle.ms_bytes.specs.RunLaws.{takes_least}
use Rattle.ms_bytes.specs.Repetition.{run}
use Rattle.ms_text_lex.specs.declared.strings.Piece.{Piece}
use Rattle.ms_text_lex.specs.declared.strings.Piece.TheVariants.{Byte, Scalar}
use Rattle.ms_text_lex.specs.declared.token.Kind.TheVariants.{Text}
use Rattle.ms_text_lex.specs.declared.token.Token.{Token}
use Rattle.ms_text_lex.specs.Fault.{Fault, broken, this, ◌>>=◌}
use Rattle.ms_text_lex.specs.Strings.{piece, string_goes}
use Rattle.ms_text_lex.specs.Tokens.{text_of}

-- a byte, or a character in UTF-8
abbrev pub bytes_of : Piece → List ℕ
bytes_of (Byte b) = b ∷ []
bytes_of (Scalar c) = encode_utf8 c

-- the bytes so far, and those of one element more
unfoldable pub element : List ℕ → Format ℕ Fault (List ℕ)
element bytes = do
  p ← piece
  pure (bytes ++ bytes_of p)

pub element_takes : TakesItem {F = Fault} string_goes element
unfolding element piece
element_takes = takes_least string_goes element (λ bytes. omega arith)

unfoldable pub elements : Format ℕ Fault (List ℕ)
elements = run broken string_goes element element_takes []

-- a string in its quotes, with its bytes
unfoldable pub string_bytes : Format ℕ Fault (List ℕ)
string_bytes = do
  begin ← item broken (this 34)
  bytes ← elements
  close ← item broken (this 34)
  pure bytes

abbrev pub or_nothing : Result (List ℕ × List ℕ) Fault → List ℕ
or_nothing (Ok x) = x.0
or_nothing (Err e) = []

-- what a string stands for, or nothing for any other text
unfoldable pub bytes_in : List ℕ → List ℕ
bytes_in text = or_nothing (string_bytes.read (length text) text)

-- the text is a string, and stands for these bytes
abbrev pub StandsFor : List ℕ → List ℕ → Type 0
StandsFor text bytes = string_bytes.spelled text bytes []

-- what a string token stands for
abbrev pub value_of : List ℕ → Token → List ℕ
value_of source token = bytes_in (text_of source token)

-- if the token is a string, then it is one that stands for this
abbrev pub HasValue : List ℕ → Token → Type 0
HasValue source token = token.kind ≡ Text → StandsFor (text_of source token) (value_of source token)
