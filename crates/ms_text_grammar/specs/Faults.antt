-- Formats of tokens, and where reading them stops.
use Rattle.std.specs.Prelude.{◌&&◌, ℕ, Bool, true, false, List, [], ◌∷◌, Option, Some, None, if◌then◌else◌}
use Rattle.ms_bytes.specs.Format.{Format}
use Rattle.ms_text_lex.specs.declared.token.Token.{Token}
use Rattle.ms_text_lex.specs.Tokens.{text_of}
use Rattle.ms_module.specs.Instructions.{is_float_word}
use Rattle.ms_text_grammar.specs.declared.fault.TextFault.{TextFault}
use Rattle.ms_text_grammar.specs.declared.fault.TextFault.TheVariants.{Float, Syntax}
use Rattle.ms_text_grammar.specs.Tokens.{is_keyword}

abbrev pub Textual : Type 0 → Type 1
Textual A = Format Token TextFault A

-- the place of the next token, in a text that ends there
abbrev pub place_of : ℕ → List Token → ℕ
place_of end [] = end
place_of end (t ∷ ts) = t.at

-- whether a token is a keyword of floating-point numbers
abbrev pub is_float : List ℕ → Token → Bool
is_float source t = is_keyword t.kind && is_float_word (text_of source t)

-- the token that stands there may not
abbrev pub bad : List ℕ → ℕ → List Token → TextFault
bad source end [] = Syntax end
bad source end (t ∷ ts) = if is_float source t then Float t.at else Syntax t.at

abbrev pub kept : {A : Type 0} → Bool → A → Option A
kept true x = Some x
kept false x = None
