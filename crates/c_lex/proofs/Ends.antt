-- Lexing ends where the text does.
use Rattle.std.proofs.Common.{◌≡◌, ℕ, false, List, [], ◌∷◌, length, Ok, refl, sym, subst, ◌∙◌}
use Rattle.ms_bytes.specs.RunLaws.{run_last}
use Rattle.c_token.specs.declared.word.Token.{Token}
use Rattle.c_lex.specs.Fault.{Fault}
use Rattle.c_lex.specs.Lexing.{Lexed, Lexes, lexeme, lexemes, lexing_goes, token_list}

nothing_left : (st : Lexed) (s : List ℕ) → lexing_goes st s ≡ false → s ≡ []
nothing_left st [] e = refl
nothing_left st (b ∷ s) e = absurd cc

all_lexed : (size : ℕ) (s : List ℕ) (st : Lexed) (t : List ℕ) → (lexemes size).spelled s st t → t ≡ []
unfolding lexemes
all_lexed size s st t h = nothing_left st t (run_last {F = Fault} lexing_goes (lexeme size) h)

all_taken : (size : ℕ) (s : List ℕ) (tokens : List Token) (t : List ℕ) → (token_list size).spelled s tokens t → t ≡ []
unfolding token_list
all_taken size s tokens t h = sym h.3.1 ∙ all_lexed size s h.0 h.1 h.2

pub is_found : (bytes : List ℕ) (tokens : List Token) (t : List ℕ) → (token_list (length bytes)).read (length bytes) bytes ≡ Ok (tokens, t) → Lexes bytes tokens
is_found bytes tokens t e =
    let h = (token_list (length bytes)).takes (length bytes) bytes tokens t e in
    subst (λ (l : List ℕ). (token_list (length bytes)).spelled bytes tokens l) (all_taken (length bytes) bytes tokens t h) h
