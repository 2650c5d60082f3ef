-- Tokens rise in the text that they are lexed from, and lexing ends where the text does.
use Rattle.std.proofs.Common.{◌≡◌, ℕ, ◌≤◌, ◌<◌, false, List, [], ◌∷◌, ◌++◌, length, Ok, refl, sym, subst, ap, ◌∙◌, arith}
use Rattle.ms_bytes.specs.Spot.{place_of}
use Rattle.ms_bytes.specs.ResultLaws.{ok_is}
use Rattle.ms_bytes.specs.Runs.{Runs, goes, rests}
use Rattle.ms_bytes.specs.RunLaws.{run_last}
use Rattle.ms_text_lex.specs.declared.leads.Lead.{Lead}
use Rattle.ms_text_lex.specs.declared.leads.Lead.TheVariants as leads
use Rattle.ms_text_lex.specs.declared.token.Kind.{Kind}
use Rattle.ms_text_lex.specs.declared.token.Kind.TheVariants.{Close, Open, Text}
use Rattle.ms_text_lex.specs.declared.token.Token.{Token}
use Rattle.ms_text_lex.specs.Fault.{Fault}
use Rattle.ms_text_lex.specs.Lexing.{Lexes, behind, here, lead_of, lexeme, lexeme_takes, lexemes, lexing_goes, token}
use Rattle.ms_text_lex.specs.Tokens.{Rises}

nothing_left : (ts : List Token) (s : List ℕ) → lexing_goes ts s ≡ false → s ≡ []
nothing_left ts [] e = refl
nothing_left ts (b ∷ s) e = absurd cc

all_lexed : (size : ℕ) (s : List ℕ) (ts : List Token) (t : List ℕ) → (lexemes size).spelled s ts t → t ≡ []
unfolding lexemes
all_lexed size s ts t h = nothing_left ts t (run_last {F = Fault} lexing_goes (lexeme size) h)

pub is_found : (bytes : List ℕ) (tokens : List Token) (t : List ℕ) → (lexemes (length bytes)).read (length bytes) bytes ≡ Ok (tokens, t) → Lexes bytes tokens
is_found bytes tokens t e =
    let h = (lexemes (length bytes)).takes (length bytes) bytes tokens t e in
    subst (λ (l : List ℕ). (lexemes (length bytes)).spelled bytes tokens l) (all_lexed (length bytes) bytes tokens t h) h

-- tokens that rise up to a place, and one more behind it
rises_more : (from end : ℕ) (ts : List Token) (t : Token) (size : ℕ) → Rises from end ts → end ≤ t.at → t.at < t.end → t.end ≤ size → Rises from size (ts ++ t ∷ [])
rises_more from end [] t size h a b c = (omega arith, b, c)
rises_more from end (x ∷ ts) t size h a b c = (h.0, h.1, rises_more x.end end ts t size h.2 a b c)

rises_on : (from end size : ℕ) (ts : List Token) → Rises from end ts → end ≤ size → Rises from size ts
rises_on from end size [] h le = omega arith
rises_on from end size (x ∷ ts) h le = (h.0, h.1, rises_on x.end end size ts h.2 le)

-- what is lexed at the place of s, up to t
module _ (size : ℕ) (ts next : List Token) (s t : List ℕ) (fits : length s ≤ size) (so_far : Rises 0 (place_of size s) ts) (takes : length t < length s) where
  passed : next ≡ ts → Rises 0 (place_of size t) next
  passed e = rw e (rises_on 0 (place_of size s) (place_of size t) ts so_far (omega arith))

  added : (kind : Kind) (end : ℕ) → next ≡ ts ++ token kind (place_of size s) end ∷ [] → end ≡ place_of size t → Rises 0 (place_of size t) next
  added kind end e is = rw (e, is) (rises_more 0 (place_of size s) ts (token kind (place_of size s) (place_of size t)) (place_of size t) so_far (omega arith) (omega arith) (omega arith))

  behind_rises : (lead : Lead) → (behind size ts (place_of size s) lead).spelled s next t → Rises 0 (place_of size t) next
  unfolding behind here
  behind_rises leads.Blanks h = passed h.3.3.0
  behind_rises leads.LineComment h = passed h.3.0
  behind_rises leads.BlockComment h = passed h.3.0
  behind_rises leads.Open h = added Open h.3.0 h.3.3.0 (h.3.2.0 ∙ ap (place_of size) (h.3.2.1 ∙ h.3.3.1))
  behind_rises leads.Close h = added Close h.3.0 h.3.3.0 (h.3.2.0 ∙ ap (place_of size) (h.3.2.1 ∙ h.3.3.1))
  behind_rises leads.Quote h = added Text h.3.0 h.3.3.0 (h.3.2.0 ∙ ap (place_of size) (h.3.2.1 ∙ h.3.3.1))
  behind_rises leads.Word h = added h.0 h.3.0 h.3.3.0 (h.3.2.0 ∙ ap (place_of size) (h.3.2.1 ∙ h.3.3.1))
  behind_rises leads.Nothing h = absurd h

  lexeme_rises : (lexeme size ts).spelled s next t → Rises 0 (place_of size t) next
  unfolding lexeme
  lexeme_rises h = behind_rises (lead_of s) h

all_rise : (size : ℕ) {ts last : List Token} {s u : List ℕ} → Runs lexing_goes (lexeme size) ts s last u → length s ≤ size → Rises 0 (place_of size s) ts → Rises 0 (place_of size u) last
all_rise size (rests h) fits so_far = so_far
all_rise size (goes {st = ts} {s = s} {t = t} next g h r) fits so_far =
    let lt = lexeme_takes size ts s next t g h in
    all_rise size r (omega arith) (lexeme_rises size ts next s t fits so_far lt h)

pub rise : (bytes : List ℕ) (tokens : List Token) → Lexes bytes tokens → Rises 0 (length bytes) tokens
unfolding lexemes
rise bytes tokens h = rises_on 0 (place_of {E = ℕ} (length bytes) []) (length bytes) tokens (all_rise (length bytes) h (omega arith) (omega arith)) (omega arith)

pub one : (bytes : List ℕ) (tokens others : List Token) → Lexes bytes tokens → Lexes bytes others → tokens ≡ others
one bytes tokens others h k =
    let e = (lexemes (length bytes)).again (length bytes) bytes tokens [] h in
    let f = (lexemes (length bytes)).again (length bytes) bytes others [] k in
    ap (λ (q : List Token × List ℕ). q.0) (ok_is {F = Fault} (tokens, []) (others, []) (sym e ∙ f))
