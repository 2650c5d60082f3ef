-- A source is lexed from a place in it to its end as the tokens of some pieces: how each token, and the white space between two,
-- goes on to what follows it.
use Rattle.std.proofs.Common.{◌≡◌, ℕ, ◌+◌, ◌-◌, true, false, List, [], ◌∷◌, ◌++◌, length, take, drop, refl, sym, ap, subst, ◌∙◌, arith, eqb, append_assoc, length-append, take_at, drop_at}
use Rattle.std.proofs.lemmas.Bool.Decides.{nat_tests}
use Rattle.ms_bytes.specs.Runs.{Runs, goes}
use Rattle.ms_bytes.specs.Spot.{first_is, place_of}
use Rattle.ms_bytes.specs.Texts.{all_pass, next_passes, text_before}
use Rattle.ms_text_lex.specs.declared.leads.Lead.{Lead}
use Rattle.ms_text_lex.specs.declared.leads.Lead.TheVariants as leads
use Rattle.ms_text_lex.specs.declared.token.Kind.{Kind}
use Rattle.ms_text_lex.specs.declared.token.Kind.TheVariants.{Close, Open}
use Rattle.ms_text_lex.specs.declared.token.Token.{Token}
use Rattle.ms_text_lex.specs.Classes.{is_blank, is_idchar}
use Rattle.ms_text_lex.specs.Lexing.{behind, here, lead_by, lexeme, lexing_goes, token, word}
use Rattle.ms_text_lex.specs.Tokens.{text_of}
use Rattle.ms_text_lex.specs.Words.{kind_of}
use Rattle.ms_text_write.proofs.Pieces.{Piece, Shows, left, more, right}

-- from here on a source is lexed as the tokens of these pieces, whatever tokens came before
abbrev pub Goes : List ℕ → List ℕ → List Piece → Type 0
Goes source s ps = (before : List ℕ) → source ≡ before ++ s → (ts : List Token) → (new : List Token) × Runs lexing_goes (lexeme (length source)) ts s (ts ++ new) [] × Shows source new ps

-- ... where no white space stands
pub record At (source s : List ℕ) (ps : List Piece) : Type 0 where
  pub starts : next_passes is_blank s ≡ false
  pub lexed : Goes source s ps

-- ... where no word goes on
pub record Past (source s : List ℕ) (ps : List Piece) : Type 0 where
  pub ends : next_passes is_idchar s ≡ false
  pub lexed : Goes source s ps

-- ---- the text of a token

cut : (s before x rest : List ℕ) (a n : ℕ) → s ≡ before ++ (x ++ rest) → a ≡ length before → n ≡ length x → take n (drop a s) ≡ x
cut s before x rest a n es ea en = rw (es, ea, en, drop_at before (x ++ rest) (length before) refl, take_at x rest (length x) refl) refl

text_is : (source before x rest : List ℕ) (kind : Kind) → source ≡ before ++ (x ++ rest)
    → text_of source (token kind (place_of (length source) (x ++ rest)) (place_of (length source) rest)) ≡ x
text_is source before x rest kind e =
    let all : length source ≡ length before + (length x + length rest) = rw e (omega (arith, length-append before (x ++ rest), length-append x rest)) in
    let at : length source - length (x ++ rest) ≡ length before = omega (arith, length-append x rest) in
    let size : (length source - length rest) - (length source - length (x ++ rest)) ≡ length x = omega (arith, length-append x rest) in
    cut source before x rest (length source - length (x ++ rest)) ((length source - length rest) - (length source - length (x ++ rest))) e at size

pub text_before_is : (x rest : List ℕ) → text_before (x ++ rest) rest ≡ x
text_before_is x rest =
    let size : length (x ++ rest) - length rest ≡ length x = omega (arith, length-append x rest) in
    rw (size, take_at x rest (length x) refl) refl

-- ---- a step that adds a token, and one that adds none

module _ (source x rest : List ℕ) (ps : List Piece) (go : Goes source rest ps) (begins : (ts : List Token) → lexing_goes ts (x ++ rest) ≡ true) where
  pub adds : (kind : Kind)
      → ((ts : List Token) → (lexeme (length source) ts).spelled (x ++ rest) (ts ++ token kind (place_of (length source) (x ++ rest)) (place_of (length source) rest) ∷ []) rest)
      → Goes source (x ++ rest) (record { kind = kind; text = x } ∷ ps)
  adds kind spelled before e ts =
      let t = token kind (place_of (length source) (x ++ rest)) (place_of (length source) rest) in
      let k = go (before ++ x) (e ∙ sym (append_assoc before x rest)) (ts ++ t ∷ []) in (
        t ∷ k.0,
        goes (ts ++ t ∷ []) (begins ts) (spelled ts) (subst (λ (l : List Token). Runs lexing_goes (lexeme (length source)) (ts ++ t ∷ []) rest l []) (append_assoc ts (t ∷ []) k.0) k.1),
        more t k.0 (record { kind = kind; text = x }) ps refl (text_is source before x rest kind e) k.2,
      )

  pub passes : ((ts : List Token) → (lexeme (length source) ts).spelled (x ++ rest) ts rest) → Goes source (x ++ rest) ps
  passes spelled before e ts =
      let k = go (before ++ x) (e ∙ sym (append_assoc before x rest)) ts in
      (k.0, goes ts (begins ts) (spelled ts) k.1, k.2)

-- ---- white space

blank_goes : (source : List ℕ) (b : ℕ) (bs rest : List ℕ) (ps : List Piece) → lead_by b (bs ++ rest) ≡ leads.Blanks → all_pass is_blank bs ≡ true → At source rest ps
    → Goes source ((b ∷ bs) ++ rest) ps
unfolding lexeme behind
blank_goes source b bs rest ps lead all at =
    passes source (b ∷ bs) rest ps at.lexed (λ ts. refl)
    (λ ts.
    subst (λ (l : Lead). (behind (length source) ts (place_of (length source) ((b ∷ bs) ++ rest)) l).spelled ((b ∷ bs) ++ rest) ts rest) (sym lead)
    (b, bs ++ rest, (b, refl, refl), (bs, rest, (refl, all, at.starts), (refl, refl))))

pub space : {source rest : List ℕ} {ps : List Piece} → At source rest ps → Past source (32 ∷ rest) ps
space {source} {rest} {ps} at = record { ends = refl; lexed = blank_goes source 32 [] rest ps refl refl at }

pub line : {source rest : List ℕ} {ps : List Piece} → At source rest ps → Past source (10 ∷ 32 ∷ 32 ∷ rest) ps
line {source} {rest} {ps} at = record { ends = refl; lexed = blank_goes source 10 (32 ∷ 32 ∷ []) rest ps refl refl at }

pub deep_line : {source rest : List ℕ} {ps : List Piece} → At source rest ps → Past source (10 ∷ 32 ∷ 32 ∷ 32 ∷ 32 ∷ rest) ps
deep_line {source} {rest} {ps} at = record { ends = refl; lexed = blank_goes source 10 (32 ∷ 32 ∷ 32 ∷ 32 ∷ []) rest ps refl refl at }

pub newline : {source rest : List ℕ} {ps : List Piece} → At source rest ps → Past source (10 ∷ rest) ps
newline {source} {rest} {ps} at = record { ends = refl; lexed = blank_goes source 10 [] rest ps refl refl at }

-- ---- parentheses

pub open_at : {source rest : List ℕ} {ps : List Piece} → first_is 59 rest ≡ false → Goes source rest ps → At source (40 ∷ rest) (left ∷ ps)
unfolding lexeme behind here
open_at {source} {rest} {ps} h go = record {
  starts = refl;
  lexed = adds source (40 ∷ []) rest ps go (λ ts. refl) Open (λ ts. rw h (40, rest, (40, refl, refl), (place_of (length source) rest, rest, (refl, refl), (refl, refl))));
}

pub close : {source rest : List ℕ} {ps : List Piece} → Past source rest ps → Past source (41 ∷ rest) (right ∷ ps)
unfolding lexeme behind here
close {source} {rest} {ps} past = record {
  ends = refl;
  lexed = adds source (41 ∷ []) rest ps past.lexed (λ ts. refl) Close (λ ts. (41, rest, (41, refl, refl), (place_of (length source) rest, rest, (refl, refl), (refl, refl))));
}

-- ---- words

idchar_no_blank : (b : ℕ) → is_idchar b ≡ true → is_blank b ≡ false
idchar_no_blank b h =
    let t32 : eqb b 32 ≡ false = grind (arith, nat_tests) in
    let t9 : eqb b 9 ≡ false = grind (arith, nat_tests) in
    let t10 : eqb b 10 ≡ false = grind (arith, nat_tests) in
    let t13 : eqb b 13 ≡ false = grind (arith, nat_tests) in
    rw (t32, t9, t10, t13) refl

word_lead : (b : ℕ) (s : List ℕ) → is_idchar b ≡ true → lead_by b s ≡ leads.Word
word_lead b s h =
    let t59 : eqb b 59 ≡ false = grind (arith, nat_tests) in
    let t40 : eqb b 40 ≡ false = grind (arith, nat_tests) in
    let t41 : eqb b 41 ≡ false = grind (arith, nat_tests) in
    let t34 : eqb b 34 ≡ false = grind (arith, nat_tests) in
    rw (h, idchar_no_blank b h, t59, t40, t41, t34) refl

-- identifier characters, and at least one, that are a token of this kind
pub record IsToken (kind : Kind) (x : List ℕ) : Type 0 where
  pub chars : all_pass is_idchar x ≡ true
  pub first : next_passes is_idchar x ≡ true
  pub is : kind_of x ≡ kind

word_spelled : (size : ℕ) (ts : List Token) (kind : Kind) (b : ℕ) (bs rest : List ℕ) → IsToken kind (b ∷ bs) → all_pass is_idchar bs ≡ true → next_passes is_idchar rest ≡ false
    → (lexeme size ts).spelled ((b ∷ bs) ++ rest) (ts ++ token kind (place_of size ((b ∷ bs) ++ rest)) (place_of size rest) ∷ []) rest
unfolding lexeme behind here word
word_spelled size ts kind b bs rest w others ends =
    let text : kind ≡ kind_of (text_before ((b ∷ bs) ++ rest) rest) = sym (ap kind_of (text_before_is (b ∷ bs) rest) ∙ w.is) in
    let at = place_of size ((b ∷ bs) ++ rest) in
    subst (λ (l : Lead). (behind size ts at l).spelled ((b ∷ bs) ++ rest) (ts ++ token kind at (place_of size rest) ∷ []) rest) (sym (word_lead b (bs ++ rest) w.first))
    (kind, rest, (bs, (b, bs ++ rest, (b, refl, refl), (refl, others, ends)), text), (place_of size rest, rest, (refl, refl), (refl, refl)))

pub word_at : {source rest : List ℕ} {ps : List Piece} (kind : Kind) (x : List ℕ) → IsToken kind x → Past source rest ps → At source (x ++ rest) (record { kind = kind; text = x } ∷ ps)
word_at kind [] w past = absurd (let h = w.first in cc)
word_at {source} {rest} {ps} kind (b ∷ bs) w past =
    let others : all_pass is_idchar bs ≡ true = let f = w.first in rw f at w.chars in
    record {
      starts = idchar_no_blank b w.first;
      lexed = adds source (b ∷ bs) rest ps past.lexed (λ ts. refl) kind (λ ts. word_spelled (length source) ts kind b bs rest w others past.ends);
    }
