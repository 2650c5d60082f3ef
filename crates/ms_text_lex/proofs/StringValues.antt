-- Each string token of a text is a string, and stands for its value.
use Rattle.std.proofs.Common.{◌≡◌, ℕ, ◌+◌, ◌-◌, ◌*◌, Bool, true, false, cond, List, [], ◌∷◌, ◌++◌, length, drop, refl, sym, subst, ap, ◌∙◌, arith, append_assoc}
use Rattle.std.specs.Prelude.{◌==◌, All}
use Rattle.std.proofs.lemmas.List.{append-nil, drop_at, length-append, take_at}
use Rattle.std.proofs.lemmas.List.Elements.{All-append, All-cons, All-nil}
use Rattle.ms_bytes.specs.Spot.{place_of}
use Rattle.ms_bytes.specs.Parts.{item, pure}
use Rattle.ms_bytes.specs.Runs.{Runs, goes, rests}
use Rattle.ms_bytes.specs.Texts.{text_before}
use Rattle.ms_text_lex.specs.declared.comments.Comment.{Comment}
use Rattle.ms_text_lex.specs.declared.comments.Mark.{Mark}
use Rattle.ms_text_lex.specs.declared.comments.Mark.TheVariants.{Closes, Neither, Opens}
use Rattle.ms_text_lex.specs.declared.leads.Lead.{Lead}
use Rattle.ms_text_lex.specs.declared.leads.Lead.TheVariants as leads
use Rattle.ms_text_lex.specs.declared.strings.Digits.{Digits}
use Rattle.ms_text_lex.specs.declared.strings.Elements.{Elements}
use Rattle.ms_text_lex.specs.declared.strings.Escape.{Escape}
use Rattle.ms_text_lex.specs.declared.strings.Escape.TheVariants.{High, Simple, Unicode}
use Rattle.ms_text_lex.specs.declared.strings.Piece.TheVariants.{Byte}
use Rattle.ms_text_lex.specs.declared.token.Kind.{Kind}
use Rattle.ms_text_lex.specs.declared.token.Kind.TheVariants.{Close, Id, Keyword, Number, Open, Reserved, Text}
use Rattle.ms_text_lex.specs.declared.token.Token.{Token}
use Rattle.ms_text_lex.specs.Classes.{hex}
use Rattle.ms_text_lex.specs.Comments.{behind_mark, block_comment, comment_goes, comment_step, comment_text, line_comment, line_text, mark_of, utf8_comment}
use Rattle.ms_text_lex.specs.Fault.{broken, this}
use Rattle.ms_text_lex.specs.Lexing.{Lexes, behind, here, lead_of, lexeme, lexemes, lexing_goes, token, word}
use Rattle.ms_text_lex.specs.Strings.{behind_escape, behind_first, code_digit, code_digit_takes, code_digits, code_goes, code_point, code_step, code_text, escape, escape_of, piece, plain_byte, quoted, skip_piece, skip_pieces, skip_takes, string, string_goes, string_text}
use Rattle.ms_text_lex.specs.Tokens.{text_of}
use Rattle.ms_text_lex.specs.Values.{HasValue, StandsFor, bytes_in, bytes_of, element, element_takes, elements, or_nothing, string_bytes}
use Rattle.ms_text_lex.specs.Words.{is_id, is_number, is_word, kind_of}
use Rattle.ms_text_lex.proofs.StringLaws.{Moves, either_moves, enclosed, item_moves, pure_moves, seq_moves}

-- ---- an element is one wherever it stands

digit_moves : (st : Digits) → Moves (code_digit st)
unfolding code_digit
digit_moves st = item_moves (code_step st)

first_digits : Digits
first_digits = record { value = 0; bare = true }

code_moves : Moves code_text
unfolding code_text code_digits
code_moves s v m h =
    let k = enclosed code_goes code_digit code_digit_takes code_goes code_digit code_digit_takes (λ (a b : Digits). a ≡ b)
    (λ st st' r c w w'. ap (λ (d : Digits). code_goes d (c ∷ w)) r)
    (λ st st' r s next t g. let x = digit_moves st s next t g in (next, refl, x.0, x.1, λ u. subst (λ (d : Digits). (code_digit d).spelled (x.0 ++ u) next u) r (x.2 u)))
    (this 123) (this 125) (λ (d : Digits). d) (λ (d : Digits). d) (record { value = 0; bare = true }) (record { value = 0; bare = true }) refl s v m h in
    let same : k.1 ≡ v = sym k.2 ∙ sym k.3 in
    (k.4, k.5, λ u. subst (λ (d : Digits). code_text.spelled (k.4 ++ u) d u) same (k.6 u))

scalar_moves : Moves code_point
unfolding code_point
scalar_moves s v m h =
    let x = code_moves s h.0 h.1 h.2.0 in
    (x.0, x.1 ∙ ap (λ (l : List ℕ). x.0 ++ l) h.3.1, λ u. (h.0, u, (x.2 u, h.2.1), (h.3.0, refl)))

escape_moves : (e : Escape) → Moves (behind_escape e)
unfolding behind_escape
escape_moves (Simple b) = pure_moves (Byte b)
escape_moves (High h) = seq_moves (item broken hex) (λ low. pure (Byte (h * 16 + low))) (item_moves hex) (λ low. pure_moves (Byte (h * 16 + low)))
escape_moves Unicode = scalar_moves

piece_moves : Moves piece
unfolding piece behind_first escape
piece_moves =
    seq_moves (item broken plain_byte) behind_first (item_moves plain_byte)
    (λ b. either_moves (b == 92) escape (pure (Byte b)) (seq_moves (item broken escape_of) behind_escape (item_moves escape_of) escape_moves) (pure_moves (Byte b)))

-- ---- a string is one wherever it stands, and has a value

string_stands : (s : List ℕ) (y : Unit {0}) (m : List ℕ) → quoted.spelled s y m → (x : List ℕ) × (s ≡ x ++ m) × StandsFor x (bytes_in x)
unfolding quoted skip_pieces skip_piece string_bytes elements element bytes_in
string_stands s y m h =
    let k = enclosed string_goes skip_piece skip_takes string_goes element element_takes (λ (a : Elements) (b : List ℕ). Unit {0})
    (λ st st' r c w w'. refl)
    (λ st st' r s next t g. let x = piece_moves s g.0 g.1 g.2 in (st' ++ bytes_of g.0, tt, x.0, x.1 ∙ ap (λ (l : List ℕ). x.0 ++ l) g.3.1, λ u. (g.0, u, x.2 u, (refl, refl))))
    (this 34) (this 34) (λ (e : Elements). tt) (λ (l : List ℕ). l) (record {}) [] tt s y m h in
    let stands : StandsFor k.4 k.1 = subst (λ (l : List ℕ). string_bytes.spelled l k.1 []) (append-nil k.4) (k.6 []) in
    let value : k.1 ≡ bytes_in k.4 = ap or_nothing (sym (string_bytes.again (length k.4) k.4 k.1 [] stands)) in
    (k.4, k.5, subst (λ (l : List ℕ). StandsFor k.4 l) value stands)

-- ---- what is taken stands in front of what is left

abbrev IsRest : List ℕ → List ℕ → Type 0
IsRest s t = (x : List ℕ) × (s ≡ x ++ t)

same : (s t : List ℕ) → s ≡ t → IsRest s t
same s t e = ([], e)

on : (s m t : List ℕ) → IsRest s m → IsRest m t → IsRest s t
on s m t a b = (a.0 ++ b.0, a.1 ∙ ap (λ (l : List ℕ). a.0 ++ l) b.1 ∙ sym (append_assoc a.0 b.0 t))

mark_leaves : (depth : ℕ) (mark : Mark) (s : List ℕ) (v : Comment) (t : List ℕ) → (behind_mark depth mark).spelled s v t → IsRest s t
unfolding behind_mark
mark_leaves depth Opens s v t h = on s h.1 t (h.2.0 ∷ [], h.2.1) (on h.1 h.3.1 t (h.3.2.0 ∷ [], h.3.2.1) (same h.3.1 t h.3.3.1))
mark_leaves depth Closes s v t h = on s h.1 t (h.2.0 ∷ [], h.2.1) (on h.1 h.3.1 t (h.3.2.0 ∷ [], h.3.2.1) (same h.3.1 t h.3.3.1))
mark_leaves depth Neither s v t h = on s h.1 t (h.2.0 ∷ [], h.2.1) (same h.1 t h.3.1)

comment_leaves : {st last : Comment} {s u : List ℕ} → Runs comment_goes comment_step st s last u → IsRest s u
unfolding comment_step
comment_leaves (rests {s = s} h) = same s s refl
comment_leaves (goes {st = st} {s = s} {t = t} {u = u} next g h more) = on s t u (mark_leaves st.depth (mark_of s) s next t h) (comment_leaves more)

block_leaves : (s : List ℕ) (v : Unit {0}) (t : List ℕ) → block_comment.spelled s v t → IsRest s t
unfolding block_comment utf8_comment comment_text
block_leaves s v t h =
    let a = h.0 in
    let b = a.3 in
    let c = b.3 in
    on s a.1 t (a.2.0 ∷ [], a.2.1) (on a.1 b.1 t (b.2.0 ∷ [], b.2.1) (on b.1 c.1 t (comment_leaves c.2) (same c.1 t c.3.1)))

line_leaves : (s : List ℕ) (v : Unit {0}) (t : List ℕ) → line_comment.spelled s v t → IsRest s t
unfolding line_comment line_text
line_leaves s v t h =
    let a = h.0 in
    on s a.1 t (a.2.0 ∷ [], a.2.1) (on a.1 a.3.1 t (a.3.0, a.3.2.0) (same a.3.1 t a.3.3.1))

word_leaves : (s : List ℕ) (v : Kind) (t : List ℕ) → word.spelled s v t → IsRest s t
unfolding word
word_leaves s v t h = let a = h.1 in on s a.1 t (a.2.0 ∷ [], a.2.1) (h.0, a.3.0)

string_leaves : (s : List ℕ) (v : Unit {0}) (t : List ℕ) → string.spelled s v t → IsRest s t
unfolding string string_text
string_leaves s v t h = let x = string_stands s v t h.0 in (x.0, x.1)

behind_leaves : (size : ℕ) (ts : List Token) (at : ℕ) (lead : Lead) (s : List ℕ) (v : List Token) (t : List ℕ) → (behind size ts at lead).spelled s v t → IsRest s t
unfolding behind here
behind_leaves size ts at leads.Blanks s v t h = on s h.1 t (h.2.0 ∷ [], h.2.1) (on h.1 h.3.1 t (h.3.0, h.3.2.0) (same h.3.1 t h.3.3.1))
behind_leaves size ts at leads.LineComment s v t h = on s h.1 t (line_leaves s h.0 h.1 h.2) (same h.1 t h.3.1)
behind_leaves size ts at leads.BlockComment s v t h = on s h.1 t (block_leaves s h.0 h.1 h.2) (same h.1 t h.3.1)
behind_leaves size ts at leads.Open s v t h = on s h.1 t (h.2.0 ∷ [], h.2.1) (same h.1 t (h.3.2.1 ∙ h.3.3.1))
behind_leaves size ts at leads.Close s v t h = on s h.1 t (h.2.0 ∷ [], h.2.1) (same h.1 t (h.3.2.1 ∙ h.3.3.1))
behind_leaves size ts at leads.Quote s v t h = on s h.1 t (string_leaves s h.0 h.1 h.2) (same h.1 t (h.3.2.1 ∙ h.3.3.1))
behind_leaves size ts at leads.Word s v t h = on s h.1 t (word_leaves s h.0 h.1 h.2) (same h.1 t (h.3.2.1 ∙ h.3.3.1))
behind_leaves size ts at leads.Nothing s v t h = absurd h

-- ---- tokens

no_string : (text : List ℕ) → kind_of text ≡ Text → ⊥
no_string text e = by_tests (is_id text) (is_number text) (is_word text) e
  where
    by_tests : (a b c : Bool) → cond a Id (cond b Number (cond c Keyword Reserved)) ≡ Text → ⊥
    by_tests true b c e = cc
    by_tests false true c e = cc
    by_tests false false true e = cc
    by_tests false false false e = cc

-- the text of a token between a front and a rest of the source
text_between : (source d x t : List ℕ) (kind : Kind) → source ≡ d ++ (x ++ t) → text_of source (token kind (place_of (length source) (x ++ t)) (place_of (length source) t)) ≡ x
text_between source d x t kind e =
    let l : length source ≡ length d + (length x + length t) = ap length e ∙ length-append d (x ++ t) ∙ ap (λ n. length d + n) (length-append x t) in
    let a : length d ≡ length source - length (x ++ t) = omega (arith, length-append x t) in
    let n : length x ≡ (length source - length t) - (length source - length (x ++ t)) = omega (arith, length-append x t) in
    rw (ap (λ (l : List ℕ). drop (length source - length (x ++ t)) l) e, drop_at d (x ++ t) (length source - length (x ++ t)) a, take_at x t ((length source - length t) - (length source - length (x ++ t))) n) refl

text_at : (source d s x t : List ℕ) (kind : Kind) (end : ℕ) → source ≡ d ++ s → s ≡ x ++ t → end ≡ place_of (length source) t → text_of source (token kind (place_of (length source) s) end) ≡ x
text_at source d s x t kind end e split is = rw (is, split) (text_between source d x t kind (e ∙ ap (λ (l : List ℕ). d ++ l) split))

module _ (source : List ℕ) (ts next : List Token) (s t d : List ℕ) (front : source ≡ d ++ s) (all : All (HasValue source) ts) where
  adds : (kind : Kind) (at end : ℕ) → next ≡ ts ++ token kind at end ∷ [] → HasValue source (token kind at end) → All (HasValue source) next
  adds kind at end e v = rw e (All-append (HasValue source) ts (token kind at end ∷ []) all (All-cons (HasValue source) (token kind at end) [] v (All-nil (HasValue source))))

  behind_has : (lead : Lead) → (behind (length source) ts (place_of (length source) s) lead).spelled s next t → All (HasValue source) next
  unfolding behind here string string_text word
  behind_has leads.Blanks h = rw h.3.3.0 all
  behind_has leads.LineComment h = rw h.3.0 all
  behind_has leads.BlockComment h = rw h.3.0 all
  behind_has leads.Open h = adds Open (place_of (length source) s) h.3.0 h.3.3.0 (λ e. absurd cc)
  behind_has leads.Close h = adds Close (place_of (length source) s) h.3.0 h.3.3.0 (λ e. absurd cc)
  behind_has leads.Quote h =
      let x = string_stands s h.0 h.1 h.2.0 in
      let rest : h.1 ≡ t = h.3.2.1 ∙ h.3.3.1 in
      let end : h.3.0 ≡ place_of (length source) t = h.3.2.0 ∙ ap (place_of (length source)) rest in
      let split : s ≡ x.0 ++ t = x.1 ∙ ap (λ (l : List ℕ). x.0 ++ l) rest in
      let text = text_at source d s x.0 t Text h.3.0 front split end in
      adds Text (place_of (length source) s) h.3.0 h.3.3.0 (λ e. subst (λ (l : List ℕ). StandsFor l (bytes_in l)) (sym text) x.2)
  behind_has leads.Word h = adds h.0 (place_of (length source) s) h.3.0 h.3.3.0 (λ e. absurd (no_string (text_before s h.1) (sym h.2.2 ∙ e)))
  behind_has leads.Nothing h = absurd h

all_have : (source : List ℕ) {ts last : List Token} {s u : List ℕ} → Runs lexing_goes (lexeme (length source)) ts s last u → (d : List ℕ) → source ≡ d ++ s → All (HasValue source) ts → All (HasValue source) last
unfolding lexeme
all_have source (rests h) d e all = all
all_have source (goes {st = ts} {s = s} {t = t} next g h more) d e all =
    let x = behind_leaves (length source) ts (place_of (length source) s) (lead_of s) s next t h in
    all_have source more (d ++ x.0) (e ∙ ap (λ (l : List ℕ). d ++ l) x.1 ∙ sym (append_assoc d x.0 t)) (behind_has source ts next s t d e all (lead_of s) h)

pub have_values : (source : List ℕ) (tokens : List Token) → Lexes source tokens → All (HasValue source) tokens
unfolding lexemes
have_values source tokens h = all_have source h [] refl (All-nil (HasValue source))
