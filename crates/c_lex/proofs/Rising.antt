-- Tokens rise in the text that they are lexed from.
use Rattle.std.proofs.Common.{◌≡◌, ℕ, ◌+◌, ◌≤◌, ◌<◌, Bool, true, false, List, [], ◌∷◌, ◌++◌, length, Option, Some, None, refl, ap, ◌∙◌, arith}
use Rattle.ms_bytes.specs.Spot.{place_of}
use Rattle.ms_bytes.specs.Runs.{Runs, goes, rests}
use Rattle.c_token.specs.declared.word.Token.{Token}
use Rattle.c_token.specs.declared.word.Word.{Word}
use Rattle.c_token.specs.declared.word.Word.TheVariants as words
use Rattle.c_lex.specs.declared.leads.Lead.{Lead}
use Rattle.c_lex.specs.declared.leads.Lead.TheVariants as leads
use Rattle.c_lex.specs.Keywords.{word_of}
use Rattle.c_lex.specs.refinement.Places.{Rises}
use Rattle.c_lex.specs.Literals.{Text, string, string_goes, string_inside, string_step}
use Rattle.c_lex.specs.Lexing.{Lexed, Lexes, behind, closed, joined, lead_of, lexeme, lexeme_takes, lexemes, lexing_goes, token, token_list, tokens_of, with_fresh, with_text, with_word}

-- tokens that rise up to a place, and one more there
rise_more : (from at size : ℕ) (ts : List Token) (w : Word) → Rises from at ts → at < size → Rises from size (ts ++ token at w ∷ [])
rise_more from at size [] w h lt = (h, omega arith)
rise_more from at size (x ∷ ts) w h lt = (h.0, rise_more (x.at + 1) at size ts w h.1 lt)

rise_on : (from end size : ℕ) (ts : List Token) → Rises from end ts → end ≤ size → Rises from size ts
rise_on from end size [] h le = omega arith
rise_on from end size (x ∷ ts) h le = (h.0, rise_on (x.at + 1) end size ts h.1 le)

-- tokens and the string literal at their end rise up to a place
abbrev Placed : ℕ → List Token → Option Text → Type 0
Placed p done None = Rises 0 p done
Placed p done (Some text) = Rises 0 text.at done × (text.at < p)

placed_on : (p q : ℕ) (done : List Token) (text : Option Text) → Placed p done text → p ≤ q → Placed q done text
placed_on p q done None h le = rise_on 0 p q done h le
placed_on p q done (Some text) h le = (h.0, omega (arith, h.1))

closed_rise : (p : ℕ) (done : List Token) (text : Option Text) → Placed p done text → Rises 0 p (closed done text)
closed_rise p done None h = h
closed_rise p done (Some text) h = rise_more 0 text.at p done (words.String text.bytes) h.0 h.1

joined_on : (p q : ℕ) (done : List Token) (before : Option Text) (text : Text) → Placed p done before → text.at ≡ p → p < q → Placed q done (Some (joined before text))
joined_on p q done None text h e lt = rw e (h, lt)
joined_on p q done (Some first) text h e lt = (h.0, omega (arith, h.1))

-- a string literal is where it begins
same_at : (size : ℕ) {st last : Text} {s u : List ℕ} → Runs string_goes (string_step size) st s last u → last.at ≡ st.at
unfolding string_step
same_at size (rests h) = refl
same_at size (goes next g h r) = same_at size r ∙ ap (λ (x : Text). x.at) h.3.0

string_at : (size at : ℕ) (s : List ℕ) (text : Text) (t : List ℕ) → (string size at).spelled s text t → text.at ≡ at
unfolding string string_inside
string_at size at s text t h = ap (λ (x : Text). x.at) h.3.3.3.0 ∙ same_at size h.3.2

-- what is lexed at the place of s, up to t
module _ (size : ℕ) (st next : Lexed) (s t : List ℕ) (fits : length s ≤ size) (so_far : Placed (place_of size s) st.done st.text) (takes : length t < length s) where
  further : place_of size s < place_of size t
  further = omega arith

  same : next ≡ st → Placed (place_of size t) next.done next.text
  same e = rw e (placed_on (place_of size s) (place_of size t) st.done st.text so_far (omega (arith, further)))

  fresh : (b : Bool) → next ≡ with_fresh st b → Placed (place_of size t) next.done next.text
  fresh b e = rw e (placed_on (place_of size s) (place_of size t) st.done st.text so_far (omega (arith, further)))

  word : (w : Word) → next ≡ with_word st (place_of size s) w → Placed (place_of size t) next.done next.text
  word w e = rw e (rise_more 0 (place_of size s) (place_of size t) (tokens_of st) w (closed_rise (place_of size s) st.done st.text so_far) further)

  literal : (text : Text) → text.at ≡ place_of size s → next ≡ with_text st text → Placed (place_of size t) next.done next.text
  literal text is e = rw e (joined_on (place_of size s) (place_of size t) st.done st.text text so_far is further)

  behind_placed : (lead : Lead) → (behind size st (place_of size s) lead).spelled s next t → Placed (place_of size t) next.done next.text
  unfolding behind
  behind_placed leads.Blanks h = same h.3.3.0
  behind_placed leads.LineEnd h = fresh true h.3.0
  behind_placed leads.LineComment h = fresh false h.3.0
  behind_placed leads.Comment h = fresh false h.3.0
  behind_placed leads.Hash h = fresh false h.3.0
  behind_placed leads.Identifier h = word (word_of h.0) h.3.0
  behind_placed leads.Number h = word h.3.0 h.3.3.0
  behind_placed leads.Quote h = literal h.0 (string_at size (place_of size s) s h.0 h.1 h.2) h.3.0
  behind_placed leads.Apostrophe h = word (words.Character h.0) h.3.0
  behind_placed (leads.One m) h = word (words.Mark m) h.3.0
  behind_placed (leads.Two m) h = word (words.Mark m) h.3.3.0
  behind_placed (leads.Three m) h = word (words.Mark m) h.3.3.3.0
  behind_placed leads.Nothing h = absurd h

  lexeme_placed : (lexeme size st).spelled s next t → Placed (place_of size t) next.done next.text
  unfolding lexeme
  lexeme_placed h = behind_placed (lead_of st.fresh s) h

all_placed : (size : ℕ) {st last : Lexed} {s u : List ℕ} → Runs lexing_goes (lexeme size) st s last u → length s ≤ size → Placed (place_of size s) st.done st.text → Placed (place_of size u) last.done last.text
all_placed size (rests h) fits so_far = so_far
all_placed size (goes {st = st} {s = s} {t = t} next g h r) fits so_far =
    let lt = lexeme_takes size st s next t g h in
    all_placed size r (omega arith) (lexeme_placed size st next s t fits so_far lt h)

pub rise : (bytes : List ℕ) (tokens : List Token) → Lexes bytes tokens → Rises 0 (length bytes) tokens
unfolding token_list lexemes
rise bytes tokens h =
    let size = length bytes in
    let last = closed_rise (place_of size h.1) h.0.done h.0.text (all_placed size h.2 (omega arith) (omega arith)) in
    rw h.3.0 (rise_on 0 (place_of size h.1) size (tokens_of h.0) last (omega arith))
