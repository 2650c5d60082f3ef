-- Lexing the parts of a text as it is written: what each part goes on to is the tokens of its pieces.
use Rattle.std.proofs.Common.{◌≡◌, ℕ, Bool, true, false, List, [], ◌∷◌, ◌++◌, map, All, Option, Some, None, refl, append_assoc}
use Rattle.std.specs.Prelude.{ℤ, codes, decimal}
use Rattle.std.specs.List.{flat_map}
use Rattle.std.specs.Fmt.{signed_decimal}
use Rattle.std.proofs.lemmas.List.Elements.{All-head, All-tail}
use Rattle.ms_bytes.specs.Spot.{first_is}
use Rattle.ms_types.specs.declared.types.ValType.{ValType}
use Rattle.ms_types.specs.declared.types.FuncType.{FuncType}
use Rattle.ms_types.specs.declared.types.GlobalType.{GlobalType}
use Rattle.ms_types.specs.declared.types.Limits.{Limits}
use Rattle.ms_text_lex.specs.declared.token.Kind.TheVariants.{Keyword, Number}
use Rattle.ms_text_grammar.specs.declared.word.Word.{Word}
use Rattle.ms_text_grammar.specs.declared.word.Word.TheVariants as word
use Rattle.ms_text_grammar.specs.Keywords.{spelling}
use Rattle.ms_flat.specs.Keywords.{value_word}
use Rattle.ms_text_write.specs.Parts.{behind, indexed, opened, spaced}
use Rattle.ms_text_write.specs.Types.{func_type_text, global_type_text, group_text, max_text, memory_text, mutable_text, table_text}
use Rattle.ms_text_write.proofs.Pieces.{Piece, constant, func_type_pieces, global_type_pieces, group_pieces, indexed_pieces, keyword, left, max_pieces, memory_pieces, mutable_pieces, number, right, table_pieces, the, value_pieces}
use Rattle.ms_text_write.proofs.LayoutSteps.{At, IsToken, Past, close, open_at, space, word_at}
use Rattle.ms_text_write.proofs.LayoutNumbers.{constant_token, decimal_token}
use Rattle.ms_text_write.proofs.LayoutWords.{spelling_token, value_token}

-- ---- words and numbers

pub keyword_at : {source rest : List ℕ} {ps : List Piece} (x : List ℕ) → IsToken Keyword x → Past source rest ps → At source (x ++ rest) (keyword x ∷ ps)
keyword_at x w past = word_at Keyword x w past

pub number_at : {source rest : List ℕ} {ps : List Piece} (n : ℕ) → Past source rest ps → At source (decimal n ++ rest) (number n ∷ ps)
number_at n past = word_at Number (decimal n) (decimal_token n) past

pub constant_at : {source rest : List ℕ} {ps : List Piece} (z : ℤ) → Past source rest ps → At source (signed_decimal z ++ rest) (constant z ∷ ps)
constant_at z past = word_at Number (signed_decimal z) (constant_token z) past

no_semicolon : (w : Word) (rest : List ℕ) → first_is 59 (spelling w ++ rest) ≡ false
no_semicolon word.Module rest = refl
no_semicolon w rest = refl

pub opened_at : {source rest : List ℕ} {ps : List Piece} (w : Word) → Past source rest ps → At source (opened w ++ rest) (left ∷ the w ∷ ps)
opened_at {source} {rest} {ps} w past = open_at (no_semicolon w rest) (keyword_at (spelling w) (spelling_token w) past).lexed

-- ---- several

module _ {A : Type 0} (source front : List ℕ) (text : A → List ℕ) (leads : (rest : List ℕ) (ps : List Piece) → At source rest ps → Past source (front ++ rest) ps) where
  -- items behind a lead each, where each is the tokens of its pieces
  pub each_past : (pieces : A → List Piece) (P : A → Type 0)
      → ((x : A) → P x → (rest : List ℕ) (ps : List Piece) → Past source rest ps → At source (text x ++ rest) (pieces x ++ ps))
      → (xs : List A) → All P xs → {rest : List ℕ} {ps : List Piece} → Past source rest ps → Past source (behind front text xs ++ rest) (flat_map pieces xs ++ ps)
  each_past pieces P one [] all past = past
  each_past pieces P one (x ∷ xs) all {rest} {ps} past =
      simp append_assoc (leads (text x ++ (behind front text xs ++ rest)) (pieces x ++ (flat_map pieces xs ++ ps))
      (one x (All-head P x xs all) (behind front text xs ++ rest) (flat_map pieces xs ++ ps) (each_past pieces P one xs (All-tail P x xs all) past)))

  -- items that are one piece each
  pub words_past : (piece : A → Piece)
      → ((x : A) (rest : List ℕ) (ps : List Piece) → Past source rest ps → At source (text x ++ rest) (piece x ∷ ps))
      → (xs : List A) → {rest : List ℕ} {ps : List Piece} → Past source rest ps → Past source (behind front text xs ++ rest) (map piece xs ++ ps)
  words_past piece one [] past = past
  words_past piece one (x ∷ xs) {rest} {ps} past =
      simp append_assoc (leads (text x ++ (behind front text xs ++ rest)) (piece x ∷ (map piece xs ++ ps))
      (one x (behind front text xs ++ rest) (map piece xs ++ ps) (words_past piece one xs past)))

pub numbers_past : {source rest : List ℕ} {ps : List Piece} (ns : List ℕ) → Past source rest ps → Past source (spaced decimal ns ++ rest) (map number ns ++ ps)
numbers_past {source} ns past = words_past source (codes " ") decimal (λ s ps at. space at) number (λ n s ps p. number_at n p) ns past

pub types_past : {source rest : List ℕ} {ps : List Piece} (tys : List ValType) → Past source rest ps → Past source (spaced value_word tys ++ rest) (value_pieces tys ++ ps)
types_past {source} tys past = words_past source (codes " ") value_word (λ s ps at. space at) (λ ty. keyword (value_word ty)) (λ ty s ps p. keyword_at (value_word ty) (value_token ty) p) tys past

-- ---- parts in parentheses

pub indexed_at : {source rest : List ℕ} {ps : List Piece} (w : Word) (x : ℕ) → Past source rest ps → At source (indexed w x ++ rest) (indexed_pieces w x ++ ps)
unfolding indexed
indexed_at w x past = simp append_assoc (opened_at w (space (number_at x (close past))))

-- a word and something behind it
grouped : {source : List ℕ} (rest : List ℕ) (ps : List Piece) (w : Word) (text : List ℕ) (pieces : List Piece) → Past source (text ++ 41 ∷ rest) (pieces ++ right ∷ ps)
    → Past source ((codes " " ++ (opened w ++ (text ++ codes ")"))) ++ rest) ((left ∷ the w ∷ (pieces ++ right ∷ [])) ++ ps)
grouped rest ps w text pieces past = simp append_assoc (space (opened_at w past))

pub group_past : {source rest : List ℕ} {ps : List Piece} (w : Word) (tys : List ValType) → Past source rest ps → Past source (group_text w tys ++ rest) (group_pieces w tys ++ ps)
group_past w [] past = past
group_past {rest = rest} {ps = ps} w (ty ∷ tys) past = grouped rest ps w (spaced value_word (ty ∷ tys)) (value_pieces (ty ∷ tys)) (types_past (ty ∷ tys) (close past))

-- ---- types

pub func_type_at : {source rest : List ℕ} {ps : List Piece} (ft : FuncType) → Past source rest ps → At source (func_type_text ft ++ rest) (func_type_pieces ft ++ ps)
unfolding func_type_text func_type_pieces
func_type_at ft past = simp append_assoc (opened_at word.Type (space (opened_at word.Func (group_past word.Param ft.params (group_past word.Result ft.results (close (close past)))))))

max_past : {source rest : List ℕ} {ps : List Piece} (max : Option ℕ) → Past source rest ps → Past source (max_text max ++ rest) (max_pieces max ++ ps)
max_past None past = past
max_past (Some n) past = space (number_at n past)

pub table_at : {source rest : List ℕ} {ps : List Piece} (l : Limits) → Past source rest ps → At source (table_text l ++ rest) (table_pieces l ++ ps)
unfolding table_text table_pieces
table_at l past = simp append_assoc (opened_at word.Table (space (number_at l.min (max_past l.max (space (keyword_at (spelling word.Funcref) (spelling_token word.Funcref) (close past)))))))

pub memory_at : {source rest : List ℕ} {ps : List Piece} (l : Limits) → Past source rest ps → At source (memory_text l ++ rest) (memory_pieces l ++ ps)
unfolding memory_text memory_pieces
memory_at l past = simp append_assoc (opened_at word.Memory (space (number_at l.min (max_past l.max (close past)))))

mutable_at : {source rest : List ℕ} {ps : List Piece} (mutable : Bool) (ty : ValType) → Past source rest ps
    → At source (mutable_text mutable (value_word ty) ++ rest) (mutable_pieces mutable (keyword (value_word ty)) ++ ps)
mutable_at false ty past = keyword_at (value_word ty) (value_token ty) past
mutable_at true ty past = simp append_assoc (opened_at word.Mut (space (keyword_at (value_word ty) (value_token ty) (close past))))

pub global_type_at : {source rest : List ℕ} {ps : List Piece} (g : GlobalType) → Past source rest ps → At source (global_type_text g ++ rest) (global_type_pieces g ++ ps)
global_type_at g past = mutable_at g.mutable g.ty past
