-- What the scan of tokens finds from one place of a text to another: type fields, and type uses that name a type. Parts of the
-- grammar in which there are none.
use Rattle.std.proofs.Common.{◌≡◌, ◌&&◌, ℕ, Bool, true, false, List, [], ◌∷◌, ◌++◌, length, Option, Some, None, refl, sym, ap, subst, ◌∙◌, append_assoc, append-nil, if◌then◌else◌}
use Rattle.std.specs.Str.{bytes_eq, is_utf8}
use Rattle.std.proofs.lemmas.Slice.Eq.{bytes_eq-Decides}
use Rattle.ms_bytes.specs.Items.{ItemSpelled}
use Rattle.ms_bytes.specs.Runs.{Runs, goes, rests}
use Rattle.ms_types.specs.declared.types.ValType.{ValType}
use Rattle.ms_text_lex.specs.declared.token.Kind.{Kind}
use Rattle.ms_text_lex.specs.declared.token.Kind.TheVariants as kinds
use Rattle.ms_text_lex.specs.declared.token.Token.{Token}
use Rattle.ms_text_lex.specs.Numbers.{constant_of, index_of}
use Rattle.ms_text_lex.specs.Tokens.{text_of}
use Rattle.ms_text_lex.specs.Values.{value_of}
use Rattle.ms_text_grammar.specs.declared.placed.Placed.{Placed}
use Rattle.ms_text_grammar.specs.declared.surface.Param.{Param}
use Rattle.ms_text_grammar.specs.declared.surface.TypeField.{TypeField}
use Rattle.ms_text_grammar.specs.declared.surface.TypeUse.{TypeUse}
use Rattle.ms_text_grammar.specs.declared.word.Word.{Word}
use Rattle.ms_text_grammar.specs.declared.word.Word.TheVariants as word
use Rattle.ms_text_grammar.specs.Keywords.{align_is, offset_is, spelling}
use Rattle.ms_text_grammar.specs.Tokens.{begins, begins_id, begins_index, is_close, is_id, is_keyword, is_number, is_open, is_text, is_word, next, opens}
use Rattle.ms_text_grammar.specs.Faults.{Textual, kept}
use Rattle.ms_text_grammar.specs.Parts.{closing, group, group_ends, groups, id_by, identifier, keyword, listed, name, no_group, opening, optional_id, string}
use Rattle.ms_text_grammar.specs.Numbers.{align, align_by, behind, constant, exponent_in, if_so, index, index_by, is_front, is_numbered, mem_arg, number, numbered, offset, offset_by, optional_index, optional_index_by}
use Rattle.ms_text_grammar.specs.Types.{block_result, block_results, block_type, global_type, global_type_by, limits, local_of, local_type, locals, locals_by, locals_inside, max_by, next_local, next_param, next_type, params, params_by, params_inside, results, table_type, type_of, types, unnamed, value_type}
use Rattle.ms_text_grammar.specs.Scans.{fields_in, uses_in}
use Rattle.ms_text_grammar.proofs.Folds.{both_pass, kept_passes}

abbrev pub sigs : List Placed → List TypeUse
sigs [] = []
sigs (u ∷ us) = u.sig ∷ sigs us

-- From s to t the scan finds these type fields and these uses.
pub record Has (source : List ℕ) (s t : List Token) (fs : List TypeField) (us : List TypeUse) : Type 0 where
  pub fields : fields_in source s ≡ fs ++ fields_in source t
  pub uses : sigs (uses_in source s) ≡ us ++ sigs (uses_in source t)

-- It finds nothing.
abbrev pub Quiet : List ℕ → List Token → List Token → Type 0
Quiet source s t = Has source s t [] []

abbrev pub AllQuiet : {A : Type 0} → List ℕ → Textual A → Type 0
AllQuiet {A} source f = (s : List Token) (x : A) (t : List Token) → f.spelled s x t → Quiet source s t

pub stays : {source : List ℕ} {s : List Token} → Has source s s [] []
stays = record { fields = refl; uses = refl }

pub same : {source : List ℕ} {s t : List Token} → s ≡ t → Has source s t [] []
same {source = source} {s = s} e = subst (λ (l : List Token). Has source s l [] []) e stays

infixr 5 ◌▹◌
pub ◌▹◌ : {source : List ℕ} {s m t : List Token} {fs gs : List TypeField} {us vs : List TypeUse} → Has source s m fs us → Has source m t gs vs → Has source s t (fs ++ gs) (us ++ vs)
◌▹◌ {source = source} {t = t} {fs = fs} {gs = gs} {us = us} {vs = vs} a b = record {
  fields = a.fields ∙ ap (λ (l : List TypeField). fs ++ l) b.fields ∙ sym (append_assoc fs gs (fields_in source t));
  uses = a.uses ∙ ap (λ (l : List TypeUse). us ++ l) b.uses ∙ sym (append_assoc us vs (sigs (uses_in source t)));
}

-- with nothing behind it
pub until : {source : List ℕ} {s m t : List Token} {fs : List TypeField} {us : List TypeUse} → Has source s m fs us → Has source m t [] [] → Has source s t fs us
until {source = source} {s = s} {t = t} {fs = fs} {us = us} a b =
    let both : Has source s t (fs ++ []) (us ++ []) = a ▹ b in
    subst (λ (l : List TypeField). Has source s t l us) (append-nil fs) (subst (λ (l : List TypeUse). Has source s t (fs ++ []) l) (append-nil us) both)

module _ (source : List ℕ) where
  -- ---- single tokens

  pub pass : (t : Token) (ts : List Token) → begins source word.Type (t ∷ ts) ≡ false → Quiet source (t ∷ ts) ts
  pass t ts b = record { fields = rw b refl; uses = rw b refl }

  pub pass_by : (t : Token) (ts : List Token) → is_open t.kind ≡ false → Quiet source (t ∷ ts) ts
  pass_by t ts o = pass t ts (rw o refl)

  -- an item that no opening parenthesis is
  pub item_quiet : {A : Type 0} (f : Token → Option A) → ((e : Token) → e.kind ≡ kinds.Open → f e ≡ None) → (s : List Token) (x : A) (t : List Token) → ItemSpelled f s x t → Quiet source s t
  item_quiet f n s x t h = subst (λ (l : List Token). Quiet source l t) (sym h.1) (pass_by h.0 t (go h.0.kind refl)) where
    go : (k : Kind) → h.0.kind ≡ k → is_open h.0.kind ≡ false
    go kinds.Open e = absurd (let z : None ≡ Some x = sym (n h.0 e) ∙ h.2 in cc)
    go kinds.Close e = rw e refl
    go kinds.Keyword e = rw e refl
    go kinds.Id e = rw e refl
    go kinds.Number e = rw e refl
    go kinds.Text e = rw e refl
    go kinds.Reserved e = rw e refl

  pub closing_quiet : AllQuiet source (closing source)
  closing_quiet s x t h = item_quiet (λ e. kept (is_close e.kind) e) (λ e k. rw k refl) s x t h

  pub keyword_quiet : (text : List ℕ) → AllQuiet source (keyword source text)
  keyword_quiet text s x t h = item_quiet (λ e. kept (is_word source text e) e) (λ e k. rw k refl) s x t h

  identifier_quiet : AllQuiet source (identifier source)
  identifier_quiet s x t h = item_quiet (λ e. kept (is_id e.kind) e) (λ e k. rw k refl) s x t h

  pub string_quiet : AllQuiet source (string source)
  string_quiet s x t h = item_quiet (λ e. kept (is_text e.kind) e) (λ e k. rw k refl) s x t h

  pub name_quiet : AllQuiet source (name source)
  name_quiet s x t h = item_quiet (λ e. kept (is_text e.kind && is_utf8 (value_of source e)) e) (λ e k. rw k refl) s x t h

  -- ---- an opening parenthesis, where no `type` is behind it

  pub no_both : (b c : Bool) → c ≡ false → (b && c) ≡ false
  no_both true c e = e
  no_both false c e = refl

  abbrev pub type_next : List Token → Bool
  type_next s = next (is_word source (spelling word.Type)) s

  pub open_quiet : (s m : List Token) (x : Token) → (opening source).spelled s x m → type_next m ≡ false → Quiet source s m
  open_quiet s m x h n = subst (λ (l : List Token). Quiet source l m) (sym h.1) (pass h.0 m (no_both (is_open h.0.kind) (type_next m) n))

  word_other : (text : List ℕ) (s t : List Token) (x : Token) → bytes_eq text (spelling word.Type) ≡ false → (keyword source text).spelled s x t → type_next s ≡ false
  word_other text s t x d h =
      let p = both_pass (is_keyword h.0.kind) (bytes_eq (text_of source h.0) text) (kept_passes (is_word source text h.0) h.0 x h.2) in
      let is : text_of source h.0 ≡ text = (bytes_eq-Decides (text_of source h.0) text).0 p.1 in
      subst (λ (l : List Token). type_next l ≡ false) (sym h.1)
      (no_both (is_keyword h.0.kind) (bytes_eq (text_of source h.0) (spelling word.Type)) (ap (λ (y : List ℕ). bytes_eq y (spelling word.Type)) is ∙ d))

  -- a parenthesis and another word
  pub left_word_quiet : (text : List ℕ) → bytes_eq text (spelling word.Type) ≡ false → (s m t : List Token) (x y : Token) → (opening source).spelled s x m → (keyword source text).spelled m y t → Quiet source s t
  left_word_quiet text d s m t x y h k = open_quiet s m x h (word_other text m t y d k) ▹ keyword_quiet text m y t k

  -- ---- steps, groups and lists

  pub runs_quiet : {S : Type 0} (going : S → List Token → Bool) (step : S → Textual S) → ((st : S) → AllQuiet source (step st)) → {st last : S} {s u : List Token} → Runs going step st s last u → Quiet source s u
  runs_quiet going step q (rests e) = stays
  runs_quiet going step q (goes {st = st} {s = s} {t = t} next g h r) = q st s next t h ▹ runs_quiet going step q r

  group_quiet : {A : Type 0} (w : Word) (inside : A → Textual A) → bytes_eq (spelling w) (spelling word.Type) ≡ false → ((x : A) → AllQuiet source (inside x)) → (x : A) → AllQuiet source (group source w inside x)
  unfolding group
  group_quiet w inside d q a s x t h =
      let k = h.3.3 in
      left_word_quiet (spelling w) d s h.1 h.3.1 h.0 h.3.0 h.2 h.3.2 ▹ q a h.3.1 k.0 k.1 k.2 ▹ closing_quiet k.1 k.3.0 k.3.1 k.3.2 ▹ same k.3.3.1

  pub groups_quiet : {A : Type 0} (w : Word) (inside : A → Textual A) → bytes_eq (spelling w) (spelling word.Type) ≡ false → ((x : A) → AllQuiet source (inside x)) → (x : A) → AllQuiet source (groups source w inside x)
  unfolding groups
  groups_quiet w inside d q a s x t h = runs_quiet _ (group source w inside) (group_quiet w inside d q) h

  -- ---- identifiers and numbers

  id_by_quiet : (b : Bool) → AllQuiet source (id_by source b)
  unfolding id_by
  id_by_quiet true s x t h = identifier_quiet s h.0 h.1 h.2 ▹ same h.3.1
  id_by_quiet false s x t h = same h.1

  pub optional_id_quiet : AllQuiet source (optional_id source)
  unfolding optional_id
  optional_id_quiet s x t h = id_by_quiet (begins_id s) s x t h

  group_ends_quiet : (b : Bool) → AllQuiet source (group_ends source b)
  unfolding group_ends
  group_ends_quiet true s x t h = absurd h.3
  group_ends_quiet false s x t h = same h.1

  pub no_group_quiet : AllQuiet source (no_group source)
  unfolding no_group
  no_group_quiet s x t h = group_ends_quiet (opens s) s x t h

  pub number_quiet : AllQuiet source (number source)
  unfolding number
  number_quiet s x t h = item_quiet (λ e. if_so (is_number e.kind) (index_of (text_of source e))) (λ e k. rw k refl) s x t h

  pub constant_quiet : (bits : ℕ) → AllQuiet source (constant source bits)
  unfolding constant
  constant_quiet bits s x t h = item_quiet (λ e. if_so (is_number e.kind) (constant_of bits (text_of source e))) (λ e k. rw k refl) s x t h

  index_by_quiet : (b : Bool) → AllQuiet source (index_by source b)
  unfolding index_by
  index_by_quiet true s x t h = identifier_quiet s h.0 h.1 h.2 ▹ same h.3.1
  index_by_quiet false s x t h = number_quiet s h.0 h.1 h.2 ▹ same h.3.1

  pub index_quiet : AllQuiet source (index source)
  unfolding index
  index_quiet s x t h = index_by_quiet (begins_id s) s x t h

  optional_index_by_quiet : (b : Bool) → AllQuiet source (optional_index_by source b)
  unfolding optional_index_by
  optional_index_by_quiet true s x t h = index_quiet s x t h
  optional_index_by_quiet false s x t h = same h.1

  pub optional_index_quiet : AllQuiet source (optional_index source)
  unfolding optional_index
  optional_index_quiet s x t h = optional_index_by_quiet (begins_index s) s x t h

  numbered_quiet : {A : Type 0} (front : List ℕ) (f : Option ℕ → Option A) → AllQuiet source (numbered source front f)
  numbered_quiet front f s x t h = item_quiet (λ e. if_so (is_numbered source front e) (f (index_of (behind source front e)))) (λ e k. rw k refl) s x t h

  offset_by_quiet : (b : Bool) → AllQuiet source (offset_by source b)
  unfolding offset_by
  offset_by_quiet true s x t h = numbered_quiet offset_is (λ n. n) s x t h
  offset_by_quiet false s x t h = same h.1

  align_by_quiet : (natural : ℕ) (b : Bool) → AllQuiet source (align_by source natural b)
  unfolding align_by
  align_by_quiet natural true s x t h = numbered_quiet align_is exponent_in s x t h
  align_by_quiet natural false s x t h = same h.1

  pub mem_arg_quiet : (natural : ℕ) → AllQuiet source (mem_arg source natural)
  unfolding mem_arg offset align
  mem_arg_quiet natural s x t h =
      offset_by_quiet (next (is_front source offset_is) s) s h.0 h.1 h.2 ▹ align_by_quiet natural (next (is_front source align_is) h.1) h.1 h.3.0 h.3.1 h.3.2 ▹ same h.3.3.1

  -- ---- types

  value_type_quiet : AllQuiet source (value_type source)
  unfolding value_type
  value_type_quiet s x t h = item_quiet (type_of source) (λ e k. rw k refl) s x t h

  next_type_quiet : (tys : List ValType) → AllQuiet source (next_type source tys)
  unfolding next_type
  next_type_quiet tys s x t h = value_type_quiet s h.0 h.1 h.2 ▹ same h.3.1

  types_quiet : (tys : List ValType) → AllQuiet source (types source tys)
  unfolding types listed
  types_quiet tys s x t h = runs_quiet _ (next_type source) next_type_quiet h

  next_param_quiet : (ps : List Param) → AllQuiet source (next_param source ps)
  unfolding next_param
  next_param_quiet ps s x t h = value_type_quiet s h.0 h.1 h.2 ▹ same h.3.1

  unnamed_quiet : (ps : List Param) → AllQuiet source (unnamed source ps)
  unfolding unnamed listed
  unnamed_quiet ps s x t h = runs_quiet _ (next_param source) next_param_quiet h

  params_by_quiet : (ps : List Param) (id : Option Token) → AllQuiet source (params_by source ps id)
  unfolding params_by
  params_by_quiet ps (Some id) s x t h = value_type_quiet s h.0 h.1 h.2 ▹ same h.3.1
  params_by_quiet ps None s x t h = unnamed_quiet ps s x t h

  params_inside_quiet : (ps : List Param) → AllQuiet source (params_inside source ps)
  unfolding params_inside
  params_inside_quiet ps s x t h = optional_id_quiet s h.0 h.1 h.2 ▹ params_by_quiet ps h.0 h.1 x t h.3

  pub params_quiet : AllQuiet source (params source)
  unfolding params
  params_quiet s x t h = groups_quiet word.Param (params_inside source) refl params_inside_quiet [] s x t h

  pub results_quiet : AllQuiet source (results source)
  unfolding results
  results_quiet s x t h = groups_quiet word.Result (types source) refl types_quiet [] s x t h

  none_of_both : {A : Type 0} (b : Bool) → ◌≡◌ {A = Option A} (if b then None else None) None
  none_of_both true = refl
  none_of_both false = refl

  local_type_quiet : (most count : ℕ) → AllQuiet source (local_type source most count)
  unfolding local_type
  local_type_quiet most count s x t h = item_quiet (local_of source most count) (λ e k. rw k (none_of_both _)) s x t h

  next_local_quiet : (most : ℕ) (ls : List Param) → AllQuiet source (next_local source most ls)
  unfolding next_local
  next_local_quiet most ls s x t h = local_type_quiet most (length ls) s h.0 h.1 h.2 ▹ same h.3.1

  locals_by_quiet : (most : ℕ) (ls : List Param) (id : Option Token) → AllQuiet source (locals_by source most ls id)
  unfolding locals_by listed
  locals_by_quiet most ls (Some id) s x t h = local_type_quiet most (length ls) s h.0 h.1 h.2 ▹ same h.3.1
  locals_by_quiet most ls None s x t h = runs_quiet _ (next_local source most) (next_local_quiet most) h

  locals_inside_quiet : (most : ℕ) (ls : List Param) → AllQuiet source (locals_inside source most ls)
  unfolding locals_inside
  locals_inside_quiet most ls s x t h = optional_id_quiet s h.0 h.1 h.2 ▹ locals_by_quiet most ls h.0 h.1 x t h.3

  pub locals_quiet : (most : ℕ) → AllQuiet source (locals source most)
  unfolding locals
  locals_quiet most s x t h = groups_quiet word.Local (locals_inside source most) refl (locals_inside_quiet most) [] s x t h

  max_by_quiet : (b : Bool) → AllQuiet source (max_by source b)
  unfolding max_by
  max_by_quiet true s x t h = number_quiet s h.0 h.1 h.2 ▹ same h.3.1
  max_by_quiet false s x t h = same h.1

  pub limits_quiet : AllQuiet source (limits source)
  unfolding limits
  limits_quiet s x t h = number_quiet s h.0 h.1 h.2 ▹ max_by_quiet (next (λ e. is_number e.kind) h.1) h.1 h.3.0 h.3.1 h.3.2 ▹ same h.3.3.1

  pub table_type_quiet : AllQuiet source (table_type source)
  unfolding table_type
  table_type_quiet s x t h = limits_quiet s h.0 h.1 h.2 ▹ keyword_quiet (spelling word.Funcref) h.1 h.3.0 h.3.1 h.3.2 ▹ same h.3.3.1

  global_type_by_quiet : (b : Bool) → AllQuiet source (global_type_by source b)
  unfolding global_type_by
  global_type_by_quiet true s x t h =
      let k = h.3.3 in
      left_word_quiet (spelling word.Mut) refl s h.1 h.3.1 h.0 h.3.0 h.2 h.3.2 ▹ value_type_quiet h.3.1 k.0 k.1 k.2 ▹ closing_quiet k.1 k.3.0 k.3.1 k.3.2 ▹ same k.3.3.1
  global_type_by_quiet false s x t h = no_group_quiet s h.0 h.1 h.2 ▹ value_type_quiet h.1 h.3.0 h.3.1 h.3.2 ▹ same h.3.3.1

  pub global_type_quiet : AllQuiet source (global_type source)
  unfolding global_type
  global_type_quiet s x t h = global_type_by_quiet (begins source word.Mut s) s x t h

  block_result_quiet : (ty : Option ValType) → AllQuiet source (block_result source ty)
  unfolding block_result
  block_result_quiet None s x t h = value_type_quiet s h.0 h.1 h.2 ▹ same h.3.1
  block_result_quiet (Some ty) s x t h = absurd h

  block_results_quiet : (ty : Option ValType) → AllQuiet source (block_results source ty)
  unfolding block_results listed
  block_results_quiet ty s x t h = runs_quiet _ (block_result source) block_result_quiet h

  pub block_type_quiet : AllQuiet source (block_type source)
  unfolding block_type
  block_type_quiet s x t h = groups_quiet word.Result (block_results source) refl block_results_quiet None s x t h
