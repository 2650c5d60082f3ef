-- What the scan of tokens finds in what the grammar spells: the type fields and the type uses of its fields, in their order.
use Rattle.std.proofs.Common.{◌≡◌, ℕ, Bool, true, false, not, List, [], ◌∷◌, ◌++◌, length, Option, None, Result, Ok, Err, is_some, refl, sym, ap, subst, ◌∙◌, append_assoc, append-nil, if◌then◌else◌}
use Rattle.std.specs.Str.{bytes_eq}
use Rattle.std.proofs.lemmas.Slice.Eq.{bytes_eq-Decides}
use Rattle.ms_bytes.specs.Runs.{Runs, goes, rests}
use Rattle.ms_types.specs.declared.types.ValType.{ValType}
use Rattle.ms_text_lex.specs.declared.token.Kind.{Kind}
use Rattle.ms_text_lex.specs.declared.token.Kind.TheVariants as kinds
use Rattle.ms_text_lex.specs.declared.token.Token.{Token}
use Rattle.ms_text_lex.specs.Tokens.{text_of}
use Rattle.ms_module.specs.Instructions.{Bare, Form, Func, Global, Int32, Int64, KindOf, Label, Labels, Local, Memory, Scale, Type_, else_word, end_word, load_rows, numeric_rows, opening_rows, operand_rows, segment_load_rows, segment_rows, segment_store_rows, store_rows}
use Rattle.ms_module.specs.Accesses.{load_bytes, store_bytes}
use Rattle.ms_module.specs.declared.builder.Opening.{Opening}
use Rattle.ms_module.specs.declared.builder.Opening.TheVariants.{Block, If, Loop}
use Rattle.ms_text_grammar.specs.declared.fault.TextFault.{TextFault}
use Rattle.ms_text_grammar.specs.declared.frame.Frame.{Frame}
use Rattle.ms_text_grammar.specs.declared.frame.Frame.TheVariants.{Arm, Condition, Flat, Folded, Operands, Other, Then}
use Rattle.ms_text_grammar.specs.declared.frame.Fresh.{Fresh}
use Rattle.ms_text_grammar.specs.declared.frame.Fresh.TheVariants as fresh
use Rattle.ms_text_grammar.specs.declared.frame.Sign.{Sign}
use Rattle.ms_text_grammar.specs.declared.frame.Sign.TheVariants as sign
use Rattle.ms_text_grammar.specs.declared.surface.Body.{Body}
use Rattle.ms_text_grammar.specs.declared.surface.Index.{Index}
use Rattle.ms_text_grammar.specs.declared.surface.Param.{Param}
use Rattle.ms_text_grammar.specs.declared.surface.Plain.{Plain}
use Rattle.ms_text_grammar.specs.declared.surface.TypeUse.{TypeUse}
use Rattle.ms_text_grammar.specs.declared.word.Word.TheVariants as word
use Rattle.ms_text_grammar.specs.Keywords.{spelling}
use Rattle.ms_text_grammar.specs.Tokens.{begins, begins_id, closes, is_close, is_id, is_keyword, is_number, is_open, is_word, next}
use Rattle.ms_text_grammar.specs.Parts.{closing, group, groups, id_by, list_goes, listed, opening, optional_id}
use Rattle.ms_text_grammar.specs.Numbers.{if_so, index, index_by, number}
use Rattle.ms_text_grammar.specs.Types.{next_param, params, params_by, params_inside, type_field, type_ref, type_ref_by, type_use, unnamed, unnamed_params, unnamed_use, value_type}
use Rattle.ms_text_grammar.specs.Instructions.{Form_, behind, form_of, form_rows, instruction, kind, kind_of, labels, load, natural, next_label, numeric, operand, operands, segment_load, segment_store, store}
use Rattle.ms_text_grammar.specs.Advances.{State, advance_on, closed, condition, condition_on, else_arm, ended, first_state, flat_block, flat_else, flat_plain, folded, folded_block, folded_head, folded_on, folded_plain, framed, given, head_word, heading, instructions, marked, repeated, repeated_by, sign_of, uses_with, word_sign}
use Rattle.ms_text_grammar.specs.Bodies.{advance, body, folded_body}
use Rattle.ms_text_grammar.specs.Scans.{field_behind, if_closed, ok_value, tail_of}
use Rattle.ms_text_grammar.proofs.Folds.{apart, both_pass, kept_passes, key_sign, so_passes}
use Rattle.ms_text_grammar.proofs.Quiet.{AllQuiet, Has, Quiet, ◌▹◌, block_type_quiet, closing_quiet, constant_quiet, index_quiet, item_quiet, keyword_quiet, left_word_quiet, mem_arg_quiet, no_both, open_quiet, optional_id_quiet, params_quiet, pass_by, results_quiet, runs_quiet, same, number_quiet, stays, type_next, until}
use Rattle.ms_text_grammar.proofs.Wider.{Wide, runs_wide}

-- ---- the uses that name a type

abbrev pub naming : List TypeUse → List TypeUse
naming [] = []
naming (u ∷ us) = if is_some u.sig then u ∷ naming us else naming us

pub naming-append : (us vs : List TypeUse) → naming (us ++ vs) ≡ naming us ++ naming vs
naming-append [] vs = refl
naming-append (u ∷ us) vs = go (is_some u.sig) (naming-append us vs) where
  go : (b : Bool) → naming (us ++ vs) ≡ naming us ++ naming vs → (if b then u ∷ naming (us ++ vs) else naming (us ++ vs)) ≡ (if b then u ∷ naming us else naming us) ++ naming vs
  go true e = ap (λ (l : List TypeUse). u ∷ l) e
  go false e = e

-- what a token in front is
abbrev pub head_or : Token → List Token → Token
head_or t [] = t
head_or t (u ∷ us) = u

both_kinds : (k : Kind) → is_open k ≡ true → is_close k ≡ true → ⊥
both_kinds kinds.Open o e = absurd cc
both_kinds kinds.Close o e = absurd cc
both_kinds kinds.Keyword o e = absurd cc
both_kinds kinds.Id o e = absurd cc
both_kinds kinds.Number o e = absurd cc
both_kinds kinds.Text o e = absurd cc
both_kinds kinds.Reserved o e = absurd cc

open_number : (k : Kind) → is_open k ≡ true → is_number k ≡ true → ⊥
open_number kinds.Open o e = absurd cc
open_number kinds.Close o e = absurd cc
open_number kinds.Keyword o e = absurd cc
open_number kinds.Id o e = absurd cc
open_number kinds.Number o e = absurd cc
open_number kinds.Text o e = absurd cc
open_number kinds.Reserved o e = absurd cc

id_is_shut : (k : Kind) → is_id k ≡ true → is_open k ≡ false
id_is_shut kinds.Open e = absurd cc
id_is_shut kinds.Close e = refl
id_is_shut kinds.Keyword e = refl
id_is_shut kinds.Id e = refl
id_is_shut kinds.Number e = refl
id_is_shut kinds.Text e = refl
id_is_shut kinds.Reserved e = refl

close_is_no_id : (k : Kind) → is_close k ≡ true → is_id k ≡ false
close_is_no_id kinds.Open e = refl
close_is_no_id kinds.Close e = refl
close_is_no_id kinds.Keyword e = refl
close_is_no_id kinds.Id e = absurd cc
close_is_no_id kinds.Number e = refl
close_is_no_id kinds.Text e = refl
close_is_no_id kinds.Reserved e = refl

keyword_is_no_id : (k : Kind) → is_keyword k ≡ true → is_id k ≡ false
keyword_is_no_id kinds.Open e = refl
keyword_is_no_id kinds.Close e = refl
keyword_is_no_id kinds.Keyword e = refl
keyword_is_no_id kinds.Id e = absurd cc
keyword_is_no_id kinds.Number e = refl
keyword_is_no_id kinds.Text e = refl
keyword_is_no_id kinds.Reserved e = refl

-- no instruction and no block begins with `type`
not_type : form_of (spelling word.Type) ≡ None
unfolding form_rows operand_rows numeric_rows load_rows store_rows segment_rows segment_load_rows segment_store_rows
not_type = refl

type_sign : word_sign (spelling word.Type) ≡ sign.Other
unfolding opening_rows
type_sign = refl

pub refused : {A : Type 0} (r : Result (A × List Token) TextFault) → ((x : A) (t : List Token) → r ≡ Ok (x, t) → ⊥) → ok_value r ≡ None
refused (Ok x) n = absurd (n x.0 x.1 refl)
refused (Err e) n = refl

not_false : (b : Bool) → not b ≡ false → b ≡ true
not_false true e = refl
not_false false e = absurd cc

none_of_both : {A : Type 0} (b : Bool) → ◌≡◌ {A = Option A} (if b then None else None) None
none_of_both true = refl
none_of_both false = refl

-- the use of an instruction
abbrev fresh_uses : Fresh → List TypeUse
fresh_uses (fresh.Plain p) = []
fresh_uses (fresh.Indirect u) = u ∷ []

module _ (source : List ℕ) where
  -- ---- behind `(type`: an index and a parenthesis, or a type field

  open_is : (s m : List Token) (x : Token) → (opening source).spelled s x m → (e : Token) (r : List Token) → s ≡ e ∷ r → is_open e.kind ≡ true
  open_is s m x h e r q = subst (λ (y : Token). is_open y.kind ≡ true) (ap (head_or e) (sym h.1 ∙ q)) (kept_passes (is_open h.0.kind) h.0 x h.2)

  close_is : (s m : List Token) (x : Token) → (closing source).spelled s x m → (e : Token) (r : List Token) → s ≡ e ∷ r → is_close e.kind ≡ true
  close_is s m x h e r q = subst (λ (y : Token). is_close y.kind ≡ true) (ap (head_or e) (sym h.1 ∙ q)) (kept_passes (is_close h.0.kind) h.0 x h.2)

  index_or_field_by : (b : Bool) (s : List Token) (x : Index) (m n : List Token) (c : Token) → (index_by source b).spelled s x m → (closing source).spelled m c n
      → (id : Option Token) (k l : List Token) (o : Token) → (id_by source b).spelled s id k → (opening source).spelled k o l → ⊥
  unfolding index_by id_by number
  index_or_field_by true s x m n c h hc id k l o i ho =
      let same_rest : h.1 ≡ i.1 = ap tail_of (sym h.2.1 ∙ i.2.1) in
      let q : m ≡ k = sym h.3.1 ∙ same_rest ∙ i.3.1 in
      both_kinds hc.0.kind (open_is k l o ho hc.0 n (sym q ∙ hc.1)) (kept_passes (is_close hc.0.kind) hc.0 c hc.2)
  index_or_field_by false s x m n c h hc id k l o i ho =
      let p = so_passes (is_number h.2.0.kind) _ h.0 h.2.2 in
      open_number h.2.0.kind (open_is k l o ho h.2.0 h.1 (sym i.1 ∙ h.2.1)) p.0

  pub index_or_field : (s : List Token) (x : Index) (m n : List Token) (c : Token) → (index source).spelled s x m → (closing source).spelled m c n
      → (id : Option Token) (k l : List Token) (o : Token) → (optional_id source).spelled s id k → (opening source).spelled k o l → ⊥
  unfolding index optional_id
  index_or_field s x m n c h hc id k l o i ho = index_or_field_by (begins_id s) s x m n c h hc id k l o i ho

  -- ---- type uses

  no_field_behind : (s : List Token) (x : Index) (m n : List Token) (c : Token) → (index source).spelled s x m → (closing source).spelled m c n → field_behind source s ≡ None
  unfolding type_field
  no_field_behind s x m n c h hc =
      ap if_closed (refused ((type_field source).read (length source) s) (λ f t e.
      let k = (type_field source).takes (length source) s f t e in
      index_or_field s x m n c h hc k.0 k.1 k.3.1 k.3.0 k.2 k.3.2))

  use_first : (o : Token) (m : List Token) (u : TypeUse) (t : List Token) → begins source word.Type (o ∷ m) ≡ true → field_behind source (tail_of m) ≡ None
      → (type_use source).read (length source) (o ∷ m) ≡ Ok (u, t) → Has source (o ∷ m) m [] (u ∷ [])
  use_first o m u t b f e = record { fields = rw (b, f) refl; uses = rw (b, e) refl }

  -- a use, by what it names
  abbrev NamedBy : Option Index → TypeUse → List TypeUse
  NamedBy o u = if is_some o then u ∷ [] else []

  ref_has : (b : Bool) (s : List Token) (u : TypeUse) (m t : List Token) → begins source word.Type s ≡ b → (type_ref_by source b).spelled s u.sig m → (type_use source).spelled s u t → Has source s m [] (naming (u ∷ []))
  unfolding type_ref_by
  ref_has false s u m t b h k = subst (λ (o : Option Index). Has source s m [] (NamedBy o u)) (sym h.0) (same h.1)
  ref_has true s u m t b h k =
      let w = h.3 in
      let i = w.3 in
      let c = i.3 in
      let after : tail_of h.1 ≡ w.1 = ap tail_of w.2.1 in
      let none : field_behind source (tail_of h.1) ≡ None = ap (field_behind source) after ∙ no_field_behind w.1 i.0 i.1 c.1 c.0 i.2 c.2 in
      let first : Has source (h.2.0 ∷ h.1) h.1 [] (u ∷ []) =
      use_first h.2.0 h.1 u t (subst (λ (l : List Token). begins source word.Type l ≡ true) h.2.1 b) none
      ((type_use source).again (length source) (h.2.0 ∷ h.1) u t (subst (λ (l : List Token). (type_use source).spelled l u t) h.2.1 k)) in
      let behind : Quiet source h.1 m =
      keyword_quiet source (spelling word.Type) h.1 w.0 w.1 w.2 ▹ index_quiet source w.1 i.0 i.1 i.2 ▹ closing_quiet source i.1 c.0 c.1 c.2 ▹ same c.3.1 in
      let whole : Has source s h.1 [] (u ∷ []) = subst (λ (l : List Token). Has source l h.1 [] (u ∷ [])) (sym h.2.1) first in
      subst (λ (o : Option Index). Has source s m [] (NamedBy o u)) (sym c.3.0) (until whole behind)

  pub use_has : (s : List Token) (u : TypeUse) (t : List Token) → (type_use source).spelled s u t → Has source s t [] (naming (u ∷ []))
  unfolding type_use type_ref
  use_has s u t h =
      let r : Quiet source h.1 t = params_quiet source h.1 h.3.0 h.3.1 h.3.2 ▹ results_quiet source h.3.1 h.3.3.0 h.3.3.1 h.3.3.2 ▹ same h.3.3.3.1 in
      let sig : h.0 ≡ u.sig = ap (λ (v : TypeUse). v.sig) (sym h.3.3.3.0) in
      until (ref_has (begins source word.Type s) s u h.1 t refl (subst (λ (o : Option Index). (type_ref source).spelled s o h.1) sig h.2) h) r

  -- ---- uses without identifiers of parameters

  shut_no_id : (s : List Token) → closes s ≡ true → begins_id s ≡ false
  shut_no_id [] e = refl
  shut_no_id (t ∷ ts) e = close_is_no_id t.kind e

  value_no_id : (s : List Token) (x : ValType) (t : List Token) → (value_type source).spelled s x t → begins_id s ≡ false
  unfolding value_type
  value_no_id s x t h =
      let p = so_passes (is_keyword h.0.kind) _ x h.2 in
      subst (λ (l : List Token). begins_id l ≡ false) (sym h.1) (keyword_is_no_id h.0.kind p.0)

  first_no_id : {st last : List Param} {s u : List Token} → Runs {F = TextFault} (list_goes source) (next_param source) st s last u → begins_id s ≡ false
  unfolding next_param
  first_no_id {s = s} (rests e) = shut_no_id s (not_false (closes s) e)
  first_no_id {s = s} (goes next g h r) = value_no_id s h.0 h.1 h.2

  unnamed_no_id : (ps : List Param) (s : List Token) (x : List Param) (t : List Token) → (unnamed source ps).spelled s x t → begins_id s ≡ false
  unfolding unnamed listed
  unnamed_no_id ps s x t h = first_no_id h

  inside_too : (ps : List Param) → Wide (unnamed source ps) (params_inside source ps)
  unfolding params_inside params_by optional_id id_by
  inside_too ps s x t h = (None, s, subst (λ (b : Bool). (id_by source b).spelled s None s) (sym (unnamed_no_id ps s x t h)) (refl, refl), h)

  group_too : (ps : List Param) → Wide (group source word.Param (unnamed source) ps) (group source word.Param (params_inside source) ps)
  unfolding group
  group_too ps s x t h = (h.0, h.1, h.2, (h.3.0, h.3.1, h.3.2, (h.3.3.0, h.3.3.1, inside_too ps h.3.1 h.3.3.0 h.3.3.1 h.3.3.2, h.3.3.3)))

  params_too : Wide (unnamed_params source) (params source)
  unfolding unnamed_params params groups
  params_too s x t h = runs_wide _ _ (λ st s. refl) (group source word.Param (unnamed source)) (group source word.Param (params_inside source)) group_too h

  unnamed_has : (s : List Token) (u : TypeUse) (t : List Token) → (unnamed_use source).spelled s u t → Has source s t [] (naming (u ∷ []))
  unfolding unnamed_use type_use
  unnamed_has s u t h = use_has s u t (h.0, h.1, h.2, (h.3.0, h.3.1, params_too h.1 h.3.0 h.3.1 h.3.2, h.3.3))

  -- ---- instructions

  plain_has : (i : Fresh) (p : Plain) (s t : List Token) → i ≡ fresh.Plain p → Quiet source s t → Has source s t [] (naming (fresh_uses i))
  plain_has i p s t e q = subst (λ (j : Fresh). Has source s t [] (naming (fresh_uses j))) (sym e) q

  next_label_quiet : (ls : List Index) → AllQuiet source (next_label source ls)
  unfolding next_label
  next_label_quiet ls s x t h = index_quiet source s h.0 h.1 h.2 ▹ same h.3.1

  labels_quiet : AllQuiet source (labels source)
  unfolding labels
  labels_quiet s x t h = runs_quiet source _ (next_label source) next_label_quiet h

  kind_quiet : AllQuiet source (kind source)
  unfolding kind
  kind_quiet s x t h = item_quiet source (λ e. if_so (is_keyword e.kind) (kind_of (text_of source e))) (λ e k. rw k refl) s x t h

  operands_has : (form : Form) (s : List Token) (i : Fresh) (t : List Token) → (operands source form).spelled s i t → Has source s t [] (naming (fresh_uses i))
  unfolding operands
  operands_has (Bare j) s i t h = plain_has i _ s t h.0 (same h.1)
  operands_has (Label f) s i t h = plain_has i _ s t h.3.0 (index_quiet source s h.0 h.1 h.2 ▹ same h.3.1)
  operands_has (Func f) s i t h = plain_has i _ s t h.3.0 (index_quiet source s h.0 h.1 h.2 ▹ same h.3.1)
  operands_has (Local f) s i t h = plain_has i _ s t h.3.0 (index_quiet source s h.0 h.1 h.2 ▹ same h.3.1)
  operands_has (Global f) s i t h = plain_has i _ s t h.3.0 (index_quiet source s h.0 h.1 h.2 ▹ same h.3.1)
  operands_has (Type_ f) s i t h = subst (λ (j : Fresh). Has source s t [] (naming (fresh_uses j))) (sym h.3.0) (until (unnamed_has s h.0 h.1 h.2) (same h.3.1))
  operands_has (Labels f) s i t h = plain_has i _ s t h.3.0 (labels_quiet s h.0 h.1 h.2 ▹ same h.3.1)
  operands_has (Memory j) s i t h = plain_has i _ s t h.0 (same h.1)
  operands_has (Int32 f) s i t h = plain_has i _ s t h.3.0 (constant_quiet source 32 s h.0 h.1 h.2 ▹ same h.3.1)
  operands_has (Int64 f) s i t h = plain_has i _ s t h.3.0 (constant_quiet source 64 s h.0 h.1 h.2 ▹ same h.3.1)
  operands_has (KindOf f) s i t h = plain_has i _ s t h.3.0 (kind_quiet s h.0 h.1 h.2 ▹ same h.3.1)
  operands_has (Scale f) s i t h = plain_has i _ s t h.3.0 (number_quiet source s h.0 h.1 h.2 ▹ same h.3.1)

  behind_has : (form : Form_) (s : List Token) (i : Fresh) (t : List Token) → (behind source form).spelled s i t → Has source s t [] (naming (fresh_uses i))
  unfolding behind
  behind_has (operand form) s i t h = operands_has form s i t h
  behind_has (numeric op) s i t h = plain_has i _ s t h.0 (same h.1)
  behind_has (segment_load op) s i t h = plain_has i _ s t h.0 (same h.1)
  behind_has (segment_store op) s i t h = plain_has i _ s t h.0 (same h.1)
  behind_has (load op) s i t h = plain_has i _ s t h.3.0 (mem_arg_quiet source (natural (load_bytes op)) s h.0 h.1 h.2 ▹ same h.3.1)
  behind_has (store op) s i t h = plain_has i _ s t h.3.0 (mem_arg_quiet source (natural (store_bytes op)) s h.0 h.1 h.2 ▹ same h.3.1)

  instruction_has : (s : List Token) (i : Fresh) (t : List Token) → (instruction source).spelled s i t → Has source s t [] (naming (fresh_uses i))
  unfolding instruction
  instruction_has s i t h = item_quiet source (λ e. if_so (is_keyword e.kind) (form_of (text_of source e))) (λ e k. rw k refl) s h.0 h.1 h.2 ▹ behind_has h.0 h.1 i t h.3

  instruction_other : (s : List Token) (i : Fresh) (t : List Token) → (instruction source).spelled s i t → type_next source s ≡ false
  unfolding instruction
  instruction_other s i t h =
      let e = h.2.0 in
      let p = so_passes (is_keyword e.kind) (form_of (text_of source e)) h.0 h.2.2 in
      subst (λ (l : List Token). type_next source l ≡ false) (sym h.2.1)
      (no_both source (is_keyword e.kind) (bytes_eq (text_of source e) (spelling word.Type)) (apart (text_of source e) (spelling word.Type) h.0 p.1 not_type))

  block_other : (s : List Token) (o : Opening) → sign_of source s ≡ sign.Heads o → type_next source s ≡ false
  block_other [] o e = refl
  block_other (t ∷ ts) o e = go (is_word source (spelling word.Type) t) refl where
    go : (b : Bool) → is_word source (spelling word.Type) t ≡ b → b ≡ false
    go false h = refl
    go true h =
        let p = both_pass (is_keyword t.kind) (bytes_eq (text_of source t) (spelling word.Type)) h in
        let is : text_of source t ≡ spelling word.Type = (bytes_eq-Decides (text_of source t) (spelling word.Type)).0 p.1 in
        let wrong : sign.Heads o ≡ sign.Other = sym e ∙ key_sign source t ts p.0 ∙ ap word_sign is ∙ type_sign in
        absurd cc

-- ---- turns of bodies

-- The turn takes from s to t, where the scan finds the uses that it adds.
record Turned (source : List ℕ) (st : State) (s : List Token) (next : State) (t : List Token) : Type 0 where
  pub new : List TypeUse
  pub grown : next.uses ≡ st.uses ++ new
  pub has : Has source s t [] (naming new)

calm : {source : List ℕ} {s t : List Token} (st next : State) → next.uses ≡ st.uses → Quiet source s t → Turned source st s next t
calm st next e q = record { new = []; grown = e ∙ sym (append-nil st.uses); has = q }

uses_grow : (us : List TypeUse) (i : Fresh) → uses_with us i ≡ us ++ fresh_uses i
uses_grow us (fresh.Plain p) = sym (append-nil us)
uses_grow us (fresh.Indirect u) = refl

adding : {source : List ℕ} {s t : List Token} (st next : State) (i : Fresh) → next.uses ≡ uses_with st.uses i → Has source s t [] (naming (fresh_uses i)) → Turned source st s next t
adding st next i e h = record { new = fresh_uses i; grown = e ∙ uses_grow st.uses i; has = h }

uses_same : (a b : State) → a ≡ b → a.uses ≡ b.uses
uses_same a b e = ap (λ (x : State). x.uses) e

module _ (source : List ℕ) (most : ℕ) where
  heading_quiet : (blocks : ℕ) → AllQuiet source (heading source most blocks)
  unfolding heading
  heading_quiet blocks s x t h =
      item_quiet source (head_word source most blocks) (λ e k. rw k (none_of_both _)) s h.0 h.1 h.2 ▹ optional_id_quiet source h.1 h.3.0 h.3.1 h.3.2
      ▹ block_type_quiet source h.3.1 h.3.3.0 h.3.3.1 h.3.3.2 ▹ same h.3.3.3.1

  repeated_by_quiet : (label : Option Token) (b : Bool) (s : List Token) (x : Unit {0}) (t : List Token) → begins_id s ≡ b → (repeated_by source most label b).spelled s x t → Quiet source s t
  unfolding repeated_by
  repeated_by_quiet label true s x t b h =
      let id : is_id h.2.0.kind ≡ true = subst (λ (l : List Token). begins_id l ≡ true) h.2.1 b in
      let first : Quiet source s h.1 = subst (λ (l : List Token). Quiet source l h.1) (sym h.2.1) (pass_by source h.2.0 h.1 (id_is_shut h.2.0.kind id)) in
      first ▹ same h.3.1
  repeated_by_quiet label false s x t b h = same h.1

  repeated_quiet : (label : Option Token) → AllQuiet source (repeated source most label)
  unfolding repeated
  repeated_quiet label s x t h = repeated_by_quiet label (begins_id s) s x t refl h

  -- ---- turns that add no use, and those that read an instruction

  flat_block_turned : (st : State) (o : Opening) (s : List Token) (next : State) (t : List Token) → (flat_block source most st o).spelled s next t → Turned source st s next t
  unfolding flat_block
  flat_block_turned st o s next t h = calm st next (uses_same next _ h.3.0) (heading_quiet st.blocks s h.0 h.1 h.2 ▹ same h.3.1)

  flat_plain_turned : (st : State) (s : List Token) (next : State) (t : List Token) → (flat_plain source most st).spelled s next t → Turned source st s next t
  unfolding flat_plain
  flat_plain_turned st s next t h = adding st next h.0 (uses_same next _ h.3.0) (until (instruction_has source s h.0 h.1 h.2) (same h.3.1))

  head_uses : (st : State) (o : Opening) (label : Option Token) (ty : Option ValType) → (folded_head source most st o label ty).uses ≡ st.uses
  head_uses st If label ty = refl
  head_uses st Block label ty = refl
  head_uses st Loop label ty = refl

  folded_plain_turned : (st : State) (s m : List Token) (x : Token) (next : State) (t : List Token) → (opening source).spelled s x m → (folded_plain source most st).spelled m next t → Turned source st s next t
  unfolding folded_plain
  folded_plain_turned st s m x next t o h =
      adding st next h.0 (uses_same next _ h.3.0) (open_quiet source s m x o (instruction_other source m h.0 h.1 h.2) ▹ until (instruction_has source m h.0 h.1 h.2) (same h.3.1))

  folded_on_turned : (st : State) (sg : Sign) (s m : List Token) (x : Token) (next : State) (t : List Token) → (opening source).spelled s x m → sign_of source m ≡ sg → (folded_on source most st sg).spelled m next t
      → Turned source st s next t
  unfolding folded_on folded_block
  folded_on_turned st (sign.Heads k) s m x next t o e h =
      calm st next (uses_same next _ h.3.0 ∙ head_uses st k h.0.0 h.0.1) (open_quiet source s m x o (block_other source m k e) ▹ heading_quiet st.blocks m h.0 h.1 h.2 ▹ same h.3.1)
  folded_on_turned st sign.Left s m x next t o e h = folded_plain_turned st s m x next t o h
  folded_on_turned st sign.Right s m x next t o e h = folded_plain_turned st s m x next t o h
  folded_on_turned st sign.Ends s m x next t o e h = folded_plain_turned st s m x next t o h
  folded_on_turned st sign.Elses s m x next t o e h = folded_plain_turned st s m x next t o h
  folded_on_turned st sign.Thens s m x next t o e h = folded_plain_turned st s m x next t o h
  folded_on_turned st sign.Other s m x next t o e h = folded_plain_turned st s m x next t o h

  folded_turned : (st : State) (s : List Token) (next : State) (t : List Token) → (folded source most st).spelled s next t → Turned source st s next t
  unfolding folded
  folded_turned st s next t h = folded_on_turned st (sign_of source h.1) s h.1 h.0 next t h.2 refl h.3

  condition_on_turned : (label : Option Token) (ty : Option ValType) (fs : List Frame) (st : State) (sg : Sign) (s m : List Token) (x : Token) (next : State) (t : List Token) → (opening source).spelled s x m
      → sign_of source m ≡ sg → (condition_on source most label ty fs st sg).spelled m next t → Turned source st s next t
  unfolding condition_on
  condition_on_turned label ty fs st sign.Thens s m x next t o e h = calm st next (uses_same next _ h.3.0) (left_word_quiet source (spelling word.Then) refl s m h.1 x h.0 o h.2 ▹ same h.3.1)
  condition_on_turned label ty fs st (sign.Heads k) s m x next t o e h = folded_on_turned st (sign.Heads k) s m x next t o e h
  condition_on_turned label ty fs st sign.Left s m x next t o e h = folded_on_turned st sign.Left s m x next t o e h
  condition_on_turned label ty fs st sign.Right s m x next t o e h = folded_on_turned st sign.Right s m x next t o e h
  condition_on_turned label ty fs st sign.Ends s m x next t o e h = folded_on_turned st sign.Ends s m x next t o e h
  condition_on_turned label ty fs st sign.Elses s m x next t o e h = folded_on_turned st sign.Elses s m x next t o e h
  condition_on_turned label ty fs st sign.Other s m x next t o e h = folded_on_turned st sign.Other s m x next t o e h

  condition_turned : (label : Option Token) (ty : Option ValType) (fs : List Frame) (st : State) (s : List Token) (next : State) (t : List Token) → (condition source most label ty fs st).spelled s next t → Turned source st s next t
  unfolding condition
  condition_turned label ty fs st s next t h = condition_on_turned label ty fs st (sign_of source h.1) s h.1 h.0 next t h.2 refl h.3

  else_arm_turned : (fs : List Frame) (st : State) (s : List Token) (next : State) (t : List Token) → (else_arm source most fs st).spelled s next t → Turned source st s next t
  unfolding else_arm
  else_arm_turned fs st s next t h = calm st next (uses_same next _ h.3.3.0) (left_word_quiet source else_word refl s h.1 h.3.1 h.0 h.3.0 h.2 h.3.2 ▹ same h.3.3.1)

  closed_turned : (st after : State) (s : List Token) (next : State) (t : List Token) → after.uses ≡ st.uses → (closed source most after).spelled s next t → Turned source st s next t
  unfolding closed
  closed_turned st after s next t e h = calm st next (uses_same next after h.3.0 ∙ e) (closing_quiet source s h.0 h.1 h.2 ▹ same h.3.1)

  marked_turned : (text : List ℕ) (label : Option Token) (st after : State) (s : List Token) (next : State) (t : List Token) → after.uses ≡ st.uses → (marked source most text label after).spelled s next t → Turned source st s next t
  unfolding marked
  marked_turned text label st after s next t e h =
      calm st next (uses_same next after h.3.3.0 ∙ e) (keyword_quiet source text s h.0 h.1 h.2 ▹ repeated_quiet label h.1 h.3.0 h.3.1 h.3.2 ▹ same h.3.3.1)

  flat_else_turned : (label : Option Token) (may : Bool) (fs : List Frame) (st : State) (s : List Token) (next : State) (t : List Token) → (flat_else source most label may fs st).spelled s next t → Turned source st s next t
  unfolding flat_else
  flat_else_turned label true fs st s next t h = marked_turned else_word label st _ s next t refl h
  flat_else_turned label false fs st s next t h = absurd h

  instructions_turned : (st after : State) (sg : Sign) (s : List Token) (next : State) (t : List Token) → after.uses ≡ st.uses → (instructions source most st after sg).spelled s next t → Turned source st s next t
  unfolding instructions
  instructions_turned st after sign.Left s next t e h = folded_turned st s next t h
  instructions_turned st after (sign.Heads o) s next t e h = flat_block_turned st o s next t h
  instructions_turned st after sign.Right s next t e h = closed_turned st after s next t e h
  instructions_turned st after sign.Ends s next t e h = flat_plain_turned st s next t h
  instructions_turned st after sign.Elses s next t e h = flat_plain_turned st s next t h
  instructions_turned st after sign.Thens s next t e h = flat_plain_turned st s next t h
  instructions_turned st after sign.Other s next t e h = flat_plain_turned st s next t h

  -- ---- by the innermost frame

  flat_turned : (label : Option Token) (may : Bool) (fs : List Frame) (st : State) (sg : Sign) (s : List Token) (next : State) (t : List Token) → (advance_on source most st (Flat label may ∷ fs) sg).spelled s next t → Turned source st s next t
  unfolding advance_on
  flat_turned label may fs st sign.Ends s next t h = marked_turned end_word label st (ended fs st) s next t refl h
  flat_turned label may fs st sign.Elses s next t h = flat_else_turned label may fs st s next t h
  flat_turned label may fs st sign.Left s next t h = folded_turned st s next t h
  flat_turned label may fs st (sign.Heads o) s next t h = flat_block_turned st o s next t h
  flat_turned label may fs st sign.Right s next t h = flat_plain_turned st s next t h
  flat_turned label may fs st sign.Thens s next t h = flat_plain_turned st s next t h
  flat_turned label may fs st sign.Other s next t h = flat_plain_turned st s next t h

  operands_turned : (p : Plain) (fs : List Frame) (st : State) (sg : Sign) (s : List Token) (next : State) (t : List Token) → (advance_on source most st (Operands p ∷ fs) sg).spelled s next t → Turned source st s next t
  unfolding advance_on
  operands_turned p fs st sign.Left s next t h = folded_turned st s next t h
  operands_turned p fs st (sign.Heads o) s next t h = closed_turned st (given fs p st) s next t refl h
  operands_turned p fs st sign.Right s next t h = closed_turned st (given fs p st) s next t refl h
  operands_turned p fs st sign.Ends s next t h = closed_turned st (given fs p st) s next t refl h
  operands_turned p fs st sign.Elses s next t h = closed_turned st (given fs p st) s next t refl h
  operands_turned p fs st sign.Thens s next t h = closed_turned st (given fs p st) s next t refl h
  operands_turned p fs st sign.Other s next t h = closed_turned st (given fs p st) s next t refl h

  if_turned : (label : Option Token) (ty : Option ValType) (fs : List Frame) (st : State) (sg : Sign) (s : List Token) (next : State) (t : List Token) → (advance_on source most st (Condition label ty ∷ fs) sg).spelled s next t
      → Turned source st s next t
  unfolding advance_on
  if_turned label ty fs st sign.Left s next t h = condition_turned label ty fs st s next t h
  if_turned label ty fs st (sign.Heads o) s next t h = absurd h
  if_turned label ty fs st sign.Right s next t h = absurd h
  if_turned label ty fs st sign.Ends s next t h = absurd h
  if_turned label ty fs st sign.Elses s next t h = absurd h
  if_turned label ty fs st sign.Thens s next t h = absurd h
  if_turned label ty fs st sign.Other s next t h = absurd h

  then_turned : (fs : List Frame) (st : State) (sg : Sign) (s : List Token) (next : State) (t : List Token) → (advance_on source most st (Then ∷ fs) sg).spelled s next t → Turned source st s next t
  unfolding advance_on
  then_turned fs st sign.Left s next t h = else_arm_turned fs st s next t h
  then_turned fs st (sign.Heads o) s next t h = closed_turned st (ended fs st) s next t refl h
  then_turned fs st sign.Right s next t h = closed_turned st (ended fs st) s next t refl h
  then_turned fs st sign.Ends s next t h = closed_turned st (ended fs st) s next t refl h
  then_turned fs st sign.Elses s next t h = closed_turned st (ended fs st) s next t refl h
  then_turned fs st sign.Thens s next t h = closed_turned st (ended fs st) s next t refl h
  then_turned fs st sign.Other s next t h = closed_turned st (ended fs st) s next t refl h

  advance_on_turned : (st : State) (fs : List Frame) (sg : Sign) (s : List Token) (next : State) (t : List Token) → (advance_on source most st fs sg).spelled s next t → Turned source st s next t
  unfolding advance_on
  advance_on_turned st [] sg s next t h = instructions_turned st st sg s next t refl h
  advance_on_turned st (Flat label may ∷ fs) sg s next t h = flat_turned label may fs st sg s next t h
  advance_on_turned st (Folded ∷ fs) sg s next t h = instructions_turned st (ended fs st) sg s next t refl h
  advance_on_turned st (Arm ∷ fs) sg s next t h = instructions_turned st (framed fs st) sg s next t refl h
  advance_on_turned st (Operands p ∷ fs) sg s next t h = operands_turned p fs st sg s next t h
  advance_on_turned st (Condition label ty ∷ fs) sg s next t h = if_turned label ty fs st sg s next t h
  advance_on_turned st (Then ∷ fs) sg s next t h = then_turned fs st sg s next t h
  advance_on_turned st (Other ∷ fs) sg s next t h = closed_turned st (ended fs st) s next t refl h

  -- ---- bodies

  after : {st next last : State} {s t u : List Token} → Turned source st s next t → Turned source next t last u → Turned source st s last u
  after {st = st} {s = s} {u = u} a b = record {
    new = a.new ++ b.new;
    grown = b.grown ∙ ap (λ (l : List TypeUse). l ++ b.new) a.grown ∙ append_assoc st.uses a.new b.new;
    has = subst (λ (l : List TypeUse). Has source s u [] l) (sym (naming-append a.new b.new)) (a.has ▹ b.has);
  }

  turns : {going : State → List Token → Bool} {st last : State} {s u : List Token} → Runs {F = TextFault} going (advance source most) st s last u → Turned source st s last u
  unfolding advance
  turns {st = st} (rests e) = calm st st refl stays
  turns {st = st} {s = s} (goes {t = t} next g h r) = after (advance_on_turned st st.frames (sign_of source s) s next t h) (turns r)

  of_first : {s t : List Token} (last : State) → Turned source first_state s last t → Has source s t [] (naming last.uses)
  of_first {s = s} {t = t} last k = subst (λ (l : List TypeUse). Has source s t [] (naming l)) (sym k.grown) k.has

  pub body_has : (s : List Token) (b : Body) (t : List Token) → (body source most).spelled s b t → Has source s t [] (naming b.uses)
  unfolding body
  body_has s b t h = subst (λ (x : Body). Has source s t [] (naming x.uses)) (sym h.3.0) (until (of_first h.0 (turns h.2)) (same h.3.1))

  pub folded_body_has : (s : List Token) (b : Body) (t : List Token) → (folded_body source most).spelled s b t → Has source s t [] (naming b.uses)
  unfolding folded_body
  folded_body_has s b t h =
      let k = h.3 in
      subst (λ (x : Body). Has source s t [] (naming x.uses)) (sym k.3.0) (until (of_first k.0 (after (folded_turned first_state s h.0 h.1 h.2) (turns k.2))) (same k.3.1))
