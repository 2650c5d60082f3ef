-- What is spelled within some bounds is spelled so within greater ones.
use Rattle.std.proofs.Common.{◌≡◌, ℕ, suc, ◌+◌, ◌-◌, ◌<◌, ◌≤◌, Bool, true, false, List, [], ◌∷◌, length, Option, Some, None, refl, arith, if◌then◌else◌}
use Rattle.std.proofs.lemmas.Bool.{lt-ltb, ltb-true}
use Rattle.std.proofs.Math.Dec.{ltb}
use Rattle.ms_bytes.specs.Runs.{Runs, goes, rests}
use Rattle.ms_types.specs.declared.types.ValType.{ValType}
use Rattle.ms_module.specs.declared.builder.Opening.{Opening}
use Rattle.ms_module.specs.declared.module.Module.{Module}
use Rattle.ms_text_lex.specs.declared.token.Token.{Token}
use Rattle.ms_text_grammar.specs.declared.frame.Frame.{Frame}
use Rattle.ms_text_grammar.specs.declared.frame.Frame.TheVariants.{Arm, Condition, Flat, Folded, Operands, Other, Then}
use Rattle.ms_text_grammar.specs.declared.frame.Sign.{Sign}
use Rattle.ms_text_grammar.specs.declared.frame.Sign.TheVariants as sign
use Rattle.ms_text_grammar.specs.declared.surface.ExternKind.{ExternKind}
use Rattle.ms_text_grammar.specs.declared.surface.ExternKind.TheVariants as kind
use Rattle.ms_text_grammar.specs.declared.surface.ImportNames.{ImportNames}
use Rattle.ms_text_grammar.specs.declared.surface.Param.{Param}
use Rattle.ms_text_grammar.specs.declared.word.Word.{Word}
use Rattle.ms_text_grammar.specs.declared.word.Word.TheVariants as word
use Rattle.ms_text_grammar.specs.Tokens.{begins, is_close, is_open}
use Rattle.ms_text_grammar.specs.Faults.{Textual}
use Rattle.ms_text_grammar.specs.Bounds.{Bounds}
use Rattle.ms_text_grammar.specs.Parts.{group, groups, listed}
use Rattle.ms_text_grammar.specs.Types.{local_type, locals, locals_by, locals_inside, next_local}
use Rattle.ms_text_grammar.specs.Advances.{State, advance_on, closed, condition, condition_on, ended, else_arm, flat_block, flat_else, flat_plain, folded, folded_block, folded_on, folded_plain, framed, heading, instructions, marked, repeated, repeated_by, sign_of}
use Rattle.ms_text_grammar.specs.Bodies.{advance, body, body_goes, folded_body, inside_goes}
use Rattle.ms_text_grammar.specs.Entries.{content, data_field, definition, element_field, entry_field, export_field, extern_kind, import_field, import_names, imported, indices, inline_exports, inline_import, inline_import_by, memory_by, next_export, next_index, next_string, offset, offset_by, strings, table_by}
use Rattle.ms_text_grammar.specs.Fields.{File, all_fields, behind_field, fields_go, file_by, file_within, next_field}
use Rattle.ms_text_grammar.specs.Scans.{too_deep}
use Rattle.ms_text_grammar.specs.TextSpells.{TextSpellsWithin}
use Rattle.ms_text_grammar.proofs.Files.{one_module_within}

-- what the one spells the other spells
abbrev pub Wide : {A : Type 0} → Textual A → Textual A → Type 0
Wide {A} f g = (s : List Token) (x : A) (t : List Token) → f.spelled s x t → g.spelled s x t

pub runs_wide : {S : Type 0} (going going' : S → List Token → Bool) → ((st : S) (s : List Token) → going st s ≡ going' st s) → (f g : S → Textual S) → ((st : S) → Wide (f st) (g st))
    → {st last : S} {s u : List Token} → Runs going f st s last u → Runs going' g st s last u
runs_wide going going' same f g w {st = st} {s = s} (rests e) = rests (rw (← same st s) e)
runs_wide going going' same f g w {st = st} {s = s} (goes {t = t} next e h r) = goes next (rw (← same st s) e) (w st s next t h) (runs_wide going going' same f g w r)

-- a value where a number is below a bound
below : {A : Type 0} (n p q : ℕ) (o : Option A) (x : A) → p ≤ q → (if ltb n p then o else None) ≡ Some x → (if ltb n q then o else None) ≡ Some x
below {A} n p q o x le e = go (ltb n p) refl e where
  go : (b : Bool) → ltb n p ≡ b → (if b then o else None) ≡ Some x → (if ltb n q then o else None) ≡ Some x
  go true h e = let less : n < p = ltb-true n p h in rw (lt-ltb n q (omega arith)) e
  go false h e = absurd cc

-- ---- bodies

module _ (source : List ℕ) (a b : ℕ) (le : a ≤ b) where
  heading_wide : (blocks : ℕ) → Wide (heading source a blocks) (heading source b blocks)
  unfolding heading
  heading_wide blocks s x t h = (h.0, h.1, (h.2.0, h.2.1, below blocks a b _ h.0 le h.2.2), h.3)

  flat_block_wide : (st : State) (o : Opening) → Wide (flat_block source a st o) (flat_block source b st o)
  unfolding flat_block
  flat_block_wide st o s x t h = (h.0, h.1, heading_wide st.blocks s h.0 h.1 h.2, h.3)

  folded_on_wide : (st : State) (sg : Sign) → Wide (folded_on source a st sg) (folded_on source b st sg)
  unfolding folded_on folded_block folded_plain
  folded_on_wide st (sign.Heads o) s x t h = (h.0, h.1, heading_wide st.blocks s h.0 h.1 h.2, h.3)
  folded_on_wide st sign.Left s x t h = h
  folded_on_wide st sign.Right s x t h = h
  folded_on_wide st sign.Ends s x t h = h
  folded_on_wide st sign.Elses s x t h = h
  folded_on_wide st sign.Thens s x t h = h
  folded_on_wide st sign.Other s x t h = h

  folded_wide : (st : State) → Wide (folded source a st) (folded source b st)
  unfolding folded
  folded_wide st s x t h = (h.0, h.1, h.2, folded_on_wide st (sign_of source h.1) h.1 x t h.3)

  condition_wide : (label : Option Token) (ty : Option ValType) (fs : List Frame) (st : State) → Wide (condition source a label ty fs st) (condition source b label ty fs st)
  unfolding condition condition_on
  condition_wide label ty fs st s x t h = (h.0, h.1, h.2, go (sign_of source h.1) h.1 x t h.3) where
    go : (sg : Sign) → Wide (condition_on source a label ty fs st sg) (condition_on source b label ty fs st sg)
    go sign.Thens s x t h = h
    go (sign.Heads o) s x t h = folded_on_wide st (sign.Heads o) s x t h
    go sign.Left s x t h = folded_on_wide st sign.Left s x t h
    go sign.Right s x t h = folded_on_wide st sign.Right s x t h
    go sign.Ends s x t h = folded_on_wide st sign.Ends s x t h
    go sign.Elses s x t h = folded_on_wide st sign.Elses s x t h
    go sign.Other s x t h = folded_on_wide st sign.Other s x t h

  instructions_wide : (st after : State) (sg : Sign) → Wide (instructions source a st after sg) (instructions source b st after sg)
  unfolding instructions closed flat_plain
  instructions_wide st after sign.Left s x t h = folded_wide st s x t h
  instructions_wide st after (sign.Heads o) s x t h = flat_block_wide st o s x t h
  instructions_wide st after sign.Right s x t h = h
  instructions_wide st after sign.Ends s x t h = h
  instructions_wide st after sign.Elses s x t h = h
  instructions_wide st after sign.Thens s x t h = h
  instructions_wide st after sign.Other s x t h = h

  flat_else_wide : (label : Option Token) (may : Bool) (fs : List Frame) (st : State) → Wide (flat_else source a label may fs st) (flat_else source b label may fs st)
  unfolding flat_else marked repeated repeated_by
  flat_else_wide label true fs st s x t h = h
  flat_else_wide label false fs st s x t h = h

  flat_wide : (label : Option Token) (may : Bool) (fs : List Frame) (st : State) (sg : Sign) → Wide (advance_on source a st (Flat label may ∷ fs) sg) (advance_on source b st (Flat label may ∷ fs) sg)
  unfolding advance_on marked repeated repeated_by flat_plain
  flat_wide label may fs st sign.Ends s x t h = h
  flat_wide label may fs st sign.Elses s x t h = flat_else_wide label may fs st s x t h
  flat_wide label may fs st sign.Left s x t h = folded_wide st s x t h
  flat_wide label may fs st (sign.Heads o) s x t h = flat_block_wide st o s x t h
  flat_wide label may fs st sign.Right s x t h = h
  flat_wide label may fs st sign.Thens s x t h = h
  flat_wide label may fs st sign.Other s x t h = h

  operands_wide : (p : _) (fs : List Frame) (st : State) (sg : Sign) → Wide (advance_on source a st (Operands p ∷ fs) sg) (advance_on source b st (Operands p ∷ fs) sg)
  unfolding advance_on closed
  operands_wide p fs st sign.Left s x t h = folded_wide st s x t h
  operands_wide p fs st (sign.Heads o) s x t h = h
  operands_wide p fs st sign.Right s x t h = h
  operands_wide p fs st sign.Ends s x t h = h
  operands_wide p fs st sign.Elses s x t h = h
  operands_wide p fs st sign.Thens s x t h = h
  operands_wide p fs st sign.Other s x t h = h

  if_wide : (label : Option Token) (ty : Option ValType) (fs : List Frame) (st : State) (sg : Sign) → Wide (advance_on source a st (Condition label ty ∷ fs) sg) (advance_on source b st (Condition label ty ∷ fs) sg)
  unfolding advance_on
  if_wide label ty fs st sign.Left s x t h = condition_wide label ty fs st s x t h
  if_wide label ty fs st (sign.Heads o) s x t h = h
  if_wide label ty fs st sign.Right s x t h = h
  if_wide label ty fs st sign.Ends s x t h = h
  if_wide label ty fs st sign.Elses s x t h = h
  if_wide label ty fs st sign.Thens s x t h = h
  if_wide label ty fs st sign.Other s x t h = h

  then_wide : (fs : List Frame) (st : State) (sg : Sign) → Wide (advance_on source a st (Then ∷ fs) sg) (advance_on source b st (Then ∷ fs) sg)
  unfolding advance_on else_arm closed
  then_wide fs st sign.Left s x t h = h
  then_wide fs st (sign.Heads o) s x t h = h
  then_wide fs st sign.Right s x t h = h
  then_wide fs st sign.Ends s x t h = h
  then_wide fs st sign.Elses s x t h = h
  then_wide fs st sign.Thens s x t h = h
  then_wide fs st sign.Other s x t h = h

  advance_on_wide : (st : State) (fs : List Frame) (sg : Sign) → Wide (advance_on source a st fs sg) (advance_on source b st fs sg)
  unfolding advance_on closed
  advance_on_wide st [] sg s x t h = instructions_wide st st sg s x t h
  advance_on_wide st (Flat label may ∷ fs) sg s x t h = flat_wide label may fs st sg s x t h
  advance_on_wide st (Folded ∷ fs) sg s x t h = instructions_wide st (ended fs st) sg s x t h
  advance_on_wide st (Arm ∷ fs) sg s x t h = instructions_wide st (framed fs st) sg s x t h
  advance_on_wide st (Operands p ∷ fs) sg s x t h = operands_wide p fs st sg s x t h
  advance_on_wide st (Condition label ty ∷ fs) sg s x t h = if_wide label ty fs st sg s x t h
  advance_on_wide st (Then ∷ fs) sg s x t h = then_wide fs st sg s x t h
  advance_on_wide st (Other ∷ fs) sg s x t h = h

  advance_wide : (st : State) → Wide (advance source a st) (advance source b st)
  unfolding advance
  advance_wide st s x t h = advance_on_wide st st.frames (sign_of source s) s x t h

  body_wide : Wide (body source a) (body source b)
  unfolding body
  body_wide s x t h = (h.0, h.1, runs_wide (body_goes source a) (body_goes source b) (λ st s. refl) (advance source a) (advance source b) advance_wide h.2, h.3)

  folded_body_wide : Wide (folded_body source a) (folded_body source b)
  unfolding folded_body
  folded_body_wide s x t h =
      (h.0, h.1, folded_wide _ s h.0 h.1 h.2, (h.3.0, h.3.1, runs_wide (inside_goes source a) (inside_goes source b) (λ st s. refl) (advance source a) (advance source b) advance_wide h.3.2, h.3.3))

  -- ---- locals

  local_wide : (count : ℕ) → Wide (local_type source a count) (local_type source b count)
  unfolding local_type
  local_wide count s x t h = (h.0, h.1, below count a b _ x le h.2)

  next_local_wide : (ls : List Param) → Wide (next_local source a ls) (next_local source b ls)
  unfolding next_local
  next_local_wide ls s x t h = (h.0, h.1, local_wide (length ls) s h.0 h.1 h.2, h.3)

  locals_by_wide : (ls : List Param) (id : Option Token) → Wide (locals_by source a ls id) (locals_by source b ls id)
  unfolding locals_by listed
  locals_by_wide ls (Some id) s x t h = (h.0, h.1, local_wide (length ls) s h.0 h.1 h.2, h.3)
  locals_by_wide ls None s x t h = runs_wide _ _ (λ st s. refl) (next_local source a) (next_local source b) next_local_wide h

  locals_inside_wide : (ls : List Param) → Wide (locals_inside source a ls) (locals_inside source b ls)
  unfolding locals_inside
  locals_inside_wide ls s x t h = (h.0, h.1, h.2, locals_by_wide ls h.0 h.1 x t h.3)

  group_wide : (ls : List Param) → Wide (group source word.Local (locals_inside source a) ls) (group source word.Local (locals_inside source b) ls)
  unfolding group
  group_wide ls s x t h = (h.0, h.1, h.2, (h.3.0, h.3.1, h.3.2, (h.3.3.0, h.3.3.1, locals_inside_wide ls h.3.1 h.3.3.0 h.3.3.1 h.3.3.2, h.3.3.3)))

  locals_wide : Wide (locals source a) (locals source b)
  unfolding locals groups
  locals_wide s x t h = runs_wide _ _ (λ st s. refl) (group source word.Local (locals_inside source a)) (group source word.Local (locals_inside source b)) group_wide h

-- ---- fields

module _ (source : List ℕ) (a b : Bounds) (blocks : a.blocks ≤ b.blocks) (room : a.locals ≤ b.locals) where
  indices_wide : Wide (indices source a) (indices source b)
  unfolding indices next_index listed
  indices_wide s x t h = runs_wide _ _ (λ st s. refl) (next_index source a) (next_index source b) (λ st s x t h. h) h

  strings_wide : Wide (strings source a) (strings source b)
  unfolding strings next_string listed
  strings_wide s x t h = runs_wide _ _ (λ st s. refl) (next_string source a) (next_string source b) (λ st s x t h. h) h

  imported_wide : (k : ExternKind) → Wide (imported source a k) (imported source b k)
  unfolding imported
  imported_wide kind.Func s x t h = h
  imported_wide kind.Table s x t h = h
  imported_wide kind.Memory s x t h = h
  imported_wide kind.Global s x t h = h

  import_field_wide : Wide (import_field source a) (import_field source b)
  unfolding import_field import_names extern_kind
  import_field_wide s x t h =
      let k = h.3.3.3.3 in
      (h.0, h.1, h.2, (h.3.0, h.3.1, h.3.2, (h.3.3.0, h.3.3.1, h.3.3.2, (h.3.3.3.0, h.3.3.3.1, h.3.3.3.2, (k.0, k.1, imported_wide h.3.3.0 h.3.3.3.1 k.0 k.1 k.2, k.3)))))

  table_wide : (by : Bool) → Wide (table_by source a by) (table_by source b by)
  unfolding table_by
  table_wide true s x t h =
      let k = h.3.3.3 in
      (h.0, h.1, h.2, (h.3.0, h.3.1, h.3.2, (h.3.3.0, h.3.3.1, h.3.3.2, (k.0, k.1, indices_wide h.3.3.1 k.0 k.1 k.2, k.3))))
  table_wide false s x t h = h

  memory_wide : (by : Bool) → Wide (memory_by source a by) (memory_by source b by)
  unfolding memory_by
  memory_wide true s x t h = let k = h.3.3 in (h.0, h.1, h.2, (h.3.0, h.3.1, h.3.2, (k.0, k.1, strings_wide h.3.1 k.0 k.1 k.2, k.3)))
  memory_wide false s x t h = h

  definition_wide : (k : ExternKind) → Wide (definition source a k) (definition source b k)
  unfolding definition
  definition_wide kind.Func s x t h =
      let k = h.3.3 in
      (h.0, h.1, h.2, (h.3.0, h.3.1, locals_wide source a.locals b.locals room h.1 h.3.0 h.3.1 h.3.2, (k.0, k.1, body_wide source a.blocks b.blocks blocks h.3.1 k.0 k.1 k.2, k.3)))
  definition_wide kind.Table s x t h = table_wide _ s x t h
  definition_wide kind.Memory s x t h = memory_wide _ s x t h
  definition_wide kind.Global s x t h = (h.0, h.1, h.2, (h.3.0, h.3.1, body_wide source a.blocks b.blocks blocks h.1 h.3.0 h.3.1 h.3.2, h.3.3))

  content_wide : (k : ExternKind) (import : Option ImportNames) → Wide (content source a k import) (content source b k import)
  unfolding content
  content_wide k (Some names) s x t h = imported_wide k s x t h
  content_wide k None s x t h = definition_wide k s x t h

  import_by_wide : (defined by : Bool) → Wide (inline_import_by source a defined by) (inline_import_by source b defined by)
  unfolding inline_import_by import_names
  import_by_wide defined true s x t h = h
  import_by_wide defined false s x t h = h

  exports_wide : Wide (inline_exports source a) (inline_exports source b)
  unfolding inline_exports groups group next_export
  exports_wide s x t h = runs_wide _ _ (λ st s. refl) (group source word.Export (next_export source a)) (group source word.Export (next_export source b)) (λ st s x t h. h) h

  entry_wide : (defined : Bool) (k : ExternKind) → Wide (entry_field source a defined k) (entry_field source b defined k)
  unfolding entry_field inline_import
  entry_wide defined k s x t h =
      let e = h.3 in
      let i = e.3 in
      let c = i.3 in
      (h.0, h.1, h.2, (e.0, e.1, exports_wide h.1 e.0 e.1 e.2, (i.0, i.1, import_by_wide defined (begins source word.Import e.1) e.1 i.0 i.1 i.2, (c.0, c.1, content_wide k i.0 i.1 c.0 c.1 c.2, c.3))))

  offset_by_wide : (by : Bool) → Wide (offset_by source a by) (offset_by source b by)
  unfolding offset_by
  offset_by_wide true s x t h = let k = h.3.3 in (h.0, h.1, h.2, (h.3.0, h.3.1, h.3.2, (k.0, k.1, body_wide source a.blocks b.blocks blocks h.3.1 k.0 k.1 k.2, k.3)))
  offset_by_wide false s x t h = folded_body_wide source a.blocks b.blocks blocks s x t h

  offset_wide : Wide (offset source a) (offset source b)
  unfolding offset
  offset_wide s x t h = offset_by_wide (begins source word.Offset s) s x t h

  element_wide : Wide (element_field source a) (element_field source b)
  unfolding element_field
  element_wide s x t h =
      let k = h.3.3 in
      (h.0, h.1, h.2, (h.3.0, h.3.1, offset_wide h.1 h.3.0 h.3.1 h.3.2, (k.0, k.1, indices_wide h.3.1 k.0 k.1 k.2, k.3)))

  data_wide : Wide (data_field source a) (data_field source b)
  unfolding data_field
  data_wide s x t h =
      let k = h.3.3 in
      (h.0, h.1, h.2, (h.3.0, h.3.1, offset_wide h.1 h.3.0 h.3.1 h.3.2, (k.0, k.1, strings_wide h.3.1 k.0 k.1 k.2, k.3)))

  export_wide : Wide (export_field source a) (export_field source b)
  unfolding export_field extern_kind
  export_wide s x t h = h

  behind_wide : (defined : Bool) (w : Word) → Wide (behind_field source a defined w) (behind_field source b defined w)
  unfolding behind_field
  behind_wide defined word.Type s x t h = h
  behind_wide defined word.Import s x t h = (h.0, h.1, import_field_wide s h.0 h.1 h.2, h.3)
  behind_wide defined word.Func s x t h = (h.0, h.1, entry_wide defined kind.Func s h.0 h.1 h.2, h.3)
  behind_wide defined word.Table s x t h = (h.0, h.1, entry_wide defined kind.Table s h.0 h.1 h.2, h.3)
  behind_wide defined word.Memory s x t h = (h.0, h.1, entry_wide defined kind.Memory s h.0 h.1 h.2, h.3)
  behind_wide defined word.Global s x t h = (h.0, h.1, entry_wide defined kind.Global s h.0 h.1 h.2, h.3)
  behind_wide defined word.Export s x t h = export_wide s x t h
  behind_wide defined word.Start s x t h = h
  behind_wide defined word.Elem s x t h = element_wide s x t h
  behind_wide defined word.Data s x t h = data_wide s x t h
  behind_wide defined _ s x t h = absurd h

  next_field_wide : (f : File) → Wide (next_field source a f) (next_field source b f)
  unfolding next_field
  next_field_wide f s x t h =
      let k = h.3.3 in
      (h.0, h.1, h.2, (h.3.0, h.3.1, h.3.2, (k.0, k.1, behind_wide f.defined h.3.0 h.3.1 k.0 k.1 k.2, k.3)))

  all_fields_wide : (bracketed : Bool) → Wide (all_fields source a bracketed) (all_fields source b bracketed)
  unfolding all_fields
  all_fields_wide bracketed s x t h = runs_wide (fields_go source a) (fields_go source b) (λ st s. go st s) (next_field source a) (next_field source b) next_field_wide h where
    go : (f : File) (s : List Token) → fields_go source a f s ≡ fields_go source b f s
    go f [] = refl
    go f (t ∷ ts) = refl

  file_by_wide : (by : Bool) → Wide (file_by source a by) (file_by source b by)
  unfolding file_by
  file_by_wide true s x t h =
      let k = h.3.3.3 in
      (h.0, h.1, h.2, (h.3.0, h.3.1, h.3.2, (h.3.3.0, h.3.3.1, h.3.3.2, (k.0, k.1, all_fields_wide true h.3.3.1 k.0 k.1 k.2, k.3))))
  file_by_wide false s x t h = (h.0, h.1, all_fields_wide false s h.0 h.1 h.2, h.3)

  file_wide : Wide (file_within source a) (file_within source b)
  unfolding file_within
  file_wide s x t h = file_by_wide (begins source word.Module s) s x t h

-- ---- parentheses

-- where at most so many are in one another, at most more are
pub less_deep : (a b d : ℕ) → a ≤ b → (ts : List Token) → too_deep a d ts ≡ None → too_deep b d ts ≡ None
less_deep a b d le [] e = refl
less_deep a b d le (t ∷ ts) e = opens (λ d e. less_deep a b d le ts e) (is_open t.kind) (is_close t.kind) (ltb d a) refl e where
  opens : ((d : ℕ) → too_deep a d ts ≡ None → too_deep b d ts ≡ None) → (o c l : Bool) → ltb d a ≡ l → (if o then (if l then too_deep a (suc d) ts else Some t.at) else if c then too_deep a (d - 1) ts else too_deep a d ts) ≡ None
      → (if o then (if ltb d b then too_deep b (suc d) ts else Some t.at) else if c then too_deep b (d - 1) ts else too_deep b d ts) ≡ None
  opens on true c true l e = let less : d < a = ltb-true d a l in rw (lt-ltb d b (omega arith)) (on (suc d) e)
  opens on true c false l e = absurd cc
  opens on false true lt l e = on (d - 1) e
  opens on false false lt l e = on d e

-- ---- texts

pub wider : (a b : Bounds) → a.blocks ≤ b.blocks → a.locals ≤ b.locals → a.parens ≤ b.parens → (bytes : List ℕ) (m : Module) → TextSpellsWithin a bytes m → TextSpellsWithin b bytes m
wider a b blocks room parens bytes m h = record {
  tokens = h.tokens;
  fields = h.fields;
  lexed = h.lexed;
  spelled = record {
    grammar = file_wide bytes a b blocks room h.tokens h.fields [] h.spelled.grammar;
    agrees = h.spelled.agrees;
    shallow = less_deep a.parens b.parens 0 parens h.tokens h.spelled.shallow;
  };
  named = h.named;
  is = h.is;
}

-- A text spells one module at most, within whatever bounds.
pub one_spelled : (a b : Bounds) (bytes : List ℕ) (m n : Module) → TextSpellsWithin a bytes m → TextSpellsWithin b bytes n → m ≡ n
one_spelled a b bytes m n h k =
    let c : Bounds = record { blocks = a.blocks + b.blocks; locals = a.locals + b.locals; parens = a.parens + b.parens } in
    one_module_within c bytes m n (wider a c (omega arith) (omega arith) (omega arith) bytes m h) (wider b c (omega arith) (omega arith) (omega arith) bytes n k)
