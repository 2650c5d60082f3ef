-- Types, parameters, results and type uses (WebAssembly 1.0, 6.4 and 6.6.3).
use Rattle.std.specs.Prelude.{◌++◌, ◌≤◌, ℕ, Bool, true, false, List, [], ◌∷◌, length, Option, Some, None, nat_lt, is_some, if◌then◌else◌}
use Rattle.std.proofs.Common.{arith}
use Rattle.ms_bytes.specs.Do.{◌>>=◌}
use Rattle.ms_bytes.specs.Parts.{choose, item, never, pure}
use Rattle.ms_text_lex.specs.declared.token.Token.{Token}
use Rattle.ms_text_lex.specs.Tokens.{text_of}
use Rattle.ms_types.specs.declared.types.GlobalType.{GlobalType}
use Rattle.ms_types.specs.declared.types.Limits.{Limits}
use Rattle.ms_types.specs.declared.types.ValType.{ValType}
use Rattle.ms_module.specs.Instructions.{by_word, value_rows}
use Rattle.ms_text_grammar.specs.declared.fault.Counted.TheVariants.{Locals}
use Rattle.ms_text_grammar.specs.declared.fault.TextFault.{TextFault}
use Rattle.ms_text_grammar.specs.declared.fault.TextFault.TheVariants.{Limit}
use Rattle.ms_text_grammar.specs.declared.surface.Index.{Index}
use Rattle.ms_text_grammar.specs.declared.surface.Param.{Param}
use Rattle.ms_text_grammar.specs.declared.surface.TypeField.{TypeField}
use Rattle.ms_text_grammar.specs.declared.surface.TypeUse.{TypeUse}
use Rattle.ms_text_grammar.specs.declared.word.Word.TheVariants as word
use Rattle.ms_text_grammar.specs.Tokens.{begins, is_keyword, is_number, next}
use Rattle.ms_text_grammar.specs.Faults.{Textual, bad}
use Rattle.ms_text_grammar.specs.Parts.{closing, groups, listed, no_group, opening, optional_id, the}
use Rattle.ms_text_grammar.specs.Numbers.{if_so, index, number}

abbrev pub param : Option Token → ValType → Param
param id ty = record { id = id; ty = ty }

module _ (source : List ℕ) where
  -- ---- value types (6.4.1)

  abbrev pub type_of : Token → Option ValType
  type_of t = if_so (is_keyword t.kind) (by_word value_rows (text_of source t))

  unfoldable pub value_type : Textual ValType
  value_type = item (bad source) type_of

  unfoldable pub next_type : List ValType → Textual (List ValType)
  next_type tys = do
    ty ← value_type
    pure (tys ++ ty ∷ [])

  pub next_type_least : (tys : List ValType) → 1 ≤ (next_type tys).least
  unfolding next_type value_type
  next_type_least tys = omega arith

  -- types up to a parenthesis, behind those so far
  unfoldable pub types : List ValType → Textual (List ValType)
  types tys = listed source next_type next_type_least tys

  -- ---- parameters and results (6.4.3)

  unfoldable pub next_param : List Param → Textual (List Param)
  next_param ps = do
    ty ← value_type
    pure (ps ++ param None ty ∷ [])

  pub next_param_least : (ps : List Param) → 1 ≤ (next_param ps).least
  unfolding next_param value_type
  next_param_least ps = omega arith

  -- parameters without identifiers up to a parenthesis, behind those so far
  unfoldable pub unnamed : List Param → Textual (List Param)
  unnamed ps = listed source next_param next_param_least ps

  -- one with an identifier, or any number without
  unfoldable pub params_by : List Param → Option Token → Textual (List Param)
  params_by ps (Some id) = do
    ty ← value_type
    pure (ps ++ param (Some id) ty ∷ [])
  params_by ps None = unnamed ps

  unfoldable pub params_inside : List Param → Textual (List Param)
  params_inside ps = do
    id ← optional_id source
    params_by ps id

  unfoldable pub params : Textual (List Param)
  params = groups source word.Param params_inside []

  unfoldable pub unnamed_params : Textual (List Param)
  unnamed_params = groups source word.Param unnamed []

  unfoldable pub results : Textual (List ValType)
  results = groups source word.Result types []

  -- ---- locals (6.6.5): parameters under another word, at most so many

  -- a value type where so many locals are declared
  abbrev pub local_of : ℕ → ℕ → Token → Option ValType
  local_of most count t = if nat_lt count most then type_of t else None

  abbrev pub too_many : ℕ → List Token → TextFault
  too_many end [] = bad source end []
  too_many end (t ∷ ts) = if is_some (type_of t) then Limit Locals t.at else bad source end (t ∷ ts)

  unfoldable pub local_type : ℕ → ℕ → Textual ValType
  local_type most count = item too_many (local_of most count)

  unfoldable pub next_local : ℕ → List Param → Textual (List Param)
  next_local most ls = do
    ty ← local_type most (length ls)
    pure (ls ++ param None ty ∷ [])

  pub next_local_least : (most : ℕ) (ls : List Param) → 1 ≤ (next_local most ls).least
  unfolding next_local local_type
  next_local_least most ls = omega arith

  unfoldable pub locals_by : ℕ → List Param → Option Token → Textual (List Param)
  locals_by most ls (Some id) = do
    ty ← local_type most (length ls)
    pure (ls ++ param (Some id) ty ∷ [])
  locals_by most ls None = listed source (next_local most) (next_local_least most) ls

  unfoldable pub locals_inside : ℕ → List Param → Textual (List Param)
  locals_inside most ls = do
    id ← optional_id source
    locals_by most ls id

  unfoldable pub locals : ℕ → Textual (List Param)
  locals most = groups source word.Local (locals_inside most) []

  -- ---- type uses and type fields (6.6.2 and 6.6.3)

  unfoldable pub type_ref_by : Bool → Textual (Option Index)
  type_ref_by true = do
    begin ← opening source
    head ← the source word.Type
    x ← index source
    close ← closing source
    pure (Some x)
  type_ref_by false = pure None

  unfoldable pub type_ref : Textual (Option Index)
  type_ref = choose (begins source word.Type) type_ref_by

  unfoldable pub type_use : Textual TypeUse
  type_use = do
    sig ← type_ref
    ps ← params
    rs ← results
    pure (record { sig = sig; params = ps; results = rs })

  -- that of a `call_indirect`, without identifiers of parameters
  unfoldable pub unnamed_use : Textual TypeUse
  unnamed_use = do
    sig ← type_ref
    ps ← unnamed_params
    rs ← results
    pure (record { sig = sig; params = ps; results = rs })

  -- behind `(type`
  unfoldable pub type_field : Textual TypeField
  type_field = do
    id ← optional_id source
    begin ← opening source
    head ← the source word.Func
    ps ← params
    rs ← results
    none ← no_group source
    close ← closing source
    pure (record { id = id; params = ps; results = rs })

  -- ---- limits, tables and globals (6.4.4 to 6.4.7)

  unfoldable pub max_by : Bool → Textual (Option ℕ)
  max_by true = do
    n ← number source
    pure (Some n)
  max_by false = pure None

  unfoldable pub limits : Textual Limits
  limits = do
    min ← number source
    max ← choose (next (λ t. is_number t.kind)) max_by
    pure (record { min = min; max = max })

  unfoldable pub table_type : Textual Limits
  table_type = do
    size ← limits
    head ← the source word.Funcref
    pure size

  unfoldable pub global_type_by : Bool → Textual GlobalType
  global_type_by true = do
    begin ← opening source
    head ← the source word.Mut
    ty ← value_type
    close ← closing source
    pure (record { ty = ty; mutable = true })
  global_type_by false = do
    none ← no_group source
    ty ← value_type
    pure (record { ty = ty; mutable = false })

  unfoldable pub global_type : Textual GlobalType
  global_type = choose (begins source word.Mut) global_type_by

  -- ---- block types (6.5.2): at most one type, in groups of results

  unfoldable pub block_result : Option ValType → Textual (Option ValType)
  block_result None = do
    ty ← value_type
    pure (Some ty)
  block_result (Some ty) = never (bad source)

  pub block_result_least : (ty : Option ValType) → 1 ≤ (block_result ty).least
  unfolding block_result value_type
  block_result_least None = omega arith
  block_result_least (Some ty) = omega arith

  unfoldable pub block_results : Option ValType → Textual (Option ValType)
  block_results ty = listed source block_result block_result_least ty

  unfoldable pub block_type : Textual (Option ValType)
  block_type = groups source word.Result block_results None
