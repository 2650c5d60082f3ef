-- What identifiers and type uses of a module stand for (WebAssembly 1.0, 6.6.3): a use that names no type is the least one that
-- is what it writes, and adds it where there is none. One that names a type and writes one writes that type.
use Rattle.std.specs.Prelude.{◌≡◌, ℕ, ◌==◌, true, List, [], ◌∷◌, ◌++◌, Option, Some, None, All, IfSome, length, replicate, slice_get, if◌then◌else◌}
use Rattle.ms_types.specs.declared.types.FuncType.{FuncType}
use Rattle.ms_text_lex.specs.declared.token.Token.{Token}
use Rattle.ms_text_grammar.specs.declared.surface.ExternKind.{ExternKind}
use Rattle.ms_text_grammar.specs.declared.surface.ExternKind.TheVariants as kind
use Rattle.ms_text_grammar.specs.declared.surface.Field.{Field}
use Rattle.ms_text_grammar.specs.declared.surface.Field.TheVariants as field
use Rattle.ms_text_grammar.specs.declared.surface.Index.{Index}
use Rattle.ms_text_grammar.specs.declared.surface.Index.TheVariants.{Name, Number}
use Rattle.ms_text_grammar.specs.declared.surface.Item.{Item}
use Rattle.ms_text_grammar.specs.declared.surface.Item.TheVariants as item
use Rattle.ms_text_grammar.specs.declared.surface.Param.{Param}
use Rattle.ms_text_grammar.specs.declared.surface.TypeField.{TypeField}
use Rattle.ms_text_grammar.specs.declared.surface.TypeUse.{TypeUse}
use Rattle.ms_text_grammar.specs.Shapes.{field_type, has_type, is_written, least_equal, use_type}
use Rattle.ms_text_grammar.specs.Identifiers.{With, found, param_ids, resolved, right}
use Rattle.ms_text_grammar.specs.FieldKinds.{entries_in, entry_ids, of_kind, type_ids, types_in}

abbrev pub item_uses : Item → List TypeUse
item_uses (item.Func sig locals body) = sig ∷ body.uses
item_uses (item.Global ty init) = init.uses
item_uses _ = []

-- those of a field, in the order of the text
abbrev pub uses_of : Field → List TypeUse
uses_of (field.Entry e) = item_uses e.item
uses_of (field.Element table offset funcs) = offset.uses
uses_of (field.Data memory offset strings) = offset.uses
uses_of _ = []

abbrev pub field_types : List TypeField → List FuncType
field_types [] = []
field_types (f ∷ fs) = field_type f ∷ field_types fs

-- a use that names no type, and writes one that isn't there, adds it at the end
abbrev pub with_use : Option Index → FuncType → List FuncType → List FuncType
with_use (Some x) ty tys = tys
with_use None ty tys = if has_type ty tys then tys else tys ++ ty ∷ []

abbrev pub with_uses : List TypeUse → List FuncType → List FuncType
with_uses [] tys = tys
with_uses (u ∷ us) tys = with_uses us (with_use u.sig (use_type u) tys)

abbrev pub all_uses : List Field → List TypeUse
all_uses [] = []
all_uses (f ∷ fs) = uses_of f ++ all_uses fs

-- ---- uses that name a type and write one

-- the type field of this number
abbrev pub field_at : List TypeField → Option ℕ → Option TypeField
field_at fs None = None
field_at fs (Some n) = slice_get fs n

module _ (source : List ℕ) where
  -- the number of the type field that a use names: the first one of an identifier
  abbrev pub index_in : List TypeField → Option Index → Option ℕ
  index_in fs None = None
  index_in fs (Some (Number n)) = Some n
  index_in fs (Some (Name id)) = found source (type_ids fs) id 0

  -- where the use names one of these type fields and writes a type, that is the type of the field
  abbrev pub Agrees : List TypeField → TypeUse → Type 0
  Agrees fs u = IfSome (field_at fs (index_in fs u.sig)) (λ f. is_written u ≡ true → use_type u ≡ field_type f)

  -- each use of the fields
  abbrev pub AllAgree : List Field → Type 0
  AllAgree fs = All (Agrees (types_in fs)) (all_uses fs)

-- ---- what identifiers and type uses of a module stand for: the identifiers of its index spaces, and all its types

pub record Scope : Type 0 where
  pub types : List (Option Token)
  pub funcs : List (Option Token)
  pub tables : List (Option Token)
  pub memories : List (Option Token)
  pub globals : List (Option Token)
  pub sigs : List FuncType

abbrev pub scope_of : List Field → Scope
scope_of fs =
    let types = types_in fs in
    let entries = entries_in fs in
    record {
      types = type_ids types;
      funcs = entry_ids (of_kind kind.Func entries);
      tables = entry_ids (of_kind kind.Table entries);
      memories = entry_ids (of_kind kind.Memory entries);
      globals = entry_ids (of_kind kind.Global entries);
      sigs = with_uses (all_uses fs) (field_types types);
    }

abbrev pub ids_of : Scope → ExternKind → List (Option Token)
ids_of scope kind.Func = scope.funcs
ids_of scope kind.Table = scope.tables
ids_of scope kind.Memory = scope.memories
ids_of scope kind.Global = scope.globals

abbrev pub params_len : Option FuncType → ℕ
params_len None = 0
params_len (Some ty) = length ty.params

-- The identifiers of a function's locals: behind the parameters that are written, or, where none is, behind those of its type.
abbrev pub local_ids : Scope → ℕ → TypeUse → List Param → List (Option Token)
local_ids scope sig u locals =
    (if length u.params == 0 then replicate (params_len (slice_get scope.sigs sig)) None else param_ids u.params) ++ param_ids locals

module _ (source : List ℕ) (scope : Scope) where
  abbrev pub index_by : Option Index → FuncType → With ℕ
  index_by (Some x) ty = resolved source scope.types x
  index_by None ty = right (least_equal ty scope.sigs)

  -- The index of the type of a use: the one that it names, else the least one that is what it writes.
  abbrev pub use_index : TypeUse → With ℕ
  use_index u = index_by u.sig (use_type u)
