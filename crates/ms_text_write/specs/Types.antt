-- How types are written (WebAssembly 1.0, 6.4).
use Rattle.std.specs.Prelude.{ℕ, Bool, true, false, List, [], ◌∷◌, ◌++◌, Option, Some, None, codes, decimal}
use Rattle.ms_types.specs.declared.types.ValType.{ValType}
use Rattle.ms_types.specs.declared.types.FuncType.{FuncType}
use Rattle.ms_types.specs.declared.types.GlobalType.{GlobalType}
use Rattle.ms_types.specs.declared.types.Limits.{Limits}
use Rattle.ms_text_grammar.specs.declared.word.Word.{Word}
use Rattle.ms_text_grammar.specs.declared.word.Word.TheVariants as word
use Rattle.ms_text_grammar.specs.Keywords.{spelling}
use Rattle.ms_flat.specs.Keywords.{value_word}
use Rattle.ms_text_write.specs.Parts.{opened, spaced}

-- all types of a kind (`param`, `result` or `local`) in one group behind a space; nothing where there are none
abbrev pub group_text : Word → List ValType → List ℕ
group_text w [] = []
group_text w (ty ∷ tys) = codes " " ++ (opened w ++ (spaced value_word (ty ∷ tys) ++ codes ")"))

-- `(type (func (param ..) (result ..)))`
unfoldable pub func_type_text : FuncType → List ℕ
func_type_text ft =
    opened word.Type ++ (codes " " ++ (opened word.Func ++ (group_text word.Param ft.params ++ (group_text word.Result ft.results ++ codes "))"))))

-- the least size, and the greatest one if there is one
abbrev pub max_text : Option ℕ → List ℕ
max_text None = []
max_text (Some max) = codes " " ++ decimal max

abbrev pub limits_text : Limits → List ℕ
limits_text l = decimal l.min ++ max_text l.max

-- `(table 1 2 funcref)`
unfoldable pub table_text : Limits → List ℕ
table_text l = opened word.Table ++ (codes " " ++ (limits_text l ++ (codes " " ++ (spelling word.Funcref ++ codes ")"))))

-- `(memory 1 2)`
unfoldable pub memory_text : Limits → List ℕ
memory_text l = opened word.Memory ++ (codes " " ++ (limits_text l ++ codes ")"))

-- `i32`, or `(mut i32)` for a variable
abbrev pub mutable_text : Bool → List ℕ → List ℕ
mutable_text false ty = ty
mutable_text true ty = opened word.Mut ++ (codes " " ++ (ty ++ codes ")"))

abbrev pub global_type_text : GlobalType → List ℕ
global_type_text g = mutable_text g.mutable (value_word g.ty)
