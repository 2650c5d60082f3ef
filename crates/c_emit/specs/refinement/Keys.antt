-- The key of a function's type: the codes of its parameters, 0, and those of its results.
use Rattle.std.specs.Prelude.{ℕ, Vec, List, ◌∷◌, ◌++◌, map}
use Rattle.std.specs.declared.alloc.Global.{Global}
use Rattle.indexmap.specs.IndexMap.{IndexMap, keys}
use Rattle.ms_types.specs.declared.types.FuncType.{FuncType}
use Rattle.ms_types.specs.declared.types.ValType.{ValType}
use Rattle.ms_types.specs.declared.types.ValType.TheVariants.{I32, I64, Handle}

abbrev pub code : ValType → ℕ
code I32 = 1
code I64 = 2
code Handle = 3

abbrev pub key : FuncType → List ℕ
key t = map code t.params ++ 0 ∷ map code t.results

abbrev pub keys_in : {V S : Type 0} → IndexMap (Vec ℕ Global) V S → List (List ℕ)
keys_in m = map (λ (k : Vec ℕ Global). k.items) (keys m)
