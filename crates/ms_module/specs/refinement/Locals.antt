-- Runs of locals of one type, each up to an index.
use Rattle.std.specs.Prelude.{◌≢◌, ℕ, ◌-◌, ◌<◌, List, [], ◌∷◌, ◌++◌, replicate}
use Rattle.ms_types.specs.declared.types.ValType.{ValType}
use Rattle.ms_module.specs.declared.locals.Run.{Run}

-- the types of the locals from an index on
abbrev pub types_of : ℕ → List Run → List ValType
types_of from [] = []
types_of from (r ∷ rs) = replicate (r.end - from) r.ty ++ types_of r.end rs

-- each run has a local, and the next begins where it ends
abbrev pub Rise : ℕ → List Run → Type 0
Rise from [] = Unit {0}
Rise from (r ∷ rs) = (from < r.end) × Rise r.end rs

-- the next run, if there is one, has another type
abbrev pub BeginsOther : ValType → List Run → Type 0
BeginsOther ty [] = Unit {0}
BeginsOther ty (r ∷ rs) = ty ≢ r.ty

-- neighbours have different types
abbrev pub Differ : List Run → Type 0
Differ [] = Unit {0}
Differ (r ∷ rs) = BeginsOther r.ty rs × Differ rs

-- the index behind the last run
abbrev pub end_of : ℕ → List Run → ℕ
end_of from [] = from
end_of from (r ∷ rs) = end_of r.end rs
