-- What resolving gives in the end.
use Rattle.std.specs.Prelude.{◌≡◌, ◌≤◌, ℕ, List, [], Option, Some, None, Result, Ok, Err, All, Contains}
use Rattle.ms_module.specs.declared.module.Module.{Module}
use Rattle.ms_text_grammar.specs.declared.fault.TextFault.{TextFault}
use Rattle.ms_text_grammar.specs.declared.fault.TextFault.TheVariants.{Memory, Name}
use Rattle.ms_text_grammar.specs.Identifiers.{With}

-- the least of places, if there is one
abbrev pub IsLeast : List ℕ → Option ℕ → Type 0
IsLeast places None = places ≡ []
IsLeast places (Some n) = Contains places n × All (λ m. n ≤ m) places

-- The value where nothing is wrong, else the least place of what is; want of memory may come at any time.
abbrev pub Resolves : With Module → Result Module TextFault → Type 0
Resolves x (Ok m) = (x.wrong ≡ []) × (m ≡ x.value)
Resolves x (Err (Name at)) = Contains x.wrong at × All (λ n. at ≤ n) x.wrong
Resolves x (Err Memory) = Unit {0}
Resolves x (Err _) = ⊥
