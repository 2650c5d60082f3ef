-- What the functions over the table give.
use Rattle.std.specs.Prelude.{◌≡◌, Result, Ok, Err}
use Rattle.std.specs.declared.alloc.AllocError.{AllocError}
use Rattle.c_productions.specs.declared.value.Value.{Value}
use Rattle.c_parse_steps.specs.declared.acting.Outcome.{Outcome}
use Rattle.c_parse_steps.specs.declared.acting.Outcome.TheVariants.{Joined, Opens, Begins, Stuck}
use Rattle.c_productions.specs.refinement.Table.{Action, joined, opens, begins, stuck}

-- what becomes of a value in hand, which is given back where a production stands open or the word doesn't belong to it
abbrev pub Acted : Action → Value → Result Outcome AllocError → Type 0
Acted t v (Ok (Joined u)) = t ≡ joined u
Acted t v (Ok (Opens r u)) = (t ≡ opens r) × (u ≡ v)
Acted t v (Ok (Begins r u)) = (t ≡ begins r) × (u ≡ v)
Acted t v (Ok (Stuck u)) = (t ≡ stuck) × (u ≡ v)
Acted t v (Err e) = Unit {0}
