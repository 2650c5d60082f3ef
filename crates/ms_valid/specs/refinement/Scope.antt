-- The body of a function, and what its instructions refer to.
use Rattle.std.specs.Prelude.{List}
use Rattle.ms_module.specs.declared.instr.Instr.{Instr}
use Rattle.ms_rules.specs.Context.{Context}

pub record Scope : Type 0 where
  pub context : Context
  pub code : List (List Instr)

abbrev pub scope : Context → List (List Instr) → Scope
scope context code = record { context = context; code = code }
