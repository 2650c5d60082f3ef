-- What computes of the definition.
use Rattle.std.proofs.Common.{◌≡◌, true, refl}
use Rattle.clap.specs.Words.{is_simple_and_free}
use Rattle.ms_command_line.specs.declared.definition.TheConstants.{DEFAULT_BUDGET, DEFAULT_MEMORY}
use Rattle.ms_command_line.specs.Commands.{default_budget, default_memory, mswasm}

pub mswasm_is_simple : is_simple_and_free mswasm ≡ true
mswasm_is_simple = refl

pub default_budget_is : default_budget ≡ DEFAULT_BUDGET
default_budget_is = refl

pub default_memory_is : default_memory ≡ DEFAULT_MEMORY
default_memory_is = refl
