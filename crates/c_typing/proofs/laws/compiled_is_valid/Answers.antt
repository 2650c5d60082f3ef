use Rattle.c_typing.proofs.Modules.{valid}
use Rattle.c_typing.proofs.laws.compiled_is_valid.Goals as goal

pub returns : goal.returns
returns c = record { valid = valid }
