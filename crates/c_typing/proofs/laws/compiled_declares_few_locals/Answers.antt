use Rattle.c_typing.proofs.Locals.{few_locals}
use Rattle.c_typing.proofs.laws.compiled_declares_few_locals.Goals as goal

pub returns : goal.returns
returns c = record { locals = few_locals }
