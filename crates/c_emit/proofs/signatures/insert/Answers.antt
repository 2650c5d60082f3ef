use Rattle.std.proofs.Common.{◌∙◌}
use Rattle.c_emit.proofs.Keyed.{comes_last}
use Rattle.c_emit.proofs.signatures.insert.Goals as goal

pub returns-clause-ok : goal.returns-clause-ok
returns-clause-ok c = c.in_ok-insert.ensures.entries ∙ comes_last c.args.types.now.entries c.args.key c.args.ty c.requires
