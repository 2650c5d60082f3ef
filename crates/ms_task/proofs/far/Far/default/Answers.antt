use Rattle.std.proofs.Common.{◌+◌, sym, ◌∙◌, arith}
use Rattle.ms_task.proofs.FarValues.{none_past}
use Rattle.ms_task.proofs.far.Far.default.Goals as goal

pub unreachable-requires : goal.unreachable-requires
unreachable-requires c =
    let past = none_past c.args.self.now.types (256 + c.args.j) (sym c.get.ensures ∙ c.in-None.is) in
    absurd (omega (arith, past, c.requires))
