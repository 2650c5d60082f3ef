use Rattle.std.proofs.Common.{◌≡◌, Some, rules}
use Rattle.ms_module.specs.declared.access.Segment.TheVariants as instr
use Rattle.ms_machine.specs.Segments.{Gives, segment_on}
use Rattle.ms_machine.proofs.segment.load_counted_by.Goals as goal

pub returns-in-Ok : goal.returns-in-Ok
returns-in-Ok g c =
    let does : segment_on (instr.Load c.args.op) (g.S.SegmentMemory.memory c.args.segments.now) c.args.operands.now ≡ Gives c.set_top_cell.new.self (g.S.SegmentMemory.memory c.load.new.self) (Some c.in-Ok.event) = search rules in
    (Some c.in-Ok.event, does, c.count.ensures)
