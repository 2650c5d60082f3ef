use Rattle.std.proofs.Common.{inl, inr}
use Rattle.ms_run.proofs.Putting.{all_put, line_cut, line_starved, none_left, none_so_far, one_more, some_left}
use Rattle.ms_run.proofs.report.answer.Goals as goal

pub loop-left-init : goal.loop-left-init
loop-left-init g c = none_so_far c.args.text.now _ _

pub returns-in-Failed : goal.returns-in-Failed
returns-in-Failed g c =
    inr (inl (line_cut c.args.text.now c.loop-left.left.now c.split_line.result.0.now c.split_line.result.1.now (some_left c.loop-left.left.now c.loop-left-test.ensures) c.split_line.ensures.parts _ _ _ _ _ _ c.loop-left.invariant c.in-Failed.ensures.held c.in-Failed.ensures.faults))

pub returns-in-Memory : goal.returns-in-Memory
returns-in-Memory g c =
    inr (inr (line_starved c.args.text.now c.loop-left.left.now c.split_line.result.0.now c.split_line.result.1.now (some_left c.loop-left.left.now c.loop-left-test.ensures) c.split_line.ensures.parts _ _ _ _ _ _ c.loop-left.invariant c.in-Memory.ensures.held c.in-Memory.ensures.faults))

pub loop-left-smaller : goal.loop-left-smaller
loop-left-smaller g c = c.split_line.ensures.shorter

pub loop-left-preserved : goal.loop-left-preserved
loop-left-preserved g c =
    one_more c.args.text.now c.loop-left.left.now c.split_line.result.0.now c.split_line.result.1.now (some_left c.loop-left.left.now c.loop-left-test.ensures) c.split_line.ensures.parts _ _ _ _ _ _ c.loop-left.invariant c.split_line.ensures.line c.in-Done.ensures.held c.in-Done.ensures.faults

pub returns : goal.returns
returns g c = inl (all_put c.args.status c.args.text.now c.loop-left.left.now _ (none_left c.loop-left.left.now c.loop-left-test.ensures) c.loop-left.invariant)
