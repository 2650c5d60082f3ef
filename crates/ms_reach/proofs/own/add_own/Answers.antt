use Rattle.std.proofs.Common.{◌≡◌, true, false}
use Rattle.std.proofs.lemmas.Result.{on_ok_weaker}
use Rattle.ms_reach.specs.Count.{is_among}
use Rattle.ms_reach.proofs.Seeds.{ended_gathers, going_gathers}
use Rattle.ms_reach.proofs.own.add_own.Goals as goal

pub returns-then-has_ended : goal.returns-then-has_ended
returns-then-has_ended g c = ended_gathers c.args.live.now (is_among c.args.set.now) c.args.store.now.funcs c.args.task.now c.args.closing.now (c.has_ended.ensures.0 c.if-has_ended.true)

pub returns : goal.returns
returns g c =
    on_ok_weaker c.add_task.result
    (going_gathers c.args.live.now (is_among c.args.set.now) c.args.store.now.funcs c.funcs.result.now c.args.task.now c.args.closing.now c.add_task.new.closing c.funcs.ensures (λ e. let h : false ≡ true = c.if-has_ended.ensures.1 e in cc))
    c.add_task.ensures
