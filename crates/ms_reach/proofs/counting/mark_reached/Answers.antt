use Rattle.ms_reach.proofs.Seeds.{all_marked, all_over, globals_inside, live_end, live_rising, own_inside}
use Rattle.ms_reach.proofs.counting.mark_reached.Goals as goal

pub add_own-requires-clause-rising : goal.add_own-requires-clause-rising
add_own-requires-clause-rising g c = live_rising c.args.store.now c.args.live.now c.requires.live c.requires.store_fits

pub add_own-requires-clause-end : goal.add_own-requires-clause-end
add_own-requires-clause-end g c = live_end c.args.store.now c.args.live.now c.requires.live c.requires.store_fits

pub add_own-requires-clause-inside : goal.add_own-requires-clause-inside
add_own-requires-clause-inside g c = own_inside c.args.store.now c.args.set.now c.args.task.now c.args.live.now c.requires.live c.requires.store_fits c.requires.task_fits

pub add_instances-requires-clause-rising : goal.add_instances-requires-clause-rising
add_instances-requires-clause-rising g c = live_rising c.args.store.now c.args.live.now c.requires.live c.requires.store_fits

pub add_instances-requires-clause-end : goal.add_instances-requires-clause-end
add_instances-requires-clause-end g c = live_end c.args.store.now c.args.live.now c.requires.live c.requires.store_fits

pub add_instances-requires-clause-inside : goal.add_instances-requires-clause-inside
add_instances-requires-clause-inside g c = globals_inside c.args.store.now c.args.live.now c.requires.live c.requires.store_fits

pub close-requires-clause-over : goal.close-requires-clause-over
close-requires-clause-over g c =
    let new = c.requires.new in
    all_over c.args.store.now c.args.set.now c.args.task.now c.args.live.now c.requires.live new.0 c.args.closing.now c.add_own.new.closing c.add_instances.new.closing new.1 c.in_ok-add_own.ensures c.in_ok-add_instances.ensures
    c.segments.result.now c.segments.ensures c.requires.store_fits c.requires.task_fits new.2 new.3

pub returns : goal.returns
returns g c =
    let new = c.requires.new in
    all_marked c.args.store.now c.args.set.now c.args.task.now c.args.live.now c.requires.live new.0 c.args.closing.now c.add_own.new.closing c.add_instances.new.closing new.1 c.in_ok-add_own.ensures c.in_ok-add_instances.ensures
    c.segments.result.now c.close.new.self c.segments.ensures c.in_ok-close.ensures.closed c.in_ok-close.ensures.done
