use Rattle.std.proofs.Common.{ℕ, sym, subst}
use Rattle.ms_task.specs.refinement.View.{thread_of}
use Rattle.ms_reach.specs.Count.{IsCount, is_among, lent}
use Rattle.ms_reach.specs.Reach.{IsReached}
use Rattle.ms_reach.proofs.Seeds.{bytes_count, is_new, live_covered, live_end, live_few, segments_count}
use Rattle.ms_reach.proofs.counting.reach_among.Goals as goal

pub end_of-requires : goal.end_of-requires
end_of-requires g c = live_end c.args.store.now c.args.live.now c.requires.live c.requires.store_fits

pub mark_reached-requires-clause-new : goal.mark_reached-requires-clause-new
mark_reached-requires-clause-new g c =
    is_new c.args.store.now c.args.live.now c.requires.live c.end_of.result c.new-closing.result c.requires.store_fits c.new-closing.ensures c.end_of.ensures.covers c.end_of.ensures.least

pub touched-requires-clause-few : goal.touched-requires-clause-few
touched-requires-clause-few g c = live_few c.args.store.now c.args.live.now c.requires.live c.requires.store_fits

pub touched-requires-clause-covers : goal.touched-requires-clause-covers
touched-requires-clause-covers g c = live_covered c.args.store.now c.args.set.now c.args.task.now c.args.live.now c.requires.live c.mark_reached.new.closing.marks c.in_ok-mark_reached.ensures

pub returns-clause-bytes : goal.returns-clause-bytes
returns-clause-bytes g c =
    let s = c.args.store.now in
    subst (λ (n : ℕ). IsCount (IsReached (is_among c.args.set.now) s (lent (thread_of s.funcs c.args.task.now))) n) (sym c.count.ensures) (bytes_count s c.args.set.now c.args.task.now c.mark_reached.new.closing.marks c.in_ok-mark_reached.ensures)

pub returns-clause-segments : goal.returns-clause-segments
returns-clause-segments g c =
    segments_count c.args.store.now c.args.set.now c.args.task.now c.mark_reached.new.closing.marks c.args.live.now c.touched.result c.requires.live c.in_ok-mark_reached.ensures c.touched.ensures
