use Rattle.std.proofs.Common.{◌<◌, ◌+◌, ◌^◌, ℕ, List, get_or, length, map, sym, ap, subst, ◌∙◌, arith}
use Rattle.std.proofs.lemmas.List.{length-map, length-replicate}
use Rattle.std.proofs.lemmas.Option.{slice_get-get_or}
use Rattle.ms_tasks.specs.refinement.Parting.{part_at}
use Rattle.ms_tasks.proofs.AloneTasks.{Counting, count_room, counting_all, counting_more, counting_none, map_at, part_there}
use Rattle.ms_tasks.proofs.parts.count_tasks.Goals as goal

pub loop-i-init : goal.loop-i-init
loop-i-init g c =
    let n = length c.args.parts.now in
    record {
      each = ap (λ (xs : List ℕ). length xs) c.requires.none ∙ length-replicate n 0;
      counting = counting_none (map (part_at c.args.store.now c.args.parts.now) c.args.addresses.now) n c.args.counts.now c.requires.none;
    }

pub count_one-requires-clause-there : goal.count_one-requires-clause-there
count_one-requires-clause-there g c = part_there c.args.store.now c.args.parts.now (get_or c.args.addresses.now c.loop-i.i 0) c.part_at-part.result c.loop-i.counts c.requires.parts (sym c.part_at-part.ensures) c.loop-i.invariant.each

pub count_one-requires-clause-room : goal.count_one-requires-clause-room
count_one-requires-clause-room g c =
    let s = c.args.store.now in
    let parts = c.args.parts.now in
    let xs = c.args.addresses.now in
    let few : length xs < 2 ^ 63 = omega arith in
    let many = length-map xs (part_at s parts) in
    count_room (map (part_at s parts) xs) c.loop-i.i c.part_at-part.result c.loop-i.counts (omega (arith, few, many)) (part_there s parts (get_or xs c.loop-i.i 0) c.part_at-part.result c.loop-i.counts c.requires.parts (sym c.part_at-part.ensures) c.loop-i.invariant.each) c.loop-i.invariant.counting

pub loop-i-preserved : goal.loop-i-preserved
loop-i-preserved g c =
    let l = c.loop-i in
    let s = c.args.store.now in
    let parts = c.args.parts.now in
    let xs = c.args.addresses.now in
    let i = l.i in
    let ps = map (part_at s parts) xs in
    record {
      each = c.count_one.auto.counts ∙ l.invariant.each;
      counting = subst (Counting ps (i + 1)) (sym c.count_one.ensures)
          (counting_more ps i c.part_at-part.result l.counts (map_at (part_at s parts) xs i (get_or xs i 0) c.part_at-part.result (slice_get-get_or xs i 0 c.loop-i-test.true) (sym c.part_at-part.ensures)) l.invariant.counting);
    }

pub returns : goal.returns
returns g c =
    let l = c.loop-i in
    let xs = c.args.addresses.now in
    let f = part_at c.args.store.now c.args.parts.now in
    let many = length-map xs f in
    counting_all (map f xs) l.i l.counts (omega (arith, many, c.loop-i-test.false)) l.invariant.counting
