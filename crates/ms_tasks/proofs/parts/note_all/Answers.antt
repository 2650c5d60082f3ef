use Rattle.std.proofs.Common.{◌<◌, sym, subst, ◌∙◌, arith, below_more}
use Rattle.std.specs.List.{All}
use Rattle.std.proofs.lemmas.Option.{slice_get_within}
use Rattle.ms_tasks.specs.refinement.Parting.{AreNoted, named}
use Rattle.ms_tasks.proofs.Noting.{firsts_below, is_there, named_below, none_noted, noted_here, noted_kept, one_noted}
use Rattle.ms_tasks.proofs.parts.note_all.Goals as goal

pub loop-n-init : goal.loop-n-init
loop-n-init g c = record {
  all = none_noted c.args.store.now c.args.kind c.args.firsts.now c.args.parts.now c.requires.parts c.requires.firsts;
  noted = λ m low. absurd (omega (arith, low));
  each = c.requires.each;
}

pub note_named-requires-clause-n : goal.note_named-requires-clause-n
note_named-requires-clause-n g c = is_there c.args.store.now c.loop-n.parts c.loop-n.n c.instance_at-instance.result.now c.loop-n.invariant.all.parts_are c.instance_at-instance.ensures

pub note_named-requires-clause-firsts : goal.note_named-requires-clause-firsts
note_named-requires-clause-firsts g c = firsts_below c.args.store.now c.args.kind c.loop-n.parts c.loop-n.firsts c.loop-n.invariant.all.parts_are c.loop-n.invariant.all.firsts_are

pub note_named-requires-clause-there : goal.note_named-requires-clause-there
note_named-requires-clause-there g c =
    let i = c.instance_at-instance.result.now in
    subst (λ m. All (λ a. a < m) (named c.args.kind i)) (sym c.loop-n.invariant.each) (named_below c.args.store.now c.args.kind c.loop-n.n i c.requires.typed c.instance_at-instance.ensures)

pub loop-n-preserved : goal.loop-n-preserved
loop-n-preserved g c =
    let l = c.loop-n in
    let v = l.invariant in
    let s = c.args.store.now in
    let kind = c.args.kind in
    let i = c.instance_at-instance.result.now in
    let found = c.instance_at-instance.ensures in
    let r = c.note_named in
    record {
      all = one_noted s kind l.n i c.args.firsts.now l.firsts r.new.firsts c.args.parts.now l.parts r.new.parts found v.all r.ensures;
      noted = below_more (λ m. AreNoted s kind r.new.firsts r.new.parts m) l.n (λ m low. noted_kept s kind l.n m (named kind i) l.firsts r.new.firsts l.parts r.new.parts r.ensures (v.noted m low))
          (noted_here s kind l.n i l.firsts r.new.firsts l.parts r.new.parts found r.ensures);
      each = r.auto.firsts ∙ v.each;
    }

pub returns-clause-noted : goal.returns-clause-noted
returns-clause-noted g c = λ n i found.
    let low = slice_get_within c.args.store.now.instances n i found in
    let many = c.instance_count-count.ensures in
    let past = c.loop-n-test.false in
    c.loop-n.invariant.noted n (omega (arith, low, many, past)) i found
