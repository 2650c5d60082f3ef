use Rattle.std.proofs.Common.{◌<◌, refl, get_or, length, sym, subst, ◌∙◌, take, arith}
use Rattle.std.proofs.lemmas.List.{take_all, take_more}
use Rattle.std.proofs.lemmas.List.Elements.{All-get_or}
use Rattle.ms_tasks.specs.refinement.Parting.{FirstsBelow, Notes}
use Rattle.ms_tasks.proofs.Noting.{notes_more, notes_none}
use Rattle.ms_tasks.proofs.parts.note_each.Goals as goal

pub loop-i-init : goal.loop-i-init
loop-i-init c = record {
  notes = notes_none c.args.n c.args.firsts.now c.args.parts.now;
  same_firsts = refl;
  same_parts = refl;
}

pub note-requires-clause-n : goal.note-requires-clause-n
note-requires-clause-n c = let e = c.loop-i.invariant.same_parts in let n = c.requires.n in omega (arith, e, n)

pub note-requires-clause-firsts : goal.note-requires-clause-firsts
note-requires-clause-firsts c =
    let v = c.loop-i.invariant in
    let e = v.same_parts in
    let n = c.requires.n in
    v.notes.below (length c.loop-i.parts) (omega (arith, e, n)) (subst (λ most. FirstsBelow most c.args.firsts.now) (sym e) c.requires.firsts)

pub note-requires-clause-there : goal.note-requires-clause-there
note-requires-clause-there c =
    let xs = c.args.addresses.now in
    let i = c.loop-i.i in
    let low = All-get_or (λ a. a < length c.args.firsts.now) xs i 0 c.loop-i-test.true c.requires.there in
    let e = c.loop-i.invariant.same_firsts in
    omega (arith, low, e)

pub loop-i-preserved : goal.loop-i-preserved
loop-i-preserved c =
    let l = c.loop-i in
    let v = l.invariant in
    let xs = c.args.addresses.now in
    let i = l.i in
    let n = c.args.n in
    let f0 = c.args.firsts.now in
    let p0 = c.args.parts.now in
    let f2 = c.note.new.firsts in
    let p2 = c.note.new.parts in
    record {
      notes = subst (λ ys. Notes n ys f0 f2 p0 p2) (sym (take_more xs i 0 c.loop-i-test.true)) (notes_more n (get_or xs i 0) (take i xs) f0 l.firsts f2 p0 l.parts p2 v.notes c.note.ensures);
      same_firsts = c.note.auto.firsts ∙ v.same_firsts;
      same_parts = c.note.auto.parts ∙ v.same_parts;
    }

pub returns : goal.returns
returns c =
    let l = c.loop-i in
    subst (λ ys. Notes c.args.n ys c.args.firsts.now l.firsts c.args.parts.now l.parts) (take_all l.i c.args.addresses.now (omega (arith, c.loop-i-test.false))) l.invariant.notes
