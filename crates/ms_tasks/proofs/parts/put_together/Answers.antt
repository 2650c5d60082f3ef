use Rattle.std.proofs.Common.{Some, get_or, sym, ap, subst, ◌∙◌}
use Rattle.std.proofs.lemmas.Option.{slice_get-get_or}
use Rattle.ms_tasks.specs.refinement.Parting.{PutsTogether}
use Rattle.ms_tasks.proofs.Parting.{put_renumbered, put_same}
use Rattle.ms_tasks.proofs.parts.put_together.Goals as goal

pub returns-then-from-to : goal.returns-then-from-to
returns-then-from-to c =
    let ps = c.args.parts.now in
    put_same ps c.args.i c.args.j (get_or ps c.args.j 0) (slice_get-get_or ps c.args.i 0 c.requires.i ∙ ap Some (sym c.if-from-to.true)) (slice_get-get_or ps c.args.j 0 c.requires.j)

pub returns : goal.returns
returns c =
    let ps = c.args.parts.now in
    subst (PutsTogether c.args.i c.args.j ps) (sym c.renumber.ensures) (put_renumbered ps c.args.i c.args.j (get_or ps c.args.i 0) (get_or ps c.args.j 0) (slice_get-get_or ps c.args.i 0 c.requires.i) (slice_get-get_or ps c.args.j 0 c.requires.j))
