use Rattle.std.proofs.Common.{[], ◌∷◌, List, Option, ℕ, sym, subst}
use Rattle.ms_tasks.specs.refinement.Parting.{Notes}
use Rattle.ms_tasks.proofs.Noting.{notes_again, notes_first}
use Rattle.ms_tasks.proofs.parts.note.Goals as goal

pub put_together-requires-clause-i : goal.put_together-requires-clause-i
put_together-requires-clause-i c = c.requires.firsts c.args.address c.in-Some.first c.in-Some.ensures

pub returns-in-Some : goal.returns-in-Some
returns-in-Some c = notes_again c.args.n c.args.address c.in-Some.first c.args.firsts.now c.args.parts.now c.put_together.new.parts c.in-Some.ensures c.put_together.ensures

pub returns-in-None : goal.returns-in-None
returns-in-None c =
    let old = c.args.firsts.now in
    let ps = c.args.parts.now in
    subst (λ (fs : List (Option ℕ)). Notes c.args.n (c.args.address ∷ []) old fs ps ps) (sym c.set_first.ensures) (notes_first c.args.n c.args.address old ps c.requires.there c.in-None.ensures)
