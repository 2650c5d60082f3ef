use Rattle.std.proofs.Common.{◌≡◌, ◌+◌, ◌<◌, ◌++◌, ◌∷◌, [], List, length, refl, sym, ap, subst, ◌∙◌, arith, slice_set}
use Rattle.ms_task.specs.declared.far.Written.{Written}
use Rattle.ms_task.specs.refinement.Far.{Puts}
use Rattle.ms_task.proofs.Writing.{puts_new}
use Rattle.ms_task.proofs.far.Far.add.Goals as goal

pub returns-clause-ok : goal.returns-clause-ok
returns-clause-ok c =
    let ds = c.args.directory.now.items in
    let ws = c.args.written.now.items in
    let f = c.args.self.now in
    let j = c.args.index in
    let w : Written = record { index = c.args.index; cell = c.args.cell } in
    let place = c.in-Ok.place in
    let lt : f.directory + j < length ds = omega (arith, c.if-index-len.false) in
    let is : place ≡ length ws = omega (arith, c.in-Ok.ensures) in
    let all = c.push_reserved.ensures.items ∙ ap (λ (l : List Written). l ++ w ∷ []) c.in_ok-reserve.ensures.items in
    subst (λ (l : List Written). Puts ds ws (slice_set ds (f.directory + j) place) l f j c.args.cell) (sym all) (puts_new ds ws f j w c.args.cell refl refl place lt is c.requires.written)
