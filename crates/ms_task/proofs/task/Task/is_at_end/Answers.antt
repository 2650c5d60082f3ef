use Rattle.std.proofs.Common.{ap, drop, sym, ◌∙◌}
use Rattle.std.proofs.lemmas.Bool.{leb-true, le-leb}
use Rattle.std.proofs.lemmas.List.{drop_all}
use Rattle.ms_task.proofs.Places.{drop_is_nil}
use Rattle.ms_task.proofs.task.Task.is_at_end.Goals as goal

pub returns : goal.returns
returns c =
    let place = c.args.self.now.place in
    let is = c.current.result.now in
    (λ h. ap (drop place) (sym c.current.ensures) ∙ drop_all place is (leb-true _ _ h), λ e. le-leb _ _ (drop_is_nil place is (ap (drop place) c.current.ensures ∙ e)))
