use Rattle.std.proofs.Common.{Some, ap, sym, option_map, ◌∙◌}
use Rattle.ms_outside.proofs.Kept.{get-by_name}
use Rattle.ms_outside.proofs.sure_shelf.SureShelf.get.Goals as goal

pub returns-in-None : goal.returns-in-None
returns-in-None c =
    rw (← c.self.view_is) (ap (option_map (λ v. v.items)) c.in-None.ensures.value ∙ sym (get-by_name (λ v. v.items) c.self.inside.kept.entries c.args.name.now))

pub returns-in-Some : goal.returns-in-Some
returns-in-Some c =
    rw (← c.self.view_is) (
    ap Some c.as_slice.ensures.value
    ∙ ap (option_map (λ v. v.items)) c.in-Some.ensures.value
    ∙ sym (get-by_name (λ v. v.items) c.self.inside.kept.entries c.args.name.now)
    )
