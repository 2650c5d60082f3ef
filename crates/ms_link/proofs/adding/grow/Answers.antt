use Rattle.std.proofs.Common.{◌≡◌, ◌++◌, length, map, ap, ◌∙◌}
use Rattle.ms_machine.specs.Linked.{funcs_in, host_funcs, numbers, own_func}
use Rattle.ms_link.proofs.adding.grow.Goals as goal

pub returns-clause-funcs : goal.returns-clause-funcs
returns-clause-funcs c =
    let all = c.args.all_funcs.now.items in
    let es = c.args.externs.now in
    let own = c.args.funcs.items in
    let number : c.in-Ok.instance ≡ c.args.number = c.in-Ok.ensures.1 in
    λ m e.
    let added = c.in_ok-own_funcs.ensures m (c.as_slice.ensures.value ∙ c.in_ok-types.ensures ∙ e) in (
      added.0 ∙ ap (λ n. all ++ host_funcs n 0 es ++ map (own_func m n) own) number,
      added.1 ∙ ap (λ n. funcs_in (length all) es ++ numbers (length (all ++ host_funcs n 0 es)) (length own)) number,
    )
