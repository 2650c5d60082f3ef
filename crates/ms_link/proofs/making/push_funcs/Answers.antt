use Rattle.std.proofs.Common.{◌≡◌, ◌<◌, ◌∷◌, All, length, ap, subst, arith}
use Rattle.std.proofs.lemmas.List.Elements.{All-tail}
use Rattle.std.specs.Vec.Iter.{into_iter_items}
use Rattle.ms_module.specs.declared.module.Func.{Func}
use Rattle.ms_machine.specs.Linked.{own_func}
use Rattle.ms_link.proofs.Standing.{made-more}
use Rattle.ms_link.proofs.making.push_funcs.Goals as goal

pub loop-func-preserved : goal.loop-func-preserved
loop-func-preserved c =
    let at = c.loop-func in
    let f = c.in-Some.func in
    let left : into_iter_items at.func-iterator ≡ f ∷ into_iter_items c.next.new.self = c.in-Some.ensures.steps.0 in (
      λ m e. made-more (own_func m c.args.instance) at.all.items c.push.new.self.items _ _ _ f _ left (c.in_ok-own_func.ensures m e) c.in_ok-push.ensures.items (at.invariant.0 m e),
      All-tail (λ (g : Func). g.sig < length c.args.types.now) f (into_iter_items c.next.new.self) (subst (All (λ (g : Func). g.sig < length c.args.types.now)) left at.invariant.1),
      let was = at.invariant.2 in let gone = c.in-Some.ensures.steps.1 in let short = ap length left in omega arith,
    )
