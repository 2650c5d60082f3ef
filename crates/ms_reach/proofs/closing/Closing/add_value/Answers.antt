use Rattle.std.proofs.Common.{◌∷◌, [], sym, subst}
use Rattle.std.proofs.lemmas.Result.{on_ok_weaker}
use Rattle.ms_linear.specs.declared.value.Value.{Value}
use Rattle.ms_linear.specs.declared.value.Value.TheVariants as values
use Rattle.ms_reach.specs.refinement.Closing.{Gathers}
use Rattle.ms_reach.proofs.Gathering.{gather_one}
use Rattle.ms_reach.proofs.closing.Closing.add_value.Goals as goal

pub returns : goal.returns
returns c =
    let live = c.args.live.now in
    let old = c.args.self.now in
    let new = c.add.new.self in
    on_ok_weaker c.add.result (λ adds. subst (λ (v : Value). Gathers live (v ∷ []) old new) (sym c.in-Handle.is) (gather_one live (values.Handle c.in-Handle.handle) old new c.add.ensures.marks adds)) c.add.ensures.todo
