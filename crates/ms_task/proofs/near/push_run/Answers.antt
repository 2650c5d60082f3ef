use Rattle.std.proofs.Common.{◌++◌, ◌∷◌, [], List, replicate, ap, ◌∙◌, append_assoc, arith}
use Rattle.std.proofs.lemmas.List.{replicate-append-replicate}
use Rattle.ms_linear.specs.declared.value.Value.{Value}
use Rattle.ms_task.proofs.near.push_run.Goals as goal

pub loop-preserved : goal.loop-preserved
loop-preserved c =
    let here = c.args.items.now.items in
    let v = c.args.v in
    record {
      added = c.push_reserved.ensures.items
          ∙ (ap (λ (l : List Value). l ++ v ∷ []) c.loop.invariant.added
          ∙ (append_assoc here (replicate c.loop.counter v) (v ∷ []) ∙ ap (λ (l : List Value). here ++ l) (replicate-append-replicate c.loop.counter 1 v)));
      more = omega (arith, c.push_reserved.ensures.len, c.loop.invariant.more);
      capacity = c.push_reserved.ensures.capacity ∙ c.loop.invariant.capacity;
    }
