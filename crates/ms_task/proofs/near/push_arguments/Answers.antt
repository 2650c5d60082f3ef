use Rattle.std.proofs.Common.{◌++◌, ◌∷◌, ◌-◌, [], List, reverse, drop, take, ap, sym, ◌∙◌, append_assoc, arith}
use Rattle.ms_linear.specs.declared.value.Value.{Value}
use Rattle.ms_task.proofs.Calls.{arguments_more}
use Rattle.ms_task.proofs.near.push_arguments.Goals as goal

pub loop-i-preserved : goal.loop-i-preserved
loop-i-preserved c =
    let more = arguments_more c.loop-i.i c.args.n c.args.operands.now c.cell.result c.loop-i-test.true c.requires.within c.cell.ensures in
    let here = c.args.items.now.items in
    record {
      added = c.push_reserved.ensures.items
          ∙ (ap (λ (l : List Value). l ++ c.cell.result ∷ []) c.loop-i.invariant.added
          ∙ (append_assoc here (reverse (drop (c.args.n - c.loop-i.i) (take c.args.n c.args.operands.now))) (c.cell.result ∷ []) ∙ ap (λ (l : List Value). here ++ l) (sym more)));
      more = omega (arith, c.push_reserved.ensures.len, c.loop-i.invariant.more);
      capacity = c.push_reserved.ensures.capacity ∙ c.loop-i.invariant.capacity;
    }
