use Rattle.std.proofs.Common.{sym, ◌∙◌}
use Rattle.ms_valid.proofs.Sequences.{func_typed}
use Rattle.ms_valid.proofs.body.Checker.is_func_typed.Goals as goal

pub returns : goal.returns
returns c = func_typed c.args.context.now c.args.func.now c.in-Some.sig.now c.in-Some-result_of.ty c.as_slice-2.result.now c.new-scope.result c.clear.new.self c.in_ok-sequence.field-0 (sym c.in-Some.ensures) (sym c.as_slice.ensures ∙ c.in-Some-result_of.ensures) c.as_slice-2.ensures c.new-scope.ensures c.clear.ensures c.in_ok-sequence.ensures.typed
