use Rattle.std.proofs.Common.{◌<◌, subst, sym, ℕ}
use Rattle.ms_module.proofs.Order.{some_sequence}
use Rattle.ms_module.proofs.code.Code.len.Goals as goal

pub returns-clause-some : goal.returns-clause-some
returns-clause-some c = let h = c.len.ensures in let some = some_sequence _ c.self.invariant in subst (λ (n : ℕ). 0 < n) (sym c.len.ensures) some
