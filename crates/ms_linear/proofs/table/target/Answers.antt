use Rattle.std.proofs.Common.{rules, tests, arith, ap, length}
use Rattle.ms_linear.specs.Table.{Table, outside, empty, other, found}
use Rattle.ms_linear.proofs.Entries.{entry-read}
use Rattle.ms_linear.proofs.Targets.{target_alone}
use Rattle.ms_linear.proofs.table.target.Goals as goal

pub returns-then-len-index-clause-target : goal.returns-then-len-index-clause-target
returns-then-len-index-clause-target c =
    let e = ap (λ (t : Table). length t.entries) c.table.view_is in outside (omega arith)

pub returns-in_default-clause-target : goal.returns-in_default-clause-target
returns-in_default-clause-target c =
    empty (entry-read c.args.table.now _ _ c.args.i _ _ c.table.view_is (omega arith) c.index.ensures c.in_default.is)

pub returns-then-not-is_same_type-clause-target : goal.returns-then-not-is_same_type-clause-target
returns-then-not-is_same_type-clause-target c =
    other c.in-Some.entry (entry-read c.args.table.now _ _ c.args.i _ _ c.table.view_is (omega arith) c.index.ensures c.in-Some.is) (search (rules, tests))

pub returns-clause-target : goal.returns-clause-target
returns-clause-target c =
    found c.in-Some.entry (entry-read c.args.table.now _ _ c.args.i _ _ c.table.view_is (omega arith) c.index.ensures c.in-Some.is) (search (rules, tests))

pub returns-then-len-index-clause-call : goal.returns-then-len-index-clause-call
returns-then-len-index-clause-call c = target_alone c.args.table.now.entries c.args.i c.args.sig.now _ (returns-then-len-index-clause-target c)

pub returns-in_default-clause-call : goal.returns-in_default-clause-call
returns-in_default-clause-call c = target_alone c.args.table.now.entries c.args.i c.args.sig.now _ (returns-in_default-clause-target c)

pub returns-then-not-is_same_type-clause-call : goal.returns-then-not-is_same_type-clause-call
returns-then-not-is_same_type-clause-call c = target_alone c.args.table.now.entries c.args.i c.args.sig.now _ (returns-then-not-is_same_type-clause-target c)

pub returns-clause-call : goal.returns-clause-call
returns-clause-call c = target_alone c.args.table.now.entries c.args.i c.args.sig.now _ (returns-clause-target c)
