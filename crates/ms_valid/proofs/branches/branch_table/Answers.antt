use Rattle.std.proofs.Common.{◌≡◌, ◌∙◌, ap, refl, slice_get, subst, sym, Some}
use Rattle.ms_rules.specs.Typing.{AllTake}
use Rattle.ms_valid.proofs.Parts.{table, table_nothing}
use Rattle.ms_valid.proofs.branches.branch_table.Goals as goal

pub returns-then-not-take : goal.returns-then-not-take
returns-then-not-take c =
    let default : slice_get c.args.labels.now c.args.table.now.default ≡ Some c.in-Some.ty = ap (slice_get c.args.labels.now) (sym c.default.ensures) ∙ sym c.in-Some.ensures in
    let all : AllTake c.args.labels.now c.in-Some.ty c.args.table.now.labels = subst (AllTake c.args.labels.now c.in-Some.ty) c.labels.ensures (c.if-not-all_take.ensures.0 refl) in
    table_nothing c.args.labels.now c.args.table.now.labels c.args.table.now.default c.in-Some.ty default all c.if-not-take.ensures

pub returns : goal.returns
returns c =
    let default : slice_get c.args.labels.now c.args.table.now.default ≡ Some c.in-Some.ty = ap (slice_get c.args.labels.now) (sym c.default.ensures) ∙ sym c.in-Some.ensures in
    let all : AllTake c.args.labels.now c.in-Some.ty c.args.table.now.labels = subst (AllTake c.args.labels.now c.in-Some.ty) c.labels.ensures (c.if-not-all_take.ensures.0 refl) in
    table c.leave.new.operands c.leave.result c.args.labels.now c.args.table.now.labels c.args.table.now.default c.in-Some.ty default all c.if-not-take.ensures c.leave.ensures
