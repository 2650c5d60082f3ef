use Rattle.std.proofs.Common.{get_or}
use Rattle.std.proofs.lemmas.Option.{slice_get-get_or}
use Rattle.ms_tests.proofs.tests.task.can_start.Goals as goal

pub returns : goal.returns
returns c = λ h.
    let funcs = c.args.funcs.now in
    let func = c.index-funcs-address.result in
    (get_or funcs c.args.address func, slice_get-get_or funcs c.args.address func c.if-address-funcs.false, c.has_no_parameters.ensures h)
