use Rattle.std.proofs.Common.{◌≡◌, ap}
use Rattle.ms_event.specs.Text.{IsId}
use Rattle.ms_event.proofs.Groups.{one_ends, one_fails}
use Rattle.ms_event.proofs.fields.one_id.Goals as goal

pub returns-in_err-id : goal.returns-in_err-id
returns-in_err-id c =
    let begins : c.new-left.result.left ≡ c.args.bytes.now = ap (λ s. s.left) c.new-left.ensures in
    rw (c.from_residual.ensures, ← begins) (one_fails IsId _ c.id.new.left.left c.in_err-id.ensures)

pub returns : goal.returns
returns c =
    let begins : c.new-left.result.left ≡ c.args.bytes.now = ap (λ s. s.left) c.new-left.ensures in
    rw (c.then_some.ensures, ← begins) (one_ends IsId _ c.id.new.left.left c.in_ok-id.id c.is_empty.result c.is_empty.ensures c.in_ok-id.ensures)
