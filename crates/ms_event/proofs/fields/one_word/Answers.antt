use Rattle.std.proofs.Common.{◌≡◌, ap}
use Rattle.ms_event.specs.Text.{IsWord}
use Rattle.ms_event.proofs.Groups.{one_ends, one_fails}
use Rattle.ms_event.proofs.fields.one_word.Goals as goal

pub returns-in_err-number : goal.returns-in_err-number
returns-in_err-number c =
    let begins : c.new-left.result.left ≡ c.args.bytes.now = ap (λ s. s.left) c.new-left.ensures in
    rw (c.from_residual.ensures, ← begins) (one_fails IsWord _ c.word.new.left.left c.in_err-number.ensures)

pub returns : goal.returns
returns c =
    let begins : c.new-left.result.left ≡ c.args.bytes.now = ap (λ s. s.left) c.new-left.ensures in
    rw (c.then_some.ensures, ← begins) (one_ends IsWord _ c.word.new.left.left c.in_ok-number.number c.is_empty.result c.is_empty.ensures c.in_ok-number.ensures)
