use Rattle.std.proofs.Common.{◌≡◌, ap}
use Rattle.ms_event.proofs.Groups.{three_ends, three_fails, three_fails_first}
use Rattle.ms_event.proofs.fields.id_and_pair.Goals as goal

pub returns-in_err-id : goal.returns-in_err-id
returns-in_err-id c =
    let begins : c.new-left.result.left ≡ c.args.bytes.now = ap (λ s. s.left) c.new-left.ensures in
    rw (c.from_residual.ensures, ← begins) (three_fails_first _ c.id.new.left.left c.in_err-id.ensures)

pub returns-in_err-numbers : goal.returns-in_err-numbers
returns-in_err-numbers c =
    let begins : c.new-left.result.left ≡ c.args.bytes.now = ap (λ s. s.left) c.new-left.ensures in
    rw (c.from_residual-in_err-numbers.ensures, ← begins) (three_fails _ c.id.new.left.left c.pair.new.left.left c.in_ok-id.id c.in_ok-id.ensures c.in_err-numbers.ensures)

pub returns : goal.returns
returns c =
    let begins : c.new-left.result.left ≡ c.args.bytes.now = ap (λ s. s.left) c.new-left.ensures in
    rw (c.then_some.ensures, ← begins) (three_ends _ c.id.new.left.left c.pair.new.left.left c.in_ok-id.id c.in_ok-numbers.numbers c.is_empty.result c.is_empty.ensures c.in_ok-id.ensures c.in_ok-numbers.ensures)
