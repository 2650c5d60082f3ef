use Rattle.std.proofs.Common.{◌≡◌, ap}
use Rattle.ms_event.proofs.Groups.{five_ends, five_fails, five_fails_first, five_fails_second}
use Rattle.ms_event.proofs.fields.id_and_pairs.Goals as goal

pub returns-in_err-id : goal.returns-in_err-id
returns-in_err-id c =
    let begins : c.new-left.result.left ≡ c.args.bytes.now = ap (λ s. s.left) c.new-left.ensures in
    rw (c.from_residual.ensures, ← begins) (five_fails_first _ c.id.new.left.left c.in_err-id.ensures)

pub returns-in_err-first : goal.returns-in_err-first
returns-in_err-first c =
    let begins : c.new-left.result.left ≡ c.args.bytes.now = ap (λ s. s.left) c.new-left.ensures in
    rw (c.from_residual-in_err-first.ensures, ← begins) (five_fails_second _ c.id.new.left.left c.pair.new.left.left c.in_ok-id.id c.in_ok-id.ensures c.in_err-first.ensures)

pub returns-in_err-second : goal.returns-in_err-second
returns-in_err-second c =
    let begins : c.new-left.result.left ≡ c.args.bytes.now = ap (λ s. s.left) c.new-left.ensures in
    rw (c.from_residual-in_err-second.ensures, ← begins) (five_fails _ c.id.new.left.left c.pair.new.left.left c.pair-2.new.left.left c.in_ok-id.id c.in_ok-first.first c.in_ok-id.ensures c.in_ok-first.ensures c.in_err-second.ensures)

pub returns : goal.returns
returns c =
    let begins : c.new-left.result.left ≡ c.args.bytes.now = ap (λ s. s.left) c.new-left.ensures in
    rw (c.then_some.ensures, ← begins) (five_ends _ c.id.new.left.left c.pair.new.left.left c.pair-2.new.left.left c.in_ok-id.id c.in_ok-first.first c.in_ok-second.second c.is_empty.result c.is_empty.ensures c.in_ok-id.ensures c.in_ok-first.ensures c.in_ok-second.ensures)
