use Rattle.std.proofs.Common.{◌≡◌, ◌<◌, ◌∷◌, suc, get_or, drop, length}
use Rattle.std.proofs.Math.Seq.{drop-cons}
use Rattle.c_lex.proofs.Digits.{stays_large}
use Rattle.c_lex.proofs.numbers.value_of.Goals as goal

pub returns-in_default : goal.returns-in_default
returns-in_default c =
    let l = c.loop-byte in
    let text = c.args.digits.now in
    let lt : l.byte-index < length text = c.loop-byte-test.true in
    let e : drop l.byte-index text ≡ get_or text l.byte-index 0 ∷ drop (suc l.byte-index) text = drop-cons text l.byte-index 0 lt in
    rw (← l.invariant.same, e) (stays_large c.args.base l.value (get_or text l.byte-index 0) (drop (suc l.byte-index) text) c.in_default.ensures)
