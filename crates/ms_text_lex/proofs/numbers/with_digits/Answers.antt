use Rattle.std.proofs.Common.{◌≡◌, suc, eqb, false, get_or, drop, length, ◌<◌, ◌∷◌, arith}
use Rattle.std.proofs.lemmas.Bool.Decides.{nat_tests}
use Rattle.std.proofs.Math.Seq.{drop-cons}
use Rattle.ms_text_lex.proofs.Digits.{stays_large}
use Rattle.ms_text_lex.proofs.numbers.with_digits.Goals as goal

pub returns-in_default : goal.returns-in_default
returns-in_default c =
    let l = c.loop-byte in
    let text = c.args.text.now in
    let lt : l.byte-index < length text = c.loop-byte-test.true in
    let e : drop l.byte-index text ≡ get_or text l.byte-index 0 ∷ drop (suc l.byte-index) text = drop-cons text l.byte-index 0 lt in
    let other : eqb (get_or text l.byte-index 0) 95 ≡ false = grind (arith, nat_tests) in
    rw (← l.invariant.same, e) (stays_large c.args.hexadecimal l.value (get_or text l.byte-index 0) (drop (suc l.byte-index) text) other c.in_default.ensures)
