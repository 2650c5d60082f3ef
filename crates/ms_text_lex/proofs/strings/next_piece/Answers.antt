use Rattle.std.proofs.Common.{◌≡◌, ◌∙◌, Some, refl, sym, ap}
use Rattle.ms_text_lex.specs.Strings.{hex_escape}
use Rattle.ms_text_lex.proofs.StringRuns.{escape_read}
use Rattle.ms_text_lex.proofs.strings.next_piece.Goals as goal

pub returns-in-Some : goal.returns-in-Some
returns-in-Some c =
    let here : hex_escape c.args.c.now.left ≡ Some c.in-Some.byte = ap hex_escape (sym c.rest.ensures) ∙ sym c.in-Some.ensures in
    rw c.skip.ensures (escape_read c.args.c.now.end c.args.c.now.left c.in-Some.byte here, refl)
