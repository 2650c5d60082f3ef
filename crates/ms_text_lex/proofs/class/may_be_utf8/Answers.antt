use Rattle.std.proofs.Common.{◌≡◌, ℕ, Bool, true, false, not, Option, Some, None, is_some, is_none, refl}
use Rattle.std.proofs.lemmas.Str.{is_utf8-from_IsUtf8}
use Rattle.ms_names.proofs.Absence.{is_no_utf8}
use Rattle.ms_text_lex.proofs.class.may_be_utf8.Goals as goal

tells_none : (o : Option ℕ) (r : Bool) → is_some o ≡ not r → r ≡ is_none o
tells_none None true h = refl
tells_none None false h = cc
tells_none (Some x) true h = cc
tells_none (Some x) false h = refl

pub returns-in-Ok : goal.returns-in-Ok
returns-in-Ok c = rw (is_utf8-from_IsUtf8 c.args.bytes.now c.in-Ok.ensures.cases.1) refl

pub returns-in-Err : goal.returns-in-Err
returns-in-Err c =
    let e = c.in-Err.ensures in
    rw (is_no_utf8 c.args.bytes.now e.cases.0, ← e.valid_len, ← e.fault, ← c.error_len.ensures) (tells_none c.error_len.result c.is_none.result c.is_none.ensures)
