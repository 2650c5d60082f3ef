use Rattle.std.proofs.lemmas.Str.{is_utf8-from_IsUtf8}
use Rattle.ms_names.proofs.text.utf8.Goals as goal

pub returns-in-Ok : goal.returns-in-Ok
returns-in-Ok c = (c.in-Ok.ensures.cases.0, is_utf8-from_IsUtf8 c.args.bytes.now c.in-Ok.ensures.cases.1)
