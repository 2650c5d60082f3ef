use Rattle.std.proofs.Common.{◌≡◌, ◌+◌, drop}
use Rattle.ms_bytes.specs.Texts.{run_len}
use Rattle.ms_text_lex.specs.Strings.{is_plain}
use Rattle.ms_text_lex.proofs.strings.plain_len.Given as goal

abbrev pub invariant-loop-i : goal.invariant-loop-i
invariant-loop-i l = l.i + run_len is_plain (drop l.i l.bytes) ≡ run_len is_plain l.bytes
