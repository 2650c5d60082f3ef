-- What of the word was seen.
use Rattle.std.proofs.Common.{◌≡◌, ◌++◌, take, drop}
use Rattle.ms_job.specs.Schedules.{first_word}
use Rattle.ms_job.proofs.entries.first_word.Given as goal

-- the word is the bytes so far, and the word behind them
abbrev pub invariant-loop-i : goal.invariant-loop-i
invariant-loop-i l = first_word l.text ≡ take l.i l.text ++ first_word (drop l.i l.text)
