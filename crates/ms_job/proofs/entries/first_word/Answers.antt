-- A byte more belongs to the word.
use Rattle.std.proofs.Common.{◌∙◌, ap, sym}
use Rattle.ms_job.specs.Schedules.{is_apart}
use Rattle.ms_job.proofs.PlacedWords.{left_is, word_grows}
use Rattle.ms_job.proofs.entries.first_word.Goals as goal

pub loop-i-preserved : goal.loop-i-preserved
loop-i-preserved c =
    let text = c.args.text.now in
    let i = c.loop-i.i in
    let goes = ap is_apart (sym (left_is i text)) ∙ sym c.is_apart.ensures ∙ c.if-is_apart.false in
    word_grows i text c.loop-i-test.true goes c.loop-i.invariant
