-- A byte that separates words is skipped, and a word gives its number.
use Rattle.std.proofs.Common.{◌∙◌, ◌+◌, false, List, ℕ, length, drop, ap, sym, arith}
use Rattle.ms_job.specs.Schedules.{first_word, is_apart, numbers_behind, placed_words}
use Rattle.ms_job.proofs.PlacedWords.{left_is, numbers_more, word_fits, words_skip}
use Rattle.ms_job.proofs.entries.schedule.Goals as goal

pub loop-at-preserved-then-is_apart : goal.loop-at-preserved-then-is_apart
loop-at-preserved-then-is_apart c =
    let text = c.args.text.now in
    let at = c.loop-at.at in
    let apart = ap is_apart (sym (left_is at text)) ∙ sym c.is_apart.ensures ∙ c.if-is_apart.true in
    let skipped = words_skip at text c.loop-at-test.true apart in
    record {
      inside = omega arith;
      read = ap (numbers_behind c.loop-at.numbers) (sym skipped) ∙ c.loop-at.invariant.read;
    }

pub loop-at-preserved : goal.loop-at-preserved
loop-at-preserved c =
    let text = c.args.text.now in
    let at = c.loop-at.at in
    let word = c.first_word-word.result.now in
    let goes = ap is_apart (sym (left_is at text)) ∙ sym c.is_apart.ensures ∙ c.if-is_apart.false in
    let is = c.first_word-word.ensures ∙ ap first_word (left_is at text) in
    let number = sym c.number.ensures.value ∙ c.in-Some.is in
    let fits = (word_fits at text c.loop-at-test.true goes).1 in
    let more = numbers_more at text c.loop-at.numbers c.in-Some.number word c.loop-at-test.true goes is number in
    let rest = placed_words false (at + length word) (drop (at + length word) text) in
    record {
      inside = omega (arith, fits, ap length is);
      read = ap (λ (ns : List ℕ). numbers_behind ns rest) c.in_ok-push.ensures.items ∙ sym more ∙ c.loop-at.invariant.read;
    }
