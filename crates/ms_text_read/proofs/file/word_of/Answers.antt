use Rattle.std.proofs.Common.{sym, ◌∙◌, ap}
use Rattle.std.specs.Str.{bytes_eq}
use Rattle.ms_text_grammar.specs.Fields.{field_words}
use Rattle.ms_text_grammar.specs.declared.word.Word.TheVariants as word
use Rattle.ms_text_read.proofs.Among.{among_first, among_none, among_others}
use Rattle.ms_text_read.proofs.file.word_of.Goals as goal

pub loop-word-preserved : goal.loop-word-preserved
unfolding field_words
loop-word-preserved c =
    among_others field_words c.loop-word.word-index word.Module c.args.text.now c.loop-word-test.true (sym c.if-eq.false ∙ c.eq.ensures ∙ ap (bytes_eq c.args.text.now) c.spelling.ensures)
    ∙ c.loop-word.invariant

pub returns-then-eq : goal.returns-then-eq
unfolding field_words
returns-then-eq c =
    sym (among_first field_words c.loop-word.word-index word.Module c.args.text.now c.loop-word-test.true (sym c.if-eq.true ∙ c.eq.ensures ∙ ap (bytes_eq c.args.text.now) c.spelling.ensures))
    ∙ c.loop-word.invariant

pub returns : goal.returns
unfolding field_words
returns c = sym (among_none field_words c.loop-word.word-index c.args.text.now c.loop-word-test.false) ∙ c.loop-word.invariant
