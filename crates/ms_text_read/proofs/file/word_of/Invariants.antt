use Rattle.std.proofs.Common.{◌≡◌, drop}
use Rattle.ms_text_grammar.specs.Fields.{among, field_words}
use Rattle.ms_text_read.proofs.file.word_of.Given as goal

-- the word is one of those that are left, if it is any
abbrev pub invariant-loop-word : goal.invariant-loop-word
invariant-loop-word l = among (drop l.word-index field_words) l.text ≡ among field_words l.text
