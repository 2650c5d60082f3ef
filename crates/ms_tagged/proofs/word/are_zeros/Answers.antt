use Rattle.ms_tagged.proofs.GranuleBytes.{halves-zeros}
use Rattle.ms_tagged.proofs.word.are_zeros.Goals as goal

pub returns-then-read_word-eq0 : goal.returns-then-read_word-eq0
returns-then-read_word-eq0 c =
    halves-zeros c.args.bytes.now c.split_at.result.0.now c.split_at.result.1.now c.read_word.result c.read_word-then-read_word-eq0.result c.requires c.split_at.ensures.front c.split_at.ensures.back c.read_word.ensures.number c.read_word-then-read_word-eq0.ensures.number c.if-read_word-eq0.true
