-- No other word begins such a line.
use Rattle.std.proofs.Common.{rules, tests}
use Rattle.ms_job.proofs.ManyWords.{many_words}
use Rattle.ms_job.proofs.draft.Draft.list.Goals as goal

pub returns-in_default : goal.returns-in_default
returns-in_default c =
    let many = many_words c.args.self.now c.args.word.now c.args.first.now c.args.more.now c.requires in
    search (rules, tests, many)
