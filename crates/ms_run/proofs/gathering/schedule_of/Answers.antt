use Rattle.std.proofs.Common.{List, ℕ, subst}
use Rattle.ms_run.specs.Answers.{Answer}
use Rattle.ms_run.specs.Jobs.{HasNumbers, Unnumbered, Unscheduled, in_turns, listed, unlisted}
use Rattle.ms_run.specs.Observed.{shelved}
use Rattle.ms_run.specs.Reporting.{Holds, IsFound}
use Rattle.ms_run.proofs.Later.{tells_more}
use Rattle.ms_run.proofs.gathering.schedule_of.Goals as goal

pub returns-in-None-clause-entries : goal.returns-in-None-clause-entries
returns-in-None-clause-entries g c = in_turns c.in-None.is

pub returns-in-Ok-clause-entries : goal.returns-in-Ok-clause-entries
returns-in-Ok-clause-entries g c =
    let has = subst (λ (n : List ℕ). HasNumbers (Holds (g.F.Shelf.files c.args.shelf.now)) n c.in-Ok.numbers.items) c.as_str.ensures c.in-Ok.ensures.numbers in
    listed c.in-Some.file c.in-Ok.numbers.items c.in-Some.is has

pub returns-in-Err-clause-printed : goal.returns-in-Err-clause-printed
returns-in-Err-clause-printed g c =
    let s = shelved g.F.Shelf.files g.F.Shelf.read_faults g.F.Shelf.write_faults c.args.shelf.now c.listed.new.shelf in
    let name = c.as_str.result.now in
    tells_more (Unnumbered (IsFound s) name) (Unscheduled (IsFound s) c.args.job.now)
    (λ (a : Answer) (h : Unnumbered (IsFound s) name a). unlisted c.in-Some.file c.in-Some.is (subst (λ (n : List ℕ). Unnumbered (IsFound s) n a) c.as_str.ensures h)) s _ c.in-Err.status c.in-Err.ensures.printed
