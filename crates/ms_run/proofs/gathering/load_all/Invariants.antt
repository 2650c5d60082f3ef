-- The files in front have modules, and nothing else has happened.
use Rattle.std.proofs.Common.{◌≡◌, drop}
use Rattle.ms_run.specs.Observed.{reported, shelved}
use Rattle.ms_run.specs.Reporting.{IsUntouched}
use Rattle.ms_run.proofs.Gathered.{IsLoading}
use Rattle.ms_run.proofs.gathering.load_all.Given as goal

abbrev pub invariant-loop-named : goal.invariant-loop-named
invariant-loop-named g l =
    IsLoading (g.F.Shelf.files l.fn.shelf) l.files (drop l.named-index l.files) l.modules.items l.number
    × (l.number ≡ l.named-index)
    × IsUntouched (shelved g.F.Shelf.files g.F.Shelf.read_faults g.F.Shelf.write_faults l.fn.shelf l.shelf) (reported g.R.Sink.held g.R.Sink.faults l.fn.report l.report)
