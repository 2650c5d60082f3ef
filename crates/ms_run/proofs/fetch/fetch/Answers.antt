use Rattle.std.proofs.Common.{refl}
use Rattle.ms_run.specs.Lines.{read_fault_line, too_long_line}
use Rattle.ms_run.specs.Reporting.{unprinted}
use Rattle.ms_run.proofs.Done.{file_failed, file_too_long}
use Rattle.ms_run.proofs.fetch.fetch.Goals as goal

pub returns-in-Bytes-clause-bytes : goal.returns-in-Bytes-clause-bytes
returns-in-Bytes-clause-bytes g c = let read = c.in-Bytes.ensures in (read.answer.1, read.answer.0)

pub returns-in-Bytes-clause-untouched : goal.returns-in-Bytes-clause-untouched
returns-in-Bytes-clause-untouched g c = let read = c.in-Bytes.ensures in record { counts = read.faults; files = (read.files, read.writes); report = (refl, refl) }

pub returns-in-TooLong-clause-printed : goal.returns-in-TooLong-clause-printed
returns-in-TooLong-clause-printed g c =
    let read = c.in-TooLong.ensures in
    file_too_long c.args.file.now _ _ c.answer_line.result read.answer read.faults (read.files, read.writes) (c.answer_line.ensures (too_long_line c.args.file.now) c.file_line.ensures)

pub returns-in-Failed-clause-printed : goal.returns-in-Failed-clause-printed
returns-in-Failed-clause-printed g c =
    let read = c.in-Failed.ensures in
    file_failed c.args.file.now _ _ c.answer_line-in-Failed.result read.faults (read.files, read.writes) (c.answer_line-in-Failed.ensures (read_fault_line c.args.file.now) c.file_line-in-Failed.ensures)

pub returns-in-Memory-clause-printed : goal.returns-in-Memory-clause-printed
returns-in-Memory-clause-printed g c = let read = c.in-Memory.ensures in unprinted read.faults (read.files, read.writes) (refl, refl)
