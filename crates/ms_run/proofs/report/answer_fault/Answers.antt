use Rattle.ms_run.specs.Lines.{refused_line}
use Rattle.ms_run.specs.Loading.{load_words}
use Rattle.ms_run.proofs.Printed.{fault_reported}
use Rattle.ms_run.proofs.report.answer_fault.Goals as goal

pub returns-in_default : goal.returns-in_default
returns-in_default g c =
    fault_reported c.args.what.now c.args.fault _ c.answer_line.result c.in_default.not-Memory (c.answer_line.ensures (refused_line c.args.what.now (load_words c.args.fault)) c.load_line.ensures)
