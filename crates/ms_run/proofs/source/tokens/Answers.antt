use Rattle.ms_run.proofs.source.tokens.Goals as goal

pub returns-in-Err-clause-fault : goal.returns-in-Err-clause-fault
returns-in-Err-clause-fault c = c.of_lexing.ensures c.args.bytes.now c.in-Err.ensures.fault
