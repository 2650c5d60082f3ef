use Rattle.std.proofs.Common.{refl}
use Rattle.ms_run.specs.Jobs.{exec_job}
use Rattle.ms_run.specs.declared.gathering.Naming.TheVariants.{Only}
use Rattle.ms_run.proofs.Jobs.{job_starved}
use Rattle.ms_run.proofs.running.exec.Goals as goal

pub returns-in-Err-clause-did : goal.returns-in-Err-clause-did
returns-in-Err-clause-did g c = job_starved Only (exec_job c.args.file.now c.args.budget c.args.memory) _ _ _ (λ n. refl) (refl, refl) (refl, refl) (refl, refl, refl, refl)
