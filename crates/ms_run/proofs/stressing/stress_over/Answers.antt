use Rattle.std.proofs.Common.{refl, subst, sym}
use Rattle.ms_job.specs.refinement.Bounds.{IsBounded}
use Rattle.ms_run.proofs.OwnShelf.{stress_bounded, stress_starved, stressed, stressed_safely}
use Rattle.ms_run.proofs.stressing.stress_over.Goals as goal

pub run_parsed-requires : goal.run_parsed-requires
run_parsed-requires g c = record { bounds = subst IsBounded (sym c.in-Ok-job_of.ensures) stress_bounded }

pub returns-in_default-clause-did : goal.returns-in_default-clause-did
returns-in_default-clause-did g c = stress_starved c.args.seed c.args.count _ _ _ (λ n. refl) (refl, refl) (refl, refl) (refl, refl, refl, refl)

pub returns-clause-did : goal.returns-clause-did
returns-clause-did g c = stress_starved c.args.seed c.args.count _ _ _ (λ n. refl) (refl, refl) (refl, refl) (refl, refl, refl, refl)

pub returns-in-Ok-job_of-clause-did : goal.returns-in-Ok-job_of-clause-did
returns-in-Ok-job_of-clause-did g c =
    let job = c.in-Ok-job_of.job in
    stressed c.args.seed c.args.count job _ _ c.in-Ok-job_of.ensures c.in-Ok.ensures _ (λ n. refl) (refl, refl) _ _ c.run_parsed.result c.run_parsed.ensures.did

pub returns-in-Ok-job_of-clause-safe : goal.returns-in-Ok-job_of-clause-safe
returns-in-Ok-job_of-clause-safe g c = λ end.
    stressed_safely c.args.seed c.args.count c.in-Ok-job_of.job _ _ c.in-Ok-job_of.ensures c.in-Ok.ensures _ (λ n. refl) (refl, refl) _ _ c.run_parsed.result (c.run_parsed.ensures.safe end)
