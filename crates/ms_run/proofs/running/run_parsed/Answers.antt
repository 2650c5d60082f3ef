use Rattle.std.proofs.Common.{List, ℕ, refl, subst}
use Rattle.ms_run.specs.Jobs.{AllLoaded}
use Rattle.ms_run.specs.Reporting.{Holds}
use Rattle.ms_run.proofs.Jobs.{names_apart, schedule_answered, tasks_answered, unloaded_answered}
use Rattle.ms_run.proofs.Safe.{job_did_safely}
use Rattle.ms_run.proofs.running.run_parsed.Goals as goal

pub returns-in-Err-clause-did : goal.returns-in-Err-clause-did
returns-in-Err-clause-did g c = unloaded_answered c.args.naming c.args.job _ _ _ c.as_slice.result.now c.as_slice.ensures (refl, refl, refl, refl) c.in-Err.status c.in-Err.ensures.printed

pub returns-in-Err-schedule_of-clause-did : goal.returns-in-Err-schedule_of-clause-did
returns-in-Err-schedule_of-clause-did g c =
    let modules = c.in-Ok.modules.items in
    let all = subst (λ (fs : List (List ℕ × List ℕ)). AllLoaded (Holds (g.F.Shelf.files c.args.shelf.now)) fs modules) c.as_slice.ensures c.in-Ok.ensures.modules in
    schedule_answered _ _ _ _ _ _ _ _ _ _ _ _ _ _ _ c.args.naming c.args.job _ modules all c.in-Ok.ensures.untouched (refl, refl, refl, refl) c.in-Err-schedule_of.status c.in-Err-schedule_of.ensures.printed

pub execute-requires-clause-names : goal.execute-requires-clause-names
execute-requires-clause-names g c =
    let files = Holds (g.F.Shelf.files c.args.shelf.now) in
    let modules = c.in-Ok.modules.items in
    let all = subst (λ (fs : List (List ℕ × List ℕ)). AllLoaded files fs modules) c.as_slice.ensures c.in-Ok.ensures.modules in
    names_apart files c.args.job modules all c.requires.bounds

pub returns-clause-did : goal.returns-clause-did
returns-clause-did g c =
    let modules = c.in-Ok.modules.items in
    let all = subst (λ (fs : List (List ℕ × List ℕ)). AllLoaded (Holds (g.F.Shelf.files c.args.shelf.now)) fs modules) c.as_slice.ensures c.in-Ok.ensures.modules in
    let e = c.in-Ok-schedule_of.ensures in
    tasks_answered _ _ _ _ _ _ _ _ _ _ _ _ _ _ _ c.args.naming c.args.job _ modules all c.in-Ok.ensures.untouched _ _ _ _ _ c.in-Ok-schedule_of.schedule c.into_vec-tasks.result.items c.into_vec-tasks.ensures e.entries e.untouched c.execute.result c.execute.ensures.reads c.execute.ensures.printed

pub returns-in-Err-clause-safe : goal.returns-in-Err-clause-safe
returns-in-Err-clause-safe g c = job_did_safely _ _ _ c.args.naming c.args.job c.requires.bounds _ (returns-in-Err-clause-did g c)

pub returns-in-Err-schedule_of-clause-safe : goal.returns-in-Err-schedule_of-clause-safe
returns-in-Err-schedule_of-clause-safe g c = job_did_safely _ _ _ c.args.naming c.args.job c.requires.bounds _ (returns-in-Err-schedule_of-clause-did g c)

pub returns-clause-safe : goal.returns-clause-safe
returns-clause-safe g c = job_did_safely _ _ _ c.args.naming c.args.job c.requires.bounds _ (returns-clause-did g c)
