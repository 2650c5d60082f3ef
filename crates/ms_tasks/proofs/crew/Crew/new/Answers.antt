use Rattle.std.proofs.Common.{◌≡◌, List, Ok, sym, ap, subst}
use Rattle.ms_task.specs.Thread.{Thread}
use Rattle.ms_machine.specs.Crews.{Crew}
use Rattle.ms_machine.specs.refinement.Safety.{Sound}
use Rattle.ms_tasks.specs.refinement.Ready.{IsReady, threads_of}
use Rattle.ms_tasks.specs.refinement.Rows.{threads_in}
use Rattle.ms_tasks.specs.Tasks.{crew_of, threads_from}
use Rattle.ms_tasks.proofs.Making.{crew_ready, crew_sound}
use Rattle.ms_tasks.proofs.crew.Crew.new.Goals as goal

pub returns-clause-ready : goal.returns-clause-ready
returns-clause-ready g c =
    let s = c.args.store in
    let chain = threads_in s c.in-Ok-chain_of.chain.items in
    let ts = threads_in s c.in_ok-found.found.tasks.items in
    let same : crew_of s ts ≡ record { store = s; chain = chain; tasks = ts } = ap (λ (l : List Thread). let x : Crew = record { store = s; chain = l; tasks = ts } in x) (sym c.in-Ok-chain_of.ensures) in
    subst IsReady same (crew_ready s c.args.tasks.items ts c.requires.typed c.requires.fits c.requires.starts (subst (λ xs. threads_from s xs 0 ≡ Ok ts) c.as_slice.ensures.value c.in_ok-found.ensures.tasks))

pub returns-clause-sound : goal.returns-clause-sound
returns-clause-sound g c = λ events sound.
    let s = c.args.store in
    let chain = threads_in s c.in-Ok-chain_of.chain.items in
    let ts = threads_in s c.in_ok-found.found.tasks.items in
    let same : crew_of s ts ≡ record { store = s; chain = chain; tasks = ts } = ap (λ (l : List Thread). let x : Crew = record { store = s; chain = l; tasks = ts } in x) (sym c.in-Ok-chain_of.ensures) in
    subst (λ (x : Crew). Sound events x.store (threads_of x)) same (crew_sound s c.args.tasks.items ts c.requires.starts (subst (λ xs. threads_from s xs 0 ≡ Ok ts) c.as_slice.ensures.value c.in_ok-found.ensures.tasks) events sound)
