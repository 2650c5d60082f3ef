-- The numbers of the names so far.
use Rattle.std.proofs.Common.{◌≡◌, [], drop, map}
use Rattle.ms_job.specs.Jobs.{set_of}
use Rattle.ms_job.proofs.draft.Draft.set_of.Given as goal

-- the names that are left make of them what all names make
abbrev pub invariant-loop-name : goal.invariant-loop-name
invariant-loop-name l = set_of l.fn.self l.set (map (λ name. name.now) (drop l.name-index l.names)) ≡ set_of l.fn.self [] (map (λ name. name.now) l.fn.names)
