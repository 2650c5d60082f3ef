-- A name more gives its number.
use Rattle.std.proofs.Common.{◌∙◌, ◌+◌, [], List, ℕ, ap, drop, map}
use Rattle.ms_job.specs.Jobs.{set_of}
use Rattle.ms_job.proofs.SetsOf.{set_grows}
use Rattle.ms_job.proofs.draft.Draft.set_of.Goals as goal

pub loop-name-preserved : goal.loop-name-preserved
loop-name-preserved c =
    let l = c.loop-name in
    let d = c.args.self.now in
    let names = c.args.names.now in
    ap (λ (set : List ℕ). set_of d set (map (λ name. name.now) (drop (l.name-index + 1) names))) c.in_ok-push.ensures.items
    ∙ set_grows d l.set names l.name-index c.in_ok-number.number _ (set_of d [] (map (λ name. name.now) names)) _ c.loop-name-test.true c.as_slice.ensures c.in_ok-number.ensures l.invariant
