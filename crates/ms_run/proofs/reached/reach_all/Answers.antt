use Rattle.std.proofs.Common.{◌∙◌, ◌++◌, List, ℕ, length, append_assoc, ap, refl, subst, sym}
use Rattle.std.proofs.lemmas.Option.{slice_get_read}
use Rattle.ms_run.specs.Reached.{TellsReach}
use Rattle.ms_run.proofs.Reaching.{all_told, reached_grows}
use Rattle.ms_run.proofs.reached.reach_all.Goals as goal

pub loop-number-preserved : goal.loop-number-preserved
loop-number-preserved g c =
    let l = c.loop-number in
    let crew = c.args.crew.now.crew in
    let asked = c.args.asked.now in
    let item = c.index-asked-number.result in
    let line = c.as_bytes.result.now in
    let found = slice_get_read asked (length asked) l.number item refl c.loop-number-test.true c.index-asked-number.is in
    let put = subst (λ (text : List ℕ). TellsReach crew l.number item.0 c.as_slice.result.now text) (sym c.as_bytes.ensures.value) c.in_ok-line.ensures in
    let tells = subst (λ (set : List ℕ). TellsReach crew l.number item.0 set line) c.as_slice.ensures put in
    let so_far = l.invariant in
    (so_far.0 ++ line, c.in_ok-extend_from_slice.ensures.items ∙ (ap (λ (x : List ℕ). x ++ line) so_far.1 ∙ append_assoc c.args.lines.now.items so_far.0 line), reached_grows crew asked so_far.0 l.number item.0 item.1 line found tells so_far.2)

pub returns : goal.returns
returns g c =
    let so_far = c.loop-number.invariant in
    (so_far.0, all_told c.args.crew.now.crew c.args.asked.now so_far.0 c.loop-number.number c.loop-number-test.false so_far.2, so_far.1)
