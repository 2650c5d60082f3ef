use Rattle.std.proofs.Common.{◌≡◌, ◌∷◌, List, length, refl, sym, ap, subst, ◌∙◌}
use Rattle.std.specs.Prelude.{Some, None, slice_get}
use Rattle.std.proofs.lemmas.Option.{slice_get_past, slice_get_read}
use Rattle.ms_module.specs.declared.instr.Instr.{Instr}
use Rattle.ms_module.specs.Numbered.{sequence_at}
use Rattle.ms_flat.specs.declared.walk.Place.{Place}
use Rattle.ms_flat.specs.Flat.{Else}
use Rattle.ms_flat.specs.refinement.Places.{AllWithin, Within, left}
use Rattle.ms_flat.proofs.Going.{block_within, left_block, left_else}
use Rattle.ms_flat.proofs.walk.Walk.next.Goals as goal

pub returns-in-Some-other-clause-ok : goal.returns-in-Some-other-clause-ok
returns-in-Some-other-clause-ok c =
    let ss = c.self.inside.code.now in
    let p = c.self.inside.at in
    let ps = c.self.inside.around in
    let past : slice_get (sequence_at ss p.sequence) p.next ≡ None =
    subst (λ (is : List Instr). slice_get is p.next ≡ None) c.sequence.ensures.instrs (slice_get_past c.sequence.result.now p.next c.in_default.ensures.lookup.3) in (
      sym c.self.view_is
          ∙ (left_else ss c.self.invariant.0 p ps c.in-Some-other.second past c.in-Some-other.is ∙ ap (λ (q : Place). Else ∷ left ss q ps) (sym c.start-self-inside.ensures)),
      tt,
    )

pub invariant_of-self-in-Some-block_of : goal.invariant_of-self-in-Some-block_of
invariant_of-self-in-Some-block_of c =
    let ss = c.self.inside.code.now in
    let p = c.self.inside.at in
    let n = length ss in
    let b = c.in-Some-block_of.block in
    let i = c.in-Some.instr.now in
    let h = c.in-Some.ensures.lookup in
    let found = slice_get_read c.sequence.result.now (length c.sequence.result.now) p.next i refl h.3.0 h.1 in
    let new = block_within n p.sequence c.sequence.result.now p.next i b c.sequence.ensures.later found (sym c.in-Some-block_of.ensures) in (
      c.self.invariant.0,
      subst (λ (q : Place). Within n q) (sym c.start-self-inside-in-Some-block_of.ensures) new,
      subst (λ (qs : List Place). AllWithin n qs) (sym c.in_ok-push-in-Some-block_of.ensures.ok) (c.self.invariant.1, c.self.invariant.2),
    )

pub returns-in_ok-push-in-Some-block_of-clause-ok :
    goal.returns-in_ok-push-in-Some-block_of-clause-ok
returns-in_ok-push-in-Some-block_of-clause-ok c =
    let ss = c.self.inside.code.now in
    let p = c.self.inside.at in
    let b = c.in-Some-block_of.block in
    let i = c.in-Some.instr.now in
    let h = c.in-Some.ensures.lookup in
    let found = slice_get_read c.sequence.result.now (length c.sequence.result.now) p.next i refl h.3.0 h.1 in
    let at : slice_get (sequence_at ss p.sequence) p.next ≡ Some i = subst (λ (is : List Instr). slice_get is p.next ≡ Some i) c.sequence.ensures.instrs found in
    let on = left_block ss c.self.invariant.0 p c.self.inside.around i b at (sym c.in-Some-block_of.ensures) in
    (sym c.self.view_is ∙ (on ∙ rw (c.start-self-inside-in-Some-block_of.ensures, c.in_ok-push-in-Some-block_of.ensures.ok) refl), tt)
