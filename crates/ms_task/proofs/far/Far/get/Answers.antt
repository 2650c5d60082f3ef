use Rattle.std.proofs.Common.{◌≡◌, IfSome, sym, ap, subst, ◌∙◌}
use Rattle.std.specs.Prelude.{unwrap_or}
use Rattle.std.proofs.lemmas.Option.{get_or_from_slice_get}
use Rattle.ms_linear.specs.Values.{default_of}
use Rattle.ms_task.specs.declared.far.Written.{Written}
use Rattle.ms_task.proofs.FarValues.{holds_looks}
use Rattle.ms_task.proofs.Writing.{values_read}
use Rattle.ms_task.proofs.far.Far.get.Goals as goal

pub returns-in-Some : goal.returns-in-Some
returns-in-Some c =
    let ds = c.args.directory.now in
    let ws = c.args.written.now in
    let f = c.args.self.now in
    let place = c.in-Some.place in
    let h = c.in-Some.ensures in
    values_read ds ws f c.args.j _ c.requires.within
    (λ t _. ap (λ o. unwrap_or o (default_of t)) (holds_looks ds ws f c.args.j place h) ∙ ap (λ (w : Written). w.cell) (sym (get_or_from_slice_get ws place h.what c.index-written-place.result h.there)))

pub returns-in-None : goal.returns-in-None
returns-in-None c =
    let v = c.default.result in
    values_read c.args.directory.now c.args.written.now c.args.self.now c.args.j v c.requires.within
    (λ t is. ap (λ o. unwrap_or o (default_of t)) c.in-None.ensures ∙ sym (subst (λ o. IfSome o (λ ty. v ≡ default_of ty)) is c.default.ensures))
