use Rattle.std.proofs.Common.{◌≡◌, List, length, reverse, sym, subst}
use Rattle.ms_linear.specs.declared.value.Value.{Value}
use Rattle.ms_task.proofs.Laid.{kept_long}
use Rattle.ms_task.proofs.frames.Frames.base.Goals as goal

pub returns : goal.returns
returns c =
    let l = c.self.inside in
    let fs = reverse l.far.items in
    sym (subst (λ (v : List Value × List Value). length v.0 ≡ l.base) c.self.view_is (kept_long fs l.items.items l.directory.items l.written.items l.start l.base l.len c.self.invariant))
