use Rattle.std.proofs.Common.{arith, ◌∙◌, sym, ◌≤◌}
use Rattle.ms_task.specs.refinement.Marks.{labels_in}
use Rattle.ms_task.proofs.Counted.{labels_and_floor, IsFloored-drop, calls_in-drop}
use Rattle.ms_task.proofs.marks.Marks.cut.Goals as goal

pub cut-requires : goal.cut-requires
cut-requires c = let e = labels_and_floor c.self.inside.items c.self.inside.floor c.self.invariant.floors in let h : c.args.n ≤ labels_in c.self.inside.items = rw c.self.view_is c.requires in omega arith

pub invariant_of-self : goal.invariant_of-self
invariant_of-self c =
    let h : c.args.n ≤ labels_in c.self.inside.items = rw c.self.view_is c.requires in
    rw c.cut.ensures (record { floors = IsFloored-drop c.args.n c.self.inside.items c.self.inside.floor h c.self.invariant.floors; calls = c.self.invariant.calls ∙ sym (calls_in-drop c.args.n c.self.inside.items h) })
