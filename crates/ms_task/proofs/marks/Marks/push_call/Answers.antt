use Rattle.std.proofs.Common.{arith, ◌≡◌, suc, length, ap}
use Rattle.ms_task.proofs.Counted.{calls_in-le}
use Rattle.ms_task.proofs.marks.Marks.push_call.Goals as goal

pub overflow_add-self : goal.overflow_add-self
overflow_add-self c =
    let e : length c.push.new.self ≡ suc (length c.self.inside.items) = ap length c.in_ok-push.ensures.ok in
    omega (arith, calls_in-le c.self.inside.items)
