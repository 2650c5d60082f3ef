use Rattle.std.proofs.Common.{◌∙◌, ◌==◌, ℕ, if◌then◌else◌, ap}
use Rattle.c_compile.proofs.Bodies.{locals_are}
use Rattle.c_compile.proofs.functions.locals.Goals as goal

pub returns : goal.returns
returns c =
    locals_are c.args.t.now.target c.args.params c.skipped-skipped.result c.args.waits c.args.slots.now c.new-locals.result c.add_slots.new.locals c.add_scratch.new.locals
    (c.skipped-skipped.ensures ∙ ap (λ (n : ℕ). if n == 0 then c.args.params else 0) c.requires.first) c.new-locals.ensures c.in_ok-add_slots.ensures c.in_ok-add_scratch.ensures
