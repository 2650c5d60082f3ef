use Rattle.std.proofs.Common.{◌-◌, sym, arith, refl}
use Rattle.ms_module.specs.Building.{elses}
use Rattle.ms_module.proofs.Building.{may_else-some, after_else-is}
use Rattle.ms_module.proofs.builder.Builder.begin_else.Goals as goal

pub invariant_of-self : goal.invariant_of-self
invariant_of-self c =
    let os = c.self.inside.blocks.items in
    let may = rw (← c.self.view_is) at c.requires in
    let some = may_else-some os may in
    rw (c.give_back.ensures, after_else-is os (c.len-last.result - 1) c.index.result.now (omega arith) (sym c.index.ensures)) (elses may c.self.invariant)

pub returns : goal.returns
returns c =
    let os = c.self.inside.blocks.items in
    let may = rw (← c.self.view_is) at c.requires in
    let some = may_else-some os may in
    rw (← c.self.view_is, c.give_back.ensures, after_else-is os (c.len-last.result - 1) c.index.result.now (omega arith) (sym c.index.ensures)) refl
