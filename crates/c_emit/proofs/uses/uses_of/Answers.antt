use Rattle.std.proofs.Common.{◌≡◌, ◌∙◌, ap, arith, length}
use Rattle.c_emit.specs.refinement.Found.{no_uses}
use Rattle.c_emit.proofs.Using.{are_uses}
use Rattle.c_emit.proofs.uses.uses_of.Goals as goal

pub returns : goal.returns
returns c =
    let count : c.len.result ≡ length c.args.unit.now.functions.items = omega (arith, c.len.ensures, c.args.unit.now.functions.ok.0) in
    are_uses c.args.unit.now c.in_ok-uses.uses c.in_made.new.uses c.in_functions.new.uses c.deref.result.now c.deref-2.result.now
    (c.in_ok-uses.ensures ∙ ap no_uses count) c.deref.ensures.value c.deref-2.ensures.value c.in_ok-in_made.ensures c.in_ok-in_functions.ensures
