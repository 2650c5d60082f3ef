use Rattle.c_emit.proofs.Copying.{all_copied}
use Rattle.c_emit.proofs.leaves.copy_leaves.Goals as goal

pub returns : goal.returns
returns c =
    all_copied c.args.t.now.site.target _ _ c.copy_all.result c.structs.result.now c.args.number 64 c.in_ok-leaves.field-0 c.in-Some.leaves c.deref.result.now c.args.from c.args.to
    c.args.body.now c.copy_all.new.body c.structs.ensures c.requires.from c.requires.to c.in_ok-leaves.ensures.are c.in-Some.is c.deref.ensures.value c.copy_all.ensures
