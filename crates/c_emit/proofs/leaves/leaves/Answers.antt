use Rattle.c_emit.proofs.Walking.{walks_start}
use Rattle.c_emit.proofs.leaves.leaves.Goals as goal

pub loop-init : goal.loop-init
loop-init c =
    let laid = c.size.ensures.laid_out in (
      laid,
      walks_start c.args.structs.now laid c.args.most c.args.number c.new-leaves.result.items c.push.new.self.items c.new-waiting.result.items
          c.new-leaves.ensures.items c.new-waiting.ensures.items c.in_ok-push.ensures.items,
    )
