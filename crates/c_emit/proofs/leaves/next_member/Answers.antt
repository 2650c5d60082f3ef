use Rattle.std.proofs.Common.{◌∙◌, ◌+◌, ap}
use Rattle.c_types.specs.Types.{type_of}
use Rattle.c_emit.proofs.Walking.{member_next}
use Rattle.c_emit.proofs.leaves.next_member.Goals as goal

pub returns : goal.returns
returns c =
    member_next c.args.structs.now c.requires c.args.number c.args.at c.args.next (type_of c.in-Some.ty.now) c.in_ok-from.from c.in_ok-sized.field-0 c.in_ok-sum.field-0
    c.in-Some.ensures (c.in_ok-from.ensures ∙ ap (λ o. c.args.at + o) (c.in-Ok.ensures.1 ∙ c.offset.ensures)) c.in_ok-sized.ensures c.in_ok-sum.ensures
