use Rattle.std.proofs.Common.{◌∙◌, ap, map}
use Rattle.c_types.specs.Types.{type_of}
use Rattle.c_typed.specs.Objects.{is_whole}
use Rattle.c_place.proofs.Marking.{body_slots, no_body}
use Rattle.c_place.proofs.objects.function.Goals as goal

pub returns-in-None-clause-globals : goal.returns-in-None-clause-globals
returns-in-None-clause-globals c = no_body c.args.marks.now.globals c.args.f.now.body c.in-None.is

pub returns-in_ok-begin-in-Some-clause-locals : goal.returns-in_ok-begin-in-Some-clause-locals
returns-in_ok-begin-in-Some-clause-locals c =
    body_slots c.args.f.now.body c.in-Some.body c.args.f.now.slots.items c.begin.new.self c.stmt.new.marks c.from_vec.result c.in-Some.is
    (c.from_vec.ensures ∙ c.take_locals.ensures.result) c.stmt.ensures
    (c.in_ok-begin-in-Some.ensures.locals ∙ ap (λ ts. map is_whole (map type_of ts)) c.deref.ensures.value)
