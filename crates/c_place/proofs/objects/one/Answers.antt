use Rattle.c_typed.specs.declared.unit.Made.TheVariants.{Literal}
use Rattle.c_place.proofs.Marking.{from_none, literal_marks}
use Rattle.c_place.proofs.objects.one.Goals as goal

pub returns-in-Literal-clause-globals : goal.returns-in-Literal-clause-globals
returns-in-Literal-clause-globals c =
    let gs = c.args.marks.now.globals in literal_marks gs c.args.m.now (Literal c.in-Literal.field-0) c.in-Literal.is (from_none 0 gs)
