use Rattle.std.proofs.Common.{◌∙◌, ap, sym}
use Rattle.c_types.specs.Types.{type_of}
use Rattle.c_meaning.specs.Shapes.{shape}
use Rattle.c_code.specs.Leaves.{leaves_at}
use Rattle.c_emit.specs.refinement.LeafWalk.{elements_left}
use Rattle.c_emit.proofs.Walking.{array_left, struct_left}
use Rattle.c_emit.proofs.leaves.parts_of.Goals as goal

pub returns-in-Struct : goal.returns-in-Struct
returns-in-Struct c = λ structs laid.
    let p = c.args.part.now in
    ap (λ t. leaves_at (shape structs (type_of t)) p.from p.length p.index p.at) c.in-Struct.is
    ∙ struct_left structs laid c.in-Struct.n p.from p.length p.index p.at

pub returns-in-Array : goal.returns-in-Array
returns-in-Array c = λ structs laid.
    let p = c.args.part.now in
    ap (λ t. leaves_at (shape structs (type_of t)) p.from p.length p.index p.at) c.in-Array.is
    ∙ array_left structs laid (type_of c.in-Array.ty.value) c.in-Array.count p.from p.length p.index p.at
    ∙ ap (λ t. elements_left structs (type_of t) c.in-Array.count p.at 0) (sym c.deref.ensures)
