use Rattle.std.proofs.Common.{◌≡◌, List, IfOk, length, map, reverse, subst, sym}
use Rattle.std.proofs.lemmas.List.{length-map}
use Rattle.ms_module.specs.declared.instr.Instr.{Instr}
use Rattle.c_types.specs.Types.{type_of}
use Rattle.c_typed.specs.refinement.Views.{function_of, stmt_of}
use Rattle.c_compile.proofs.Bodies.{body_is}
use Rattle.c_compile.proofs.functions.body.Goals as goal

pub returns : goal.returns
returns c =
    let t = c.args.t.now in
    let ts = c.args.params.now in
    subst (λ (ss : List (List Instr)). IfOk c.finished.result (λ code. code ≡ ss))
    (body_is t.target (function_of c.args.f.now) (stmt_of c.args.s.now) (map type_of ts) t.slots (length ts) (reverse c.in_ok-objects.objects.items) (type_of c.result_in.result.now)
    c.in_ok-body.body c.add_body.new.body c.requires.params c.requires.slots (sym (length-map ts type_of)) c.in_ok-objects.ensures c.result_in.ensures c.in_ok-body.ensures
    c.in_ok-add_body.ensures)
    c.finished.ensures
