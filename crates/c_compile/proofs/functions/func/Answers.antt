use Rattle.std.proofs.Common.{◌≡◌, ◌∙◌, ◌+◌, List, Some, length, map, ap, arith, sym}
use Rattle.std.proofs.lemmas.List.{length-map}
use Rattle.c_place.specs.refinement.Flags.{slots_from}
use Rattle.c_types.specs.Types.{Ty, type_of}
use Rattle.c_types.specs.declared.types.CType.{CType}
use Rattle.c_typed.specs.refinement.Views.{function_of, stmt_of, typed_of}
use Rattle.c_code.specs.Modules.{func_of, is_object_in}
use Rattle.c_compile.proofs.Bodies.{func_in, func_is, one_func}
use Rattle.c_compile.proofs.ObjectFlags.{flags_of_body}
use Rattle.c_compile.proofs.functions.func.Goals as goal

pub of_body-target-requires-clause-flags : goal.of_body-target-requires-clause-flags
of_body-target-requires-clause-flags c =
    flags_of_body (typed_of c.args.unit.now) (stmt_of c.args.s.now) (map type_of c.deref.result.now) c.args.flags.now c.args.globals.now
    (c.requires.flags ∙ ap (λ (ts : List CType). slots_from (stmt_of c.args.s.now) 0 (map type_of ts)) (sym c.deref.ensures.value)) c.requires.globals

pub returns : goal.returns
returns c =
    let u = typed_of c.args.unit.now in
    let f = function_of c.args.f.now in
    let s = stmt_of c.args.s.now in
    let n = c.args.number in
    let ts = c.params_in-params.result.now in
    let x = c.of_body-target.result.site in
    let us = map type_of c.deref.result.now in
    let first = c.in_ok-first.first in
    let scratch = c.in_ok-scratch.scratch in
    let p = is_object_in u s f.slots in
    let flags = flags_of_body u s f.slots c.args.flags.now c.args.globals.now c.requires.flags c.requires.globals in
    let all : scratch ≡ first + length f.slots = omega (arith, c.in_ok-scratch.ensures, c.in_ok-number.ensures, c.len-2.ensures, length-map c.args.f.now.slots.items type_of) in
    one_func c.func_at.result (func_in n f s x) (func_of u n f (Some s))
    (func_is u n f s x us (length ts) first scratch (ap (λ (l : List CType). map type_of l) c.deref.ensures.value)
    (sym (length-map ts type_of) ∙ ap (λ (l : List Ty). length l) c.params_in-params.ensures)
    (c.in_ok-first.ensures u p c.args.globals.now flags) all c.of_body-target.ensures)
    c.func_at.ensures
