use Rattle.std.proofs.Common.{◌≡◌, ◌∙◌, List, [], IfOk, map, ap, subst}
use Rattle.ms_module.specs.declared.module.Func.{Func}
use Rattle.c_typed.specs.Tree as tree
use Rattle.c_typed.specs.Tree.{Typed}
use Rattle.c_typed.specs.refinement.Views.{made_of, typed_of}
use Rattle.c_typed.specs.declared.unit.Made.{Made}
use Rattle.c_typed.specs.declared.unit.TypedUnit.{TypedUnit}
use Rattle.c_code.specs.Functions.{locals, start}
use Rattle.c_code.specs.Modules.{waits_made}
use Rattle.c_emit.specs.refinement.Sites.{Site}
use Rattle.c_compile.proofs.ObjectFlags.{flags_at_start}
use Rattle.c_compile.proofs.functions.start.Goals as goal

abbrev func_in : Typed → Site → List tree.Made → Func
func_in u x ms = record { sig = 2; locals = locals x.target 0 [] (waits_made u ms); body = start x.target x.globals ms }

pub at_start-target-requires-clause-flags : goal.at_start-target-requires-clause-flags
at_start-target-requires-clause-flags c = flags_at_start (typed_of c.args.unit.now) c.args.globals.now c.requires.globals

pub returns : goal.returns
returns c =
    let u = typed_of c.args.unit.now in
    let r = c.start_at.result in
    let made = c.args.unit.now.made.items in
    subst (λ (x : Site). IfOk r (λ g. g ≡ func_in u x (map made_of made))) c.at_start-target.ensures
    (subst (λ (ms : List Made). IfOk r (λ g. g ≡ func_in u c.at_start-target.result.site (map made_of ms)))
    (c.deref.ensures.value ∙ ap (λ (x : TypedUnit). x.made.items) c.unit.ensures.same) (c.start_at.ensures u))
