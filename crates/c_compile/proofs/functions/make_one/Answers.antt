use Rattle.std.proofs.Common.{◌+◌, ℕ, List, ◌∷◌, IfOk, if◌then◌else◌, get_or, subst, sym}
use Rattle.ms_emit.proofs.Adding.{adds_then}
use Rattle.ms_emit.specs.Codes.{no_code}
use Rattle.ms_emit.specs.refinement.Parts.{Adds}
use Rattle.c_types.specs.Layout.{size}
use Rattle.c_types.specs.Types.{void}
use Rattle.c_typed.specs.refinement.Views.{made_of}
use Rattle.c_typed.specs.declared.ops.Variable.TheVariants.{Global}
use Rattle.c_typed.specs.declared.unit.Made.{Made}
use Rattle.c_meaning.specs.Units.{string}
use Rattle.c_code.specs.Functions.{makes}
use Rattle.c_code.specs.Statements.{made}
use Rattle.c_compile.proofs.Bodies.{onward_next}
use Rattle.c_compile.proofs.functions.make_one.Goals as goal

pub returns-in_ok-make_global-in-Global : goal.returns-in_ok-make_global-in-Global
returns-in_ok-make_global-in-Global c = λ rest final h.
    let t = c.args.t.now.target in
    let us = c.args.t.now.globals in
    let k = c.args.literals in
    let s0 = c.args.body.now in
    let s1 = c.make_global.new.body in
    let n = c.in-Global.n in
    let v = Global n in
    subst (λ (m : Made). Adds s0 final (makes t us k (made_of m ∷ rest))) (sym c.in-Global.is)
    (adds_then s0 s1 final (if t.is_object v then made t v (size t.structs (get_or us n void)) else no_code) (makes t us k rest) c.in_ok-make_global-in-Global.ensures h)

pub returns-in_ok-make_literal-in-Literal : goal.returns-in_ok-make_literal-in-Literal
returns-in_ok-make_literal-in-Literal c = λ rest final.
    let t = c.args.t.now.target in
    let us = c.args.t.now.globals in
    let k = c.args.literals in
    let s0 = c.args.body.now in
    let s1 = c.make_literal.new.body in
    let r = c.sum.result in
    let bytes = c.in-Literal.bytes.items in
    let v = Global (t.globals + k) in
    subst (λ (m : Made). IfOk r (λ j. Adds s1 final (makes t us j rest) → Adds s0 final (makes t us k (made_of m ∷ rest)))) (sym c.in-Literal.is)
    (onward_next r k s0 s1 final (made t v (size t.structs (string bytes))) (λ j. makes t us j rest) c.sum.ensures
    (subst (λ (l : List ℕ). Adds s0 s1 (made t v (size t.structs (string l)))) c.deref.ensures.value c.in_ok-make_literal-in-Literal.ensures))
