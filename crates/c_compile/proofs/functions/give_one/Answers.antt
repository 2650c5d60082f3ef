use Rattle.std.proofs.Common.{◌+◌, ℕ, List, [], ◌∷◌, IfOk, subst, sym}
use Rattle.ms_emit.proofs.Adding.{adds_then}
use Rattle.ms_emit.specs.Codes.{one, plain}
use Rattle.ms_emit.specs.refinement.Parts.{Adds}
use Rattle.ms_module.specs.declared.access.Segment.TheVariants as segment
use Rattle.ms_module.specs.declared.instr.Instr.TheVariants.{Segment}
use Rattle.c_typed.specs.refinement.Views.{list_of, made_of}
use Rattle.c_typed.specs.declared.ops.Variable.TheVariants.{Global}
use Rattle.c_typed.specs.declared.tree.Stmt.{Stmt}
use Rattle.c_typed.specs.declared.unit.Made.{Made}
use Rattle.c_code.specs.Functions.{gives, values}
use Rattle.c_code.specs.Statements.{filled}
use Rattle.c_code.specs.Targets.{get, set}
use Rattle.c_compile.proofs.Bodies.{onward_second}
use Rattle.c_compile.proofs.functions.give_one.Goals as goal

pub returns-in_ok-give_values-in-Global : goal.returns-in_ok-give_values-in-Global
returns-in_ok-give_values-in-Global c = λ rest final h.
    let t = c.args.t.now.target in
    let k = c.args.literals in
    let s0 = c.args.body.now in
    let s1 = c.give_values.new.body in
    let ss = c.in-Global.ss.items in
    subst (λ (m : Made). Adds s0 final (gives t k (made_of m ∷ rest))) (sym c.in-Global.is)
    (adds_then s0 s1 final (values t (list_of ss)) (gives t k rest)
    (subst (λ (l : List Stmt). Adds s0 s1 (values t (list_of l))) c.deref.ensures.value c.in_ok-give_values-in-Global.ensures) h)

pub returns-in_ok-seal_literal-in-Literal : goal.returns-in_ok-seal_literal-in-Literal
returns-in_ok-seal_literal-in-Literal c = λ rest final.
    let t = c.args.t.now.target in
    let k = c.args.literals in
    let s0 = c.args.body.now in
    let s1 = c.fill_literal.new.body in
    let s2 = c.seal_literal.new.body in
    let r = c.sum.result in
    let bytes = c.in-Literal.bytes.items in
    let v = Global (t.globals + k) in
    let at = c.in_ok-n-in-Literal.ensures in
    subst (λ (m : Made). IfOk r (λ j. Adds s2 final (gives t j rest) → Adds s0 final (gives t k (made_of m ∷ rest)))) (sym c.in-Literal.is)
    (onward_second r k s0 s1 s2 final (filled t (one (get t v)) bytes) (plain (get t v ∷ Segment segment.Seal ∷ set t v ∷ [])) (λ j. gives t j rest) c.sum.ensures
    (subst (λ (l : List ℕ). Adds s0 s1 (filled t (one (get t v)) l)) c.deref-in-Literal.ensures.value
    (subst (λ (n : ℕ). Adds s0 s1 (filled t (one (get t (Global n))) c.deref-in-Literal.result.now)) at c.in_ok-fill_literal-in-Literal.ensures))
    (subst (λ (n : ℕ). Adds s1 s2 (plain (get t (Global n) ∷ Segment segment.Seal ∷ set t (Global n) ∷ []))) at c.in_ok-seal_literal-in-Literal.ensures))
