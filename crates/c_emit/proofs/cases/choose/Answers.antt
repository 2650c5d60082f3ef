use Rattle.std.proofs.Common.{◌≡◌, ℕ, List, [], ◌∷◌, Option, Some, None, MatchOption, get_or, refl}
use Rattle.std.proofs.lemmas.List.{get_or_default}
use Rattle.ms_module.specs.Building.{State}
use Rattle.ms_module.specs.declared.instr.Instr.TheVariants.{LocalGet, Select}
use Rattle.ms_module.specs.declared.numeric.RelOp.TheVariants.{Ne}
use Rattle.ms_emit.specs.Codes.{Code, no_code, plain, ◌⨾◌}
use Rattle.ms_emit.specs.refinement.Parts.{Adds}
use Rattle.c_types.specs.declared.integers.IntType.{IntType}
use Rattle.c_typed.specs.declared.tree.Case.{Case}
use Rattle.c_meaning.specs.Integers.{value_of}
use Rattle.c_code.specs.Operations.{constant, i32, rel, width_of}
use Rattle.c_code.specs.Statements.{chosen}
use Rattle.c_code.specs.Targets.{Target}
use Rattle.c_emit.proofs.Items.{item_is_added, items_are_added}
use Rattle.c_emit.proofs.cases.choose.Goals as goal

module _ (u : IntType) (operand : ℕ) where
  abbrev of_label : (group : ℕ) → Option ℕ → Code
  of_label g None = no_code
  of_label g (Some n) = plain (i32 g ∷ LocalGet operand ∷ constant (width_of u) (value_of u n) ∷ rel (width_of u) Ne ∷ Select ∷ [])

  case_first : (t : Target) (c : Case) (cs : List Case) → chosen t u operand (c ∷ cs) ≡ of_label c.group c.label ⨾ chosen t u operand cs
  case_first t c cs = by c.label where
    by : (o : Option ℕ) → chosen t u operand (record { label = o; group = c.group } ∷ cs) ≡ of_label c.group o ⨾ chosen t u operand cs
    by None = refl
    by (Some n) = refl

  adds_label : (s0 s1 : State) (g : ℕ) (o : Option ℕ) → MatchOption o (Adds s0 s1 no_code) (λ n. Adds s0 s1 (of_label g (Some n))) → Adds s0 s1 (of_label g o)
  adds_label s0 s1 g None h = h
  adds_label s0 s1 g (Some n) h = h

pub loop-case-preserved : goal.loop-case-preserved
loop-case-preserved c = λ site.
    let u = c.args.u in
    let x = c.args.operand in
    let k = get_or c.args.cases.now c.loop-case.case-index (record { label = None; group = 0 }) in
    item_is_added (chosen site u x) (λ (a : Case). of_label u x a.group a.label) (case_first u x site)
    _ _ _ c.args.cases.now c.loop-case.case-index _ k _ c.loop-case-test.true (get_or_default c.args.cases.now c.loop-case.case-index _ k c.loop-case-test.true) refl
    (c.loop-case.invariant site) (adds_label u x _ _ k.group k.label c.in_ok-choose_case.ensures)

pub returns : goal.returns
returns c = λ site. items_are_added (chosen site c.args.u c.args.operand) refl _ _ c.args.cases.now c.loop-case.case-index _ c.loop-case-test.false (c.loop-case.invariant site)
