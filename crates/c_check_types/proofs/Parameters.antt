-- The parameters that are left, when one of them has been read.
use Rattle.std.proofs.Common.{◌≡◌, ◌∙◌, ℕ, zero, suc, ◌+◌, ◌<◌, arith, List, [], ◌∷◌, ◌++◌, length, get_or, drop, sym, ap}
use Rattle.std.proofs.Math.Seq.{drop-cons}
use Rattle.c_tree.specs.declared.tree.Parameter.{Parameter as Written}
use Rattle.c_tree.specs.Tree.{Parameters}
use Rattle.c_tree.specs.refinement.Views.{parameters_of, parameters_nodes, declarator_nodes}
use Rattle.c_check_types.specs.State.{Names, Rule, State, followed}
use Rattle.c_check_types.specs.Types.{Parameter, whole, a_parameter, declared, parameters}

-- the parameters behind one
abbrev pub going_on : Parameters → List Parameter → Parameter × Names → Rule (List Parameter)
going_on ps qs q = parameters ps q.1 (qs ++ q.0 ∷ [])

pub front : (items : List Written) (i : ℕ) (p : Written) → i < length items → p ≡ get_or items i p → (names : Names) (qs : List Parameter) (s : State)
    → parameters (parameters_of (drop i items)) names qs s
    ≡ followed (a_parameter p.specifier (λ b. declared p.declarator (whole b) []) names s) (going_on (parameters_of (drop (suc i) items)) qs)
front items k p lt e names qs s =
    ap (λ (l : List Written). parameters (parameters_of l) names qs s) (drop-cons items k p lt)
    ∙ ap (λ (y : Written). followed (a_parameter y.specifier (λ b. declared y.declarator (whole b) []) names s) (going_on (parameters_of (drop (suc k) items)) qs)) (sym e)

-- each parameter is smaller than all of them
pub one_falls : (items : List Written) (i : ℕ) (p : Written) → i < length items → p ≡ get_or items i p → declarator_nodes p.declarator + 1 < parameters_nodes (parameters_of items)
one_falls [] i p lt e = absurd (omega arith)
one_falls (q ∷ items) zero p lt e =
    let same : declarator_nodes p.declarator ≡ declarator_nodes q.declarator = ap (λ (x : Written). declarator_nodes x.declarator) e in omega arith
one_falls (q ∷ items) (suc i) p lt e = let more = one_falls items i p (omega arith) e in omega arith
