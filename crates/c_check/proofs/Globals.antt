-- A variable at file scope: what the calls before its initializer answer, and what the initializer's does.
use Rattle.std.proofs.Common.{◌≡◌, ◌∙◌, ℕ, List, ap, sym, Option, Some, Result, Ok, Err}
use Rattle.c_types.specs.Types.{Ty}
use Rattle.c_tree.specs.Tree.{Initialiser}
use Rattle.c_check_types.specs.Scopes.{enters_global}
use Rattle.c_check_types.specs.State.{Rule, State, ◌>>=◌, followed}
use Rattle.c_check_types.specs.Types.{Derived}
use Rattle.c_check_types.specs.declared.fault.Stop.{Stop}
use Rattle.c_check_types.specs.declared.fault.Stop.TheVariants as stops
use Rattle.c_check_types.specs.refinement.Views.{Obeys}
use Rattle.c_declare.specs.Initials.{variable_type}
use Rattle.c_check.specs.Declarations.{declares_global, global_value, made_there}

pub value_left : (name : List ℕ) (d : Derived) (v : Option Initialiser) (t u : Ty) (n m : ℕ) (s s1 s2 s3 : State)
    → variable_type d v s ≡ Some (t, s1) → u ≡ t → enters_global name u s1 ≡ Some (n, s2) → made_there n s2 ≡ Some (m, s3)
    → declares_global name d v s ≡ global_value m n t v s3
value_left name d v t u n m s s1 s2 s3 a same b e =
    ap (λ o. followed o (λ w. enters_global name w >>= (λ i. made_there i >>= (λ j. global_value j i w v)))) a
    ∙ ap (λ o. followed o (λ i. made_there i >>= (λ j. global_value j i t v))) (ap (λ w. enters_global name w s1) (sym same) ∙ b)
    ∙ ap (λ o. followed o (λ j. global_value j n t v)) e

-- what an answer says of a rule from a state, it says of one that is the same from another
pub answered_from : {A B : Type 0} (view : B → A) (f g : Rule A) (old from new : State) (r : Result B Stop) → f old ≡ g from → Obeys view g from new r → Obeys view f old new r
answered_from view f g old from new (Ok x) e h = e ∙ h
answered_from view f g old from new (Err stops.NoTyping) e h = e ∙ h
answered_from view f g old from new (Err stops.Memory) e h = tt
