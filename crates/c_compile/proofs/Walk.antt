-- The code of statements that stand in a tree of the code, and of lists of them.
use Rattle.std.proofs.Common.{◌≡◌, ◌∙◌, ◌+◌, ◌<◌, ℕ, suc, Bool, true, false, if◌then◌else◌, List, [], ◌∷◌, length, get_or, drop, add-one, ap, refl, subst, sym}
use Rattle.std.specs.Prelude.{None}
use Rattle.ms_module.specs.Building.{State}
use Rattle.ms_module.specs.declared.instr.Instr.TheVariants.{BrIf}
use Rattle.ms_emit.specs.Codes.{Code, block, one, repeat, ◌⨾◌}
use Rattle.ms_emit.specs.refinement.Parts.{Adds}
use Rattle.c_types.specs.Types.{Ty}
use Rattle.c_typed.specs.declared.tree.Stmt.{Stmt}
use Rattle.c_typed.specs.Parts.{sequence}
use Rattle.c_typed.specs.refinement.Views.{list_of, stmt_of}
use Rattle.c_code.specs.Statements.{Exits, group_from, groups, iterated, stmt}
use Rattle.c_code.specs.Targets.{Target, waiting}
use Rattle.c_emit.proofs.Items.{IsLeft, item_at, less_is_left}

-- a loop whose body has a block of its own, or not
pub iterated_is : (t : Target) (b : Bool) (body : Bool → Code) (step test : Code)
    → iterated t b (body b) step test ≡ repeat None ((if b then block None (body true) else body false) ⨾ step ⨾ test ⨾ one (BrIf 0))
iterated_is t true body step test = refl
iterated_is t false body step test = refl

-- the body of a loop, by whether it has a block of its own
pub without_block : (b : Bool) (body : Bool → Code) → b ≡ false → body false ≡ (if b then block None (body true) else body false)
without_block b body e = sym (ap (λ (k : Bool). if k then block None (body true) else body false) e)

pub with_block : (b : Bool) (body : Bool → Code) → b ≡ true → block None (body true) ≡ (if b then block None (body true) else body false)
with_block b body e = sym (ap (λ (k : Bool). if k then block None (body true) else body false) e)

module _ (t : Target) (slots : List Ty) where
  pub group_is_added : (d : ℕ) (x : Exits) (s0 s1 s2 : State) (ss : List Stmt) (i k : ℕ) (s : Stmt) (whole : Code) → i < length ss → s ≡ get_or ss i s → k ≡ i + 1
      → IsLeft s0 s1 (groups t slots d x i (sequence (list_of (drop i ss)))) whole
      → Adds s1 s2 (group_from t (waiting t d) i (stmt t slots (suc d) x (stmt_of s)))
      → IsLeft s0 s2 (groups t slots d x k (sequence (list_of (drop k ss)))) whole
  group_is_added d x s0 s1 s2 ss i k s whole l e next left h =
      let others = groups t slots d x k (sequence (list_of (drop k ss))) in
      let here = group_from t (waiting t d) i (stmt t slots (suc d) x (stmt_of s)) in
      let numbered : groups t slots d x (suc i) (sequence (list_of (drop k ss))) ≡ others =
      ap (λ (n : ℕ). groups t slots d x n (sequence (list_of (drop k ss)))) (rw (next, add-one) refl) in
      less_is_left s0 s1 s2 here others whole
      (subst (λ (c : Code). IsLeft s0 s1 c whole) (ap (λ (l : List Stmt). groups t slots d x i (sequence (list_of l))) (item_at ss i k s l e next) ∙ ap (λ (c : Code). here ⨾ c) numbered) left) h
