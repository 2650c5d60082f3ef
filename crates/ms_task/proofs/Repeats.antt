-- A branch to a loop that begins it again.
use Rattle.std.proofs.Common.{◌≡◌, ◌≢◌, ℕ, zero, suc, ◌-◌, ◌<◌, ◌≤◌, List, [], ◌∷◌, ◌++◌, ◌==◌, Bool, true, false, length, drop, length-drop, slice_get, Option, Some, None, sym, ap, ◌∙◌, arith, ⊎_elim}
use Rattle.std.proofs.lemmas.Bool.{cases_lt}
use Rattle.ms_types.specs.declared.types.ValType.{ValType}
use Rattle.ms_linear.specs.declared.value.Value.{Value}
use Rattle.ms_module.specs.declared.instr.Instr.TheVariants.{Loop}
use Rattle.ms_task.specs.declared.func.FuncInst.{FuncInst}
use Rattle.ms_task.specs.declared.marks.Mark.{Mark}
use Rattle.ms_task.specs.declared.marks.Mark.TheVariants as marks
use Rattle.ms_task.specs.Control.{Repeats, Stuck, To, again, branch, kept, lowest}
use Rattle.ms_task.specs.Thread.{Frame, Label, dos, sequence, thread}
use Rattle.ms_task.specs.refinement.View.{again_at, items_of, rest_at}
use Rattle.ms_task.proofs.Branches.{branch_mark, label_keeps}
use Rattle.ms_task.proofs.Kept.{lowest_past, lowest_within}

pub lowest_there : (h : ℕ) (vs : List Value) → lowest h vs ≢ None → h ≤ length vs
lowest_there h vs there = ⊎_elim (λ lt. absurd (there (lowest_past h vs lt))) (λ le. le) (cases_lt (length vs) h)

pub label_of : (l : ℕ) (ms : List Mark) (m : Mark) → slice_get ms l ≡ Some m → drop l ms ≡ m ∷ drop (suc l) ms
label_of zero (x ∷ ms) m e = ap (λ (y : Mark). y ∷ ms) cc
label_of zero [] m e = cc
label_of (suc l) [] m e = cc
label_of (suc l) (x ∷ ms) m e = label_of l ms m e

pub first_of : (vs : List Value) (v : Value) → slice_get vs 0 ≡ Some v → vs ≡ v ∷ drop 1 vs
first_of [] v e = cc
first_of (x ∷ vs) v e = ap (λ (y : Value). y ∷ vs) cc

pub not_empty : {A : Type 0} (xs : List A) (b : Bool) → b ≡ (length xs == 0) → b ≡ false → 0 < length xs
not_empty [] b e n = cc
not_empty (x ∷ xs) b e n = omega arith

module _ (l h s next b f : ℕ) (ty : Option ValType) (locals vs vs' : List Value) (funcs : List FuncInst) (below : List Value) (ms cut ms' : List Mark)
    (there : branch l (record { function = f; locals = locals }) vs (items_of funcs f below ms) ≢ Stuck)
    (cut-is : cut ≡ drop l ms) (label : cut ≡ marks.Label None h s next true ∷ ms')
    (loop : again_at true next (sequence funcs f s) ≡ Some (Loop ty b)) where
  fr : Frame
  fr = record { function = f; locals = locals }

  pub enough : h ≤ length vs
  enough = lowest_there h vs (label_keeps l (record { function = f; locals = locals }) vs funcs f below ms cut ms' None h s next true there cut-is label)

  pub repeats : vs' ≡ drop (length vs - h) vs → Repeats funcs (branch l (record { function = f; locals = locals }) vs (items_of funcs f below ms)) (thread (record { function = f; locals = locals }) vs' (rest_at funcs f b 0 ++ items_of funcs f below cut))
  repeats kept-is =
      let is = sequence funcs f s in
      let w = items_of funcs f below ms' in
      let t = thread (record { function = f; locals = locals }) vs' (rest_at funcs f s next ++ w) in
      let height : h ≡ length vs' = omega (arith, enough, ap length kept-is, length-drop (length vs - h) vs) in (
        ty,
        b,
        t,
        branch_mark l (record { function = f; locals = locals }) vs funcs f below ms cut ms' (marks.Label None h s next true) there cut-is label
            ∙ ap (λ o. kept (lowest h vs) (record { function = f; locals = locals }) (again o (dos (drop next is) ++ w))) loop
            ∙ ap (λ o. kept o (record { function = f; locals = locals }) (again (Some (Loop ty b)) (dos (drop next is) ++ w))) (lowest_within h vs enough ∙ ap Some (sym kept-is)),
        ap (λ c. To (thread (record { function = f; locals = locals }) vs' (rest_at funcs f b 0 ++ items_of funcs f below c))) label
            ∙ ap (λ o. To (thread (record { function = f; locals = locals }) vs' (dos (sequence funcs f b) ++ Label None h o ∷ (rest_at funcs f s next ++ w)))) loop
            ∙ ap (λ k. To (thread (record { function = f; locals = locals }) vs' (dos (sequence funcs f b) ++ Label None k (Some (Loop ty b)) ∷ (rest_at funcs f s next ++ w)))) height,
      )
