-- A branch, as the code makes it.
use Rattle.std.proofs.Common.{◌≡◌, ◌≢◌, ℕ, zero, suc, ◌<◌, ◌≤◌, List, [], ◌∷◌, ◌++◌, Bool, length, drop, take, slice_get, Option, Some, None, refl, sym, ap, ◌∙◌, arith, unwrap_or}
use Rattle.ms_types.specs.declared.types.ValType.{ValType}
use Rattle.ms_linear.specs.declared.value.Value.{Value}
use Rattle.ms_linear.specs.declared.value.Value.TheVariants.{I32}
use Rattle.ms_task.specs.declared.func.FuncInst.{FuncInst}
use Rattle.ms_task.specs.declared.marks.Mark.{Mark}
use Rattle.ms_task.specs.declared.marks.Mark.TheVariants as marks
use Rattle.ms_task.specs.refinement.Marks.{labels_in}
use Rattle.ms_task.specs.Control.{To, Stuck, again, br_if_on, br_table_on, branch, keep, kept, return_on}
use Rattle.ms_task.specs.Thread.{Frame, Item, dos, sequence, thread}
use Rattle.ms_task.specs.refinement.View.{again_at, items_of, resume, rest_at}
use Rattle.ms_task.proofs.Items.{branch_past, return_past, again-at}

pub branch_within : (l : ℕ) (fr : Frame) (vs : List Value) (funcs : List FuncInst) (f : ℕ) (below : List Value) (ms : List Mark) → branch l fr vs (items_of funcs f below ms) ≢ Stuck → (l ≤ labels_in ms) × (l < length ms)
branch_within l fr vs funcs f below [] n = absurd (n refl)
branch_within zero fr vs funcs f below (m ∷ ms) n = (omega arith, omega arith)
branch_within (suc l) fr vs funcs f below (marks.Label k h s next a ∷ ms) n =
    let rest = branch_within l fr vs funcs f below ms (λ e. n (branch_past l fr vs (drop next (sequence funcs f s)) (items_of funcs f below ms) ∙ e)) in
    (omega (arith, rest.0), omega (arith, rest.1))
branch_within (suc l) fr vs funcs f below (marks.Activation k h g s next base floor ∷ ms) n = absurd (n refl)

pub branch-drop : (l : ℕ) (fr : Frame) (vs : List Value) (funcs : List FuncInst) (f : ℕ) (below : List Value) (ms : List Mark) → l ≤ labels_in ms → branch l fr vs (items_of funcs f below ms) ≡ branch 0 fr vs (items_of funcs f below (drop l ms))
branch-drop zero fr vs funcs f below ms le = refl
branch-drop (suc l) fr vs funcs f below [] le = refl
branch-drop (suc l) fr vs funcs f below (marks.Label k h s next a ∷ ms) le =
    branch_past l fr vs (drop next (sequence funcs f s)) (items_of funcs f below ms) ∙ branch-drop l fr vs funcs f below ms (omega (arith, le))
branch-drop (suc l) fr vs funcs f below (marks.Activation k h g s next base floor ∷ ms) le = absurd (omega (arith, le))

pub branch_mark : (l : ℕ) (fr : Frame) (vs : List Value) (funcs : List FuncInst) (f : ℕ) (below : List Value) (ms cut ms' : List Mark) (m : Mark) → branch l fr vs (items_of funcs f below ms) ≢ Stuck → cut ≡ drop l ms → cut ≡ m ∷ ms' → branch l fr vs (items_of funcs f below ms) ≡ branch 0 fr vs (items_of funcs f below (m ∷ ms'))
branch_mark l fr vs funcs f below ms cut ms' m n e p =
    branch-drop l fr vs funcs f below ms (branch_within l fr vs funcs f below ms n).0 ∙ ap (λ x. branch 0 fr vs (items_of funcs f below x)) (sym e ∙ p)

pub branch_to_label : (l : ℕ) (fr : Frame) (vs : List Value) (funcs : List FuncInst) (f : ℕ) (below : List Value) (ms cut ms' : List Mark) (k : Option ValType) (h s next : ℕ) (a : Bool) (vs' : List Value) (place : ℕ) → branch l fr vs (items_of funcs f below ms) ≢ Stuck → cut ≡ drop l ms → cut ≡ marks.Label k h s next a ∷ ms' → Some vs' ≡ keep k h vs → place ≡ resume a next → To (thread fr vs' (rest_at funcs f s place ++ items_of funcs f below ms')) ≡ branch l fr vs (items_of funcs f below ms)
branch_to_label l fr vs funcs f below ms cut ms' k h s next a vs' place n e p kept-is place-is =
    let is = sequence funcs f s in
    let w = items_of funcs f below ms' in
    sym (branch_mark l fr vs funcs f below ms cut ms' (marks.Label k h s next a) n e p
    ∙ ap (λ o. kept o fr (again (again_at a next is) (dos (drop next is) ++ w))) (sym kept-is)
    ∙ ap (λ x. To (thread fr vs' x)) (again-at a next is w ∙ ap (λ q. dos (drop q is) ++ w) (sym place-is)))

pub label_keeps : (l : ℕ) (fr : Frame) (vs : List Value) (funcs : List FuncInst) (f : ℕ) (below : List Value) (ms cut ms' : List Mark) (k : Option ValType) (h s next : ℕ) (a : Bool) → branch l fr vs (items_of funcs f below ms) ≢ Stuck → cut ≡ drop l ms → cut ≡ marks.Label k h s next a ∷ ms' → keep k h vs ≢ None
label_keeps l fr vs funcs f below ms cut ms' k h s next a n e p none =
    n (branch_mark l fr vs funcs f below ms cut ms' (marks.Label k h s next a) n e p
    ∙ ap (λ o. kept o fr (again (again_at a next (sequence funcs f s)) (dos (drop next (sequence funcs f s)) ++ items_of funcs f below ms'))) none)

pub branch_to_call : (l : ℕ) (fr : Frame) (vs : List Value) (funcs : List FuncInst) (f : ℕ) (below : List Value) (ms cut ms' : List Mark) (k : Option ValType) (h g s next base floor : ℕ) (vs' : List Value) (locals : List Value × List Value) → branch l fr vs (items_of funcs f below ms) ≢ Stuck → cut ≡ drop l ms → cut ≡ marks.Activation k h g s next base floor ∷ ms' → Some vs' ≡ keep k h vs → locals ≡ (take base below, drop base below) → To (thread (record { function = g; locals = locals.1 }) vs' (rest_at funcs g s next ++ items_of funcs g locals.0 ms')) ≡ branch l fr vs (items_of funcs f below ms)
branch_to_call l fr vs funcs f below ms cut ms' k h g s next base floor vs' locals n e p kept-is locals-is =
    ap (λ (x : List Value × List Value). To (thread (record { function = g; locals = x.1 }) vs' (rest_at funcs g s next ++ items_of funcs g x.0 ms'))) locals-is
    ∙ sym (branch_mark l fr vs funcs f below ms cut ms' (marks.Activation k h g s next base floor) n e p
    ∙ ap (λ o. kept o (record { function = g; locals = drop base below }) (rest_at funcs g s next ++ items_of funcs g (take base below) ms')) (sym kept-is))

pub call_keeps : (l : ℕ) (fr : Frame) (vs : List Value) (funcs : List FuncInst) (f : ℕ) (below : List Value) (ms cut ms' : List Mark) (k : Option ValType) (h g s next base floor : ℕ) → branch l fr vs (items_of funcs f below ms) ≢ Stuck → cut ≡ drop l ms → cut ≡ marks.Activation k h g s next base floor ∷ ms' → keep k h vs ≢ None
call_keeps l fr vs funcs f below ms cut ms' k h g s next base floor n e p none =
    n (branch_mark l fr vs funcs f below ms cut ms' (marks.Activation k h g s next base floor) n e p
    ∙ ap (λ o. kept o (record { function = g; locals = drop base below }) (rest_at funcs g s next ++ items_of funcs g (take base below) ms')) none)

pub return_on-branch : (fr : Frame) (vs : List Value) (funcs : List FuncInst) (f : ℕ) (below : List Value) (ms : List Mark) → return_on vs (items_of funcs f below ms) ≡ branch (labels_in ms) fr vs (items_of funcs f below ms)
return_on-branch fr vs funcs f below [] = refl
return_on-branch fr vs funcs f below (marks.Label k h s next a ∷ ms) =
    return_past vs (drop next (sequence funcs f s)) (items_of funcs f below ms)
    ∙ return_on-branch fr vs funcs f below ms
    ∙ sym (branch_past (labels_in ms) fr vs (drop next (sequence funcs f s)) (items_of funcs f below ms))
return_on-branch fr vs funcs f below (marks.Activation k h g s next base floor ∷ ms) = refl

pub branch_rest : (l : ℕ) (fr : Frame) (vs : List Value) (funcs : List FuncInst) (f s next : ℕ) (below : List Value) (ms : List Mark) → branch l fr vs (rest_at funcs f s next ++ items_of funcs f below ms) ≡ branch l fr vs (items_of funcs f below ms)
branch_rest l fr vs funcs f s next below ms = branch_past l fr vs (drop next (sequence funcs f s)) (items_of funcs f below ms)

pub return_rest : (vs : List Value) (funcs : List FuncInst) (f s next : ℕ) (below : List Value) (ms : List Mark) → return_on vs (rest_at funcs f s next ++ items_of funcs f below ms) ≡ return_on vs (items_of funcs f below ms)
return_rest vs funcs f s next below ms = return_past vs (drop next (sequence funcs f s)) (items_of funcs f below ms)

pub br_if_taken : (l n : ℕ) (fr : Frame) (vs rest : List Value) (w : List Item) → vs ≡ I32 n ∷ rest → n ≢ 0 → br_if_on l (thread fr vs w) ≡ branch l fr rest w
br_if_taken l zero fr vs rest w e n = absurd (n refl)
br_if_taken l (suc n) fr vs rest w e h = ap (λ x. br_if_on l (thread fr x w)) e

-- at 0 the work goes on behind it
pub br_if_passed : (l n : ℕ) (fr : Frame) (vs rest : List Value) (w : List Item) → vs ≡ I32 n ∷ rest → n ≡ 0 → To (thread fr rest w) ≡ br_if_on l (thread fr vs w)
br_if_passed l zero fr vs rest w e n = ap (λ x. br_if_on l (thread fr x w)) (sym e)
br_if_passed l (suc n) fr vs rest w e h = absurd (omega (arith, h))

pub table_at : (ls : List ℕ) (d l n : ℕ) (fr : Frame) (vs rest : List Value) (w : List Item) → vs ≡ I32 n ∷ rest → l ≡ unwrap_or (slice_get ls n) d → br_table_on ls d (thread fr vs w) ≡ branch l fr rest w
table_at ls d l n fr vs rest w e h = ap (λ x. br_table_on ls d (thread fr x w)) e ∙ ap (λ k. branch k fr rest w) (sym h)
