-- What stands at a place of a sequence.
use Rattle.std.proofs.Common.{◌≡◌, ◌≢◌, ℕ, zero, suc, ◌+◌, ◌<◌, ◌≤◌, List, [], ◌∷◌, ◌++◌, true, length, drop, slice_get, get_or, Some, refl, sym, ap, ◌∙◌, ⊎_elim, arith, length-drop, drop-cons}
use Rattle.std.proofs.lemmas.Bool.{cases_lt}
use Rattle.std.proofs.lemmas.List.{drop_all}
use Rattle.std.proofs.lemmas.Option.{slice_get_past, slice_get_read}
use Rattle.ms_linear.specs.declared.value.Value.{Value}
use Rattle.ms_module.specs.declared.instr.Instr.{Instr}
use Rattle.ms_module.specs.Numbered.{sequence_at}
use Rattle.ms_task.specs.declared.func.FuncInst.{FuncInst}
use Rattle.ms_task.specs.declared.marks.Mark.{Mark}
use Rattle.ms_task.specs.declared.marks.Mark.TheVariants as marks
use Rattle.ms_task.specs.Thread.{Begins, Frame, Item, body_in, dos, sequence, thread, with_first}
use Rattle.ms_task.specs.refinement.View.{again_at, items_of, rest_at}
use Rattle.ms_task.proofs.Items.{begins_past}

pub sequence_is : (funcs : List FuncInst) (f s : ℕ) (g : FuncInst) → slice_get funcs f ≡ Some g → sequence funcs f s ≡ sequence_at g.body s
unfolding sequence
sequence_is funcs f s g e = ap (λ o. sequence_at (body_in o) s) e

pub no_function : (funcs : List FuncInst) (f s : ℕ) → length funcs ≤ f → sequence funcs f s ≡ []
unfolding sequence
no_function funcs f s h = ap (λ o. sequence_at (body_in o) s) (slice_get_past funcs f h)

pub no_sequence : (ss : List (List Instr)) (s : ℕ) → length ss ≤ s → sequence_at ss s ≡ []
no_sequence [] s h = refl
no_sequence (is ∷ ss) zero h = absurd (omega (arith, h))
no_sequence (is ∷ ss) (suc s) h = no_sequence ss s (omega (arith, h))

pub drop_is_nil : {X : Type 0} (n : ℕ) (xs : List X) → drop n xs ≡ [] → length xs ≤ n
drop_is_nil n xs e = omega (arith, length-drop n xs, ap length e)

-- ---- nothing follows

pub ended_past_functions : (funcs : List FuncInst) (f s place : ℕ) → length funcs ≤ f → drop place (sequence funcs f s) ≡ []
ended_past_functions funcs f s place le = ap (drop place) (no_function funcs f s le) ∙ drop_all place [] (omega arith)

pub ended_past_sequences : (funcs : List FuncInst) (f s place : ℕ) (g : FuncInst) → slice_get funcs f ≡ Some g → length g.body ≤ s → drop place (sequence funcs f s) ≡ []
ended_past_sequences funcs f s place g e le = ap (drop place) (sequence_is funcs f s g e ∙ no_sequence g.body s le) ∙ drop_all place [] (omega arith)

pub ended_at : (funcs : List FuncInst) (f s place : ℕ) (g : FuncInst) (is : List Instr) → slice_get funcs f ≡ Some g → is ≡ sequence_at g.body s → length is ≤ place → drop place (sequence funcs f s) ≡ []
ended_at funcs f s place g is e i le = ap (drop place) (sequence_is funcs f s g e ∙ sym i) ∙ drop_all place is le

pub at_end : (funcs : List FuncInst) (f s place : ℕ) (g : FuncInst) (is : List Instr) → slice_get funcs f ≡ Some g → is ≡ sequence_at g.body s → drop place (sequence funcs f s) ≡ [] → length is ≤ place
at_end funcs f s place g is e i n = drop_is_nil place is (ap (drop place) (i ∙ sym (sequence_is funcs f s g e)) ∙ n)

pub nothing_left : (is : List Instr) (funcs : List FuncInst) (f : ℕ) (below : List Value) (ms : List Mark) → ms ≡ [] → is ≡ [] → dos is ++ items_of funcs f below ms ≡ []
nothing_left [] funcs f below [] m e = refl
nothing_left (i ∷ is) funcs f below [] m e = cc
nothing_left is funcs f below (x ∷ ms) m e = cc

pub marks_are_nil : (is : List Instr) (funcs : List FuncInst) (f : ℕ) (below : List Value) (ms : List Mark) → dos is ++ items_of funcs f below ms ≡ [] → ms ≡ []
marks_are_nil (i ∷ is) funcs f below ms e = cc
marks_are_nil [] funcs f below [] e = refl
marks_are_nil [] funcs f below (marks.Label k h s next a ∷ ms) e = cc
marks_are_nil [] funcs f below (marks.Activation k h g s next base floor ∷ ms) e = cc

-- ---- where something stands

pub begins_here : (is : List Instr) (funcs : List FuncInst) (f : ℕ) (below : List Value) (ms : List Mark) → Begins (dos is ++ items_of funcs f below ms) → is ≢ []
begins_here [] funcs f below [] b e = absurd b
begins_here [] funcs f below (marks.Label k h s next a ∷ ms) b e = absurd b
begins_here [] funcs f below (marks.Activation k h g s next base floor ∷ ms) b e = absurd b
begins_here (i ∷ is) funcs f below ms b e = cc

pub function_there : (funcs : List FuncInst) (f s place : ℕ) → drop place (sequence funcs f s) ≢ [] → f < length funcs
function_there funcs f s place n =
    ⊎_elim (λ lt. lt) (λ le. absurd (n (ended_past_functions funcs f s place le))) (cases_lt f (length funcs))

pub sequence_there : (funcs : List FuncInst) (f s place : ℕ) (g : FuncInst) → slice_get funcs f ≡ Some g → drop place (sequence funcs f s) ≢ [] → s < length g.body
sequence_there funcs f s place g e n =
    ⊎_elim (λ lt. lt) (λ le. absurd (n (ended_past_sequences funcs f s place g e le))) (cases_lt s (length g.body))

pub place_there : (funcs : List FuncInst) (f s place : ℕ) (g : FuncInst) (is : List Instr) → slice_get funcs f ≡ Some g → is ≡ sequence_at g.body s → drop place (sequence funcs f s) ≢ [] → place < length is
place_there funcs f s place g is e i n =
    ⊎_elim (λ lt. lt) (λ le. absurd (n (ended_at funcs f s place g is e i le))) (cases_lt place (length is))

-- ---- the instruction of a place

front : (funcs : List FuncInst) (f s place : ℕ) (g : FuncInst) (is : List Instr) (i : Instr) → slice_get funcs f ≡ Some g → is ≡ sequence_at g.body s → place < length is → i ≡ get_or is place i → drop place (sequence funcs f s) ≡ i ∷ drop (place + 1) (sequence funcs f s)
front funcs f s place g is i found same within read =
    let all = sequence_is funcs f s g found ∙ sym same in
    let one : suc place ≡ place + 1 = omega arith in
    ap (drop place) all ∙ drop-cons is place i within ∙ ap (λ x. x ∷ drop (suc place) is) (sym read) ∙ ap (λ n. i ∷ drop n is) one ∙ ap (λ l. i ∷ drop (place + 1) l) (sym all)

pub fetched : (funcs : List FuncInst) (fr : Frame) (vs : List Value) (w : List Item) (f s place : ℕ) (g : FuncInst) (is : List Instr) (i : Instr) → slice_get funcs f ≡ Some g → is ≡ sequence_at g.body s → place < length is → i ≡ get_or is place i → thread fr vs (rest_at funcs f s place ++ w) ≡ with_first i (thread fr vs (rest_at funcs f s (place + 1) ++ w))
fetched funcs fr vs w f s place g is i found same within read = ap (λ l. thread fr vs (dos l ++ w)) (front funcs f s place g is i found same within read)

pub fetched_before : (funcs : List FuncInst) (f s place : ℕ) (g : FuncInst) (is : List Instr) (i : Instr) → slice_get funcs f ≡ Some g → is ≡ sequence_at g.body s → place < length is → i ≡ get_or is place i → again_at true (place + 1) (sequence funcs f s) ≡ Some i
fetched_before funcs f s place g is i found same within read =
    let one : place + 1 ≡ suc place = omega arith in
    ap (λ n. again_at true n (sequence funcs f s)) one ∙ ap (λ l. slice_get l place) (sequence_is funcs f s g found ∙ sym same) ∙ slice_get_read is (length is) place i refl within read

pub begins_behind : (funcs : List FuncInst) (w : List Item) (f s place : ℕ) (g : FuncInst) (is : List Instr) → slice_get funcs f ≡ Some g → is ≡ sequence_at g.body s → place + 1 < length is → Begins (rest_at funcs f s (place + 1) ++ w)
begins_behind funcs w f s place g is found same within =
    begins_past (drop (place + 1) (sequence funcs f s)) w (λ e. absurd (let le = at_end funcs f s (place + 1) g is found same e in omega arith))

-- ---- the same in a sequence that is held

pub held : (funcs : List FuncInst) (fr : Frame) (vs : List Value) (w : List Item) (f s place : ℕ) (is : List Instr) (i : Instr) → is ≡ sequence funcs f s → place < length is → i ≡ get_or is place i → thread fr vs (rest_at funcs f s place ++ w) ≡ with_first i (thread fr vs (rest_at funcs f s (place + 1) ++ w))
held funcs fr vs w f s place is i same within read =
    let one : suc place ≡ place + 1 = omega arith in
    ap (λ l. thread fr vs (dos l ++ w))
    (ap (drop place) (sym same) ∙ drop-cons is place i within ∙ ap (λ x. x ∷ drop (suc place) is) (sym read) ∙ ap (λ n. i ∷ drop n is) one ∙ ap (λ l. i ∷ drop (place + 1) l) same)

pub held_behind : (funcs : List FuncInst) (w : List Item) (f s place : ℕ) (is : List Instr) → is ≡ sequence funcs f s → place + 1 < length is → Begins (rest_at funcs f s (place + 1) ++ w)
held_behind funcs w f s place is same within =
    begins_past (drop (place + 1) (sequence funcs f s)) w (λ e. absurd (let le = drop_is_nil (place + 1) is (ap (drop (place + 1)) same ∙ e) in omega arith))

pub held_before : (funcs : List FuncInst) (f s place : ℕ) (is : List Instr) (i : Instr) → is ≡ sequence funcs f s → place < length is → i ≡ get_or is place i → again_at true (place + 1) (sequence funcs f s) ≡ Some i
held_before funcs f s place is i same within read =
    let one : place + 1 ≡ suc place = omega arith in
    ap (λ n. again_at true n (sequence funcs f s)) one ∙ ap (λ l. slice_get l place) (sym same) ∙ slice_get_read is (length is) place i refl within read
