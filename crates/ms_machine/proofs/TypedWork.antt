-- Work of known types: sequences in front of it, branches, returns, and exiting blocks and calls at their ends.
use Rattle.std.proofs.Common.{◌≡◌, ℕ, zero, suc, ◌+◌, ◌-◌, ◌≤◌, List, [], ◌∷◌, ◌++◌, length, drop, slice_get, Option, Some, None, cond, refl, sym, ap, ◌∙◌, subst, arith, append_assoc, length-append}
use Rattle.std.proofs.lemmas.Bool.{le-leb}
use Rattle.std.proofs.lemmas.List.{drop-map, length-map}
use Rattle.ms_linear.specs.Values.{type_of}
use Rattle.ms_linear.specs.declared.value.Value.{Value}
use Rattle.ms_module.specs.declared.instr.Instr.{Instr}
use Rattle.ms_rules.specs.Typing.{SequenceTyped, Typed, types}
use Rattle.ms_task.specs.Control.{Moved, To, TooDeep, Stuck, branch, keep, kept, lowest, over, return_on, exit_ended}
use Rattle.ms_task.specs.Thread.{Activation, Do, Frame, Item, Label, body_of, dos}
use Rattle.ms_types.specs.declared.types.ValType.{ValType}
use Rattle.ms_machine.specs.Typing.{FrameTyped, InstrTypedAt, Outline, TaskTyped, ThreadTyped, WorkTyped, context_at, labels_of, types_of}
use Rattle.ms_machine.proofs.TypedValues.{drop_seam}

-- where a control instruction leads is typed
abbrev pub MovedTyped : Outline → Moved → Type 0
MovedTyped o (To t) = ThreadTyped o t
MovedTyped o TooDeep = Unit {0}
MovedTyped o Stuck = ⊥

-- a typed sequence in front of typed work
pub sequence_typed : (o : Outline) (f : ℕ) (is : List Instr) (w : List Item) (ls : List (Option ValType)) (t1 t2 below : List ValType) → ls ≡ labels_of w → SequenceTyped (Typed (context_at o f) (body_of o.funcs f)) (context_at o f) ls is t1 t2 → WorkTyped o f w t2 below → WorkTyped o f (dos is ++ w) t1 below
sequence_typed o f [] w ls t1 t2 below l typed work = subst (λ t. WorkTyped o f w t below) (sym typed) work
sequence_typed o f (i ∷ is) w ls t1 t2 below l typed work =
    let rest = sequence_typed o f is w ls typed.0 t2 below l typed.2 work in
    let here = subst (λ x. InstrTypedAt o f x i t1 typed.0) (l ∙ sym (labels_of-dos is)) typed.1 in
    (typed.0, here, rest)
  where
    labels_of-dos : (is : List Instr) → labels_of (dos is ++ w) ≡ labels_of w
    labels_of-dos [] = refl
    labels_of-dos (i ∷ is) = labels_of-dos is

-- ---- the operands that a branch keeps

lowest_typed : (h : ℕ) (vs : List Value) (junk below : List ValType) → h ≡ length below → types_of vs ≡ junk ++ below → (vs' : List Value) × (lowest h vs ≡ Some vs') × (types_of vs' ≡ below)
lowest_typed h vs junk below high e =
    let long : length vs ≡ length junk + length below = sym (length-map vs type_of) ∙ ap length e ∙ length-append junk below in
    let within : h ≤ length vs = omega (arith, long, high) in
    let over : length vs - h ≡ length junk = omega (arith, long, high) in
    (drop (length vs - h) vs, ap (λ b. cond b (Some (drop (length vs - h) vs)) None) (le-leb _ _ within), sym (drop-map type_of (length vs - h) vs) ∙ ap (drop (length vs - h)) e ∙ drop_seam (length vs - h) junk below over)

keep_typed : (k : Option ValType) (h : ℕ) (vs : List Value) (junk below : List ValType) → h ≡ length below → types_of vs ≡ (types k ++ junk) ++ below → (vs' : List Value) × (keep k h vs ≡ Some vs') × (types_of vs' ≡ types k ++ below)
keep_typed None h vs junk below high e = lowest_typed h vs junk below high e
keep_typed (Some t) h [] junk below high e = cc
keep_typed (Some t) h (v ∷ vs) junk below high e =
    let rest : types_of vs ≡ junk ++ below = cc in
    let first : type_of v ≡ t = cc in
    let r = lowest_typed h vs junk below high rest in
    (v ∷ r.0, ap (over v) r.1, ap (λ x. x ∷ types_of r.0) first ∙ ap (λ l. t ∷ l) r.2)

-- below a block, its operands and those below them are known together
pub more_typed : (ts mine rest below : List ValType) (vs : List Value) → below ≡ mine ++ rest → types_of vs ≡ ts ++ below → types_of vs ≡ (ts ++ mine) ++ rest
more_typed ts mine rest below vs e h = h ∙ ap (λ l. ts ++ l) e ∙ sym (append_assoc ts mine rest)

deeper : (k : Option ValType) (junk mine rest below : List ValType) (vs : List Value) → below ≡ mine ++ rest → types_of vs ≡ (types k ++ junk) ++ below → types_of vs ≡ (types k ++ (junk ++ mine)) ++ rest
deeper k junk mine rest below vs e h = more_typed (types k ++ junk) mine rest below vs e h ∙ ap (λ x. x ++ rest) (append_assoc (types k) junk mine)

-- ---- where branches lead

kept_typed : (o : Outline) (fr : Frame) (vs : List Value) (w : List Item) (k k' : Option ValType) (h : ℕ) (junk mine rest below : List ValType) → FrameTyped o fr → k' ≡ k → below ≡ mine ++ rest → h ≡ length below → types_of vs ≡ (types k ++ junk) ++ below → WorkTyped o fr.function w (types k' ++ mine) rest → MovedTyped o (kept (keep k' h vs) fr w)
kept_typed o fr vs w k k' h junk mine rest below frame same e high operands there =
    let r = keep_typed k h vs junk below high operands in
    subst (λ x. MovedTyped o (kept (keep x h vs) fr w)) (sym same)
    (subst (λ o'. MovedTyped o (kept o' fr w)) (sym r.1)
    (record { ts = types k ++ mine; below = rest; operands = more_typed (types k) mine rest below r.0 e r.2; frame = frame; work = subst (λ x. WorkTyped o fr.function w (types x ++ mine) rest) same there }))

pub branch_typed : (o : Outline) (l : ℕ) (fr : Frame) (vs : List Value) (w : List Item) (k : Option ValType) (ts junk below : List ValType) → FrameTyped o fr → WorkTyped o fr.function w ts below → slice_get (labels_of w) l ≡ Some k → types_of vs ≡ (types k ++ junk) ++ below → MovedTyped o (branch l fr vs w)
branch_typed o l fr vs [] k ts junk below frame work at operands = cc
branch_typed o l fr vs (Do i ∷ w) k ts junk below frame work at operands = branch_typed o l fr vs w k work.0 junk below frame work.2 at operands
branch_typed o zero fr vs (Label k' h None ∷ w) k ts junk below frame (mine, rest, e, high, on, there) at operands =
    kept_typed o fr vs w k k' h junk mine rest below frame (cc) e high operands there
branch_typed o zero fr vs (Label k' h (Some i) ∷ w) k ts junk below frame (mine, rest, e, high, on, there) at operands =
    kept_typed o fr vs (Do i ∷ w) k k' h junk mine rest below frame (cc) e high operands there
branch_typed o (suc l) fr vs (Label k' h None ∷ w) k ts junk below frame (mine, rest, e, high, on, there) at operands =
    branch_typed o l fr vs w k (ts ++ mine) (junk ++ mine) rest frame on at (deeper k junk mine rest below vs e operands)
branch_typed o (suc l) fr vs (Label k' h (Some i) ∷ w) k ts junk below frame (mine, rest, e, high, on, there) at operands =
    branch_typed o l fr vs w k (ts ++ mine) (junk ++ mine) rest frame on at (deeper k junk mine rest below vs e operands)
branch_typed o zero fr vs (Activation k' h caller ∷ w) k ts junk below frame (mine, rest, e, high, ends, returns, callers, there) at operands =
    kept_typed o caller vs w k k' h junk mine rest below callers (cc) e high operands there
branch_typed o (suc l) fr vs (Activation k' h caller ∷ w) k ts junk below frame work at operands = cc

pub return_typed : (o : Outline) (fr : Frame) (vs : List Value) (w : List Item) (k : Option ValType) (ts junk below : List ValType) → FrameTyped o fr → WorkTyped o fr.function w ts below → (context_at o fr.function).returns ≡ Some k → types_of vs ≡ (types k ++ junk) ++ below → MovedTyped o (return_on vs w)
return_typed o fr vs [] k ts junk below frame work at operands = cc
return_typed o fr vs (Do i ∷ w) k ts junk below frame work at operands = return_typed o fr vs w k work.0 junk below frame work.2 at operands
return_typed o fr vs (Label k' h None ∷ w) k ts junk below frame (mine, rest, e, high, on, there) at operands =
    return_typed o fr vs w k (ts ++ mine) (junk ++ mine) rest frame on at (deeper k junk mine rest below vs e operands)
return_typed o fr vs (Label k' h (Some i) ∷ w) k ts junk below frame (mine, rest, e, high, on, there) at operands =
    return_typed o fr vs w k (ts ++ mine) (junk ++ mine) rest frame on at (deeper k junk mine rest below vs e operands)
return_typed o fr vs (Activation k' h caller ∷ w) k ts junk below frame (mine, rest, e, high, ends, returns, callers, there) at operands =
    kept_typed o caller vs w k k' h junk mine rest below callers (cc) e high operands there

-- ---- ends

pub exit_typed : (o : Outline) (fr : Frame) (vs : List Value) (w : List Item) (ts below : List ValType) → types_of vs ≡ ts ++ below → FrameTyped o fr → WorkTyped o fr.function w ts below → TaskTyped o (exit_ended fr vs w)
exit_typed o fr vs [] ts below operands frame work = record { thread = record { ts = ts; below = below; operands = operands; frame = frame; work = work }; exited = tt }
exit_typed o fr vs (Do i ∷ w) ts below operands frame work = record { thread = record { ts = ts; below = below; operands = operands; frame = frame; work = work }; exited = tt }
exit_typed o fr vs (Label k h None ∷ w) ts below operands frame (mine, rest, e, high, on, there) = exit_typed o fr vs w (ts ++ mine) rest (more_typed ts mine rest below vs e operands) frame on
exit_typed o fr vs (Label k h (Some i) ∷ w) ts below operands frame (mine, rest, e, high, on, there) = exit_typed o fr vs w (ts ++ mine) rest (more_typed ts mine rest below vs e operands) frame on
exit_typed o fr vs (Activation k h caller ∷ w) ts below operands frame (mine, rest, e, high, ends, returns, callers, there) =
    exit_typed o caller vs w (types k ++ mine) rest (more_typed ts mine rest below vs e operands ∙ ap (λ x. (x ++ mine) ++ rest) ends) callers there
