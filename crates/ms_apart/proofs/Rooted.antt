-- What a well-typed thread leaves when it has ended: values of its outermost call's result.
use Rattle.std.proofs.Common.{◌≡◌, ◌≢◌, ℕ, zero, suc, ◌-◌, ◌≤◌, Bool, true, false, cond, nat_le, nat_lt, List, [], ◌∷◌, ◌++◌, append-nil, append_assoc, drop, length, slice_get, unwrap_or, Option, Some, None, Result, Ok, Err, refl, sym, ap, ◌∙◌, subst, arith}
use Rattle.std.proofs.lemmas.Bool.{le-leb}
use Rattle.ms_host.specs.Host.{lowest_byte, number_of}
use Rattle.ms_host.specs.declared.host.Host.{Host}
use Rattle.ms_host.specs.declared.host.Host.TheVariants as hosts
use Rattle.ms_linear.specs.Values.{type_of}
use Rattle.ms_linear.specs.Table.{Table, target_of}
use Rattle.ms_linear.specs.declared.global.GlobalInst.{GlobalInst}
use Rattle.ms_linear.specs.declared.table.CallTrap.{CallTrap}
use Rattle.ms_linear.specs.declared.table.FuncRef.{FuncRef}
use Rattle.ms_linear.specs.declared.value.Value.{Value}
use Rattle.ms_linear.specs.declared.value.Value.TheVariants as values
use Rattle.ms_linear.specs.Memory.{Memory as LinearMemory}
use Rattle.ms_module.specs.declared.access.Linear.{Linear as LinearInstr}
use Rattle.ms_module.specs.declared.instr.Instr.{Instr}
use Rattle.ms_module.specs.declared.instr.Instr.TheVariants.{Unreachable, Nop, Block, Loop, If, Br, BrIf, BrTable, Return, Call, CallIndirect, Drop, Select, LocalGet, LocalSet, LocalTee, GlobalGet, GlobalSet, I32Const, I64Const, Numeric, Linear, Segment}
use Rattle.ms_num.specs.Integers.{wrapped}
use Rattle.ms_operate.specs.Effects as effects
use Rattle.ms_operate.specs.Memories.{linear_on}
use Rattle.ms_operate.specs.Numbers.{numeric_on}
use Rattle.ms_operate.specs.Outcomes as operate
use Rattle.ms_rules.specs.Typing.{types}
use Rattle.ms_task.specs.Control as control
use Rattle.ms_task.specs.Control.{Moved, To, TooDeep, again, block_on, br_if_on, br_table_on, branch, call_on, deepest, else_on, enter, entered, exit_ended, exited as exited_thread, if_on, keep, kept, loop_on, lowest, on_number, over, return_on}
use Rattle.ms_task.specs.declared.func.FuncInst.{FuncInst}
use Rattle.ms_task.specs.Thread.{Activation, Do, Frame, Item, Label, Thread, depth_of, dos, result_of, sequence, thread}
use Rattle.ms_types.specs.declared.types.FuncType.{FuncType}
use Rattle.ms_types.specs.declared.types.ValType.{ValType}
use Rattle.ms_types.specs.declared.types.ValType.TheVariants as kinds
use Rattle.ms_machine.specs.Hosting.{host_on, takes}
use Rattle.ms_machine.specs.Moves as moves
use Rattle.ms_machine.specs.Moves.{Goes, Move, hosted, move_for, move_on}
use Rattle.ms_machine.specs.Segments as segments
use Rattle.ms_machine.specs.Segments.{segment_on}
use Rattle.ms_machine.specs.Step.{Calls, Next, Outcome, Stuck, Trap, act, call, call_target, call_through, called, choose, exited, first, goes, host_in, in_memory, in_segments, linear, moved, on_memory, on_top, pushed, select, set_global, set_global_at, set_local, value_in, worked}
use Rattle.ms_machine.specs.Store.{Store, at, func_address, global_address, instance_of, memory_address, table_address, type_at}
use Rattle.ms_machine.specs.Typing.{FrameTyped, InstrTypedAt, IsExited, Outline, StoreTyped, TaskTyped, WorkTyped, context_at, labels_of, outline_of, types_of}
use Rattle.ms_machine.proofs.TypedActs.{act_typed}
use Rattle.ms_machine.proofs.TypedBlocks.{table_takes}
use Rattle.ms_machine.proofs.TypedPlain.{CallTyped, OutcomeTyped}
use Rattle.ms_machine.proofs.TypedValues.{i32_top}
use Rattle.ms_machine.proofs.TypedWork.{more_typed}

-- ---- the operands that a branch out of the outermost call keeps

drop_whole : (vs : List Value) (n : ℕ) → length vs ≤ n → drop n vs ≡ []
drop_whole [] zero le = refl
drop_whole [] (suc n) le = refl
drop_whole (v ∷ vs) zero le = absurd (omega (arith, le))
drop_whole (v ∷ vs) (suc n) le = drop_whole vs n (omega (arith, le))

lowest_zero : (vs : List Value) → lowest 0 vs ≡ Some []
lowest_zero vs =
    let within : 0 ≤ length vs = omega arith in
    ap (λ b. cond b (Some (drop (length vs - 0) vs)) None) (le-leb _ _ within) ∙ ap Some (drop_whole vs (length vs - 0) (omega arith))

abbrev KeptTypes : Option ValType → Option (List Value) → Type 0
KeptTypes k None = Unit {0}
KeptTypes k (Some vs) = types_of vs ≡ types k

keep_zero : (k : Option ValType) (vs : List Value) (rest : List ValType) → types_of vs ≡ types k ++ rest → KeptTypes k (keep k 0 vs)
keep_zero None vs rest e = subst (KeptTypes None) (sym (lowest_zero vs)) refl
keep_zero (Some t) [] rest e = tt
keep_zero (Some t) (v ∷ vs) rest e =
    let top : type_of v ≡ t = cc in
    subst (λ l. KeptTypes (Some t) (over v l)) (sym (lowest_zero vs)) (ap (λ x. x ∷ []) top)

nothing_below : (below : List ValType) → 0 ≡ length below → below ≡ []
nothing_below [] e = refl
nothing_below (t ∷ below) e = absurd (omega (arith, e))

-- ---- the outermost call has this result, and nothing lies below it

abbrev pub Rooted : Option ValType → List Item → Type 0
Rooted k [] = ⊥
Rooted k (Do i ∷ w) = Rooted k w
Rooted k (Label k' h g ∷ w) = Rooted k w
Rooted k (Activation k' h caller ∷ []) = (k' ≡ k) × (h ≡ 0)
Rooted k (Activation k' h caller ∷ j ∷ w) = Rooted k (j ∷ w)

-- or it has ended with that
abbrev pub Sound : Option ValType → List Value → List Item → Type 0
Sound k vs [] = types_of vs ≡ types k
Sound k vs (j ∷ w) = Rooted k (j ∷ w)

abbrev pub ThreadSound : Option ValType → Thread → Type 0
ThreadSound k t = Sound k t.operands t.work

module _ (k : Option ValType) where
  pub sound_of : (vs : List Value) (w : List Item) → Rooted k w → Sound k vs w
  sound_of vs [] x = absurd x
  sound_of vs (j ∷ w) x = x

  pub rooted_dos : (is : List Instr) (w : List Item) → Rooted k w → Rooted k (dos is ++ w)
  rooted_dos [] w x = x
  rooted_dos (i ∷ is) w x = rooted_dos is w x

  rooted_call : (k' : Option ValType) (h : ℕ) (caller : Frame) (w : List Item) → Rooted k w → Rooted k (Activation k' h caller ∷ w)
  rooted_call k' h caller [] x = absurd x
  rooted_call k' h caller (j ∷ w) x = x

  rooted_again : (g : Option Instr) (w : List Item) → Rooted k w → Rooted k (again g w)
  rooted_again None w x = x
  rooted_again (Some i) w x = x

  -- ---- exiting calls at their ends

  pub exit_sound : (o : Outline) (fr : Frame) (vs : List Value) (w : List Item) (ts below : List ValType) → types_of vs ≡ ts ++ below → WorkTyped o fr.function w ts below → Sound k vs w → ThreadSound k (exit_ended fr vs w)
  exit_sound o fr vs [] ts below operands work x = x
  exit_sound o fr vs (Do i ∷ w) ts below operands work x = x
  exit_sound o fr vs (Label k' h None ∷ w) ts below operands (mine, rest, e, high, on, there) x = exit_sound o fr vs w (ts ++ mine) rest (more_typed ts mine rest below vs e operands) on (sound_of vs w x)
  exit_sound o fr vs (Label k' h (Some i) ∷ w) ts below operands (mine, rest, e, high, on, there) x = exit_sound o fr vs w (ts ++ mine) rest (more_typed ts mine rest below vs e operands) on (sound_of vs w x)
  exit_sound o fr vs (Activation k' h caller ∷ []) ts below operands (mine, rest, e, high, ends, returns, callers, there) x =
      let none : below ≡ [] = nothing_below below (sym x.1 ∙ high) in
      operands ∙ (ap (λ l. ts ++ l) none ∙ (append-nil ts ∙ (ends ∙ ap types x.0)))
  exit_sound o fr vs (Activation k' h caller ∷ j ∷ w) ts below operands (mine, rest, e, high, ends, returns, callers, there) x =
      exit_sound o caller vs (j ∷ w) (types k' ++ mine) rest (more_typed ts mine rest below vs e operands ∙ ap (λ l. (l ++ mine) ++ rest) ends) there x

  -- ---- where branches lead

  abbrev MovedSound : Moved → Type 0
  MovedSound (To t) = ThreadSound k t
  MovedSound TooDeep = Unit {0}
  MovedSound control.Stuck = Unit {0}

  kept_rooted : (o : Option (List Value)) (fr : Frame) (w : List Item) → Rooted k w → MovedSound (kept o fr w)
  kept_rooted None fr w x = tt
  kept_rooted (Some vs) fr w x = sound_of vs w x

  kept_last : (o : Option (List Value)) (fr : Frame) → KeptTypes k o → MovedSound (kept o fr [])
  kept_last None fr x = tt
  kept_last (Some vs) fr x = x

  bottom : (k' : Option ValType) (h : ℕ) (vs : List Value) (caller : Frame) (rest : List ValType) → k' ≡ k → h ≡ 0 → types_of vs ≡ types k' ++ rest → MovedSound (kept (keep k' h vs) caller [])
  bottom k' h vs caller rest same low e =
      subst (λ n. MovedSound (kept (keep k' n vs) caller [])) (sym low)
      (subst (λ j. MovedSound (kept (keep j 0 vs) caller [])) (sym same) (kept_last (keep k 0 vs) caller (keep_zero k vs rest (e ∙ ap (λ j. types j ++ rest) same))))

  branch_sound : (l : ℕ) (fr : Frame) (vs : List Value) (w : List Item) (k1 : Option ValType) (rest : List ValType) → Rooted k w → slice_get (labels_of w) l ≡ Some k1 → types_of vs ≡ types k1 ++ rest → MovedSound (branch l fr vs w)
  branch_sound l fr vs [] k1 rest x at e = absurd x
  branch_sound l fr vs (Do i ∷ w) k1 rest x at e = branch_sound l fr vs w k1 rest x at e
  branch_sound zero fr vs (Label k' h g ∷ w) k1 rest x at e = kept_rooted (keep k' h vs) fr (again g w) (rooted_again g w x)
  branch_sound (suc l) fr vs (Label k' h g ∷ w) k1 rest x at e = branch_sound l fr vs w k1 rest x at e
  branch_sound zero fr vs (Activation k' h caller ∷ []) k1 rest x at e =
      let same : k1 ≡ k' = cc in
      bottom k' h vs caller rest x.0 x.1 (e ∙ ap (λ j. types j ++ rest) same)
  branch_sound zero fr vs (Activation k' h caller ∷ j ∷ w) k1 rest x at e = kept_rooted (keep k' h vs) caller (j ∷ w) x
  branch_sound (suc l) fr vs (Activation k' h caller ∷ w) k1 rest x at e = tt

  return_sound : (o : Outline) (fr : Frame) (vs : List Value) (w : List Item) (k1 : Option ValType) (ts below rest : List ValType) → WorkTyped o fr.function w ts below → Rooted k w → (context_at o fr.function).returns ≡ Some k1 → types_of vs ≡ types k1 ++ rest → MovedSound (return_on vs w)
  return_sound o fr vs [] k1 ts below rest work x at e = absurd x
  return_sound o fr vs (Do i ∷ w) k1 ts below rest work x at e = return_sound o fr vs w k1 work.0 below rest work.2 x at e
  return_sound o fr vs (Label k' h None ∷ w) k1 ts below rest (mine, under, f, high, on, there) x at e = return_sound o fr vs w k1 (ts ++ mine) under rest on x at e
  return_sound o fr vs (Label k' h (Some i) ∷ w) k1 ts below rest (mine, under, f, high, on, there) x at e = return_sound o fr vs w k1 (ts ++ mine) under rest on x at e
  return_sound o fr vs (Activation k' h caller ∷ []) k1 ts below rest (mine, under, f, high, ends, returns, callers, there) x at e =
      let same : k1 ≡ k' = cc in
      bottom k' h vs caller rest x.0 x.1 (e ∙ ap (λ j. types j ++ rest) same)
  return_sound o fr vs (Activation k' h caller ∷ j ∷ w) k1 ts below rest work x at e = kept_rooted (keep k' h vs) caller (j ∷ w) x

  -- ---- blocks and calls

  moved_cond : (b : Bool) (m n : Moved) → MovedSound m → MovedSound n → MovedSound (cond b m n)
  moved_cond true m n x y = x
  moved_cond false m n x y = y

  number_any : (vs : List Value) (f g : List Value → Moved) → ((us : List Value) → MovedSound (f us)) → ((us : List Value) → MovedSound (g us)) → MovedSound (on_number vs f g)
  number_any [] f g x y = tt
  number_any (values.I32 zero ∷ vs) f g x y = y vs
  number_any (values.I32 (suc n) ∷ vs) f g x y = x vs
  number_any (values.I64 n ∷ vs) f g x y = tt
  number_any (values.Handle h ∷ vs) f g x y = tt

  number_at : (n : ℕ) (us : List Value) (f g : List Value → Moved) → MovedSound (f us) → MovedSound (g us) → MovedSound (on_number (values.I32 n ∷ us) f g)
  number_at zero us f g x y = y
  number_at (suc n) us f g x y = x

  block_sound : (funcs : List FuncInst) (s : ℕ) (k' : Option ValType) (g : Option Instr) (fr : Frame) (vs : List Value) (w : List Item) → Rooted k w → MovedSound (block_on funcs s k' g (thread fr vs w))
  block_sound funcs s k' g fr vs w x = sound_of vs (dos (sequence funcs fr.function s) ++ Label k' (length vs) g ∷ w) (rooted_dos (sequence funcs fr.function s) (Label k' (length vs) g ∷ w) x)

  else_sound : (funcs : List FuncInst) (o : Option ℕ) (k' : Option ValType) (fr : Frame) (vs : List Value) (w : List Item) → Rooted k w → MovedSound (else_on funcs o k' (thread fr vs w))
  else_sound funcs None k' fr vs w x = sound_of vs w x
  else_sound funcs (Some s) k' fr vs w x = block_sound funcs s k' None fr vs w x

  enter_sound : (funcs : List FuncInst) (f : ℕ) (o : Option FuncInst) (fr : Frame) (vs : List Value) (w : List Item) → Rooted k w → MovedSound (enter funcs f o (thread fr vs w))
  enter_sound funcs f None fr vs w x = tt
  enter_sound funcs f (Some g) fr vs w x =
      let n = length g.ty.params in
      let after : List Item = Activation (result_of g) (length vs - n) fr ∷ w in
      moved_cond (nat_le n (length vs)) (To (entered funcs f g (thread fr vs w))) control.Stuck
      (sound_of (drop n vs) (dos (sequence funcs f 0) ++ after) (rooted_dos (sequence funcs f 0) after (rooted_call (result_of g) (length vs - n) fr w x))) tt

  call_on_sound : (funcs : List FuncInst) (f : ℕ) (fr : Frame) (vs : List Value) (w : List Item) → Rooted k w → MovedSound (call_on funcs f (thread fr vs w))
  call_on_sound funcs f fr vs w x = moved_cond (nat_lt (depth_of w) deepest) (enter funcs f (slice_get funcs f) (thread fr vs w)) TooDeep (enter_sound funcs f (slice_get funcs f) fr vs w x) tt

  -- ---- every instruction

  abbrev OutcomeSound : Outcome → Type 0
  OutcomeSound (Next s t event) = ThreadSound k t
  OutcomeSound (Calls h t) = Rooted k t.work
  OutcomeSound (Trap trap) = Unit {0}
  OutcomeSound Stuck = Unit {0}

  module _ (s : Store) (fr : Frame) (w : List Item) (x : Rooted k w) where
    moved_sound : (m : Moved) → MovedSound m → OutcomeSound (moved s m)
    moved_sound (To t) y = y
    moved_sound TooDeep y = tt
    moved_sound control.Stuck y = tt

    called_sound : (a : ℕ) (vs : List Value) (h : Option Host) → OutcomeSound (called s a (thread fr vs w) h)
    called_sound a vs None = moved_sound (call_on s.funcs a (thread fr vs w)) (call_on_sound s.funcs a fr vs w x)
    called_sound a vs (Some hosts.Putchar) = x
    called_sound a vs (Some hosts.Getchar) = x
    called_sound a vs (Some hosts.Abort) = tt

    call_sound : (address : Option ℕ) (vs : List Value) → OutcomeSound (call s (thread fr vs w) address)
    call_sound None vs = tt
    call_sound (Some a) vs = called_sound a vs (host_in (slice_get s.funcs a))

    target_sound : (r : Result FuncRef CallTrap) (vs : List Value) → OutcomeSound (call_target s (thread fr vs w) r)
    target_sound (Ok f) vs = called_sound f.address vs (host_in (slice_get s.funcs f.address))
    target_sound (Err e) vs = tt

    through_sound : (table : Option Table) (sig : Option FuncType) (vs us : List Value) → OutcomeSound (call_through s (thread fr vs w) table sig us)
    through_sound (Some table) (Some sig) vs (values.I32 i ∷ us) = target_sound (target_of table.entries i sig) us
    through_sound table sig vs us = tt

    pushed_sound : (vs : List Value) (o : Option Value) → OutcomeSound (pushed s (thread fr vs w) o)
    pushed_sound vs None = tt
    pushed_sound vs (Some v) = sound_of (v ∷ vs) w x

    drop_sound : (vs us : List Value) → OutcomeSound (on_top us (λ v rest. goes s (thread fr vs w) rest))
    drop_sound vs [] = tt
    drop_sound vs (v ∷ us) = sound_of us w x

    select_sound : (vs us : List Value) → OutcomeSound (select s (thread fr vs w) us)
    select_sound vs (values.I32 n ∷ b ∷ a ∷ us) = sound_of (choose n a b ∷ us) w x
    select_sound vs us = tt

    set_local_sound : (vs : List Value) (y : ℕ) (v : Value) (us : List Value) → OutcomeSound (set_local s (thread fr vs w) y v us)
    set_local_sound vs y v us = by (nat_lt y (length fr.locals)) where
      by : (b : Bool) → OutcomeSound (cond b (Next s (thread (record { function = fr.function; locals = Rattle.std.proofs.Common.slice_set fr.locals y v }) us w) None) Stuck)
      by true = sound_of us w x
      by false = tt

    local_set_sound : (y : ℕ) (vs us : List Value) → OutcomeSound (on_top us (λ v rest. set_local s (thread fr vs w) y v rest))
    local_set_sound y vs [] = tt
    local_set_sound y vs (v ∷ us) = set_local_sound vs y v us

    local_tee_sound : (y : ℕ) (vs us : List Value) → OutcomeSound (on_top us (λ v rest. set_local s (thread fr vs w) y v (v ∷ rest)))
    local_tee_sound y vs [] = tt
    local_tee_sound y vs (v ∷ us) = set_local_sound vs y v (v ∷ us)

    global_at_sound : (vs : List Value) (a : ℕ) (o : Option GlobalInst) (v : Value) (us : List Value) → OutcomeSound (set_global_at s (thread fr vs w) a o v us)
    global_at_sound vs a None v us = tt
    global_at_sound vs a (Some g) v us = sound_of us w x

    global_sound : (vs : List Value) (o : Option ℕ) (v : Value) (us : List Value) → OutcomeSound (set_global s (thread fr vs w) o v us)
    global_sound vs None v us = tt
    global_sound vs (Some a) v us = global_at_sound vs a (slice_get s.globals a) v us

    global_set_sound : (o : Option ℕ) (vs us : List Value) → OutcomeSound (on_top us (λ v rest. set_global s (thread fr vs w) o v rest))
    global_set_sound o vs [] = tt
    global_set_sound o vs (v ∷ us) = global_sound vs o v us

    worked_sound : (vs : List Value) (r : operate.Outcome) → OutcomeSound (worked s (thread fr vs w) r)
    worked_sound vs (operate.Gives us) = sound_of us w x
    worked_sound vs (operate.Trap trap) = tt
    worked_sound vs operate.Stuck = tt

    in_memory_sound : (vs : List Value) (a : ℕ) (e : effects.Effect) → OutcomeSound (in_memory s (thread fr vs w) a e)
    in_memory_sound vs a (effects.Gives us m) = sound_of us w x
    in_memory_sound vs a (effects.Trap trap) = tt
    in_memory_sound vs a effects.Stuck = tt

    on_memory_sound : (vs : List Value) (i : LinearInstr) (a : ℕ) (o : Option LinearMemory) → OutcomeSound (on_memory s (thread fr vs w) i a o)
    on_memory_sound vs i a None = tt
    on_memory_sound vs i a (Some m) = in_memory_sound vs a (linear_on i m vs)

    linear_sound : (vs : List Value) (i : LinearInstr) (o : Option ℕ) → OutcomeSound (linear s (thread fr vs w) i o)
    linear_sound vs i None = tt
    linear_sound vs i (Some a) = on_memory_sound vs i a (slice_get s.memories a)

    in_segments_sound : (vs : List Value) (e : segments.Effect) → OutcomeSound (in_segments s (thread fr vs w) e)
    in_segments_sound vs (segments.Gives us m event) = sound_of us w x
    in_segments_sound vs (segments.Trap trap) = tt
    in_segments_sound vs segments.Stuck = tt

    act_sound : (i : Instr) (vs : List Value) (ts t below : List ValType) → types_of vs ≡ ts ++ below → InstrTypedAt (outline_of s) fr.function (labels_of w) i ts t → WorkTyped (outline_of s) fr.function w t below → OutcomeSound (act s i (thread fr vs w))
    act_sound Unreachable vs ts t below operands h work = tt
    act_sound Nop vs ts t below operands h work = sound_of vs w x
    act_sound (Block ty body) vs ts t below operands h work = moved_sound (block_on s.funcs body ty None (thread fr vs w)) (block_sound s.funcs body ty None fr vs w x)
    act_sound (Loop ty body) vs ts t below operands h work = moved_sound (loop_on s.funcs ty body (thread fr vs w)) (block_sound s.funcs body None (Some (Loop ty body)) fr vs w x)
    act_sound (If ty arm other) vs ts t below operands h work =
        moved_sound (if_on s.funcs arm other ty (thread fr vs w)) (number_any vs (λ us. block_on s.funcs arm ty None (thread fr us w)) (λ us. else_on s.funcs other ty (thread fr us w)) (λ us. block_sound s.funcs arm ty None fr us w x) (λ us. else_sound s.funcs other ty fr us w x))
    act_sound (Br l) vs ts t below operands (k1, r, at, before) work =
        moved_sound (branch l fr vs w) (branch_sound l fr vs w k1 (r ++ below) x at (operands ∙ (ap (λ l. l ++ below) before ∙ append_assoc (types k1) r below)))
    act_sound (BrIf l) vs ts t below operands (k1, r, at, before, left) work =
        let n = i32_top vs ((types k1 ++ r) ++ below) (operands ∙ ap (λ l. l ++ below) before) in
        moved_sound (br_if_on l (thread fr vs w))
        (subst (λ us. MovedSound (on_number us (λ us. branch l fr us w) (λ us. To (thread fr us w)))) (sym n.2)
        (number_at n.0 n.1 (λ us. branch l fr us w) (λ us. To (thread fr us w)) (branch_sound l fr n.1 w k1 (r ++ below) x at (n.3 ∙ append_assoc (types k1) r below)) (sound_of n.1 w x)))
    act_sound (BrTable table) vs ts t below operands (k1, r, at, all, before) work =
        let n = i32_top vs ((types k1 ++ r) ++ below) (operands ∙ ap (λ l. l ++ below) before) in
        moved_sound (br_table_on table.labels table.default (thread fr vs w))
        (subst (λ us. MovedSound (br_table_on table.labels table.default (thread fr us w))) (sym n.2)
        (branch_sound (unwrap_or (slice_get table.labels n.0) table.default) fr n.1 w k1 (r ++ below) x (table_takes (labels_of w) k1 table.labels table.default n.0 all at) (n.3 ∙ append_assoc (types k1) r below)))
    act_sound Return vs ts t below operands (k1, r, at, before) work =
        moved_sound (return_on vs w) (return_sound (outline_of s) fr vs w k1 t below (r ++ below) work x at (operands ∙ (ap (λ l. l ++ below) before ∙ append_assoc (types k1) r below)))
    act_sound (Call y) vs ts t below operands h work = call_sound (func_address (instance_of s fr) y) vs
    act_sound (CallIndirect y) vs ts t below operands h work = through_sound (at s.tables (table_address (instance_of s fr))) (type_at (instance_of s fr) y) vs vs
    act_sound Drop vs ts t below operands h work = drop_sound vs vs
    act_sound Select vs ts t below operands h work = select_sound vs vs
    act_sound (LocalGet y) vs ts t below operands h work = pushed_sound vs (slice_get fr.locals y)
    act_sound (LocalSet y) vs ts t below operands h work = local_set_sound y vs vs
    act_sound (LocalTee y) vs ts t below operands h work = local_tee_sound y vs vs
    act_sound (GlobalGet y) vs ts t below operands h work = pushed_sound vs (value_in (at s.globals (global_address (instance_of s fr) y)))
    act_sound (GlobalSet y) vs ts t below operands h work = global_set_sound (global_address (instance_of s fr) y) vs vs
    act_sound (I32Const n) vs ts t below operands h work = sound_of (values.I32 (wrapped 32 n) ∷ vs) w x
    act_sound (I64Const n) vs ts t below operands h work = sound_of (values.I64 (wrapped 64 n) ∷ vs) w x
    act_sound (Numeric i) vs ts t below operands h work = worked_sound vs (numeric_on i vs)
    act_sound (Linear i) vs ts t below operands h work = linear_sound vs i (memory_address (instance_of s fr))
    act_sound (Segment i) vs ts t below operands h work = in_segments_sound vs (segment_on i s.segments vs)

  -- ---- a step, with the host

  abbrev pub MoveSound : Move → Type 0
  MoveSound (Goes s t took put event) = ThreadSound k t
  MoveSound (moves.Trap trap) = Unit {0}
  MoveSound moves.Stuck = Unit {0}

  module _ (s : Store) (store : StoreTyped (outline_of s)) (got : Option ℕ) where
    hosted_sound : (h : Host) (t : Thread) → CallTyped (outline_of s) h t → Rooted k t.work → MoveSound (hosted s t (takes h) (host_on h got t.operands))
    hosted_sound hosts.Putchar t call x =
        let n = i32_top t.operands (call.r ++ call.below) call.operands in
        subst (λ vs. MoveSound (hosted s t false (host_on hosts.Putchar got vs))) (sym n.2)
        (exit_sound (outline_of s) t.frame (values.I32 (lowest_byte n.0) ∷ n.1) t.work (types call.k ++ call.r) call.below (ap (λ l. kinds.I32 ∷ l) n.3 ∙ ap (λ l. (l ++ call.r) ++ call.below) call.results) call.work (sound_of (values.I32 (lowest_byte n.0) ∷ n.1) t.work x))
    hosted_sound hosts.Getchar t call x =
        exit_sound (outline_of s) t.frame (values.I32 (number_of got) ∷ t.operands) t.work (types call.k ++ call.r) call.below (ap (λ l. kinds.I32 ∷ l) call.operands ∙ ap (λ l. (l ++ call.r) ++ call.below) call.results) call.work (sound_of (values.I32 (number_of got) ∷ t.operands) t.work x)
    hosted_sound hosts.Abort t call x = tt

    finish : (o : Outcome) → OutcomeTyped (outline_of s) o → OutcomeSound o → MoveSound (move_on s got (exited o))
    finish (Next s1 t event) h x = exit_sound (outline_of s) t.frame t.operands t.work h.1.ts h.1.below h.1.operands h.1.work x
    finish (Calls host t) h x = hosted_sound host t h x
    finish (Trap trap) h x = tt
    finish Stuck h x = tt

    first_sound : (fr : Frame) (vs : List Value) (w : List Item) (ts below : List ValType) → types_of vs ≡ ts ++ below → FrameTyped (outline_of s) fr → WorkTyped (outline_of s) fr.function w ts below → IsExited w → w ≢ [] → Sound k vs w → MoveSound (move_on s got (exited (first s fr vs w)))
    first_sound fr vs [] ts below operands frame work ended going x = absurd (going refl)
    first_sound fr vs (Do i ∷ w) ts below operands frame work ended going x =
        finish (act s i (thread fr vs w)) (act_typed s store i fr vs w ts work.0 below frame operands work.1 work.2) (act_sound s fr w x i vs ts work.0 below operands work.1 work.2)
    first_sound fr vs (Label k' h g ∷ w) ts below operands frame work ended going x = absurd ended
    first_sound fr vs (Activation k' h caller ∷ w) ts below operands frame work ended going x = absurd ended

    pub step_sound : (t : Thread) → TaskTyped (outline_of s) t → t.work ≢ [] → ThreadSound k t → MoveSound (move_for s t got)
    step_sound t task going x =
        let h = task.thread in
        first_sound t.frame t.operands t.work h.ts h.below h.operands h.frame h.work task.exited going x
