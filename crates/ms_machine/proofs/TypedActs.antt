-- Every instruction of a well-typed thread has a well-typed outcome.
use Rattle.std.proofs.Common.{◌≡◌, ℕ, length, List, ◌∷◌, ◌++◌, reverse, slice_get, Option, Some, None, Result, Ok, Err, unwrap_or, refl, sym, ap, ◌∙◌, subst}
use Rattle.ms_linear.specs.declared.table.CallTrap.{CallTrap}
use Rattle.ms_linear.specs.declared.table.FuncRef.{FuncRef}
use Rattle.ms_linear.specs.Table.{target_of}
use Rattle.ms_linear.specs.declared.value.Value.{Value}
use Rattle.ms_linear.specs.declared.value.Value.TheVariants as values
use Rattle.ms_module.specs.declared.instr.Instr.{Instr}
use Rattle.ms_module.specs.declared.instr.Instr.TheVariants.{Unreachable, Nop, Block, Loop, If, Br, BrIf, BrTable, Return, Call, CallIndirect, Drop, Select, LocalGet, LocalSet, LocalTee, GlobalGet, GlobalSet, I32Const, I64Const, Numeric, Linear, Segment}
use Rattle.ms_operate.specs.Numbers.{numeric_on}
use Rattle.ms_rules.specs.Instructions.{numeric_type, segment_type}
use Rattle.ms_rules.specs.Typing.{CallTyped, CallIndirectTyped, types}
use Rattle.ms_task.specs.Control.{Moved, To, TooDeep, Stuck, block_on, br_if_on, br_table_on, branch, call_on, else_on, if_on, loop_on, return_on}
use Rattle.ms_task.specs.declared.func.FuncInst.{FuncInst}
use Rattle.ms_task.specs.Thread.{Frame, Item, thread}
use Rattle.ms_types.specs.declared.types.FuncType.{FuncType}
use Rattle.ms_types.specs.declared.types.ValType.{ValType}
use Rattle.ms_types.specs.declared.types.ValType.TheVariants.{I32, I64}
use Rattle.ms_machine.specs.Segments.{segment_on}
use Rattle.ms_machine.specs.Step.{act, call, call_target, call_through, called, host_in, moved}
use Rattle.ms_machine.specs.Store.{Store, at, func_address, table_address, type_at}
use Rattle.ms_machine.specs.Typing.{FrameTyped, HostTyped, InstrTypedAt, StoreTyped, WorkTyped, context_at, host_type, labels_of, outline_of, types_of}
use Rattle.ms_machine.proofs.TypedBlocks.{block_typed, else_typed, loop_typed, number_typed, table_takes}
use Rattle.ms_host.specs.declared.host.Host.{Host}
use Rattle.ms_host.specs.declared.host.Host.TheVariants as hosts
use Rattle.ms_machine.proofs.TypedCalls.{call_typed, func_named, instance_at}
use Rattle.ms_machine.proofs.TypedNumbers.{GivesTyped, numeric_typed}
use Rattle.ms_machine.proofs.TypedPlain.{OutcomeTyped, drop_typed, global_get_typed, global_set_typed, goes_typed, in_segments_typed, linear_outcome, local_get_typed, local_set_typed, local_tee_typed, over_below, select_typed, worked_typed}
use Rattle.ms_machine.proofs.TypedSegments.{EffectTyped, segment_typed}
use Rattle.ms_machine.proofs.TypedStores.{TargetTyped, sig_named, table_named, target_typed}
use Rattle.ms_machine.proofs.TypedValues.{i32_top}
use Rattle.ms_machine.proofs.TypedWork.{MovedTyped, branch_typed, return_typed}

moved_typed : (s : Store) (m : Moved) → MovedTyped (outline_of s) m → OutcomeTyped (outline_of s) (moved s m)
moved_typed s (To t) h = (refl, h)
moved_typed s TooDeep h = tt
moved_typed s Stuck h = h

-- ---- calls

-- of a function, or of the host's
called_typed : (s : Store) → StoreTyped (outline_of s) → (fr : Frame) (vs : List Value) (w : List Item) (f : ℕ) (g : FuncInst) (k : Option ValType) (r below : List ValType) → slice_get s.funcs f ≡ Some g → g.ty.results ≡ types k → FrameTyped (outline_of s) fr → types_of vs ≡ (reverse g.ty.params ++ r) ++ below → WorkTyped (outline_of s) fr.function w (types k ++ r) below → OutcomeTyped (outline_of s) (called s f (thread fr vs w) (host_in (slice_get s.funcs f)))
called_typed s store fr vs w f g k r below found results frame operands work =
    subst (λ x. OutcomeTyped (outline_of s) (called s f (thread fr vs w) (host_in x))) (sym found) (by g.host refl)
  where
    by : (h : Option Host) → g.host ≡ h → OutcomeTyped (outline_of s) (called s f (thread fr vs w) h)
    by None is = moved_typed s (call_on s.funcs f (thread fr vs w)) (call_typed (outline_of s) store fr vs w f g k r below found results frame operands work)
    by (Some hosts.Abort) is = tt
    by (Some h) is =
        let ty : g.ty ≡ host_type h = subst (λ x. HostTyped x g.ty) is (store.funcs f g found).host in
        record {
          k = k;
          r = r;
          below = below;
          results = sym (ap (λ (y : FuncType). y.results) ty) ∙ results;
          operands = operands ∙ ap (λ (y : FuncType). (reverse y.params ++ r) ++ below) ty;
          frame = frame;
          work = work;
        }

call_outcome : (s : Store) → StoreTyped (outline_of s) → (x : ℕ) (fr : Frame) (vs : List Value) (w : List Item) (ts t below : List ValType) → FrameTyped (outline_of s) fr → types_of vs ≡ ts ++ below → CallTyped (slice_get (context_at (outline_of s) fr.function).funcs x) ts t → WorkTyped (outline_of s) fr.function w t below → OutcomeTyped (outline_of s) (call s (thread fr vs w) (func_address (instance_at (outline_of s) fr.function) x))
call_outcome s store x fr vs w ts t below frame operands (sig, there, (k, r, results, before, left)) work =
    let o = outline_of s in
    let f = func_named o fr.function x sig there in
    subst (λ a. OutcomeTyped o (call s (thread fr vs w) a)) (sym f.2)
    (called_typed s store fr vs w f.0 f.1 k r below f.3 (ap (λ (y : FuncType). y.results) f.4 ∙ results) frame
    (operands ∙ ap (λ l. l ++ below) before ∙ ap (λ (y : FuncType). (reverse y.params ++ r) ++ below) (sym f.4))
    (subst (λ l. WorkTyped o fr.function w l below) left work))

target_outcome : (s : Store) → StoreTyped (outline_of s) → (sig : FuncType) (f : Result FuncRef CallTrap) → TargetTyped (outline_of s) sig f → (fr : Frame) (vs : List Value) (w : List Item) (k : Option ValType) (r below : List ValType) → sig.results ≡ types k → FrameTyped (outline_of s) fr → types_of vs ≡ (reverse sig.params ++ r) ++ below → WorkTyped (outline_of s) fr.function w (types k ++ r) below → OutcomeTyped (outline_of s) (call_target s (thread fr vs w) f)
target_outcome s store sig (Ok f) (g, there, is) fr vs w k r below results frame operands work =
    called_typed s store fr vs w f.address g k r below there (ap (λ (y : FuncType). y.results) is ∙ results) frame
    (operands ∙ ap (λ (y : FuncType). (reverse y.params ++ r) ++ below) (sym is)) work
target_outcome s store sig (Err trap) typed fr vs w k r below results frame operands work = tt

call_through_outcome : (s : Store) → StoreTyped (outline_of s) → (x : ℕ) (fr : Frame) (vs : List Value) (w : List Item) (ts t below : List ValType) → FrameTyped (outline_of s) fr → types_of vs ≡ ts ++ below → CallIndirectTyped (length (context_at (outline_of s) fr.function).tables) (slice_get (context_at (outline_of s) fr.function).sigs x) ts t → WorkTyped (outline_of s) fr.function w t below → OutcomeTyped (outline_of s) (call_through s (thread fr vs w) (at s.tables (table_address (instance_at (outline_of s) fr.function))) (type_at (instance_at (outline_of s) fr.function) x) vs)
call_through_outcome s store x fr vs w ts t below frame operands (sig, rest, some, there, top, (k, r, results, before, left)) work =
    let o = outline_of s in
    let table = table_named o store fr.function some in
    let at_table : at s.tables (table_address (instance_at o fr.function)) ≡ Some table.1 = ap (at s.tables) table.2 ∙ table.3 in
    let n = i32_top vs (rest ++ below) (operands ∙ ap (λ l. l ++ below) top) in
    subst (λ y. OutcomeTyped o (call_through s (thread fr vs w) y (type_at (instance_at o fr.function) x) vs)) (sym at_table)
    (subst (λ y. OutcomeTyped o (call_through s (thread fr vs w) (Some table.1) y vs)) (sym (sig_named o fr.function x sig there))
    (subst (λ l. OutcomeTyped o (call_through s (thread fr vs w) (Some table.1) (Some sig) l)) (sym n.2)
    (target_outcome s store sig (target_of table.1.entries n.0 sig) (target_typed o store table.0 table.1 table.3 n.0 sig) fr n.1 w k r below results frame
    (n.3 ∙ ap (λ l. l ++ below) before)
    (subst (λ l. WorkTyped o fr.function w l below) left work))))

-- ---- every instruction

pub act_typed : (s : Store) → StoreTyped (outline_of s) → (i : Instr) (fr : Frame) (vs : List Value) (w : List Item) (ts t below : List ValType) → FrameTyped (outline_of s) fr → types_of vs ≡ ts ++ below → InstrTypedAt (outline_of s) fr.function (labels_of w) i ts t → WorkTyped (outline_of s) fr.function w t below → OutcomeTyped (outline_of s) (act s i (thread fr vs w))
act_typed s store Unreachable fr vs w ts t below frame operands h work = tt
act_typed s store Nop fr vs w ts t below frame operands h work = goes_typed s fr vs vs w t below (operands ∙ ap (λ l. l ++ below) (sym h)) frame work
act_typed s store (Block k body) fr vs w ts t below frame operands (at, left) work =
    moved_typed s (block_on s.funcs body k None (thread fr vs w)) (block_typed (outline_of s) fr vs w body k ts below frame operands at (subst (λ x. WorkTyped (outline_of s) fr.function w x below) left work))
act_typed s store (Loop k body) fr vs w ts t below frame operands (at, left) work =
    moved_typed s (loop_on s.funcs k body (thread fr vs w)) (loop_typed (outline_of s) fr vs w body k ts below frame operands at (subst (λ x. WorkTyped (outline_of s) fr.function w x below) left work))
act_typed s store (If k arm other) fr vs w ts t below frame operands (r, before, at, else, left) work =
    let o = outline_of s in
    let n = i32_top vs (r ++ below) (operands ∙ ap (λ l. l ++ below) before) in
    let on = subst (λ x. WorkTyped o fr.function w x below) left work in
    moved_typed s (if_on s.funcs arm other k (thread fr vs w))
    (number_typed o vs n.0 n.1 (λ v. block_on s.funcs arm k None (thread fr v w)) (λ v. else_on s.funcs other k (thread fr v w)) n.2
    (block_typed o fr n.1 w arm k r below frame n.3 at on)
    (else_typed o fr n.1 w other k r below frame n.3 else on))
act_typed s store (Br l) fr vs w ts t below frame operands (k, r, at, before) work =
    moved_typed s (branch l fr vs w) (branch_typed (outline_of s) l fr vs w k t r below frame work at (operands ∙ ap (λ x. x ++ below) before))
act_typed s store (BrIf l) fr vs w ts t below frame operands (k, r, at, before, left) work =
    let o = outline_of s in
    let n = i32_top vs ((types k ++ r) ++ below) (operands ∙ ap (λ x. x ++ below) before) in
    moved_typed s (br_if_on l (thread fr vs w))
    (number_typed o vs n.0 n.1 (λ v. branch l fr v w) (λ v. To (thread fr v w)) n.2
    (branch_typed o l fr n.1 w k t r below frame work at n.3)
    (record { ts = t; below = below; operands = n.3 ∙ ap (λ x. x ++ below) (sym left); frame = frame; work = work }))
act_typed s store (BrTable table) fr vs w ts t below frame operands (k, r, at, all, before) work =
    let o = outline_of s in
    let n = i32_top vs ((types k ++ r) ++ below) (operands ∙ ap (λ x. x ++ below) before) in
    moved_typed s (br_table_on table.labels table.default (thread fr vs w))
    (subst (λ v. MovedTyped o (br_table_on table.labels table.default (thread fr v w))) (sym n.2)
    (branch_typed o (unwrap_or (slice_get table.labels n.0) table.default) fr n.1 w k t r below frame work (table_takes (labels_of w) k table.labels table.default n.0 all at) n.3))
act_typed s store Return fr vs w ts t below frame operands (k, r, at, before) work =
    moved_typed s (return_on vs w) (return_typed (outline_of s) fr vs w k t r below frame work at (operands ∙ ap (λ x. x ++ below) before))
act_typed s store (Call x) fr vs w ts t below frame operands h work = call_outcome s store x fr vs w ts t below frame operands h work
act_typed s store (CallIndirect x) fr vs w ts t below frame operands h work = call_through_outcome s store x fr vs w ts t below frame operands h work
act_typed s store Drop fr vs w ts t below frame operands (k, before) work = drop_typed s fr vs w k ts t below frame operands before work
act_typed s store Select fr vs w ts t below frame operands h work = select_typed s fr vs w ts t below frame operands h work
act_typed s store (LocalGet x) fr vs w ts t below frame operands h work = local_get_typed s x fr vs w ts t below frame operands h work
act_typed s store (LocalSet x) fr vs w ts t below frame operands h work = local_set_typed s x fr vs w ts t below frame operands h work
act_typed s store (LocalTee x) fr vs w ts t below frame operands h work = local_tee_typed s x fr vs w ts t below frame operands h work
act_typed s store (GlobalGet x) fr vs w ts t below frame operands h work = global_get_typed s store x fr vs w ts t below frame operands h work
act_typed s store (GlobalSet x) fr vs w ts t below frame operands h work = global_set_typed s store x fr vs w ts t below frame operands h work
act_typed s store (I32Const n) fr vs w ts t below frame operands h work =
    goes_typed s fr vs (values.I32 _ ∷ vs) w t below (ap (λ l. I32 ∷ l) operands ∙ ap (λ l. l ++ below) (sym h)) frame work
act_typed s store (I64Const n) fr vs w ts t below frame operands h work =
    goes_typed s fr vs (values.I64 _ ∷ vs) w t below (ap (λ l. I64 ∷ l) operands ∙ ap (λ l. l ++ below) (sym h)) frame work
act_typed s store (Numeric i) fr vs w ts t below frame operands (r, before, left) work =
    let e = over_below (reverse (numeric_type i).params) (types (numeric_type i).result) r ts t below vs operands before left in
    worked_typed s fr vs w t below (numeric_on i vs) (subst (λ l. GivesTyped l (numeric_on i vs)) e.1 (numeric_typed i vs (r ++ below) e.0)) frame work
act_typed s store (Linear i) fr vs w ts t below frame operands h work = linear_outcome s store i fr vs w ts t below frame operands h work
act_typed s store (Segment i) fr vs w ts t below frame operands (r, before, left) work =
    let e = over_below (reverse (segment_type i).params) (types (segment_type i).result) r ts t below vs operands before left in
    in_segments_typed s fr vs w t below (segment_on i s.segments vs) (subst (λ l. EffectTyped l (segment_on i s.segments vs)) e.1 (segment_typed i s.segments vs (r ++ below) e.0)) frame work
