-- Instructions that move no control: their outcomes are typed.
use Rattle.std.proofs.Common.{◌≡◌, ℕ, zero, suc, List, ◌∷◌, ◌++◌, length, reverse, slice_get, slice_set, Option, Some, None, cond, refl, sym, ap, ap₂, ◌∙◌, subst, append_assoc}
use Rattle.std.proofs.lemmas.Bool.{lt-ltb}
use Rattle.std.proofs.lemmas.Option.{slice_get_within}
use Rattle.ms_host.specs.declared.host.Host.{Host}
use Rattle.ms_linear.specs.declared.global.GlobalInst.{GlobalInst}
use Rattle.ms_linear.specs.Values.{global_type_of, type_of}
use Rattle.ms_linear.specs.declared.value.Value.{Value}
use Rattle.ms_linear.specs.declared.value.Value.TheVariants as values
use Rattle.ms_module.specs.declared.access.Linear.{Linear as LinearInstr}
use Rattle.ms_operate.specs.Memories.{linear_on}
use Rattle.ms_operate.specs.Effects as effects
use Rattle.ms_operate.specs.Outcomes as operate
use Rattle.ms_rules.specs.Instructions.{linear_type}
use Rattle.ms_rules.specs.Typing.{LinearTyped, LocalGetTyped, GlobalGetTyped, SelectTyped, LocalSetTyped, GlobalSetTyped, LocalTeeTyped, types}
use Rattle.ms_task.specs.Thread.{Frame, Item, Thread, thread}
use Rattle.ms_types.specs.declared.types.GlobalType.{GlobalType}
use Rattle.ms_types.specs.declared.types.ValType.{ValType}
use Rattle.ms_machine.specs.Segments as segments
use Rattle.ms_machine.specs.Step.{Calls, Outcome, Next, Stuck, Trap, choose, goes, in_memory, in_segments, linear, on_memory, on_top, pushed, select, set_global, set_local, value_in, worked}
use Rattle.ms_machine.specs.Store.{Store, at, global_address, memory_address}
use Rattle.ms_machine.specs.Typing.{FrameTyped, Outline, StoreTyped, ThreadTyped, WorkTyped, context_at, host_type, outline_of, types_of}
use Rattle.ms_machine.proofs.TypedCalls.{instance_at}
use Rattle.ms_machine.proofs.TypedNumbers.{GivesTyped, EffectTyped, linear_typed}
use Rattle.ms_machine.proofs.TypedSegments.{EffectTyped as SegmentTyped}
use Rattle.ms_machine.proofs.TypedStores.{global_named, memory_named, same_globals, same_memories}
use Rattle.ms_machine.proofs.TypedValues.{get_mapped, get_within, i32_top, set_mapped, value_top}

-- behind a call of the host, whose arguments are still there
pub record CallTyped (o : Outline) (h : Host) (t : Thread) : Type 0 where
  pub k : Option ValType
  pub r : List ValType
  pub below : List ValType
  pub results : (host_type h).results ≡ types k
  pub operands : types_of t.operands ≡ (reverse (host_type h).params ++ r) ++ below
  pub frame : FrameTyped o t.frame
  pub work : WorkTyped o t.frame.function t.work (types k ++ r) below

-- it is not stuck, the outline stays, and the thread is typed
abbrev pub OutcomeTyped : Outline → Outcome → Type 0
OutcomeTyped o (Next s t event) = (outline_of s ≡ o) × ThreadTyped o t
OutcomeTyped o (Calls h t) = CallTyped o h t
OutcomeTyped o (Trap trap) = Unit {0}
OutcomeTyped o Stuck = ⊥

pub goes_typed : (s : Store) (fr : Frame) (vs0 vs : List Value) (w : List Item) (t below : List ValType) → types_of vs ≡ t ++ below → FrameTyped (outline_of s) fr → WorkTyped (outline_of s) fr.function w t below → OutcomeTyped (outline_of s) (goes s (thread fr vs0 w) vs)
goes_typed s fr vs0 vs w t below operands frame work = (refl, record { ts = t; below = below; operands = operands; frame = frame; work = work })

pub worked_typed : (s : Store) (fr : Frame) (vs : List Value) (w : List Item) (t below : List ValType) (r : operate.Outcome) → GivesTyped (t ++ below) r → FrameTyped (outline_of s) fr → WorkTyped (outline_of s) fr.function w t below → OutcomeTyped (outline_of s) (worked s (thread fr vs w) r)
worked_typed s fr vs w t below (operate.Gives vs') h frame work = goes_typed s fr vs vs' w t below h frame work
worked_typed s fr vs w t below (operate.Trap trap) h frame work = tt
worked_typed s fr vs w t below operate.Stuck h frame work = h

pub in_segments_typed : (s : Store) (fr : Frame) (vs : List Value) (w : List Item) (t below : List ValType) (e : segments.Effect) → SegmentTyped (t ++ below) e → FrameTyped (outline_of s) fr → WorkTyped (outline_of s) fr.function w t below → OutcomeTyped (outline_of s) (in_segments s (thread fr vs w) e)
in_segments_typed s fr vs w t below (segments.Gives vs' m event) h frame work = (refl, record { ts = t; below = below; operands = h; frame = frame; work = work })
in_segments_typed s fr vs w t below (segments.Trap trap) h frame work = tt
in_segments_typed s fr vs w t below segments.Stuck h frame work = h

-- ---- the linear memory

in_memory_typed : (s : Store) (fr : Frame) (vs : List Value) (w : List Item) (t below : List ValType) (a : ℕ) (e : effects.Effect) → EffectTyped (t ++ below) e → FrameTyped (outline_of s) fr → WorkTyped (outline_of s) fr.function w t below → OutcomeTyped (outline_of s) (in_memory s (thread fr vs w) a e)
in_memory_typed s fr vs w t below a (effects.Gives vs' m) h frame work = (same_memories s a m, record { ts = t; below = below; operands = h; frame = frame; work = work })
in_memory_typed s fr vs w t below a (effects.Trap trap) h frame work = tt
in_memory_typed s fr vs w t below a effects.Stuck h frame work = h

-- the types before and after an instruction that takes and gives some, over those of what lies below
pub over_below : (takes gives r ts t below : List ValType) (vs : List Value) → types_of vs ≡ ts ++ below → ts ≡ takes ++ r → t ≡ gives ++ r → (types_of vs ≡ takes ++ (r ++ below)) × (gives ++ (r ++ below) ≡ t ++ below)
over_below takes gives r ts t below vs operands before left =
    (operands ∙ ap (λ l. l ++ below) before ∙ append_assoc takes r below, sym (append_assoc gives r below) ∙ ap (λ l. l ++ below) (sym left))

pub linear_outcome : (s : Store) → StoreTyped (outline_of s) → (i : LinearInstr) (fr : Frame) (vs : List Value) (w : List Item) (ts t below : List ValType) → FrameTyped (outline_of s) fr → types_of vs ≡ ts ++ below → LinearTyped (length (context_at (outline_of s) fr.function).memories) i ts t → WorkTyped (outline_of s) fr.function w t below → OutcomeTyped (outline_of s) (linear s (thread fr vs w) i (memory_address (instance_at (outline_of s) fr.function)))
linear_outcome s store i fr vs w ts t below frame operands (some, aligned, (r, before, left)) work =
    let o = outline_of s in
    let a = memory_named o store fr.function some in
    let m = get_within s.memories a.0 a.2 in
    let e = over_below (reverse (linear_type i).params) (types (linear_type i).result) r ts t below vs operands before left in
    subst (λ x. OutcomeTyped o (linear s (thread fr vs w) i x)) (sym a.1)
    (subst (λ x. OutcomeTyped o (on_memory s (thread fr vs w) i a.0 x)) (sym m.1)
    (in_memory_typed s fr vs w t below a.0 (linear_on i m.0 vs) (subst (λ l. EffectTyped l (linear_on i m.0 vs)) e.1 (linear_typed i m.0 vs (r ++ below) e.0)) frame work))

-- ---- parametric instructions

pub select_typed : (s : Store) (fr : Frame) (vs : List Value) (w : List Item) (ts t below : List ValType) → FrameTyped (outline_of s) fr → types_of vs ≡ ts ++ below → SelectTyped ts t → WorkTyped (outline_of s) fr.function w t below → OutcomeTyped (outline_of s) (select s (thread fr vs w) vs)
select_typed s fr vs w ts t below frame operands (k, r, before, left) work =
    let o = outline_of s in
    let n = i32_top vs (k ∷ k ∷ r ++ below) (operands ∙ ap (λ l. l ++ below) before) in
    let b = value_top n.1 k (k ∷ r ++ below) n.3 in
    let a = value_top b.1 k (r ++ below) b.4 in
    let chosen : type_of (choose n.0 a.0 b.0) ≡ k = either n.0 a.0 b.0 k a.3 b.3 in
    subst (λ l. OutcomeTyped o (select s (thread fr vs w) l)) (sym (n.2 ∙ ap (λ l. values.I32 n.0 ∷ l) (b.2 ∙ ap (λ l. b.0 ∷ l) a.2)))
    (goes_typed s fr vs (choose n.0 a.0 b.0 ∷ a.1) w t below (ap₂ (λ x l. x ∷ l) chosen a.4 ∙ ap (λ l. l ++ below) (sym left)) frame work)
  where
    either : (n : ℕ) (a b : Value) (k : ValType) → type_of a ≡ k → type_of b ≡ k → type_of (choose n a b) ≡ k
    either zero a b k x y = y
    either (suc n) a b k x y = x

pub drop_typed : (s : Store) (fr : Frame) (vs : List Value) (w : List Item) (k : ValType) (ts t below : List ValType) → FrameTyped (outline_of s) fr → types_of vs ≡ ts ++ below → ts ≡ k ∷ t → WorkTyped (outline_of s) fr.function w t below → OutcomeTyped (outline_of s) (on_top vs (λ v rest. goes s (thread fr vs w) rest))
drop_typed s fr vs w k ts t below frame operands before work =
    let v = value_top vs k (t ++ below) (operands ∙ ap (λ l. l ++ below) before) in
    subst (λ l. OutcomeTyped (outline_of s) (on_top l (λ v rest. goes s (thread fr vs w) rest))) (sym v.2)
    (goes_typed s fr vs v.1 w t below v.4 frame work)

-- ---- locals

pub pushed_typed : (s : Store) (fr : Frame) (vs : List Value) (w : List Item) (x : Option Value) (v : Value) (k : ValType) (ts t below : List ValType) → x ≡ Some v → type_of v ≡ k → FrameTyped (outline_of s) fr → types_of vs ≡ ts ++ below → t ≡ k ∷ ts → WorkTyped (outline_of s) fr.function w t below → OutcomeTyped (outline_of s) (pushed s (thread fr vs w) x)
pushed_typed s fr vs w x v k ts t below is typed frame operands left work =
    subst (λ y. OutcomeTyped (outline_of s) (pushed s (thread fr vs w) y)) (sym is)
    (goes_typed s fr vs (v ∷ vs) w t below (ap₂ (λ y l. y ∷ l) typed operands ∙ ap (λ l. l ++ below) (sym left)) frame work)

pub local_get_typed : (s : Store) (x : ℕ) (fr : Frame) (vs : List Value) (w : List Item) (ts t below : List ValType) → FrameTyped (outline_of s) fr → types_of vs ≡ ts ++ below → LocalGetTyped (slice_get (context_at (outline_of s) fr.function).locals x) ts t → WorkTyped (outline_of s) fr.function w t below → OutcomeTyped (outline_of s) (pushed s (thread fr vs w) (slice_get fr.locals x))
local_get_typed s x fr vs w ts t below frame operands (k, there, left) work =
    let v = get_mapped type_of fr.locals x k (ap (λ l. slice_get l x) frame ∙ there) in
    pushed_typed s fr vs w (slice_get fr.locals x) v.0 k ts t below v.1 v.2 frame operands left work

set_local_typed : (s : Store) (x : ℕ) (v : Value) (fr : Frame) (vs0 vs : List Value) (w : List Item) (t below : List ValType) → slice_get (context_at (outline_of s) fr.function).locals x ≡ Some (type_of v) → FrameTyped (outline_of s) fr → types_of vs ≡ t ++ below → WorkTyped (outline_of s) fr.function w t below → OutcomeTyped (outline_of s) (set_local s (thread fr vs0 w) x v vs)
set_local_typed s x v fr vs0 vs w t below there frame operands work =
    let at : slice_get (types_of fr.locals) x ≡ Some (type_of v) = ap (λ l. slice_get l x) frame ∙ there in
    let old = get_mapped type_of fr.locals x (type_of v) at in
    subst (λ b. OutcomeTyped (outline_of s) (cond b (Next s (thread (record { function = fr.function; locals = slice_set fr.locals x v }) vs w) None) Stuck)) (sym (lt-ltb _ _ (slice_get_within fr.locals x old.0 old.1)))
    (refl, record { ts = t; below = below; operands = operands; frame = set_mapped type_of fr.locals x v at ∙ frame; work = work })

pub local_set_typed : (s : Store) (x : ℕ) (fr : Frame) (vs : List Value) (w : List Item) (ts t below : List ValType) → FrameTyped (outline_of s) fr → types_of vs ≡ ts ++ below → LocalSetTyped (slice_get (context_at (outline_of s) fr.function).locals x) ts t → WorkTyped (outline_of s) fr.function w t below → OutcomeTyped (outline_of s) (on_top vs (λ v rest. set_local s (thread fr vs w) x v rest))
local_set_typed s x fr vs w ts t below frame operands (k, there, before) work =
    let v = value_top vs k (t ++ below) (operands ∙ ap (λ l. l ++ below) before) in
    subst (λ l. OutcomeTyped (outline_of s) (on_top l (λ v rest. set_local s (thread fr vs w) x v rest))) (sym v.2)
    (set_local_typed s x v.0 fr vs v.1 w t below (there ∙ ap Some (sym v.3)) frame v.4 work)

pub local_tee_typed : (s : Store) (x : ℕ) (fr : Frame) (vs : List Value) (w : List Item) (ts t below : List ValType) → FrameTyped (outline_of s) fr → types_of vs ≡ ts ++ below → LocalTeeTyped (slice_get (context_at (outline_of s) fr.function).locals x) ts t → WorkTyped (outline_of s) fr.function w t below → OutcomeTyped (outline_of s) (on_top vs (λ v rest. set_local s (thread fr vs w) x v (v ∷ rest)))
local_tee_typed s x fr vs w ts t below frame operands (k, r, there, before, left) work =
    let v = value_top vs k (r ++ below) (operands ∙ ap (λ l. l ++ below) before) in
    subst (λ l. OutcomeTyped (outline_of s) (on_top l (λ v rest. set_local s (thread fr vs w) x v (v ∷ rest)))) (sym v.2)
    (set_local_typed s x v.0 fr vs (v.0 ∷ v.1) w t below (there ∙ ap Some (sym v.3)) frame (ap₂ (λ y l. y ∷ l) v.3 v.4 ∙ ap (λ l. l ++ below) (sym left)) work)

-- ---- globals

pub global_get_typed : (s : Store) → StoreTyped (outline_of s) → (x : ℕ) (fr : Frame) (vs : List Value) (w : List Item) (ts t below : List ValType) → FrameTyped (outline_of s) fr → types_of vs ≡ ts ++ below → GlobalGetTyped (slice_get (context_at (outline_of s) fr.function).globals x) ts t → WorkTyped (outline_of s) fr.function w t below → OutcomeTyped (outline_of s) (pushed s (thread fr vs w) (value_in (at s.globals (global_address (instance_at (outline_of s) fr.function) x))))
global_get_typed s store x fr vs w ts t below frame operands (g, there, left) work =
    let a = global_named (outline_of s) store fr.function x g there in
    let inst = get_mapped global_type_of s.globals a.0 g a.2 in
    pushed_typed s fr vs w (value_in (at s.globals (global_address (instance_at (outline_of s) fr.function) x))) inst.0.value g.ty ts t below
    (ap (λ y. value_in (at s.globals y)) a.1 ∙ ap value_in inst.1) (ap (λ (y : GlobalType). y.ty) inst.2) frame operands left work

set_global_typed : (s : Store) (a : ℕ) (g : GlobalInst) (v : Value) (fr : Frame) (vs0 vs : List Value) (w : List Item) (t below : List ValType) → slice_get s.globals a ≡ Some g → type_of v ≡ type_of g.value → FrameTyped (outline_of s) fr → types_of vs ≡ t ++ below → WorkTyped (outline_of s) fr.function w t below → OutcomeTyped (outline_of s) (set_global s (thread fr vs0 w) (Some a) v vs)
set_global_typed s a g v fr vs0 vs w t below there same frame operands work =
    rw there (same_globals s a g v there same, record { ts = t; below = below; operands = operands; frame = frame; work = work })

pub global_set_typed : (s : Store) → StoreTyped (outline_of s) → (x : ℕ) (fr : Frame) (vs : List Value) (w : List Item) (ts t below : List ValType) → FrameTyped (outline_of s) fr → types_of vs ≡ ts ++ below → GlobalSetTyped (slice_get (context_at (outline_of s) fr.function).globals x) ts t → WorkTyped (outline_of s) fr.function w t below → OutcomeTyped (outline_of s) (on_top vs (λ v rest. set_global s (thread fr vs w) (global_address (instance_at (outline_of s) fr.function) x) v rest))
global_set_typed s store x fr vs w ts t below frame operands (g, there, mutable, before) work =
    let o = outline_of s in
    let v = value_top vs g.ty (t ++ below) (operands ∙ ap (λ l. l ++ below) before) in
    let a = global_named o store fr.function x g there in
    let inst = get_mapped global_type_of s.globals a.0 g a.2 in
    subst (λ l. OutcomeTyped o (on_top l (λ v rest. set_global s (thread fr vs w) (global_address (instance_at o fr.function) x) v rest))) (sym v.2)
    (subst (λ y. OutcomeTyped o (set_global s (thread fr vs w) y v.0 v.1)) (sym a.1)
    (set_global_typed s a.0 inst.0 v.0 fr vs v.1 w t below inst.1 (v.3 ∙ sym (ap (λ (y : GlobalType). y.ty) inst.2)) frame v.4 work))
