-- Instructions on numbers, on the linear memory, on locals and globals, on two stores that agree on what instances reach.
use Rattle.std.proofs.Common.{◌≡◌, ◌≤◌, ℕ, zero, suc, List, [], ◌∷◌, length, nat_le, nat_lt, slice_get, slice_set, Option, Some, None, inl, inr, Bool, true, false, ◌+◌, ◌-◌, ◌^◌, cond, Result, Ok, Err, refl, sym, subst, ◌∙◌, arith}
use Rattle.std.proofs.lemmas.Option.{slice_get_within}
use Rattle.ms_event.specs.declared.event.Event.{Event}
use Rattle.ms_handle.specs.declared.handle.Handle.{Handle as H}
use Rattle.ms_num.specs.declared.arith.Arith.{Arith}
use Rattle.ms_linear.specs.declared.global.GlobalInst.{GlobalInst}
use Rattle.ms_linear.specs.declared.value.Value.{Value}
use Rattle.ms_linear.specs.declared.value.Value.TheVariants.{I32, I64}
use Rattle.ms_linear.specs.Memory.{Memory as LinearMemory, grown as larger, loaded, pages, stored}
use Rattle.ms_module.specs.Accesses.{bits, load_bytes, store_bytes}
use Rattle.ms_module.specs.declared.access.Linear.{Linear}
use Rattle.ms_module.specs.declared.access.Linear.TheVariants.{Load, Store, Size, Grow}
use Rattle.ms_module.specs.declared.access.LoadOp.{LoadOp}
use Rattle.ms_module.specs.declared.access.MemArg.{MemArg}
use Rattle.ms_module.specs.declared.access.StoreOp.{StoreOp}
use Rattle.ms_module.specs.declared.numeric.Numeric.{Numeric}
use Rattle.ms_module.specs.declared.numeric.Numeric.TheVariants.{Eqz, Compare, Unary, Binary, Wrap, ExtendS, ExtendU}
use Rattle.ms_module.specs.declared.numeric.Width.{Width}
use Rattle.ms_module.specs.declared.numeric.Width.TheVariants.{W32, W64}
use Rattle.ms_operate.specs.Accesses.{integer, number_of, value_of, width_of}
use Rattle.ms_operate.specs.Integers.{binary}
use Rattle.ms_operate.specs.Memories.{grow_by, linear_on, load_at, may_grow, store_at}
use Rattle.ms_operate.specs.Numbers.{given, numeric_on, on_one, on_two}
use Rattle.ms_operate.specs.Effects as effects
use Rattle.ms_operate.specs.Outcomes as operate
use Rattle.ms_operate.specs.declared.trap.Trap.TheVariants as operate-traps
use Rattle.ms_tagged.specs.Bytes.{Piece}
use Rattle.ms_task.specs.Thread.{Frame, Item, depth_of, thread}
use Rattle.ms_machine.specs.refinement.Holding.{Each}
use Rattle.ms_machine.specs.Step.{Calls, Next, Outcome, Stuck, Trap, choose, goes, in_memory, linear, on_memory, on_top, pushed, select, set_global, set_global_at, set_local, value_in, worked}
use Rattle.ms_machine.specs.Store as stores
use Rattle.ms_machine.specs.Store.{at, with_globals, with_memories}
use Rattle.ms_machine.proofs.HeldPlain.{value_holds}
use Rattle.ms_machine.proofs.HeldValues.{each_set}
use Rattle.ms_reach.specs.Confined.{Agree, Contents, Stays, grown, with_contents}
use Rattle.ms_reach.specs.Reach.{IsOwnGlobal, IsOwnMemory}
use Rattle.ms_reach.proofs.Inside.{Above, ThreadIn, WorkIn, in_holds}
use Rattle.ms_reach.proofs.Lists.{differ_same, differ_set, set_get, still_agree}
use Rattle.ms_reach.proofs.Spots.{HandleIn, ValueIn}

-- handles in the globals of the instances inside, and in the pieces of a set of bytes, lead into the set
pub record StoreIn (inside : ℕ → Bool) (R : ℕ → Type 0) (s : stores.Store) : Type 0 where
  pub globals : (a : ℕ) (g : GlobalInst) → IsOwnGlobal inside s a → slice_get s.globals a ≡ Some g → ValueIn R s.segments g.value
  pub pieces : (k : ℕ) (h : H) (i : ℕ) → R k → slice_get s.segments.bytes k ≡ Some (Piece h i) → HandleIn R s.segments h

-- ---- what numbers and the linear memory leave of the operands

module _ (P : Value → Type 0) (n : ℕ) (int32 : (x : ℕ) → P (I32 x)) (int64 : (x : ℕ) → P (I64 x)) where
  integer_in : (width : Width) (x : ℕ) → P (integer width x)
  integer_in W32 x = int32 x
  integer_in W64 x = int64 x

  abbrev GivesIn : operate.Outcome → Type 0
  GivesIn (operate.Gives vs) = Above P n vs
  GivesIn (operate.Trap trap) = Unit {0}
  GivesIn operate.Stuck = Unit {0}

  one_in : (f : ℕ → Value) (o : Option ℕ) (rest : List Value) → ((x : ℕ) → P (f x)) → Above P n rest → GivesIn (on_one f o rest)
  one_in f None rest x a = tt
  one_in f (Some y) rest x a = (λ room. x y, a)

  two_in : (f : ℕ → ℕ → operate.Outcome) (o p : Option ℕ) → ((x y : ℕ) → GivesIn (f x y)) → GivesIn (on_two f o p)
  two_in f (Some x) (Some y) g = g x y
  two_in f (Some x) None g = tt
  two_in f None p g = tt

  given_in : (width : Width) (rest : List Value) (r : Result ℕ Arith) → Above P n rest → GivesIn (given width rest r)
  given_in width rest (Ok x) a = (λ room. integer_in width x, a)
  given_in width rest (Err e) a = tt

  pub numeric_in : (i : Numeric) (vs : List Value) → Above P n vs → GivesIn (numeric_on i vs)
  numeric_in (Eqz width) (v ∷ rest) a = one_in _ (number_of width v) rest (λ x. int32 _) a.1
  numeric_in (Unary width op) (v ∷ rest) a = one_in _ (number_of width v) rest (λ x. integer_in width _) a.1
  numeric_in Wrap (v ∷ rest) a = one_in _ (number_of W64 v) rest (λ x. int32 _) a.1
  numeric_in ExtendS (v ∷ rest) a = one_in _ (number_of W32 v) rest (λ x. int64 _) a.1
  numeric_in ExtendU (v ∷ rest) a = one_in _ (number_of W32 v) rest (λ x. int64 x) a.1
  numeric_in (Compare width op) (v ∷ u ∷ rest) a = two_in _ (number_of width u) (number_of width v) (λ x y. (λ room. int32 _, a.1.1))
  numeric_in (Binary width op) (v ∷ u ∷ rest) a = two_in _ (number_of width u) (number_of width v) (λ x y. given_in width rest (binary op (bits width) x y) a.1.1)
  numeric_in i vs a = tt

  abbrev EffectIn : effects.Effect → Type 0
  EffectIn (effects.Gives vs m) = Above P n vs
  EffectIn (effects.Trap trap) = Unit {0}
  EffectIn effects.Stuck = Unit {0}

  either_effect : (b : Bool) (e f : effects.Effect) → EffectIn e → EffectIn f → EffectIn (cond b e f)
  either_effect true e f x y = x
  either_effect false e f x y = y

  load_in : (op : LoadOp) (arg : MemArg) (m : LinearMemory) (rest : List Value) (base : Option ℕ) → Above P n rest → EffectIn (load_at op arg m rest base)
  load_in op arg m rest None a = tt
  load_in op arg m rest (Some base) a =
      either_effect (nat_le (base + arg.offset + load_bytes op) (length m.bytes)) (effects.Gives (value_of op (loaded m (base + arg.offset) (load_bytes op)) ∷ rest) m) (effects.Trap operate-traps.Linear) (λ room. value_holds P int32 int64 op _, a) tt

  store_in : (op : StoreOp) (arg : MemArg) (m : LinearMemory) (rest : List Value) (base value : Option ℕ) → Above P n rest → EffectIn (store_at op arg m rest base value)
  store_in op arg m rest (Some base) (Some value) a =
      either_effect (nat_le (base + arg.offset + store_bytes op) (length m.bytes)) (effects.Gives rest (stored m (base + arg.offset) (store_bytes op) value)) (effects.Trap operate-traps.Linear) a tt
  store_in op arg m rest base value a = tt

  grow_in : (m : LinearMemory) (rest : List Value) (o : Option ℕ) → Above P n rest → EffectIn (grow_by m rest o)
  grow_in m rest None a = tt
  grow_in m rest (Some x) a = either_effect (may_grow m x) (effects.Gives (I32 (pages m) ∷ rest) (larger m x)) (effects.Gives (I32 (2 ^ 32 - 1) ∷ rest) m) (λ room. int32 _, a) (λ room. int32 _, a)

  pub linear_in : (i : Linear) (m : LinearMemory) (vs : List Value) → Above P n vs → EffectIn (linear_on i m vs)
  linear_in (Load op arg) m (v ∷ rest) a = load_in op arg m rest (number_of W32 v) a.1
  linear_in (Store op arg) m (v ∷ u ∷ rest) a = store_in op arg m rest (number_of W32 u) (number_of (width_of op) v) a.1.1
  linear_in Size m vs a = (λ room. int32 _, a)
  linear_in Grow m (v ∷ rest) a = grow_in m rest (number_of W32 v) a.1
  linear_in i m vs a = tt

-- ---- outcomes

module _ (inside : ℕ → Bool) (R : ℕ → Type 0) (n d : ℕ) (s : stores.Store) (c : Contents) where
  -- what becomes of the store, and of the one with other contents
  pub record After (s1 s2 : stores.Store) (event : Option Event) : Type 0 where
    pub contents : Contents
    pub is : s2 ≡ with_contents s1 contents
    pub funcs : s1.funcs ≡ s.funcs
    pub instances : s1.instances ≡ s.instances
    pub stays : Stays inside (grown R event) s c s1 contents
    pub agree : Agree inside (grown R event) s1 contents
    pub store : StoreIn inside (grown R event) s1

  abbrev pub OutcomesAgree : Outcome → Outcome → Type 0
  OutcomesAgree (Next s1 t1 event) (Next s2 t2 event') = (t2 ≡ t1) × (event' ≡ event) × After s1 s2 event × (d ≤ depth_of t1.work → ThreadIn inside s.funcs (ValueIn (grown R event) s1.segments) n d t1)
  OutcomesAgree (Calls h t) (Calls h' t') = (h' ≡ h) × (t' ≡ t) × ThreadIn inside s.funcs (ValueIn R s.segments) n d t
  OutcomesAgree (Trap kind) (Trap kind') = kind' ≡ kind
  OutcomesAgree Stuck Stuck = Unit {0}
  OutcomesAgree _ _ = ⊥

  module _ (agree : Agree inside R s c) (store : StoreIn inside R s) where
    P : Value → Type 0
    P = ValueIn R s.segments

    pub same_after : After s (with_contents s c) None
    same_after = record {
      contents = c;
      is = refl;
      funcs = refl;
      instances = refl;
      stays = record { globals = differ_same (IsOwnGlobal inside s) s.globals c.globals; memories = differ_same (IsOwnMemory inside s) s.memories c.memories; tables = (refl, refl); bytes = differ_same R s.segments.bytes c.bytes };
      agree = agree;
      store = store;
    }

    either_outcome : (b : Bool) (o p o' p' : Outcome) → OutcomesAgree o o' → OutcomesAgree p p' → OutcomesAgree (cond b o p) (cond b o' p')
    either_outcome true o p o' p' x y = x
    either_outcome false o p o' p' x y = y

    pub goes_agree : (fr : Frame) (vs us : List Value) (w : List Item) → Above (ValueIn R s.segments) n us → Each (ValueIn R s.segments) fr.locals → WorkIn inside s.funcs (ValueIn R s.segments) n d w → OutcomesAgree (goes s (thread fr vs w) us) (goes (with_contents s c) (thread fr vs w) us)
    goes_agree fr vs us w a b x = (refl, refl, same_after, λ stays. in_holds inside s.funcs (ValueIn R s.segments) n d fr us w a b x)

    -- ---- parametric instructions

    pub drop_agree : (fr : Frame) (vs us : List Value) (w : List Item) → Above (ValueIn R s.segments) n us → Each (ValueIn R s.segments) fr.locals → WorkIn inside s.funcs (ValueIn R s.segments) n d w → OutcomesAgree (on_top us (λ v rest. goes s (thread fr vs w) rest)) (on_top us (λ v rest. goes (with_contents s c) (thread fr vs w) rest))
    drop_agree fr vs [] w a b x = tt
    drop_agree fr vs (v ∷ us) w a b x = goes_agree fr vs us w a.1 b x

    choose_in : (k : ℕ) (y z : Value) → ValueIn R s.segments y → ValueIn R s.segments z → ValueIn R s.segments (choose k y z)
    choose_in zero y z p q = q
    choose_in (suc k) y z p q = p

    pub select_agree : (fr : Frame) (vs us : List Value) (w : List Item) → Above (ValueIn R s.segments) n us → Each (ValueIn R s.segments) fr.locals → WorkIn inside s.funcs (ValueIn R s.segments) n d w → OutcomesAgree (select s (thread fr vs w) us) (select (with_contents s c) (thread fr vs w) us)
    select_agree fr vs (I32 k ∷ z ∷ y ∷ us) w a b x = (refl, refl, same_after, λ stays. in_holds inside s.funcs (ValueIn R s.segments) n d fr (choose k y z ∷ us) w (λ room. choose_in k y z (a.1.1.0 room) (a.1.0 (omega arith)), a.1.1.1) b x)
    select_agree fr vs _ w a b x = tt

    -- ---- variable instructions

    abbrev pub OptionIn : Option Value → Type 0
    OptionIn None = Unit {0}
    OptionIn (Some v) = ValueIn R s.segments v

    pub pushed_agree : (fr : Frame) (vs : List Value) (w : List Item) (o : Option Value) → Above (ValueIn R s.segments) n vs → Each (ValueIn R s.segments) fr.locals → WorkIn inside s.funcs (ValueIn R s.segments) n d w → OptionIn o → OutcomesAgree (pushed s (thread fr vs w) o) (pushed (with_contents s c) (thread fr vs w) o)
    pushed_agree fr vs w None a b x p = tt
    pushed_agree fr vs w (Some v) a b x p = goes_agree fr vs (v ∷ vs) w (λ room. p, a) b x

    pub get_in : (vs : List Value) (k : ℕ) → Each (ValueIn R s.segments) vs → OptionIn (slice_get vs k)
    get_in [] k h = tt
    get_in (v ∷ vs) zero h = h.0
    get_in (v ∷ vs) (suc k) h = get_in vs k h.1

    pub set_local_agree : (fr : Frame) (vs us : List Value) (w : List Item) (k : ℕ) (v : Value) → Above (ValueIn R s.segments) n us → Each (ValueIn R s.segments) fr.locals → WorkIn inside s.funcs (ValueIn R s.segments) n d w → ValueIn R s.segments v → OutcomesAgree (set_local s (thread fr vs w) k v us) (set_local (with_contents s c) (thread fr vs w) k v us)
    set_local_agree fr vs us w k v a b x p =
        let after = thread (record { function = fr.function; locals = slice_set fr.locals k v }) us w in
        either_outcome (nat_lt k (length fr.locals)) (Next s after None) Stuck (Next (with_contents s c) after None) Stuck (refl, refl, same_after, λ stays. in_holds inside s.funcs (ValueIn R s.segments) n d (record { function = fr.function; locals = slice_set fr.locals k v }) us w a (each_set (ValueIn R s.segments) fr.locals k v b p) x) tt

    pub global_get_agree : (fr : Frame) (vs : List Value) (w : List Item) (o : Option ℕ) → ((a : ℕ) → o ≡ Some a → IsOwnGlobal inside s a) → Above (ValueIn R s.segments) n vs → Each (ValueIn R s.segments) fr.locals → WorkIn inside s.funcs (ValueIn R s.segments) n d w → OutcomesAgree (pushed s (thread fr vs w) (value_in (at s.globals o))) (pushed (with_contents s c) (thread fr vs w) (value_in (at c.globals o)))
    global_get_agree fr vs w None own a b x = tt
    global_get_agree fr vs w (Some g) own a b x =
        subst (λ o. OutcomesAgree (pushed s (thread fr vs w) (value_in (slice_get s.globals g))) (pushed (with_contents s c) (thread fr vs w) (value_in o))) (sym (agree.globals g (own g refl))) (pushed_agree fr vs w (value_in (slice_get s.globals g)) a b x (there (slice_get s.globals g) refl))
      where
        there : (o : Option GlobalInst) → slice_get s.globals g ≡ o → OptionIn (value_in o)
        there None is = tt
        there (Some y) is = store.globals g y (own g refl) is

    pub global_set_agree : (fr : Frame) (vs us : List Value) (w : List Item) (o : Option ℕ) (v : Value) → ((a : ℕ) → o ≡ Some a → IsOwnGlobal inside s a) → Above (ValueIn R s.segments) n us → Each (ValueIn R s.segments) fr.locals → WorkIn inside s.funcs (ValueIn R s.segments) n d w → ValueIn R s.segments v → OutcomesAgree (set_global s (thread fr vs w) o v us) (set_global (with_contents s c) (thread fr vs w) o v us)
    global_set_agree fr vs us w None v own a b x p = tt
    global_set_agree fr vs us w (Some k) v own a b x p =
        subst (λ o. OutcomesAgree (set_global_at s (thread fr vs w) k (slice_get s.globals k) v us) (set_global_at (with_contents s c) (thread fr vs w) k o v us)) (sym (agree.globals k (own k refl))) (sets (slice_get s.globals k) refl)
      where
        sets : (o : Option GlobalInst) → slice_get s.globals k ≡ o → OutcomesAgree (set_global_at s (thread fr vs w) k o v us) (set_global_at (with_contents s c) (thread fr vs w) k o v us)
        sets None is = tt
        sets (Some g) is =
            let new : GlobalInst = record { value = v; mutable = g.mutable } in
            let differ = differ_set (IsOwnGlobal inside s) k new s.globals c.globals (slice_get_within s.globals k g is) (slice_get_within c.globals k g (agree.globals k (own k refl) ∙ is)) (own k refl) in (
              refl,
              refl,
              record {
                contents = record { globals = slice_set c.globals k new; memories = c.memories; tables = c.tables; bytes = c.bytes; accesses = c.accesses };
                is = refl;
                funcs = refl;
                instances = refl;
                stays = record { globals = differ; memories = differ_same (IsOwnMemory inside s) s.memories c.memories; tables = (refl, refl); bytes = differ_same R s.segments.bytes c.bytes };
                agree = record { globals = λ j mine. still_agree (IsOwnGlobal inside s) s.globals c.globals (slice_set s.globals k new) (slice_set c.globals k new) j differ (agree.globals j mine); memories = agree.memories; tables = agree.tables; capacity = agree.capacity; bytes = agree.bytes };
                store = record {
                  globals = λ j y mine there. elim (set_get s.globals k j new y there) [ inl itself ↦ subst (λ (z : GlobalInst). ValueIn R s.segments z.value) itself p | inr old ↦ store.globals j y mine old ];
                  pieces = store.pieces;
                };
              },
              λ stays. in_holds inside s.funcs (ValueIn R s.segments) n d fr us w a b x,
            )

    -- ---- numbers and the linear memory

    pub worked_agree : (i : Numeric) (fr : Frame) (vs : List Value) (w : List Item) → Above (ValueIn R s.segments) n vs → Each (ValueIn R s.segments) fr.locals → WorkIn inside s.funcs (ValueIn R s.segments) n d w → OutcomesAgree (worked s (thread fr vs w) (numeric_on i vs)) (worked (with_contents s c) (thread fr vs w) (numeric_on i vs))
    worked_agree i fr vs w a b x = works (numeric_on i vs) (numeric_in (ValueIn R s.segments) n (λ y address leads. absurd leads) (λ y address leads. absurd leads) i vs a) where
      works : (r : operate.Outcome) → GivesIn (ValueIn R s.segments) n (λ y address leads. absurd leads) (λ y address leads. absurd leads) r → OutcomesAgree (worked s (thread fr vs w) r) (worked (with_contents s c) (thread fr vs w) r)
      works (operate.Gives us) y = goes_agree fr vs us w y b x
      works (operate.Trap trap) y = refl
      works operate.Stuck y = tt

    pub linear_agree : (i : Linear) (o : Option ℕ) (fr : Frame) (vs : List Value) (w : List Item) → ((a : ℕ) → o ≡ Some a → IsOwnMemory inside s a) → Above (ValueIn R s.segments) n vs → Each (ValueIn R s.segments) fr.locals → WorkIn inside s.funcs (ValueIn R s.segments) n d w → OutcomesAgree (linear s (thread fr vs w) i o) (linear (with_contents s c) (thread fr vs w) i o)
    linear_agree i None fr vs w own a b x = tt
    linear_agree i (Some k) fr vs w own a b x =
        subst (λ o. OutcomesAgree (on_memory s (thread fr vs w) i k (slice_get s.memories k)) (on_memory (with_contents s c) (thread fr vs w) i k o)) (sym (agree.memories k (own k refl))) (on (slice_get s.memories k) refl)
      where
        leaves : (m : LinearMemory) → slice_get s.memories k ≡ Some m → (e : effects.Effect) → EffectIn (ValueIn R s.segments) n (λ y address leads. absurd leads) (λ y address leads. absurd leads) e → OutcomesAgree (in_memory s (thread fr vs w) k e) (in_memory (with_contents s c) (thread fr vs w) k e)
        leaves m is (effects.Gives us m') y =
            let differ = differ_set (IsOwnMemory inside s) k m' s.memories c.memories (slice_get_within s.memories k m is) (slice_get_within c.memories k m (agree.memories k (own k refl) ∙ is)) (own k refl) in (
              refl,
              refl,
              record {
                contents = record { globals = c.globals; memories = slice_set c.memories k m'; tables = c.tables; bytes = c.bytes; accesses = c.accesses };
                is = refl;
                funcs = refl;
                instances = refl;
                stays = record { globals = differ_same (IsOwnGlobal inside s) s.globals c.globals; memories = differ; tables = (refl, refl); bytes = differ_same R s.segments.bytes c.bytes };
                agree = record { globals = agree.globals; memories = λ j mine. still_agree (IsOwnMemory inside s) s.memories c.memories (slice_set s.memories k m') (slice_set c.memories k m') j differ (agree.memories j mine); tables = agree.tables; capacity = agree.capacity; bytes = agree.bytes };
                store = record { globals = store.globals; pieces = store.pieces };
              },
              λ stays. in_holds inside s.funcs (ValueIn R s.segments) n d fr us w y b x,
            )
        leaves m is (effects.Trap trap) y = refl
        leaves m is effects.Stuck y = tt

        on : (o : Option LinearMemory) → slice_get s.memories k ≡ o → OutcomesAgree (on_memory s (thread fr vs w) i k o) (on_memory (with_contents s c) (thread fr vs w) i k o)
        on None is = tt
        on (Some m) is = leaves m is (linear_on i m vs) (linear_in (ValueIn R s.segments) n (λ y address leads. absurd leads) (λ y address leads. absurd leads) i m vs a)
