-- A fact about each value is kept by instructions on numbers, on the linear memory, on locals and globals.
use Rattle.std.proofs.Common.{ℕ, zero, suc, List, [], ◌∷◌, length, nat_le, nat_lt, slice_get, slice_set, Option, Some, None, Bool, true, false, ◌+◌, ◌-◌, ◌^◌, cond, Result, Ok, Err}
use Rattle.ms_num.specs.declared.arith.Arith.{Arith}
use Rattle.ms_linear.specs.declared.global.GlobalInst.{GlobalInst}
use Rattle.ms_linear.specs.declared.value.Value.{Value}
use Rattle.ms_linear.specs.declared.value.Value.TheVariants.{I32, I64}
use Rattle.ms_linear.specs.Memory.{Memory as LinearMemory, grown, loaded, pages, stored}
use Rattle.ms_module.specs.Accesses.{bits, load_bytes, store_bytes}
use Rattle.ms_module.specs.declared.access.Linear.{Linear}
use Rattle.ms_module.specs.declared.access.Linear.TheVariants.{Load, Store, Size, Grow}
use Rattle.ms_module.specs.declared.access.LoadOp.{LoadOp}
use Rattle.ms_module.specs.declared.access.LoadOp.TheVariants as loads
use Rattle.ms_module.specs.declared.access.MemArg.{MemArg}
use Rattle.ms_module.specs.declared.access.StoreOp.{StoreOp}
use Rattle.ms_module.specs.declared.numeric.Numeric.{Numeric}
use Rattle.ms_module.specs.declared.numeric.Numeric.TheVariants.{Eqz, Compare, Unary, Binary, Wrap, ExtendS, ExtendU}
use Rattle.ms_module.specs.declared.numeric.Width.{Width}
use Rattle.ms_module.specs.declared.numeric.Width.TheVariants.{W32, W64}
use Rattle.ms_operate.specs.Accesses.{integer, number_of, value_of, width_of}
use Rattle.ms_operate.specs.Integers.{binary}
use Rattle.ms_operate.specs.Memories.{grow_by, linear_on, load_at, may_grow, store_at}
use Rattle.ms_operate.specs.Numbers.{given, numeric_on, on_one, on_two}
use Rattle.ms_operate.specs.Effects as effects
use Rattle.ms_operate.specs.Outcomes as operate
use Rattle.ms_operate.specs.declared.trap.Trap.TheVariants as operate-traps
use Rattle.ms_task.specs.Thread.{Frame, Item, thread}
use Rattle.ms_machine.specs.refinement.Holding.{Each, EachGlobal, EachKept, ThreadHolds}
use Rattle.ms_machine.specs.Step.{Calls, Next, Outcome, Stuck, Trap, choose, goes, in_memory, linear, on_memory, on_top, pushed, select, set_global, set_global_at, set_local, value_in, worked}
use Rattle.ms_machine.specs.Store as stores
use Rattle.ms_machine.specs.Store.{at}
use Rattle.ms_machine.proofs.HeldValues.{OptionHolds, each_set, global_get, global_set, holds}

-- ---- outcomes

module _ (P : Value → Type 0) where
  abbrev pub OutcomeHolds : Outcome → Type 0
  OutcomeHolds (Next s t event) = EachGlobal P s.globals × ThreadHolds P t
  OutcomeHolds (Calls h t) = ThreadHolds P t
  OutcomeHolds (Trap trap) = Unit {0}
  OutcomeHolds Stuck = Unit {0}

  either_outcome : (b : Bool) (o p : Outcome) → OutcomeHolds o → OutcomeHolds p → OutcomeHolds (cond b o p)
  either_outcome true o p x y = x
  either_outcome false o p x y = y

  pub goes_holds : (s : stores.Store) (fr : Frame) (vs us : List Value) (w : List Item) → EachGlobal P s.globals → Each P us → Each P fr.locals → EachKept P w → OutcomeHolds (goes s (thread fr vs w) us)
  goes_holds s fr vs us w g a b d = (g, holds P fr us w a b d)

  -- ---- parametric instructions

  choose_holds : (n : ℕ) (a b : Value) → P a → P b → P (choose n a b)
  choose_holds zero a b x y = y
  choose_holds (suc n) a b x y = x

  pub drop_holds : (s : stores.Store) (fr : Frame) (vs us : List Value) (w : List Item) → EachGlobal P s.globals → Each P us → Each P fr.locals → EachKept P w → OutcomeHolds (on_top us (λ v rest. goes s (thread fr vs w) rest))
  drop_holds s fr vs [] w g a b d = tt
  drop_holds s fr vs (v ∷ us) w g a b d = goes_holds s fr vs us w g a.1 b d

  pub select_holds : (s : stores.Store) (fr : Frame) (vs us : List Value) (w : List Item) → EachGlobal P s.globals → Each P us → Each P fr.locals → EachKept P w → OutcomeHolds (select s (thread fr vs w) us)
  select_holds s fr vs (I32 n ∷ y ∷ x ∷ us) w g a b d = (g, holds P fr (choose n x y ∷ us) w (choose_holds n x y a.1.1.0 a.1.0, a.1.1.1) b d)
  select_holds s fr vs _ w g a b d = tt

  -- ---- variable instructions

  pub pushed_holds : (s : stores.Store) (fr : Frame) (vs : List Value) (w : List Item) (o : Option Value) → EachGlobal P s.globals → Each P vs → Each P fr.locals → EachKept P w → OptionHolds P o → OutcomeHolds (pushed s (thread fr vs w) o)
  pushed_holds s fr vs w None g a b d x = tt
  pushed_holds s fr vs w (Some v) g a b d x = goes_holds s fr vs (v ∷ vs) w g (x, a) b d

  set_local_holds : (s : stores.Store) (fr : Frame) (vs us : List Value) (w : List Item) (x : ℕ) (v : Value) → EachGlobal P s.globals → Each P us → Each P fr.locals → EachKept P w → P v → OutcomeHolds (set_local s (thread fr vs w) x v us)
  set_local_holds s fr vs us w x v g a b d p =
      let after = thread (record { function = fr.function; locals = slice_set fr.locals x v }) us w in
      either_outcome (nat_lt x (length fr.locals)) (Next s after None) Stuck (g, record { operands = a; locals = each_set P fr.locals x v b p; kept = d }) tt

  pub local_set_holds : (s : stores.Store) (x : ℕ) (fr : Frame) (vs us : List Value) (w : List Item) → EachGlobal P s.globals → Each P us → Each P fr.locals → EachKept P w → OutcomeHolds (on_top us (λ v rest. set_local s (thread fr vs w) x v rest))
  local_set_holds s x fr vs [] w g a b d = tt
  local_set_holds s x fr vs (v ∷ us) w g a b d = set_local_holds s fr vs us w x v g a.1 b d a.0

  pub local_tee_holds : (s : stores.Store) (x : ℕ) (fr : Frame) (vs us : List Value) (w : List Item) → EachGlobal P s.globals → Each P us → Each P fr.locals → EachKept P w → OutcomeHolds (on_top us (λ v rest. set_local s (thread fr vs w) x v (v ∷ rest)))
  local_tee_holds s x fr vs [] w g a b d = tt
  local_tee_holds s x fr vs (v ∷ us) w g a b d = set_local_holds s fr vs (v ∷ us) w x v g a b d a.0

  pub global_held : (gs : List GlobalInst) (address : Option ℕ) → EachGlobal P gs → OptionHolds P (value_in (at gs address))
  global_held gs None g = tt
  global_held gs (Some x) g = global_get P gs x g

  set_global_holds : (s : stores.Store) (fr : Frame) (vs us : List Value) (w : List Item) (address : Option ℕ) (v : Value) → EachGlobal P s.globals → Each P us → Each P fr.locals → EachKept P w → P v → OutcomeHolds (set_global s (thread fr vs w) address v us)
  set_global_holds s fr vs us w None v g a b d p = tt
  set_global_holds s fr vs us w (Some x) v g a b d p = set (slice_get s.globals x) where
    set : (o : Option GlobalInst) → OutcomeHolds (set_global_at s (thread fr vs w) x o v us)
    set None = tt
    set (Some old) = (global_set P s.globals x (record { value = v; mutable = old.mutable }) g p, holds P fr us w a b d)

  pub global_set_holds : (s : stores.Store) (address : Option ℕ) (fr : Frame) (vs us : List Value) (w : List Item) → EachGlobal P s.globals → Each P us → Each P fr.locals → EachKept P w → OutcomeHolds (on_top us (λ v rest. set_global s (thread fr vs w) address v rest))
  global_set_holds s address fr vs [] w g a b d = tt
  global_set_holds s address fr vs (v ∷ us) w g a b d = set_global_holds s fr vs us w address v g a.1 b d a.0

-- ---- numbers

module _ (P : Value → Type 0) (int32 : (n : ℕ) → P (I32 n)) (int64 : (n : ℕ) → P (I64 n)) where
  integer_holds : (width : Width) (n : ℕ) → P (integer width n)
  integer_holds W32 n = int32 n
  integer_holds W64 n = int64 n

  pub value_holds : (op : LoadOp) (n : ℕ) → P (value_of op n)
  value_holds loads.I32Load n = int32 _
  value_holds loads.I64Load n = int64 _
  value_holds loads.I32Load8S n = int32 _
  value_holds loads.I32Load8U n = int32 _
  value_holds loads.I32Load16S n = int32 _
  value_holds loads.I32Load16U n = int32 _
  value_holds loads.I64Load8S n = int64 _
  value_holds loads.I64Load8U n = int64 _
  value_holds loads.I64Load16S n = int64 _
  value_holds loads.I64Load16U n = int64 _
  value_holds loads.I64Load32S n = int64 _
  value_holds loads.I64Load32U n = int64 _

  abbrev GivesHolds : operate.Outcome → Type 0
  GivesHolds (operate.Gives vs) = Each P vs
  GivesHolds (operate.Trap trap) = Unit {0}
  GivesHolds operate.Stuck = Unit {0}

  one_holds : (f : ℕ → Value) (o : Option ℕ) (rest : List Value) → ((n : ℕ) → P (f n)) → Each P rest → GivesHolds (on_one f o rest)
  one_holds f None rest x a = tt
  one_holds f (Some n) rest x a = (x n, a)

  two_holds : (f : ℕ → ℕ → operate.Outcome) (o p : Option ℕ) → ((m n : ℕ) → GivesHolds (f m n)) → GivesHolds (on_two f o p)
  two_holds f (Some m) (Some n) x = x m n
  two_holds f (Some m) None x = tt
  two_holds f None p x = tt

  given_holds : (width : Width) (rest : List Value) (r : Result ℕ Arith) → Each P rest → GivesHolds (given width rest r)
  given_holds width rest (Ok n) a = (integer_holds width n, a)
  given_holds width rest (Err e) a = tt

  numeric_holds : (i : Numeric) (vs : List Value) → Each P vs → GivesHolds (numeric_on i vs)
  numeric_holds (Eqz width) (v ∷ rest) a = one_holds _ (number_of width v) rest (λ n. int32 _) a.1
  numeric_holds (Unary width op) (v ∷ rest) a = one_holds _ (number_of width v) rest (λ n. integer_holds width _) a.1
  numeric_holds Wrap (v ∷ rest) a = one_holds _ (number_of W64 v) rest (λ n. int32 _) a.1
  numeric_holds ExtendS (v ∷ rest) a = one_holds _ (number_of W32 v) rest (λ n. int64 _) a.1
  numeric_holds ExtendU (v ∷ rest) a = one_holds _ (number_of W32 v) rest (λ n. int64 n) a.1
  numeric_holds (Compare width op) (v ∷ u ∷ rest) a = two_holds _ (number_of width u) (number_of width v) (λ m n. (int32 _, a.1.1))
  numeric_holds (Binary width op) (v ∷ u ∷ rest) a = two_holds _ (number_of width u) (number_of width v) (λ m n. given_holds width rest (binary op (bits width) m n) a.1.1)
  numeric_holds i vs a = tt

  pub worked_holds : (s : stores.Store) (i : Numeric) (fr : Frame) (vs : List Value) (w : List Item) → EachGlobal P s.globals → Each P vs → Each P fr.locals → EachKept P w → OutcomeHolds P (worked s (thread fr vs w) (numeric_on i vs))
  worked_holds s i fr vs w g a b d = works (numeric_on i vs) (numeric_holds i vs a) where
    works : (r : operate.Outcome) → GivesHolds r → OutcomeHolds P (worked s (thread fr vs w) r)
    works (operate.Gives us) x = goes_holds P s fr vs us w g x b d
    works (operate.Trap trap) x = tt
    works operate.Stuck x = tt

  -- ---- the linear memory

  abbrev EffectHolds : effects.Effect → Type 0
  EffectHolds (effects.Gives vs m) = Each P vs
  EffectHolds (effects.Trap trap) = Unit {0}
  EffectHolds effects.Stuck = Unit {0}

  either_effect : (b : Bool) (e f : effects.Effect) → EffectHolds e → EffectHolds f → EffectHolds (cond b e f)
  either_effect true e f x y = x
  either_effect false e f x y = y

  load_holds : (op : LoadOp) (arg : MemArg) (m : LinearMemory) (rest : List Value) (base : Option ℕ) → Each P rest → EffectHolds (load_at op arg m rest base)
  load_holds op arg m rest None a = tt
  load_holds op arg m rest (Some base) a =
      either_effect (nat_le (base + arg.offset + load_bytes op) (length m.bytes)) (effects.Gives (value_of op (loaded m (base + arg.offset) (load_bytes op)) ∷ rest) m) (effects.Trap operate-traps.Linear) (value_holds op _, a) tt

  store_holds : (op : StoreOp) (arg : MemArg) (m : LinearMemory) (rest : List Value) (base value : Option ℕ) → Each P rest → EffectHolds (store_at op arg m rest base value)
  store_holds op arg m rest (Some base) (Some value) a =
      either_effect (nat_le (base + arg.offset + store_bytes op) (length m.bytes)) (effects.Gives rest (stored m (base + arg.offset) (store_bytes op) value)) (effects.Trap operate-traps.Linear) a tt
  store_holds op arg m rest base value a = tt

  grow_holds : (m : LinearMemory) (rest : List Value) (n : Option ℕ) → Each P rest → EffectHolds (grow_by m rest n)
  grow_holds m rest None a = tt
  grow_holds m rest (Some n) a = either_effect (may_grow m n) (effects.Gives (I32 (pages m) ∷ rest) (grown m n)) (effects.Gives (I32 (2 ^ 32 - 1) ∷ rest) m) (int32 _, a) (int32 _, a)

  linear_holds : (i : Linear) (m : LinearMemory) (vs : List Value) → Each P vs → EffectHolds (linear_on i m vs)
  linear_holds (Load op arg) m (v ∷ rest) a = load_holds op arg m rest (number_of W32 v) a.1
  linear_holds (Store op arg) m (v ∷ u ∷ rest) a = store_holds op arg m rest (number_of W32 u) (number_of (width_of op) v) a.1.1
  linear_holds Size m vs a = (int32 _, a)
  linear_holds Grow m (v ∷ rest) a = grow_holds m rest (number_of W32 v) a.1
  linear_holds i m vs a = tt

  pub linear_outcome_holds : (s : stores.Store) (i : Linear) (address : Option ℕ) (fr : Frame) (vs : List Value) (w : List Item) → EachGlobal P s.globals → Each P vs → Each P fr.locals → EachKept P w → OutcomeHolds P (linear s (thread fr vs w) i address)
  linear_outcome_holds s i None fr vs w g a b d = tt
  linear_outcome_holds s i (Some x) fr vs w g a b d = on (slice_get s.memories x) where
    leaves : (e : effects.Effect) → EffectHolds e → OutcomeHolds P (in_memory s (thread fr vs w) x e)
    leaves (effects.Gives us m) h = (g, holds P fr us w h b d)
    leaves (effects.Trap trap) h = tt
    leaves effects.Stuck h = tt

    on : (o : Option LinearMemory) → OutcomeHolds P (on_memory s (thread fr vs w) i x o)
    on None = tt
    on (Some m) = leaves (linear_on i m vs) (linear_holds i m vs a)
