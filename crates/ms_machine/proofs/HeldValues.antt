-- A fact about each value of lists, of the globals and of the kept frames, where the lists are changed.
use Rattle.std.proofs.Common.{ℕ, zero, suc, List, [], ◌∷◌, ◌++◌, map, reverse, drop, take, slice_get, slice_set, Option, Some, None, sym, subst}
use Rattle.std.proofs.lemmas.List.{reverse-append}
use Rattle.ms_linear.specs.declared.global.GlobalInst.{GlobalInst}
use Rattle.ms_linear.specs.declared.value.Value.{Value}
use Rattle.ms_linear.specs.Values.{default_of}
use Rattle.ms_module.specs.declared.instr.Instr.{Instr}
use Rattle.ms_task.specs.Thread.{Activation, Do, Frame, Item, Label, Thread, dos, thread}
use Rattle.ms_types.specs.declared.types.ValType.{ValType}
use Rattle.ms_machine.specs.refinement.Holding.{Each, EachGlobal, EachKept, ThreadHolds}
use Rattle.ms_machine.specs.Step.{value_in}

-- ---- one fact

module _ (P : Value → Type 0) where
  pub each_drop : (n : ℕ) (vs : List Value) → Each P vs → Each P (drop n vs)
  each_drop zero vs h = h
  each_drop (suc n) [] h = h
  each_drop (suc n) (v ∷ vs) h = each_drop n vs h.1

  pub each_take : (n : ℕ) (vs : List Value) → Each P vs → Each P (take n vs)
  each_take zero vs h = tt
  each_take (suc n) [] h = tt
  each_take (suc n) (v ∷ vs) h = (h.0, each_take n vs h.1)

  pub each_append : (vs ws : List Value) → Each P vs → Each P ws → Each P (vs ++ ws)
  each_append [] ws h k = k
  each_append (v ∷ vs) ws h k = (h.0, each_append vs ws h.1 k)

  pub each_reverse : (vs : List Value) → Each P vs → Each P (reverse vs)
  each_reverse [] h = tt
  each_reverse (v ∷ vs) h = subst (Each P) (sym (reverse-append (v ∷ []) vs)) (each_append (reverse vs) (v ∷ []) (each_reverse vs h.1) (h.0, tt))

  pub each_set : (vs : List Value) (x : ℕ) (v : Value) → Each P vs → P v → Each P (slice_set vs x v)
  each_set [] zero v h p = tt
  each_set [] (suc x) v h p = tt
  each_set (u ∷ vs) zero v h p = (p, h.1)
  each_set (u ∷ vs) (suc x) v h p = (h.0, each_set vs x v h.1 p)

  -- of one value or none
  abbrev pub OptionHolds : Option Value → Type 0
  OptionHolds None = Unit {0}
  OptionHolds (Some v) = P v

  pub each_get : (vs : List Value) (x : ℕ) → Each P vs → OptionHolds (slice_get vs x)
  each_get [] zero h = tt
  each_get [] (suc x) h = tt
  each_get (v ∷ vs) zero h = h.0
  each_get (v ∷ vs) (suc x) h = each_get vs x h.1

  pub each_default : ((ty : ValType) → P (default_of ty)) → (ts : List ValType) → Each P (map default_of ts)
  each_default defaults [] = tt
  each_default defaults (t ∷ ts) = (defaults t, each_default defaults ts)

  -- ---- globals

  pub global_get : (gs : List GlobalInst) (x : ℕ) → EachGlobal P gs → OptionHolds (value_in (slice_get gs x))
  global_get [] zero h = tt
  global_get [] (suc x) h = tt
  global_get (g ∷ gs) zero h = h.0
  global_get (g ∷ gs) (suc x) h = global_get gs x h.1

  pub global_set : (gs : List GlobalInst) (x : ℕ) (g : GlobalInst) → EachGlobal P gs → P g.value → EachGlobal P (slice_set gs x g)
  global_set [] zero g h p = tt
  global_set [] (suc x) g h p = tt
  global_set (f ∷ gs) zero g h p = (p, h.1)
  global_set (f ∷ gs) (suc x) g h p = (h.0, global_set gs x g h.1 p)

  -- ---- work

  pub kept_dos : (is : List Instr) (w : List Item) → EachKept P w → EachKept P (dos is ++ w)
  kept_dos [] w h = h
  kept_dos (i ∷ is) w h = kept_dos is w h

  pub holds : (fr : Frame) (vs : List Value) (w : List Item) → Each P vs → Each P fr.locals → EachKept P w → ThreadHolds P (thread fr vs w)
  holds fr vs w operands locals kept = record { operands = operands; locals = locals; kept = kept }

-- ---- a fact that follows from another

module _ (P Q : Value → Type 0) (grows : (v : Value) → P v → Q v) where
  pub each_grows : (vs : List Value) → Each P vs → Each Q vs
  each_grows [] h = tt
  each_grows (v ∷ vs) h = (grows v h.0, each_grows vs h.1)

  pub global_grows : (gs : List GlobalInst) → EachGlobal P gs → EachGlobal Q gs
  global_grows [] h = tt
  global_grows (g ∷ gs) h = (grows g.value h.0, global_grows gs h.1)

  pub kept_grows : (w : List Item) → EachKept P w → EachKept Q w
  kept_grows [] h = tt
  kept_grows (Do i ∷ w) h = kept_grows w h
  kept_grows (Label k h g ∷ w) x = kept_grows w x
  kept_grows (Activation k h caller ∷ w) x = (each_grows caller.locals x.0, kept_grows w x.1)

  pub thread_grows : (t : Thread) → ThreadHolds P t → ThreadHolds Q t
  thread_grows t h = record {
    operands = each_grows t.operands h.operands;
    locals = each_grows t.frame.locals h.locals;
    kept = kept_grows t.work h.kept;
  }
