-- A call of a defined function: the arguments become the first locals.
use Rattle.std.proofs.Common.{◌≡◌, ℕ, zero, suc, ◌+◌, ◌-◌, ◌<◌, ◌≤◌, List, [], ◌∷◌, ◌++◌, length, length-append, map, take, drop, reverse, Bool, false, Option, Some, refl, sym, ap, ◌∙◌, arith, cond, append_assoc}
use Rattle.std.specs.Prelude.{slice_get}
use Rattle.std.proofs.lemmas.Bool.{lt-ltb, le-leb, le-ltb}
use Rattle.std.proofs.lemmas.List.{length-reverse, reverse-append, reverse-reverse}
use Rattle.std.proofs.Math.Seq.{take-append_seam, drop-append_seam}
use Rattle.ms_linear.specs.declared.value.Value.{Value as Word}
use Rattle.ms_linear.specs.Values.{default_of}
use Rattle.ms_task.specs.Control.{To, TooDeep, Stuck, call_on, deepest, enter, entered}
use Rattle.ms_task.specs.declared.func.FuncInst.{FuncInst}
use Rattle.ms_task.specs.Thread.{Activation, Frame, Item, thread, depth_of, dos, result_of, sequence}
use Rattle.c_types.specs.Types.{Ty, Tys, no_types, types}
use Rattle.c_typed.specs.Units.{list_of}
use Rattle.c_meaning.specs.Values.{Value, zero_value}
use Rattle.c_meaning.specs.World.{Held, plain, object}
use Rattle.ms_relate.specs.refinement.Homes.{Home}
use Rattle.c_runs.proofs.Held.{AreApart, AreHeld, AreOwn, Slot, words}
use Rattle.c_runs.proofs.Values.{word_of}
use Rattle.c_runs.proofs.Related.{AreOf, Env, front, piled}

-- ---- arguments as locals

module _ (E : Env) (hs : List Home) where
  abbrev pub arg_words : Tys → List Value → List Word
  arg_words no_types us = []
  arg_words (types t ts) [] = []
  arg_words (types t ts) (u ∷ us) = word_of E.places t hs u ∷ arg_words ts us

  piled_is : (ps : Tys) (us : List Value) (vs : List Word) → piled E ps hs us vs ≡ reverse (arg_words ps us) ++ vs
  piled_is no_types us vs = refl
  piled_is (types t ts) [] vs = refl
  piled_is (types t ts) (u ∷ us) vs =
      piled_is ts us (word_of E.places t hs u ∷ vs) ∙ sym (ap (λ (l : List Word). l ++ vs) (reverse-append (word_of E.places t hs u ∷ []) (arg_words ts us)) ∙ append_assoc (reverse (arg_words ts us)) (word_of E.places t hs u ∷ []) vs)

  pub length_args : (ps : Tys) (us : List Value) → AreOf E ps hs us → length (arg_words ps us) ≡ length (list_of ps)
  length_args no_types [] h = refl
  length_args (types t ts) (u ∷ us) h = ap suc (length_args ts us h.1)
  length_args no_types (u ∷ us) h = absurd h
  length_args (types t ts) [] h = absurd h

  pub length_us : (ps : Tys) (us : List Value) → AreOf E ps hs us → length us ≡ length (list_of ps)
  length_us no_types [] h = refl
  length_us (types t ts) (u ∷ us) h = ap suc (length_us ts us h.1)
  length_us no_types (u ∷ us) h = absurd h
  length_us (types t ts) [] h = absurd h

-- ---- the machine's call

module _ (E : Env) (hs : List Home) (funcs : List FuncInst) (f : ℕ) (inst : FuncInst) (ps : Tys) (us : List Value) (vs : List Word) (fr : Frame) (r : List Item)
    (is_at : slice_get funcs f ≡ Some inst) (takes : length inst.ty.params ≡ length (list_of ps)) (ok : AreOf E ps hs us) where
  abbrev pub callee : Frame
  callee = record { function = f; locals = arg_words E hs ps us ++ map default_of inst.locals }

  abbrev pub mark : List Item
  mark = Activation (result_of inst) (length vs) fr ∷ r

  entered_is : entered funcs f inst (thread fr (piled E ps hs us vs) r) ≡ thread callee vs (front (sequence funcs f 0) mark)
  entered_is =
      let n = length inst.ty.params in
      let len : length (reverse (arg_words E hs ps us)) ≡ n = length-reverse (arg_words E hs ps us) ∙ length_args E hs ps us ok ∙ sym takes in
      let args : reverse (take n (piled E ps hs us vs)) ≡ arg_words E hs ps us =
      ap (λ (l : List Word). reverse (take n l)) (piled_is E hs ps us vs) ∙ ap (λ (k : ℕ). reverse (take k (reverse (arg_words E hs ps us) ++ vs))) (sym len) ∙ ap reverse (take-append_seam (reverse (arg_words E hs ps us)) vs) ∙ reverse-reverse (arg_words E hs ps us) in
      let bs : drop n (piled E ps hs us vs) ≡ vs =
      ap (drop n) (piled_is E hs ps us vs) ∙ ap (λ (k : ℕ). drop k (reverse (arg_words E hs ps us) ++ vs)) (sym len) ∙ drop-append_seam (reverse (arg_words E hs ps us)) vs in
      let all : length (piled E ps hs us vs) ≡ n + length vs = ap length (piled_is E hs ps us vs) ∙ length-append (reverse (arg_words E hs ps us)) vs ∙ ap (λ (k : ℕ). k + length vs) len in
      let h : length (piled E ps hs us vs) - n ≡ length vs = omega (arith, all) in
      ap (λ (l : List Word). thread (record { function = f; locals = l ++ map default_of inst.locals }) (drop n (piled E ps hs us vs)) (dos (sequence funcs f 0) ++ Activation (result_of inst) (length (piled E ps hs us vs) - n) fr ∷ r)) args
      ∙ ap (λ (l : List Word). thread callee l (dos (sequence funcs f 0) ++ Activation (result_of inst) (length (piled E ps hs us vs) - n) fr ∷ r)) bs
      ∙ ap (λ (k : ℕ). thread callee vs (dos (sequence funcs f 0) ++ Activation (result_of inst) k fr ∷ r)) h

  enters_is : enter funcs f (slice_get funcs f) (thread fr (piled E ps hs us vs) r) ≡ To (thread callee vs (front (sequence funcs f 0) mark))
  enters_is =
      let len : length (piled E ps hs us vs) ≡ length (list_of ps) + length vs = ap length (piled_is E hs ps us vs) ∙ length-append (reverse (arg_words E hs ps us)) vs ∙ ap (λ (k : ℕ). k + length vs) (length-reverse (arg_words E hs ps us) ∙ length_args E hs ps us ok) in
      let room : length inst.ty.params ≤ length (piled E ps hs us vs) = omega (arith, len, takes) in
      ap (λ (o : Option FuncInst). enter funcs f o (thread fr (piled E ps hs us vs) r)) is_at
      ∙ ap (λ (b : Bool). cond b (To (entered funcs f inst (thread fr (piled E ps hs us vs) r))) Stuck) (le-leb _ _ room)
      ∙ ap To entered_is

  pub shallow_call : depth_of r < deepest → call_on funcs f (thread fr (piled E ps hs us vs) r) ≡ To (thread callee vs (front (sequence funcs f 0) mark))
  shallow_call lt = ap (λ (b : Bool). cond b (enter funcs f (slice_get funcs f) (thread fr (piled E ps hs us vs) r)) TooDeep) (lt-ltb _ _ lt) ∙ enters_is

  pub deep_call : deepest ≤ depth_of r → call_on funcs f (thread fr (piled E ps hs us vs) r) ≡ TooDeep
  deep_call le = ap (λ (b : Bool). cond b (enter funcs f (slice_get funcs f) (thread fr (piled E ps hs us vs) r)) TooDeep) (le-ltb _ _ le)

-- ---- the callee's locals hold its variables: the arguments, and zeros

abbrev pub firsts : List Ty → List Held
firsts ts = map (λ t. plain (zero_value t)) ts

-- slots that are no objects
abbrev pub flat : List Ty → List Slot
flat ts = map (λ t. (t, false)) ts

drop_map : {A C : Type 0} (f : A → C) (n : ℕ) (xs : List A) → drop n (map f xs) ≡ map f (drop n xs)
drop_map f zero xs = refl
drop_map f (suc n) [] = refl
drop_map f (suc n) (x ∷ xs) = drop_map f n xs

-- a call begins with no object of its own
first_plain : (us : List Value) (ts : List Ty) (i n : ℕ) → slice_get (map plain us ++ firsts ts) i ≡ Some (object n) → ⊥
first_plain [] [] i n e = absurd cc
first_plain [] (t ∷ ts) zero n e = absurd cc
first_plain [] (t ∷ ts) (suc i) n e = first_plain [] ts i n e
first_plain (u ∷ us) ts zero n e = absurd cc
first_plain (u ∷ us) ts (suc i) n e = first_plain us ts i n e

pub first_apart : (us : List Value) (ts : List Ty) → AreApart (map plain us ++ firsts ts)
first_apart us ts i j n e f = absurd (first_plain us ts i n e)

pub first_own : (k : ℕ) (us : List Value) (ts : List Ty) → AreOwn k (map plain us ++ firsts ts)
first_own k us ts i n e = absurd (first_plain us ts i n e)

module _ (E : Env) (hs : List Home) where
  pub args_held : (ps : Tys) (us : List Value) (ks : List Slot) (xs : List Held) → AreOf E ps hs us → AreHeld E.unit.structs E.places ks hs xs → AreHeld E.unit.structs E.places (flat (list_of ps) ++ ks) hs (map plain us ++ xs)
  args_held no_types [] ks xs a h = h
  args_held (types t ps) (u ∷ us) ks xs a h = (a.0, args_held ps us ks xs a.1 h)
  args_held no_types (u ∷ us) ks xs a h = absurd a
  args_held (types t ps) [] ks xs a h = absurd a

  pub args_words : (ps : Tys) (us : List Value) (ks : List Slot) (xs : List Held) → AreOf E ps hs us → words E.places (flat (list_of ps) ++ ks) hs (map plain us ++ xs) ≡ arg_words E hs ps us ++ words E.places ks hs xs
  args_words no_types [] ks xs a = refl
  args_words (types t ps) (u ∷ us) ks xs a = ap (λ (l : List Word). word_of E.places t hs u ∷ l) (args_words ps us ks xs a.1)
  args_words no_types (u ∷ us) ks xs a = absurd a
  args_words (types t ps) [] ks xs a = absurd a

  pub others_are : (ps : Tys) (us : List Value) (ts : List Ty) → AreOf E ps hs us → drop (length us) (list_of ps ++ ts) ≡ ts
  others_are no_types [] ts a = refl
  others_are (types t ps) (u ∷ us) ts a = others_are ps us ts a.1
  others_are no_types (u ∷ us) ts a = absurd a
  others_are (types t ps) [] ts a = absurd a
