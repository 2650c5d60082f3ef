-- What is reached is the least of the sets that handles don't lead out of.
use Rattle.std.proofs.Common.{◌≡◌, ◌≤◌, ◌-◌, ℕ, zero, suc, inl, inr, Bool, true, false, cond, List, [], ◌∷◌, ◌++◌, length, take, refl, sym, ap, subst, arith}
use Rattle.std.specs.List.{Contains}
use Rattle.std.proofs.lemmas.Bool.{cases_lt}
use Rattle.ms_linear.specs.declared.value.Value.{Value}
use Rattle.ms_task.specs.declared.func.FuncInst.{FuncInst}
use Rattle.ms_task.specs.Thread.{Activation, Do, Item, Label, Thread, depth_of}
use Rattle.ms_machine.specs.refinement.Holding.{Each}
use Rattle.ms_machine.specs.Store.{Store}
use Rattle.ms_machine.proofs.HeldValues.{each_append}
use Rattle.ms_machine.proofs.SafePaints.{Contains-first, Contains-later, Contains-cases, Contains-none}
use Rattle.ms_reach.specs.Confined.{Agree, Contents}
use Rattle.ms_reach.specs.Reach.{IsReached, by_global, by_piece, by_value, callers_locals, calls_below, floor, is_inside, own_values}
use Rattle.ms_reach.proofs.Inside.{Above, ThreadIn, WorkIn}
use Rattle.ms_reach.proofs.Plain.{StoreIn}
use Rattle.ms_reach.proofs.Spots.{ValueIn}

module _ (P : Value → Type 0) where
  each_front : (vs us : List Value) → Each P (vs ++ us) → Each P vs
  each_front [] us h = tt
  each_front (v ∷ vs) us h = (h.0, each_front vs us h.1)

  each_back : (vs us : List Value) → Each P (vs ++ us) → Each P us
  each_back [] us h = h
  each_back (v ∷ vs) us h = each_back vs us h.1

  each_contains : (vs : List Value) (v : Value) → Each P vs → Contains vs v → P v
  each_contains [] v h has = absurd (Contains-none v has)
  each_contains (u ∷ vs) v h has = elim (Contains-cases u vs v has) [ inl same ↦ subst P same h.0 | inr later ↦ each_contains vs v h.1 later ]

  pub contains_each : (vs : List Value) → ((v : Value) → Contains vs v → P v) → Each P vs
  contains_each [] h = tt
  contains_each (v ∷ vs) h = (h v (Contains-first v vs), contains_each vs (λ u has. h u (Contains-later v vs u has)))

  -- ---- operands above so many others

  above_low : (n : ℕ) (vs : List Value) → length vs ≤ n → Above P n vs
  above_low n [] low = tt
  above_low n (v ∷ vs) low = (λ room. absurd (omega arith), above_low n vs (omega arith))

  above_taken : (n : ℕ) (vs : List Value) → Each P (take (length vs - n) vs) → Above P n vs
  above_taken n [] h = tt
  above_taken n (v ∷ vs) h =
      elim (cases_lt (length vs) n) [
        | inl low ↦ (λ room. absurd (omega arith), above_low n vs (omega arith))
        | inr high ↦ let e : suc (length vs) - n ≡ suc (length vs - n) = omega arith in let h' = subst (λ k. Each P (take k (v ∷ vs))) e h in (λ room. h'.0, above_taken n vs h'.1)
      ]

  taken_above : (n : ℕ) (vs : List Value) → Above P n vs → Each P (take (length vs - n) vs)
  taken_above n [] h = let nothing : List Value = [] in none (length nothing - n) where
    none : (k : ℕ) → Each P (take k [])
    none zero = tt
    none (suc k) = tt
  taken_above n (v ∷ vs) h =
      elim (cases_lt (length vs) n) [
        | inl low ↦ let e : 0 ≡ suc (length vs) - n = omega arith in subst (λ k. Each P (take k (v ∷ vs))) e tt
        | inr high ↦ let e : suc (length vs - n) ≡ suc (length vs) - n = omega arith in subst (λ k. Each P (take k (v ∷ vs))) e (h.0 high, taken_above n vs h.1)
      ]

module _ (inside : ℕ → Bool) (funcs : List FuncInst) (P : Value → Type 0) where
  -- ---- callers

  work_from : (w : List Item) → Each P (callers_locals inside funcs w) → WorkIn inside funcs P (floor inside funcs w) (calls_below inside funcs w) w
  work_from [] h = (refl, refl)
  work_from (Do i ∷ w) h = work_from w h
  work_from (Label k x g ∷ w) h = work_from w h
  work_from (Activation k x caller ∷ w) h = (
    λ yes.
        let both = subst (λ b. Each P (cond b (caller.locals ++ callers_locals inside funcs w) [])) yes h in (
          each_front P caller.locals (callers_locals inside funcs w) both,
          subst (λ b. WorkIn inside funcs P (cond b (floor inside funcs w) x) (cond b (calls_below inside funcs w) (suc (depth_of w))) w) (sym yes) (work_from w (each_back P caller.locals (callers_locals inside funcs w) both)),
        ),
    λ no. (ap (λ b. cond b (floor inside funcs w) x) no, ap (λ b. cond b (calls_below inside funcs w) (suc (depth_of w))) no),
  )

  module _ (n d : ℕ) where
    callers_in : (w : List Item) → WorkIn inside funcs P n d w → Each P (callers_locals inside funcs w)
    callers_in [] h = tt
    callers_in (Do i ∷ w) h = callers_in w h
    callers_in (Label k x g ∷ w) h = callers_in w h
    callers_in (Activation k x caller ∷ w) h = by (is_inside inside funcs caller) refl (λ work. callers_in w work) where
      by : (b : Bool) → is_inside inside funcs caller ≡ b → (WorkIn inside funcs P n d w → Each P (callers_locals inside funcs w)) → Each P (cond b (caller.locals ++ callers_locals inside funcs w) [])
      by true is rest = each_append P caller.locals (callers_locals inside funcs w) (h.0 is).0 (rest (h.0 is).1)
      by false is rest = tt

    floor_is : (w : List Item) → WorkIn inside funcs P n d w → floor inside funcs w ≡ n
    floor_is [] h = sym h.0
    floor_is (Do i ∷ w) h = floor_is w h
    floor_is (Label k x g ∷ w) h = floor_is w h
    floor_is (Activation k x caller ∷ w) h = by (is_inside inside funcs caller) refl (λ work. floor_is w work) where
      by : (b : Bool) → is_inside inside funcs caller ≡ b → (WorkIn inside funcs P n d w → floor inside funcs w ≡ n) → cond b (floor inside funcs w) x ≡ n
      by true is rest = rest (h.0 is).1
      by false is rest = sym (h.1 is).0

    pub values_in : (t : Thread) → ThreadIn inside funcs P n d t → Each P (own_values inside funcs t)
    values_in t h =
        each_append P (take (length t.operands - floor inside funcs t.work) t.operands) (t.frame.locals ++ callers_locals inside funcs t.work)
        (subst (λ k. Each P (take (length t.operands - k) t.operands)) (sym (floor_is t.work h.work)) (taken_above P n t.operands h.operands))
        (each_append P t.frame.locals (callers_locals inside funcs t.work) h.locals (callers_in t.work h.work))

  pub thread_from : (t : Thread) → Each P (own_values inside funcs t) → ThreadIn inside funcs P (floor inside funcs t.work) (calls_below inside funcs t.work) t
  thread_from t h =
      let front = take (length t.operands - floor inside funcs t.work) t.operands in
      let back = each_back P front (t.frame.locals ++ callers_locals inside funcs t.work) h in
      record {
        operands = above_taken P (floor inside funcs t.work) t.operands (each_front P front (t.frame.locals ++ callers_locals inside funcs t.work) h);
        locals = each_front P t.frame.locals (callers_locals inside funcs t.work) back;
        work = work_from t.work (each_back P t.frame.locals (callers_locals inside funcs t.work) back);
      }

module _ (inside : ℕ → Bool) (s : Store) (t : Thread) where
  -- handles don't lead out of it
  pub reached_values : Each (ValueIn (IsReached inside s t) s.segments) (own_values inside s.funcs t)
  reached_values = contains_each (ValueIn (IsReached inside s t) s.segments) (own_values inside s.funcs t) (λ v has address leads. by_value has leads)

  pub reached_store : StoreIn inside (IsReached inside s t) s
  reached_store = record {
    globals = λ a g own there address leads. by_global own there leads;
    pieces = λ k h i known there address leads. by_piece known there leads;
  }

  -- it lies in each such set
  pub reached_least : (R : ℕ → Type 0) → Each (ValueIn R s.segments) (own_values inside s.funcs t) → StoreIn inside R s → (k : ℕ) → IsReached inside s t k → R k
  reached_least R values store k (by_value {v} {address} has leads) = each_contains (ValueIn R s.segments) (own_values inside s.funcs t) v values has k leads
  reached_least R values store k (by_global {a} {g} {address} own there leads) = store.globals a g own there k leads
  reached_least R values store k (by_piece {place} {h} {i} {address} known there leads) = store.pieces place h i (reached_least R values store place known) there k leads

-- stores that agree on a set agree on a smaller one
pub agree_less : (inside : ℕ → Bool) (R Q : ℕ → Type 0) (s : Store) (c : Contents) → ((k : ℕ) → Q k → R k) → Agree inside R s c → Agree inside Q s c
agree_less inside R Q s c less agree = record { globals = agree.globals; memories = agree.memories; tables = agree.tables; capacity = agree.capacity; bytes = λ k known. agree.bytes k (less k known) }
