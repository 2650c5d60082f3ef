-- What any step does to the segments of a store: all of it is of one side, where there is but one.
use Rattle.std.proofs.Common.{◌≡◌, ℕ, inl, inr, Bool, true, List, [], ◌∷◌, Option, Some, None, refl, sym, subst, ◌∙◌}
use Rattle.std.proofs.lemmas.Bool.{cases_eq}
use Rattle.ms_event.specs.declared.event.Event.{Event}
use Rattle.ms_handle.specs.declared.handle.Handle.{Handle}
use Rattle.ms_handle.specs.declared.handle.Handle.TheVariants as handles
use Rattle.ms_linear.specs.declared.value.Value.{Value}
use Rattle.ms_linear.specs.declared.value.Value.TheVariants as values
use Rattle.ms_live.specs.declared.gaps.Live.{Live}
use Rattle.ms_machine.specs.Moves.{Goes, move_for}
use Rattle.ms_machine.specs.Store.{Store}
use Rattle.ms_machine.specs.refinement.Holding.{Each, EachKept, StoreFits, ThreadFits}
use Rattle.ms_segment.specs.Memory.{Memory, live_of}
use Rattle.ms_tagged.specs.Bytes.{Byte, Data, Piece}
use Rattle.ms_task.specs.Thread.{Activation, Do, Item, Label, Thread}
use Rattle.ms_apart.specs.refinement.Apart.{EachByte, FunctionOn, HandleOn, IsSided, MemoryStep, Owned, SegmentOn, Separated, Sides, Stepped, StoreStep, ThreadOn, ValueOn, WorkOn, contents, counted, ended, global, kept, memory, same, segments, written}
use Rattle.ms_apart.proofs.Moves.{MoveOn, move_on_side}
use Rattle.ms_apart.proofs.Others.{live_gone, live_stays}

-- ---- one side

abbrev pub one_side : Sides
one_side = record { instances = λ i. true; tables = λ a. true; memories = λ a. true; globals = λ a. true }

abbrev pub all_owned : Owned
all_owned i = true

handle_one : (h : Handle) → HandleOn all_owned true h
handle_one handles.Null = tt
handle_one handles.Broken = tt
handle_one (handles.Good sealed id base size offset) = refl

value_one : (v : Value) → ValueOn all_owned true v
value_one (values.I32 n) = tt
value_one (values.I64 n) = tt
value_one (values.Handle h) = handle_one h

each_one : (vs : List Value) → Each (ValueOn all_owned true) vs
each_one [] = tt
each_one (v ∷ vs) = (value_one v, each_one vs)

kept_one : (w : List Item) → EachKept (ValueOn all_owned true) w
kept_one [] = tt
kept_one (Do i ∷ w) = kept_one w
kept_one (Label k h g ∷ w) = kept_one w
kept_one (Activation k h caller ∷ w) = (each_one caller.locals, kept_one w)

bytes_one : (xs : List Byte) → EachByte (HandleOn all_owned true) xs
bytes_one [] = tt
bytes_one (Data n ∷ xs) = bytes_one xs
bytes_one (Piece h i ∷ xs) = (handle_one h, bytes_one xs)

segment_one : (m : Memory) (o : Option Live) → SegmentOn all_owned m true o
segment_one m None = tt
segment_one m (Some s) = bytes_one (contents m s)

module _ (s : Store) where
  work_one : (w : List Item) → WorkOn (FunctionOn one_side s.funcs true) w
  work_one [] = tt
  work_one (Do i ∷ w) = work_one w
  work_one (Label k h g ∷ w) = work_one w
  work_one (Activation k h caller ∷ w) = ((λ f is. refl), work_one w)

  thread_one : (t : Thread) → ThreadOn one_side all_owned true s t
  thread_one t = record { function = λ f is. refl; callers = work_one t.work; values = record { operands = each_one t.operands; locals = each_one t.frame.locals; kept = kept_one t.work } }

  sided_one : IsSided one_side s
  sided_one = record { funcs = λ n x a i f p q o. refl; tables = λ n a i p q. refl; memories = λ n a i p q. refl; globals = λ n x a i p q. refl; entries = λ a k t e f p q o. refl }

  separated_one : Separated one_side all_owned s
  separated_one = record { globals = λ a g is. value_one g.value; segments = λ id. segment_one s.segments (live_of s.segments id) }

pub any_step : (s s1 : Store) (t t1 : Thread) (got : Option ℕ) (took : Bool) (put : Option ℕ) (event : Option Event) → StoreFits s → ThreadFits s t → move_for s t got ≡ Goes s1 t1 took put event → Stepped one_side all_owned true s s1 t1 event
any_step s s1 t t1 got took put event store fits is =
    subst (MoveOn one_side all_owned true s (sided_one s) (separated_one s) store.segments) is (move_on_side one_side all_owned true s (sided_one s) (separated_one s) store.segments t got (thread_one s t) fits)

-- ---- which makes none: what is live was, and none is made

module _ (own : Owned) (side : Bool) (m : Memory) where
  live_before : (n : Memory) → MemoryStep own side m n → (id : ℕ) (s : Live) → live_of n id ≡ Some s → live_of m id ≡ Some s
  live_before n same id s e = e
  live_before n counted id s e = e
  live_before n (ended j mine) id s e =
      elim (cases_eq id j) [
        | inl is ↦ absurd (gone (live_of n id) (subst (λ i. live_of n i ≡ None) (sym is) (live_gone m j)) e)
        | inr other ↦ sym (live_stays m j id other) ∙ e
      ]
    where
      gone : (o : Option Live) → o ≡ None → o ≡ Some s → ⊥
      gone o f g = cc
  live_before n (written j k t new mine live within on) id s e = e

  made_before : (n : Memory) → MemoryStep own side m n → n.made ≡ m.made
  made_before n same = refl
  made_before n counted = refl
  made_before n (ended j mine) = refl
  made_before n (written j k t new mine live within on) = refl

module _ (sides : Sides) (own : Owned) (side : Bool) (s : Store) where
  pub live_stood : (s1 : Store) → StoreStep sides own side s s1 → (id : ℕ) (l : Live) → live_of s1.segments id ≡ Some l → live_of s.segments id ≡ Some l
  live_stood s1 kept id l e = e
  live_stood s1 (global a g v p q o) id l e = e
  live_stood s1 (memory a n p) id l e = e
  live_stood s1 (segments m p) id l e = live_before own side s.segments m p id l e

  pub made_stood : (s1 : Store) → StoreStep sides own side s s1 → s1.segments.made ≡ s.segments.made
  made_stood s1 kept = refl
  made_stood s1 (global a g v p q o) = refl
  made_stood s1 (memory a n p) = refl
  made_stood s1 (segments m p) = made_before own side s.segments m p
