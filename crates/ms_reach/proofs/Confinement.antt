-- What a thread does inside a set of instances depends on what they reach, and changes nothing else.
use Rattle.std.proofs.Common.{◌≡◌, ◌≢◌, ◌≤◌, ℕ, zero, suc, inl, inr, Bool, List, [], ◌∷◌, Option, Some, None, slice_get, refl, sym, ap, subst, ◌∙◌}
use Rattle.ms_event.specs.declared.event.Event.{Event}
use Rattle.ms_event.specs.declared.event.Event.TheVariants as events
use Rattle.ms_linear.specs.declared.value.Value.{Value}
use Rattle.ms_task.specs.Thread.{Frame, Item, Thread, depth_of}
use Rattle.ms_task.specs.declared.func.FuncInst.{FuncInst}
use Rattle.ms_machine.specs.declared.store.Instance.{Instance}
use Rattle.ms_machine.specs.Moves as moves
use Rattle.ms_machine.specs.Moves.{Goes, Move, first_of, move_for, move_of, move_on, rest_of}
use Rattle.ms_machine.specs.Running.{with_event}
use Rattle.ms_machine.specs.Step.{exited, first}
use Rattle.ms_machine.specs.Store.{Store, global_address, memory_address}
use Rattle.ms_machine.specs.Typing.{StoreTyped}
use Rattle.ms_machine.proofs.Moving.{move_keeps, move_stays_typed}
use Rattle.ms_reach.specs.Confined.{Agree, Contents, DifferAsBefore, Stays, grown, with_contents}
use Rattle.ms_reach.specs.Reach.{IsOwnGlobal, IsOwnMemory, IsReached, calls_below, floor}
use Rattle.ms_reach.specs.Walks.{IsReady, MovesAlike, RunsConfined, StepsConfined, Walks, grown_all}
use Rattle.ms_reach.proofs.Inside.{ThreadIn}
use Rattle.ms_reach.proofs.Lists.{differ_same}
use Rattle.ms_reach.proofs.Looking.{typed_looks}
use Rattle.ms_reach.proofs.Plain.{After, StoreIn}
use Rattle.ms_reach.proofs.Reached.{agree_less, reached_least, reached_store, reached_values, thread_from, values_in}
use Rattle.ms_reach.proofs.Spots.{ValueIn}
use Rattle.ms_reach.proofs.Steps.{MovesAgree, move_agree}

-- ---- what is reached afterwards lies in a set that has grown

still_reached : (inside : ℕ → Bool) (Q : ℕ → Type 0) (n d : ℕ) (s : Store) (t : Thread) → StoreIn inside Q s → ThreadIn inside s.funcs (ValueIn Q s.segments) n d t → (k : ℕ) → IsReached inside s t k → Q k
still_reached inside Q n d s t store all = reached_least inside s t Q (values_in inside s.funcs (ValueIn Q s.segments) n d t all) store

-- ---- one step

module _ (inside : ℕ → Bool) (s : Store) (c : Contents) (t : Thread) where
  R : ℕ → Type 0
  R = IsReached inside s t

  alike : (m m' : Move) → MovesAgree inside (IsReached inside s t) (floor inside s.funcs t.work) (calls_below inside s.funcs t.work) s c m m' → MovesAlike inside s c t m m'
  alike (Goes s1 t1 took put event) (Goes s2 t2 took' put' event') h = (
    h.0,
    h.1,
    h.2,
    h.3,
    (
      h.4.contents,
      h.4.is,
      h.4.stays,
      λ stays. agree_less inside (grown (IsReached inside s t) event) (IsReached inside s1 t1) s1 h.4.contents
          (still_reached inside (grown (IsReached inside s t) event) (floor inside s.funcs t.work) (calls_below inside s.funcs t.work) s1 t1 h.4.store
          (subst (λ (fs : List FuncInst). ThreadIn inside fs (ValueIn (grown (IsReached inside s t) event) s1.segments) (floor inside s.funcs t.work) (calls_below inside s.funcs t.work) t1) (sym h.4.funcs) (h.5 stays)))
          h.4.agree,
    ),
  )
  alike (moves.Trap why) (moves.Trap why') h = h
  alike moves.Stuck moves.Stuck h = tt
  alike _ _ h = absurd h

pub steps_confined : StepsConfined
steps_confined inside s c t got ready here agree =
    let n = floor inside s.funcs t.work in
    let d = calls_below inside s.funcs t.work in
    let store = reached_store inside s t in
    let all = thread_from inside s.funcs (ValueIn (IsReached inside s t) s.segments) t (reached_values inside s t) in
    let look = typed_looks inside (IsReached inside s t) n d s c agree store ready.store ready.typed t ready.task all.operands all.work in
    alike inside s c t (move_for s t got) (move_for (with_contents s c) t got) (move_agree inside (IsReached inside s t) n d s c agree store ready.store t got here ready.thread look all)

-- ---- several

grown_more : (R : ℕ → Type 0) (event : Option Event) (k : ℕ) → R k → grown R event k
grown_more R None k known = known
grown_more R (Some (events.Alloc id base size)) k known = inl known
grown_more R (Some _) k known = known

all_more : (R : ℕ → Type 0) (es : List Event) (k : ℕ) → R k → grown_all R es k
all_more R [] k known = known
all_more R (e ∷ es) k known = all_more (grown R (Some e)) es k (grown_more R (Some e) k known)

all_is : (R : ℕ → Type 0) (event : Option Event) (es : List Event) → grown_all (grown R event) es ≡ grown_all R (with_event event es)
all_is R None es = refl
all_is R (Some e) es = refl

differ_both : {A : Type 0} (In1 In2 In : ℕ → Type 0) (xs ys xs1 ys1 xs2 ys2 : List A) → ((k : ℕ) → In1 k → In k) → ((k : ℕ) → In2 k → In k) → DifferAsBefore In1 xs ys xs1 ys1 → DifferAsBefore In2 xs1 ys1 xs2 ys2 → DifferAsBefore In xs ys xs2 ys2
differ_both In1 In2 In xs ys xs1 ys1 xs2 ys2 less1 less2 front back k =
    elim (back k) [
      | inl same ↦ elim (front k) [ inl as_before ↦ inl (same.0 ∙ as_before.0, same.1 ∙ as_before.1) | inr equal ↦ inr (less1 k equal.0, same.1 ∙ (equal.1 ∙ sym same.0)) ]
      | inr equal ↦ inr (less2 k equal.0, equal.1)
    ]

stays_both : (inside : ℕ → Bool) (Q1 Q2 : ℕ → Type 0) (s : Store) (c : Contents) (s1 : Store) (c1 : Contents) (s2 : Store) (c2 : Contents) → s1.instances ≡ s.instances → ((k : ℕ) → Q1 k → Q2 k) → Stays inside Q1 s c s1 c1 → Stays inside Q2 s1 c1 s2 c2 → Stays inside Q2 s c s2 c2
stays_both inside Q1 Q2 s c s1 c1 s2 c2 instances less front back = record {
  globals = differ_both (IsOwnGlobal inside s) (IsOwnGlobal inside s1) (IsOwnGlobal inside s) s.globals c.globals s1.globals c1.globals s2.globals c2.globals (λ k own. own) (λ k own. (own.0, own.1, own.2, ap (λ (is : List Instance). global_address (slice_get is own.0) own.1) (sym instances) ∙ own.3)) front.globals back.globals;
  memories = differ_both (IsOwnMemory inside s) (IsOwnMemory inside s1) (IsOwnMemory inside s) s.memories c.memories s1.memories c1.memories s2.memories c2.memories (λ k own. own) (λ k own. (own.0, own.1, ap (λ (is : List Instance). memory_address (slice_get is own.0)) (sym instances) ∙ own.2)) front.memories back.memories;
  tables = (back.tables.0 ∙ front.tables.0, back.tables.1 ∙ front.tables.1);
  bytes = differ_both Q1 Q2 Q2 s.segments.bytes c.bytes s1.segments.bytes c1.bytes s2.segments.bytes c2.bytes less (λ k known. known) front.bytes back.bytes;
}

-- a thread with nothing left to do takes no step
going : (s : Store) (got : Option ℕ) (fr : Frame) (vs : List Value) (w : List Item) (s1 : Store) (t1 : Thread) (took : Bool) (put : Option ℕ) (event : Option Event) → move_on s got (exited (first s fr vs w)) ≡ Goes s1 t1 took put event → w ≢ []
going s got fr vs [] s1 t1 took put event goes = absurd (cc)
going s got fr vs (i ∷ w) s1 t1 took put event goes = λ e. cc

module _ (inside : ℕ → Bool) (n d : ℕ) where
  pub record WalkAgrees (k : ℕ) (R : ℕ → Type 0) (s : Store) (c : Contents) (t : Thread) (input : List (Option ℕ)) (s' : Store) (t' : Thread) (input' : List (Option ℕ)) (puts : List ℕ) (es : List Event) : Type 0 where
    pub contents : Contents
    pub walks : Walks inside d k (with_contents s c) t input (with_contents s' contents) t' input' puts es
    pub stays : Stays inside (grown_all R es) s c s' contents
    pub agree : Agree inside (grown_all R es) s' contents
    pub store : StoreIn inside (grown_all R es) s'
    pub thread : d ≤ depth_of t'.work → ThreadIn inside s'.funcs (ValueIn (grown_all R es) s'.segments) n d t'

  other_goes : (R : ℕ → Type 0) (s : Store) (c : Contents) (s1 : Store) (t1 : Thread) (took : Bool) (put : Option ℕ) (event : Option Event) (m : Move) → MovesAgree inside R n d s c (Goes s1 t1 took put event) m → (s2 : Store) × (m ≡ Goes s2 t1 took put event) × After inside R n d s c s1 s2 event × (d ≤ depth_of t1.work → ThreadIn inside s.funcs (ValueIn (grown R event) s1.segments) n d t1)
  other_goes R s c s1 t1 took put event (Goes s2 t2 took' put' event') h =
      let e0 : t2 ≡ t1 = h.0 in
      let e1 : took' ≡ took = h.1 in
      let e2 : put' ≡ put = h.2 in
      let e3 : event' ≡ event = h.3 in
      (s2, cc, h.4, h.5)
  other_goes R s c s1 t1 took put event (moves.Trap why) h = absurd h
  other_goes R s c s1 t1 took put event moves.Stuck h = absurd h

  ready_after : (s : Store) (t : Thread) (got : Option ℕ) (s1 : Store) (t1 : Thread) (took : Bool) (put : Option ℕ) (event : Option Event) → IsReady s t → move_for s t got ≡ Goes s1 t1 took put event → IsReady s1 t1
  ready_after s t got s1 t1 took put event ready goes =
      let typed = move_stays_typed s s1 t t1 got took put event goes ready.typed ready.task (going s got t.frame t.operands t.work s1 t1 took put event goes) in
      let fits = move_keeps s s1 t t1 got took put event ready.store ready.thread goes in
      record { typed = subst StoreTyped (sym typed.0) ready.typed; task = typed.1; store = fits.0; thread = fits.1 }

  stays_same : (s : Store) (c : Contents) (Q : ℕ → Type 0) → Stays inside Q s c s c
  stays_same s c Q = record {
    globals = differ_same (IsOwnGlobal inside s) s.globals c.globals;
    memories = differ_same (IsOwnMemory inside s) s.memories c.memories;
    tables = (refl, refl);
    bytes = differ_same Q s.segments.bytes c.bytes;
  }

  pub walk_agrees : (k : ℕ) (R : ℕ → Type 0) (s : Store) (c : Contents) (t : Thread) (input : List (Option ℕ)) (s' : Store) (t' : Thread) (input' : List (Option ℕ)) (puts : List ℕ) (es : List Event) → IsReady s t → Agree inside R s c → StoreIn inside R s → (d ≤ depth_of t.work → ThreadIn inside s.funcs (ValueIn R s.segments) n d t) → Walks inside d k s t input s' t' input' puts es → WalkAgrees k R s c t input s' t' input' puts es
  walk_agrees zero R s c t input s' t' input' puts es ready agree store all walks =
      let start : WalkAgrees zero R s c t input s t input [] [] = record { contents = c; walks = (refl, refl, refl, refl, refl); stays = stays_same s c R; agree = agree; store = store; thread = all } in
      subst (λ (u : Store). WalkAgrees zero R s c t input u t' input' puts es) (sym walks.0)
      (subst (λ (u : Thread). WalkAgrees zero R s c t input s u input' puts es) (sym walks.1)
      (subst (λ (u : List (Option ℕ)). WalkAgrees zero R s c t input s t u puts es) (sym walks.2)
      (subst (λ (u : List ℕ). WalkAgrees zero R s c t input s t input u es) (sym walks.3)
      (subst (λ (u : List Event). WalkAgrees zero R s c t input s t input [] u) (sym walks.4) start))))
  walk_agrees (suc k) R s c t input s' t' input' puts es ready agree store all (staying, (s1, t1, took, put, event, puts1, es1, goes, is_puts, is_es, rest)) =
      let got = first_of input in
      let here = all staying.1 in
      let look = typed_looks inside R n d s c agree store ready.store ready.typed t ready.task here.operands here.work in
      let moved = subst (λ m. MovesAgree inside R n d s c m (move_for (with_contents s c) t (first_of input))) goes (move_agree inside R n d s c agree store ready.store t (first_of input) staying.0 ready.thread look here) in
      let other = other_goes R s c s1 t1 took put event (move_for (with_contents s c) t (first_of input)) moved in
      let after : After inside R n d s c s1 other.0 event = other.2 in
      let later = walk_agrees k (grown R event) s1 after.contents t1 (rest_of took input) s' t' input' puts1 es1 (ready_after s t (first_of input) s1 t1 took put event ready goes) after.agree after.store
      (λ stays. subst (λ (fs : List FuncInst). ThreadIn inside fs (ValueIn (grown R event) s1.segments) n d t1) (sym after.funcs) (other.3 stays)) rest in
      let same : grown_all (grown R event) es1 ≡ grown_all R es = all_is R event es1 ∙ ap (grown_all R) (sym is_es) in
      let goes' : move_of (with_contents s c) t input ≡ Goes (with_contents s1 after.contents) t1 took put event = other.1 ∙ ap (λ (x : Store). Goes x t1 took put event) after.is in
      record {
        contents = later.contents;
        walks = (staying, (with_contents s1 after.contents, t1, took, put, event, puts1, es1, goes', is_puts, is_es, later.walks));
        stays = subst (λ (Q : ℕ → Type 0). Stays inside Q s c s' later.contents) same (stays_both inside (grown R event) (grown_all (grown R event) es1) s c s1 after.contents s' later.contents after.instances (all_more (grown R event) es1) after.stays later.stays);
        agree = subst (λ (Q : ℕ → Type 0). Agree inside Q s' later.contents) same later.agree;
        store = subst (λ (Q : ℕ → Type 0). StoreIn inside Q s') same later.store;
        thread = λ stays. subst (λ (Q : ℕ → Type 0). ThreadIn inside s'.funcs (ValueIn Q s'.segments) n d t') same (later.thread stays);
      }

pub runs_confined : RunsConfined
runs_confined inside k s c t input s' t' input' puts es ready agree walks =
    let n = floor inside s.funcs t.work in
    let d = calls_below inside s.funcs t.work in
    let all = thread_from inside s.funcs (ValueIn (IsReached inside s t) s.segments) t (reached_values inside s t) in
    let w = walk_agrees inside n d k (IsReached inside s t) s c t input s' t' input' puts es ready agree (reached_store inside s t) (λ stays. all) walks in
    (w.contents, w.walks, w.stays, λ stays. agree_less inside (grown_all (IsReached inside s t) es) (IsReached inside s' t') s' w.contents (still_reached inside (grown_all (IsReached inside s t) es) n d s' t' w.store (w.thread stays)) w.agree)
