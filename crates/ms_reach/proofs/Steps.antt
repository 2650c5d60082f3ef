-- A step, with the outside too, on two stores that agree on what instances and a thread reach.
use Rattle.std.proofs.Common.{◌≡◌, ◌≤◌, ℕ, Bool, List, [], ◌∷◌, Option, refl, sym, ap, subst, true, arith}
use Rattle.ms_host.specs.declared.host.Host.{Host}
use Rattle.ms_host.specs.declared.host.Host.TheVariants as hosts
use Rattle.ms_linear.specs.declared.value.Value.{Value}
use Rattle.ms_linear.specs.declared.value.Value.TheVariants as values
use Rattle.ms_task.specs.Control.{exited as exited_thread}
use Rattle.ms_task.specs.Thread.{Activation, Do, Frame, Item, Label, Thread, depth_of, thread}
use Rattle.ms_machine.specs.refinement.Holding.{Each, EachKept, Fits, StoreFits, ThreadFits}
use Rattle.ms_machine.specs.Hosting as hosting
use Rattle.ms_machine.specs.Hosting.{host_on, takes}
use Rattle.ms_machine.specs.Moves as moves
use Rattle.ms_machine.specs.Moves.{Goes, Move, hosted, move_for, move_on}
use Rattle.ms_machine.specs.Step.{Calls, Next, Outcome, Stuck, Trap, begin, first, exited, step_of}
use Rattle.ms_machine.specs.Store.{Store}
use Rattle.ms_reach.specs.Confined.{Agree, Contents, grown, with_contents}
use Rattle.ms_reach.specs.Reach.{is_inside}
use Rattle.ms_reach.proofs.Inside.{Above, ThreadIn, WorkIn}
use Rattle.ms_reach.proofs.Control.{exit_depth, exit_in}
use Rattle.ms_reach.proofs.Spots.{ValueIn}
use Rattle.ms_reach.proofs.Plain.{After, OutcomesAgree, StoreIn, same_after}
use Rattle.ms_reach.proofs.Acts.{InstrLooks, act_agree}

module _ (inside : ℕ → Bool) (R : ℕ → Type 0) (n d : ℕ) (s : Store) (c : Contents) where
  abbrev pub MovesAgree : Move → Move → Type 0
  MovesAgree (Goes s1 t1 took put event) (Goes s2 t2 took' put' event') =
      (t2 ≡ t1) × (took' ≡ took) × (put' ≡ put) × (event' ≡ event) × After inside R n d s c s1 s2 event × (d ≤ depth_of t1.work → ThreadIn inside s.funcs (ValueIn (grown R event) s1.segments) n d t1)
  MovesAgree (moves.Trap why) (moves.Trap why') = why' ≡ why
  MovesAgree moves.Stuck moves.Stuck = Unit {0}
  MovesAgree _ _ = ⊥

  exited_in : (P : Value → Type 0) (t : Thread) → (d ≤ depth_of t.work → ThreadIn inside s.funcs P n d t) → d ≤ depth_of (exited_thread t).work → ThreadIn inside s.funcs P n d (exited_thread t)
  exited_in P t h stays =
      let less = exit_depth inside s.funcs P n d t.frame t.operands t.work in
      let deep : d ≤ depth_of t.work = omega arith in
      exit_in inside s.funcs P n d t.frame t.operands t.work (h deep).operands (λ still. ((h deep).locals, (h deep).work)) stays

  exited_agree : (o p : Outcome) → OutcomesAgree inside R n d s c o p → OutcomesAgree inside R n d s c (exited o) (exited p)
  exited_agree (Next s1 t1 event) (Next s2 t2 event') h = (ap exited_thread h.0, h.1, h.2, exited_in (ValueIn (grown R event) s1.segments) t1 h.3)
  exited_agree (Calls host t) (Calls host' t') h = h
  exited_agree (Trap trap) (Trap trap') h = h
  exited_agree Stuck Stuck h = h
  exited_agree _ _ h = absurd h

  module _ (agree : Agree inside R s c) (store : StoreIn inside R s) (fits : StoreFits s) where
    abbrev pub FirstLooks : Frame → List Value → List Item → Type 0
    FirstLooks fr vs (Do i ∷ w) = InstrLooks inside R n d s c agree store fits i fr vs
    FirstLooks fr vs w = Unit {0}

    first_agree : (fr : Frame) (vs : List Value) (w : List Item) → is_inside inside s.funcs fr ≡ true → Each (Fits s.segments) vs → Each (Fits s.segments) fr.locals → EachKept (Fits s.segments) w → FirstLooks fr vs w → Above (ValueIn R s.segments) n vs → Each (ValueIn R s.segments) fr.locals → WorkIn inside s.funcs (ValueIn R s.segments) n d w → OutcomesAgree inside R n d s c (first s fr vs w) (first (with_contents s c) fr vs w)
    first_agree fr vs [] here f g k look a b z = tt
    first_agree fr vs (Do i ∷ w) here f g k look a b z = act_agree inside R n d s c agree store fits i fr vs w here (record { operands = f; locals = g; kept = k }) look a b z
    first_agree fr vs (Label k h i ∷ w) here f g e look a b z = tt
    first_agree fr vs (Activation k h caller ∷ w) here f g e look a b z = tt

    -- ---- calls of the host

    abbrev HostIn : hosting.Effect → Type 0
    HostIn (hosting.Gives vs put) = Above (ValueIn R s.segments) n vs
    HostIn (hosting.Trap why) = Unit {0}
    HostIn hosting.Stuck = Unit {0}

    host_in : (h : Host) (got : Option ℕ) (vs : List Value) → Above (ValueIn R s.segments) n vs → HostIn (host_on h got vs)
    host_in hosts.Putchar got (values.I32 k ∷ vs) a = (λ room address leads. absurd leads, a.1)
    host_in hosts.Getchar got vs a = (λ room address leads. absurd leads, a)
    host_in hosts.Abort got vs a = tt
    host_in _ got vs a = tt

    hosted_agree : (t : Thread) (took : Bool) (e : hosting.Effect) → HostIn e → ThreadIn inside s.funcs (ValueIn R s.segments) n d t → MovesAgree (hosted s t took e) (hosted (with_contents s c) t took e)
    hosted_agree t took (hosting.Gives vs put) h all = (
      refl,
      refl,
      refl,
      refl,
      same_after inside R n d s c agree store,
      exited_in (ValueIn R s.segments) (thread t.frame vs t.work) (λ deep. record { operands = h; locals = all.locals; work = all.work }),
    )
    hosted_agree t took (hosting.Trap why) h all = refl
    hosted_agree t took hosting.Stuck h all = tt

    on_agree : (got : Option ℕ) (o p : Outcome) → OutcomesAgree inside R n d s c o p → MovesAgree (move_on s got o) (move_on (with_contents s c) got p)
    on_agree got (Next s1 t1 event) (Next s2 t2 event') h = (h.0, refl, refl, h.1, h.2, h.3)
    on_agree got (Calls host t) (Calls host' t') h =
        subst (λ (x : Host). MovesAgree (hosted s t (takes host) (host_on host got t.operands)) (hosted (with_contents s c) t' (takes x) (host_on x got t'.operands))) (sym h.0)
        (subst (λ (u : Thread). MovesAgree (hosted s t (takes host) (host_on host got t.operands)) (hosted (with_contents s c) u (takes host) (host_on host got u.operands))) (sym h.1)
        (hosted_agree t (takes host) (host_on host got t.operands) (host_in host got t.operands h.2.operands) h.2))
    on_agree got (Trap why) (Trap why') h = h
    on_agree got Stuck Stuck h = tt
    on_agree got _ _ h = absurd h

    pub move_agree : (t : Thread) (got : Option ℕ) → is_inside inside s.funcs t.frame ≡ true → ThreadFits s t → FirstLooks t.frame t.operands t.work → ThreadIn inside s.funcs (ValueIn R s.segments) n d t → MovesAgree (move_for s t got) (move_for (with_contents s c) t got)
    move_agree t got here f look all =
        on_agree got (step_of s t) (step_of (with_contents s c) t) (exited_agree (begin s t) (begin (with_contents s c) t) (first_agree t.frame t.operands t.work here f.operands f.locals f.kept look all.operands all.locals all.work))
