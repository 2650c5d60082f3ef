-- How runs come to others, one part after the other.
use Rattle.std.proofs.Common.{◌≡◌, ◌≢◌, ℕ, List, ◌++◌, refl, sym, ap, subst, ◌∙◌, append_assoc}
use Rattle.ms_event.specs.declared.event.Event.{Event}
use Rattle.ms_machine.specs.Crews.{Crew, Deeds, Input, Run, Trap, behind, both, bytes_of, ends, events_of, nothing}
use Rattle.ms_machine.specs.Running.{IsLeft, MayGive, TellsAlike}
use Rattle.ms_machine.proofs.Outsides.{Content, left_all, left_trans, puts_none, puts_on, some_input, tells_same, tells_trans}
use Rattle.ms_outside.specs.Sink.{IsFront, Puts}
use Rattle.ms_outside.specs.declared.sink.Put.TheVariants as puts
use Rattle.ms_tasks.specs.refinement.Logs.{Log, all_seen, logged}
use Rattle.ms_tasks.specs.refinement.Outside.{HasBegun}
use Rattle.ms_tasks.specs.refinement.Parts.{HaltsBy, Comes, ComesTo, IsWell}
use Rattle.ms_tasks.specs.refinement.Steppers.{whose_of}
use Rattle.ms_tasks.specs.declared.burst.Halt.{Halt}
use Rattle.ms_tasks.specs.declared.burst.Halt.TheVariants as answers
use Rattle.ms_tasks.proofs.Deeds.{all_seen_both, behind_both, behind_nothing, both_bytes, both_events, logged_both, logged_nothing}

-- ---- a run comes to another

pub comes_same : (left held : Content) (run : Input → Run) → Comes left left held held nothing run run
comes_same left held run = record {
  alike = tells_same left;
  out = puts_none held held refl;
  from = λ rest may. (rest, may, left_all rest, sym (behind_nothing (run rest)));
}

pub comes_trans : (l l' l'' h h' h'' : Content) (d e : Deeds) (run mid next : Input → Run) → Comes l l' h h' d run mid → Comes l' l'' h' h'' e mid next → Comes l l'' h h'' (both d e) run next
comes_trans l l' l'' h h' h'' d e run mid next a b = record {
  alike = tells_trans l l' l'' a.alike b.alike;
  out = subst (λ bs. Puts puts.Done bs h h'') (sym (both_bytes d e)) (puts_on (bytes_of d) (bytes_of e) h h' h'' a.out b.out);
  from = λ rest may.
      let x = b.from rest may in
      let y = a.from x.0 x.1 in
      (y.0, y.1, left_trans rest x.0 y.0 x.2 y.2, y.3 ∙ (ap (behind d) x.3 ∙ behind_both d e (next rest)));
}

pub comes_as : (l l' h h' : Content) (d : Deeds) (run next next' : Input → Run) → Comes l l' h h' d run next → ((rest : Input) → next rest ≡ next' rest) → Comes l l' h h' d run next'
comes_as l l' h h' d run next next' a same = record {
  alike = a.alike;
  out = a.out;
  from = λ rest may. let x = a.from rest may in (x.0, x.1, x.2, x.3 ∙ ap (behind d) (same rest));
}

-- ---- and the log has it

pub to_same : (left held : Content) (log : Log) (run : Input → Run) → ComesTo left left held held log log run run
to_same left held log run = record { deeds = nothing; comes = comes_same left held run; log = logged_nothing log }

pub to_trans : (l l' l'' h h' h'' : Content) (old log new : Log) (run mid next : Input → Run) → ComesTo l l' h h' old log run mid → ComesTo l' l'' h' h'' log new mid next → ComesTo l l'' h h'' old new run next
to_trans l l' l'' h h' h'' old log new run mid next a b = record {
  deeds = both a.deeds b.deeds;
  comes = comes_trans l l' l'' h h' h'' a.deeds b.deeds run mid next a.comes b.comes;
  log = b.log ∙ (ap (logged b.deeds) a.log ∙ logged_both a.deeds b.deeds old);
}

pub to_as : (l l' h h' : Content) (old new : Log) (run next next' : Input → Run) → ComesTo l l' h h' old new run next → ((rest : Input) → next rest ≡ next' rest) → ComesTo l l' h h' old new run next'
to_as l l' h h' old new run next next' a same = record { deeds = a.deeds; comes = comes_as l l' h h' a.deeds run next next' a.comes same; log = a.log }

-- ---- a part of a run

-- a run was begun so
abbrev pub Begun : (l l' h h' : Content) → (old new : Log) → (run : Input → Run) → Type 0
Begun l l' h h' old new run = (given : Input) × HasBegun l l' h h' old new given (run given)

pub begun_on : (l l' l'' h h' h'' : Content) (old log new : Log) (run mid : Input → Run) → ComesTo l l' h h' old log run mid → Begun l' l'' h' h'' log new mid → Begun l l'' h h'' old new run
begun_on l l' l'' h h' h'' old log new run mid a (given, b) =
    let d = a.deeds in
    let f = a.comes.from given b.may in
    let r = mid given in (
      f.0,
      record {
        alike = tells_trans l l' l'' a.comes.alike b.alike;
        may = f.1;
        now = b.now;
        rest = b.rest;
        taken = left_trans b.now given f.0 b.taken f.2;
        to_take = subst (λ (x : Run). IsLeft x.input b.now) (sym f.3) b.to_take;
        front = bytes_of d ++ b.front;
        is_front = (b.is_front.0, ap (λ (x : Run). bytes_of x.deeds) f.3 ∙ (both_bytes d r.deeds ∙ (ap (λ bs. bytes_of d ++ bs) b.is_front.1 ∙ sym (append_assoc (bytes_of d) b.front b.is_front.0))));
        out = puts_on (bytes_of d) b.front h h' h'' a.comes.out b.out;
        seen = events_of d ++ b.seen;
        is_seen = (b.is_seen.0, ap (λ (x : Run). events_of x.deeds) f.3 ∙ (both_events d r.deeds ∙ (ap (λ es. events_of d ++ es) b.is_seen.1 ∙ sym (append_assoc (events_of d) b.seen b.is_seen.0))));
        kept = b.kept ∙ (ap (λ (x : Log). (all_seen b.seen x.trace).events) a.log ∙ ap (λ t. t.events) (sym (all_seen_both (events_of d) b.seen old.trace)));
      },
    )

-- nothing more was taken, this was put, and the log has a front of the events
pub begun_here : (l l' l'' h h' h'' : Content) (old new : Log) (d : Deeds) (run mid : Input → Run) → Comes l l' h h' d run mid → l'' ≡ l' → (front : List ℕ) → Puts puts.Done front h' h'' → ((input : Input) → IsFront front (bytes_of (mid input).deeds)) → ((input : Input) → IsLeft (mid input).input input)
    → (seen more : List Event) → events_of d ≡ seen ++ more → new.trace.events ≡ (all_seen seen old.trace).events → Begun l l'' h h'' old new run
begun_here l l' l'' h h' h'' old new d run mid c same front out fronts leaves seen more part kept =
    let rest = some_input l' in
    let f = c.from rest.0 rest.1 in
    let r = mid rest.0 in
    let first = fronts rest.0 in (
      f.0,
      record {
        alike = subst (λ (x : Content). TellsAlike l x) (sym same) c.alike;
        may = f.1;
        now = rest.0;
        rest = subst (λ (x : Content). MayGive x rest.0) (sym same) rest.1;
        taken = f.2;
        to_take = subst (λ (x : Run). IsLeft x.input rest.0) (sym f.3) (leaves rest.0);
        front = bytes_of d ++ front;
        is_front = (first.0, ap (λ (x : Run). bytes_of x.deeds) f.3 ∙ (both_bytes d r.deeds ∙ (ap (λ bs. bytes_of d ++ bs) first.1 ∙ sym (append_assoc (bytes_of d) front first.0))));
        out = puts_on (bytes_of d) front h h' h'' c.out out;
        seen = seen;
        is_seen = (more ++ events_of r.deeds, ap (λ (x : Run). events_of x.deeds) f.3 ∙ (both_events d r.deeds ∙ (ap (λ es. es ++ events_of r.deeds) part ∙ append_assoc seen more (events_of r.deeds))));
        kept = kept;
      },
    )

-- ---- answers

pub answers_on : (a : Halt) (l l' l'' h h' h'' : Content) (old log new : Log) (run mid ended paused : Input → Run) (c : Crew) → ComesTo l l' h h' old log run mid → HaltsBy a mid ended paused c l' l'' h' h'' log new → HaltsBy a run ended paused c l l'' h h'' old new
answers_on answers.Ended l l' l'' h h' h'' old log new run mid ended paused c first is = to_trans l l' l'' h h' h'' old log new run mid ended first is
answers_on answers.Paused l l' l'' h h' h'' old log new run mid ended paused c first is = to_trans l l' l'' h h' h'' old log new run mid paused first is
answers_on (answers.Trap whose why) l l' l'' h h' h'' old log new run mid ended paused c first is = to_trans l l' l'' h h' h'' old log new run mid (ends (Trap (whose_of whose) why) c) first is
answers_on answers.ReadFault l l' l'' h h' h'' old log new run mid ended paused c first is = begun_on l l' l'' h h' h'' old log new run mid first is
answers_on answers.WriteFault l l' l'' h h' h'' old log new run mid ended paused c first is = begun_on l l' l'' h h' h'' old log new run mid first is
answers_on answers.Memory l l' l'' h h' h'' old log new run mid ended paused c first is = begun_on l l' l'' h h' h'' old log new run mid first is

pub answers_as : (a : Halt) (l l' h h' : Content) (old new : Log) (run run' ended ended' paused paused' : Input → Run) (c c' : Crew) → run ≡ run' → (IsWell a → (ended ≡ ended') × (paused ≡ paused') × (c ≡ c')) → HaltsBy a run ended paused c l l' h h' old new → HaltsBy a run' ended' paused' c' l l' h h' old new
answers_as answers.Ended l l' h h' old new run run' ended ended' paused paused' c c' same with is =
    subst (λ r. ComesTo l l' h h' old new r ended') same (subst (ComesTo l l' h h' old new run) (with tt).0 is)
answers_as answers.Paused l l' h h' old new run run' ended ended' paused paused' c c' same with is =
    subst (λ r. ComesTo l l' h h' old new r paused') same (subst (ComesTo l l' h h' old new run) (with tt).1 is)
answers_as (answers.Trap whose why) l l' h h' old new run run' ended ended' paused paused' c c' same with is =
    subst (λ r. ComesTo l l' h h' old new r (ends (Trap (whose_of whose) why) c')) same (subst (λ (x : Crew). ComesTo l l' h h' old new run (ends (Trap (whose_of whose) why) x)) (with tt).2 is)
answers_as answers.ReadFault l l' h h' old new run run' ended ended' paused paused' c c' same with is = subst (Begun l l' h h' old new) same is
answers_as answers.WriteFault l l' h h' old new run run' ended ended' paused paused' c c' same with is = subst (Begun l l' h h' old new) same is
answers_as answers.Memory l l' h h' old new run run' ended ended' paused paused' c c' same with is = subst (Begun l l' h h' old new) same is

-- what isn't its answer may be anything
pub not_paused : (a : Halt) (l l' h h' : Content) (old new : Log) (run ended paused paused' : Input → Run) (c : Crew) → a ≢ answers.Paused → HaltsBy a run ended paused c l l' h h' old new → HaltsBy a run ended paused' c l l' h h' old new
not_paused answers.Ended l l' h h' old new run ended paused paused' c not is = is
not_paused answers.Paused l l' h h' old new run ended paused paused' c not is = absurd (not refl)
not_paused (answers.Trap whose why) l l' h h' old new run ended paused paused' c not is = is
not_paused answers.ReadFault l l' h h' old new run ended paused paused' c not is = is
not_paused answers.WriteFault l l' h h' old new run ended paused paused' c not is = is
not_paused answers.Memory l l' h h' old new run ended paused paused' c not is = is

pub not_ended : (a : Halt) (l l' h h' : Content) (old new : Log) (run ended ended' paused : Input → Run) (c : Crew) → a ≢ answers.Ended → HaltsBy a run ended paused c l l' h h' old new → HaltsBy a run ended' paused c l l' h h' old new
not_ended answers.Ended l l' h h' old new run ended ended' paused c not is = absurd (not refl)
not_ended answers.Paused l l' h h' old new run ended ended' paused c not is = is
not_ended (answers.Trap whose why) l l' h h' old new run ended ended' paused c not is = is
not_ended answers.ReadFault l l' h h' old new run ended ended' paused c not is = is
not_ended answers.WriteFault l l' h h' old new run ended ended' paused c not is = is
not_ended answers.Memory l l' h h' old new run ended ended' paused c not is = is
