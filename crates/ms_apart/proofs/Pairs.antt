-- Two crews, in one of which others have run: what is kept of them by each step.
use Rattle.std.proofs.Common.{◌≡◌, ℕ, ◌+◌, ◌≤◌, inl, inr, Bool, true, false, cond, [], slice_get, slice_set, Option, Some, None, refl, sym, ap, ◌∙◌, subst, arith}
use Rattle.std.proofs.lemmas.Bool.{cases_Bool, cases_eq, eq-eqb, ne_eqb}
use Rattle.ms_event.specs.declared.event.Event.{Event}
use Rattle.ms_event.specs.declared.event.Event.TheVariants as events
use Rattle.ms_task.specs.Thread.{Thread}
use Rattle.ms_machine.specs.Crews.{Crew, with_task}
use Rattle.ms_machine.specs.refinement.Holding.{StoreFits, ThreadFits}
use Rattle.ms_machine.specs.Moves.{Goes, move_for}
use Rattle.ms_machine.specs.Store.{Store}
use Rattle.ms_machine.proofs.HeldFits.{thread_fits_grows}
use Rattle.ms_machine.proofs.Moving.{move_keeps}
use Rattle.ms_apart.specs.refinement.Renaming.{Renaming, rename_thread}
use Rattle.ms_apart.specs.refinement.Apart.{Alike, IsOld, IsSided, Owned, Separated, Sides, Stepped, StoreStep, ThreadOn, global, kept, makes, memory, owned_after, plain, renamed_after, segments}
use Rattle.ms_apart.proofs.Lists.{get_set_other, get_set_same}
use Rattle.ms_apart.proofs.Moves.{MoveOn, move_on_side}
use Rattle.ms_apart.proofs.Others.{others_kept, others_made, separated_kept, separated_made}
use Rattle.ms_apart.proofs.Stepping.{thread_moves}

-- ---- what doesn't change

module _ (sides : Sides) (own : Owned) (side : Bool) (s : Store) where
  sided_stays : (s1 : Store) → StoreStep sides own side s s1 → IsSided sides s → IsSided sides s1
  sided_stays s1 kept x = x
  sided_stays s1 (global a g v p q o) x = record { funcs = x.funcs; tables = x.tables; memories = x.memories; globals = x.globals; entries = x.entries }
  sided_stays s1 (memory a n p) x = record { funcs = x.funcs; tables = x.tables; memories = x.memories; globals = x.globals; entries = x.entries }
  sided_stays s1 (segments m p) x = record { funcs = x.funcs; tables = x.tables; memories = x.memories; globals = x.globals; entries = x.entries }

  thread_stays : (s1 : Store) → StoreStep sides own side s s1 → (other : Owned) (b : Bool) (u : Thread) → ThreadOn sides other b s u → ThreadOn sides other b s1 u
  thread_stays s1 kept other b u x = x
  thread_stays s1 (global a g v p q o) other b u x = record { function = x.function; callers = x.callers; values = x.values }
  thread_stays s1 (memory a n p) other b u x = record { function = x.function; callers = x.callers; values = x.values }
  thread_stays s1 (segments m p) other b u x = record { function = x.function; callers = x.callers; values = x.values }

-- what is so after a step of a side, where a new identity is that side's
pub record After (sides : Sides) (own own1 : Owned) (side : Bool) (s s1 : Store) (t : Thread) : Type 0 where
  pub sided : IsSided sides s1
  pub separated : Separated sides own1 s1
  pub on : ThreadOn sides own1 side s1 t
  pub others : (b : Bool) (u : Thread) → ThreadFits s u → ThreadOn sides own b s u → ThreadOn sides own1 b s1 u

pub after_step : (sides : Sides) (own own1 : Owned) (side : Bool) (s s1 : Store) (t : Thread) (event : Option Event) → IsSided sides s → Separated sides own s → StoreFits s → Stepped sides own side s s1 t event
    → (IsOld event → own1 ≡ own) → ((i : ℕ) → i ≤ s.segments.made → own1 i ≡ own i) → ((size base : ℕ) → event ≡ Some (events.Alloc (s.segments.made + 1) base size) → own1 (s.segments.made + 1) ≡ side)
    → After sides own own1 side s s1 t
after_step sides own own1 side s s1 t event sided separated fits (plain _ _ _ old step on) same agree new =
    subst (λ o. After sides own o side s s1 t) (sym (same old))
    (record {
      sided = sided_stays sides own side s s1 step sided;
      separated = separated_kept sides own side s s1 fits.segments separated step;
      on = thread_stays sides own side s s1 step own side t on;
      others = λ b u fit x. thread_stays sides own side s s1 step own b u x;
    })
after_step sides own own1 side s s1 t event sided separated fits (makes size base kind _ placed on) same agree new =
    let x = on own1 agree (new size base refl) in
    record {
      sided = record { funcs = sided.funcs; tables = sided.tables; memories = sided.memories; globals = sided.globals; entries = sided.entries };
      separated = separated_made sides own own1 s size base kind agree fits placed separated;
      on = record { function = x.function; callers = x.callers; values = x.values };
      others = λ b u fit y. let z = thread_moves sides own own1 b s u agree fit y in record { function = z.function; callers = z.callers; values = z.values };
    }

-- ---- a step of the component's own

pub old_owned : (event : Option Event) (own : Owned) → IsOld event → owned_after event own ≡ own
old_owned None own old = refl
old_owned (Some (events.Alloc id addr size)) own old = absurd old
old_owned (Some (events.Refused size)) own old = refl
old_owned (Some (events.Seal id lo hi)) own old = refl
old_owned (Some (events.Slice sealed id lo hi lo2 hi2)) own old = refl
old_owned (Some (events.Read sealed id lo hi addr width)) own old = refl
old_owned (Some (events.Write id lo hi addr width)) own old = refl
old_owned (Some (events.Free id)) own old = refl

own_agrees : (sides : Sides) (own : Owned) (s s1 : Store) (t : Thread) (event : Option Event) → Stepped sides own true s s1 t event → (i : ℕ) → i ≤ s.segments.made → owned_after event own i ≡ own i
own_agrees sides own s s1 t event (plain _ _ _ old step on) i low = ap (λ (o : Owned). o i) (old_owned event own old)
own_agrees sides own s s1 t event (makes size base kind _ placed on) i low = ap (λ b. cond b true (own i)) (ne_eqb i (s.segments.made + 1) (λ e. omega (arith, e, low)))

own_new : (own : Owned) (made : ℕ) (event : Option Event) (size base : ℕ) → event ≡ Some (events.Alloc (made + 1) base size) → owned_after event own (made + 1) ≡ true
own_new own made event size base e = subst (λ x. owned_after x own (made + 1) ≡ true) (sym e) (ap (λ b. cond b true (own (made + 1))) (eq-eqb (made + 1) (made + 1) refl))

pub own_after : (sides : Sides) (own : Owned) (s s1 : Store) (t : Thread) (event : Option Event) → IsSided sides s → Separated sides own s → StoreFits s → Stepped sides own true s s1 t event → After sides own (owned_after event own) true s s1 t
own_after sides own s s1 t event sided separated fits x =
    after_step sides own (owned_after event own) true s s1 t event sided separated fits x (old_owned event own) (own_agrees sides own s s1 t event x) (own_new own s.segments.made event)

-- ---- a step of another

unmade : (sides : Sides) (own : Owned) (r : Renaming) (s s' : Store) → Alike sides own r s s' → own (s.segments.made + 1) ≡ false
unmade sides own r s s' alike =
    elim (cases_Bool (own (s.segments.made + 1))) [
      | inl mine ↦ absurd (let low = (alike.segments.made (s.segments.made + 1) mine).0 in omega (arith, low))
      | inr other ↦ other
    ]

pub other_after : (sides : Sides) (own : Owned) (r : Renaming) (s s1 s' : Store) (t : Thread) (event : Option Event) → IsSided sides s → Separated sides own s → StoreFits s → Alike sides own r s s' → Stepped sides own false s s1 t event → After sides own own false s s1 t
other_after sides own r s s1 s' t event sided separated fits alike x =
    after_step sides own own false s s1 t event sided separated fits x (λ old. refl) (λ i low. refl) (λ size base e. unmade sides own r s s' alike)

pub other_alike : (sides : Sides) (own : Owned) (r : Renaming) (s s1 s' : Store) (t : Thread) (event : Option Event) → StoreFits s → Alike sides own r s s' → Stepped sides own false s s1 t event → Alike sides own r s1 s'
other_alike sides own r s s1 s' t event fits alike (plain _ _ _ old step on) = others_kept sides own r s s1 s' fits.segments alike step
other_alike sides own r s s1 s' t event fits alike (makes size base kind _ placed on) = others_made sides own r s s' size base kind fits.segments placed alike

-- ---- the crews

pub record Paired (sides : Sides) (n absent : ℕ) (own : Owned) (r : Renaming) (c c' : Crew) (task : Thread) : Type 0 where
  pub chain : c.chain ≡ []
  pub chain' : c'.chain ≡ []
  pub sided : IsSided sides c.store
  pub alike : Alike sides own r c.store c'.store
  pub separated : Separated sides own c.store
  pub fits : StoreFits c.store
  pub fits' : StoreFits c'.store
  pub mine : slice_get c.tasks n ≡ Some task
  pub mine' : slice_get c'.tasks n ≡ Some (rename_thread r task)
  pub on : ThreadOn sides own true c.store task
  pub task_fits : ThreadFits c.store task
  pub task_fits' : ThreadFits c'.store (rename_thread r task)
  pub others : (k : ℕ) (u : Thread) → (k ≡ n → ⊥) → slice_get c.tasks k ≡ Some u → ThreadOn sides own false c.store u × ThreadFits c.store u
  pub missing : slice_get c'.tasks absent ≡ None
  pub apart : absent ≡ n → ⊥

module _ (sides : Sides) (n absent : ℕ) (own : Owned) (r : Renaming) (c c' : Crew) (task : Thread) (p : Paired sides n absent own r c c' task) where
  pub paired_own : (got : Option ℕ) (s1 s1' : Store) (t1 : Thread) (took : Bool) (put : Option ℕ) (event event' : Option Event) → move_for c.store task got ≡ Goes s1 t1 took put event → move_for c'.store (rename_thread r task) got ≡ Goes s1' (rename_thread (renamed_after event event' r) t1) took put event'
      → Alike sides (owned_after event own) (renamed_after event event' r) s1 s1' → Paired sides n absent (owned_after event own) (renamed_after event event' r) (with_task c n s1 t1) (with_task c' n s1' (rename_thread (renamed_after event event' r) t1)) t1
  paired_own got s1 s1' t1 took put event event' is is' alike =
      let stepped : Stepped sides own true c.store s1 t1 event = subst (MoveOn sides own true c.store p.sided p.separated p.fits.segments) is (move_on_side sides own true c.store p.sided p.separated p.fits.segments task got p.on p.task_fits) in
      let after = own_after sides own c.store s1 t1 event p.sided p.separated p.fits stepped in
      let keeps = move_keeps c.store s1 task t1 got took put event p.fits p.task_fits is in
      let keeps' = move_keeps c'.store s1' (rename_thread r task) (rename_thread (renamed_after event event' r) t1) got took put event' p.fits' p.task_fits' is' in
      record {
        chain = p.chain;
        chain' = p.chain';
        sided = after.sided;
        alike = alike;
        separated = after.separated;
        fits = keeps.0;
        fits' = keeps'.0;
        mine = get_set_same c.tasks n t1 task p.mine;
        mine' = get_set_same c'.tasks n (rename_thread (renamed_after event event' r) t1) (rename_thread r task) p.mine';
        on = after.on;
        task_fits = keeps.1;
        task_fits' = keeps'.1;
        others = λ k u other at. let x = p.others k u other (sym (get_set_other c.tasks n k t1 other) ∙ at) in (after.others false u x.1 x.0, thread_fits_grows c.store s1 u keeps.3 x.1);
        missing = get_set_other c'.tasks n absent (rename_thread (renamed_after event event' r) t1) p.apart ∙ p.missing;
        apart = p.apart;
      }

  pub paired_other : (k : ℕ) (u : Thread) (got : Option ℕ) (s1 : Store) (t1 : Thread) (took : Bool) (put : Option ℕ) (event : Option Event) → (k ≡ n → ⊥) → slice_get c.tasks k ≡ Some u → move_for c.store u got ≡ Goes s1 t1 took put event
      → Paired sides n absent own r (with_task c k s1 t1) c' task
  paired_other k u got s1 t1 took put event other at is =
      let x = p.others k u other at in
      let stepped : Stepped sides own false c.store s1 t1 event = subst (MoveOn sides own false c.store p.sided p.separated p.fits.segments) is (move_on_side sides own false c.store p.sided p.separated p.fits.segments u got x.0 x.1) in
      let after = other_after sides own r c.store s1 c'.store t1 event p.sided p.separated p.fits p.alike stepped in
      let keeps = move_keeps c.store s1 u t1 got took put event p.fits x.1 is in
      record {
        chain = p.chain;
        chain' = p.chain';
        sided = after.sided;
        alike = other_alike sides own r c.store s1 c'.store t1 event p.fits p.alike stepped;
        separated = after.separated;
        fits = keeps.0;
        fits' = p.fits';
        mine = get_set_other c.tasks k n t1 (λ e. other (sym e)) ∙ p.mine;
        mine' = p.mine';
        on = after.others true task p.task_fits p.on;
        task_fits = thread_fits_grows c.store s1 task keeps.3 p.task_fits;
        task_fits' = p.task_fits';
        others = λ j v other' at'. elim (cases_eq j k) [
          | inl e ↦
              let same : Some t1 ≡ Some v = sym (get_set_same c.tasks k t1 u at) ∙ subst (λ i. slice_get (slice_set c.tasks k t1) i ≡ Some v) e at' in
              let is_v : t1 ≡ v = cc in
              subst (λ w. ThreadOn sides own false s1 w × ThreadFits s1 w) is_v (after.on, keeps.1)
          | inr ne ↦ let y = p.others j v other' (sym (get_set_other c.tasks k j t1 ne) ∙ at') in (after.others false v y.1 y.0, thread_fits_grows c.store s1 v keeps.3 y.1)
        ];
        missing = p.missing;
        apart = p.apart;
      }
