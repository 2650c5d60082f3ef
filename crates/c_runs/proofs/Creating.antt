-- An object is made: the grant that the meaning takes is the one that the machine gives.
use Rattle.std.proofs.Common.{◌≡◌, ℕ, ◌*◌, inl, inr, List, [], ◌∷◌, ◌++◌, length, append-nil, Bool, true, false, Some, refl, sym, ap, ◌∙◌, arith, subst}
use Rattle.std.specs.Prelude.{slice_get}
use Rattle.ms_event.specs.declared.event.Event.{Event}
use Rattle.ms_event.specs.declared.event.Event.TheVariants as events
use Rattle.ms_event.specs.Monitor.{grants}
use Rattle.ms_handle.specs.declared.handle.Handle.TheVariants as handles
use Rattle.ms_linear.specs.declared.value.Value.{Value as Word}
use Rattle.ms_linear.specs.declared.value.Value.TheVariants.{I32, Handle}
use Rattle.ms_machine.specs.Crews.{by_work}
use Rattle.ms_machine.specs.Segments.{segment_on}
use Rattle.ms_machine.specs.Step as step
use Rattle.ms_machine.specs.Step.{act}
use Rattle.ms_module.specs.declared.access.Segment.TheVariants as segment
use Rattle.ms_module.specs.declared.instr.Instr.{Instr}
use Rattle.ms_module.specs.declared.instr.Instr.TheVariants.{Segment}
use Rattle.ms_segment.specs.Memory.{Memory}
use Rattle.ms_task.specs.Control.{exit_ended}
use Rattle.ms_task.specs.Thread.{Do, Item, Thread, thread}
use Rattle.c_meaning.specs.Shapes.{Shape, size}
use Rattle.c_meaning.specs.Objects.{Kind, new_object, to_object}
use Rattle.c_meaning.specs.World.{ungranted, World}
use Rattle.c_meaning.specs.Accesses.{asked, with_object}
use Rattle.ms_relate.specs.refinement.Acts.{NewActs, new_created, new_refused}
use Rattle.ms_relate.specs.refinement.Homes.{Home, handle}
use Rattle.ms_relate.specs.refinement.Laid.{Fits}
use Rattle.ms_relate.specs.refinement.Relation.{Related, kind_of}
use Rattle.ms_relate.proofs.Acts.{act_gives, new_acts}
use Rattle.ms_relate.proofs.Growing.{Extends, slice_get-push_new, slice_get-push_old}
use Rattle.c_runs.specs.Threads.{Paused, Ran, ran, steps_to}
use Rattle.c_runs.proofs.Goes as goes
use Rattle.c_runs.proofs.Goes.{Goes, Mem, Stops, Tells, given, tells_nothing}
use Rattle.c_runs.proofs.Grants.{Agrees, Fit}
use Rattle.c_runs.proofs.Files.{filed_still}
use Rattle.c_runs.proofs.Held.{held_still, words_still}
use Rattle.c_runs.proofs.Lasting.{lasts_push, lasts_trans, open_on}
use Rattle.c_runs.proofs.Related.{Env, Kept, Now, extends_trans, frame_of}
use Rattle.c_runs.proofs.Ops.{at_work}
use Rattle.c_runs.proofs.Steps.{event_goes}

-- a grant that is the other one isn't taken
never_fits_true : (gs : List Bool) → Fit (true ∷ []) (false ∷ gs) → ⊥
never_fits_true gs (inl h) = absurd (let e = h.1 in cc)
never_fits_true gs (inr h) = absurd (let e = h.1 in cc)

never_fits_false : (gs : List Bool) → Fit (false ∷ []) (true ∷ gs) → ⊥
never_fits_false gs (inl h) = absurd (let e = h.1 in cc)
never_fits_false gs (inr h) = absurd (let e = h.1 in cc)

none_told : (w : List Item) (a b : Ran) → a.events ≡ [] → b.events ≡ [] → (by_work w a b).events ≡ []
none_told [] a b p q = p
none_told (i ∷ w) a b p q = q

module _ (E : Env) (now : Now) (k : Kind) (s : Shape) (n : ℕ) (fits : Fits s) (vs : List Word) (r : List Item) (w : World) (m : Mem) (kept : Kept E now w m) where
  abbrev bytes : ℕ
  bytes = n * size s

  abbrev i : Instr
  i = Segment (segment.New (kind_of k))

  abbrev pub t : Thread
  t = at_work E m w (I32 bytes ∷ vs) (Do i ∷ r)

  -- with the object, and without it
  abbrev pub made_world : List Bool → World
  made_world gs = with_object (new_object k s n) (asked gs bytes w)

  abbrev pub refused_world : List Bool → World
  refused_world gs = asked gs bytes w

  pub record Made (gs : List Bool) : Type 0 where
    pub mem : Mem
    pub keeps : Kept E now (made_world gs) mem
    pub home : Home
    pub at : slice_get mem.homes (length w.objects) ≡ Some home
    pub shape_is : home.shape ≡ s
    pub count_is : home.count ≡ n
    pub same_temps : mem.temps ≡ m.temps
    pub goes : Goes E.site 1 w (made_world gs) m t mem (at_work E mem (made_world gs) (Handle (handle mem.homes (to_object (length w.objects))) ∷ vs) r)

  pub data NewGoes : Type 0 where
    granted : (gs : List Bool) → w.grants ≡ true ∷ gs → Made gs → NewGoes
    refused' : (gs : List Bool) → w.grants ≡ false ∷ gs → Goes E.site 1 w (refused_world gs) m t m (at_work E m (refused_world gs) (Handle handles.Null ∷ vs) r) → NewGoes
    unasked : w.grants ≡ [] → Stops E.site 1 w w m t ungranted → NewGoes

  -- what one step tells
  first_told : (m' : Mem) (t' : Thread) (e : Event) → act (goes.store E.site m) i (thread (frame_of E m w) (I32 bytes ∷ vs) r) ≡ step.Next (goes.store E.site m') t' (Some e)
      → grants (steps_to E.site.last 1 (goes.store E.site m) t (given w)).events ≡ grants (e ∷ [])
  first_told m' t' e q =
      ap (λ (o : step.Outcome). grants (Rattle.c_runs.specs.Threads.after_move (Rattle.ms_machine.specs.Moves.move_on (goes.store E.site m) (Rattle.ms_machine.specs.Moves.first_of (given w)) (step.exited o)) (given w) (steps_to E.site.last 0)).events) q
      ∙ ap (λ (es : List Event). grants (e ∷ es)) (none_told (Rattle.ms_task.specs.Control.exited t').work _ (ran Paused) (E.site.still (goes.store E.site m') _ (given w)) refl)

  -- it asks for one, and none is left
  asks_for : (e : Event) (b : Bool) → grants (e ∷ []) ≡ b ∷ [] → grants (steps_to E.site.last 1 (goes.store E.site m) t (given w)).events ≡ grants (e ∷ []) → w.grants ≡ [] → NewGoes
  asks_for e b one told none = unasked none (record {
    puts = [];
    events = [];
    tells = tells_nothing w w refl refl refl;
    is = none;
    cost = 0;
    least = omega arith;
    greatest = omega arith;
    so = refl;
    asks = ap (λ (l : List Bool). length l) (told ∙ one);
  })

  created : (id base : ℕ) (seg : Memory) → Related E.unit.structs E.places (m.homes ++ record { id = id; shape = s; count = n } ∷ []) (w.objects ++ new_object k s n ∷ []) seg
      → segment_on (segment.New (kind_of k)) m.segments (I32 bytes ∷ vs) ≡ Rattle.ms_machine.specs.Segments.Gives (Handle (handle (m.homes ++ record { id = id; shape = s; count = n } ∷ []) (to_object (length w.objects))) ∷ vs) seg (Some (events.Alloc id base bytes))
      → (gs : List Bool) → w.grants ≡ true ∷ gs → Made gs
  created id base seg related is gs e =
      let home : Home = record { id = id; shape = s; count = n } in
      let hs = m.homes ++ home ∷ [] in
      let m' : Mem = record m { segments = seg; homes = hs } in
      let more : Extends m.homes hs = λ j h at. slice_get-push_old m.homes home j h at in
      let w' = made_world gs in
      let top = Handle (handle hs (to_object (length w.objects))) in
      let long = kept.related.long in
      let push = lasts_push w.objects (new_object k s n) in
      record {
        mem = m';
        keeps = record {
          held = held_still E.unit.structs E.places m.homes hs more E.kinds w.locals kept.held;
          deep = kept.deep;
          less = kept.less;
          bytes = kept.bytes;
          temps = kept.temps;
          grown = extends_trans now.homes m.homes hs kept.grown more;
          related = related;
          open' = open_on E.kinds now.visible w.objects w'.objects w.locals push kept.open';
          apart = kept.apart;
          own = kept.own;
          lasts = lasts_trans now.objects w.objects w'.objects kept.lasts push;
          file = filed_still E.unit.structs E.places E.files E.reached E.site.shared m.homes hs more w.globals w.literals m.globals kept.file;
        };
        home = home;
        at = subst (λ (j : ℕ). slice_get hs j ≡ Some home) long (slice_get-push_new m.homes home);
        shape_is = refl;
        count_is = refl;
        same_temps = refl;
        goes = subst (λ (ws : List Word). Goes E.site 1 w w' m t m' (exit_ended (record { function = E.fn; locals = E.args ++ (ws ++ m.temps) }) (top ∷ vs) r)) (sym (words_still E.unit.structs E.places m.homes hs more E.kinds w.locals kept.held))
            (event_goes E.site w w' m m' i (frame_of E m w) (I32 bytes ∷ vs) r (thread (frame_of E m w) (top ∷ vs) r) (Some (events.Alloc id base bytes)) refl refl
            (record { output = sym (append-nil w.output); sizes = refl; grants = e })
            (act_gives (goes.store E.site m) (frame_of E m w) r (segment.New (kind_of k)) (I32 bytes ∷ vs) (top ∷ vs) seg (Some (events.Alloc id base bytes)) is));
      }

  pub new_goes : Agrees E.site.last (goes.store E.site m) t (given w) w.grants → NewGoes
  new_goes ag = by (new_acts E.unit.structs E.places m.homes m.segments w.objects k s n kept.related fits) where
    fit : (e : Event) → grants (steps_to E.site.last 1 (goes.store E.site m) t (given w)).events ≡ grants (e ∷ []) → Fit (grants (e ∷ [])) w.grants
    fit e told = subst (λ (l : List Bool). Fit l w.grants) told (ag 1)

    by : NewActs E.unit.structs E.places m.homes w.objects m.segments k s n bytes (λ rest. segment_on (segment.New (kind_of k)) m.segments (I32 bytes ∷ rest)) → NewGoes
    by (new_created {id} {base} {after} related is) = go w.grants refl where
      home : Home
      home = record { id = id; shape = s; count = n }

      e : Event
      e = events.Alloc id base bytes

      us : List Word
      us = Handle (handle (m.homes ++ home ∷ []) (to_object (length w.objects))) ∷ vs

      told : grants (steps_to E.site.last 1 (goes.store E.site m) t (given w)).events ≡ true ∷ []
      told = first_told (record m { segments = after }) (thread (frame_of E m w) us r) e
          (act_gives (goes.store E.site m) (frame_of E m w) r (segment.New (kind_of k)) (I32 bytes ∷ vs) us after (Some e) (is vs))

      go : (gs : List Bool) → w.grants ≡ gs → NewGoes
      go [] q = asks_for e true refl told q
      go (true ∷ gs) q = granted gs q (created id base after related (is vs) gs q)
      go (false ∷ gs) q = absurd (never_fits_true gs (subst (λ (l : List Bool). Fit (true ∷ []) l) q (fit e told)))
    by (new_refused is) = go w.grants refl where
      e : Event
      e = events.Refused bytes

      us : List Word
      us = Handle handles.Null ∷ vs

      acts : act (goes.store E.site m) i (thread (frame_of E m w) (I32 bytes ∷ vs) r) ≡ step.Next (goes.store E.site m) (thread (frame_of E m w) us r) (Some e)
      acts = act_gives (goes.store E.site m) (frame_of E m w) r (segment.New (kind_of k)) (I32 bytes ∷ vs) us m.segments (Some e) (is vs)

      told : grants (steps_to E.site.last 1 (goes.store E.site m) t (given w)).events ≡ false ∷ []
      told = first_told m (thread (frame_of E m w) us r) e acts

      go : (gs : List Bool) → w.grants ≡ gs → NewGoes
      go [] q = asks_for e false refl told q
      go (true ∷ gs) q = absurd (never_fits_false gs (subst (λ (l : List Bool). Fit (false ∷ []) l) q (fit e told)))
      go (false ∷ gs) q = refused' gs q
          (event_goes E.site w (refused_world gs) m m i (frame_of E m w) (I32 bytes ∷ vs) r (thread (frame_of E m w) us r) (Some e) refl refl
          (record { output = sym (append-nil w.output); sizes = refl; grants = q }) acts)
