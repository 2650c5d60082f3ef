-- The end of a segment is a free that the monitor accepts.
use Rattle.std.proofs.Common.{◌≡◌, ◌==◌, ℕ, true, false, not, List, Option, Some, None, Result, Ok, Err, is_some, refl, sym, ap, subst, ◌∙◌}
use Rattle.std.specs.List.{Contains, filter, find}
use Rattle.std.proofs.lemmas.Bool.{eqb-true}
use Rattle.std.proofs.lemmas.List.Elements.{All-filter}
use Rattle.ms_event.specs.declared.event.Event.TheVariants as events
use Rattle.ms_event.specs.Monitor.{Paint, State, after, shade_of}
use Rattle.ms_handle.specs.declared.handle.Handle.{Handle}
use Rattle.ms_handle.specs.declared.handle.Kind.{Kind}
use Rattle.ms_live.specs.declared.gaps.Live.{Live}
use Rattle.ms_live.specs.Place.{contains_id}
use Rattle.ms_live.proofs.Found.{find-Some, is_some-find}
use Rattle.ms_segment.specs.Calls.{Change, ended_at, free}
use Rattle.ms_segment.specs.declared.trap.SegTrap.{SegTrap}
use Rattle.ms_segment.specs.Memory.{Memory, freed}
use Rattle.ms_segment.specs.Parts.{with_ended}
use Rattle.ms_segment.proofs.Reach.{freed-live}
use Rattle.ms_machine.specs.refinement.Safety.{IsMonitored, IsPaintOf}
use Rattle.ms_machine.proofs.SafePaints.{Contains-filter, Contains-filtered, Contains-map, filter-map}
use Rattle.ms_machine.proofs.SafeStates.{Follows}

-- a live segment of the identity
found_at : (live : List Live) (id : ℕ) (o : Option Live) → find (λ s. s.id == id) live ≡ o → is_some o ≡ true → (s : Live) × Contains live s × (s.id ≡ id)
found_at live id None is some = cc
found_at live id (Some s) is some = let found = find-Some (λ (t : Live). t.id == id) live s is in (s, found.0, eqb-true s.id id found.1)

live_at : (live : List Live) (id : ℕ) → contains_id id live ≡ true → (s : Live) × Contains live s × (s.id ≡ id)
live_at live id has = found_at live id (find (λ s. s.id == id) live) refl (is_some-find (λ (s : Live). s.id == id) live ∙ has)

module _ (state : State) (m : Memory) (monitored : IsMonitored state m) where
  -- what is left, of the addresses and of the segments
  ended_paints : (id : ℕ) (p : Paint) → Contains (after state (events.Free id)).painted p → IsPaintOf (with_ended m id) p
  ended_paints id p has =
      let kept = Contains-filtered (λ (q : Paint). not (q.colour == id)) state.painted p has in
      let is = (monitored.painted p).0 kept.0 in
      (is.0, Contains-filter (λ (s : Live). not (s.id == id)) m.live is.0 is.1 (subst (λ c. not (c == id) ≡ true) is.2 kept.1), is.2, is.3, is.4)

  ended_painted : (id : ℕ) (p : Paint) → IsPaintOf (with_ended m id) p → Contains (after state (events.Free id)).painted p
  ended_painted id p is =
      let kept = Contains-filtered (λ (s : Live). not (s.id == id)) m.live is.0 is.1 in
      Contains-filter (λ (q : Paint). not (q.colour == id)) state.painted p ((monitored.painted p).1 (is.0, kept.0, is.2, is.3, is.4)) (subst (λ c. not (c == id) ≡ true) (sym is.2) kept.1)

  ended_monitored : (id : ℕ) → IsMonitored (after state (events.Free id)) (with_ended m id)
  ended_monitored id = record {
    live = ap (filter (λ colour. not (colour == id))) monitored.live ∙ filter-map (λ (s : Live). s.id) (λ colour. not (colour == id)) m.live;
    painted = λ p. (ended_paints id p, ended_painted id p);
    roots = All-filter (λ (s : Live). not (s.id == id)) (λ (s : Live). Contains state.shades (shade_of false s.id 0 s.size)) m.live monitored.roots;
    used = monitored.used;
    pieces = monitored.pieces;
  }

  ended_follows : (id : ℕ) (s : Live) → Contains m.live s → s.id ≡ id → Follows state m (Some (events.Free id)) (with_ended m id)
  ended_follows id s has is = record {
    may = (subst (Contains state.live) is (subst (λ ids. Contains ids s.id) (sym monitored.live) (Contains-map (λ (t : Live). t.id) m.live s has)), tt);
    monitored = ended_monitored id;
    grows = record { used = λ colour known. known; shades = λ shade known. known };
    capacity = refl;
  }

  ended_at_follows : (r : Result ℕ SegTrap) (c : Change) → ended_at m r ≡ Ok c → ((id : ℕ) → r ≡ Ok id → contains_id id m.live ≡ true) → Follows state m (Some c.event) c.memory
  ended_at_follows (Ok id) c is live =
      let there = live_at m.live id (live id refl) in
      let same : record { event = events.Free id; memory = with_ended m id } ≡ c = cc in
      subst (λ (x : Change). Follows state m (Some x.event) x.memory) same (ended_follows id there.0 there.1 there.2)
  ended_at_follows (Err e) c is live = cc

  pub free_follows : (h : Handle) (kind : Kind) (c : Change) → free m h kind ≡ Ok c → Follows state m (Some c.event) c.memory
  free_follows h kind c is = ended_at_follows (freed m h kind) c is (λ id ends. freed-live m h kind id ends)
