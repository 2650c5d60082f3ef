-- A new segment is an allocation that the monitor accepts, and where none is made there is no room for it.
use Rattle.std.proofs.Common.{◌≡◌, ℕ, ◌+◌, ◌-◌, ◌<◌, ◌≤◌, ◌⊎◌, inl, inr, false, [], ◌∷◌, ◌++◌, Some, None, length, replicate, pos, refl, sym, ap, subst, ◌∙◌, zero-add, arith}
use Rattle.std.specs.List.{Contains}
use Rattle.std.proofs.lemmas.Bool.{cases_lt}
use Rattle.std.proofs.lemmas.List.{length-map, map_push}
use Rattle.std.proofs.lemmas.List.Elements.{All-contains, All-push, All-replicate, All-weaker, Contains-append_cases, Contains-append_left, Contains-append_right, Contains-get_or, Contains-push, Contains-push_cases}
use Rattle.ms_event.specs.declared.event.Event.{Event}
use Rattle.ms_event.specs.declared.event.Event.TheVariants as events
use Rattle.ms_event.specs.Monitor.{IsGap, IsUnpainted, May, Paint, State, after, after_all, coat, most_live, shade_of}
use Rattle.ms_handle.specs.declared.handle.Handle.{Handle}
use Rattle.ms_handle.specs.declared.handle.Handle.TheVariants as handles
use Rattle.ms_handle.specs.declared.handle.Kind.{Kind}
use Rattle.ms_live.specs.declared.gaps.Live.{Live}
use Rattle.ms_live.specs.Place.{IsFree, IsOutside, IsPlace}
use Rattle.ms_segment.specs.Calls.{make}
use Rattle.ms_segment.specs.Memory.{IsSound, Makes, Memory, full, made, no_room}
use Rattle.ms_segment.specs.Parts.{entered}
use Rattle.ms_segment.proofs.Effects.{make_makes}
use Rattle.ms_segment.proofs.Finds.{Contains-overwritten}
use Rattle.ms_segment.proofs.Keeps.{length-Makes}
use Rattle.ms_segment.proofs.Sound.{IsData}
use Rattle.ms_tagged.specs.Bytes.{Data, Piece}
use Rattle.ms_machine.specs.Running.{with_event}
use Rattle.ms_machine.specs.refinement.Safety.{IsMonitored, IsPaintOf, KnowsHandle}
use Rattle.ms_machine.proofs.SafePaints.{coat_has, coat_is, paint, paint_is}
use Rattle.ms_machine.proofs.SafeStates.{Follows, Grows, grows-refl, handle_grows}

module _ (state : State) (m : Memory) (monitored : IsMonitored state m) where
  -- ---- places

  as_many : length state.live ≡ length m.live
  as_many = ap length monitored.live ∙ length-map m.live (λ (s : Live). s.id)

  -- addresses outside of each live segment are unpainted
  gap_from_free : (capacity address size : ℕ) → IsFree m.live capacity size address → IsGap capacity state address size
  gap_from_free capacity address size free k below = (
    (free k below).0,
    λ colour place painted.
        let is = (monitored.painted (paint (address + k) colour place)).0 painted in
        let s : Live = is.0 in
        let under = is.3 in
        let at = is.4 in
        let out : s.base + s.size ≤ address + k = All-contains (IsOutside (address + k)) m.live s (free k below).1 is.1 (omega (arith, at)) in
        omega (arith, at, under, out),
  )

  outside : (address : ℕ) (s : Live) → IsUnpainted state address → Contains m.live s → IsOutside address s
  outside address s unpainted has from =
      elim (cases_lt address (s.base + s.size)) [
        | inl inside ↦ absurd (unpainted s.id (address - s.base) ((monitored.painted (paint address s.id (address - s.base))).1 (s, has, refl, omega arith, omega arith)))
        | inr past ↦ past
      ]

  -- and unpainted addresses lie there
  free_from_gap : (capacity address size : ℕ) → IsGap capacity state address size → IsFree m.live capacity size address
  free_from_gap capacity address size gap k below =
      ((gap k below).0, λ i d inside. outside (address + k) _ (gap k below).1 (Contains-get_or m.live i d inside))

  -- ---- a new segment

  abbrev made_state : ℕ → ℕ → State
  made_state base size = after state (events.Alloc (m.made + 1) base size)

  makes_grows : (base size : ℕ) → Grows state (made_state base size)
  makes_grows base size = record {
    used = λ colour has. Contains-append_left state.used ((m.made + 1) ∷ []) colour has;
    shades = λ shade has. Contains-append_left state.shades (shade_of false (m.made + 1) 0 size ∷ []) shade has;
  }

  alloc_may : (base size : ℕ) → length m.live < most_live → IsPlace m.live (length m.bytes) size (Some base) → May (length m.bytes) state (events.Alloc (m.made + 1) base size)
  alloc_may base size few placed =
      (omega (arith, as_many, few), λ has. let below = ((monitored.used (m.made + 1)).0 has).1 in omega arith, placed.0, gap_from_free (length m.bytes) base size placed.1)

  -- the addresses that are painted then
  made_paints : (base size : ℕ) (kind : Kind) (p : Paint) → Contains (made_state base size).painted p → IsPaintOf (entered m base size kind) p
  made_paints base size kind p has =
      elim (Contains-append_cases state.painted (coat (m.made + 1) base size) p has) [
        | inl old ↦ let is = (monitored.painted p).0 old in (is.0, Contains-append_left m.live (record { id = m.made + 1; base = base; size = size; kind = kind } ∷ []) is.0 is.1, is.2, is.3, is.4)
        | inr new ↦ let is = coat_is (m.made + 1) base size p new in (record { id = m.made + 1; base = base; size = size; kind = kind }, Contains-push m.live _, is.0, is.1, is.2)
      ]

  made_painted : (base size : ℕ) (kind : Kind) (p : Paint) → IsPaintOf (entered m base size kind) p → Contains (made_state base size).painted p
  made_painted base size kind p is =
      elim (Contains-push_cases m.live (record { id = m.made + 1; base = base; size = size; kind = kind }) is.0 is.1) [
        | inl old ↦ Contains-append_left state.painted (coat (m.made + 1) base size) p ((monitored.painted p).1 (is.0, old, is.2, is.3, is.4))
        | inr new ↦
            let colour : p.colour ≡ m.made + 1 = is.2 ∙ ap (λ (s : Live). s.id) (sym new) in
            let below : p.place < size = subst (λ (s : Live). p.place < s.size) (sym new) is.3 in
            let address : p.address ≡ base + p.place = subst (λ (s : Live). p.address ≡ s.base + p.place) (sym new) is.4 in
            Contains-append_right state.painted (coat (m.made + 1) base size) p (subst (Contains (coat (m.made + 1) base size)) (paint_is p (base + p.place) (m.made + 1) p.place address colour refl) (coat_has (m.made + 1) base size p.place below))
      ]

  made_used : (base size colour : ℕ) → Contains (made_state base size).used colour → (1 ≤ colour) × (colour ≤ m.made + 1)
  made_used base size colour has =
      elim (Contains-push_cases state.used (m.made + 1) colour has) [
        | inl old ↦ let between = (monitored.used colour).0 old in (between.0, omega (arith, between.1))
        | inr same ↦ (omega (arith, same), omega (arith, same))
      ]

  used_made : (base size colour : ℕ) → 1 ≤ colour → colour ≤ m.made + 1 → Contains (made_state base size).used colour
  used_made base size colour from to =
      elim (cases_lt colour (m.made + 1)) [
        | inl below ↦ Contains-append_left state.used ((m.made + 1) ∷ []) colour ((monitored.used colour).1 (from, omega arith))
        | inr past ↦ let same : m.made + 1 ≡ colour = omega arith in subst (Contains (state.used ++ (m.made + 1) ∷ [])) same (Contains-push state.used (m.made + 1))
      ]

  made_pieces : (base size : ℕ) (kind : Kind) (h : Handle) (i : ℕ) → Contains (entered m base size kind).bytes (Piece h i) → KnowsHandle (made_state base size) h
  made_pieces base size kind h i has =
      elim (Contains-overwritten base (replicate size (Data 0)) m.bytes (Piece h i) has) [
        | inl new ↦ absurd (All-contains IsData (replicate size (Data 0)) (Piece h i) (All-replicate IsData size (Data 0) tt) new)
        | inr old ↦ handle_grows state (made_state base size) (makes_grows base size) h (monitored.pieces h i old)
      ]

  made_monitored : (base size : ℕ) (kind : Kind) → IsMonitored (made_state base size) (entered m base size kind)
  made_monitored base size kind =
      let new : Live = record { id = m.made + 1; base = base; size = size; kind = kind } in
      let rooted : State → Live → Type 0 = λ t s. Contains t.shades (shade_of false s.id 0 s.size) in
      record {
        live = ap (λ ids. ids ++ (m.made + 1) ∷ []) monitored.live ∙ sym (map_push (λ (s : Live). s.id) m.live new);
        painted = λ p. (made_paints base size kind p, made_painted base size kind p);
        roots = All-push (rooted (made_state base size)) m.live new (All-weaker (rooted state) (rooted (made_state base size)) (λ s has. (makes_grows base size).shades _ has) m.live monitored.roots) (Contains-push state.shades (shade_of false (m.made + 1) 0 size));
        used = λ colour. (made_used base size colour, λ between. used_made base size colour between.0 between.1);
        pieces = made_pieces base size kind;
      }

  made_known : (base size : ℕ) → KnowsHandle (made_state base size) (handles.Good false (m.made + 1) 0 size (pos 0))
  made_known base size =
      let root = Contains-push state.shades (shade_of false (m.made + 1) 0 size) in
      (Contains-push state.used (m.made + 1), subst (λ n. Contains (made_state base size).shades (shade_of false (m.made + 1) 0 n)) (sym (zero-add size)) root)

  -- ---- none made

  refused_may : (size : ℕ) → (length m.live ≡ most_live) ⊎ IsPlace m.live (length m.bytes) size None → May (length m.bytes) state (events.Refused size)
  refused_may size none =
      elim none [
        | inl all ↦ inl (as_many ∙ all)
        | inr nowhere ↦ inr (λ address aligned gap. nowhere address aligned (free_from_gap (length m.bytes) address size gap))
      ]

  refused_follows : (size : ℕ) → (length m.live ≡ most_live) ⊎ IsPlace m.live (length m.bytes) size None → Follows state m (Some (events.Refused size)) m
  refused_follows size none = record { may = (refused_may size none, tt); monitored = monitored; grows = grows-refl state; capacity = refl }

  -- ---- the call

  makes_follows : (size : ℕ) (kind : Kind) (h : Handle) (e : Event) (m' : Memory) → Makes m size kind h e m' → Follows state m (Some e) m' × KnowsHandle (after_all state (with_event (Some e) [])) h
  makes_follows size kind h e m' (made {base} few placed) = (
    record {
      may = (alloc_may base size few placed, tt);
      monitored = made_monitored base size kind;
      grows = makes_grows base size;
      capacity = length-Makes m size kind h e m' (made few placed);
    },
    made_known base size,
  )
  makes_follows size kind h e m' (full all) = (refused_follows size (inl all), tt)
  makes_follows size kind h e m' (no_room none) = (refused_follows size (inr none), tt)

  -- A segment that is made, or that there is no room for, is told as it is. The new handle is known.
  pub make_follows : (size : ℕ) (kind : Kind) → IsSound m → Follows state m (Some (make m size kind).event) (make m size kind).memory × KnowsHandle (after_all state (with_event (Some (make m size kind).event) [])) (make m size kind).handle
  make_follows size kind sound = makes_follows size kind _ _ _ (make_makes m size kind sound)
