-- What a step of one side leaves: the handles of each side stay its own, and what is alike on the other side stays alike.
use Rattle.std.proofs.Common.{◌≡◌, ◌==◌, ℕ, ◌+◌, ◌≤◌, inl, inr, Bool, true, false, not, List, [], ◌∷◌, Option, Some, None, length, map, option_map, slice_get, slice_set, replicate, refl, sym, ap, ◌∙◌, subst, arith, zero, suc}
use Rattle.std.specs.List.{Contains}
use Rattle.std.proofs.lemmas.Bool.{cases_eq, eqb-true, ne_eqb}
use Rattle.std.proofs.lemmas.List.Elements.{All-contains}
use Rattle.ms_handle.specs.declared.handle.Handle.{Handle}
use Rattle.ms_handle.specs.declared.handle.Handle.TheVariants as handles
use Rattle.ms_handle.specs.declared.handle.Kind.{Kind}
use Rattle.ms_linear.specs.declared.global.GlobalInst.{GlobalInst}
use Rattle.ms_linear.specs.declared.value.Value.{Value}
use Rattle.ms_linear.specs.declared.value.Value.TheVariants as values
use Rattle.ms_live.specs.declared.gaps.Live.{Live}
use Rattle.ms_live.specs.Place.{IsPlace}
use Rattle.ms_machine.specs.refinement.Holding.{Fits, StoreFits}
use Rattle.ms_machine.specs.Step.{value_in}
use Rattle.ms_machine.specs.Store.{Store, with_segments}
use Rattle.ms_machine.proofs.HeldValues.{OptionHolds, global_get}
use Rattle.ms_segment.specs.Memory.{IsFit, IsSound, Memory, live_of, with_bytes}
use Rattle.ms_segment.specs.Parts.{entered, with_ended}
use Rattle.ms_segment.proofs.Finds.{Contains-drop, Contains-take, find-filter_gone, find-filter_kept}
use Rattle.ms_tagged.specs.Bytes.{Byte, Data, Piece}
use Rattle.ms_apart.specs.refinement.Renaming.{Renaming, rename_byte, rename_global}
use Rattle.ms_apart.specs.refinement.Apart.{Alike, EachByte, HandleOn, MemoryAlike, MemoryStep, Owned, SegmentAlike, SegmentOn, Separated, Sides, StoreStep, ValueOn, contents, counted, ended, global, kept, memory, same, segments, written}
use Rattle.ms_apart.proofs.Bytes.{bytes_overwritten, contents_other, contents_written}
use Rattle.ms_segment.proofs.Standing.{live_is, new_live, old_live}
use Rattle.ms_apart.proofs.Lists.{get_set_other, get_set_same}
use Rattle.ms_apart.proofs.Making.{new_contents, old_contents}

pub live_gone : (m : Memory) (i : ℕ) → live_of (with_ended m i) i ≡ None
live_gone m i = find-filter_gone (λ (t : Live). t.id == i) (λ (t : Live). not (t.id == i)) m.live (λ t is. ap not is)

pub live_stays : (m : Memory) (i j : ℕ) → (j ≡ i → ⊥) → live_of (with_ended m i) j ≡ live_of m j
live_stays m i j other = find-filter_kept (λ (t : Live). t.id == j) (λ (t : Live). not (t.id == i)) m.live (λ t is. ap not (ne_eqb t.id i (λ e. other (sym (eqb-true t.id j is) ∙ e))))

-- ---- the handles of each side

module _ (own : Owned) (side : Bool) (m : Memory) (sound : IsSound m) (on : (id : ℕ) → SegmentOn own m (own id) (live_of m id)) where
  there_on : (i k j : ℕ) (s : Live) (new : List Byte) → live_of m i ≡ Some s → k + length new ≤ s.size → (j ≡ i → ⊥) → (o : Option Live) → live_of m j ≡ o → SegmentOn own m (own j) o → SegmentOn own (with_bytes m (s.base + k) new) (own j) o
  there_on i k j s new live within other None e x = tt
  there_on i k j s new live within other (Some t) e x = subst (EachByte (HandleOn own (own j))) (sym (contents_other m j i t s k new sound e live other within)) x

  here_on : (i k : ℕ) (s : Live) (new : List Byte) → own i ≡ side → live_of m i ≡ Some s → k + length new ≤ s.size → EachByte (HandleOn own side) new → SegmentOn own (with_bytes m (s.base + k) new) (own i) (Some s)
  here_on i k s new mine live within fresh =
      subst (EachByte (HandleOn own (own i))) (sym (contents_written m i s k new sound live within)) (bytes_overwritten (HandleOn own (own i)) k new (contents m s) (subst (λ b. EachByte (HandleOn own b) new) (sym mine) fresh) (subst (SegmentOn own m (own i)) live (on i)))

  pub memory_stays_on : (n : Memory) → MemoryStep own side m n → (j : ℕ) → SegmentOn own n (own j) (live_of n j)
  memory_stays_on n same j = on j
  memory_stays_on n counted j = on j
  memory_stays_on n (ended i mine) j =
      elim (cases_eq j i) [
        | inl is ↦ subst (λ x. SegmentOn own (with_ended m i) (own x) (live_of (with_ended m i) x)) (sym is) (subst (SegmentOn own (with_ended m i) (own i)) (sym (live_gone m i)) tt)
        | inr other ↦ subst (SegmentOn own (with_ended m i) (own j)) (sym (live_stays m i j other)) (on j)
      ]
  memory_stays_on n (written i k s new mine live within fresh) j =
      elim (cases_eq j i) [
        | inl is ↦ subst (λ x. SegmentOn own (with_bytes m (s.base + k) new) (own x) (live_of m x)) (sym is) (subst (SegmentOn own (with_bytes m (s.base + k) new) (own i)) (sym live) (here_on i k s new mine live within fresh))
        | inr other ↦ there_on i k j s new live within other (live_of m j) refl (on j)
      ]

pub separated_kept : (sides : Sides) (own : Owned) (side : Bool) (s s1 : Store) → IsSound s.segments → Separated sides own s → StoreStep sides own side s s1 → Separated sides own s1
separated_kept sides own side s s1 sound x kept = x
separated_kept sides own side s s1 sound x (global a g v mine is on) =
    record {
      globals = λ b h is'. elim (cases_eq b a) [
        | inl e ↦
            let found : Some (record { value = v; mutable = g.mutable }) ≡ Some h = sym (get_set_same s.globals a (record { value = v; mutable = g.mutable }) g is) ∙ subst (λ c. slice_get (slice_set s.globals a (record { value = v; mutable = g.mutable })) c ≡ Some h) e is' in
            let value : v ≡ h.value = by h found in
            subst (λ c. ValueOn own (sides.globals c) h.value) (sym e) (subst (ValueOn own (sides.globals a)) value (subst (λ c. ValueOn own c v) (sym mine) on))
        | inr other ↦ x.globals b h (sym (get_set_other s.globals a b (record { value = v; mutable = g.mutable }) other) ∙ is')
      ];
      segments = x.segments;
    }
  where
    by : (h : GlobalInst) → Some (record { value = v; mutable = g.mutable }) ≡ Some h → v ≡ h.value
    by h e = ap (λ (o : Option GlobalInst). from o) e where
      from : Option GlobalInst → Value
      from None = v
      from (Some y) = y.value
separated_kept sides own side s s1 sound x (memory a n mine) = record { globals = x.globals; segments = x.segments }
separated_kept sides own side s s1 sound x (segments m step) = record { globals = x.globals; segments = memory_stays_on own side s.segments sound x.segments m step }

-- ---- a new segment, which is of the side

module _ (own own1 : Owned) (m : Memory) (agree : (i : ℕ) → i ≤ m.made → own1 i ≡ own i) where
  handle_moves : (side : Bool) (h : Handle) → IsFit m h → HandleOn own side h → HandleOn own1 side h
  handle_moves side handles.Null fit x = tt
  handle_moves side handles.Broken fit x = tt
  handle_moves side (handles.Good sealed id base size offset) fit x = agree id fit.1 ∙ x

  pub value_moves : (side : Bool) (v : Value) → Fits m v → ValueOn own side v → ValueOn own1 side v
  value_moves side (values.I32 n) fit x = tt
  value_moves side (values.I64 n) fit x = tt
  value_moves side (values.Handle h) fit x = handle_moves side h fit x

  bytes_move : (side : Bool) (xs : List Byte) → ((h : Handle) (i : ℕ) → Contains xs (Piece h i) → IsFit m h) → EachByte (HandleOn own side) xs → EachByte (HandleOn own1 side) xs
  bytes_move side [] fit x = tt
  bytes_move side (Data n ∷ xs) fit x = bytes_move side xs (λ h i has. fit h i (suc has.0, omega (arith, has.1), has.2)) x
  bytes_move side (Piece h i ∷ xs) fit x = (handle_moves side h (fit h i (zero, omega arith, refl)) x.0, bytes_move side xs (λ g j has. fit g j (suc has.0, omega (arith, has.1), has.2)) x.1)

  module _ (side : Bool) (size base : ℕ) (kind : Kind) (sound : IsSound m) (placed : IsPlace m.live (length m.bytes) size (Some base)) (on : (id : ℕ) → SegmentOn own m (own id) (live_of m id)) where
    zeros_on : (n : ℕ) (b : Bool) → EachByte (HandleOn own1 b) (replicate n (Data 0))
    zeros_on zero b = tt
    zeros_on (suc n) b = zeros_on n b

    old_on : (j : ℕ) (o : Option Live) → live_of m j ≡ o → SegmentOn own m (own j) o → SegmentOn own1 (entered m base size kind) (own1 j) o
    old_on j None e x = tt
    old_on j (Some s) e x =
        let is = live_is m j s e in
        let low = All-contains (λ (t : Live). (1 ≤ t.id) × (t.id ≤ m.made)) m.live s sound.placed.ids is.0 in
        let named = is.1 in
        subst (EachByte (HandleOn own1 (own1 j))) (sym (old_contents m size base kind sound placed j s e))
        (subst (λ b. EachByte (HandleOn own1 b) (contents m s)) (sym (agree j (omega (arith, low.1, named)))) (bytes_move (own j) (contents m s) (λ h i has. sound.kept h i (Contains-drop s.base m.bytes (Piece h i) (Contains-take s.size _ (Piece h i) has))) x))

    pub memory_made_on : (j : ℕ) → SegmentOn own1 (entered m base size kind) (own1 j) (live_of (entered m base size kind) j)
    memory_made_on j =
        elim (cases_eq j (m.made + 1)) [
          | inl is ↦ subst (λ x. SegmentOn own1 (entered m base size kind) (own1 x) (live_of (entered m base size kind) x)) (sym is)
              (subst (SegmentOn own1 (entered m base size kind) (own1 (m.made + 1))) (sym (new_live m size base kind sound.placed))
              (subst (EachByte (HandleOn own1 (own1 (m.made + 1)))) (sym (new_contents m size base kind sound placed)) (zeros_on size (own1 (m.made + 1)))))
          | inr other ↦ subst (SegmentOn own1 (entered m base size kind) (own1 j)) (sym (old_live m size base kind j other)) (old_on j (live_of m j) refl (on j))
        ]

pub separated_made : (sides : Sides) (own own1 : Owned) (s : Store) (size base : ℕ) (kind : Kind) → ((i : ℕ) → i ≤ s.segments.made → own1 i ≡ own i) → StoreFits s → IsPlace s.segments.live (length s.segments.bytes) size (Some base) → Separated sides own s → Separated sides own1 (with_segments s (entered s.segments base size kind))
separated_made sides own own1 s size base kind agree fits placed x =
    record {
      globals = λ a g is. value_moves own own1 s.segments agree (sides.globals a) g.value (subst (OptionHolds (Fits s.segments)) (ap value_in is) (global_get (Fits s.segments) s.globals a fits.globals)) (x.globals a g is);
      segments = memory_made_on own own1 s.segments agree true size base kind fits.segments placed x.segments;
    }

-- ---- what is alike on the side of a component, behind a step of the other side

module _ (own : Owned) (r : Renaming) (m m' : Memory) (alike : MemoryAlike own r m m') (sound : IsSound m) where
  mine_is : (i j : ℕ) → own i ≡ false → own j ≡ true → j ≡ i → ⊥
  mine_is i j other mine e = let h : true ≡ false = sym mine ∙ (ap own e ∙ other) in cc

  still : (i k j : ℕ) (s : Live) (new : List Byte) → live_of m i ≡ Some s → k + length new ≤ s.size → (j ≡ i → ⊥) → (o o' : Option Live) → live_of m j ≡ o → SegmentAlike r m m' o o' → SegmentAlike r (with_bytes m (s.base + k) new) m' o o'
  still i k j s new live within other None None e x = tt
  still i k j s new live within other (Some t) (Some t') e x = (x.0, x.1, x.2 ∙ ap (map (rename_byte r)) (sym (contents_other m j i t s k new sound e live other within)))
  still i k j s new live within other None (Some t') e x = absurd x
  still i k j s new live within other (Some t) None e x = absurd x

  pub memory_others : (n : Memory) → MemoryStep own false m n → MemoryAlike own r n m'
  memory_others n same = alike
  memory_others n counted = record { made = alike.made; different = alike.different; segments = alike.segments }
  memory_others n (ended i other) =
      record { made = alike.made; different = alike.different; segments = λ j mine. subst (λ o. SegmentAlike r m m' o (live_of m' (r j))) (sym (live_stays m i j (mine_is i j other mine))) (alike.segments j mine) }
  memory_others n (written i k s new other live within fresh) =
      record { made = alike.made; different = alike.different; segments = λ j mine. still i k j s new live within (mine_is i j other mine) (live_of m j) (live_of m' (r j)) refl (alike.segments j mine) }

  module _ (size base : ℕ) (kind : Kind) (placed : IsPlace m.live (length m.bytes) size (Some base)) where
    still_made : (j : ℕ) (o o' : Option Live) → live_of m j ≡ o → SegmentAlike r m m' o o' → SegmentAlike r (entered m base size kind) m' o o'
    still_made j None None e x = tt
    still_made j (Some t) (Some t') e x = (x.0, x.1, x.2 ∙ ap (map (rename_byte r)) (sym (old_contents m size base kind sound placed j t e)))
    still_made j None (Some t') e x = absurd x
    still_made j (Some t) None e x = absurd x

    pub memory_others_made : MemoryAlike own r (entered m base size kind) m'
    memory_others_made =
        record {
          made = λ i mine. let low = alike.made i mine in (omega (arith, low.0), low.1);
          different = alike.different;
          segments = λ j mine.
              let low = alike.made j mine in
              subst (λ o. SegmentAlike r (entered m base size kind) m' o (live_of m' (r j))) (sym (old_live m size base kind j (λ e. omega (arith, e, low.0)))) (still_made j (live_of m j) (live_of m' (r j)) refl (alike.segments j mine));
        }

pub others_kept : (sides : Sides) (own : Owned) (r : Renaming) (s s1 s' : Store) → IsSound s.segments → Alike sides own r s s' → StoreStep sides own false s s1 → Alike sides own r s1 s'
others_kept sides own r s s1 s' sound x kept = x
others_kept sides own r s s1 s' sound x (global a g v other is on) =
    record {
      funcs = x.funcs;
      instances = x.instances;
      tables = x.tables;
      memories = x.memories;
      globals = λ b mine. x.globals b mine ∙ ap (option_map (rename_global r)) (sym (get_set_other s.globals a b (record { value = v; mutable = g.mutable }) (λ e. let h : true ≡ false = sym mine ∙ (ap sides.globals e ∙ other) in cc)));
      segments = x.segments;
    }
others_kept sides own r s s1 s' sound x (memory a n other) =
    record {
      funcs = x.funcs;
      instances = x.instances;
      tables = x.tables;
      memories = λ b mine. x.memories b mine ∙ sym (get_set_other s.memories a b n (λ e. let h : true ≡ false = sym mine ∙ (ap sides.memories e ∙ other) in cc));
      globals = x.globals;
      segments = x.segments;
    }
others_kept sides own r s s1 s' sound x (segments m step) =
    record { funcs = x.funcs; instances = x.instances; tables = x.tables; memories = x.memories; globals = x.globals; segments = memory_others own r s.segments s'.segments x.segments sound m step }

pub others_made : (sides : Sides) (own : Owned) (r : Renaming) (s s' : Store) (size base : ℕ) (kind : Kind) → IsSound s.segments → IsPlace s.segments.live (length s.segments.bytes) size (Some base) → Alike sides own r s s' → Alike sides own r (with_segments s (entered s.segments base size kind)) s'
others_made sides own r s s' size base kind sound placed x =
    record { funcs = x.funcs; instances = x.instances; tables = x.tables; memories = x.memories; globals = x.globals; segments = memory_others_made own r s.segments s'.segments x.segments sound size base kind placed }
