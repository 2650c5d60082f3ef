-- The events of a task in two runs have the same ranks and places.
use Rattle.std.proofs.Common.{◌≡◌, ◌==◌, ℕ, zero, suc, ◌+◌, ◌-◌, ◌≤◌, inl, inr, Bool, true, false, cond, List, [], ◌∷◌, ◌++◌, length, Option, Some, None, refl, sym, ap, ◌∙◌, subst, arith}
use Rattle.std.proofs.lemmas.Bool.{cases_eq, eq-eqb, ne_eqb}
use Rattle.std.proofs.lemmas.List.{length-append}
use Rattle.ms_event.specs.declared.event.Event.{Event}
use Rattle.ms_event.specs.declared.event.Event.TheVariants as events
use Rattle.ms_live.specs.declared.gaps.Live.{Live}
use Rattle.ms_machine.specs.Crews.{Task, Whose, marked}
use Rattle.ms_machine.specs.Store.{Store}
use Rattle.ms_segment.specs.Memory.{IsSound, Memory, live_of}
use Rattle.ms_segment.specs.Parts.{entered}
use Rattle.ms_segment.proofs.Standing.{new_live, old_live}
use Rattle.ms_task.specs.Thread.{Thread}
use Rattle.ms_apart.specs.refinement.Renaming.{Renaming}
use Rattle.ms_apart.specs.refinement.Apart.{EventAlike, IsOld, MemoryAlike, Owned, SegmentAlike, Sides, Stepped, base_in, makes, owned_after, plain, renamed_after}
use Rattle.ms_apart.specs.Ranks.{Place, grown, rank, ranked, shown, start}
use Rattle.ms_apart.proofs.Lists.{same_Some}
use Rattle.ms_apart.proofs.Pairs.{old_owned}
use Rattle.ms_apart.proofs.Steady.{live_stood, made_stood}

abbrev pub grown_by : Option Event → List Place → List Place
grown_by None ps = ps
grown_by (Some e) ps = grown ps e

-- ---- one place more

abbrev pub EachLow : ℕ → List Place → Type 0
EachLow n [] = Unit {0}
EachLow n (p ∷ ps) = (p.id ≤ n) × EachLow n ps

low_grows : (m n : ℕ) (ps : List Place) → m ≤ n → EachLow m ps → EachLow n ps
low_grows m n [] le x = tt
low_grows m n (p ∷ ps) le x = ((let low = x.0 in omega (arith, le, low)), low_grows m n ps le x.1)

low_push : (n : ℕ) (ps : List Place) (p : Place) → EachLow n ps → p.id ≤ n → EachLow n (ps ++ p ∷ [])
low_push n [] p x low = (low, tt)
low_push n (q ∷ ps) p x low = (x.0, low_push n ps p x.1 low)

-- the rank of another identity, where one is made behind these
abbrev later : List Place → ℕ → ℕ
later [] k = suc k
later (q ∷ ps) zero = zero
later (q ∷ ps) (suc k) = suc (later ps k)

later_same : (ps ps' : List Place) (k : ℕ) → length ps' ≡ length ps → later ps' k ≡ later ps k
later_same [] [] k e = refl
later_same [] (q ∷ ps') k e = absurd (omega (arith, e))
later_same (q ∷ ps) [] k e = absurd (omega (arith, e))
later_same (q ∷ ps) (q' ∷ ps') zero e = refl
later_same (q ∷ ps) (q' ∷ ps') (suc k) e = ap suc (later_same ps ps' k (omega (arith, e)))

module _ (p : Place) where
  start_other : (ps : List Place) (id : ℕ) → (p.id ≡ id → ⊥) → start (ps ++ p ∷ []) id ≡ start ps id
  start_other [] id other = ap (λ b. cond b p.address 0) (ne_eqb p.id id other)
  start_other (q ∷ ps) id other = ap (λ k. cond (q.id == id) q.address k) (start_other ps id other)

  rank_other : (ps : List Place) (id : ℕ) → (p.id ≡ id → ⊥) → rank (ps ++ p ∷ []) id ≡ later ps (rank ps id)
  rank_other [] id other = ap (λ b. cond b 0 (suc 0)) (ne_eqb p.id id other)
  rank_other (q ∷ ps) id other = by (q.id == id) (rank_other ps id other) where
    by : (b : Bool) → rank (ps ++ p ∷ []) id ≡ later ps (rank ps id) → cond b 0 (suc (rank (ps ++ p ∷ []) id)) ≡ later (q ∷ ps) (cond b 0 (suc (rank ps id)))
    by true e = refl
    by false e = ap suc e

  module _ (n : ℕ) (new : p.id ≡ n + 1) where
    start_new : (ps : List Place) → EachLow n ps → start (ps ++ p ∷ []) p.id ≡ p.address
    start_new [] low = ap (λ b. cond b p.address 0) (eq-eqb p.id p.id refl)
    start_new (q ∷ ps) low =
        ap (λ b. cond b q.address (start (ps ++ p ∷ []) p.id)) (ne_eqb q.id p.id (λ e. let l = low.0 in omega (arith, l, e, new))) ∙ start_new ps low.1

    rank_new : (ps : List Place) → EachLow n ps → rank (ps ++ p ∷ []) p.id ≡ length ps
    rank_new [] low = ap (λ b. cond b 0 (suc 0)) (eq-eqb p.id p.id refl)
    rank_new (q ∷ ps) low =
        ap (λ b. cond b 0 (suc (rank (ps ++ p ∷ []) p.id))) (ne_eqb q.id p.id (λ e. let l = low.0 in omega (arith, l, e, new))) ∙ (let e = rank_new ps low.1 in omega (arith, e))

-- ---- what is known of the places in one run: of the segments with P they tell where these lie

pub record Told (P : ℕ → Type 0) (m : Memory) (ps : List Place) : Type 0 where
  pub low : EachLow m.made ps
  pub starts : (id : ℕ) (s : Live) → P id → live_of m id ≡ Some s → start ps id ≡ s.base

grown_old : (event : Option Event) (ps : List Place) → IsOld event → grown_by event ps ≡ ps
grown_old None ps old = refl
grown_old (Some (events.Alloc id addr size)) ps old = absurd old
grown_old (Some (events.Refused size)) ps old = refl
grown_old (Some (events.Seal id lo hi)) ps old = refl
grown_old (Some (events.Slice sealed id lo hi lo2 hi2)) ps old = refl
grown_old (Some (events.Read sealed id lo hi addr width)) ps old = refl
grown_old (Some (events.Write id lo hi addr width)) ps old = refl
grown_old (Some (events.Free id)) ps old = refl

module _ (P P1 : ℕ → Type 0) (ps : List Place) (sides : Sides) (own : Owned) (side : Bool) (s : Store) (sound : IsSound s.segments) (told : Told P s.segments ps) where
  -- a step that is told
  pub told_step : (s1 : Store) (t : Thread) (event : Option Event) → Stepped sides own side s s1 t event → (IsOld event → (id : ℕ) → P1 id → P id) → ((size base : ℕ) → event ≡ Some (events.Alloc (s.segments.made + 1) base size) → (id : ℕ) → (id ≡ s.segments.made + 1 → ⊥) → P1 id → P id) → Told P1 s1.segments (grown_by event ps)
  told_step s1 t event (plain _ _ _ old step on) same fresh =
      subst (Told P1 s1.segments) (sym (grown_old event ps old))
      (record { low = subst (λ n. EachLow n ps) (sym (made_stood sides own side s s1 step)) told.low; starts = λ id l p live. told.starts id l (same old id p) (live_stood sides own side s s1 step id l live) })
  told_step s1 t event (makes size base kind _ placed on) same fresh =
      let m = s.segments in
      let q : Place = record { id = m.made + 1; address = base } in
      let now = entered m base size kind in
      record {
        low = low_push (m.made + 1) ps q (low_grows m.made (m.made + 1) ps (omega arith) told.low) (omega arith);
        starts = λ id l p live. elim (cases_eq id (m.made + 1)) [
          | inl e ↦
              let here : record { id = m.made + 1; base = base; size = size; kind = kind } ≡ l = same_Some (live_of now (m.made + 1)) (record { id = m.made + 1; base = base; size = size; kind = kind }) l (new_live m size base kind sound.placed) (subst (λ j. live_of now j ≡ Some l) e live) in
              ap (start (ps ++ q ∷ [])) e ∙ (start_new q m.made refl ps told.low ∙ ap (λ (x : Live). x.base) here)
          | inr other ↦ start_other q ps id (λ e. other (sym e)) ∙ told.starts id l (fresh size base refl id other p) (sym (old_live m size base kind id other) ∙ live)
        ];
      }

-- a step that isn't told, of a thread that makes nothing with P
module _ (P : ℕ → Type 0) (ps : List Place) (sides : Sides) (own : Owned) (side : Bool) (s : Store) (told : Told P s.segments ps) where
  pub told_still : (s1 : Store) (t : Thread) (event : Option Event) → Stepped sides own side s s1 t event → ((id : ℕ) → P id → id ≡ s.segments.made + 1 → ⊥) → Told P s1.segments ps
  told_still s1 t event (plain _ _ _ old step on) fresh =
      record { low = subst (λ n. EachLow n ps) (sym (made_stood sides own side s s1 step)) told.low; starts = λ id l p live. told.starts id l p (live_stood sides own side s s1 step id l live) }
  told_still s1 t event (makes size base kind _ placed on) fresh =
      record {
        low = low_grows s.segments.made (s.segments.made + 1) ps (omega arith) told.low;
        starts = λ id l p live. told.starts id l p (sym (old_live s.segments size base kind id (fresh id p)) ∙ live);
      }

-- ---- what is known of those in both

abbrev pub Any : ℕ → Type 0
Any id = Unit {0}

abbrev pub Mine : Owned → ℕ → Type 0
Mine own id = own id ≡ true

pub record Counted (own : Owned) (r : Renaming) (m m' : Memory) (ps ps' : List Place) : Type 0 where
  pub long : length ps' ≡ length ps
  pub ranks : (id : ℕ) → own id ≡ true → rank ps' (r id) ≡ rank ps id
  pub told : Told (Mine own) m ps
  pub told' : Told Any m' ps'

-- ---- after a step of the task's own

abbrev is_alloc : Event → Bool
is_alloc (events.Alloc id addr size) = true
is_alloc (events.Refused size) = false
is_alloc (events.Seal id lo hi) = false
is_alloc (events.Slice sealed id lo hi lo2 hi2) = false
is_alloc (events.Read sealed id lo hi addr width) = false
is_alloc (events.Write id lo hi addr width) = false
is_alloc (events.Free id) = false

abbrev is_making : Option Event → Bool
is_making None = false
is_making (Some e) = is_alloc e

grown_not : (ps : List Place) (event : Option Event) → is_making event ≡ false → grown_by event ps ≡ ps
grown_not ps None e = refl
grown_not ps (Some (events.Alloc id addr size)) e = absurd cc
grown_not ps (Some (events.Refused size)) e = refl
grown_not ps (Some (events.Seal id lo hi)) e = refl
grown_not ps (Some (events.Slice sealed id lo hi lo2 hi2)) e = refl
grown_not ps (Some (events.Read sealed id lo hi addr width)) e = refl
grown_not ps (Some (events.Write id lo hi addr width)) e = refl
grown_not ps (Some (events.Free id)) e = refl

-- a new segment has the next identity
abbrev IsNext : ℕ → Option Event → Type 0
IsNext made (Some (events.Alloc id addr size)) = id ≡ made + 1
IsNext made event = Unit {0}

next_old : (made : ℕ) (event : Option Event) → IsOld event → IsNext made event
next_old made None old = tt
next_old made (Some (events.Alloc id addr size)) old = absurd old
next_old made (Some (events.Refused size)) old = tt
next_old made (Some (events.Seal id lo hi)) old = tt
next_old made (Some (events.Slice sealed id lo hi lo2 hi2)) old = tt
next_old made (Some (events.Read sealed id lo hi addr width)) old = tt
next_old made (Some (events.Write id lo hi addr width)) old = tt
next_old made (Some (events.Free id)) old = tt

pub step_next : (sides : Sides) (own : Owned) (side : Bool) (s s1 : Store) (t : Thread) (event : Option Event) → Stepped sides own side s s1 t event → IsNext s.segments.made event
step_next sides own side s s1 t event (plain _ _ _ old step on) = next_old s.segments.made event old
step_next sides own side s s1 t event (makes size base kind _ placed on) = refl

module _ (own : Owned) (r : Renaming) (m m' : Memory) (alike : MemoryAlike own r m m') (ps ps' : List Place) (counted : Counted own r m m' ps ps') where
  -- an access, by what it shows
  place_alike : (id id' : ℕ) (a a' : ℕ) → own id ≡ true → (s : Live) × (live_of m id ≡ Some s) → id' ≡ r id → a' - base_in (live_of m' id') ≡ a - base_in (live_of m id) → (rank ps' id' ≡ rank ps id) × (a' - start ps' id' ≡ a - start ps id)
  place_alike id id' a a' mine live is at = (
    ap (rank ps') is ∙ counted.ranks id mine,
    ap (λ i. a' - start ps' i) is ∙ (ap (λ b. a' - b) there' ∙ (ap (λ i. a' - base_in (live_of m' i)) (sym is) ∙ (at ∙ ap (λ b. a - b) (sym there)))),
  ) where
    there : start ps id ≡ base_in (live_of m id)
    there = counted.told.starts id live.0 mine live.1 ∙ sym (ap base_in live.1)

    by : (o : Option Live) → live_of m' (r id) ≡ o → SegmentAlike r m m' (Some live.0) o → start ps' (r id) ≡ base_in o
    by None e x = absurd x
    by (Some s) e x = counted.told'.starts (r id) s tt e

    there' : start ps' (r id) ≡ base_in (live_of m' (r id))
    there' = by (live_of m' (r id)) refl (subst (λ o. SegmentAlike r m m' o (live_of m' (r id))) live.1 (alike.segments id mine))

  pub ranked_alike : (e e' : Event) → EventAlike own (renamed_after (Some e) (Some e') r) m m' (Some e) (Some e') → ranked ps' e' ≡ ranked ps e
  ranked_alike (events.Alloc id a n) (events.Alloc id' a' n') x = let h : n' ≡ n = size x.0 in ap (λ k. events.Alloc k 0 n') counted.long ∙ ap (events.Alloc (length ps) 0) h where
    size : Some (events.Alloc id' 0 n') ≡ Some (events.Alloc (renamed_after (Some (events.Alloc id a n)) (Some (events.Alloc id' a' n')) r id) 0 n) → n' ≡ n
    size e = cc
  ranked_alike (events.Refused n) (events.Refused n') x = let h : n' ≡ n = size x.0 in ap events.Refused h where
    size : Some (events.Refused n') ≡ Some (events.Refused n) → n' ≡ n
    size e = cc
  ranked_alike (events.Free id) (events.Free id') x = let h : id' ≡ r id = name x.0 in ap (λ i. events.Free (rank ps' i)) h ∙ ap events.Free (counted.ranks id x.1) where
    name : Some (events.Free id') ≡ Some (events.Free (r id)) → id' ≡ r id
    name e = cc
  ranked_alike (events.Seal id lo hi) (events.Seal id' l h) x =
      let y = parts x.0 in ap (λ i. events.Seal (rank ps' i) l h) y.0 ∙ (ap (λ k. events.Seal k l h) (counted.ranks id x.1) ∙ (ap (λ k. events.Seal (rank ps id) k h) y.1 ∙ ap (λ k. events.Seal (rank ps id) lo k) y.2))
    where
      parts : Some (events.Seal id' l h) ≡ Some (events.Seal (r id) lo hi) → (id' ≡ r id) × (l ≡ lo) × (h ≡ hi)
      parts e = (cc, cc, cc)
  ranked_alike (events.Slice sealed id lo hi lo2 hi2) (events.Slice sealed' id' l h l2 h2) x =
      let y = parts x.0 in
      ap (λ b. events.Slice b (rank ps' id') l h l2 h2) y.5 ∙ (ap (λ i. events.Slice sealed (rank ps' i) l h l2 h2) y.0 ∙ (ap (λ k. events.Slice sealed k l h l2 h2) (counted.ranks id x.1) ∙ (ap (λ k. events.Slice sealed (rank ps id) k h l2 h2) y.1 ∙ (ap (λ k. events.Slice sealed (rank ps id) lo k l2 h2) y.2 ∙ (ap (λ k. events.Slice sealed (rank ps id) lo hi k h2) y.3 ∙ ap (λ k. events.Slice sealed (rank ps id) lo hi lo2 k) y.4)))))
    where
      parts : Some (events.Slice sealed' id' l h l2 h2) ≡ Some (events.Slice sealed (r id) lo hi lo2 hi2) → (id' ≡ r id) × (l ≡ lo) × (h ≡ hi) × (l2 ≡ lo2) × (h2 ≡ hi2) × (sealed' ≡ sealed)
      parts e = (cc, cc, cc, cc, cc, cc)
  ranked_alike (events.Read sealed id lo hi a w) (events.Read sealed' id' l h a' w') x =
      let y = parts x.0 in
      let z = place_alike id id' a a' x.1.0 x.1.1 y.0 y.3 in
      ap (λ b. events.Read b (rank ps' id') l h (a' - start ps' id') w') y.5 ∙ (ap (λ k. events.Read sealed k l h (a' - start ps' id') w') z.0 ∙ (ap (λ k. events.Read sealed (rank ps id) l h k w') z.1 ∙ (ap (λ k. events.Read sealed (rank ps id) k h (a - start ps id) w') y.1 ∙ (ap (λ k. events.Read sealed (rank ps id) lo k (a - start ps id) w') y.2 ∙ ap (λ k. events.Read sealed (rank ps id) lo hi (a - start ps id) k) y.4))))
    where
      parts : Some (events.Read sealed' id' l h (a' - base_in (live_of m' id')) w') ≡ Some (events.Read sealed (r id) lo hi (a - base_in (live_of m id)) w) → (id' ≡ r id) × (l ≡ lo) × (h ≡ hi) × (a' - base_in (live_of m' id') ≡ a - base_in (live_of m id)) × (w' ≡ w) × (sealed' ≡ sealed)
      parts e = (cc, cc, cc, cc, cc, cc)
  ranked_alike (events.Write id lo hi a w) (events.Write id' l h a' w') x =
      let y = parts x.0 in
      let z = place_alike id id' a a' x.1.0 x.1.1 y.0 y.3 in
      ap (λ k. events.Write k l h (a' - start ps' id') w') z.0 ∙ (ap (λ k. events.Write (rank ps id) l h k w') z.1 ∙ (ap (λ k. events.Write (rank ps id) k h (a - start ps id) w') y.1 ∙ (ap (λ k. events.Write (rank ps id) lo k (a - start ps id) w') y.2 ∙ ap (λ k. events.Write (rank ps id) lo hi (a - start ps id) k) y.4)))
    where
      parts : Some (events.Write id' l h (a' - base_in (live_of m' id')) w') ≡ Some (events.Write (r id) lo hi (a - base_in (live_of m id)) w) → (id' ≡ r id) × (l ≡ lo) × (h ≡ hi) × (a' - base_in (live_of m' id') ≡ a - base_in (live_of m id)) × (w' ≡ w)
      parts e = (cc, cc, cc, cc, cc)
  ranked_alike e e' x = let h = x.0 in cc

  -- both make a segment, or none does
  making_alike : (event event' : Option Event) → EventAlike own (renamed_after event event' r) m m' event event' → is_making event' ≡ is_making event
  making_alike None None x = refl
  making_alike (Some (events.Alloc id a n)) (Some (events.Alloc id' a' n')) x = refl
  making_alike (Some (events.Refused n)) (Some (events.Refused n')) x = refl
  making_alike (Some (events.Seal id lo hi)) (Some (events.Seal id' l h)) x = refl
  making_alike (Some (events.Slice sealed id lo hi lo2 hi2)) (Some (events.Slice sealed' id' l h l2 h2)) x = refl
  making_alike (Some (events.Read sealed id lo hi a w)) (Some (events.Read sealed' id' l h a' w')) x = refl
  making_alike (Some (events.Write id lo hi a w)) (Some (events.Write id' l h a' w')) x = refl
  making_alike (Some (events.Free id)) (Some (events.Free id')) x = refl
  making_alike event event' x = let h = x.0 in absurd cc

  abbrev Ranks : (event event' : Option Event) → Type 0
  Ranks event event' = (length (grown_by event' ps') ≡ length (grown_by event ps)) × ((id : ℕ) → owned_after event own id ≡ true → rank (grown_by event' ps') (renamed_after event event' r id) ≡ rank (grown_by event ps) id)

  ranks_stay : (event' : Option Event) → is_making event' ≡ false → (length (grown_by event' ps') ≡ length ps) × ((id : ℕ) → own id ≡ true → rank (grown_by event' ps') (r id) ≡ rank ps id)
  ranks_stay event' e = subst (λ qs. (length qs ≡ length ps) × ((id : ℕ) → own id ≡ true → rank qs (r id) ≡ rank ps id)) (sym (grown_not ps' event' e)) (counted.long, counted.ranks)

  ranks_grow : (id id' a a' n n' : ℕ) → id ≡ m.made + 1 → id' ≡ m'.made + 1 → Ranks (Some (events.Alloc id a n)) (Some (events.Alloc id' a' n'))
  ranks_grow id id' a a' n n' new new' =
      let q : Place = record { id = id; address = a } in
      let q' : Place = record { id = id'; address = a' } in
      let count = length-append ps (q ∷ []) in
      let count' = length-append ps' (q' ∷ []) in
      let long = counted.long in (
        omega (arith, count, count', long),
        λ i mine. elim (cases_eq i id) [
          | inl e ↦
              ap (rank (ps' ++ q' ∷ [])) (ap (λ b. cond b id' (r i)) (eq-eqb i id e)) ∙ (rank_new q' m'.made new' ps' counted.told'.low ∙ (counted.long ∙ (sym (rank_new q m.made new ps counted.told.low) ∙ ap (rank (ps ++ q ∷ [])) (sym e))))
          | inr other ↦
              let was : own i ≡ true = sym (ap (λ b. cond b true (own i)) (ne_eqb i id other)) ∙ mine in
              ap (rank (ps' ++ q' ∷ [])) (ap (λ b. cond b id' (r i)) (ne_eqb i id other))
              ∙ (rank_other q' ps' (r i) (λ e. let low = (alike.made i was).1 in omega (arith, low, e, new'))
              ∙ (ap (later ps') (counted.ranks i was) ∙ (later_same ps ps' (rank ps i) counted.long ∙ sym (rank_other q ps i (λ e. other (sym e))))))
        ],
      )

  ranks_after : (event event' : Option Event) → is_making event' ≡ is_making event → IsNext m.made event → IsNext m'.made event' → Ranks event event'
  ranks_after None event' e new new' = ranks_stay event' e
  ranks_after (Some (events.Alloc id a n)) (Some (events.Alloc id' a' n')) e new new' = ranks_grow id id' a a' n n' new new'
  ranks_after (Some (events.Alloc id a n)) None e new new' = absurd cc
  ranks_after (Some (events.Alloc id a n)) (Some (events.Refused k)) e new new' = absurd cc
  ranks_after (Some (events.Alloc id a n)) (Some (events.Seal i lo hi)) e new new' = absurd cc
  ranks_after (Some (events.Alloc id a n)) (Some (events.Slice sealed i lo hi lo2 hi2)) e new new' = absurd cc
  ranks_after (Some (events.Alloc id a n)) (Some (events.Read sealed i lo hi b w)) e new new' = absurd cc
  ranks_after (Some (events.Alloc id a n)) (Some (events.Write i lo hi b w)) e new new' = absurd cc
  ranks_after (Some (events.Alloc id a n)) (Some (events.Free i)) e new new' = absurd cc
  ranks_after (Some (events.Refused n)) event' e new new' = ranks_stay event' e
  ranks_after (Some (events.Seal id lo hi)) event' e new new' = ranks_stay event' e
  ranks_after (Some (events.Slice sealed id lo hi lo2 hi2)) event' e new new' = ranks_stay event' e
  ranks_after (Some (events.Read sealed id lo hi a w)) event' e new new' = ranks_stay event' e
  ranks_after (Some (events.Write id lo hi a w)) event' e new new' = ranks_stay event' e
  ranks_after (Some (events.Free id)) event' e new new' = ranks_stay event' e

  -- ---- the events that are shown

  module _ (n : ℕ) (es es' : List (Whose × Event)) (rest : List Event) where
    pub shown_own : (qs : List Place) (e : Event) (us : List (Whose × Event)) → shown n qs ((Task n, e) ∷ us) ≡ ranked qs e ∷ shown n (grown qs e) us
    shown_own qs e us = ap (λ b. cond b (ranked qs e ∷ shown n (grown qs e) us) (shown n qs us)) (eq-eqb n n refl)

    pub events_own : (event event' : Option Event) → EventAlike own (renamed_after event event' r) m m' event event' → shown n (grown_by event' ps') es' ≡ shown n (grown_by event ps) es ++ rest → shown n ps' (marked (Task n) event' ++ es') ≡ shown n ps (marked (Task n) event ++ es) ++ rest
    events_own None None x h = h
    events_own None (Some e') x h = let g = x.0 in absurd cc
    events_own (Some e) None x h = let g = x.0 in absurd cc
    events_own (Some e) (Some e') x h =
        shown_own ps' e' es' ∙ (ap (λ y. y ∷ shown n (grown ps' e') es') (ranked_alike e e' x) ∙ (ap (λ ys. ranked ps e ∷ ys) h ∙ ap (λ zs. zs ++ rest) (sym (shown_own ps e es))))

-- ---- the steps

-- of the task, in both
pub counted_own : (own : Owned) (r : Renaming) (s s' s1 s1' : Store) (t t' : Thread) (event event' : Option Event) (ps ps' : List Place) (sides : Sides) (o : Owned) (side : Bool) → IsSound s.segments → IsSound s'.segments → MemoryAlike own r s.segments s'.segments → Stepped sides o side s s1 t event → Stepped sides o side s' s1' t' event'
    → EventAlike own (renamed_after event event' r) s.segments s'.segments event event' → Counted own r s.segments s'.segments ps ps' → Counted (owned_after event own) (renamed_after event event' r) s1.segments s1'.segments (grown_by event ps) (grown_by event' ps')
counted_own own r s s' s1 s1' t t' event event' ps ps' sides o side sound sound' alike step step' same counted =
    let ranks = ranks_after own r s.segments s'.segments alike ps ps' counted event event' (making_alike own r s.segments s'.segments alike ps ps' counted event event' same) (step_next sides o side s s1 t event step) (step_next sides o side s' s1' t' event' step') in
    record {
      long = ranks.0;
      ranks = ranks.1;
      told = told_step (Mine own) (Mine (owned_after event own)) ps sides o side s sound counted.told s1 t event step (λ old id p. subst (λ (w : Owned). w id ≡ true) (old_owned event own old) p)
          (λ size base e id other p. sym (ap (λ b. cond b true (own id)) (ne_eqb id (s.segments.made + 1) other)) ∙ subst (λ x. owned_after x own id ≡ true) e p);
      told' = told_step Any Any ps' sides o side s' sound' counted.told' s1' t' event' step' (λ old id p. tt) (λ size base e id other p. tt);
    }

-- of another, in the first
pub counted_other : (own : Owned) (r : Renaming) (s s' s1 : Store) (t : Thread) (event : Option Event) (ps ps' : List Place) (sides : Sides) (o : Owned) (side : Bool) → MemoryAlike own r s.segments s'.segments → Stepped sides o side s s1 t event → Counted own r s.segments s'.segments ps ps' → Counted own r s1.segments s'.segments ps ps'
counted_other own r s s' s1 t event ps ps' sides o side alike step counted =
    record {
      long = counted.long;
      ranks = counted.ranks;
      told = told_still (Mine own) ps sides o side s counted.told s1 t event step (λ id mine e. let low = (alike.made id mine).0 in omega (arith, low, e));
      told' = counted.told';
    }

-- where both are one run so far
pub counted_same : (own : Owned) (m : Memory) (ps : List Place) → Told Any m ps → Counted own (λ i. i) m m ps ps
counted_same own m ps told = record { long = refl; ranks = λ id mine. refl; told = record { low = told.low; starts = λ id s mine live. told.starts id s tt live }; told' = told }

-- an event of another isn't shown
pub shown_other : (n k : ℕ) (ps : List Place) (event : Option Event) (es : List (Whose × Event)) → (k ≡ n → ⊥) → shown n ps (marked (Task k) event ++ es) ≡ shown n ps es
shown_other n k ps None es other = refl
shown_other n k ps (Some e) es other = ap (λ b. cond b (ranked ps e ∷ shown n (grown ps e) es) (shown n ps es)) (ne_eqb k n other)
