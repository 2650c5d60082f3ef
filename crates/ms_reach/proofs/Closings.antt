-- How the reached bytes are found: the first ranges, one byte after the other, and the end.
use Rattle.std.proofs.Common.{◌≡◌, ◌⊎◌, inl, inr, ℕ, suc, ◌+◌, ◌<◌, ◌≤◌, Bool, true, false, List, [], ◌∷◌, ◌++◌, length, Option, Some, None, slice_get, slice_set, refl, sym, ap, subst, ◌∙◌, arith, length-append}
use Rattle.std.specs.List.{All, Contains}
use Rattle.std.proofs.lemmas.Bool.{cases_lt}
use Rattle.std.proofs.lemmas.List.{length-set}
use Rattle.std.proofs.Math.ListN.{get_or}
use Rattle.std.proofs.lemmas.List.Elements.{All-contains, Contains-append_cases, Contains-append_left, Contains-append_right, Contains-get_or}
use Rattle.ms_handle.specs.declared.handle.Handle.{Handle}
use Rattle.ms_live.specs.declared.gaps.Live.{Live}
use Rattle.ms_segment.specs.Memory.{Memory}
use Rattle.ms_tagged.specs.Bytes.{Piece, held_at, range}
use Rattle.ms_task.specs.Thread.{Thread}
use Rattle.ms_machine.specs.Store.{Store}
use Rattle.ms_machine.proofs.SafePaints.{Contains-cases, Contains-first, Contains-none}
use Rattle.ms_reach.specs.declared.leading.Range.{Range}
use Rattle.ms_reach.specs.Reach.{IsReached, LeadsTo, by_piece, own_values}
use Rattle.ms_reach.specs.refinement.Closing.{Adds, AddsHeld, Advances, IsClosing, IsKnown, IsOver, IsRange, State, rank}
use Rattle.ms_reach.specs.refinement.Leading.{EndBelow, range_of}
use Rattle.ms_reach.specs.refinement.Marking.{AllMarked, IsMarked, trues}
use Rattle.ms_reach.proofs.Leads.{held_inside, held_piece, leads_range, piece_held, range_leads, range_within}
use Rattle.ms_reach.proofs.Marks.{marked_before, marked_here, marked_still, trues_less, trues_more}
use Rattle.ms_reach.proofs.Reached.{contains_each, reached_least}
use Rattle.ms_reach.proofs.Spots.{ValueIn}

-- ---- the end

module _ (inside : ℕ → Bool) (s : Store) (t : Thread) where
  -- where all that is known is marked, the marked bytes are those that are reached
  pub closed : (marked known : ℕ → Type 0) → IsClosing inside s t marked known → ((k : ℕ) → known k → marked k) → (k : ℕ) → IsReached inside s t k → marked k
  closed marked known c all =
      reached_least inside s t marked
      (contains_each (ValueIn marked s.segments) (own_values inside s.funcs t) (λ v has k leads. all k (c.values v k has leads)))
      (record {
        globals = λ a g own there k leads. all k (c.globals a g k own there leads);
        pieces = λ place h i is there k leads. all k (c.pieces place h i k is there leads);
      })

  -- more is known, of which all is reached
  pub known_more : (marked known marked' known' : ℕ → Type 0) → IsClosing inside s t marked known
      → ((k : ℕ) → known k → known' k) → ((k : ℕ) → known' k → IsReached inside s t k)
      → ((place : ℕ) (h : Handle) (i k : ℕ) → marked' place → slice_get s.segments.bytes place ≡ Some (Piece h i) → LeadsTo s.segments h k → marked place ⊎ known' k)
      → IsClosing inside s t marked' known'
  known_more marked known marked' known' c still only pieces = record {
    reached = only;
    values = λ v k has leads. still k (c.values v k has leads);
    globals = λ a g k own there leads. still k (c.globals a g k own there leads);
    pieces = λ place h i k is there leads.
        elim (pieces place h i k is there leads) [ inl before ↦ still k (c.pieces place h i k before there leads) | inr new ↦ new ];
  }

-- ---- ranges

pub adds_kept : (o : Option Range) (todo todo' : List Range) → Adds o todo todo' → (r : Range) → Contains todo r → Contains todo' r
adds_kept None todo todo' adds r has = subst (λ (rs : List Range). Contains rs r) (sym adds) has
adds_kept (Some q) todo todo' (inl is) r has = subst (λ (rs : List Range). Contains rs r) (sym is) (Contains-append_left todo (q ∷ []) r has)
adds_kept (Some q) todo todo' (inr is) r has = subst (λ (rs : List Range). Contains rs r) (sym is.0) has

pub adds_from : (o : Option Range) (todo todo' : List Range) → Adds o todo todo' → (r : Range) → Contains todo' r → Contains todo r ⊎ (o ≡ Some r)
adds_from None todo todo' adds r has = inl (subst (λ (rs : List Range). Contains rs r) adds has)
adds_from (Some q) todo todo' (inl is) r has =
    elim (Contains-append_cases todo (q ∷ []) r (subst (λ (rs : List Range). Contains rs r) is has)) [
      | inl old ↦ inl old
      | inr new ↦ elim (Contains-cases q [] r new) [ inl same ↦ inr (ap Some same) | inr none ↦ absurd (Contains-none r none) ]
    ]
adds_from (Some q) todo todo' (inr is) r has = inl (subst (λ (rs : List Range). Contains rs r) is.0 has)

pub adds_all : (o : Option Range) (todo todo' : List Range) → Adds o todo todo' → (r : Range) → o ≡ Some r → Contains todo' r
adds_all None todo todo' adds r same = absurd (cc)
adds_all (Some q) todo todo' (inl is) r same =
    let e : q ≡ r = cc in subst (Contains todo') e (subst (λ (rs : List Range). Contains rs q) (sym is) (Contains-append_right todo (q ∷ []) q (Contains-first q [])))
adds_all (Some q) todo todo' (inr is) r same = let e : q ≡ r = cc in subst (Contains todo') e (subst (λ (rs : List Range). Contains rs q) (sym is.0) is.1)

pub adds_length : (o : Option Range) (todo todo' : List Range) → Adds o todo todo' → length todo' ≤ length todo + 1
adds_length None todo todo' adds = omega (arith, ap (λ (rs : List Range). length rs) adds)
adds_length (Some q) todo todo' (inl is) = omega (arith, ap (λ (rs : List Range). length rs) is, length-append todo (q ∷ []))
adds_length (Some q) todo todo' (inr is) = omega (arith, ap (λ (rs : List Range). length rs) is.0)

-- that of a handle, if there is one
abbrev held_range : List Live → Option Handle → Option Range
held_range live None = None
held_range live (Some h) = range_of live h

held_adds : (live : List Live) (o : Option Handle) (todo todo' : List Range) → AddsHeld live o todo todo' → Adds (held_range live o) todo todo'
held_adds live None todo todo' adds = adds
held_adds live (Some h) todo todo' adds = adds

-- the ranges that were there lie among so many addresses, and so does one that is added
pub adds_ranges : (n : ℕ) (o : Option Range) (todo todo' : List Range) → Adds o todo todo' → All (IsRange n) todo → ((r : Range) → o ≡ Some r → IsRange n r) → All (IsRange n) todo'
adds_ranges n o todo todo' adds old new =
    λ k d below.
    let r = get_or todo' k d in
    elim (adds_from o todo todo' adds r (Contains-get_or todo' k d below)) [ inl before ↦ All-contains (IsRange n) todo r old before | inr is ↦ new r is ]

-- ---- one turn

module _ (m : Memory) where
  pub advance_on : (c c' c'' : State) (from to from' to' from'' to'' : ℕ) → Advances m c from to c' from' to' → Advances m c' from' to' c'' from'' to'' → Advances m c from to c'' from'' to''
  advance_on c c' c'' from to from' to' from'' to'' a b = record {
    over = b.over;
    keeps = λ inside s t same closing. b.keeps inside s t same (a.keeps inside s t same closing);
    lower = omega (arith, a.lower, b.lower);
    same = b.same ∙ a.same;
  }

  -- marked bytes are passed
  pub advance_past : (c : State) (from at to : ℕ) → IsOver m c → from ≤ at → at ≤ to → to ≤ length c.marks → AllMarked c.marks from at → Advances m c from to c at to
  advance_past c from at to over low high within all = record {
    over = over;
    keeps = λ inside s t same closing.
        known_more inside s t (IsMarked c.marks) (IsKnown c from to) (IsMarked c.marks) (IsKnown c at to) closing still
        (λ k known. closing.reached k (back k known)) (λ place h i k is there leads. inl is);
    lower = omega arith;
    same = refl;
  } where
    still : (k : ℕ) → IsKnown c from to k → IsKnown c at to k
    still k (inl is) = inl is
    still k (inr (inl led)) = inr (inl led)
    still k (inr (inr here)) = elim (cases_lt k at) [ inl before ↦ inl (all k here.0 before (omega (arith, here.1, within))) | inr behind ↦ inr (inr (behind, here.1)) ]

    back : (k : ℕ) → IsKnown c at to k → IsKnown c from to k
    back k (inl is) = inl is
    back k (inr (inl led)) = inr (inl led)
    back k (inr (inr here)) = inr (inr (omega (arith, low, here.0), here.1))

  -- a range is taken
  pub advance_take : (c c' : State) (r : Range) → IsOver m c → c'.marks ≡ c.marks → c.todo ≡ c'.todo ++ r ∷ [] → Advances m c 0 0 c' r.from r.to × (suc (rank c') ≡ rank c) × (r.from ≤ r.to) × (r.to ≤ length c'.marks)
  advance_take c c' r over marks is =
      let range = All-contains (IsRange (length c.marks)) c.todo r over.todo (subst (λ (rs : List Range). Contains rs r) (sym is) (Contains-append_right c'.todo (r ∷ []) r (Contains-first r []))) in
      let len : length c'.marks ≡ length c.marks = ap (λ (bs : List Bool). length bs) marks in
      let count : trues c'.marks ≡ trues c.marks = ap trues marks in
      let longer : length c.todo ≡ length c'.todo + 1 = ap (λ (rs : List Range). length rs) is ∙ length-append c'.todo (r ∷ []) in
      let over' : IsOver m c' = record {
        sound = over.sound;
        long = omega (arith, over.long, len);
        covers = subst (EndBelow m.live) (sym len) over.covers;
        todo = subst (λ n. All (IsRange n) c'.todo) (sym len) (front (IsRange (length c.marks)) c'.todo (r ∷ []) (subst (All (IsRange (length c.marks))) is over.todo));
      } in (
        record {
          over = over';
          keeps = λ inside s t same closing.
              known_more inside s t (IsMarked c.marks) (IsKnown c 0 0) (IsMarked c'.marks) (IsKnown c' r.from r.to) closing still
              (λ k known. closing.reached k (back k known)) (λ place h i k at there leads. inl (subst (λ (bs : List Bool). IsMarked bs place) marks at));
          lower = omega (arith, len, count, longer);
          same = len;
        },
        omega (arith, len, count, longer),
        range.0,
        omega (arith, range.1, len),
      )
    where
      front : (P : Range → Type 0) (xs ys : List Range) → All P (xs ++ ys) → All P xs
      front P xs ys all = λ k d below. All-contains P (xs ++ ys) _ all (Contains-append_left xs ys _ (Contains-get_or xs k d below))

      still : (k : ℕ) → IsKnown c 0 0 k → IsKnown c' r.from r.to k
      still k (inl at) = inl (subst (λ (bs : List Bool). IsMarked bs k) (sym marks) at)
      still k (inr (inl led)) =
          elim (Contains-append_cases c'.todo (r ∷ []) led.0 (subst (λ (rs : List Range). Contains rs led.0) is led.1)) [
            | inl old ↦ inr (inl (led.0, old, led.2, led.3))
            | inr new ↦ elim (Contains-cases r [] led.0 new) [
              | inl same ↦ inr (inr (subst (λ (q : Range). q.from ≤ k) (sym same) led.2, subst (λ (q : Range). k < q.to) (sym same) led.3))
              | inr none ↦ absurd (Contains-none led.0 none)
            ]
          ]
      still k (inr (inr here)) = absurd (omega (arith, here.1))

      back : (k : ℕ) → IsKnown c' r.from r.to k → IsKnown c 0 0 k
      back k (inl at) = inl (subst (λ (bs : List Bool). IsMarked bs k) marks at)
      back k (inr (inl led)) = inr (inl (led.0, subst (λ (rs : List Range). Contains rs led.0) (sym is) (Contains-append_left c'.todo (r ∷ []) led.0 led.1), led.2, led.3))
      back k (inr (inr here)) = inr (inl (r, subst (λ (rs : List Range). Contains rs r) (sym is) (Contains-append_right c'.todo (r ∷ []) r (Contains-first r [])), here.0, here.1))

  -- one byte is marked, and looked at
  pub advance_byte : (c c' : State) (at to : ℕ) → IsOver m c → at < to → slice_get c.marks at ≡ Some false → c'.marks ≡ slice_set c.marks at true → AddsHeld m.live (held_at (range at 1 m.bytes)) c.todo c'.todo
      → Advances m c at to c' (at + 1) to
  advance_byte c c' at to over low free marks added =
      let adds = held_adds m.live (held_at (range at 1 m.bytes)) c.todo c'.todo added in
      let len : length c'.marks ≡ length c.marks = ap (λ (bs : List Bool). length bs) marks ∙ length-set c.marks at true in
      let count : trues c'.marks ≡ suc (trues c.marks) = ap trues marks ∙ trues_more c.marks at free in
      record {
        over = record {
          sound = over.sound;
          long = omega (arith, over.long, len);
          covers = subst (EndBelow m.live) (sym len) over.covers;
          todo = subst (λ n. All (IsRange n) c'.todo) (sym len) (adds_ranges (length c.marks) (held_range m.live (held_at (range at 1 m.bytes))) c.todo c'.todo adds over.todo (λ r is. bound (held_at (range at 1 m.bytes)) refl r is));
        };
        keeps = keeps;
        lower = omega (arith, len, count, trues_less c.marks at free, adds_length (held_range m.live (held_at (range at 1 m.bytes))) c.todo c'.todo adds);
        same = len;
      }
    where
      bound : (o : Option Handle) → held_at (range at 1 m.bytes) ≡ o → (r : Range) → held_range m.live o ≡ Some r → IsRange (length c.marks) r
      bound None is r there = absurd (cc)
      bound (Some h) is r there = range_within m h r (length c.marks) over.covers (held_inside m at h over.sound is) there

      still_marked : (k : ℕ) → IsMarked c.marks k → IsMarked c'.marks k
      still_marked k is = subst (λ (bs : List Bool). IsMarked bs k) (sym marks) (marked_still c.marks at k is)

      still : (k : ℕ) → IsKnown c at to k → IsKnown c' (at + 1) to k
      still k (inl is) = inl (still_marked k is)
      still k (inr (inl led)) = inr (inl (led.0, adds_kept (held_range m.live (held_at (range at 1 m.bytes))) c.todo c'.todo (held_adds m.live (held_at (range at 1 m.bytes)) c.todo c'.todo added) led.0 led.1, led.2, led.3))
      still k (inr (inr here)) =
          elim (cases_lt at k) [
            | inl behind ↦ inr (inr (omega (arith, behind), here.1))
            | inr not ↦ let e : at ≡ k = omega (arith, not, here.0) in inl (subst (IsMarked c'.marks) e (subst (λ (bs : List Bool). IsMarked bs at) (sym marks) (marked_here c.marks at free)))
          ]

      keeps : (inside : ℕ → Bool) (s : Store) (t : Thread) → s.segments ≡ m → IsClosing inside s t (IsMarked c.marks) (IsKnown c at to) → IsClosing inside s t (IsMarked c'.marks) (IsKnown c' (at + 1) to)
      keeps inside s t same closing =
          known_more inside s t (IsMarked c.marks) (IsKnown c at to) (IsMarked c'.marks) (IsKnown c' (at + 1) to) closing still reached pieces
        where
          known : IsReached inside s t at
          known = closing.reached at (inr (inr (omega arith, low)))

          by_held : (o : Option Handle) → held_at (range at 1 m.bytes) ≡ o → (r : Range) (k : ℕ) → held_range m.live o ≡ Some r → r.from ≤ k → k < r.to → IsReached inside s t k
          by_held None is r k there from to = absurd (cc)
          by_held (Some h) is r k there from to =
              let piece = held_piece m.bytes at h is in
              by_piece known (ap (λ (x : Memory). slice_get x.bytes at) same ∙ piece.1) (subst (λ (x : Memory). LeadsTo x h k) (sym same) (range_leads m h r k there from to))

          reached : (k : ℕ) → IsKnown c' (at + 1) to k → IsReached inside s t k
          reached k (inl is) =
              elim (marked_before c.marks at k (subst (λ (bs : List Bool). IsMarked bs k) marks is)) [ inl before ↦ closing.reached k (inl before) | inr e ↦ subst (IsReached inside s t) e known ]
          reached k (inr (inl led)) =
              elim (adds_from (held_range m.live (held_at (range at 1 m.bytes))) c.todo c'.todo (held_adds m.live (held_at (range at 1 m.bytes)) c.todo c'.todo added) led.0 led.1) [
                | inl old ↦ closing.reached k (inr (inl (led.0, old, led.2, led.3)))
                | inr new ↦ by_held (held_at (range at 1 m.bytes)) refl led.0 k new led.2 led.3
              ]
          reached k (inr (inr here)) = closing.reached k (inr (inr (omega (arith, here.0), here.1)))

          pieces : (place : ℕ) (h : Handle) (i k : ℕ) → IsMarked c'.marks place → slice_get s.segments.bytes place ≡ Some (Piece h i) → LeadsTo s.segments h k → IsMarked c.marks place ⊎ IsKnown c' (at + 1) to k
          pieces place h i k is there leads =
              elim (marked_before c.marks at place (subst (λ (bs : List Bool). IsMarked bs place) marks is)) [
                | inl before ↦ inl before
                | inr e ↦
                    let here : slice_get m.bytes at ≡ Some (Piece h i) = ap (slice_get m.bytes) e ∙ (ap (λ (x : Memory). slice_get x.bytes place) (sym same) ∙ there) in
                    let held = piece_held m.bytes at i h here in
                    let ranged = leads_range m h k (subst (λ (x : Memory). LeadsTo x h k) same leads) in
                    let new = adds_all (held_range m.live (held_at (range at 1 m.bytes))) c.todo c'.todo (held_adds m.live (held_at (range at 1 m.bytes)) c.todo c'.todo added) ranged.0 (ap (held_range m.live) held ∙ ranged.1) in
                    inr (inr (inl (ranged.0, new, ranged.2, ranged.3)))
              ]
