-- An allocation: when it may come, and what is kept and shown after it.
use Rattle.std.proofs.Common.{◌≡◌, ◌≢◌, ℕ, zero, suc, ◌+◌, ◌-◌, ◌*◌, ◌%◌, ◌<◌, ◌≤◌, true, false, cond, nat_lt, List, [], ◌∷◌, ◌++◌, Option, Some, None, refl, arith, ap, sym, ◌∙◌, subst, inl, inr}
use Rattle.std.specs.List.{Contains}
use Rattle.std.proofs.lemmas.Bool.{cases_eq, cases_lt}
use Rattle.std.proofs.lemmas.List.{length-append}
use Rattle.std.proofs.lemmas.List.Elements.{Contains-append_cases, Contains-append_left, Contains-append_right, Contains-get_or, Contains-push, Contains-push_cases}
use Rattle.std.proofs.lemmas.List.Quantifiers.{all_pairs_push}
use Rattle.ms_event.specs.Monitor.{May, Paint, Shade, State, after, coat, coat_from, most_live}
use Rattle.ms_event.specs.Monitor as monitor
use Rattle.ms_event.specs.declared.event.Event.TheVariants.{Alloc}
use Rattle.ms_gap_tree.specs.refinement.Rooms.{Arena, room_at, size_of}
use Rattle.ms_gap_tree.specs.refinement.Tree.{half}
use Rattle.ms_handle.specs.declared.handle.Kind.TheVariants.{Heap}
use Rattle.ms_live.specs.refinement.Kept.{AreEnough}
use Rattle.ms_live.specs.refinement.Layout.{IsLayout}
use Rattle.ms_live.specs.declared.gaps.Live.{Live}
use Rattle.ms_live.proofs.Layouts.{entered_empty, near, Joins}
use Rattle.ms_monitor.specs.refinement.Colours.{Adds, Changes, colour_of, live_in}
use Rattle.ms_monitor.specs.refinement.Gaps.{IsBefore, IsNear, Splits, back, segment}
use Rattle.ms_monitor.specs.refinement.Kept.{IsKept, IsLive, Kept}
use Rattle.ms_monitor.specs.refinement.Showing.{IsWhole, Shows}
use Rattle.ms_monitor.specs.declared.colours.Colour.{Colour}
use Rattle.ms_monitor.proofs.Colouring.{filled_few}
use Rattle.ms_monitor.proofs.Seen.{gap_from_run, run_from_gap}
use Rattle.ms_monitor.proofs.Splitting.{gap_has_run, no_gap_behind, run_in_gap, splits_kept}

none_from : (o : Option Colour) → ((c : Colour) → o ≡ Some c → ⊥) → o ≡ None
none_from None h = refl
none_from (Some c) h = absurd (h c refl)

pub one_colour : (o : Option Colour) (c d : Colour) → o ≡ Some c → o ≡ Some d → c ≡ d
one_colour o c d e h = cc

pub no_colour : (o : Option Colour) (c : Colour) → o ≡ None → o ≡ Some c → ⊥
no_colour o c e h = cc

-- a colour that is live and has bytes, or is new
abbrev pub live_colour : ℕ → ℕ → Colour
live_colour base size = record { base = base; size = size; is_live = true }

pub same_segment : (t : Live) (id base size : ℕ) → t.id ≡ id → t.base ≡ base → t.size ≡ size → t.kind ≡ Heap → t ≡ segment id base size
same_segment t id base size a b c d = λ i. record { id = a i; base = b i; size = c i; kind = d i }

-- ---- when it may come

-- what doesn't depend on the size
abbrev pub MayBegin : List (ℕ × Colour) → ℕ → ℕ → Type 0
MayBegin colours id base = (live_in colours < most_live) × (colour_of colours id ≡ None) × (base % 16 ≡ 0)

pub may_begin : (k : Kept) (s : State) (id base size : ℕ) → Shows k s → May k.capacity s (Alloc id base size) → MayBegin k.colours id base
may_begin k s id base size shows m = (subst (λ (n : ℕ). n < most_live) shows.count m.0, none_from (colour_of k.colours id) (λ c e. m.1 ((shows.used id).1 (c, e))), m.2)

pub may_fit : (k : Kept) (s : State) (id base size key room : ℕ) → Shows k s → IsKept k → IsBefore (room_at k.rooms) base key room → May k.capacity s (Alloc id base size) → 0 < size → base + size ≤ 16 * key + room
may_fit k s id base size key room shows kept b m some =
    run_in_gap (IsLive k.colours) k.capacity (room_at k.rooms) kept.layout base size key room b some m.2 (run_from_gap k s shows base size m.3)

pub alloc_may : (k : Kept) (s : State) (id base size key room : ℕ) → Shows k s → IsKept k → MayBegin k.colours id base → IsBefore (room_at k.rooms) base key room → (0 < size → base + size ≤ 16 * key + room) → May k.capacity s (Alloc id base size)
alloc_may k s id base size key room shows kept begins b fits = (
  subst (λ (n : ℕ). n < most_live) (sym shows.count) begins.0,
  λ used. let u = (shows.used id).0 used in no_colour (colour_of k.colours id) u.0 begins.1 u.1,
  begins.2,
  elim (cases_lt 0 size) [
    | inl some ↦ gap_from_run k s shows base size (gap_has_run (IsLive k.colours) k.capacity (room_at k.rooms) kept.layout base size key room b.found b.up_to (fits some))
    | inr none ↦ λ i below. absurd (omega arith)
  ],
)

-- ---- what is kept

pub near_is : (k : Kept) → IsKept k → IsNear (room_at k.rooms)
near_is k kept key room e = near (IsLive k.colours) k.capacity (room_at k.rooms) kept.layout kept.addresses key room e

pub back_below : (k : Kept) (base size key room : ℕ) → IsKept k → IsBefore (room_at k.rooms) base key room → (0 < size → base + size ≤ 16 * key + room) → 0 < size → back base size < half k.rooms.levels
back_below k base size key room kept b fits some =
    let up = b.up_to in
    let f = fits some in
    let last = (kept.layout.free key room b.found (base + size - 1) (omega arith) (omega arith)).0 in
    let enough = kept.levels.1 in
    omega arith

pub few_is : (k : Kept) → IsKept k → live_in k.colours < most_live → size_of k.rooms < k.rooms.most
few_is k kept few = let f = filled_few k.colours in let s = kept.size in let m = kept.most in omega arith

pub absent_is : (k : Kept) (base size key room : ℕ) → IsKept k → base % 16 ≡ 0 → IsBefore (room_at k.rooms) base key room → (0 < size → base + size ≤ 16 * key + room) → 0 < size → room_at k.rooms (back base size) ≡ None
absent_is k base size key room kept even b fits some =
    no_gap_behind (IsLive k.colours) k.capacity (room_at k.rooms) kept.layout (segment 0 base size) key room some even b.found b.up_to (fits some)

-- the other colours are as they were
differs : (old new : List (ℕ × Colour)) (id base size : ℕ) (q : ℕ) (c : Colour) → colour_of old id ≡ None → colour_of old q ≡ Some c → q ≢ id
differs old new id base size q c absent e same = no_colour (colour_of old q) c (ap (colour_of old) same ∙ absent) e

joins : (old new : List (ℕ × Colour)) (id base size : ℕ) → colour_of old id ≡ None → Changes old new id (live_colour base size) → Joins (IsLive old) (IsLive new) (segment id base size)
joins old new id base size absent a = record {
  old = λ t live. elim (cases_eq t.id id) [
    | inl same ↦
        let e = one_colour (colour_of new id) (live_colour t.base t.size) (live_colour base size) (ap (colour_of new) (sym same) ∙ live.0) a.here in
        inr (same_segment t id base size same (ap (λ (c : Colour). c.base) e) (ap (λ (c : Colour). c.size) e) live.1)
    | inr other ↦ inl (sym (a.others t.id other) ∙ live.0, live.1)
  ];
  stays = λ t live. (a.others t.id (differs old new id base size t.id (live_colour t.base t.size) absent live.0) ∙ live.0, live.1);
  here = (a.here, refl);
}

pub alloc_kept : (k : Kept) (id base size key room : ℕ) (new : List (ℕ × Colour)) (shades : List Shade) (rooms : Arena) → IsKept k → MayBegin k.colours id base → IsBefore (room_at k.rooms) base key room → (0 < size → base + size ≤ 16 * key + room)
    → Adds k.colours new id (live_colour base size) → (0 < size → Splits (room_at k.rooms) (room_at rooms) base size key room) → (size ≡ 0 → rooms ≡ k.rooms) → size_of rooms ≡ cond (nat_lt 0 size) 1 0 + size_of k.rooms → rooms.levels ≡ k.rooms.levels → rooms.most ≡ k.rooms.most
    → IsKept (record { capacity = k.capacity; colours = new; shades = shades; rooms = rooms })
alloc_kept k id base size key room new shades rooms kept begins b fits adds splits same count levels most =
    let few = begins.0 in
    let al = adds.live in
    let af = adds.filled in
    let ks = kept.size in
    let j = joins k.colours new id base size begins.1 adds.changes in
    record {
      layout = elim (cases_lt 0 size) [
        | inl some ↦
            splits_kept (IsLive k.colours) (IsLive new) k.capacity (room_at k.rooms) (room_at rooms) (segment id base size) key room kept.layout some begins.2 b.found b.up_to (fits some) j (splits some)
        | inr none ↦
            let zero : size ≡ 0 = omega arith in
            subst (λ (x : Arena). IsLayout (IsLive new) k.capacity (room_at x)) (sym (same zero)) (entered_empty (IsLive k.colours) (IsLive new) k.capacity (room_at k.rooms) (segment id base size) kept.layout zero begins.2 j)
      ];
      addresses = kept.addresses;
      few = omega arith;
      size = omega arith;
      levels = subst (λ (n : ℕ). AreEnough n k.capacity) (sym levels) kept.levels;
      most = most ∙ kept.most;
    }

-- ---- what is shown

-- the coat has its places
in_coat : (id base from size : ℕ) (p : Paint) → Contains (coat_from id base from size) p → (p.colour ≡ id) × (from ≤ p.place) × (p.place < from + size) × (p.address ≡ base + p.place)
in_coat id base from zero p c = let l = c.1 in absurd (omega arith)
in_coat id base from (suc size) p (zero, l, e) =
    let colour : id ≡ p.colour = ap (λ (q : Paint). q.colour) e in
    let place : from ≡ p.place = ap (λ (q : Paint). q.place) e in
    let address : base + from ≡ p.address = ap (λ (q : Paint). q.address) e in
    (sym colour, omega arith, omega arith, omega arith)
in_coat id base from (suc size) p (suc k, l, e) =
    let r = in_coat id base (suc from) size p (k, omega arith, e) in
    let r1 = r.1 in
    let r2 = r.2 in
    (r.0, omega arith, omega arith, r.3)

of_coat : (id base from size place : ℕ) → from ≤ place → place < from + size → Contains (coat_from id base from size) (record { address = base + place; colour = id; place = place })
of_coat id base from zero place low high = absurd (omega arith)
of_coat id base from (suc size) place low high =
    let at = λ (n : ℕ). let p : Paint = record { address = base + n; colour = id; place = n } in p in
    elim (cases_eq from place) [
      | inl same ↦ (0, omega arith, ap at same)
      | inr other ↦ Contains-append_right (at from ∷ []) (coat_from id base (suc from) size) (at place) (of_coat id base (suc from) size place (omega arith) (omega arith))
    ]

paint_is : (p : Paint) (id address : ℕ) → p.colour ≡ id → p.address ≡ address → record { address = address; colour = id; place = p.place } ≡ p
paint_is p id address c a = λ i. record { address = sym a i; colour = sym c i; place = p.place }

pub alloc_shows : (k : Kept) (s : State) (id base size : ℕ) (new : List (ℕ × Colour)) (rooms : Arena) → Shows k s → colour_of k.colours id ≡ None → Adds k.colours new id (live_colour base size)
    → Shows (record { capacity = k.capacity; colours = new; shades = k.shades; rooms = rooms }) (after s (Alloc id base size))
alloc_shows k s id base size new rooms shows absent adds =
    let a = adds.changes in
    let other = λ (q : ℕ) (c : Colour) (e : colour_of k.colours q ≡ Some c). a.others q (differs k.colours new id base size q c absent e) ∙ e in
    let root = monitor.shade_of false id 0 size in
    let n = length-append s.live (id ∷ []) in
    let al = adds.live in
    let count = shows.count in
    record {
      painted = λ p. (
        λ there. elim (Contains-append_cases s.painted (coat id base size) p there) [
          | inl was ↦ let q = (shows.painted p).0 was in (q.0, other p.colour q.0 q.1, q.2, q.3, q.4)
          | inr fresh ↦ let q = in_coat id base 0 size p fresh in let q2 = q.2 in (live_colour base size, ap (colour_of new) q.0 ∙ a.here, refl, omega arith, q.3)
        ],
        λ q. elim (cases_eq p.colour id) [
          | inl same ↦
              let e = one_colour (colour_of new id) q.0 (live_colour base size) (ap (colour_of new) (sym same) ∙ q.1) a.here in
              let q3 = q.3 in
              let q4 = q.4 in
              let eb : q.0.base ≡ base = ap (λ (c : Colour). c.base) e in
              let es : q.0.size ≡ size = ap (λ (c : Colour). c.size) e in
              Contains-append_right s.painted (coat id base size) p (subst (Contains (coat id base size)) (paint_is p id (base + p.place) same (omega arith)) (of_coat id base 0 size p.place (omega arith) (omega arith)))
          | inr apart ↦ Contains-append_left s.painted (coat id base size) p ((shows.painted p).1 (q.0, sym (a.others p.colour apart) ∙ q.1, q.2, q.3, q.4))
        ],
      );
      live = λ i. (
        λ there. elim (Contains-push_cases s.live id i there) [
          | inl was ↦ let q = (shows.live i).0 was in (q.0, other i q.0 q.1, q.2)
          | inr same ↦ (live_colour base size, ap (colour_of new) (sym same) ∙ a.here, refl)
        ],
        λ q. elim (cases_eq i id) [
          | inl same ↦ subst (Contains (s.live ++ id ∷ [])) (sym same) (Contains-push s.live id)
          | inr apart ↦ Contains-append_left s.live (id ∷ []) i ((shows.live i).1 (q.0, sym (a.others i apart) ∙ q.1, q.2))
        ],
      );
      used = λ i. (
        λ there. elim (Contains-push_cases s.used id i there) [
          | inl was ↦ let q = (shows.used i).0 was in (q.0, other i q.0 q.1)
          | inr same ↦ (live_colour base size, ap (colour_of new) (sym same) ∙ a.here)
        ],
        λ q. elim (cases_eq i id) [
          | inl same ↦ subst (Contains (s.used ++ id ∷ [])) (sym same) (Contains-push s.used id)
          | inr apart ↦ Contains-append_left s.used (id ∷ []) i ((shows.used i).1 (q.0, sym (a.others i apart) ∙ q.1))
        ],
      );
      shades = λ x. (
        λ there. elim (Contains-push_cases s.shades root x there) [
          | inl was ↦ elim ((shows.shades x).0 was) [ inl q ↦ inl (q.0, other x.colour q.0 q.1, q.2, q.3, q.4) | inr sliced ↦ inr sliced ]
          | inr same ↦ let P : Shade → Type 0 = IsWhole new in inl (subst P same (live_colour base size, a.here, refl, refl, refl))
        ],
        λ known. elim known [
          | inl q ↦ elim (cases_eq x.colour id) [
            | inl same ↦
                let e = one_colour (colour_of new id) q.0 (live_colour base size) (ap (colour_of new) (sym same) ∙ q.1) a.here in
                let hi : x.hi ≡ size = q.3 ∙ ap (λ (c : Colour). c.size) e in
                let is : root ≡ x = λ i. record { colour = sym same i; lo = sym q.2 i; hi = sym hi i; sealed = sym q.4 i } in
                subst (Contains (s.shades ++ root ∷ [])) is (Contains-push s.shades root)
            | inr apart ↦ Contains-append_left s.shades (root ∷ []) x ((shows.shades x).1 (inl (q.0, sym (a.others x.colour apart) ∙ q.1, q.2, q.3, q.4)))
          ]
          | inr sliced ↦ Contains-append_left s.shades (root ∷ []) x ((shows.shades x).1 (inr sliced))
        ],
      );
      count = omega arith;
      once = all_pairs_push (λ (i j : ℕ). i ≢ j) s.live id shows.once (λ i d l same.
          let q = (shows.live id).0 (subst (Contains s.live) same (Contains-get_or s.live i d l)) in no_colour (colour_of k.colours id) q.0 absent q.1);
    }
