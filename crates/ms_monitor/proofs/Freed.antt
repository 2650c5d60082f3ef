-- The end of an allocation: when it may come, and what is kept and shown after it.
use Rattle.std.proofs.Common.{◌≡◌, ◌≢◌, ◌==◌, ℕ, ◌+◌, ◌<◌, ◌≤◌, Bool, true, false, not, cond, nat_lt, ◌&&◌, List, Option, Some, None, IsSome, refl, arith, ap, sym, ◌∙◌, subst, inl, inr}
use Rattle.std.specs.List.{Contains}
use Rattle.std.proofs.lemmas.Bool.{cases_eq, cases_lt}
use Rattle.std.proofs.lemmas.Bool.Decides.{nat_tests}
use Rattle.std.proofs.lemmas.List.Kept.{AllPairs-filter}
use Rattle.ms_event.specs.Monitor.{Paint, Shade, State, after}
use Rattle.ms_event.specs.declared.event.Event.TheVariants.{Free}
use Rattle.ms_gap_tree.specs.refinement.Rooms.{Arena, room_at, size_of}
use Rattle.ms_live.specs.refinement.Kept.{AreEnough}
use Rattle.ms_live.specs.refinement.Layout.{IsLayout}
use Rattle.ms_live.specs.refinement.Layout as layout
use Rattle.ms_live.specs.declared.gaps.Live.{Live}
use Rattle.ms_live.proofs.Layouts.{left, left_empty, Leaves}
use Rattle.ms_monitor.specs.refinement.Colours.{Changes, Ends, colour_of, ended}
use Rattle.ms_monitor.specs.refinement.Gaps.{back, segment}
use Rattle.ms_monitor.specs.refinement.Kept.{IsKept, IsLive, Kept}
use Rattle.ms_monitor.specs.refinement.Showing.{Shows}
use Rattle.ms_monitor.specs.declared.colours.Colour.{Colour}
use Rattle.ms_monitor.proofs.Allocated.{live_colour, no_colour, one_colour, same_segment}
use Rattle.ms_monitor.proofs.Colouring.{live_one}
use Rattle.ms_monitor.proofs.Filtering.{is_left, one_goes, stays}
use Rattle.ms_monitor.proofs.Seen.{is_live}
use Rattle.ms_live.proofs.Found.{not_false, other_id}

-- ---- when it may come

pub not_used : (k : Kept) (s : State) (id : ℕ) → Shows k s → colour_of k.colours id ≡ None → ¬ (Contains s.live id)
not_used k s id shows none there = let q = (shows.live id).0 there in no_colour (colour_of k.colours id) q.0 none q.1

pub not_live : (k : Kept) (s : State) (id : ℕ) (c : Colour) → Shows k s → colour_of k.colours id ≡ Some c → c.is_live ≡ false → ¬ (Contains s.live id)
not_live k s id c shows found over there =
    let q = (shows.live id).0 there in
    let e = ap (λ (d : Colour). d.is_live) (one_colour (colour_of k.colours id) c q.0 found q.1) in
    let q2 = q.2 in
    cc

pub true_from : (b : Bool) → not b ≡ false → b ≡ true
true_from true h = refl
true_from false h = absurd (cc)

-- ---- what is kept

pub first_is : (k : Kept) → IsKept k → IsSome (room_at k.rooms 0)
first_is k kept = subst IsSome (sym kept.layout.first.1) refl

pub back_is : (k : Kept) (id : ℕ) (c : Colour) → IsKept k → colour_of k.colours id ≡ Some c → c.is_live ≡ true → 0 < c.size → IsSome (room_at k.rooms (back c.base c.size))
back_is k id c kept found live some = let p = kept.layout.backs (segment id c.base c.size) (is_live k id c found live) some in subst IsSome (sym p.1) refl

pub within_is : (k : Kept) (id : ℕ) (c : Colour) → IsKept k → colour_of k.colours id ≡ Some c → c.is_live ≡ true → 0 < c.size → c.base + c.size ≤ k.capacity
within_is k id c kept found live some = kept.layout.within (segment id c.base c.size) (is_live k id c found live) some

-- what is live afterwards is another one
another : (new : List (ℕ × Colour)) (id q : ℕ) (c d : Colour) → colour_of new id ≡ Some (ended c) → colour_of new q ≡ Some d → d.is_live ≡ true → q ≢ id
another new id q c d here there live same =
    let e = ap (λ (x : Colour). x.is_live) (one_colour (colour_of new id) (ended c) d here (ap (colour_of new) (sym same) ∙ there)) in
    cc

leaves : (k : Kept) (new : List (ℕ × Colour)) (id : ℕ) (c : Colour) → colour_of k.colours id ≡ Some c → c.is_live ≡ true → Changes k.colours new id (ended c) → Leaves (IsLive k.colours) (IsLive new) (segment id c.base c.size)
leaves k new id c found live a = record {
  was = λ t there.
      let ne = another new id t.id c (live_colour t.base t.size) a.here there.0 refl in
      ((sym (a.others t.id ne) ∙ there.0, there.1), λ same. ne (ap (λ (x : Live). x.id) same));
  stays = λ t there ne. (
    a.others t.id (λ same.
        let e = one_colour (colour_of k.colours id) (live_colour t.base t.size) c (ap (colour_of k.colours) (sym same) ∙ there.0) found in
        ne (same_segment t id c.base c.size same (ap (λ (x : Colour). x.base) e) (ap (λ (x : Colour). x.size) e) there.1))
        ∙ there.0,
    there.1,
  );
  is = is_live k id c found live;
}

-- whose allocation it is doesn't matter to the gaps
of_any : (capacity : ℕ) (f g : ℕ → Option ℕ) (id base size key room rest : ℕ) → layout.Ends capacity f g (segment 0 base size) key room rest → layout.Ends capacity f g (segment id base size) key room rest
of_any capacity f g id base size key room rest e =
    record { before = e.before; found = e.found; none_between = e.none_between; back = e.back; at_key = e.at_key; at_behind = e.at_behind; others = e.others }

weight : (c : Colour) (b : Bool) → c.is_live ≡ true → b ≡ nat_lt 0 c.size → cond {A = ℕ} (c.is_live && b) 1 0 ≡ cond b 1 0
weight c b live e = ap (λ (x : Bool). cond {A = ℕ} (x && b) 1 0) live

pub free_kept : (k : Kept) (id : ℕ) (c : Colour) (new : List (ℕ × Colour)) (shades : List Shade) (rooms : Arena) → IsKept k → colour_of k.colours id ≡ Some c → c.is_live ≡ true → Ends k.colours new id c
    → (0 < c.size → (key : ℕ) × (room : ℕ) × (rest : ℕ) × layout.Ends k.capacity (room_at k.rooms) (room_at rooms) (segment 0 c.base c.size) key room rest) → (c.size ≡ 0 → rooms ≡ k.rooms)
    → cond (nat_lt 0 c.size) 1 0 + size_of rooms ≡ size_of k.rooms → rooms.levels ≡ k.rooms.levels → rooms.most ≡ k.rooms.most
    → IsKept (record { capacity = k.capacity; colours = new; shades = shades; rooms = rooms })
free_kept k id c new shades rooms kept found live ends joined same count levels most =
    let few = kept.few in
    let el = ends.live in
    let ef = ends.filled in
    let ks = kept.size in
    let w = weight c (nat_lt 0 c.size) live refl in
    let l = leaves k new id c found live ends.changes in
    record {
      layout = elim (cases_lt 0 c.size) [
        | inl some ↦
            let e = joined some in
            left (IsLive k.colours) (IsLive new) k.capacity (room_at k.rooms) (room_at rooms) (segment id c.base c.size) e.0 e.1 e.2 kept.layout some l (of_any k.capacity (room_at k.rooms) (room_at rooms) id c.base c.size e.0 e.1 e.2 e.3)
        | inr none ↦
            let zero : c.size ≡ 0 = omega arith in
            subst (λ (x : Arena). IsLayout (IsLive new) k.capacity (room_at x)) (sym (same zero)) (left_empty (IsLive k.colours) (IsLive new) k.capacity (room_at k.rooms) (segment id c.base c.size) kept.layout zero l)
      ];
      addresses = kept.addresses;
      few = omega arith;
      size = omega arith;
      levels = subst (λ (n : ℕ). AreEnough n k.capacity) (sym levels) kept.levels;
      most = most ∙ kept.most;
    }

-- ---- what is shown

pub free_shows : (k : Kept) (s : State) (id : ℕ) (c : Colour) (new : List (ℕ × Colour)) (rooms : Arena) → Shows k s → colour_of k.colours id ≡ Some c → c.is_live ≡ true → Ends k.colours new id c
    → Shows (record { capacity = k.capacity; colours = new; shades = k.shades; rooms = rooms }) (after s (Free id))
free_shows k s id c new rooms shows found live ends =
    let a = ends.changes in
    let painted = λ (p : Paint). not (p.colour == id) in
    let goes_on = λ (i : ℕ). not (i == id) in
    let differ = λ (i : ℕ) (t : not (i == id) ≡ true) (same : i ≡ id).
    let f = not_false (i == id) t in
    let z : ⊥ = grind (arith, nat_tests) in
    z in
    let pass = λ (i : ℕ) (ne : i ≢ id). ap not (other_id i id ne) in
    let n = one_goes id s.live shows.once ((shows.live id).1 (c, found, live)) in
    let o = live_one c live in
    let el = ends.live in
    let count = shows.count in
    record {
      painted = λ p. (
        λ there.
            let l = is_left painted s.painted p there in
            let q = (shows.painted p).0 l.0 in
            (q.0, a.others p.colour (differ p.colour l.1) ∙ q.1, q.2, q.3, q.4),
        λ q.
            let ne = another new id p.colour c q.0 a.here q.1 q.2 in
            stays painted s.painted p ((shows.painted p).1 (q.0, sym (a.others p.colour ne) ∙ q.1, q.2, q.3, q.4)) (pass p.colour ne),
      );
      live = λ i. (
        λ there. let l = is_left goes_on s.live i there in let q = (shows.live i).0 l.0 in (q.0, a.others i (differ i l.1) ∙ q.1, q.2),
        λ q. let ne = another new id i c q.0 a.here q.1 q.2 in stays goes_on s.live i ((shows.live i).1 (q.0, sym (a.others i ne) ∙ q.1, q.2)) (pass i ne),
      );
      used = λ i. (
        λ there. let q = (shows.used i).0 there in elim (cases_eq i id) [ inl same ↦ (ended c, ap (colour_of new) same ∙ a.here) | inr ne ↦ (q.0, a.others i ne ∙ q.1) ],
        λ q. elim (cases_eq i id) [ inl same ↦ (shows.used i).1 (c, ap (colour_of k.colours) same ∙ found) | inr ne ↦ (shows.used i).1 (q.0, sym (a.others i ne) ∙ q.1) ],
      );
      shades = λ x. (
        λ there. elim ((shows.shades x).0 there) [
          | inl q ↦ elim (cases_eq x.colour id) [
            | inl same ↦
                let e = one_colour (colour_of k.colours id) q.0 c (ap (colour_of k.colours) (sym same) ∙ q.1) found in
                inl (ended c, ap (colour_of new) same ∙ a.here, q.2, q.3 ∙ ap (λ (d : Colour). d.size) e, q.4)
            | inr ne ↦ inl (q.0, a.others x.colour ne ∙ q.1, q.2, q.3, q.4)
          ]
          | inr sliced ↦ inr sliced
        ],
        λ known. (shows.shades x).1 (elim known [
          | inl q ↦ elim (cases_eq x.colour id) [
            | inl same ↦
                let e = one_colour (colour_of new id) q.0 (ended c) (ap (colour_of new) (sym same) ∙ q.1) a.here in
                inl (c, ap (colour_of k.colours) same ∙ found, q.2, q.3 ∙ ap (λ (d : Colour). d.size) e, q.4)
            | inr ne ↦ inl (q.0, sym (a.others x.colour ne) ∙ q.1, q.2, q.3, q.4)
          ]
          | inr sliced ↦ inr sliced
        ]),
      );
      count = omega arith;
      once = AllPairs-filter (λ (i j : ℕ). i ≢ j) goes_on s.live shows.once;
    }
