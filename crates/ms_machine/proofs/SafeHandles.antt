-- Handles that are made of a known one are known.
use Rattle.std.proofs.Common.{◌≡◌, ℕ, ℤ, pos, negsuc, ◌+◌, ◌≤◌, ◌+ℤ◌, ◌*ℤ◌, Bool, true, false, cond, [], ◌∷◌, ◌++◌, refl, arith}
use Rattle.std.specs.Ordering.{int_eq}
use Rattle.std.specs.Prelude.{nat_le}
use Rattle.std.proofs.lemmas.Bool.{leb-true}
use Rattle.std.proofs.lemmas.List.Elements.{Contains-append_left, Contains-push}
use Rattle.ms_event.specs.Monitor.{Shade, State, after_all, shade_of}
use Rattle.ms_handle.specs.declared.handle.Handle.{Handle}
use Rattle.ms_handle.specs.declared.handle.Handle.TheVariants as handles
use Rattle.ms_handle.specs.Handle.{add, is_near, moved, part, seal, slice}
use Rattle.ms_segment.specs.Memory.{Memory}
use Rattle.ms_machine.specs.Running.{with_event}
use Rattle.ms_machine.specs.refinement.Safety.{IsMonitored, KnowsHandle}
use Rattle.ms_machine.specs.Segments.{seal_event, slice_event}
use Rattle.ms_machine.proofs.SafeStates.{Follows, Grows, follows-none, handle_grows}

-- ---- a handle that is moved has its bound

module _ (state : State) where
  near_known : (sealed : Bool) (id base size : ℕ) (offset to : ℤ) (b : Bool) → KnowsHandle state (handles.Good sealed id base size offset) → KnowsHandle state (cond b (handles.Good sealed id base size to) handles.Broken)
  near_known sealed id base size offset to true known = known
  near_known sealed id base size offset to false known = tt

  moved_known : (h : Handle) (distance : ℤ) → KnowsHandle state h → KnowsHandle state (moved h distance)
  moved_known handles.Null distance known = tt
  moved_known handles.Broken distance known = tt
  moved_known (handles.Good sealed id base size offset) distance known =
      near_known sealed id base size offset (offset +ℤ distance) (is_near (offset +ℤ distance)) known

  added_known : (h : Handle) (distance : ℤ) (b : Bool) → KnowsHandle state h → KnowsHandle state (cond b h (moved h distance))
  added_known h distance true known = known
  added_known h distance false known = moved_known h distance known

  pub add_known : (h : Handle) (delta : ℤ) (scale : ℕ) → KnowsHandle state h → KnowsHandle state (add h delta scale)
  add_known h delta scale known = added_known h (delta *ℤ pos scale) (int_eq (delta *ℤ pos scale) (pos 0)) known

-- ---- a slice is told, and known then

module _ (state : State) (m : Memory) (monitored : IsMonitored state m) where
  abbrev Sliced : Handle → Handle → Type 0
  Sliced h g = Follows state m (slice_event h g) m × KnowsHandle (after_all state (with_event (slice_event h g) [])) g

  -- a shade that joins leaves what is known, and what is monitored
  abbrev joined : Shade → State
  joined shade = record state { shades = state.shades ++ shade ∷ [] }

  joined_grows : (shade : Shade) → Grows state (joined shade)
  joined_grows shade = record {
    used = λ colour known. known;
    shades = λ other known. Contains-append_left state.shades (shade ∷ []) other known;
  }

  joined_monitored : (shade : Shade) → IsMonitored (joined shade) m
  joined_monitored shade = record {
    live = monitored.live;
    painted = monitored.painted;
    roots = λ k d inside. (joined_grows shade).shades _ (monitored.roots k d inside);
    used = monitored.used;
    pieces = λ h i has. handle_grows state (joined shade) (joined_grows shade) h (monitored.pieces h i has);
  }

  within_sliced : (sealed : Bool) (id base size start len : ℕ) (offset : ℤ) (b : Bool) → nat_le (start + len) size ≡ b → KnowsHandle state (handles.Good sealed id base size offset) → Sliced (handles.Good sealed id base size offset) (cond b (handles.Good sealed id (base + start) len (pos 0)) handles.Broken)
  within_sliced sealed id base size start len offset true near known =
      let below : start + len ≤ size = leb-true (start + len) size near in
      let shade : Shade = shade_of sealed id (base + start) (base + start + len) in (
        record {
          may = ((known.1, omega arith, omega arith, omega arith), tt);
          monitored = joined_monitored shade;
          grows = joined_grows shade;
          capacity = refl;
        },
        (known.0, Contains-push state.shades shade),
      )
  within_sliced sealed id base size start len offset false near known = (follows-none state m monitored, tt)

  part_sliced : (sealed : Bool) (id base size : ℕ) (offset start : ℤ) (len : ℕ) → KnowsHandle state (handles.Good sealed id base size offset) → Sliced (handles.Good sealed id base size offset) (part sealed id base size start len)
  part_sliced sealed id base size offset (pos start) len known = within_sliced sealed id base size start len offset (nat_le (start + len) size) refl known
  part_sliced sealed id base size offset (negsuc n) len known = (follows-none state m monitored, tt)

  pub slice_follows : (h : Handle) (from len : ℕ) → KnowsHandle state h → Follows state m (slice_event h (slice h from len)) m × KnowsHandle (after_all state (with_event (slice_event h (slice h from len)) [])) (slice h from len)
  slice_follows handles.Null from len known = (follows-none state m monitored, tt)
  slice_follows handles.Broken from len known = (follows-none state m monitored, tt)
  slice_follows (handles.Good sealed id base size offset) from len known = part_sliced sealed id base size offset (offset +ℤ pos from) len known

  -- ---- a sealing is told where the handle wasn't sealed, and the handle is known then

  pub seal_follows : (h : Handle) → KnowsHandle state h → Follows state m (seal_event h) m × KnowsHandle (after_all state (with_event (seal_event h) [])) (seal h)
  seal_follows handles.Null known = (follows-none state m monitored, tt)
  seal_follows handles.Broken known = (follows-none state m monitored, tt)
  seal_follows (handles.Good true id base size offset) known = (follows-none state m monitored, known)
  seal_follows (handles.Good false id base size offset) known =
      let shade : Shade = shade_of true id base (base + size) in (
        record {
          may = (known.1, tt);
          monitored = joined_monitored shade;
          grows = joined_grows shade;
          capacity = refl;
        },
        (known.0, Contains-push state.shades shade),
      )
