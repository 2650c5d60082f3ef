-- Each shade that the monitor knows lies within the size at the making of its colour.
use Rattle.std.proofs.Common.{ℕ, true, false, List, [], ◌∷◌, ◌++◌, sym, subst, append-nil, append_assoc, arith}
use Rattle.std.specs.List.{All}
use Rattle.std.proofs.lemmas.List.Elements.{All-contains, All-nil, All-push, All-weaker, Contains-append_left, Contains-push}
use Rattle.ms_event.specs.declared.event.Event.{Event}
use Rattle.ms_event.specs.declared.event.Event.TheVariants.{Alloc, Free, Read, Refused, Seal, Slice, Write}
use Rattle.ms_event.specs.Monitor.{Accepts, AcceptsFrom, May, Shade, State, after, after_all, nothing_yet, shade_of}
use Rattle.ms_machine.specs.refinement.Safety.{IsWithinSegment}

within_more : (events more : List Event) (shade : Shade) → IsWithinSegment events shade → IsWithinSegment (events ++ more) shade
within_more events more shade is = (is.0, is.1, Contains-append_left events more (Alloc shade.colour is.0 is.1) is.2, is.3)

all_within_more : (events more : List Event) (shades : List Shade) → All (IsWithinSegment events) shades → All (IsWithinSegment (events ++ more)) shades
all_within_more events more shades old = All-weaker (IsWithinSegment events) (IsWithinSegment (events ++ more)) (within_more events more) shades old

-- an event that may come next makes no shade that goes past its colour's size
new_within : (capacity : ℕ) (events : List Event) (state : State) (e : Event) → All (IsWithinSegment events) state.shades → May capacity state e → All (IsWithinSegment (events ++ e ∷ [])) (after state e).shades
new_within capacity events state (Alloc id addr size) old may =
    let e = Alloc id addr size in
    All-push (IsWithinSegment (events ++ e ∷ [])) state.shades (shade_of false id 0 size) (all_within_more events (e ∷ []) state.shades old) (addr, size, Contains-push events e, omega arith)
new_within capacity events state (Seal id lo hi) old may =
    let e = Seal id lo hi in
    let whole = All-contains (IsWithinSegment events) state.shades (shade_of false id lo hi) old may in
    All-push (IsWithinSegment (events ++ e ∷ [])) state.shades (shade_of true id lo hi) (all_within_more events (e ∷ []) state.shades old)
    (whole.0, whole.1, Contains-append_left events (e ∷ []) (Alloc id whole.0 whole.1) whole.2, whole.3)
new_within capacity events state (Slice sealed id lo hi lo2 hi2) old may =
    let e = Slice sealed id lo hi lo2 hi2 in
    let whole = All-contains (IsWithinSegment events) state.shades (shade_of sealed id lo hi) old may.0 in
    All-push (IsWithinSegment (events ++ e ∷ [])) state.shades (shade_of sealed id lo2 hi2) (all_within_more events (e ∷ []) state.shades old)
    (whole.0, whole.1, Contains-append_left events (e ∷ []) (Alloc id whole.0 whole.1) whole.2, omega (arith, whole.3, may.3))
new_within capacity events state (Refused size) old may = all_within_more events (Refused size ∷ []) state.shades old
new_within capacity events state (Read sealed id lo hi addr width) old may = all_within_more events (Read sealed id lo hi addr width ∷ []) state.shades old
new_within capacity events state (Write id lo hi addr width) old may = all_within_more events (Write id lo hi addr width ∷ []) state.shades old
new_within capacity events state (Free id) old may = all_within_more events (Free id ∷ []) state.shades old

sizes_after : (capacity : ℕ) (before : List Event) (state : State) (es : List Event) → All (IsWithinSegment before) state.shades → AcceptsFrom capacity state es → All (IsWithinSegment (before ++ es)) (after_all state es).shades
sizes_after capacity before state [] old accepts = subst (λ b. All (IsWithinSegment b) state.shades) (sym (append-nil before)) old
sizes_after capacity before state (e ∷ es) old accepts =
    subst (λ b. All (IsWithinSegment b) (after_all (after state e) es).shades) (append_assoc before (e ∷ []) es)
    (sizes_after capacity (before ++ e ∷ []) (after state e) es (new_within capacity before state e old accepts.0) accepts.1)

-- So it is after each trace that is accepted.
pub sizes_of : (capacity : ℕ) (events : List Event) → Accepts capacity events → All (IsWithinSegment events) (after_all nothing_yet events).shades
sizes_of capacity events accepts = sizes_after capacity [] nothing_yet events (All-nil (IsWithinSegment [])) accepts
