use Rattle.std.proofs.Common.{◌≡◌, ◌*◌, ℕ, Some, None, arith, subst, sym}
use Rattle.ms_gap_tree.specs.refinement.Rooms.{IsLowest, room_at}
use Rattle.ms_live.specs.refinement.Kept.{Kept}
use Rattle.ms_live.specs.Place.{IsPlace}
use Rattle.ms_live.proofs.Keeping.{place_fits, place_found, place_none}
use Rattle.ms_live.proofs.tree_gaps.TreeGaps.place_counted.Goals as goal

pub returns-in_err-key-clause-place : goal.returns-in_err-key-clause-place
returns-in_err-key-clause-place g c =
    let inside = c.self.inside in
    let none : c.from_residual.result ≡ None = cc in
    let low : IsLowest (room_at inside.rooms) c.args.n None = subst (λ (n : ℕ). IsLowest (room_at inside.rooms) n None) c.from.ensures c.in_err-key.ensures.found in
    let place : IsPlace inside.ids inside.capacity c.args.n None = place_none inside.ids inside.capacity c.args.n (room_at inside.rooms) c.self.invariant.layout (omega arith) low in
    subst (λ (k : Kept). IsPlace k.live k.addresses c.args.n c.from_residual.result) c.self.view_is (subst (IsPlace inside.ids inside.capacity c.args.n) (sym none) place)

pub overflow_cast-result : goal.overflow_cast-result
overflow_cast-result g c =
    let inside = c.self.inside in
    let low = subst (λ (n : ℕ). IsLowest (room_at inside.rooms) n (Some c.in_ok-key.key)) c.from.ensures c.in_ok-key.ensures.found in
    let few = c.self.invariant.addresses in
    let fits = place_fits inside.ids inside.capacity c.args.n (room_at inside.rooms) c.in_ok-key.key c.self.invariant.layout (omega arith) low in
    omega arith

pub returns-clause-place : goal.returns-clause-place
returns-clause-place g c =
    let inside = c.self.inside in
    let low = subst (λ (n : ℕ). IsLowest (room_at inside.rooms) n (Some c.in_ok-key.key)) c.from.ensures c.in_ok-key.ensures.found in
    subst (λ (k : Kept). IsPlace k.live k.addresses c.args.n (Some (16 * c.in_ok-key.key))) c.self.view_is
    (place_found inside.ids inside.capacity c.args.n (room_at inside.rooms) c.in_ok-key.key c.self.invariant.layout (omega arith) low)
