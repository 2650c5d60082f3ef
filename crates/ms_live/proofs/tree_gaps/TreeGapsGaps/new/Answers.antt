use Rattle.std.proofs.Common.{◌≡◌, ℕ, List, Some, None, cond, nat_eq, [], arith, subst, sym, ap, ◌∙◌}
use Rattle.ms_gap_tree.specs.refinement.Rooms.{room_at, size_of}
use Rattle.ms_live.specs.refinement.Kept.{AreEnough, IsKept}
use Rattle.ms_live.specs.declared.gaps.Live.{Live}
use Rattle.ms_live.proofs.Keeping.{kept_new}
use Rattle.ms_live.proofs.tree_gaps.TreeGapsGaps.new.Goals as goal

pub insert-requires-clause-key : goal.insert-requires-clause-key
insert-requires-clause-key c =
    let enough = (subst (λ (n : ℕ). AreEnough n c.args.capacity) (sym (c.in_ok-rooms.ensures.levels)) c.levels_for.ensures).1 in omega arith

pub invariant_of-result : goal.invariant_of-result
invariant_of-result c =
    let a = c.insert.new.self in
    let empty : c.in_ok-new.field-0 ≡ [] = c.in_ok-new.ensures in
    let rooms = λ (key : ℕ).
    let was : cond (nat_eq key 0) (Some c.from.result) (room_at c.in_ok-rooms.rooms key) ≡ cond (nat_eq key 0) (Some c.from.result) None = ap (cond (nat_eq key 0) (Some c.from.result)) (c.in_ok-rooms.ensures.rooms key) in
    c.insert.ensures.rooms key ∙ (was ∙ ap (λ (n : ℕ). cond (nat_eq key 0) (Some n) None) c.from.ensures) in
    let size : size_of a ≡ 1 = let s = c.insert.ensures.size in let z = c.in_ok-rooms.ensures.size in omega arith in
    subst (λ (live : List Live). IsKept (record { addresses = c.args.capacity; live = live; rooms = a })) (sym empty)
    (kept_new c.args.capacity a (omega arith) rooms size (subst (λ (n : ℕ). AreEnough n c.args.capacity) (sym (c.insert.ensures.levels ∙ c.in_ok-rooms.ensures.levels)) c.levels_for.ensures) (c.insert.ensures.most ∙ c.in_ok-rooms.ensures.most))
