use Rattle.std.proofs.Common.{◌≡◌, ℕ, Option, Some, None, IsSome, refl, arith, sym, ap, ◌∙◌, subst, cond, nat_eq}
use Rattle.ms_gap_tree.specs.refinement.Rooms.{Arena, IsHeld, room_at, size_of, tree}
use Rattle.ms_gap_tree.specs.refinement.Tree.{remove}
use Rattle.ms_gap_tree.specs.declared.rooms.Rooms.TheInside.{Inside}
use Rattle.ms_gap_tree.proofs.GainLaws.{remove_loses}
use Rattle.ms_gap_tree.proofs.Gains.{size_gains, Gains}
use Rattle.ms_gap_tree.proofs.Pool.{few_taken, held_taken, looked_at, room_taken, size_taken, there_before}
use Rattle.ms_gap_tree.proofs.rooms.Rooms.remove.Goals as goal

abbrev arena : Inside → Arena
arena r = record { nodes = r.nodes.items; root = r.root; levels = r.levels; most = r.most }

pub take-rest-requires-clause-found : goal.take-rest-requires-clause-found
take-rest-requires-clause-found c =
    let a = arena c.self.inside in
    let there = there_before a c.args.self.now c.args.key c.self.view_is c.requires.there in
    subst IsSome (sym (remove_loses a.levels 0 c.args.key (tree a) there.0 (looked_at a c.args.key there.0 there.1)).1) refl

pub push_reserved-requires : goal.push_reserved-requires
push_reserved-requires c =
    let a = arena c.self.inside in
    let there = there_before a c.args.self.now c.args.key c.self.view_is c.requires.there in
    let loses = remove_loses a.levels 0 c.args.key (tree a) there.0 (looked_at a c.args.key there.0 there.1) in
    let less = size_gains loses.0 (remove a.levels 0 c.args.key (tree a)) (tree a) loses.2 in
    let count = c.self.invariant.0.pool.count in
    let few = c.self.invariant.0.few in
    let room = c.self.invariant.3 in
    omega (arith, c.self.inside.free.ok.0)

pub invariant_of-self : goal.invariant_of-self
invariant_of-self c =
    let a = arena c.self.inside in
    let there = there_before a c.args.self.now c.args.key c.self.view_is c.requires.there in
    let loses = remove_loses a.levels 0 c.args.key (tree a) there.0 (looked_at a c.args.key there.0 there.1) in
    let same : Some c.take-rest.result.1 ≡ Some loses.0 = c.take-rest.ensures.slot ∙ loses.1 in
    let slot : c.take-rest.result.1 ≡ loses.0 = cc in
    let gains = subst (λ (j : ℕ). Gains j (remove a.levels 0 c.args.key (tree a)) (tree a)) (sym slot) loses.2 in
    let nodes = c.self.invariant.2 in
    let free = c.self.invariant.3 in (
      subst (IsHeld _) (sym c.push_reserved.ensures.items) (held_taken a c.self.inside.free.items c.take-rest.new.nodes.items c.take-rest.result.0 c.args.key c.take-rest.result.1 c.self.invariant.0 gains c.take-rest.ensures.tree c.take-rest.ensures.length),
      c.self.invariant.1,
      omega (arith, c.take-rest.ensures.capacity),
      omega (arith, c.push_reserved.ensures.capacity),
    )

pub returns-clause-rooms : goal.returns-clause-rooms
returns-clause-rooms c other =
    room_taken (arena c.self.inside) c.self.inside.free.items c.take-rest.new.nodes.items c.take-rest.result.0 c.args.key c.self.invariant.0 c.take-rest.ensures.tree other
    ∙ ap (λ (x : Arena). cond {A = Option ℕ} (nat_eq other c.args.key) None (room_at x other)) c.self.view_is

pub returns-clause-size : goal.returns-clause-size
returns-clause-size c =
    let a = arena c.self.inside in
    let there = there_before a c.args.self.now c.args.key c.self.view_is c.requires.there in
    size_taken a c.take-rest.new.nodes.items c.take-rest.result.0 c.args.key there.0 there.1 c.take-rest.ensures.tree ∙ ap size_of c.self.view_is

pub returns-clause-few : goal.returns-clause-few
returns-clause-few c =
    let a = arena c.self.inside in
    let there = there_before a c.args.self.now c.args.key c.self.view_is c.requires.there in
    few_taken a c.self.inside.free.items c.take-rest.new.nodes.items c.take-rest.result.0 c.args.key there.0 c.self.invariant.0 there.1 c.take-rest.ensures.tree
