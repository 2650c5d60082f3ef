use Rattle.std.proofs.Common.{◌≡◌, ◌<◌, List, Some, None, IsSome, true, ap, ◌∙◌, subst, sym, cond, nat_eq, ℕ, Option}
use Rattle.ms_gap_tree.specs.refinement.Arena.{tree_of}
use Rattle.ms_gap_tree.specs.refinement.Rooms.{Arena, room_at, size_of}
use Rattle.ms_gap_tree.specs.refinement.Tree.{exchange, half, yields}
use Rattle.ms_gap_tree.specs.declared.node.Item.{Item}
use Rattle.ms_gap_tree.specs.declared.node.Link.{Link}
use Rattle.ms_gap_tree.specs.declared.node.Node.{Node}
use Rattle.ms_gap_tree.specs.declared.rooms.Rooms.TheInside.{Inside}
use Rattle.ms_gap_tree.proofs.Exchanged.{held_exchanged, inside_is, room_exchanged, size_exchanged}
use Rattle.ms_gap_tree.proofs.Pool.{absent_before}
use Rattle.ms_gap_tree.proofs.rooms.Rooms.exchange.Goals as goal

abbrev arena : Inside → Arena
arena r = record { nodes = r.nodes.items; root = r.root; levels = r.levels; most = r.most }

-- what the code found of the nodes
abbrev IsFound : Arena → ℕ → Item → Link → List Node → Type 0
IsFound a key item root nodes = (yields a.levels key item.room (tree_of nodes a.levels a.root) ≡ true) × (tree_of nodes a.levels (Some root) ≡ exchange item (tree_of nodes a.levels a.root))

pub returns-in_default-clause-inside : goal.returns-in_default-clause-inside
returns-in_default-clause-inside c some =
    let a = arena c.self.inside in
    let there = subst (λ (x : Arena). IsSome (room_at x c.args.key)) (sym c.self.view_is) some in
    subst (λ (x : Arena). c.args.key < half x.levels) c.self.view_is (inside_is a c.self.inside.free.items c.args.key c.self.invariant.0 there)

pub invariant_of-self : goal.invariant_of-self
invariant_of-self c =
    let a = arena c.self.inside in
    let found = subst (IsFound a c.args.key c.args.item c.in-Some.root) c.as_slice.ensures.value c.in-Some.ensures in
    let below : c.args.item.key < half a.levels = subst (λ (x : Arena). c.args.item.key < half x.levels) (sym c.self.view_is) c.requires.below in
    let absent = absent_before a c.args.self.now c.args.item.key c.self.view_is c.requires.absent in
    (held_exchanged a c.self.inside.free.items c.args.key c.args.item (Some c.in-Some.root) c.self.invariant.0 found.0 below absent found.1, c.self.invariant.1, c.self.invariant.2, c.self.invariant.3)

pub returns-clause-rooms : goal.returns-clause-rooms
returns-clause-rooms c same other =
    let a = arena c.self.inside in
    let found = subst (IsFound a c.args.key c.args.item c.in-Some.root) c.as_slice.ensures.value c.in-Some.ensures in
    room_exchanged a c.self.inside.free.items c.args.key c.args.item (Some c.in-Some.root) c.self.invariant.0 found.0 found.1 other
    ∙ ap (λ (x : Arena). cond {A = Option ℕ} (nat_eq other c.args.item.key) (Some c.args.item.room) (cond (nat_eq other c.args.key) None (room_at x other))) c.self.view_is

pub returns-clause-size : goal.returns-clause-size
returns-clause-size c =
    let a = arena c.self.inside in
    let found = subst (IsFound a c.args.key c.args.item c.in-Some.root) c.as_slice.ensures.value c.in-Some.ensures in
    size_exchanged a c.args.item (Some c.in-Some.root) found.1 ∙ ap size_of c.self.view_is
