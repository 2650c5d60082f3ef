use Rattle.std.proofs.Common.{◌<◌, ◌+◌, Some, arith, sym, ap, ◌∙◌, subst, cond, nat_eq, length, inl, inr}
use Rattle.std.proofs.lemmas.Bool.{cases_lt}
use Rattle.ms_gap_tree.specs.refinement.Rooms.{Arena, room_at, size_of}
use Rattle.ms_gap_tree.specs.refinement.Tree.{half, has, IsApart, IsWithinArena}
use Rattle.ms_gap_tree.specs.declared.rooms.Rooms.TheInside.{Inside}
use Rattle.ms_gap_tree.proofs.Pool.{absent_before, few_before, held_put, room_put, size_put, spare_is}
use Rattle.ms_gap_tree.proofs.rooms.Rooms.insert.Goals as goal

abbrev arena : Inside → Arena
arena r = record { nodes = r.nodes.items; root = r.root; levels = r.levels; most = r.most }

pub spare-slot-requires-clause-room : goal.spare-slot-requires-clause-room
spare-slot-requires-clause-room c =
    let held = c.self.invariant.0 in
    let few = few_before (arena c.self.inside) c.args.self.now c.self.view_is c.requires.few in
    let count = held.pool.count in
    elim (cases_lt 0 (length c.self.inside.free.items)) [
      | inl h ↦ inl h
      | inr h ↦ inr (omega (arith, c.self.inside.nodes.ok.0, c.self.invariant.2))
    ]

pub put-self-inside-requires-clause-within : goal.put-self-inside-requires-clause-within
put-self-inside-requires-clause-within c =
    let a = arena c.self.inside in
    let spare = spare_is a c.self.inside.free.items c.spare-slot.new.nodes.items c.spare-slot.new.free.items c.spare-slot.result c.self.invariant.0 (few_before a c.args.self.now c.self.view_is c.requires.few) c.spare-slot.ensures.slot in
    subst (IsWithinArena (length c.spare-slot.new.nodes.items)) (sym spare.same) spare.within

pub put-self-inside-requires-clause-apart : goal.put-self-inside-requires-clause-apart
put-self-inside-requires-clause-apart c =
    let a = arena c.self.inside in
    let spare = spare_is a c.self.inside.free.items c.spare-slot.new.nodes.items c.spare-slot.new.free.items c.spare-slot.result c.self.invariant.0 (few_before a c.args.self.now c.self.view_is c.requires.few) c.spare-slot.ensures.slot in
    subst IsApart (sym spare.same) c.self.invariant.0.apart

pub put-self-inside-requires-clause-fresh : goal.put-self-inside-requires-clause-fresh
put-self-inside-requires-clause-fresh c =
    let a = arena c.self.inside in
    let spare = spare_is a c.self.inside.free.items c.spare-slot.new.nodes.items c.spare-slot.new.free.items c.spare-slot.result c.self.invariant.0 (few_before a c.args.self.now c.self.view_is c.requires.few) c.spare-slot.ensures.slot in
    ap (has c.spare-slot.result) spare.same ∙ spare.next.fresh

pub put-self-inside-requires-clause-there : goal.put-self-inside-requires-clause-there
put-self-inside-requires-clause-there c =
    let a = arena c.self.inside in
    let spare = spare_is a c.self.inside.free.items c.spare-slot.new.nodes.items c.spare-slot.new.free.items c.spare-slot.result c.self.invariant.0 (few_before a c.args.self.now c.self.view_is c.requires.few) c.spare-slot.ensures.slot in
    spare.next.there

pub invariant_of-self : goal.invariant_of-self
invariant_of-self c =
    let a = arena c.self.inside in
    let spare = spare_is a c.self.inside.free.items c.spare-slot.new.nodes.items c.spare-slot.new.free.items c.spare-slot.result c.self.invariant.0 (few_before a c.args.self.now c.self.view_is c.requires.few) c.spare-slot.ensures.slot in
    let key : c.args.item.key < half a.levels = subst (λ (x : Arena). c.args.item.key < half x.levels) (sym c.self.view_is) c.requires.key in
    let absent = absent_before a c.args.self.now c.args.item.key c.self.view_is c.requires.absent in
    let nodes = c.self.invariant.2 in
    let free = c.self.invariant.3 in (
      held_put a c.self.inside.free.items c.spare-slot.new.free.items c.spare-slot.new.nodes.items c.put-self-inside.new.nodes.items c.put-self-inside.result c.spare-slot.result c.args.item c.self.invariant.0 spare key absent c.put-self-inside.ensures.tree c.put-self-inside.ensures.length,
      c.self.invariant.1,
      omega (arith, c.put-self-inside.ensures.capacity, c.spare-slot.ensures.nodes),
      omega (arith, c.spare-slot.ensures.free),
    )

pub returns-clause-rooms : goal.returns-clause-rooms
returns-clause-rooms c key =
    let a = arena c.self.inside in
    let spare = spare_is a c.self.inside.free.items c.spare-slot.new.nodes.items c.spare-slot.new.free.items c.spare-slot.result c.self.invariant.0 (few_before a c.args.self.now c.self.view_is c.requires.few) c.spare-slot.ensures.slot in
    let below : c.args.item.key < half a.levels = subst (λ (x : Arena). c.args.item.key < half x.levels) (sym c.self.view_is) c.requires.key in
    let absent = ap (λ (x : Arena). room_at x c.args.item.key) c.self.view_is ∙ c.requires.absent in
    room_put a c.self.inside.free.items c.spare-slot.new.free.items c.spare-slot.new.nodes.items c.put-self-inside.new.nodes.items c.put-self-inside.result c.spare-slot.result c.args.item c.self.invariant.0 spare below absent c.put-self-inside.ensures.tree key
    ∙ ap (λ (x : Arena). cond (nat_eq key c.args.item.key) (Some c.args.item.room) (room_at x key)) c.self.view_is

pub returns-clause-size : goal.returns-clause-size
returns-clause-size c =
    let a = arena c.self.inside in
    let spare = spare_is a c.self.inside.free.items c.spare-slot.new.nodes.items c.spare-slot.new.free.items c.spare-slot.result c.self.invariant.0 (few_before a c.args.self.now c.self.view_is c.requires.few) c.spare-slot.ensures.slot in
    let below : c.args.item.key < half a.levels = subst (λ (x : Arena). c.args.item.key < half x.levels) (sym c.self.view_is) c.requires.key in
    let absent = ap (λ (x : Arena). room_at x c.args.item.key) c.self.view_is ∙ c.requires.absent in
    size_put a c.self.inside.free.items c.spare-slot.new.free.items c.spare-slot.new.nodes.items c.put-self-inside.new.nodes.items c.put-self-inside.result c.spare-slot.result c.args.item c.self.invariant.0 spare below absent c.put-self-inside.ensures.tree
    ∙ ap (λ (x : Arena). 1 + size_of x) c.self.view_is
