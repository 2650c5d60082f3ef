use Rattle.std.proofs.Common.{◌≡◌, ◌∙◌, ◌<◌, ◌≤◌, ◌∷◌, ◌++◌, [], ap, arith, length, sym}
use Rattle.c_types.specs.Types.{type_of}
use Rattle.c_emit.specs.refinement.LeafWalk.{leaf_in, part_left, stack_left}
use Rattle.c_emit.proofs.Walking.{none_left, scalar_left, some_left, stack_end, stack_inside, stack_next, stack_past, walks_as, walks_end, walks_on, walks_past}
use Rattle.c_emit.proofs.leaves.turn.Goals as goal

pub returns-in_default : goal.returns-in_default
returns-in_default c = λ all h.
    let none : length c.args.waiting.now.items ≡ 0 = omega (arith, c.in_default.ensures.cases.0, c.args.waiting.now.ok.0) in
    walks_end c.args.structs.now c.args.most c.args.leaves.now.items (stack_left c.args.structs.now c.args.waiting.now.items) all
    (stack_end c.args.structs.now c.args.waiting.now.items none) h

pub returns-in_default-2 : goal.returns-in_default-2
returns-in_default-2 c = λ all h.
    let table = c.args.structs.now in
    walks_as table c.args.most c.args.leaves.now.items _ _ all
    (stack_past table c.args.waiting.now.items c.pop.new.self.items c.in-Some.parts c.in-Some.ensures.items
    (none_left table c.in-Some.parts c.in_ok-part.field-0 c.in_default-2.is c.in_ok-part.ensures)) h

pub returns-in_default-scalar : goal.returns-in_default-scalar
returns-in_default-scalar c = λ all h.
    let table = c.args.structs.now in
    let part = c.in-Some-2.part in
    walks_as table c.args.most c.args.leaves.now.items _ _ all
    (stack_next table c.args.waiting.now.items c.pop.new.self.items c.push.new.self.items c.in-Some.parts c.in-Some-2.rest part c.in-Some.ensures.items
    (some_left table c.in-Some.parts c.in_ok-part.field-0 part c.in-Some-2.rest c.in-Some-2.is c.in_ok-part.ensures) c.in_ok-push.ensures.items
    ∙ stack_inside table c.push.new.self.items c.push-in_default-scalar.new.self.items part c.in-Some-parts_of.inside
    (c.in-Some-parts_of.ensures table c.requires) c.in_ok-push-2.ensures.items) h

pub returns-then-len-most : goal.returns-then-len-most
returns-then-len-most c = λ all h.
    let table = c.args.structs.now in
    let part = c.in-Some-2.part in
    let rest = stack_left table c.push.new.self.items in
    let full : c.args.most ≤ length c.args.leaves.now.items = omega (arith, c.if-len-most.true, c.len.ensures, c.args.leaves.now.ok.0) in
    walks_past table c.args.most c.args.leaves.now.items (leaf_in part) rest all full
    (walks_as table c.args.most c.args.leaves.now.items _ _ all
    (stack_next table c.args.waiting.now.items c.pop.new.self.items c.push.new.self.items c.in-Some.parts c.in-Some-2.rest part c.in-Some.ensures.items
    (some_left table c.in-Some.parts c.in_ok-part.field-0 part c.in-Some-2.rest c.in-Some-2.is c.in_ok-part.ensures) c.in_ok-push.ensures.items
    ∙ ap (λ l. l ++ rest) (scalar_left table (type_of part.ty.now) c.in-Some-scalar.scalar part.from part.length part.index part.at (sym c.in-Some-scalar.ensures))) h)

pub returns : goal.returns
returns c = λ all h.
    let table = c.args.structs.now in
    let part = c.in-Some-2.part in
    let rest = stack_left table c.push.new.self.items in
    let less : length c.args.leaves.now.items < c.args.most = omega (arith, c.if-len-most.false, c.len.ensures, c.args.leaves.now.ok.0) in
    walks_on table c.args.most c.args.leaves.now.items c.push-2.new.self.items c.in_ok-leaf_of.field-0 (leaf_in part) rest all c.in_ok-push-3.ensures.items
    c.in_ok-leaf_of.ensures less
    (walks_as table c.args.most c.args.leaves.now.items _ _ all
    (stack_next table c.args.waiting.now.items c.pop.new.self.items c.push.new.self.items c.in-Some.parts c.in-Some-2.rest part c.in-Some.ensures.items
    (some_left table c.in-Some.parts c.in_ok-part.field-0 part c.in-Some-2.rest c.in-Some-2.is c.in_ok-part.ensures) c.in_ok-push.ensures.items
    ∙ ap (λ l. l ++ rest) (scalar_left table (type_of part.ty.now) c.in-Some-scalar.scalar part.from part.length part.index part.at (sym c.in-Some-scalar.ensures))) h)
