use Rattle.std.proofs.Common.{◌≡◌, ◌-◌, ◌<◌, reverse, length, take, sym, arith, ◌∙◌}
use Rattle.std.proofs.lemmas.List.{length-reverse}
use Rattle.ms_module.specs.Building.{State, closed, closes, current, put}
use Rattle.ms_module.proofs.Building.{around_fits, closed-is}
use Rattle.ms_module.proofs.builder.Builder.close.Goals as goal

pub put_at-requires : goal.put_at-requires
put_at-requires c =
    let os = c.self.inside.blocks.items in
    let h = rw (← c.self.view_is) at c.requires in
    let some : 0 < length os = rw length-reverse at h in
    let fits = around_fits os c.self.inside.sequences.items c.self.invariant (c.len-last.result - 1) c.index.result.now (omega arith) (sym c.index.ensures) in
    let at : c.current-around.result ≡ current (reverse (take (c.len-last.result - 1) os)) = rw c.deref.ensures.value at c.current-around.ensures in
    rw at fits

-- the state without the innermost block
without : (c : goal.After-truncate) → ◌≡◌ {A = State} (record { blocks = reverse c.truncate.new.self.items; seqs = c.give_back.new.sequences.items }) (closed (record { blocks = reverse c.self.inside.blocks.items; seqs = c.self.inside.sequences.items }))
without c =
    let os = c.self.inside.blocks.items in
    let ss = c.self.inside.sequences.items in
    let h = rw (← c.self.view_is) at c.requires in
    let some : 0 < length os = rw length-reverse at h in
    let left : c.truncate.new.self.items ≡ take (c.len-last.result - 1) os = c.truncate.ensures.items in
    let at : c.current-around.result ≡ current (reverse (take (c.len-last.result - 1) os)) = rw c.deref.ensures.value at c.current-around.ensures in
    let more : c.give_back.new.sequences.items ≡ put ss c.current-around.result c.whole.result = c.give_back.ensures ∙ c.in_ok-put_at.ensures.ok in
    rw (left, more, at, c.whole.ensures) (closed-is os ss (c.len-last.result - 1) c.index.result.now (omega arith) (sym c.index.ensures))

pub invariant_of-self-2 : goal.invariant_of-self-2
invariant_of-self-2 c = rw (without c) (closes (rw (← c.self.view_is) at c.requires) c.self.invariant)
