use Rattle.std.proofs.Common.{◌≡◌, ◌∷◌, ◌++◌, [], List, reverse, length, true, false, ◌∙◌, ap}
use Rattle.ms_module.specs.declared.instr.Instr.{Instr}
use Rattle.ms_module.specs.Building.{State, current, in_second, is_after_else, placed, places, put}
use Rattle.ms_module.proofs.Building.{current_fits, placed-same, placed-second}
use Rattle.ms_module.proofs.builder.Builder.add.Goals as goal

-- the state after the first instruction behind an `else`
second : (c : goal.After-enter_second) → ◌≡◌ {A = State} (record { blocks = reverse c.enter_second.new.blocks.items; seqs = c.push-then-is_after_else.new.self.items }) (placed (record { blocks = reverse c.self.inside.blocks.items; seqs = c.self.inside.sequences.items }) c.args.instr)
second c =
    let blocks = reverse c.self.inside.blocks.items in
    let ss = c.self.inside.sequences.items in
    let is : is_after_else c.args.self.now.blocks ≡ true = cc (c.is_after_else.ensures, c.if-is_after_else.true) in
    let here : is_after_else blocks ≡ true = rw (← c.self.view_is) at is in
    let number : c.in_ok-seq.seq ≡ length c.args.self.now.seqs = c.in_ok-seq.ensures in
    let n : c.in_ok-seq.seq ≡ length ss = rw (← c.self.view_is) at number in
    let one : c.push.new.self ≡ c.args.instr ∷ [] = c.in_ok-push.ensures.items ∙ ap (λ (l : List Instr). l ++ c.args.instr ∷ []) c.new-instrs.ensures in
    let more : c.push-then-is_after_else.new.self.items ≡ ss ++ c.push.new.self ∷ [] = c.in_ok-push-2.ensures.items in
    let moved : reverse c.enter_second.new.blocks.items ≡ in_second c.in_ok-seq.seq blocks = c.enter_second.ensures.blocks in
    rw (moved, more, one) (placed-second blocks ss c.in_ok-seq.seq c.args.instr here n)

pub invariant_of-self-then-is_after_else : goal.invariant_of-self-then-is_after_else
invariant_of-self-then-is_after_else c = rw (second c) (places c.args.instr c.requires c.self.invariant)

pub returns-then-is_after_else-clause-ok : goal.returns-then-is_after_else-clause-ok
returns-then-is_after_else-clause-ok c = second c ∙ ap (λ (s : State). placed s c.args.instr) c.self.view_is

pub put_at-requires : goal.put_at-requires
put_at-requires c =
    let at : c.current-current.result ≡ current (reverse c.self.inside.blocks.items) = rw c.deref.ensures.value at c.current-current.ensures in
    rw at (current_fits c.self.inside.blocks.items c.self.inside.sequences.items c.self.invariant)

pub invariant_of-self-2 : goal.invariant_of-self-2
invariant_of-self-2 c =
    let blocks = reverse c.self.inside.blocks.items in
    let ss = c.self.inside.sequences.items in
    let is : is_after_else c.args.self.now.blocks ≡ false = cc (c.is_after_else.ensures, c.if-is_after_else.false) in
    let here : is_after_else blocks ≡ false = rw (← c.self.view_is) at is in
    let at : c.current-current.result ≡ current blocks = rw c.deref.ensures.value at c.current-current.ensures in
    let more : c.put_at.new.sequences.items ≡ put ss c.current-current.result c.args.instr = c.in_ok-put_at.ensures.ok in
    rw (more, at, placed-same blocks ss c.args.instr here) (places c.args.instr c.requires c.self.invariant)
