use Rattle.std.proofs.Common.{◌≡◌, ◌+◌, ◌≤◌, ◌∷◌, ◌++◌, [], List, reverse, length, true, false, sym, ◌∙◌, arith, length-append}
use Rattle.std.specs.Vec.{vec_capacity, vec_len}
use Rattle.ms_module.specs.declared.instr.Instr.{Instr}
use Rattle.ms_module.specs.declared.builder.Arm.TheVariants.{First}
use Rattle.ms_module.specs.Building.{State, in_second, is_after_else, opens, started}
use Rattle.ms_module.proofs.Building.{begun-is, started-same, started-second}
use Rattle.ms_module.proofs.builder.Builder.open.Goals as goal
use Rattle.ms_module.proofs.builder.Builder.open.Goals.{else-after_else, then-after_else}

pub push_reserved-requires-2 : goal.push_reserved-requires-2
push_reserved-requires-2 c =
    let room : vec_len c.reserve.new.self + 1 ≤ vec_capacity c.reserve.new.self = c.in_ok-reserve.ensures.ok in
    elim c.if-after_else.branch [
      | then-after_else w ↦ rw w.self-inside-is (omega (arith, w.enter_second.ensures.len, w.enter_second.ensures.capacity, room))
      | else-after_else w ↦ rw w.self-inside-is (omega (arith, room))
    ]

pub invariant_of-self-2 : goal.invariant_of-self-2
invariant_of-self-2 c =
    let blocks = reverse c.self.inside.blocks.items in
    let ss = c.self.inside.sequences.items in
    let st : State = record { blocks = blocks; seqs = ss } in
    let mid_blocks = c.if-after_else.self-inside.blocks.items in
    let mid_seqs : List (List Instr) = c.if-after_else.self-inside.sequences.items in
    let asked : c.is_after_else-after_else.result ≡ is_after_else c.args.self.now.blocks = c.is_after_else-after_else.ensures in
    let here : c.is_after_else-after_else.result ≡ is_after_else blocks = rw (← c.self.view_is) at asked in
    let number : c.in_ok-second.second ≡ length c.args.self.now.seqs = c.in_ok-second.ensures in
    let n : c.in_ok-second.second ≡ length ss = rw (← c.self.view_is) at number in
    let same_blocks : c.reserve.new.self.items ≡ c.self.inside.blocks.items = c.in_ok-reserve.ensures.items in
    let same_seqs : c.reserve-2.new.self.items ≡ ss = c.in_ok-reserve-2.ensures.items in
    let plus = c.in-Some.ensures.1 in
    let start : ◌≡◌ {A = State} (record { blocks = reverse mid_blocks; seqs = mid_seqs }) (started st) × (c.in-Some.seq ≡ length mid_seqs) = elim c.if-after_else.branch [
      | then-after_else w ↦
          let moved : reverse w.enter_second.new.blocks.items ≡ in_second c.in_ok-second.second (reverse c.reserve.new.self.items) = w.enter_second.ensures.blocks in
          let more : w.push_reserved.new.self.items ≡ c.reserve-2.new.self.items ++ w.new.result ∷ [] = w.push_reserved.ensures.items in
          let empty : w.new.result ≡ [] = w.new.ensures in
          let is : is_after_else blocks ≡ true = sym here ∙ w.if-after_else.true in
          let one : c.in-Some.seq ≡ c.in_ok-second.second + 1 = rw w.if-after_else.true at plus in
          let all : c.in-Some.seq ≡ length (ss ++ [] ∷ []) = omega (arith, one, n, length-append ss ([] ∷ [])) in
          rw (w.self-inside-is, moved, more, empty, same_blocks, same_seqs) (started-second blocks ss c.in_ok-second.second is n, all)
      | else-after_else w ↦
          let is : is_after_else blocks ≡ false = sym here ∙ w.if-after_else.false in
          let none : c.in-Some.seq ≡ c.in_ok-second.second + 0 = rw w.if-after_else.false at plus in
          let all : c.in-Some.seq ≡ length ss = omega (arith, none, n) in
          rw (w.self-inside-is, same_blocks, same_seqs) (started-same blocks ss is, all)
    ] in
    let opened : c.push_reserved-2.new.self.items ≡ mid_blocks ++ record { arm = First c.args.opening; ty = c.args.ty; seq = c.in-Some.seq } ∷ [] = c.push_reserved-2.ensures.items in
    let next : c.push_reserved-3.new.self.items ≡ mid_seqs ++ c.new-2.result ∷ [] = c.push_reserved-3.ensures.items in
    let empty : c.new-2.result ≡ [] = c.new-2.ensures in
    rw (opened, next, empty, begun-is st mid_blocks mid_seqs c.args.opening c.args.ty c.in-Some.seq start.0 start.1) (opens c.args.opening c.args.ty c.self.invariant)
