use Rattle.std.proofs.Common.{◌≡◌, ◌+◌, ◌-◌, ◌*◌, ◌∷◌, length, drop, ◌↔◌}
use Rattle.ms_module.specs.Numbered.{AllNameWithin}
use Rattle.ms_rules.specs.Typing.{Typed, types}
use Rattle.ms_valid.specs.refinement.Shape.{Finishes}
use Rattle.ms_valid.proofs.body.Checker.+nested.Given as goal

abbrev pub decreases-instr : goal.decreases-instr
decreases-instr l = 2 * (length l.scope.now.code - l.number)

abbrev pub decreases-other : goal.decreases-other
decreases-other l = 2 * (length l.scope.now.code - l.number)

abbrev pub decreases-sequence : goal.decreases-sequence
decreases-sequence l = 2 * (length l.scope.now.code - l.number) + 1

abbrev pub invariant-sequence-loop-instr : goal.invariant-sequence-loop-instr
invariant-sequence-loop-instr l =
    (l.self.labels ≡ l.fn.label ∷ l.fn.self.labels) × AllNameWithin (length l.scope.code) l.number (drop l.instr-index l.instr-items)
    × (Typed l.scope.context l.scope.code (l.fn.label ∷ l.fn.self.labels) l.number l.ty
    ↔ Finishes (Typed l.scope.context l.scope.code) l.scope.context (l.fn.label ∷ l.fn.self.labels) l.operands (drop l.instr-index l.instr-items) (types l.ty))
