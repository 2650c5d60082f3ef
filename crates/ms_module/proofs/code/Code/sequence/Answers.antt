use Rattle.std.proofs.Common.{◌≡◌, List, length, get_or, sym, subst, ◌∙◌}
use Rattle.ms_module.specs.declared.instr.Instr.{Instr}
use Rattle.ms_module.specs.Building.{IsNumbered}
use Rattle.ms_module.specs.Numbered.{AllNameWithin}
use Rattle.ms_module.proofs.Order.{names_later, sequence_is}
use Rattle.ms_module.proofs.code.Code.sequence.Goals as goal

pub returns-clause-instrs : goal.returns-clause-instrs
returns-clause-instrs c =
    let same = c.as_slice.ensures ∙ c.self.view_is in
    let is = c.index-as_slice-number.result in
    c.as_slice-2.ensures ∙ sequence_is c.args.self.now c.args.number is c.requires (subst (λ (ss : List (List Instr)). is ≡ get_or ss c.args.number is) same c.index-as_slice-number.is)

pub returns-clause-later : goal.returns-clause-later
returns-clause-later c =
    let numbered = subst IsNumbered c.self.view_is c.self.invariant in
    subst (AllNameWithin (length c.args.self.now) c.args.number) (sym (returns-clause-instrs c)) (names_later c.args.self.now numbered c.args.number)
