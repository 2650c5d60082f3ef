use Rattle.std.proofs.Common.{◌≡◌, drop}
use Rattle.ms_text_grammar.specs.TypeUses.{with_uses}
use Rattle.ms_text_names.proofs.sigs.Sigs.add_uses.Given as goal

abbrev pub invariant-loop-sig : goal.invariant-loop-sig
invariant-loop-sig l = with_uses (drop l.sig-index l.uses) l.self ≡ with_uses l.uses l.initial.self
