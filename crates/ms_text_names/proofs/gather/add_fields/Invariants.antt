use Rattle.std.proofs.Common.{◌≡◌, drop}
use Rattle.ms_text_grammar.specs.TypeUses.{all_uses, with_uses}
use Rattle.ms_text_names.proofs.gather.add_fields.Given as goal

abbrev pub invariant-loop-field : goal.invariant-loop-field
invariant-loop-field l = with_uses (all_uses (drop l.field-index l.fields)) l.sigs ≡ with_uses (all_uses l.fields) l.initial.sigs
