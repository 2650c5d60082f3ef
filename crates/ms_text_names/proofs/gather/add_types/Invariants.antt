use Rattle.std.proofs.Common.{◌≡◌, ◌++◌, drop}
use Rattle.ms_text_grammar.specs.FieldKinds.{types_in}
use Rattle.ms_text_grammar.specs.TypeUses.{field_types}
use Rattle.ms_text_names.proofs.gather.add_types.Given as goal

abbrev pub invariant-loop-field : goal.invariant-loop-field
invariant-loop-field l = l.sigs ++ field_types (types_in (drop l.field-index l.fields)) ≡ l.initial.sigs ++ field_types (types_in l.fields)
