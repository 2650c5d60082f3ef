use Rattle.ms_text_names.proofs.Types.{uses_step}
use Rattle.ms_text_names.proofs.gather.add_fields.Goals as goal

pub loop-field-preserved : goal.loop-field-preserved
loop-field-preserved c =
    let l = c.loop-field in
    uses_step c.args.fields.now l.field-index c.field-item.result l.sigs c.add_field.new.sigs _ c.loop-field-test.true c.field-item.is c.in_ok-add_field.ensures l.invariant
