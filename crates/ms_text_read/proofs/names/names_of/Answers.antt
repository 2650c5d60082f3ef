use Rattle.ms_text_read.proofs.Named.{preserved}
use Rattle.ms_text_read.proofs.names.names_of.Goals as goal

pub loop-i-preserved : goal.loop-i-preserved
loop-i-preserved c = λ name.
    let l = c.loop-i in
    preserved c.args.source.now c.args.fields.now c.index-fields-i.result l.i l.names c.note.new.names name _ c.loop-i-test.true c.index-fields-i.is (c.in_ok-note.ensures name) (l.invariant name)
