use Rattle.ms_bytes.specs.Spot.{TakesByte}
use Rattle.ms_event.proofs.Numbers.{reads_behind_space}
use Rattle.ms_event.proofs.number.id.Goals as goal

pub returns-in-32 : goal.returns-in-32
returns-in-32 c =
    let takes : TakesByte c.args.left.now c.take.new.self c.in_ok-take.field-0 = c.in_ok-take.ensures in
    let space = c.in-32.is in
    reads_behind_space _ c.take.new.self.left _ _ (rw space at takes.byte_is) c.digits.ensures
