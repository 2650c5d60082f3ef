use Rattle.std.proofs.Common.{◌≡◌, get_or, rules}
use Rattle.ms_tagged.specs.declared.tag.Tag.TheVariants as tagged
use Rattle.ms_tagged.proofs.Tags.{pieces-read, piece-read}
use Rattle.ms_tagged.proofs.tag.are_pieces.Goals as goal

pub loop-number-preserved : goal.loop-number-preserved
loop-number-preserved c =
    pieces-read c.args.tags.now c.args.handle c.loop-number.number c.loop-number-test.true (search rules) c.loop-number.invariant

pub returns-then-ne : goal.returns-then-ne
returns-then-ne c =
    let differs : get_or c.args.tags.now c.loop-number.number (tagged.Data 0) ≡ tagged.Piece c.args.handle c.loop-number.number → ⊥ = search rules in
    (λ e. cc, λ are. absurd (differs (piece-read c.args.tags.now c.args.handle c.loop-number.number c.loop-number-test.true are)))
