use Rattle.std.proofs.Common.{◌/◌, eq-eqb, arith}
use Rattle.std.proofs.lemmas.Bool.{eqb-true}
use Rattle.ms_tagged.proofs.Forgetting.{data-bits}
use Rattle.ms_tagged.proofs.pieces.hold_data.Goals as goal

pub returns : goal.returns
returns c =
    let fits = c.type_inv.masks (c.args.from / 16) in
    let both = data-bits c.args.masks.now c.args.from c.args.to c.bits_from.result c.requires.some c.requires.few (omega arith) (omega (arith, fits.fits)) c.bits_from.ensures in
    (λ none. both.0 (eqb-true c.bits_from.result 0 none), λ held. eq-eqb c.bits_from.result 0 (both.1 held))
