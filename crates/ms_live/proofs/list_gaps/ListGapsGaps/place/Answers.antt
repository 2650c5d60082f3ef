use Rattle.std.proofs.Common.{◌∙◌, subst, sym}
use Rattle.ms_live.specs.Place.{IsPlace}
use Rattle.ms_live.specs.refinement.ByAddress.{AreFrom}
use Rattle.ms_live.proofs.ByAddress.{by_address-from, place_of_all}
use Rattle.ms_live.proofs.list_gaps.ListGapsGaps.place.Goals as goal

pub least_place-requires : goal.least_place-requires
least_place-requires c = subst (AreFrom 0) (sym (c.as_slice.ensures.value ∙ c.args.self.now.in_order)) (by_address-from c.args.self.now.live.items)

pub returns : goal.returns
returns c =
    let self = c.args.self.now in
    place_of_all self.live.items self.capacity c.args.n c.least_place.result (subst (λ l. IsPlace l self.capacity c.args.n c.least_place.result) (c.as_slice.ensures.value ∙ self.in_order) c.least_place.ensures)
