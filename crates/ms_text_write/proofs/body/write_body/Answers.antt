use Rattle.std.proofs.Common.{refl, sym, subst, List}
use Rattle.ms_flat.specs.Flat.{Item}
use Rattle.ms_text_write.specs.Instrs.{AllPlain}
use Rattle.ms_flat.specs.refinement.Ranges.{AllFit, ItemFits}
use Rattle.ms_text_write.proofs.Plain.{flat_plain}
use Rattle.ms_text_write.proofs.body.write_body.Goals as goal

pub loop-walk-init : goal.loop-walk-init
loop-walk-init c = record {
  written = rw c.new-walk.ensures.flat refl;
  plain = subst (λ (xs : List Item). AllPlain xs) (sym c.new-walk.ensures.flat) (flat_plain c.args.body.now c.new-walk.ensures.numbered);
  within = λ h. subst (λ (xs : List Item). AllFit ItemFits xs) c.new-walk.ensures.flat h;
}
