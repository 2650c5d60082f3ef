use Rattle.std.proofs.Common.{ap, ◌∙◌}
use Rattle.ms_machine.specs.Externs.{Made}
use Rattle.ms_link.proofs.Refusing.{elements_given, fills_given}
use Rattle.ms_link.proofs.storing.store_of.Goals as goal

pub put_all_elements-requires : goal.put_all_elements-requires
put_all_elements-requires g c =
    elements_given c.args.made c.requires c.as_mut_slice.result.now c.as_slice.result.now c.as_slice-2.result.now c.as_slice-3.result.now c.as_slice-4.result.now
    (c.as_mut_slice.ensures.value ∙ ap (λ (m : Made). m.tables) c.made.view_is)
    (c.as_slice.ensures.value ∙ ap (λ (m : Made). m.funcs) c.made.view_is)
    (c.as_slice-2.ensures.value ∙ ap (λ (m : Made). m.globals) c.made.view_is)
    (c.as_slice-3.ensures.value ∙ ap (λ (m : Made). m.instances) c.made.view_is)
    (c.as_slice-4.ensures.value ∙ ap (λ (m : Made). m.elements) c.made.view_is)

pub put_all_fills-requires : goal.put_all_fills-requires
put_all_fills-requires g c =
    fills_given c.args.made c.requires c.as_mut_slice-2.result.now c.as_slice-5.result.now c.as_slice-6.result.now c.as_slice-7.result.now
    (c.as_mut_slice-2.ensures.value ∙ ap (λ (m : Made). m.memories) c.made.view_is)
    (c.as_slice-5.ensures.value ∙ ap (λ (m : Made). m.globals) c.made.view_is)
    (c.as_slice-6.ensures.value ∙ ap (λ (m : Made). m.instances) c.made.view_is)
    (c.as_slice-7.ensures.value ∙ ap (λ (m : Made). m.fills) c.made.view_is)
