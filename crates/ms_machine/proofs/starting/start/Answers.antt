use Rattle.std.proofs.Common.{ap, ◌∙◌}
use Rattle.ms_machine.specs.Store.{Store}
use Rattle.ms_machine.proofs.Starts.{start_fits, start_sound, start_typed}
use Rattle.ms_machine.proofs.starting.start.Goals as goal

pub returns-clause-task : goal.returns-clause-task
returns-clause-task g c =
    start_typed c.args.store.now c.deref.result.now c.args.address c.requires.there.0 c.start.result (c.deref.ensures.value ∙ ap (λ (s : Store). s.funcs) c.store.view_is) c.requires.store c.requires.there.1 c.requires.there.2 c.start.ensures

pub returns-clause-fits : goal.returns-clause-fits
returns-clause-fits g c =
    start_fits c.args.store.now c.deref.result.now c.args.address c.requires.there.0 c.start.result (c.deref.ensures.value ∙ ap (λ (s : Store). s.funcs) c.store.view_is) c.requires.there.1 c.start.ensures

pub returns-clause-sound : goal.returns-clause-sound
returns-clause-sound g c =
    start_sound c.args.store.now c.deref.result.now c.args.address c.requires.there.0 c.start.result (c.deref.ensures.value ∙ ap (λ (s : Store). s.funcs) c.store.view_is) c.requires.there.1 c.start.ensures
