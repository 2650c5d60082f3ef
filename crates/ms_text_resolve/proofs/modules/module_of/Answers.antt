use Rattle.ms_text_resolve.proofs.Parts.{module_made}
use Rattle.ms_text_resolve.proofs.modules.module_of.Goals as goal

pub returns : goal.returns
returns c =
    module_made c.args.source.now c.args.fields.now c.in_ok-context.context _ _ _ _ c.in_ok-module.module c.in_ok-context.ensures.context c.in_ok-context.ensures.wrong
    c.into_types.ensures c.in_ok-module.ensures
