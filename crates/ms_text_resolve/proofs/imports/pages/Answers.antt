use Rattle.std.proofs.Common.{◌∙◌}
use Rattle.ms_text_resolve.proofs.Pages.{rounded_up}
use Rattle.ms_text_resolve.proofs.imports.pages.Goals as goal

pub returns : goal.returns
returns c = c.div_ceil.ensures ∙ rounded_up c.args.n
