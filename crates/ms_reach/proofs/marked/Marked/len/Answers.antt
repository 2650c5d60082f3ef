use Rattle.std.proofs.Common.{Bool, List, length, sym, ap, ◌∙◌}
use Rattle.ms_reach.proofs.Chunking.{flags_length}
use Rattle.ms_reach.proofs.marked.Marked.len.Goals as goal

pub returns : goal.returns
returns c = sym (flags_length c.self.inside.chunks c.self.inside.len) ∙ ap (λ (bs : List Bool). length bs) c.self.view_is
