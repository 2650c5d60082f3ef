use Rattle.std.proofs.Common.{◌∙◌, ap}
use Rattle.c_tree.specs.Tree.{Initialisers}
use Rattle.c_declare.specs.Initials.{count}
use Rattle.c_declare.proofs.Counts.{count_is}
use Rattle.c_declare.proofs.initials.count.Goals as goal

pub returns : goal.returns
returns c = count_is c.items.result.now ∙ ap (λ (vs : Initialisers). count vs) c.items.ensures
