use Rattle.std.proofs.lemmas.Slice.Eq.{slice_eq-Decides}
use Rattle.ms_linear.proofs.Entries.{same-Decides}
use Rattle.ms_linear.proofs.table.are_same.Goals as goal

pub returns : goal.returns
returns c = slice_eq-Decides same-Decides _ _ _ c.eq.ensures
