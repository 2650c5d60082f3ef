use Rattle.std.proofs.lemmas.Slice.Eq.{slice_eq-Decides}
use Rattle.ms_linear.proofs.Entries.{same-Decides}
use Rattle.ms_import.proofs.matching.are_equal.Goals as goal

pub returns : goal.returns
returns c = slice_eq-Decides same-Decides _ _ _ c.eq.ensures
