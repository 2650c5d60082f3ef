-- Each field is whole.
use Rattle.std.proofs.Common.{List, [], ◌∷◌}
use Rattle.ms_text_grammar.specs.declared.surface.Field.{Field}
use Rattle.ms_text_grammar.specs.refinement.Balance.{AreWhole, FieldIsWhole}
use Rattle.ms_text_resolve.specs.refinement.Gathered.{Each}

pub each_whole : (fs : List Field) → AreWhole fs → Each FieldIsWhole fs
each_whole [] h = tt
each_whole (f ∷ fs) h = (h.0, each_whole fs h.1)
