-- What leaving a frame makes of a state.
use Rattle.std.specs.Prelude.{◌≡◌, List, [], ◌∷◌, Option, Some, None}
use Rattle.ms_text_grammar.specs.declared.frame.Frame.{Frame}
use Rattle.ms_text_grammar.specs.Advances.{State, framed}

abbrev pub Leaves : Option Frame → State → State → Type 0
Leaves None old new = (old.frames ≡ []) × (new ≡ old)
Leaves (Some f) old new = old ≡ framed (f ∷ new.frames) new
