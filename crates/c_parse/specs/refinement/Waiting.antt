-- Productions that stand open, and how high they make what they are part of.
use Rattle.std.specs.Prelude.{◌≡◌, ℕ, ◌+◌, List, [], ◌∷◌}
use Rattle.c_productions.specs.declared.frame.Frame.{Frame}
use Rattle.c_productions.specs.refinement.Table.{rise}
use Rattle.c_productions.specs.refinement.Meaning.{overs}
use Rattle.c_parse.specs.declared.waiting.Entry.{Entry}

abbrev pub frames_of : List Entry → List Frame
frames_of [] = []
frames_of (e ∷ es) = e.frame ∷ frames_of es

-- how much higher the outermost production is than a part of the innermost
abbrev pub rises : List Frame → ℕ
rises [] = 0
rises (f ∷ fs) = rise f.production + rises fs

-- the least height that these productions have, and how much higher they are than what is inside; each has those of the others
abbrev pub AreSummed : List Entry → ℕ → ℕ → Type 0
AreSummed [] floor rising = (floor ≡ 0) × (rising ≡ 0)
AreSummed (e ∷ es) floor rising = (floor ≡ overs (e.frame ∷ frames_of es) 0) × (rising ≡ rises (e.frame ∷ frames_of es)) × AreSummed es e.floor e.rising
