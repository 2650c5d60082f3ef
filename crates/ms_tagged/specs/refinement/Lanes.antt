-- Masks of granules, as plain numbers.
use Rattle.std.specs.Prelude.{◌==◌, ℕ, Bool, not, List}
use Rattle.std.specs.List.{list_any}

-- some mask isn't 0
abbrev pub has_piece : List ℕ → Bool
has_piece = list_any (λ mask. not (mask == 0))
