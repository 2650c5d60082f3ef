-- The labels of a table, of which the last is the default one.
use Rattle.std.proofs.Common.{◌≡◌, ℕ, List, [], ◌∷◌, ◌++◌, refl}
use Rattle.ms_text_grammar.specs.ResolvedBodies.{targets, targets_of}

targets_end : (l : ℕ) (ls : List ℕ) (d : ℕ) → targets l (ls ++ d ∷ []) ≡ record { labels = l ∷ ls; default = d }
targets_end l [] d = refl
targets_end l (m ∷ ls) d = rw (targets_end m ls d) refl

pub targets_last : (ls : List ℕ) (d : ℕ) → targets_of (ls ++ d ∷ []) ≡ record { labels = ls; default = d }
targets_last [] d = refl
targets_last (l ∷ ls) d = targets_end l ls d
