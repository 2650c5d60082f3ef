-- The limits of the grammar.
use Rattle.std.specs.Prelude.{ℕ}
use Rattle.ms_module.specs.Bounds.{most_blocks, most_locals}

-- how many blocks and parentheses may be in one another, and how many locals a function may declare
pub record Bounds : Type 0 where
  pub blocks : ℕ
  pub locals : ℕ
  pub parens : ℕ

abbrev pub usual : Bounds
usual = record { blocks = most_blocks; locals = most_locals; parens = 1000 }
