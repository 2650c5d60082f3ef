-- What the readers of both formats allow.
use Rattle.std.specs.Prelude.{ℕ}

-- how many blocks may be in one another
abbrev pub most_blocks : ℕ
most_blocks = 500

-- how many locals a function may declare, its parameters not among them
abbrev pub most_locals : ℕ
most_locals = 50000
