-- The unit in which the size of a memory is given (WebAssembly 1.0, 4.2.8).
use Rattle.std.specs.Prelude.{ℕ}

-- how many bytes a page has
abbrev pub page : ℕ
page = 65536
