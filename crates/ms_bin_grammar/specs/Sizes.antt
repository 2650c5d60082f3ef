-- Items whose size stands before them, names, and so many bytes.
use Rattle.std.specs.Prelude.{ℕ, List}
use Rattle.std.specs.Str.{is_utf8}
use Rattle.ms_bytes.specs.Do.{◌>>=◌}
use Rattle.ms_bytes.specs.Tests.{front, only, whole}
use Rattle.ms_bin_grammar.specs.Faults.{Binary, malformed}
use Rattle.ms_bin_grammar.specs.Numbers.{number}
use Rattle.ms_bin_grammar.specs.Inside.{IsSized, sized_at}
use Rattle.ms_bin_grammar.specs.SizeLaws.{sized_again, sized_fits, sized_takes}

-- an item of exactly as many bytes as the number before it says
abbrev pub sized : {A : Type 0} → Binary A → Binary A
sized f = record {
  read = sized_at f.read;
  spelled = IsSized f.spelled;
  takes = sized_takes f;
  again = sized_again f;
  least = 0;
  fits = sized_fits f.spelled;
}

-- so many bytes; a missing one is a fault where the bytes end
abbrev pub bytes : ℕ → Binary (List ℕ)
bytes n = front malformed n

-- a vector of bytes that is UTF-8 (WebAssembly 1.0, 5.2.4); every fault is at the count
abbrev pub name : Binary (List ℕ)
name = whole (λ end s fault. malformed end s) (do
  count ← number
  only (λ text bytes. is_utf8 text) malformed (bytes count))
