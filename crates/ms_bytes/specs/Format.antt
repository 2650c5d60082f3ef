-- A format: how its items are spelled, how they are read from left to right, and that the two agree. E is what texts are
-- made of (bytes, tokens), F is what reading stops with.
--
-- `spelled` alone is the meaning: `spelled s x t` says that the front of the text s is the item x, and that t follows it.
-- It names no reader. `takes` and `again` are the laws that tie it to `read`: what is read is spelled so, and what is
-- spelled so is read.
use Rattle.std.specs.Prelude.{◌≡◌, ◌+◌, ◌≤◌, ℕ, List, length, Ok}
use Rattle.ms_bytes.specs.Reading.{Reader}

pub record Format (E F A : Type 0) : Type 1 where
  pub read : Reader E F A
  pub spelled : List E → A → List E → Type 0
  pub takes : (end : ℕ) (s : List E) (x : A) (t : List E) → read end s ≡ Ok (x, t) → spelled s x t
  pub again : (end : ℕ) (s : List E) (x : A) (t : List E) → spelled s x t → read end s ≡ Ok (x, t)
  -- how many items of the text it takes at the least
  pub least : ℕ
  pub fits : (s : List E) (x : A) (t : List E) → spelled s x t → length t + least ≤ length s
