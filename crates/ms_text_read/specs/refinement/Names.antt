-- Identifiers in a map: the number of the first type field of each.
use Rattle.std.specs.Prelude.{ℕ, List, Option, Some, None}
use Rattle.std.specs.BTreeMap.{BTreeMap, get_by}
use Rattle.std.specs.Cmp.Lexicographic.{slice_cmp}
use Rattle.std.specs.Ordering.{nat_cmp}
use denote.Ref.{Bor}

-- the number at a text
abbrev pub look : BTreeMap (Bor (List ℕ)) ℕ → List ℕ → Option ℕ
look names text = get_by (λ k. slice_cmp nat_cmp text k.now) names

-- the first of two answers
abbrev pub or_else : Option ℕ → Option ℕ → Option ℕ
or_else (Some n) other = Some n
or_else None other = other
