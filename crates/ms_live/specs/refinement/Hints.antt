-- Hints where a live segment is found at once: one at the entry of its identity, the remainder by how many may be live.
use Rattle.std.specs.Prelude.{◌≡◌, ◌==◌, ℕ, ◌%◌, cond, nat_eq, nat_lt, List, [], ◌∷◌, ◌++◌, length, set, get_or, find, Option, Some, None, is_some}
use Rattle.ms_live.specs.declared.gaps.Live.{Live}
use Rattle.ms_live.specs.declared.gaps.TheConstants.{MOST_LIVE}

-- the hint at an entry
abbrev pub hint_at : List (Option Live) → ℕ → Option Live
hint_at hints i = get_or hints i None

-- a segment, if it has this identity
abbrev pub only : ℕ → Option Live → Option Live
only id None = None
only id (Some s) = cond (s.id == id) (Some s) None

-- the hint of an identity
abbrev pub hint_of : List (Option Live) → ℕ → Option Live
hint_of hints id = only id (hint_at hints (id % MOST_LIVE))

-- the hints with this one at an entry, where the entry is there or the next one
abbrev pub written : ℕ → Option Live → List (Option Live) → List (Option Live)
written i hint hints = cond (nat_lt i (length hints)) (set hints i hint) (cond (nat_eq i (length hints)) (hints ++ hint ∷ []) hints)

-- the hints without that of an identity
abbrev pub forgotten : ℕ → List (Option Live) → List (Option Live)
forgotten id hints = cond (is_some (hint_of hints id)) (written (id % MOST_LIVE) None hints) hints

-- each hint stands at the entry of its identity, and is the live segment of that
abbrev pub IsHinted : List Live → List (Option Live) → Type 0
IsHinted live hints = (i : ℕ) → (s : Live) → hint_at hints i ≡ Some s → (i ≡ s.id % MOST_LIVE) × (find (λ segment. segment.id == s.id) live ≡ Some s)
