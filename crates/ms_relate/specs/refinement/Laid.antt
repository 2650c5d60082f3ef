-- A tree that lies from a place on, by its shape: something holds of each leaf, its place, its type and its value.
use Rattle.std.specs.Prelude.{◌≡◌, ℕ, ◌+◌, ◌%◌, ◌<◌, ◌≤◌, ◌||◌, Bool, true, false, if◌then◌else◌}
use Rattle.c_types.specs.Types.{Ty, pointer, is_function}
use Rattle.c_meaning.specs.Shapes.{Shape, scalar, elements, record', Members, no_members, member, size, width}
use Rattle.c_meaning.specs.Values.{Value, Tree, leaf, group, Trees, none, more, count}

-- a pointer to an object, which has sixteen bytes
abbrev pub is_handle : Ty → Bool
is_handle (pointer t) = if is_function t then false else true
is_handle _ = false

abbrev mutual
  pub has_handles : Shape → Bool
  has_handles (scalar t) = is_handle t
  has_handles (elements s n) = has_handles s
  has_handles (record' n ms) = have_handles ms

  pub have_handles : Members → Bool
  have_handles no_members = false
  have_handles (member o s ms) = has_handles s || have_handles ms

-- members lie one behind the other within their struct, and what holds pointers is a multiple of 16 bytes
abbrev mutual
  pub Fits : Shape → Type 0
  Fits (scalar t) = 0 < width t
  Fits (elements s n) = (0 < n) × Fits s
  Fits (record' n ms) = (0 < n) × FitMembers ms 0 n × (have_handles ms ≡ true → n % 16 ≡ 0)

  pub FitMembers : Members → (end size : ℕ) → Type 0
  FitMembers no_members end n = end ≤ n
  FitMembers (member o s ms) end n = (end ≤ o) × (has_handles s ≡ true → o % 16 ≡ 0) × Fits s × FitMembers ms (o + size s) n

module _ (P : ℕ → Ty → Value → Type 0) where
  abbrev mutual
    pub Laid : Tree → Shape → ℕ → Type 0
    Laid (leaf v) (scalar t) a = P a t v
    Laid (group ts) (elements s n) a = (count ts ≡ n) × AreLaid ts s a
    Laid (group ts) (record' n ms) a = MembersLaid ts ms a
    Laid _ _ a = ⊥

    -- one behind the other
    pub AreLaid : Trees → Shape → ℕ → Type 0
    AreLaid none s a = Unit {0}
    AreLaid (more t ts) s a = Laid t s a × AreLaid ts s (a + size s)

    pub MembersLaid : Trees → Members → ℕ → Type 0
    MembersLaid none no_members a = Unit {0}
    MembersLaid (more t ts) (member o s ms) a = Laid t s (a + o) × MembersLaid ts ms a
    MembersLaid _ _ a = ⊥
