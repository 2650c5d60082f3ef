-- How the joined instances are found: each has the number of its part, and what share something come into one part.
use Rattle.std.specs.Prelude.{◌≡◌, ◌==◌, ◌<◌, ◌+◌, ℕ, suc, if◌then◌else◌, Bool, true, List, [], ◌∷◌, length, nat_lt, slice_get, slice_index, slice_set, All, Option, Some, None, option_and_then}
use Rattle.ms_machine.specs.Store.{Store}
use Rattle.ms_machine.specs.declared.store.Instance.{Instance}
use Rattle.ms_task.specs.declared.func.FuncInst.{FuncInst}
use Rattle.ms_tasks.specs.Joined.{Joined, Shares}
use Rattle.ms_tasks.specs.declared.parts.Kind.{Kind}
use Rattle.ms_tasks.specs.declared.parts.Kind.TheVariants.{Globals, Memories, Tables}

-- ---- parts

abbrev pub renumbered : (from to : ℕ) → ℕ → ℕ
renumbered from to p = if p == from then to else p

-- two instances are of one part
abbrev pub AreTogether : List ℕ → ℕ → ℕ → Type 0
AreTogether parts m n = slice_get parts m ≡ slice_get parts n

abbrev pub KeepsTogether : (old new : List ℕ) → Type 0
KeepsTogether old new = (m n : ℕ) → AreTogether old m n → AreTogether new m n

-- the number of a part for each instance, that of an instance; those of one part are joined
pub record AreParts (s : Store) (parts : List ℕ) : Type 0 where
  pub each : length parts ≡ length s.instances
  pub below : (n p : ℕ) → slice_get parts n ≡ Some p → p < length s.instances
  pub joined : (m n p : ℕ) → slice_get parts m ≡ Some p → slice_get parts n ≡ Some p → Joined s m n

-- those of two instances become one
pub record PutsTogether (i j : ℕ) (old new : List ℕ) : Type 0 where
  pub kept : KeepsTogether old new
  pub together : AreTogether new i j
  pub sound : (s : Store) → AreParts s old → Joined s i j → AreParts s new

-- what share something are together
pub record AreWhole (s : Store) (parts : List ℕ) : Type 0 where
  pub parts_are : AreParts s parts
  pub closed : (n k : ℕ) → Shares s n k → AreTogether parts n k

-- ---- the functions that an instance names

-- it is together with the one that defines the function of an address
abbrev pub IsWithFunc : Store → List ℕ → (n address : ℕ) → Type 0
IsWithFunc s parts n address = (f : FuncInst) → slice_get s.funcs address ≡ Some f → AreTogether parts n f.instance

abbrev pub IsWithFuncs : Store → List ℕ → (n : ℕ) → Type 0
IsWithFuncs s parts n = (i : Instance) → slice_get s.instances n ≡ Some i → All (IsWithFunc s parts n) i.funcs

-- ---- the tables, memories and globals that it names, by the first instance that names each

abbrev pub listed : Option ℕ → List ℕ
listed None = []
listed (Some address) = address ∷ []

abbrev pub named : Kind → Instance → List ℕ
named Tables i = listed i.table
named Memories i = listed i.memory
named Globals i = i.globals

-- how many the store has
abbrev pub count_of : Kind → Store → ℕ
count_of Tables s = length s.tables
count_of Memories s = length s.memories
count_of Globals s = length s.globals

abbrev pub IsNamed : Store → Kind → (n address : ℕ) → Type 0
IsNamed s kind n address = (x : ℕ) × (i : Instance) × (slice_get s.instances n ≡ Some i) × (slice_get (named kind i) x ≡ Some address)

abbrev pub IsFirst : List (Option ℕ) → (address k : ℕ) → Type 0
IsFirst firsts address k = slice_get firsts address ≡ Some (Some k)

-- an instance is together with the first one that names this
abbrev pub IsNoted : List (Option ℕ) → List ℕ → (n address : ℕ) → Type 0
IsNoted firsts parts n address = (k : ℕ) × IsFirst firsts address k × AreTogether parts k n

-- each names it
abbrev pub AreFirsts : Store → Kind → List (Option ℕ) → Type 0
AreFirsts s kind firsts = (address k : ℕ) → IsFirst firsts address k → IsNamed s kind k address

-- each is an instance
abbrev pub FirstsBelow : ℕ → List (Option ℕ) → Type 0
FirstsBelow most firsts = (address k : ℕ) → IsFirst firsts address k → k < most

-- these addresses, which an instance names, are noted
pub record Notes (n : ℕ) (addresses : List ℕ) (firsts firsts' : List (Option ℕ)) (parts parts' : List ℕ) : Type 0 where
  pub kept : KeepsTogether parts parts'
  pub still : (m address : ℕ) → IsNoted firsts parts m address → IsNoted firsts' parts' m address
  pub noted : All (IsNoted firsts' parts' n) addresses
  pub below : (most : ℕ) → n < most → FirstsBelow most firsts → FirstsBelow most firsts'
  pub sound : (s : Store) (kind : Kind) → AreParts s parts → AreFirsts s kind firsts → All (IsNamed s kind n) addresses → AreParts s parts' × AreFirsts s kind firsts'

abbrev pub AreNoted : Store → Kind → List (Option ℕ) → List ℕ → (n : ℕ) → Type 0
AreNoted s kind firsts parts n = (i : Instance) → slice_get s.instances n ≡ Some i → All (IsNoted firsts parts n) (named kind i)

-- those of an instance, or of several, are noted
pub record NotesAll (s : Store) (kind : Kind) (firsts firsts' : List (Option ℕ)) (parts parts' : List ℕ) : Type 0 where
  pub kept : KeepsTogether parts parts'
  pub still : (m address : ℕ) → IsNoted firsts parts m address → IsNoted firsts' parts' m address
  pub parts_are : AreParts s parts'
  pub firsts_are : AreFirsts s kind firsts'

-- two that name the same are together
abbrev pub AreAlike : Store → Kind → List ℕ → Type 0
AreAlike s kind parts = (m n address : ℕ) → IsNamed s kind m address → IsNamed s kind n address → AreTogether parts m n

-- ---- the tasks of a part

-- the part of the instance of the function of an address, if there is one
abbrev pub part_at : Store → List ℕ → (address : ℕ) → Option ℕ
part_at s parts address = option_and_then (λ (f : FuncInst). slice_get parts f.instance) (slice_get s.funcs address)

-- how many of these are this one
abbrev pub tasks_in : List (Option ℕ) → ℕ → ℕ
tasks_in [] p = 0
tasks_in (None ∷ ps) p = tasks_in ps p
tasks_in (Some q ∷ ps) p = if q == p then suc (tasks_in ps p) else tasks_in ps p

-- with one more, if it has a part
abbrev pub counted : Option ℕ → List ℕ → List ℕ
counted None counts = counts
counted (Some p) counts = slice_set counts p (slice_index counts p + 1)

abbrev pub AreCounts : List (Option ℕ) → (counts : List ℕ) → Type 0
AreCounts ps counts = (p c : ℕ) → slice_get counts p ≡ Some c → c ≡ tasks_in ps p

-- no second one
abbrev pub is_few : Option ℕ → Bool
is_few None = true
is_few (Some c) = nat_lt c 2

-- a task of this part is alone there; one without an instance is alone
abbrev pub is_alone : (counts : List ℕ) → Option ℕ → Bool
is_alone counts None = true
is_alone counts (Some p) = is_few (slice_get counts p)
