-- Which tasks nothing joins: the instances that they run in share nothing, neither with each other nor by others that stand between them.
use Rattle.std.specs.Prelude.{◌≡◌, ℕ, Bool, true, false, List, Option, Some, length, option_and_then, option_map, slice_get}
use Rattle.ms_machine.specs.Store.{Store}
use Rattle.ms_machine.specs.declared.store.Instance.{Instance}
use Rattle.ms_task.specs.declared.func.FuncInst.{FuncInst}

-- ---- what instances share (WebAssembly 1.0, 4.2.5): a function that the one names and the other defines, or a table, a memory or a
-- global that both name. A function of the host is the importer's own, so that the host joins nobody.

pub data Shares (s : Store) (n : ℕ) : ℕ → Type 0 where
  func : (x a : ℕ) (i : Instance) (f : FuncInst) → slice_get s.instances n ≡ Some i → slice_get i.funcs x ≡ Some a → slice_get s.funcs a ≡ Some f → Shares s n f.instance
  table : (k a : ℕ) (i j : Instance) → slice_get s.instances n ≡ Some i → slice_get s.instances k ≡ Some j → i.table ≡ Some a → j.table ≡ Some a → Shares s n k
  memory : (k a : ℕ) (i j : Instance) → slice_get s.instances n ≡ Some i → slice_get s.instances k ≡ Some j → i.memory ≡ Some a → j.memory ≡ Some a → Shares s n k
  global : (k x y a : ℕ) (i j : Instance) → slice_get s.instances n ≡ Some i → slice_get s.instances k ≡ Some j → slice_get i.globals x ≡ Some a → slice_get j.globals y ≡ Some a → Shares s n k

-- a chain of instances from one to another, each of which shares something with the next, in whichever direction
pub data Joined (s : Store) (n : ℕ) : ℕ → Type 0 where
  itself : Joined s n n
  on : (k m : ℕ) → Joined s n k → Shares s k m → Joined s n m
  back : (k m : ℕ) → Joined s n k → Shares s m k → Joined s n m

-- a set of instances that shares nothing with the others, so that no chain leads out of it
abbrev pub IsClosed : (ℕ → Bool) → Store → Type 0
IsClosed set s = (n k : ℕ) → Shares s n k → set k ≡ set n

-- ---- tasks, by the addresses of their functions

-- the instance that the task of this number runs in
abbrev pub instance_of : Store → List ℕ → ℕ → Option ℕ
instance_of s addresses n = option_map (λ (f : FuncInst). f.instance) (option_and_then (slice_get s.funcs) (slice_get addresses n))

-- the task of this number runs in such a set, and no other task does
pub record IsApart (s : Store) (addresses : List ℕ) (n : ℕ) : Type 0 where
  pub set : ℕ → Bool
  pub closed : IsClosed set s
  pub own : (m : ℕ) → instance_of s addresses n ≡ Some m → set m ≡ true
  pub others : (k m : ℕ) → (k ≡ n → ⊥) → instance_of s addresses k ≡ Some m → set m ≡ false

-- a chain leads from its instance to that of another task, which may be the same one
pub record IsJoined (s : Store) (addresses : List ℕ) (n : ℕ) : Type 0 where
  pub other : ℕ
  pub from : ℕ
  pub to : ℕ
  pub differs : other ≡ n → ⊥
  pub own : instance_of s addresses n ≡ Some from
  pub theirs : instance_of s addresses other ≡ Some to
  pub chain : Joined s from to

-- a flag for each task: whether it is apart from all others
pub record AreApart (s : Store) (addresses : List ℕ) (flags : List Bool) : Type 0 where
  pub each : length flags ≡ length addresses
  pub apart : (n : ℕ) → slice_get flags n ≡ Some true → IsApart s addresses n
  pub joined : (n : ℕ) → slice_get flags n ≡ Some false → IsJoined s addresses n
