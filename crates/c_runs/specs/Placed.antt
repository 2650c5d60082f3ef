-- What a store has of a unit that was compiled: its functions, and three of the host.
use Rattle.std.specs.Prelude.{◌≡◌, ◌==◌, ℕ, ◌+◌, ◌<◌, ◌≤◌, max, true, List, [], ◌∷◌, length, map, Option, Some, None, slice_get}
use Rattle.std.specs.List.{list_any}
use Rattle.ms_host.specs.declared.host.Host.TheVariants as hosts
use Rattle.ms_linear.specs.declared.global.GlobalInst.{GlobalInst}
use Rattle.ms_linear.specs.Table.{Table}
use Rattle.ms_linear.specs.Values.{default_of}
use Rattle.ms_machine.specs.Linked.{start_chain}
use Rattle.ms_machine.specs.Step.{host_in}
use Rattle.ms_machine.specs.Store.{Store}
use Rattle.ms_machine.specs.declared.store.Instance.{Instance}
use Rattle.ms_module.specs.declared.module.Global.{Global}
use Rattle.ms_segment.specs.Memory.{Placed}
use Rattle.ms_task.specs.declared.func.FuncInst.{FuncInst}
use Rattle.c_typed.specs.Tree.{Function, Stmt, Typed}
use Rattle.ms_emit.specs.Codes.{total}
use Rattle.c_code.specs.Functions.{body, locals, params_in, signature, start}
use Rattle.c_code.specs.Modules.{compiled, defined, entry_of, imported, index_of, named, start_target, target_of, waits_made}
use Rattle.c_code.specs.Uses.{waits_stmt}

-- at the address that is its index, the function of this number, with this body
pub record IsFunctionAt (u : Typed) (s : Store) (n : ℕ) (f : Function) (b : Stmt) : Type 0 where
  pub inst : FuncInst
  pub is_at : slice_get s.funcs (index_of u n) ≡ Some inst
  pub no_host : inst.host ≡ None
  pub at_home : inst.instance ≡ 0
  pub type_is : inst.ty ≡ signature f.ty
  pub locals_are : inst.locals ≡ locals (target_of u f b) (length (params_in f.ty)) f.slots (waits_stmt b)
  pub body_is : inst.body ≡ body (target_of u f b) f b

-- the index of the start function
abbrev pub start_index : Typed → ℕ
start_index u = 3 + length (imported u) + length (defined u)

-- at that address, the start function
pub record IsStartAt (u : Typed) (s : Store) : Type 0 where
  pub inst : FuncInst
  pub is_at : slice_get s.funcs (start_index u) ≡ Some inst
  pub at_home : inst.instance ≡ 0
  pub locals_are : inst.locals ≡ locals (start_target u) 0 [] (waits_made u u.made)
  pub body_is : inst.body ≡ start (start_target u) u.globals u.made

-- a global as it begins: zero, or null
abbrev pub begun_as : Global → GlobalInst
begun_as g = record { value = default_of g.ty.ty; mutable = true }

abbrev pub first_globals : Typed → List GlobalInst
first_globals u = map begun_as (compiled u).globals

-- one instance, in which each function and each global has its address as its index; the unit imports none from `c`
pub record IsPlaced (u : Typed) (s : Store) : Type 0 where
  pub none_imported : imported u ≡ []
  pub inst : Instance
  pub alone : s.instances ≡ inst ∷ []
  pub all : (x : ℕ) → x < length s.funcs → slice_get inst.funcs x ≡ Some x
  pub globals : s.globals ≡ first_globals u
  pub shared : (x : ℕ) → x < length s.globals → slice_get inst.globals x ≡ Some x
  pub three : 3 ≤ length s.funcs
  pub putchar : host_in (slice_get s.funcs 0) ≡ Some hosts.Putchar
  pub getchar : host_in (slice_get s.funcs 1) ≡ Some hosts.Getchar
  pub abort : host_in (slice_get s.funcs 2) ≡ Some hosts.Abort
  pub functions : (n : ℕ) (f : Function) (b : Stmt) → slice_get u.functions n ≡ Some f → f.body ≡ Some b → IsFunctionAt u s n f b
  -- the start function is carried out before any task
  pub start : IsStartAt u s
  pub begins : start_chain s.instances ≡ start_index u ∷ []
  -- its one table: at first it has no function, and behind that those that are values, which an i32 counts
  pub few : length (named u) < 4294967295
  pub types : inst.types ≡ (compiled u).sigs
  pub has_table : inst.table ≡ Some 0
  pub table : Table
  pub tables : s.tables ≡ table ∷ []
  pub empty : slice_get table.entries 0 ≡ Some None
  pub entries : (n : ℕ) (f : Function) (b : Stmt) → slice_get u.functions n ≡ Some f → f.body ≡ Some b → list_any (λ m. m == n) (named u) ≡ true
      → slice_get table.entries (entry_of u n) ≡ Some (Some (record { func = record { address = index_of u n }; sig = signature f.ty }))
  -- the live segments lie within the memory and apart
  pub segments : Placed s.segments

-- ---- how many instructions a body has at most

abbrev pub instructions_in : Typed → Function → Option Stmt → ℕ
instructions_in u f None = 0
instructions_in u f (Some b) = total (body (target_of u f b) f b)

abbrev pub longest_in : Typed → List Function → ℕ
longest_in u [] = 0
longest_in u (f ∷ fs) = max (instructions_in u f f.body) (longest_in u fs)

-- of the functions of the unit
abbrev pub longest_of : Typed → ℕ
longest_of u = longest_in u u.functions

-- the start function has so many
abbrev pub started_of : Typed → ℕ
started_of u = total (start (start_target u) u.globals u.made)
