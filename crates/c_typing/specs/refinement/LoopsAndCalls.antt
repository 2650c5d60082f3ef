-- The loops and the calls of a unit, and those of the code of a body (C11, 6.8.5, 6.5.2.2; WebAssembly 1.0, 2.4.5).
use Rattle.std.specs.Prelude.{◌≡◌, ◌≤◌, ◌<◌, ℕ, ◌+◌, List, [], ◌∷◌, slice_get, Some, All}
use Rattle.ms_module.specs.declared.instr.Instr.{Instr}
use Rattle.ms_module.specs.declared.instr.Instr.TheVariants.{Loop, Call, CallIndirect}
use Rattle.c_types.specs.Types.{Ty}
use Rattle.c_typed.specs.Tree.{Stmt, if_else, loop, do_while, switch, scope, Stmts, done, seq, Made, global, text, Typed}
use Rattle.c_code.specs.Modules.{index_of, sig_of}
use Rattle.c_code.specs.Uses.{Use, calls, through}

-- ---- how many loops a statement has in it

abbrev mutual
  pub loops_in_stmt : Stmt → ℕ
  loops_in_stmt (if_else c a b) = loops_in_stmt a + loops_in_stmt b
  loops_in_stmt (loop c step s) = loops_in_stmt s + 1
  loops_in_stmt (do_while s c) = loops_in_stmt s + 1
  loops_in_stmt (switch t e slots cases ss) = loops_in_stmts ss
  loops_in_stmt (scope slots ss) = loops_in_stmts ss
  loops_in_stmt _ = 0

  pub loops_in_stmts : Stmts → ℕ
  loops_in_stmts done = 0
  loops_in_stmts (seq s ss) = loops_in_stmt s + loops_in_stmts ss

abbrev pub loops_in_values : List Stmt → ℕ
loops_in_values [] = 0
loops_in_values (s ∷ ss) = loops_in_stmt s + loops_in_values ss

abbrev pub loops_in_made : List Made → ℕ
loops_in_made [] = 0
loops_in_made (global n ss ∷ ms) = loops_in_values ss + loops_in_made ms
loops_in_made (text bytes ∷ ms) = loops_in_made ms

-- ---- how many a body has

abbrev pub one_if_loop : Instr → ℕ
one_if_loop (Loop ty body) = 1
one_if_loop _ = 0

abbrev pub loops_among : List Instr → ℕ
loops_among [] = 0
loops_among (i ∷ is) = one_if_loop i + loops_among is

abbrev pub loops_in_body : List (List Instr) → ℕ
loops_in_body [] = 0
loops_in_body (is ∷ ss) = loops_among is + loops_in_body ss

-- ---- what it calls

-- of the functions that are called, and of the types of those that are called through the table
abbrev pub OfCalls : (direct indirect : ℕ → Type 0) → Instr → Type 0
OfCalls direct indirect (Call i) = direct i
OfCalls direct indirect (CallIndirect i) = indirect i
OfCalls direct indirect _ = Unit {0}

-- one of the host's three functions, or one that these uses call by its name
pub data IsCallee (u : Typed) (us : List Use) (index : ℕ) : Type 0 where
  host : index < 3 → IsCallee u us index
  called : (n i : ℕ) → slice_get us i ≡ Some (calls n) → index ≡ index_of u n → IsCallee u us index

-- a type of a function that these uses call through a pointer
abbrev pub IsCalleeType : Typed → List Use → ℕ → Type 0
IsCalleeType u us index = (t : Ty) × (i : ℕ) × (slice_get us i ≡ Some (through t)) × (index ≡ sig_of u t)

-- A body has so many loops at most, and calls what these uses call, and the host's functions.
pub record IsBounded (u : Typed) (loops : ℕ) (us : List Use) (body : List (List Instr)) : Type 0 where
  pub loops_are : loops_in_body body ≤ loops
  pub calls_are : All (λ is. All (OfCalls (IsCallee u us) (IsCalleeType u us)) is) body

-- ---- without loops and calls

-- it calls no function of the unit
abbrev pub IsNoCall : Use → Type 0
IsNoCall (calls n) = ⊥
IsNoCall (through t) = ⊥
IsNoCall _ = Unit {0}

-- no loop, and no call but of the host's functions
abbrev pub IsQuiet : Instr → Type 0
IsQuiet (Loop ty body) = ⊥
IsQuiet (Call i) = i < 3
IsQuiet (CallIndirect i) = ⊥
IsQuiet _ = Unit {0}
