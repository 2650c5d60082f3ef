-- The code of statements (C11, 6.8): they leave the operands as they were.
use Rattle.std.specs.Prelude.{ℕ, zero, suc, ◌+◌, ◌*◌, negsuc, Bool, true, false, ◌||◌, List, [], ◌∷◌, ◌++◌, length, filter, map, take, Option, Some, None, get_or, if◌then◌else◌}
use Rattle.ms_handle.specs.declared.handle.Kind.TheVariants as kinds
use Rattle.ms_module.specs.declared.access.Segment.TheVariants as segment
use Rattle.ms_module.specs.declared.access.StoreOp.TheVariants as stores
use Rattle.ms_module.specs.declared.instr.Instr.{Instr}
use Rattle.ms_module.specs.declared.instr.Instr.TheVariants.{Br, BrIf, GlobalGet, LocalGet, LocalSet, LocalTee, Return, Segment, Select, Unreachable}
use Rattle.ms_module.specs.declared.numeric.RelOp.TheVariants as rels
use Rattle.ms_module.specs.declared.numeric.Width.{Width}
use Rattle.ms_module.specs.declared.numeric.Width.TheVariants.{W32}
use Rattle.c_types.specs.declared.integers.IntType.{IntType}
use Rattle.c_types.specs.declared.types.Scalar.{Scalar}
use Rattle.c_types.specs.Types.{Ty, void, scalar_of}
use Rattle.c_types.specs.Layout.{size}
use Rattle.c_typed.specs.declared.ops.Variable.{Variable}
use Rattle.c_typed.specs.declared.ops.Variable.TheVariants.{Local}
use Rattle.c_typed.specs.declared.tree.Case.{Case}
use Rattle.c_typed.specs.Tree.{Expr, Stmt, nothing, perform, fill, if_else, loop, do_while, switch, scope, return, return_nothing, break, continue, Stmts, done, seq}
use Rattle.c_typed.specs.Statements.{count}
use Rattle.c_meaning.specs.Integers.{value_of}
use Rattle.c_meaning.specs.Statements.{group_at, or_else}
use Rattle.ms_emit.specs.Codes.{Code, plain, one, no_code, ◌⨾◌, block, repeat, choice}
use Rattle.c_code.specs.Expressions.{decayed, expr, is_deref, place, step}
use Rattle.c_code.specs.Operations.{constant, eqz, i32, i64, new_frame, rel, width_of, zero_of}
use Rattle.c_code.specs.Targets.{Target, get, scratch_handle, scratch_of_width, set, tee, waiting}

-- ---- ways out of blocks (6.8.6)

-- Where a statement stands: the variables of the open blocks that are objects, the innermost block first; how many of them lie
-- inside what `break` leaves and inside the loop that `continue` goes on; their labels; and what stands in front of the branch of
-- `break`.
pub record Exits : Type 0 where
  pub objects : List Variable
  pub left_by_break : ℕ
  pub left_by_continue : ℕ
  pub break_label : ℕ
  pub continue_label : ℕ
  pub leaving : Code

-- within a block of the machine
abbrev pub within : Exits → Exits
within x = record x { break_label = suc x.break_label; continue_label = suc x.continue_label }

-- within a block of C that has these objects
abbrev pub with_objects : List Variable → Exits → Exits
with_objects vs x =
    record x { objects = vs ++ x.objects; left_by_break = length vs + x.left_by_break; left_by_continue = length vs + x.left_by_continue }

-- within the body of a loop: in a block of its own, whose end `continue` leads to, where it has a `continue`
abbrev pub in_loop : (continues : Bool) → Exits → Exits
in_loop b x =
    record { objects = x.objects; left_by_break = 0; left_by_continue = 0; break_label = if b then 2 else 1; continue_label = 0; leaving = no_code }

-- within a group of a switch: `break` passes the groups that follow
abbrev pub in_group : (waiting : ℕ) → Exits → Exits
in_group w x =
    record { objects = x.objects; left_by_break = 0; left_by_continue = x.left_by_continue; break_label = 0; continue_label = suc x.continue_label; leaving = plain (constant W32 (negsuc 0) ∷ LocalSet w ∷ []) }

-- a function's body, whose parameters have these objects
abbrev pub at_body : List Variable → Exits
at_body vs =
    record { objects = vs; left_by_break = 0; left_by_continue = 0; break_label = 0; continue_label = 0; leaving = no_code }

-- whether a `continue` in the statement belongs to a loop around it
abbrev mutual
  pub continues : Stmt → Bool
  continues continue = true
  continues (if_else c a b) = continues a || continues b
  continues (switch t e slots cases ss) = any_continues ss
  continues (scope slots ss) = any_continues ss
  continues _ = false

  pub any_continues : Stmts → Bool
  any_continues done = false
  any_continues (seq s ss) = continues s || any_continues ss

module _ (t : Target) where
  -- ---- objects of blocks

  abbrev pub freed : List Variable → Code
  freed [] = no_code
  freed (v ∷ vs) = plain (get t v ∷ Segment (segment.Free kinds.Frame) ∷ []) ⨾ freed vs

  -- an object of so many bytes; one that is refused ends the program
  abbrev pub made : Variable → ℕ → Code
  made v n = new_frame n ⨾ tee t v ⨾ one (Segment segment.IsNull) ⨾ choice None (one Unreachable) no_code

  abbrev pub zeroed : Variable → Option Scalar → Code
  zeroed v None = no_code
  zeroed v (Some s) = plain (zero_of s ∷ set t v ∷ [])

  abbrev pub entered : Bool → Variable → Ty → Code
  entered true v u = made v (size t.structs u)
  entered false v u = zeroed v (scalar_of u)

  -- a string's bytes into the array of a handle on the stack (6.7.9, paragraph 14), from the i-th on
  abbrev pub bytes_put : (i : ℕ) → List ℕ → Code
  bytes_put i [] = no_code
  bytes_put i (b ∷ bs) =
      plain (LocalGet (scratch_handle t) ∷ i64 i ∷ Segment (segment.Add 1) ∷ i32 b ∷ Segment (segment.Store stores.I32Store8) ∷ []) ⨾ bytes_put (suc i) bs

  abbrev pub filled : Code → List ℕ → Code
  filled p bytes = p ⨾ one (LocalSet (scratch_handle t)) ⨾ bytes_put 0 bytes

  -- ---- loops (6.8.5): the test in front, and again behind each iteration

  -- the body, which has a block of its own where it has a `continue`
  abbrev pub iterated : Bool → (body step test : Code) → Code
  iterated false body step test = repeat None (body ⨾ step ⨾ test ⨾ one (BrIf 0))
  iterated true body step test = repeat None (block None body ⨾ step ⨾ test ⨾ one (BrIf 0))

  -- ---- switches (6.8.4.2)

  -- the number of the group with which it goes on: that of the label that is equal, else what stands on the operands
  abbrev pub chosen : IntType → (operand : ℕ) → List Case → Code
  chosen u x [] = no_code
  chosen u x (c ∷ cs) = by_label c.label ⨾ chosen u x cs where
    by_label : Option ℕ → Code
    by_label None = no_code
    by_label (Some n) =
        plain (i32 c.group ∷ LocalGet x ∷ constant (width_of u) (value_of u n) ∷ rel (width_of u) rels.Ne ∷ Select ∷ [])

  abbrev pub selected : IntType → (operand waiting : ℕ) → List Case → (groups : ℕ) → Code → Code
  selected u x w cases k e =
      e ⨾ plain (LocalSet x ∷ i32 (or_else (group_at None cases) k) ∷ []) ⨾ chosen u x cases ⨾ one (LocalSet w)

  -- a group is carried out where the switch goes on with it or with one before it
  abbrev pub group_from : (waiting number : ℕ) → Code → Code
  group_from w i body = plain (LocalGet w ∷ i32 i ∷ rel W32 rels.LeU ∷ []) ⨾ choice None body no_code

  -- the slots of the function have these types
  module _ (slots : List Ty) where
    abbrev pub object_of : ℕ → Bool
    object_of n = t.is_object (Local n)

    -- the objects among these slots
    abbrev pub objects_in : List ℕ → List Variable
    objects_in ns = map Local (filter object_of ns)

    abbrev pub enters : List ℕ → Code
    enters [] = no_code
    enters (n ∷ ns) = entered (object_of n) (Local n) (get_or slots n void) ⨾ enters ns

    abbrev mutual
      pub stmt : (d : ℕ) → Exits → Stmt → Code
      stmt d x nothing = no_code
      stmt d x (perform e) = step t d (Some e)
      stmt d x (fill p n bytes) = filled (decayed (is_deref p) n (place t d p)) bytes
      stmt d x (if_else c a b) = expr t true d c ⨾ choice None (stmt d (within x) a) (stmt d (within x) b)
      stmt d x (loop c after s) =
          expr t true d c ⨾ choice None (iterated (continues s) (stmt d (in_loop (continues s) x) s) (step t d after) (expr t true d c)) no_code
      stmt d x (do_while s c) =
          block None (iterated (continues s) (stmt d (in_loop (continues s) x) s) no_code (expr t true d c))
      stmt d x (switch u e ns cases ss) =
          let vs = objects_in ns in
          selected u (scratch_of_width t (width_of u)) (waiting t d) cases (count ss) (expr t true d e)
          ⨾ enters ns ⨾ groups d (in_group (waiting t d) (with_objects vs x)) 0 ss ⨾ freed vs
      stmt d x (scope ns ss) = let vs = objects_in ns in enters ns ⨾ stmts d (with_objects vs x) ss ⨾ freed vs
      stmt d x (return e) = expr t true d e ⨾ freed x.objects ⨾ one Return
      stmt d x return_nothing = freed x.objects ⨾ one Return
      stmt d x break = freed (take x.left_by_break x.objects) ⨾ x.leaving ⨾ one (Br x.break_label)
      stmt d x continue = freed (take x.left_by_continue x.objects) ⨾ one (Br x.continue_label)

      pub stmts : (d : ℕ) → Exits → Stmts → Code
      stmts d x done = no_code
      stmts d x (seq s ss) = stmt d x s ⨾ stmts d x ss

      -- the groups from the i-th on
      pub groups : (d : ℕ) → Exits → (i : ℕ) → Stmts → Code
      groups d x i done = no_code
      groups d x i (seq s ss) = group_from (waiting t d) i (stmt (suc d) x s) ⨾ groups d x (suc i) ss
