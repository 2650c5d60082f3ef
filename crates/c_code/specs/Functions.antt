-- The code of functions (C11, 6.9.1), and of what is done before `main` (5.1.2.2.1).
use Rattle.std.specs.Prelude.{ℕ, zero, suc, ◌+◌, ◌==◌, Bool, true, false, List, [], ◌∷◌, ◌++◌, filter, length, map, drop, replicate, Option, Some, None, if◌then◌else◌, get_or, slice_get}
use Rattle.ms_types.specs.declared.types.FuncType.{FuncType}
use Rattle.ms_types.specs.declared.types.ValType.{ValType}
use Rattle.ms_types.specs.declared.types.ValType.TheVariants as vals
use Rattle.ms_module.specs.declared.access.Segment.TheVariants as segment
use Rattle.ms_module.specs.declared.instr.Instr.{Instr}
use Rattle.ms_module.specs.declared.instr.Instr.TheVariants.{LocalGet, Segment}
use Rattle.c_types.specs.declared.types.Scalar.{Scalar}
use Rattle.c_types.specs.Types.{Ty, void, function, Tys, no_types, types, scalar_of}
use Rattle.c_types.specs.Layout.{size}
use Rattle.c_typed.specs.declared.ops.Variable.{Variable}
use Rattle.c_typed.specs.declared.ops.Variable.TheVariants.{Local, Global}
use Rattle.c_typed.specs.Tree.{Stmt, Function, Made, global, text, Typed}
use Rattle.c_typed.specs.Units.{list_of, numbers}
use Rattle.c_meaning.specs.Units.{string}
use Rattle.ms_emit.specs.Codes.{Code, plain, one, no_code, ◌⨾◌, inner}
use Rattle.c_code.specs.Operations.{store, val_of, zero_of}
use Rattle.c_code.specs.Statements.{at_body, filled, freed, made, objects_in, stmt}
use Rattle.c_code.specs.Targets.{Target, get, set}

-- ---- types (WebAssembly 1.0, 2.3)

abbrev pub result_in : Ty → Ty
result_in (function r ps) = r
result_in t = t

abbrev pub params_in : Ty → List Ty
params_in (function r ps) = list_of ps
params_in t = []

-- a variable that is an object has its handle in its local or global
abbrev pub val_or_handle : Option ValType → ValType
val_or_handle None = vals.Handle
val_or_handle (Some v) = v

abbrev pub held_as : (is_object : Bool) → Ty → ValType
held_as true t = vals.Handle
held_as false t = val_or_handle (val_of t)

abbrev pub listed : Option ValType → List ValType
listed None = []
listed (Some v) = v ∷ []

abbrev pub signature : Ty → FuncType
signature t = record { params = map (held_as false) (params_in t); results = listed (val_of (result_in t)) }

-- ---- locals: the slots, of which the parameters are the first where none of them is an object; else these are copied to theirs

module _ (t : Target) where
  abbrev pub slots_from : (n : ℕ) → List Ty → List ValType
  slots_from n [] = []
  slots_from n (u ∷ us) = held_as (t.is_object (Local n)) u ∷ slots_from (suc n) us

  -- the scratch locals, and those of so many values that wait
  abbrev pub scratch_locals : (waits : ℕ) → List ValType
  scratch_locals n = vals.I32 ∷ vals.I64 ∷ vals.Handle ∷ vals.Handle ∷ replicate n vals.I32

  -- those that are declared, behind k parameters
  abbrev pub locals : (k : ℕ) → List Ty → (waits : ℕ) → List ValType
  locals k slots n = (if t.first == 0 then drop k (slots_from 0 slots) else slots_from 0 slots) ++ scratch_locals n

  -- ---- parameters

  abbrev pub param : (is_object : Bool) → ℕ → Ty → Code
  param false n u = plain (LocalGet n ∷ set t (Local n) ∷ [])
  param true n u = made t (Local n) (size t.structs u) ⨾ plain (get t (Local n) ∷ LocalGet n ∷ []) ⨾ stored (scalar_of u) where
    stored : Option Scalar → Code
    stored None = no_code
    stored (Some s) = one (store s)

  abbrev pub params_from : (n : ℕ) → List Ty → Code
  params_from n [] = no_code
  params_from n (u ∷ us) = param (t.is_object (Local n)) n u ⨾ params_from (suc n) us

  abbrev pub params : List Ty → Code
  params us = if t.first == 0 then no_code else params_from 0 us

  -- ---- bodies: a result that is missing is 0

  abbrev pub result : Option Scalar → Code
  result None = no_code
  result (Some s) = one (zero_of s)

  abbrev pub body : Function → Stmt → List (List Instr)
  body f s =
      let us = params_in f.ty in
      let vs = objects_in t f.slots (numbers (length us)) in
      inner ((params us ⨾ stmt t f.slots 0 (at_body vs) s ⨾ freed t vs ⨾ result (scalar_of (result_in f.ty))) 1)

  -- ---- before `main`: objects are made in the order of their tokens, and then initialised in that order

  abbrev pub makes : List Ty → (literals : ℕ) → List Made → Code
  makes us k [] = no_code
  makes us k (global n ss ∷ ms) =
      (if t.is_object (Global n) then made t (Global n) (size t.structs (get_or us n void)) else no_code) ⨾ makes us k ms
  makes us k (text bytes ∷ ms) = made t (Global (t.globals + k)) (size t.structs (string bytes)) ⨾ makes us (suc k) ms

  abbrev pub values : List Stmt → Code
  values [] = no_code
  values (s ∷ ss) = stmt t [] 0 (at_body []) s ⨾ values ss

  -- a literal is sealed behind its bytes
  abbrev pub gives : (literals : ℕ) → List Made → Code
  gives k [] = no_code
  gives k (global n ss ∷ ms) = values ss ⨾ gives k ms
  gives k (text bytes ∷ ms) =
      let v = Global (t.globals + k) in
      filled t (one (get t v)) bytes ⨾ plain (get t v ∷ Segment segment.Seal ∷ set t v ∷ []) ⨾ gives (suc k) ms

  abbrev pub start : List Ty → List Made → List (List Instr)
  start us ms = inner ((makes us 0 ms ⨾ gives 0 ms) 1)
