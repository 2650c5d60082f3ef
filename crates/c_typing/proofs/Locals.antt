-- How many locals the functions of a unit's module declare.
use Rattle.std.proofs.Common.{◌≡◌, ℕ, suc, ◌+◌, ◌≤◌, List, [], ◌∷◌, length, Bool, true, false, Option, Some, None, refl, arith, length-append, length-drop}
use Rattle.std.proofs.lemmas.List.{length-replicate}
use Rattle.std.specs.Prelude.{cond, drop, is_some, nat_lt, replicate, ◌&&◌, ◌||◌, ◌==◌}
use Rattle.std.specs.List.{All, list_any}
use Rattle.ms_types.specs.declared.types.ValType.TheVariants as vals
use Rattle.ms_module.specs.declared.module.Func.{Func}
use Rattle.c_types.specs.Types.{Ty}
use Rattle.c_typed.specs.refinement.Nesting.{deepest}
use Rattle.c_typed.specs.Tree.{Function, Stmt, Typed}
use Rattle.c_code.specs.Functions.{locals, params_in, scratch_locals, slots_from}
use Rattle.c_code.specs.Limits.{first_true, has_many_slots, is_long_copy, limit_of}
use Rattle.c_code.specs.Limits as limits
use Rattle.c_code.specs.Modules.{compiled, func_of, funcs_from, named, start_func, start_target, target_of, waits_made}
use Rattle.c_code.specs.Targets.{Target}
use Rattle.c_code.specs.Uses.{uses, waits_stmt}
use Rattle.c_typing.specs.refinement.Waits.{unit_waits, waits_body}
use Rattle.c_typing.proofs.Frames.{each_all}
use Rattle.c_typing.proofs.Modules.{no_limit, not_below}
use Rattle.c_typing.proofs.Names.{Each, each_append}

slots_length : (t : Target) (n : ℕ) (us : List Ty) → length (slots_from t n us) ≡ length us
slots_length t n [] = refl
slots_length t n (u ∷ us) = let e = slots_length t (suc n) us in omega (arith, e)

locals_length : (t : Target) (k : ℕ) (slots : List Ty) (w : ℕ) → length (locals t k slots w) ≤ length slots + 4 + w
locals_length t k slots w =
    let own = cond (t.first == 0) (drop k (slots_from t 0 slots)) (slots_from t 0 slots) in
    let a = length-append own (scratch_locals t w) in
    let r = length-replicate w vals.I32 in
    let c : length (scratch_locals t w) ≡ suc (suc (suc (suc (length (replicate w vals.I32))))) = refl in
    let le = by (t.first == 0) in
    omega (arith, a, r, c, le)
  where
    by : (b : Bool) → length (cond b (drop k (slots_from t 0 slots)) (slots_from t 0 slots)) ≤ length slots
    by true = let d = length-drop k (slots_from t 0 slots) in let e = slots_length t 0 slots in omega (arith, d, e)
    by false = let e = slots_length t 0 slots in omega (arith, e)

neither : (a b : Bool) → a || b ≡ false → (a ≡ false) × (b ≡ false)
neither true b e = absurd cc
neither false b e = (refl, e)

module _ (u : Typed) (w : ℕ) where
  abbrev HasFew : Func → Type 0
  HasFew f = length f.locals ≤ 10000 + 4 + w

  func_few : (n : ℕ) (f : Function) (o : Option Stmt) → is_some o && nat_lt 10000 (length f.slots) ≡ false → waits_body o ≤ w
      → Each HasFew (func_of u n f o)
  func_few n f None e le = tt
  func_few n f (Some s) e le =
      let few = not_below 10000 (length f.slots) e in
      let l = locals_length (target_of u f s) (length (params_in f.ty)) f.slots (waits_stmt s) in (omega (arith, few, l, le), tt)

  funcs_few : (n : ℕ) (fs : List Function) → list_any has_many_slots fs ≡ false → deepest (λ f. waits_body f.body) fs ≤ w
      → Each HasFew (funcs_from u n fs)
  funcs_few n [] e le = tt
  funcs_few n (f ∷ fs) e le =
      let p = neither (has_many_slots f) (list_any has_many_slots fs) e in
      each_append HasFew (func_of u n f f.body) (funcs_from u (suc n) fs)
      (func_few n f f.body p.0 (omega (arith, le))) (funcs_few (suc n) fs p.1 (omega (arith, le)))

  start_few : waits_made u u.made ≤ w → HasFew (start_func u)
  start_few le = let l = locals_length (start_target u) 0 [] (waits_made u u.made) in omega (arith, l, le)

pub few_locals : (u : Typed) → limit_of u ≡ None → All (λ f. length f.locals ≤ limits.most_slots + 4 + unit_waits u) (compiled u).funcs
few_locals u e =
    let w = unit_waits u in
    let few = no_limit (list_any has_many_slots u.functions) limits.locals
    (first_true (list_any (is_long_copy u.structs) (uses u)) limits.copy
    (first_true (nat_lt 65535 (length (named u))) limits.functions None)) e in
    each_all (HasFew u w) (compiled u).funcs (each_append (HasFew u w) (funcs_from u 0 u.functions) (start_func u ∷ [])
    (funcs_few u w 0 u.functions few.0 (omega arith)) (start_few u w (omega arith), tt))
