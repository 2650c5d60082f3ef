-- What is asked of a part of an expression: what is asked of a part of a function, and that there is a local for each value that waits
-- in it at once, beside d others, of which so many wait where the expression begins.
use Rattle.std.proofs.Common.{◌≡◌, ℕ, suc, ◌+◌, ◌≤◌, List, ◌∷◌, ◌++◌, [], Bool, true, Some, arith}
use Rattle.std.specs.Prelude.{max, slice_get}
use Rattle.std.specs.List.{list_any}
use Rattle.c_types.specs.Types.{Ty}
use Rattle.c_typed.specs.declared.ops.Variable.{Variable}
use Rattle.c_typed.specs.Objects as addresses
use Rattle.c_typed.specs.Tree.{Place, of, Expr, address, Exprs, Typed}
use Rattle.c_code.specs.Functions.{signature}
use Rattle.c_code.specs.Modules.{compiled, is_call_of, sig_of}
use Rattle.c_code.specs.Uses.{Use, calls, through, waits, waits_all, waits_place}
use Rattle.c_typing.proofs.Names.{Each, each_back, each_front}
use Rattle.c_runs.proofs.Ready as ready
use Rattle.c_runs.proofs.Ready.{AreCallable, IsCallable, IsKnown, any_left, any_right, left_of, right_of, same_number, same_variable}

-- the variables whose addresses are taken, and how many values wait
pub record Needs : Type 0 where
  pub taken : Variable → Bool
  pub waits : ℕ

abbrev pub either : Needs → Needs → Needs
either a b = record { taken = ready.either a.taken b.taken; waits = max a.waits b.waits }

abbrev pub in_place_of : Place → Needs
in_place_of p = record { taken = ready.in_place_of p; waits = waits_place p }

abbrev pub in_expr_of : Expr → Needs
in_expr_of e = record { taken = ready.in_expr_of e; waits = waits e }

abbrev pub in_exprs_of : Exprs → Needs
in_exprs_of es = record { taken = ready.in_exprs_of es; waits = waits_all es }

-- of a call through a pointer: the pointer, and the arguments, while it waits
abbrev pub through_of : Needs → Needs → Needs
through_of a b = record { taken = ready.either a.taken b.taken; waits = max a.waits (b.waits + 1) }

pub record IsReady (may : Bool) (is_object : Variable → Bool) (u : Typed) (least d all : ℕ) (us : List Use) (needs : Needs) : Type 0 where
  pub callable : AreCallable u us
  pub known : Each (IsKnown may u) us
  pub objects : (x : Variable) → needs.taken x ≡ true → is_object x ≡ true
  pub before : least ≤ d
  pub room : d + needs.waits ≤ all

module _ (may : Bool) (is_object : Variable → Bool) (u : Typed) (least d all : ℕ) where
  pub ready_at : (counted : Bool) (us : List Use) (taken : Variable → Bool) (n : ℕ) → least ≤ d → d + n ≤ all → ready.IsReady may is_object u counted us taken → IsReady may is_object u least d all us (record { taken = taken; waits = n })
  ready_at b us taken n le room h = record { callable = h.callable; known = h.known; objects = h.objects; before = le; room = room }

  -- two parts
  pub parts : (us vs : List Use) (f g : Needs) → IsReady may is_object u least d all (us ++ vs) (either f g) → IsReady may is_object u least d all us f × IsReady may is_object u least d all vs g
  parts us vs f g h =
      let room : d + max f.waits g.waits ≤ all = h.room in (
        record { callable = λ n e. h.callable n (any_left (is_call_of n) us vs e); known = each_front (IsKnown may u) us vs h.known; objects = λ x e. h.objects x (left_of (f.taken x) (g.taken x) e); before = h.before; room = omega (arith, room) },
        record { callable = λ n e. h.callable n (any_right (is_call_of n) us vs e); known = each_back (IsKnown may u) us vs h.known; objects = λ x e. h.objects x (right_of (f.taken x) (g.taken x) e); before = h.before; room = omega (arith, room) },
      )

  -- the function that is called first, and the part behind it
  pub called : (n : ℕ) (us : List Use) (f : Needs) → IsReady may is_object u least d all (calls n ∷ us) f → ((may ≡ true) × IsCallable u n) × IsReady may is_object u least d all us f
  called n us f h = (
    (h.known.0, h.callable n (same_number n (list_any (is_call_of n) us))),
    record { callable = λ m e. h.callable m (any_right (is_call_of m) (calls n ∷ []) us e); known = h.known.1; objects = h.objects; before = h.before; room = h.room },
  )

  -- the part behind another use
  pub behind_use : (x : Use) (us : List Use) (f : Needs) → IsReady may is_object u least d all (x ∷ us) f → IsReady may is_object u least d all us f
  behind_use x us f h = record { callable = λ m e. h.callable m (any_right (is_call_of m) (x ∷ []) us e); known = h.known.1; objects = h.objects; before = h.before; room = h.room }

  -- the pointer that a call goes through, and the arguments, beside which one value more waits
  pub through_parts : (t : Ty) (us vs : List Use) (f g : Needs) → IsReady may is_object u least d all (through t ∷ (us ++ vs)) (through_of f g)
      → ((may ≡ true) × (slice_get (compiled u).sigs (sig_of u t) ≡ Some (signature t))) × IsReady may is_object u least d all us f × IsReady may is_object u (suc d) (suc d) all vs g
  through_parts t us vs f g h =
      let room : d + max f.waits (g.waits + 1) ≤ all = h.room in
      let behind = λ (n : ℕ) (e : list_any (is_call_of n) (us ++ vs) ≡ true). h.callable n (any_right (is_call_of n) (through t ∷ []) (us ++ vs) e) in (
        h.known.0,
        record { callable = λ n e. behind n (any_left (is_call_of n) us vs e); known = each_front (IsKnown may u) us vs h.known.1; objects = λ x e. h.objects x (left_of (f.taken x) (g.taken x) e); before = h.before; room = omega (arith, room) },
        record { callable = λ n e. behind n (any_right (is_call_of n) us vs e); known = each_back (IsKnown may u) us vs h.known.1; objects = λ x e. h.objects x (right_of (f.taken x) (g.taken x) e); before = omega arith; room = omega (arith, room) },
      )

  -- the place of an address
  pub addressed : (us : List Use) (p : Place) → IsReady may is_object u least d all us (in_expr_of (address p)) → IsReady may is_object u least d all us (in_place_of p)
  addressed us p h = record { callable = h.callable; known = h.known; objects = λ x e. h.objects x (right_of (addresses.is_of x p) (ready.in_place_of p x) e); before = h.before; room = h.room }

  -- of a variable
  pub taken : (us : List Use) (x : Variable) → IsReady may is_object u least d all us (in_expr_of (address (of x))) → is_object x ≡ true
  taken us x h = h.objects x (same_variable x)
