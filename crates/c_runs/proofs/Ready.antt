-- What is asked of a part of a function: an i32 counts its strings and switches, each function that it uses is defined, each that is a value in it is one
-- that the unit uses so, each type that is called through has its number, and each variable whose address it takes is an object.
use Rattle.std.proofs.Common.{◌≡◌, ℕ, ◌<◌, List, [], ◌∷◌, ◌++◌, length, Bool, true, false, Option, Some, None, refl, ap, arith}
use Rattle.std.specs.Prelude.{◌==◌, ◌&&◌, ◌||◌, slice_get}
use Rattle.std.specs.List.{list_any}
use Rattle.c_typed.specs.declared.ops.Variable.{Variable}
use Rattle.c_typed.specs.declared.ops.Variable.TheVariants.{Local, Global}
use Rattle.c_typed.specs.Objects as addresses
use Rattle.c_typed.specs.Tree.{Place, of, Expr, address, Exprs, Stmt, loop, Stmts, Typed}
use Rattle.c_code.specs.Modules.{is_call_of, is_defined_at, is_name_of, compiled, sig_of}
use Rattle.c_code.specs.Uses.{Use, calls, names, uses, through}
use Rattle.c_code.specs.Functions.{signature}
use Rattle.c_typing.proofs.Names.{Each, each_back, each_front}
use Rattle.c_runs.proofs.Whole.{both}

-- a function of the unit, if it is one, is defined
abbrev pub IsCallable : Typed → ℕ → Type 0
IsCallable u n = n < length u.functions → is_defined_at u n ≡ true

abbrev pub AreCallable : Typed → List Use → Type 0
AreCallable u us = (n : ℕ) → list_any (is_call_of n) us ≡ true → IsCallable u n

-- a function that is a value is one that the unit uses so, a type that is called through has its number, and calls stand only where they
-- may
abbrev pub IsKnown : Bool → Typed → Use → Type 0
IsKnown may u (names n) = list_any (is_name_of n) (uses u) ≡ true
IsKnown may u (calls n) = may ≡ true
IsKnown may u (through t) = (may ≡ true) × (slice_get (compiled u).sigs (sig_of u t) ≡ Some (signature t))
IsKnown may u _ = Unit {0}

pub record IsReady (may : Bool) (is_object : Variable → Bool) (u : Typed) (counted : Bool) (us : List Use) (taken : Variable → Bool) : Type 0 where
  pub fits : counted ≡ true
  pub callable : AreCallable u us
  pub known : Each (IsKnown may u) us
  pub objects : (x : Variable) → taken x ≡ true → is_object x ≡ true

-- ---- variables whose addresses are taken

abbrev pub either : (f g : Variable → Bool) → Variable → Bool
either f g = λ x. f x || g x

abbrev pub in_place_of : Place → Variable → Bool
in_place_of p = λ x. addresses.in_place x p

abbrev pub in_expr_of : Expr → Variable → Bool
in_expr_of e = λ x. addresses.in_expr x e

abbrev pub in_exprs_of : Exprs → Variable → Bool
in_exprs_of es = λ x. addresses.in_exprs x es

abbrev pub in_step_of : Option Expr → Variable → Bool
in_step_of None = λ x. false
in_step_of (Some e) = in_expr_of e

abbrev pub in_stmt_of : Stmt → Variable → Bool
in_stmt_of s = λ x. addresses.in_stmt x s

abbrev pub in_stmts_of : Stmts → Variable → Bool
in_stmts_of ss = λ x. addresses.in_stmts x ss

-- ---- parts

pub any_left : (p : Use → Bool) (us vs : List Use) → list_any p us ≡ true → list_any p (us ++ vs) ≡ true
any_left p [] vs e = absurd cc
any_left p (x ∷ us) vs e = by (p x) e (any_left p us vs) where
  by : (b : Bool) → (b || list_any p us) ≡ true → (list_any p us ≡ true → list_any p (us ++ vs) ≡ true) → (b || list_any p (us ++ vs)) ≡ true
  by true e h = refl
  by false e h = h e

pub any_right : (p : Use → Bool) (us vs : List Use) → list_any p vs ≡ true → list_any p (us ++ vs) ≡ true
any_right p [] vs e = e
any_right p (x ∷ us) vs e = by (p x) (any_right p us vs e) where
  by : (b : Bool) → list_any p (us ++ vs) ≡ true → (b || list_any p (us ++ vs)) ≡ true
  by true h = refl
  by false h = h

pub same_number : (n : ℕ) (b : Bool) → ((n == n) || b) ≡ true
same_number n b = let e : n == n ≡ true = grind arith in ap (λ (a : Bool). a || b) e

pub same_variable : (v : Variable) → (addresses.is_variable v v || false) ≡ true
same_variable (Local n) = same_number n false
same_variable (Global n) = same_number n false

pub left_of : (a b : Bool) → a ≡ true → (a || b) ≡ true
left_of true b e = refl
left_of false b e = absurd cc

pub right_of : (a b : Bool) → b ≡ true → (a || b) ≡ true
right_of true b e = refl
right_of false b e = e

module _ (may : Bool) (is_object : Variable → Bool) (u : Typed) where
  -- two parts
  pub parts : (a b : Bool) (us vs : List Use) (f g : Variable → Bool) → IsReady may is_object u (a && b) (us ++ vs) (either f g) → IsReady may is_object u a us f × IsReady may is_object u b vs g
  parts a b us vs f g h =
      let q = both a b h.fits in (
        record { fits = q.0; callable = λ n e. h.callable n (any_left (is_call_of n) us vs e); known = each_front (IsKnown may u) us vs h.known; objects = λ x e. h.objects x (left_of (f x) (g x) e) },
        record { fits = q.1; callable = λ n e. h.callable n (any_right (is_call_of n) us vs e); known = each_back (IsKnown may u) us vs h.known; objects = λ x e. h.objects x (right_of (f x) (g x) e) },
      )

  -- a part behind a test
  pub behind_test : (a b : Bool) (us : List Use) (f : Variable → Bool) → IsReady may is_object u (a && b) us f → (a ≡ true) × IsReady may is_object u b us f
  behind_test a b us f h = let q = both a b h.fits in (q.0, record { fits = q.1; callable = h.callable; known = h.known; objects = h.objects })

  -- the function that is called first, and the part behind it
  pub called : (n : ℕ) (b : Bool) (us : List Use) (f : Variable → Bool) → IsReady may is_object u b (calls n ∷ us) f → ((may ≡ true) × IsCallable u n) × IsReady may is_object u b us f
  called n b us f h = (
    (h.known.0, h.callable n (same_number n (list_any (is_call_of n) us))),
    record { fits = h.fits; callable = λ m e. h.callable m (any_right (is_call_of m) (calls n ∷ []) us e); known = h.known.1; objects = h.objects },
  )

  -- the place of an address
  pub addressed : (b : Bool) (us : List Use) (p : Place) → IsReady may is_object u b us (in_expr_of (address p)) → IsReady may is_object u b us (in_place_of p)
  addressed b us p h = record { fits = h.fits; callable = h.callable; known = h.known; objects = λ x e. h.objects x (right_of (addresses.is_of x p) (in_place_of p x) e) }

  -- of a variable
  pub taken : (b : Bool) (us : List Use) (x : Variable) → IsReady may is_object u b us (in_expr_of (address (of x))) → is_object x ≡ true
  taken b us x h = h.objects x (same_variable x)

  -- a loop, with what it does after each turn or without
  pub looped : (b : Bool) (us : List Use) (c : Expr) (o : Option Expr) (s : Stmt) → IsReady may is_object u b us (in_stmt_of (loop c o s)) → IsReady may is_object u b us (either (in_expr_of c) (either (in_step_of o) (in_stmt_of s)))
  looped b us c None s h = h
  looped b us c (Some e) s h = h
