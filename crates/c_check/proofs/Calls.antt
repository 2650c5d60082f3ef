-- Calls give forms of which is known what has to be.
use Rattle.std.proofs.Common.{◌≡◌, sym, ap, subst, refl, Bool, true, false, List, Option, Some, None, slice_get, if◌then◌else◌}
use Rattle.std.proofs.lemmas.Option.{none-some, same_Some}
use Rattle.c_types.specs.declared.integers.IntType.TheVariants.{Char, Int, UnsignedInt}
use Rattle.c_types.specs.Types.{Ty, void, integer, pointer, function, Tys, is_function, scalar_of}
use Rattle.c_tree.specs.Tree.{Exprs}
use Rattle.c_typed.specs.Tree as to
use Rattle.c_check_types.specs.declared.prelude.LibraryName.{LibraryName}
use Rattle.c_check_types.specs.declared.prelude.LibraryName.TheVariants as prelude
use Rattle.c_check_types.specs.State.{State, Rule}
use Rattle.c_conversions.specs.Conversions as form
use Rattle.c_conversions.specs.Conversions.{Form, value, zero, bytes, product, allocation}
use Rattle.c_check_exprs.specs.Expressions.{exprs_of, function_number, call_of, called, freed, freeing, putting, allocating, multiplying, no_arguments, library_call, calling}
use Rattle.c_typed.specs.refinement.Types.{AreParameters}
use Rattle.c_typed.specs.refinement.Expressions.{Context, HasType, HaveTypes}
use Rattle.c_check.proofs.States.{context, Good, Quiet, Does}
use Rattle.c_check.proofs.Extension.{quiet-same}
use Rattle.c_check.proofs.Rules.{ends, given-then, only-then, quietly}
use Rattle.c_check.proofs.Conversions.{IsPointer, IsForm, none-does, operand-does, assigned_to-does}
use Rattle.c_check.proofs.Uses.{type-stays, expr-stays, GivesForms, a_pointer-by, as_assigned-by}

-- ---- of the library (7.19, 7.21, 7.22)

free-null : (c : Context) → HasType c (to.free to.null) void
free-null c = (integer Char, refl, refl, (integer Char, refl, refl, (tt, tt)))

free-pointer : (c : Context) (e a : to.Expr) (t : Ty) → HasType c e (pointer t) → (b : Bool) → is_function t ≡ b → (if b then None else Some (to.free e)) ≡ Some a
    → HasType c a void
free-pointer c e a t h true i q = absurd (none-some a q)
free-pointer c e a t h false i q =
    subst (λ x. HasType c x void) (same_Some (to.free e) a q) (t, refl, i, h)

freed-is : (f : Form) (a : to.Expr) (s : State) → IsForm s f → freed f ≡ Some a → HasType (context s) a void
freed-is (value e (pointer t)) a s h q = free-pointer (context s) e a t h.2 (is_function t) refl q
freed-is (zero t) a s h q =
    subst (λ x. HasType (context s) x void) (same_Some (to.free to.null) a q) (free-null (context s))
freed-is form.null a s h q =
    subst (λ x. HasType (context s) x void) (same_Some (to.free to.null) a q) (free-null (context s))
freed-is f a s h q = absurd (none-some a q)

freeing-does : (f : Form) (s : State) → Good s → IsForm s f → Does Quiet (freeing f) s IsForm
freeing-does f s g h =
    quietly s (operand-does f s g h)
    (λ v t good r k. given-then Quiet (freed v) _ t IsForm
    (λ e is. ends Quiet (value e void) t t IsForm good (quiet-same t) (tt, tt, freed-is v e t k is)))

putting-does : (f : Form) (s : State) → Good s → IsForm s f → Does Quiet (putting f) s IsForm
putting-does f s g h =
    quietly s (assigned_to-does (integer Int) f s g tt h)
    (λ e t good r k. ends Quiet (value (to.putchar e) (integer Int)) t t IsForm good (quiet-same t) (tt, tt, (refl, k.1)))

allocating-does : (f : Form) (s : State) → Good s → IsForm s f → Does Quiet (allocating f) s IsForm
allocating-does f s g h =
    quietly s (assigned_to-does (integer UnsignedInt) f s g tt h)
    (λ e t good r k. ends Quiet (allocation (bytes e)) t t IsForm good (quiet-same t) k.1)

pub multiplying-does : (count size : Rule Form) → GivesForms count → GivesForms size → GivesForms (multiplying count size)
multiplying-does count size c d s g =
    quietly s (as_assigned-by count c s g (integer UnsignedInt) tt)
    (λ n t good q h. quietly t (as_assigned-by size d t good (integer UnsignedInt) tt)
    (λ e u fine r k. ends Quiet (allocation (product n e)) u u IsForm fine (quiet-same u) (expr-stays t u r n (integer UnsignedInt) h.1, k.1)))

library_call-does : (l : LibraryName) (es : Exprs) (only two : Rule Form) → GivesForms only → GivesForms two → GivesForms (library_call l es only two)
library_call-does prelude.Putchar es only two d d2 s g =
    quietly s (d s g) (λ x t good r k. putting-does x t good k)
library_call-does prelude.Getchar es only two d d2 s g =
    only-then Quiet (no_arguments es) _ s IsForm (λ is. ends Quiet (value to.getchar (integer Int)) s s IsForm g (quiet-same s) (tt, tt, refl))
library_call-does prelude.Abort es only two d d2 s g =
    only-then Quiet (no_arguments es) _ s IsForm (λ is. ends Quiet (value to.abort void) s s IsForm g (quiet-same s) (tt, tt, refl))
library_call-does prelude.Malloc es only two d d2 s g =
    quietly s (d s g) (λ x t good r k. allocating-does x t good k)
library_call-does prelude.Calloc es only two d d2 s g = d2 s g
library_call-does prelude.Free es only two d d2 s g =
    quietly s (d s g) (λ x t good r k. freeing-does x t good k)
library_call-does prelude.Null es only two d d2 s g = none-does s IsForm
library_call-does prelude.Eof es only two d d2 s g = none-does s IsForm

-- ---- of a function (6.5.2.2)

-- what the expressions of a list are
abbrev pub HaveAll : Tys → State → List to.Expr → Type 0
HaveAll ts s es = HaveTypes (context s) (exprs_of es) ts

-- a rule that gives arguments for parameters
abbrev pub GivesArguments : (Tys → Rule (List to.Expr)) → Type 0
GivesArguments arguments =
    (ts : Tys) (s : State) → Good s → AreParameters s.structs ts → Does Quiet (arguments ts) s (HaveAll ts)

-- what a pointer leads to
abbrev led_to : Ty → Ty
led_to (pointer t) = t
led_to t = t

call-is : (c : Context) (e : to.Expr) (r : Ty) (ps : Tys) (es : to.Exprs) → HasType c e (pointer (function r ps)) → HaveTypes c es ps
    → HasType c (call_of (function_number e) e (function r ps) (scalar_of r) es) r
call-is c (to.function n) r ps es h k =
    (ps, subst (λ t. slice_get c.functions n ≡ Some t) (sym (ap (λ t. led_to t) h.1)) h.2, refl, k)
call-is c e r ps es h k = (ps, refl, refl, h, k)

called-does : (v : to.Expr × Ty) (arguments : Tys → Rule (List to.Expr)) (s : State) → Good s → IsPointer s v → GivesArguments arguments → Does Quiet (called v arguments) s IsForm
called-does (e, function r ps) arguments s g h d =
    quietly s (d ps s g h.0.1.2)
    (λ es t good q k. ends Quiet (value (call_of (function_number e) e (function r ps) (scalar_of r) (exprs_of es)) r) t t IsForm good (quiet-same t)
    (type-stays s t q r h.0.1.1, h.0.1.0, call-is (context t) e r ps (exprs_of es) (expr-stays s t q e (pointer (function r ps)) h.1) k))
called-does v arguments s g h d = none-does s IsForm

pub calling-does : (l : Option LibraryName) (callee : Rule Form) (es : Exprs) (only two : Rule Form) (arguments : Tys → Rule (List to.Expr))
    → GivesForms callee → GivesForms only → GivesForms two → GivesArguments arguments → GivesForms (calling l callee es only two arguments)
calling-does (Some l) callee es only two arguments c d d2 a s g = library_call-does l es only two d d2 s g
calling-does None callee es only two arguments c d d2 a s g =
    quietly s (a_pointer-by callee c s g) (λ p t good r k. called-does p arguments t good k a)
