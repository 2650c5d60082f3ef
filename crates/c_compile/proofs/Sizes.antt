-- A `sizeof`, whatever it stands before.
use Rattle.std.proofs.Common.{◌≡◌, ℕ, ◌<◌, ◌^◌, pos, subst, sym, arith}
use Rattle.c_types.specs.declared.integers.IntType.TheVariants.{UnsignedInt}
use Rattle.c_typed.specs.declared.tree.Expr.{Expr}
use Rattle.c_typed.specs.declared.tree.Expr.TheVariants.{SizeOf}
use Rattle.c_typed.specs.declared.tree.Sized.{Sized}
use Rattle.c_typed.specs.declared.tree.Sized.TheVariants.{Place', Value', Nothing}
use Rattle.c_typed.specs.Tree as tree
use Rattle.c_typed.specs.refinement.Views.{expr_of, place_of, sized_of}
use Rattle.c_meaning.specs.Integers.{bits_of}

of_each : (P : tree.Expr → Type 0) (n : ℕ) (o : Sized)
    → ((p : tree.Place) → P (tree.size_of_place n p)) → ((e : tree.Expr) → P (tree.size_of_value n e)) → P (tree.size_of_type n) → P (sized_of o n)
of_each P n (Place' p b) f g h = f (place_of b)
of_each P n (Value' p e) f g h = g (expr_of e)
of_each P n Nothing f g h = h

pub at_size : (P : tree.Expr → Type 0) (e : Expr) (n : ℕ) (o : Sized) → e ≡ SizeOf n o
    → ((p : tree.Place) → P (tree.size_of_place n p)) → ((e : tree.Expr) → P (tree.size_of_value n e)) → P (tree.size_of_type n) → P (expr_of e)
at_size P e n o is f g h = subst (λ (x : Expr). P (expr_of x)) (sym is) (of_each P n o f g h)

pub own_bits : (n : ℕ) → n < 2 ^ 32 → bits_of UnsignedInt (pos n) ≡ n
own_bits n h = omega arith
