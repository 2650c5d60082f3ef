-- How many nodes a tree has: by it the walks over a tree end.
use Rattle.std.proofs.Common.{◌≡◌, ◌∙◌, ℕ, zero, suc, ◌+◌, ◌<◌, List, [], ◌∷◌, length, get_or, Vec, Box, Global, ap, sym, arith}
use Rattle.c_typed.specs.declared.tree.Expr.{Expr as Code}
use Rattle.c_typed.specs.declared.tree.Expr.TheVariants.{Call, CallThrough}
use Rattle.c_typed.specs.Tree as tree
use Rattle.c_typed.specs.Tree.{Place, of, deref, member, Expr, Exprs, none, more}
use Rattle.c_typed.specs.refinement.Views.{expr_of}
use Rattle.c_place.specs.refinement.Lists.{exprs_in}
use Rattle.c_place.proofs.Lists.{call_is, call_through_is}

abbrev mutual
  pub place_nodes : Place → ℕ
  place_nodes (of v) = 1
  place_nodes (deref e) = 1 + expr_nodes e
  place_nodes (member p n m) = 1 + place_nodes p

  pub expr_nodes : Expr → ℕ
  expr_nodes (tree.read s p) = 1 + place_nodes p
  expr_nodes (tree.decay u n p) = 1 + place_nodes p
  expr_nodes (tree.address p) = 1 + place_nodes p
  expr_nodes (tree.truth s a) = 1 + expr_nodes a
  expr_nodes (tree.not a) = 1 + expr_nodes a
  expr_nodes (tree.unary o u a) = 1 + expr_nodes a
  expr_nodes (tree.convert u v a) = 1 + expr_nodes a
  expr_nodes (tree.binary o u a b) = 1 + expr_nodes a + expr_nodes b
  expr_nodes (tree.compare o u a b) = 1 + expr_nodes a + expr_nodes b
  expr_nodes (tree.move u back a b) = 1 + expr_nodes a + expr_nodes b
  expr_nodes (tree.move_by u a b) = 1 + expr_nodes a + expr_nodes b
  expr_nodes (tree.difference u a b) = 1 + expr_nodes a + expr_nodes b
  expr_nodes (tree.compare_pointers o a b) = 1 + expr_nodes a + expr_nodes b
  expr_nodes (tree.same_function is a b) = 1 + expr_nodes a + expr_nodes b
  expr_nodes (tree.and a b) = 1 + expr_nodes a + expr_nodes b
  expr_nodes (tree.or a b) = 1 + expr_nodes a + expr_nodes b
  expr_nodes (tree.choose s c a b) = 1 + expr_nodes c + expr_nodes a + expr_nodes b
  expr_nodes (tree.comma a b) = 1 + expr_nodes a + expr_nodes b
  expr_nodes (tree.assign s p e) = 1 + place_nodes p + expr_nodes e
  expr_nodes (tree.update old u o v p e) = 1 + place_nodes p + expr_nodes e
  expr_nodes (tree.advance old u back p e) = 1 + place_nodes p + expr_nodes e
  expr_nodes (tree.copy n p q) = 1 + place_nodes p + place_nodes q
  expr_nodes (tree.call n s es) = 1 + exprs_nodes es
  expr_nodes (tree.call_through u s e es) = 1 + expr_nodes e + exprs_nodes es
  expr_nodes (tree.putchar e) = 1 + expr_nodes e
  expr_nodes (tree.malloc u e) = 1 + expr_nodes e
  expr_nodes (tree.calloc u a b) = 1 + expr_nodes a + expr_nodes b
  expr_nodes (tree.free e) = 1 + expr_nodes e
  expr_nodes (tree.discard e) = 1 + expr_nodes e
  expr_nodes (tree.visit p) = 1 + place_nodes p
  expr_nodes _ = 1

  pub exprs_nodes : Exprs → ℕ
  exprs_nodes none = 1
  exprs_nodes (more e es) = 1 + expr_nodes e + exprs_nodes es

-- ---- the arguments of a call, as code has them

pub call_nodes : (e : Code) (n : _) (s : _) (es : Vec Code Global) (es' : List Code) → e ≡ Call n s es → es' ≡ es.items
    → expr_nodes (expr_of e) ≡ 1 + exprs_nodes (exprs_in es')
call_nodes e n s es es' is at =
    ap (λ (x : Code). expr_nodes (expr_of x)) is ∙ ap (λ (x : Expr). expr_nodes x) (call_is n s es) ∙ ap (λ (l : List Code). 1 + exprs_nodes (exprs_in l)) (sym at)

pub call_through_nodes : (e : Code) (t : _) (s : _) (f : Box Code Global) (f' : Code) (es : Vec Code Global) (es' : List Code)
    → e ≡ CallThrough t s f es → f' ≡ f.value → es' ≡ es.items → expr_nodes (expr_of e) ≡ 1 + expr_nodes (expr_of f') + exprs_nodes (exprs_in es')
call_through_nodes e t s f f' es es' is from at =
    ap (λ (x : Code). expr_nodes (expr_of x)) is ∙ ap (λ (x : Expr). expr_nodes x) (call_through_is t s f es)
    ∙ ap (λ (l : List Code). 1 + expr_nodes (expr_of f.value) + exprs_nodes (exprs_in l)) (sym at)
    ∙ ap (λ (x : Code). 1 + expr_nodes (expr_of x) + exprs_nodes (exprs_in es')) (sym from)

-- each argument is smaller than all of them
pub one_falls : (es : List Code) (i : ℕ) (e : Code) → i < length es → e ≡ get_or es i e → expr_nodes (expr_of e) < exprs_nodes (exprs_in es)
one_falls [] i e lt p = absurd (omega arith)
one_falls (x ∷ es) zero e lt p = let same : expr_nodes (expr_of e) ≡ expr_nodes (expr_of x) = ap (λ (y : Code). expr_nodes (expr_of y)) p in omega arith
one_falls (x ∷ es) (suc i) e lt p = let more = one_falls es i e (omega arith) p in omega arith
