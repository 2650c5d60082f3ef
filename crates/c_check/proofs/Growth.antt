-- What has a type keeps it where a context grows.
use Rattle.std.proofs.Common.{◌∙◌, sym, ℕ, ◌<◌, List, [], ◌∷◌, length, get_or, Option, Some, None, arith}
use Rattle.std.proofs.lemmas.List.Elements.{All-weaker}
use Rattle.std.proofs.lemmas.Option.{slice_get_within, slice_get-get_or}
use Rattle.c_types.specs.Types.{Ty, void, struct, Tys, no_types, types}
use Rattle.c_typed.specs.declared.ops.Variable.{Variable}
use Rattle.c_typed.specs.declared.ops.Variable.TheVariants.{Local, Global}
use Rattle.c_typed.specs.Tree as tree
use Rattle.c_typed.specs.Tree.{Place, Expr, Exprs, Stmt, Stmts, Made}
use Rattle.c_typed.specs.refinement.Expressions.{Context, with_literals, opened, IsVariable, IsPlace, HasType, HaveTypes, IsCondition}
use Rattle.c_typed.specs.declared.jumps.Jumps.{Jumps}
use Rattle.c_typed.specs.Statements.{IsDone, IsStep, AreNew, in_loop, in_switch, IsStatement, AreStatements}
use Rattle.c_typed.specs.Units.{IsGiven, IsMade}
use Rattle.c_check.proofs.States.{Grows}
use Rattle.c_check.proofs.Visibility.{still-on, still-off}
use Rattle.c_check.proofs.Extension.{size-kept, small-kept, type-kept, member-kept}

-- with the variables of a block, too
pub opened-grown : (c d : Context) (ns : List ℕ) → Grows c d → Grows (opened c ns) (opened d ns)
opened-grown c d ns g =
    record {
      structs = g.structs;
      globals = g.globals;
      literals = g.literals;
      functions = g.functions;
      slots = g.slots;
      visible = λ n e. still-on c.visible d.visible ns n (g.visible n) e;
      fresh = λ n l e. still-off c.visible d.visible ns n (g.fresh n l) e;
    }

-- in sizeof, too
pub literals-grown : (c d : Context) (k : ℕ) → Grows c d → Grows (with_literals c k) (with_literals d k)
literals-grown c d k g =
    record { structs = g.structs; globals = g.globals; literals = omega arith; functions = g.functions; slots = g.slots; visible = g.visible; fresh = g.fresh }

pub variable-grown : (c d : Context) → Grows c d → (v : Variable) (t : Ty) → IsVariable c v t → IsVariable d v t
variable-grown c d g (Local n) t h = (g.slots n t h.0, g.visible n h.1)
variable-grown c d g (Global n) t h = g.globals n t h

mutual
  pub place-grown : (c d : Context) → Grows c d → (p : Place) (t : Ty) → IsPlace c p t → IsPlace d p t
  place-grown c d g (tree.of v) t h = variable-grown c d g v t h
  place-grown c d g (tree.deref e) t h = (h.0, expr-grown c d g e _ h.1)
  place-grown c d g (tree.member p n m) t h =
      (place-grown c d g p (struct n) h.0, member-kept c.structs d.structs g.structs n m t h.1)

  pub expr-grown : (c d : Context) → Grows c d → (e : Expr) (t : Ty) → HasType c e t → HasType d e t
  expr-grown c d g (tree.number u n) t h = h
  expr-grown c d g tree.null t h = (h.0, h.1, h.2, type-kept c.structs d.structs g.structs t h.3)
  expr-grown c d g tree.no_function t h = (h.0, h.1, h.2, type-kept c.structs d.structs g.structs t h.3)
  expr-grown c d g (tree.function n) t h = (h.0, h.1, g.functions n h.0 h.2)
  expr-grown c d g (tree.literal n) t h = (h.0, let l = h.1 in let k = g.literals in omega arith)
  expr-grown c d g (tree.read s p) t h = (h.0, place-grown c d g p t h.1)
  expr-grown c d g (tree.decay u n p) t h = (h.0, place-grown c d g p _ h.1)
  expr-grown c d g (tree.address p) t h = (h.0, h.1, place-grown c d g p h.0 h.2)
  expr-grown c d g (tree.convert u v e) t h = (h.0, expr-grown c d g e _ h.1)
  expr-grown c d g (tree.truth s e) t h = (h.0, h.1, h.2, expr-grown c d g e h.0 h.3)
  expr-grown c d g (tree.not e) t h = (h.0, h.1, h.2, expr-grown c d g e _ h.3)
  expr-grown c d g (tree.unary op u e) t h = (h.0, h.1, expr-grown c d g e _ h.2)
  expr-grown c d g (tree.binary op u a b) t h =
      (h.0, h.1, expr-grown c d g a _ h.2, expr-grown c d g b _ h.3)
  expr-grown c d g (tree.compare op u a b) t h =
      (h.0, h.1, expr-grown c d g a _ h.2, expr-grown c d g b _ h.3)
  expr-grown c d g (tree.compare_pointers op a b) t h =
      (h.0, h.1, h.2, expr-grown c d g a _ h.3, expr-grown c d g b _ h.4)
  expr-grown c d g (tree.same_function is a b) t h =
      (h.0, h.1, h.2, expr-grown c d g a _ h.3, expr-grown c d g b _ h.4)
  expr-grown c d g (tree.difference u a b) t h =
      (h.0, small-kept c.structs d.structs g.structs u h.1, expr-grown c d g a _ h.2, expr-grown c d g b _ h.3)
  expr-grown c d g (tree.move u back a b) t h =
      (h.0, small-kept c.structs d.structs g.structs u h.1, expr-grown c d g a _ h.2, expr-grown c d g b _ h.3)
  expr-grown c d g (tree.move_by u a b) t h =
      (h.0, small-kept c.structs d.structs g.structs u h.1, expr-grown c d g a _ h.2, expr-grown c d g b _ h.3)
  expr-grown c d g (tree.and a b) t h =
      (h.0, h.1, h.2, h.3, h.4, expr-grown c d g a _ h.5, expr-grown c d g b _ h.6)
  expr-grown c d g (tree.or a b) t h =
      (h.0, h.1, h.2, h.3, h.4, expr-grown c d g a _ h.5, expr-grown c d g b _ h.6)
  expr-grown c d g (tree.choose s e a b) t h =
      (h.0, h.1, h.2, expr-grown c d g e _ h.3, expr-grown c d g a t h.4, expr-grown c d g b t h.5)
  expr-grown c d g (tree.comma a b) t h =
      (h.0, expr-grown c d g a h.0 h.1, expr-grown c d g b t h.2)
  expr-grown c d g (tree.assign s p e) t h =
      (h.0, place-grown c d g p t h.1, expr-grown c d g e t h.2)
  expr-grown c d g (tree.update old u op v p e) t h =
      (h.0, h.1, place-grown c d g p _ h.2, expr-grown c d g e _ h.3)
  expr-grown c d g (tree.advance old u back p e) t h =
      (h.0, small-kept c.structs d.structs g.structs u h.1, place-grown c d g p _ h.2, expr-grown c d g e _ h.3)
  expr-grown c d g (tree.copy n p q) t h =
      (h.0, small-kept c.structs d.structs g.structs (struct n) h.1, place-grown c d g p _ h.2, place-grown c d g q _ h.3)
  expr-grown c d g (tree.call n s es) t h =
      (h.0, g.functions n _ h.1, h.2, exprs-grown c d g es h.0 h.3)
  expr-grown c d g (tree.call_through f s e es) t h =
      (h.0, h.1, h.2, expr-grown c d g e _ h.3, exprs-grown c d g es h.0 h.4)
  expr-grown c d g (tree.putchar e) t h = (h.0, expr-grown c d g e _ h.1)
  expr-grown c d g tree.getchar t h = h
  expr-grown c d g tree.abort t h = h
  expr-grown c d g (tree.malloc u e) t h =
      (h.0, type-kept c.structs d.structs g.structs u h.1, small-kept c.structs d.structs g.structs u h.2, expr-grown c d g e _ h.3)
  expr-grown c d g (tree.calloc u a b) t h =
      (h.0, type-kept c.structs d.structs g.structs u h.1, small-kept c.structs d.structs g.structs u h.2, expr-grown c d g a _ h.3, expr-grown c d g b _ h.4)
  expr-grown c d g (tree.free e) t h = (h.0, h.1, h.2, expr-grown c d g e _ h.3)
  expr-grown c d g (tree.discard e) t h = (h.0, h.1, expr-grown c d g e h.0 h.2)
  expr-grown c d g (tree.visit p) t h =
      (h.0, h.1, small-kept c.structs d.structs g.structs (struct h.0) h.2, place-grown c d g p _ h.3)
  expr-grown c d g (tree.size_of_place n p) t h =
      let s = size-kept c.structs d.structs g.structs h.0 h.3.0 in
      (h.0, h.1, h.2, small-kept c.structs d.structs g.structs h.0 h.3, h.4 ∙ sym s.1, place-grown (with_literals c h.1) (with_literals d h.1) (literals-grown c d h.1 g) p h.0 h.5)
  expr-grown c d g (tree.size_of_value n e) t h =
      let s = size-kept c.structs d.structs g.structs h.0 h.3.0 in
      (h.0, h.1, h.2, small-kept c.structs d.structs g.structs h.0 h.3, h.4 ∙ sym s.1, expr-grown (with_literals c h.1) (with_literals d h.1) (literals-grown c d h.1 g) e h.0 h.5)
  expr-grown c d g (tree.size_of_type n) t h = h

  pub exprs-grown : (c d : Context) → Grows c d → (es : Exprs) (ts : Tys) → HaveTypes c es ts → HaveTypes d es ts
  exprs-grown c d g tree.none no_types h = h
  exprs-grown c d g (tree.more e es) (types t ts) h =
      (expr-grown c d g e t h.0, exprs-grown c d g es ts h.1)
  exprs-grown c d g tree.none (types t ts) h = elim h [ ]
  exprs-grown c d g (tree.more e es) no_types h = elim h [ ]

pub condition-grown : (c d : Context) → Grows c d → (e : Expr) → IsCondition c e → IsCondition d e
condition-grown c d g e h = (h.0, h.1, expr-grown c d g e _ h.2)

pub done-grown : (c d : Context) → Grows c d → (e : Expr) → IsDone c e → IsDone d e
done-grown c d g e h = (h.0, expr-grown c d g e h.0 h.1)

-- ---- statements

pub step-grown : (c d : Context) → Grows c d → (e : Option Expr) → IsStep c e → IsStep d e
step-grown c d g None h = tt
step-grown c d g (Some e) h = done-grown c d g e h

pub slot-grown : (c d : Context) → Grows c d → (n : ℕ) → n < length c.slots → n < length d.slots
slot-grown c d g n h =
    slice_get_within d.slots n (get_or c.slots n void) (g.slots n (get_or c.slots n void) (slice_get-get_or c.slots n void h))

pub new-grown : (c d : Context) → Grows c d → (ns : List ℕ) → AreNew c ns → AreNew d ns
new-grown c d g [] h = tt
new-grown c d g (n ∷ ns) h =
    (slot-grown c d g n h.0, g.fresh n h.0 h.1, new-grown (opened c (n ∷ [])) (opened d (n ∷ [])) (opened-grown c d (n ∷ []) g) ns h.2)

mutual
  pub statement-grown : (c d : Context) → Grows c d → (r : Ty) (j : Jumps) (s : Stmt) → IsStatement c r j s → IsStatement d r j s
  statement-grown c d g r j tree.nothing h = tt
  statement-grown c d g r j (tree.perform e) h = done-grown c d g e h
  statement-grown c d g r j (tree.fill p n bytes) h = (h.0, place-grown c d g p _ h.1)
  statement-grown c d g r j (tree.if_else e a b) h =
      (condition-grown c d g e h.0, statement-grown c d g r j a h.1, statement-grown c d g r j b h.2)
  statement-grown c d g r j (tree.loop e step s) h =
      (condition-grown c d g e h.0, step-grown c d g step h.1, statement-grown c d g r in_loop s h.2)
  statement-grown c d g r j (tree.do_while s e) h =
      (statement-grown c d g r in_loop s h.0, condition-grown c d g e h.1)
  statement-grown c d g r j (tree.switch t e slots cases groups) h =
      (h.0, expr-grown c d g e _ h.1, new-grown c d g slots h.2, h.3, h.4, statements-grown (opened c slots) (opened d slots) (opened-grown c d slots g) r (in_switch j) groups h.5)
  statement-grown c d g r j (tree.scope slots ss) h =
      (new-grown c d g slots h.0, statements-grown (opened c slots) (opened d slots) (opened-grown c d slots g) r j ss h.1)
  statement-grown c d g r j (tree.return e) h = (h.0, expr-grown c d g e r h.1)
  statement-grown c d g r j tree.return_nothing h = h
  statement-grown c d g r j tree.break h = h
  statement-grown c d g r j tree.continue h = h

  pub statements-grown : (c d : Context) → Grows c d → (r : Ty) (j : Jumps) (ss : Stmts) → AreStatements c r j ss → AreStatements d r j ss
  statements-grown c d g r j tree.done h = tt
  statements-grown c d g r j (tree.seq s ss) h =
      (statement-grown c d g r j s h.0, statements-grown c d g r j ss h.1)

-- ---- values at file scope

pub given-grown : (c d : Context) → Grows c d → (s : Stmt) → IsGiven c s → IsGiven d s
given-grown c d g (tree.perform e) h = done-grown c d g e h
given-grown c d g (tree.fill p n bytes) h = (h.0, place-grown c d g p _ h.1)
given-grown c d g tree.nothing h = absurd h
given-grown c d g (tree.if_else e a b) h = absurd h
given-grown c d g (tree.loop e step s) h = absurd h
given-grown c d g (tree.do_while s e) h = absurd h
given-grown c d g (tree.switch t e slots cases groups) h = absurd h
given-grown c d g (tree.scope slots ss) h = absurd h
given-grown c d g (tree.return e) h = absurd h
given-grown c d g tree.return_nothing h = absurd h
given-grown c d g tree.break h = absurd h
given-grown c d g tree.continue h = absurd h

pub made-grown : (c d : Context) → Grows c d → (m : Made) → IsMade c m → IsMade d m
made-grown c d g (tree.global n ss) h = (All-weaker (IsGiven c) (IsGiven d) (given-grown c d g) ss h.0, h.1)
made-grown c d g (tree.text bytes) h = tt
