-- What a statement makes nests at most twice as deep as the statement is high, and one less where it continues a loop.
use Rattle.std.proofs.Common.{ℕ, ◌+◌, ◌*◌, max, ◌≤◌, ◌||◌, not, Bool, true, false, List, [], ◌∷◌, ◌++◌, slice_get, Option, Some, None, if◌then◌else◌, arith}
use Rattle.std.specs.Prelude.{nat_lt}
use Rattle.c_types.specs.declared.integers.IntType.{IntType}
use Rattle.c_types.specs.Layout.{members_of}
use Rattle.c_types.specs.Types.{Ty, integer, struct, pointer, array, is_function, scalar_of}
use Rattle.c_tree.specs.declared.first.ForFirstNode.{ForFirstNode}
use Rattle.c_tree.specs.declared.first.ForFirstNode.TheVariants as firsts
use Rattle.c_tree.specs.declared.first.Jump.{Jump}
use Rattle.c_tree.specs.declared.first.Jump.TheVariants as jumps
use Rattle.c_tree.specs.declared.initialiser.Init.{Init}
use Rattle.c_tree.specs.declared.specifier.SpecifierNode.{SpecifierNode}
use Rattle.c_tree.specs.Heights.{expr_height, initialiser_height, tallest_initialiser, value_height, init_height, tallest_of}
use Rattle.c_tree.specs.StatementHeights.{clause_height, first_height, statement_height, tallest_item}
use Rattle.c_tree.specs.Statements as tree
use Rattle.c_tree.specs.Statements.{Statement, Items}
use Rattle.c_tree.specs.Tree as written
use Rattle.c_tree.specs.Tree.{Expr, Declarator, Initialiser, Initialisers}
use Rattle.c_typed.specs.declared.ops.Variable.TheVariants as variables
use Rattle.c_typed.specs.refinement.Nesting.{place_nesting, expr_nesting, continues, any_continues, one_if, step_nesting, stmt_nesting, stmts_nesting}
use Rattle.c_typed.specs.Parts.{element_place, sequence}
use Rattle.c_typed.specs.Tree as to
use Rattle.c_typed.specs.Tree.{Place, Stmt}
use Rattle.c_check_types.specs.Constants.{value_at}
use Rattle.c_check_types.specs.Scopes.{no_names}
use Rattle.c_check_types.specs.State.{Rule}
use Rattle.c_check_types.specs.TypeEquality.{same_type}
use Rattle.c_check_types.specs.Types.{Derived, whole, lengthless}
use Rattle.c_declare.specs.Initials.{bare, is_address, fills}
use Rattle.c_check_exprs.specs.Expressions.{typing}
use Rattle.c_typed.specs.declared.jumps.Jumps.{Jumps}
use Rattle.c_typed.specs.Statements.{in_loop, in_switch}
use Rattle.c_check.specs.Initialisers.{is_known, pointer_constant, static_value, leaf, string_value, scalar_value, single_value, member_type, inside, elements, members, from_place, copied_from, initialised}
use Rattle.c_check.specs.Statements.{Declaring, nothing_done, scope_of, local_value, declares_variable, is_missing, declares_function_there, declares, declares_one, declaration, declaration_of, test_of, step_of, first_of, in_front_of_loop, returned, is_void, returned_nothing, jump_of, may_jump, is_nothing, with_group, is_among, labelled, defaulted, case_label, default_label, switched_on, switch_of, for_parts, statement, items}
use Rattle.c_check.proofs.NestingOfForms.{nil, both, Any, Holds, Gives, any-holds, step, onward, done, ends, nothing, given-is, given-any, only_if-any, size_of-any, and_then-holds, ExprIn, ValueIn, assigned_to-nests, promoted-in}
use Rattle.c_check.proofs.NestingOfTypes.{specified-any, declared-any, constant-any, enters_local-any, declares_function-any, variable_type-any}
use Rattle.c_check.proofs.NestingOfExpressions.{an_integer-nests, a_place-nests, a_condition-nests, as_assigned-nests, performed-nests, typing-nests}

-- ---- statements in order

-- a statement nests at most so deep, and continues a loop at most so often
abbrev pub StmtIn : (n c : ℕ) → Stmt → Type 0
StmtIn n c s = (stmt_nesting s ≤ n) × (one_if (continues s) ≤ c)

abbrev pub AllIn : (n c : ℕ) → List Stmt → Type 0
AllIn n c [] = Unit {0}
AllIn n c (s ∷ ss) = StmtIn n c s × AllIn n c ss

one_if-low : (b : Bool) → one_if b ≤ 1
one_if-low true = omega arith
one_if-low false = omega arith

either-in : {c : ℕ} (a b : Bool) → one_if a ≤ c → one_if b ≤ c → one_if (a || b) ≤ c
either-in true b h k = h
either-in false b h k = k

more-in : (n c : ℕ) (ss : List Stmt) (s : Stmt) → AllIn n c ss → StmtIn n c s → AllIn n c (ss ++ s ∷ [])
more-in n c [] s h k = (k, tt)
more-in n c (t ∷ ts) s h k = (h.0, more-in n c ts s h.1 k)

sequence-in : (n c : ℕ) (ss : List Stmt) → AllIn n c ss → (stmts_nesting (sequence ss) ≤ n) × (one_if (any_continues (sequence ss)) ≤ c)
sequence-in n c [] h = (nil, nil)
sequence-in n c (s ∷ ss) h =
    let k = sequence-in n c ss h.1 in (both h.0.0 k.0, either-in (continues s) (any_continues (sequence ss)) h.0.1 k.1)

-- with one more where it continues a loop
abbrev pub StmtFits : ℕ → Stmt → Type 0
StmtFits n s = stmt_nesting s + one_if (continues s) ≤ n

low-in : (n : ℕ) (s : Stmt) → StmtFits n s → StmtIn n 1 s
low-in n s h = (omega arith, one_if-low (continues s))

-- ---- initializers (6.7.9)

bare-low : (e : Expr) → expr_height (bare e) ≤ expr_height e
bare-low (written.paren e) = let h = bare-low e in omega (arith, h)
bare-low e = omega arith

module _ {m n : ℕ} where
  pointer_constant-nests : (t : Ty) (e : Expr) → expr_height e ≤ n → Gives m (pointer_constant t e) (ExprIn n)
  pointer_constant-nests t e h =
      onward (only_if-any (is_address e)) (λ a p. onward (typing-nests e n h) (λ x k. onward (only_if-any (is_known e x)) (λ b q. assigned_to-nests (pointer t) x k)))

  static_value-nests : (t : Ty) (e : Expr) → expr_height e ≤ n → Gives m (static_value t e) (ExprIn n)
  static_value-nests (integer t) e h = onward (constant-any e) (λ c p. onward (given-any (value_at t c)) (λ k q. ends nil))
  static_value-nests (pointer t) e h = pointer_constant-nests t (bare e) (omega (arith, bare-low e, h))
  static_value-nests t e h = nothing

  leaf-nests : (static : Bool) (t : Ty) (e : Expr) → expr_height e ≤ n → Gives m (leaf static t e) (ExprIn n)
  leaf-nests true t e h = static_value-nests t e h
  leaf-nests false t e h = as_assigned-nests (typing-nests e n h) t

module _ {m : ℕ} where
  member_type-any : (k i : ℕ) → Gives m (member_type k i) Any
  member_type-any k i = record { after = λ s g. (given-any (slice_get (members_of s.structs (struct k)) i)).after s g }

module _ {n : ℕ} (c : ℕ) where
  string-in : (p : Place) (t : Ty) (k : ℕ) (e : Expr) (so_far : List Stmt) → place_nesting p ≤ n → AllIn n c so_far → Holds (string_value p t k e so_far) (AllIn n c)
  string-in p t k e so_far h l =
      and_then-holds (fills t k e) (λ bytes. Some (so_far ++ to.fill p k bytes ∷ [])) Any (AllIn n c) (any-holds (fills t k e)) (λ bytes a. more-in n c so_far (to.fill p k bytes) l (h, nil))

module _ {m n : ℕ} (c : ℕ) where
  scalar_value-nests : (static : Bool) (p : Place) (t : Ty) (e : Expr) (so_far : List Stmt) → place_nesting p ≤ n → expr_height e ≤ n → AllIn n c so_far
      → Gives m (scalar_value static p t e so_far) (AllIn n c)
  scalar_value-nests static p t e so_far h k l =
      onward (given-any (scalar_of t)) (λ s q. onward (leaf-nests static t e k) (λ v w. ends (more-in n c so_far (to.perform (to.assign s p v)) l (both h w, nil))))

  single_value-nests : (static : Bool) (p : Place) (t : Ty) (e : Expr) (so_far : List Stmt) → place_nesting p ≤ n → expr_height e ≤ n → AllIn n c so_far
      → Gives m (single_value static p t e so_far) (AllIn n c)
  single_value-nests static p (array t k) e so_far h i l = given-is (string_value p t k e so_far) (string-in c p t k e so_far h l)
  single_value-nests static p t e so_far h i l = scalar_value-nests static p t e so_far h i l

  mutual
    inside-nests : (v : Initialiser) (static : Bool) (p : Place) (t : Ty) (so_far : List Stmt) → place_nesting p ≤ n → initialiser_height v ≤ n → AllIn n c so_far
        → Gives m (inside v static p t so_far) (AllIn n c)
    inside-nests (written.single e) static p t so_far h k l = single_value-nests static p t e so_far h k l
    inside-nests (written.braces vs comma) static p (array t i) so_far h k l = elements-nest vs static p t i 0 so_far h (omega arith) l
    inside-nests (written.braces vs comma) static p (struct i) so_far h k l = members-nest vs static p i 0 so_far h (omega arith) l
    inside-nests (written.braces vs comma) static p t so_far h k l = nothing

    elements-nest : (vs : Initialisers) (static : Bool) (p : Place) (t : Ty) (z i : ℕ) (so_far : List Stmt) → place_nesting p ≤ n → tallest_initialiser vs ≤ n → AllIn n c so_far
        → Gives m (elements vs static p t z i so_far) (AllIn n c)
    elements-nest written.no_initialisers static p t z i so_far h k l = ends l
    elements-nest (written.initialiser_and v vs) static p t z i so_far h k l =
        onward (onward (only_if-any (nat_lt i z)) (λ a q. inside-nests v static (element_place p t z i) t so_far (both h nil) (omega arith) l))
        (λ ss w. elements-nest vs static p t z (i + 1) ss h (omega arith) w)

    members-nest : (vs : Initialisers) (static : Bool) (p : Place) (z i : ℕ) (so_far : List Stmt) → place_nesting p ≤ n → tallest_initialiser vs ≤ n → AllIn n c so_far
        → Gives m (members vs static p z i so_far) (AllIn n c)
    members-nest written.no_initialisers static p z i so_far h k l = ends l
    members-nest (written.initialiser_and v vs) static p z i so_far h k l =
        onward (onward (member_type-any z i) (λ t q. inside-nests v static (to.member p z i) t so_far h (omega arith) l))
        (λ ss w. members-nest vs static p z (i + 1) ss h (omega arith) w)

  from_place-nests : (z : ℕ) (p q : Place) (t : Ty) (so_far : List Stmt) → place_nesting p ≤ n → place_nesting q ≤ n → AllIn n c so_far → Gives m (from_place z p (q, t) so_far) (AllIn n c)
  from_place-nests z p q t so_far h k l =
      onward (only_if-any (same_type (struct z) t)) (λ a r. onward (size_of-any t) (λ i w. ends (more-in n c so_far (to.perform (to.copy z p q)) l (both h k, nil))))

  copied_from-nests : (z : ℕ) (p : Place) (e : Expr) (so_far : List Stmt) → place_nesting p ≤ n → expr_height e ≤ n → AllIn n c so_far → Gives m (copied_from z p e so_far) (AllIn n c)
  copied_from-nests z p e so_far h k l = onward (a_place-nests (typing-nests e n k)) (λ q w. from_place-nests z p q.0 q.1 so_far h w l)

  pub initialised-nests : (v : Initialiser) (static : Bool) (p : Place) (t : Ty) (so_far : List Stmt) → place_nesting p ≤ n → initialiser_height v ≤ n → AllIn n c so_far
      → Gives m (initialised v static p t so_far) (AllIn n c)
  initialised-nests (written.single e) false p (struct z) so_far h k l = copied_from-nests z p e so_far h k l
  initialised-nests v static p t so_far h k l = inside-nests v static p t so_far h k l

-- ---- declarations in a function (6.7)

abbrev pub DeclIn : (n c : ℕ) → Declaring → Type 0
DeclIn n c d = AllIn n c d.done × AllIn n c d.groups

module _ {m n : ℕ} (c : ℕ) where
  local_value-nests : (k : ℕ) (t : Ty) (v : Option Initialiser) (so_far : List Stmt) → value_height v ≤ n → AllIn n c so_far → Gives m (local_value k t v so_far) (AllIn n c)
  local_value-nests k t None so_far h l = ends l
  local_value-nests k t (Some v) so_far h l = initialised-nests c v false (to.of (variables.Local k)) t so_far nil h l

  declares_variable-nests : (name : List ℕ) (d : Derived) (v : Option Initialiser) (so_far : Declaring) → value_height v ≤ n → DeclIn n c so_far
      → Gives m (declares_variable name d v so_far) (DeclIn n c)
  declares_variable-nests name d v so_far h l =
      onward (variable_type-any d v) (λ t p. onward (enters_local-any name t) (λ k q. onward (local_value-nests k t v so_far.done h l.0) (λ ss w. ends (w, l.1))))

  declares_function_there-nests : (name : List ℕ) (t : Ty) (v : Option Initialiser) (so_far : Declaring) → DeclIn n c so_far → Gives m (declares_function_there name t v so_far) (DeclIn n c)
  declares_function_there-nests name t v so_far l = onward (only_if-any (is_missing v)) (λ a p. onward (declares_function-any name t) (λ k q. ends l))

  declares-nests : (name : List ℕ) (d : Derived) (v : Option Initialiser) (so_far : Declaring) → value_height v ≤ n → DeclIn n c so_far → Gives m (declares name d v so_far) (DeclIn n c)
  declares-nests name (lengthless t) v so_far h l = declares_variable-nests name (lengthless t) v so_far h l
  declares-nests name (whole t) v so_far h l = behind (is_function t) where
    behind : (b : Bool) → Gives m (if b then declares_function_there name t v so_far else declares_variable name (whole t) v so_far) (DeclIn n c)
    behind true = declares_function_there-nests name t v so_far l
    behind false = declares_variable-nests name (whole t) v so_far h l

  declares_one-nests : (b : Ty) (d : Declarator) (v : Option Initialiser) (so_far : Declaring) → value_height v ≤ n → DeclIn n c so_far → Gives m (declares_one b d v so_far) (DeclIn n c)
  declares_one-nests b d v so_far h l =
      onward (declared-any d (whole b) []) (λ x p. onward (given-any x.name) (λ name q. declares-nests name x.derived v so_far h l))

  declaration-nests : (b : Ty) (xs : List Init) (so_far : Declaring) → tallest_of init_height xs ≤ n → DeclIn n c so_far → Gives m (declaration b xs so_far) (DeclIn n c)
  declaration-nests b [] so_far h l = ends l
  declaration-nests b (x ∷ xs) so_far h l =
      onward (declares_one-nests b x.declarator x.value so_far (omega arith) l) (λ d w. declaration-nests b xs d (omega arith) w)

  declaration_of-nests : (x : SpecifierNode) (xs : List Init) (so_far : Declaring) → tallest_of init_height xs ≤ n → DeclIn n c so_far → Gives m (declaration_of x xs so_far) (DeclIn n c)
  declaration_of-nests x xs so_far h l = onward (specified-any x) (λ b p. declaration-nests b xs so_far h l)

  -- ---- clauses of statements

  first-nests : (a : ForFirstNode) (so_far : Declaring) → first_height a ≤ n → DeclIn n c so_far → Gives m (first_of a so_far) (DeclIn n c)
  first-nests firsts.Nothing so_far h l = ends l
  first-nests (firsts.Expr e) so_far h l = onward (performed-nests (typing-nests e n h)) (λ v k. ends (more-in n c so_far.done (to.perform v) l.0 (k, nil), l.1))
  first-nests (firsts.Declaration x xs) so_far h l = declaration_of-nests x xs so_far h l

module _ {m n : ℕ} where
  test-nests : (o : Option Expr) → clause_height o ≤ n → Gives m (test_of o) (ExprIn n)
  test-nests None h = ends nil
  test-nests (Some e) h = a_condition-nests (typing-nests e n h)

  step-nests : (o : Option Expr) → clause_height o ≤ n → Gives m (step_of o) (λ v. step_nesting v ≤ n)
  step-nests None h = ends nil
  step-nests (Some e) h = onward (performed-nests (typing-nests e n h)) (λ v k. ends k)

  returned-nests : (r : Ty) (e : Expr) → expr_height e ≤ n → Gives m (returned r e) (StmtFits n)
  returned-nests r e h = onward (as_assigned-nests (typing-nests e n h) r) (λ v k. ends (omega arith))

  returned_nothing-nests : (r : Ty) → Gives m (returned_nothing r) (StmtFits n)
  returned_nothing-nests r = onward (only_if-any (is_void r)) (λ a p. ends (omega arith))

  switched-nests : (e : Expr) → expr_height e ≤ n → Gives m (switched_on (typing e)) (ValueIn n)
  switched-nests e h = onward (an_integer-nests (typing-nests e n h)) (λ v k. ends (promoted-in v k))

-- a loop behind what comes first
in-front : (n : ℕ) (a : ForFirstNode) (d : Declaring) (s : Stmt) → AllIn n 0 d.done → StmtIn n 0 s → StmtFits n (in_front_of_loop a d s)
in-front n firsts.Nothing d s h k = omega arith
in-front n (firsts.Expr e) d s h k = let l = sequence-in n 0 (d.done ++ s ∷ []) (more-in n 0 d.done s h k) in omega (arith, l)
in-front n (firsts.Declaration x xs) d s h k = let l = sequence-in n 0 (d.done ++ s ∷ []) (more-in n 0 d.done s h k) in omega (arith, l)

jump-in : (x : Jump) (n : ℕ) → 2 ≤ n → StmtFits n (jump_of x)
jump-in jumps.Break n h = omega arith
jump-in jumps.Continue n h = omega arith

-- a loop with its test and its step
loop-in : (n : ℕ) (e : to.Expr) (o : Option to.Expr) (s : Stmt) → expr_nesting e ≤ n → step_nesting o ≤ n → StmtFits n s → StmtIn (n + 2) 0 (to.loop e o s)
loop-in n e o s h k l = (omega arith, nil)

module _ {m : ℕ} where
  for-nests : (n : ℕ) (a : ForFirstNode) (o p : Option Expr) (rule : Rule Stmt) → first_height a ≤ n → clause_height o ≤ n → clause_height p ≤ n → Gives m rule (StmtFits n)
      → Gives m (for_parts a o p rule) (StmtFits (n + 2))
  for-nests n a o p rule h k l does =
      onward (first-nests {n = n + 2} 0 a nothing_done (omega arith) (tt, tt)) (λ d w. onward (test-nests {n = n} o k) (λ e i. onward (step-nests {n = n} p l) (λ v j.
      onward does (λ s z. ends (in-front (n + 2) a d (to.loop e v s) w.0 (loop-in n e v s i j z))))))

-- ---- the labels of a switch (6.8.1, 6.8.4.2)

group-in : (n c : ℕ) (groups ss : List Stmt) → AllIn n c groups → AllIn n c ss → AllIn n c (with_group groups ss)
group-in n c groups ss h k = behind (is_nothing ss) where
  behind : (b : Bool) → AllIn n c (if b then groups else groups ++ to.scope [] (sequence ss) ∷ [])
  behind true = h
  behind false = more-in n c groups (to.scope [] (sequence ss)) h (sequence-in n c ss k)

module _ {m n : ℕ} (c : ℕ) where
  labelled-nests : (k : ℕ) (d : Declaring) → DeclIn n c d → Gives m (labelled k d) (DeclIn n c)
  labelled-nests k d h = onward (only_if-any (not (is_among d.labels k))) (λ a p. ends (tt, group-in n c d.groups d.done h.1 h.0))

  defaulted-nests : (d : Declaring) → DeclIn n c d → Gives m (defaulted d) (DeclIn n c)
  defaulted-nests d h = onward (only_if-any (not d.has_default)) (λ a p. ends (tt, group-in n c d.groups d.done h.1 h.0))

  case-nests : (l : Option IntType) (e : Expr) (d : Declaring) → DeclIn n c d → Gives m (case_label l e d) (DeclIn n c)
  case-nests None e d h = nothing
  case-nests (Some t) e d h = onward (constant-any e) (λ x p. onward (given-any (value_at t x)) (λ k q. labelled-nests k d h))

  default-nests : (l : Option IntType) (d : Declaring) → DeclIn n c d → Gives m (default_label l d) (DeclIn n c)
  default-nests None d h = nothing
  default-nests (Some t) d h = defaulted-nests d h

pub scope-in : (n : ℕ) (d : Declaring) → DeclIn n 1 d → StmtFits (n + 1) (scope_of d)
scope-in n d h = let k = sequence-in n 1 d.done h.0 in omega (arith, k)

switch-in : (n : ℕ) (v : to.Expr × IntType) (d : Declaring) → ValueIn n v → DeclIn n 1 d → StmtFits (n + 2) (switch_of v d)
switch-in n v d h k =
    let l = sequence-in n 1 (with_group d.groups d.done) (group-in n 1 d.groups d.done k.1 k.0) in omega (arith, l, h)

-- an `if`
if-in : (n : ℕ) (e : to.Expr) (s t : Stmt) → expr_nesting e ≤ n → StmtFits n s → StmtFits n t → StmtFits (n + 2) (to.if_else e s t)
if-in n e s t h k l = let o = one_if-low (continues s || continues t) in omega (arith, o, h, k, l)

do-in : (n : ℕ) (s : Stmt) (e : to.Expr) → StmtFits n s → expr_nesting e ≤ n → StmtFits (n + 2) (to.do_while s e)
do-in n s e h k = omega arith

wide : (n o : ℕ) (s : Stmt) → n ≤ o → StmtFits n s → StmtFits o s
wide n o s h k = omega (arith, h, k)

-- ---- statements

module _ {m : ℕ} where
  mutual
    pub statement-nests : (x : Statement) (r : Ty) (j : Jumps) (n : ℕ) → 2 * statement_height x ≤ n → Gives m (statement x r j) (StmtFits n)
    statement-nests (tree.block is) r j n h =
        let k = 2 * tallest_item is in
        record {
          after = λ s g. step ((items-nest is r j None nothing_done k (omega arith) (tt, tt)).after (record s { scopes = no_names ∷ s.scopes }) g) (λ d l.
              record { after = λ u q. done q (wide (k + 1) n (scope_of d) (omega arith) (scope-in k d l)) });
        }
    statement-nests (tree.plain e) r j n h = onward (performed-nests (typing-nests e n (omega arith))) (λ v k. ends (omega arith))
    statement-nests tree.empty r j n h = ends (omega arith)
    statement-nests (tree.if_then c a) r j n h =
        let k = 2 * max (expr_height c) (statement_height a) in
        onward (a_condition-nests (typing-nests c k (omega arith))) (λ e p. onward (statement-nests a r j k (omega arith)) (λ s q.
        ends (wide (k + 2) n (to.if_else e s to.nothing) (omega arith) (if-in k e s to.nothing p q (omega arith)))))
    statement-nests (tree.if_else c a b) r j n h =
        let k = 2 * max (max (expr_height c) (statement_height a)) (statement_height b) in
        onward (a_condition-nests (typing-nests c k (omega arith))) (λ e p. onward (statement-nests a r j k (omega arith)) (λ s q. onward (statement-nests b r j k (omega arith)) (λ t w.
        ends (wide (k + 2) n (to.if_else e s t) (omega arith) (if-in k e s t p q w)))))
    statement-nests (tree.while_loop c a) r j n h =
        let k = 2 * max (expr_height c) (statement_height a) in
        onward (a_condition-nests (typing-nests c k (omega arith))) (λ e p. onward (statement-nests a r in_loop k (omega arith)) (λ s q.
        ends (let l = loop-in k e None s p nil q in omega (arith, l, h))))
    statement-nests (tree.do_while a c) r j n h =
        let k = 2 * max (statement_height a) (expr_height c) in
        onward (statement-nests a r in_loop k (omega arith)) (λ s p. onward (a_condition-nests (typing-nests c k (omega arith))) (λ e q.
        ends (wide (k + 2) n (to.do_while s e) (omega arith) (do-in k s e p q))))
    statement-nests (tree.for_loop a c b body) r j n h =
        let k = 2 * max (max (max (first_height a) (clause_height c)) (clause_height b)) (statement_height body) in
        record {
          after = λ s g. step ((for-nests k a c b (statement body r in_loop) (omega arith) (omega arith) (omega arith) (statement-nests body r in_loop k (omega arith))).after (record s { scopes = no_names ∷ s.scopes }) g) (λ x l.
              record { after = λ u q. done q (wide (k + 2) n x (omega arith) l) });
        }
    statement-nests (tree.switch e is) r j n h =
        let k = 2 * max (expr_height e) (tallest_item is) in
        onward (switched-nests {n = k} e (omega arith)) (λ v p.
        record {
          after = λ s g. step ((items-nest is r (in_switch j) (Some v.1) nothing_done k (omega arith) (tt, tt)).after (record s { scopes = no_names ∷ s.scopes }) g) (λ d l.
              record { after = λ u q. done q (wide (k + 2) n (switch_of v d) (omega arith) (switch-in k v d p l)) });
        })
    statement-nests tree.return_none r j n h = returned_nothing-nests r
    statement-nests (tree.return_value e) r j n h = returned-nests r e (omega arith)
    statement-nests (tree.jump x) r j n h = onward (only_if-any (may_jump x j)) (λ a p. ends (jump-in x n h))

    pub items-nest : (is : Items) (r : Ty) (j : Jumps) (l : Option IntType) (d : Declaring) (n : ℕ) → 2 * tallest_item is ≤ n → DeclIn n 1 d → Gives m (items is r j l d) (DeclIn n 1)
    items-nest tree.no_items r j l d n h k = ends k
    items-nest (tree.statement_and s is) r j l d n h k =
        onward (onward (statement-nests s r j n (omega arith)) (λ t p. ends (more-in n 1 d.done t k.0 (low-in n t p), k.1))) (λ e q. items-nest is r j l e n (omega arith) q)
    items-nest (tree.declaration_and x xs is) r j l d n h k =
        onward (declaration_of-nests 1 x xs d (omega arith) k) (λ e q. items-nest is r j l e n (omega arith) q)
    items-nest (tree.case_and e is) r j l d n h k = onward (case-nests 1 l e d k) (λ x q. items-nest is r j l x n (omega arith) q)
    items-nest (tree.default_and is) r j l d n h k = onward (default-nests 1 l d k) (λ x q. items-nest is r j l x n (omega arith) q)
