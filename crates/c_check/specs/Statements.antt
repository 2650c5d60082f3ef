-- Declarations in functions (C11, 6.7), statements (6.8) and the bodies of functions (6.9.1).
use Rattle.std.specs.Prelude.{ℕ, Bool, true, false, not, List, [], ◌∷◌, ◌++◌, length, nat_eq, Option, Some, None, if◌then◌else◌}
use Rattle.std.specs.List.{list_any}
use Rattle.c_types.specs.declared.integers.IntType.{IntType}
use Rattle.c_types.specs.declared.integers.IntType.TheVariants.{Int}
use Rattle.c_types.specs.Integers.{promoted}
use Rattle.c_types.specs.Types.{Ty, void, is_function}
use Rattle.c_tree.specs.declared.first.ForFirstNode.{ForFirstNode}
use Rattle.c_tree.specs.declared.first.ForFirstNode.TheVariants as firsts
use Rattle.c_tree.specs.declared.first.Jump.{Jump}
use Rattle.c_tree.specs.declared.first.Jump.TheVariants as jumps
use Rattle.c_tree.specs.declared.initialiser.Init.{Init}
use Rattle.c_tree.specs.declared.specifier.SpecifierNode.{SpecifierNode}
use Rattle.c_tree.specs.Statements as tree
use Rattle.c_tree.specs.Statements.{Statement, Items}
use Rattle.c_tree.specs.Tree.{Expr, Declarator, Initialiser}
use Rattle.c_typed.specs.declared.ops.Variable.TheVariants as variables
use Rattle.c_typed.specs.declared.tree.Case.{Case}
use Rattle.c_typed.specs.Forms.{Form, promoted_value}
use Rattle.c_typed.specs.Tree as to
use Rattle.c_typed.specs.Tree.{Stmt}
use Rattle.c_check_types.specs.State.{Rule, ◌>>=◌, ◌>>◌, pure, none, given, only_if}
use Rattle.c_check_types.specs.Scopes.{opened, closed, enters_local, declares_function}
use Rattle.c_check_types.specs.Constants.{value_at}
use Rattle.c_check_types.specs.Types.{Derived, whole, lengthless, specified, declared, constant}
use Rattle.c_typed.specs.Parts.{sequence}
use Rattle.c_declare.specs.Initials.{variable_type}
use Rattle.c_check_exprs.specs.Expressions.{a_condition, an_integer, as_assigned, performed, typing}
use Rattle.c_typed.specs.declared.jumps.Jumps.{Jumps}
use Rattle.c_typed.specs.Statements.{in_loop, in_switch}
use Rattle.c_check.specs.Initialisers.{initialised}

-- What is declared in a block, and what is done there; in a switch behind its last label. There the numbers of its labels,
-- whether one is `default`, its labels, and the groups of statements in front of the last one.
pub record Declaring : Type 0 where
  pub slots : List ℕ
  pub done : List Stmt
  pub labels : List ℕ
  pub has_default : Bool
  pub cases : List Case
  pub groups : List Stmt

abbrev pub nothing_done : Declaring
nothing_done = record { slots = []; done = []; labels = []; has_default = false; cases = []; groups = [] }

abbrev pub and_done : Declaring → Stmt → Declaring
and_done d s = record d { done = d.done ++ s ∷ [] }

abbrev pub scope_of : Declaring → Stmt
scope_of d = to.scope d.slots (sequence d.done)

-- ---- declarations

abbrev pub local_value : ℕ → Ty → Option Initialiser → List Stmt → Rule (List Stmt)
local_value n t None done = pure done
local_value n t (Some v) done = initialised v false (to.of (variables.Local n)) t done

-- a name is in scope in its own initializer (6.2.1, paragraph 7)
abbrev pub declares_variable : List ℕ → Derived → Option Initialiser → Declaring → Rule Declaring
declares_variable name d v so_far = do
  t ← variable_type d v
  n ← enters_local name t
  done ← local_value n t v so_far.done
  pure (record so_far { slots = so_far.slots ++ n ∷ []; done = done })

abbrev pub is_missing : Option Initialiser → Bool
is_missing None = true
is_missing (Some v) = false

-- functions may be declared in a block
abbrev pub declares_function_there : List ℕ → Ty → Option Initialiser → Declaring → Rule Declaring
declares_function_there name t v so_far = do
  only_if (is_missing v)
  declares_function name t
  pure so_far

abbrev pub declares : List ℕ → Derived → Option Initialiser → Declaring → Rule Declaring
declares name (whole t) v so_far =
    if is_function t then declares_function_there name t v so_far else declares_variable name (whole t) v so_far
declares name (lengthless t) v so_far = declares_variable name (lengthless t) v so_far

-- a declarator of this type, with its initializer
abbrev pub declares_one : Ty → Declarator → Option Initialiser → Declaring → Rule Declaring
declares_one b d v so_far = do
  x ← declared d (whole b) []
  name ← given x.name
  declares name x.derived v so_far

-- declarators in order, behind what is declared so far
abbrev pub declaration : Ty → List Init → Declaring → Rule Declaring
declaration b [] so_far = pure so_far
declaration b (x ∷ xs) so_far = do
  more ← declares_one b x.declarator x.value so_far
  declaration b xs more

abbrev pub declaration_of : SpecifierNode → List Init → Declaring → Rule Declaring
declaration_of s xs so_far = do
  b ← specified s
  declaration b xs so_far

-- ---- clauses of statements

-- a missing test holds (6.8.5.3)
abbrev pub test_of : Option Expr → Rule to.Expr
test_of None = pure (to.number Int 1)
test_of (Some e) = a_condition (typing e)

abbrev pub step_of : Option Expr → Rule (Option to.Expr)
step_of None = pure None
step_of (Some e) = do
  v ← performed (typing e)
  pure (Some v)

abbrev pub first_of : ForFirstNode → Declaring → Rule Declaring
first_of firsts.Nothing so_far = pure so_far
first_of (firsts.Expr e) so_far = do
  v ← performed (typing e)
  pure (and_done so_far (to.perform v))
first_of (firsts.Declaration s xs) so_far = declaration_of s xs so_far

abbrev pub in_front_of_loop : ForFirstNode → Declaring → Stmt → Stmt
in_front_of_loop firsts.Nothing d s = s
in_front_of_loop _ d s = scope_of (and_done d s)

-- results are converted as if by assignment (6.8.6.4)
abbrev pub returned : Ty → Expr → Rule Stmt
returned result e = do
  v ← as_assigned result (typing e)
  pure (to.return v)

abbrev pub is_void : Ty → Bool
is_void void = true
is_void _ = false

abbrev pub returned_nothing : Ty → Rule Stmt
returned_nothing result = do
  only_if (is_void result)
  pure to.return_nothing

abbrev pub jump_of : Jump → Stmt
jump_of jumps.Break = to.break
jump_of jumps.Continue = to.continue

-- `break` leaves a loop or a switch, `continue` belongs to a loop (6.8.6.2, 6.8.6.3)
abbrev pub may_jump : Jump → Jumps → Bool
may_jump jumps.Break j = j.breaks
may_jump jumps.Continue j = j.continues

abbrev pub jumped : Jump → Jumps → Rule Stmt
jumped x j = do
  only_if (may_jump x j)
  pure (jump_of x)

-- behind what is done so far
abbrev pub doing : Rule Stmt → Declaring → Rule Declaring
doing rule so_far = do
  s ← rule
  pure (and_done so_far s)

-- ---- the labels of a switch (6.8.1, 6.8.4.2)

-- the statements behind the last label, if there are any, are a group of their own
abbrev pub is_nothing : List Stmt → Bool
is_nothing [] = true
is_nothing (s ∷ ss) = false

abbrev pub with_group : List Stmt → List Stmt → List Stmt
with_group groups ss = if is_nothing ss then groups else groups ++ to.scope [] (sequence ss) ∷ []

abbrev pub with_case : Declaring → Option ℕ → Declaring
with_case d label =
    record d { done = []; cases = d.cases ++ record { label = label; group = length (with_group d.groups d.done) } ∷ []; groups = with_group d.groups d.done }

abbrev pub is_among : List ℕ → ℕ → Bool
is_among ns n = list_any (nat_eq n) ns

-- labels are distinct
abbrev pub with_label : Declaring → ℕ → Declaring
with_label d n = record d { labels = d.labels ++ n ∷ [] }

abbrev pub labelled : ℕ → Declaring → Rule Declaring
labelled n d = do
  only_if (not (is_among d.labels n))
  pure (with_case (with_label d n) (Some n))

abbrev pub with_default : Declaring → Declaring
with_default d = record d { has_default = true }

abbrev pub defaulted : Declaring → Rule Declaring
defaulted d = do
  only_if (not d.has_default)
  pure (with_case (with_default d) None)

-- A label is a constant that is converted to the type of the switch. Only in its braces labels stand.
abbrev pub case_label : Option IntType → Expr → Declaring → Rule Declaring
case_label None e d = none
case_label (Some t) e d = do
  c ← constant e
  n ← given (value_at t c)
  labelled n d

abbrev pub default_label : Option IntType → Declaring → Rule Declaring
default_label None d = none
default_label (Some t) d = defaulted d

-- the operand, promoted
abbrev pub switched_on : Rule Form → Rule (to.Expr × IntType)
switched_on rule = do
  v ← an_integer rule
  pure (promoted_value v, promoted v.1)

abbrev pub switch_of : to.Expr × IntType → Declaring → Stmt
switch_of v d = to.switch v.1 v.0 d.slots d.cases (sequence (with_group d.groups d.done))

-- a loop, behind what comes first, by the rule of its body
abbrev pub for_parts : ForFirstNode → Option Expr → Option Expr → Rule Stmt → Rule Stmt
for_parts a c b body = do
  d ← first_of a nothing_done
  test ← test_of c
  step ← step_of b
  s ← body
  pure (in_front_of_loop a d (to.loop test step s))

-- ---- statements: of a function with this result, by the jumps that may stand there

abbrev mutual
  pub statement : Statement → (result : Ty) → Jumps → Rule Stmt
  statement (tree.block is) r j = do
    opened
    d ← items is r j None nothing_done
    closed
    pure (scope_of d)
  statement (tree.plain e) r j = do
    v ← performed (typing e)
    pure (to.perform v)
  statement tree.empty r j = pure to.nothing
  statement (tree.if_then c a) r j = do
    test ← a_condition (typing c)
    s ← statement a r j
    pure (to.if_else test s to.nothing)
  statement (tree.if_else c a b) r j = do
    test ← a_condition (typing c)
    s ← statement a r j
    t ← statement b r j
    pure (to.if_else test s t)
  statement (tree.while_loop c a) r j = do
    test ← a_condition (typing c)
    s ← statement a r in_loop
    pure (to.loop test None s)
  statement (tree.do_while a c) r j = do
    s ← statement a r in_loop
    test ← a_condition (typing c)
    pure (to.do_while s test)
  -- a `for` is a block of its own
  statement (tree.for_loop a c b body) r j = do
    opened
    s ← for_parts a c b (statement body r in_loop)
    closed
    pure s
  statement (tree.switch e is) r j = do
    v ← switched_on (typing e)
    opened
    d ← items is r (in_switch j) (Some v.1) nothing_done
    closed
    pure (switch_of v d)
  statement tree.return_none r j = returned_nothing r
  statement (tree.return_value e) r j = returned r e
  statement (tree.jump x) r j = jumped x j

  -- what stands in a block, or in the braces of a switch on this type, behind what is done so far
  pub items : Items → (result : Ty) → Jumps → (labels : Option IntType) → Declaring → Rule Declaring
  items tree.no_items r j l so_far = pure so_far
  items (tree.statement_and s is) r j l so_far = do
    d ← doing (statement s r j) so_far
    items is r j l d
  items (tree.declaration_and s xs is) r j l so_far = do
    d ← declaration_of s xs so_far
    items is r j l d
  items (tree.case_and e is) r j l so_far = do
    d ← case_label l e so_far
    items is r j l d
  items (tree.default_and is) r j l so_far = do
    d ← default_label l so_far
    items is r j l d
