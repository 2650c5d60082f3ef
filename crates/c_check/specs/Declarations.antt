-- Declarations and definitions at file scope (C11, 6.7 and 6.9).
use Rattle.std.specs.Prelude.{ℕ, Bool, true, false, List, [], ◌∷◌, ◌++◌, length, slice_set, Option, Some, None, if◌then◌else◌}
use Rattle.c_types.specs.Types.{Ty, is_function}
use Rattle.c_tree.specs.declared.external.ExternalForm.{ExternalForm}
use Rattle.c_tree.specs.declared.external.ExternalForm.TheVariants as forms
use Rattle.c_tree.specs.declared.external.External.{External}
use Rattle.c_tree.specs.declared.external.OuterSpecifier.{OuterSpecifier}
use Rattle.c_tree.specs.declared.external.OuterSpecifier.TheVariants as outers
use Rattle.c_tree.specs.declared.initialiser.Init.{Init}
use Rattle.c_tree.specs.declared.specifier.SpecifierNode.{SpecifierNode}
use Rattle.c_tree.specs.declared.specifier.SpecifierNode.TheVariants as specifiers
use Rattle.c_tree.specs.Statements.{Items}
use Rattle.c_tree.specs.Tree.{Declarator, Initialiser}
use Rattle.c_typed.specs.declared.ops.Variable.TheVariants as variables
use Rattle.c_typed.specs.Constants.{give_constants}
use Rattle.c_typed.specs.Tree as to
use Rattle.c_typed.specs.Tree.{Stmt}
use Rattle.c_check_types.specs.State.{Rule, ◌>>=◌, ◌>>◌, pure, given, only_if, state, change}
use Rattle.c_check_types.specs.Scopes.{opened, closed, enters_global, declares_function}
use Rattle.c_check_types.specs.Types.{Derived, whole, lengthless, whole_type, Parameter, declared}
use Rattle.c_declare.specs.Functions.{enters_parameters, is_declared_alone, result_in, with_body}
use Rattle.c_declare.specs.Initials.{variable_type}
use Rattle.c_declare.specs.Structs.{outer}
use Rattle.c_check.specs.Initialisers.{initialised}
use Rattle.c_check.specs.Statements.{scope_of, items, nothing_done, is_missing}
use Rattle.c_typed.specs.Statements.{no_jumps}

-- ---- declarations at file scope

-- a variable is made at its declarator; its place among what is made
abbrev pub made_there : ℕ → Rule ℕ
made_there n = do
  s ← state
  change (λ s. record s { made = s.made ++ to.global n [] ∷ [] })
  pure (length s.made)

abbrev pub with_values : (place number : ℕ) → List Stmt → Rule (Unit {0})
with_values m n ss = change (λ s. record s { made = slice_set s.made m (to.global n ss) })

-- the values of a variable, made at this place
abbrev pub global_value : (place number : ℕ) → Ty → Option Initialiser → Rule (Unit {0})
global_value m n t None = pure tt
global_value m n t (Some v) = do
  ss ← initialised v true (to.of (variables.Global n)) t []
  only_if (give_constants ss)
  with_values m n ss

abbrev pub declares_global : List ℕ → Derived → Option Initialiser → Rule (Unit {0})
declares_global name d v = do
  t ← variable_type d v
  n ← enters_global name t
  m ← made_there n
  global_value m n t v

abbrev pub names_function : List ℕ → Ty → Rule (Unit {0})
names_function name t = do
  declares_function name t
  pure tt

abbrev pub declares_alone : List ℕ → Ty → Option Initialiser → Rule (Unit {0})
declares_alone name t v = do
  only_if (is_missing v)
  names_function name t

abbrev pub declares : List ℕ → Derived → Option Initialiser → Rule (Unit {0})
declares name (whole t) v = if is_function t then declares_alone name t v else declares_global name (whole t) v
declares name (lengthless t) v = declares_global name (lengthless t) v

abbrev pub declares_one : Ty → Declarator → Option Initialiser → Rule (Unit {0})
declares_one b d v = do
  x ← declared d (whole b) []
  name ← given x.name
  declares name x.derived v

abbrev pub declaration : Ty → List Init → Rule (Unit {0})
declaration b [] = pure tt
declaration b (x ∷ xs) = do
  declares_one b x.declarator x.value
  declaration b xs

-- ---- the definition of a function (6.9.1)

-- the body of a function that is defined
abbrev pub defines_function : ℕ → List Parameter → (result : Ty) → Items → Rule (Unit {0})
defines_function n ps r is = do
  opened
  enters_parameters ps
  d ← items is r no_jumps None nothing_done
  closed
  with_body n (scope_of d)

abbrev pub definition : Ty → Declarator → Items → Rule (Unit {0})
definition b d is = do
  x ← declared d (whole b) []
  name ← given x.name
  t ← given (whole_type x.derived)
  r ← given (result_in t)
  n ← declares_function name t
  is_declared_alone n
  defines_function n x.params r is

-- ---- external declarations

abbrev pub names_tag : SpecifierNode → Bool
names_tag (specifiers.Struct tag) = true
names_tag (specifiers.Enum tag) = true
names_tag _ = false

abbrev pub stands_alone : OuterSpecifier → Bool
stands_alone (outers.Plain s) = names_tag s
stands_alone (outers.Struct tag ps) = true
stands_alone (outers.Enum tag xs comma) = true

-- a specifier alone is a struct's or an enumerated type's (6.7, paragraph 2)
abbrev pub form : OuterSpecifier → Ty → ExternalForm → Rule (Unit {0})
form s b forms.Alone = only_if (stands_alone s)
form s b (forms.Declaration xs) = declaration b xs
form s b (forms.Function d is) = definition b d is

abbrev pub external : External → Rule (Unit {0})
external x = do
  change (λ s. record s { at = x.at })
  b ← outer x.specifier
  form x.specifier b x.form
