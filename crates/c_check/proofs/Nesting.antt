-- Blocks nest at most twice as deep in what typing makes of a unit as the unit is high.
use Rattle.std.proofs.Common.{◌≡◌, subst, ℕ, zero, suc, ◌+◌, ◌*◌, ◌≤◌, Bool, true, false, List, [], ◌∷◌, ◌++◌, length, slice_get, Option, Some, None, Result, Ok, Err, if◌then◌else◌, arith}
use Rattle.std.specs.Prelude.{slice_set}
use Rattle.c_types.specs.Types.{Ty, is_function}
use Rattle.c_tree.specs.declared.external.ExternalForm.{ExternalForm}
use Rattle.c_tree.specs.declared.external.ExternalForm.TheVariants as forms
use Rattle.c_tree.specs.declared.external.External.{External}
use Rattle.c_tree.specs.declared.external.OuterSpecifier.{OuterSpecifier}
use Rattle.c_tree.specs.declared.initialiser.Init.{Init}
use Rattle.c_tree.specs.ExternalHeights.{form_height, external_height, unit_height}
use Rattle.c_tree.specs.Heights.{value_height, init_height, tallest_of}
use Rattle.c_tree.specs.StatementHeights.{tallest_item}
use Rattle.c_tree.specs.Statements.{Items}
use Rattle.c_tree.specs.Tree.{Declarator, Initialiser}
use Rattle.c_typed.specs.declared.ops.Variable.TheVariants as variables
use Rattle.c_typed.specs.Constants.{give_constants}
use Rattle.c_typed.specs.refinement.Nesting.{stmt_nesting, deepest, made_nesting, function_nesting, unit_nesting}
use Rattle.c_typed.specs.Tree as to
use Rattle.c_typed.specs.Tree.{Function, Stmt, Typed}
use Rattle.c_check_types.specs.Scopes.{no_names, outer as outside}
use Rattle.c_check_types.specs.State.{State}
use Rattle.c_check_types.specs.Types.{Derived, whole, lengthless, whole_type, Parameter}
use Rattle.c_declare.specs.Functions.{has_no_body, is_declared_alone, defined, with_definition, with_body, result_in}
use Rattle.c_typed.specs.Statements.{no_jumps}
use Rattle.c_check.specs.Declarations.{global_value, declares_global, names_function, declares_alone, declares, declares_one, declaration, defines_function, definition, stands_alone, form, external}
use Rattle.c_check.specs.Statements.{scope_of, nothing_done, is_missing}
use Rattle.c_check.specs.Units.{start, typed_state, going_on, externals, typing_of}
use Rattle.c_check.proofs.NestingOfForms.{nil, both, deepest-more, Fits, Any, After, Gives, any-holds, step, onward, done, ends, given-is, given-any, only_if-any, and_then-holds}
use Rattle.c_check.proofs.NestingOfTypes.{declared-any, declares_function-any, variable_type-any, enters_global-any, enters_parameters-any, outer-any}
use Rattle.c_check.proofs.NestingOfStatements.{AllIn, initialised-nests, scope-in, items-nest}

-- ---- variables at file scope

deepest-set : {A : Type 0} (nesting : A → ℕ) (xs : List A) (i : ℕ) (x : A) {m : ℕ} → deepest nesting xs ≤ m → nesting x ≤ m → deepest nesting (slice_set xs i x) ≤ m
deepest-set nesting [] i x h k = nil
deepest-set nesting (y ∷ ys) zero x h k = both k (omega arith)
deepest-set nesting (y ∷ ys) (suc i) x h k = both (omega arith) (deepest-set nesting ys i x (omega arith) k)

deepest-in : (n : ℕ) (ss : List Stmt) → AllIn n 0 ss → deepest stmt_nesting ss ≤ n
deepest-in n [] h = nil
deepest-in n (s ∷ ss) h = both h.0.0 (deepest-in n ss h.1)

module _ {m : ℕ} where
  global_value-any : (z i : ℕ) (t : Ty) (v : Option Initialiser) → value_height v ≤ m → Gives m (global_value z i t v) Any
  global_value-any z i t None h = ends tt
  global_value-any z i t (Some v) h =
      onward (initialised-nests {n = m} 0 v true (to.of (variables.Global i)) t [] nil h tt) (λ ss k.
      onward (only_if-any (give_constants ss)) (λ a p.
      record { after = λ s g. done (deepest-set made_nesting s.made z (to.global i ss) g.0 (deepest-in m ss k), g.1) tt }))

  declares_global-any : (name : List ℕ) (d : Derived) (v : Option Initialiser) → value_height v ≤ m → Gives m (declares_global name d v) Any
  declares_global-any name d v h =
      onward (variable_type-any d v) (λ t p. onward (enters_global-any name t) (λ i q.
      record { after = λ s g. (global_value-any (length s.made) i t v h).after (record s { made = s.made ++ to.global i [] ∷ [] }) (deepest-more made_nesting s.made (to.global i []) g.0 nil, g.1) }))

  names_function-any : (name : List ℕ) (t : Ty) → Gives m (names_function name t) Any
  names_function-any name t = onward (declares_function-any name t) (λ i p. ends tt)

  declares_alone-any : (name : List ℕ) (t : Ty) (v : Option Initialiser) → Gives m (declares_alone name t v) Any
  declares_alone-any name t v = onward (only_if-any (is_missing v)) (λ a p. names_function-any name t)

  declares-any : (name : List ℕ) (d : Derived) (v : Option Initialiser) → value_height v ≤ m → Gives m (declares name d v) Any
  declares-any name (lengthless t) v h = declares_global-any name (lengthless t) v h
  declares-any name (whole t) v h = behind (is_function t) where
    behind : (b : Bool) → Gives m (if b then declares_alone name t v else declares_global name (whole t) v) Any
    behind true = declares_alone-any name t v
    behind false = declares_global-any name (whole t) v h

  declares_one-any : (b : Ty) (d : Declarator) (v : Option Initialiser) → value_height v ≤ m → Gives m (declares_one b d v) Any
  declares_one-any b d v h = onward (declared-any d (whole b) []) (λ x p. onward (given-any x.name) (λ name q. declares-any name x.derived v h))

  declaration-any : (b : Ty) (xs : List Init) → tallest_of init_height xs ≤ m → Gives m (declaration b xs) Any
  declaration-any b [] h = ends tt
  declaration-any b (x ∷ xs) h = onward (declares_one-any b x.declarator x.value (omega arith)) (λ a p. declaration-any b xs (omega arith))

  -- ---- functions that are defined

  with_body-any : (i : ℕ) (body : Stmt) → stmt_nesting body ≤ m → Gives m (with_body i body) Any
  with_body-any i body h =
      record {
        after = λ s g. step ((given-is (with_definition s.functions i s.slots body)
            (and_then-holds (slice_get s.functions i) (λ f. Some (slice_set s.functions i (defined f s.slots body))) Any (λ fs. deepest function_nesting fs ≤ m) (any-holds (slice_get s.functions i))
            (λ f a. deepest-set function_nesting s.functions i (defined f s.slots body) g.1 h))).after s g) (λ fs k. record { after = λ u q. done (q.0, k) tt });
      }

  defines_function-any : (i : ℕ) (ps : List Parameter) (r : Ty) (is : Items) → 2 * tallest_item is + 1 ≤ m → Gives m (defines_function i ps r is) Any
  defines_function-any i ps r is h =
      record {
        after = λ s g. step ((enters_parameters-any ps).after (record s { scopes = no_names ∷ s.scopes }) g) (λ a p.
            onward (items-nest is r no_jumps None nothing_done (2 * tallest_item is) (omega arith) (tt, tt)) (λ d k.
            record { after = λ u q. (with_body-any i (scope_of d) (let l = scope-in (2 * tallest_item is) d k in omega (arith, l, h))).after (record u { scopes = outside u.scopes }) q }));
      }

  is_declared_alone-any : (i : ℕ) → Gives m (is_declared_alone i) Any
  is_declared_alone-any i = record { after = λ s g. (only_if-any (has_no_body (slice_get s.functions i))).after s g }

  definition-any : (b : Ty) (d : Declarator) (is : Items) → 2 * tallest_item is + 1 ≤ m → Gives m (definition b d is) Any
  definition-any b d is h =
      onward (declared-any d (whole b) []) (λ x p. onward (given-any x.name) (λ name q. onward (given-any (whole_type x.derived)) (λ t w. onward (given-any (result_in t)) (λ r z.
      onward (declares_function-any name t) (λ i k. onward (is_declared_alone-any i) (λ a l. defines_function-any i x.params r is h))))))

  -- ---- units

  form-any : (x : OuterSpecifier) (b : Ty) (f : ExternalForm) → 2 * form_height f ≤ m → Gives m (form x b f) Any
  form-any x b forms.Alone h = only_if-any (stands_alone x)
  form-any x b (forms.Declaration xs) h = declaration-any b xs (omega arith)
  form-any x b (forms.Function d is) h = definition-any b d is (omega arith)

  external-any : (x : External) → 2 * external_height x ≤ m → Gives m (external x) Any
  external-any x h =
      record { after = λ s g. (onward (outer-any x.specifier) (λ b p. form-any x.specifier b x.form (omega arith))).after (record s { at = x.at }) g }

  behind-one : (at : ℕ) (o : Option (Unit {0} × State)) (next : State → Result Typed ℕ) (u : Typed) → After m o Any → ((t : State) → Fits m t → next t ≡ Ok u → unit_nesting u ≤ m)
      → going_on at o next ≡ Ok u → unit_nesting u ≤ m
  behind-one at None next u h more e = let q : Err at ≡ Ok u = e in absurd (cc)
  behind-one at (Some (a, t)) next u h more e = more t h.holds.0 e

  externals-nest : (xs : List External) (s : State) (u : Typed) → 2 * unit_height xs ≤ m → Fits m s → externals xs s ≡ Ok u → unit_nesting u ≤ m
  externals-nest [] s u h g e = let q : typed_state s ≡ u = cc in subst (λ v. unit_nesting v ≤ m) q (both g.0 g.1)
  externals-nest (x ∷ xs) s u h g e =
      behind-one x.at (external x s) (λ t. externals xs t) u ((external-any x (omega arith)).after s g) (λ t k q. externals-nest xs t u (omega arith) k q) e

pub typing_nests : (xs : List External) (u : Typed) → typing_of xs ≡ Ok u → unit_nesting u ≤ 2 * unit_height xs
typing_nests xs u e = externals-nest xs start u (omega arith) (nil, nil) e
