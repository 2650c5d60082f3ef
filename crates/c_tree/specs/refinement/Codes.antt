-- How the logic stores a tree: a number for the form, and its parts.
use Rattle.std.proofs.Common.{◌≡◌, ℕ, List, refl, ap, arith}
use Rattle.std.specs.Coded.{Coded, coded_ℕ, coded_list, coded_bool}
use base.Stored.{Gv, gnil, gnum, gcons}
use Rattle.c_token.specs.contracts.word.IntegerType as integer_row
use Rattle.c_tree.specs.contracts.operators.UnaryOp as unary_row
use Rattle.c_tree.specs.contracts.operators.Infix as infix_row
use Rattle.c_tree.specs.contracts.operators.StepOp as step_row
use Rattle.c_tree.specs.contracts.operators.Access as access_row
use Rattle.c_tree.specs.contracts.specifier.SpecifierNode as specifier_row
use Rattle.c_tree.specs.Tree.{Expr, name, integer, character, string, paren, index, call, member, after, unary, size_of_type, cast, between, choice, Exprs, no_exprs, expr_and, Declarator, named, nothing, pointer, array, sized, wrapped, function, function_void, Parameters, no_parameters, parameter_and, Initialiser, single, braces, Initialisers, no_initialisers, initialiser_and}

abbrev coded_bytes : Coded (List ℕ)
coded_bytes = coded_list coded_ℕ

abbrev pub head : Gv → Gv
head gnil = gnil
head (gnum n) = gnil
head (gcons a b) = a

abbrev pub tail : Gv → Gv
tail gnil = gnil
tail (gnum n) = gnil
tail (gcons a b) = b

abbrev number_in : Gv → ℕ
number_in gnil = 0
number_in (gnum n) = n
number_in (gcons a b) = 0

abbrev pub form : Gv → ℕ
form g = number_in (head g)

abbrev mutual
  pub expr_code : Expr → Gv
  expr_code (name a0) = gcons (gnum 0) (coded_bytes.code a0)
  expr_code (integer a0 a1) = gcons (gnum 1) (gcons (coded_ℕ.code a0) (integer_row.the_row.coded.code a1))
  expr_code (character a0) = gcons (gnum 2) (coded_ℕ.code a0)
  expr_code (string a0) = gcons (gnum 3) (coded_bytes.code a0)
  expr_code (paren a0) = gcons (gnum 4) (expr_code a0)
  expr_code (index a0 a1) = gcons (gnum 5) (gcons (expr_code a0) (expr_code a1))
  expr_code (call a0 a1) = gcons (gnum 6) (gcons (expr_code a0) (exprs_code a1))
  expr_code (member a0 a1 a2) = gcons (gnum 7) (gcons (access_row.the_row.coded.code a0) (gcons (expr_code a1) (coded_bytes.code a2)))
  expr_code (after a0 a1) = gcons (gnum 8) (gcons (step_row.the_row.coded.code a0) (expr_code a1))
  expr_code (unary a0 a1) = gcons (gnum 9) (gcons (unary_row.the_row.coded.code a0) (expr_code a1))
  expr_code (size_of_type a0 a1) = gcons (gnum 10) (gcons (specifier_row.the_row.coded.code a0) (declarator_code a1))
  expr_code (cast a0 a1 a2) = gcons (gnum 11) (gcons (specifier_row.the_row.coded.code a0) (gcons (declarator_code a1) (expr_code a2)))
  expr_code (between a0 a1 a2) = gcons (gnum 12) (gcons (infix_row.the_row.coded.code a0) (gcons (expr_code a1) (expr_code a2)))
  expr_code (choice a0 a1 a2) = gcons (gnum 13) (gcons (expr_code a0) (gcons (expr_code a1) (expr_code a2)))

  pub exprs_code : Exprs → Gv
  exprs_code no_exprs = gcons (gnum 0) gnil
  exprs_code (expr_and a0 a1) = gcons (gnum 1) (gcons (expr_code a0) (exprs_code a1))

  pub declarator_code : Declarator → Gv
  declarator_code (named a0) = gcons (gnum 0) (coded_bytes.code a0)
  declarator_code nothing = gcons (gnum 1) gnil
  declarator_code (pointer a0) = gcons (gnum 2) (declarator_code a0)
  declarator_code (array a0) = gcons (gnum 3) (declarator_code a0)
  declarator_code (sized a0 a1) = gcons (gnum 4) (gcons (declarator_code a0) (expr_code a1))
  declarator_code (wrapped a0) = gcons (gnum 5) (declarator_code a0)
  declarator_code (function a0 a1) = gcons (gnum 6) (gcons (declarator_code a0) (parameters_code a1))
  declarator_code (function_void a0) = gcons (gnum 7) (declarator_code a0)

  pub parameters_code : Parameters → Gv
  parameters_code no_parameters = gcons (gnum 0) gnil
  parameters_code (parameter_and a0 a1 a2) = gcons (gnum 1) (gcons (specifier_row.the_row.coded.code a0) (gcons (declarator_code a1) (parameters_code a2)))

mutual
  pub expr_inj : (x y : Expr) → expr_code x ≡ expr_code y → x ≡ y
  expr_inj (name a0) (name b0) p = λ i. name (coded_bytes.inj a0 b0 (ap (λ g. tail g) p) i)
  expr_inj (integer a0 a1) (integer b0 b1) p = λ i. integer (coded_ℕ.inj a0 b0 (ap (λ g. head (tail g)) p) i) (integer_row.the_row.coded.inj a1 b1 (ap (λ g. tail (tail g)) p) i)
  expr_inj (character a0) (character b0) p = λ i. character (coded_ℕ.inj a0 b0 (ap (λ g. tail g) p) i)
  expr_inj (string a0) (string b0) p = λ i. string (coded_bytes.inj a0 b0 (ap (λ g. tail g) p) i)
  expr_inj (paren a0) (paren b0) p = λ i. paren (expr_inj a0 b0 (ap (λ g. tail g) p) i)
  expr_inj (index a0 a1) (index b0 b1) p = λ i. index (expr_inj a0 b0 (ap (λ g. head (tail g)) p) i) (expr_inj a1 b1 (ap (λ g. tail (tail g)) p) i)
  expr_inj (call a0 a1) (call b0 b1) p = λ i. call (expr_inj a0 b0 (ap (λ g. head (tail g)) p) i) (exprs_inj a1 b1 (ap (λ g. tail (tail g)) p) i)
  expr_inj (member a0 a1 a2) (member b0 b1 b2) p = λ i. member (access_row.the_row.coded.inj a0 b0 (ap (λ g. head (tail g)) p) i) (expr_inj a1 b1 (ap (λ g. head (tail (tail g))) p) i) (coded_bytes.inj a2 b2 (ap (λ g. tail (tail (tail g))) p) i)
  expr_inj (after a0 a1) (after b0 b1) p = λ i. after (step_row.the_row.coded.inj a0 b0 (ap (λ g. head (tail g)) p) i) (expr_inj a1 b1 (ap (λ g. tail (tail g)) p) i)
  expr_inj (unary a0 a1) (unary b0 b1) p = λ i. unary (unary_row.the_row.coded.inj a0 b0 (ap (λ g. head (tail g)) p) i) (expr_inj a1 b1 (ap (λ g. tail (tail g)) p) i)
  expr_inj (size_of_type a0 a1) (size_of_type b0 b1) p = λ i. size_of_type (specifier_row.the_row.coded.inj a0 b0 (ap (λ g. head (tail g)) p) i) (declarator_inj a1 b1 (ap (λ g. tail (tail g)) p) i)
  expr_inj (cast a0 a1 a2) (cast b0 b1 b2) p = λ i. cast (specifier_row.the_row.coded.inj a0 b0 (ap (λ g. head (tail g)) p) i) (declarator_inj a1 b1 (ap (λ g. head (tail (tail g))) p) i) (expr_inj a2 b2 (ap (λ g. tail (tail (tail g))) p) i)
  expr_inj (between a0 a1 a2) (between b0 b1 b2) p = λ i. between (infix_row.the_row.coded.inj a0 b0 (ap (λ g. head (tail g)) p) i) (expr_inj a1 b1 (ap (λ g. head (tail (tail g))) p) i) (expr_inj a2 b2 (ap (λ g. tail (tail (tail g))) p) i)
  expr_inj (choice a0 a1 a2) (choice b0 b1 b2) p = λ i. choice (expr_inj a0 b0 (ap (λ g. head (tail g)) p) i) (expr_inj a1 b1 (ap (λ g. head (tail (tail g))) p) i) (expr_inj a2 b2 (ap (λ g. tail (tail (tail g))) p) i)
  expr_inj x y p = absurd (let e = ap (λ g. form g) p in omega (arith, e))

  pub exprs_inj : (x y : Exprs) → exprs_code x ≡ exprs_code y → x ≡ y
  exprs_inj no_exprs no_exprs p = refl
  exprs_inj (expr_and a0 a1) (expr_and b0 b1) p = λ i. expr_and (expr_inj a0 b0 (ap (λ g. head (tail g)) p) i) (exprs_inj a1 b1 (ap (λ g. tail (tail g)) p) i)
  exprs_inj x y p = absurd (let e = ap (λ g. form g) p in omega (arith, e))

  pub declarator_inj : (x y : Declarator) → declarator_code x ≡ declarator_code y → x ≡ y
  declarator_inj (named a0) (named b0) p = λ i. named (coded_bytes.inj a0 b0 (ap (λ g. tail g) p) i)
  declarator_inj nothing nothing p = refl
  declarator_inj (pointer a0) (pointer b0) p = λ i. pointer (declarator_inj a0 b0 (ap (λ g. tail g) p) i)
  declarator_inj (array a0) (array b0) p = λ i. array (declarator_inj a0 b0 (ap (λ g. tail g) p) i)
  declarator_inj (sized a0 a1) (sized b0 b1) p = λ i. sized (declarator_inj a0 b0 (ap (λ g. head (tail g)) p) i) (expr_inj a1 b1 (ap (λ g. tail (tail g)) p) i)
  declarator_inj (wrapped a0) (wrapped b0) p = λ i. wrapped (declarator_inj a0 b0 (ap (λ g. tail g) p) i)
  declarator_inj (function a0 a1) (function b0 b1) p = λ i. function (declarator_inj a0 b0 (ap (λ g. head (tail g)) p) i) (parameters_inj a1 b1 (ap (λ g. tail (tail g)) p) i)
  declarator_inj (function_void a0) (function_void b0) p = λ i. function_void (declarator_inj a0 b0 (ap (λ g. tail g) p) i)
  declarator_inj x y p = absurd (let e = ap (λ g. form g) p in omega (arith, e))

  pub parameters_inj : (x y : Parameters) → parameters_code x ≡ parameters_code y → x ≡ y
  parameters_inj no_parameters no_parameters p = refl
  parameters_inj (parameter_and a0 a1 a2) (parameter_and b0 b1 b2) p = λ i. parameter_and (specifier_row.the_row.coded.inj a0 b0 (ap (λ g. head (tail g)) p) i) (declarator_inj a1 b1 (ap (λ g. head (tail (tail g))) p) i) (parameters_inj a2 b2 (ap (λ g. tail (tail (tail g))) p) i)
  parameters_inj x y p = absurd (let e = ap (λ g. form g) p in omega (arith, e))

abbrev pub coded_expr : Coded Expr
coded_expr = record { code = expr_code; inj = expr_inj }

abbrev pub coded_exprs : Coded Exprs
coded_exprs = record { code = exprs_code; inj = exprs_inj }

abbrev pub coded_declarator : Coded Declarator
coded_declarator = record { code = declarator_code; inj = declarator_inj }

abbrev pub coded_parameters : Coded Parameters
coded_parameters = record { code = parameters_code; inj = parameters_inj }

abbrev mutual
  pub initialiser_code : Initialiser → Gv
  initialiser_code (single a0) = gcons (gnum 0) (coded_expr.code a0)
  initialiser_code (braces a0 a1) = gcons (gnum 1) (gcons (initialisers_code a0) (coded_bool.code a1))

  pub initialisers_code : Initialisers → Gv
  initialisers_code no_initialisers = gcons (gnum 0) gnil
  initialisers_code (initialiser_and a0 a1) = gcons (gnum 1) (gcons (initialiser_code a0) (initialisers_code a1))

mutual
  pub initialiser_inj : (x y : Initialiser) → initialiser_code x ≡ initialiser_code y → x ≡ y
  initialiser_inj (single a0) (single b0) p = λ i. single (coded_expr.inj a0 b0 (ap (λ g. tail g) p) i)
  initialiser_inj (braces a0 a1) (braces b0 b1) p = λ i. braces (initialisers_inj a0 b0 (ap (λ g. head (tail g)) p) i) (coded_bool.inj a1 b1 (ap (λ g. tail (tail g)) p) i)
  initialiser_inj x y p = absurd (let e = ap (λ g. form g) p in omega (arith, e))

  pub initialisers_inj : (x y : Initialisers) → initialisers_code x ≡ initialisers_code y → x ≡ y
  initialisers_inj no_initialisers no_initialisers p = refl
  initialisers_inj (initialiser_and a0 a1) (initialiser_and b0 b1) p = λ i. initialiser_and (initialiser_inj a0 b0 (ap (λ g. head (tail g)) p) i) (initialisers_inj a1 b1 (ap (λ g. tail (tail g)) p) i)
  initialisers_inj x y p = absurd (let e = ap (λ g. form g) p in omega (arith, e))

abbrev pub coded_initialiser : Coded Initialiser
coded_initialiser = record { code = initialiser_code; inj = initialiser_inj }

abbrev pub coded_initialisers : Coded Initialisers
coded_initialisers = record { code = initialisers_code; inj = initialisers_inj }
