-- The grammar of C (C11, 6.5 to 6.9): how a tree is spelled, and which trees may stand where.
use Rattle.std.specs.Prelude.{◌≡◌, ℕ, ◌+◌, ◌-◌, ◌≤◌, Bool, true, false, List, [], ◌∷◌, ◌++◌, map, Option, Some, None}
use Rattle.c_token.specs.declared.word.Mark.{Mark}
use Rattle.c_token.specs.declared.word.Mark.TheVariants as marks
use Rattle.c_token.specs.declared.word.Keyword.{Keyword}
use Rattle.c_token.specs.declared.word.Keyword.TheVariants as keywords
use Rattle.c_token.specs.declared.word.Word.{Word}
use Rattle.c_token.specs.declared.word.Word.TheVariants as words
use Rattle.c_token.specs.declared.word.Token.{Token}
use Rattle.c_tree.specs.Operators.{infix_mark, unary_word, step_mark, access_mark, integer_keyword, makes, left_of, right_of, operand_of, combination, is_said, a_choice, an_assignment, an_or, a_cast, a_unary, a_postfix}
use Rattle.c_tree.specs.declared.specifier.IntegerWord.{IntegerWord}
use Rattle.c_tree.specs.declared.specifier.IntegerWords.{IntegerWords}
use Rattle.c_tree.specs.declared.specifier.IntegerWords.TheVariants.{One, Two, Three, Four}
use Rattle.c_tree.specs.declared.specifier.SpecifierNode.{SpecifierNode}
use Rattle.c_tree.specs.declared.specifier.SpecifierNode.TheVariants as specifiers
use Rattle.c_tree.specs.declared.tree.Core.{Core}
use Rattle.c_tree.specs.declared.tree.Core.TheVariants as cores
use Rattle.c_tree.specs.Tree.{Expr, name, integer, character, string, paren, index, call, member, after, unary, size_of_type, cast, between, choice, Exprs, no_exprs, expr_and, Declarator, named, nothing, pointer, array, sized, wrapped, function, function_void, Parameters, no_parameters, parameter_and, Initialiser, single, braces, Initialisers, no_initialisers, initialiser_and}
use Rattle.c_tree.specs.declared.initialiser.Init.{Init}
use Rattle.c_tree.specs.declared.first.ForFirstNode.{ForFirstNode}
use Rattle.c_tree.specs.declared.first.ForFirstNode.TheVariants as firsts
use Rattle.c_tree.specs.declared.first.Jump.{Jump}
use Rattle.c_tree.specs.declared.first.Jump.TheVariants as jumps
use Rattle.c_tree.specs.Statements.{Statement, block, plain, empty, if_then, if_else, while_loop, do_while, for_loop, switch, return_none, return_value, jump, Items, no_items, statement_and, declaration_and, case_and, default_and}
use Rattle.c_tree.specs.StatementHeights.{ends_open}
use Rattle.c_tree.specs.declared.enumerator.Enumerator.{Enumerator}
use Rattle.c_tree.specs.declared.external.MemberHead.{MemberHead}
use Rattle.c_tree.specs.declared.external.MemberHead.TheVariants as heads
use Rattle.c_tree.specs.declared.external.Piece.{Piece}
use Rattle.c_tree.specs.declared.external.Piece.TheVariants as pieces
use Rattle.c_tree.specs.declared.external.OuterSpecifier.{OuterSpecifier}
use Rattle.c_tree.specs.declared.external.OuterSpecifier.TheVariants as outers
use Rattle.c_tree.specs.declared.external.ExternalForm.{ExternalForm}
use Rattle.c_tree.specs.declared.external.ExternalForm.TheVariants as forms
use Rattle.c_tree.specs.declared.external.External.{External}

abbrev pub mark : Mark → List Word → List Word
mark m r = words.Mark m ∷ r

abbrev pub keyword : Keyword → List Word → List Word
keyword k r = words.Keyword k ∷ r

-- one behind the other, each but the first behind a comma, and then these words
abbrev pub behind_commas : {A : Type 0} → (A → List Word → List Word) → List A → List Word → List Word
behind_commas spell_one [] r = r
behind_commas spell_one (x ∷ xs) r = mark marks.Comma (spell_one x (behind_commas spell_one xs r))

abbrev pub separated : {A : Type 0} → (A → List Word → List Word) → List A → List Word → List Word
separated spell_one [] r = r
separated spell_one (x ∷ xs) r = spell_one x (behind_commas spell_one xs r)

abbrev pub each : {A : Type 0} → (A → Type 0) → List A → Type 0
each fits [] = Unit {0}
each fits (x ∷ xs) = fits x × each fits xs

abbrev pub are_some : {A : Type 0} → List A → Type 0
are_some [] = ⊥
are_some (x ∷ xs) = Unit {0}

-- ==== how a tree is spelled: its words, and then these

-- ---- specifiers (6.7.2)

abbrev integer_word : IntegerWord → List Word → List Word
integer_word w r = keyword (integer_keyword w) r

abbrev pub spell_integer : IntegerWords → List Word → List Word
spell_integer (One a) r = integer_word a r
spell_integer (Two a b) r = integer_word a (integer_word b r)
spell_integer (Three a b c) r = integer_word a (integer_word b (integer_word c r))
spell_integer (Four a b c d) r = integer_word a (integer_word b (integer_word c (integer_word d r)))

abbrev pub spell_specifier : SpecifierNode → List Word → List Word
spell_specifier specifiers.Void r = keyword keywords.Void r
spell_specifier (specifiers.Integer ws) r = spell_integer ws r
spell_specifier specifiers.SizeT r = keyword keywords.SizeT r
spell_specifier specifiers.PtrdiffT r = keyword keywords.PtrdiffT r
spell_specifier (specifiers.Struct t) r = keyword keywords.Struct (words.Name t ∷ r)
spell_specifier (specifiers.Enum t) r = keyword keywords.Enum (words.Name t ∷ r)

-- ---- expressions (6.5), declarators (6.7.6) and abstract declarators (6.7.7)

abbrev mutual
  pub spell : Expr → List Word → List Word
  spell (name n) r = words.Name n ∷ r
  spell (integer n t) r = words.Integer n t ∷ r
  spell (character c) r = words.Character c ∷ r
  spell (string s) r = words.String s ∷ r
  spell (paren e) r = mark marks.OpenParen (spell e (mark marks.CloseParen r))
  spell (index a i) r = spell a (mark marks.OpenBracket (spell i (mark marks.CloseBracket r)))
  spell (call f xs) r = spell f (mark marks.OpenParen (spell_arguments xs (mark marks.CloseParen r)))
  spell (member op e n) r = spell e (mark (access_mark op) (words.Name n ∷ r))
  spell (after op e) r = spell e (mark (step_mark op) r)
  spell (unary op e) r = unary_word op ∷ spell e r
  spell (size_of_type s d) r = keyword keywords.Sizeof (mark marks.OpenParen (spell_specifier s (spell_declarator d (mark marks.CloseParen r))))
  spell (cast s d e) r = mark marks.OpenParen (spell_specifier s (spell_declarator d (mark marks.CloseParen (spell e r))))
  spell (between op a b) r = spell a (mark (infix_mark op) (spell b r))
  spell (choice c a b) r = spell c (mark marks.Question (spell a (mark marks.Colon (spell b r))))

  pub spell_arguments : Exprs → List Word → List Word
  spell_arguments no_exprs r = r
  spell_arguments (expr_and e es) r = spell e (spell_rest es r)

  -- each behind a comma
  pub spell_rest : Exprs → List Word → List Word
  spell_rest no_exprs r = r
  spell_rest (expr_and e es) r = mark marks.Comma (spell e (spell_rest es r))

  pub spell_declarator : Declarator → List Word → List Word
  spell_declarator (named n) r = words.Name n ∷ r
  spell_declarator nothing r = r
  spell_declarator (pointer d) r = mark marks.Star (spell_declarator d r)
  spell_declarator (array d) r = spell_declarator d (mark marks.OpenBracket (mark marks.CloseBracket r))
  spell_declarator (sized d e) r = spell_declarator d (mark marks.OpenBracket (spell e (mark marks.CloseBracket r)))
  spell_declarator (wrapped d) r = mark marks.OpenParen (spell_declarator d (mark marks.CloseParen r))
  spell_declarator (function d ps) r = spell_declarator d (mark marks.OpenParen (spell_parameters ps (mark marks.CloseParen r)))
  spell_declarator (function_void d) r = spell_declarator d (mark marks.OpenParen (keyword keywords.Void (mark marks.CloseParen r)))

  pub spell_parameters : Parameters → List Word → List Word
  spell_parameters no_parameters r = r
  spell_parameters (parameter_and s d ps) r = spell_specifier s (spell_declarator d (spell_more ps r))

  -- each behind a comma
  pub spell_more : Parameters → List Word → List Word
  spell_more no_parameters r = r
  spell_more (parameter_and s d ps) r = mark marks.Comma (spell_specifier s (spell_declarator d (spell_more ps r)))

-- ---- initializers (6.7.9) and declarations (6.7)

abbrev pub spell_last_comma : Bool → List Word → List Word
spell_last_comma true r = mark marks.Comma r
spell_last_comma false r = r

abbrev mutual
  pub spell_initialiser : Initialiser → List Word → List Word
  spell_initialiser (single e) r = spell e r
  spell_initialiser (braces vs comma) r = mark marks.OpenBrace (spell_initialisers vs (spell_last_comma comma (mark marks.CloseBrace r)))

  pub spell_initialisers : Initialisers → List Word → List Word
  spell_initialisers no_initialisers r = r
  spell_initialisers (initialiser_and v vs) r = spell_initialiser v (spell_values vs r)

  -- each behind a comma
  pub spell_values : Initialisers → List Word → List Word
  spell_values no_initialisers r = r
  spell_values (initialiser_and v vs) r = mark marks.Comma (spell_initialiser v (spell_values vs r))

abbrev spell_value : Option Initialiser → List Word → List Word
spell_value None r = r
spell_value (Some v) r = mark marks.Equals (spell_initialiser v r)

abbrev pub spell_init : Init → List Word → List Word
spell_init x r = spell_declarator x.declarator (spell_value x.value r)

abbrev pub spell_inits : List Init → List Word → List Word
spell_inits xs r = separated spell_init xs r

-- ---- statements (6.8)

abbrev pub spell_clause : Option Expr → List Word → List Word
spell_clause None r = r
spell_clause (Some e) r = spell e r

abbrev pub spell_first : ForFirstNode → List Word → List Word
spell_first firsts.Nothing r = r
spell_first (firsts.Expr e) r = spell e r
spell_first (firsts.Declaration s xs) r = spell_specifier s (spell_inits xs r)

abbrev pub jump_keyword : Jump → Keyword
jump_keyword jumps.Break = keywords.Break
jump_keyword jumps.Continue = keywords.Continue

abbrev mutual
  pub spell_statement : Statement → List Word → List Word
  spell_statement (block is) r = mark marks.OpenBrace (spell_items is (mark marks.CloseBrace r))
  spell_statement (plain e) r = spell e (mark marks.Semicolon r)
  spell_statement empty r = mark marks.Semicolon r
  spell_statement (if_then c a) r = keyword keywords.If (mark marks.OpenParen (spell c (mark marks.CloseParen (spell_statement a r))))
  spell_statement (if_else c a b) r = keyword keywords.If (mark marks.OpenParen (spell c (mark marks.CloseParen (spell_statement a (keyword keywords.Else (spell_statement b r))))))
  spell_statement (while_loop c s) r = keyword keywords.While (mark marks.OpenParen (spell c (mark marks.CloseParen (spell_statement s r))))
  spell_statement (do_while s c) r = keyword keywords.Do (spell_statement s (keyword keywords.While (mark marks.OpenParen (spell c (mark marks.CloseParen (mark marks.Semicolon r))))))
  spell_statement (for_loop a c b s) r = keyword keywords.For (mark marks.OpenParen (spell_first a (mark marks.Semicolon (spell_clause c (mark marks.Semicolon (spell_clause b (mark marks.CloseParen (spell_statement s r))))))))
  spell_statement (switch e is) r = keyword keywords.Switch (mark marks.OpenParen (spell e (mark marks.CloseParen (mark marks.OpenBrace (spell_items is (mark marks.CloseBrace r))))))
  spell_statement return_none r = keyword keywords.Return (mark marks.Semicolon r)
  spell_statement (return_value e) r = keyword keywords.Return (spell e (mark marks.Semicolon r))
  spell_statement (jump j) r = keyword (jump_keyword j) (mark marks.Semicolon r)

  pub spell_items : Items → List Word → List Word
  spell_items no_items r = r
  spell_items (statement_and s is) r = spell_statement s (spell_items is r)
  spell_items (declaration_and s xs is) r = spell_specifier s (spell_inits xs (mark marks.Semicolon (spell_items is r)))
  spell_items (case_and e is) r = keyword keywords.Case (spell e (mark marks.Colon (spell_items is r)))
  spell_items (default_and is) r = keyword keywords.Default (mark marks.Colon (spell_items is r))

-- ---- enumerations (6.7.2.2)

abbrev pub spell_value_of : Option Expr → List Word → List Word
spell_value_of None r = r
spell_value_of (Some e) r = mark marks.Equals (spell e r)

abbrev pub spell_enumerator : Enumerator → List Word → List Word
spell_enumerator x r = words.Name x.name ∷ spell_value_of x.value r

abbrev pub spell_enumerators : List Enumerator → List Word → List Word
spell_enumerators xs r = separated spell_enumerator xs r

abbrev pub spell_tag : Option (List ℕ) → List Word → List Word
spell_tag None r = r
spell_tag (Some t) r = words.Name t ∷ r

-- whether a comma stands before the closing brace
abbrev pub spell_enum : Option (List ℕ) → List Enumerator → Bool → List Word → List Word
spell_enum t xs comma r = keyword keywords.Enum (spell_tag t (mark marks.OpenBrace (spell_enumerators xs (spell_last_comma comma (mark marks.CloseBrace r)))))

-- ---- structures (6.7.2.1) and external declarations (6.9)

abbrev pub spell_head : MemberHead → List Word → List Word
spell_head (heads.Specifier s) r = spell_specifier s r
spell_head (heads.Enum t xs comma) r = spell_enum t xs comma r
spell_head heads.Close r = mark marks.CloseBrace r

abbrev pub spell_declarators : List Declarator → List Word → List Word
spell_declarators ds r = separated spell_declarator ds r

abbrev pub spell_piece : Piece → List Word → List Word
spell_piece (pieces.Opens t) r = keyword keywords.Struct (words.Name t ∷ mark marks.OpenBrace r)
spell_piece (pieces.Member h ds) r = spell_head h (spell_declarators ds (mark marks.Semicolon r))

abbrev pub spell_members : List Piece → List Word → List Word
spell_members [] r = r
spell_members (p ∷ ps) r = spell_piece p (spell_members ps r)

abbrev pub spell_outer : OuterSpecifier → List Word → List Word
spell_outer (outers.Plain s) r = spell_specifier s r
spell_outer (outers.Struct t ps) r = keyword keywords.Struct (words.Name t ∷ mark marks.OpenBrace (spell_members ps (mark marks.CloseBrace r)))
spell_outer (outers.Enum t xs comma) r = spell_enum t xs comma r

abbrev pub spell_form : ExternalForm → List Word → List Word
spell_form forms.Alone r = mark marks.Semicolon r
spell_form (forms.Declaration xs) r = spell_inits xs (mark marks.Semicolon r)
spell_form (forms.Function d is) r = spell_declarator d (spell_statement (block is) r)

-- ==== which trees may stand where

abbrev pub FitsSpecifier : SpecifierNode → Type 0
FitsSpecifier specifiers.Void = Unit {0}
FitsSpecifier (specifiers.Integer ws) = is_said (combination ws) ≡ true
FitsSpecifier specifiers.SizeT = Unit {0}
FitsSpecifier specifiers.PtrdiffT = Unit {0}
FitsSpecifier (specifiers.Struct t) = Unit {0}
FitsSpecifier (specifiers.Enum t) = Unit {0}

-- the nonterminal of an expression, as a level
abbrev pub level : Expr → ℕ
level (name n) = a_postfix
level (integer n t) = a_postfix
level (character n) = a_postfix
level (string s) = a_postfix
level (paren e) = a_postfix
level (index a i) = a_postfix
level (call f xs) = a_postfix
level (member op e n) = a_postfix
level (after op e) = a_postfix
level (unary op e) = a_unary
level (size_of_type s d) = a_unary
level (cast s d e) = a_cast
level (between op a b) = makes op
level (choice c a b) = a_choice

-- a direct declarator is no pointer
abbrev pub IsDirect : Declarator → Type 0
IsDirect (pointer d) = ⊥
IsDirect (named n) = Unit {0}
IsDirect nothing = Unit {0}
IsDirect (array d) = Unit {0}
IsDirect (sized d e) = Unit {0}
IsDirect (wrapped d) = Unit {0}
IsDirect (function d ps) = Unit {0}
IsDirect (function_void d) = Unit {0}

abbrev pub IsSomething : Declarator → Type 0
IsSomething nothing = ⊥
IsSomething (named n) = Unit {0}
IsSomething (pointer d) = Unit {0}
IsSomething (array d) = Unit {0}
IsSomething (sized d e) = Unit {0}
IsSomething (wrapped d) = Unit {0}
IsSomething (function d ps) = Unit {0}
IsSomething (function_void d) = Unit {0}

abbrev pub may_name : Core → Bool
may_name cores.Name = true
may_name cores.Nothing = false
may_name cores.Either = true

abbrev pub may_be_nothing : Core → Bool
may_be_nothing cores.Name = false
may_be_nothing cores.Nothing = true
may_be_nothing cores.Either = true

-- no sole `void`, which means that there are none (6.7.6.3, paragraph 10)
abbrev pub AreParameters : Parameters → Type 0
AreParameters (parameter_and specifiers.Void nothing no_parameters) = ⊥
AreParameters _ = Unit {0}

abbrev mutual
  pub FitsExpr : Expr → Type 0
  FitsExpr (name n) = Unit {0}
  FitsExpr (integer n t) = Unit {0}
  FitsExpr (character n) = Unit {0}
  FitsExpr (string s) = Unit {0}
  FitsExpr (paren e) = FitsExpr e
  FitsExpr (index a i) = (a_postfix ≤ level a) × FitsExpr a × FitsExpr i
  FitsExpr (call f xs) = (a_postfix ≤ level f) × FitsExpr f × FitArguments xs
  FitsExpr (member op e n) = (a_postfix ≤ level e) × FitsExpr e
  FitsExpr (after op e) = (a_postfix ≤ level e) × FitsExpr e
  FitsExpr (unary op e) = (operand_of op ≤ level e) × FitsExpr e
  FitsExpr (size_of_type s d) = FitsSpecifier s × FitsDeclarator cores.Nothing d
  FitsExpr (cast s d e) = FitsSpecifier s × FitsDeclarator cores.Nothing d × (a_cast ≤ level e) × FitsExpr e
  FitsExpr (between op a b) = (left_of op ≤ level a) × (right_of op ≤ level b) × FitsExpr a × FitsExpr b
  FitsExpr (choice c a b) = (an_or ≤ level c) × (a_choice ≤ level b) × FitsExpr c × FitsExpr a × FitsExpr b

  pub FitArguments : Exprs → Type 0
  FitArguments no_exprs = Unit {0}
  FitArguments (expr_and e es) = (an_assignment ≤ level e) × FitsExpr e × FitArguments es

  pub FitsDeclarator : Core → Declarator → Type 0
  FitsDeclarator c (named n) = may_name c ≡ true
  FitsDeclarator c nothing = may_be_nothing c ≡ true
  FitsDeclarator c (pointer d) = FitsDeclarator c d
  FitsDeclarator c (array d) = IsDirect d × FitsDeclarator c d
  FitsDeclarator c (sized d e) = IsDirect d × FitsDeclarator c d × (a_choice ≤ level e) × FitsExpr e
  FitsDeclarator c (wrapped d) = IsSomething d × FitsDeclarator c d
  FitsDeclarator c (function d ps) = IsDirect d × FitsDeclarator c d × AreParameters ps × FitParameters ps
  FitsDeclarator c (function_void d) = IsDirect d × FitsDeclarator c d

  pub FitParameters : Parameters → Type 0
  FitParameters no_parameters = Unit {0}
  FitParameters (parameter_and s d ps) = FitsSpecifier s × FitsDeclarator cores.Either d × FitParameters ps

abbrev AreInitialisers : Initialisers → Type 0
AreInitialisers no_initialisers = ⊥
AreInitialisers (initialiser_and v vs) = Unit {0}

abbrev mutual
  pub FitsInitialiser : Initialiser → Type 0
  FitsInitialiser (single e) = (an_assignment ≤ level e) × FitsExpr e
  FitsInitialiser (braces vs comma) = AreInitialisers vs × FitInitialisers vs

  pub FitInitialisers : Initialisers → Type 0
  FitInitialisers no_initialisers = Unit {0}
  FitInitialisers (initialiser_and v vs) = FitsInitialiser v × FitInitialisers vs

abbrev FitsValue : Option Initialiser → Type 0
FitsValue None = Unit {0}
FitsValue (Some v) = FitsInitialiser v

abbrev pub FitsInit : Init → Type 0
FitsInit x = FitsDeclarator cores.Name x.declarator × FitsValue x.value

-- at least one
abbrev pub FitInits : List Init → Type 0
FitInits xs = are_some xs × each FitsInit xs

abbrev pub FitsClause : Option Expr → Type 0
FitsClause None = Unit {0}
FitsClause (Some e) = FitsExpr e

-- a constant expression, if there is one (6.6)
abbrev pub FitsConstant : Option Expr → Type 0
FitsConstant None = Unit {0}
FitsConstant (Some e) = (a_choice ≤ level e) × FitsExpr e

abbrev pub FitsFirst : ForFirstNode → Type 0
FitsFirst firsts.Nothing = Unit {0}
FitsFirst (firsts.Expr e) = FitsExpr e
FitsFirst (firsts.Declaration s xs) = FitsSpecifier s × FitInits xs

-- A label is the constant expression of a `case` or a `default`. It stands only right in the braces of a switch.
abbrev mutual
  pub FitsStatement : Statement → Type 0
  FitsStatement (block is) = FitItems false is
  FitsStatement (plain e) = FitsExpr e
  FitsStatement empty = Unit {0}
  FitsStatement (if_then c a) = FitsExpr c × FitsStatement a
  -- an `else` belongs to the nearest `if` (6.8.4.1, paragraph 3)
  FitsStatement (if_else c a b) = FitsExpr c × (ends_open a ≡ false) × FitsStatement a × FitsStatement b
  FitsStatement (while_loop c s) = FitsExpr c × FitsStatement s
  FitsStatement (do_while s c) = FitsStatement s × FitsExpr c
  FitsStatement (for_loop a c b s) = FitsFirst a × FitsClause c × FitsClause b × FitsStatement s
  FitsStatement (switch e is) = FitsExpr e × FitItems true is
  FitsStatement return_none = Unit {0}
  FitsStatement (return_value e) = FitsExpr e
  FitsStatement (jump j) = Unit {0}

  -- and whether labels may stand among them
  pub FitItems : Bool → Items → Type 0
  FitItems labels no_items = Unit {0}
  FitItems labels (statement_and s is) = FitsStatement s × FitItems labels is
  FitItems labels (declaration_and s xs is) = FitsSpecifier s × FitInits xs × FitItems labels is
  FitItems labels (case_and e is) = (labels ≡ true) × (a_choice ≤ level e) × FitsExpr e × FitItems labels is
  FitItems labels (default_and is) = (labels ≡ true) × FitItems labels is

abbrev pub FitsEnumerator : Enumerator → Type 0
FitsEnumerator x = FitsConstant x.value

-- at least one
abbrev pub FitEnumerators : List Enumerator → Type 0
FitEnumerators xs = are_some xs × each FitsEnumerator xs

-- at least one
abbrev pub FitDeclarators : List Declarator → Type 0
FitDeclarators ds = are_some ds × each (λ d. FitsDeclarator cores.Name d) ds

-- Whether these parts go on to the end of a structure's members, where so many structures are open in it, and the innermost
-- one has a member or not. Each structure has one.
abbrev pub FitMembers : ℕ → Bool → List Piece → Type 0
FitMembers n some [] = (n ≡ 0) × (some ≡ true)
FitMembers n some (pieces.Opens t ∷ ps) = FitMembers (n + 1) false ps
FitMembers n some (pieces.Member (heads.Specifier s) ds ∷ ps) = FitsSpecifier s × FitDeclarators ds × FitMembers n true ps
FitMembers n some (pieces.Member (heads.Enum t xs comma) ds ∷ ps) = FitEnumerators xs × FitDeclarators ds × FitMembers n true ps
FitMembers n some (pieces.Member heads.Close ds ∷ ps) = (1 ≤ n) × (some ≡ true) × FitDeclarators ds × FitMembers (n - 1) true ps

abbrev pub FitsOuter : OuterSpecifier → Type 0
FitsOuter (outers.Plain s) = FitsSpecifier s
FitsOuter (outers.Struct t ps) = FitMembers 0 false ps
FitsOuter (outers.Enum t xs comma) = FitEnumerators xs

abbrev pub FitsForm : ExternalForm → Type 0
FitsForm forms.Alone = Unit {0}
FitsForm (forms.Declaration xs) = FitInits xs
FitsForm (forms.Function d is) = FitsDeclarator cores.Name d × FitItems false is

-- ==== units

abbrev pub words_of : List Token → List Word
words_of tokens = map (λ t. t.word) tokens

-- These words are that external declaration.
pub record IsExternal (text : List Word) (s : OuterSpecifier) (f : ExternalForm) : Type 0 where
  pub outer : FitsOuter s
  pub form : FitsForm f
  pub same : text ≡ spell_outer s (spell_form f [])

-- The grammar: these tokens are that unit, external declarations one behind the other, each with the place where it begins.
pub data IsUnit : List Token → List External → Type 0 where
  empty_unit : IsUnit [] []
  external : (t : Token) (ts rest : List Token) (s : OuterSpecifier) (f : ExternalForm) (xs : List External)
      → IsExternal (words_of (t ∷ ts)) s f → IsUnit rest xs
      → IsUnit (t ∷ ts ++ rest) (record { at = t.at; specifier = s; form = f } ∷ xs)
