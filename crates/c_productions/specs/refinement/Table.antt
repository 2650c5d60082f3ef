-- The table of the parser (C11, 6.5 to 6.9): what becomes of a value in hand with the next word, what a production wants, what is
-- built of its parts, and which values are complete.
use Rattle.std.specs.Prelude.{ℕ, ◌+◌, ◌-◌, max, Bool, true, false, ◌&&◌, not, nat_le, if◌then◌else◌, List, [], ◌∷◌, ◌++◌, Option, Some, None}
use Rattle.c_token.specs.declared.word.Mark.{Mark}
use Rattle.c_token.specs.declared.word.Keyword.{Keyword}
use Rattle.c_token.specs.declared.word.Keyword.TheVariants as keywords
use Rattle.c_token.specs.declared.word.Word.{Word}
use Rattle.c_token.specs.declared.word.Word.TheVariants as words
use Rattle.c_tree.specs.declared.operators.UnaryOp.TheVariants as unaries
use Rattle.c_tree.specs.declared.operators.Access.{Access}
use Rattle.c_tree.specs.declared.specifier.IntegerWord.{IntegerWord}
use Rattle.c_tree.specs.declared.specifier.SpecifierNode.{SpecifierNode}
use Rattle.c_tree.specs.declared.specifier.SpecifierNode.TheVariants as specifiers
use Rattle.c_tree.specs.Operators.{makes, left_of, right_of, operand_of, extended, an_assignment, a_choice, an_or, a_cast, a_unary, a_postfix}
use Rattle.c_tree.specs.declared.tree.Core.{Core}
use Rattle.c_tree.specs.declared.tree.Core.TheVariants as cores
use Rattle.c_tree.specs.Tree.{Expr, name, integer, character, string, paren, index, call, member, after, unary, size_of_type, cast, between, choice, Exprs, no_exprs, expr_and, Declarator, named, nothing, pointer, array, sized, wrapped, function, function_void, Parameters, no_parameters, parameter_and, Initialiser, single, braces, Initialisers, no_initialisers, initialiser_and}
use Rattle.c_tree.specs.declared.initialiser.Init.{Init}
use Rattle.c_tree.specs.declared.first.ForFirstNode.{ForFirstNode}
use Rattle.c_tree.specs.declared.first.ForFirstNode.TheVariants as firsts
use Rattle.c_tree.specs.declared.first.Jump.TheVariants as jumps
use Rattle.c_tree.specs.Statements.{Statement, block, plain, empty, if_then, if_else, while_loop, do_while, for_loop, switch, return_none, return_value, jump, Items, no_items}
use Rattle.c_tree.specs.declared.statement.Item.{Item}
use Rattle.c_tree.specs.declared.statement.Item.TheVariants as items
use Rattle.c_tree.specs.Heights.{expr_height, tallest, declarator_height, tallest_parameter, initialiser_height, tallest_initialiser, tallest_of, init_height}
use Rattle.c_tree.specs.StatementHeights.{clause_height, first_height, statement_height, tallest_item, ends_open}
use Rattle.c_tree.specs.EnumeratorHeights.{enumerator_height}
use Rattle.c_tree.specs.ExternalHeights.{head_height, piece_height, outer_height, form_height}
use Rattle.c_tree.specs.declared.enumerator.Enumerator.{Enumerator}
use Rattle.c_tree.specs.declared.external.MemberHead.{MemberHead}
use Rattle.c_tree.specs.declared.external.MemberHead.TheVariants as heads
use Rattle.c_tree.specs.declared.external.Piece.{Piece}
use Rattle.c_tree.specs.declared.external.Piece.TheVariants as pieces
use Rattle.c_tree.specs.declared.external.OuterSpecifier.{OuterSpecifier}
use Rattle.c_tree.specs.declared.external.OuterSpecifier.TheVariants as outers
use Rattle.c_tree.specs.declared.external.ExternalForm.{ExternalForm}
use Rattle.c_tree.specs.declared.external.ExternalForm.TheVariants as forms
use Rattle.c_tree.specs.refinement.Views.{with_expr, with_parameter, are_none}
use Rattle.c_tree.specs.refinement.InitialiserViews.{with_initialiser}
use Rattle.c_tree.specs.refinement.StatementViews.{with_item}
use Rattle.c_tree.specs.Grammar.{level, may_name, may_be_nothing}
use Rattle.c_productions.specs.declared.kind.Kind.{Kind}
use Rattle.c_productions.specs.declared.kind.Kind.TheVariants as kinds
use Rattle.c_productions.specs.declared.kind.Production.{Production}
use Rattle.c_productions.specs.declared.kind.Production.TheVariants as productions
use Rattle.c_productions.specs.declared.kind.Terminal.{Terminal}
use Rattle.c_productions.specs.declared.kind.Terminal.TheVariants as at
use Rattle.c_productions.specs.declared.kind.Symbol.{Symbol}
use Rattle.c_productions.specs.declared.kind.Symbol.TheVariants.{Part, Word as Said}
use Rattle.c_productions.specs.declared.value.Holder.{Holder}
use Rattle.c_productions.specs.declared.value.Holder.TheVariants as holders
use Rattle.c_productions.specs.declared.value.Value.{Value}
use Rattle.c_productions.specs.declared.value.Value.TheVariants as values
use Rattle.c_productions.specs.declared.frame.Frame.{Frame}
use Rattle.c_productions.specs.refinement.Classes.{infix_at, prefix_at, step_at, access_at, integer_at, specifier_at, is_struct, is_enum, is_sizeof, is_specifier, is_else, is_case, is_default, is_mark, is}

-- What becomes of a value in hand at a word.
pub data Action : Type 0 where
  -- the word is taken, and this is in hand
  joined : Value → Action
  -- the word is taken, and this production stands open, with the value its first part
  opens : Production → Action
  -- the production stands open, and the word is its next one
  begins : Production → Action
  -- the word doesn't belong to it
  stuck : Action

abbrev pub only : Bool → Action → Action
only b action = if b then action else stuck

abbrev pub if_some : {A : Type 0} → Option A → (A → Action) → Action → Action
if_some None f other = other
if_some (Some x) f other = f x

abbrev pub on_mark : Word → (Mark → Action) → Action
on_mark (words.Mark m) f = f m
on_mark (words.Name n) f = stuck
on_mark (words.Integer n t) f = stuck
on_mark (words.Character c) f = stuck
on_mark (words.String s) f = stuck
on_mark (words.Keyword k) f = stuck

abbrev pub on_keyword : Word → (Keyword → Action) → Action
on_keyword (words.Keyword k) f = f k
on_keyword (words.Name n) f = stuck
on_keyword (words.Integer n t) f = stuck
on_keyword (words.Character c) f = stuck
on_keyword (words.String s) f = stuck
on_keyword (words.Mark m) f = stuck

-- ---- what a kind asks

-- the least level of an expression
abbrev pub level_at : Kind → ℕ
level_at (kinds.Expr k) = k
level_at _ = a_unary

abbrev pub core_at : Kind → Core
core_at (kinds.Declarator c i) = c
core_at _ = cores.Name

abbrev pub takes_type : Kind → Bool
takes_type kinds.SizeofOperand = true
takes_type _ = false

-- ---- the words that begin each kind

abbrev pub operand_mark : Mark → Action
operand_mark m = if_some (prefix_at m) (λ op. opens (productions.Unary op)) (only (is_mark at.OpenParen m) (joined values.Paren))

abbrev pub operand : Word → Action
operand (words.Name n) = joined (values.Expr (name n))
operand (words.Integer n t) = joined (values.Expr (integer n t))
operand (words.Character c) = joined (values.Expr (character c))
operand (words.String s) = joined (values.Expr (string s))
operand (words.Mark m) = operand_mark m
operand (words.Keyword k) = only (is_sizeof k) (opens productions.Sizeof)

abbrev pub declarator_mark : Core → Mark → Action
declarator_mark c m =
    if is_mark at.Star m then opens (productions.Pointer c) else
    if is_mark at.OpenParen m then joined values.OpenDeclarator else
    only (is_mark at.OpenBracket m && may_be_nothing c) (joined (values.Array nothing))

abbrev pub declarator_word : Core → Word → Action
declarator_word c (words.Name n) = only (may_name c) (joined (values.Declarator (named n)))
declarator_word c (words.Mark m) = declarator_mark c m
declarator_word c (words.Integer n t) = stuck
declarator_word c (words.Character x) = stuck
declarator_word c (words.String s) = stuck
declarator_word c (words.Keyword k) = stuck

abbrev pub specifier_keyword : Keyword → Action
specifier_keyword k = if_some (specifier_at k) (λ s. joined (values.Specifier s)) (if is_struct k then joined values.Tag else only (is_enum k) (joined values.EnumTag))

abbrev pub statement_mark : Mark → Action
statement_mark m =
    if is_mark at.Semicolon m then joined (values.Statement empty) else
    if is_mark at.OpenBrace m then joined (values.Items holders.Block no_items) else
    begins productions.Plain

abbrev pub statement_keyword : Keyword → Action
statement_keyword keywords.If = opens productions.If
statement_keyword keywords.While = opens productions.While
statement_keyword keywords.Do = opens productions.Do
statement_keyword keywords.For = opens productions.For
statement_keyword keywords.Switch = opens productions.Switch
statement_keyword keywords.Return = opens productions.Return
statement_keyword keywords.Break = joined (values.Jump jumps.Break)
statement_keyword keywords.Continue = joined (values.Jump jumps.Continue)
statement_keyword _ = begins productions.Plain

abbrev pub statement_word : Word → Action
statement_word (words.Mark m) = statement_mark m
statement_word (words.Keyword k) = statement_keyword k
statement_word (words.Name n) = begins productions.Plain
statement_word (words.Integer n t) = begins productions.Plain
statement_word (words.Character c) = begins productions.Plain
statement_word (words.String s) = begins productions.Plain

abbrev pub first_word : Word → Action
first_word w = if is at.Semicolon w then joined (values.ForFirst firsts.Nothing) else if is_specifier w then begins productions.ForDeclaration else begins productions.ForExpr

abbrev pub if_said : Terminal → Word → Value → Production → Action
if_said p w u r = if is p w then joined u else begins r

abbrev pub begin : Kind → Word → Action
begin (kinds.Expr k) w = operand w
begin kinds.SizeofOperand w = operand w
begin (kinds.Declarator c i) w = declarator_word c w
begin kinds.Specifier w = on_keyword w specifier_keyword
begin kinds.OuterSpecifier w = on_keyword w specifier_keyword
begin kinds.MemberSpecifier w = on_keyword w specifier_keyword
begin kinds.Initialiser w = if_said at.OpenBrace w (values.Braces no_initialisers false) productions.Single
begin kinds.Inits w = begins productions.FirstInit
begin kinds.Statement w = statement_word w
begin kinds.ForFirst w = first_word w
begin kinds.Test w = if_said at.Semicolon w (values.Test None) productions.TestExpr
begin kinds.Step w = if_said at.CloseParen w (values.Step None) productions.StepExpr
begin kinds.Form w = if_said at.Semicolon w (values.Form forms.Alone) productions.FirstInit
begin kinds.External w = begins productions.External

-- ---- the words that go on behind a value

abbrev pub postfix : Expr → Mark → Action
postfix e m =
    if_some (step_at m) (λ op. joined (values.Expr (after op e)))
    (if_some (access_at m) (λ op. joined (values.Access op e))
    (if is_mark at.OpenBracket m then opens productions.Index else only (is_mark at.OpenParen m) (joined (values.Call e no_exprs))))

abbrev pub tail : ℕ → Expr → Mark → Action
tail k e m =
    if_some (infix_at m) (λ op. only (nat_le k (makes op) && nat_le (left_of op) (level e)) (opens (productions.Between op)))
    (if is_mark at.Question m then only (nat_le k a_choice && nat_le an_or (level e)) (opens productions.Choice) else
    only (nat_le a_postfix (level e)) (postfix e m))

abbrev pub type_in_parens : Kind → Action
type_in_parens K = if takes_type K then begins productions.TypeName else only (nat_le (level_at K) a_cast) (begins productions.Cast)

abbrev pub are_no : {A : Type 0} → List A → Bool
are_no [] = true
are_no (x ∷ xs) = false

abbrev pub are_no_args : Exprs → Bool
are_no_args no_exprs = true
are_no_args (expr_and e es) = false

abbrev pub next_argument : Exprs → Word → Action
next_argument xs w = if are_no_args xs then begins productions.Argument else only (is at.Comma w) (opens productions.Argument)

abbrev pub access_name : Access → Expr → Word → Action
access_name op e (words.Name n) = joined (values.Expr (member op e n))
access_name op e _ = stuck

abbrev pub direct_mark : Declarator → Mark → Action
direct_mark d m = if is_mark at.OpenBracket m then joined (values.Array d) else only (is_mark at.OpenParen m) (joined (values.Function d no_parameters))

abbrev pub is_pointer : Declarator → Bool
is_pointer (pointer d) = true
is_pointer (named n) = false
is_pointer nothing = false
is_pointer (array d) = false
is_pointer (sized d e) = false
is_pointer (wrapped d) = false
is_pointer (function d ps) = false
is_pointer (function_void d) = false

abbrev pub declarator_tail : Declarator → Word → Action
declarator_tail d w = if is_pointer d then stuck else on_mark w (direct_mark d)

-- `void` alone says that there are no parameters (6.7.6.3, paragraph 10)
abbrev pub sole_void : Parameters → Bool
sole_void (parameter_and specifiers.Void nothing no_parameters) = true
sole_void _ = false

abbrev pub closed : Declarator → Parameters → Declarator
closed d ps = if sole_void ps then function_void d else function d ps

abbrev pub next_parameter : Parameters → Word → Action
next_parameter ps w = if are_none ps then only (is_specifier w) (begins productions.Parameter) else only (is at.Comma w) (opens productions.Parameter)

abbrev pub open_declarator : Core → Word → Action
open_declarator c w =
    if is at.CloseParen w then only (may_be_nothing c) (joined (values.Declarator (function nothing no_parameters))) else
    if is_specifier w then only (may_be_nothing c) (begins productions.Parameter) else
    begins (productions.Wrap c)

abbrev pub and_integer : SpecifierNode → IntegerWord → Action
and_integer (specifiers.Integer ws) x = if_some (extended ws x) (λ more. joined (values.Specifier (specifiers.Integer more))) stuck
and_integer _ x = stuck

-- whether braces may stand in a specifier of this kind
abbrev pub may_define : Kind → Bool
may_define kinds.OuterSpecifier = true
may_define kinds.MemberSpecifier = true
may_define _ = false

abbrev pub members_begin : Kind → List ℕ → Action
members_begin kinds.OuterSpecifier t = joined (values.Members t [] 0 false)
members_begin _ t = joined (values.Opens t)

-- what an opening brace begins behind a tag
abbrev pub braces_begin : Kind → SpecifierNode → Action
braces_begin K (specifiers.Struct t) = members_begin K t
braces_begin K (specifiers.Enum t) = joined (values.Enumerators (Some t) [] None)
braces_begin K specifiers.Void = stuck
braces_begin K (specifiers.Integer ws) = stuck
braces_begin K specifiers.SizeT = stuck
braces_begin K specifiers.PtrdiffT = stuck

abbrev pub specifier_tail : Kind → SpecifierNode → Word → Action
specifier_tail K s (words.Keyword k) = if_some (integer_at k) (and_integer s) stuck
specifier_tail K s (words.Mark m) = only (is_mark at.OpenBrace m && may_define K) (braces_begin K s)
specifier_tail K s (words.Name n) = stuck
specifier_tail K s (words.Integer n t) = stuck
specifier_tail K s (words.Character c) = stuck
specifier_tail K s (words.String x) = stuck

abbrev pub tag_name : Word → Action
tag_name (words.Name n) = joined (values.Specifier (specifiers.Struct n))
tag_name _ = stuck

abbrev pub enum_tag_name : Kind → Word → Action
enum_tag_name K (words.Name n) = joined (values.Specifier (specifiers.Enum n))
enum_tag_name K w = only (is at.OpenBrace w && may_define K) (joined (values.Enumerators None [] None))

abbrev pub enumerator_name : Option (List ℕ) → List Enumerator → Word → Action
enumerator_name t xs (words.Name n) = joined (values.Enumerators t xs (Some (record { name = n; value = None })))
enumerator_name t xs w = stuck

abbrev pub has_no_constant : Option Expr → Bool
has_no_constant None = true
has_no_constant (Some e) = false

-- what an enumeration has behind an enumerator
abbrev pub enumerator_tail : Option (List ℕ) → List Enumerator → Enumerator → Word → Action
enumerator_tail t xs x w =
    if is at.Equals w then only (has_no_constant x.value) (opens productions.EnumValue) else
    if is at.Comma w then joined (values.Enumerators t (xs ++ x ∷ []) None) else
    only (is at.CloseBrace w) (joined (values.Enum t (xs ++ x ∷ []) false))

-- and behind its opening brace or a comma, which may stand before the closing brace
abbrev pub enumerators_tail : Option (List ℕ) → List Enumerator → Option Enumerator → Word → Action
enumerators_tail t xs (Some x) w = enumerator_tail t xs x w
enumerators_tail t xs None w = if is at.CloseBrace w then only (not (are_no xs)) (joined (values.Enum t xs true)) else enumerator_name t xs w

abbrev pub are_no_values : Initialisers → Bool
are_no_values no_initialisers = true
are_no_values (initialiser_and v vs) = false

abbrev pub next_element : Initialisers → Bool → Word → Action
next_element vs comma w =
    if are_no_values vs then begins productions.Element else
    if is at.CloseBrace w then joined (values.Initialiser (braces vs comma)) else
    if comma then begins productions.Element else
    only (is at.Comma w) (joined (values.Braces vs true))

abbrev pub has_no_value : Option Initialiser → Bool
has_no_value None = true
has_no_value (Some v) = false

-- one declarator without an initializer
abbrev pub is_single : List Init → Init → Bool
is_single xs x = are_no xs && has_no_value x.value

-- what an external declaration has behind its declarators
abbrev pub form_end : Kind → List Init → Init → Word → Action
form_end kinds.Form xs x w =
    if is at.Semicolon w then joined (values.Form (forms.Declaration (xs ++ x ∷ []))) else
    only (is at.OpenBrace w && is_single xs x) (joined (values.Items (holders.Function x.declarator) no_items))
form_end _ xs x w = stuck

abbrev pub inits_tail : Kind → List Init → Init → Word → Action
inits_tail K xs x w =
    if is at.Comma w then opens productions.NextInit else
    if is at.Equals w then only (has_no_value x.value) (opens productions.InitValue) else
    form_end K xs x w

abbrev pub items_end : Holder → Items → Value
items_end holders.Block its = values.Statement (block its)
items_end (holders.Function d) its = values.Form (forms.Function d its)
items_end (holders.Switch e) its = values.Statement (switch e its)

-- labels stand right in the braces of a switch
abbrev pub takes_labels : Holder → Bool
takes_labels (holders.Switch e) = true
takes_labels holders.Block = false
takes_labels (holders.Function d) = false

abbrev pub statement_item : Holder → Word → Action
statement_item h w =
    if is_case w then only (takes_labels h) (opens productions.Case) else
    if is_default w then only (takes_labels h) (opens productions.Default) else
    begins productions.Item

abbrev pub items_tail : Holder → Items → Word → Action
items_tail h its w = if is at.CloseBrace w then joined (items_end h its) else if is_specifier w then begins productions.Declaration else statement_item h w

abbrev pub members_end : List ℕ → List Piece → ℕ → Action
members_end t ps n = if nat_le 1 n then joined (values.Member t ps (n - 1) heads.Close []) else joined (values.Outer (outers.Struct t ps))

abbrev pub members_tail : List ℕ → List Piece → ℕ → Bool → Word → Action
members_tail t ps n some w = if is at.CloseBrace w then only some (members_end t ps n) else only (is_specifier w) (begins productions.MemberSpecifier)

abbrev pub member_tail : List ℕ → List Piece → ℕ → MemberHead → List Declarator → Word → Action
member_tail t ps n h ds w =
    if are_no ds then begins productions.MemberDeclarator else
    if is at.Comma w then opens productions.MemberDeclarator else
    only (is at.Semicolon w) (joined (values.Members t (ps ++ pieces.Member h ds ∷ []) n true))

abbrev pub action : Kind → Value → Word → Action
action K values.Start w = begin K w
action K (values.Expr e) w = on_mark w (tail (level_at K) e)
action K values.Paren w = if is_specifier w then type_in_parens K else begins productions.Parenthesised
action K (values.Call f xs) w = if is at.CloseParen w then joined (values.Expr (call f xs)) else next_argument xs w
action K (values.Access op e) w = access_name op e w
action K (values.Declarator d) w = declarator_tail d w
action K (values.Array d) w = if is at.CloseBracket w then joined (values.Declarator (array d)) else begins productions.Sized
action K values.OpenDeclarator w = open_declarator (core_at K) w
action K (values.Function d ps) w = if is at.CloseParen w then joined (values.Declarator (closed d ps)) else next_parameter ps w
action K (values.Specifier s) w = specifier_tail K s w
action K values.Tag w = tag_name w
action K values.EnumTag w = enum_tag_name K w
action K (values.Enumerators t xs last) w = enumerators_tail t xs last w
action K (values.Braces vs comma) w = next_element vs comma w
action K (values.Inits xs x) w = inits_tail K xs x w
action K (values.If c a) w = only (is_else w && not (ends_open a)) (opens productions.Else)
action K (values.Items h its) w = items_tail h its w
action K (values.Jump j) w = only (is at.Semicolon w) (joined (values.Statement (jump j)))
action K (values.Members t ps n some) w = members_tail t ps n some w
action K (values.Member t ps n h ds) w = member_tail t ps n h ds w
action K _ w = stuck

-- ---- values that are complete

abbrev pub nothing_at : Kind → Option Value
nothing_at (kinds.Declarator cores.Nothing false) = Some (values.Declarator nothing)
nothing_at (kinds.Declarator cores.Either false) = Some (values.Declarator nothing)
nothing_at _ = None

abbrev pub specifier_rests : Kind → SpecifierNode → Value
specifier_rests kinds.OuterSpecifier s = values.Outer (outers.Plain s)
specifier_rests _ s = values.Specifier s

abbrev pub enum_rests : Kind → Option (List ℕ) → List Enumerator → Bool → Value
enum_rests kinds.OuterSpecifier t xs comma = values.Outer (outers.Enum t xs comma)
enum_rests _ t xs comma = values.Enum t xs comma

abbrev pub inits_rest : Kind → List Init → Init → Option Value
inits_rest kinds.Inits xs x = Some (values.Inits xs x)
inits_rest _ xs x = None

abbrev pub rests : Kind → Value → Option Value
rests K values.Start = nothing_at K
rests K (values.Expr e) = Some (values.Expr e)
rests K (values.TypeName s d) = Some (values.TypeName s d)
rests K (values.Declarator d) = Some (values.Declarator d)
rests K (values.Specifier s) = Some (specifier_rests K s)
rests K (values.Opens t) = Some (values.Opens t)
rests K (values.Enum t xs comma) = Some (enum_rests K t xs comma)
rests K (values.Initialiser v) = Some (values.Initialiser v)
rests K (values.Inits xs x) = inits_rest K xs x
rests K (values.Statement s) = Some (values.Statement s)
rests K (values.If c a) = Some (values.Statement (if_then c a))
rests K (values.ForFirst a) = Some (values.ForFirst a)
rests K (values.Test c) = Some (values.Test c)
rests K (values.Step c) = Some (values.Step c)
rests K (values.Outer o) = Some (values.Outer o)
rests K (values.Form f) = Some (values.Form f)
rests K (values.External o f) = Some (values.External o f)
rests K _ = None

-- ---- productions

abbrev pub symbols : Production → List Symbol
symbols (productions.Unary op) = Part (kinds.Expr (operand_of op)) ∷ []
symbols productions.Sizeof = Part kinds.SizeofOperand ∷ []
symbols productions.Cast = Part kinds.Specifier ∷ Part (kinds.Declarator cores.Nothing false) ∷ Said at.CloseParen ∷ Part (kinds.Expr a_cast) ∷ []
symbols productions.Parenthesised = Part (kinds.Expr 0) ∷ Said at.CloseParen ∷ []
symbols productions.TypeName = Part kinds.Specifier ∷ Part (kinds.Declarator cores.Nothing false) ∷ Said at.CloseParen ∷ []
symbols productions.Argument = Part (kinds.Expr an_assignment) ∷ []
symbols (productions.Between op) = Part (kinds.Expr (right_of op)) ∷ []
symbols productions.Choice = Part (kinds.Expr 0) ∷ Said at.Colon ∷ Part (kinds.Expr a_choice) ∷ []
symbols productions.Index = Part (kinds.Expr 0) ∷ Said at.CloseBracket ∷ []
symbols (productions.Pointer c) = Part (kinds.Declarator c false) ∷ []
symbols productions.Sized = Part (kinds.Expr a_choice) ∷ Said at.CloseBracket ∷ []
symbols productions.Parameter = Part kinds.Specifier ∷ Part (kinds.Declarator cores.Either false) ∷ []
symbols (productions.Wrap c) = Part (kinds.Declarator c true) ∷ Said at.CloseParen ∷ []
symbols productions.Single = Part (kinds.Expr an_assignment) ∷ []
symbols productions.Element = Part kinds.Initialiser ∷ []
symbols productions.FirstInit = Part (kinds.Declarator cores.Name false) ∷ []
symbols productions.InitValue = Part kinds.Initialiser ∷ []
symbols productions.NextInit = Part (kinds.Declarator cores.Name false) ∷ []
symbols productions.If = Said at.OpenParen ∷ Part (kinds.Expr 0) ∷ Said at.CloseParen ∷ Part kinds.Statement ∷ []
symbols productions.While = Said at.OpenParen ∷ Part (kinds.Expr 0) ∷ Said at.CloseParen ∷ Part kinds.Statement ∷ []
symbols productions.Do = Part kinds.Statement ∷ Said at.While ∷ Said at.OpenParen ∷ Part (kinds.Expr 0) ∷ Said at.CloseParen ∷ Said at.Semicolon ∷ []
symbols productions.Switch = Said at.OpenParen ∷ Part (kinds.Expr 0) ∷ Said at.CloseParen ∷ Said at.OpenBrace ∷ []
symbols productions.For = Said at.OpenParen ∷ Part kinds.ForFirst ∷ Part kinds.Test ∷ Part kinds.Step ∷ Part kinds.Statement ∷ []
symbols productions.Return = Part kinds.Test ∷ []
symbols productions.Plain = Part (kinds.Expr 0) ∷ Said at.Semicolon ∷ []
symbols productions.Else = Part kinds.Statement ∷ []
symbols productions.Item = Part kinds.Statement ∷ []
symbols productions.Declaration = Part kinds.Specifier ∷ Part kinds.Inits ∷ Said at.Semicolon ∷ []
symbols productions.Case = Part (kinds.Expr a_choice) ∷ Said at.Colon ∷ []
symbols productions.Default = Said at.Colon ∷ []
symbols productions.ForDeclaration = Part kinds.Specifier ∷ Part kinds.Inits ∷ Said at.Semicolon ∷ []
symbols productions.ForExpr = Part (kinds.Expr 0) ∷ Said at.Semicolon ∷ []
symbols productions.TestExpr = Part (kinds.Expr 0) ∷ Said at.Semicolon ∷ []
symbols productions.StepExpr = Part (kinds.Expr 0) ∷ Said at.CloseParen ∷ []
symbols productions.MemberSpecifier = Part kinds.MemberSpecifier ∷ []
symbols productions.MemberDeclarator = Part (kinds.Declarator cores.Name false) ∷ []
symbols productions.EnumValue = Part (kinds.Expr a_choice) ∷ []
symbols productions.External = Part kinds.OuterSpecifier ∷ Part kinds.Form ∷ []

-- the parts of a production, the latest first

abbrev pub expr_part : List Value → (Expr → List Value → Value) → Value
expr_part (values.Expr e ∷ vs) f = f e vs
expr_part _ f = values.Start

abbrev pub specifier_part : List Value → (SpecifierNode → List Value → Value) → Value
specifier_part (values.Specifier s ∷ vs) f = f s vs
specifier_part _ f = values.Start

abbrev pub declarator_part : List Value → (Declarator → List Value → Value) → Value
declarator_part (values.Declarator d ∷ vs) f = f d vs
declarator_part _ f = values.Start

abbrev pub initialiser_part : List Value → (Initialiser → List Value → Value) → Value
initialiser_part (values.Initialiser v ∷ vs) f = f v vs
initialiser_part _ f = values.Start

abbrev pub inits_part : List Value → (List Init → List Value → Value) → Value
inits_part (values.Inits xs x ∷ vs) f = f (xs ++ x ∷ []) vs
inits_part _ f = values.Start

abbrev pub statement_part : List Value → (Statement → List Value → Value) → Value
statement_part (values.Statement s ∷ vs) f = f s vs
statement_part _ f = values.Start

abbrev pub test_part : List Value → (Option Expr → List Value → Value) → Value
test_part (values.Test c ∷ vs) f = f c vs
test_part _ f = values.Start

abbrev pub step_part : List Value → (Option Expr → List Value → Value) → Value
step_part (values.Step c ∷ vs) f = f c vs
step_part _ f = values.Start

abbrev pub for_first_part : List Value → (ForFirstNode → List Value → Value) → Value
for_first_part (values.ForFirst a ∷ vs) f = f a vs
for_first_part _ f = values.Start

abbrev pub outer_part : List Value → (OuterSpecifier → List Value → Value) → Value
outer_part (values.Outer o ∷ vs) f = f o vs
outer_part _ f = values.Start

abbrev pub form_part : List Value → (ExternalForm → List Value → Value) → Value
form_part (values.Form x ∷ vs) f = f x vs
form_part _ f = values.Start

-- what is built of a value that a production began with, and of what was read behind it

abbrev pub sizeof_of : List Value → Value
sizeof_of (values.Expr e ∷ vs) = values.Expr (unary unaries.SizeOf e)
sizeof_of (values.TypeName s d ∷ vs) = values.Expr (size_of_type s d)
sizeof_of _ = values.Start

abbrev pub argument_of : Expr → List Value → Value
argument_of e (values.Call f xs ∷ vs) = values.Call f (with_expr xs e)
argument_of e _ = values.Start

abbrev pub sized_of : Expr → List Value → Value
sized_of e (values.Array d ∷ vs) = values.Declarator (sized d e)
sized_of e _ = values.Start

abbrev pub parameter_of : SpecifierNode → Declarator → List Value → Value
parameter_of s d (values.Function e ps ∷ vs) = values.Function e (with_parameter ps s d)
parameter_of s d (values.OpenDeclarator ∷ vs) = values.Function nothing (parameter_and s d no_parameters)
parameter_of s d _ = values.Start

abbrev pub element_of : Initialiser → List Value → Value
element_of v (values.Braces vs comma ∷ rest) = values.Braces (with_initialiser vs v) false
element_of v _ = values.Start

abbrev pub init_value_of : Initialiser → List Value → Value
init_value_of v (values.Inits xs x ∷ vs) = values.Inits xs (record { declarator = x.declarator; value = Some v })
init_value_of v _ = values.Start

abbrev pub next_init_of : Declarator → List Value → Value
next_init_of d (values.Inits xs x ∷ vs) = values.Inits (xs ++ x ∷ []) (record { declarator = d; value = None })
next_init_of d _ = values.Start

abbrev pub returned : Option Expr → Statement
returned None = return_none
returned (Some e) = return_value e

abbrev pub else_of : Statement → List Value → Value
else_of s (values.If c a ∷ vs) = values.Statement (if_else c a s)
else_of s _ = values.Start

abbrev pub item_of : Item → List Value → Value
item_of i (values.Items h its ∷ vs) = values.Items h (with_item its i)
item_of i _ = values.Start

abbrev pub enum_value_of : Expr → List Value → Value
enum_value_of e (values.Enumerators t xs (Some x) ∷ vs) = values.Enumerators t xs (Some (record { name = x.name; value = Some e }))
enum_value_of e _ = values.Start

abbrev pub member_head_of : MemberHead → List Value → Value
member_head_of h (values.Members t ps n some ∷ vs) = values.Member t ps n h []
member_head_of h _ = values.Start

abbrev pub opened_of : List ℕ → List Value → Value
opened_of u (values.Members t ps n some ∷ vs) = values.Members t (ps ++ pieces.Opens u ∷ []) (n + 1) false
opened_of u _ = values.Start

abbrev pub member_specifier_of : List Value → Value
member_specifier_of (values.Specifier s ∷ vs) = member_head_of (heads.Specifier s) vs
member_specifier_of (values.Enum t xs comma ∷ vs) = member_head_of (heads.Enum t xs comma) vs
member_specifier_of (values.Opens u ∷ vs) = opened_of u vs
member_specifier_of _ = values.Start

abbrev pub member_declarator_of : Declarator → List Value → Value
member_declarator_of d (values.Member t ps n h ds ∷ vs) = values.Member t ps n h (ds ++ d ∷ [])
member_declarator_of d _ = values.Start

abbrev pub build : Production → List Value → Value
build (productions.Unary op) vs = expr_part vs (λ e vs. values.Expr (unary op e))
build productions.Sizeof vs = sizeof_of vs
build productions.Cast vs = expr_part vs (λ e vs. declarator_part vs (λ d vs. specifier_part vs (λ s vs. values.Expr (cast s d e))))
build productions.Parenthesised vs = expr_part vs (λ e vs. values.Expr (paren e))
build productions.TypeName vs = declarator_part vs (λ d vs. specifier_part vs (λ s vs. values.TypeName s d))
build productions.Argument vs = expr_part vs argument_of
build (productions.Between op) vs = expr_part vs (λ b vs. expr_part vs (λ a vs. values.Expr (between op a b)))
build productions.Choice vs = expr_part vs (λ b vs. expr_part vs (λ a vs. expr_part vs (λ c vs. values.Expr (choice c a b))))
build productions.Index vs = expr_part vs (λ i vs. expr_part vs (λ a vs. values.Expr (index a i)))
build (productions.Pointer c) vs = declarator_part vs (λ d vs. values.Declarator (pointer d))
build productions.Sized vs = expr_part vs sized_of
build productions.Parameter vs = declarator_part vs (λ d vs. specifier_part vs (λ s vs. parameter_of s d vs))
build (productions.Wrap c) vs = declarator_part vs (λ d vs. values.Declarator (wrapped d))
build productions.Single vs = expr_part vs (λ e vs. values.Initialiser (single e))
build productions.Element vs = initialiser_part vs element_of
build productions.FirstInit vs = declarator_part vs (λ d vs. values.Inits [] (record { declarator = d; value = None }))
build productions.InitValue vs = initialiser_part vs init_value_of
build productions.NextInit vs = declarator_part vs next_init_of
build productions.If vs = statement_part vs (λ a vs. expr_part vs (λ c vs. values.If c a))
build productions.While vs = statement_part vs (λ s vs. expr_part vs (λ c vs. values.Statement (while_loop c s)))
build productions.Do vs = expr_part vs (λ c vs. statement_part vs (λ s vs. values.Statement (do_while s c)))
build productions.Switch vs = expr_part vs (λ e vs. values.Items (holders.Switch e) no_items)
build productions.For vs = statement_part vs (λ s vs. step_part vs (λ b vs. test_part vs (λ c vs. for_first_part vs (λ a vs. values.Statement (for_loop a c b s)))))
build productions.Return vs = test_part vs (λ c vs. values.Statement (returned c))
build productions.Plain vs = expr_part vs (λ e vs. values.Statement (plain e))
build productions.Else vs = statement_part vs else_of
build productions.Item vs = statement_part vs (λ s vs. item_of (items.Statement s) vs)
build productions.Declaration vs = inits_part vs (λ xs vs. specifier_part vs (λ s vs. item_of (items.Declaration s xs) vs))
build productions.Case vs = expr_part vs (λ e vs. item_of (items.Case e) vs)
build productions.Default vs = item_of items.Default vs
build productions.ForDeclaration vs = inits_part vs (λ xs vs. specifier_part vs (λ s vs. values.ForFirst (firsts.Declaration s xs)))
build productions.ForExpr vs = expr_part vs (λ e vs. values.ForFirst (firsts.Expr e))
build productions.TestExpr vs = expr_part vs (λ e vs. values.Test (Some e))
build productions.StepExpr vs = expr_part vs (λ e vs. values.Step (Some e))
build productions.MemberSpecifier vs = member_specifier_of vs
build productions.MemberDeclarator vs = declarator_part vs member_declarator_of
build productions.EnumValue vs = expr_part vs enum_value_of
build productions.External vs = form_part vs (λ f vs. outer_part vs (λ o vs. values.External o f))

-- ---- heights

-- what the items' braces stand behind
abbrev pub holder_height : Holder → ℕ
holder_height holders.Block = 0
holder_height (holders.Function d) = declarator_height d
holder_height (holders.Switch e) = expr_height e + 1

abbrev pub last_height : Option Enumerator → ℕ
last_height None = 0
last_height (Some x) = enumerator_height x

-- the least height of what a value becomes
abbrev pub height : Value → ℕ
height values.Start = 0
height (values.Expr e) = expr_height e
height values.Paren = 0
height (values.Call f xs) = max (expr_height f) (tallest xs) + 1
height (values.Access op e) = expr_height e + 1
height (values.TypeName s d) = declarator_height d
height (values.Declarator d) = declarator_height d
height (values.Array d) = declarator_height d + 1
height values.OpenDeclarator = 0
height (values.Function d ps) = max (declarator_height d) (tallest_parameter ps) + 1
height (values.Specifier s) = 0
height values.Tag = 0
height (values.Opens t) = 0
height values.EnumTag = 0
height (values.Enumerators t xs last) = max (tallest_of enumerator_height xs) (last_height last)
height (values.Enum t xs comma) = tallest_of enumerator_height xs
height (values.Initialiser v) = initialiser_height v
height (values.Braces vs comma) = tallest_initialiser vs + 1
height (values.Inits xs x) = max (tallest_of init_height xs) (init_height x)
height (values.Statement s) = statement_height s
height (values.If c a) = max (expr_height c) (statement_height a) + 1
height (values.Items h its) = max (holder_height h) (tallest_item its + 1)
height (values.Jump j) = 1
height (values.ForFirst a) = first_height a
height (values.Test c) = clause_height c
height (values.Step c) = clause_height c
height (values.Outer o) = outer_height o
height (values.Members t ps n some) = max (tallest_of piece_height ps) 1
height (values.Member t ps n h ds) = max (max (tallest_of piece_height ps) (max (head_height h) (tallest_of declarator_height ds))) 1
height (values.Form f) = form_height f
height (values.External o f) = max (outer_height o) (form_height f)

-- the least height of a part of which nothing is read
abbrev pub least_of : Kind → ℕ
least_of (kinds.Expr k) = 1
least_of kinds.SizeofOperand = 0
least_of (kinds.Declarator cores.Name i) = 1
least_of (kinds.Declarator cores.Nothing i) = if i then 1 else 0
least_of (kinds.Declarator cores.Either i) = if i then 1 else 0
least_of kinds.Specifier = 0
least_of kinds.OuterSpecifier = 0
least_of kinds.MemberSpecifier = 0
least_of kinds.Initialiser = 1
least_of kinds.Inits = 1
least_of kinds.Statement = 1
least_of kinds.ForFirst = 0
least_of kinds.Test = 0
least_of kinds.Step = 0
least_of kinds.Form = 0
least_of kinds.External = 0

abbrev pub least_paren : Kind → ℕ
least_paren kinds.SizeofOperand = 0
least_paren _ = 2

abbrev pub least_open : Core → ℕ
least_open cores.Name = 2
least_open _ = 1

abbrev pub least_braces : Initialisers → ℕ
least_braces vs = if are_no_values vs then 2 else tallest_initialiser vs + 1

-- the least height of what a value becomes as a part of this kind
abbrev pub least : Kind → Value → ℕ
least K values.Start = least_of K
least K values.Paren = least_paren K
least K values.OpenDeclarator = least_open (core_at K)
least K (values.Braces vs comma) = least_braces vs
least K v = height v

-- how much higher a production is than what it began with
abbrev pub lift : Production → ℕ
lift (productions.Between op) = 1
lift productions.Choice = 1
lift productions.Index = 1
lift _ = 0

-- how much higher a production is than its other parts
abbrev pub rise : Production → ℕ
rise productions.TypeName = 0
rise productions.Single = 0
rise productions.FirstInit = 0
rise productions.InitValue = 0
rise productions.NextInit = 0
rise productions.ForDeclaration = 0
rise productions.ForExpr = 0
rise productions.TestExpr = 0
rise productions.StepExpr = 0
rise productions.EnumValue = 0
rise productions.MemberSpecifier = 0
rise productions.MemberDeclarator = 0
rise productions.External = 0
rise _ = 1

-- ---- open productions and states

-- a production that begins with a value
abbrev pub first_frame : Kind → Production → Value → Frame
first_frame K r v = record { kind = K; production = r; rest = symbols r; parts = v ∷ []; base = height v + lift r }

-- what has been read of a production with one more part
abbrev pub with_part : Frame → Value → Frame
with_part f v = record { kind = f.kind; production = f.production; rest = f.rest; parts = v ∷ f.parts; base = max f.base (height v + rise f.production) }

abbrev pub with_rest : Frame → List Symbol → Frame
with_rest f ss = record { kind = f.kind; production = f.production; rest = ss; parts = f.parts; base = f.base }

-- What comes next: more behind a value in hand, or a word of an open production.
pub data Goal : Type 0 where
  made : Kind → Value → Goal
  expects : Terminal → Frame → Goal

pub record State : Type 0 where
  pub goal : Goal
  pub waiting : List Frame

-- a production of which this is still to come
abbrev pub opened : Frame → List Symbol → List Frame → State
opened f [] fs = record { goal = made f.kind (build f.production f.parts); waiting = fs }
opened f (Said p ∷ ss) fs = record { goal = expects p (with_rest f ss); waiting = fs }
opened f (Part K ∷ ss) fs = record { goal = made K values.Start; waiting = with_rest f ss ∷ fs }

-- ---- steps

-- What becomes of a state at a word: whether the word is taken, and the state.
pub data Move : Type 0 where
  takes : State → Move
  goes : State → Move
  stops : Move

-- a complete value goes to the frame that waits for it
abbrev pub resumes : Option Value → List Frame → Move
resumes None fs = stops
resumes (Some v) [] = stops
resumes (Some v) (f ∷ fs) = goes (opened (with_part f v) f.rest fs)

abbrev pub acted : Kind → Value → List Frame → Action → Move
acted K v fs (joined u) = takes (record { goal = made K u; waiting = fs })
acted K v fs (opens r) = takes (opened (first_frame K r v) (symbols r) fs)
acted K v fs (begins r) = goes (opened (first_frame K r v) (symbols r) fs)
acted K v fs stuck = resumes (rests K v) fs

abbrev pub step : Goal → List Frame → Word → Move
step (made K v) fs w = acted K v fs (action K v w)
step (expects p f) fs w = if is p w then takes (opened f f.rest fs) else stops

-- the step where no word follows
abbrev pub end_step : Goal → List Frame → Move
end_step (made K v) fs = resumes (rests K v) fs
end_step (expects p f) fs = stops
