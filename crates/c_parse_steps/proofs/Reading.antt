-- What is spelled so is read so: specifiers, expressions and declarators.
use Rattle.std.proofs.Common.{◌≡◌, ℕ, suc, ◌≤◌, Bool, true, false, ◌&&◌, nat_le, if◌then◌else◌, List, [], ◌∷◌, Option, Some, None, refl, sym, ◌∙◌, ap, subst, arith}
use Rattle.c_tree.specs.declared.specifier.Combination.{Combination}
use Rattle.c_tree.specs.Operators.{and_word}
use Rattle.c_token.specs.declared.word.Mark.TheVariants as marks
use Rattle.c_token.specs.declared.word.Keyword.{Keyword}
use Rattle.c_token.specs.declared.word.Keyword.TheVariants as keywords
use Rattle.c_token.specs.declared.word.Word.{Word}
use Rattle.c_token.specs.declared.word.Word.TheVariants as words
use Rattle.c_tree.specs.declared.operators.Infix.{Infix}
use Rattle.c_tree.specs.declared.operators.UnaryOp.{UnaryOp}
use Rattle.c_tree.specs.declared.operators.UnaryOp.TheVariants as unaries
use Rattle.c_tree.specs.declared.operators.StepOp.{StepOp}
use Rattle.c_tree.specs.declared.operators.StepOp.TheVariants as steps
use Rattle.c_tree.specs.declared.operators.Access.{Access}
use Rattle.c_tree.specs.declared.operators.Access.TheVariants as accesses
use Rattle.c_tree.specs.declared.specifier.IntegerWord.{IntegerWord}
use Rattle.c_tree.specs.declared.specifier.IntegerWord.TheVariants as integers
use Rattle.c_tree.specs.declared.specifier.IntegerWords.{IntegerWords}
use Rattle.c_tree.specs.declared.specifier.IntegerWords.TheVariants.{One, Two, Three, Four}
use Rattle.c_tree.specs.declared.specifier.SpecifierNode.{SpecifierNode}
use Rattle.c_tree.specs.declared.specifier.SpecifierNode.TheVariants as specifiers
use Rattle.c_tree.specs.Operators.{infix_mark, unary_word, step_mark, access_mark, integer_keyword, makes, left_of, right_of, operand_of, combination, extended, is_said, kept, an_assignment, a_choice, an_or, a_cast, a_unary, a_postfix}
use Rattle.c_tree.specs.declared.tree.Core.{Core}
use Rattle.c_tree.specs.declared.tree.Core.TheVariants as cores
use Rattle.c_tree.specs.Tree.{Expr, name, integer, character, string, paren, index, call, member, after, unary, size_of_type, cast, between, choice, Exprs, no_exprs, expr_and, Declarator, named, nothing, pointer, array, sized, wrapped, function, function_void, Parameters, no_parameters, parameter_and}
use Rattle.c_tree.specs.refinement.Views.{with_expr, with_parameter}
use Rattle.c_tree.specs.Grammar.{mark, keyword, spell_integer, spell_specifier, spell, spell_rest, spell_declarator, spell_parameters, spell_more, FitsSpecifier, level, IsDirect, IsSomething, AreParameters, FitsExpr, FitArguments, FitsDeclarator, FitParameters}
use Rattle.c_productions.specs.declared.kind.Kind.{Kind}
use Rattle.c_productions.specs.declared.kind.Kind.TheVariants as kinds
use Rattle.c_productions.specs.declared.kind.Production.{Production}
use Rattle.c_productions.specs.declared.kind.Production.TheVariants as productions
use Rattle.c_productions.specs.declared.kind.Terminal.TheVariants as at
use Rattle.c_productions.specs.declared.value.Value.{Value}
use Rattle.c_productions.specs.declared.value.Value.TheVariants as values
use Rattle.c_productions.specs.declared.frame.Frame.{Frame}
use Rattle.c_productions.specs.refinement.Classes.{infix_at, step_at, access_at, integer_at, begins_specifier, is_specifier, is_mark, is}
use Rattle.c_productions.specs.refinement.Table.{joined, opens, begins, only, if_some, on_mark, on_keyword, level_at, operand, specifier_keyword, begin, closed, action, rests, symbols, build, State}
use Rattle.c_productions.specs.refinement.Meaning.{IsAsked, ExprVal, an_expr, a_type, DeclaratorVal, SpecifierVal, OfExpr, OfSpecifier, Parts, onto, written_rest, Reaches, here}
use Rattle.c_parse_steps.proofs.Reach.{followed, st, joins, production_said, production_begun, rests_reach, IsStuck, ReadsPart, AllRead}
use Rattle.c_parse_steps.proofs.Firsts.{le_test, right_small, makes_left, infix_of, strength, first_strength, infix_strength_of, floor, low_floor, floor_of_postfix, floor_left, stops_expr, begins_operand, begins_with, operand_no_specifier, operand_no_close, operand_no_bracket, begin_expr, specifier_begins, EndsSpecifier, specifier_stops, EndsDeclarator, declarator_stops, nothing_stops, declarator_first}

pub chain : {s t u : State} {ws vs us : List Word} → Reaches s ws t vs → Reaches t vs u us → Reaches s ws u us
chain {s} {t} {u} {ws} {vs} {us} a b = followed s t u ws vs us a b

-- a production that begins with an expression
pub begun_expr : (K : Kind) (v : Value) (r : Production) (fs : List Frame) (y : Parts (symbols r)) (q : List Word) (e : Expr) (text : List Word) → written_rest (symbols r) y q ≡ spell e text → ((w : Word) → begins_operand w ≡ true → action K v w ≡ begins r) → AllRead (symbols r) y q → Reaches (st K v fs) (written_rest (symbols r) y q) (st K (build r (onto (symbols r) y (v ∷ []))) fs) q
begun_expr K v r fs y q e text s law a = let b = begins_with e text in production_begun K v r fs b.first b.rest y q (s ∙ b.same) (law b.first b.operand) a

-- a production that begins with a specifier
pub begun_specifier : (K : Kind) (v : Value) (r : Production) (fs : List Frame) (y : Parts (symbols r)) (q : List Word) (x : SpecifierNode) (text : List Word) → written_rest (symbols r) y q ≡ spell_specifier x text → ((k : Keyword) → begins_specifier k ≡ true → action K v (words.Keyword k) ≡ begins r) → AllRead (symbols r) y q → Reaches (st K v fs) (written_rest (symbols r) y q) (st K (build r (onto (symbols r) y (v ∷ []))) fs) q
begun_specifier K v r fs y q x text s law a = let b = specifier_begins x text in production_begun K v r fs (words.Keyword b.first) b.rest y q (s ∙ b.same) (law b.first b.specifier) a

-- ---- specifiers

begin_specifier : (K : Kind) (w : Word) → OfSpecifier K → begin K w ≡ on_keyword w specifier_keyword
begin_specifier kinds.Specifier w o = refl
begin_specifier kinds.OuterSpecifier w o = refl
begin_specifier kinds.MemberSpecifier w o = refl
begin_specifier _ w o = absurd o

one_word : (a : IntegerWord) → specifier_keyword (integer_keyword a) ≡ joined (values.Specifier (specifiers.Integer (One a)))
one_word integers.Char = refl
one_word _ = refl

integer_of : (a : IntegerWord) → integer_at (integer_keyword a) ≡ Some a
integer_of integers.Char = refl
integer_of _ = refl

first_integer : (K : Kind) (a : IntegerWord) (fs : List Frame) (r : List Word) → OfSpecifier K → Reaches (st K values.Start fs) (keyword (integer_keyword a) r) (st K (values.Specifier (specifiers.Integer (One a))) fs) r
first_integer K a fs r o = joins K values.Start (values.Specifier (specifiers.Integer (One a))) fs (words.Keyword (integer_keyword a)) r (begin_specifier K (words.Keyword (integer_keyword a)) o ∙ one_word a)

next_integer : (K : Kind) (ws more : IntegerWords) (x : IntegerWord) (fs : List Frame) (r : List Word) → extended ws x ≡ Some more → Reaches (st K (values.Specifier (specifiers.Integer ws)) fs) (keyword (integer_keyword x) r) (st K (values.Specifier (specifiers.Integer more)) fs) r
next_integer K ws more x fs r e = joins K (values.Specifier (specifiers.Integer ws)) (values.Specifier (specifiers.Integer more)) fs (words.Keyword (integer_keyword x)) r (rw (integer_of x, e) refl)

kept_said : (o : Option Combination) (ws : IntegerWords) → is_said o ≡ true → kept o ws ≡ Some ws
kept_said None ws e = cc
kept_said (Some c) ws e = refl

said_before : (o : Option Combination) (x : IntegerWord) → is_said (and_word o x) ≡ true → is_said o ≡ true
said_before None x e = e
said_before (Some c) x e = refl

integers_read : (K : Kind) (ws : IntegerWords) (fs : List Frame) (r : List Word) → OfSpecifier K → is_said (combination ws) ≡ true → Reaches (st K values.Start fs) (spell_integer ws r) (st K (values.Specifier (specifiers.Integer ws)) fs) r
integers_read K (One a) fs r o f = first_integer K a fs r o
integers_read K (Two a b) fs r o f = chain (first_integer K a fs (keyword (integer_keyword b) r) o) (next_integer K (One a) (Two a b) b fs r (kept_said (combination (Two a b)) (Two a b) f))
integers_read K (Three a b c) fs r o f =
    let g = said_before (combination (Two a b)) c f in
    chain (first_integer K a fs (keyword (integer_keyword b) (keyword (integer_keyword c) r)) o)
    (chain (next_integer K (One a) (Two a b) b fs (keyword (integer_keyword c) r) (kept_said (combination (Two a b)) (Two a b) g))
    (next_integer K (Two a b) (Three a b c) c fs r (kept_said (combination (Three a b c)) (Three a b c) f)))
integers_read K (Four a b c d) fs r o f =
    let g = said_before (combination (Three a b c)) d f in
    let h = said_before (combination (Two a b)) c g in
    chain (first_integer K a fs (keyword (integer_keyword b) (keyword (integer_keyword c) (keyword (integer_keyword d) r))) o)
    (chain (next_integer K (One a) (Two a b) b fs (keyword (integer_keyword c) (keyword (integer_keyword d) r)) (kept_said (combination (Two a b)) (Two a b) h))
    (chain (next_integer K (Two a b) (Three a b c) c fs (keyword (integer_keyword d) r) (kept_said (combination (Three a b c)) (Three a b c) g))
    (next_integer K (Three a b c) (Four a b c d) d fs r (kept_said (combination (Four a b c d)) (Four a b c d) f))))

pub tag_reads : (K : Kind) (t : List ℕ) (fs : List Frame) (r : List Word) → OfSpecifier K → Reaches (st K values.Start fs) (keyword keywords.Struct (words.Name t ∷ r)) (st K (values.Specifier (specifiers.Struct t)) fs) r
tag_reads K t fs r o =
    chain (joins K values.Start values.Tag fs (words.Keyword keywords.Struct) (words.Name t ∷ r) (begin_specifier K (words.Keyword keywords.Struct) o))
    (joins K values.Tag (values.Specifier (specifiers.Struct t)) fs (words.Name t) r refl)

pub enum_word_reads : (K : Kind) (fs : List Frame) (r : List Word) → OfSpecifier K → Reaches (st K values.Start fs) (keyword keywords.Enum r) (st K values.EnumTag fs) r
enum_word_reads K fs r o = joins K values.Start values.EnumTag fs (words.Keyword keywords.Enum) r (begin_specifier K (words.Keyword keywords.Enum) o)

pub enum_tag_reads : (K : Kind) (t : List ℕ) (fs : List Frame) (r : List Word) → OfSpecifier K → Reaches (st K values.Start fs) (keyword keywords.Enum (words.Name t ∷ r)) (st K (values.Specifier (specifiers.Enum t)) fs) r
enum_tag_reads K t fs r o = chain (enum_word_reads K fs (words.Name t ∷ r) o) (joins K values.EnumTag (values.Specifier (specifiers.Enum t)) fs (words.Name t) r refl)

pub specifier_reads : (K : Kind) (s : SpecifierNode) (fs : List Frame) (r : List Word) → OfSpecifier K → FitsSpecifier s → Reaches (st K values.Start fs) (spell_specifier s r) (st K (values.Specifier s) fs) r
specifier_reads K specifiers.Void fs r o f = joins K values.Start (values.Specifier specifiers.Void) fs (words.Keyword keywords.Void) r (begin_specifier K (words.Keyword keywords.Void) o)
specifier_reads K specifiers.SizeT fs r o f = joins K values.Start (values.Specifier specifiers.SizeT) fs (words.Keyword keywords.SizeT) r (begin_specifier K (words.Keyword keywords.SizeT) o)
specifier_reads K specifiers.PtrdiffT fs r o f = joins K values.Start (values.Specifier specifiers.PtrdiffT) fs (words.Keyword keywords.PtrdiffT) r (begin_specifier K (words.Keyword keywords.PtrdiffT) o)
specifier_reads K (specifiers.Integer ws) fs r o f = integers_read K ws fs r o f
specifier_reads K (specifiers.Struct t) fs r o f = tag_reads K t fs r o
specifier_reads K (specifiers.Enum t) fs r o f = enum_tag_reads K t fs r o

abbrev pub specifier_val : (s : SpecifierNode) → FitsSpecifier s → SpecifierVal
specifier_val s f = record { tree = s; fits = f }

pub specifier_part : (s : SpecifierNode) (f : FitsSpecifier s) (r : List Word) → EndsSpecifier r → ReadsPart kinds.Specifier (specifier_val s f) r
specifier_part s f r e g fs = chain (specifier_reads kinds.Specifier s (g ∷ fs) r tt f) (rests_reach kinds.Specifier (values.Specifier s) (values.Specifier s) g fs r refl (specifier_stops kinds.Specifier s r e))

-- ---- expressions

small : (K : Kind) → OfExpr K → level_at K ≤ a_unary
small (kinds.Expr k) o = o
small _ o = omega arith

abbrev pub ReadsExpr : Expr → Type 0
ReadsExpr e = (K : Kind) (fs : List Frame) (r : List Word) → OfExpr K → FitsExpr e → level_at K ≤ level e → first_strength r ≤ floor e → Reaches (st K values.Start fs) (spell e r) (st K (values.Expr e) fs) r

abbrev pub expr_val : (k : ℕ) (e : Expr) → k ≤ level e → FitsExpr e → ExprVal k
expr_val k e t f = record { tree = e; tight = t; fits = f }

-- an expression for which a frame waits, where no word follows that holds it more tightly
pub inner : (e : Expr) → ReadsExpr e → (k : ℕ) (t : k ≤ level e) (f : FitsExpr e) (r : List Word) → k ≤ a_unary → first_strength r ≤ k → first_strength r ≤ a_cast → ReadsPart (kinds.Expr k) (expr_val k e t f) r
inner e ih k t f r o h c g fs =
    chain (ih (kinds.Expr k) (g ∷ fs) r o f t (low_floor e (first_strength r) (omega (arith, h, t)) c))
    (rests_reach (kinds.Expr k) (values.Expr e) (values.Expr e) g fs r refl (stops_expr (kinds.Expr k) e r o h))

sized_operand : (e : Expr) → ReadsExpr e → (t : a_unary ≤ level e) (f : FitsExpr e) (r : List Word) → first_strength r ≤ a_cast → ReadsPart kinds.SizeofOperand (an_expr (expr_val a_unary e t f)) r
sized_operand e ih t f r c g fs =
    chain (ih kinds.SizeofOperand (g ∷ fs) r tt f t (low_floor e (first_strength r) (omega (arith, c, t)) c))
    (rests_reach kinds.SizeofOperand (values.Expr e) (values.Expr e) g fs r refl (stops_expr kinds.SizeofOperand e r (omega arith) (omega (arith, c))))

leaf_reads : (w : Word) (e : Expr) → ((r : List Word) → spell e r ≡ w ∷ r) → operand w ≡ joined (values.Expr e) → ReadsExpr e
leaf_reads w e s j K fs r o f l h =
    let P : List Word → Type 0 = λ x. Reaches (st K values.Start fs) x (st K (values.Expr e) fs) r in
    subst P (sym (s r)) (joins K values.Start (values.Expr e) fs w r (begin_expr K w o ∙ j))

paren_reads : (e : Expr) → ReadsExpr e → ReadsExpr (paren e)
paren_reads e ih K fs r o f l h =
    let text = mark marks.CloseParen r in
    let z : 0 ≤ level e = omega arith in
    chain (joins K values.Start values.Paren fs (words.Mark marks.OpenParen) (spell e text) (begin_expr K (words.Mark marks.OpenParen) o))
    (begun_expr K values.Paren productions.Parenthesised fs (expr_val 0 e z f, tt) r e text refl (λ w b. rw (operand_no_specifier w b) refl)
    (inner e ih 0 z f text (omega arith) (omega arith) (omega arith), tt))

index_reads : (a i : Expr) → ReadsExpr a → ReadsExpr i → ReadsExpr (index a i)
index_reads a i ia ii K fs r o f l h =
    let text = mark marks.CloseBracket r in
    let z : 0 ≤ level i = omega arith in
    chain (ia K fs (mark marks.OpenBracket (spell i text)) o f.1 (omega (arith, small K o, f.0)) (floor_of_postfix a f.0))
    (production_said K (values.Expr a) productions.Index fs (words.Mark marks.OpenBracket) (expr_val 0 i z f.2, tt) r (rw (le_test a_postfix (level a) f.0) refl)
    (inner i ii 0 z f.2 text (omega arith) (omega arith) (omega arith), tt))

access_of : (op : Access) (e : Expr) → a_postfix ≤ level e → (k : ℕ) → on_mark (words.Mark (access_mark op)) (λ m. if_some (infix_at m) (λ o. only (nat_le k (makes o) && nat_le (left_of o) (level e)) (opens (productions.Between o))) (if is_mark at.Question m then only (nat_le k a_choice && nat_le an_or (level e)) (opens productions.Choice) else only (nat_le a_postfix (level e)) (if_some (step_at m) (λ o. joined (values.Expr (after o e))) (if_some (access_at m) (λ o. joined (values.Access o e)) (if is_mark at.OpenBracket m then opens productions.Index else only (is_mark at.OpenParen m) (joined (values.Call e no_exprs))))))) ≡ joined (values.Access op e)
access_of accesses.Dot e l k = rw (le_test a_postfix (level e) l) refl
access_of accesses.Arrow e l k = rw (le_test a_postfix (level e) l) refl

member_reads : (op : Access) (e : Expr) (n : List ℕ) → ReadsExpr e → ReadsExpr (member op e n)
member_reads op e n ih K fs r o f l h =
    let low : strength (words.Mark (access_mark op)) ≤ 16 = access_strength op in
    chain (ih K fs (mark (access_mark op) (words.Name n ∷ r)) o f.1 (omega (arith, small K o, f.0)) (omega (arith, low, floor_of_postfix e f.0)))
    (chain (joins K (values.Expr e) (values.Access op e) fs (words.Mark (access_mark op)) (words.Name n ∷ r) (access_of op e f.0 (level_at K)))
    (joins K (values.Access op e) (values.Expr (member op e n)) fs (words.Name n) r refl))
  where
    access_strength : (op : Access) → strength (words.Mark (access_mark op)) ≤ 16
    access_strength accesses.Dot = omega arith
    access_strength accesses.Arrow = omega arith

step_of : (op : StepOp) (K : Kind) (e : Expr) → a_postfix ≤ level e → action K (values.Expr e) (words.Mark (step_mark op)) ≡ joined (values.Expr (after op e))
step_of steps.Increment K e l = rw (le_test a_postfix (level e) l) refl
step_of steps.Decrement K e l = rw (le_test a_postfix (level e) l) refl

after_reads : (op : StepOp) (e : Expr) → ReadsExpr e → ReadsExpr (after op e)
after_reads op e ih K fs r o f l h =
    let low : strength (words.Mark (step_mark op)) ≤ 16 = step_strength op in
    chain (ih K fs (mark (step_mark op) r) o f.1 (omega (arith, small K o, f.0)) (omega (arith, low, floor_of_postfix e f.0)))
    (joins K (values.Expr e) (values.Expr (after op e)) fs (words.Mark (step_mark op)) r (step_of op K e f.0))
  where
    step_strength : (op : StepOp) → strength (words.Mark (step_mark op)) ≤ 16
    step_strength steps.Increment = omega arith
    step_strength steps.Decrement = omega arith

prefix_reads : (op : UnaryOp) (e : Expr) → ReadsExpr e → operand (unary_word op) ≡ opens (productions.Unary op) → operand_of op ≤ a_unary → a_cast ≤ operand_of op → ReadsExpr (unary op e)
prefix_reads op e ih q u c K fs r o f l h =
    production_said K values.Start (productions.Unary op) fs (unary_word op) (expr_val (operand_of op) e f.0 f.1, tt) r (begin_expr K (unary_word op) o ∙ q)
    (inner e ih (operand_of op) f.0 f.1 r u (omega (arith, h, c)) h, tt)

sizeof_reads : (e : Expr) → ReadsExpr e → ReadsExpr (unary unaries.SizeOf e)
sizeof_reads e ih K fs r o f l h =
    production_said K values.Start productions.Sizeof fs (words.Keyword keywords.Sizeof) (an_expr (expr_val a_unary e f.0 f.1), tt) r (begin_expr K (words.Keyword keywords.Sizeof) o)
    (sized_operand e ih f.0 f.1 r h, tt)

unary_reads : (op : UnaryOp) (e : Expr) → ReadsExpr e → ReadsExpr (unary op e)
unary_reads unaries.SizeOf e ih = sizeof_reads e ih
unary_reads unaries.AddressOf e ih = prefix_reads unaries.AddressOf e ih refl (omega arith) (omega arith)
unary_reads unaries.Deref e ih = prefix_reads unaries.Deref e ih refl (omega arith) (omega arith)
unary_reads unaries.Plus e ih = prefix_reads unaries.Plus e ih refl (omega arith) (omega arith)
unary_reads unaries.Minus e ih = prefix_reads unaries.Minus e ih refl (omega arith) (omega arith)
unary_reads unaries.Complement e ih = prefix_reads unaries.Complement e ih refl (omega arith) (omega arith)
unary_reads unaries.Not e ih = prefix_reads unaries.Not e ih refl (omega arith) (omega arith)
unary_reads unaries.Increment e ih = prefix_reads unaries.Increment e ih refl (omega arith) (omega arith)
unary_reads unaries.Decrement e ih = prefix_reads unaries.Decrement e ih refl (omega arith) (omega arith)

between_reads : (op : Infix) (a b : Expr) → ReadsExpr a → ReadsExpr b → ReadsExpr (between op a b)
between_reads op a b ia ib K fs r o f l h =
    let w = words.Mark (infix_mark op) in
    let low : strength w ≤ floor a = rw (infix_strength_of op) (floor_left op a f.0) in
    chain (ia K fs (w ∷ spell b r) o f.2 (omega (arith, l, f.0, makes_left op)) low)
    (production_said K (values.Expr a) (productions.Between op) fs w (expr_val (right_of op) b f.1 f.3, tt) r (rw (infix_of op, le_test (level_at K) (makes op) l, le_test (left_of op) (level a) f.0) refl)
    (inner b ib (right_of op) f.1 f.3 r (omega (arith, right_small op)) h (omega (arith, h, right_small op)), tt))

choice_reads : (c a b : Expr) → ReadsExpr c → ReadsExpr a → ReadsExpr b → ReadsExpr (choice c a b)
choice_reads c a b ic ia ib K fs r o f l h =
    let text = mark marks.Colon (spell b r) in
    let z : 0 ≤ level a = omega arith in
    chain (ic K fs (mark marks.Question (spell a text)) o f.2 (omega (arith, l, f.0)) (low_floor c (suc a_choice) f.0 (omega arith)))
    (production_said K (values.Expr c) productions.Choice fs (words.Mark marks.Question) (expr_val 0 a z f.3, (expr_val a_choice b f.1 f.4, tt)) r (rw (le_test (level_at K) a_choice l, le_test an_or (level c) f.0) refl)
    (inner a ia 0 z f.3 text (omega arith) (omega arith) (omega arith), (inner b ib a_choice f.1 f.4 r (omega arith) h (omega (arith, h)), tt)))

-- ---- arguments

abbrev joined_args : Exprs → Exprs → Exprs
joined_args no_exprs ys = ys
joined_args (expr_and x xs) ys = expr_and x (joined_args xs ys)

args_end : (xs : Exprs) → joined_args xs no_exprs ≡ xs
args_end no_exprs = refl
args_end (expr_and x xs) = ap (λ ys. expr_and x ys) (args_end xs)

args_more : (xs : Exprs) (e : Expr) (ys : Exprs) → joined_args (with_expr xs e) ys ≡ joined_args xs (expr_and e ys)
args_more no_exprs e ys = refl
args_more (expr_and x xs) e ys = ap (λ zs. expr_and x zs) (args_more xs e ys)

rest_strength : (es : Exprs) (r : List Word) → first_strength (spell_rest es (mark marks.CloseParen r)) ≤ 1
rest_strength no_exprs r = omega arith
rest_strength (expr_and e es) r = omega arith

abbrev ReadsRest : Exprs → Type 0
ReadsRest es = (K : Kind) (g : Expr) (a : Expr) (xs : Exprs) (fs : List Frame) (r : List Word) → FitArguments es → Reaches (st K (values.Call g (expr_and a xs)) fs) (spell_rest es (mark marks.CloseParen r)) (st K (values.Expr (call g (expr_and a (joined_args xs es)))) fs) r

no_more_args : ReadsRest no_exprs
no_more_args K g a xs fs r f =
    let P : Exprs → Type 0 = λ ys. Reaches (st K (values.Call g (expr_and a xs)) fs) (mark marks.CloseParen r) (st K (values.Expr (call g (expr_and a ys))) fs) r in
    subst P (sym (args_end xs)) (joins K (values.Call g (expr_and a xs)) (values.Expr (call g (expr_and a xs))) fs (words.Mark marks.CloseParen) r refl)

next_arg : (e : Expr) (es : Exprs) → ReadsExpr e → ReadsRest es → ReadsRest (expr_and e es)
next_arg e es ih is K g a xs fs r f =
    let text = spell_rest es (mark marks.CloseParen r) in
    let P : Exprs → Type 0 = λ ys. Reaches (st K (values.Call g (expr_and a xs)) fs) (mark marks.Comma (spell e text)) (st K (values.Expr (call g (expr_and a ys))) fs) r in
    subst P (args_more xs e es)
    (chain (production_said K (values.Call g (expr_and a xs)) productions.Argument fs (words.Mark marks.Comma) (expr_val an_assignment e f.0 f.1, tt) text refl
    (inner e ih an_assignment f.0 f.1 text (omega arith) (rest_strength es r) (omega (arith, rest_strength es r)), tt))
    (is K g a (with_expr xs e) fs r f.2))

call_opens : (g : Expr) → ReadsExpr g → (K : Kind) (fs : List Frame) (ws : List Word) → OfExpr K → a_postfix ≤ level g → FitsExpr g → Reaches (st K values.Start fs) (spell g (mark marks.OpenParen ws)) (st K (values.Call g no_exprs) fs) ws
call_opens g ih K fs ws o l f =
    chain (ih K fs (mark marks.OpenParen ws) o f (omega (arith, small K o, l)) (floor_of_postfix g l))
    (joins K (values.Expr g) (values.Call g no_exprs) fs (words.Mark marks.OpenParen) ws (rw (le_test a_postfix (level g) l) refl))

call_none : (g : Expr) → ReadsExpr g → ReadsExpr (call g no_exprs)
call_none g ih K fs r o f l h = chain (call_opens g ih K fs (mark marks.CloseParen r) o f.0 f.1) (joins K (values.Call g no_exprs) (values.Expr (call g no_exprs)) fs (words.Mark marks.CloseParen) r refl)

call_some : (g e : Expr) (es : Exprs) → ReadsExpr g → ReadsExpr e → ReadsRest es → ReadsExpr (call g (expr_and e es))
call_some g e es ig ie is K fs r o f l h =
    let text = spell_rest es (mark marks.CloseParen r) in
    let a = f.2 in
    chain (call_opens g ig K fs (spell e text) o f.0 f.1)
    (chain (begun_expr K (values.Call g no_exprs) productions.Argument fs (expr_val an_assignment e a.0 a.1, tt) text e text refl (λ w b. rw (operand_no_close w b) refl)
    (inner e ie an_assignment a.0 a.1 text (omega arith) (rest_strength es r) (omega (arith, rest_strength es r)), tt))
    (is K g e no_exprs fs r a.2))

-- ---- declarators

-- what is in hand behind a declarator that is no pointer
abbrev hand : Declarator → Value
hand nothing = values.Start
hand d = values.Declarator d

-- and behind the parenthesis of parameters
abbrev open_hand : Declarator → Value
open_hand nothing = values.OpenDeclarator
open_hand d = values.Function d no_parameters

abbrev pub declarator_val : (c : Core) (i : Bool) (d : Declarator) → IsAsked i d → FitsDeclarator c d → DeclaratorVal c i
declarator_val c i d a f = record { tree = d; asked = a; fits = f }

pub record Declares (d : Declarator) : Type 0 where
  pub direct : IsDirect d → (c : Core) (i : Bool) (fs : List Frame) (r : List Word) → FitsDeclarator c d → Reaches (st (kinds.Declarator c i) values.Start fs) (spell_declarator d r) (st (kinds.Declarator c i) (hand d) fs) r
  pub all : (c : Core) (i : Bool) (a : IsAsked i d) (f : FitsDeclarator c d) (r : List Word) → EndsDeclarator r → ReadsPart (kinds.Declarator c i) (declarator_val c i d a f) r

hand_rests : (c : Core) (i : Bool) (d : Declarator) → IsDirect d → FitsDeclarator c d → IsAsked i d → rests (kinds.Declarator c i) (hand d) ≡ Some (values.Declarator d)
hand_rests c i (pointer d) h f a = absurd h
hand_rests c true nothing h f a = absurd a
hand_rests cores.Nothing false nothing h f a = refl
hand_rests cores.Either false nothing h f a = refl
hand_rests cores.Name false nothing h f a = cc
hand_rests c i (named n) h f a = refl
hand_rests c i (array d) h f a = refl
hand_rests c i (sized d l) h f a = refl
hand_rests c i (wrapped d) h f a = refl
hand_rests c i (function d ps) h f a = refl
hand_rests c i (function_void d) h f a = refl

hand_stops : (c : Core) (i : Bool) (d : Declarator) (ws : List Word) → IsDirect d → EndsDeclarator ws → IsStuck (kinds.Declarator c i) (hand d) ws
hand_stops c i (pointer d) ws h e = absurd h
hand_stops c i nothing ws h e = nothing_stops c i ws e
hand_stops c i (named n) ws h e = declarator_stops (kinds.Declarator c i) (named n) ws e
hand_stops c i (array d) ws h e = declarator_stops (kinds.Declarator c i) (array d) ws e
hand_stops c i (sized d l) ws h e = declarator_stops (kinds.Declarator c i) (sized d l) ws e
hand_stops c i (wrapped d) ws h e = declarator_stops (kinds.Declarator c i) (wrapped d) ws e
hand_stops c i (function d ps) ws h e = declarator_stops (kinds.Declarator c i) (function d ps) ws e
hand_stops c i (function_void d) ws h e = declarator_stops (kinds.Declarator c i) (function_void d) ws e

by_direct : (d : Declarator) → IsDirect d → ((c : Core) (i : Bool) (fs : List Frame) (r : List Word) → FitsDeclarator c d → Reaches (st (kinds.Declarator c i) values.Start fs) (spell_declarator d r) (st (kinds.Declarator c i) (hand d) fs) r) → Declares d
by_direct d h direct =
    record {
      direct = λ _. direct;
      all = λ c i a f r e g fs. chain (direct c i (g ∷ fs) r f) (rests_reach (kinds.Declarator c i) (hand d) (values.Declarator d) g fs r (hand_rests c i d h f a) (hand_stops c i d r h e));
    }

named_declares : (n : List ℕ) → Declares (named n)
named_declares n = by_direct (named n) tt (λ c i fs r f. joins (kinds.Declarator c i) values.Start (values.Declarator (named n)) fs (words.Name n) r (rw f refl))

nothing_declares : Declares nothing
nothing_declares = by_direct nothing tt (λ c i fs r f. here (st (kinds.Declarator c i) values.Start fs) r)

pointer_declares : (d : Declarator) → Declares d → Declares (pointer d)
pointer_declares d h =
    record {
      direct = λ x. absurd x;
      all = λ c i a f r e g fs.
          let K = kinds.Declarator c i in
          chain (production_said K values.Start (productions.Pointer c) (g ∷ fs) (words.Mark marks.Star) (declarator_val c false d tt f, tt) r refl (h.all c false tt f r e, tt))
          (rests_reach K (values.Declarator (pointer d)) (values.Declarator (pointer d)) g fs r refl (declarator_stops K (pointer d) r e));
    }

bracket_taken : (c : Core) (i : Bool) (d : Declarator) → IsDirect d → FitsDeclarator c d → action (kinds.Declarator c i) (hand d) (words.Mark marks.OpenBracket) ≡ joined (values.Array d)
bracket_taken c i nothing h f = rw f refl
bracket_taken c i (pointer d) h f = absurd h
bracket_taken c i (named n) h f = refl
bracket_taken c i (array d) h f = refl
bracket_taken c i (sized d e) h f = refl
bracket_taken c i (wrapped d) h f = refl
bracket_taken c i (function d ps) h f = refl
bracket_taken c i (function_void d) h f = refl

paren_taken : (c : Core) (i : Bool) (d : Declarator) → IsDirect d → action (kinds.Declarator c i) (hand d) (words.Mark marks.OpenParen) ≡ joined (open_hand d)
paren_taken c i (pointer d) h = absurd h
paren_taken c i nothing h = refl
paren_taken c i (named n) h = refl
paren_taken c i (array d) h = refl
paren_taken c i (sized d e) h = refl
paren_taken c i (wrapped d) h = refl
paren_taken c i (function d ps) h = refl
paren_taken c i (function_void d) h = refl

array_opens : (d : Declarator) → Declares d → (c : Core) (i : Bool) (fs : List Frame) (ws : List Word) → IsDirect d → FitsDeclarator c d → Reaches (st (kinds.Declarator c i) values.Start fs) (spell_declarator d (mark marks.OpenBracket ws)) (st (kinds.Declarator c i) (values.Array d) fs) ws
array_opens d h c i fs ws t f = chain (h.direct t c i fs (mark marks.OpenBracket ws) f) (joins (kinds.Declarator c i) (hand d) (values.Array d) fs (words.Mark marks.OpenBracket) ws (bracket_taken c i d t f))

array_declares : (d : Declarator) → Declares d → Declares (array d)
array_declares d h = by_direct (array d) tt (λ c i fs r f.
    chain (array_opens d h c i fs (mark marks.CloseBracket r) f.0 f.1) (joins (kinds.Declarator c i) (values.Array d) (values.Declarator (array d)) fs (words.Mark marks.CloseBracket) r refl))

sized_declares : (d : Declarator) (e : Expr) → Declares d → ReadsExpr e → Declares (sized d e)
sized_declares d e h ih = by_direct (sized d e) tt (λ c i fs r f.
    let text = mark marks.CloseBracket r in
    chain (array_opens d h c i fs (spell e text) f.0 f.1)
    (begun_expr (kinds.Declarator c i) (values.Array d) productions.Sized fs (expr_val a_choice e f.2 f.3, tt) r e text refl (λ w b. rw (operand_no_bracket w b) refl)
    (inner e ih a_choice f.2 f.3 text (omega arith) (omega arith) (omega arith), tt)))

-- what something begins with
pub record BeginsDeclarator (text : List Word) : Type 0 where
  pub first : Word
  pub rest : List Word
  pub same : text ≡ first ∷ rest
  pub no_close : is at.CloseParen first ≡ false
  pub no_specifier : is_specifier first ≡ false
  pub no_semicolon : is at.Semicolon first ≡ false

pub declarator_begins : (d : Declarator) (r : List Word) → IsSomething d → BeginsDeclarator (spell_declarator d r)
declarator_begins nothing r h = absurd h
declarator_begins (named n) r h = record { first = words.Name n; rest = r; same = refl; no_close = refl; no_specifier = refl; no_semicolon = refl }
declarator_begins (pointer d) r h = record { first = words.Mark marks.Star; rest = _; same = refl; no_close = refl; no_specifier = refl; no_semicolon = refl }
declarator_begins (wrapped d) r h = record { first = words.Mark marks.OpenParen; rest = _; same = refl; no_close = refl; no_specifier = refl; no_semicolon = refl }
declarator_begins (array nothing) r h = record { first = words.Mark marks.OpenBracket; rest = _; same = refl; no_close = refl; no_specifier = refl; no_semicolon = refl }
declarator_begins (array d) r h = declarator_begins d _ tt
declarator_begins (sized nothing e) r h = record { first = words.Mark marks.OpenBracket; rest = _; same = refl; no_close = refl; no_specifier = refl; no_semicolon = refl }
declarator_begins (sized d e) r h = declarator_begins d _ tt
declarator_begins (function nothing ps) r h = record { first = words.Mark marks.OpenParen; rest = _; same = refl; no_close = refl; no_specifier = refl; no_semicolon = refl }
declarator_begins (function d ps) r h = declarator_begins d _ tt
declarator_begins (function_void nothing) r h = record { first = words.Mark marks.OpenParen; rest = _; same = refl; no_close = refl; no_specifier = refl; no_semicolon = refl }
declarator_begins (function_void d) r h = declarator_begins d _ tt

wrapped_declares : (d : Declarator) → Declares d → Declares (wrapped d)
wrapped_declares d h = by_direct (wrapped d) tt (λ c i fs r f.
    let K = kinds.Declarator c i in
    let text = mark marks.CloseParen r in
    let b = declarator_begins d text f.0 in
    chain (joins K values.Start values.OpenDeclarator fs (words.Mark marks.OpenParen) (spell_declarator d text) refl)
    (production_begun K values.OpenDeclarator (productions.Wrap c) fs b.first b.rest (declarator_val c true d f.0 f.1, tt) r b.same (rw (b.no_close, b.no_specifier) refl)
    (h.all c true f.0 f.1 text refl, tt)))

-- ---- parameters

abbrev joined_parameters : Parameters → Parameters → Parameters
joined_parameters no_parameters ys = ys
joined_parameters (parameter_and s d xs) ys = parameter_and s d (joined_parameters xs ys)

parameters_end : (xs : Parameters) → joined_parameters xs no_parameters ≡ xs
parameters_end no_parameters = refl
parameters_end (parameter_and s d xs) = ap (λ ys. parameter_and s d ys) (parameters_end xs)

parameters_more : (xs : Parameters) (s : SpecifierNode) (d : Declarator) (ys : Parameters) → joined_parameters (with_parameter xs s d) ys ≡ joined_parameters xs (parameter_and s d ys)
parameters_more no_parameters s d ys = refl
parameters_more (parameter_and a e xs) s d ys = ap (λ zs. parameter_and a e zs) (parameters_more xs s d ys)

more_ends : (ps : Parameters) (r : List Word) → EndsDeclarator (spell_more ps (mark marks.CloseParen r))
more_ends no_parameters r = refl
more_ends (parameter_and s d ps) r = refl

more_specifier : (ps : Parameters) (r : List Word) → EndsSpecifier (spell_more ps (mark marks.CloseParen r))
more_specifier no_parameters r = refl
more_specifier (parameter_and s d ps) r = refl

abbrev ReadsMore : Parameters → Type 0
ReadsMore ps = (K : Kind) (d : Declarator) (a : SpecifierNode) (b : Declarator) (xs : Parameters) (fs : List Frame) (r : List Word) → FitParameters ps →
    Reaches (st K (values.Function d (parameter_and a b xs)) fs) (spell_more ps (mark marks.CloseParen r)) (st K (values.Declarator (closed d (parameter_and a b (joined_parameters xs ps)))) fs) r

no_more_parameters : ReadsMore no_parameters
no_more_parameters K d a b xs fs r f =
    let P : Parameters → Type 0 = λ ys. Reaches (st K (values.Function d (parameter_and a b xs)) fs) (mark marks.CloseParen r) (st K (values.Declarator (closed d (parameter_and a b ys))) fs) r in
    subst P (sym (parameters_end xs)) (joins K (values.Function d (parameter_and a b xs)) (values.Declarator (closed d (parameter_and a b xs))) fs (words.Mark marks.CloseParen) r refl)

next_parameter_reads : (s : SpecifierNode) (e : Declarator) (ps : Parameters) → Declares e → ReadsMore ps → ReadsMore (parameter_and s e ps)
next_parameter_reads s e ps ie ip K d a b xs fs r f =
    let text = spell_more ps (mark marks.CloseParen r) in
    let P : Parameters → Type 0 = λ ys. Reaches (st K (values.Function d (parameter_and a b xs)) fs) (mark marks.Comma (spell_specifier s (spell_declarator e text))) (st K (values.Declarator (closed d (parameter_and a b ys))) fs) r in
    subst P (parameters_more xs s e ps)
    (chain (production_said K (values.Function d (parameter_and a b xs)) productions.Parameter fs (words.Mark marks.Comma) (specifier_val s f.0, (declarator_val cores.Either false e tt f.1, tt)) text refl
    (specifier_part s f.0 (spell_declarator e text) (declarator_first e text (more_specifier ps r)), (ie.all cores.Either false tt f.1 text (more_ends ps r), tt)))
    (ip K d a b (with_parameter xs s e) fs r f.2))

parameter_action : (c : Core) (i : Bool) (d : Declarator) (k : Keyword) → FitsDeclarator c d → begins_specifier k ≡ true → action (kinds.Declarator c i) (open_hand d) (words.Keyword k) ≡ begins productions.Parameter
parameter_action c i nothing k f b = rw (b, f) refl
parameter_action c i (pointer d) k f b = rw b refl
parameter_action c i (named n) k f b = rw b refl
parameter_action c i (array d) k f b = rw b refl
parameter_action c i (sized d e) k f b = rw b refl
parameter_action c i (wrapped d) k f b = rw b refl
parameter_action c i (function d ps) k f b = rw b refl
parameter_action c i (function_void d) k f b = rw b refl

parameter_built : (d : Declarator) (s : SpecifierNode) (e : Declarator) → build productions.Parameter (values.Declarator e ∷ values.Specifier s ∷ open_hand d ∷ []) ≡ values.Function d (parameter_and s e no_parameters)
parameter_built nothing s e = refl
parameter_built (pointer d) s e = refl
parameter_built (named n) s e = refl
parameter_built (array d) s e = refl
parameter_built (sized d x) s e = refl
parameter_built (wrapped d) s e = refl
parameter_built (function d ps) s e = refl
parameter_built (function_void d) s e = refl

parens_open : (d : Declarator) → Declares d → (c : Core) (i : Bool) (fs : List Frame) (ws : List Word) → IsDirect d → FitsDeclarator c d → Reaches (st (kinds.Declarator c i) values.Start fs) (spell_declarator d (mark marks.OpenParen ws)) (st (kinds.Declarator c i) (open_hand d) fs) ws
parens_open d h c i fs ws t f = chain (h.direct t c i fs (mark marks.OpenParen ws) f) (joins (kinds.Declarator c i) (hand d) (open_hand d) fs (words.Mark marks.OpenParen) ws (paren_taken c i d t))

-- parameters of which there are some
some_parameters : (d : Declarator) (s : SpecifierNode) (e : Declarator) (ps : Parameters) → Declares d → Declares e → ReadsMore ps → (c : Core) (i : Bool) (fs : List Frame) (r : List Word) → IsDirect d → FitsDeclarator c d → FitsSpecifier s → FitsDeclarator cores.Either e → FitParameters ps →
    Reaches (st (kinds.Declarator c i) values.Start fs) (spell_declarator d (mark marks.OpenParen (spell_parameters (parameter_and s e ps) (mark marks.CloseParen r)))) (st (kinds.Declarator c i) (values.Declarator (closed d (parameter_and s e ps))) fs) r
some_parameters d s e ps h ie ip c i fs r t f fs' fe fp =
    let K = kinds.Declarator c i in
    let text = spell_more ps (mark marks.CloseParen r) in
    let y : Parts (symbols productions.Parameter) = (specifier_val s fs', (declarator_val cores.Either false e tt fe, tt)) in
    let P : Value → Type 0 = λ v. Reaches (st K (open_hand d) fs) (spell_specifier s (spell_declarator e text)) (st K v fs) text in
    chain (parens_open d h c i fs (spell_specifier s (spell_declarator e text)) t f)
    (chain (subst P (parameter_built d s e) (begun_specifier K (open_hand d) productions.Parameter fs y text s (spell_declarator e text) refl (λ k b. parameter_action c i d k f b)
    (specifier_part s fs' (spell_declarator e text) (declarator_first e text (more_specifier ps r)), (ie.all cores.Either false tt fe text (more_ends ps r), tt))))
    (ip K d s e no_parameters fs r fp))

closed_is : (d : Declarator) (ps : Parameters) → AreParameters ps → closed d ps ≡ function d ps
closed_is d no_parameters a = refl
closed_is d (parameter_and specifiers.Void nothing no_parameters) a = absurd a
closed_is d (parameter_and specifiers.Void nothing _) a = refl
closed_is d (parameter_and specifiers.Void _ ps) a = refl
closed_is d (parameter_and _ e ps) a = refl

close_taken : (c : Core) (i : Bool) (d : Declarator) → FitsDeclarator c d → action (kinds.Declarator c i) (open_hand d) (words.Mark marks.CloseParen) ≡ joined (values.Declarator (function d no_parameters))
close_taken c i nothing f = rw f refl
close_taken c i (pointer d) f = refl
close_taken c i (named n) f = refl
close_taken c i (array d) f = refl
close_taken c i (sized d e) f = refl
close_taken c i (wrapped d) f = refl
close_taken c i (function d ps) f = refl
close_taken c i (function_void d) f = refl

function_none : (d : Declarator) → Declares d → Declares (function d no_parameters)
function_none d h = by_direct (function d no_parameters) tt (λ c i fs r f.
    chain (parens_open d h c i fs (mark marks.CloseParen r) f.0 f.1)
    (joins (kinds.Declarator c i) (open_hand d) (values.Declarator (function d no_parameters)) fs (words.Mark marks.CloseParen) r (close_taken c i d f.1)))

function_some : (d : Declarator) (s : SpecifierNode) (e : Declarator) (ps : Parameters) → Declares d → Declares e → ReadsMore ps → Declares (function d (parameter_and s e ps))
function_some d s e ps h ie ip = by_direct (function d (parameter_and s e ps)) tt (λ c i fs r f.
    let K = kinds.Declarator c i in
    let g = f.3 in
    let P : Declarator → Type 0 = λ x. Reaches (st K values.Start fs) (spell_declarator d (mark marks.OpenParen (spell_parameters (parameter_and s e ps) (mark marks.CloseParen r)))) (st K (values.Declarator x) fs) r in
    subst P (closed_is d (parameter_and s e ps) f.2) (some_parameters d s e ps h ie ip c i fs r f.0 f.1 g.0 g.1 g.2))

void_declares : (d : Declarator) → Declares d → Declares (function_void d)
void_declares d h = by_direct (function_void d) tt (λ c i fs r f.
    some_parameters d specifiers.Void nothing no_parameters h nothing_declares no_more_parameters c i fs r f.0 f.1 tt refl tt)

-- ---- a type in parentheses

type_stops : (s : SpecifierNode) (d : Declarator) (ws : List Word) → IsStuck kinds.SizeofOperand (values.TypeName s d) ws
type_stops s d [] = tt
type_stops s d (w ∷ ws) = refl

type_operand : (s : SpecifierNode) (d : Declarator) → Declares d → (f : FitsSpecifier s) (g : FitsDeclarator cores.Nothing d) (r : List Word) → ReadsPart kinds.SizeofOperand (a_type (record { specifier = s; declarator = d; specifier_fits = f; declarator_fits = g })) r
type_operand s d h f g r x fs =
    let K = kinds.SizeofOperand in
    let text = mark marks.CloseParen r in
    chain (joins K values.Start values.Paren (x ∷ fs) (words.Mark marks.OpenParen) (spell_specifier s (spell_declarator d text)) refl)
    (chain (begun_specifier K values.Paren productions.TypeName (x ∷ fs) (specifier_val s f, (declarator_val cores.Nothing false d tt g, tt)) r s (spell_declarator d text) refl (λ k b. rw b refl)
    (specifier_part s f (spell_declarator d text) (declarator_first d text refl), (h.all cores.Nothing false tt g text refl, tt)))
    (rests_reach K (values.TypeName s d) (values.TypeName s d) x fs r refl (type_stops s d r)))

sizeof_type_reads : (s : SpecifierNode) (d : Declarator) → Declares d → ReadsExpr (size_of_type s d)
sizeof_type_reads s d h K fs r o f l q =
    production_said K values.Start productions.Sizeof fs (words.Keyword keywords.Sizeof) (a_type (record { specifier = s; declarator = d; specifier_fits = f.0; declarator_fits = f.1 }), tt) r (begin_expr K (words.Keyword keywords.Sizeof) o)
    (type_operand s d h f.0 f.1 r, tt)

cast_action : (K : Kind) (k : Keyword) → OfExpr K → level_at K ≤ a_cast → begins_specifier k ≡ true → action K values.Paren (words.Keyword k) ≡ begins productions.Cast
cast_action (kinds.Expr n) k o l b = rw (b, le_test n a_cast l) refl
cast_action kinds.SizeofOperand k o l b = absurd (omega arith)
cast_action _ k o l b = absurd o

cast_reads : (s : SpecifierNode) (d : Declarator) (e : Expr) → Declares d → ReadsExpr e → ReadsExpr (cast s d e)
cast_reads s d e h ih K fs r o f l q =
    let text = mark marks.CloseParen (spell e r) in
    chain (joins K values.Start values.Paren fs (words.Mark marks.OpenParen) (spell_specifier s (spell_declarator d text)) (begin_expr K (words.Mark marks.OpenParen) o))
    (begun_specifier K values.Paren productions.Cast fs (specifier_val s f.0, (declarator_val cores.Nothing false d tt f.1, (expr_val a_cast e f.2 f.3, tt))) r s (spell_declarator d text) refl (λ k b. cast_action K k o l b)
    (specifier_part s f.0 (spell_declarator d text) (declarator_first d text refl), (h.all cores.Nothing false tt f.1 text refl, (inner e ih a_cast f.2 f.3 r (omega arith) q q, tt))))

-- ---- all

mutual
  pub reads : (e : Expr) → ReadsExpr e
  reads (name n) = leaf_reads (words.Name n) (name n) (λ r. refl) refl
  reads (integer n t) = leaf_reads (words.Integer n t) (integer n t) (λ r. refl) refl
  reads (character n) = leaf_reads (words.Character n) (character n) (λ r. refl) refl
  reads (string s) = leaf_reads (words.String s) (string s) (λ r. refl) refl
  reads (paren e) = paren_reads e (reads e)
  reads (index a i) = index_reads a i (reads a) (reads i)
  reads (call g no_exprs) = call_none g (reads g)
  reads (call g (expr_and e es)) = call_some g e es (reads g) (reads e) (rest_reads es)
  reads (member op e n) = member_reads op e n (reads e)
  reads (after op e) = after_reads op e (reads e)
  reads (unary op e) = unary_reads op e (reads e)
  reads (size_of_type s d) = sizeof_type_reads s d (declares d)
  reads (cast s d e) = cast_reads s d e (declares d) (reads e)
  reads (between op a b) = between_reads op a b (reads a) (reads b)
  reads (choice c a b) = choice_reads c a b (reads c) (reads a) (reads b)

  rest_reads : (es : Exprs) → ReadsRest es
  rest_reads no_exprs = no_more_args
  rest_reads (expr_and e es) = next_arg e es (reads e) (rest_reads es)

  pub declares : (d : Declarator) → Declares d
  declares (named n) = named_declares n
  declares nothing = nothing_declares
  declares (pointer d) = pointer_declares d (declares d)
  declares (array d) = array_declares d (declares d)
  declares (sized d e) = sized_declares d e (declares d) (reads e)
  declares (wrapped d) = wrapped_declares d (declares d)
  declares (function d no_parameters) = function_none d (declares d)
  declares (function d (parameter_and s e ps)) = function_some d s e ps (declares d) (declares e) (more_reads ps)
  declares (function_void d) = void_declares d (declares d)

  more_reads : (ps : Parameters) → ReadsMore ps
  more_reads no_parameters = no_more_parameters
  more_reads (parameter_and s e ps) = next_parameter_reads s e ps (declares e) (more_reads ps)
