-- Each word ends: what a step that doesn't take the word leaves to be done is less.
use Rattle.std.proofs.Common.{◌≡◌, ℕ, ◌+◌, ◌≤◌, ◌<◌, ◌-◌, Bool, true, false, ◌&&◌, not, nat_le, if◌then◌else◌, List, [], ◌∷◌, ◌++◌, length, Option, Some, None, refl, subst, arith}
use Rattle.c_token.specs.declared.word.Mark.{Mark}
use Rattle.c_token.specs.declared.word.Keyword.{Keyword}
use Rattle.c_token.specs.declared.word.Keyword.TheVariants as keywords
use Rattle.c_token.specs.declared.word.Word.{Word}
use Rattle.c_token.specs.declared.word.Word.TheVariants as words
use Rattle.c_tree.specs.declared.specifier.IntegerWord.{IntegerWord}
use Rattle.c_tree.specs.declared.specifier.SpecifierNode.{SpecifierNode}
use Rattle.c_tree.specs.declared.specifier.SpecifierNode.TheVariants as specifiers
use Rattle.c_tree.specs.declared.tree.Core.{Core}
use Rattle.c_tree.specs.declared.tree.Core.TheVariants as cores
use Rattle.c_tree.specs.declared.operators.Access.{Access}
use Rattle.c_tree.specs.declared.initialiser.Init.{Init}
use Rattle.c_tree.specs.declared.enumerator.Enumerator.{Enumerator}
use Rattle.c_tree.specs.declared.first.ForFirstNode.TheVariants as firsts
use Rattle.c_tree.specs.declared.external.MemberHead.{MemberHead}
use Rattle.c_tree.specs.declared.external.MemberHead.TheVariants as heads
use Rattle.c_tree.specs.declared.external.Piece.{Piece}
use Rattle.c_tree.specs.declared.external.Piece.TheVariants as pieces
use Rattle.c_tree.specs.declared.external.OuterSpecifier.TheVariants as outers
use Rattle.c_tree.specs.declared.external.ExternalForm.TheVariants as forms
use Rattle.c_tree.specs.Tree.{Expr, call, after, Exprs, no_exprs, Declarator, named, nothing, array, function, Parameters, no_parameters, Initialisers, no_initialisers, braces}
use Rattle.c_tree.specs.Statements.{empty, jump, Items, no_items}
use Rattle.c_tree.specs.StatementHeights.{ends_open}
use Rattle.c_tree.specs.Operators.{makes, left_of, extended, a_choice, an_or, a_cast, a_postfix}
use Rattle.c_tree.specs.Grammar.{level, may_name, may_be_nothing}
use Rattle.c_tree.specs.refinement.Views.{are_none}
use Rattle.c_productions.specs.refinement.Classes.{infix_at, prefix_at, step_at, access_at, integer_at, specifier_at, is_specifier, is_struct, is_sizeof, is_else, is_mark, is, is_enum, is_case, is_default}
use Rattle.c_productions.specs.declared.kind.Terminal.TheVariants as at
use Rattle.c_productions.specs.declared.kind.Kind.{Kind}
use Rattle.c_productions.specs.declared.kind.Kind.TheVariants as kinds
use Rattle.c_productions.specs.declared.kind.Production.TheVariants as productions
use Rattle.c_productions.specs.declared.kind.Symbol.{Symbol}
use Rattle.c_productions.specs.declared.kind.Symbol.TheVariants.{Part, Word as Said}
use Rattle.c_productions.specs.declared.value.Holder.{Holder}
use Rattle.c_productions.specs.declared.value.Holder.TheVariants as holders
use Rattle.c_productions.specs.declared.value.Value.{Value}
use Rattle.c_productions.specs.declared.value.Value.TheVariants as values
use Rattle.c_productions.specs.declared.frame.Frame.{Frame}
use Rattle.c_productions.specs.refinement.Table.{Action, joined, opens, begins, stuck, only, if_some, on_mark, on_keyword, Goal as Wanted, made, expects, State, opened, with_part, first_frame, symbols, Move, takes, goes, stops, resumes, acted, rests, nothing_at, action, step, is_pointer, are_no_args, are_no_values, are_no, has_no_value, is_single, takes_type, level_at, core_at, operand, declarator_word, specifier_keyword, statement_keyword, statement_word, begin, postfix, tail, type_in_parens, next_argument, access_name, direct_mark, closed, next_parameter, open_declarator, and_integer, specifier_tail, tag_name, next_element, form_end, inits_tail, items_tail, members_end, members_tail, member_tail, may_define, members_begin, braces_begin, enum_tag_name, has_no_constant, enumerator_name, enumerators_tail, items_end, takes_labels, statement_item}

-- how much is left to be read of open productions: each production, and each word and part of it
abbrev pub amount : List Frame → ℕ
amount [] = 0
amount (f ∷ fs) = length f.rest + 1 + amount fs

-- how many productions may be begun in one another where such a part begins
abbrev rank : Kind → ℕ
rank (kinds.Expr k) = 0
rank kinds.SizeofOperand = 0
rank (kinds.Declarator c i) = 0
rank kinds.Specifier = 0
rank kinds.OuterSpecifier = 0
rank kinds.MemberSpecifier = 0
rank _ = 1

abbrev is_something : Bool → Core → Bool
is_something true c = true
is_something false cores.Name = true
is_something false _ = false

-- whether the part has a word at least
abbrev has_words : Kind → Bool
has_words (kinds.Declarator c i) = is_something i c
has_words _ = true

-- what is left to be done without a word
abbrev pub left : Wanted → List Frame → ℕ
left (made K values.Start) fs = if has_words K then rank K else amount fs + 2
left (made K v) fs = amount fs + 2
left (expects p f) fs = 0

opened_amount : (f : Frame) (ss : List Symbol) (fs : List Frame) → amount (opened f ss fs).waiting ≤ length ss + amount fs
opened_amount f [] fs = omega arith
opened_amount f (Said p ∷ ss) fs = omega arith
opened_amount f (Part K ∷ ss) fs = omega arith

given_amount : (f : Frame) (v : Value) (fs : List Frame) → amount (opened (with_part f v) f.rest fs).waiting < amount (f ∷ fs)
given_amount f v fs = omega (arith, opened_amount (with_part f v) f.rest fs)

-- what goes on with a complete value
pub resumes_less : (o : Option Value) (fs : List Frame) (t : State) → resumes o fs ≡ goes t → amount t.waiting < amount fs
resumes_less None fs t e = cc
resumes_less (Some v) [] t e = cc
resumes_less (Some v) (f ∷ fs) t e =
    let k : opened (with_part f v) f.rest fs ≡ t = cc in
    let P : State → Type 0 = λ s. amount s.waiting < amount (f ∷ fs) in
    subst P k (given_amount f v fs)

-- ---- productions that are begun before their first word

abbrev FirstBelow : List Symbol → ℕ → Type 0
FirstBelow [] n = ⊥
FirstBelow (Said p ∷ ss) n = ⊥
FirstBelow (Part K ∷ ss) n = (has_words K ≡ true) × (rank K < n)

abbrev Below : ℕ → Action → Type 0
Below n (begins r) = FirstBelow (symbols r) n
Below n (joined u) = Unit {0}
Below n (opens r) = Unit {0}
Below n stuck = Unit {0}

first_more : (m n : ℕ) (ss : List Symbol) → m ≤ n → FirstBelow ss m → FirstBelow ss n
first_more m n [] l b = b
first_more m n (Said p ∷ ss) l b = b
first_more m n (Part K ∷ ss) l b = (b.0, omega (arith, b.1))

below_more : (m n : ℕ) (t : Action) → m ≤ n → Below m t → Below n t
below_more m n (begins r) l b = first_more m n (symbols r) l b
below_more m n (joined u) l b = tt
below_more m n (opens r) l b = tt
below_more m n stuck l b = tt

either : (n : ℕ) (b : Bool) (s t : Action) → Below n s → Below n t → Below n (if b then s else t)
either n true s t x y = x
either n false s t x y = y

where_so : (n : ℕ) (b : Bool) (t : Action) → Below n t → Below n (only b t)
where_so n true t x = x
where_so n false t x = tt

some_or : {A : Type 0} → (n : ℕ) (o : Option A) (f : A → Action) (t : Action) → ((a : A) → Below n (f a)) → Below n t → Below n (if_some o f t)
some_or n None f t x y = y
some_or n (Some a) f t x y = x a

operand_below : (w : Word) → Below 0 (operand w)
operand_below (words.Name n) = tt
operand_below (words.Integer n t) = tt
operand_below (words.Character c) = tt
operand_below (words.String s) = tt
operand_below (words.Mark m) = some_or 0 (prefix_at m) (λ op. opens (productions.Unary op)) (only (is_mark at.OpenParen m) (joined values.Paren)) (λ op. tt) (where_so 0 (is_mark at.OpenParen m) (joined values.Paren) tt)
operand_below (words.Keyword k) = where_so 0 (is_sizeof k) (opens productions.Sizeof) tt

declarator_below : (c : Core) (w : Word) → Below 0 (declarator_word c w)
declarator_below c (words.Name n) = where_so 0 (may_name c) (joined (values.Declarator (named n))) tt
declarator_below c (words.Mark m) =
    either 0 (is_mark at.Star m) (opens (productions.Pointer c)) (if is_mark at.OpenParen m then joined values.OpenDeclarator else only (is_mark at.OpenBracket m && may_be_nothing c) (joined (values.Array nothing))) tt
    (either 0 (is_mark at.OpenParen m) (joined values.OpenDeclarator) (only (is_mark at.OpenBracket m && may_be_nothing c) (joined (values.Array nothing))) tt
    (where_so 0 (is_mark at.OpenBracket m && may_be_nothing c) (joined (values.Array nothing)) tt))
declarator_below c (words.Integer n t) = tt
declarator_below c (words.Character x) = tt
declarator_below c (words.String s) = tt
declarator_below c (words.Keyword k) = tt

specifier_below : (w : Word) → Below 0 (on_keyword w specifier_keyword)
specifier_below (words.Keyword k) =
    let enums = only (is_enum k) (joined values.EnumTag) in
    some_or 0 (specifier_at k) (λ s. joined (values.Specifier s)) (if is_struct k then joined values.Tag else enums) (λ s. tt)
    (either 0 (is_struct k) (joined values.Tag) enums tt (where_so 0 (is_enum k) (joined values.EnumTag) tt))
specifier_below (words.Name n) = tt
specifier_below (words.Integer n t) = tt
specifier_below (words.Character c) = tt
specifier_below (words.String s) = tt
specifier_below (words.Mark m) = tt

keyword_below : (k : Keyword) → Below 1 (statement_keyword k)
keyword_below keywords.If = tt
keyword_below keywords.While = tt
keyword_below keywords.Do = tt
keyword_below keywords.For = tt
keyword_below keywords.Switch = tt
keyword_below keywords.Return = tt
keyword_below keywords.Break = tt
keyword_below keywords.Continue = tt
keyword_below _ = (refl, omega arith)

statement_below : (w : Word) → Below 1 (statement_word w)
statement_below (words.Mark m) =
    either 1 (is_mark at.Semicolon m) (joined (values.Statement empty)) (if is_mark at.OpenBrace m then joined (values.Items holders.Block no_items) else begins productions.Plain) tt
    (either 1 (is_mark at.OpenBrace m) (joined (values.Items holders.Block no_items)) (begins productions.Plain) tt (refl, omega arith))
statement_below (words.Keyword k) = keyword_below k
statement_below (words.Name n) = (refl, omega arith)
statement_below (words.Integer n t) = (refl, omega arith)
statement_below (words.Character c) = (refl, omega arith)
statement_below (words.String s) = (refl, omega arith)

begin_below : (K : Kind) (w : Word) → Below (rank K) (begin K w)
begin_below (kinds.Expr k) w = operand_below w
begin_below kinds.SizeofOperand w = operand_below w
begin_below (kinds.Declarator c i) w = declarator_below c w
begin_below kinds.Specifier w = specifier_below w
begin_below kinds.OuterSpecifier w = specifier_below w
begin_below kinds.MemberSpecifier w = specifier_below w
begin_below kinds.Initialiser w = either 1 (is at.OpenBrace w) (joined (values.Braces no_initialisers false)) (begins productions.Single) tt (refl, omega arith)
begin_below kinds.Inits w = (refl, omega arith)
begin_below kinds.Statement w = statement_below w
begin_below kinds.ForFirst w =
    either 1 (is at.Semicolon w) (joined (values.ForFirst firsts.Nothing)) (if is_specifier w then begins productions.ForDeclaration else begins productions.ForExpr) tt
    (either 1 (is_specifier w) (begins productions.ForDeclaration) (begins productions.ForExpr) (refl, omega arith) (refl, omega arith))
begin_below kinds.Test w = either 1 (is at.Semicolon w) (joined (values.Test None)) (begins productions.TestExpr) tt (refl, omega arith)
begin_below kinds.Step w = either 1 (is at.CloseParen w) (joined (values.Step None)) (begins productions.StepExpr) tt (refl, omega arith)
begin_below kinds.Form w = either 1 (is at.Semicolon w) (joined (values.Form forms.Alone)) (begins productions.FirstInit) tt (refl, omega arith)
begin_below kinds.External w = (refl, omega arith)

rank_small : (K : Kind) → rank K ≤ 1
rank_small (kinds.Expr k) = omega arith
rank_small _ = omega arith

-- ---- behind a value

postfix_below : (e : Expr) (m : Mark) → Below 2 (postfix e m)
postfix_below e m =
    some_or 2 (step_at m) (λ op. joined (values.Expr (after op e))) (if_some (access_at m) (λ op. joined (values.Access op e)) (if is_mark at.OpenBracket m then opens productions.Index else only (is_mark at.OpenParen m) (joined (values.Call e no_exprs)))) (λ op. tt)
    (some_or 2 (access_at m) (λ op. joined (values.Access op e)) (if is_mark at.OpenBracket m then opens productions.Index else only (is_mark at.OpenParen m) (joined (values.Call e no_exprs))) (λ op. tt)
    (either 2 (is_mark at.OpenBracket m) (opens productions.Index) (only (is_mark at.OpenParen m) (joined (values.Call e no_exprs))) tt
    (where_so 2 (is_mark at.OpenParen m) (joined (values.Call e no_exprs)) tt)))

tail_below : (k : ℕ) (e : Expr) (w : Word) → Below 2 (on_mark w (tail k e))
tail_below k e (words.Mark m) =
    let q = only (nat_le k a_choice && nat_le an_or (level e)) (opens productions.Choice) in
    let p = only (nat_le a_postfix (level e)) (postfix e m) in
    some_or 2 (infix_at m) (λ op. only (nat_le k (makes op) && nat_le (left_of op) (level e)) (opens (productions.Between op))) (if is_mark at.Question m then q else p)
    (λ op. where_so 2 (nat_le k (makes op) && nat_le (left_of op) (level e)) (opens (productions.Between op)) tt)
    (either 2 (is_mark at.Question m) q p (where_so 2 (nat_le k a_choice && nat_le an_or (level e)) (opens productions.Choice) tt) (where_so 2 (nat_le a_postfix (level e)) (postfix e m) (postfix_below e m)))
tail_below k e (words.Name n) = tt
tail_below k e (words.Integer n t) = tt
tail_below k e (words.Character c) = tt
tail_below k e (words.String s) = tt
tail_below k e (words.Keyword x) = tt

access_below : (op : Access) (e : Expr) (w : Word) → Below 2 (access_name op e w)
access_below op e (words.Name n) = tt
access_below op e (words.Mark m) = tt
access_below op e (words.Integer n t) = tt
access_below op e (words.Character c) = tt
access_below op e (words.String s) = tt
access_below op e (words.Keyword k) = tt

direct_below : (d : Declarator) (w : Word) → Below 2 (on_mark w (direct_mark d))
direct_below d (words.Mark m) =
    either 2 (is_mark at.OpenBracket m) (joined (values.Array d)) (only (is_mark at.OpenParen m) (joined (values.Function d no_parameters))) tt
    (where_so 2 (is_mark at.OpenParen m) (joined (values.Function d no_parameters)) tt)
direct_below d (words.Name n) = tt
direct_below d (words.Integer n t) = tt
direct_below d (words.Character c) = tt
direct_below d (words.String s) = tt
direct_below d (words.Keyword k) = tt

open_below : (c : Core) (w : Word) → Below 2 (open_declarator c w)
open_below c w =
    let p = only (may_be_nothing c) (begins productions.Parameter) in
    either 2 (is at.CloseParen w) (only (may_be_nothing c) (joined (values.Declarator (function nothing no_parameters)))) (if is_specifier w then p else begins (productions.Wrap c))
    (where_so 2 (may_be_nothing c) (joined (values.Declarator (function nothing no_parameters))) tt)
    (either 2 (is_specifier w) p (begins (productions.Wrap c)) (where_so 2 (may_be_nothing c) (begins productions.Parameter) (refl, omega arith)) (refl, omega arith))

parameter_below : (ps : Parameters) (w : Word) → Below 2 (next_parameter ps w)
parameter_below ps w =
    either 2 (are_none ps) (only (is_specifier w) (begins productions.Parameter)) (only (is at.Comma w) (opens productions.Parameter))
    (where_so 2 (is_specifier w) (begins productions.Parameter) (refl, omega arith))
    (where_so 2 (is at.Comma w) (opens productions.Parameter) tt)

integer_below : (s : SpecifierNode) (x : IntegerWord) → Below 2 (and_integer s x)
integer_below (specifiers.Integer ws) x = some_or 2 (extended ws x) (λ more. joined (values.Specifier (specifiers.Integer more))) stuck (λ more. tt) tt
integer_below specifiers.Void x = tt
integer_below specifiers.SizeT x = tt
integer_below specifiers.PtrdiffT x = tt
integer_below (specifiers.Struct t) x = tt
integer_below (specifiers.Enum t) x = tt

members_begin_below : (K : Kind) (t : List ℕ) → Below 2 (members_begin K t)
members_begin_below kinds.OuterSpecifier t = tt
members_begin_below _ t = tt

braces_below : (K : Kind) (s : SpecifierNode) → Below 2 (braces_begin K s)
braces_below K (specifiers.Struct t) = members_begin_below K t
braces_below K (specifiers.Enum t) = tt
braces_below K specifiers.Void = tt
braces_below K (specifiers.Integer ws) = tt
braces_below K specifiers.SizeT = tt
braces_below K specifiers.PtrdiffT = tt

specifier_tail_below : (K : Kind) (s : SpecifierNode) (w : Word) → Below 2 (specifier_tail K s w)
specifier_tail_below K s (words.Keyword k) = some_or 2 (integer_at k) (and_integer s) stuck (λ x. integer_below s x) tt
specifier_tail_below K s (words.Mark m) = where_so 2 (is_mark at.OpenBrace m && may_define K) (braces_begin K s) (braces_below K s)
specifier_tail_below K s (words.Name n) = tt
specifier_tail_below K s (words.Integer n t) = tt
specifier_tail_below K s (words.Character c) = tt
specifier_tail_below K s (words.String x) = tt

tag_below : (w : Word) → Below 2 (tag_name w)
tag_below (words.Name n) = tt
tag_below _ = tt

enum_opened_below : (K : Kind) (w : Word) → Below 2 (only (is at.OpenBrace w && may_define K) (joined (values.Enumerators None [] None)))
enum_opened_below K w = where_so 2 (is at.OpenBrace w && may_define K) (joined (values.Enumerators None [] None)) tt

enum_tag_below : (K : Kind) (w : Word) → Below 2 (enum_tag_name K w)
enum_tag_below K (words.Name n) = tt
enum_tag_below K w = enum_opened_below K w

enumerator_name_below : (t : Option (List ℕ)) (xs : List Enumerator) (w : Word) → Below 2 (enumerator_name t xs w)
enumerator_name_below t xs (words.Name n) = tt
enumerator_name_below t xs _ = tt

enumerators_below : (t : Option (List ℕ)) (xs : List Enumerator) (last : Option Enumerator) (w : Word) → Below 2 (enumerators_tail t xs last w)
enumerators_below t xs (Some x) w =
    let all = xs ++ x ∷ [] in
    let v = only (has_no_constant x.value) (opens productions.EnumValue) in
    let e = only (is at.CloseBrace w) (joined (values.Enum t all false)) in
    either 2 (is at.Equals w) v (if is at.Comma w then joined (values.Enumerators t all None) else e) (where_so 2 (has_no_constant x.value) (opens productions.EnumValue) tt)
    (either 2 (is at.Comma w) (joined (values.Enumerators t all None)) e tt (where_so 2 (is at.CloseBrace w) (joined (values.Enum t all false)) tt))
enumerators_below t xs None w =
    either 2 (is at.CloseBrace w) (only (not (are_no xs)) (joined (values.Enum t xs true))) (enumerator_name t xs w)
    (where_so 2 (not (are_no xs)) (joined (values.Enum t xs true)) tt) (enumerator_name_below t xs w)

element_below : (vs : Initialisers) (comma : Bool) (w : Word) → Below 2 (next_element vs comma w)
element_below vs comma w =
    let last = only (is at.Comma w) (joined (values.Braces vs true)) in
    let more = if comma then begins productions.Element else last in
    let rest = if is at.CloseBrace w then joined (values.Initialiser (braces vs comma)) else more in
    either 2 (are_no_values vs) (begins productions.Element) rest (refl, omega arith)
    (either 2 (is at.CloseBrace w) (joined (values.Initialiser (braces vs comma))) more tt
    (either 2 comma (begins productions.Element) last (refl, omega arith) (where_so 2 (is at.Comma w) (joined (values.Braces vs true)) tt)))

form_below : (K : Kind) (xs : List Init) (x : Init) (w : Word) → Below 2 (form_end K xs x w)
form_below kinds.Form xs x w =
    either 2 (is at.Semicolon w) (joined (values.Form (forms.Declaration (xs ++ x ∷ [])))) (only (is at.OpenBrace w && is_single xs x) (joined (values.Items (holders.Function x.declarator) no_items))) tt
    (where_so 2 (is at.OpenBrace w && is_single xs x) (joined (values.Items (holders.Function x.declarator) no_items)) tt)
form_below _ xs x w = tt

inits_below : (K : Kind) (xs : List Init) (x : Init) (w : Word) → Below 2 (inits_tail K xs x w)
inits_below K xs x w =
    let v = only (has_no_value x.value) (opens productions.InitValue) in
    let f = form_end K xs x w in
    either 2 (is at.Comma w) (opens productions.NextInit) (if is at.Equals w then v else f) tt
    (either 2 (is at.Equals w) v f (where_so 2 (has_no_value x.value) (opens productions.InitValue) tt) (form_below K xs x w))

item_below : (o : Holder) (w : Word) → Below 2 (statement_item o w)
item_below o w =
    let l = takes_labels o in
    let cases = only l (opens productions.Case) in
    let defaults = only l (opens productions.Default) in
    either 2 (is_case w) cases (if is_default w then defaults else begins productions.Item) (where_so 2 l (opens productions.Case) tt)
    (either 2 (is_default w) defaults (begins productions.Item) (where_so 2 l (opens productions.Default) tt) (refl, omega arith))

items_below : (o : Holder) (its : Items) (w : Word) → Below 2 (items_tail o its w)
items_below o its w =
    either 2 (is at.CloseBrace w) (joined (items_end o its)) (if is_specifier w then begins productions.Declaration else statement_item o w) tt
    (either 2 (is_specifier w) (begins productions.Declaration) (statement_item o w) (refl, omega arith) (item_below o w))

members_below : (t : List ℕ) (ps : List Piece) (n : ℕ) (some : Bool) (w : Word) → Below 2 (members_tail t ps n some w)
members_below t ps n some w =
    either 2 (is at.CloseBrace w) (only some (members_end t ps n)) (only (is_specifier w) (begins productions.MemberSpecifier))
    (where_so 2 some (members_end t ps n) (either 2 (nat_le 1 n) (joined (values.Member t ps (n - 1) heads.Close [])) (joined (values.Outer (outers.Struct t ps))) tt tt))
    (where_so 2 (is_specifier w) (begins productions.MemberSpecifier) (refl, omega arith))

member_below : (t : List ℕ) (ps : List Piece) (n : ℕ) (h : MemberHead) (ds : List Declarator) (w : Word) → Below 2 (member_tail t ps n h ds w)
member_below t ps n h ds w =
    let end = only (is at.Semicolon w) (joined (values.Members t (ps ++ pieces.Member h ds ∷ []) n true)) in
    either 2 (are_no ds) (begins productions.MemberDeclarator) (if is at.Comma w then opens productions.MemberDeclarator else end) (refl, omega arith)
    (either 2 (is at.Comma w) (opens productions.MemberDeclarator) end tt (where_so 2 (is at.Semicolon w) (joined (values.Members t (ps ++ pieces.Member h ds ∷ []) n true)) tt))

parens_below : (K : Kind) → Below 2 (type_in_parens K)
parens_below K =
    either 2 (takes_type K) (begins productions.TypeName) (only (nat_le (level_at K) a_cast) (begins productions.Cast)) (refl, omega arith)
    (where_so 2 (nat_le (level_at K) a_cast) (begins productions.Cast) (refl, omega arith))

argument_below : (xs : Exprs) (w : Word) → Below 2 (next_argument xs w)
argument_below xs w = either 2 (are_no_args xs) (begins productions.Argument) (only (is at.Comma w) (opens productions.Argument)) (refl, omega arith) (where_so 2 (is at.Comma w) (opens productions.Argument) tt)

action_below : (K : Kind) (v : Value) (w : Word) → Below 2 (action K v w)
action_below K values.Start w = below_more (rank K) 2 (begin K w) (let r = rank_small K in omega arith) (begin_below K w)
action_below K (values.Expr e) w = tail_below (level_at K) e w
action_below K values.Paren w = either 2 (is_specifier w) (type_in_parens K) (begins productions.Parenthesised) (parens_below K) (refl, omega arith)
action_below K (values.Call f xs) w = either 2 (is at.CloseParen w) (joined (values.Expr (call f xs))) (next_argument xs w) tt (argument_below xs w)
action_below K (values.Access op e) w = access_below op e w
action_below K (values.Declarator d) w = either 2 (is_pointer d) stuck (on_mark w (direct_mark d)) tt (direct_below d w)
action_below K (values.Array d) w = either 2 (is at.CloseBracket w) (joined (values.Declarator (array d))) (begins productions.Sized) tt (refl, omega arith)
action_below K values.OpenDeclarator w = open_below (core_at K) w
action_below K (values.Function d ps) w = either 2 (is at.CloseParen w) (joined (values.Declarator (closed d ps))) (next_parameter ps w) tt (parameter_below ps w)
action_below K (values.Specifier s) w = specifier_tail_below K s w
action_below K values.Tag w = tag_below w
action_below K values.EnumTag w = enum_tag_below K w
action_below K (values.Enumerators t xs last) w = enumerators_below t xs last w
action_below K (values.Braces vs comma) w = element_below vs comma w
action_below K (values.Inits xs x) w = inits_below K xs x w
action_below K (values.If c a) w = where_so 2 (is_else w && not (ends_open a)) (opens productions.Else) tt
action_below K (values.Items o its) w = items_below o its w
action_below K (values.Jump j) w = where_so 2 (is at.Semicolon w) (joined (values.Statement (jump j))) tt
action_below K (values.Members t ps n some) w = members_below t ps n some w
action_below K (values.Member t ps n h ds) w = member_below t ps n h ds w
action_below K _ w = tt

-- ---- steps

abbrev Less : ℕ → Move → Type 0
Less n (goes t) = left t.goal t.waiting < n
Less n (takes t) = Unit {0}
Less n stops = Unit {0}

left_small : (g : Wanted) (fs : List Frame) → left g fs ≤ amount fs + 2
left_small (made K values.Start) fs = by (has_words K) (rank_small K)
  where
    by : (b : Bool) → rank K ≤ 1 → (if b then rank K else amount fs + 2) ≤ amount fs + 2
    by true r = omega arith
    by false r = omega arith
left_small (made K v) fs = omega arith
left_small (expects p f) fs = omega arith

opened_less : (f : Frame) (ss : List Symbol) (fs : List Frame) (n : ℕ) → FirstBelow ss n → left (opened f ss fs).goal (opened f ss fs).waiting < n
opened_less f [] fs n b = absurd b
opened_less f (Said p ∷ ss) fs n b = absurd b
opened_less f (Part K ∷ ss) fs n b = rw b.0 b.1

resumed_less : (o : Option Value) (fs : List Frame) → Less (amount fs + 2) (resumes o fs)
resumed_less None fs = tt
resumed_less (Some v) [] = tt
resumed_less (Some v) (f ∷ fs) =
    let s = opened (with_part f v) f.rest fs in
    omega (arith, given_amount f v fs, left_small s.goal s.waiting)

acted_less : (K : Kind) (v : Value) (fs : List Frame) (n : ℕ) (t : Action) → Below n t → Less n (resumes (rests K v) fs) → Less n (acted K v fs t)
acted_less K v fs n (joined u) b r = tt
acted_less K v fs n (opens x) b r = tt
acted_less K v fs n (begins x) b r = opened_less (first_frame K x v) (symbols x) fs n b
acted_less K v fs n stuck b r = r

nothing_there : (K : Kind) → has_words K ≡ true → nothing_at K ≡ None
nothing_there (kinds.Declarator cores.Name i) e = refl
nothing_there (kinds.Declarator cores.Nothing true) e = refl
nothing_there (kinds.Declarator cores.Nothing false) e = cc
nothing_there (kinds.Declarator cores.Either true) e = refl
nothing_there (kinds.Declarator cores.Either false) e = cc
nothing_there _ e = refl

start_less : (K : Kind) (fs : List Frame) (w : Word) (b : Bool) → has_words K ≡ b → Less (if b then rank K else amount fs + 2) (acted K values.Start fs (begin K w))
start_less K fs w true e = acted_less K values.Start fs (rank K) (begin K w) (begin_below K w) (rw (nothing_there K e) tt)
start_less K fs w false e = acted_less K values.Start fs (amount fs + 2) (begin K w) (below_more (rank K) (amount fs + 2) (begin K w) (let r = rank_small K in omega arith) (begin_below K w)) (resumed_less (nothing_at K) fs)

made_less : (K : Kind) (v : Value) (fs : List Frame) (w : Word) → Less (left (made K v) fs) (acted K v fs (action K v w))
made_less K values.Start fs w = start_less K fs w (has_words K) refl
made_less K v fs w = acted_less K v fs (amount fs + 2) (action K v w) (below_more 2 (amount fs + 2) (action K v w) (omega arith) (action_below K v w)) (resumed_less (rests K v) fs)

step_less : (g : Wanted) (fs : List Frame) (w : Word) → Less (left g fs) (step g fs w)
step_less (made K v) fs w = made_less K v fs w
step_less (expects p f) fs w = by (is p w)
  where
    by : (b : Bool) → Less 0 (if b then takes (opened f f.rest fs) else stops)
    by true = tt
    by false = tt

-- a step that doesn't take the word
pub goes_less : (g : Wanted) (fs : List Frame) (w : Word) (t : State) → step g fs w ≡ goes t → left t.goal t.waiting < left g fs
goes_less g fs w t e = let P : Move → Type 0 = λ m. Less (left g fs) m in subst P e (step_less g fs w)
