-- The words that trees begin with, and how tightly a word holds what is before it.
use Rattle.std.proofs.Common.{◌≡◌, ℕ, suc, ◌≤◌, Bool, true, false, ◌&&◌, nat_le, if◌then◌else◌, List, [], ◌∷◌, Option, Some, None, refl, arith}
use Rattle.std.proofs.lemmas.Bool.Decides.{nat_tests}
use Rattle.c_token.specs.declared.word.Mark.{Mark}
use Rattle.c_token.specs.declared.word.Mark.TheVariants as marks
use Rattle.c_token.specs.declared.word.Keyword.{Keyword}
use Rattle.c_token.specs.declared.word.Keyword.TheVariants as keywords
use Rattle.c_token.specs.declared.word.Word.{Word}
use Rattle.c_token.specs.declared.word.Word.TheVariants as words
use Rattle.c_tree.specs.declared.operators.BinaryOp.{BinaryOp}
use Rattle.c_tree.specs.declared.operators.BinaryOp.TheVariants as binaries
use Rattle.c_tree.specs.declared.operators.AssignOp.TheVariants as assigns
use Rattle.c_tree.specs.declared.operators.Infix.{Infix}
use Rattle.c_tree.specs.declared.operators.Infix.TheVariants as infixes
use Rattle.c_tree.specs.declared.operators.UnaryOp.{UnaryOp}
use Rattle.c_tree.specs.declared.operators.UnaryOp.TheVariants as unaries
use Rattle.c_tree.specs.declared.operators.StepOp.{StepOp}
use Rattle.c_tree.specs.declared.operators.Access.{Access}
use Rattle.c_tree.specs.declared.specifier.IntegerWord.{IntegerWord}
use Rattle.c_tree.specs.declared.specifier.IntegerWord.TheVariants as integers
use Rattle.c_tree.specs.declared.specifier.IntegerWords.TheVariants.{One, Two, Three, Four}
use Rattle.c_tree.specs.declared.specifier.SpecifierNode.{SpecifierNode}
use Rattle.c_tree.specs.declared.specifier.SpecifierNode.TheVariants as specifiers
use Rattle.c_tree.specs.Operators.{infix_mark, unary_word, step_mark, access_mark, integer_keyword, binary_level, makes, left_of, right_of, a_choice, an_or, a_cast, a_unary, a_postfix}
use Rattle.c_tree.specs.declared.tree.Core.{Core}
use Rattle.c_tree.specs.declared.tree.Core.TheVariants as cores
use Rattle.c_tree.specs.Tree.{Expr, name, integer, character, string, paren, index, call, member, after, unary, size_of_type, cast, between, choice, no_exprs, Declarator, named, nothing, pointer, array, sized, wrapped, function, function_void, no_parameters}
use Rattle.c_tree.specs.Grammar.{mark, spell_specifier, spell, spell_arguments, spell_declarator, level, FitsDeclarator}
use Rattle.c_productions.specs.declared.kind.Kind.{Kind}
use Rattle.c_productions.specs.declared.kind.Kind.TheVariants as kinds
use Rattle.c_productions.specs.declared.kind.Production.TheVariants as productions
use Rattle.c_productions.specs.declared.kind.Terminal.TheVariants as at
use Rattle.c_productions.specs.declared.value.Value.TheVariants as values
use Rattle.c_productions.specs.refinement.Classes.{infix_at, step_at, access_at, is_sizeof, begins_specifier, is_specifier, is_else, is_mark, is, is_case, is_default}
use Rattle.c_productions.specs.refinement.Table.{Action, joined, opens, begins, stuck, only, if_some, on_mark, level_at, operand, begin, statement_word}
use Rattle.c_productions.specs.refinement.Meaning.{OfExpr}
use Rattle.c_parse_steps.proofs.Reach.{IsStuck}

-- ---- tests

pub le_test : (a b : ℕ) → a ≤ b → nat_le a b ≡ true
le_test a b h = grind (arith, nat_tests)

pub less_test : (a b : ℕ) → suc b ≤ a → nat_le a b ≡ false
less_test a b h = grind (arith, nat_tests)

binary_bounds : (op : BinaryOp) → (3 ≤ binary_level op) × (binary_level op ≤ 12)
binary_bounds binaries.Or = (omega arith, omega arith)
binary_bounds _ = (omega arith, omega arith)

pub right_small : (op : Infix) → right_of op ≤ a_cast
right_small infixes.Comma = omega arith
right_small (infixes.Assign op) = omega arith
right_small (infixes.Binary op) = omega (arith, (binary_bounds op).1)

pub makes_small : (op : Infix) → makes op ≤ 12
makes_small infixes.Comma = omega arith
makes_small (infixes.Assign op) = omega arith
makes_small (infixes.Binary op) = (binary_bounds op).1

pub makes_left : (op : Infix) → makes op ≤ left_of op
makes_left infixes.Comma = omega arith
makes_left (infixes.Assign op) = omega arith
makes_left (infixes.Binary op) = omega arith

pub infix_of : (op : Infix) → infix_at (infix_mark op) ≡ Some op
infix_of infixes.Comma = refl
infix_of (infixes.Assign assigns.Plain) = refl
infix_of (infixes.Assign _) = refl
infix_of (infixes.Binary binaries.Or) = refl
infix_of (infixes.Binary _) = refl

-- ---- how tightly a word holds what is before it

abbrev infix_strength : Option Infix → ℕ → ℕ
infix_strength None other = other
infix_strength (Some op) other = suc (makes op)

abbrev some_strength : {A : Type 0} → Option A → ℕ → ℕ
some_strength None other = other
some_strength (Some x) other = 16

abbrev mark_strength : Mark → ℕ
mark_strength m = infix_strength (infix_at m) (if is_mark at.Question m then suc a_choice else some_strength (step_at m) (some_strength (access_at m) (if is_mark at.OpenBracket m then 16 else if is_mark at.OpenParen m then 16 else 0)))

abbrev pub strength : Word → ℕ
strength (words.Mark m) = mark_strength m
strength (words.Name n) = 0
strength (words.Integer n t) = 0
strength (words.Character c) = 0
strength (words.String s) = 0
strength (words.Keyword k) = 0

abbrev pub first_strength : List Word → ℕ
first_strength [] = 0
first_strength (w ∷ ws) = strength w

pub infix_strength_of : (op : Infix) → strength (words.Mark (infix_mark op)) ≡ suc (makes op)
infix_strength_of op = rw (infix_of op) refl

-- how tightly the end of an expression holds what is before it
abbrev pub floor : Expr → ℕ
floor (name n) = 16
floor (integer n t) = 16
floor (character n) = 16
floor (string s) = 16
floor (paren e) = 16
floor (index a i) = 16
floor (call f xs) = 16
floor (member op e n) = 16
floor (after op e) = 16
floor (unary op e) = a_cast
floor (size_of_type s d) = 16
floor (cast s d e) = a_cast
floor (between op a b) = right_of op
floor (choice c a b) = a_choice

pub low_floor : (e : Expr) (n : ℕ) → n ≤ level e → n ≤ a_cast → n ≤ floor e
low_floor (name x) n h l = omega arith
low_floor (integer x t) n h l = omega arith
low_floor (character x) n h l = omega arith
low_floor (string x) n h l = omega arith
low_floor (paren e) n h l = omega arith
low_floor (index a i) n h l = omega arith
low_floor (call f xs) n h l = omega arith
low_floor (member op e x) n h l = omega arith
low_floor (after op e) n h l = omega arith
low_floor (unary op e) n h l = l
low_floor (size_of_type s d) n h l = omega arith
low_floor (cast s d e) n h l = l
low_floor (choice c a b) n h l = h
low_floor (between infixes.Comma a b) n h l = omega arith
low_floor (between (infixes.Assign op) a b) n h l = omega arith
low_floor (between (infixes.Binary op) a b) n h l = omega arith

pub floor_of_postfix : (e : Expr) → a_postfix ≤ level e → 16 ≤ floor e
floor_of_postfix (name x) h = omega arith
floor_of_postfix (integer x t) h = omega arith
floor_of_postfix (character x) h = omega arith
floor_of_postfix (string x) h = omega arith
floor_of_postfix (paren e) h = omega arith
floor_of_postfix (index a i) h = omega arith
floor_of_postfix (call f xs) h = omega arith
floor_of_postfix (member op e x) h = omega arith
floor_of_postfix (after op e) h = omega arith
floor_of_postfix (unary op e) h = absurd (omega arith)
floor_of_postfix (size_of_type s d) h = absurd (omega arith)
floor_of_postfix (cast s d e) h = absurd (omega arith)
floor_of_postfix (choice c a b) h = absurd (omega arith)
floor_of_postfix (between op a b) h = absurd (omega (arith, makes_small op))

-- what may stand left of an operator doesn't take that operator further in
pub floor_left : (op : Infix) (e : Expr) → left_of op ≤ level e → suc (makes op) ≤ floor e
floor_left op (unary o e) h = omega (arith, makes_small op)
floor_left op (cast s d e) h = omega (arith, makes_small op)
floor_left infixes.Comma (choice c a b) h = omega arith
floor_left (infixes.Assign op) (choice c a b) h = absurd (omega arith)
floor_left (infixes.Binary op) (choice c a b) h = absurd (omega (arith, (binary_bounds op).0))
floor_left op (between o a b) h = between_left op o h
  where
    between_left : (op o : Infix) → left_of op ≤ makes o → suc (makes op) ≤ right_of o
    between_left infixes.Comma infixes.Comma h = omega arith
    between_left infixes.Comma (infixes.Assign o) h = omega arith
    between_left infixes.Comma (infixes.Binary o) h = omega arith
    between_left (infixes.Assign op) infixes.Comma h = absurd (omega arith)
    between_left (infixes.Assign op) (infixes.Assign o) h = absurd (omega arith)
    between_left (infixes.Assign op) (infixes.Binary o) h = absurd (omega (arith, (binary_bounds o).1))
    between_left (infixes.Binary op) infixes.Comma h = absurd (omega (arith, (binary_bounds op).0))
    between_left (infixes.Binary op) (infixes.Assign o) h = absurd (omega (arith, (binary_bounds op).0))
    between_left (infixes.Binary op) (infixes.Binary o) h = omega arith
floor_left op (name x) h = omega (arith, makes_small op)
floor_left op (integer x t) h = omega (arith, makes_small op)
floor_left op (character x) h = omega (arith, makes_small op)
floor_left op (string x) h = omega (arith, makes_small op)
floor_left op (paren e) h = omega (arith, makes_small op)
floor_left op (index a i) h = omega (arith, makes_small op)
floor_left op (call f xs) h = omega (arith, makes_small op)
floor_left op (member o e x) h = omega (arith, makes_small op)
floor_left op (after o e) h = omega (arith, makes_small op)
floor_left op (size_of_type s d) h = omega (arith, makes_small op)

-- a word that holds less tightly isn't taken
abbrev tail_of : ℕ → Expr → Option Infix → Bool → Option StepOp → Option Access → Bool → Bool → Action
tail_of k e o q s a b c =
    if_some o (λ op. only (nat_le k (makes op) && nat_le (left_of op) (level e)) (opens (productions.Between op)))
    (if q then only (nat_le k a_choice && nat_le an_or (level e)) (opens productions.Choice) else
    only (nat_le a_postfix (level e))
    (if_some s (λ op. joined (values.Expr (after op e))) (if_some a (λ op. joined (values.Access op e)) (if b then opens productions.Index else only c (joined (values.Call e no_exprs))))))

no_tail : (k : ℕ) (e : Expr) (o : Option Infix) (q : Bool) (s : Option StepOp) (a : Option Access) (b c : Bool) → k ≤ a_unary → infix_strength o (if q then suc a_choice else some_strength s (some_strength a (if b then 16 else if c then 16 else 0))) ≤ k → tail_of k e o q s a b c ≡ stuck
no_tail k e (Some op) q s a b c l h = rw (less_test k (makes op) h) refl
no_tail k e None true s a b c l h = rw (less_test k a_choice h) refl
no_tail k e None false (Some x) a b c l h = absurd (omega arith)
no_tail k e None false None (Some x) b c l h = absurd (omega arith)
no_tail k e None false None None true c l h = absurd (omega arith)
no_tail k e None false None None false true l h = absurd (omega arith)
no_tail k e None false None None false false l h = never (nat_le a_postfix (level e))
  where
    never : (x : Bool) → only x stuck ≡ stuck
    never true = refl
    never false = refl

pub stops_expr : (K : Kind) (e : Expr) (ws : List Word) → level_at K ≤ a_unary → first_strength ws ≤ level_at K → IsStuck K (values.Expr e) ws
stops_expr K e [] l h = tt
stops_expr K e (words.Mark m ∷ ws) l h = no_tail (level_at K) e (infix_at m) (is_mark at.Question m) (step_at m) (access_at m) (is_mark at.OpenBracket m) (is_mark at.OpenParen m) l h
stops_expr K e (words.Name n ∷ ws) l h = refl
stops_expr K e (words.Integer n t ∷ ws) l h = refl
stops_expr K e (words.Character c ∷ ws) l h = refl
stops_expr K e (words.String s ∷ ws) l h = refl
stops_expr K e (words.Keyword n ∷ ws) l h = refl

-- ---- the words that an expression begins with

abbrev pub begins_operand : Word → Bool
begins_operand (words.Name n) = true
begins_operand (words.Integer n t) = true
begins_operand (words.Character c) = true
begins_operand (words.String s) = true
begins_operand (words.Mark marks.OpenParen) = true
begins_operand (words.Mark marks.Ampersand) = true
begins_operand (words.Mark marks.Star) = true
begins_operand (words.Mark marks.Plus) = true
begins_operand (words.Mark marks.Minus) = true
begins_operand (words.Mark marks.Tilde) = true
begins_operand (words.Mark marks.Bang) = true
begins_operand (words.Mark marks.PlusPlus) = true
begins_operand (words.Mark marks.MinusMinus) = true
begins_operand (words.Mark _) = false
begins_operand (words.Keyword k) = is_sizeof k

pub record Begins (text : List Word) : Type 0 where
  pub first : Word
  pub rest : List Word
  pub same : text ≡ first ∷ rest
  pub operand : begins_operand first ≡ true

unary_begins : (op : UnaryOp) → begins_operand (unary_word op) ≡ true
unary_begins unaries.Not = refl
unary_begins _ = refl

pub begins_with : (e : Expr) (r : List Word) → Begins (spell e r)
begins_with (name n) r = record { first = words.Name n; rest = r; same = refl; operand = refl }
begins_with (integer n t) r = record { first = words.Integer n t; rest = r; same = refl; operand = refl }
begins_with (character n) r = record { first = words.Character n; rest = r; same = refl; operand = refl }
begins_with (string s) r = record { first = words.String s; rest = r; same = refl; operand = refl }
begins_with (paren e) r = record { first = words.Mark marks.OpenParen; rest = spell e (mark marks.CloseParen r); same = refl; operand = refl }
begins_with (index a i) r = begins_with a (mark marks.OpenBracket (spell i (mark marks.CloseBracket r)))
begins_with (call f xs) r = begins_with f (mark marks.OpenParen (spell_arguments xs (mark marks.CloseParen r)))
begins_with (member op e n) r = begins_with e (mark (access_mark op) (words.Name n ∷ r))
begins_with (after op e) r = begins_with e (mark (step_mark op) r)
begins_with (unary op e) r = record { first = unary_word op; rest = spell e r; same = refl; operand = unary_begins op }
begins_with (size_of_type s d) r = record { first = words.Keyword keywords.Sizeof; rest = mark marks.OpenParen (spell_specifier s (spell_declarator d (mark marks.CloseParen r))); same = refl; operand = refl }
begins_with (cast s d e) r = record { first = words.Mark marks.OpenParen; rest = spell_specifier s (spell_declarator d (mark marks.CloseParen (spell e r))); same = refl; operand = refl }
begins_with (choice c a b) r = begins_with c (mark marks.Question (spell a (mark marks.Colon (spell b r))))
begins_with (between op a b) r = begins_with a (mark (infix_mark op) (spell b r))

pub operand_no_specifier : (w : Word) → begins_operand w ≡ true → is_specifier w ≡ false
operand_no_specifier (words.Keyword keywords.Sizeof) h = refl
operand_no_specifier (words.Keyword _) h = cc
operand_no_specifier (words.Name n) h = refl
operand_no_specifier (words.Integer n t) h = refl
operand_no_specifier (words.Character c) h = refl
operand_no_specifier (words.String s) h = refl
operand_no_specifier (words.Mark m) h = refl

pub operand_no_close : (w : Word) → begins_operand w ≡ true → is at.CloseParen w ≡ false
operand_no_close (words.Mark marks.CloseParen) h = cc
operand_no_close (words.Mark _) h = refl
operand_no_close _ h = refl

pub operand_no_bracket : (w : Word) → begins_operand w ≡ true → is at.CloseBracket w ≡ false
operand_no_bracket (words.Mark marks.CloseBracket) h = cc
operand_no_bracket (words.Mark _) h = refl
operand_no_bracket _ h = refl

pub operand_no_semicolon : (w : Word) → begins_operand w ≡ true → is at.Semicolon w ≡ false
operand_no_semicolon (words.Mark marks.Semicolon) h = cc
operand_no_semicolon (words.Mark _) h = refl
operand_no_semicolon _ h = refl

pub operand_no_brace : (w : Word) → begins_operand w ≡ true → is at.OpenBrace w ≡ false
operand_no_brace (words.Mark marks.OpenBrace) h = cc
operand_no_brace (words.Mark _) h = refl
operand_no_brace _ h = refl

pub operand_no_end : (w : Word) → begins_operand w ≡ true → is at.CloseBrace w ≡ false
operand_no_end (words.Mark marks.CloseBrace) h = cc
operand_no_end (words.Mark _) h = refl
operand_no_end _ h = refl

pub operand_no_else : (w : Word) → begins_operand w ≡ true → is_else w ≡ false
operand_no_else (words.Keyword keywords.Else) h = cc
operand_no_else (words.Keyword _) h = refl
operand_no_else _ h = refl

pub operand_no_case : (w : Word) → begins_operand w ≡ true → is_case w ≡ false
operand_no_case (words.Keyword keywords.Case) h = cc
operand_no_case (words.Keyword _) h = refl
operand_no_case _ h = refl

pub operand_no_default : (w : Word) → begins_operand w ≡ true → is_default w ≡ false
operand_no_default (words.Keyword keywords.Default) h = cc
operand_no_default (words.Keyword _) h = refl
operand_no_default _ h = refl

pub operand_is_plain : (w : Word) → begins_operand w ≡ true → statement_word w ≡ begins productions.Plain
operand_is_plain (words.Mark marks.Semicolon) h = cc
operand_is_plain (words.Mark marks.OpenBrace) h = cc
operand_is_plain (words.Mark _) h = refl
operand_is_plain (words.Keyword keywords.Sizeof) h = refl
operand_is_plain (words.Keyword _) h = cc
operand_is_plain (words.Name n) h = refl
operand_is_plain (words.Integer n t) h = refl
operand_is_plain (words.Character c) h = refl
operand_is_plain (words.String s) h = refl

pub begin_expr : (K : Kind) (w : Word) → OfExpr K → begin K w ≡ operand w
begin_expr (kinds.Expr k) w o = refl
begin_expr kinds.SizeofOperand w o = refl
begin_expr _ w o = absurd o

-- ---- the words that a specifier begins with, and that end one

pub record SpecifierBegins (text : List Word) : Type 0 where
  pub first : Keyword
  pub rest : List Word
  pub same : text ≡ words.Keyword first ∷ rest
  pub specifier : begins_specifier first ≡ true

integer_begins : (a : IntegerWord) → begins_specifier (integer_keyword a) ≡ true
integer_begins integers.Char = refl
integer_begins _ = refl

pub specifier_begins : (s : SpecifierNode) (r : List Word) → SpecifierBegins (spell_specifier s r)
specifier_begins specifiers.Void r = record { first = keywords.Void; rest = r; same = refl; specifier = refl }
specifier_begins specifiers.SizeT r = record { first = keywords.SizeT; rest = r; same = refl; specifier = refl }
specifier_begins specifiers.PtrdiffT r = record { first = keywords.PtrdiffT; rest = r; same = refl; specifier = refl }
specifier_begins (specifiers.Struct t) r = record { first = keywords.Struct; rest = words.Name t ∷ r; same = refl; specifier = refl }
specifier_begins (specifiers.Enum t) r = record { first = keywords.Enum; rest = words.Name t ∷ r; same = refl; specifier = refl }
specifier_begins (specifiers.Integer (One a)) r = record { first = integer_keyword a; rest = _; same = refl; specifier = integer_begins a }
specifier_begins (specifiers.Integer (Two a b)) r = record { first = integer_keyword a; rest = _; same = refl; specifier = integer_begins a }
specifier_begins (specifiers.Integer (Three a b c)) r = record { first = integer_keyword a; rest = _; same = refl; specifier = integer_begins a }
specifier_begins (specifiers.Integer (Four a b c d)) r = record { first = integer_keyword a; rest = _; same = refl; specifier = integer_begins a }

abbrev ends_specifier : Word → Bool
ends_specifier (words.Name n) = true
ends_specifier (words.Mark marks.Star) = true
ends_specifier (words.Mark marks.OpenParen) = true
ends_specifier (words.Mark marks.OpenBracket) = true
ends_specifier (words.Mark marks.CloseParen) = true
ends_specifier (words.Mark marks.Comma) = true
ends_specifier (words.Mark marks.Semicolon) = true
ends_specifier _ = false

-- what may follow a specifier
abbrev pub EndsSpecifier : List Word → Type 0
EndsSpecifier [] = ⊥
EndsSpecifier (w ∷ ws) = ends_specifier w ≡ true

pub specifier_stops : (K : Kind) (s : SpecifierNode) (ws : List Word) → EndsSpecifier ws → IsStuck K (values.Specifier s) ws
specifier_stops K s [] h = absurd h
specifier_stops K s (words.Name n ∷ ws) h = refl
specifier_stops K s (words.Mark marks.Star ∷ ws) h = refl
specifier_stops K s (words.Mark marks.OpenParen ∷ ws) h = refl
specifier_stops K s (words.Mark marks.OpenBracket ∷ ws) h = refl
specifier_stops K s (words.Mark marks.CloseParen ∷ ws) h = refl
specifier_stops K s (words.Mark marks.Comma ∷ ws) h = refl
specifier_stops K s (words.Mark marks.Semicolon ∷ ws) h = refl
specifier_stops K s (_ ∷ ws) h = cc

-- ---- the words that end a declarator

abbrev ends_declarator : Word → Bool
ends_declarator (words.Mark marks.CloseParen) = true
ends_declarator (words.Mark marks.OpenBrace) = true
ends_declarator (words.Mark marks.Comma) = true
ends_declarator (words.Mark marks.Semicolon) = true
ends_declarator (words.Mark marks.Equals) = true
ends_declarator _ = false

abbrev pub EndsDeclarator : List Word → Type 0
EndsDeclarator [] = ⊥
EndsDeclarator (w ∷ ws) = ends_declarator w ≡ true

direct_stops : (K : Kind) (d : Declarator) (w : Word) → ends_declarator w ≡ true → on_mark w (λ m. if is_mark at.OpenBracket m then joined (values.Array d) else only (is_mark at.OpenParen m) (joined (values.Function d no_parameters))) ≡ stuck
direct_stops K d (words.Mark marks.CloseParen) e = refl
direct_stops K d (words.Mark marks.OpenBrace) e = refl
direct_stops K d (words.Mark marks.Comma) e = refl
direct_stops K d (words.Mark marks.Semicolon) e = refl
direct_stops K d (words.Mark marks.Equals) e = refl
direct_stops K d _ e = cc

pub declarator_stops : (K : Kind) (d : Declarator) (ws : List Word) → EndsDeclarator ws → IsStuck K (values.Declarator d) ws
declarator_stops K d [] e = absurd e
declarator_stops K (pointer d) (w ∷ ws) e = refl
declarator_stops K (named n) (w ∷ ws) e = direct_stops K (named n) w e
declarator_stops K nothing (w ∷ ws) e = direct_stops K nothing w e
declarator_stops K (array d) (w ∷ ws) e = direct_stops K (array d) w e
declarator_stops K (sized d l) (w ∷ ws) e = direct_stops K (sized d l) w e
declarator_stops K (wrapped d) (w ∷ ws) e = direct_stops K (wrapped d) w e
declarator_stops K (function d ps) (w ∷ ws) e = direct_stops K (function d ps) w e
declarator_stops K (function_void d) (w ∷ ws) e = direct_stops K (function_void d) w e

pub nothing_stops : (c : Core) (i : Bool) (ws : List Word) → EndsDeclarator ws → IsStuck (kinds.Declarator c i) values.Start ws
nothing_stops c i [] e = absurd e
nothing_stops c i (words.Mark marks.CloseParen ∷ ws) e = refl
nothing_stops c i (words.Mark marks.OpenBrace ∷ ws) e = refl
nothing_stops c i (words.Mark marks.Comma ∷ ws) e = refl
nothing_stops c i (words.Mark marks.Semicolon ∷ ws) e = refl
nothing_stops c i (words.Mark marks.Equals ∷ ws) e = refl
nothing_stops c i (_ ∷ ws) e = cc

pub declarator_first : (d : Declarator) (r : List Word) → EndsSpecifier r → EndsSpecifier (spell_declarator d r)
declarator_first (named n) r h = refl
declarator_first nothing r h = h
declarator_first (pointer d) r h = refl
declarator_first (array d) r h = declarator_first d _ refl
declarator_first (sized d e) r h = declarator_first d _ refl
declarator_first (wrapped d) r h = refl
declarator_first (function d ps) r h = declarator_first d _ refl
declarator_first (function_void d) r h = declarator_first d _ refl

-- a declarator that has a name
pub name_first : (d : Declarator) (r : List Word) → FitsDeclarator cores.Name d → EndsSpecifier (spell_declarator d r)
name_first (named n) r f = refl
name_first nothing r f = cc
name_first (pointer d) r f = refl
name_first (array d) r f = declarator_first d _ refl
name_first (sized d e) r f = declarator_first d _ refl
name_first (wrapped d) r f = refl
name_first (function d ps) r f = declarator_first d _ refl
name_first (function_void d) r f = declarator_first d _ refl
