-- What a word makes of a value in hand: the words stay the same, the trees fit, and the least height doesn't fall.
use Rattle.std.proofs.Common.{◌≡◌, ℕ, ◌+◌, ◌-◌, ◌≤◌, max, Bool, true, false, ◌&&◌, not, nat_le, if◌then◌else◌, List, [], ◌∷◌, ◌++◌, Option, Some, None, refl, sym, ◌∙◌, ap, subst, append_assoc, arith}
use Rattle.std.proofs.lemmas.Bool.Decides.{nat_tests}
use Rattle.c_tree.specs.declared.specifier.Combination.{Combination}
use Rattle.c_token.specs.declared.word.Mark.{Mark}
use Rattle.c_token.specs.declared.word.Mark.TheVariants as marks
use Rattle.c_token.specs.declared.word.Keyword.TheVariants as keywords
use Rattle.c_token.specs.declared.word.Word.{Word}
use Rattle.c_token.specs.declared.word.Word.TheVariants as words
use Rattle.c_tree.specs.declared.operators.BinaryOp.{BinaryOp}
use Rattle.c_tree.specs.declared.operators.BinaryOp.TheVariants as binaries
use Rattle.c_tree.specs.declared.operators.Infix.{Infix}
use Rattle.c_tree.specs.declared.operators.Infix.TheVariants as infixes
use Rattle.c_tree.specs.declared.operators.UnaryOp.{UnaryOp}
use Rattle.c_tree.specs.declared.operators.StepOp.{StepOp}
use Rattle.c_tree.specs.declared.operators.Access.{Access}
use Rattle.c_tree.specs.declared.specifier.IntegerWord.{IntegerWord}
use Rattle.c_tree.specs.declared.specifier.IntegerWords.{IntegerWords}
use Rattle.c_tree.specs.declared.specifier.IntegerWords.TheVariants.{One, Two, Three, Four}
use Rattle.c_tree.specs.declared.specifier.SpecifierNode.{SpecifierNode}
use Rattle.c_tree.specs.declared.specifier.SpecifierNode.TheVariants as specifiers
use Rattle.c_tree.specs.Operators.{infix_mark, unary_word, step_mark, access_mark, integer_keyword, binary_level, makes, left_of, right_of, combination, extended, is_said, kept, a_choice, an_or, a_cast, a_unary, a_postfix}
use Rattle.c_tree.specs.declared.tree.Core.{Core}
use Rattle.c_tree.specs.declared.tree.Core.TheVariants as cores
use Rattle.c_tree.specs.Tree.{Expr, call, after, Exprs, no_exprs, expr_and, Declarator, named, nothing, pointer, array, sized, wrapped, function, function_void, Parameters, no_parameters, parameter_and, Initialiser, braces, Initialisers, no_initialisers, initialiser_and}
use Rattle.c_tree.specs.declared.initialiser.Init.{Init}
use Rattle.c_tree.specs.declared.enumerator.Enumerator.{Enumerator}
use Rattle.c_tree.specs.declared.first.ForFirstNode.TheVariants as firsts
use Rattle.c_tree.specs.Statements.{Statement, empty, jump, Items, no_items}
use Rattle.c_tree.specs.declared.statement.Item.{Item}
use Rattle.c_tree.specs.declared.statement.Item.TheVariants as items
use Rattle.c_tree.specs.Heights.{declarator_height, init_height}
use Rattle.c_tree.specs.StatementHeights.{ends_open}
use Rattle.c_tree.specs.ExternalHeights.{piece_height}
use Rattle.c_tree.specs.EnumeratorHeights.{enumerator_height}
use Rattle.c_tree.specs.declared.external.MemberHead.{MemberHead}
use Rattle.c_tree.specs.declared.external.MemberHead.TheVariants as heads
use Rattle.c_tree.specs.declared.external.Piece.{Piece}
use Rattle.c_tree.specs.declared.external.Piece.TheVariants as pieces
use Rattle.c_tree.specs.declared.external.OuterSpecifier.TheVariants as outers
use Rattle.c_tree.specs.declared.external.ExternalForm.TheVariants as forms
use Rattle.c_tree.specs.Grammar.{mark, keyword, spell_integer, spell_specifier, spell, spell_declarator, spell_items, spell_head, spell_members, level, IsDirect, may_name, may_be_nothing, FitsDeclarator, FitsInit, FitsClause, FitMembers, spell_enumerator, spell_tag, FitsEnumerator}
use Rattle.c_productions.specs.declared.kind.Kind.{Kind}
use Rattle.c_productions.specs.declared.kind.Kind.TheVariants as kinds
use Rattle.c_productions.specs.declared.kind.Production.{Production}
use Rattle.c_productions.specs.declared.kind.Production.TheVariants as productions
use Rattle.c_productions.specs.declared.kind.Terminal.{Terminal}
use Rattle.c_productions.specs.declared.kind.Terminal.TheVariants as at
use Rattle.c_productions.specs.declared.value.Holder.{Holder}
use Rattle.c_productions.specs.declared.value.Holder.TheVariants as holders
use Rattle.c_productions.specs.declared.value.Value.{Value}
use Rattle.c_productions.specs.declared.value.Value.TheVariants as values
use Rattle.c_productions.specs.refinement.Classes.{infix_at, prefix_at, step_at, access_at, integer_at, specifier_at, is_struct, is_sizeof, is_specifier, is_else, word_of, is_mark, is, is_enum, is_case, is_default}
use Rattle.c_productions.specs.refinement.Table.{Action, joined, opens, begins, stuck, only, if_some, on_mark, on_keyword, level_at, core_at, takes_type, operand_mark, operand, declarator_mark, declarator_word, specifier_keyword, statement_mark, statement_keyword, statement_word, first_word, begin, postfix, tail, type_in_parens, next_argument, access_name, direct_mark, declarator_tail, sole_void, closed, next_parameter, open_declarator, and_integer, specifier_tail, tag_name, next_element, has_no_value, is_single, form_end, inits_tail, items_tail, members_end, members_tail, member_tail, action, symbols, build, height, least_of, least, lift, rise, first_frame, may_define, members_begin, braces_begin, enum_tag_name, has_no_constant, enumerator_name, enumerator_tail, enumerators_tail, items_end, takes_labels, statement_item, are_no}
use Rattle.c_productions.specs.refinement.Table as table
use Rattle.c_productions.specs.refinement.Meaning.{inits_then, written, Val, OperandVal, an_expr, a_type, MemberVal, a_specifier, an_opening, value_of, OfExpr, OfSizeof, OfDeclarator, OfSpecifier, OfOuter, OfInitialiser, OfInits, OfStatement, MayComma, OfMembers, OfHead, IsHand, Parts, written_rest, highest, leasts, Text, Made, Framed, OfDefinition, OfHolder, an_enumeration}
use Rattle.c_productions.specs.refinement.Meaning as meaning
use Rattle.c_parse_steps.proofs.Words.{infix_is, step_is, access_is, prefix_is, integer_is, specifier_is, struct_is, sizeof_is, else_is, mark_is, word_is, enum_is, case_is, default_is}
use Rattle.c_parse_steps.proofs.Closed.{closed_same, closed_fits, closed_high}
use Rattle.c_parse_steps.proofs.Lists.{append_nil, arguments_last, fit_last, parameters_last, fit_parameters_last, initialisers_last, fit_initialisers_last, inits_then_last, inits_are, each_last, tallest_of_last, fit_inits_last, items_last, fit_items_last, tallest_item_last, members_last, declarators_last, named_high, before_commas_last, separated_are, separated_moved, fit_enumerators_last}
use Rattle.c_tree.proofs.Lists.{tallest_last, tallest_parameter_last, tallest_initialiser_last}

pub record Joins (K : Kind) (v : Value) (w : Word) (u : Value) : Type 0 where
  pub same : (q : List Word) → written u q ≡ written v (w ∷ q)
  pub fits : IsHand K u
  pub rises : least K v ≤ least K u

pub record Opened (K : Kind) (v : Value) (r : Production) (F : Text) : Type 0 where
  pub framed : Framed (first_frame K r v) (symbols r) F
  pub rises : least K v ≤ max (height v + lift r) (leasts (symbols r) + rise r)

abbrev pub Acts : Kind → Value → Word → Action → Type 0
Acts K v w (joined u) = Joins K v w u
Acts K v w (opens r) = Opened K v r (λ q. written v (w ∷ q))
Acts K v w (begins r) = Opened K v r (λ q. written v q)
Acts K v w stuck = Unit {0}

-- ---- the parts of the table

t_only : (K : Kind) (v : Value) (w : Word) (b : Bool) (t : Action) → (b ≡ true → Acts K v w t) → Acts K v w (only b t)
t_only K v w true t h = h refl
t_only K v w false t h = tt

t_if : (K : Kind) (v : Value) (w : Word) (b : Bool) (x y : Action) → (b ≡ true → Acts K v w x) → (b ≡ false → Acts K v w y) → Acts K v w (if b then x else y)
t_if K v w true x y h k = h refl
t_if K v w false x y h k = k refl

t_some : {A : Type 0} → (K : Kind) (v : Value) (w : Word) (o : Option A) (f : A → Action) (other : Action) → ((x : A) → o ≡ Some x → Acts K v w (f x)) → Acts K v w other → Acts K v w (if_some o f other)
t_some K v w None f other h k = k
t_some K v w (Some x) f other h k = h x refl

t_at : (K : Kind) (v : Value) (w u : Word) (t : Action) → w ≡ u → Acts K v u t → Acts K v w t
t_at K v w u t e h = let P : Word → Type 0 = λ x. Acts K v x t in subst P (sym e) h

t_is : (K : Kind) (v : Value) (p : Terminal) (w : Word) (x y : Action) → Acts K v (word_of p) x → Acts K v w y → Acts K v w (if is p w then x else y)
t_is K v p w x y h k = t_if K v w (is p w) x y (λ e. t_at K v w (word_of p) x (word_is p w e) h) (λ _. k)

t_only_is : (K : Kind) (v : Value) (p : Terminal) (w : Word) (x : Action) → Acts K v (word_of p) x → Acts K v w (only (is p w) x)
t_only_is K v p w x h = t_only K v w (is p w) x (λ e. t_at K v w (word_of p) x (word_is p w e) h)

t_is_mark : (K : Kind) (v : Value) (p : Terminal) (m : Mark) (x y : Action) → Acts K v (word_of p) x → Acts K v (words.Mark m) y → Acts K v (words.Mark m) (if is_mark p m then x else y)
t_is_mark K v p m x y h k = t_if K v (words.Mark m) (is_mark p m) x y (λ e. t_at K v (words.Mark m) (word_of p) x (mark_is p m e) h) (λ _. k)

t_only_mark : (K : Kind) (v : Value) (p : Terminal) (m : Mark) (x : Action) → Acts K v (word_of p) x → Acts K v (words.Mark m) (only (is_mark p m) x)
t_only_mark K v p m x h = t_only K v (words.Mark m) (is_mark p m) x (λ e. t_at K v (words.Mark m) (word_of p) x (mark_is p m e) h)

-- ---- tests

le_is : (a b : ℕ) → nat_le a b ≡ true → a ≤ b
le_is a b e = grind (arith, nat_tests)

le_not : (a b : ℕ) → nat_le a b ≡ false → b + 1 ≤ a
le_not a b e = grind (arith, nat_tests)

and_true : (x y : Bool) → (x && y) ≡ true → (x ≡ true) × (y ≡ true)
and_true true y e = (refl, e)
and_true false y e = cc

both_le : (a b c d : ℕ) → (nat_le a b && nat_le c d) ≡ true → (a ≤ b) × (c ≤ d)
both_le a b c d e = let p = and_true (nat_le a b) (nat_le c d) e in (le_is a b p.0, le_is c d p.1)

binary_bounds : (op : BinaryOp) → (3 ≤ binary_level op) × (binary_level op ≤ 12)
binary_bounds binaries.Or = (omega arith, omega arith)
binary_bounds _ = (omega arith, omega arith)

pub right_small : (op : Infix) → right_of op ≤ a_unary
right_small infixes.Comma = omega arith
right_small (infixes.Assign op) = omega arith
right_small (infixes.Binary op) = omega (arith, (binary_bounds op).1)

-- ---- expressions

small : (K : Kind) → OfExpr K → level_at K ≤ a_unary
small (kinds.Expr k) o = o
small _ o = omega arith

least_expr : (K : Kind) → OfExpr K → least_of K ≤ 1
least_expr (kinds.Expr k) o = omega arith
least_expr kinds.SizeofOperand o = omega arith
least_expr _ o = absurd o

paren_joins : (K : Kind) → OfExpr K → Joins K values.Start (words.Mark marks.OpenParen) values.Paren
paren_joins (kinds.Expr k) o = record { same = λ q. refl; fits = o; rises = omega arith }
paren_joins kinds.SizeofOperand o = record { same = λ q. refl; fits = o; rises = omega arith }
paren_joins _ o = absurd o

sizeof_made : (K : Kind) → OfExpr K → (x : OperandVal) (u : Unit {0}) → Made (first_frame K productions.Sizeof values.Start) (symbols productions.Sizeof) (λ q. written values.Start (words.Keyword keywords.Sizeof ∷ q)) (x, u)
sizeof_made K o (an_expr x) u = record { same = λ q. refl; fits = (o, small K o, (x.tight, x.fits)); high = omega arith }
sizeof_made K o (a_type x) u = record { same = λ q. refl; fits = (o, small K o, (x.specifier_fits, x.declarator_fits)); high = omega arith }

operand_acts : (K : Kind) (w : Word) → OfExpr K → Acts K values.Start w (operand w)
operand_acts K (words.Name n) o = record { same = λ q. refl; fits = (o, omega (arith, small K o), tt); rises = least_expr K o }
operand_acts K (words.Integer n t) o = record { same = λ q. refl; fits = (o, omega (arith, small K o), tt); rises = least_expr K o }
operand_acts K (words.Character c) o = record { same = λ q. refl; fits = (o, omega (arith, small K o), tt); rises = least_expr K o }
operand_acts K (words.String s) o = record { same = λ q. refl; fits = (o, omega (arith, small K o), tt); rises = least_expr K o }
operand_acts K (words.Mark m) o =
    let prefix : UnaryOp → Action = λ op. opens (productions.Unary op) in
    t_some K values.Start (words.Mark m) (prefix_at m) prefix (only (is_mark at.OpenParen m) (joined values.Paren))
    (λ op e. t_at K values.Start (words.Mark m) (unary_word op) (prefix op) (prefix_is m op e) (record {
      framed = λ x. record { same = λ q. refl; fits = (o, small K o, (x.0.tight, x.0.fits)); high = omega arith };
      rises = omega (arith, least_expr K o);
    }))
    (t_only_mark K values.Start at.OpenParen m (joined values.Paren) (paren_joins K o))
operand_acts K (words.Keyword k) o =
    t_only K values.Start (words.Keyword k) (is_sizeof k) (opens productions.Sizeof) (λ e.
    t_at K values.Start (words.Keyword k) (words.Keyword keywords.Sizeof) (opens productions.Sizeof) (ap (λ x. words.Keyword x) (sizeof_is k e))
    (record { framed = λ x. sizeof_made K o x.0 x.1; rises = omega (arith, least_expr K o) }))

postfix_acts : (K : Kind) (e : Expr) (m : Mark) → IsHand K (values.Expr e) → a_postfix ≤ level e → Acts K (values.Expr e) (words.Mark m) (postfix e m)
postfix_acts K e m h l =
    let v = values.Expr e in
    let w = words.Mark m in
    let o = h.0 in
    let after_action : StepOp → Action = λ op. joined (values.Expr (after op e)) in
    let access_action : Access → Action = λ op. joined (values.Access op e) in
    let indexes : Action = opens productions.Index in
    let calls : Action = joined (values.Call e no_exprs) in
    let others : Action = if is_mark at.OpenBracket m then indexes else only (is_mark at.OpenParen m) calls in
    t_some K v w (step_at m) after_action (if_some (access_at m) access_action others)
    (λ op i. t_at K v w (words.Mark (step_mark op)) (after_action op) (ap (λ x. words.Mark x) (step_is m op i))
    (record { same = λ q. refl; fits = (o, omega (arith, small K o), (l, h.2)); rises = omega arith }))
    (t_some K v w (access_at m) access_action others
    (λ op i. t_at K v w (words.Mark (access_mark op)) (access_action op) (ap (λ x. words.Mark x) (access_is m op i))
    (record { same = λ q. refl; fits = (o, l, h.2); rises = omega arith }))
    (t_is_mark K v at.OpenBracket m indexes (only (is_mark at.OpenParen m) calls)
    (record {
      framed = λ x. record { same = λ q. refl; fits = (o, omega (arith, small K o), (l, h.2, x.0.fits)); high = omega arith };
      rises = omega arith;
    })
    (t_only_mark K v at.OpenParen m calls (record { same = λ q. refl; fits = (o, l, h.2, tt); rises = omega arith }))))

tail_acts : (K : Kind) (e : Expr) (w : Word) → IsHand K (values.Expr e) → Acts K (values.Expr e) w (on_mark w (tail (level_at K) e))
tail_acts K e (words.Mark m) h =
    let v = values.Expr e in
    let w = words.Mark m in
    let o = h.0 in
    let k = level_at K in
    let fits : Infix → Bool = λ op. nat_le k (makes op) && nat_le (left_of op) (level e) in
    let joins : Infix → Action = λ op. opens (productions.Between op) in
    let b = nat_le k a_choice && nat_le an_or (level e) in
    let p = nat_le a_postfix (level e) in
    let others : Action = if is_mark at.Question m then only b (opens productions.Choice) else only p (postfix e m) in
    t_some K v w (infix_at m) (λ op. only (fits op) (joins op)) others
    (λ op i. t_at K v w (words.Mark (infix_mark op)) (only (fits op) (joins op)) (ap (λ x. words.Mark x) (infix_is m op i))
    (t_only K v (words.Mark (infix_mark op)) (fits op) (joins op) (λ t.
    let l = both_le k (makes op) (left_of op) (level e) t in
    record {
      framed = λ x. record { same = λ q. refl; fits = (o, l.0, (l.1, x.0.tight, h.2, x.0.fits)); high = omega arith };
      rises = omega arith;
    })))
    (t_is_mark K v at.Question m (only b (opens productions.Choice)) (only p (postfix e m))
    (t_only K v (words.Mark marks.Question) b (opens productions.Choice) (λ t.
    let l = both_le k a_choice an_or (level e) t in
    record {
      framed = λ x. record { same = λ q. refl; fits = (o, l.0, (l.1, x.1.0.tight, h.2, x.0.fits, x.1.0.fits)); high = omega arith };
      rises = omega arith;
    }))
    (t_only K v w p (postfix e m) (λ t. postfix_acts K e m h (le_is a_postfix (level e) t))))
tail_acts K e (words.Name n) h = tt
tail_acts K e (words.Integer n t) h = tt
tail_acts K e (words.Character c) h = tt
tail_acts K e (words.String s) h = tt
tail_acts K e (words.Keyword k) h = tt

parenthesised_opened : (K : Kind) → OfExpr K → Opened K values.Paren productions.Parenthesised (λ q. written values.Paren q)
parenthesised_opened (kinds.Expr k) o = record { framed = λ x. record { same = λ q. refl; fits = (o, omega arith, x.0.fits); high = omega arith }; rises = omega arith }
parenthesised_opened kinds.SizeofOperand o = record { framed = λ x. record { same = λ q. refl; fits = (o, omega arith, x.0.fits); high = omega arith }; rises = omega arith }
parenthesised_opened _ o = absurd o

paren_acts : (K : Kind) (w : Word) → OfExpr K → Acts K values.Paren w (if is_specifier w then type_in_parens K else begins productions.Parenthesised)
paren_acts (kinds.Expr k) w o =
    let K = kinds.Expr k in
    t_if K values.Paren w (is_specifier w) (type_in_parens K) (begins productions.Parenthesised)
    (λ _. t_only K values.Paren w (nat_le k a_cast) (begins productions.Cast) (λ t. record {
      framed = λ x. record { same = λ q. refl; fits = (o, le_is k a_cast t, (x.0.fits, x.1.0.fits, x.1.1.0.tight, x.1.1.0.fits)); high = omega arith };
      rises = omega arith;
    }))
    (λ _. parenthesised_opened K o)
paren_acts kinds.SizeofOperand w o =
    let K = kinds.SizeofOperand in
    t_if K values.Paren w (is_specifier w) (type_in_parens K) (begins productions.Parenthesised)
    (λ _. record {
      framed = λ x. record { same = λ q. refl; fits = (tt, x.0.fits, x.1.0.fits); high = omega arith };
      rises = omega arith;
    })
    (λ _. parenthesised_opened K o)
paren_acts _ w o = absurd o

call_acts : (K : Kind) (f : Expr) (xs : Exprs) (w : Word) → IsHand K (values.Call f xs) → Acts K (values.Call f xs) w (if is at.CloseParen w then joined (values.Expr (call f xs)) else next_argument xs w)
call_acts K f no_exprs w h =
    t_is K (values.Call f no_exprs) at.CloseParen w (joined (values.Expr (call f no_exprs))) (next_argument no_exprs w)
    (record { same = λ q. refl; fits = (h.0, omega (arith, small K h.0), (h.1, h.2, tt)); rises = omega arith })
    (record {
      framed = λ x. record { same = λ q. refl; fits = (h.0, h.1, h.2, (x.0.tight, x.0.fits, tt)); high = omega arith };
      rises = omega arith;
    })
call_acts K f (expr_and a xs) w h =
    let v = values.Call f (expr_and a xs) in
    t_is K v at.CloseParen w (joined (values.Expr (call f (expr_and a xs)))) (next_argument (expr_and a xs) w)
    (record { same = λ q. refl; fits = (h.0, omega (arith, small K h.0), (h.1, h.2, h.3)); rises = omega arith })
    (t_only_is K v at.Comma w (opens productions.Argument) (record {
      framed = λ x. record {
        same = λ q. ap (λ r. spell f (mark marks.OpenParen r)) (arguments_last a xs x.0.tree q);
        fits = (h.0, h.1, h.2, fit_last (expr_and a xs) x.0.tree h.3 x.0.tight x.0.fits);
        high = omega (arith, tallest_last (expr_and a xs) x.0.tree);
      };
      rises = omega arith;
    }))

access_acts : (K : Kind) (op : Access) (e : Expr) (w : Word) → IsHand K (values.Access op e) → Acts K (values.Access op e) w (access_name op e w)
access_acts K op e (words.Name n) h = record { same = λ q. refl; fits = (h.0, omega (arith, small K h.0), (h.1, h.2)); rises = omega arith }
access_acts K op e _ h = tt

-- ---- declarators

declarator_mark_acts : (c : Core) (i : Bool) (m : Mark) → Acts (kinds.Declarator c i) values.Start (words.Mark m) (declarator_mark c m)
declarator_mark_acts c i m =
    let K = kinds.Declarator c i in
    let array_action : Action = only (is_mark at.OpenBracket m && may_be_nothing c) (joined (values.Array nothing)) in
    t_is_mark K values.Start at.Star m (opens (productions.Pointer c)) (if is_mark at.OpenParen m then joined values.OpenDeclarator else array_action)
    (record {
      framed = λ x. record { same = λ q. refl; fits = (tt, tt, x.0.fits); high = omega arith };
      rises = pointer_rises c i;
    })
    (t_is_mark K values.Start at.OpenParen m (joined values.OpenDeclarator) array_action
    (record { same = λ q. refl; fits = tt; rises = open_rises c i })
    (t_only K values.Start (words.Mark m) (is_mark at.OpenBracket m && may_be_nothing c) (joined (values.Array nothing)) (λ e.
    let b = and_true (is_mark at.OpenBracket m) (may_be_nothing c) e in
    t_at K values.Start (words.Mark m) (words.Mark marks.OpenBracket) (joined (values.Array nothing)) (mark_is at.OpenBracket m b.0)
    (record { same = λ q. refl; fits = (tt, tt, b.1); rises = array_rises c i }))))
  where
    pointer_rises : (c : Core) (i : Bool) → least_of (kinds.Declarator c i) ≤ max (0 + 0) (max (least_of (kinds.Declarator c false)) 0 + 1)
    pointer_rises cores.Name i = omega arith
    pointer_rises cores.Nothing true = omega arith
    pointer_rises cores.Nothing false = omega arith
    pointer_rises cores.Either true = omega arith
    pointer_rises cores.Either false = omega arith

    open_rises : (c : Core) (i : Bool) → least_of (kinds.Declarator c i) ≤ table.least_open c
    open_rises cores.Name i = omega arith
    open_rises cores.Nothing true = omega arith
    open_rises cores.Nothing false = omega arith
    open_rises cores.Either true = omega arith
    open_rises cores.Either false = omega arith

    array_rises : (c : Core) (i : Bool) → least_of (kinds.Declarator c i) ≤ 0 + 1
    array_rises cores.Name i = omega arith
    array_rises cores.Nothing true = omega arith
    array_rises cores.Nothing false = omega arith
    array_rises cores.Either true = omega arith
    array_rises cores.Either false = omega arith

declarator_word_acts : (c : Core) (i : Bool) (w : Word) → Acts (kinds.Declarator c i) values.Start w (declarator_word c w)
declarator_word_acts c i (words.Name n) = t_only (kinds.Declarator c i) values.Start (words.Name n) (may_name c) (joined (values.Declarator (named n))) (λ e. record { same = λ q. refl; fits = (tt, tt, e); rises = name_rises c i })
  where
    name_rises : (c : Core) (i : Bool) → least_of (kinds.Declarator c i) ≤ 1
    name_rises cores.Name i = omega arith
    name_rises cores.Nothing true = omega arith
    name_rises cores.Nothing false = omega arith
    name_rises cores.Either true = omega arith
    name_rises cores.Either false = omega arith
declarator_word_acts c i (words.Mark m) = declarator_mark_acts c i m
declarator_word_acts c i (words.Integer n t) = tt
declarator_word_acts c i (words.Character x) = tt
declarator_word_acts c i (words.String s) = tt
declarator_word_acts c i (words.Keyword k) = tt

direct_acts : (K : Kind) (d : Declarator) (w : Word) → IsDirect d → IsHand K (values.Declarator d) → Acts K (values.Declarator d) w (on_mark w (direct_mark d))
direct_acts K d (words.Mark m) t h =
    t_is_mark K (values.Declarator d) at.OpenBracket m (joined (values.Array d)) (only (is_mark at.OpenParen m) (joined (values.Function d no_parameters)))
    (record { same = λ q. refl; fits = (h.0, t, h.2); rises = omega arith })
    (t_only_mark K (values.Declarator d) at.OpenParen m (joined (values.Function d no_parameters)) (record { same = λ q. refl; fits = (h.0, t, h.2, tt); rises = omega arith }))
direct_acts K d (words.Name n) t h = tt
direct_acts K d (words.Integer n x) t h = tt
direct_acts K d (words.Character c) t h = tt
direct_acts K d (words.String s) t h = tt
direct_acts K d (words.Keyword k) t h = tt

declarator_acts : (K : Kind) (d : Declarator) (w : Word) → IsHand K (values.Declarator d) → Acts K (values.Declarator d) w (declarator_tail d w)
declarator_acts K (pointer d) w h = tt
declarator_acts K (named n) w h = direct_acts K (named n) w tt h
declarator_acts K nothing w h = direct_acts K nothing w tt h
declarator_acts K (array d) w h = direct_acts K (array d) w tt h
declarator_acts K (sized d e) w h = direct_acts K (sized d e) w tt h
declarator_acts K (wrapped d) w h = direct_acts K (wrapped d) w tt h
declarator_acts K (function d ps) w h = direct_acts K (function d ps) w tt h
declarator_acts K (function_void d) w h = direct_acts K (function_void d) w tt h

array_acts : (K : Kind) (d : Declarator) (w : Word) → IsHand K (values.Array d) → Acts K (values.Array d) w (if is at.CloseBracket w then joined (values.Declarator (array d)) else begins productions.Sized)
array_acts K d w h =
    t_is K (values.Array d) at.CloseBracket w (joined (values.Declarator (array d))) (begins productions.Sized)
    (record { same = λ q. refl; fits = (h.0, tt, (h.1, h.2)); rises = omega arith })
    (record {
      framed = λ x. record { same = λ q. refl; fits = (h.0, tt, (h.1, h.2, x.0.tight, x.0.fits)); high = omega arith };
      rises = omega arith;
    })

open_low : (c : Core) → may_be_nothing c ≡ true → table.least_open c ≤ 1
open_low cores.Name e = cc
open_low cores.Nothing e = omega arith
open_low cores.Either e = omega arith

wrap_rises : (c : Core) → table.least_open c ≤ max (0 + 0) (max (least_of (kinds.Declarator c true)) 0 + 1)
wrap_rises cores.Name = omega arith
wrap_rises cores.Nothing = omega arith
wrap_rises cores.Either = omega arith

open_acts : (K : Kind) (w : Word) → OfDeclarator K → Acts K values.OpenDeclarator w (open_declarator (core_at K) w)
open_acts (kinds.Declarator c i) w o =
    let K = kinds.Declarator c i in
    let v = values.OpenDeclarator in
    let empty_action : Action = joined (values.Declarator (function nothing no_parameters)) in
    let b = may_be_nothing c in
    t_is K v at.CloseParen w (only b empty_action) (if is_specifier w then only b (begins productions.Parameter) else begins (productions.Wrap c))
    (t_only K v (words.Mark marks.CloseParen) b empty_action (λ e. record { same = λ q. refl; fits = (tt, tt, (tt, e, tt, tt)); rises = omega (arith, open_low c e) }))
    (t_if K v w (is_specifier w) (only b (begins productions.Parameter)) (begins (productions.Wrap c))
    (λ _. t_only K v w b (begins productions.Parameter) (λ e. record {
      framed = λ x. record { same = λ q. refl; fits = (tt, tt, e, (x.0.fits, x.1.0.fits, tt)); high = omega arith };
      rises = omega (arith, open_low c e);
    }))
    (λ _. record {
      framed = λ x. record { same = λ q. refl; fits = (tt, tt, (x.0.asked, x.0.fits)); high = omega arith };
      rises = wrap_rises c;
    }))
open_acts _ w o = absurd o

function_joins : (K : Kind) (d : Declarator) (ps : Parameters) → IsHand K (values.Function d ps) → Joins K (values.Function d ps) (words.Mark marks.CloseParen) (values.Declarator (closed d ps))
function_joins K d ps h =
    let c = closed_fits (core_at K) d ps h.1 h.2 h.3 in
    record { same = λ q. closed_same d ps q; fits = (h.0, c.0, c.1); rises = omega (arith, closed_high d ps) }

function_acts : (K : Kind) (d : Declarator) (ps : Parameters) (w : Word) → IsHand K (values.Function d ps) → Acts K (values.Function d ps) w (if is at.CloseParen w then joined (values.Declarator (closed d ps)) else next_parameter ps w)
function_acts K d no_parameters w h =
    let v = values.Function d no_parameters in
    t_is K v at.CloseParen w (joined (values.Declarator (closed d no_parameters))) (next_parameter no_parameters w) (function_joins K d no_parameters h)
    (t_only K v w (is_specifier w) (begins productions.Parameter) (λ _. record {
      framed = λ x. record { same = λ q. refl; fits = (h.0, h.1, h.2, (x.0.fits, x.1.0.fits, tt)); high = omega arith };
      rises = omega arith;
    }))
function_acts K d (parameter_and a e ps) w h =
    let all = parameter_and a e ps in
    let v = values.Function d all in
    t_is K v at.CloseParen w (joined (values.Declarator (closed d all))) (next_parameter all w) (function_joins K d all h)
    (t_only_is K v at.Comma w (opens productions.Parameter) (record {
      framed = λ x. record {
        same = λ q. ap (λ r. spell_declarator d (mark marks.OpenParen r)) (parameters_last a e ps x.0.tree x.1.0.tree q);
        fits = (h.0, h.1, h.2, fit_parameters_last all x.0.tree x.1.0.tree h.3 x.0.fits x.1.0.fits);
        high = omega (arith, tallest_parameter_last all x.0.tree x.1.0.tree);
      };
      rises = omega arith;
    }))

-- ---- specifiers

keyword_acts : (K : Kind) (w : Word) → OfSpecifier K → least_of K ≡ 0 → Acts K values.Start w (on_keyword w specifier_keyword)
keyword_acts K (words.Keyword k) o z =
    let alone : SpecifierNode → Action = λ s. joined (values.Specifier s) in
    let enums : Action = only (is_enum k) (joined values.EnumTag) in
    t_some K values.Start (words.Keyword k) (specifier_at k) alone (if is_struct k then joined values.Tag else enums)
    (λ s e. let i = specifier_is k s e in record { same = λ q. i.same q; fits = (o, i.fits); rises = omega (arith, z) })
    (t_if K values.Start (words.Keyword k) (is_struct k) (joined values.Tag) enums
    (λ e. t_at K values.Start (words.Keyword k) (words.Keyword keywords.Struct) (joined values.Tag) (ap (λ x. words.Keyword x) (struct_is k e))
    (record { same = λ q. refl; fits = o; rises = omega (arith, z) }))
    (λ _. t_only K values.Start (words.Keyword k) (is_enum k) (joined values.EnumTag) (λ e.
    t_at K values.Start (words.Keyword k) (words.Keyword keywords.Enum) (joined values.EnumTag) (ap (λ x. words.Keyword x) (enum_is k e))
    (record { same = λ q. refl; fits = o; rises = omega (arith, z) }))))
keyword_acts K (words.Name n) o z = tt
keyword_acts K (words.Integer n t) o z = tt
keyword_acts K (words.Character c) o z = tt
keyword_acts K (words.String s) o z = tt
keyword_acts K (words.Mark m) o z = tt

record Extends (ws : IntegerWords) (x : IntegerWord) (more : IntegerWords) : Type 0 where
  same : (q : List Word) → spell_integer more q ≡ spell_integer ws (keyword (integer_keyword x) q)
  fits : is_said (combination more) ≡ true

Extended : IntegerWords → IntegerWord → Option IntegerWords → Type 0
Extended ws x None = Unit {0}
Extended ws x (Some more) = Extends ws x more

kept_extends : (ws : IntegerWords) (x : IntegerWord) (more : IntegerWords) (o : Option Combination) → combination more ≡ o → ((q : List Word) → spell_integer more q ≡ spell_integer ws (keyword (integer_keyword x) q)) → Extended ws x (kept o more)
unfolding Extended
kept_extends ws x more None e s = tt
kept_extends ws x more (Some c) e s = record { same = s; fits = rw e refl }

extended_law : (ws : IntegerWords) (x : IntegerWord) → Extended ws x (extended ws x)
unfolding Extended
extended_law (One a) x = kept_extends (One a) x (Two a x) (combination (Two a x)) refl (λ q. refl)
extended_law (Two a b) x = kept_extends (Two a b) x (Three a b x) (combination (Three a b x)) refl (λ q. refl)
extended_law (Three a b c) x = kept_extends (Three a b c) x (Four a b c x) (combination (Four a b c x)) refl (λ q. refl)
extended_law (Four a b c d) x = tt

extended_is : (ws : IntegerWords) (x : IntegerWord) (more : IntegerWords) → extended ws x ≡ Some more → Extends ws x more
unfolding Extended
extended_is ws x more e = rw e at (extended_law ws x)

integer_acts : (K : Kind) (s : SpecifierNode) (x : IntegerWord) → OfSpecifier K → Acts K (values.Specifier s) (words.Keyword (integer_keyword x)) (and_integer s x)
integer_acts K (specifiers.Integer ws) x o =
    let more_action : IntegerWords → Action = λ more. joined (values.Specifier (specifiers.Integer more)) in
    t_some K (values.Specifier (specifiers.Integer ws)) (words.Keyword (integer_keyword x)) (extended ws x) more_action stuck
    (λ more e. let i = extended_is ws x more e in record { same = λ q. i.same q; fits = (o, i.fits); rises = omega arith })
    tt
integer_acts K specifiers.Void x o = tt
integer_acts K specifiers.SizeT x o = tt
integer_acts K specifiers.PtrdiffT x o = tt
integer_acts K (specifiers.Struct t) x o = tt
integer_acts K (specifiers.Enum t) x o = tt

defines : (K : Kind) → may_define K ≡ true → OfDefinition K
defines kinds.OuterSpecifier e = tt
defines kinds.MemberSpecifier e = tt
defines _ e = cc

members_acts_first : (K : Kind) (t : List ℕ) → may_define K ≡ true → Acts K (values.Specifier (specifiers.Struct t)) (words.Mark marks.OpenBrace) (members_begin K t)
members_acts_first kinds.OuterSpecifier t e = record { same = λ q. refl; fits = (tt, ((λ qs h. h), (λ e. cc))); rises = omega arith }
members_acts_first kinds.MemberSpecifier t e = record { same = λ q. refl; fits = tt; rises = omega arith }
members_acts_first _ t e = cc

braces_acts : (K : Kind) (s : SpecifierNode) → may_define K ≡ true → Acts K (values.Specifier s) (words.Mark marks.OpenBrace) (braces_begin K s)
braces_acts K (specifiers.Struct t) e = members_acts_first K t e
braces_acts K (specifiers.Enum t) e = record { same = λ q. refl; fits = (defines K e, tt, tt); rises = omega arith }
braces_acts K specifiers.Void e = tt
braces_acts K (specifiers.Integer ws) e = tt
braces_acts K specifiers.SizeT e = tt
braces_acts K specifiers.PtrdiffT e = tt

specifier_acts : (K : Kind) (s : SpecifierNode) (w : Word) → IsHand K (values.Specifier s) → Acts K (values.Specifier s) w (specifier_tail K s w)
specifier_acts K s (words.Keyword k) h =
    t_some K (values.Specifier s) (words.Keyword k) (integer_at k) (and_integer s) stuck
    (λ x e. t_at K (values.Specifier s) (words.Keyword k) (words.Keyword (integer_keyword x)) (and_integer s x) (ap (λ y. words.Keyword y) (integer_is k x e)) (integer_acts K s x h.0))
    tt
specifier_acts K s (words.Mark m) h =
    let b = is_mark at.OpenBrace m && may_define K in
    t_only K (values.Specifier s) (words.Mark m) b (braces_begin K s) (λ e.
    let c = and_true (is_mark at.OpenBrace m) (may_define K) e in
    t_at K (values.Specifier s) (words.Mark m) (words.Mark marks.OpenBrace) (braces_begin K s) (mark_is at.OpenBrace m c.0) (braces_acts K s c.1))
specifier_acts K s (words.Name n) h = tt
specifier_acts K s (words.Integer n t) h = tt
specifier_acts K s (words.Character c) h = tt
specifier_acts K s (words.String x) h = tt

tag_acts : (K : Kind) (w : Word) → OfSpecifier K → Acts K values.Tag w (tag_name w)
tag_acts K (words.Name n) o = record { same = λ q. refl; fits = (o, tt); rises = omega arith }
tag_acts K _ o = tt

-- ---- enumerations

enum_opened : (K : Kind) (w : Word) → Acts K values.EnumTag w (only (is at.OpenBrace w && may_define K) (joined (values.Enumerators None [] None)))
enum_opened K w =
    let t : Action = joined (values.Enumerators None [] None) in
    t_only K values.EnumTag w (is at.OpenBrace w && may_define K) t (λ e.
    let b = and_true (is at.OpenBrace w) (may_define K) e in
    t_at K values.EnumTag w (words.Mark marks.OpenBrace) t (word_is at.OpenBrace w b.0) (record { same = λ q. refl; fits = (defines K b.1, tt, tt); rises = omega arith }))

enum_tag_acts : (K : Kind) (w : Word) → OfSpecifier K → Acts K values.EnumTag w (enum_tag_name K w)
enum_tag_acts K (words.Name n) o = record { same = λ q. refl; fits = (o, tt); rises = omega arith }
enum_tag_acts K w o = enum_opened K w

abbrev entry : List ℕ → Option Expr → Enumerator
entry n o = record { name = n; value = o }

abbrev in_enum : Option (List ℕ) → List Word → List Word
in_enum t r = keyword keywords.Enum (spell_tag t (mark marks.OpenBrace r))

enum_value_acts : (K : Kind) (t : Option (List ℕ)) (xs : List Enumerator) (n : List ℕ) (o : Option Expr) → IsHand K (values.Enumerators t xs (Some (entry n o))) → Acts K (values.Enumerators t xs (Some (entry n o))) (words.Mark marks.Equals) (only (has_no_constant o) (opens productions.EnumValue))
enum_value_acts K t xs n None h = record {
  framed = λ y. record { same = λ q. refl; fits = (h.0, h.1, (y.0.tight, y.0.fits)); high = omega arith };
  rises = omega arith;
}
enum_value_acts K t xs n (Some e) h = tt

enumerator_acts : (K : Kind) (t : Option (List ℕ)) (xs : List Enumerator) (n : List ℕ) (o : Option Expr) (w : Word) → IsHand K (values.Enumerators t xs (Some (entry n o))) → Acts K (values.Enumerators t xs (Some (entry n o))) w (enumerator_tail t xs (entry n o) w)
enumerator_acts K t xs n o w h =
    let x = entry n o in
    let v = values.Enumerators t xs (Some x) in
    let value_action : Action = only (has_no_constant o) (opens productions.EnumValue) in
    let next_action : Action = joined (values.Enumerators t (xs ++ x ∷ []) None) in
    let end_action : Action = joined (values.Enum t (xs ++ x ∷ []) false) in
    t_is K v at.Equals w value_action (if is at.Comma w then next_action else only (is at.CloseBrace w) end_action) (enum_value_acts K t xs n o h)
    (t_is K v at.Comma w next_action (only (is at.CloseBrace w) end_action)
    (record {
      same = λ q. ap (λ r. in_enum t r) (before_commas_last spell_enumerator xs x q);
      fits = (h.0, each_last FitsEnumerator xs x h.1 h.2, tt);
      rises = omega (arith, tallest_of_last enumerator_height xs x);
    })
    (t_only_is K v at.CloseBrace w end_action (record {
      same = λ q. ap (λ r. in_enum t r) (separated_are spell_enumerator xs x (mark marks.CloseBrace q));
      fits = (h.0, fit_enumerators_last xs x h.1 h.2);
      rises = omega (arith, tallest_of_last enumerator_height xs x);
    })))

enumerator_name_acts : (K : Kind) (t : Option (List ℕ)) (xs : List Enumerator) (w : Word) → IsHand K (values.Enumerators t xs None) → Acts K (values.Enumerators t xs None) w (enumerator_name t xs w)
enumerator_name_acts K t xs (words.Name n) h = record { same = λ q. refl; fits = (h.0, h.1, tt); rises = omega arith }
enumerator_name_acts K t xs _ h = tt

last_comma_acts : (K : Kind) (t : Option (List ℕ)) (xs : List Enumerator) → IsHand K (values.Enumerators t xs None) → Acts K (values.Enumerators t xs None) (words.Mark marks.CloseBrace) (only (not (are_no xs)) (joined (values.Enum t xs true)))
last_comma_acts K t [] h = tt
last_comma_acts K t (y ∷ ys) h = record {
  same = λ q. ap (λ r. in_enum t r) (separated_moved spell_enumerator y ys (mark marks.CloseBrace q));
  fits = (h.0, (tt, h.1));
  rises = omega arith;
}

enumerators_acts : (K : Kind) (t : Option (List ℕ)) (xs : List Enumerator) (last : Option Enumerator) (w : Word) → IsHand K (values.Enumerators t xs last) → Acts K (values.Enumerators t xs last) w (enumerators_tail t xs last w)
enumerators_acts K t xs (Some x) w h = enumerator_acts K t xs x.name x.value w h
enumerators_acts K t xs None w h =
    t_is K (values.Enumerators t xs None) at.CloseBrace w (only (not (are_no xs)) (joined (values.Enum t xs true))) (enumerator_name t xs w)
    (last_comma_acts K t xs h) (enumerator_name_acts K t xs w h)

-- ---- initializers

element_acts : (K : Kind) (vs : Initialisers) (comma : Bool) (w : Word) → IsHand K (values.Braces vs comma) → Acts K (values.Braces vs comma) w (next_element vs comma w)
element_acts K no_initialisers true w h = absurd h.2
element_acts K no_initialisers false w h = record {
  framed = λ x. record { same = λ q. refl; fits = (h.0, (x.0.fits, tt), tt); high = omega arith };
  rises = omega arith;
}
element_acts K (initialiser_and v vs) true w h =
    let all = initialiser_and v vs in
    t_is K (values.Braces all true) at.CloseBrace w (joined (values.Initialiser (braces all true))) (begins productions.Element)
    (record { same = λ q. refl; fits = (h.0, (tt, h.1)); rises = omega arith })
    (record {
      framed = λ x. record {
        same = λ q. ap (λ r. mark marks.OpenBrace r) (initialisers_last v vs x.0.tree q);
        fits = (h.0, fit_initialisers_last all x.0.tree h.1 x.0.fits, tt);
        high = omega (arith, tallest_initialiser_last all x.0.tree);
      };
      rises = omega arith;
    })
element_acts K (initialiser_and v vs) false w h =
    let all = initialiser_and v vs in
    t_is K (values.Braces all false) at.CloseBrace w (joined (values.Initialiser (braces all false))) (only (is at.Comma w) (joined (values.Braces all true)))
    (record { same = λ q. refl; fits = (h.0, (tt, h.1)); rises = omega arith })
    (t_only_is K (values.Braces all false) at.Comma w (joined (values.Braces all true)) (record { same = λ q. refl; fits = (h.0, h.1, tt); rises = omega arith }))

abbrev bare : Declarator → Option Initialiser → Init
bare d o = record { declarator = d; value = o }

next_init_opened : (K : Kind) (xs : List Init) (x : Init) → IsHand K (values.Inits xs x) → Acts K (values.Inits xs x) (words.Mark marks.Comma) (opens productions.NextInit)
next_init_opened K xs x h = record {
  framed = λ y. record {
    same = λ q. inits_then_last xs x (spell_declarator y.0.tree q);
    fits = (h.0, each_last FitsInit xs x h.1 h.2, (y.0.fits, tt));
    high = omega (arith, tallest_of_last init_height xs x);
  };
  rises = omega arith;
}

init_value_acts : (K : Kind) (xs : List Init) (d : Declarator) (o : Option Initialiser) → IsHand K (values.Inits xs (bare d o)) → Acts K (values.Inits xs (bare d o)) (words.Mark marks.Equals) (only (has_no_value o) (opens productions.InitValue))
init_value_acts K xs d None h = record {
  framed = λ y. record { same = λ q. refl; fits = (h.0, h.1, (h.2.0, y.0.fits)); high = omega arith };
  rises = omega arith;
}
init_value_acts K xs d (Some v) h = tt

body_acts : (xs : List Init) (d : Declarator) (o : Option Initialiser) (w : Word) → IsHand kinds.Form (values.Inits xs (bare d o)) → Acts kinds.Form (values.Inits xs (bare d o)) w (only (is at.OpenBrace w && is_single xs (bare d o)) (joined (values.Items (holders.Function d) no_items)))
body_acts xs d o w h =
    let v = values.Inits xs (bare d o) in
    let t : Action = joined (values.Items (holders.Function d) no_items) in
    t_only kinds.Form v w (is at.OpenBrace w && is_single xs (bare d o)) t (λ e.
    let b = and_true (is at.OpenBrace w) (is_single xs (bare d o)) e in
    t_at kinds.Form v w (words.Mark marks.OpenBrace) t (word_is at.OpenBrace w b.0) (body_joins xs d o h b.1))
  where
    body_joins : (xs : List Init) (d : Declarator) (o : Option Initialiser) → IsHand kinds.Form (values.Inits xs (bare d o)) → is_single xs (bare d o) ≡ true → Joins kinds.Form (values.Inits xs (bare d o)) (words.Mark marks.OpenBrace) (values.Items (holders.Function d) no_items)
    body_joins [] d None h e = record { same = λ q. refl; fits = (h.2.0, tt); rises = omega arith }
    body_joins [] d (Some v) h e = cc
    body_joins (y ∷ ys) d o h e = cc

form_acts : (K : Kind) (xs : List Init) (d : Declarator) (o : Option Initialiser) (w : Word) → IsHand K (values.Inits xs (bare d o)) → Acts K (values.Inits xs (bare d o)) w (form_end K xs (bare d o) w)
form_acts kinds.Form xs d o w h =
    let x = bare d o in
    t_is kinds.Form (values.Inits xs x) at.Semicolon w (joined (values.Form (forms.Declaration (xs ++ x ∷ [])))) (only (is at.OpenBrace w && is_single xs x) (joined (values.Items (holders.Function d) no_items)))
    (record { same = λ q. inits_are xs x (mark marks.Semicolon q); fits = (tt, fit_inits_last xs x h.1 h.2); rises = omega (arith, tallest_of_last init_height xs x) })
    (body_acts xs d o w h)
form_acts _ xs d o w h = tt

inits_acts : (K : Kind) (xs : List Init) (d : Declarator) (o : Option Initialiser) (w : Word) → IsHand K (values.Inits xs (bare d o)) → Acts K (values.Inits xs (bare d o)) w (inits_tail K xs (bare d o) w)
inits_acts K xs d o w h =
    let x = bare d o in
    let v = values.Inits xs x in
    let value_action : Action = only (has_no_value o) (opens productions.InitValue) in
    t_is K v at.Comma w (opens productions.NextInit) (if is at.Equals w then value_action else form_end K xs x w)
    (next_init_opened K xs x h)
    (t_is K v at.Equals w value_action (form_end K xs x w) (init_value_acts K xs d o h) (form_acts K xs d o w h))

-- ---- statements

plain_opened : Opened kinds.Statement values.Start productions.Plain (λ q. written values.Start q)
plain_opened = record { framed = λ x. record { same = λ q. refl; fits = (tt, x.0.fits); high = omega arith }; rises = omega arith }

returned_made : (o : Option Expr) (f : FitsClause o) (u : Unit {0}) → Made (first_frame kinds.Statement productions.Return values.Start) (symbols productions.Return) (λ q. written values.Start (words.Keyword keywords.Return ∷ q)) (record { tree = o; fits = f }, u)
returned_made None f u = record { same = λ q. refl; fits = (tt, tt); high = omega arith }
returned_made (Some e) f u = record { same = λ q. refl; fits = (tt, f); high = omega arith }

statement_acts : (w : Word) → Acts kinds.Statement values.Start w (statement_word w)
statement_acts (words.Mark m) =
    t_is_mark kinds.Statement values.Start at.Semicolon m (joined (values.Statement empty)) (if is_mark at.OpenBrace m then joined (values.Items holders.Block no_items) else begins productions.Plain)
    (record { same = λ q. refl; fits = (tt, tt); rises = omega arith })
    (t_is_mark kinds.Statement values.Start at.OpenBrace m (joined (values.Items holders.Block no_items)) (begins productions.Plain)
    (record { same = λ q. refl; fits = (tt, tt); rises = omega arith })
    plain_opened)
statement_acts (words.Keyword keywords.If) = record { framed = λ x. record { same = λ q. refl; fits = (tt, x.0.fits, x.1.0.fits); high = omega arith }; rises = omega arith }
statement_acts (words.Keyword keywords.While) = record { framed = λ x. record { same = λ q. refl; fits = (tt, (x.0.fits, x.1.0.fits)); high = omega arith }; rises = omega arith }
statement_acts (words.Keyword keywords.Do) = record { framed = λ x. record { same = λ q. refl; fits = (tt, (x.0.fits, x.1.0.fits)); high = omega arith }; rises = omega arith }
statement_acts (words.Keyword keywords.Switch) = record { framed = λ x. record { same = λ q. refl; fits = (x.0.fits, tt); high = omega arith }; rises = omega arith }
statement_acts (words.Keyword keywords.For) = record { framed = λ x. record { same = λ q. refl; fits = (tt, (x.0.fits, x.1.0.fits, x.1.1.0.fits, x.1.1.1.0.fits)); high = omega arith }; rises = omega arith }
statement_acts (words.Keyword keywords.Return) = record { framed = λ x. returned_made x.0.tree x.0.fits x.1; rises = omega arith }
statement_acts (words.Keyword keywords.Break) = record { same = λ q. refl; fits = tt; rises = omega arith }
statement_acts (words.Keyword keywords.Continue) = record { same = λ q. refl; fits = tt; rises = omega arith }
statement_acts (words.Keyword _) = plain_opened
statement_acts (words.Name n) = plain_opened
statement_acts (words.Integer n t) = plain_opened
statement_acts (words.Character c) = plain_opened
statement_acts (words.String s) = plain_opened

if_acts : (K : Kind) (c : Expr) (a : Statement) (w : Word) → IsHand K (values.If c a) → Acts K (values.If c a) w (only (is_else w && not (ends_open a)) (opens productions.Else))
if_acts K c a w h =
    t_only K (values.If c a) w (is_else w && not (ends_open a)) (opens productions.Else) (λ e.
    let b = and_true (is_else w) (not (ends_open a)) e in
    t_at K (values.If c a) w (words.Keyword keywords.Else) (opens productions.Else) (else_is w b.0) (record {
      framed = λ x. record { same = λ q. refl; fits = (h.0, (h.1, not_true (ends_open a) b.1, h.2, x.0.fits)); high = omega arith };
      rises = omega arith;
    }))
  where
    not_true : (b : Bool) → not b ≡ true → b ≡ false
    not_true true e = cc
    not_true false e = refl

items_end_acts : (K : Kind) (o : Holder) (its : Items) → IsHand K (values.Items o its) → Joins K (values.Items o its) (words.Mark marks.CloseBrace) (items_end o its)
items_end_acts kinds.Statement holders.Block its h = record { same = λ q. refl; fits = (tt, h.1); rises = omega arith }
items_end_acts kinds.Statement (holders.Switch e) its h = record { same = λ q. refl; fits = (tt, (h.0, h.1)); rises = omega arith }
items_end_acts kinds.Form (holders.Function d) its h = record { same = λ q. refl; fits = (tt, (h.0, h.1)); rises = omega arith }
items_end_acts kinds.Statement (holders.Function d) its h = absurd h.0
items_end_acts kinds.Form holders.Block its h = absurd h.0
items_end_acts kinds.Form (holders.Switch e) its h = absurd h.0
items_end_acts _ o its h = absurd h.0

item_acts : (K : Kind) (o : Holder) (its : Items) (w : Word) → IsHand K (values.Items o its) → Acts K (values.Items o its) w (statement_item o w)
item_acts K o its w h =
    let v = values.Items o its in
    let l = takes_labels o in
    let cases : Action = only l (opens productions.Case) in
    let defaults : Action = only l (opens productions.Default) in
    t_if K v w (is_case w) cases (if is_default w then defaults else begins productions.Item)
    (λ e. t_at K v w (words.Keyword keywords.Case) cases (case_is w e) (t_only K v (words.Keyword keywords.Case) l (opens productions.Case) (λ t. record {
      framed = λ x.
          let i : Item = items.Case x.0.tree in
          record {
            same = λ q. ap (λ r. meaning.written_holder o (mark marks.OpenBrace r)) (items_last its i q);
            fits = (h.0, fit_items_last l its i h.1 (t, x.0.tight, x.0.fits, tt));
            high = omega (arith, tallest_item_last its i);
          };
      rises = omega arith;
    })))
    (λ _. t_if K v w (is_default w) defaults (begins productions.Item)
    (λ e. t_at K v w (words.Keyword keywords.Default) defaults (default_is w e) (t_only K v (words.Keyword keywords.Default) l (opens productions.Default) (λ t. record {
      framed = λ x.
          let i : Item = items.Default in
          record {
            same = λ q. ap (λ r. meaning.written_holder o (mark marks.OpenBrace r)) (items_last its i q);
            fits = (h.0, fit_items_last l its i h.1 (t, tt));
            high = omega (arith, tallest_item_last its i);
          };
      rises = omega arith;
    })))
    (λ _. record {
      framed = λ x.
          let i : Item = items.Statement x.0.tree in
          record {
            same = λ q. ap (λ r. meaning.written_holder o (mark marks.OpenBrace r)) (items_last its i q);
            fits = (h.0, fit_items_last l its i h.1 (x.0.fits, tt));
            high = omega (arith, tallest_item_last its i);
          };
      rises = omega arith;
    }))

items_acts : (K : Kind) (o : Holder) (its : Items) (w : Word) → IsHand K (values.Items o its) → Acts K (values.Items o its) w (items_tail o its w)
items_acts K o its w h =
    let v = values.Items o its in
    t_is K v at.CloseBrace w (joined (items_end o its)) (if is_specifier w then begins productions.Declaration else statement_item o w)
    (items_end_acts K o its h)
    (t_if K v w (is_specifier w) (begins productions.Declaration) (statement_item o w)
    (λ _. record {
      framed = λ x.
          let xs = x.1.0.front ++ x.1.0.last ∷ [] in
          let i : Item = items.Declaration x.0.tree xs in
          record {
            same = λ q. ap (λ r. meaning.written_holder o (mark marks.OpenBrace r)) (items_last its i q ∙ ap (λ r. spell_items its (spell_specifier x.0.tree r)) (inits_are x.1.0.front x.1.0.last (mark marks.Semicolon q)));
            fits = (h.0, fit_items_last (takes_labels o) its i h.1 (x.0.fits, fit_inits_last x.1.0.front x.1.0.last x.1.0.front_fits x.1.0.last_fits, tt));
            high = omega (arith, tallest_item_last its i, tallest_of_last init_height x.1.0.front x.1.0.last);
          };
      rises = omega arith;
    })
    (λ _. item_acts K o its w h))

first_acts : (w : Word) → Acts kinds.ForFirst values.Start w (first_word w)
first_acts w =
    t_is kinds.ForFirst values.Start at.Semicolon w (joined (values.ForFirst firsts.Nothing)) (if is_specifier w then begins productions.ForDeclaration else begins productions.ForExpr)
    (record { same = λ q. refl; fits = (tt, tt); rises = omega arith })
    (t_if kinds.ForFirst values.Start w (is_specifier w) (begins productions.ForDeclaration) (begins productions.ForExpr)
    (λ _. record {
      framed = λ x. record {
        same = λ q. ap (λ r. spell_specifier x.0.tree r) (inits_are x.1.0.front x.1.0.last (mark marks.Semicolon q));
        fits = (tt, (x.0.fits, fit_inits_last x.1.0.front x.1.0.last x.1.0.front_fits x.1.0.last_fits));
        high = omega (arith, tallest_of_last init_height x.1.0.front x.1.0.last);
      };
      rises = omega arith;
    })
    (λ _. record { framed = λ x. record { same = λ q. refl; fits = (tt, x.0.fits); high = omega arith }; rises = omega arith }))

-- ---- structures

members_end_acts : (K : Kind) (t : List ℕ) (ps : List Piece) (n : ℕ) (some : Bool) → IsHand K (values.Members t ps n some) → some ≡ true → Acts K (values.Members t ps n some) (words.Mark marks.CloseBrace) (members_end t ps n)
members_end_acts K t ps n some h s =
    let v = values.Members t ps n some in
    t_if K v (words.Mark marks.CloseBrace) (nat_le 1 n) (joined (values.Member t ps (n - 1) heads.Close [])) (joined (values.Outer (outers.Struct t ps)))
    (λ e. record { same = λ q. refl; fits = (h.0, (λ es f qs g. h.1.0 (pieces.Member heads.Close es ∷ qs) (le_is 1 n e, s, f, g)), tt); rises = omega arith })
    (λ e.
    let P : List Piece → Type 0 = λ xs. FitMembers 0 false xs in
    let z : n ≡ 0 = omega (arith, le_not 1 n e) in
    record { same = λ q. refl; fits = (h.0, subst P (append_nil ps) (h.1.0 [] (z, s))); rises = omega (arith, h.1.1 s) })

member_made : (K : Kind) (t : List ℕ) (ps : List Piece) (n : ℕ) (some : Bool) → IsHand K (values.Members t ps n some) → (x : MemberVal) (u : Unit {0}) → Made (first_frame K productions.MemberSpecifier (values.Members t ps n some)) (symbols productions.MemberSpecifier) (λ q. written (values.Members t ps n some) q) (x, u)
member_made K t ps n some h (a_specifier x) u = record { same = λ q. refl; fits = (h.0, (λ es f qs g. h.1.0 (pieces.Member (heads.Specifier x.tree) es ∷ qs) (x.fits, f, g)), tt); high = omega arith }
member_made K t ps n some h (an_opening y) u =
    let P : List Piece → Type 0 = λ xs. FitMembers 0 false xs in
    record {
      same = λ q. ap (λ r. keyword keywords.Struct (words.Name t ∷ mark marks.OpenBrace r)) (members_last ps (pieces.Opens y) q);
      fits = (h.0, ((λ qs g. subst P (sym (append_assoc ps (pieces.Opens y ∷ []) qs)) (h.1.0 (pieces.Opens y ∷ qs) g)), (λ e. cc)));
      high = omega (arith, tallest_of_last piece_height ps (pieces.Opens y));
    }
member_made K t ps n some h (an_enumeration x) u = record { same = λ q. refl; fits = (h.0, (λ es f qs g. h.1.0 (pieces.Member (heads.Enum x.tag x.enumerators x.comma) es ∷ qs) (x.fits, f, g)), tt); high = omega arith }

members_acts : (K : Kind) (t : List ℕ) (ps : List Piece) (n : ℕ) (some : Bool) (w : Word) → IsHand K (values.Members t ps n some) → Acts K (values.Members t ps n some) w (members_tail t ps n some w)
members_acts K t ps n some w h =
    let v = values.Members t ps n some in
    t_is K v at.CloseBrace w (only some (members_end t ps n)) (only (is_specifier w) (begins productions.MemberSpecifier))
    (t_only K v (words.Mark marks.CloseBrace) some (members_end t ps n) (λ s. members_end_acts K t ps n some h s))
    (t_only K v w (is_specifier w) (begins productions.MemberSpecifier) (λ _. record { framed = λ x. member_made K t ps n some h x.0 x.1; rises = omega arith }))

member_acts : (K : Kind) (t : List ℕ) (ps : List Piece) (n : ℕ) (m : MemberHead) (ds : List Declarator) (w : Word) → IsHand K (values.Member t ps n m ds) → Acts K (values.Member t ps n m ds) w (member_tail t ps n m ds w)
member_acts K t ps n m [] w h = record {
  framed = λ x. record { same = λ q. refl; fits = (h.0, h.1, (x.0.fits, tt)); high = omega arith };
  rises = omega arith;
}
member_acts K t ps n m (d ∷ ds) w h =
    let all = d ∷ ds in
    let v = values.Member t ps n m all in
    let p = pieces.Member m all in
    let P : List Piece → Type 0 = λ xs. FitMembers 0 false xs in
    t_is K v at.Comma w (opens productions.MemberDeclarator) (only (is at.Semicolon w) (joined (values.Members t (ps ++ p ∷ []) n true)))
    (record {
      framed = λ x. record {
        same = λ q. ap (λ r. keyword keywords.Struct (words.Name t ∷ mark marks.OpenBrace (spell_members ps (spell_head m r)))) (declarators_last d ds x.0.tree q);
        fits = (h.0, h.1, each_last (FitsDeclarator cores.Name) all x.0.tree h.2 x.0.fits);
        high = omega (arith, tallest_of_last declarator_height all x.0.tree);
      };
      rises = omega arith;
    })
    (t_only_is K v at.Semicolon w (joined (values.Members t (ps ++ p ∷ []) n true)) (record {
      same = λ q. ap (λ r. keyword keywords.Struct (words.Name t ∷ mark marks.OpenBrace r)) (members_last ps p q);
      fits = (h.0, ((λ qs g. subst P (sym (append_assoc ps (p ∷ []) qs)) (h.1 all (tt, h.2) qs g)), (λ e. omega (arith, tallest_of_last piece_height ps p, named_high d h.2.0))));
      rises = omega (arith, tallest_of_last piece_height ps p);
    }))

-- ---- all

first_init_opened : (K : Kind) → OfInits K → least_of K ≤ 1 → Opened K values.Start productions.FirstInit (λ q. written values.Start q)
first_init_opened K o l = record {
  framed = λ x. record { same = λ q. refl; fits = (o, tt, (x.0.fits, tt)); high = omega arith };
  rises = omega (arith, l);
}

begin_acts : (K : Kind) (w : Word) → IsHand K values.Start → Acts K values.Start w (begin K w)
begin_acts (kinds.Expr k) w h = operand_acts (kinds.Expr k) w h
begin_acts kinds.SizeofOperand w h = operand_acts kinds.SizeofOperand w h
begin_acts (kinds.Declarator c i) w h = declarator_word_acts c i w
begin_acts kinds.Specifier w h = keyword_acts kinds.Specifier w tt refl
begin_acts kinds.OuterSpecifier w h = keyword_acts kinds.OuterSpecifier w tt refl
begin_acts kinds.MemberSpecifier w h = keyword_acts kinds.MemberSpecifier w tt refl
begin_acts kinds.Initialiser w h =
    t_is kinds.Initialiser values.Start at.OpenBrace w (joined (values.Braces no_initialisers false)) (begins productions.Single)
    (record { same = λ q. refl; fits = (tt, tt, tt); rises = omega arith })
    (record { framed = λ x. record { same = λ q. refl; fits = (tt, (x.0.tight, x.0.fits)); high = omega arith }; rises = omega arith })
begin_acts kinds.Inits w h = first_init_opened kinds.Inits tt (omega arith)
begin_acts kinds.Statement w h = statement_acts w
begin_acts kinds.ForFirst w h = first_acts w
begin_acts kinds.Test w h =
    t_is kinds.Test values.Start at.Semicolon w (joined (values.Test None)) (begins productions.TestExpr)
    (record { same = λ q. refl; fits = (tt, tt); rises = omega arith })
    (record { framed = λ x. record { same = λ q. refl; fits = (tt, x.0.fits); high = omega arith }; rises = omega arith })
begin_acts kinds.Step w h =
    t_is kinds.Step values.Start at.CloseParen w (joined (values.Step None)) (begins productions.StepExpr)
    (record { same = λ q. refl; fits = (tt, tt); rises = omega arith })
    (record { framed = λ x. record { same = λ q. refl; fits = (tt, x.0.fits); high = omega arith }; rises = omega arith })
begin_acts kinds.Form w h =
    t_is kinds.Form values.Start at.Semicolon w (joined (values.Form forms.Alone)) (begins productions.FirstInit)
    (record { same = λ q. refl; fits = (tt, tt); rises = omega arith })
    (first_init_opened kinds.Form tt (omega arith))
begin_acts kinds.External w h = record { framed = λ x. record { same = λ q. refl; fits = (tt, x.0.fits, x.1.0.fits); high = omega arith }; rises = omega arith }

pub acts : (K : Kind) (v : Value) (w : Word) → IsHand K v → Acts K v w (action K v w)
acts K values.Start w h = begin_acts K w h
acts K (values.Expr e) w h = tail_acts K e w h
acts K values.Paren w h = paren_acts K w h
acts K (values.Call f xs) w h = call_acts K f xs w h
acts K (values.Access op e) w h = access_acts K op e w h
acts K (values.TypeName s d) w h = tt
acts K (values.Declarator d) w h = declarator_acts K d w h
acts K (values.Array d) w h = array_acts K d w h
acts K values.OpenDeclarator w h = open_acts K w h
acts K (values.Function d ps) w h = function_acts K d ps w h
acts K (values.Specifier s) w h = specifier_acts K s w h
acts K values.Tag w h = tag_acts K w h
acts K (values.Opens t) w h = tt
acts K values.EnumTag w h = enum_tag_acts K w h
acts K (values.Enumerators t xs last) w h = enumerators_acts K t xs last w h
acts K (values.Enum t xs comma) w h = tt
acts K (values.Initialiser v) w h = tt
acts K (values.Braces vs comma) w h = element_acts K vs comma w h
acts K (values.Inits xs x) w h = inits_acts K xs x.declarator x.value w h
acts K (values.Statement s) w h = tt
acts K (values.If c a) w h = if_acts K c a w h
acts K (values.Items o its) w h = items_acts K o its w h
acts K (values.Jump j) w h = t_only_is K (values.Jump j) at.Semicolon w (joined (values.Statement (jump j))) (record { same = λ q. refl; fits = (h, tt); rises = omega arith })
acts K (values.ForFirst a) w h = tt
acts K (values.Test c) w h = tt
acts K (values.Step c) w h = tt
acts K (values.Outer o) w h = tt
acts K (values.Members t ps n some) w h = members_acts K t ps n some w h
acts K (values.Member t ps n m ds) w h = member_acts K t ps n m ds w h
acts K (values.Form f) w h = tt
acts K (values.External o f) w h = tt
