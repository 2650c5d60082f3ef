-- Values that are complete, and the cheapest way to complete the others.
use Rattle.std.proofs.Common.{◌≡◌, ℕ, zero, suc, ◌-◌, ◌≤◌, max, Bool, true, false, List, [], ◌∷◌, ◌++◌, Option, Some, None, refl, sym, ◌∙◌, ap, subst, arith}
use Rattle.c_token.specs.declared.word.IntegerType.TheVariants as types
use Rattle.c_token.specs.declared.word.Mark.TheVariants as marks
use Rattle.c_token.specs.declared.word.Keyword.TheVariants as keywords
use Rattle.c_token.specs.declared.word.Word.{Word}
use Rattle.c_token.specs.declared.word.Word.TheVariants as words
use Rattle.c_tree.specs.declared.specifier.IntegerWord.TheVariants as integers
use Rattle.c_tree.specs.declared.specifier.IntegerWords.TheVariants.{One}
use Rattle.c_tree.specs.declared.specifier.SpecifierNode.{SpecifierNode}
use Rattle.c_tree.specs.declared.specifier.SpecifierNode.TheVariants as specifiers
use Rattle.c_tree.specs.Operators.{a_unary}
use Rattle.c_tree.specs.declared.tree.Core.{Core}
use Rattle.c_tree.specs.declared.tree.Core.TheVariants as cores
use Rattle.c_tree.specs.Tree.{Expr, integer, paren, call, member, Declarator, named, nothing, array, wrapped, function, Parameters, no_parameters, Initialiser, single, braces, Initialisers, no_initialisers, initialiser_and}
use Rattle.c_tree.specs.declared.initialiser.Init.{Init}
use Rattle.c_tree.specs.declared.enumerator.Enumerator.{Enumerator}
use Rattle.c_tree.specs.declared.first.ForFirstNode.{ForFirstNode}
use Rattle.c_tree.specs.declared.first.ForFirstNode.TheVariants as firsts
use Rattle.c_tree.specs.declared.first.Jump.{Jump}
use Rattle.c_tree.specs.Statements.{Statement, block, empty, if_then, jump, Items, switch}
use Rattle.c_tree.specs.Heights.{expr_height, declarator_height, tallest_of, init_height}
use Rattle.c_tree.specs.ExternalHeights.{piece_height}
use Rattle.c_tree.specs.EnumeratorHeights.{enumerator_height}
use Rattle.c_tree.specs.declared.external.MemberHead.{MemberHead}
use Rattle.c_tree.specs.declared.external.MemberHead.TheVariants as heads
use Rattle.c_tree.specs.declared.external.Piece.{Piece}
use Rattle.c_tree.specs.declared.external.Piece.TheVariants as pieces
use Rattle.c_tree.specs.declared.external.OuterSpecifier.{OuterSpecifier}
use Rattle.c_tree.specs.declared.external.OuterSpecifier.TheVariants as outers
use Rattle.c_tree.specs.declared.external.ExternalForm.{ExternalForm}
use Rattle.c_tree.specs.declared.external.ExternalForm.TheVariants as forms
use Rattle.c_tree.specs.Grammar.{mark, keyword, spell_specifier, spell, spell_declarator, spell_head, spell_declarators, spell_piece, spell_members, FitsSpecifier, level, IsSomething, FitsExpr, FitsDeclarator, FitDeclarators, FitMembers, spell_enumerator, spell_tag, spell_enum, FitEnumerators}
use Rattle.c_productions.specs.declared.kind.Kind.{Kind}
use Rattle.c_productions.specs.declared.kind.Kind.TheVariants as kinds
use Rattle.c_productions.specs.declared.value.Holder.{Holder}
use Rattle.c_productions.specs.declared.value.Holder.TheVariants as holders
use Rattle.c_productions.specs.declared.value.Value.{Value}
use Rattle.c_productions.specs.declared.value.Value.TheVariants as values
use Rattle.c_productions.specs.refinement.Table.{core_at, nothing_at, specifier_rests, inits_rest, rests, height, least, closed, enum_rests}
use Rattle.c_productions.specs.refinement.Meaning.{written, IsAsked, TypeVal, an_expr, a_type, a_specifier, an_opening, Val, value_of, OfExpr, OfDeclarator, OfSpecifier, OfStatement, OfHead, IsStart, IsHand, an_enumeration, OfDefinition}
use Rattle.c_parse_steps.proofs.Lists.{inits_are, fit_inits_last, tallest_of_last, separated_are, separated_moved, fit_enumerators_last}
use Rattle.c_parse_steps.proofs.Closed.{closed_same, closed_fits, closed_high}

pub record Rested (K : Kind) (v u : Value) : Type 0 where
  pub whole : Val K
  pub is : value_of K whole ≡ u
  pub same : (q : List Word) → written u q ≡ written v q
  pub high : height u ≡ least K v

abbrev pub Rests : Kind → Value → Option Value → Type 0
Rests K v None = Unit {0}
Rests K v (Some u) = Rested K v u

asked : (i : Bool) (d : Declarator) → IsSomething d → IsAsked i d
asked true d h = h
asked false d h = tt

nothing_rests : (K : Kind) → Rests K values.Start (nothing_at K)
nothing_rests (kinds.Declarator cores.Nothing false) = record { whole = record { tree = nothing; asked = tt; fits = refl }; is = refl; same = λ q. refl; high = refl }
nothing_rests (kinds.Declarator cores.Either false) = record { whole = record { tree = nothing; asked = tt; fits = refl }; is = refl; same = λ q. refl; high = refl }
nothing_rests (kinds.Declarator cores.Nothing true) = tt
nothing_rests (kinds.Declarator cores.Either true) = tt
nothing_rests (kinds.Declarator cores.Name i) = tt
nothing_rests _ = tt

expr_rests : (K : Kind) (e : Expr) → IsHand K (values.Expr e) → Rested K (values.Expr e) (values.Expr e)
expr_rests (kinds.Expr k) e h = record { whole = record { tree = e; tight = h.1; fits = h.2 }; is = refl; same = λ q. refl; high = refl }
expr_rests kinds.SizeofOperand e h = record { whole = an_expr (record { tree = e; tight = h.1; fits = h.2 }); is = refl; same = λ q. refl; high = refl }
expr_rests _ e h = absurd h.0

type_rests : (K : Kind) (s : SpecifierNode) (d : Declarator) → IsHand K (values.TypeName s d) → Rested K (values.TypeName s d) (values.TypeName s d)
type_rests kinds.SizeofOperand s d h = record { whole = a_type (record { specifier = s; declarator = d; specifier_fits = h.1; declarator_fits = h.2 }); is = refl; same = λ q. refl; high = refl }
type_rests _ s d h = absurd h.0

declarator_rests : (K : Kind) (d : Declarator) → IsHand K (values.Declarator d) → Rested K (values.Declarator d) (values.Declarator d)
declarator_rests (kinds.Declarator c i) d h = record { whole = record { tree = d; asked = asked i d h.1; fits = h.2 }; is = refl; same = λ q. refl; high = refl }
declarator_rests _ d h = absurd h.0

specifier_rested : (K : Kind) (s : SpecifierNode) → IsHand K (values.Specifier s) → Rested K (values.Specifier s) (specifier_rests K s)
specifier_rested kinds.Specifier s h = record { whole = record { tree = s; fits = h.1 }; is = refl; same = λ q. refl; high = refl }
specifier_rested kinds.OuterSpecifier s h = record { whole = record { tree = outers.Plain s; fits = h.1 }; is = refl; same = λ q. refl; high = refl }
specifier_rested kinds.MemberSpecifier s h = record { whole = a_specifier (record { tree = s; fits = h.1 }); is = refl; same = λ q. refl; high = refl }
specifier_rested _ s h = absurd h.0

opens_rests : (K : Kind) (t : List ℕ) → IsHand K (values.Opens t) → Rested K (values.Opens t) (values.Opens t)
opens_rests kinds.MemberSpecifier t h = record { whole = an_opening t; is = refl; same = λ q. refl; high = refl }
opens_rests _ t h = absurd h

enum_rested : (K : Kind) (t : Option (List ℕ)) (xs : List Enumerator) (comma : Bool) → IsHand K (values.Enum t xs comma) → Rested K (values.Enum t xs comma) (enum_rests K t xs comma)
enum_rested kinds.OuterSpecifier t xs comma h = record { whole = record { tree = outers.Enum t xs comma; fits = h.1 }; is = refl; same = λ q. refl; high = refl }
enum_rested kinds.MemberSpecifier t xs comma h = record { whole = an_enumeration (record { tag = t; enumerators = xs; comma = comma; fits = h.1 }); is = refl; same = λ q. refl; high = refl }
enum_rested _ t xs comma h = absurd h.0

initialiser_rests : (K : Kind) (v : Initialiser) → IsHand K (values.Initialiser v) → Rested K (values.Initialiser v) (values.Initialiser v)
initialiser_rests kinds.Initialiser v h = record { whole = record { tree = v; fits = h.1 }; is = refl; same = λ q. refl; high = refl }
initialiser_rests _ v h = absurd h.0

inits_rested : (K : Kind) (xs : List Init) (x : Init) → IsHand K (values.Inits xs x) → Rests K (values.Inits xs x) (inits_rest K xs x)
inits_rested kinds.Inits xs x h = record { whole = record { front = xs; last = x; front_fits = h.1; last_fits = h.2 }; is = refl; same = λ q. refl; high = refl }
inits_rested _ xs x h = tt

statement_rests : (K : Kind) (s : Statement) → IsHand K (values.Statement s) → Rested K (values.Statement s) (values.Statement s)
statement_rests kinds.Statement s h = record { whole = record { tree = s; fits = h.1 }; is = refl; same = λ q. refl; high = refl }
statement_rests _ s h = absurd h.0

if_rests : (K : Kind) (c : Expr) (a : Statement) → IsHand K (values.If c a) → Rested K (values.If c a) (values.Statement (if_then c a))
if_rests kinds.Statement c a h = record { whole = record { tree = if_then c a; fits = (h.1, h.2) }; is = refl; same = λ q. refl; high = refl }
if_rests _ c a h = absurd h.0

first_rests : (K : Kind) (a : ForFirstNode) → IsHand K (values.ForFirst a) → Rested K (values.ForFirst a) (values.ForFirst a)
first_rests kinds.ForFirst a h = record { whole = record { tree = a; fits = h.1 }; is = refl; same = λ q. refl; high = refl }
first_rests _ a h = absurd h.0

test_rests : (K : Kind) (c : Option Expr) → IsHand K (values.Test c) → Rested K (values.Test c) (values.Test c)
test_rests kinds.Test c h = record { whole = record { tree = c; fits = h.1 }; is = refl; same = λ q. refl; high = refl }
test_rests _ c h = absurd h.0

step_rests : (K : Kind) (c : Option Expr) → IsHand K (values.Step c) → Rested K (values.Step c) (values.Step c)
step_rests kinds.Step c h = record { whole = record { tree = c; fits = h.1 }; is = refl; same = λ q. refl; high = refl }
step_rests _ c h = absurd h.0

outer_rests : (K : Kind) (o : OuterSpecifier) → IsHand K (values.Outer o) → Rested K (values.Outer o) (values.Outer o)
outer_rests kinds.OuterSpecifier o h = record { whole = record { tree = o; fits = h.1 }; is = refl; same = λ q. refl; high = refl }
outer_rests _ o h = absurd h.0

form_rests : (K : Kind) (f : ExternalForm) → IsHand K (values.Form f) → Rested K (values.Form f) (values.Form f)
form_rests kinds.Form f h = record { whole = record { tree = f; fits = h.1 }; is = refl; same = λ q. refl; high = refl }
form_rests _ f h = absurd h.0

external_rests : (K : Kind) (o : OuterSpecifier) (f : ExternalForm) → IsHand K (values.External o f) → Rested K (values.External o f) (values.External o f)
external_rests kinds.External o f h = record { whole = record { outer = o; form = f; outer_fits = h.1; form_fits = h.2 }; is = refl; same = λ q. refl; high = refl }
external_rests _ o f h = absurd h.0

pub rested : (K : Kind) (v : Value) → IsHand K v → Rests K v (rests K v)
rested K values.Start h = nothing_rests K
rested K (values.Expr e) h = expr_rests K e h
rested K values.Paren h = tt
rested K (values.Call f xs) h = tt
rested K (values.Access op e) h = tt
rested K (values.TypeName s d) h = type_rests K s d h
rested K (values.Declarator d) h = declarator_rests K d h
rested K (values.Array d) h = tt
rested K values.OpenDeclarator h = tt
rested K (values.Function d ps) h = tt
rested K (values.Specifier s) h = specifier_rested K s h
rested K values.Tag h = tt
rested K (values.Opens t) h = opens_rests K t h
rested K values.EnumTag h = tt
rested K (values.Enumerators t xs last) h = tt
rested K (values.Enum t xs comma) h = enum_rested K t xs comma h
rested K (values.Initialiser v) h = initialiser_rests K v h
rested K (values.Braces vs comma) h = tt
rested K (values.Inits xs x) h = inits_rested K xs x h
rested K (values.Statement s) h = statement_rests K s h
rested K (values.If c a) h = if_rests K c a h
rested K (values.Items o its) h = tt
rested K (values.Jump j) h = tt
rested K (values.ForFirst a) h = first_rests K a h
rested K (values.Test c) h = test_rests K c h
rested K (values.Step c) h = step_rests K c h
rested K (values.Outer o) h = outer_rests K o h
rested K (values.Members t ps n some) h = tt
rested K (values.Member t ps n m ds) h = tt
rested K (values.Form f) h = form_rests K f h
rested K (values.External o f) h = external_rests K o f h

-- ---- completing

pub record Ends (K : Kind) (v : Value) : Type 0 where
  pub rest : List Word → List Word
  pub whole : Val K
  pub same : (q : List Word) → written v (rest q) ≡ written (value_of K whole) q
  pub high : height (value_of K whole) ≤ least K v

by_resting : (K : Kind) (v u : Value) → Rested K v u → Ends K v
by_resting K v u r =
    let e = ap (λ x. height x) r.is in
    record { rest = λ q. q; whole = r.whole; same = λ q. sym (r.same q) ∙ ap (λ x. written x q) (sym r.is); high = omega (arith, e, r.high) }

by_expr : (K : Kind) (v : Value) (rest : List Word → List Word) (e : Expr) → OfExpr K → a_unary ≤ level e → FitsExpr e → ((q : List Word) → written v (rest q) ≡ spell e q) → expr_height e ≤ least K v → Ends K v
by_expr (kinds.Expr k) v rest e o l f s h = record { rest = rest; whole = record { tree = e; tight = omega (arith, o, l); fits = f }; same = s; high = h }
by_expr kinds.SizeofOperand v rest e o l f s h = record { rest = rest; whole = an_expr (record { tree = e; tight = l; fits = f }); same = s; high = h }
by_expr _ v rest e o l f s h = absurd o

by_declarator : (K : Kind) (v : Value) (rest : List Word → List Word) (d : Declarator) → OfDeclarator K → IsSomething d → FitsDeclarator (core_at K) d → ((q : List Word) → written v (rest q) ≡ spell_declarator d q) → declarator_height d ≤ least K v → Ends K v
by_declarator (kinds.Declarator c i) v rest d o t f s h = record { rest = rest; whole = record { tree = d; asked = asked i d t; fits = f }; same = s; high = h }
by_declarator _ v rest d o t f s h = absurd o

by_specifier : (K : Kind) (v : Value) (rest : List Word → List Word) (s : SpecifierNode) → OfSpecifier K → FitsSpecifier s → ((q : List Word) → written v (rest q) ≡ spell_specifier s q) → Ends K v
by_specifier kinds.Specifier v rest s o f e = record { rest = rest; whole = record { tree = s; fits = f }; same = e; high = omega arith }
by_specifier kinds.OuterSpecifier v rest s o f e = record { rest = rest; whole = record { tree = outers.Plain s; fits = f }; same = e; high = omega arith }
by_specifier kinds.MemberSpecifier v rest s o f e = record { rest = rest; whole = a_specifier (record { tree = s; fits = f }); same = e; high = omega arith }
by_specifier _ v rest s o f e = absurd o

abbrev a_name : List ℕ
a_name = 97 ∷ []

abbrev nought : Expr
nought = integer 0 types.Int

abbrev nought_word : Word
nought_word = words.Integer 0 types.Int

abbrev an_int : SpecifierNode
an_int = specifiers.Integer (One integers.Int)

abbrev int_type : TypeVal
int_type = record { specifier = an_int; declarator = nothing; specifier_fits = refl; declarator_fits = refl }

abbrev an_init : Init
an_init = record { declarator = named a_name; value = None }

start_declarator : (c : Core) (i : Bool) → Ends (kinds.Declarator c i) values.Start
start_declarator cores.Name i = by_declarator (kinds.Declarator cores.Name i) values.Start (λ q. words.Name a_name ∷ q) (named a_name) tt tt refl (λ q. refl) (omega arith)
start_declarator cores.Nothing true = by_declarator (kinds.Declarator cores.Nothing true) values.Start (λ q. mark marks.OpenBracket (mark marks.CloseBracket q)) (array nothing) tt tt (tt, refl) (λ q. refl) (omega arith)
start_declarator cores.Either true = by_declarator (kinds.Declarator cores.Either true) values.Start (λ q. mark marks.OpenBracket (mark marks.CloseBracket q)) (array nothing) tt tt (tt, refl) (λ q. refl) (omega arith)
start_declarator cores.Nothing false = record { rest = λ q. q; whole = record { tree = nothing; asked = tt; fits = refl }; same = λ q. refl; high = omega arith }
start_declarator cores.Either false = record { rest = λ q. q; whole = record { tree = nothing; asked = tt; fits = refl }; same = λ q. refl; high = omega arith }

start_ends : (K : Kind) → IsStart K → Ends K values.Start
start_ends (kinds.Expr k) h = by_expr (kinds.Expr k) values.Start (λ q. nought_word ∷ q) nought h (omega arith) tt (λ q. refl) (omega arith)
start_ends kinds.SizeofOperand h = record { rest = λ q. mark marks.OpenParen (spell_specifier an_int (mark marks.CloseParen q)); whole = a_type int_type; same = λ q. refl; high = omega arith }
start_ends (kinds.Declarator c i) h = start_declarator c i
start_ends kinds.Specifier h = by_specifier kinds.Specifier values.Start (λ q. spell_specifier an_int q) an_int tt refl (λ q. refl)
start_ends kinds.OuterSpecifier h = by_specifier kinds.OuterSpecifier values.Start (λ q. spell_specifier an_int q) an_int tt refl (λ q. refl)
start_ends kinds.MemberSpecifier h = by_specifier kinds.MemberSpecifier values.Start (λ q. spell_specifier an_int q) an_int tt refl (λ q. refl)
start_ends kinds.Initialiser h = record { rest = λ q. nought_word ∷ q; whole = record { tree = single nought; fits = (omega arith, tt) }; same = λ q. refl; high = omega arith }
start_ends kinds.Inits h = record { rest = λ q. words.Name a_name ∷ q; whole = record { front = []; last = an_init; front_fits = tt; last_fits = (refl, tt) }; same = λ q. refl; high = omega arith }
start_ends kinds.Statement h = record { rest = λ q. mark marks.Semicolon q; whole = record { tree = empty; fits = tt }; same = λ q. refl; high = omega arith }
start_ends kinds.ForFirst h = record { rest = λ q. mark marks.Semicolon q; whole = record { tree = firsts.Nothing; fits = tt }; same = λ q. refl; high = omega arith }
start_ends kinds.Test h = record { rest = λ q. mark marks.Semicolon q; whole = record { tree = None; fits = tt }; same = λ q. refl; high = omega arith }
start_ends kinds.Step h = record { rest = λ q. mark marks.CloseParen q; whole = record { tree = None; fits = tt }; same = λ q. refl; high = omega arith }
start_ends kinds.Form h = record { rest = λ q. mark marks.Semicolon q; whole = record { tree = forms.Alone; fits = tt }; same = λ q. refl; high = omega arith }
start_ends kinds.External h = record { rest = λ q. spell_specifier an_int (mark marks.Semicolon q); whole = record { outer = outers.Plain an_int; form = forms.Alone; outer_fits = refl; form_fits = tt }; same = λ q. refl; high = omega arith }

paren_ends : (K : Kind) → OfExpr K → Ends K values.Paren
paren_ends (kinds.Expr k) o = by_expr (kinds.Expr k) values.Paren (λ q. nought_word ∷ mark marks.CloseParen q) (paren nought) o (omega arith) tt (λ q. refl) (omega arith)
paren_ends kinds.SizeofOperand o = record { rest = λ q. spell_specifier an_int (mark marks.CloseParen q); whole = a_type int_type; same = λ q. refl; high = omega arith }
paren_ends _ o = absurd o

open_ends : (K : Kind) → OfDeclarator K → Ends K values.OpenDeclarator
open_ends (kinds.Declarator cores.Name i) o = by_declarator (kinds.Declarator cores.Name i) values.OpenDeclarator (λ q. words.Name a_name ∷ mark marks.CloseParen q) (wrapped (named a_name)) tt tt (tt, refl) (λ q. refl) (omega arith)
open_ends (kinds.Declarator cores.Nothing i) o = by_declarator (kinds.Declarator cores.Nothing i) values.OpenDeclarator (λ q. mark marks.CloseParen q) (function nothing no_parameters) tt tt (tt, refl, tt, tt) (λ q. refl) (omega arith)
open_ends (kinds.Declarator cores.Either i) o = by_declarator (kinds.Declarator cores.Either i) values.OpenDeclarator (λ q. mark marks.CloseParen q) (function nothing no_parameters) tt tt (tt, refl, tt, tt) (λ q. refl) (omega arith)
open_ends _ o = absurd o

braces_end : (K : Kind) (vs : Initialisers) (comma : Bool) → IsHand K (values.Braces vs comma) → Ends K (values.Braces vs comma)
braces_end kinds.Initialiser no_initialisers true h = absurd h.2
braces_end kinds.Initialiser no_initialisers false h = record { rest = λ q. nought_word ∷ mark marks.CloseBrace q; whole = record { tree = braces (initialiser_and (single nought) no_initialisers) false; fits = (tt, ((omega arith, tt), tt)) }; same = λ q. refl; high = omega arith }
braces_end kinds.Initialiser (initialiser_and v vs) true h = record { rest = λ q. mark marks.CloseBrace q; whole = record { tree = braces (initialiser_and v vs) true; fits = (tt, h.1) }; same = λ q. refl; high = omega arith }
braces_end kinds.Initialiser (initialiser_and v vs) false h = record { rest = λ q. mark marks.CloseBrace q; whole = record { tree = braces (initialiser_and v vs) false; fits = (tt, h.1) }; same = λ q. refl; high = omega arith }
braces_end _ vs comma h = absurd h.0

inits_end : (K : Kind) (xs : List Init) (x : Init) → IsHand K (values.Inits xs x) → Ends K (values.Inits xs x)
inits_end kinds.Inits xs x h = by_resting kinds.Inits (values.Inits xs x) (values.Inits xs x) (inits_rested kinds.Inits xs x h)
inits_end kinds.Form xs x h = record { rest = λ q. mark marks.Semicolon q; whole = record { tree = forms.Declaration (xs ++ x ∷ []); fits = fit_inits_last xs x h.1 h.2 }; same = λ q. sym (inits_are xs x (mark marks.Semicolon q)); high = omega (arith, tallest_of_last init_height xs x) }
inits_end _ xs x h = absurd h.0

items_finish : (K : Kind) (o : Holder) (its : Items) → IsHand K (values.Items o its) → Ends K (values.Items o its)
items_finish kinds.Statement holders.Block its h = record { rest = λ q. mark marks.CloseBrace q; whole = record { tree = block its; fits = h.1 }; same = λ q. refl; high = omega arith }
items_finish kinds.Statement (holders.Switch e) its h = record { rest = λ q. mark marks.CloseBrace q; whole = record { tree = switch e its; fits = (h.0, h.1) }; same = λ q. refl; high = omega arith }
items_finish kinds.Form (holders.Function d) its h = record { rest = λ q. mark marks.CloseBrace q; whole = record { tree = forms.Function d its; fits = (h.0, h.1) }; same = λ q. refl; high = omega arith }
items_finish kinds.Statement (holders.Function d) its h = absurd h.0
items_finish kinds.Form holders.Block its h = absurd h.0
items_finish kinds.Form (holders.Switch e) its h = absurd h.0
items_finish _ o its h = absurd h.0

jump_ends : (K : Kind) (j : Jump) → OfStatement K → Ends K (values.Jump j)
jump_ends kinds.Statement j h = record { rest = λ q. mark marks.Semicolon q; whole = record { tree = jump j; fits = tt }; same = λ q. refl; high = omega arith }
jump_ends _ j h = absurd h

-- ---- structures

abbrev closing : Piece
closing = pieces.Member heads.Close (named a_name ∷ [])

close_all : ℕ → List Piece
close_all zero = []
close_all (suc n) = closing ∷ close_all n

close_fits : (n : ℕ) → FitMembers n true (close_all n)
unfolding close_all
close_fits zero = (refl, refl)
close_fits (suc n) =
    let P : ℕ → Type 0 = λ m. FitMembers m true (close_all n) in
    let e : n ≡ suc n - 1 = omega arith in
    (omega arith, refl, (tt, (refl, tt)), subst P e (close_fits n))

close_low : (n : ℕ) → tallest_of piece_height (close_all n) ≤ 1
unfolding close_all
close_low zero = omega arith
close_low (suc n) = omega (arith, close_low n)

members_append : (ps qs : List Piece) (q : List Word) → spell_members (ps ++ qs) q ≡ spell_members ps (spell_members qs q)
members_append [] qs q = refl
members_append (p ∷ ps) qs q = ap (λ r. spell_piece p r) (members_append ps qs q)

tallest_append : (ps qs : List Piece) → tallest_of piece_height (ps ++ qs) ≡ max (tallest_of piece_height ps) (tallest_of piece_height qs)
tallest_append [] qs = omega arith
tallest_append (p ∷ ps) qs = omega (arith, tallest_append ps qs)

abbrev behind_tag : List ℕ → List Word → List Word
behind_tag t r = keyword keywords.Struct (words.Name t ∷ mark marks.OpenBrace r)

by_members : (t : List ℕ) (ps : List Piece) (n : ℕ) (some : Bool) (qs : List Piece) → FitMembers 0 false (ps ++ qs) → tallest_of piece_height qs ≤ 1 → Ends kinds.OuterSpecifier (values.Members t ps n some)
by_members t ps n some qs f l = record {
  rest = λ q. spell_members qs (mark marks.CloseBrace q);
  whole = record { tree = outers.Struct t (ps ++ qs); fits = f };
  same = λ q. ap (λ r. behind_tag t r) (sym (members_append ps qs (mark marks.CloseBrace q)));
  high = omega (arith, tallest_append ps qs, l);
}

members_ends : (K : Kind) (t : List ℕ) (ps : List Piece) (n : ℕ) (some : Bool) → IsHand K (values.Members t ps n some) → Ends K (values.Members t ps n some)
members_ends kinds.OuterSpecifier t ps n true h = by_members t ps n true (close_all n) (h.1.0 (close_all n) (close_fits n)) (close_low n)
members_ends kinds.OuterSpecifier t ps n false h =
    let p = pieces.Member (heads.Specifier an_int) (named a_name ∷ []) in
    by_members t ps n false (p ∷ close_all n) (h.1.0 (p ∷ close_all n) (refl, (tt, (refl, tt)), close_fits n)) (omega (arith, close_low n))
members_ends _ t ps n some h = absurd h.0

by_member : (t : List ℕ) (ps : List Piece) (n : ℕ) (m : MemberHead) (ds es : List Declarator) (rest : List Word → List Word) → OfHead ps n m → FitDeclarators es → ((q : List Word) → spell_declarators ds (rest q) ≡ spell_declarators es (mark marks.Semicolon q)) → tallest_of declarator_height es ≤ max (tallest_of declarator_height ds) 1 → Ends kinds.OuterSpecifier (values.Member t ps n m ds)
by_member t ps n m ds es rest o f s l =
    let p = pieces.Member m es in
    let qs = close_all n in
    record {
      rest = λ q. rest (spell_members qs (mark marks.CloseBrace q));
      whole = record { tree = outers.Struct t (ps ++ p ∷ qs); fits = o es f qs (close_fits n) };
      same = λ q. ap (λ r. behind_tag t r) (ap (λ r. spell_members ps (spell_head m r)) (s (spell_members qs (mark marks.CloseBrace q))) ∙ sym (members_append ps (p ∷ qs) (mark marks.CloseBrace q)));
      high = omega (arith, tallest_append ps (p ∷ qs), l, close_low n);
    }

member_ends : (K : Kind) (t : List ℕ) (ps : List Piece) (n : ℕ) (m : MemberHead) (ds : List Declarator) → IsHand K (values.Member t ps n m ds) → Ends K (values.Member t ps n m ds)
member_ends kinds.OuterSpecifier t ps n m [] h = by_member t ps n m [] (named a_name ∷ []) (λ q. words.Name a_name ∷ mark marks.Semicolon q) h.1 (tt, (refl, tt)) (λ q. refl) (omega arith)
member_ends kinds.OuterSpecifier t ps n m (d ∷ ds) h = by_member t ps n m (d ∷ ds) (d ∷ ds) (λ q. mark marks.Semicolon q) h.1 (tt, h.2) (λ q. refl) (omega arith)
member_ends _ t ps n m ds h = absurd h.0

tag_ends : (K : Kind) → OfSpecifier K → Ends K values.Tag
tag_ends K o = by_specifier K values.Tag (λ q. words.Name a_name ∷ q) (specifiers.Struct a_name) o tt (λ q. refl)

enum_tag_ends : (K : Kind) → OfSpecifier K → Ends K values.EnumTag
enum_tag_ends K o = by_specifier K values.EnumTag (λ q. words.Name a_name ∷ q) (specifiers.Enum a_name) o tt (λ q. refl)

by_enum : (K : Kind) (v : Value) (rest : List Word → List Word) (t : Option (List ℕ)) (xs : List Enumerator) (comma : Bool) → OfDefinition K → FitEnumerators xs → ((q : List Word) → written v (rest q) ≡ spell_enum t xs comma q) → tallest_of enumerator_height xs ≤ least K v → Ends K v
by_enum kinds.OuterSpecifier v rest t xs comma o f s h = record { rest = rest; whole = record { tree = outers.Enum t xs comma; fits = f }; same = s; high = h }
by_enum kinds.MemberSpecifier v rest t xs comma o f s h = record { rest = rest; whole = an_enumeration (record { tag = t; enumerators = xs; comma = comma; fits = f }); same = s; high = h }
by_enum _ v rest t xs comma o f s h = absurd o

abbrev an_enumerator : Enumerator
an_enumerator = record { name = a_name; value = None }

abbrev in_enum : Option (List ℕ) → List Word → List Word
in_enum t r = keyword keywords.Enum (spell_tag t (mark marks.OpenBrace r))

enumerators_end : (K : Kind) (t : Option (List ℕ)) (xs : List Enumerator) (last : Option Enumerator) → IsHand K (values.Enumerators t xs last) → Ends K (values.Enumerators t xs last)
enumerators_end K t [] None h = by_enum K (values.Enumerators t [] None) (λ q. words.Name a_name ∷ mark marks.CloseBrace q) t (an_enumerator ∷ []) false h.0 (tt, (tt, tt)) (λ q. refl) (omega arith)
enumerators_end K t (y ∷ ys) None h = by_enum K (values.Enumerators t (y ∷ ys) None) (λ q. mark marks.CloseBrace q) t (y ∷ ys) true h.0 (tt, h.1) (λ q. ap (λ r. in_enum t r) (sym (separated_moved spell_enumerator y ys (mark marks.CloseBrace q)))) (omega arith)
enumerators_end K t xs (Some x) h = by_enum K (values.Enumerators t xs (Some x)) (λ q. mark marks.CloseBrace q) t (xs ++ x ∷ []) false h.0 (fit_enumerators_last xs x h.1 h.2) (λ q. ap (λ r. in_enum t r) (sym (separated_are spell_enumerator xs x (mark marks.CloseBrace q)))) (omega (arith, tallest_of_last enumerator_height xs x))

function_ends : (K : Kind) (d : Declarator) (ps : Parameters) → IsHand K (values.Function d ps) → Ends K (values.Function d ps)
function_ends K d ps h =
    let c = closed_fits (core_at K) d ps h.1 h.2 h.3 in
    by_declarator K (values.Function d ps) (λ q. mark marks.CloseParen q) (closed d ps) h.0 c.0 c.1 (λ q. sym (closed_same d ps q)) (omega (arith, closed_high d ps))

pub ends : (K : Kind) (v : Value) → IsHand K v → Ends K v
ends K values.Start h = start_ends K h
ends K (values.Expr e) h = by_resting K (values.Expr e) (values.Expr e) (expr_rests K e h)
ends K values.Paren h = paren_ends K h
ends K (values.Call f xs) h = by_expr K (values.Call f xs) (λ q. mark marks.CloseParen q) (call f xs) h.0 (omega arith) (h.1, h.2, h.3) (λ q. refl) (omega arith)
ends K (values.Access op e) h = by_expr K (values.Access op e) (λ q. words.Name a_name ∷ q) (member op e a_name) h.0 (omega arith) (h.1, h.2) (λ q. refl) (omega arith)
ends K (values.TypeName s d) h = by_resting K (values.TypeName s d) (values.TypeName s d) (type_rests K s d h)
ends K (values.Declarator d) h = by_resting K (values.Declarator d) (values.Declarator d) (declarator_rests K d h)
ends K (values.Array d) h = by_declarator K (values.Array d) (λ q. mark marks.CloseBracket q) (array d) h.0 tt (h.1, h.2) (λ q. refl) (omega arith)
ends K values.OpenDeclarator h = open_ends K h
ends K (values.Function d ps) h = function_ends K d ps h
ends K (values.Specifier s) h = by_resting K (values.Specifier s) (specifier_rests K s) (specifier_rested K s h)
ends K values.Tag h = tag_ends K h
ends K (values.Opens t) h = by_resting K (values.Opens t) (values.Opens t) (opens_rests K t h)
ends K values.EnumTag h = enum_tag_ends K h
ends K (values.Enumerators t xs last) h = enumerators_end K t xs last h
ends K (values.Enum t xs comma) h = by_resting K (values.Enum t xs comma) (enum_rests K t xs comma) (enum_rested K t xs comma h)
ends K (values.Initialiser v) h = by_resting K (values.Initialiser v) (values.Initialiser v) (initialiser_rests K v h)
ends K (values.Braces vs comma) h = braces_end K vs comma h
ends K (values.Inits xs x) h = inits_end K xs x h
ends K (values.Statement s) h = by_resting K (values.Statement s) (values.Statement s) (statement_rests K s h)
ends K (values.If c a) h = by_resting K (values.If c a) (values.Statement (if_then c a)) (if_rests K c a h)
ends K (values.Items o its) h = items_finish K o its h
ends K (values.Jump j) h = jump_ends K j h
ends K (values.ForFirst a) h = by_resting K (values.ForFirst a) (values.ForFirst a) (first_rests K a h)
ends K (values.Test c) h = by_resting K (values.Test c) (values.Test c) (test_rests K c h)
ends K (values.Step c) h = by_resting K (values.Step c) (values.Step c) (step_rests K c h)
ends K (values.Outer o) h = by_resting K (values.Outer o) (values.Outer o) (outer_rests K o h)
ends K (values.Members t ps n some) h = members_ends K t ps n some h
ends K (values.Member t ps n m ds) h = member_ends K t ps n m ds h
ends K (values.Form f) h = by_resting K (values.Form f) (values.Form f) (form_rests K f h)
ends K (values.External o f) h = by_resting K (values.External o f) (values.External o f) (external_rests K o f h)
