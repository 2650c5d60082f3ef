-- What a state stands for: the words that were read, which trees are in it, and how high it makes an external declaration.
use Rattle.std.specs.Prelude.{◌≡◌, ℕ, ◌+◌, ◌≤◌, max, Bool, true, false, List, [], ◌∷◌, ◌++◌, Option, Some, None}
use Rattle.c_token.specs.declared.word.Mark.TheVariants as marks
use Rattle.c_token.specs.declared.word.Keyword.TheVariants as keywords
use Rattle.c_token.specs.declared.word.Word.{Word}
use Rattle.c_token.specs.declared.word.Word.TheVariants as words
use Rattle.c_tree.specs.declared.specifier.SpecifierNode.{SpecifierNode}
use Rattle.c_tree.specs.Operators.{access_mark, a_unary, a_postfix}
use Rattle.c_tree.specs.declared.tree.Core.{Core}
use Rattle.c_tree.specs.declared.tree.Core.TheVariants as cores
use Rattle.c_tree.specs.Tree.{Expr, Declarator, Initialiser, Initialisers, no_initialisers}
use Rattle.c_tree.specs.declared.initialiser.Init.{Init}
use Rattle.c_tree.specs.declared.first.ForFirstNode.{ForFirstNode}
use Rattle.c_tree.specs.Statements.{Statement}
use Rattle.c_tree.specs.Heights.{tallest_of}
use Rattle.c_tree.specs.ExternalHeights.{piece_height}
use Rattle.c_tree.specs.declared.enumerator.Enumerator.{Enumerator}
use Rattle.c_tree.specs.declared.external.MemberHead.{MemberHead}
use Rattle.c_tree.specs.declared.external.Piece.{Piece}
use Rattle.c_tree.specs.declared.external.Piece.TheVariants as pieces
use Rattle.c_tree.specs.declared.external.OuterSpecifier.{OuterSpecifier}
use Rattle.c_tree.specs.declared.external.ExternalForm.{ExternalForm}
use Rattle.c_tree.specs.Grammar.{mark, keyword, each, spell_specifier, spell, spell_arguments, spell_declarator, spell_parameters, spell_initialiser, spell_initialisers, spell_init, spell_clause, spell_first, jump_keyword, spell_statement, spell_items, spell_enumerator, spell_tag, spell_enum, spell_head, spell_declarators, spell_members, spell_outer, spell_form, FitsSpecifier, level, IsDirect, IsSomething, FitsExpr, FitArguments, FitsDeclarator, FitParameters, FitsInitialiser, FitInitialisers, FitsInit, FitsClause, FitsFirst, FitsStatement, FitItems, FitsEnumerator, FitEnumerators, FitDeclarators, FitMembers, FitsOuter, FitsForm}
use Rattle.c_productions.specs.declared.kind.Kind.{Kind}
use Rattle.c_productions.specs.declared.kind.Kind.TheVariants as kinds
use Rattle.c_productions.specs.declared.kind.Symbol.{Symbol}
use Rattle.c_productions.specs.declared.kind.Symbol.TheVariants.{Part, Word as Said}
use Rattle.c_productions.specs.declared.value.Holder.{Holder}
use Rattle.c_productions.specs.declared.value.Holder.TheVariants as holders
use Rattle.c_productions.specs.declared.value.Value.{Value}
use Rattle.c_productions.specs.declared.value.Value.TheVariants as values
use Rattle.c_productions.specs.declared.frame.Frame.{Frame}
use Rattle.c_productions.specs.refinement.Classes.{word_of}
use Rattle.c_productions.specs.refinement.Table.{level_at, core_at, takes_labels, build, height, least_of, least, rise, Goal, made, expects, State, takes, goes, step, end_step}

-- ---- the words that were read, and then these

-- each with a comma behind it
abbrev pub before_commas : {A : Type 0} → (A → List Word → List Word) → List A → List Word → List Word
before_commas spell_one [] r = r
before_commas spell_one (x ∷ xs) r = spell_one x (mark marks.Comma (before_commas spell_one xs r))

-- declarators with their initializers
abbrev pub inits_then : List Init → List Word → List Word
inits_then xs r = before_commas spell_init xs r

abbrev pub comma_if : Bool → List Word → List Word
comma_if true r = mark marks.Comma r
comma_if false r = r

-- what the braces of items stand behind
abbrev pub written_holder : Holder → List Word → List Word
written_holder holders.Block r = r
written_holder (holders.Function d) r = spell_declarator d r
written_holder (holders.Switch e) r = keyword keywords.Switch (mark marks.OpenParen (spell e (mark marks.CloseParen r)))

abbrev pub written_last : Option Enumerator → List Word → List Word
written_last None r = r
written_last (Some x) r = spell_enumerator x r

abbrev pub written : Value → List Word → List Word
written values.Start q = q
written (values.Expr e) q = spell e q
written values.Paren q = mark marks.OpenParen q
written (values.Call f xs) q = spell f (mark marks.OpenParen (spell_arguments xs q))
written (values.Access op e) q = spell e (mark (access_mark op) q)
written (values.TypeName s d) q = mark marks.OpenParen (spell_specifier s (spell_declarator d (mark marks.CloseParen q)))
written (values.Declarator d) q = spell_declarator d q
written (values.Array d) q = spell_declarator d (mark marks.OpenBracket q)
written values.OpenDeclarator q = mark marks.OpenParen q
written (values.Function d ps) q = spell_declarator d (mark marks.OpenParen (spell_parameters ps q))
written (values.Specifier s) q = spell_specifier s q
written values.Tag q = keyword keywords.Struct q
written (values.Opens t) q = keyword keywords.Struct (words.Name t ∷ mark marks.OpenBrace q)
written values.EnumTag q = keyword keywords.Enum q
written (values.Enumerators t xs last) q = keyword keywords.Enum (spell_tag t (mark marks.OpenBrace (before_commas spell_enumerator xs (written_last last q))))
written (values.Enum t xs comma) q = spell_enum t xs comma q
written (values.Initialiser v) q = spell_initialiser v q
written (values.Braces vs comma) q = mark marks.OpenBrace (spell_initialisers vs (comma_if comma q))
written (values.Inits xs x) q = inits_then xs (spell_init x q)
written (values.Statement s) q = spell_statement s q
written (values.If c a) q = keyword keywords.If (mark marks.OpenParen (spell c (mark marks.CloseParen (spell_statement a q))))
written (values.Items h its) q = written_holder h (mark marks.OpenBrace (spell_items its q))
written (values.Jump j) q = keyword (jump_keyword j) q
written (values.ForFirst a) q = spell_first a (mark marks.Semicolon q)
written (values.Test c) q = spell_clause c (mark marks.Semicolon q)
written (values.Step c) q = spell_clause c (mark marks.CloseParen q)
written (values.Outer o) q = spell_outer o q
written (values.Members t ps n some) q = keyword keywords.Struct (words.Name t ∷ mark marks.OpenBrace (spell_members ps q))
written (values.Member t ps n h ds) q = keyword keywords.Struct (words.Name t ∷ mark marks.OpenBrace (spell_members ps (spell_head h (spell_declarators ds q))))
written (values.Form f) q = spell_form f q
written (values.External o f) q = spell_outer o (spell_form f q)

-- ---- the trees of each kind

abbrev pub IsAsked : Bool → Declarator → Type 0
IsAsked true d = IsSomething d
IsAsked false d = Unit {0}

pub record ExprVal (k : ℕ) : Type 0 where
  pub tree : Expr
  pub tight : k ≤ level tree
  pub fits : FitsExpr tree

pub record TypeVal : Type 0 where
  pub specifier : SpecifierNode
  pub declarator : Declarator
  pub specifier_fits : FitsSpecifier specifier
  pub declarator_fits : FitsDeclarator cores.Nothing declarator

pub data OperandVal : Type 0 where
  an_expr : ExprVal a_unary → OperandVal
  a_type : TypeVal → OperandVal

pub record DeclaratorVal (c : Core) (i : Bool) : Type 0 where
  pub tree : Declarator
  pub asked : IsAsked i tree
  pub fits : FitsDeclarator c tree

pub record SpecifierVal : Type 0 where
  pub tree : SpecifierNode
  pub fits : FitsSpecifier tree

pub record OuterVal : Type 0 where
  pub tree : OuterSpecifier
  pub fits : FitsOuter tree

pub record EnumVal : Type 0 where
  pub tag : Option (List ℕ)
  pub enumerators : List Enumerator
  pub comma : Bool
  pub fits : FitEnumerators enumerators

pub data MemberVal : Type 0 where
  a_specifier : SpecifierVal → MemberVal
  an_opening : List ℕ → MemberVal
  an_enumeration : EnumVal → MemberVal

pub record InitialiserVal : Type 0 where
  pub tree : Initialiser
  pub fits : FitsInitialiser tree

pub record InitsVal : Type 0 where
  pub front : List Init
  pub last : Init
  pub front_fits : each FitsInit front
  pub last_fits : FitsInit last

pub record StatementVal : Type 0 where
  pub tree : Statement
  pub fits : FitsStatement tree

pub record FirstVal : Type 0 where
  pub tree : ForFirstNode
  pub fits : FitsFirst tree

pub record ClauseVal : Type 0 where
  pub tree : Option Expr
  pub fits : FitsClause tree

pub record FormVal : Type 0 where
  pub tree : ExternalForm
  pub fits : FitsForm tree

pub record ExternalVal : Type 0 where
  pub outer : OuterSpecifier
  pub form : ExternalForm
  pub outer_fits : FitsOuter outer
  pub form_fits : FitsForm form

abbrev pub Val : Kind → Type 0
Val (kinds.Expr k) = ExprVal k
Val kinds.SizeofOperand = OperandVal
Val (kinds.Declarator c i) = DeclaratorVal c i
Val kinds.Specifier = SpecifierVal
Val kinds.OuterSpecifier = OuterVal
Val kinds.MemberSpecifier = MemberVal
Val kinds.Initialiser = InitialiserVal
Val kinds.Inits = InitsVal
Val kinds.Statement = StatementVal
Val kinds.ForFirst = FirstVal
Val kinds.Test = ClauseVal
Val kinds.Step = ClauseVal
Val kinds.Form = FormVal
Val kinds.External = ExternalVal

abbrev pub operand_value : OperandVal → Value
operand_value (an_expr x) = values.Expr x.tree
operand_value (a_type x) = values.TypeName x.specifier x.declarator

abbrev pub member_value : MemberVal → Value
member_value (a_specifier x) = values.Specifier x.tree
member_value (an_opening t) = values.Opens t
member_value (an_enumeration x) = values.Enum x.tag x.enumerators x.comma

abbrev pub value_of : (K : Kind) → Val K → Value
value_of (kinds.Expr k) x = values.Expr x.tree
value_of kinds.SizeofOperand x = operand_value x
value_of (kinds.Declarator c i) x = values.Declarator x.tree
value_of kinds.Specifier x = values.Specifier x.tree
value_of kinds.OuterSpecifier x = values.Outer x.tree
value_of kinds.MemberSpecifier x = member_value x
value_of kinds.Initialiser x = values.Initialiser x.tree
value_of kinds.Inits x = values.Inits x.front x.last
value_of kinds.Statement x = values.Statement x.tree
value_of kinds.ForFirst x = values.ForFirst x.tree
value_of kinds.Test x = values.Test x.tree
value_of kinds.Step x = values.Step x.tree
value_of kinds.Form x = values.Form x.tree
value_of kinds.External x = values.External x.outer x.form

-- ---- what may be in hand

abbrev pub IsStart : Kind → Type 0
IsStart (kinds.Expr k) = k ≤ a_unary
IsStart _ = Unit {0}

abbrev pub OfExpr : Kind → Type 0
OfExpr (kinds.Expr k) = k ≤ a_unary
OfExpr kinds.SizeofOperand = Unit {0}
OfExpr _ = ⊥

abbrev pub OfSizeof : Kind → Type 0
OfSizeof kinds.SizeofOperand = Unit {0}
OfSizeof _ = ⊥

abbrev pub OfDeclarator : Kind → Type 0
OfDeclarator (kinds.Declarator c i) = Unit {0}
OfDeclarator _ = ⊥

abbrev pub OfSpecifier : Kind → Type 0
OfSpecifier kinds.Specifier = Unit {0}
OfSpecifier kinds.OuterSpecifier = Unit {0}
OfSpecifier kinds.MemberSpecifier = Unit {0}
OfSpecifier _ = ⊥

abbrev pub OfOuter : Kind → Type 0
OfOuter kinds.OuterSpecifier = Unit {0}
OfOuter _ = ⊥

abbrev pub OfMember : Kind → Type 0
OfMember kinds.MemberSpecifier = Unit {0}
OfMember _ = ⊥

-- where an enumeration may be defined
abbrev pub OfDefinition : Kind → Type 0
OfDefinition kinds.OuterSpecifier = Unit {0}
OfDefinition kinds.MemberSpecifier = Unit {0}
OfDefinition _ = ⊥

abbrev pub OfInitialiser : Kind → Type 0
OfInitialiser kinds.Initialiser = Unit {0}
OfInitialiser _ = ⊥

abbrev pub OfInits : Kind → Type 0
OfInits kinds.Inits = Unit {0}
OfInits kinds.Form = Unit {0}
OfInits _ = ⊥

abbrev pub OfStatement : Kind → Type 0
OfStatement kinds.Statement = Unit {0}
OfStatement _ = ⊥

abbrev pub OfHolder : Kind → Holder → Type 0
OfHolder kinds.Statement holders.Block = Unit {0}
OfHolder kinds.Statement (holders.Switch e) = FitsExpr e
OfHolder kinds.Form (holders.Function d) = FitsDeclarator cores.Name d
OfHolder _ h = ⊥

abbrev pub OfFirst : Kind → Type 0
OfFirst kinds.ForFirst = Unit {0}
OfFirst _ = ⊥

abbrev pub OfTest : Kind → Type 0
OfTest kinds.Test = Unit {0}
OfTest _ = ⊥

abbrev pub OfStep : Kind → Type 0
OfStep kinds.Step = Unit {0}
OfStep _ = ⊥

abbrev pub OfForm : Kind → Type 0
OfForm kinds.Form = Unit {0}
OfForm _ = ⊥

abbrev pub OfExternal : Kind → Type 0
OfExternal kinds.External = Unit {0}
OfExternal _ = ⊥

-- a comma stands behind initializers
abbrev pub MayComma : Initialisers → Bool → Type 0
MayComma no_initialisers true = ⊥
MayComma _ comma = Unit {0}

-- what is read of a structure's members: with what leads on from here it is all of them
abbrev pub OfMembers : List Piece → ℕ → Bool → Type 0
OfMembers ps n some = ((qs : List Piece) → FitMembers n some qs → FitMembers 0 false (ps ++ qs)) × (some ≡ true → 1 ≤ tallest_of piece_height ps)

abbrev pub OfHead : List Piece → ℕ → MemberHead → Type 0
OfHead ps n h = (es : List Declarator) → FitDeclarators es → (qs : List Piece) → FitMembers n true qs → FitMembers 0 false (ps ++ pieces.Member h es ∷ qs)

abbrev pub FitsLast : Option Enumerator → Type 0
FitsLast None = Unit {0}
FitsLast (Some x) = FitsEnumerator x

abbrev pub IsHand : Kind → Value → Type 0
IsHand K values.Start = IsStart K
IsHand K (values.Expr e) = OfExpr K × (level_at K ≤ level e) × FitsExpr e
IsHand K values.Paren = OfExpr K
IsHand K (values.Call f xs) = OfExpr K × (a_postfix ≤ level f) × FitsExpr f × FitArguments xs
IsHand K (values.Access op e) = OfExpr K × (a_postfix ≤ level e) × FitsExpr e
IsHand K (values.TypeName s d) = OfSizeof K × FitsSpecifier s × FitsDeclarator cores.Nothing d
IsHand K (values.Declarator d) = OfDeclarator K × IsSomething d × FitsDeclarator (core_at K) d
IsHand K (values.Array d) = OfDeclarator K × IsDirect d × FitsDeclarator (core_at K) d
IsHand K values.OpenDeclarator = OfDeclarator K
IsHand K (values.Function d ps) = OfDeclarator K × IsDirect d × FitsDeclarator (core_at K) d × FitParameters ps
IsHand K (values.Specifier s) = OfSpecifier K × FitsSpecifier s
IsHand K values.Tag = OfSpecifier K
IsHand K (values.Opens t) = OfMember K
IsHand K values.EnumTag = OfSpecifier K
IsHand K (values.Enumerators t xs last) = OfDefinition K × each FitsEnumerator xs × FitsLast last
IsHand K (values.Enum t xs comma) = OfDefinition K × FitEnumerators xs
IsHand K (values.Initialiser v) = OfInitialiser K × FitsInitialiser v
IsHand K (values.Braces vs comma) = OfInitialiser K × FitInitialisers vs × MayComma vs comma
IsHand K (values.Inits xs x) = OfInits K × each FitsInit xs × FitsInit x
IsHand K (values.Statement s) = OfStatement K × FitsStatement s
IsHand K (values.If c a) = OfStatement K × FitsExpr c × FitsStatement a
IsHand K (values.Items h its) = OfHolder K h × FitItems (takes_labels h) its
IsHand K (values.Jump j) = OfStatement K
IsHand K (values.ForFirst a) = OfFirst K × FitsFirst a
IsHand K (values.Test c) = OfTest K × FitsClause c
IsHand K (values.Step c) = OfStep K × FitsClause c
IsHand K (values.Outer o) = OfOuter K × FitsOuter o
IsHand K (values.Members t ps n some) = OfOuter K × OfMembers ps n some
IsHand K (values.Member t ps n h ds) = OfOuter K × OfHead ps n h × each (FitsDeclarator cores.Name) ds
IsHand K (values.Form f) = OfForm K × FitsForm f
IsHand K (values.External o f) = OfExternal K × FitsOuter o × FitsForm f

-- ---- what an open production wants

abbrev pub Parts : List Symbol → Type 0
Parts [] = Unit {0}
Parts (Said p ∷ ss) = Parts ss
Parts (Part K ∷ ss) = Val K × Parts ss

-- all parts, the latest first
abbrev pub onto : (ss : List Symbol) → Parts ss → List Value → List Value
onto [] x vs = vs
onto (Said p ∷ ss) x vs = onto ss x vs
onto (Part K ∷ ss) x vs = onto ss x.1 (value_of K x.0 ∷ vs)

abbrev pub written_rest : (ss : List Symbol) → Parts ss → List Word → List Word
written_rest [] x q = q
written_rest (Said p ∷ ss) x q = word_of p ∷ written_rest ss x q
written_rest (Part K ∷ ss) x q = written (value_of K x.0) (written_rest ss x.1 q)

abbrev pub highest : (ss : List Symbol) → Parts ss → ℕ
highest [] x = 0
highest (Said p ∷ ss) x = highest ss x
highest (Part K ∷ ss) x = max (height (value_of K x.0)) (highest ss x.1)

abbrev pub leasts : List Symbol → ℕ
leasts [] = 0
leasts (Said p ∷ ss) = leasts ss
leasts (Part K ∷ ss) = max (least_of K) (leasts ss)

abbrev pub Text : Type 0
Text = List Word → List Word

-- What an open production, of which this has been read, is with these parts.
pub record Made (f : Frame) (ss : List Symbol) (F : Text) (x : Parts ss) : Type 0 where
  pub same : (q : List Word) → written (build f.production (onto ss x f.parts)) q ≡ F (written_rest ss x q)
  pub fits : IsHand f.kind (build f.production (onto ss x f.parts))
  pub high : least f.kind (build f.production (onto ss x f.parts)) ≡ max f.base (highest ss x + rise f.production)

abbrev pub Framed : Frame → List Symbol → Text → Type 0
Framed f ss F = (x : Parts ss) → Made f ss F x

-- ---- whole states

-- parts that may be begun
abbrev pub AreStarts : List Symbol → Type 0
AreStarts [] = Unit {0}
AreStarts (Said p ∷ ss) = AreStarts ss
AreStarts (Part K ∷ ss) = IsStart K × AreStarts ss

-- Frames that wait, the innermost for this kind; the words that were read before it.
pub data Leads : Kind → List Frame → Text → Type 0 where
  bottom : (H : Text) → ((q : List Word) → H q ≡ q) → Leads kinds.External [] H
  waits : (K : Kind) (f : Frame) (fs : List Frame) (H F G : Text) → Framed f (Part K ∷ f.rest) F → AreStarts f.rest → Leads f.kind fs G → ((q : List Word) → H q ≡ G (F q)) → Leads K (f ∷ fs) H

abbrev pub Holds : Goal → Text → Type 0
Holds (made K v) F = IsHand K v × ((q : List Word) → F q ≡ written v q)
Holds (expects p f) F = Framed f (Said p ∷ f.rest) F × AreStarts f.rest

abbrev pub kind_of : Goal → Kind
kind_of (made K v) = K
kind_of (expects p f) = f.kind

-- a state in which these words have been read of an external declaration
pub record Stands (g : Goal) (fs : List Frame) (front : List Word) : Type 0 where
  pub inner : Text
  pub outer : Text
  pub holds : Holds g inner
  pub leads : Leads (kind_of g) fs outer
  pub same : (q : List Word) → outer (inner q) ≡ front ++ q

abbrev pub over : Frame → ℕ → ℕ
over f n = max f.base (max n (leasts f.rest) + rise f.production)

abbrev pub overs : List Frame → ℕ → ℕ
overs [] n = n
overs (f ∷ fs) n = overs fs (over f n)

abbrev pub least_goal : Goal → ℕ
least_goal (made K v) = least K v
least_goal (expects p f) = max f.base (leasts f.rest + rise f.production)

-- the least height of what begins so
abbrev pub lowest : Goal → List Frame → ℕ
lowest g fs = overs fs (least_goal g)

-- ---- runs

abbrev pub first_state : State
first_state = record { goal = made kinds.External values.Start; waiting = [] }

-- With these words to come the one state leads to the other, with those.
pub data Reaches : State → List Word → State → List Word → Type 0 where
  here : (s : State) (ws : List Word) → Reaches s ws s ws
  taking : (s t u : State) (w : Word) (ws vs : List Word) → step s.goal s.waiting w ≡ takes t → Reaches t ws u vs → Reaches s (w ∷ ws) u vs
  going : (s t u : State) (w : Word) (ws vs : List Word) → step s.goal s.waiting w ≡ goes t → Reaches t (w ∷ ws) u vs → Reaches s (w ∷ ws) u vs
  ending : (s t u : State) (vs : List Word) → end_step s.goal s.waiting ≡ goes t → Reaches t [] u vs → Reaches s [] u vs
