-- What is spelled so is read so: initializers, statements and external declarations.
use Rattle.std.proofs.Common.{◌≡◌, ℕ, ◌+◌, ◌-◌, ◌≤◌, Bool, true, false, List, [], ◌∷◌, ◌++◌, Option, Some, None, refl, sym, ◌∙◌, ap, subst, append_assoc, arith}
use Rattle.c_token.specs.declared.word.Mark.TheVariants as marks
use Rattle.c_token.specs.declared.word.Keyword.{Keyword}
use Rattle.c_token.specs.declared.word.Keyword.TheVariants as keywords
use Rattle.c_token.specs.declared.word.Word.{Word}
use Rattle.c_token.specs.declared.word.Word.TheVariants as words
use Rattle.c_tree.specs.declared.specifier.SpecifierNode.{SpecifierNode}
use Rattle.c_tree.specs.declared.specifier.SpecifierNode.TheVariants as specifiers
use Rattle.c_tree.specs.Operators.{an_assignment, a_cast, a_choice}
use Rattle.c_tree.specs.declared.tree.Core.TheVariants as cores
use Rattle.c_tree.specs.Tree.{Expr, Declarator, named, nothing, pointer, array, sized, wrapped, function, function_void, Initialiser, single, braces, Initialisers, no_initialisers, initialiser_and}
use Rattle.c_tree.specs.declared.initialiser.Init.{Init}
use Rattle.c_tree.specs.declared.enumerator.Enumerator.{Enumerator}
use Rattle.c_tree.specs.declared.first.ForFirstNode.{ForFirstNode}
use Rattle.c_tree.specs.declared.first.ForFirstNode.TheVariants as firsts
use Rattle.c_tree.specs.declared.first.Jump.{Jump}
use Rattle.c_tree.specs.declared.first.Jump.TheVariants as jumps
use Rattle.c_tree.specs.Statements.{Statement, block, plain, empty, if_then, if_else, while_loop, for_loop, return_none, return_value, jump, Items, no_items, statement_and, declaration_and, do_while, switch, case_and, default_and}
use Rattle.c_tree.specs.declared.statement.Item.{Item}
use Rattle.c_tree.specs.declared.statement.Item.TheVariants as items
use Rattle.c_tree.specs.StatementHeights.{ends_open}
use Rattle.c_tree.specs.declared.external.MemberHead.{MemberHead}
use Rattle.c_tree.specs.declared.external.MemberHead.TheVariants as heads
use Rattle.c_tree.specs.declared.external.Piece.{Piece}
use Rattle.c_tree.specs.declared.external.Piece.TheVariants as pieces
use Rattle.c_tree.specs.declared.external.OuterSpecifier.{OuterSpecifier}
use Rattle.c_tree.specs.declared.external.OuterSpecifier.TheVariants as outers
use Rattle.c_tree.specs.declared.external.ExternalForm.{ExternalForm}
use Rattle.c_tree.specs.declared.external.ExternalForm.TheVariants as forms
use Rattle.c_tree.specs.refinement.InitialiserViews.{with_initialiser}
use Rattle.c_tree.specs.refinement.StatementViews.{with_item}
use Rattle.c_tree.specs.Grammar.{mark, keyword, behind_commas, each, spell_specifier, spell, spell_declarator, spell_initialiser, spell_values, spell_init, spell_inits, spell_clause, spell_first, spell_statement, spell_items, spell_declarators, spell_members, spell_outer, spell_form, FitsSpecifier, level, IsSomething, FitsExpr, FitsDeclarator, FitsInitialiser, FitInitialisers, FitsInit, FitInits, FitsClause, FitsFirst, FitsStatement, FitItems, FitDeclarators, FitMembers, FitsOuter, FitsForm, spell_enumerator, spell_last_comma, spell_tag, spell_enum, FitsEnumerator, FitEnumerators}
use Rattle.c_productions.specs.declared.kind.Kind.{Kind}
use Rattle.c_productions.specs.declared.kind.Kind.TheVariants as kinds
use Rattle.c_productions.specs.declared.kind.Production.TheVariants as productions
use Rattle.c_productions.specs.declared.kind.Terminal.TheVariants as at
use Rattle.c_productions.specs.declared.value.Holder.{Holder}
use Rattle.c_productions.specs.declared.value.Holder.TheVariants as holders
use Rattle.c_productions.specs.declared.value.Value.{Value}
use Rattle.c_productions.specs.declared.value.Value.TheVariants as values
use Rattle.c_productions.specs.declared.frame.Frame.{Frame}
use Rattle.c_productions.specs.refinement.Classes.{begins_specifier, is_specifier, is_else, is, is_case, is_default}
use Rattle.c_productions.specs.refinement.Table.{begins, begin, items_end, with_part, opened, may_define, takes_labels, are_no}
use Rattle.c_productions.specs.refinement.Meaning.{inits_then, InitialiserVal, InitsVal, a_specifier, an_opening, OfInits, Reaches, first_state, EnumVal, an_enumeration, OfSpecifier}
use Rattle.c_parse_steps.proofs.Lists.{append_nil, inits_are}
use Rattle.c_parse_steps.proofs.Reach.{st, joins, production_said, production_begun, rests_reach, IsStuck, ReadsPart}
use Rattle.c_parse_steps.proofs.Firsts.{le_test, less_test, first_strength, begins_with, operand_no_specifier, operand_no_semicolon, operand_no_close, operand_no_brace, operand_no_end, operand_no_else, operand_is_plain, EndsSpecifier, specifier_stops, EndsDeclarator, specifier_begins, name_first, operand_no_case, operand_no_default}
use Rattle.c_parse_steps.proofs.Reading.{chain, begun_expr, begun_specifier, specifier_reads, tag_reads, specifier_val, specifier_part, expr_val, inner, declarator_val, declarator_begins, reads, declares, enum_word_reads, enum_tag_reads}

-- a part is read as this value
abbrev ReadsAs : Kind → Value → List Word → List Word → Type 0
ReadsAs K v text r = (f : Frame) (fs : List Frame) → Reaches (st K values.Start (f ∷ fs)) text (opened (with_part f v) f.rest fs) r

expr_part : (k : ℕ) (e : Expr) (t : k ≤ level e) (f : FitsExpr e) (r : List Word) → k ≤ a_cast → first_strength r ≤ k → ReadsPart (kinds.Expr k) (expr_val k e t f) r
expr_part k e t f r c h = inner e (reads e) k t f r (omega (arith, c)) h (omega (arith, h, c))

named_part : (d : Declarator) (f : FitsDeclarator cores.Name d) (r : List Word) → EndsDeclarator r → ReadsPart (kinds.Declarator cores.Name false) (declarator_val cores.Name false d tt f) r
named_part d f r e = (declares d).all cores.Name false tt f r e

named_something : (d : Declarator) → FitsDeclarator cores.Name d → IsSomething d
named_something nothing f = cc
named_something (named n) f = tt
named_something (pointer d) f = tt
named_something (array d) f = tt
named_something (sized d e) f = tt
named_something (wrapped d) f = tt
named_something (function d ps) f = tt
named_something (function_void d) f = tt

-- ---- initializers

record ValueBegins (text : List Word) : Type 0 where
  first : Word
  rest : List Word
  same : text ≡ first ∷ rest
  no_end : is at.CloseBrace first ≡ false

value_begins : (v : Initialiser) (r : List Word) → ValueBegins (spell_initialiser v r)
value_begins (single e) r = let b = begins_with e r in record { first = b.first; rest = b.rest; same = b.same; no_end = operand_no_end b.first b.operand }
value_begins (braces vs comma) r = record { first = words.Mark marks.OpenBrace; rest = _; same = refl; no_end = refl }

abbrev value_val : (v : Initialiser) → FitsInitialiser v → InitialiserVal
value_val v f = record { tree = v; fits = f }

abbrev ReadsValue : Initialiser → Type 0
ReadsValue v = (f : FitsInitialiser v) (r : List Word) → first_strength r ≤ 1 → ReadsPart kinds.Initialiser (value_val v f) r

value_rests : (v : Initialiser) (f : Frame) (fs : List Frame) (r : List Word) → Reaches (st kinds.Initialiser (values.Initialiser v) (f ∷ fs)) r (opened (with_part f (values.Initialiser v)) f.rest fs) r
value_rests v f fs [] = rests_reach kinds.Initialiser (values.Initialiser v) (values.Initialiser v) f fs [] refl tt
value_rests v f fs (w ∷ r) = rests_reach kinds.Initialiser (values.Initialiser v) (values.Initialiser v) f fs (w ∷ r) refl refl

single_reads : (e : Expr) → ReadsValue (single e)
single_reads e f r h g fs =
    chain (begun_expr kinds.Initialiser values.Start productions.Single (g ∷ fs) (expr_val an_assignment e f.0 f.1, tt) r e r refl (λ w b. rw (operand_no_brace w b) refl)
    (expr_part an_assignment e f.0 f.1 r (omega arith) h, tt))
    (value_rests (single e) g fs r)

abbrev joined_values : Initialisers → Initialisers → Initialisers
joined_values no_initialisers ys = ys
joined_values (initialiser_and x xs) ys = initialiser_and x (joined_values xs ys)

values_end : (xs : Initialisers) → joined_values xs no_initialisers ≡ xs
values_end no_initialisers = refl
values_end (initialiser_and x xs) = ap (λ ys. initialiser_and x ys) (values_end xs)

values_more : (xs : Initialisers) (v : Initialiser) (ys : Initialisers) → joined_values (with_initialiser xs v) ys ≡ joined_values xs (initialiser_and v ys)
values_more no_initialisers v ys = refl
values_more (initialiser_and x xs) v ys = ap (λ zs. initialiser_and x zs) (values_more xs v ys)

abbrev last_comma : Bool → List Word → List Word
last_comma true r = mark marks.Comma r
last_comma false r = r

values_strength : (vs : Initialisers) (comma : Bool) (r : List Word) → first_strength (spell_values vs (last_comma comma (mark marks.CloseBrace r))) ≤ 1
values_strength no_initialisers true r = omega arith
values_strength no_initialisers false r = omega arith
values_strength (initialiser_and v vs) comma r = omega arith

abbrev ReadsValues : Initialisers → Type 0
ReadsValues vs = (a : Initialiser) (xs : Initialisers) (comma : Bool) (fs : List Frame) (r : List Word) → FitInitialisers vs →
    Reaches (st kinds.Initialiser (values.Braces (initialiser_and a xs) false) fs) (spell_values vs (last_comma comma (mark marks.CloseBrace r))) (st kinds.Initialiser (values.Initialiser (braces (initialiser_and a (joined_values xs vs)) comma)) fs) r

braces_close : (a : Initialiser) (xs : Initialisers) (comma : Bool) (fs : List Frame) (r : List Word) → Reaches (st kinds.Initialiser (values.Braces (initialiser_and a xs) false) fs) (last_comma comma (mark marks.CloseBrace r)) (st kinds.Initialiser (values.Initialiser (braces (initialiser_and a xs) comma)) fs) r
braces_close a xs false fs r = joins kinds.Initialiser (values.Braces (initialiser_and a xs) false) (values.Initialiser (braces (initialiser_and a xs) false)) fs (words.Mark marks.CloseBrace) r refl
braces_close a xs true fs r =
    chain (joins kinds.Initialiser (values.Braces (initialiser_and a xs) false) (values.Braces (initialiser_and a xs) true) fs (words.Mark marks.Comma) (mark marks.CloseBrace r) refl)
    (joins kinds.Initialiser (values.Braces (initialiser_and a xs) true) (values.Initialiser (braces (initialiser_and a xs) true)) fs (words.Mark marks.CloseBrace) r refl)

no_more_values : ReadsValues no_initialisers
no_more_values a xs comma fs r f =
    let P : Initialisers → Type 0 = λ ys. Reaches (st kinds.Initialiser (values.Braces (initialiser_and a xs) false) fs) (last_comma comma (mark marks.CloseBrace r)) (st kinds.Initialiser (values.Initialiser (braces (initialiser_and a ys) comma)) fs) r in
    subst P (sym (values_end xs)) (braces_close a xs comma fs r)

next_value : (v : Initialiser) (vs : Initialisers) → ReadsValue v → ReadsValues vs → ReadsValues (initialiser_and v vs)
next_value v vs iv is a xs comma fs r f =
    let K = kinds.Initialiser in
    let text = spell_values vs (last_comma comma (mark marks.CloseBrace r)) in
    let b = value_begins v text in
    let P : Initialisers → Type 0 = λ ys. Reaches (st K (values.Braces (initialiser_and a xs) false) fs) (mark marks.Comma (spell_initialiser v text)) (st K (values.Initialiser (braces (initialiser_and a ys) comma)) fs) r in
    subst P (values_more xs v vs)
    (chain (joins K (values.Braces (initialiser_and a xs) false) (values.Braces (initialiser_and a xs) true) fs (words.Mark marks.Comma) (spell_initialiser v text) refl)
    (chain (production_begun K (values.Braces (initialiser_and a xs) true) productions.Element fs b.first b.rest (value_val v f.0, tt) text b.same (rw b.no_end refl) (iv f.0 text (values_strength vs comma r), tt))
    (is a (with_initialiser xs v) comma fs r f.1)))

braces_run : (v : Initialiser) (vs : Initialisers) (comma : Bool) → ReadsValue v → ReadsValues vs → FitsInitialiser v → FitInitialisers vs → (r : List Word) (g : Frame) (fs : List Frame) → Reaches (st kinds.Initialiser values.Start (g ∷ fs)) (mark marks.OpenBrace (spell_initialiser v (spell_values vs (last_comma comma (mark marks.CloseBrace r))))) (opened (with_part g (values.Initialiser (braces (initialiser_and v vs) comma))) g.rest fs) r
braces_run v vs comma iv ivs f h r g fs =
    let K = kinds.Initialiser in
    let text = spell_values vs (last_comma comma (mark marks.CloseBrace r)) in
    let b = value_begins v text in
    chain (joins K values.Start (values.Braces no_initialisers false) (g ∷ fs) (words.Mark marks.OpenBrace) (spell_initialiser v text) refl)
    (chain (production_begun K (values.Braces no_initialisers false) productions.Element (g ∷ fs) b.first b.rest (value_val v f, tt) text b.same refl (iv f text (values_strength vs comma r), tt))
    (chain (ivs v no_initialisers comma (g ∷ fs) r h) (value_rests (braces (initialiser_and v vs) comma) g fs r)))

braces_read : (v : Initialiser) (vs : Initialisers) (comma : Bool) → ReadsValue v → ReadsValues vs → ReadsValue (braces (initialiser_and v vs) comma)
braces_read v vs true iv ivs f r h g fs = braces_run v vs true iv ivs f.1.0 f.1.1 r g fs
braces_read v vs false iv ivs f r h g fs = braces_run v vs false iv ivs f.1.0 f.1.1 r g fs

mutual
  value_reads : (v : Initialiser) → ReadsValue v
  value_reads (single e) = single_reads e
  value_reads (braces no_initialisers comma) = λ f r h. absurd f.0
  value_reads (braces (initialiser_and v vs) comma) = braces_read v vs comma (value_reads v) (values_read vs)

  values_read : (vs : Initialisers) → ReadsValues vs
  values_read no_initialisers = no_more_values
  values_read (initialiser_and v vs) = next_value v vs (value_reads v) (values_read vs)

-- ---- declarators with initializers

abbrev bare : Declarator → Option Initialiser → Init
bare d o = record { declarator = d; value = o }

first_action : (K : Kind) (w : Word) → OfInits K → is at.Semicolon w ≡ false → begin K w ≡ begins productions.FirstInit
first_action kinds.Inits w o h = refl
first_action kinds.Form w o h = rw h refl
first_action _ w o h = absurd o

with_value : (K : Kind) (xs : List Init) (d : Declarator) (v : Initialiser) (fs : List Frame) (r : List Word) → FitsInitialiser v → first_strength r ≤ 1 → Reaches (st K (values.Inits xs (bare d None)) fs) (mark marks.Equals (spell_initialiser v r)) (st K (values.Inits xs (bare d (Some v))) fs) r
with_value K xs d v fs r f h = production_said K (values.Inits xs (bare d None)) productions.InitValue fs (words.Mark marks.Equals) (value_val v f, tt) r refl (value_reads v f r h, tt)

first_bare : (K : Kind) (d : Declarator) (fs : List Frame) (r : List Word) → OfInits K → FitsDeclarator cores.Name d → EndsDeclarator r → Reaches (st K values.Start fs) (spell_declarator d r) (st K (values.Inits [] (bare d None)) fs) r
first_bare K d fs r o f e =
    let b = declarator_begins d r (named_something d f) in
    production_begun K values.Start productions.FirstInit fs b.first b.rest (declarator_val cores.Name false d tt f, tt) r b.same (first_action K b.first o b.no_semicolon) (named_part d f r e, tt)

first_init : (K : Kind) (d : Declarator) (o : Option Initialiser) (fs : List Frame) (r : List Word) → OfInits K → FitsInit (bare d o) → EndsDeclarator r → first_strength r ≤ 1 → Reaches (st K values.Start fs) (spell_init (bare d o) r) (st K (values.Inits [] (bare d o)) fs) r
first_init K d None fs r k f e h = first_bare K d fs r k f.0 e
first_init K d (Some v) fs r k f e h = chain (first_bare K d fs (mark marks.Equals (spell_initialiser v r)) k f.0 refl) (with_value K [] d v fs r f.1 h)

next_bare : (K : Kind) (xs : List Init) (y : Init) (d : Declarator) (fs : List Frame) (r : List Word) → FitsDeclarator cores.Name d → EndsDeclarator r → Reaches (st K (values.Inits xs y) fs) (mark marks.Comma (spell_declarator d r)) (st K (values.Inits (xs ++ y ∷ []) (bare d None)) fs) r
next_bare K xs y d fs r f e = production_said K (values.Inits xs y) productions.NextInit fs (words.Mark marks.Comma) (declarator_val cores.Name false d tt f, tt) r refl (named_part d f r e, tt)

next_init : (K : Kind) (xs : List Init) (y : Init) (d : Declarator) (o : Option Initialiser) (fs : List Frame) (r : List Word) → FitsInit (bare d o) → EndsDeclarator r → first_strength r ≤ 1 → Reaches (st K (values.Inits xs y) fs) (mark marks.Comma (spell_init (bare d o) r)) (st K (values.Inits (xs ++ y ∷ []) (bare d o)) fs) r
next_init K xs y d None fs r f e h = next_bare K xs y d fs r f.0 e
next_init K xs y d (Some v) fs r f e h = chain (next_bare K xs y d fs (mark marks.Equals (spell_initialiser v r)) f.0 refl) (with_value K (xs ++ y ∷ []) d v fs r f.1 h)

more_inits : (K : Kind) (zs : List Init) (xs : List Init) (y last : Init) (fs : List Frame) (r : List Word) → each FitsInit zs → FitsInit last → EndsDeclarator r → first_strength r ≤ 1 →
    Reaches (st K (values.Inits xs y) fs) (mark marks.Comma (inits_then zs (spell_init last r))) (st K (values.Inits ((xs ++ y ∷ []) ++ zs) last) fs) r
more_inits K [] xs y last fs r f g e h =
    let P : List Init → Type 0 = λ ys. Reaches (st K (values.Inits xs y) fs) (mark marks.Comma (spell_init last r)) (st K (values.Inits ys last) fs) r in
    subst P (sym (append_nil (xs ++ y ∷ []))) (next_init K xs y last.declarator last.value fs r g e h)
more_inits K (z ∷ zs) xs y last fs r f g e h =
    let text = mark marks.Comma (inits_then zs (spell_init last r)) in
    let P : List Init → Type 0 = λ ys. Reaches (st K (values.Inits xs y) fs) (mark marks.Comma (spell_init z text)) (st K (values.Inits ys last) fs) r in
    subst P (append_assoc (xs ++ y ∷ []) (z ∷ []) zs)
    (chain (next_init K xs y z.declarator z.value fs text f.0 refl (omega arith)) (more_inits K zs (xs ++ y ∷ []) z last fs r f.1 g e h))

inits_read : (K : Kind) (front : List Init) (last : Init) (fs : List Frame) (r : List Word) → OfInits K → each FitsInit front → FitsInit last → EndsDeclarator r → first_strength r ≤ 1 →
    Reaches (st K values.Start fs) (inits_then front (spell_init last r)) (st K (values.Inits front last) fs) r
inits_read K [] last fs r k f g e h = first_init K last.declarator last.value fs r k g e h
inits_read K (y ∷ zs) last fs r k f g e h =
    let text = mark marks.Comma (inits_then zs (spell_init last r)) in
    chain (first_init K y.declarator y.value fs text k f.0 refl (omega arith)) (more_inits K zs [] y last fs r f.1 g e h)

record Lasts (xs : List Init) : Type 0 where
  val : InitsVal
  is : val.front ++ val.last ∷ [] ≡ xs

lasts : (xs : List Init) → FitInits xs → Lasts xs
lasts [] f = absurd f.0
lasts (x ∷ xs) f = lasts_from x xs f.1.0 f.1.1
  where
    lasts_from : (x : Init) (xs : List Init) → FitsInit x → each FitsInit xs → Lasts (x ∷ xs)
    lasts_from x [] f g = record { val = record { front = []; last = x; front_fits = tt; last_fits = f }; is = refl }
    lasts_from x (y ∷ ys) f g =
        let l = lasts_from y ys g.0 g.1 in
        record { val = record { front = x ∷ l.val.front; last = l.val.last; front_fits = (f, l.val.front_fits); last_fits = l.val.last_fits }; is = ap (λ zs. x ∷ zs) l.is }

inits_part : (x : InitsVal) (r : List Word) → ReadsPart kinds.Inits x (mark marks.Semicolon r)
inits_part x r g fs =
    let text = mark marks.Semicolon r in
    chain (inits_read kinds.Inits x.front x.last (g ∷ fs) text tt x.front_fits x.last_fits refl (omega arith))
    (rests_reach kinds.Inits (values.Inits x.front x.last) (values.Inits x.front x.last) g fs text refl refl)

-- the words of a declaration's declarators
inits_text : (xs : List Init) (l : Lasts xs) (r : List Word) → inits_then l.val.front (spell_init l.val.last r) ≡ spell_inits xs r
inits_text xs l r = sym (inits_are l.val.front l.val.last r) ∙ ap (λ ys. spell_inits ys r) l.is

inits_first : (xs : List Init) (r : List Word) → FitInits xs → EndsSpecifier (spell_inits xs r)
inits_first [] r f = absurd f.0
inits_first (x ∷ xs) r f = name_first x.declarator _ f.1.0.0

inits_then_first : (xs : List Init) (l : Lasts xs) (r : List Word) → FitInits xs → EndsSpecifier (inits_then l.val.front (spell_init l.val.last r))
inits_then_first xs l r f = subst EndsSpecifier (sym (inits_text xs l r)) (inits_first xs r f)

-- ---- statements

record StatementBegins (text : List Word) : Type 0 where
  first : Word
  rest : List Word
  same : text ≡ first ∷ rest
  no_end : is at.CloseBrace first ≡ false
  no_specifier : is_specifier first ≡ false
  no_else : is_else first ≡ false
  no_case : is_case first ≡ false
  no_default : is_default first ≡ false

statement_begins : (s : Statement) (r : List Word) → StatementBegins (spell_statement s r)
statement_begins (block its) r = record { first = words.Mark marks.OpenBrace; rest = _; same = refl; no_end = refl; no_specifier = refl; no_else = refl; no_case = refl; no_default = refl }
statement_begins (plain e) r = let b = begins_with e (mark marks.Semicolon r) in record { first = b.first; rest = b.rest; same = b.same; no_end = operand_no_end b.first b.operand; no_specifier = operand_no_specifier b.first b.operand; no_else = operand_no_else b.first b.operand; no_case = operand_no_case b.first b.operand; no_default = operand_no_default b.first b.operand }
statement_begins empty r = record { first = words.Mark marks.Semicolon; rest = _; same = refl; no_end = refl; no_specifier = refl; no_else = refl; no_case = refl; no_default = refl }
statement_begins (if_then c a) r = record { first = words.Keyword keywords.If; rest = _; same = refl; no_end = refl; no_specifier = refl; no_else = refl; no_case = refl; no_default = refl }
statement_begins (if_else c a b) r = record { first = words.Keyword keywords.If; rest = _; same = refl; no_end = refl; no_specifier = refl; no_else = refl; no_case = refl; no_default = refl }
statement_begins (while_loop c s) r = record { first = words.Keyword keywords.While; rest = _; same = refl; no_end = refl; no_specifier = refl; no_else = refl; no_case = refl; no_default = refl }
statement_begins (do_while s c) r = record { first = words.Keyword keywords.Do; rest = _; same = refl; no_end = refl; no_specifier = refl; no_else = refl; no_case = refl; no_default = refl }
statement_begins (switch e its) r = record { first = words.Keyword keywords.Switch; rest = _; same = refl; no_end = refl; no_specifier = refl; no_else = refl; no_case = refl; no_default = refl }
statement_begins (for_loop a c b s) r = record { first = words.Keyword keywords.For; rest = _; same = refl; no_end = refl; no_specifier = refl; no_else = refl; no_case = refl; no_default = refl }
statement_begins return_none r = record { first = words.Keyword keywords.Return; rest = _; same = refl; no_end = refl; no_specifier = refl; no_else = refl; no_case = refl; no_default = refl }
statement_begins (return_value e) r = record { first = words.Keyword keywords.Return; rest = _; same = refl; no_end = refl; no_specifier = refl; no_else = refl; no_case = refl; no_default = refl }
statement_begins (jump jumps.Break) r = record { first = words.Keyword keywords.Break; rest = _; same = refl; no_end = refl; no_specifier = refl; no_else = refl; no_case = refl; no_default = refl }
statement_begins (jump jumps.Continue) r = record { first = words.Keyword keywords.Continue; rest = _; same = refl; no_end = refl; no_specifier = refl; no_else = refl; no_case = refl; no_default = refl }

abbrev NoElse : List Word → Type 0
NoElse [] = Unit {0}
NoElse (w ∷ ws) = is_else w ≡ false

abbrev ReadsStatement : Statement → Type 0
ReadsStatement s = (r : List Word) → FitsStatement s → (ends_open s ≡ true → NoElse r) → ReadsAs kinds.Statement (values.Statement s) (spell_statement s r) r

statement_rests : (s : Statement) (f : Frame) (fs : List Frame) (r : List Word) → Reaches (st kinds.Statement (values.Statement s) (f ∷ fs)) r (opened (with_part f (values.Statement s)) f.rest fs) r
statement_rests s f fs [] = rests_reach kinds.Statement (values.Statement s) (values.Statement s) f fs [] refl tt
statement_rests s f fs (w ∷ r) = rests_reach kinds.Statement (values.Statement s) (values.Statement s) f fs (w ∷ r) refl refl

plain_reads : (e : Expr) → ReadsStatement (plain e)
plain_reads e r f n g fs =
    let text = mark marks.Semicolon r in
    let z : 0 ≤ level e = omega arith in
    chain (begun_expr kinds.Statement values.Start productions.Plain (g ∷ fs) (expr_val 0 e z f, tt) r e text refl (λ w b. operand_is_plain w b) (expr_part 0 e z f text (omega arith) (omega arith), tt))
    (statement_rests (plain e) g fs r)

if_reads : (c : Expr) (a : Statement) → ReadsStatement a → (r : List Word) → FitsExpr c → FitsStatement a → (ends_open a ≡ true → NoElse r) → (fs : List Frame) → Reaches (st kinds.Statement values.Start fs) (keyword keywords.If (mark marks.OpenParen (spell c (mark marks.CloseParen (spell_statement a r))))) (st kinds.Statement (values.If c a) fs) r
if_reads c a ia r f g n fs =
    let text = mark marks.CloseParen (spell_statement a r) in
    let z : 0 ≤ level c = omega arith in
    production_said kinds.Statement values.Start productions.If fs (words.Keyword keywords.If) (expr_val 0 c z f, (record { tree = a; fits = g }, tt)) r refl (expr_part 0 c z f text (omega arith) (omega arith), (ia r g n, tt))

if_stops : (c : Expr) (a : Statement) (r : List Word) → NoElse r → IsStuck kinds.Statement (values.If c a) r
if_stops c a [] n = tt
if_stops c a (w ∷ r) n = rw n refl

if_then_reads : (c : Expr) (a : Statement) → ReadsStatement a → ReadsStatement (if_then c a)
if_then_reads c a ia r f n g fs =
    chain (if_reads c a ia r f.0 f.1 (λ e. n refl) (g ∷ fs))
    (rests_reach kinds.Statement (values.If c a) (values.Statement (if_then c a)) g fs r refl (if_stops c a r (n refl)))

if_else_reads : (c : Expr) (a b : Statement) → ReadsStatement a → ReadsStatement b → ReadsStatement (if_else c a b)
if_else_reads c a b ia ib r f n g fs =
    chain (if_reads c a ia (keyword keywords.Else (spell_statement b r)) f.0 f.2 (λ e. cc (f.1, e)) (g ∷ fs))
    (chain (production_said kinds.Statement (values.If c a) productions.Else (g ∷ fs) (words.Keyword keywords.Else) (record { tree = b; fits = f.3 }, tt) r (rw f.1 refl) (ib r f.3 n, tt))
    (statement_rests (if_else c a b) g fs r))

while_reads : (c : Expr) (s : Statement) → ReadsStatement s → ReadsStatement (while_loop c s)
while_reads c s is r f n g fs =
    let text = mark marks.CloseParen (spell_statement s r) in
    let z : 0 ≤ level c = omega arith in
    chain (production_said kinds.Statement values.Start productions.While (g ∷ fs) (words.Keyword keywords.While) (expr_val 0 c z f.0, (record { tree = s; fits = f.1 }, tt)) r refl (expr_part 0 c z f.0 text (omega arith) (omega arith), (is r f.1 n, tt)))
    (statement_rests (while_loop c s) g fs r)

do_reads : (s : Statement) (c : Expr) → ReadsStatement s → ReadsStatement (do_while s c)
do_reads s c is r f n g fs =
    let after_test = mark marks.CloseParen (mark marks.Semicolon r) in
    let z : 0 ≤ level c = omega arith in
    chain (production_said kinds.Statement values.Start productions.Do (g ∷ fs) (words.Keyword keywords.Do) (record { tree = s; fits = f.0 }, (expr_val 0 c z f.1, tt)) r refl
    (is (keyword keywords.While (mark marks.OpenParen (spell c after_test))) f.0 (λ _. refl), (expr_part 0 c z f.1 after_test (omega arith) (omega arith), tt)))
    (statement_rests (do_while s c) g fs r)

test_rests : (c : Option Expr) (f : Frame) (fs : List Frame) (r : List Word) → Reaches (st kinds.Test (values.Test c) (f ∷ fs)) r (opened (with_part f (values.Test c)) f.rest fs) r
test_rests c f fs [] = rests_reach kinds.Test (values.Test c) (values.Test c) f fs [] refl tt
test_rests c f fs (w ∷ r) = rests_reach kinds.Test (values.Test c) (values.Test c) f fs (w ∷ r) refl refl

test_reads : (c : Option Expr) (r : List Word) → FitsClause c → ReadsAs kinds.Test (values.Test c) (spell_clause c (mark marks.Semicolon r)) r
test_reads None r f g fs = chain (joins kinds.Test values.Start (values.Test None) (g ∷ fs) (words.Mark marks.Semicolon) r refl) (test_rests None g fs r)
test_reads (Some e) r f g fs =
    let text = mark marks.Semicolon r in
    let z : 0 ≤ level e = omega arith in
    chain (begun_expr kinds.Test values.Start productions.TestExpr (g ∷ fs) (expr_val 0 e z f, tt) r e text refl (λ w b. rw (operand_no_semicolon w b) refl) (expr_part 0 e z f text (omega arith) (omega arith), tt))
    (test_rests (Some e) g fs r)

step_rests : (c : Option Expr) (f : Frame) (fs : List Frame) (r : List Word) → Reaches (st kinds.Step (values.Step c) (f ∷ fs)) r (opened (with_part f (values.Step c)) f.rest fs) r
step_rests c f fs [] = rests_reach kinds.Step (values.Step c) (values.Step c) f fs [] refl tt
step_rests c f fs (w ∷ r) = rests_reach kinds.Step (values.Step c) (values.Step c) f fs (w ∷ r) refl refl

step_reads : (c : Option Expr) (r : List Word) → FitsClause c → ReadsAs kinds.Step (values.Step c) (spell_clause c (mark marks.CloseParen r)) r
step_reads None r f g fs = chain (joins kinds.Step values.Start (values.Step None) (g ∷ fs) (words.Mark marks.CloseParen) r refl) (step_rests None g fs r)
step_reads (Some e) r f g fs =
    let text = mark marks.CloseParen r in
    let z : 0 ≤ level e = omega arith in
    chain (begun_expr kinds.Step values.Start productions.StepExpr (g ∷ fs) (expr_val 0 e z f, tt) r e text refl (λ w b. rw (operand_no_close w b) refl) (expr_part 0 e z f text (omega arith) (omega arith), tt))
    (step_rests (Some e) g fs r)

first_rests : (a : ForFirstNode) (f : Frame) (fs : List Frame) (r : List Word) → Reaches (st kinds.ForFirst (values.ForFirst a) (f ∷ fs)) r (opened (with_part f (values.ForFirst a)) f.rest fs) r
first_rests a f fs [] = rests_reach kinds.ForFirst (values.ForFirst a) (values.ForFirst a) f fs [] refl tt
first_rests a f fs (w ∷ r) = rests_reach kinds.ForFirst (values.ForFirst a) (values.ForFirst a) f fs (w ∷ r) refl refl

for_declaration : (s : SpecifierNode) (xs : List Init) (l : Lasts xs) (r : List Word) → FitsSpecifier s → FitInits xs → ReadsAs kinds.ForFirst (values.ForFirst (firsts.Declaration s (l.val.front ++ l.val.last ∷ []))) (spell_specifier s (inits_then l.val.front (spell_init l.val.last (mark marks.Semicolon r)))) r
for_declaration s xs l r f h g fs =
    let text = inits_then l.val.front (spell_init l.val.last (mark marks.Semicolon r)) in
    chain (begun_specifier kinds.ForFirst values.Start productions.ForDeclaration (g ∷ fs) (specifier_val s f, (l.val, tt)) r s text refl (λ k b. rw b refl) (specifier_part s f text (inits_then_first xs l (mark marks.Semicolon r) h), (inits_part l.val r, tt)))
    (first_rests (firsts.Declaration s (l.val.front ++ l.val.last ∷ [])) g fs r)

first_reads : (a : ForFirstNode) (r : List Word) → FitsFirst a → ReadsAs kinds.ForFirst (values.ForFirst a) (spell_first a (mark marks.Semicolon r)) r
first_reads firsts.Nothing r f g fs = chain (joins kinds.ForFirst values.Start (values.ForFirst firsts.Nothing) (g ∷ fs) (words.Mark marks.Semicolon) r refl) (first_rests firsts.Nothing g fs r)
first_reads (firsts.Expr e) r f g fs =
    let text = mark marks.Semicolon r in
    let z : 0 ≤ level e = omega arith in
    chain (begun_expr kinds.ForFirst values.Start productions.ForExpr (g ∷ fs) (expr_val 0 e z f, tt) r e text refl (λ w b. rw (operand_no_semicolon w b, operand_no_specifier w b) refl) (expr_part 0 e z f text (omega arith) (omega arith), tt))
    (first_rests (firsts.Expr e) g fs r)
first_reads (firsts.Declaration s xs) r f g fs =
    let l = lasts xs f.1 in
    let P : List Word → Type 0 = λ x. ReadsAs kinds.ForFirst (values.ForFirst (firsts.Declaration s (l.val.front ++ l.val.last ∷ []))) (spell_specifier s x) r in
    let Q : List Init → Type 0 = λ ys. ReadsAs kinds.ForFirst (values.ForFirst (firsts.Declaration s ys)) (spell_specifier s (spell_inits xs (mark marks.Semicolon r))) r in
    let all = subst Q l.is (subst P (inits_text xs l (mark marks.Semicolon r)) (for_declaration s xs l r f.0 f.1)) in
    all g fs

for_reads : (a : ForFirstNode) (c b : Option Expr) (s : Statement) → ReadsStatement s → ReadsStatement (for_loop a c b s)
for_reads a c b s is r f n g fs =
    let after_step = spell_statement s r in
    let after_test = spell_clause b (mark marks.CloseParen after_step) in
    let after_first = spell_clause c (mark marks.Semicolon after_test) in
    chain (production_said kinds.Statement values.Start productions.For (g ∷ fs) (words.Keyword keywords.For)
    (record { tree = a; fits = f.0 }, (record { tree = c; fits = f.1 }, (record { tree = b; fits = f.2 }, (record { tree = s; fits = f.3 }, tt)))) r refl
    (first_reads a after_first f.0, (test_reads c after_test f.1, (step_reads b after_step f.2, (is r f.3 n, tt)))))
    (statement_rests (for_loop a c b s) g fs r)

return_none_reads : ReadsStatement return_none
return_none_reads r f n g fs = chain (production_said kinds.Statement values.Start productions.Return (g ∷ fs) (words.Keyword keywords.Return) (record { tree = None; fits = tt }, tt) r refl (test_reads None r tt, tt)) (statement_rests return_none g fs r)

return_value_reads : (e : Expr) → ReadsStatement (return_value e)
return_value_reads e r f n g fs = chain (production_said kinds.Statement values.Start productions.Return (g ∷ fs) (words.Keyword keywords.Return) (record { tree = Some e; fits = f }, tt) r refl (test_reads (Some e) r f, tt)) (statement_rests (return_value e) g fs r)

jump_reads : (j : Jump) → ReadsStatement (jump j)
jump_reads jumps.Break r f n g fs = chain (joins kinds.Statement values.Start (values.Jump jumps.Break) (g ∷ fs) (words.Keyword keywords.Break) (mark marks.Semicolon r) refl) (chain (joins kinds.Statement (values.Jump jumps.Break) (values.Statement (jump jumps.Break)) (g ∷ fs) (words.Mark marks.Semicolon) r refl) (statement_rests (jump jumps.Break) g fs r))
jump_reads jumps.Continue r f n g fs = chain (joins kinds.Statement values.Start (values.Jump jumps.Continue) (g ∷ fs) (words.Keyword keywords.Continue) (mark marks.Semicolon r) refl) (chain (joins kinds.Statement (values.Jump jumps.Continue) (values.Statement (jump jumps.Continue)) (g ∷ fs) (words.Mark marks.Semicolon) r refl) (statement_rests (jump jumps.Continue) g fs r))

-- ---- blocks

abbrev joined_items : Items → Items → Items
joined_items no_items ys = ys
joined_items (statement_and s xs) ys = statement_and s (joined_items xs ys)
joined_items (declaration_and s ds xs) ys = declaration_and s ds (joined_items xs ys)
joined_items (case_and e xs) ys = case_and e (joined_items xs ys)
joined_items (default_and xs) ys = default_and (joined_items xs ys)

items_nothing : (xs : Items) → joined_items xs no_items ≡ xs
items_nothing no_items = refl
items_nothing (statement_and s xs) = ap (λ ys. statement_and s ys) (items_nothing xs)
items_nothing (declaration_and s ds xs) = ap (λ ys. declaration_and s ds ys) (items_nothing xs)
items_nothing (case_and e xs) = ap (λ ys. case_and e ys) (items_nothing xs)
items_nothing (default_and xs) = ap (λ ys. default_and ys) (items_nothing xs)

items_more : (xs : Items) (i : Item) (ys : Items) → joined_items (with_item xs i) ys ≡ joined_items xs (joined_items (with_item no_items i) ys)
items_more no_items i ys = refl
items_more (statement_and s xs) i ys = ap (λ zs. statement_and s zs) (items_more xs i ys)
items_more (declaration_and s ds xs) i ys = ap (λ zs. declaration_and s ds zs) (items_more xs i ys)
items_more (case_and e xs) i ys = ap (λ zs. case_and e zs) (items_more xs i ys)
items_more (default_and xs) i ys = ap (λ zs. default_and zs) (items_more xs i ys)

items_no_else : (its : Items) (r : List Word) → NoElse (spell_items its (mark marks.CloseBrace r))
items_no_else no_items r = refl
items_no_else (statement_and s its) r = let b = statement_begins s (spell_items its (mark marks.CloseBrace r)) in subst NoElse (sym b.same) b.no_else
items_no_else (declaration_and s xs its) r = let b = specifier_begins s (spell_inits xs (mark marks.Semicolon (spell_items its (mark marks.CloseBrace r)))) in subst NoElse (sym b.same) (no_else b.first b.specifier)
  where
    no_else : (k : Keyword) → begins_specifier k ≡ true → is_else (words.Keyword k) ≡ false
    no_else keywords.Else e = cc
    no_else _ e = refl
items_no_else (case_and e its) r = refl
items_no_else (default_and its) r = refl

abbrev ReadsItems : Items → Type 0
ReadsItems its = (K : Kind) (o : Holder) (xs : Items) (fs : List Frame) (r : List Word) → FitItems (takes_labels o) its → Reaches (st K (values.Items o xs) fs) (spell_items its (mark marks.CloseBrace r)) (st K (items_end o (joined_items xs its)) fs) r

no_more_items : ReadsItems no_items
no_more_items K o xs fs r f =
    let P : Items → Type 0 = λ ys. Reaches (st K (values.Items o xs) fs) (mark marks.CloseBrace r) (st K (items_end o ys) fs) r in
    subst P (sym (items_nothing xs)) (joins K (values.Items o xs) (items_end o xs) fs (words.Mark marks.CloseBrace) r refl)

next_statement : (s : Statement) (its : Items) → ReadsStatement s → ReadsItems its → ReadsItems (statement_and s its)
next_statement s its is ii K o xs fs r f =
    let text = spell_items its (mark marks.CloseBrace r) in
    let b = statement_begins s text in
    let P : Items → Type 0 = λ ys. Reaches (st K (values.Items o xs) fs) (spell_statement s text) (st K (items_end o ys) fs) r in
    subst P (items_more xs (items.Statement s) its)
    (chain (production_begun K (values.Items o xs) productions.Item fs b.first b.rest (record { tree = s; fits = f.0 }, tt) text b.same (rw (b.no_end, b.no_specifier, b.no_case, b.no_default) refl) (is text f.0 (λ _. items_no_else its r), tt))
    (ii K o (with_item xs (items.Statement s)) fs r f.1))

declared : (s : SpecifierNode) (ds : List Init) (l : Lasts ds) (K : Kind) (o : Holder) (xs : Items) (fs : List Frame) (r : List Word) → FitsSpecifier s → FitInits ds → Reaches (st K (values.Items o xs) fs) (spell_specifier s (inits_then l.val.front (spell_init l.val.last (mark marks.Semicolon r)))) (st K (values.Items o (with_item xs (items.Declaration s (l.val.front ++ l.val.last ∷ [])))) fs) r
declared s ds l K o xs fs r f h =
    let text = inits_then l.val.front (spell_init l.val.last (mark marks.Semicolon r)) in
    begun_specifier K (values.Items o xs) productions.Declaration fs (specifier_val s f, (l.val, tt)) r s text refl (λ k b. rw b refl) (specifier_part s f text (inits_then_first ds l (mark marks.Semicolon r) h), (inits_part l.val r, tt))

next_declaration : (s : SpecifierNode) (ds : List Init) (its : Items) → ReadsItems its → ReadsItems (declaration_and s ds its)
next_declaration s ds its ii K o xs fs r f =
    let text = spell_items its (mark marks.CloseBrace r) in
    let l = lasts ds f.1 in
    let P : Items → Type 0 = λ ys. Reaches (st K (values.Items o xs) fs) (spell_specifier s (spell_inits ds (mark marks.Semicolon text))) (st K (items_end o ys) fs) r in
    let Q : List Init → Type 0 = λ ys. Reaches (st K (values.Items o xs) fs) (spell_specifier s (spell_inits ds (mark marks.Semicolon text))) (st K (values.Items o (with_item xs (items.Declaration s ys))) fs) text in
    let R : List Word → Type 0 = λ x. Reaches (st K (values.Items o xs) fs) (spell_specifier s x) (st K (values.Items o (with_item xs (items.Declaration s (l.val.front ++ l.val.last ∷ [])))) fs) text in
    subst P (items_more xs (items.Declaration s ds) its)
    (chain (subst Q l.is (subst R (inits_text ds l (mark marks.Semicolon text)) (declared s ds l K o xs fs text f.0 f.1)))
    (ii K o (with_item xs (items.Declaration s ds)) fs r f.2))

next_case : (e : Expr) (its : Items) → ReadsItems its → ReadsItems (case_and e its)
next_case e its ii K o xs fs r f =
    let text = spell_items its (mark marks.CloseBrace r) in
    let P : Items → Type 0 = λ ys. Reaches (st K (values.Items o xs) fs) (keyword keywords.Case (spell e (mark marks.Colon text))) (st K (items_end o ys) fs) r in
    subst P (items_more xs (items.Case e) its)
    (chain (production_said K (values.Items o xs) productions.Case fs (words.Keyword keywords.Case) (expr_val a_choice e f.1 f.2, tt) text (rw f.0 refl) (expr_part a_choice e f.1 f.2 (mark marks.Colon text) (omega arith) (omega arith), tt))
    (ii K o (with_item xs (items.Case e)) fs r f.3))

next_default : (its : Items) → ReadsItems its → ReadsItems (default_and its)
next_default its ii K o xs fs r f =
    let text = spell_items its (mark marks.CloseBrace r) in
    let P : Items → Type 0 = λ ys. Reaches (st K (values.Items o xs) fs) (keyword keywords.Default (mark marks.Colon text)) (st K (items_end o ys) fs) r in
    subst P (items_more xs items.Default its)
    (chain (production_said K (values.Items o xs) productions.Default fs (words.Keyword keywords.Default) tt text (rw f.0 refl) tt)
    (ii K o (with_item xs items.Default) fs r f.1))

switch_reads : (e : Expr) (its : Items) → ReadsItems its → ReadsStatement (switch e its)
switch_reads e its ii r f n g fs =
    let text = spell_items its (mark marks.CloseBrace r) in
    let z : 0 ≤ level e = omega arith in
    chain (production_said kinds.Statement values.Start productions.Switch (g ∷ fs) (words.Keyword keywords.Switch) (expr_val 0 e z f.0, tt) text refl (expr_part 0 e z f.0 (mark marks.CloseParen (mark marks.OpenBrace text)) (omega arith) (omega arith), tt))
    (chain (ii kinds.Statement (holders.Switch e) no_items (g ∷ fs) r f.1) (statement_rests (switch e its) g fs r))

block_reads : (its : Items) → ReadsItems its → ReadsStatement (block its)
block_reads its ii r f n g fs =
    chain (joins kinds.Statement values.Start (values.Items holders.Block no_items) (g ∷ fs) (words.Mark marks.OpenBrace) (spell_items its (mark marks.CloseBrace r)) refl)
    (chain (ii kinds.Statement holders.Block no_items (g ∷ fs) r f) (statement_rests (block its) g fs r))

empty_reads : ReadsStatement empty
empty_reads r f n g fs = chain (joins kinds.Statement values.Start (values.Statement empty) (g ∷ fs) (words.Mark marks.Semicolon) r refl) (statement_rests empty g fs r)

mutual
  statement_reads : (s : Statement) → ReadsStatement s
  statement_reads (block its) = block_reads its (items_read its)
  statement_reads (plain e) = plain_reads e
  statement_reads empty = empty_reads
  statement_reads (if_then c a) = if_then_reads c a (statement_reads a)
  statement_reads (if_else c a b) = if_else_reads c a b (statement_reads a) (statement_reads b)
  statement_reads (while_loop c s) = while_reads c s (statement_reads s)
  statement_reads (do_while s c) = do_reads s c (statement_reads s)
  statement_reads (switch e its) = switch_reads e its (items_read its)
  statement_reads (for_loop a c b s) = for_reads a c b s (statement_reads s)
  statement_reads return_none = return_none_reads
  statement_reads (return_value e) = return_value_reads e
  statement_reads (jump j) = jump_reads j

  items_read : (its : Items) → ReadsItems its
  items_read no_items = no_more_items
  items_read (statement_and s its) = next_statement s its (statement_reads s) (items_read its)
  items_read (declaration_and s ds its) = next_declaration s ds its (items_read its)
  items_read (case_and e its) = next_case e its (items_read its)
  items_read (default_and its) = next_default its (items_read its)

-- ---- enumerations

enum_begins : (K : Kind) (t : Option (List ℕ)) (fs : List Frame) (r : List Word) → OfSpecifier K → may_define K ≡ true → Reaches (st K values.Start fs) (keyword keywords.Enum (spell_tag t (mark marks.OpenBrace r))) (st K (values.Enumerators t [] None) fs) r
enum_begins K None fs r o d =
    chain (enum_word_reads K fs (mark marks.OpenBrace r) o)
    (joins K values.EnumTag (values.Enumerators None [] None) fs (words.Mark marks.OpenBrace) r (rw d refl))
enum_begins K (Some t) fs r o d =
    chain (enum_tag_reads K t fs (mark marks.OpenBrace r) o)
    (joins K (values.Specifier (specifiers.Enum t)) (values.Enumerators (Some t) [] None) fs (words.Mark marks.OpenBrace) r (rw d refl))

abbrev entry : List ℕ → Option Expr → Enumerator
entry n o = record { name = n; value = o }

enumerator_reads : (K : Kind) (t : Option (List ℕ)) (xs : List Enumerator) (n : List ℕ) (o : Option Expr) (fs : List Frame) (r : List Word) → FitsEnumerator (entry n o) → first_strength r ≤ a_choice → Reaches (st K (values.Enumerators t xs None) fs) (spell_enumerator (entry n o) r) (st K (values.Enumerators t xs (Some (entry n o))) fs) r
enumerator_reads K t xs n None fs r f h = joins K (values.Enumerators t xs None) (values.Enumerators t xs (Some (entry n None))) fs (words.Name n) r refl
enumerator_reads K t xs n (Some e) fs r f h =
    chain (joins K (values.Enumerators t xs None) (values.Enumerators t xs (Some (entry n None))) fs (words.Name n) (mark marks.Equals (spell e r)) refl)
    (production_said K (values.Enumerators t xs (Some (entry n None))) productions.EnumValue fs (words.Mark marks.Equals) (expr_val a_choice e f.0 f.1, tt) r refl (expr_part a_choice e f.0 f.1 r (omega arith) h, tt))

enumerators_strength : (xs : List Enumerator) (comma : Bool) (r : List Word) → first_strength (behind_commas spell_enumerator xs (spell_last_comma comma (mark marks.CloseBrace r))) ≤ a_choice
enumerators_strength [] true r = omega arith
enumerators_strength [] false r = omega arith
enumerators_strength (x ∷ xs) comma r = omega arith

some_last : (xs : List Enumerator) (y : Enumerator) → are_no (xs ++ y ∷ []) ≡ false
some_last [] y = refl
some_last (x ∷ xs) y = refl

enumerators_end : (K : Kind) (t : Option (List ℕ)) (xs : List Enumerator) (y : Enumerator) (comma : Bool) (fs : List Frame) (r : List Word) → Reaches (st K (values.Enumerators t xs (Some y)) fs) (spell_last_comma comma (mark marks.CloseBrace r)) (st K (values.Enum t (xs ++ y ∷ []) comma) fs) r
enumerators_end K t xs y false fs r = joins K (values.Enumerators t xs (Some y)) (values.Enum t (xs ++ y ∷ []) false) fs (words.Mark marks.CloseBrace) r refl
enumerators_end K t xs y true fs r =
    chain (joins K (values.Enumerators t xs (Some y)) (values.Enumerators t (xs ++ y ∷ []) None) fs (words.Mark marks.Comma) (mark marks.CloseBrace r) refl)
    (joins K (values.Enumerators t (xs ++ y ∷ []) None) (values.Enum t (xs ++ y ∷ []) true) fs (words.Mark marks.CloseBrace) r (rw (some_last xs y) refl))

more_enumerators : (K : Kind) (t : Option (List ℕ)) (zs : List Enumerator) (xs : List Enumerator) (y : Enumerator) (comma : Bool) (fs : List Frame) (r : List Word) → each FitsEnumerator zs →
    Reaches (st K (values.Enumerators t xs (Some y)) fs) (behind_commas spell_enumerator zs (spell_last_comma comma (mark marks.CloseBrace r))) (st K (values.Enum t ((xs ++ y ∷ []) ++ zs) comma) fs) r
more_enumerators K t [] xs y comma fs r f =
    let P : List Enumerator → Type 0 = λ ys. Reaches (st K (values.Enumerators t xs (Some y)) fs) (spell_last_comma comma (mark marks.CloseBrace r)) (st K (values.Enum t ys comma) fs) r in
    subst P (sym (append_nil (xs ++ y ∷ []))) (enumerators_end K t xs y comma fs r)
more_enumerators K t (z ∷ zs) xs y comma fs r f =
    let text = behind_commas spell_enumerator zs (spell_last_comma comma (mark marks.CloseBrace r)) in
    let P : List Enumerator → Type 0 = λ ys. Reaches (st K (values.Enumerators t xs (Some y)) fs) (mark marks.Comma (spell_enumerator z text)) (st K (values.Enum t ys comma) fs) r in
    subst P (append_assoc (xs ++ y ∷ []) (z ∷ []) zs)
    (chain (joins K (values.Enumerators t xs (Some y)) (values.Enumerators t (xs ++ y ∷ []) None) fs (words.Mark marks.Comma) (spell_enumerator z text) refl)
    (chain (enumerator_reads K t (xs ++ y ∷ []) z.name z.value fs text f.0 (enumerators_strength zs comma r))
    (more_enumerators K t zs (xs ++ y ∷ []) z comma fs r f.1)))

enum_reads : (K : Kind) (t : Option (List ℕ)) (xs : List Enumerator) (comma : Bool) (fs : List Frame) (r : List Word) → OfSpecifier K → may_define K ≡ true → FitEnumerators xs → Reaches (st K values.Start fs) (spell_enum t xs comma r) (st K (values.Enum t xs comma) fs) r
enum_reads K t [] comma fs r o d f = absurd f.0
enum_reads K t (x ∷ xs) comma fs r o d f =
    let text = behind_commas spell_enumerator xs (spell_last_comma comma (mark marks.CloseBrace r)) in
    chain (enum_begins K t fs (spell_enumerator x text) o d)
    (chain (enumerator_reads K t [] x.name x.value fs text f.1.0 (enumerators_strength xs comma r))
    (more_enumerators K t xs [] x comma fs r f.1.1))

enum_stops : (K : Kind) (t : Option (List ℕ)) (xs : List Enumerator) (comma : Bool) (r : List Word) → IsStuck K (values.Enum t xs comma) r
enum_stops K t xs comma [] = tt
enum_stops K t xs comma (w ∷ r) = refl

-- ---- structures

more_declarators : (K : Kind) (t : List ℕ) (ps : List Piece) (n : ℕ) (m : MemberHead) (es : List Declarator) (d : Declarator) (ds : List Declarator) (fs : List Frame) (r : List Word) → each (FitsDeclarator cores.Name) es →
    Reaches (st K (values.Member t ps n m (d ∷ ds)) fs) (behind_commas spell_declarator es (mark marks.Semicolon r)) (st K (values.Members t (ps ++ pieces.Member m ((d ∷ ds) ++ es) ∷ []) n true) fs) r
more_declarators K t ps n m [] d ds fs r f =
    let P : List Declarator → Type 0 = λ xs. Reaches (st K (values.Member t ps n m (d ∷ ds)) fs) (mark marks.Semicolon r) (st K (values.Members t (ps ++ pieces.Member m xs ∷ []) n true) fs) r in
    subst P (sym (append_nil (d ∷ ds))) (joins K (values.Member t ps n m (d ∷ ds)) (values.Members t (ps ++ pieces.Member m (d ∷ ds) ∷ []) n true) fs (words.Mark marks.Semicolon) r refl)
more_declarators K t ps n m (e ∷ es) d ds fs r f =
    let text = behind_commas spell_declarator es (mark marks.Semicolon r) in
    let P : List Declarator → Type 0 = λ xs. Reaches (st K (values.Member t ps n m (d ∷ ds)) fs) (mark marks.Comma (spell_declarator e text)) (st K (values.Members t (ps ++ pieces.Member m xs ∷ []) n true) fs) r in
    subst P (append_assoc (d ∷ ds) (e ∷ []) es)
    (chain (production_said K (values.Member t ps n m (d ∷ ds)) productions.MemberDeclarator fs (words.Mark marks.Comma) (declarator_val cores.Name false e tt f.0, tt) text refl (named_part e f.0 text (list_ends es r), tt))
    (more_declarators K t ps n m es d (ds ++ e ∷ []) fs r f.1))
  where
    list_ends : (es : List Declarator) (r : List Word) → EndsDeclarator (behind_commas spell_declarator es (mark marks.Semicolon r))
    list_ends [] r = refl
    list_ends (e ∷ es) r = refl

declarators_read : (K : Kind) (t : List ℕ) (ps : List Piece) (n : ℕ) (m : MemberHead) (ds : List Declarator) (fs : List Frame) (r : List Word) → FitDeclarators ds →
    Reaches (st K (values.Member t ps n m []) fs) (spell_declarators ds (mark marks.Semicolon r)) (st K (values.Members t (ps ++ pieces.Member m ds ∷ []) n true) fs) r
declarators_read K t ps n m [] fs r f = absurd f.0
declarators_read K t ps n m (d ∷ ds) fs r f =
    let text = behind_commas spell_declarator ds (mark marks.Semicolon r) in
    let b = declarator_begins d text (named_something d f.1.0) in
    chain (production_begun K (values.Member t ps n m []) productions.MemberDeclarator fs b.first b.rest (declarator_val cores.Name false d tt f.1.0, tt) text b.same refl (named_part d f.1.0 text (list_ends ds r), tt))
    (more_declarators K t ps n m ds d [] fs r f.1.1)
  where
    list_ends : (es : List Declarator) (r : List Word) → EndsDeclarator (behind_commas spell_declarator es (mark marks.Semicolon r))
    list_ends [] r = refl
    list_ends (e ∷ es) r = refl

opening_part : (u : List ℕ) (r : List Word) → ReadsPart kinds.MemberSpecifier (an_opening u) r
opening_part u r g fs =
    let K = kinds.MemberSpecifier in
    chain (tag_reads K u (g ∷ fs) (mark marks.OpenBrace r) tt)
    (chain (joins K (values.Specifier (specifiers.Struct u)) (values.Opens u) (g ∷ fs) (words.Mark marks.OpenBrace) r refl)
    (rests_reach K (values.Opens u) (values.Opens u) g fs r refl (opens_stop u r)))
  where
    opens_stop : (u : List ℕ) (r : List Word) → IsStuck kinds.MemberSpecifier (values.Opens u) r
    opens_stop u [] = tt
    opens_stop u (w ∷ r) = refl

enum_part : (x : EnumVal) (r : List Word) → ReadsPart kinds.MemberSpecifier (an_enumeration x) r
enum_part x r g fs =
    let K = kinds.MemberSpecifier in
    chain (enum_reads K x.tag x.enumerators x.comma (g ∷ fs) r tt refl x.fits)
    (rests_reach K (values.Enum x.tag x.enumerators x.comma) (values.Enum x.tag x.enumerators x.comma) g fs r refl (enum_stops K x.tag x.enumerators x.comma r))

member_specifier_part : (s : SpecifierNode) (f : FitsSpecifier s) (r : List Word) → EndsSpecifier r → ReadsPart kinds.MemberSpecifier (a_specifier (specifier_val s f)) r
member_specifier_part s f r e g fs =
    let K = kinds.MemberSpecifier in
    chain (specifier_reads K s (g ∷ fs) r tt f) (rests_reach K (values.Specifier s) (values.Specifier s) g fs r refl (specifier_stops K s r e))

declarators_first : (ds : List Declarator) (r : List Word) → FitDeclarators ds → EndsSpecifier (spell_declarators ds (mark marks.Semicolon r))
declarators_first [] r f = absurd f.0
declarators_first (d ∷ ds) r f = name_first d _ f.1.0

members_read : (qs : List Piece) (t : List ℕ) (ps : List Piece) (n : ℕ) (some : Bool) (fs : List Frame) (r : List Word) → FitMembers n some qs →
    Reaches (st kinds.OuterSpecifier (values.Members t ps n some) fs) (spell_members qs (mark marks.CloseBrace r)) (st kinds.OuterSpecifier (values.Outer (outers.Struct t (ps ++ qs))) fs) r
members_read [] t ps n some fs r f =
    let P : List Piece → Type 0 = λ xs. Reaches (st kinds.OuterSpecifier (values.Members t ps n some) fs) (mark marks.CloseBrace r) (st kinds.OuterSpecifier (values.Outer (outers.Struct t xs)) fs) r in
    subst P (sym (append_nil ps)) (joins kinds.OuterSpecifier (values.Members t ps n some) (values.Outer (outers.Struct t ps)) fs (words.Mark marks.CloseBrace) r (rw (f.1, less_test 1 n (omega (arith, f.0))) refl))
members_read (pieces.Opens u ∷ qs) t ps n some fs r f =
    let K = kinds.OuterSpecifier in
    let text = spell_members qs (mark marks.CloseBrace r) in
    let P : List Piece → Type 0 = λ xs. Reaches (st K (values.Members t ps n some) fs) (keyword keywords.Struct (words.Name u ∷ mark marks.OpenBrace text)) (st K (values.Outer (outers.Struct t xs)) fs) r in
    subst P (append_assoc ps (pieces.Opens u ∷ []) qs)
    (chain (production_begun K (values.Members t ps n some) productions.MemberSpecifier fs (words.Keyword keywords.Struct) (words.Name u ∷ mark marks.OpenBrace text) (an_opening u, tt) text refl refl (opening_part u text, tt))
    (members_read qs t (ps ++ pieces.Opens u ∷ []) (n + 1) false fs r f))
members_read (pieces.Member (heads.Specifier s) ds ∷ qs) t ps n some fs r f =
    let K = kinds.OuterSpecifier in
    let text = spell_members qs (mark marks.CloseBrace r) in
    let after_head = spell_declarators ds (mark marks.Semicolon text) in
    let P : List Piece → Type 0 = λ xs. Reaches (st K (values.Members t ps n some) fs) (spell_specifier s after_head) (st K (values.Outer (outers.Struct t xs)) fs) r in
    subst P (append_assoc ps (pieces.Member (heads.Specifier s) ds ∷ []) qs)
    (chain (begun_specifier K (values.Members t ps n some) productions.MemberSpecifier fs (a_specifier (specifier_val s f.0), tt) after_head s after_head refl (λ k b. rw b refl) (member_specifier_part s f.0 after_head (declarators_first ds text f.1), tt))
    (chain (declarators_read K t ps n (heads.Specifier s) ds fs text f.1)
    (members_read qs t (ps ++ pieces.Member (heads.Specifier s) ds ∷ []) n true fs r f.2)))
members_read (pieces.Member (heads.Enum u xs comma) ds ∷ qs) t ps n some fs r f =
    let K = kinds.OuterSpecifier in
    let text = spell_members qs (mark marks.CloseBrace r) in
    let after_head = spell_declarators ds (mark marks.Semicolon text) in
    let x : EnumVal = record { tag = u; enumerators = xs; comma = comma; fits = f.0 } in
    let P : List Piece → Type 0 = λ ys. Reaches (st K (values.Members t ps n some) fs) (spell_enum u xs comma after_head) (st K (values.Outer (outers.Struct t ys)) fs) r in
    subst P (append_assoc ps (pieces.Member (heads.Enum u xs comma) ds ∷ []) qs)
    (chain (production_begun K (values.Members t ps n some) productions.MemberSpecifier fs (words.Keyword keywords.Enum) _ (an_enumeration x, tt) after_head refl refl (enum_part x after_head, tt))
    (chain (declarators_read K t ps n (heads.Enum u xs comma) ds fs text f.1)
    (members_read qs t (ps ++ pieces.Member (heads.Enum u xs comma) ds ∷ []) n true fs r f.2)))
members_read (pieces.Member heads.Close ds ∷ qs) t ps n some fs r f =
    let K = kinds.OuterSpecifier in
    let text = spell_members qs (mark marks.CloseBrace r) in
    let after_head = spell_declarators ds (mark marks.Semicolon text) in
    let P : List Piece → Type 0 = λ xs. Reaches (st K (values.Members t ps n some) fs) (mark marks.CloseBrace after_head) (st K (values.Outer (outers.Struct t xs)) fs) r in
    subst P (append_assoc ps (pieces.Member heads.Close ds ∷ []) qs)
    (chain (joins K (values.Members t ps n some) (values.Member t ps (n - 1) heads.Close []) fs (words.Mark marks.CloseBrace) after_head (rw (f.1, le_test 1 n f.0) refl))
    (chain (declarators_read K t ps (n - 1) heads.Close ds fs text f.2)
    (members_read qs t (ps ++ pieces.Member heads.Close ds ∷ []) (n - 1) true fs r f.3)))

-- ---- external declarations

outer_rests : (o : OuterSpecifier) (f : Frame) (fs : List Frame) (r : List Word) → Reaches (st kinds.OuterSpecifier (values.Outer o) (f ∷ fs)) r (opened (with_part f (values.Outer o)) f.rest fs) r
outer_rests o f fs [] = rests_reach kinds.OuterSpecifier (values.Outer o) (values.Outer o) f fs [] refl tt
outer_rests o f fs (w ∷ r) = rests_reach kinds.OuterSpecifier (values.Outer o) (values.Outer o) f fs (w ∷ r) refl refl

outer_reads : (o : OuterSpecifier) (r : List Word) → FitsOuter o → EndsSpecifier r → ReadsAs kinds.OuterSpecifier (values.Outer o) (spell_outer o r) r
outer_reads (outers.Plain s) r f e g fs =
    let K = kinds.OuterSpecifier in
    chain (specifier_reads K s (g ∷ fs) r tt f) (rests_reach K (values.Specifier s) (values.Outer (outers.Plain s)) g fs r refl (specifier_stops K s r e))
outer_reads (outers.Struct t ps) r f e g fs =
    let K = kinds.OuterSpecifier in
    let text = mark marks.OpenBrace (spell_members ps (mark marks.CloseBrace r)) in
    chain (tag_reads K t (g ∷ fs) text tt)
    (chain (joins K (values.Specifier (specifiers.Struct t)) (values.Members t [] 0 false) (g ∷ fs) (words.Mark marks.OpenBrace) (spell_members ps (mark marks.CloseBrace r)) refl)
    (chain (members_read ps t [] 0 false (g ∷ fs) r f) (outer_rests (outers.Struct t ps) g fs r)))
outer_reads (outers.Enum t xs comma) r f e g fs =
    let K = kinds.OuterSpecifier in
    chain (enum_reads K t xs comma (g ∷ fs) r tt refl f)
    (rests_reach K (values.Enum t xs comma) (values.Outer (outers.Enum t xs comma)) g fs r refl (enum_stops K t xs comma r))

form_rests : (x : ExternalForm) (f : Frame) (fs : List Frame) (r : List Word) → Reaches (st kinds.Form (values.Form x) (f ∷ fs)) r (opened (with_part f (values.Form x)) f.rest fs) r
form_rests x f fs [] = rests_reach kinds.Form (values.Form x) (values.Form x) f fs [] refl tt
form_rests x f fs (w ∷ r) = rests_reach kinds.Form (values.Form x) (values.Form x) f fs (w ∷ r) refl refl

form_declaration : (xs : List Init) (l : Lasts xs) (fs : List Frame) (r : List Word) → Reaches (st kinds.Form values.Start fs) (inits_then l.val.front (spell_init l.val.last (mark marks.Semicolon r))) (st kinds.Form (values.Form (forms.Declaration (l.val.front ++ l.val.last ∷ []))) fs) r
form_declaration xs l fs r =
    let text = mark marks.Semicolon r in
    chain (inits_read kinds.Form l.val.front l.val.last fs text tt l.val.front_fits l.val.last_fits refl (omega arith))
    (joins kinds.Form (values.Inits l.val.front l.val.last) (values.Form (forms.Declaration (l.val.front ++ l.val.last ∷ []))) fs (words.Mark marks.Semicolon) r refl)

form_reads : (x : ExternalForm) (r : List Word) → FitsForm x → ReadsAs kinds.Form (values.Form x) (spell_form x r) r
form_reads forms.Alone r f g fs = chain (joins kinds.Form values.Start (values.Form forms.Alone) (g ∷ fs) (words.Mark marks.Semicolon) r refl) (form_rests forms.Alone g fs r)
form_reads (forms.Declaration xs) r f g fs =
    let l = lasts xs f in
    let Q : List Init → Type 0 = λ ys. Reaches (st kinds.Form values.Start (g ∷ fs)) (spell_inits xs (mark marks.Semicolon r)) (st kinds.Form (values.Form (forms.Declaration ys)) (g ∷ fs)) r in
    let R : List Word → Type 0 = λ x. Reaches (st kinds.Form values.Start (g ∷ fs)) x (st kinds.Form (values.Form (forms.Declaration (l.val.front ++ l.val.last ∷ []))) (g ∷ fs)) r in
    chain (subst Q l.is (subst R (inits_text xs l (mark marks.Semicolon r)) (form_declaration xs l (g ∷ fs) r))) (form_rests (forms.Declaration xs) g fs r)
form_reads (forms.Function d its) r f g fs =
    let text = mark marks.OpenBrace (spell_items its (mark marks.CloseBrace r)) in
    chain (first_bare kinds.Form d (g ∷ fs) text tt f.0 refl)
    (chain (joins kinds.Form (values.Inits [] (bare d None)) (values.Items (holders.Function d) no_items) (g ∷ fs) (words.Mark marks.OpenBrace) (spell_items its (mark marks.CloseBrace r)) refl)
    (chain (items_read its kinds.Form (holders.Function d) no_items (g ∷ fs) r f.1) (form_rests (forms.Function d its) g fs r)))

form_first : (x : ExternalForm) (r : List Word) → FitsForm x → EndsSpecifier (spell_form x r)
form_first forms.Alone r f = refl
form_first (forms.Declaration xs) r f = inits_first xs (mark marks.Semicolon r) f
form_first (forms.Function d its) r f = name_first d _ f.0

record OuterBegins (text : List Word) : Type 0 where
  first : Word
  rest : List Word
  same : text ≡ first ∷ rest

outer_begins : (o : OuterSpecifier) (r : List Word) → OuterBegins (spell_outer o r)
outer_begins (outers.Plain s) r = let b = specifier_begins s r in record { first = words.Keyword b.first; rest = b.rest; same = b.same }
outer_begins (outers.Enum t xs comma) r = record { first = words.Keyword keywords.Enum; rest = _; same = refl }
outer_begins (outers.Struct t ps) r = record { first = words.Keyword keywords.Struct; rest = _; same = refl }

-- what is spelled so is read as an external declaration, whatever follows
pub external_reads : (o : OuterSpecifier) (x : ExternalForm) (r : List Word) → FitsOuter o → FitsForm x → Reaches first_state (spell_outer o (spell_form x r)) (st kinds.External (values.External o x) []) r
external_reads o x r f g =
    let b = outer_begins o (spell_form x r) in
    production_begun kinds.External values.Start productions.External [] b.first b.rest (record { tree = o; fits = f }, (record { tree = x; fits = g }, tt)) r b.same refl (outer_reads o (spell_form x r) f (form_first x r g), (form_reads x r g, tt))
