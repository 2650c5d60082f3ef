-- Units: external declarations one behind the other, and runs over them.
use Rattle.std.proofs.Common.{◌≡◌, ℕ, ◌≤◌, max, List, [], ◌∷◌, ◌++◌, map, length, refl, sym, ◌∙◌, ap, subst, append_assoc, arith, length-append}
use Rattle.c_token.specs.declared.word.Token.{Token}
use Rattle.c_tree.specs.declared.external.External.{External}
use Rattle.c_tree.specs.Grammar.{words_of, IsExternal, IsUnit, empty_unit, external}
use Rattle.c_token.specs.declared.word.Word.{Word}
use Rattle.c_tree.specs.declared.specifier.IntegerWords.TheVariants.{One, Two, Three, Four}
use Rattle.c_tree.specs.declared.specifier.SpecifierNode.TheVariants as specifiers
use Rattle.c_tree.specs.ExternalHeights.{outer_height, form_height, external_height, unit_height}
use Rattle.c_tree.specs.declared.external.OuterSpecifier.{OuterSpecifier}
use Rattle.c_tree.specs.declared.external.OuterSpecifier.TheVariants as outers
use Rattle.c_tree.specs.declared.external.ExternalForm.{ExternalForm}
use Rattle.c_tree.specs.Grammar.{spell_outer, spell_form, FitsOuter, FitsForm}
use Rattle.c_productions.specs.declared.kind.Kind.TheVariants as kinds
use Rattle.c_productions.specs.declared.value.Value.TheVariants as values
use Rattle.c_productions.specs.refinement.Table.{made, State, stops, step, end_step}
use Rattle.c_productions.specs.refinement.Meaning.{Text, Leads, bottom, Stands, lowest, first_state, Reaches, here, taking, going, ending}
use Rattle.c_parse_steps.proofs.Lists.{append_nil}
use Rattle.c_parse_steps.proofs.States.{Moves, moves, EndSteps, end_steps, completed, first_stands}
use Rattle.c_parse_steps.proofs.Reach.{followed, IsEnd, meets, end_stays, rises_on}
use Rattle.c_parse_steps.proofs.Whole.{external_reads}

abbrev pub whole : OuterSpecifier → ExternalForm → State
whole o f = record { goal = made kinds.External (values.External o f); waiting = [] }

pub ended : (o : OuterSpecifier) (f : ExternalForm) (ws : List Word) → IsEnd (whole o f) ws
ended o f [] = refl
ended o f (w ∷ ws) = refl

-- ---- what a run reads

record Stood (front ws vs : List Word) (t : State) : Type 0 where
  used : List Word
  same : ws ≡ used ++ vs
  stands : Stands t.goal t.waiting (front ++ used)

stood : (s t : State) (ws vs front : List Word) → Reaches s ws t vs → Stands s.goal s.waiting front → Stood front ws vs t
stood _ t _ vs front (here _ _) h =
    let P : List Word → Type 0 = λ x. Stands t.goal t.waiting x in
    record { used = []; same = refl; stands = subst P (sym (append_nil front)) h }
stood s t _ vs front (taking _ u _ w ws _ i x) h =
    let m = subst (Moves s.goal s.waiting front w) i (moves s.goal s.waiting front w h) in
    let r = stood u t ws vs (front ++ w ∷ []) x m.stands in
    let P : List Word → Type 0 = λ y. Stands t.goal t.waiting y in
    record { used = w ∷ r.used; same = ap (λ y. w ∷ y) r.same; stands = subst P (append_assoc front (w ∷ []) r.used) r.stands }
stood s t _ vs front (going _ u _ w ws _ i x) h =
    let m = subst (Moves s.goal s.waiting front w) i (moves s.goal s.waiting front w h) in
    stood u t (w ∷ ws) vs front x m.stands
stood s t _ vs front (ending _ u _ _ i x) h =
    let m = subst (EndSteps s.goal s.waiting front) i (end_steps s.goal s.waiting front h) in
    stood u t [] vs front x m.stands

nothing_before : (used ws : List Word) → ws ≡ used ++ ws → used ≡ []
nothing_before [] ws e = refl
nothing_before (u ∷ used) ws e = absurd (omega (arith, ap (λ (x : List Word). length x) e, length-append (u ∷ used) ws))

-- a state in which an external declaration is whole
record IsWhole (o : OuterSpecifier) (f : ExternalForm) (front : List Word) : Type 0 where
  outer : FitsOuter o
  form : FitsForm f
  same : (q : List Word) → spell_outer o (spell_form f q) ≡ front ++ q

bottom_same : (H : Text) → Leads kinds.External [] H → (q : List Word) → H q ≡ q
bottom_same _ (bottom H e) q = e q

whole_stands : (o : OuterSpecifier) (f : ExternalForm) (front : List Word) → Stands (whole o f).goal [] front → IsWhole o f front
whole_stands o f front s =
    record {
      outer = s.holds.0.1;
      form = s.holds.0.2;
      same = λ q. sym (s.holds.1 q) ∙ (sym (bottom_same s.outer s.leads (s.inner q)) ∙ s.same q);
    }

-- what an external declaration is spelled as, and then these words
exact_text : (text : List Word) (o : OuterSpecifier) (f : ExternalForm) → IsExternal text o f → (q : List Word) → spell_outer o (spell_form f q) ≡ text ++ q
exact_text text o f i q =
    let all = spell_outer o (spell_form f []) in
    let r = stood first_state (whole o f) all [] [] (external_reads o f [] i.outer i.form) first_stands in
    let w = whole_stands o f r.used r.stands in
    let e : r.used ≡ text = sym (append_nil r.used) ∙ (sym r.same ∙ sym i.same) in
    w.same q ∙ ap (λ x. x ++ q) e

pub run_external : (text : List Word) (o : OuterSpecifier) (f : ExternalForm) (r : List Word) → IsExternal text o f → Reaches first_state (text ++ r) (whole o f) r
run_external text o f r i =
    let P : List Word → Type 0 = λ x. Reaches first_state x (whole o f) r in
    subst P (exact_text text o f i r) (external_reads o f r i.outer i.form)

-- ---- tokens

pub words_append : (xs ys : List Token) → words_of (xs ++ ys) ≡ words_of xs ++ words_of ys
words_append [] ys = refl
words_append (x ∷ xs) ys = ap (λ ws. x.word ∷ ws) (words_append xs ys)

words_length : (xs : List Token) → length (words_of xs) ≡ length xs
words_length [] = refl
words_length (x ∷ xs) = omega (arith, words_length xs)

record Split (xs ys r q : List Token) : Type 0 where
  front : xs ≡ ys
  back : r ≡ q

same_split : (xs ys r q : List Token) → xs ++ r ≡ ys ++ q → length r ≡ length q → Split xs ys r q
same_split [] [] r q e l = record { front = refl; back = e }
same_split [] (y ∷ ys) r q e l = absurd (omega (arith, l, ap (λ (x : List Token). length x) e, length-append (y ∷ ys) q))
same_split (x ∷ xs) [] r q e l = absurd (omega (arith, l, ap (λ (x : List Token). length x) e, length-append (x ∷ xs) r))
same_split (x ∷ xs) (y ∷ ys) r q e l =
    let a : x ≡ y = cc in
    let b : xs ++ r ≡ ys ++ q = cc in
    let s = same_split xs ys r q b l in
    let f = s.front in
    record { front = cc; back = s.back }

split_by_words : (xs ys r q : List Token) → xs ++ r ≡ ys ++ q → words_of r ≡ words_of q → Split xs ys r q
split_by_words xs ys r q e w = same_split xs ys r q e (sym (words_length r) ∙ (ap (λ (x : List Word). length x) w ∙ words_length q))

-- ---- units

abbrev pub placed : ℕ → OuterSpecifier → ExternalForm → External
placed n o f = record { at = n; specifier = o; form = f }

-- what a unit begins with
record First (tokens : List Token) (all : List External) : Type 0 where
  t : Token
  ts : List Token
  rest : List Token
  o : OuterSpecifier
  f : ExternalForm
  xs : List External
  tokens_are : tokens ≡ (t ∷ ts) ++ rest
  all_are : all ≡ placed t.at o f ∷ xs
  external_is : IsExternal (words_of (t ∷ ts)) o f
  rest_is : IsUnit rest xs

first_of : (tokens : List Token) (all : List External) (u : Token) (more : List Token) → IsUnit tokens all → tokens ≡ u ∷ more → First tokens all
first_of _ _ u more empty_unit e = cc
first_of _ _ u more (external t ts rest o f xs i r) e = record { t = t; ts = ts; rest = rest; o = o; f = f; xs = xs; tokens_are = refl; all_are = refl; external_is = i; rest_is = r }

first_run : (tokens : List Token) (all : List External) (x : First tokens all) → Reaches first_state (words_of tokens) (whole x.o x.f) (words_of x.rest)
first_run tokens all x =
    let P : List Word → Type 0 = λ y. Reaches first_state y (whole x.o x.f) (words_of x.rest) in
    subst P (sym (ap (λ y. words_of y) x.tokens_are ∙ words_append (x.t ∷ x.ts) x.rest)) (run_external (words_of (x.t ∷ x.ts)) x.o x.f (words_of x.rest) x.external_is)

-- what lies behind a unit that all begins with
record Behind (unit : List External) (more : List Token) (all : List External) : Type 0 where
  others : List External
  all_are : all ≡ unit ++ others
  more_is : IsUnit more others

behind : (before : List Token) (unit : List External) (more : List Token) (all : List External) → IsUnit before unit → IsUnit (before ++ more) all → Behind unit more all
behind _ _ more all empty_unit u = record { others = all; all_are = refl; more_is = u }
behind _ _ more all (external t ts rest o f xs i r) u =
    let tokens = ((t ∷ ts) ++ rest) ++ more in
    let x = first_of tokens all t ((ts ++ rest) ++ more) u refl in
    let split : tokens ≡ (t ∷ ts) ++ (rest ++ more) = append_assoc (t ∷ ts) rest more in
    let P : List Word → Type 0 = λ y. Reaches first_state y (whole o f) (words_of (rest ++ more)) in
    let one = subst P (sym (ap (λ y. words_of y) split ∙ words_append (t ∷ ts) (rest ++ more))) (run_external (words_of (t ∷ ts)) o f (words_of (rest ++ more)) i) in
    let two = first_run tokens all x in
    let m = meets first_state (whole o f) (whole x.o x.f) (words_of tokens) (words_of (rest ++ more)) (words_of x.rest) one two (ended x.o x.f (words_of x.rest)) in
    let s = end_stays (whole o f) (whole x.o x.f) (words_of (rest ++ more)) (words_of x.rest) m (ended o f (words_of (rest ++ more))) in
    let g = ap (λ (z : State). z.goal) s.states in
    let eo : x.o ≡ o = cc in
    let ef : x.f ≡ f = cc in
    let p = split_by_words (t ∷ ts) (x.t ∷ x.ts) (rest ++ more) x.rest (sym split ∙ x.tokens_are) s.words in
    let front = p.front in
    let et : x.t ≡ t = cc in
    let Q : List Token → Type 0 = λ y. IsUnit y x.xs in
    let b = behind rest xs more x.xs r (subst Q (sym p.back) x.rest_is) in
    let at_is : x.t.at ≡ t.at = ap (λ (z : Token). z.at) et in
    let head : placed x.t.at x.o x.f ≡ placed t.at o f = rw (at_is, eo, ef) refl in
    record {
      others = b.others;
      all_are = x.all_are ∙ (ap (λ y. y ∷ x.xs) head ∙ ap (λ ys. placed t.at o f ∷ ys) b.all_are);
      more_is = b.more_is;
    }

no_unit : (all : List External) → IsUnit [] all → all ≡ []
no_unit all u = of_nothing [] all u refl
  where
    of_nothing : (tokens : List Token) (all : List External) → IsUnit tokens all → tokens ≡ [] → all ≡ []
    of_nothing _ _ empty_unit e = refl
    of_nothing _ _ (external t ts rest o f xs i r) e = cc

-- tokens are one unit at most
pub one_unit : (tokens : List Token) (a b : List External) → IsUnit tokens a → IsUnit tokens b → a ≡ b
one_unit tokens a b u v =
    let P : List Token → Type 0 = λ x. IsUnit x b in
    let r = behind tokens a [] b u (subst P (sym (append_nil tokens)) v) in
    let e = no_unit r.others r.more_is in
    sym (r.all_are ∙ (ap (λ x. a ++ x) e ∙ append_nil a))

unit_last : (before : List Token) (unit : List External) (t : Token) (ts : List Token) (o : OuterSpecifier) (f : ExternalForm) → IsUnit before unit → IsExternal (words_of (t ∷ ts)) o f → IsUnit (before ++ t ∷ ts) (unit ++ placed t.at o f ∷ [])
unit_last _ _ t ts o f empty_unit i =
    let P : List Token → Type 0 = λ x. IsUnit x (placed t.at o f ∷ []) in
    subst P (append_nil (t ∷ ts)) (external t ts [] o f [] i empty_unit)
unit_last _ _ t ts o f (external u us rest p g xs j r) i =
    let P : List Token → Type 0 = λ x. IsUnit x (placed u.at p g ∷ (xs ++ placed t.at o f ∷ [])) in
    subst P (sym (append_assoc (u ∷ us) rest (t ∷ ts))) (external u us (rest ++ t ∷ ts) p g (xs ++ placed t.at o f ∷ []) j (unit_last rest xs t ts o f r i))

height_append : (xs ys : List External) → unit_height (xs ++ ys) ≡ max (unit_height xs) (unit_height ys)
height_append [] ys = omega arith
height_append (x ∷ xs) ys = omega (arith, height_append xs ys)

-- ---- the states between tokens

abbrev StartsAt : ℕ → List Token → Type 0
StartsAt n [] = ⊥
StartsAt n (t ∷ ts) = t.at ≡ n

-- These tokens are read, those lie ahead: the units before are whole, and the next external declaration begins there.
pub record At (front ahead : List Token) (unit : List External) (n : ℕ) (s : State) : Type 0 where
  before : List Token
  since : List Token
  same : front ≡ before ++ since
  done : IsUnit before unit
  done_low : unit_height unit ≤ 200
  begins : StartsAt n (since ++ ahead)
  runs : (q : List Word) → Reaches first_state (words_of since ++ q) s q
  stands : Stands s.goal s.waiting (words_of since)

pub at_first : (t : Token) (ahead : List Token) → At [] (t ∷ ahead) [] t.at first_state
at_first t ahead = record { before = []; since = []; same = refl; done = empty_unit; done_low = omega arith; begins = refl; runs = λ q. here first_state q; stands = first_stands }

-- behind a token that goes on
pub at_next : (front ahead : List Token) (t : Token) (unit : List External) (n : ℕ) (s u : State) → At front (t ∷ ahead) unit n s → ((q : List Word) → Reaches s (t.word ∷ q) u q) → At (front ++ t ∷ []) ahead unit n u
at_next front ahead t unit n s u a go =
    let r = stood s u (t.word ∷ []) [] (words_of a.since) (go []) a.stands in
    let e : r.used ≡ t.word ∷ [] = sym (append_nil r.used) ∙ sym r.same in
    let w : words_of (a.since ++ t ∷ []) ≡ words_of a.since ++ t.word ∷ [] = words_append a.since (t ∷ []) in
    let P : List Word → Type 0 = λ x. Stands u.goal u.waiting x in
    let Q : List Token → Type 0 = λ x. StartsAt n x in
    record {
      before = a.before;
      since = a.since ++ t ∷ [];
      same = ap (λ x. x ++ t ∷ []) a.same ∙ append_assoc a.before a.since (t ∷ []);
      done = a.done;
      done_low = a.done_low;
      begins = subst Q (sym (append_assoc a.since (t ∷ []) ahead)) a.begins;
      runs = λ q.
          let R : List Word → Type 0 = λ x. Reaches first_state x u q in
          subst R (sym (ap (λ x. x ++ q) w ∙ append_assoc (words_of a.since) (t.word ∷ []) q)) (followed first_state s u (words_of a.since ++ t.word ∷ q) (t.word ∷ q) q (a.runs (t.word ∷ q)) (go q));
      stands = subst P (ap (λ x. words_of a.since ++ x) e ∙ sym w) r.stands;
    }

-- ---- an external declaration that is whole

pub record Closed (front ahead : List Token) (unit : List External) : Type 0 where
  pub is_unit : IsUnit front unit
  pub low : unit_height unit ≤ 200

spelled_some : (o : OuterSpecifier) (f : ExternalForm) → spell_outer o (spell_form f []) ≡ [] → ⊥
spelled_some (outers.Plain specifiers.Void) f e = cc
spelled_some (outers.Plain specifiers.SizeT) f e = cc
spelled_some (outers.Plain specifiers.PtrdiffT) f e = cc
spelled_some (outers.Plain (specifiers.Struct t)) f e = cc
spelled_some (outers.Plain (specifiers.Enum t)) f e = cc
spelled_some (outers.Plain (specifiers.Integer (One a))) f e = cc
spelled_some (outers.Plain (specifiers.Integer (Two a b))) f e = cc
spelled_some (outers.Plain (specifiers.Integer (Three a b c))) f e = cc
spelled_some (outers.Plain (specifiers.Integer (Four a b c d))) f e = cc
spelled_some (outers.Struct t ps) f e = cc
spelled_some (outers.Enum t xs comma) f e = cc

with_place : (before since : List Token) (unit : List External) (n : ℕ) (o : OuterSpecifier) (f : ExternalForm) (ahead : List Token) → IsUnit before unit → StartsAt n (since ++ ahead) → IsExternal (words_of since) o f → IsUnit (before ++ since) (unit ++ placed n o f ∷ [])
with_place before [] unit n o f ahead u b i = absurd (spelled_some o f (sym i.same))
with_place before (t ∷ ts) unit n o f ahead u b i =
    let P : ℕ → Type 0 = λ x. IsUnit (before ++ t ∷ ts) (unit ++ placed x o f ∷ []) in
    subst P b (unit_last before unit t ts o f u i)

-- it is no higher than what the state can be completed to
whole_low : (since : List Word) (s : State) (o : OuterSpecifier) (f : ExternalForm) → ((q : List Word) → Reaches first_state (since ++ q) s q) → Stands s.goal s.waiting since → IsExternal since o f → max (outer_height o) (form_height f) ≤ lowest s.goal s.waiting
whole_low since s o f runs stands i =
    let c = completed s.goal s.waiting since stands in
    let x = c.whole in
    let one = run_external since o f c.rest i in
    let P : List Word → Type 0 = λ y. Reaches first_state y (whole x.outer x.form) [] in
    let two = subst P (sym c.same) (external_reads x.outer x.form [] x.outer_fits x.form_fits) in
    let m = meets first_state (whole o f) (whole x.outer x.form) (since ++ c.rest) c.rest [] one two (ended x.outer x.form []) in
    let e = end_stays (whole o f) (whole x.outer x.form) c.rest [] m (ended o f c.rest) in
    let g = ap (λ (z : State). z.goal) e.states in
    let eo : o ≡ x.outer = cc in
    let ef : f ≡ x.form = cc in
    rw (eo, ef) c.high

pub closes : (front ahead : List Token) (unit : List External) (n : ℕ) (s : State) (o : OuterSpecifier) (f : ExternalForm) (ws : List Word) → At front ahead unit n s → lowest s.goal s.waiting ≤ 200 → Reaches s ws (whole o f) ws → Closed front ahead (unit ++ placed n o f ∷ [])
closes front ahead unit n s o f ws a low go =
    let r = stood s (whole o f) ws ws (words_of a.since) go a.stands in
    let e = nothing_before r.used ws r.same in
    let P : List Word → Type 0 = λ x. Stands (whole o f).goal [] x in
    let w = whole_stands o f (words_of a.since) (subst P (ap (λ x. words_of a.since ++ x) e ∙ append_nil (words_of a.since)) r.stands) in
    let i : IsExternal (words_of a.since) o f = record { outer = w.outer; form = w.form; same = sym (w.same [] ∙ append_nil (words_of a.since)) } in
    let h = whole_low (words_of a.since) s o f a.runs a.stands i in
    let Q : List Token → Type 0 = λ x. IsUnit x (unit ++ placed n o f ∷ []) in
    record {
      is_unit = subst Q (sym a.same) (with_place a.before a.since unit n o f ahead a.done a.begins i);
      low = omega (arith, height_append unit (placed n o f ∷ []), a.done_low, h, low);
    }

-- before a token that begins the next one
pub at_start : (front ahead : List Token) (t : Token) (unit : List External) → Closed front (t ∷ ahead) unit → At front (t ∷ ahead) unit t.at first_state
at_start front ahead t unit c = record { before = front; since = []; same = sym (append_nil front); done = c.is_unit; done_low = c.low; begins = refl; runs = λ q. here first_state q; stands = first_stands }

-- ---- what may follow

abbrev tokens_of : List Word → List Token
tokens_of ws = map (λ w. record { at = 0; word = w }) ws

words_back : (ws : List Word) → words_of (tokens_of ws) ≡ ws
words_back [] = refl
words_back (w ∷ ws) = ap (λ x. w ∷ x) (words_back ws)

pub record Going (front : List Token) (limit : ℕ) : Type 0 where
  pub rest : List Token
  pub unit : List External
  pub is_unit : IsUnit (front ++ rest) unit
  pub low : unit_height unit ≤ limit

some_place : (before all : List Token) (unit : List External) (o : OuterSpecifier) (f : ExternalForm) → IsUnit before unit → IsExternal (words_of all) o f → (n : ℕ) × IsUnit (before ++ all) (unit ++ placed n o f ∷ [])
some_place before [] unit o f u i = absurd (spelled_some o f (sym i.same))
some_place before (t ∷ ts) unit o f u i = (t.at, unit_last before unit t ts o f u i)

pub goes_on : (front ahead : List Token) (unit : List External) (n : ℕ) (s : State) → At front ahead unit n s → Going front (max 200 (lowest s.goal s.waiting))
goes_on front ahead unit n s a =
    let c = completed s.goal s.waiting (words_of a.since) a.stands in
    let x = c.whole in
    let more = tokens_of c.rest in
    let all = a.since ++ more in
    let w : words_of all ≡ words_of a.since ++ c.rest = words_append a.since more ∙ ap (λ y. words_of a.since ++ y) (words_back c.rest) in
    let i : IsExternal (words_of all) x.outer x.form = record { outer = x.outer_fits; form = x.form_fits; same = w ∙ c.same } in
    let p = some_place a.before all unit x.outer x.form a.done i in
    let Q : List Token → Type 0 = λ y. IsUnit y (unit ++ placed p.0 x.outer x.form ∷ []) in
    record {
      rest = more;
      unit = unit ++ placed p.0 x.outer x.form ∷ [];
      is_unit = subst Q (sym (ap (λ y. y ++ more) a.same ∙ append_assoc a.before a.since more)) p.1;
      low = omega (arith, height_append unit (placed p.0 x.outer x.form ∷ []), a.done_low, c.high);
    }

-- the external declaration that a unit has behind what is whole, where these tokens are read of it
record Next (since more : List Token) (all unit : List External) : Type 0 where
  others : List External
  all_are : all ≡ unit ++ others
  first : First (since ++ more) others

next_one : (front more : List Token) (ahead : List Token) (unit all : List External) (n : ℕ) (s : State) (a : At front ahead unit n s) → (u : Token) (us : List Token) → a.since ++ more ≡ u ∷ us → IsUnit (front ++ more) all → Next a.since more all unit
next_one front more ahead unit all n s a u us e v =
    let Q : List Token → Type 0 = λ y. IsUnit y all in
    let b = behind a.before unit (a.since ++ more) all a.done (subst Q (ap (λ y. y ++ more) a.same ∙ append_assoc a.before a.since more) v) in
    record { others = b.others; all_are = b.all_are; first = first_of (a.since ++ more) b.others u us b.more_is e }

-- where the run is then
next_run : (since more : List Token) (others : List External) (s : State) (x : First (since ++ more) others) → ((q : List Word) → Reaches first_state (words_of since ++ q) s q) → Reaches s (words_of more) (whole x.o x.f) (words_of x.rest)
next_run since more others s x runs =
    let P : List Word → Type 0 = λ y. Reaches first_state y s (words_of more) in
    let one = subst P (sym (words_append since more)) (runs (words_of more)) in
    meets first_state s (whole x.o x.f) (words_of (since ++ more)) (words_of more) (words_of x.rest) one (first_run (since ++ more) others x) (ended x.o x.f (words_of x.rest))

some_first : (since more : List Token) (t : Token) → (u : Token) × (us : List Token) × (since ++ t ∷ more ≡ u ∷ us)
some_first [] more t = (t, more, refl)
some_first (x ∷ xs) more t = (x, xs ++ t ∷ more, refl)

-- no unit goes on with the token
pub refused : (front ahead : List Token) (t : Token) (unit : List External) (n : ℕ) (s last : State) → At front ahead unit n s → ((q : List Word) → Reaches s (t.word ∷ q) last (t.word ∷ q)) → step last.goal last.waiting t.word ≡ stops → ((o : OuterSpecifier) (f : ExternalForm) → last ≡ whole o f → ⊥) → (more : List Token) (all : List External) → IsUnit (front ++ t ∷ more) all → ⊥
refused front ahead t unit n s last a go stop not_whole more all u =
    let p = some_first a.since more t in
    let x = next_one front (t ∷ more) ahead unit all n s a p.0 p.1 p.2 u in
    let r = next_run a.since (t ∷ more) x.others s x.first a.runs in
    let m = meets s last (whole x.first.o x.first.f) (t.word ∷ words_of more) (t.word ∷ words_of more) (words_of x.first.rest) (go (words_of more)) r (ended x.first.o x.first.f (words_of x.first.rest)) in
    let e = end_stays last (whole x.first.o x.first.f) (t.word ∷ words_of more) (words_of x.first.rest) m stop in
    not_whole x.first.o x.first.f e.states

-- each unit that goes on with the token is so high
pub risen : (front ahead : List Token) (t : Token) (unit : List External) (n : ℕ) (s u : State) → At front (t ∷ ahead) unit n s → ((q : List Word) → Reaches s (t.word ∷ q) u q) → (more : List Token) (all : List External) → IsUnit (front ++ t ∷ more) all → lowest u.goal u.waiting ≤ unit_height all
risen front ahead t unit n s u a go more all v =
    let b = at_next front ahead t unit n s u a go in
    let p = some_first a.since more t in
    let x = next_one front (t ∷ more) (t ∷ ahead) unit all n s a p.0 p.1 p.2 v in
    let r = next_run a.since (t ∷ more) x.others s x.first a.runs in
    let m = meets s u (whole x.first.o x.first.f) (t.word ∷ words_of more) (words_of more) (words_of x.first.rest) (go (words_of more)) r (ended x.first.o x.first.f (words_of x.first.rest)) in
    let h = rises_on u (whole x.first.o x.first.f) (words_of more) (words_of x.first.rest) (words_of b.since) m b.stands in
    let e : unit_height all ≡ unit_height (unit ++ x.others) = ap (λ y. unit_height y) x.all_are in
    let g : unit_height x.others ≡ unit_height (placed x.first.t.at x.first.o x.first.f ∷ x.first.xs) = ap (λ y. unit_height y) x.first.all_are in
    omega (arith, e, height_append unit x.others, g, h)

-- the tokens are no unit
pub unfinished : (front : List Token) (unit : List External) (n : ℕ) (s last : State) → At front [] unit n s → Reaches s [] last [] → end_step last.goal last.waiting ≡ stops → ((o : OuterSpecifier) (f : ExternalForm) → last ≡ whole o f → ⊥) → (all : List External) → IsUnit front all → ⊥
unfinished front unit n s last a go stop not_whole all u =
    let p = some_token a.since n a.begins in
    let Q : List Token → Type 0 = λ y. IsUnit y all in
    let x = next_one front [] [] unit all n s a p.0 p.1 p.2 (subst Q (sym (append_nil front)) u) in
    let r = next_run a.since [] x.others s x.first a.runs in
    let m = meets s last (whole x.first.o x.first.f) [] [] (words_of x.first.rest) go r (ended x.first.o x.first.f (words_of x.first.rest)) in
    let e = end_stays last (whole x.first.o x.first.f) [] (words_of x.first.rest) m stop in
    not_whole x.first.o x.first.f e.states
  where
    some_token : (since : List Token) (n : ℕ) → StartsAt n (since ++ []) → (u : Token) × (us : List Token) × (since ++ [] ≡ u ∷ us)
    some_token [] n b = absurd b
    some_token (t ∷ ts) n b = (t, ts ++ [], refl)
