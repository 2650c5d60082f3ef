-- The parser between tokens, and what it answers.
use Rattle.std.proofs.Common.{◌≡◌, ℕ, ◌+◌, ◌≤◌, ◌<◌, suc, max, false, true, List, [], ◌∷◌, ◌++◌, take, drop, length, get_or, Result, Ok, Err, refl, sym, ◌∙◌, ap, subst, append_assoc, arith, add-one, take_all}
use Rattle.std.proofs.lemmas.List.{take_more, drop_all}
use Rattle.std.proofs.Math.Seq.{drop-cons, split_at}
use Rattle.c_token.specs.declared.word.Token.{Token}
use Rattle.c_tree.specs.declared.external.External.{External}
use Rattle.c_tree.specs.declared.external.OuterSpecifier.{OuterSpecifier}
use Rattle.c_tree.specs.declared.external.ExternalForm.{ExternalForm}
use Rattle.c_tree.specs.Grammar.{IsUnit, empty_unit}
use Rattle.c_productions.specs.declared.kind.Kind.TheVariants as kinds
use Rattle.c_productions.specs.declared.value.Value.TheVariants as values
use Rattle.c_productions.specs.refinement.Table.{State}
use Rattle.c_productions.specs.refinement.Meaning.{first_state, lowest}
use Rattle.c_parse_steps.proofs.Units.{At, at_first, at_next, closes, at_start, goes_on, refused, risen, unfinished as never}
use Rattle.c_parse.specs.declared.fault.CParse.{CParse}
use Rattle.c_parse.specs.declared.fault.CParse.TheVariants.{Syntax, TooDeep, Memory}
use Rattle.c_parse.specs.declared.parser.Parser.{Parser}
use Rattle.c_parse.specs.declared.steps.Goal.TheVariants as goals
use Rattle.c_parse.specs.Units.{Parses, Begins, NoneBegins, Stops, syntax, too_deep, unfinished, Tells, ParsesTo}
use Rattle.c_parse.specs.refinement.Calls.{whole, is_whole, Takes, Comes, Refuses, Unfinished, state_of, placed, Goes, Fails, further, anew, ReadsToken, Starts, IsLow, Finished, Finishes}

-- these tokens are read, those lie ahead, and what goes on so may be low enough
pub record Stands (front ahead : List Token) (p : Parser) : Type 0 where
  pub place : At front ahead p.done p.at (state_of p)
  pub low : lowest (state_of p).goal p.waiting ≤ 200

-- a token on the way from one state to another, where the external declaration begins at this place
record Step (front ahead : List Token) (t : Token) (r : Parser) : Type 0 where
  from : State
  before : At front (t ∷ ahead) r.done r.at from
  takes : Takes from t.word (state_of r)

moved : (front ahead : List Token) (t : Token) (r : Parser) (done : List External) (n : ℕ) (s : State) → At front (t ∷ ahead) done n s → Takes s t.word (state_of r) → r.done ≡ done → r.at ≡ n → Step front ahead t r
moved front ahead t r done n s a k e d =
    let P : List External → Type 0 = λ x. At front (t ∷ ahead) x r.at s in
    let Q : ℕ → Type 0 = λ x. At front (t ∷ ahead) done x s in
    record { from = s; before = subst P (sym e) (subst Q (sym d) a); takes = k }

-- before the first token of the next external declaration
renewed : (front ahead : List Token) (t : Token) (p : Parser) (o : OuterSpecifier) (f : ExternalForm) → Stands front (t ∷ ahead) p → Comes (state_of p) t.word (whole o f) → At front (t ∷ ahead) (p.done ++ placed p.at o f ∷ []) t.at first_state
renewed front ahead t p o f s c = at_start front ahead t (p.done ++ placed p.at o f ∷ []) (closes front (t ∷ ahead) p.done p.at (state_of p) o f (t.word ∷ []) s.place s.low (c []))

stepped : (front ahead : List Token) (t : Token) (p r : Parser) → Stands front (t ∷ ahead) p → Goes p t r → Step front ahead t r
stepped front ahead t p r s (further k e d) = moved front ahead t r p.done p.at (state_of p) s.place k e d
stepped front ahead t p r s (anew o f c k e d) = moved front ahead t r (p.done ++ placed p.at o f ∷ []) t.at first_state (renewed front ahead t p o f s c) k e d

step_next : (front ahead : List Token) (t : Token) (r : Parser) → Step front ahead t r → At (front ++ t ∷ []) ahead r.done r.at (state_of r)
step_next front ahead t r s = at_next front ahead t r.done r.at s.from (state_of r) s.before s.takes

begun : (front ahead : List Token) (done : List External) (n : ℕ) (s : State) → At front ahead done n s → Begins (max 200 (lowest s.goal s.waiting)) front
begun front ahead done n s a =
    let g = goes_on front ahead done n s a in
    record { rest = g.rest; unit = g.unit; is_unit = g.is_unit; low = g.low }

low_begun : (front ahead : List Token) (p : Parser) → Stands front ahead p → Begins 200 front
low_begun front ahead p s =
    let b = begun front ahead p.done p.at (state_of p) s.place in
    record { rest = b.rest; unit = b.unit; is_unit = b.is_unit; low = omega (arith, b.low, s.low) }

longer : (front : List Token) (t : Token) (limit : ℕ) (b : Begins limit (front ++ t ∷ [])) → IsUnit (front ++ t ∷ b.rest) b.unit
longer front t limit b =
    let P : List Token → Type 0 = λ x. IsUnit x b.unit in
    subst P (append_assoc front (t ∷ []) b.rest) b.is_unit

never_whole : (s : State) → is_whole s.goal s.waiting ≡ false → (o : OuterSpecifier) (f : ExternalForm) → s ≡ whole o f → ⊥
never_whole s n o f e =
    let k : is_whole s.goal s.waiting ≡ true = ap (λ (x : State). is_whole x.goal x.waiting) e in
    cc

-- ---- at a token that doesn't go on

none_from : (front ahead : List Token) (t : Token) (done : List External) (n : ℕ) (s : State) → At front (t ∷ ahead) done n s → Refuses s t.word → (limit : ℕ) → NoneBegins limit (front ++ t ∷ [])
none_from front ahead t done n s a r limit b =
    refused front (t ∷ ahead) t done n s r.last a r.comes r.stop (never_whole r.last r.not_whole) b.rest b.unit (longer front t limit b)

none_goes : (front ahead : List Token) (t : Token) (p : Parser) → Stands front (t ∷ ahead) p → Fails p t → (limit : ℕ) → NoneBegins limit (front ++ t ∷ [])
none_goes front ahead t p s (further r) = none_from front ahead t p.done p.at (state_of p) s.place r
none_goes front ahead t p s (anew o f c r) = none_from front ahead t (p.done ++ placed p.at o f ∷ []) t.at first_state (renewed front ahead t p o f s c) r

none_low : (front ahead : List Token) (t : Token) (r : Parser) → Step front ahead t r → 200 < lowest (state_of r).goal r.waiting → NoneBegins 200 (front ++ t ∷ [])
none_low front ahead t r s high b =
    let h = risen front ahead t r.done r.at s.from (state_of r) s.before s.takes b.rest b.unit (longer front t 200 b) in
    omega (arith, h, b.low, high)

-- ---- over the tokens by their number

ahead_is : (tokens : List Token) (i : ℕ) (t : Token) → i < length tokens → t ≡ get_or tokens i t → drop i tokens ≡ t ∷ drop (i + 1) tokens
ahead_is tokens i t l e = drop-cons tokens i t l ∙ ap (λ x. x ∷ drop (suc i) tokens) (sym e) ∙ rw add-one refl

front_is : (tokens : List Token) (i : ℕ) (t : Token) → i < length tokens → t ≡ get_or tokens i t → take (i + 1) tokens ≡ take i tokens ++ t ∷ []
front_is tokens i t l e = take_more tokens i t l ∙ ap (λ x. take i tokens ++ x ∷ []) (sym e)

tokens_are : (tokens : List Token) (i : ℕ) (t : Token) → i < length tokens → t ≡ get_or tokens i t → tokens ≡ take i tokens ++ t ∷ drop (i + 1) tokens
tokens_are tokens i t l e = split_at tokens i t l ∙ ap (λ x. take i tokens ++ x) (ap (λ x. x ∷ drop (suc i) tokens) (sym e) ∙ rw add-one refl)

abbrev pub StandsAt : List Token → ℕ → Parser → Type 0
StandsAt tokens i p = Stands (take i tokens) (drop i tokens) p

there : (tokens : List Token) (i : ℕ) (t : Token) (p : Parser) → i < length tokens → t ≡ get_or tokens i t → StandsAt tokens i p → Stands (take i tokens) (t ∷ drop (i + 1) tokens) p
there tokens i t p l e s = let P : List Token → Type 0 = λ x. Stands (take i tokens) x p in subst P (ahead_is tokens i t l e) s

pub next_at : (tokens : List Token) (i : ℕ) (t : Token) (p r : Parser) → i < length tokens → t ≡ get_or tokens i t → StandsAt tokens i p → Goes p t r → lowest (state_of r).goal r.waiting ≤ 200 → StandsAt tokens (i + 1) r
next_at tokens i t p r l e s g low =
    let front = take i tokens in
    let ahead = drop (i + 1) tokens in
    let P : List Token → Type 0 = λ x. Stands x ahead r in
    subst P (sym (front_is tokens i t l e)) (record { place = step_next front ahead t r (stepped front ahead t p r (there tokens i t p l e s) g); low = low })

pub syntax_at : (tokens : List Token) (end i : ℕ) (t : Token) (p : Parser) → i < length tokens → t ≡ get_or tokens i t → StandsAt tokens i p → Fails p t → Stops tokens end (Syntax t.at)
syntax_at tokens end i t p l e s f =
    let front = take i tokens in
    let ahead = drop (i + 1) tokens in
    let h = there tokens i t p l e s in
    syntax front t ahead (tokens_are tokens i t l e) (low_begun front (t ∷ ahead) p h) (none_goes front ahead t p h f)

pub deep_at : (tokens : List Token) (end i : ℕ) (t : Token) (p r : Parser) → i < length tokens → t ≡ get_or tokens i t → StandsAt tokens i p → Goes p t r → 200 < lowest (state_of r).goal r.waiting → Stops tokens end (TooDeep t.at)
deep_at tokens end i t p r l e s g high =
    let front = take i tokens in
    let ahead = drop (i + 1) tokens in
    let h = there tokens i t p l e s in
    let k = stepped front ahead t p r h g in
    too_deep front t ahead (max 200 (lowest (state_of r).goal r.waiting)) (tokens_are tokens i t l e) (low_begun front (t ∷ ahead) p h)
    (begun (front ++ t ∷ []) ahead r.done r.at (state_of r) (step_next front ahead t r k)) (none_low front ahead t r k high)

-- ---- where the tokens end

at_end : (tokens : List Token) (i : ℕ) (p : Parser) → length tokens ≤ i → StandsAt tokens i p → Stands tokens [] p
at_end tokens i p l s =
    let P : List Token → Type 0 = λ x. Stands x (drop i tokens) p in
    let Q : List Token → Type 0 = λ x. Stands tokens x p in
    subst Q (drop_all i tokens l) (subst P (take_all i tokens l) s)

pub whole_at : (tokens : List Token) (i : ℕ) (p : Parser) (all : List External) → length tokens ≤ i → StandsAt tokens i p → Finished p all → Parses tokens all
whole_at tokens i p all l s f =
    let h = at_end tokens i p l s in
    let c = closes tokens [] p.done p.at (state_of p) f.outer f.form [] h.place h.low f.comes in
    let P : List External → Type 0 = λ x. Parses tokens x in
    subst P (sym f.unit_is) (record { is_unit = c.is_unit; low = c.low })

pub ends_at : (tokens : List Token) (end i : ℕ) (p : Parser) → length tokens ≤ i → StandsAt tokens i p → Unfinished (state_of p) → Stops tokens end (Syntax end)
ends_at tokens end i p l s f =
    let h = at_end tokens i p l s in
    unfinished (low_begun tokens [] p h) (never tokens p.done p.at (state_of p) f.last h.place f.comes f.stop (never_whole f.last f.not_whole))

pub first_at : (tokens : List Token) (t : Token) (p : Parser) (d : List External) → t ≡ get_or tokens 0 t → 0 < length tokens → p ≡ record { done = d; at = t.at; goal = goals.Made kinds.External values.Start; waiting = [] } → d ≡ [] → Stands [] tokens p
first_at (x ∷ xs) t p d e l s n =
    let P : Parser → Type 0 = λ y. Stands [] (x ∷ xs) y in
    let Q : List External → Type 0 = λ y. At [] (x ∷ xs) y t.at first_state in
    let R : ℕ → Type 0 = λ y. At [] (x ∷ xs) [] y first_state in
    subst P (sym s) (record { place = subst Q (sym n) (subst R (sym (ap (λ (y : Token). y.at) e)) (at_first x xs)); low = omega arith })
first_at [] t p d e l s n = absurd (omega arith)

pub none_read : (tokens : List Token) (all : List External) → length tokens ≤ 0 → all ≡ [] → Parses tokens all
none_read [] all l e = let P : List External → Type 0 = λ x. Parses [] x in subst P (sym e) (record { is_unit = empty_unit; low = omega arith })
none_read (t ∷ ts) all l e = absurd (omega arith)

-- ---- the answers of the calls

pub begun_reads : (p : Parser) (t : Token) (o : OuterSpecifier) (f : ExternalForm) (done : List External) (r : Result Parser CParse) → Comes (state_of p) t.word (whole o f) → done ≡ p.done ++ placed p.at o f ∷ [] → Starts done t r → ReadsToken p t r
begun_reads p t o f done (Ok r) c e s = anew o f c s.0 (s.1 ∙ e) s.2
begun_reads p t o f done (Err (Syntax at)) c e s = (s.0, anew o f c s.1)
begun_reads p t o f done (Err (TooDeep at)) c e s = s
begun_reads p t o f done (Err Memory) c e s = tt

pub read_fails : (tokens : List Token) (end i : ℕ) (t : Token) (p : Parser) (e : CParse) → i < length tokens → t ≡ get_or tokens i t → StandsAt tokens i p → ReadsToken p t (Err e) → Tells tokens end e
read_fails tokens end i t p (Syntax at) l e s r =
    let P : ℕ → Type 0 = λ n. Stops tokens end (Syntax n) in
    subst P (sym r.0) (syntax_at tokens end i t p l e s r.1)
read_fails tokens end i t p (TooDeep at) l e s r = absurd r
read_fails tokens end i t p Memory l e s r = tt

pub low_fails : (tokens : List Token) (end i : ℕ) (t : Token) (p r : Parser) (e : CParse) → i < length tokens → t ≡ get_or tokens i t → StandsAt tokens i p → Goes p t r → IsLow r t.at (Err e) → Tells tokens end e
low_fails tokens end i t p r (Syntax at) l e s g h = absurd h
low_fails tokens end i t p r (TooDeep at) l e s g h =
    let P : ℕ → Type 0 = λ n. Stops tokens end (TooDeep n) in
    subst P (sym h.0) (deep_at tokens end i t p r l e s g h.1)
low_fails tokens end i t p r Memory l e s g h = tt

pub low_goes : (tokens : List Token) (i : ℕ) (t : Token) (p r q : Parser) → i < length tokens → t ≡ get_or tokens i t → StandsAt tokens i p → Goes p t r → IsLow r t.at (Ok q) → StandsAt tokens (i + 1) q
low_goes tokens i t p r q l e s g h =
    let P : Parser → Type 0 = λ x. StandsAt tokens (i + 1) x in
    subst P (sym h.0) (next_at tokens i t p r l e s g h.1)

pub ends_so : (tokens : List Token) (end i : ℕ) (p : Parser) (r : Result (List External) CParse) → length tokens ≤ i → StandsAt tokens i p → Finishes p end r → ParsesTo tokens end r
ends_so tokens end i p (Ok all) l s f = whole_at tokens i p all l s f
ends_so tokens end i p (Err (Syntax at)) l s f =
    let P : ℕ → Type 0 = λ n. Stops tokens end (Syntax n) in
    subst P (sym f.0) (ends_at tokens end i p l s f.1)
ends_so tokens end i p (Err (TooDeep at)) l s f = absurd f
ends_so tokens end i p (Err Memory) l s f = tt
