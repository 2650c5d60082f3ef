-- How runs go on: single steps, and whole productions.
use Rattle.std.proofs.Common.{◌≡◌, ◌≤◌, true, List, [], ◌∷◌, ◌++◌, Some, refl, sym, ◌∙◌, ap, subst, arith}
use Rattle.c_token.specs.declared.word.Word.{Word}
use Rattle.c_productions.specs.declared.kind.Kind.{Kind}
use Rattle.c_productions.specs.declared.kind.Production.{Production}
use Rattle.c_productions.specs.declared.kind.Terminal.{Terminal}
use Rattle.c_productions.specs.declared.kind.Terminal.TheVariants as at
use Rattle.c_productions.specs.declared.kind.Symbol.{Symbol}
use Rattle.c_productions.specs.declared.kind.Symbol.TheVariants.{Part, Word as Said}
use Rattle.c_productions.specs.declared.value.Value.{Value}
use Rattle.c_productions.specs.declared.value.Value.TheVariants as values
use Rattle.c_productions.specs.declared.frame.Frame.{Frame}
use Rattle.c_productions.specs.refinement.Classes.{word_of, is}
use Rattle.c_productions.specs.refinement.Table.{joined, opens, begins, stuck, action, rests, symbols, build, first_frame, with_part, with_rest, made, expects, State, opened, Move, takes, goes, stops, resumes, acted, step, end_step}
use Rattle.c_productions.specs.refinement.Meaning.{written, Val, value_of, Parts, onto, written_rest, Stands, lowest, Reaches, here, taking, going, ending}
use Rattle.c_parse_steps.proofs.States.{Moves, moves, EndSteps, end_steps}

pub followed : (s t u : State) (ws vs us : List Word) → Reaches s ws t vs → Reaches t vs u us → Reaches s ws u us
followed _ _ u _ _ us (here s ws) b = b
followed _ _ u _ _ us (taking s t x w ws vs e a) b = taking s t u w ws us e (followed t x u ws vs us a b)
followed _ _ u _ _ us (going s t x w ws vs e a) b = going s t u w ws us e (followed t x u (w ∷ ws) vs us a b)
followed _ _ u _ _ us (ending s t x vs e a) b = ending s t u us e (followed t x u [] vs us a b)

abbrev pub st : Kind → Value → List Frame → State
st K v fs = record { goal = made K v; waiting = fs }

pub joins : (K : Kind) (v u : Value) (fs : List Frame) (w : Word) (ws : List Word) → action K v w ≡ joined u → Reaches (st K v fs) (w ∷ ws) (st K u fs) ws
joins K v u fs w ws e = taking (st K v fs) (st K u fs) (st K u fs) w ws ws (ap (λ t. acted K v fs t) e) (here (st K u fs) ws)

pub production_opens : (K : Kind) (v : Value) (r : Production) (fs : List Frame) (w : Word) (ws : List Word) → action K v w ≡ opens r → Reaches (st K v fs) (w ∷ ws) (opened (first_frame K r v) (symbols r) fs) ws
production_opens K v r fs w ws e = let t = opened (first_frame K r v) (symbols r) fs in taking (st K v fs) t t w ws ws (ap (λ t. acted K v fs t) e) (here t ws)

pub production_begins : (K : Kind) (v : Value) (r : Production) (fs : List Frame) (w : Word) (ws : List Word) → action K v w ≡ begins r → Reaches (st K v fs) (w ∷ ws) (opened (first_frame K r v) (symbols r) fs) (w ∷ ws)
production_begins K v r fs w ws e = let t = opened (first_frame K r v) (symbols r) fs in going (st K v fs) t t w ws (w ∷ ws) (ap (λ t. acted K v fs t) e) (here t (w ∷ ws))

abbrev pub IsStuck : Kind → Value → List Word → Type 0
IsStuck K v [] = Unit {0}
IsStuck K v (w ∷ ws) = action K v w ≡ stuck

pub rests_reach : (K : Kind) (v u : Value) (f : Frame) (fs : List Frame) (ws : List Word) → rests K v ≡ Some u → IsStuck K v ws → Reaches (st K v (f ∷ fs)) ws (opened (with_part f u) f.rest fs) ws
rests_reach K v u f fs [] r s = let t = opened (with_part f u) f.rest fs in ending (st K v (f ∷ fs)) t t [] (ap (λ o. resumes o (f ∷ fs)) r) (here t [])
rests_reach K v u f fs (w ∷ ws) r s =
    let t = opened (with_part f u) f.rest fs in
    going (st K v (f ∷ fs)) t t w ws (w ∷ ws) (ap (λ x. acted K v (f ∷ fs) x) s ∙ ap (λ o. resumes o (f ∷ fs)) r) (here t (w ∷ ws))

-- ---- whole parts

-- a part is read, and goes to what waits for it
abbrev pub ReadsPart : (K : Kind) → Val K → List Word → Type 0
ReadsPart K x r = (f : Frame) (fs : List Frame) → Reaches (st K values.Start (f ∷ fs)) (written (value_of K x) r) (opened (with_part f (value_of K x)) f.rest fs) r

abbrev pub AllRead : (ss : List Symbol) → Parts ss → List Word → Type 0
AllRead [] y q = Unit {0}
AllRead (Said p ∷ ss) y q = AllRead ss y q
AllRead (Part K ∷ ss) y q = ReadsPart K y.0 (written_rest ss y.1 q) × AllRead ss y.1 q

is_own : (p : Terminal) → is p (word_of p) ≡ true
is_own at.OpenParen = refl
is_own _ = refl

said_read : (p : Terminal) (f : Frame) (fs : List Frame) (ws : List Word) → Reaches (record { goal = expects p f; waiting = fs }) (word_of p ∷ ws) (opened f f.rest fs) ws
said_read p f fs ws =
    let s : State = record { goal = expects p f; waiting = fs } in
    let t = opened f f.rest fs in
    taking s t t (word_of p) ws ws (rw (is_own p) refl) (here t ws)

pub production_reads : (f : Frame) (ss : List Symbol) (fs : List Frame) (y : Parts ss) (q : List Word) → AllRead ss y q → Reaches (opened f ss fs) (written_rest ss y q) (st f.kind (build f.production (onto ss y f.parts)) fs) q
production_reads f [] fs y q a = here (st f.kind (build f.production f.parts) fs) q
production_reads f (Said p ∷ ss) fs y q a =
    followed (opened f (Said p ∷ ss) fs) (opened (with_rest f ss) ss fs) (st f.kind (build f.production (onto ss y f.parts)) fs) (word_of p ∷ written_rest ss y q) (written_rest ss y q) q
    (said_read p (with_rest f ss) fs (written_rest ss y q))
    (production_reads (with_rest f ss) ss fs y q a)
production_reads f (Part K ∷ ss) fs y q a =
    let v = value_of K y.0 in
    let g = with_part (with_rest f ss) v in
    followed (opened f (Part K ∷ ss) fs) (opened g ss fs) (st f.kind (build f.production (onto ss y.1 (v ∷ f.parts))) fs) (written v (written_rest ss y.1 q)) (written_rest ss y.1 q) q
    (a.0 (with_rest f ss) fs)
    (production_reads g ss fs y.1 q a.1)

-- a production with its parts, behind a word
pub production_said : (K : Kind) (v : Value) (r : Production) (fs : List Frame) (w : Word) (y : Parts (symbols r)) (q : List Word) → action K v w ≡ opens r → AllRead (symbols r) y q → Reaches (st K v fs) (w ∷ written_rest (symbols r) y q) (st K (build r (onto (symbols r) y (v ∷ []))) fs) q
production_said K v r fs w y q e a =
    let f = first_frame K r v in
    followed (st K v fs) (opened f (symbols r) fs) (st K (build r (onto (symbols r) y (v ∷ []))) fs) (w ∷ written_rest (symbols r) y q) (written_rest (symbols r) y q) q
    (production_opens K v r fs w (written_rest (symbols r) y q) e)
    (production_reads f (symbols r) fs y q a)

-- a production with its parts, where a word of a class begins
pub production_begun : (K : Kind) (v : Value) (r : Production) (fs : List Frame) (w : Word) (ws : List Word) (y : Parts (symbols r)) (q : List Word) → written_rest (symbols r) y q ≡ w ∷ ws → action K v w ≡ begins r → AllRead (symbols r) y q → Reaches (st K v fs) (written_rest (symbols r) y q) (st K (build r (onto (symbols r) y (v ∷ []))) fs) q
production_begun K v r fs w ws y q s e a =
    let f = first_frame K r v in
    let t = opened f (symbols r) fs in
    let P : List Word → Type 0 = λ x. Reaches (st K v fs) x t x in
    followed (st K v fs) t (st K (build r (onto (symbols r) y (v ∷ []))) fs) (written_rest (symbols r) y q) (written_rest (symbols r) y q) q
    (subst P (sym s) (production_begins K v r fs w ws e))
    (production_reads f (symbols r) fs y q a)

-- ---- runs lead to one state

abbrev pub IsEnd : State → List Word → Type 0
IsEnd s [] = end_step s.goal s.waiting ≡ stops
IsEnd s (w ∷ ws) = step s.goal s.waiting w ≡ stops

after_taking : (s t b : State) (w : Word) (ws vs : List Word) → Reaches s (w ∷ ws) b vs → IsEnd b vs → step s.goal s.waiting w ≡ takes t → Reaches t ws b vs
after_taking s t _ w ws _ (here _ _) e i = cc
after_taking s t b w ws vs (taking _ u _ _ _ _ j x) e i =
    let P : State → Type 0 = λ z. Reaches z ws b vs in
    let k : u ≡ t = cc in
    subst P k x
after_taking s t b w ws vs (going _ u _ _ _ _ j x) e i = cc

after_going : (s t b : State) (w : Word) (ws vs : List Word) → Reaches s (w ∷ ws) b vs → IsEnd b vs → step s.goal s.waiting w ≡ goes t → Reaches t (w ∷ ws) b vs
after_going s t _ w ws _ (here _ _) e i = cc
after_going s t b w ws vs (taking _ u _ _ _ _ j x) e i = cc
after_going s t b w ws vs (going _ u _ _ _ _ j x) e i =
    let P : State → Type 0 = λ z. Reaches z (w ∷ ws) b vs in
    let k : u ≡ t = cc in
    subst P k x

after_end_step : (s t b : State) (vs : List Word) → Reaches s [] b vs → IsEnd b vs → end_step s.goal s.waiting ≡ goes t → Reaches t [] b vs
after_end_step s t _ _ (here _ _) e i = cc
after_end_step s t b vs (ending _ u _ _ j x) e i =
    let P : State → Type 0 = λ z. Reaches z [] b vs in
    let k : u ≡ t = cc in
    subst P k x

-- what a run comes by lies before where it ends
pub meets : (s a b : State) (ws us vs : List Word) → Reaches s ws a us → Reaches s ws b vs → IsEnd b vs → Reaches a us b vs
meets _ _ b _ _ vs (here s ws) y e = y
meets _ a b _ us vs (taking s t _ w ws _ i x) y e = meets t a b ws us vs x (after_taking s t b w ws vs y e i) e
meets _ a b _ us vs (going s t _ w ws _ i x) y e = meets t a b (w ∷ ws) us vs x (after_going s t b w ws vs y e i) e
meets _ a b _ us vs (ending s t _ _ i x) y e = meets t a b [] us vs x (after_end_step s t b vs y e i) e

-- an end leads nowhere else
pub record Same (a b : State) (us vs : List Word) : Type 0 where
  pub states : a ≡ b
  pub words : us ≡ vs

pub end_stays : (a b : State) (us vs : List Word) → Reaches a us b vs → IsEnd a us → Same a b us vs
end_stays _ _ _ _ (here s ws) e = record { states = refl; words = refl }
end_stays a b _ vs (taking _ t _ w ws _ i x) e = cc
end_stays a b _ vs (going _ t _ w ws _ i x) e = cc
end_stays a b _ vs (ending _ t _ _ i x) e = cc

-- the least height doesn't fall on the way
pub rises_on : (s t : State) (ws vs front : List Word) → Reaches s ws t vs → Stands s.goal s.waiting front → lowest s.goal s.waiting ≤ lowest t.goal t.waiting
rises_on _ _ _ _ front (here s ws) h = omega arith
rises_on _ u _ vs front (taking s t _ w ws _ i x) h =
    let P : Move → Type 0 = λ m. Moves s.goal s.waiting front w m in
    let m = subst P i (moves s.goal s.waiting front w h) in
    omega (arith, m.rises, rises_on t u ws vs (front ++ w ∷ []) x m.stands)
rises_on _ u _ vs front (going s t _ w ws _ i x) h =
    let P : Move → Type 0 = λ m. Moves s.goal s.waiting front w m in
    let m = subst P i (moves s.goal s.waiting front w h) in
    omega (arith, m.rises, rises_on t u (w ∷ ws) vs front x m.stands)
rises_on _ u _ vs front (ending s t _ _ i x) h =
    let P : Move → Type 0 = λ m. EndSteps s.goal s.waiting front m in
    let m = subst P i (end_steps s.goal s.waiting front h) in
    omega (arith, m.rises, rises_on t u [] vs front x m.stands)
