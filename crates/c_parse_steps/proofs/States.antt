-- Whole states: what steps do to them, and that each can be completed at its least height.
use Rattle.std.proofs.Common.{◌≡◌, ℕ, ◌+◌, ◌≤◌, max, Bool, true, false, if◌then◌else◌, List, [], ◌∷◌, ◌++◌, Option, Some, None, refl, sym, ◌∙◌, ap, subst, append_assoc, arith}
use Rattle.c_token.specs.declared.word.Word.{Word}
use Rattle.c_tree.specs.declared.operators.UnaryOp.{UnaryOp}
use Rattle.c_tree.specs.declared.operators.UnaryOp.TheVariants as unaries
use Rattle.c_tree.specs.Operators.{operand_of, a_unary}
use Rattle.c_productions.specs.declared.kind.Kind.{Kind}
use Rattle.c_productions.specs.declared.kind.Kind.TheVariants as kinds
use Rattle.c_productions.specs.declared.kind.Production.{Production}
use Rattle.c_productions.specs.declared.kind.Production.TheVariants as productions
use Rattle.c_productions.specs.declared.kind.Terminal.{Terminal}
use Rattle.c_productions.specs.declared.kind.Symbol.{Symbol}
use Rattle.c_productions.specs.declared.kind.Symbol.TheVariants.{Part, Word as Said}
use Rattle.c_productions.specs.declared.value.Value.{Value}
use Rattle.c_productions.specs.declared.value.Value.TheVariants as values
use Rattle.c_productions.specs.declared.frame.Frame.{Frame}
use Rattle.c_productions.specs.refinement.Classes.{word_of, is}
use Rattle.c_productions.specs.refinement.Table.{Action, joined, opens, begins, stuck, action, rests, symbols, build, height, least, rise, first_frame, with_part, with_rest, Goal, made, expects, State, opened, Move, takes, goes, stops, resumes, acted, step, end_step}
use Rattle.c_productions.specs.refinement.Meaning.{written, Val, value_of, IsStart, IsHand, Parts, onto, written_rest, highest, leasts, Text, Framed, AreStarts, Leads, bottom, waits, Stands, over, overs, lowest}
use Rattle.c_parse_steps.proofs.Words.{word_is}
use Rattle.c_parse_steps.proofs.Actions.{Acts, Opened, acts, right_small}
use Rattle.c_parse_steps.proofs.Ends.{Rested, Rests, rested, ends}

-- ---- productions

operand_starts : (op : UnaryOp) → operand_of op ≤ a_unary
operand_starts unaries.Increment = omega arith
operand_starts _ = omega arith

pub production_starts : (r : Production) → AreStarts (symbols r)
production_starts (productions.Unary op) = (operand_starts op, tt)
production_starts productions.Sizeof = (tt, tt)
production_starts productions.Cast = (tt, (tt, (omega arith, tt)))
production_starts productions.Parenthesised = (omega arith, tt)
production_starts productions.TypeName = (tt, (tt, tt))
production_starts productions.Argument = (omega arith, tt)
production_starts (productions.Between op) = (right_small op, tt)
production_starts productions.Choice = (omega arith, (omega arith, tt))
production_starts productions.Index = (omega arith, tt)
production_starts (productions.Pointer c) = (tt, tt)
production_starts productions.Sized = (omega arith, tt)
production_starts productions.Parameter = (tt, (tt, tt))
production_starts (productions.Wrap c) = (tt, tt)
production_starts productions.Single = (omega arith, tt)
production_starts productions.If = (omega arith, (tt, tt))
production_starts productions.While = (omega arith, (tt, tt))
production_starts productions.For = (tt, (tt, (tt, (tt, tt))))
production_starts productions.Do = (tt, (omega arith, tt))
production_starts productions.Switch = (omega arith, tt)
production_starts productions.Case = (omega arith, tt)
production_starts productions.Default = tt
production_starts productions.EnumValue = (omega arith, tt)
production_starts productions.Plain = (omega arith, tt)
production_starts productions.Declaration = (tt, (tt, tt))
production_starts productions.ForDeclaration = (tt, (tt, tt))
production_starts productions.ForExpr = (omega arith, tt)
production_starts productions.TestExpr = (omega arith, tt)
production_starts productions.StepExpr = (omega arith, tt)
production_starts productions.External = (tt, (tt, tt))
production_starts _ = (tt, tt)

pub overs_grow : (fs : List Frame) (m n : ℕ) → m ≤ n → overs fs m ≤ overs fs n
overs_grow [] m n h = h
overs_grow (f ∷ fs) m n h = overs_grow fs (over f m) (over f n) (omega arith)

-- the same production, whatever is noted as still to come
renoted : (f : Frame) (rest ss : List Symbol) (F : Text) → Framed f ss F → Framed (with_rest f rest) ss F
renoted f rest ss F m x = let a = m x in record { same = a.same; fits = a.fits; high = a.high }

pub opened_stands : (f : Frame) (ss : List Symbol) (fs : List Frame) (F G : Text) (front : List Word) → Framed f ss F → AreStarts ss → Leads f.kind fs G → ((q : List Word) → G (F q) ≡ front ++ q) → Stands (opened f ss fs).goal (opened f ss fs).waiting front
opened_stands f [] fs F G front m a l e =
    let x = m tt in
    record {
      inner = λ q. written (build f.production f.parts) q;
      outer = G;
      holds = (x.fits, λ q. refl);
      leads = l;
      same = λ q. ap (λ r. G r) (x.same q) ∙ e q;
    }
opened_stands f (Said p ∷ ss) fs F G front m a l e = record { inner = F; outer = G; holds = (renoted f ss (Said p ∷ ss) F m, a); leads = l; same = e }
opened_stands f (Part K ∷ ss) fs F G front m a l e =
    record {
      inner = λ q. q;
      outer = λ q. G (F q);
      holds = (start_hand K a.0, λ q. refl);
      leads = waits K (with_rest f ss) fs (λ q. G (F q)) F G (renoted f ss (Part K ∷ ss) F m) a.1 l (λ q. refl);
      same = e;
    }
  where
    start_hand : (K : Kind) → IsStart K → IsHand K values.Start
    start_hand K h = h

pub opened_lowest : (f : Frame) (ss : List Symbol) (fs : List Frame) (F : Text) → Framed f ss F → lowest (opened f ss fs).goal (opened f ss fs).waiting ≡ overs fs (max f.base (leasts ss + rise f.production))
opened_lowest f [] fs F m = ap (λ n. overs fs n) (m tt).high
opened_lowest f (Said p ∷ ss) fs F m = refl
opened_lowest f (Part K ∷ ss) fs F m = refl

-- a production with one more part
pub parted : (K : Kind) (f : Frame) (F : Text) (v : Value) (x : Val K) → value_of K x ≡ v → Framed f (Part K ∷ f.rest) F → Framed (with_part f v) f.rest (λ q. F (written v q))
parted K f F v x e m =
    let P : Value → Type 0 = λ u. Framed (with_part f u) f.rest (λ q. F (written u q)) in
    let whole : Framed (with_part f (value_of K x)) f.rest (λ q. F (written (value_of K x) q)) =
    λ y. let a = m (x, y) in record { same = a.same; fits = a.fits; high = omega (arith, a.high) } in
    subst P e whole

-- ---- one step

pub record Moved (g : Goal) (fs : List Frame) (front : List Word) (t : State) : Type 0 where
  pub stands : Stands t.goal t.waiting front
  pub rises : lowest g fs ≤ lowest t.goal t.waiting

abbrev pub Moves : Goal → List Frame → List Word → Word → Move → Type 0
Moves g fs front w (takes t) = Moved g fs (front ++ w ∷ []) t
Moves g fs front w (goes t) = Moved g fs front t
Moves g fs front w stops = Unit {0}

one_more : (front : List Word) (w : Word) (q : List Word) → front ++ w ∷ q ≡ (front ++ w ∷ []) ++ q
one_more front w q = sym (append_assoc front (w ∷ []) q)

-- what waits goes on with a complete value
pub resumed : (K : Kind) (v u : Value) (f : Frame) (fs : List Frame) (H : Text) (inner : Text) (front : List Word) → Leads K (f ∷ fs) H → Rested K v u → ((q : List Word) → inner q ≡ written v q) → ((q : List Word) → H (inner q) ≡ front ++ q) → Moved (made K v) (f ∷ fs) front (opened (with_part f u) f.rest fs)
resumed K v u f fs H inner front (waits _ _ _ _ F G m a l e) r i s =
    let p = parted K f F u r.whole r.is m in
    let h = opened_lowest (with_part f u) f.rest fs (λ q. F (written u q)) p in
    record {
      stands = opened_stands (with_part f u) f.rest fs (λ q. F (written u q)) G front p a l
          (λ q. ap (λ x. G (F x)) (r.same q ∙ sym (i q)) ∙ (sym (e (inner q)) ∙ s q));
      rises = rw h (overs_grow fs (over f (least K v)) (max (max f.base (height u + rise f.production)) (leasts f.rest + rise f.production)) (omega (arith, r.high)));
    }

pub resting : (K : Kind) (v : Value) (fs : List Frame) (front : List Word) (w : Word) (o : Option Value) → Stands (made K v) fs front → Rests K v o → Moves (made K v) fs front w (resumes o fs)
resting K v fs front w None s r = tt
resting K v [] front w (Some u) s r = tt
resting K v (f ∷ fs) front w (Some u) s r = resumed K v u f fs s.outer s.inner front s.leads r s.holds.1 s.same

production_opened : (K : Kind) (v : Value) (r : Production) (fs : List Frame) (F : Text) (G : Text) (front : List Word) → Opened K v r F → Leads K fs G → ((q : List Word) → G (F q) ≡ front ++ q) → Moved (made K v) fs front (opened (first_frame K r v) (symbols r) fs)
production_opened K v r fs F G front o l e =
    let f = first_frame K r v in
    record {
      stands = opened_stands f (symbols r) fs F G front o.framed (production_starts r) l e;
      rises = rw (opened_lowest f (symbols r) fs F o.framed) (overs_grow fs (least K v) (max f.base (leasts (symbols r) + rise r)) o.rises);
    }

action_moves : (K : Kind) (v : Value) (fs : List Frame) (front : List Word) (w : Word) (t : Action) → Stands (made K v) fs front → Acts K v w t → Rests K v (rests K v) → Moves (made K v) fs front w (acted K v fs t)
action_moves K v fs front w (joined u) s j r =
    record {
      stands = record {
        inner = λ q. written u q;
        outer = s.outer;
        holds = (j.fits, λ q. refl);
        leads = s.leads;
        same = λ q. ap (λ x. s.outer x) (j.same q ∙ sym (s.holds.1 (w ∷ q))) ∙ (s.same (w ∷ q) ∙ one_more front w q);
      };
      rises = overs_grow fs (least K v) (least K u) j.rises;
    }
action_moves K v fs front w (opens r) s o _ =
    production_opened K v r fs (λ q. written v (w ∷ q)) s.outer (front ++ w ∷ []) o s.leads (λ q. ap (λ x. s.outer x) (sym (s.holds.1 (w ∷ q))) ∙ (s.same (w ∷ q) ∙ one_more front w q))
action_moves K v fs front w (begins r) s o _ =
    production_opened K v r fs (λ q. written v q) s.outer front o s.leads (λ q. ap (λ x. s.outer x) (sym (s.holds.1 q)) ∙ s.same q)
action_moves K v fs front w stuck s t r = resting K v fs front w (rests K v) s r

said_moves : (p : Terminal) (f : Frame) (fs : List Frame) (front : List Word) (w : Word) (b : Bool) → Stands (expects p f) fs front → (b ≡ true → w ≡ word_of p) → Moves (expects p f) fs front w (if b then takes (opened f f.rest fs) else stops)
said_moves p f fs front w false s h = tt
said_moves p f fs front w true s h =
    let F : Text = λ q. s.inner (word_of p ∷ q) in
    let m : Framed f f.rest F = λ x. let a = s.holds.0 x in record { same = a.same; fits = a.fits; high = a.high } in
    let P : Word → Type 0 = λ x. Moved (expects p f) fs (front ++ x ∷ []) (opened f f.rest fs) in
    subst P (sym (h refl)) (record {
      stands = opened_stands f f.rest fs F s.outer (front ++ word_of p ∷ []) m s.holds.1 s.leads
          (λ q. s.same (word_of p ∷ q) ∙ one_more front (word_of p) q);
      rises = rw (opened_lowest f f.rest fs F m) (overs_grow fs (max f.base (leasts f.rest + rise f.production)) (max f.base (leasts f.rest + rise f.production)) (omega arith));
    })

pub moves : (g : Goal) (fs : List Frame) (front : List Word) (w : Word) → Stands g fs front → Moves g fs front w (step g fs w)
moves (made K v) fs front w s = action_moves K v fs front w (action K v w) s (acts K v w s.holds.0) (rested K v s.holds.0)
moves (expects p f) fs front w s = said_moves p f fs front w (is p w) s (λ e. word_is p w e)

-- the step where no word follows
abbrev pub EndSteps : Goal → List Frame → List Word → Move → Type 0
EndSteps g fs front (takes t) = Unit {0}
EndSteps g fs front (goes t) = Moved g fs front t
EndSteps g fs front stops = Unit {0}

end_step_by : (K : Kind) (v : Value) (fs : List Frame) (front : List Word) (o : Option Value) → Stands (made K v) fs front → Rests K v o → EndSteps (made K v) fs front (resumes o fs)
end_step_by K v fs front None s r = tt
end_step_by K v [] front (Some u) s r = tt
end_step_by K v (f ∷ fs) front (Some u) s r = resumed K v u f fs s.outer s.inner front s.leads r s.holds.1 s.same

pub end_steps : (g : Goal) (fs : List Frame) (front : List Word) → Stands g fs front → EndSteps g fs front (end_step g fs)
end_steps (made K v) fs front s = end_step_by K v fs front (rests K v) s (rested K v s.holds.0)
end_steps (expects p f) fs front s = tt

-- ---- each state can be completed, at its least height

record Filled (ss : List Symbol) : Type 0 where
  parts : Parts ss
  low : highest ss parts ≤ leasts ss

filled : (ss : List Symbol) → AreStarts ss → Filled ss
filled [] a = record { parts = tt; low = omega arith }
filled (Said p ∷ ss) a = let r = filled ss a in record { parts = r.parts; low = r.low }
filled (Part K ∷ ss) a =
    let e = ends K values.Start a.0 in
    let r = filled ss a.1 in
    record { parts = (e.whole, r.parts); low = omega (arith, e.high, r.low) }

record Upward (H : Text) (text : List Word → List Word) (low : ℕ) : Type 0 where
  rest : List Word
  whole : Val kinds.External
  same : H (text rest) ≡ written (value_of kinds.External whole) []
  high : height (value_of kinds.External whole) ≤ low

upward : (K : Kind) (fs : List Frame) (H : Text) → Leads K fs H → (x : Val K) → Upward H (written (value_of K x)) (overs fs (height (value_of K x)))
upward _ [] H (bottom _ e) x = record { rest = []; whole = x; same = e (written (value_of kinds.External x) []); high = omega arith }
upward K (f ∷ fs) H (waits _ _ _ _ F G m a l e) x =
    let r = filled f.rest a in
    let y = m (x, r.parts) in
    let v = build f.production (onto f.rest r.parts (value_of K x ∷ f.parts)) in
    let t = ends f.kind v y.fits in
    let u = upward f.kind fs G l t.whole in
    record {
      rest = written_rest f.rest r.parts (t.rest u.rest);
      whole = u.whole;
      same = e (written (value_of K x) (written_rest f.rest r.parts (t.rest u.rest))) ∙ (ap (λ z. G z) (sym (y.same (t.rest u.rest)) ∙ t.same u.rest) ∙ u.same);
      high = omega (arith, u.high, overs_grow fs (height (value_of f.kind t.whole)) (over f (height (value_of K x))) (omega (arith, t.high, y.high, r.low)));
    }

-- an external declaration that begins with these words
pub record Completed (front : List Word) (low : ℕ) : Type 0 where
  pub rest : List Word
  pub whole : Val kinds.External
  pub same : front ++ rest ≡ written (value_of kinds.External whole) []
  pub high : height (value_of kinds.External whole) ≤ low

pub completed : (g : Goal) (fs : List Frame) (front : List Word) → Stands g fs front → Completed front (lowest g fs)
completed (made K v) fs front s =
    let t = ends K v s.holds.0 in
    let u = upward K fs s.outer s.leads t.whole in
    record {
      rest = t.rest u.rest;
      whole = u.whole;
      same = sym (s.same (t.rest u.rest)) ∙ (ap (λ z. s.outer z) (s.holds.1 (t.rest u.rest) ∙ t.same u.rest) ∙ u.same);
      high = omega (arith, u.high, overs_grow fs (height (value_of K t.whole)) (least K v) t.high);
    }
completed (expects p f) fs front s =
    let r = filled f.rest s.holds.1 in
    let y = s.holds.0 r.parts in
    let v = build f.production (onto f.rest r.parts f.parts) in
    let t = ends f.kind v y.fits in
    let u = upward f.kind fs s.outer s.leads t.whole in
    let after = word_of p ∷ written_rest f.rest r.parts (t.rest u.rest) in
    record {
      rest = after;
      whole = u.whole;
      same = sym (s.same after) ∙ (ap (λ z. s.outer z) (sym (y.same (t.rest u.rest)) ∙ t.same u.rest) ∙ u.same);
      high = omega (arith, u.high, overs_grow fs (height (value_of f.kind t.whole)) (max f.base (leasts f.rest + rise f.production)) (omega (arith, t.high, y.high, r.low)));
    }

-- nothing is read of an external declaration
pub first_stands : Stands (made kinds.External values.Start) [] []
first_stands = record { inner = λ q. q; outer = λ q. q; holds = (tt, λ q. refl); leads = bottom (λ q. q) (λ q. refl); same = λ q. refl }
