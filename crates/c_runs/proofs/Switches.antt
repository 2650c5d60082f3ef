-- Switches: the group with which one goes on waits in a local, and a `break` leaves a number there with which no group is carried out.
use Rattle.std.proofs.Common.{◌≡◌, ◌≢◌, ℕ, zero, suc, ◌+◌, ◌-◌, ◌^◌, ◌<◌, ◌≤◌, List, [], ◌∷◌, ◌++◌, length, length-append, Bool, true, false, Option, Some, None, refl, sym, ap, ◌∙◌, arith, subst, cond, T, eqb→eq, leb→le, leb-false}
use Rattle.std.specs.Prelude.{ℤ, pos, negsuc, not, int_le, nat_le, ◌==◌, ◌&&◌, slice_get, slice_set, if◌then◌else◌}
use Rattle.std.specs.List.{All}
use Rattle.std.proofs.lemmas.Bool.{eq-eqb, lt-ltb}
use Rattle.std.proofs.lemmas.Int.{ints}
use Rattle.std.proofs.lemmas.List.Elements.{All-head, All-tail}
use Rattle.ms_linear.specs.declared.value.Value.{Value as Word}
use Rattle.ms_linear.specs.declared.value.Value.TheVariants.{I32}
use Rattle.ms_machine.specs.Step as step
use Rattle.ms_machine.specs.Step.{act}
use Rattle.ms_module.specs.declared.instr.Instr.{Instr}
use Rattle.ms_module.specs.declared.instr.Instr.TheVariants.{Br, LocalGet, LocalSet, Select}
use Rattle.ms_module.specs.declared.numeric.RelOp.TheVariants as rels
use Rattle.ms_module.specs.declared.numeric.Width.{Width}
use Rattle.ms_module.specs.declared.numeric.Width.TheVariants.{W32, W64}
use Rattle.ms_num.specs.Integers.{truth, wrapped}
use Rattle.ms_operate.specs.Outcomes as operate
use Rattle.ms_task.specs.Control.{kept}
use Rattle.ms_task.specs.Thread.{Do, Frame, Item, Label, Thread, thread, depth_of}
use Rattle.c_types.specs.declared.integers.IntType.{IntType}
use Rattle.c_types.specs.declared.integers.IntType.TheVariants.{Int}
use Rattle.c_types.specs.Integers.{bits}
use Rattle.c_types.specs.Types.{integer}
use Rattle.c_typed.specs.declared.ops.RelOp.TheVariants.{NotEqual}
use Rattle.c_typed.specs.declared.tree.Case.{Case}
use Rattle.c_typed.specs.declared.jumps.Jumps.{Jumps}
use Rattle.c_typed.specs.refinement.Expressions.{IsPromoted}
use Rattle.c_typed.specs.Statements.{AreDistinct, IsCase, IsLabel, in_switch}
use Rattle.c_meaning.specs.Integers.{bits_of, compared, from_truth, value_of}
use Rattle.c_meaning.specs.Expressions as meaning
use Rattle.c_meaning.specs.Expressions.{as_number}
use Rattle.c_meaning.specs.Values.{Value}
use Rattle.c_meaning.specs.World.{World, Result, Does, gives, after, ◌>>=◌, pure}
use Rattle.c_meaning.specs.Statements.{Flow, next, broken, continued, returned, behind_switch, followed, goes_to, group_at, is_label, or_else}
use Rattle.ms_emit.specs.Codes.{Code, plain, one, no_code, ◌⨾◌, choice, size_of}
use Rattle.c_code.specs.Operations.{constant, i32, rel, width_of}
use Rattle.c_code.specs.Statements.{chosen, group_from, selected}
use Rattle.c_code.specs.Targets.{Target, scratch_of_width, waiting}
use Rattle.c_numbers.specs.Operands.{IsIn, carried, word}
use Rattle.c_numbers.proofs.Conversions.{constant_is}
use Rattle.c_numbers.proofs.Operators.{by_type, comparison}
use Rattle.c_numbers.proofs.Ranges.{value_in}
use Rattle.c_numbers.proofs.Wrapping.{back}
use Rattle.c_runs.proofs.Goes as goes
use Rattle.c_runs.proofs.Goes.{Goes, Mem, Runs, after_after, behind_goes, bind, goes_on, here, one_here, resize, sized, stays}
use Rattle.c_meaning.specs.Objects.{Object}
use Rattle.c_runs.proofs.Held.{ending, get_behind, length_set, length_words, set_behind, set_elsewhere, set_there}
use Rattle.c_runs.proofs.Related.{Env, HasAll, Holds, IsValue, Kept, KeptAs, Now, Temps, kept_temps, locals_of, pushes, depth_front, frame_of, front, front_append, has_back, has_front, total_append, beside}
use Rattle.c_runs.proofs.Ops.{Good, GoodIn, IsTest, Op, ToIn, To_, at_work, carried_is, choice_at, is_no, is_yes, runs_choice, same, size_joined}
use Rattle.c_runs.proofs.Nodes.{Leaves, gone, of_number}
use Rattle.c_runs.proofs.Flows.{Around, FlowRuns, GoodFlow, IsAt, Off, Way, around_front, FlowOut, flow_break, in_label, lowest_all, starts, no_group, to_flow, way}

-- what stands in front of the branch of `break`
abbrev pub leaves : Target → Option ℕ → Code
leaves t None = no_code
leaves t (Some q) = plain (constant W32 (negsuc 0) ∷ LocalSet (waiting t q) ∷ [])

module _ (E : Env) where
  -- ---- the locals behind the slots

  abbrev pub with_temp : Mem → ℕ → Word → Mem
  with_temp m i v = record m { temps = slice_set m.temps i v }

  -- the local that stands there
  abbrev pub IsTemp : (x i : ℕ) → Type 0
  IsTemp x i = x ≡ (length E.args + length E.slots) + i

  pub waiting_is : (d : ℕ) → IsTemp (waiting E.target d) (4 + d)
  waiting_is d = let e = E.scratch_is in omega (arith, e)

  module _ (w : World) (m : Mem) (held : Holds E m w) (x i : ℕ) (is : IsTemp x i) where
    abbrev ws : List Word
    ws = locals_of E m w

    there : x ≡ length E.args + (length ws + i)
    there = let e = length_words E.unit.structs E.places E.kinds m.homes w.locals held in let f = E.as_long in omega (arith, is, e, f)

    pub set_temp : i < length m.temps → (v : Word) (us vs : List Word) (r : List Item)
        → step.set_local (goes.store E.site m) (thread (frame_of E m w) us r) x v vs ≡ step.Next (goes.store E.site m) (thread (frame_of E (with_temp m i v) w) vs r) None
    set_temp lt v us vs r =
        let go : List Word → step.Outcome = λ ls. step.Next (goes.store E.site m) (thread (record { function = E.fn; locals = ls }) vs r) None in
        let long = length-append ws m.temps in
        let all = length-append E.args (ws ++ m.temps) in
        ap (λ (b : Bool). cond b (go (slice_set (E.args ++ (ws ++ m.temps)) x v)) step.Stuck) (lt-ltb x (length (E.args ++ (ws ++ m.temps))) (omega (arith, lt, there, long, all)))
        ∙ ap go (ap (λ (k : ℕ). slice_set (E.args ++ (ws ++ m.temps)) k v) there ∙ set_behind E.args (ws ++ m.temps) (length ws + i) v ∙ ap (λ (l : List Word). E.args ++ l) (set_behind ws m.temps i v))

    pub set_goes : i < length m.temps → (v : Word) (vs : List Word) (r : List Item) → Goes E.site 1 w w m (thread (frame_of E m w) (v ∷ vs) (Do (LocalSet x) ∷ r)) (with_temp m i v) (at_work E (with_temp m i v) w vs r)
    set_goes lt v vs r = one_here E.site w m (with_temp m i v) (LocalSet x) (frame_of E m w) (v ∷ vs) r (thread (frame_of E (with_temp m i v) w) vs r) (set_temp lt v (v ∷ vs) vs r)

    pub get_temp : (v : Word) → slice_get m.temps i ≡ Some v → (vs : List Word) (r : List Item)
        → act (goes.store E.site m) (LocalGet x) (thread (frame_of E m w) vs r) ≡ step.Next (goes.store E.site m) (thread (frame_of E m w) (v ∷ vs) r) None
    get_temp v e vs r =
        ap (step.pushed (goes.store E.site m) (thread (frame_of E m w) vs r)) (ap (slice_get (E.args ++ (ws ++ m.temps))) there ∙ get_behind E.args (ws ++ m.temps) (length ws + i) ∙ get_behind ws m.temps i ∙ e)

  -- what waits stays where a local is set that isn't among the first of them
  pub set_stays : (now : Now) (os : List Object) (w : World) (m : Mem) (i : ℕ) (v : Word) → ((j : ℕ) → j < now.waits → i ≢ 4 + j) → KeptAs E now os w m → KeptAs E now os w (with_temp m i v)
  set_stays now os w m i v d k =
      kept_temps E now now.waits now.temps os w m (slice_set m.temps i v)
      (record { long = length_set m.temps i v ∙ k.temps.long; stay = λ j lt. set_elsewhere m.temps i (4 + j) v (d j lt) ∙ k.temps.stay j lt }) k

  -- ---- out of a loop, or of a switch

  switch_left : (j : Jumps) (d q b c : ℕ) (off : Off) → q < d → d ≤ E.waits → j.breaks ≡ true → FlowOut E (way j d (Some q) off) [] broken b c (leaves E.target (Some q) ⨾ one (Br b)) same
  switch_left j d q b c off lt room e n has small now le vs r br cr rr caller a dep w m more k ag =
      let i = 4 + q in
      let out = I32 no_group in
      let m' = with_temp m i out in
      let s = goes.store E.site m in
      let long = k.temps.long in
      let waits = le.waits in
      let t0 = thread (frame_of E m w) vs (front (constant W32 (negsuc 0) ∷ LocalSet (waiting E.target q) ∷ Br b ∷ []) r) in
      let t1 = thread (frame_of E m w) (out ∷ vs) (front (LocalSet (waiting E.target q) ∷ Br b ∷ []) r) in
      let t2 = thread (frame_of E m' w) vs (front (Br b ∷ []) r) in
      let inside : i < length m.temps = omega (arith, long, lt, room) in
      let push = one_here E.site w m m (constant W32 (negsuc 0)) (frame_of E m w) vs (front (LocalSet (waiting E.target q) ∷ Br b ∷ []) r) t1 refl in
      let put = set_goes w m k.held (waiting E.target q) i (waiting_is q) inside out vs (front (Br b ∷ []) r) in
      let jump = one_here E.site w m' m' (Br b) (frame_of E m' w) vs r (thread (frame_of E m' w) vs br) (ap (step.moved s) (a.breaks e (frame_of E m' w))) in
      let few : Now = record now { waits = q } in
      let os = ending w.locals off.broken w.objects in
      let k' : KeptAs E few os w m = kept_temps E now q now.temps os w m m.temps (record { long = k.temps.long; stay = λ h l. k.temps.stay h (omega (arith, l, lt, waits)) }) k in (
        m',
        ((e, set_there m.temps i out inside), set_stays few os w m i out (λ h l p. omega (arith, l, p)) k'),
        goes_on E.site 1 2 w w w m m m' t0 t1 (at_work E m' w vs br) push (goes_on E.site 1 1 w w w m m' m' t1 t2 (at_work E m' w vs br) put jump),
      )

  pub flow_leave : (j : Jumps) (d : ℕ) (o : Option ℕ) (b c : ℕ) (off : Off) → ((q : ℕ) → o ≡ Some q → q < d) → d ≤ E.waits → j.breaks ≡ true → FlowOut E (way j d o off) [] broken b c (leaves E.target o ⨾ one (Br b)) same
  flow_leave j d (Some q) b c off around room e = switch_left j d q b c off (around q refl) room e
  flow_leave j d None b c off around room e = flow_break E j d b c off e

-- ---- the group that is chosen: of labels that differ, the one that is equal, else what was there

module _ (bits' : ℕ) where
  abbrev pick_one : Option ℕ → (group other : ℕ) → ℕ
  pick_one None g other = other
  pick_one (Some n) g other = if bits' == n then g else other

  abbrev pub pick : List Case → ℕ → ℕ
  pick [] other = other
  pick (c ∷ cs) other = pick cs (pick_one c.label c.group other)

  none_at : (n : ℕ) → (bits' == n) ≡ true → (cs : List Case) → All (λ (y : Case). y.label ≡ Some n → ⊥) cs → group_at (Some bits') cs ≡ None
  none_at n e [] h = refl
  none_at n e (c ∷ cs) h = by c.label c.group (All-head (λ (y : Case). y.label ≡ Some n → ⊥) c cs h) (none_at n e cs (All-tail (λ (y : Case). y.label ≡ Some n → ⊥) c cs h)) where
    other : (m g : ℕ) → (Some m ≡ Some n → ⊥) → group_at (Some bits') cs ≡ None → (b : Bool) → (bits' == m) ≡ b → cond b (Some g) (group_at (Some bits') cs) ≡ None
    other m g d ih true q = absurd (d (ap Some (sym (eqb→eq bits' m (subst T (sym q) tt)) ∙ eqb→eq bits' n (subst T (sym e) tt))))
    other m g d ih false q = ih

    by : (l : Option ℕ) (g : ℕ) → (l ≡ Some n → ⊥) → group_at (Some bits') cs ≡ None → group_at (Some bits') (record { group = g; label = l } ∷ cs) ≡ None
    by None g d ih = ih
    by (Some m) g d ih = other m g d ih (bits' == m) refl

  pub pick_is : (cs : List Case) → AreDistinct cs → (other : ℕ) → pick cs other ≡ or_else (group_at (Some bits') cs) other
  pick_is [] d other = refl
  pick_is (c ∷ cs) d other = by c.label c.group d.0 (pick_is cs d.1) where
    chosen_so : (n g : ℕ) → All (λ (y : Case). y.label ≡ Some n → ⊥) cs → ((k : ℕ) → pick cs k ≡ or_else (group_at (Some bits') cs) k) → (b : Bool) → (bits' == n) ≡ b
        → pick cs (cond b g other) ≡ or_else (cond b (Some g) (group_at (Some bits') cs)) other
    chosen_so n g h ih true q = ih g ∙ ap (λ (o : Option ℕ). or_else o g) (none_at n q cs h)
    chosen_so n g h ih false q = ih other

    by : (l : Option ℕ) (g : ℕ) → All (λ (y : Case). y.label ≡ l → ⊥) cs → ((k : ℕ) → pick cs k ≡ or_else (group_at (Some bits') cs) k)
        → pick cs (pick_one l g other) ≡ or_else (group_at (Some bits') (record { group = g; label = l } ∷ cs)) other
    by None g h ih = ih other
    by (Some n) g h ih = chosen_so n g h ih (bits' == n) refl

-- a group of the switch, or what stands behind all
group_small : (u : IntType) (k : ℕ) (wanted : Option ℕ) (cs : List Case) → All (IsCase u k) cs → (n : ℕ) → n ≤ k → or_else (group_at wanted cs) n ≤ k
group_small u k wanted [] h n le = le
group_small u k wanted (c ∷ cs) h n le = by (is_label wanted c) (group_small u k wanted cs (All-tail (IsCase u k) c cs h) n le) where
  by : (b : Bool) → or_else (group_at wanted cs) n ≤ k → or_else (cond b (Some c.group) (group_at wanted cs)) n ≤ k
  by true ih = (All-head (IsCase u k) c cs h).0
  by false ih = ih

pub goes_small : (u : IntType) (k bits' : ℕ) (cs : List Case) → All (IsCase u k) cs → goes_to cs bits' k ≤ k
goes_small u k bits' cs h = group_small u k (Some bits') cs h (or_else (group_at None cs) k) (group_small u k None cs h k (omega arith))

-- ---- a label is equal where its bits are

same_by : (x y : ℤ) (p q r : Bool) → int_le x y ≡ q → int_le y x ≡ r → (p ≡ true → x ≡ y) → (x ≡ y → p ≡ true) → (q && r) ≡ p
same_by x y true true true eq er f g = refl
same_by x y true false r eq er f g = absurd (let e = f refl in omega (arith, ints, eq, e))
same_by x y true true false eq er f g = absurd (let e = f refl in omega (arith, ints, er, e))
same_by x y false true true eq er f g = sym (g (omega (arith, ints, eq, er)))
same_by x y false false r eq er f g = refl
same_by x y false true false eq er f g = refl

abbrev Back : IntType → Type 0
Back u = (n : ℕ) → n < 2 ^ bits u → bits_of u (value_of u n) ≡ n

bits_back : (u : IntType) → IsPromoted u → Back u
bits_back = by_type Back (back true W32) (back false W32) (back true W32) (back false W32) (back true W64) (back false W64)

differs_is : (u : IntType) → IsPromoted u → (z : ℤ) (n : ℕ) → IsIn u z → n < 2 ^ bits u → compared NotEqual z (value_of u n) ≡ not (bits_of u z == n)
differs_is u pr z n i lt =
    ap not
    (same_by z (value_of u n) (bits_of u z == n) (int_le z (value_of u n)) (int_le (value_of u n) z) refl refl
    (λ e. sym i ∙ ap (value_of u) (eqb→eq (bits_of u z) n (subst T (sym e) tt)))
    (λ e. eq-eqb (bits_of u z) n (ap (bits_of u) e ∙ bits_back u pr n lt)))

wrapped_small : (n : ℕ) → n < 2 ^ 32 → wrapped 32 (pos n) ≡ n
wrapped_small n lt = omega arith

-- ---- instructions in a row, in one state of the locals

module _ (E : Env) (w : World) (m : Mem) where
  abbrev Row : List Instr → (before after : List Word) → Type 0
  Row is us vs = (r : List Item) → Goes E.site (length is) w w m (at_work E m w us (front is r)) m (at_work E m w vs r)

  row_none : (us : List Word) → Row [] us us
  row_none us r = stays E.site w m (at_work E m w us r)

  row_one : (i : Instr) (us vs : List Word) → ((r : List Item) → act (goes.store E.site m) i (thread (frame_of E m w) us r) ≡ step.Next (goes.store E.site m) (thread (frame_of E m w) vs r) None) → Row (i ∷ []) us vs
  row_one i us vs e r = one_here E.site w m m i (frame_of E m w) us r (thread (frame_of E m w) vs r) (e r)

  row_then : (a b : List Instr) (us vs xs : List Word) → Row a us vs → Row b vs xs → Row (a ++ b) us xs
  row_then a b us vs xs ra rb r =
      let long = length-append a b in
      subst (λ (q : List Item). Goes E.site (length (a ++ b)) w w m (at_work E m w us q) m (at_work E m w xs r)) (sym (front_append a b r))
      (sized E.site (length a + length b) (length (a ++ b)) w w m m (at_work E m w us (front a (front b r))) (at_work E m w xs r) (omega (arith, long))
      (goes_on E.site (length a) (length b) w w w m m m (at_work E m w us (front a (front b r))) (at_work E m w vs (front b r)) (at_work E m w xs r) (ra (front b r)) (rb r)))

  row_carried : (i : Instr) (us vs : List Word) → carried i us ≡ operate.Gives vs → Row (i ∷ []) us vs
  row_carried i us vs e = row_one i us vs (λ r. carried_is E i m (frame_of E m w) us vs r e)

  row_number : (n : ℕ) (vs : List Word) → Row (i32 n ∷ []) vs (I32 (wrapped 32 (pos n)) ∷ vs)
  row_number n vs = row_carried (i32 n) vs (I32 (wrapped 32 (pos n)) ∷ vs) (constant_is W32 (pos n) vs)

  row_select : (b : Bool) (g other : ℕ) (vs : List Word)
      → Row (Select ∷ []) (word Int (from_truth (not b)) ∷ I32 (wrapped 32 (pos g)) ∷ I32 (wrapped 32 (pos other)) ∷ vs) (I32 (wrapped 32 (pos (if b then g else other))) ∷ vs)
  row_select true g other vs = row_one Select _ _ (λ r. refl)
  row_select false g other vs = row_one Select _ _ (λ r. refl)

  -- ---- the choice among the labels, of a number that stands in a local

  module _ (held : Holds E m w) (x i : ℕ) (is : IsTemp E x i) (u : IntType) (pr : IsPromoted u) (z : ℤ) (in_u : IsIn u z) (there : slice_get m.temps i ≡ Some (word u z)) where
    abbrev Num : ℕ → Word
    Num n = I32 (wrapped 32 (pos n))

    one_label : (n g other : ℕ) → n < 2 ^ bits u → (vs : List Word)
        → Row (i32 g ∷ LocalGet x ∷ constant (width_of u) (value_of u n) ∷ rel (width_of u) rels.Ne ∷ Select ∷ []) (Num other ∷ vs) (Num (if bits_of u z == n then g else other) ∷ vs)
    one_label n g other lt vs =
        let v = value_of u n in
        let us = Num g ∷ Num other ∷ vs in
        row_then (i32 g ∷ []) (LocalGet x ∷ constant (width_of u) v ∷ rel (width_of u) rels.Ne ∷ Select ∷ []) (Num other ∷ vs) us _ (row_number g (Num other ∷ vs))
        (row_then (LocalGet x ∷ []) (constant (width_of u) v ∷ rel (width_of u) rels.Ne ∷ Select ∷ []) us (word u z ∷ us) _ (row_one (LocalGet x) us (word u z ∷ us) (λ r. get_temp E w m held x i is (word u z) there us r))
        (row_then (constant (width_of u) v ∷ []) (rel (width_of u) rels.Ne ∷ Select ∷ []) (word u z ∷ us) (word u v ∷ word u z ∷ us) _ (row_carried (constant (width_of u) v) (word u z ∷ us) (word u v ∷ word u z ∷ us) (constant_is (width_of u) v (word u z ∷ us)))
        (row_then (rel (width_of u) rels.Ne ∷ []) (Select ∷ []) (word u v ∷ word u z ∷ us) (word Int (from_truth (not (bits_of u z == n))) ∷ us) _
        (row_carried (rel (width_of u) rels.Ne) (word u v ∷ word u z ∷ us) (word Int (from_truth (not (bits_of u z == n))) ∷ us)
        (comparison NotEqual u pr z v us in_u (value_in u n lt) ∙ ap (λ (b : Bool). operate.Gives (word Int (from_truth b) ∷ us)) (differs_is u pr z n in_u lt)))
        (row_select (bits_of u z == n) g other vs))))

    abbrev Chosen : List Case → ℕ → ℕ → Type 0
    Chosen cs n other = (vs : List Word) → Row (chosen E.target u x cs n).instrs (Num other ∷ vs) (Num (pick (bits_of u z) cs other) ∷ vs)

    with_label : (k : ℕ) (l : Option ℕ) (g : ℕ) (cs : List Case) → IsLabel u l → (n other : ℕ) → ((other' : ℕ) → Chosen cs (n + 0) other') → Chosen (record { group = g; label = l } ∷ cs) n other
    with_label k None g cs h n other ih vs = ih other vs
    with_label k (Some q) g cs h n other ih vs =
        row_then (i32 g ∷ LocalGet x ∷ constant (width_of u) (value_of u q) ∷ rel (width_of u) rels.Ne ∷ Select ∷ []) (chosen E.target u x cs (n + 0)).instrs (Num other ∷ vs) (Num (if bits_of u z == q then g else other) ∷ vs) _
        (one_label q g other h vs) (ih (if bits_of u z == q then g else other) vs)

    pub chosen_row : (k : ℕ) (cs : List Case) → All (IsCase u k) cs → (n other : ℕ) → Chosen cs n other
    chosen_row k [] h n other = λ vs. row_none (Num other ∷ vs)
    chosen_row k (c ∷ cs) h n other =
        with_label k c.label c.group cs (All-head (IsCase u k) c cs h).1 n other (λ other'. chosen_row k cs (All-tail (IsCase u k) c cs h) (n + 0) other')

-- ---- flows that go on where a group waits

-- `break` leaves the switch
abbrev pub switched : Does Flow → Does Flow
switched x = x >>= (λ f. pure (behind_switch f))

-- this group first, or what follows but for so many
abbrev pub from_group : Does Flow → (ℕ → Does Flow) → ℕ → Does Flow
from_group x more zero = x >>= followed (more zero)
from_group x more (suc k) = more k

-- what follows a group
abbrev on_flow : Does Flow → Flow → Does Flow
on_flow more next = switched more
on_flow more broken = pure next
on_flow more continued = pure continued
on_flow more (returned v) = pure (returned v)

on_flow_is : (more : Does Flow) (f : Flow) (w : World) → on_flow more f w ≡ switched (followed more f) w
on_flow_is more next w = refl
on_flow_is more broken w = refl
on_flow_is more continued w = refl
on_flow_is more (returned v) w = refl

meaning_is : (x : Does Flow) (more : ℕ → Does Flow) (w : World) (g i : ℕ) (b : Bool) → nat_le g i ≡ b
    → after ((if b then x else pure next) w) (on_flow (more (g - suc i))) ≡ switched (from_group x more (g - i)) w
meaning_is x more w g i true e =
    let le = leb→le g i (subst T (sym e) tt) in
    let z : g - suc i ≡ 0 = omega (arith, le) in
    let y : 0 ≡ g - i = omega (arith, le) in
    ap (λ (k : ℕ). after (x w) (on_flow (more k))) z ∙ ap (λ (h : Flow → Does Flow). after (x w) h) (λ j f w1. on_flow_is (more 0) f w1 j)
    ∙ sym (after_after (x w) (followed (more 0)) (λ f. pure (behind_switch f))) ∙ ap (λ (k : ℕ). switched (from_group x more k) w) y
meaning_is x more w g i false e =
    let above = leb-false g i e in
    let z : suc (g - suc i) ≡ g - i = omega (arith, above) in
    ap (λ (k : ℕ). switched (from_group x more k) w) z

truth_test : (E : Env) (b : Bool) → IsTest E (truth b) b
truth_test E true = is_yes 0 refl refl
truth_test E false = is_no refl refl

module _ (E : Env) where
  -- the number of the group waits behind the values that wait already
  abbrev pub HeldRuns : (g : ℕ) → (l : Way) (b c : ℕ) → Code → Does Flow → Type 0
  HeldRuns g l b c code x =
      (n : ℕ) → HasAll E.site.funcs E.fn n (code n).seqs → size_of (code n) ≤ E.site.most → (now : Now) → IsAt E l.depth now
      → (vs : List Word) (r br cr rr : List Item) (caller : Frame) → Around E vs r b c l br cr rr caller → depth_of r ≡ E.depth → (w : World) (m : Mem) → Kept E now w m
      → slice_get m.temps (4 + l.depth) ≡ Some (I32 g)
      → Runs E.site (size_of (code n)) m (at_work E m w vs (front (code n).instrs r)) w (to_flow E vs r br cr rr caller) (GoodFlow E l now) (x w)

  -- from here on, so many values wait
  abbrev inner : (n : ℕ) → Mem → Now → Now
  inner n m now = record now { waits = n; temps = m.temps }

  kept_in : (now : Now) (n : ℕ) (os : List Object) (w : World) (m : Mem) → KeptAs E now os w m → KeptAs E (inner n m now) os w m
  kept_in now n os w m k = kept_temps E now n m.temps os w m m.temps (record { long = k.temps.long; stay = λ j l. refl }) k

  kept_out : (now : Now) (n : ℕ) (os : List Object) (m : Mem) (w1 : World) (m1 : Mem) → now.waits ≤ n → Temps E.waits now.waits now.temps m.temps → KeptAs E (inner n m now) os w1 m1 → KeptAs E now os w1 m1
  kept_out now n os m w1 m1 le t k =
      kept_temps E (inner n m now) now.waits now.temps os w1 m1 m1.temps (record { long = k.temps.long; stay = λ j lt. k.temps.stay j (omega (arith, lt, le)) ∙ t.stay j lt }) k

  pub held_behind : {A : Type 0} (g : ℕ) (l : Way) (b c : ℕ) (x y : Code) (Ok : A → Type 0) (e : Does A) (f : A → Does Flow)
      → Op (beside (suc l.depth) E) x same (gone E) Ok e → ((v : A) → Ok v → HeldRuns g l b c y (f v)) → HeldRuns g l b c (x ⨾ y) (e >>= f)
  held_behind g l b c x y Ok e f rx ry n has small now le vs r br cr rr caller a dep w m k held =
      let cx = x n in
      let n' = n + length cx.seqs in
      let cy = y n' in
      let to = to_flow E vs r br cr rr caller in
      let now' = inner (suc l.depth) m now in
      let waits = le.waits in
      subst (λ (s : ℕ). Runs E.site s m (at_work E m w vs (front (cx.instrs ++ cy.instrs) r)) w to (GoodFlow E l now) (after (e w) f)) (size_joined cx cy)
      (subst (λ (q : List Item). Runs E.site (size_of cx + size_of cy) m (at_work E m w vs q) w to (GoodFlow E l now) (after (e w) f)) (sym (front_append cx.instrs cy.instrs r))
      (bind E.site (size_of cx) (size_of cy) m (at_work E m w vs (front cx.instrs (front cy.instrs r))) w (To_ E (gone E) vs (front cy.instrs r)) (Good E Ok now') to (GoodFlow E l now) (e w) f
      (rx n (has_front E.site.funcs E.fn n cx.seqs cy.seqs has) now' (starts E (suc l.depth) now' (record { below = le.below; waits = refl; seen = le.seen })) vs (front cy.instrs r) (depth_front cy.instrs r ∙ dep) w m (kept_in now (suc l.depth) w.objects w m k))
      (λ v w1 m1 q. ry v q.0 n' (has_back E.site.funcs E.fn n cx.seqs cy.seqs has) (let s = size_joined cx cy in omega (arith, s, small)) now le vs r br cr rr caller a dep w1 m1
      (kept_out now (suc l.depth) w1.objects m w1 m1 (omega (arith, waits)) k.temps q.1) (q.1.temps.stay l.depth (omega arith) ∙ held))))

  -- ---- a group

  module _ (j : Jumps) (d : ℕ) (o : Option ℕ) (off : Off) (b c : ℕ) where
    abbrev l : Way
    l = way j d o off

    -- `break` leaves none of the blocks around the switch
    abbrev lg : Way
    lg = way (in_switch j) (suc d) (Some d) (record off { broken = [] })

    abbrev code_of : ℕ → Code → Code
    code_of i body = group_from E.target (waiting E.target d) i body

    abbrev tests : ℕ → List Instr
    tests i = LocalGet (waiting E.target d) ∷ i32 i ∷ rel W32 rels.LeU ∷ []

    test_row : (i g : ℕ) → i < 2 ^ 32 → (w : World) (m : Mem) → Holds E m w → slice_get m.temps (4 + d) ≡ Some (I32 g) → (vs : List Word) → Row E w m (tests i) vs (I32 (truth (nat_le g i)) ∷ vs)
    test_row i g lt w m held is vs =
        let x = waiting E.target d in
        row_then E w m (LocalGet x ∷ []) (i32 i ∷ rel W32 rels.LeU ∷ []) vs (I32 g ∷ vs) _ (row_one E w m (LocalGet x) vs (I32 g ∷ vs) (λ r. get_temp E w m held x (4 + d) (waiting_is E d) (I32 g) is vs r))
        (row_then E w m (i32 i ∷ []) (rel W32 rels.LeU ∷ []) (I32 g ∷ vs) (I32 (wrapped 32 (pos i)) ∷ I32 g ∷ vs) _ (row_number E w m i (I32 g ∷ vs))
        (row_carried E w m (rel W32 rels.LeU) (I32 (wrapped 32 (pos i)) ∷ I32 g ∷ vs) (I32 (truth (nat_le g i)) ∷ vs) (ap (λ (q : ℕ). operate.Gives (I32 (truth (nat_le g q)) ∷ vs)) (wrapped_small i lt))))

    module _ (i : ℕ) (lt : i < 2 ^ 32) (body : Code) (mx : Does Flow) (rx : FlowRuns E lg 0 (suc c) body same mx) where
      group_runs : (g n : ℕ) → HasAll E.site.funcs E.fn n (code_of i body n).seqs → size_of (code_of i body n) ≤ E.site.most → (now : Now) → IsAt E d now
          → (vs : List Word) (r br cr rr : List Item) (caller : Frame) → Around E vs r b c l br cr rr caller → depth_of r ≡ E.depth → (w : World) (m : Mem) → Kept E now w m
          → slice_get m.temps (4 + d) ≡ Some (I32 g)
          → Runs E.site (size_of (code_of i body n)) m (at_work E m w vs (front (code_of i body n).instrs r)) w (to_flow E vs r r cr rr caller) (GoodFlow E lg (inner (suc d) m now)) ((if nat_le g i then mx else pure next) w)
      group_runs g n has small now le vs r br cr rr caller a dep w m k held =
          let n0 = n + 0 in
          let pick' = choice None body no_code in
          let cp = pick' n0 in
          let t = nat_le g i in
          let now' = inner (suc d) m now in
          let to = to_flow E vs r r cr rr caller in
          let r' = Label None (length vs) None ∷ r in
          let same_to : to_flow E vs r' r cr rr caller ≡ to = λ h f w1 m1. in_label E None (length vs) None vs r r cr rr caller f w1 m1 h in
          let k' = kept_in now (suc d) w.objects w m k in
          let sizes = size_joined (plain (tests i) n) cp in
          let parts = total_append (Rattle.ms_emit.specs.Codes.inner (body (suc n0))) [] in
          let around : Around E vs r' 0 (suc c) lg r cr rr caller = record { breaks = λ e fr. ap (λ (q : Option (List Word)). kept q fr r) (lowest_all vs); continues = a.continues; returns = a.returns } in
          subst (λ (s : ℕ). Runs E.site s m (at_work E m w vs (front (tests i ++ cp.instrs) r)) w to (GoodFlow E lg now') ((if t then mx else pure next) w)) sizes
          (behind_goes E.site 3 (size_of cp) w w m m (at_work E m w vs (front (tests i) (front cp.instrs r))) (at_work E m w (I32 (truth t) ∷ vs) (front cp.instrs r)) to (GoodFlow E lg now') ((if t then mx else pure next) w)
          (test_row i g lt w m k.held held vs (front cp.instrs r))
          (subst (λ (y : Result Flow). Runs E.site (size_of cp) m (at_work E m w (I32 (truth t) ∷ vs) (front cp.instrs r)) w to (GoodFlow E lg now') y) (choice_at E t mx (pure next) w)
          (runs_choice E None body no_code n0 (truth t) t vs r w m to (GoodFlow E lg now') (mx w) (gives next w) (λ q e. refl) (truth_test E t) (has_back E.site.funcs E.fn n [] cp.seqs has)
          (λ h. subst (λ (q : Flow → World → Mem → Thread). Runs E.site (size_of (body (suc n0))) m (at_work E m w vs (front (body (suc n0)).instrs r')) w q (GoodFlow E lg now') (mx w)) same_to
          (rx (suc n0) h (omega (arith, sizes, parts, small)) now' (record { below = le.below; waits = refl; seen = le.seen }) vs r' r cr rr caller around dep w m k'))
          (λ h. here E.site 0 w m to (GoodFlow E lg now') next (tt, k')))))

      -- and the groups that follow
      module _ (rest : Code) (more : ℕ → Does Flow) (below : suc i ≤ no_group) (never : more (no_group - suc i) ≡ pure next)
          (ry : (g : ℕ) → g ≤ no_group → HeldRuns g l b c rest (switched (more (g - suc i)))) where
        pub group_then : (g : ℕ) → g ≤ no_group → HeldRuns g l b c (code_of i body ⨾ rest) (switched (from_group mx more (g - i)))
        group_then g few n has small now le vs r br cr rr caller a dep w m k held =
            let cg = code_of i body n in
            let n' = n + length cg.seqs in
            let cy = rest n' in
            let R = front cy.instrs r in
            let to = to_flow E vs r br cr rr caller in
            let sizes = size_joined cg cy in
            let x = λ (t : Bool). if t then mx else pure next in
            subst (λ (y : Result Flow). Runs E.site (size_of ((code_of i body ⨾ rest) n)) m (at_work E m w vs (front ((code_of i body ⨾ rest) n).instrs r)) w to (GoodFlow E l now) y) (meaning_is mx more w g i (nat_le g i) refl)
            (subst (λ (s : ℕ). Runs E.site s m (at_work E m w vs (front (cg.instrs ++ cy.instrs) r)) w to (GoodFlow E l now) (after (x (nat_le g i) w) (on_flow (more (g - suc i))))) sizes
            (subst (λ (q : List Item). Runs E.site (size_of cg + size_of cy) m (at_work E m w vs q) w to (GoodFlow E l now) (after (x (nat_le g i) w) (on_flow (more (g - suc i))))) (sym (front_append cg.instrs cy.instrs r))
            (bind E.site (size_of cg) (size_of cy) m (at_work E m w vs (front cg.instrs R)) w (to_flow E vs R R cr rr caller) (GoodFlow E lg (inner (suc d) m now)) to (GoodFlow E l now) (x (nat_le g i) w) (on_flow (more (g - suc i)))
            (group_runs g n (has_front E.site.funcs E.fn n cg.seqs cy.seqs has) (omega (arith, sizes, small)) now le vs R br cr rr caller (around_front E cy.instrs vs r b c l br cr rr caller a) (depth_front cy.instrs r ∙ dep) w m k held)
            on)))
          where
            waits : now.waits ≡ d
            waits = le.waits

            goes_on_with : (g' : ℕ) → g' ≤ no_group → (w1 : World) (m1 : Mem) → Kept E now w1 m1 → slice_get m1.temps (4 + d) ≡ Some (I32 g')
                → Runs E.site (size_of (rest (n + length (code_of i body n).seqs))) m1 (at_work E m1 w1 vs (front (rest (n + length (code_of i body n).seqs)).instrs r)) w1 (to_flow E vs r br cr rr caller) (GoodFlow E l now) (switched (more (g' - suc i)) w1)
            goes_on_with g' few' w1 m1 k1 held1 =
                let sizes = size_joined (code_of i body n) (rest (n + length (code_of i body n).seqs)) in
                ry g' few' (n + length (code_of i body n).seqs) (has_back E.site.funcs E.fn n (code_of i body n).seqs (rest (n + length (code_of i body n).seqs)).seqs has) (omega (arith, sizes, small)) now le vs r br cr rr caller a dep w1 m1 k1 held1

            on : (f : Flow) (w1 : World) (m1 : Mem) → GoodFlow E lg (inner (suc d) m now) f w1 m1
                → Runs E.site (size_of (rest (n + length (code_of i body n).seqs))) m1
                (to_flow E vs (front (rest (n + length (code_of i body n).seqs)).instrs r) (front (rest (n + length (code_of i body n).seqs)).instrs r) cr rr caller f w1 m1) w1
                (to_flow E vs r br cr rr caller) (GoodFlow E l now) (on_flow (more (g - suc i)) f w1)
            on next w1 m1 q = goes_on_with g few w1 m1 (kept_out now (suc d) w1.objects m w1 m1 (omega (arith, waits)) k.temps q.1) (q.1.temps.stay d (omega arith) ∙ held)
            on broken w1 m1 q =
                subst (λ (y : Does Flow). Runs E.site (size_of (rest (n + length (code_of i body n).seqs))) m1 (at_work E m1 w1 vs (front (rest (n + length (code_of i body n).seqs)).instrs r)) w1 (to_flow E vs r br cr rr caller) (GoodFlow E l now) (switched y w1)) never
                (goes_on_with no_group (omega arith) w1 m1 (kept_out now d w1.objects m w1 m1 (omega (arith, waits)) k.temps q.1) q.0.1)
            on continued w1 m1 q = here E.site (size_of (rest (n + length (code_of i body n).seqs))) w1 m1 (to_flow E vs r br cr rr caller) (GoodFlow E l now) continued (q.0, kept_out now (suc d) (ending w1.locals off.continued w1.objects) m w1 m1 (omega (arith, waits)) k.temps q.1)
            on (returned v) w1 m1 q = here E.site (size_of (rest (n + length (code_of i body n).seqs))) w1 m1 (to_flow E vs r br cr rr caller) (GoodFlow E l now) (returned v) (q.0, kept_out now (suc d) (ending w1.locals off.returned w1.objects) m w1 m1 (omega (arith, waits)) k.temps q.1)

  -- ---- the choice of the group, and what goes on with it

  abbrev scratch_in : Width → ℕ
  scratch_in W32 = 0
  scratch_in W64 = 1

  scratch_at : (wd : Width) → IsTemp E (scratch_of_width E.target wd) (scratch_in wd)
  scratch_at W32 = let e = E.scratch_is in omega (arith, e)
  scratch_at W64 = let e = E.scratch_is in omega (arith, e)

  scratch_few : (wd : Width) → scratch_in wd < 4
  scratch_few W32 = omega arith
  scratch_few W64 = omega arith

  module _ (u : IntType) (pr : IsPromoted u) (k : ℕ) (cases : List Case) (are : All (IsCase u k) cases) (differ : AreDistinct cases) (few : k ≤ no_group) (d : ℕ) (room : suc d ≤ E.waits) where
    abbrev default : ℕ
    default = or_else (group_at None cases) k

    abbrev x : ℕ
    x = scratch_of_width E.target (width_of u)

    abbrev y : ℕ
    y = waiting E.target d

    abbrev behind_value : Code
    behind_value = plain (LocalSet x ∷ i32 default ∷ []) ⨾ chosen E.target u x cases ⨾ one (LocalSet y)

    module _ (z : ℤ) (in_u : IsIn u z) (now : Now) (waits : now.waits ≡ d) (w : World) (m : Mem) (kept : Kept E now w m) where
      abbrev i : ℕ
      i = scratch_in (width_of u)

      abbrev m1 : Mem
      m1 = with_temp E m i (word u z)

      abbrev g : ℕ
      g = pick (bits_of u z) cases default

      abbrev pub m2 : Mem
      m2 = with_temp E m1 (4 + d) (I32 (wrapped 32 (pos g)))

      long : length m.temps ≡ 4 + E.waits
      long = kept.temps.long

      inside : i < length m.temps
      inside = let s = scratch_few (width_of u) in let e = long in omega (arith, s, e)

      waits_inside : 4 + d < length m1.temps
      waits_inside = let e = length_set m.temps i (word u z) in let e' = long in omega (arith, e, e', room)

      pub chosen_goes : (n : ℕ) (vs : List Word) (r : List Item) → Goes E.site (size_of (behind_value n)) w w m (at_work E m w (word u z ∷ vs) (front (behind_value n).instrs r)) m2 (at_work E m2 w vs r)
      chosen_goes n vs r =
          let ch = (chosen E.target u x cases (n + 0)).instrs in
          let is = i32 default ∷ ch in
          let r1 = Do (LocalSet y) ∷ r in
          let top = I32 (wrapped 32 (pos g)) in
          let t0 = thread (frame_of E m w) (word u z ∷ vs) (Do (LocalSet x) ∷ front is r1) in
          let row = row_then E w m1 (i32 default ∷ []) ch vs (I32 (wrapped 32 (pos default)) ∷ vs) (top ∷ vs) (row_number E w m1 default vs)
          (chosen_row E w m1 kept.held x i (scratch_at (width_of u)) u pr z in_u (set_there m.temps i (word u z) inside) k cases are (n + 0) default vs) in
          let sizes = length-append ch (LocalSet y ∷ []) in
          subst (λ (q : List Item). Goes E.site (size_of (behind_value n)) w w m (at_work E m w (word u z ∷ vs) (Do (LocalSet x) ∷ q)) m2 (at_work E m2 w vs r)) (sym (front_append is (LocalSet y ∷ []) r))
          (sized E.site (1 + (length is + 1)) (size_of (behind_value n)) w w m m2 t0 (at_work E m2 w vs r) (omega (arith, sizes))
          (goes_on E.site 1 (length is + 1) w w w m m1 m2 t0 (at_work E m1 w vs (front is r1)) (at_work E m2 w vs r)
          (set_goes E w m kept.held x i (scratch_at (width_of u)) inside (word u z) vs (front is r1))
          (goes_on E.site (length is) 1 w w w m1 m1 m2 (at_work E m1 w vs (front is r1)) (at_work E m1 w (top ∷ vs) r1) (at_work E m2 w vs r) (row r1)
          (set_goes E w m1 kept.held y (4 + d) (waiting_is E d) waits_inside top vs r))))

      pub chosen_kept : Kept E now w m2
      chosen_kept =
          let s = scratch_few (width_of u) in
          set_stays E now w.objects w m1 (4 + d) (I32 (wrapped 32 (pos g))) (λ h l e. omega (arith, l, e, waits))
          (set_stays E now w.objects w m i (word u z) (λ h l e. omega (arith, l, e, s)) kept)

      pub chosen_held : slice_get m2.temps (4 + d) ≡ Some (I32 (goes_to cases (bits_of u z) k))
      chosen_held =
          let is = pick_is (bits_of u z) cases differ default in
          let small = goes_small u k (bits_of u z) cases are in
          set_there m1.temps (4 + d) (I32 (wrapped 32 (pos g))) waits_inside
          ∙ ap (λ (q : ℕ). Some (I32 q)) (wrapped_small g (omega (arith, is, small, few)) ∙ is)

    pub switch_runs : (ce : Code) (ev : Does Value) → Leaves (beside d E) ce (integer u) ev → (j : Jumps) (o : Option ℕ) (off : Off) (b c : ℕ) (rest : Code) (M : ℤ → Does Flow)
        → ((z : ℤ) → IsIn u z → HeldRuns (goes_to cases (bits_of u z) k) (way j d o off) b c rest (M z))
        → FlowRuns E (way j d o off) b c (selected E.target u x y cases k ce ⨾ rest) same (meaning.integer ev >>= M)
    switch_runs ce ev re j o off b c rest M ry n has small now le vs r br cr rr caller a dep w m kp =
        let l' = way j d o off in
        let c1 = ce n in
        let n1 = n + length c1.seqs in
        let c2 = behind_value n1 in
        let sel = selected E.target u x y cases k ce n in
        let n2 = n + length sel.seqs in
        let c3 = rest n2 in
        let R = front c3.instrs r in
        let to = to_flow E vs r br cr rr caller in
        let sizes = size_joined sel c3 in
        let sizes' = size_joined c1 c2 in
        let start = at_work E m w vs (front c1.instrs (front c2.instrs R)) in
        let hasS = has_front E.site.funcs E.fn n sel.seqs c3.seqs has in
        subst (λ (s : ℕ). Runs E.site s m (at_work E m w vs (front (sel.instrs ++ c3.instrs) r)) w to (GoodFlow E l' now) ((meaning.integer ev >>= M) w)) sizes
        (subst (λ (q : List Item). Runs E.site (size_of sel + size_of c3) m (at_work E m w vs q) w to (GoodFlow E l' now) ((meaning.integer ev >>= M) w)) (sym (front_append sel.instrs c3.instrs r ∙ front_append c1.instrs c2.instrs R))
        (resize E.site (size_of c1 + (size_of c2 + size_of c3)) (size_of sel + size_of c3) m start w to (GoodFlow E l' now) ((meaning.integer ev >>= M) w) (omega (arith, sizes'))
        (subst (λ (q : Result Flow). Runs E.site (size_of c1 + (size_of c2 + size_of c3)) m start w to (GoodFlow E l' now) q) (sym (after_after (ev w) as_number M))
        (bind E.site (size_of c1) (size_of c2 + size_of c3) m start w (ToIn E (pushes E (integer u)) vs (front c2.instrs R)) (GoodIn E (IsValue E (integer u)) now) to (GoodFlow E l' now) (ev w) (λ v. as_number v >>= M)
        (re n (has_front E.site.funcs E.fn n c1.seqs c2.seqs hasS) now (starts E d now le) vs (front c2.instrs R) (depth_front c2.instrs R ∙ depth_front c3.instrs r ∙ dep) w m kp)
        (λ v w1 m1 q.
        of_number E u (λ v. Runs E.site (size_of c2 + size_of c3) m1 (at_work E m1 w1 (pushes E (integer u) m1.homes v vs) (front c2.instrs R)) w1 to (GoodFlow E l' now) ((as_number v >>= M) w1))
        (λ z i.
        let m3 = m2 z i now le.waits w1 m1 q.1 in
        behind_goes E.site (size_of c2) (size_of c3) w1 w1 m1 m3 (at_work E m1 w1 (word u z ∷ vs) (front c2.instrs R)) (at_work E m3 w1 vs R) to (GoodFlow E l' now) (M z w1) (chosen_goes z i now le.waits w1 m1 q.1 n1 vs R)
        (ry z i n2 (has_back E.site.funcs E.fn n sel.seqs c3.seqs has) (omega (arith, sizes, small)) now le vs r br cr rr caller a dep w1 m3 (chosen_kept z i now le.waits w1 m1 q.1) (chosen_held z i now le.waits w1 m1 q.1)))
        v q.0)))))
