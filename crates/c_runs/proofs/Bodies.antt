-- A body, and what stands behind it: a result that is missing is 0, and the caller goes on with the result.
use Rattle.ms_machine.specs.Running.{AreBytes}
use Rattle.std.proofs.Common.{◌≡◌, ℕ, suc, ◌+◌, ◌<◌, ◌≤◌, List, [], ◌∷◌, ◌++◌, length, Bool, true, false, Option, Some, None, refl, sym, ap, ◌∙◌, arith, subst}
use Rattle.std.specs.Prelude.{pos, if◌then◌else◌}
use Rattle.ms_linear.specs.declared.value.Value.{Value as Word}
use Rattle.ms_task.specs.Control.{To, exit_ended, keep, kept, over}
use Rattle.ms_task.specs.Thread.{Activation, Frame, Item, Thread, thread, depth_of}
use Rattle.ms_task.proofs.Items.{return_past}
use Rattle.c_types.specs.declared.integers.IntType.{IntType}
use Rattle.c_types.specs.declared.types.Scalar.{Scalar}
use Rattle.c_types.specs.declared.types.Scalar.TheVariants as scalars
use Rattle.c_types.specs.Types.{Ty, void, integer, pointer, is_function, scalar_of}
use Rattle.c_typed.specs.Statements.{no_jumps}
use Rattle.c_meaning.specs.Functions.{given}
use Rattle.c_meaning.specs.Statements.{Flow, next, broken, continued, returned}
use Rattle.c_meaning.specs.Values.{Value, null, no_function, number, zero_value}
use Rattle.c_meaning.specs.World.{World, gives, Does, ◌>>=◌, pure}
use Rattle.ms_emit.specs.Codes.{Code, one, ◌⨾◌, size_of}
use Rattle.c_code.specs.Functions.{result}
use Rattle.c_code.specs.Operations.{constant, val_of, width_of}
use Rattle.c_numbers.proofs.Conversions.{constant_is}
use Rattle.c_runs.proofs.Goes.{Mem, Runs, bind, here}
use Rattle.ms_relate.specs.refinement.Homes.{Home}
use Rattle.ms_relate.specs.refinement.Relation.{Related}
use Rattle.ms_relate.proofs.Growing.{Extends}
use Rattle.c_runs.specs.Words.{pushed, value_word}
use Rattle.c_runs.proofs.Held.{Lasts}
use Rattle.c_runs.proofs.Values.{IsOf, word_of}
use Rattle.c_runs.proofs.Related.{Env, FiledIn, HasAll, IsValue, Kept, Now, pushes, depth_front, front, front_append, has_front, beside}
use Rattle.c_runs.proofs.Ops.{Op, at_work, op_carried, same, size_joined}
use Rattle.c_runs.proofs.Flows.{Around, FlowAt, GoodFlow, IsAt, Way, lowest_all, starts, to_flow, way}
use Rattle.c_runs.proofs.Functions.{no_function_runs}
use Rattle.c_runs.proofs.Scalars.{null_runs, zero_in}
use Rattle.c_runs.proofs.Stmts.{no_off}

-- no value, an integer, or a pointer
pub data IsResult (t : Ty) : Type 0 where
  is_void : t ≡ void → IsResult t
  is_integer : (u : IntType) → t ≡ integer u → IsResult t
  is_pointer : (s : Ty) → t ≡ pointer s → IsResult t

-- a result without a pointer
-- the body of a function: no jump leads out of it, and no value waits
abbrev pub at_top : Way
at_top = way no_jumps 0 None no_off

module _ (E : Env) (is_result : IsResult E.result) (caller : Frame) (vs : List Word) (r : List Item) (dep : suc (depth_of r) ≡ E.depth) where
  abbrev t : Ty
  t = E.result

  abbrev pub after_body : List Item
  after_body = Activation (val_of t) (length vs) caller ∷ r

  abbrev pub to_caller : Value → World → Mem → Thread
  to_caller v w m = exit_ended caller (pushes E t m.homes v vs) r

  abbrev pub Returned : Now → Value → World → Mem → Type 0
  Returned now v w m = IsValue E t m.homes v × (w.fuel < now.below) × AreBytes w.input × Extends now.homes m.homes × Related E.unit.structs E.places m.homes w.objects m.segments × Lasts now.objects w.objects × FiledIn E w m

  abbrev R : Code
  R = result E.target (scalar_of t)

  abbrev Kept_at : Ty → List Home → Value → Type 0
  Kept_at s hs v = kept (keep (val_of s) (length vs) (pushes E s hs v vs)) caller r ≡ To (thread caller (pushes E s hs v vs) r)

  kept_is : (hs : List Home) (v : Value) → Kept_at t hs v
  kept_is hs v = go is_result where
    go : IsResult t → Kept_at t hs v
    go (is_void e) = subst (λ (s : Ty). Kept_at s hs v) (sym e) (ap (λ (o : Option (List Word)). kept o caller r) (lowest_all vs))
    go (is_integer u e) = subst (λ (s : Ty). Kept_at s hs v) (sym e) (ap (λ (o : Option (List Word)). kept (over (value_word (integer u) v) o) caller r) (lowest_all vs))
    go (is_pointer q e) = subst (λ (s : Ty). Kept_at s hs v) (sym e) (ap (λ (o : Option (List Word)). kept (over (word_of E.places (pointer q) hs v) o) caller r) (lowest_all vs))

  around : (n : ℕ) → Around E vs (front (R n).instrs after_body) 0 0 at_top [] [] r caller
  around n = record {
    breaks = λ e fr. absurd cc;
    continues = λ e fr. absurd cc;
    returns = λ hs v ok. return_past (pushes E t hs v vs) (R n).instrs after_body ∙ kept_is hs v;
  }

  abbrev Given : Now → Ty → Value → World → Mem → Type 0
  Given now s v w m = IsValue E s m.homes v × (w.fuel < now.below) × AreBytes w.input × Extends now.homes m.homes × Related E.unit.structs E.places m.homes w.objects m.segments × Lasts now.objects w.objects × FiledIn E w m

  abbrev Results : ℕ → Now → World → Mem → Ty → Type 0
  Results n now w m s =
      Runs E.site (size_of (result E.target (scalar_of s) n)) m (at_work E m w vs (front (result E.target (scalar_of s) n).instrs after_body)) w
      (λ v w1 m1. exit_ended caller (pushes E s m1.homes v vs) r) (Given now s) (gives (zero_value s) w)

  abbrev Gives_zero : ℕ → Now → World → Mem → Ty → Scalar → Value → Type 0
  Gives_zero n now w m q s v =
      Runs E.site (size_of (result E.target (Some s) n)) m (at_work E m w vs (front (result E.target (Some s) n).instrs after_body)) w
      (λ v w1 m1. exit_ended caller (pushes E (pointer q) m1.homes v vs) r) (Given now (pointer q)) (gives v w)

  zero_steps : (u : IntType) → Op (beside 0 E) (one (constant (width_of u) (pos 0))) same (pushed (integer u)) (IsOf (integer u)) (pure (number (pos 0)))
  zero_steps u = op_carried (beside 0 E) (constant (width_of u) (pos 0)) same (pushed (integer u)) (IsOf (integer u)) (number (pos 0)) (zero_in u) (λ us. constant_is (width_of u) (pos 0) us)

  -- a missing result is 0
  result_runs : (n : ℕ) (now : Now) → IsAt E 0 now → (w : World) (m : Mem) → Kept E now w m → Results n now w m t
  result_runs n now le w m k = go is_result where
    by : (q : Ty) (b : Bool) → is_function q ≡ b → Gives_zero n now w m q (if b then scalars.Function else scalars.Pointer) (if b then no_function else null)
    by q true d = λ ag. let z = no_function_runs (beside 0 E) q d n tt now (starts E 0 now le) vs after_body dep w m k ag in let k' = z.1.1 in (z.0, (z.1.0, k'.less, k'.bytes, k'.grown, k'.related, k'.lasts, k'.file), z.2)
    by q false d = λ ag. let z = null_runs (beside 0 E) q d n tt now (starts E 0 now le) vs after_body dep w m k ag in let k' = z.1.1 in (z.0, (z.1.0, k'.less, k'.bytes, k'.grown, k'.related, k'.lasts, k'.file), z.2)

    go : IsResult t → Results n now w m t
    go (is_void e) = subst (Results n now w m) (sym e) (here E.site 0 w m (λ v w1 m1. exit_ended caller (pushes E void m1.homes v vs) r) (Given now void) (zero_value void) (tt, k.less, k.bytes, k.grown, k.related, k.lasts, k.file))
    go (is_integer u e) = subst (Results n now w m) (sym e) (λ ag. let q = zero_steps u n tt now (starts E 0 now le) vs after_body dep w m k ag in let k' = q.1.1 in (q.0, (q.1.0, k'.less, k'.bytes, k'.grown, k'.related, k'.lasts, k'.file), q.2))
    go (is_pointer q e) = subst (Results n now w m) (sym e) (by q (is_function q) refl)

  ends_runs : (n : ℕ) (now : Now) → IsAt E 0 now → (flow : Flow) (w : World) (m : Mem) → GoodFlow E at_top now flow w m
      → Runs E.site (size_of (R n)) m (to_flow E vs (front (R n).instrs after_body) [] [] r caller flow w m) w to_caller (Returned now) (gives (given t flow) w)
  ends_runs n now le next w m g = result_runs n now le w m g.1
  ends_runs n now le (returned v) w m g = let k' = g.1 in here E.site (size_of (R n)) w m to_caller (Returned now) v (g.0, k'.less, k'.bytes, k'.grown, k'.related, k'.lasts, k'.file)
  ends_runs n now le broken w m g = absurd (let e = g.0.0 in cc)
  ends_runs n now le continued w m g = absurd (let e = g.0 in cc)

  -- the body, and the result behind it
  pub body_runs : (B : Code) (mx : Does Flow) (now : Now) → FlowAt E at_top now 0 0 B same mx → (n : ℕ) → HasAll E.site.funcs E.fn n ((B ⨾ R) n).seqs → size_of ((B ⨾ R) n) ≤ E.site.most → IsAt E 0 now → (w : World) (m : Mem) → Kept E now w m
      → Runs E.site (size_of ((B ⨾ R) n)) m (at_work E m w vs (front ((B ⨾ R) n).instrs after_body)) w to_caller (Returned now) ((mx >>= (λ flow. pure (given t flow))) w)
  body_runs B mx now h n has small le w m k =
      let cb = B n in
      let n' = n + length cb.seqs in
      let cr = R n' in
      let sizes = size_joined cb cr in
      let f = λ (flow : Flow). pure (given t flow) in
      subst (λ (s : ℕ). Runs E.site s m (at_work E m w vs (front (cb.instrs ++ cr.instrs) after_body)) w to_caller (Returned now) ((mx >>= f) w)) sizes
      (subst (λ (q : List Item). Runs E.site (size_of cb + size_of cr) m (at_work E m w vs q) w to_caller (Returned now) ((mx >>= f) w)) (sym (front_append cb.instrs cr.instrs after_body))
      (bind E.site (size_of cb) (size_of cr) m (at_work E m w vs (front cb.instrs (front cr.instrs after_body))) w (to_flow E vs (front cr.instrs after_body) [] [] r caller) (GoodFlow E at_top now) to_caller (Returned now) (mx w) f
      (h n (has_front E.site.funcs E.fn n cb.seqs cr.seqs has) (omega (arith, sizes, small)) le vs (front cr.instrs after_body) [] [] r caller (around n') (depth_front cr.instrs after_body ∙ dep) w m k)
      (λ flow w1 m1 g. ends_runs n' now le flow w1 m1 g)))
