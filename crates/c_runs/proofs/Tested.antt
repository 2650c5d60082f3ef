-- A value that is tested, and with which one goes on: it waits in a scratch local meanwhile.
use Rattle.std.proofs.Common.{◌≡◌, ℕ, suc, ◌+◌, ◌<◌, List, [], ◌∷◌, length, Bool, true, false, Option, Some, None, refl, subst}
use Rattle.std.specs.Prelude.{slice_get, if◌then◌else◌}
use Rattle.ms_types.specs.declared.types.ValType.{ValType}
use Rattle.ms_linear.specs.declared.value.Value.{Value as Word}
use Rattle.ms_linear.specs.declared.value.Value.TheVariants.{I32}
use Rattle.ms_machine.specs.Step as step
use Rattle.ms_machine.specs.Step.{act}
use Rattle.ms_module.specs.declared.instr.Instr.{Instr}
use Rattle.ms_module.specs.declared.instr.Instr.TheVariants.{LocalGet, LocalTee}
use Rattle.ms_num.specs.Integers.{truth}
use Rattle.ms_task.specs.Thread.{Do, Frame, Item, Label, thread, depth_of}
use Rattle.c_meaning.specs.World.{World, Result, Does}
use Rattle.ms_emit.specs.Codes.{Code, plain, one, ◌⨾◌, choice, size_of}
use Rattle.ms_relate.specs.refinement.Homes.{Home}
use Rattle.c_runs.proofs.Goes as goes
use Rattle.c_runs.proofs.Goes.{Mem, Runs, behind_goes, goes_on, one_here}
use Rattle.c_runs.proofs.Related.{Env, HasAll, Kept, Now, Starts, frame_of, front, has_back}
use Rattle.c_runs.proofs.Whole.{IsWhole}
use Rattle.c_runs.proofs.Ops.{GoodIn, IsTest, OpIn, Stack, ToIn, at_work, choice_at, is_no, is_yes, runs_choice, same, size_joined}
use Rattle.c_runs.proofs.Switches.{IsTemp, with_temp}
use Rattle.c_runs.proofs.Cells.{gets, tees, tees_kept, tees_there}

-- an i32 that says whether something holds
pub bit_test : (E : Env) (b : Bool) → IsTest E (truth b) b
bit_test E true = is_yes 0 refl refl
bit_test E false = is_no refl refl

module _ (E : Env) where
  -- an instruction that changes the operands alone
  abbrev pub Changes : Instr → (before after : Stack) → Type 0
  Changes i pre post = (m : Mem) (fr : Frame) (vs : List Word) (r : List Item) → act (goes.store E.site m) i (thread fr (pre vs) r) ≡ step.Next (goes.store E.site m) (thread fr (post vs) r) None

  module _ (hs : List Home) (x i : ℕ) (is : IsTemp E x i) (few : i < 4) (v : Word) where
    -- code that does what is meant where the value is in the local
    abbrev pub OpWith : {A : Type 0} → Code → (List Home → A → Stack) → (List Home → A → Type 0) → Does A → Type 0
    OpWith c post Ok y =
        (n : ℕ) → HasAll E.site.funcs E.fn n (c n).seqs → (now : Now) → Starts E hs now → (vs : List Word) (r : List Item) → depth_of r ≡ E.depth
        → (w : World) (m : Mem) → Kept E now w m → slice_get m.temps i ≡ Some v
        → Runs E.site (size_of (c n)) m (at_work E m w vs (front (c n).instrs r)) w (ToIn E post vs r) (GoodIn E Ok now) (y w)

    pub with_unused : {A : Type 0} (c : Code) (post : List Home → A → Stack) (Ok : List Home → A → Type 0) (y : Does A) → OpIn E hs c same post Ok y → OpWith c post Ok y
    with_unused c post Ok y h n has now le vs r dep w m k there = h n has now le vs r dep w m k

    -- it is taken from there
    pub with_taken : {A : Type 0} (c : Code) (post : List Home → A → Stack) (Ok : List Home → A → Type 0) (y : Does A) → OpIn E hs c (λ vs. v ∷ vs) post Ok y → OpWith (one (LocalGet x) ⨾ c) post Ok y
    with_taken c post Ok y h n has now le vs r dep w m k there =
        let xc = c (n + 0) in
        let t0 = at_work E m w vs (Do (LocalGet x) ∷ front xc.instrs r) in
        subst (λ (s : ℕ). Runs E.site s m t0 w (ToIn E post vs r) (GoodIn E Ok now) (y w)) (size_joined (one (LocalGet x) n) xc)
        (behind_goes E.site 1 (size_of xc) w w m m t0 (at_work E m w (v ∷ vs) (front xc.instrs r)) (ToIn E post vs r) (GoodIn E Ok now) (y w)
        (gets E x i is now w m k v there vs (front xc.instrs r))
        (h (n + 0) (has_back E.site.funcs E.fn n [] xc.seqs has) now le vs r dep w m k))

    -- two instructions make a number of it, by which an arm is chosen
    pub op_tested : {A : Type 0} (i1 i2 : Instr) (mid : Stack) (z : ℕ) (t : Bool) (ty : Option ValType) (a b : Code) (post : List Home → A → Stack) (Ok : List Home → A → Type 0) (y y' : Does A) → IsWhole b → IsTest E z t
        → Changes i1 (λ vs. v ∷ vs) mid → Changes i2 mid (λ vs. I32 z ∷ vs) → OpWith a post Ok y → OpWith b post Ok y'
        → OpIn E hs (plain (LocalTee x ∷ i1 ∷ i2 ∷ []) ⨾ choice ty a b) (λ vs. v ∷ vs) post Ok (if t then y else y')
    op_tested {A = A} i1 i2 mid z t ty a b post Ok y y' whole test first second ra rb n has now le vs r dep w m k =
        let m1 = with_temp E m i v in
        let k1 = tees_kept E x i is few now w m k v in
        let there = tees_there E x i is few now w m k v in
        let xc = choice ty a b (n + 0) in
        let r3 = front xc.instrs r in
        let r2 = Do i2 ∷ r3 in
        let r1 = Do i1 ∷ r2 in
        let t0 = at_work E m w (v ∷ vs) (Do (LocalTee x) ∷ r1) in
        let t1 = at_work E m1 w (v ∷ vs) r1 in
        let t2 = at_work E m1 w (mid vs) r2 in
        let t3 = at_work E m1 w (I32 z ∷ vs) r3 in
        subst (λ (q : Result A). Runs E.site (size_of ((plain (LocalTee x ∷ i1 ∷ i2 ∷ []) ⨾ choice ty a b) n)) m t0 w (ToIn E post vs r) (GoodIn E Ok now) q) (choice_at E t y y' w)
        (subst (λ (s : ℕ). Runs E.site s m t0 w (ToIn E post vs r) (GoodIn E Ok now) (if t then y w else y' w)) (size_joined (plain (LocalTee x ∷ i1 ∷ i2 ∷ []) n) xc)
        (behind_goes E.site 3 (size_of xc) w w m m1 t0 t3 (ToIn E post vs r) (GoodIn E Ok now) (if t then y w else y' w)
        (goes_on E.site 1 2 w w w m m1 m1 t0 t1 t3 (tees E x i is few now w m k v vs r1)
        (goes_on E.site 1 1 w w w m1 m1 m1 t1 t2 t3
        (one_here E.site w m1 m1 i1 (frame_of E m1 w) (v ∷ vs) r2 (thread (frame_of E m1 w) (mid vs) r2) (first m1 (frame_of E m1 w) vs r2))
        (one_here E.site w m1 m1 i2 (frame_of E m1 w) (mid vs) r3 (thread (frame_of E m1 w) (I32 z ∷ vs) r3) (second m1 (frame_of E m1 w) vs r3))))
        (runs_choice E ty a b (n + 0) z t vs r w m1 (ToIn E post vs r) (GoodIn E Ok now) (y w) (y' w) whole test (has_back E.site.funcs E.fn n [] xc.seqs has)
        (λ h. ra (suc (n + 0)) h now le vs (Label ty (length vs) None ∷ r) dep w m1 k1 there)
        (λ h. rb (suc (suc (n + 0) + length (a (suc (n + 0))).seqs)) h now le vs (Label ty (length vs) None ∷ r) dep w m1 k1 there))))
