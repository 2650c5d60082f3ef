-- Code that does what is meant, wherever it stands: over any operands, in front of any work.
use Rattle.std.proofs.Common.{◌≡◌, ℕ, suc, ◌+◌, ◌≤◌, List, [], ◌∷◌, ◌++◌, length, length-append, Bool, true, false, Option, Some, None, refl, sym, ap, ◌∙◌, arith, subst}
use Rattle.std.specs.Prelude.{ℤ, if◌then◌else◌}
use Rattle.ms_types.specs.declared.types.ValType.{ValType}
use Rattle.ms_linear.specs.declared.value.Value.{Value as Word}
use Rattle.ms_linear.specs.declared.value.Value.TheVariants.{I32}
use Rattle.ms_machine.specs.Step as step
use Rattle.ms_machine.specs.Step.{act}
use Rattle.ms_module.specs.declared.instr.Instr.{Instr}
use Rattle.ms_module.specs.declared.instr.Instr.TheVariants.{I32Const, I64Const, If, Numeric}
use Rattle.ms_task.specs.Control.{exit_ended}
use Rattle.ms_task.specs.Thread.{Do, Frame, Item, Label, Thread, thread, depth_of}
use Rattle.ms_host.specs.declared.trap.TrapKind.{TrapKind}
use Rattle.c_types.specs.declared.integers.IntType.{IntType}
use Rattle.c_meaning.specs.Objects.{Object}
use Rattle.c_meaning.specs.World.{End, zero_divide, overflow, World, Result, gives, ends, Does, after, ◌>>=◌, pure, stop}
use Rattle.c_runs.specs.Threads.{Trapped}
use Rattle.c_runs.specs.Ends.{stop_of}
use Rattle.ms_emit.specs.Codes.{Code, Coded, plain, one, no_code, ◌⨾◌, joined, choice, inner, second, second_seqs, size_of, total}
use Rattle.c_runs.proofs.Goes.{Mem, store, Runs, RunsTo, Goes, bind, behind_goes, here, one_here, resize, after_after, trapped, weaker, IsEnd, Asks}
use Rattle.ms_relate.specs.refinement.Homes.{Home}
use Rattle.ms_relate.proofs.Growing.{Extends}
use Rattle.c_runs.proofs.Related.{Env, Kept, KeptAs, Now, Starts, extends_none, extends_same, extends_trans, with_homes, frame_of, front, front_append, depth_front, HasAll, has_front, has_back, total_append}
use Rattle.ms_operate.specs.Outcomes as operate
use Rattle.ms_operate.specs.declared.trap.Trap.{Trap as OperateTrap}
use Rattle.ms_operate.specs.declared.trap.Trap.TheVariants as operate-traps
use Rattle.ms_host.specs.declared.trap.TrapKind.TheVariants as traps
use Rattle.c_code.specs.Operations.{width_of}
use Rattle.c_numbers.specs.Operands as answers
use Rattle.c_numbers.specs.Operands.{Agree, Answer, IsAnswer, IsIn, all_carried, carried, made, meant, then_on, word}
use Rattle.c_runs.proofs.Whole.{IsWhole}

abbrev pub Stack : Type 0
Stack = List Word → List Word

abbrev pub same : Stack
same vs = vs

pub size_joined : (x y : Coded) → size_of x + size_of y ≡ size_of (joined x y)
size_joined x y = omega (arith, length-append x.instrs y.instrs, total_append x.seqs y.seqs)

module _ (E : Env) where
  abbrev pub at_work : Mem → World → List Word → List Item → Thread
  at_work m w vs r = exit_ended (frame_of E m w) vs r

  -- what is left, by the homes that the objects then have
  abbrev pub ToIn : {A : Type 0} → (List Home → A → Stack) → List Word → List Item → A → World → Mem → Thread
  ToIn post vs r a w m = at_work m w (post m.homes a vs) r

  abbrev pub To_ : {A : Type 0} → (A → Stack) → List Word → List Item → A → World → Mem → Thread
  To_ post = ToIn (λ hs. post)

  abbrev pub GoodIn : {A : Type 0} → (List Home → A → Type 0) → Now → A → World → Mem → Type 0
  GoodIn Ok now a w m = Ok m.homes a × Kept E now w m

  abbrev pub Good : {A : Type 0} → (A → Type 0) → Now → A → World → Mem → Type 0
  Good Ok now = GoodIn (λ hs. Ok) now

  -- from these operands the code comes to those, where objects have these homes at least
  abbrev pub OpIn : {A : Type 0} → List Home → Code → Stack → (List Home → A → Stack) → (List Home → A → Type 0) → Does A → Type 0
  OpIn hs c pre post Ok x =
      (n : ℕ) → HasAll E.site.funcs E.fn n (c n).seqs → (now : Now) → Starts E hs now → (vs : List Word) (r : List Item) → depth_of r ≡ E.depth
      → (w : World) (m : Mem) → Kept E now w m
      → Runs E.site (size_of (c n)) m (at_work m w (pre vs) (front (c n).instrs r)) w (ToIn post vs r) (GoodIn Ok now) (x w)

  -- of values without a pointer
  abbrev pub Op : {A : Type 0} → Code → Stack → (A → Stack) → (A → Type 0) → Does A → Type 0
  Op c pre post Ok x = OpIn [] c pre (λ hs. post) (λ hs. Ok) x

  -- ---- homes at the start

  pub kept_from : (now : Now) (hs : List Home) (os : List Object) (w : World) (m : Mem) → Extends now.homes hs → KeptAs E (with_homes hs now) os w m → KeptAs E now os w m
  kept_from now hs os w m more k = record { held = k.held; deep = k.deep; less = k.less; bytes = k.bytes; temps = k.temps; grown = extends_trans now.homes hs m.homes more k.grown; related = k.related; open' = k.open'; apart = k.apart; own = k.own; lasts = k.lasts; file = k.file }

  pub kept_here : (now : Now) (os : List Object) (w : World) (m : Mem) → KeptAs E now os w m → KeptAs E (with_homes m.homes now) os w m
  kept_here now os w m k = record { held = k.held; deep = k.deep; less = k.less; bytes = k.bytes; temps = k.temps; grown = extends_same m.homes; related = k.related; open' = k.open'; apart = k.apart; own = k.own; lasts = k.lasts; file = k.file }

  pub op_more : {A : Type 0} (hs hs' : List Home) (c : Code) (pre : Stack) (post : List Home → A → Stack) (Ok : List Home → A → Type 0) (x : Does A) → Extends hs hs' → OpIn hs c pre post Ok x → OpIn hs' c pre post Ok x
  op_more hs hs' c pre post Ok x more h n has now le = h n has now (record { below = le.below; grown = extends_trans hs hs' now.homes more le.grown; seen = le.seen; few = le.few })

  pub op_any : {A : Type 0} (hs : List Home) (c : Code) (pre : Stack) (post : List Home → A → Stack) (Ok : List Home → A → Type 0) (x : Does A) → OpIn [] c pre post Ok x → OpIn hs c pre post Ok x
  op_any hs c pre post Ok x h = op_more [] hs c pre post Ok x (extends_none hs) h

  -- ---- what lies below stays
  pub op_over_in : {A : Type 0} (hs : List Home) (c : Code) (pre under : Stack) (post : List Home → A → Stack) (Ok : List Home → A → Type 0) (x : Does A) → OpIn hs c pre post Ok x → OpIn hs c (λ vs. pre (under vs)) (λ gs a vs. post gs a (under vs)) Ok x
  op_over_in hs c pre under post Ok x h n has now le vs r dep w m k = h n has now le (under vs) r dep w m k

  pub op_over : {A : Type 0} (c : Code) (pre under : Stack) (post : A → Stack) (Ok : A → Type 0) (x : Does A) → Op c pre post Ok x → Op c (λ vs. pre (under vs)) (λ a vs. post a (under vs)) Ok x
  op_over c pre under post Ok x h = op_over_in [] c pre under (λ hs. post) (λ hs. Ok) x h

  -- ---- no code
  pub op_none_in : {A : Type 0} (hs : List Home) (pre : Stack) (post : List Home → A → Stack) (Ok : List Home → A → Type 0) (a : A) → ((gs : List Home) → Extends hs gs → Ok gs a) → ((gs : List Home) (vs : List Word) → Extends hs gs → post gs a vs ≡ pre vs) → OpIn hs no_code pre post Ok (pure a)
  op_none_in hs pre post Ok a ok e n has now le vs r dep w m k =
      let more = extends_trans hs now.homes m.homes le.grown k.grown in
      subst (λ (us : List Word). Runs E.site 0 m (at_work m w us r) w (ToIn post vs r) (GoodIn Ok now) (gives a w)) (e m.homes vs more)
      (here E.site 0 w m (ToIn post vs r) (GoodIn Ok now) a (ok m.homes more, k))

  pub op_none : {A : Type 0} (pre : Stack) (post : A → Stack) (Ok : A → Type 0) (a : A) → Ok a → ((vs : List Word) → post a vs ≡ pre vs) → Op no_code pre post Ok (pure a)
  op_none pre post Ok a ok e = op_none_in [] pre (λ hs. post) (λ hs. Ok) a (λ gs more. ok) (λ gs vs more. e vs)

  -- ---- one behind the other
  pub op_then_in : {A B : Type 0} (hs : List Home) (a b : Code) (pre : Stack) (mid : List Home → A → Stack) (post : List Home → B → Stack) (Ok1 : List Home → A → Type 0) (Ok2 : List Home → B → Type 0) (x : Does A) (f : A → Does B)
      → OpIn hs a pre mid Ok1 x → ((gs : List Home) → Extends hs gs → (v : A) → Ok1 gs v → OpIn gs b (mid gs v) post Ok2 (f v)) → OpIn hs (a ⨾ b) pre post Ok2 (x >>= f)
  op_then_in hs a b pre mid post Ok1 Ok2 x f ra rb n has now le vs r dep w m k =
      let xa = a n in
      let n' = n + length xa.seqs in
      let xb = b n' in
      subst (λ (s : ℕ). Runs E.site s m (at_work m w (pre vs) (front (xa.instrs ++ xb.instrs) r)) w (ToIn post vs r) (GoodIn Ok2 now) (after (x w) f)) (size_joined xa xb)
      (subst (λ (l : List Item). Runs E.site (size_of xa + size_of xb) m (at_work m w (pre vs) l) w (ToIn post vs r) (GoodIn Ok2 now) (after (x w) f)) (sym (front_append xa.instrs xb.instrs r))
      (bind E.site (size_of xa) (size_of xb) m (at_work m w (pre vs) (front xa.instrs (front xb.instrs r))) w (ToIn mid vs (front xb.instrs r)) (GoodIn Ok1 now) (ToIn post vs r) (GoodIn Ok2 now) (x w) f
      (ra n (has_front E.site.funcs E.fn n xa.seqs xb.seqs has) now le vs (front xb.instrs r) (depth_front xb.instrs r ∙ dep) w m k)
      (λ v w1 m1 g.
      let now1 = with_homes m1.homes now in
      weaker E.site (size_of xb) m1 (at_work m1 w1 (mid m1.homes v vs) (front xb.instrs r)) w1 (ToIn post vs r) (GoodIn Ok2 now1) (GoodIn Ok2 now) (f v w1)
      (λ c w2 m2 q. (q.0, kept_from now m1.homes w2.objects w2 m2 g.1.grown q.1))
      (rb m1.homes (extends_trans hs now.homes m1.homes le.grown g.1.grown) v g.0 n' (has_back E.site.funcs E.fn n xa.seqs xb.seqs has) now1 (record { below = le.below; grown = extends_same m1.homes; seen = le.seen; few = le.few }) vs r dep w1 m1 (kept_here now w1.objects w1 m1 g.1)))))

  pub op_then : {A B : Type 0} (a b : Code) (pre : Stack) (mid : A → Stack) (post : B → Stack) (Ok1 : A → Type 0) (Ok2 : B → Type 0) (x : Does A) (f : A → Does B)
      → Op a pre mid Ok1 x → ((v : A) → Ok1 v → Op b (mid v) post Ok2 (f v)) → Op (a ⨾ b) pre post Ok2 (x >>= f)
  op_then a b pre mid post Ok1 Ok2 x f ra rb =
      op_then_in [] a b pre (λ hs. mid) (λ hs. post) (λ hs. Ok1) (λ hs. Ok2) x f ra (λ gs more v ok. op_any gs b (mid v) (λ hs. post) (λ hs. Ok2) (f v) (rb v ok))

  -- a value is looked at, which needs no code
  pub op_look_in : {A B : Type 0} (hs : List Home) (c : Code) (pre : Stack) (mid : List Home → A → Stack) (post : List Home → B → Stack) (Ok1 : List Home → A → Type 0) (Ok2 : List Home → B → Type 0) (x : Does A) (f : A → Does B)
      → OpIn hs c pre mid Ok1 x → ((gs : List Home) → Extends hs gs → (v : A) → Ok1 gs v → (b : B) × (f v ≡ pure b) × ((vs : List Word) → mid gs v vs ≡ post gs b vs) × Ok2 gs b) → OpIn hs c pre post Ok2 (x >>= f)
  op_look_in {B = B} hs c pre mid post Ok1 Ok2 x f h g n has now le vs r dep w m k =
      let s = size_of (c n) in
      let e : s + 0 ≡ s = omega arith in
      subst (λ (q : ℕ). Runs E.site q m (at_work m w (pre vs) (front (c n).instrs r)) w (ToIn post vs r) (GoodIn Ok2 now) (after (x w) f)) e
      (bind E.site s 0 m (at_work m w (pre vs) (front (c n).instrs r)) w (ToIn mid vs r) (GoodIn Ok1 now) (ToIn post vs r) (GoodIn Ok2 now) (x w) f (h n has now le vs r dep w m k)
      (λ v w1 m1 p.
      let q = g m1.homes (extends_trans hs now.homes m1.homes le.grown p.1.grown) v p.0 in
      subst (λ (y : Does B). Runs E.site 0 m1 (ToIn mid vs r v w1 m1) w1 (ToIn post vs r) (GoodIn Ok2 now) (y w1)) (sym q.1)
      (subst (λ (us : List Word). Runs E.site 0 m1 (at_work m1 w1 us r) w1 (ToIn post vs r) (GoodIn Ok2 now) (gives q.0 w1)) (sym (q.2 vs))
      (here E.site 0 w1 m1 (ToIn post vs r) (GoodIn Ok2 now) q.0 (q.3, p.1)))))

  pub op_look : {A B : Type 0} (c : Code) (pre : Stack) (mid : A → Stack) (post : B → Stack) (Ok1 : A → Type 0) (Ok2 : B → Type 0) (x : Does A) (f : A → Does B)
      → Op c pre mid Ok1 x → ((v : A) → Ok1 v → (b : B) × (f v ≡ pure b) × (mid v ≡ post b) × Ok2 b) → Op c pre post Ok2 (x >>= f)
  op_look c pre mid post Ok1 Ok2 x f h g =
      op_look_in [] c pre (λ hs. mid) (λ hs. post) (λ hs. Ok1) (λ hs. Ok2) x f h (λ gs more v ok. let q = g v ok in (q.0, q.1, λ vs. ap (λ (st : Stack). st vs) q.2, q.3))

  -- ---- one instruction that changes the operands alone
  pub op_step : {A : Type 0} (i : Instr) (pre : Stack) (post : A → Stack) (Ok : A → Type 0) (a : A) → Ok a
      → ((m : Mem) (fr : Frame) (vs : List Word) (r : List Item) → act (store E.site m) i (thread fr (pre vs) r) ≡ step.Next (store E.site m) (thread fr (post a vs) r) None)
      → Op (one i) pre post Ok (pure a)
  op_step i pre post Ok a ok e n has now le vs r dep w m k ag =
      (m, (ok, k), one_here E.site w m m i (frame_of E m w) (pre vs) r (thread (frame_of E m w) (post a vs) r) (e m (frame_of E m w) vs r))

  -- the same in this function's frame
  pub op_frame : {A : Type 0} (i : Instr) (pre : Stack) (post : A → Stack) (Ok : A → Type 0) (a : A) → Ok a
      → ((m : Mem) (w : World) (vs : List Word) (r : List Item) → act (store E.site m) i (thread (frame_of E m w) (pre vs) r) ≡ step.Next (store E.site m) (thread (frame_of E m w) (post a vs) r) None)
      → Op (one i) pre post Ok (pure a)
  op_frame i pre post Ok a ok e n has now le vs r dep w m k ag =
      (m, (ok, k), one_here E.site w m m i (frame_of E m w) (pre vs) r (thread (frame_of E m w) (post a vs) r) (e m w vs r))

  -- one that stops the program
  pub op_trap_in : {A : Type 0} (hs : List Home) (i : Instr) (pre : Stack) (post : List Home → A → Stack) (Ok : List Home → A → Type 0) (k : TrapKind) (e : End) → ((w : World) → IsEnd E.site e w) → stop_of e ≡ Trapped k
      → ((m : Mem) (t : Thread) (w : World) → Asks E.site e 1 m t w [])
      → ((m : Mem) (w : World) (vs : List Word) (r : List Item) → act (store E.site m) i (thread (frame_of E m w) (pre vs) r) ≡ step.Trap k)
      → OpIn hs (one i) pre post Ok (stop e)
  op_trap_in hs i pre post Ok kind e is so asks h n has now le vs r dep w m k ag =
      trapped E.site w m i (frame_of E m w) (pre vs) r kind e (h m w vs r) (is w) so (asks m (thread (frame_of E m w) (pre vs) (Do i ∷ r)) w)

  -- the same meaning
  pub op_as : {A : Type 0} (c : Code) (pre : Stack) (post : A → Stack) (Ok : A → Type 0) (x y : Does A) → x ≡ y → Op c pre post Ok x → Op c pre post Ok y
  op_as {A = A} c pre post Ok x y e h = subst (λ (z : Does A). Op c pre post Ok z) e h

  pub op_assoc_in : {A B C : Type 0} (hs : List Home) (c : Code) (pre : Stack) (post : List Home → C → Stack) (Ok : List Home → C → Type 0) (x : Does A) (f : A → Does B) (g : B → Does C)
      → OpIn hs c pre post Ok (x >>= (λ a. f a >>= g)) → OpIn hs c pre post Ok (x >>= f >>= g)
  op_assoc_in {C = C} hs c pre post Ok x f g h n has now le vs r dep w m k =
      subst (λ (y : Result C). Runs E.site (size_of (c n)) m (at_work m w (pre vs) (front (c n).instrs r)) w (ToIn post vs r) (GoodIn Ok now) y) (sym (after_after (x w) f g)) (h n has now le vs r dep w m k)

  pub op_assoc : {A B C : Type 0} (c : Code) (pre : Stack) (post : C → Stack) (Ok : C → Type 0) (x : Does A) (f : A → Does B) (g : B → Does C)
      → Op c pre post Ok (x >>= (λ a. f a >>= g)) → Op c pre post Ok (x >>= f >>= g)
  op_assoc c pre post Ok x f g h = op_assoc_in [] c pre (λ hs. post) (λ hs. Ok) x f g h

  -- ---- a choice, by a number that is tested
  pub data IsTest (n : ℕ) (t : Bool) : Type 0 where
    is_no : n ≡ 0 → t ≡ false → IsTest n t
    is_yes : (k : ℕ) → n ≡ suc k → t ≡ true → IsTest n t

  -- into a sequence that stands there, by one step
  pub into : {A : Type 0} (i : Instr) (us : List Word) (ty : Option ValType) (s : ℕ) (is : List Instr) (to : A → World → Mem → Thread) (G : A → World → Mem → Type 0) (y : Result A) (vs : List Word) (r : List Item) (w : World) (m : Mem)
      → act (store E.site m) i (thread (frame_of E m w) us r) ≡ step.Next (store E.site m) (thread (frame_of E m w) vs (front is (Label ty (length vs) None ∷ r))) None
      → Runs E.site s m (at_work m w vs (front is (Label ty (length vs) None ∷ r))) w to G y
      → Runs E.site (1 + s) m (thread (frame_of E m w) us (Do i ∷ r)) w to G y
  into i us ty s is to G y vs r w m e h =
      behind_goes E.site 1 s w w m m (thread (frame_of E m w) us (Do i ∷ r)) (at_work m w vs (front is (Label ty (length vs) None ∷ r))) to G y
      (one_here E.site w m m i (frame_of E m w) us r (thread (frame_of E m w) vs (front is (Label ty (length vs) None ∷ r))) e) h

  pub second_size : (c : Coded) → (c.instrs ≡ [] → c.seqs ≡ []) → size_of c ≤ total (second_seqs c)
  second_size c h = by c.instrs c.seqs h where
    by : (is : List Instr) (ss : List (List Instr)) → (is ≡ [] → ss ≡ []) → length is + total ss ≤ total (second_seqs (record { instrs = is; seqs = ss }))
    by [] ss h = let q = ap total (h refl) in omega (arith, q)
    by (i ∷ is) ss h = omega arith

  -- either arm is carried out in its label; with no instruction there is no second sequence
  pub runs_choice : {A : Type 0} (ty : Option ValType) (a b : Code) (n z : ℕ) (t : Bool) (vs : List Word) (r : List Item) (w : World) (m : Mem) (to : A → World → Mem → Thread) (G : A → World → Mem → Type 0) (x y : Result A)
      → IsWhole b → IsTest z t → HasAll E.site.funcs E.fn n (choice ty a b n).seqs
      → (HasAll E.site.funcs E.fn (suc n) (a (suc n)).seqs → Runs E.site (size_of (a (suc n))) m (at_work m w vs (front (a (suc n)).instrs (Label ty (length vs) None ∷ r))) w to G x)
      → (HasAll E.site.funcs E.fn (suc (suc n + length (a (suc n)).seqs)) (b (suc (suc n + length (a (suc n)).seqs))).seqs
      → Runs E.site (size_of (b (suc (suc n + length (a (suc n)).seqs)))) m (at_work m w vs (front (b (suc (suc n + length (a (suc n)).seqs))).instrs (Label ty (length vs) None ∷ r))) w to G y)
      → Runs E.site (size_of (choice ty a b n)) m (thread (frame_of E m w) (I32 z ∷ vs) (front (choice ty a b n).instrs r)) w to G (if t then x else y)
  runs_choice ty a b n z t vs r w m to G x y whole (is_yes q ez et) has ra rb =
      let xa = a (suc n) in
      let m' = suc n + length xa.seqs in
      let xb = b (suc m') in
      let i = If ty n (second m' xb) in
      let ha = has_front E.site.funcs E.fn n (inner xa) (second_seqs xb) has in
      subst (λ (t' : Bool). Runs E.site (size_of (choice ty a b n)) m (thread (frame_of E m w) (I32 z ∷ vs) (Do i ∷ r)) w to G (if t' then x else y)) (sym et)
      (resize E.site (1 + size_of xa) (size_of (choice ty a b n)) m (thread (frame_of E m w) (I32 z ∷ vs) (Do i ∷ r)) w to G x (let o = total_append (inner xa) (second_seqs xb) in omega (arith, o))
      (into i (I32 z ∷ vs) ty (size_of xa) xa.instrs to G x vs r w m
      (ap (λ (c : ℕ). act (store E.site m) i (thread (frame_of E m w) (I32 c ∷ vs) r)) ez
      ∙ ap (λ (is : List Instr). step.Next (store E.site m) (thread (frame_of E m w) vs (front is (Label ty (length vs) None ∷ r))) None) ha.0)
      (ra ha.1)))
  runs_choice ty a b n z t vs r w m to G x y whole (is_no ez et) has ra rb =
      let xa = a (suc n) in
      let m' = suc n + length xa.seqs in
      let xb = b (suc m') in
      let number : n + length (inner xa) ≡ m' = omega arith in
      let hb = subst (λ (q : ℕ). HasAll E.site.funcs E.fn q (second_seqs xb)) number (has_back E.site.funcs E.fn n (inner xa) (second_seqs xb) has) in
      subst (λ (t' : Bool). Runs E.site (size_of (choice ty a b n)) m (thread (frame_of E m w) (I32 z ∷ vs) (Do (If ty n (second m' xb)) ∷ r)) w to G (if t' then x else y)) (sym et)
      (resize E.site (1 + size_of xb) (size_of (choice ty a b n)) m (thread (frame_of E m w) (I32 z ∷ vs) (Do (If ty n (second m' xb)) ∷ r)) w to G y
      (let o = total_append (inner xa) (second_seqs xb) in let p = second_size xb (whole (suc m')) in omega (arith, o, p))
      (other xb.instrs xb.seqs (whole (suc m')) hb rb))
    where
      other : (is : List Instr) (ss : List (List Instr)) → (is ≡ [] → ss ≡ []) → HasAll E.site.funcs E.fn (suc n + length (a (suc n)).seqs) (second_seqs (record { instrs = is; seqs = ss }))
          → (HasAll E.site.funcs E.fn (suc (suc n + length (a (suc n)).seqs)) ss → Runs E.site (length is + total ss) m (at_work m w vs (front is (Label ty (length vs) None ∷ r))) w to G y)
          → Runs E.site (1 + (length is + total ss)) m (thread (frame_of E m w) (I32 z ∷ vs) (Do (If ty n (second (suc n + length (a (suc n)).seqs) (record { instrs = is; seqs = ss }))) ∷ r)) w to G y
      other [] ss h hb run =
          behind_goes E.site 1 (0 + total ss) w w m m (thread (frame_of E m w) (I32 z ∷ vs) (Do (If ty n None) ∷ r)) (at_work m w vs r) to G y
          (one_here E.site w m m (If ty n None) (frame_of E m w) (I32 z ∷ vs) r (thread (frame_of E m w) vs r) (ap (λ (c : ℕ). act (store E.site m) (If ty n None) (thread (frame_of E m w) (I32 c ∷ vs) r)) ez))
          (run (subst (λ (qs : List (List Instr)). HasAll E.site.funcs E.fn (suc (suc n + length (a (suc n)).seqs)) qs) (sym (h refl)) tt))
      other (i ∷ is) ss h hb run =
          into (If ty n (Some (suc n + length (a (suc n)).seqs))) (I32 z ∷ vs) ty (length (i ∷ is) + total ss) (i ∷ is) to G y vs r w m
          (ap (λ (c : ℕ). act (store E.site m) (If ty n (Some (suc n + length (a (suc n)).seqs))) (thread (frame_of E m w) (I32 c ∷ vs) r)) ez
          ∙ ap (λ (js : List Instr). step.Next (store E.site m) (thread (frame_of E m w) vs (front js (Label ty (length vs) None ∷ r))) None) hb.0)
          (run hb.1)

  pub choice_at : {A : Type 0} (t : Bool) (x y : Does A) (w : World) → (if t then x w else y w) ≡ (if t then x else y) w
  choice_at true x y w = refl
  choice_at false x y w = refl

  pub op_choice_in : {A : Type 0} (hs : List Home) (ty : Option ValType) (a b : Code) (z : ℕ) (t : Bool) (post : List Home → A → Stack) (Ok : List Home → A → Type 0) (x y : Does A) → IsWhole b → IsTest z t
      → OpIn hs a same post Ok x → OpIn hs b same post Ok y → OpIn hs (choice ty a b) (λ vs. I32 z ∷ vs) post Ok (if t then x else y)
  op_choice_in {A = A} hs ty a b z t post Ok x y whole test ra rb n has now le vs r dep w m k =
      subst (λ (q : Result A). Runs E.site (size_of (choice ty a b n)) m (thread (frame_of E m w) (I32 z ∷ vs) (front (choice ty a b n).instrs r)) w (ToIn post vs r) (GoodIn Ok now) q) (choice_at t x y w)
      (runs_choice ty a b n z t vs r w m (ToIn post vs r) (GoodIn Ok now) (x w) (y w) whole test has
      (λ h. ra (suc n) h now le vs (Label ty (length vs) None ∷ r) dep w m k)
      (λ h. rb (suc (suc n + length (a (suc n)).seqs)) h now le vs (Label ty (length vs) None ∷ r) dep w m k))

  -- ---- the same with other words

  -- what is left is seen otherwise
  pub op_post_in : {A : Type 0} (hs : List Home) (c : Code) (pre : Stack) (post post' : List Home → A → Stack) (Ok : List Home → A → Type 0) (x : Does A) → OpIn hs c pre post Ok x → ((gs : List Home) (a : A) (vs : List Word) → Ok gs a → post gs a vs ≡ post' gs a vs) → OpIn hs c pre post' Ok x
  op_post_in {A = A} hs c pre post post' Ok x h e n has now le vs r dep w m k ag = by (x w) (h n has now le vs r dep w m k ag) where
    by : (y : Result A) → RunsTo E.site (size_of (c n)) m (at_work m w (pre vs) (front (c n).instrs r)) w (ToIn post vs r) (GoodIn Ok now) y
        → RunsTo E.site (size_of (c n)) m (at_work m w (pre vs) (front (c n).instrs r)) w (ToIn post' vs r) (GoodIn Ok now) y
    by (gives a w') q = (q.0, q.1, subst (λ (us : List Word). Goes E.site (size_of (c n)) w w' m (at_work m w (pre vs) (front (c n).instrs r)) q.0 (at_work q.0 w' us r)) (e q.0.homes a vs q.1.0) q.2)
    by (ends e' w') q = q

  pub after_pure : {A : Type 0} (y : Result A) → after y (λ a w. gives a w) ≡ y
  after_pure (gives a w) = refl
  after_pure (ends e w) = refl

  -- more code that leaves the value as it is
  pub op_after_in : {A : Type 0} (hs : List Home) (c d : Code) (pre : Stack) (mid post : List Home → A → Stack) (Ok1 Ok : List Home → A → Type 0) (x : Does A) → OpIn hs c pre mid Ok1 x → ((gs : List Home) → Extends hs gs → (a : A) → Ok1 gs a → OpIn gs d (mid gs a) post Ok (pure a)) → OpIn hs (c ⨾ d) pre post Ok x
  op_after_in {A = A} hs c d pre mid post Ok1 Ok x h g n has now le vs r dep w m k =
      subst (λ (y : Result A). Runs E.site (size_of ((c ⨾ d) n)) m (at_work m w (pre vs) (front ((c ⨾ d) n).instrs r)) w (ToIn post vs r) (GoodIn Ok now) y) (after_pure (x w))
      (op_then_in hs c d pre mid post Ok1 Ok x (λ a. pure a) h g n has now le vs r dep w m k)

  -- a fact of every value that is given
  abbrev pub AllGiven : {A : Type 0} → (A → Type 0) → Result A → Type 0
  AllGiven P (gives a w) = P a
  AllGiven P (ends e w) = Unit {0}

  pub op_given : {A : Type 0} (c : Code) (pre : Stack) (post : A → Stack) (Ok P : A → Type 0) (x : Does A) → ((w : World) → AllGiven P (x w)) → Op c pre post Ok x → Op c pre post (λ a. Ok a × P a) x
  op_given {A = A} c pre post Ok P x all h n has now le vs r dep w m k ag = by (x w) (all w) (h n has now le vs r dep w m k ag) where
    by : (y : Result A) → AllGiven P y → RunsTo E.site (size_of (c n)) m (at_work m w (pre vs) (front (c n).instrs r)) w (To_ post vs r) (Good Ok now) y
        → RunsTo E.site (size_of (c n)) m (at_work m w (pre vs) (front (c n).instrs r)) w (To_ post vs r) (Good (λ a. Ok a × P a) now) y
    by (gives a w') p q = (q.0, ((q.1.0, p), q.1.1), q.2)
    by (ends e' w') p q = q

  -- ---- instructions on numbers

  pub carried_is : (i : Instr) (m : Mem) (fr : Frame) (us vs : List Word) (r : List Item) → carried i us ≡ operate.Gives vs → act (store E.site m) i (thread fr us r) ≡ step.Next (store E.site m) (thread fr vs r) None
  carried_is (I32Const z) m fr us vs r e = ap (step.worked (store E.site m) (thread fr us r)) e
  carried_is (I64Const z) m fr us vs r e = ap (step.worked (store E.site m) (thread fr us r)) e
  carried_is (Numeric i) m fr us vs r e = ap (step.worked (store E.site m) (thread fr us r)) e
  carried_is _ m fr us vs r e = absurd cc

  carried_traps : (i : Instr) (m : Mem) (fr : Frame) (us : List Word) (r : List Item) (k : OperateTrap) → carried i us ≡ operate.Trap k → act (store E.site m) i (thread fr us r) ≡ step.Trap (step.trap_of k)
  carried_traps (I32Const z) m fr us r k e = absurd cc
  carried_traps (I64Const z) m fr us r k e = absurd cc
  carried_traps (Numeric i) m fr us r k e = ap (step.worked (store E.site m) (thread fr us r)) e
  carried_traps _ m fr us r k e = absurd cc

  -- that give these operands
  pub op_carried : {A : Type 0} (i : Instr) (pre : Stack) (post : A → Stack) (Ok : A → Type 0) (a : A) → Ok a → ((vs : List Word) → carried i (pre vs) ≡ operate.Gives (post a vs)) → Op (one i) pre post Ok (pure a)
  op_carried i pre post Ok a ok e = op_step i pre post Ok a ok (λ m fr vs r. carried_is i m fr (pre vs) (post a vs) r (e vs))

  abbrev operands_in : operate.Outcome → List Word
  operands_in (operate.Gives vs) = vs
  operands_in _ = []

  first_gives : (o : operate.Outcome) (go : List Word → operate.Outcome) (us : List Word) → then_on o go ≡ operate.Gives us → o ≡ operate.Gives (operands_in o)
  first_gives (operate.Gives vs) go us e = refl
  first_gives (operate.Trap k) go us e = absurd cc
  first_gives operate.Stuck go us e = absurd cc

  then_gives : (o : operate.Outcome) (go : List Word → operate.Outcome) (us : List Word) → then_on o go ≡ operate.Gives us → go (operands_in o) ≡ operate.Gives us
  then_gives (operate.Gives vs) go us e = e
  then_gives (operate.Trap k) go us e = absurd cc
  then_gives operate.Stuck go us e = absurd cc

  abbrev Always : Unit {0} → Type 0
  Always u = Unit {0}

  op_all : {A : Type 0} (is : List Instr) (pre : Stack) (post : A → Stack) (Ok : A → Type 0) (a : A) → Ok a → ((vs : List Word) → all_carried is (pre vs) ≡ operate.Gives (post a vs)) → Op (plain is) pre post Ok (pure a)
  op_all [] pre post Ok a ok e = op_none pre post Ok a ok (λ vs. sym (ap operands_in (e vs)))
  op_all (i ∷ is) pre post Ok a ok e =
      let mid : Unit {0} → Stack = λ u vs. operands_in (carried i (pre vs)) in
      op_then (one i) (plain is) pre mid post Always Ok (pure tt) (λ u. pure a)
      (op_carried i pre mid Always tt tt (λ vs. first_gives (carried i (pre vs)) (all_carried is) (post a vs) (e vs)))
      (λ u ok'. op_all is (mid u) post Ok a ok (λ vs. then_gives (carried i (pre vs)) (all_carried is) (post a vs) (e vs)))

  -- several, in code without a block
  pub op_bare : {A : Type 0} (c : Code) (pre : Stack) (post : A → Stack) (Ok : A → Type 0) (a : A) → ((n : ℕ) → (c n).seqs ≡ []) → Ok a → ((n : ℕ) (vs : List Word) → all_carried (c n).instrs (pre vs) ≡ operate.Gives (post a vs)) → Op c pre post Ok (pure a)
  op_bare c pre post Ok a empty ok e n has now le vs r dep w m k =
      subst (λ (ss : List (List Instr)). Runs E.site (length (c n).instrs + total ss) m (at_work m w (pre vs) (front (c n).instrs r)) w (To_ post vs r) (Good Ok now) (gives a w)) (sym (empty n))
      (op_all (c n).instrs pre post Ok a ok (e n) n tt now le vs r dep w m k)

  -- one that does what is meant of numbers
  agree_by : (i : Instr) (pre : Stack) (t : IntType) (n : ℕ) (now : Now) (vs : List Word) (r : List Item) (w : World) (m : Mem) → Kept E now w m → (q : Answer) → carried i (pre vs) ≡ made (width_of t) vs q → IsAnswer (IsIn t) q
      → RunsTo E.site (size_of (one i n)) m (at_work m w (pre vs) (front (one i n).instrs r)) w (To_ (λ z us. word t z ∷ us) vs r) (Good (IsIn t) now) (meant q w)
  agree_by i pre t n now vs r w m k (answers.number z) e ok = (m, (ok, k), one_here E.site w m m i (frame_of E m w) (pre vs) r (thread (frame_of E m w) (word t z ∷ vs) r) (carried_is i m (frame_of E m w) (pre vs) (word t z ∷ vs) r e))
  agree_by i pre t n now vs r w m k answers.no_divisor e ok = trapped E.site w m i (frame_of E m w) (pre vs) r traps.Zero zero_divide (carried_traps i m (frame_of E m w) (pre vs) r operate-traps.Zero e) tt refl tt
  agree_by i pre t n now vs r w m k answers.no_quotient e ok = trapped E.site w m i (frame_of E m w) (pre vs) r traps.Overflow overflow (carried_traps i m (frame_of E m w) (pre vs) r operate-traps.Overflow e) tt refl tt

  pub op_agree : (i : Instr) (pre : Stack) (t : IntType) (x : Does ℤ) → ((vs : List Word) → Agree (width_of t) (IsIn t) vs x (carried i (pre vs))) → Op (one i) pre (λ z vs. word t z ∷ vs) (IsIn t) x
  op_agree i pre t x h n has now le vs r dep w m k ag =
      subst (λ (y : Does ℤ). RunsTo E.site (size_of (one i n)) m (at_work m w (pre vs) (front (one i n).instrs r)) w (To_ (λ z us. word t z ∷ us) vs r) (Good (IsIn t) now) (y w)) (sym (h vs).is_meant)
      (agree_by i pre t n now vs r w m k (h vs).answer (h vs).is_made (h vs).in_range)

  -- a meaning that is the same in each world
  pub op_seen_in : {A : Type 0} (hs : List Home) (c : Code) (pre : Stack) (post : List Home → A → Stack) (Ok : List Home → A → Type 0) (x y : Does A) → ((w : World) → x w ≡ y w) → OpIn hs c pre post Ok x → OpIn hs c pre post Ok y
  op_seen_in {A = A} hs c pre post Ok x y e h n has now le vs r dep w m k =
      subst (λ (q : Result A). Runs E.site (size_of (c n)) m (at_work m w (pre vs) (front (c n).instrs r)) w (ToIn post vs r) (GoodIn Ok now) q) (e w) (h n has now le vs r dep w m k)

  pub op_seen : {A : Type 0} (c : Code) (pre : Stack) (post : A → Stack) (Ok : A → Type 0) (x y : Does A) → ((w : World) → x w ≡ y w) → Op c pre post Ok x → Op c pre post Ok y
  op_seen c pre post Ok x y e h = op_seen_in [] c pre (λ hs. post) (λ hs. Ok) x y e h
