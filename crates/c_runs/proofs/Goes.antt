-- The machine goes from one state to another, within counts of steps. Each unit of fuel that is spent between them costs at
-- least one step; the steps are at most so many instructions, and `most` for each unit that is spent.
use Rattle.std.proofs.Common.{◌≡◌, ℕ, suc, ◌+◌, ◌*◌, ◌≤◌, List, [], ◌∷◌, ◌++◌, length, Bool, false, Option, Some, None, refl, sym, ap, ◌∙◌, arith, append_assoc, append-nil, length-append}
use Rattle.std.proofs.Math.Nat.{mul-suc}
use Rattle.ms_event.specs.declared.event.Event.{Event}
use Rattle.ms_event.specs.declared.event.Event.TheVariants.{Alloc, Free, Read, Refused, Seal, Slice, Write}
use Rattle.ms_event.specs.Monitor.{grants, sizes_of}
use Rattle.ms_host.specs.declared.host.Host.{Host}
use Rattle.ms_host.specs.declared.trap.TrapKind.{TrapKind}
use Rattle.ms_linear.specs.declared.global.GlobalInst.{GlobalInst}
use Rattle.ms_linear.specs.declared.value.Value.{Value}
use Rattle.ms_linear.specs.Memory.{Memory as Linear}
use Rattle.ms_linear.specs.Table.{Table}
use Rattle.ms_machine.specs.Crews.{Input}
use Rattle.ms_machine.specs.Hosting as hosting
use Rattle.ms_machine.specs.Hosting.{host_on, takes}
use Rattle.ms_machine.specs.Moves.{first_of, hosted, move_on, rest_of}
use Rattle.ms_machine.specs.Step as step
use Rattle.ms_machine.specs.Step.{Outcome, act}
use Rattle.ms_machine.specs.Store.{Store}
use Rattle.ms_machine.specs.declared.store.Instance.{Instance}
use Rattle.ms_module.specs.declared.instr.Instr.{Instr}
use Rattle.ms_segment.specs.Memory.{Memory}
use Rattle.ms_task.specs.Control.{exited}
use Rattle.ms_task.specs.declared.func.FuncInst.{FuncInst}
use Rattle.ms_task.specs.Thread.{Do, Frame, Item, Thread, thread}
use Rattle.c_meaning.specs.World.{End, World, Result, gives, ends, after}
use Rattle.c_meaning.specs.World as world
use Rattle.ms_relate.specs.refinement.Homes.{Home}
use Rattle.c_runs.specs.Threads.{Trapped, Ran, ran, behind, before, after_move, steps_to}
use Rattle.c_runs.specs.Ends.{stop_of}
use Rattle.c_runs.proofs.Grants.{Agrees, agrees_on, grants_append}

-- what doesn't change in a run
pub record Site : Type 0 where
  pub funcs : List FuncInst
  pub instances : List Instance
  pub tables : List Table
  pub memories : List Linear
  -- how many globals there are
  pub shared : ℕ
  -- what goes on where a thread has ended; by itself it does nothing
  pub last : ℕ → Store → Option Value → Input → Ran
  pub still : (s : Store) (v : Option Value) (input : Input) → (last 0 s v input).events ≡ []
  -- of instructions in a function
  pub most : ℕ

-- what changes: of the store; the homes of the objects so far; and locals that hold no variable
pub record Mem : Type 0 where
  pub globals : List GlobalInst
  pub segments : Memory
  pub homes : List Home
  pub temps : List Value

abbrev pub store : Site → Mem → Store
store S m = record { funcs = S.funcs; instances = S.instances; tables = S.tables; memories = S.memories; globals = m.globals; segments = m.segments }

abbrev pub given : World → Input
given w = w.input

pub sizes_append : (a b : List Event) → sizes_of (a ++ b) ≡ sizes_of a ++ sizes_of b
sizes_append [] b = refl
sizes_append (Alloc id addr size ∷ a) b = ap (λ (l : List ℕ). size ∷ l) (sizes_append a b)
sizes_append (Refused size ∷ a) b = ap (λ (l : List ℕ). size ∷ l) (sizes_append a b)
sizes_append (Slice a1 a2 a3 a4 a5 a6 ∷ a) b = sizes_append a b
sizes_append (Read a1 a2 a3 a4 a5 a6 ∷ a) b = sizes_append a b
sizes_append (Write a1 a2 a3 a4 a5 ∷ a) b = sizes_append a b
sizes_append (Free a1 ∷ a) b = sizes_append a b
sizes_append (Seal a1 a2 a3 ∷ a) b = sizes_append a b

-- what is told on the way from one world to another
pub record Tells (w w' : World) (puts : List ℕ) (events : List Event) : Type 0 where
  pub output : w'.output ≡ w.output ++ puts
  pub sizes : w'.sizes ≡ w.sizes ++ sizes_of events
  pub grants : w.grants ≡ grants events ++ w'.grants

pub tells_nothing : (w w' : World) → w'.output ≡ w.output → w'.sizes ≡ w.sizes → w.grants ≡ w'.grants → Tells w w' [] []
tells_nothing w w' o s g = record { output = o ∙ sym (append-nil w.output); sizes = s ∙ sym (append-nil w.sizes); grants = g }

pub tells_both : (w w1 w2 : World) (p1 p2 : List ℕ) (e1 e2 : List Event) → Tells w w1 p1 e1 → Tells w1 w2 p2 e2 → Tells w w2 (p1 ++ p2) (e1 ++ e2)
tells_both w w1 w2 p1 p2 e1 e2 a b = record {
  output = b.output ∙ ap (λ (l : List ℕ). l ++ p2) a.output ∙ append_assoc w.output p1 p2;
  sizes = b.sizes ∙ ap (λ (l : List ℕ). l ++ sizes_of e2) a.sizes ∙ append_assoc w.sizes (sizes_of e1) (sizes_of e2) ∙ ap (λ (l : List ℕ). w.sizes ++ l) (sym (sizes_append e1 e2));
  grants = a.grants ∙ ap (λ (l : List Bool). grants e1 ++ l) b.grants ∙ sym (append_assoc (grants e1) (grants e2) w2.grants) ∙ ap (λ (l : List Bool). l ++ w2.grants) (sym (grants_append e1 e2));
}

pub behind_both : (p1 p2 : List ℕ) (e1 e2 : List Event) (r : Ran) → behind p1 e1 (behind p2 e2 r) ≡ behind (p1 ++ p2) (e1 ++ e2) r
behind_both p1 p2 e1 e2 r =
    ap (λ (l : List ℕ). record { puts = l; events = e1 ++ (e2 ++ r.events); stop = r.stop }) (sym (append_assoc p1 p2 r.puts))
    ∙ ap (λ (l : List Event). record { puts = (p1 ++ p2) ++ r.puts; events = l; stop = r.stop }) (sym (append_assoc e1 e2 r.events))

-- the steps until an end; where a grant is wanting, with the one that asks for it
abbrev pub counted : End → ℕ → ℕ
counted world.ungranted n = suc n
counted _ n = n

pub counted_on : (e : End) (m n : ℕ) → counted e (m + n) ≡ m + counted e n
counted_on world.ungranted m n = omega arith
counted_on (world.result v) m n = refl
counted_on (world.unsafe u) m n = refl
counted_on world.zero_divide m n = refl
counted_on world.overflow m n = refl
counted_on world.abort m n = refl
counted_on world.null_call m n = refl
counted_on world.deep m n = refl
counted_on world.exhausted m n = refl
counted_on world.out_of_fuel m n = refl
counted_on world.lost m n = refl

counted_trap : (e : End) (k : TrapKind) (n : ℕ) → stop_of e ≡ Trapped k → counted e n ≡ n
counted_trap (world.unsafe u) k n a = refl
counted_trap world.zero_divide k n a = refl
counted_trap world.overflow k n a = refl
counted_trap world.abort k n a = refl
counted_trap world.null_call k n a = refl
counted_trap world.deep k n a = refl
counted_trap world.exhausted k n a = refl
counted_trap _ k n a = absurd cc

module _ (S : Site) where
  pub record Goes (size : ℕ) (w w' : World) (m : Mem) (t : Thread) (m' : Mem) (t' : Thread) : Type 0 where
    pub puts : List ℕ
    pub events : List Event
    pub tells : Tells w w' puts events
    pub cost : ℕ
    pub least : w.fuel ≤ cost + w'.fuel
    pub greatest : cost + S.most * w'.fuel ≤ size + S.most * w.fuel
    pub by : (k : ℕ) → steps_to S.last (cost + k) (store S m) t (given w) ≡ behind puts events (steps_to S.last k (store S m') t' (given w'))

  -- Where the program ends so, the machine does. An end for want of fuel has none left; one for want of a grant has none left, and
  -- the step behind it asks for one more.
  abbrev pub IsEnd : End → World → Type 0
  IsEnd (world.result v) w = ⊥
  IsEnd world.out_of_fuel w = w.fuel ≡ 0
  IsEnd world.ungranted w = w.grants ≡ []
  IsEnd world.lost w = ⊥
  IsEnd _ w = Unit {0}

  abbrev pub Asks : End → ℕ → Mem → Thread → World → List Event → Type 0
  Asks world.ungranted n m t w events = length (grants (steps_to S.last (suc n) (store S m) t (given w)).events) ≡ suc (length (grants events))
  Asks _ n m t w events = Unit {0}

  pub record Stops (size : ℕ) (w w' : World) (m : Mem) (t : Thread) (e : End) : Type 0 where
    pub puts : List ℕ
    pub events : List Event
    pub tells : Tells w w' puts events
    pub is : IsEnd e w'
    pub cost : ℕ
    pub least : w.fuel ≤ cost + w'.fuel
    pub greatest : counted e cost + S.most * w'.fuel ≤ size + S.most * w.fuel
    pub so : steps_to S.last cost (store S m) t (given w) ≡ behind puts events (ran (stop_of e))
    pub asks : Asks e cost m t w events

  -- where the program goes on, the machine comes to the thread of it; where it ends, the machine does
  abbrev pub RunsTo : {A : Type 0} → (size : ℕ) → Mem → Thread → World → (A → World → Mem → Thread) → (A → World → Mem → Type 0) → Result A → Type 0
  RunsTo size m start w to Good (gives a w') = (m' : Mem) × Good a w' m' × Goes size w w' m start m' (to a w' m')
  RunsTo size m start w to Good (ends e w') = Stops size w w' m start e

  -- for grants that the run agrees with
  abbrev pub Runs : {A : Type 0} → (size : ℕ) → Mem → Thread → World → (A → World → Mem → Thread) → (A → World → Mem → Type 0) → Result A → Type 0
  Runs size m start w to Good x = Agrees S.last (store S m) start (given w) w.grants → RunsTo size m start w to Good x

  -- ---- one behind the other

  pub asks_on : (e : End) (cost n : ℕ) (m m1 : Mem) (t t1 : Thread) (w w1 : World) (puts : List ℕ) (events later : List Event)
      → ((k : ℕ) → steps_to S.last (cost + k) (store S m) t (given w) ≡ behind puts events (steps_to S.last k (store S m1) t1 (given w1))) → Asks e n m1 t1 w1 later → Asks e (cost + n) m t w (events ++ later)
  asks_on world.ungranted cost n m m1 t t1 w w1 puts events later by a =
      let one : suc (cost + n) ≡ cost + suc n = omega arith in
      let seen = ap (λ (k : ℕ). grants (steps_to S.last k (store S m) t (given w)).events) one ∙ ap (λ (r : Ran). grants r.events) (by (suc n)) ∙ grants_append events (steps_to S.last (suc n) (store S m1) t1 (given w1)).events in
      let long = ap (λ (l : List Bool). length l) seen ∙ length-append (grants events) (grants (steps_to S.last (suc n) (store S m1) t1 (given w1)).events) in
      let all = ap (λ (l : List Bool). length l) (grants_append events later) ∙ length-append (grants events) (grants later) in
      omega (arith, long, all, a)
  asks_on (world.result v) cost n m m1 t t1 w w1 puts events later by a = tt
  asks_on (world.unsafe u) cost n m m1 t t1 w w1 puts events later by a = tt
  asks_on world.zero_divide cost n m m1 t t1 w w1 puts events later by a = tt
  asks_on world.overflow cost n m m1 t t1 w w1 puts events later by a = tt
  asks_on world.abort cost n m m1 t t1 w w1 puts events later by a = tt
  asks_on world.null_call cost n m m1 t t1 w w1 puts events later by a = tt
  asks_on world.deep cost n m m1 t t1 w w1 puts events later by a = tt
  asks_on world.exhausted cost n m m1 t t1 w w1 puts events later by a = tt
  asks_on world.out_of_fuel cost n m m1 t t1 w w1 puts events later by a = tt
  asks_on world.lost cost n m m1 t t1 w w1 puts events later by a = tt

  pub goes_on : (s1 s2 : ℕ) (w w1 w2 : World) (m m1 m2 : Mem) (t t1 t2 : Thread) → Goes s1 w w1 m t m1 t1 → Goes s2 w1 w2 m1 t1 m2 t2 → Goes (s1 + s2) w w2 m t m2 t2
  goes_on s1 s2 w w1 w2 m m1 m2 t t1 t2 g h = record {
    puts = g.puts ++ h.puts;
    events = g.events ++ h.events;
    tells = tells_both w w1 w2 g.puts h.puts g.events h.events g.tells h.tells;
    cost = g.cost + h.cost;
    least = let a = g.least in let b = h.least in omega (arith, a, b);
    greatest = let a = g.greatest in let b = h.greatest in omega (arith, a, b);
    by = λ k.
        let e : (g.cost + h.cost) + k ≡ g.cost + (h.cost + k) = omega arith in
        ap (λ (n : ℕ). steps_to S.last n (store S m) t (given w)) e ∙ g.by (h.cost + k) ∙ ap (behind g.puts g.events) (h.by k) ∙ behind_both g.puts h.puts g.events h.events (steps_to S.last k (store S m2) t2 (given w2));
  }

  pub stops_behind : (s1 s2 : ℕ) (w w1 w2 : World) (m m1 : Mem) (t t1 : Thread) (e : End) → Goes s1 w w1 m t m1 t1 → Stops s2 w1 w2 m1 t1 e → Stops (s1 + s2) w w2 m t e
  stops_behind s1 s2 w w1 w2 m m1 t t1 e g h = record {
    puts = g.puts ++ h.puts;
    events = g.events ++ h.events;
    tells = tells_both w w1 w2 g.puts h.puts g.events h.events g.tells h.tells;
    is = h.is;
    cost = g.cost + h.cost;
    least = let a = g.least in let b = h.least in omega (arith, a, b);
    greatest = let a = g.greatest in let b = h.greatest in let c = counted_on e g.cost h.cost in omega (arith, a, b, c);
    so = g.by h.cost ∙ ap (behind g.puts g.events) h.so ∙ behind_both g.puts h.puts g.events h.events (ran (stop_of e));
    asks = asks_on e g.cost h.cost m m1 t t1 w w1 g.puts g.events h.events g.by h.asks;
  }

  pub after_goes : {B : Type 0} (s1 s2 : ℕ) (w w1 : World) (m m1 : Mem) (t t1 : Thread) (to : B → World → Mem → Thread) (Good : B → World → Mem → Type 0) (x : Result B)
      → Goes s1 w w1 m t m1 t1 → RunsTo s2 m1 t1 w1 to Good x → RunsTo (s1 + s2) m t w to Good x
  after_goes s1 s2 w w1 m m1 t t1 to Good (gives b w2) g r = (r.0, r.1, goes_on s1 s2 w w1 w2 m m1 r.0 t t1 (to b w2 r.0) g r.2)
  after_goes s1 s2 w w1 m m1 t t1 to Good (ends e w2) g r = stops_behind s1 s2 w w1 w2 m m1 t t1 e g r

  pub agrees_after : (s1 : ℕ) (w w1 : World) (m m1 : Mem) (t t1 : Thread) → Goes s1 w w1 m t m1 t1 → Agrees S.last (store S m) t (given w) w.grants → Agrees S.last (store S m1) t1 (given w1) w1.grants
  agrees_after s1 w w1 m m1 t t1 g a = agrees_on S.last (store S m) (store S m1) t t1 (given w) (given w1) g.puts g.events g.cost w.grants w1.grants g.by g.tells.grants a

  pub behind_goes : {B : Type 0} (s1 s2 : ℕ) (w w1 : World) (m m1 : Mem) (t t1 : Thread) (to : B → World → Mem → Thread) (Good : B → World → Mem → Type 0) (x : Result B)
      → Goes s1 w w1 m t m1 t1 → Runs s2 m1 t1 w1 to Good x → Runs (s1 + s2) m t w to Good x
  behind_goes s1 s2 w w1 m m1 t t1 to Good x g r a = after_goes s1 s2 w w1 m m1 t t1 to Good x g (r (agrees_after s1 w w1 m m1 t t1 g a))

  pub resize_to : {B : Type 0} (size size' : ℕ) (m : Mem) (t : Thread) (w : World) (to : B → World → Mem → Thread) (Good : B → World → Mem → Type 0) (x : Result B) → size ≤ size' → RunsTo size m t w to Good x → RunsTo size' m t w to Good x
  resize_to size size' m t w to Good (gives b w1) le r =
      let g = r.2 in (r.0, r.1, record { puts = g.puts; events = g.events; tells = g.tells; cost = g.cost; least = g.least; greatest = let b = g.greatest in omega (arith, b, le); by = g.by })
  resize_to size size' m t w to Good (ends e w1) le g =
      record { puts = g.puts; events = g.events; tells = g.tells; is = g.is; cost = g.cost; least = g.least; greatest = let b = g.greatest in omega (arith, b, le); so = g.so; asks = g.asks }

  pub resize : {B : Type 0} (size size' : ℕ) (m : Mem) (t : Thread) (w : World) (to : B → World → Mem → Thread) (Good : B → World → Mem → Type 0) (x : Result B) → size ≤ size' → Runs size m t w to Good x → Runs size' m t w to Good x
  resize size size' m t w to Good x le r a = resize_to size size' m t w to Good x le (r a)

  -- with a fact that is weaker
  pub weaker : {B : Type 0} (size : ℕ) (m : Mem) (t : Thread) (w : World) (to : B → World → Mem → Thread) (Good Good' : B → World → Mem → Type 0) (x : Result B) → ((b : B) (w1 : World) (m1 : Mem) → Good b w1 m1 → Good' b w1 m1) → Runs size m t w to Good x → Runs size m t w to Good' x
  weaker size m t w to Good Good' (gives b w1) f r ag = let q = r ag in (q.0, f b w1 q.0 q.1, q.2)
  weaker size m t w to Good Good' (ends e w1) f r ag = r ag

  bind_to : {A B : Type 0} (s1 s2 : ℕ) (m : Mem) (start : Thread) (w : World) (to1 : A → World → Mem → Thread) (Good1 : A → World → Mem → Type 0) (to2 : B → World → Mem → Thread) (Good2 : B → World → Mem → Type 0)
      (x : Result A) (f : A → World → Result B) → Agrees S.last (store S m) start (given w) w.grants → RunsTo s1 m start w to1 Good1 x
      → ((a : A) (w1 : World) (m1 : Mem) → Good1 a w1 m1 → Runs s2 m1 (to1 a w1 m1) w1 to2 Good2 (f a w1)) → RunsTo (s1 + s2) m start w to2 Good2 (after x f)
  bind_to s1 s2 m start w to1 Good1 to2 Good2 (gives a w1) f ag r g =
      after_goes s1 s2 w w1 m r.0 start (to1 a w1 r.0) to2 Good2 (f a w1) r.2 (g a w1 r.0 r.1 (agrees_after s1 w w1 m r.0 start (to1 a w1 r.0) r.2 ag))
  bind_to s1 s2 m start w to1 Good1 to2 Good2 (ends e w1) f ag h g =
      record { puts = h.puts; events = h.events; tells = h.tells; is = h.is; cost = h.cost; least = h.least; greatest = let b = h.greatest in omega (arith, b); so = h.so; asks = h.asks }

  pub bind : {A B : Type 0} (s1 s2 : ℕ) (m : Mem) (start : Thread) (w : World) (to1 : A → World → Mem → Thread) (Good1 : A → World → Mem → Type 0) (to2 : B → World → Mem → Thread) (Good2 : B → World → Mem → Type 0)
      (x : Result A) (f : A → World → Result B) → Runs s1 m start w to1 Good1 x
      → ((a : A) (w1 : World) (m1 : Mem) → Good1 a w1 m1 → Runs s2 m1 (to1 a w1 m1) w1 to2 Good2 (f a w1)) → Runs (s1 + s2) m start w to2 Good2 (after x f)
  bind s1 s2 m start w to1 Good1 to2 Good2 x f r g ag = bind_to s1 s2 m start w to1 Good1 to2 Good2 x f ag (r ag) g

  -- ---- no step

  pub stays : (w : World) (m : Mem) (t : Thread) → Goes 0 w w m t m t
  stays w m t = record {
    puts = [];
    events = [];
    tells = tells_nothing w w refl refl refl;
    cost = 0;
    least = omega arith;
    greatest = omega arith;
    by = λ k. let e : 0 + k ≡ k = omega arith in ap (λ (n : ℕ). steps_to S.last n (store S m) t (given w)) e;
  }

  -- the same state of the machine, of another world and with other locals of no variable
  pub shifts : (w w' : World) (m : Mem) (q : List Value) (t : Thread) → w'.fuel ≡ w.fuel → w'.input ≡ w.input → Tells w w' [] [] → Goes 0 w w' m t (record m { temps = q }) t
  shifts w w' m q t ef ei tells = record {
    puts = [];
    events = [];
    tells = tells;
    cost = 0;
    least = omega (arith, ef);
    greatest = let e = ap (λ (n : ℕ). S.most * n) ef in omega (arith, e);
    by = λ k. let e : 0 + k ≡ k = omega arith in ap (λ (n : ℕ). steps_to S.last n (store S m) t (given w)) e ∙ ap (λ (l : Input). steps_to S.last k (store S m) t l) (sym ei);
  }

  pub sized : (s s' : ℕ) (w w' : World) (m m' : Mem) (t t' : Thread) → s ≤ s' → Goes s w w' m t m' t' → Goes s' w w' m t m' t'
  sized s s' w w' m m' t t' le g = record { puts = g.puts; events = g.events; tells = g.tells; cost = g.cost; least = g.least; greatest = let b = g.greatest in omega (arith, b, le); by = g.by }

  -- here already
  pub here : {A : Type 0} (size : ℕ) (w : World) (m : Mem) (to : A → World → Mem → Thread) (Good : A → World → Mem → Type 0) (a : A) → Good a w m → Runs size m (to a w m) w to Good (gives a w)
  here size w m to Good a g ag = resize_to 0 size m (to a w m) w to Good (gives a w) (omega arith) (m, g, stays w m (to a w m))

  -- ---- one step, which tells nothing

  pub step_is : (k : ℕ) (m m' : Mem) (i : Instr) (fr : Frame) (vs : List Value) (r : List Item) (t' : Thread) (input : Input)
      → act (store S m) i (thread fr vs r) ≡ step.Next (store S m') t' None → steps_to S.last (1 + k) (store S m) (thread fr vs (Do i ∷ r)) input ≡ steps_to S.last k (store S m') (exited t') input
  step_is k m m' i fr vs r t' input e =
      let one : 1 + k ≡ suc k = omega arith in
      ap (λ (n : ℕ). steps_to S.last n (store S m) (thread fr vs (Do i ∷ r)) input) one
      ∙ ap (λ (o : Outcome). after_move (move_on (store S m) (first_of input) (step.exited o)) input (steps_to S.last k)) e

  pub one : (w w' : World) (m m' : Mem) (i : Instr) (fr : Frame) (vs : List Value) (r : List Item) (t' : Thread) → w'.fuel ≡ w.fuel → w'.input ≡ w.input → Tells w w' [] []
      → act (store S m) i (thread fr vs r) ≡ step.Next (store S m') t' None → Goes 1 w w' m (thread fr vs (Do i ∷ r)) m' (exited t')
  one w w' m m' i fr vs r t' ef ei tells e = record {
    puts = [];
    events = [];
    tells = tells;
    cost = 1;
    least = omega (arith, ef);
    greatest = let q = ap (λ (n : ℕ). S.most * n) ef in omega (arith, q);
    by = λ k. step_is k m m' i fr vs r t' (given w) e ∙ ap (λ (l : Input). steps_to S.last k (store S m') (exited t') l) (sym ei);
  }

  -- in one world
  pub one_here : (w : World) (m m' : Mem) (i : Instr) (fr : Frame) (vs : List Value) (r : List Item) (t' : Thread)
      → act (store S m) i (thread fr vs r) ≡ step.Next (store S m') t' None → Goes 1 w w m (thread fr vs (Do i ∷ r)) m' (exited t')
  one_here w m m' i fr vs r t' e = one w w m m' i fr vs r t' refl refl (tells_nothing w w refl refl refl) e

  pub trapped : (w : World) (m : Mem) (i : Instr) (fr : Frame) (vs : List Value) (r : List Item) (k : TrapKind) (e : End)
      → act (store S m) i (thread fr vs r) ≡ step.Trap k → IsEnd e w → stop_of e ≡ Trapped k → (Asks e 1 m (thread fr vs (Do i ∷ r)) w []) → Stops 1 w w m (thread fr vs (Do i ∷ r)) e
  trapped w m i fr vs r k e h is a asks = record {
    puts = [];
    events = [];
    tells = tells_nothing w w refl refl refl;
    is = is;
    cost = 1;
    least = omega arith;
    greatest = let c = counted_trap e k 1 a in omega (arith, c);
    asks = asks;
    so = ap (λ (o : Outcome). after_move (move_on (store S m) (first_of (given w)) (step.exited o)) (given w) (steps_to S.last 0)) h ∙ ap ran (sym a);
  }

  -- ---- a step that asks the host: it takes a byte of the input, or puts one

  pub puts_one : (w w' : World) (m : Mem) (i : Instr) (fr : Frame) (us vs : List Value) (r : List Item) (h : Host) (b : ℕ)
      → act (store S m) i (thread fr us r) ≡ step.Calls h (thread fr us r) → host_on h (first_of (given w)) us ≡ hosting.Gives vs (Some b) → takes h ≡ false
      → w'.fuel ≡ w.fuel → w'.input ≡ w.input → Tells w w' (b ∷ []) [] → Goes 1 w w' m (thread fr us (Do i ∷ r)) m (exited (thread fr vs r))
  puts_one w w' m i fr us vs r h b e g calm ef ei tells = record {
    puts = b ∷ [];
    events = [];
    tells = tells;
    cost = 1;
    least = omega (arith, ef);
    greatest = let q = ap (λ (n : ℕ). S.most * n) ef in omega (arith, q);
    by = λ k.
        let one : 1 + k ≡ suc k = omega arith in
        ap (λ (n : ℕ). steps_to S.last n (store S m) (thread fr us (Do i ∷ r)) (given w)) one
        ∙ ap (λ (o : Outcome). after_move (move_on (store S m) (first_of (given w)) (step.exited o)) (given w) (steps_to S.last k)) e
        ∙ ap (λ (x : hosting.Effect). after_move (hosted (store S m) (thread fr us r) (takes h) x) (given w) (steps_to S.last k)) g
        ∙ ap (λ (t : Bool). before (Some b) None (steps_to S.last k (store S m) (exited (thread fr vs r)) (rest_of t (given w)))) calm
        ∙ ap (λ (l : Input). before (Some b) None (steps_to S.last k (store S m) (exited (thread fr vs r)) l)) (sym ei);
  }

  pub takes_one : (w w' : World) (m : Mem) (i : Instr) (fr : Frame) (us vs : List Value) (r : List Item) (h : Host)
      → act (store S m) i (thread fr us r) ≡ step.Calls h (thread fr us r) → host_on h (first_of (given w)) us ≡ hosting.Gives vs None
      → w'.fuel ≡ w.fuel → rest_of (takes h) (given w) ≡ given w' → Tells w w' [] [] → Goes 1 w w' m (thread fr us (Do i ∷ r)) m (exited (thread fr vs r))
  takes_one w w' m i fr us vs r h e g ef ei tells = record {
    puts = [];
    events = [];
    tells = tells;
    cost = 1;
    least = omega (arith, ef);
    greatest = let q = ap (λ (n : ℕ). S.most * n) ef in omega (arith, q);
    by = λ k.
        let one : 1 + k ≡ suc k = omega arith in
        ap (λ (n : ℕ). steps_to S.last n (store S m) (thread fr us (Do i ∷ r)) (given w)) one
        ∙ ap (λ (o : Outcome). after_move (move_on (store S m) (first_of (given w)) (step.exited o)) (given w) (steps_to S.last k)) e
        ∙ ap (λ (x : hosting.Effect). after_move (hosted (store S m) (thread fr us r) (takes h) x) (given w) (steps_to S.last k)) g
        ∙ ap (λ (l : Input). steps_to S.last k (store S m) (exited (thread fr vs r)) l) ei;
  }

  -- ---- a step on which a unit of fuel is spent: the unit pays for all but one step of what follows

  spent_to : {B : Type 0} (size rest f : ℕ) (w : World) (m : Mem) (i : Instr) (fr : Frame) (vs : List Value) (r : List Item) (t : Thread) (to : B → World → Mem → Thread) (Good : B → World → Mem → Type 0) (x : Result B)
      → act (store S m) i (thread fr vs r) ≡ step.Next (store S m) t None → w.fuel ≡ suc f → suc rest ≤ size + S.most
      → RunsTo rest m (exited t) (record w { fuel = f }) to Good x → RunsTo size m (thread fr vs (Do i ∷ r)) w to Good x
  spent_to size rest f w m i fr vs r t to Good (gives b w1) e fuel le g =
      let h = g.2 in
      let paid : S.most * w.fuel ≡ S.most * f + S.most = ap (λ (n : ℕ). S.most * n) fuel ∙ mul-suc S.most f in (
        g.0,
        g.1,
        record {
          puts = h.puts;
          events = h.events;
          tells = record { output = h.tells.output; sizes = h.tells.sizes; grants = h.tells.grants };
          cost = 1 + h.cost;
          least = let a = h.least in omega (arith, a, fuel);
          greatest = let a = h.greatest in omega (arith, a, le, paid);
          by = λ k.
              let q : (1 + h.cost) + k ≡ 1 + (h.cost + k) = omega arith in
              ap (λ (n : ℕ). steps_to S.last n (store S m) (thread fr vs (Do i ∷ r)) (given w)) q ∙ step_is (h.cost + k) m m i fr vs r t (given w) e ∙ h.by k;
        },
      )
  spent_to size rest f w m i fr vs r t to Good (ends e' w1) e fuel le h =
      let paid : S.most * w.fuel ≡ S.most * f + S.most = ap (λ (n : ℕ). S.most * n) fuel ∙ mul-suc S.most f in
      record {
        puts = h.puts;
        events = h.events;
        tells = record { output = h.tells.output; sizes = h.tells.sizes; grants = h.tells.grants };
        is = h.is;
        cost = 1 + h.cost;
        least = let a = h.least in omega (arith, a, fuel);
        greatest = let a = h.greatest in let c = counted_on e' 1 h.cost in omega (arith, a, le, paid, c);
        so = step_is h.cost m m i fr vs r t (given w) e ∙ h.so;
        asks = asks_on e' 1 h.cost m m (thread fr vs (Do i ∷ r)) (exited t) w (record w { fuel = f }) [] [] h.events (λ k. step_is k m m i fr vs r t (given w) e) h.asks;
      }

  pub spent : {B : Type 0} (size rest f : ℕ) (w : World) (m : Mem) (i : Instr) (fr : Frame) (vs : List Value) (r : List Item) (t : Thread) (to : B → World → Mem → Thread) (Good : B → World → Mem → Type 0) (x : Result B)
      → act (store S m) i (thread fr vs r) ≡ step.Next (store S m) t None → w.fuel ≡ suc f → suc rest ≤ size + S.most
      → Runs rest m (exited t) (record w { fuel = f }) to Good x → Runs size m (thread fr vs (Do i ∷ r)) w to Good x
  spent size rest f w m i fr vs r t to Good x e fuel le g ag =
      spent_to size rest f w m i fr vs r t to Good x e fuel le
      (g (agrees_on S.last (store S m) (store S m) (thread fr vs (Do i ∷ r)) (exited t) (given w) (given w) [] [] 1 w.grants w.grants (λ k. step_is k m m i fr vs r t (given w) e) refl ag))

  -- no unit is left
  pub unspent : (size : ℕ) (w : World) (m : Mem) (i : Instr) (fr : Frame) (vs : List Value) (r : List Item) → w.fuel ≡ 0 → Stops size w w m (thread fr vs (Do i ∷ r)) world.out_of_fuel
  unspent size w m i fr vs r e = record {
    puts = [];
    events = [];
    tells = tells_nothing w w refl refl refl;
    is = e;
    cost = 0;
    least = omega arith;
    greatest = omega arith;
    so = refl;
    asks = tt;
  }

pub after_after : {A B C : Type 0} (m : Result A) (f : A → World → Result B) (g : B → World → Result C) → after (after m f) g ≡ after m (λ a w. after (f a w) g)
after_after (gives a w) f g = refl
after_after (ends e w) f g = refl
