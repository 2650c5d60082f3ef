-- A stretch that begins with a step that no unit of fuel pays for: it has more steps_to S.last than units are spent in it, so that it pays for
-- a unit that is spent behind it.
use Rattle.std.proofs.Common.{◌≡◌, ℕ, suc, ◌+◌, ◌*◌, ◌≤◌, List, [], ◌∷◌, ◌++◌, None, refl, sym, ap, ◌∙◌, arith}
use Rattle.std.proofs.Math.Nat.{mul-suc}
use Rattle.ms_linear.specs.declared.value.Value.{Value}
use Rattle.ms_machine.specs.Step as step
use Rattle.ms_machine.specs.Step.{act}
use Rattle.ms_module.specs.declared.instr.Instr.{Instr}
use Rattle.ms_task.specs.Control.{exited}
use Rattle.ms_task.specs.Thread.{Do, Frame, Item, Thread, thread}
use Rattle.c_meaning.specs.World.{World, Result, gives, ends}
use Rattle.c_meaning.specs.World as world
use Rattle.c_runs.specs.Threads.{Paused, ran, behind, steps_to}
use Rattle.c_runs.proofs.Goes.{Goes, Mem, RunsTo, Site, Stops, asks_on, behind_both, given, step_is, store, tells_both, tells_nothing, counted_on}

module _ (S : Site) where
  pub record Leads (size : ℕ) (w w' : World) (m : Mem) (t : Thread) (m' : Mem) (t' : Thread) : Type 0 where
    pub goes : Goes S size w w' m t m' t'
    pub more : suc w.fuel ≤ goes.cost + w'.fuel

  -- one step
  pub leads_first : (w : World) (m : Mem) (i : Instr) (fr : Frame) (vs : List Value) (r : List Item) (t' : Thread) → act (store S m) i (thread fr vs r) ≡ step.Next (store S m) t' None → Leads 1 w w m (thread fr vs (Do i ∷ r)) m (exited t')
  leads_first w m i fr vs r t' e = record {
    goes = record { puts = []; events = []; tells = tells_nothing w w refl refl refl; cost = 1; least = omega arith; greatest = omega arith; by = λ k. step_is S k m m i fr vs r t' (given w) e };
    more = omega arith;
  }

  -- and what follows
  pub leads_further : (s1 s2 : ℕ) (w w1 w2 : World) (m m1 m2 : Mem) (t t1 t2 : Thread) → Leads s1 w w1 m t m1 t1 → Goes S s2 w1 w2 m1 t1 m2 t2 → Leads (s1 + s2) w w2 m t m2 t2
  leads_further s1 s2 w w1 w2 m m1 m2 t t1 t2 l h =
      let g = l.goes in
      record {
        goes = record {
          puts = g.puts ++ h.puts;
          events = g.events ++ h.events;
          tells = tells_both w w1 w2 g.puts h.puts g.events h.events g.tells h.tells;
          cost = g.cost + h.cost;
          least = let a = g.least in let b = h.least in omega (arith, a, b);
          greatest = let a = g.greatest in let b = h.greatest in omega (arith, a, b);
          by = λ k.
              let e : (g.cost + h.cost) + k ≡ g.cost + (h.cost + k) = omega arith in
              ap (λ (n : ℕ). steps_to S.last n (store S m) t (given w)) e ∙ g.by (h.cost + k) ∙ ap (behind g.puts g.events) (h.by k) ∙ behind_both g.puts h.puts g.events h.events (steps_to S.last k (store S m2) t2 (given w2));
        };
        more = let a = l.more in let b = h.least in omega (arith, a, b);
      }

  -- no unit is left behind it
  pub leads_out : (s size : ℕ) (w w1 : World) (m m1 : Mem) (t t1 : Thread) → s ≤ size → Leads s w w1 m t m1 t1 → w1.fuel ≡ 0 → steps_to S.last 0 (store S m1) t1 (given w1) ≡ ran Paused → Stops S size w w1 m t world.out_of_fuel
  leads_out s size w w1 m m1 t t1 le l none waits =
      let g = l.goes in
      record {
        puts = g.puts;
        events = g.events;
        tells = g.tells;
        is = none;
        cost = g.cost;
        least = g.least;
        greatest = let a = g.greatest in omega (arith, a, le);
        so = (let e : g.cost + 0 ≡ g.cost = omega arith in ap (λ (n : ℕ). steps_to S.last n (store S m) t (given w)) (sym e)) ∙ g.by 0 ∙ ap (behind g.puts g.events) waits;
        asks = tt;
      }

  -- a unit is spent behind it
  pub leads_paid : {B : Type 0} (s rest size f : ℕ) (w w1 : World) (m m1 : Mem) (t t1 : Thread) (to : B → World → Mem → Thread) (Good : B → World → Mem → Type 0) (x : Result B)
      → Leads s w w1 m t m1 t1 → w1.fuel ≡ suc f → s + rest ≤ size + S.most → RunsTo S rest m1 t1 (record w1 { fuel = f }) to Good x → RunsTo S size m t w to Good x
  leads_paid s rest size f w w1 m m1 t t1 to Good (gives b w2) l fuel le r =
      let g = l.goes in
      let h = r.2 in
      let paid : S.most * w1.fuel ≡ S.most * f + S.most = ap (λ (n : ℕ). S.most * n) fuel ∙ mul-suc S.most f in (
        r.0,
        r.1,
        record {
          puts = g.puts ++ h.puts;
          events = g.events ++ h.events;
          tells = tells_both w w1 w2 g.puts h.puts g.events h.events g.tells (record { output = h.tells.output; sizes = h.tells.sizes; grants = h.tells.grants });
          cost = g.cost + h.cost;
          least = let a = l.more in let b = h.least in omega (arith, a, b, fuel);
          greatest = let a = g.greatest in let b = h.greatest in omega (arith, a, b, le, paid);
          by = λ k.
              let e : (g.cost + h.cost) + k ≡ g.cost + (h.cost + k) = omega arith in
              ap (λ (n : ℕ). steps_to S.last n (store S m) t (given w)) e ∙ g.by (h.cost + k) ∙ ap (behind g.puts g.events) (h.by k) ∙ behind_both g.puts h.puts g.events h.events (steps_to S.last k (store S r.0) (to b w2 r.0) (given w2));
        },
      )
  leads_paid s rest size f w w1 m m1 t t1 to Good (ends e' w2) l fuel le h =
      let g = l.goes in
      let paid : S.most * w1.fuel ≡ S.most * f + S.most = ap (λ (n : ℕ). S.most * n) fuel ∙ mul-suc S.most f in
      record {
        puts = g.puts ++ h.puts;
        events = g.events ++ h.events;
        tells = tells_both w w1 w2 g.puts h.puts g.events h.events g.tells (record { output = h.tells.output; sizes = h.tells.sizes; grants = h.tells.grants });
        is = h.is;
        cost = g.cost + h.cost;
        least = let a = l.more in let b = h.least in omega (arith, a, b, fuel);
        greatest = let a = g.greatest in let b = h.greatest in let c = counted_on e' g.cost h.cost in omega (arith, a, b, le, paid, c);
        so = g.by h.cost ∙ ap (behind g.puts g.events) h.so ∙ behind_both g.puts h.puts g.events h.events (ran (Rattle.c_runs.specs.Ends.stop_of e'));
        asks = asks_on S e' g.cost h.cost m m1 t t1 w (record w1 { fuel = f }) g.puts g.events h.events g.by h.asks;
      }
