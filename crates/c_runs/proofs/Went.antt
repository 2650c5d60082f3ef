-- How far a run went from one world to another, and the same behind steps that come before it.
use Rattle.std.proofs.Common.{◌≡◌, ℕ, suc, ◌+◌, ◌≤◌, List, [], ◌++◌, length, length-append, Bool, ap, ◌∙◌, arith}
use Rattle.ms_event.specs.declared.event.Event.{Event}
use Rattle.ms_event.specs.Monitor.{grants}
use Rattle.c_meaning.specs.World.{End, World}
use Rattle.c_runs.specs.Threads.{Stop, Ran, ran, behind}
use Rattle.c_runs.proofs.Goes.{Tells, behind_both, tells_both}
use Rattle.c_runs.proofs.Grants.{grants_append}
use Rattle.c_runs.proofs.Outcomes.{How, Known, asking, over, spent}

-- it stops so, with so much fuel, and within so many steps
pub record Went (R : ℕ → Ran) (most fuel : ℕ) (st : Stop) (e : End) (w w' : World) : Type 0 where
  pub puts : List ℕ
  pub events : List Event
  pub cost : ℕ
  pub so : R cost ≡ behind puts events (ran st)
  pub tells : Tells w w' puts events
  pub how : How R most fuel st e w' cost events

-- from a world in which nothing was put or asked for
abbrev pub known_of : (R : ℕ → Ran) (most fuel : ℕ) (st : Stop) (e : End) (w w' : World) → w.output ≡ [] → w.sizes ≡ [] → Went R most fuel st e w w' → Known R w.grants st e w'
known_of R most fuel st e w w' none none' h = record {
  puts = h.puts;
  events = h.events;
  cost = h.cost;
  so = h.so;
  output = h.tells.output ∙ ap (λ (l : List ℕ). l ++ h.puts) none;
  sizes = h.tells.sizes ∙ ap (λ (l : List ℕ). l ++ Rattle.ms_event.specs.Monitor.sizes_of h.events) none';
  taken = h.tells.grants;
}

-- behind so many steps, which tell this
module _ (R R' : ℕ → Ran) (cost : ℕ) (puts : List ℕ) (events : List Event) (by : (k : ℕ) → R (cost + k) ≡ behind puts events (R' k)) (most most' fuel fuel' : ℕ) (room : cost + most' ≤ most) (least : fuel ≤ cost + fuel') where
  how_behind : (st : Stop) (e : End) (w : World) (c : ℕ) (later : List Event) → How R' most' fuel' st e w c later → How R most fuel st e w (cost + c) (events ++ later)
  how_behind st e w c later (over d le) = over d (omega (arith, le, room))
  how_behind st e w c later (spent e1 e2 le) = spent e1 e2 (omega (arith, le, least))
  how_behind st e w c later (asking e1 e2 none more le) =
      let one : suc (cost + c) ≡ cost + suc c = omega arith in
      let seen = ap (λ (n : ℕ). grants (R n).events) one ∙ ap (λ (r : Ran). grants r.events) (by (suc c)) ∙ grants_append events (R' (suc c)).events in
      let long = ap (λ (l : List Bool). length l) seen ∙ length-append (grants events) (grants (R' (suc c)).events) in
      let all = ap (λ (l : List Bool). length l) (grants_append events later) ∙ length-append (grants events) (grants later) in
      asking e1 e2 none (omega (arith, long, all, more)) (omega (arith, le, room))

  pub went_behind : (st : Stop) (e : End) (w w1 w2 : World) → Tells w w1 puts events → Went R' most' fuel' st e w1 w2 → Went R most fuel st e w w2
  went_behind st e w w1 w2 tells h = record {
    puts = puts ++ h.puts;
    events = events ++ h.events;
    cost = cost + h.cost;
    so = by h.cost ∙ ap (behind puts events) h.so ∙ behind_both puts h.puts events h.events (ran st);
    tells = tells_both w w1 w2 puts h.puts events h.events tells h.tells;
    how = how_behind st e w2 h.cost h.events h.how;
  }
