-- The start function: what is made, and then what is given, as one run.
use Rattle.std.proofs.Common.{◌≡◌, ℕ, ◌+◌, ◌≤◌, List, [], length, sym, arith, subst}
use Rattle.ms_module.specs.declared.instr.Instr.{Instr}
use Rattle.ms_task.specs.Thread.{Item, depth_of, sequence}
use Rattle.c_typed.specs.Tree.{Typed}
use Rattle.c_typed.specs.Units.{IsWellTyped, literals_in}
use Rattle.c_meaning.specs.World.{World, ◌>>◌}
use Rattle.c_meaning.specs.Units.{give_each, make_each}
use Rattle.ms_emit.specs.Codes.{Code, total}
use Rattle.c_code.specs.Functions.{gives as gives_code, makes, start}
use Rattle.c_code.specs.Modules.{start_target}
use Rattle.c_runs.specs.Placed.{start_index}
use Rattle.c_runs.proofs.Goes.{Mem, Runs, Site}
use Rattle.c_runs.proofs.Related.{Kept, Now, front, has_back, has_front}
use Rattle.c_runs.proofs.Ops.{at_work}
use Rattle.c_runs.proofs.Operations.{Linked}
use Rattle.c_runs.proofs.Globals.{NamesOf, all_reached, file_slots}
use Rattle.c_runs.proofs.Files.{Reached}
use Rattle.c_runs.proofs.Starting.{AreMade, Es, Good, HasStart, To, all_made, joins, making}
use Rattle.c_runs.proofs.Giving.{AllGiven, all_given, giving}

module _ (S : Site) (L : Linked S) (u : Typed) (well : IsWellTyped u) (bound : ℕ) (p : HasStart S u) (names : NamesOf u.structs (file_slots u) (all_reached u) (start_target u) u.globals (literals_in u.made))
    (are_made : AreMade u u.made) (are_given : AllGiven S L u well bound p u.made) where
  abbrev a : Code
  a = makes (start_target u) u.globals 0 u.made

  abbrev b : Code
  b = gives_code (start_target u) 0 u.made

  abbrev n : ℕ
  n = 1 + length (a 1).seqs

  abbrev nothing : Reached
  nothing = record { named = []; texts = 0; sealed = 0 }

  pub started_runs : (now : Now) → now.below ≤ bound → now.waits ≤ 0 → (r : List Item) → depth_of r ≡ 1 → (w : World) (m : Mem) → Kept (Es S L u well bound p nothing) now w m
      → Runs S (total (start (start_target u) u.globals u.made)) m (at_work (Es S L u well bound p nothing) m w [] (front (sequence S.funcs (start_index u) 0) r)) w
      (To S L u well bound p (all_reached u) [] r) (Good S L u well bound p (all_reached u) now) ((make_each u u.made >> give_each u 0 u.made) w)
  started_runs now below few r dep w m kept =
      let size = total (start (start_target u) u.globals u.made) in
      let x = (make_each u u.made >> give_each u 0 u.made) w in
      let z : 0 + literals_in u.made ≡ literals_in u.made = omega arith in
      let q1 = making S L u well bound p [] 0 in
      subst (λ (is : List Instr). Runs S size m (at_work (Es S L u well bound p nothing) m w [] (front is r)) w (To S L u well bound p (all_reached u) [] r) (Good S L u well bound p (all_reached u) now) x) (sym p.code.0)
      (joins S L u well bound p a b 1 m w [] r nothing (λ r'. To S L u well bound p (giving S L u well bound p names 0) [] r') (Good S L u well bound p (giving S L u well bound p names 0) now) (To S L u well bound p (all_reached u) [] r) (Good S L u well bound p (all_reached u) now) (make_each u u.made w) (λ y. give_each u 0 u.made)
      (made_first now r w m kept z)
      (λ y w1 m1 k1.
      subst (λ (i : ℕ). Runs S (Rattle.ms_emit.specs.Codes.size_of (b n)) m1 (at_work (Es S L u well bound p (giving S L u well bound p names 0)) m1 w1 [] (front (b n).instrs r)) w1 (To S L u well bound p (giving S L u well bound p names i) [] r) (Good S L u well bound p (giving S L u well bound p names i) now) (give_each u 0 u.made w1)) z
      (all_given S L u well bound p names u.made 0 are_given (omega arith) n now below few [] r dep w1 m1 k1 (has_back S.funcs (start_index u) 1 (a 1).seqs (b n).seqs p.code.1))))
    where
      made_first : (now : Now) (r : List Item) (w : World) (m : Mem) → Kept (Es S L u well bound p nothing) now w m → 0 + literals_in u.made ≡ literals_in u.made
          → Runs S (Rattle.ms_emit.specs.Codes.size_of (a 1)) m (at_work (Es S L u well bound p nothing) m w [] (front (a 1).instrs (front (b n).instrs r))) w
          (To S L u well bound p (giving S L u well bound p names 0) [] (front (b n).instrs r)) (Good S L u well bound p (giving S L u well bound p names 0) now) (make_each u u.made w)
      made_first now r w m kept z =
          subst (λ (i : ℕ). Runs S (Rattle.ms_emit.specs.Codes.size_of (a 1)) m (at_work (Es S L u well bound p nothing) m w [] (front (a 1).instrs (front (b n).instrs r))) w
          (To S L u well bound p (record { named = Rattle.c_typed.specs.Units.variables_in u.made; texts = i; sealed = 0 }) [] (front (b n).instrs r)) (Good S L u well bound p (record { named = Rattle.c_typed.specs.Units.variables_in u.made; texts = i; sealed = 0 }) now) (make_each u u.made w)) z
          (all_made S L u well bound p u.made [] 0 are_made (omega arith) 1 now [] (front (b n).instrs r) w m kept (has_front S.funcs (start_index u) 1 (a 1).seqs (b n).seqs p.code.1))
