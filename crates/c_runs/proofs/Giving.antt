-- Before `main`: variables at file scope are given their values, and string literals their bytes, in the order of their tokens. A
-- literal is sealed then.
use Rattle.std.proofs.Common.{◌≡◌, ℕ, suc, ◌+◌, ◌*◌, ◌<◌, ◌≤◌, List, [], ◌∷◌, length, Bool, true, false, Option, Some, refl, sym, ap, ◌∙◌, arith, subst, T, ltb→lt}
use Rattle.std.specs.Prelude.{slice_get, slice_set}
use Rattle.std.proofs.lemmas.List.Elements.{All-nil}
use Rattle.ms_handle.specs.declared.handle.Handle.{Handle as HandleOf}
use Rattle.ms_handle.specs.Handle.{seal}
use Rattle.ms_linear.specs.declared.value.Value.{Value as Word}
use Rattle.ms_linear.specs.declared.value.Value.TheVariants.{Handle}
use Rattle.ms_module.specs.declared.access.Segment.TheVariants as segment
use Rattle.ms_module.specs.declared.instr.Instr.TheVariants.{GlobalGet, GlobalSet, Segment}
use Rattle.ms_task.specs.Thread.{Do, Item, thread, depth_of}
use Rattle.c_types.specs.declared.integers.IntType.TheVariants.{Char}
use Rattle.c_types.specs.Types.{Ty, integer, pointer, array, function, Tys}
use Rattle.c_typed.specs.Tree as tree
use Rattle.c_typed.specs.Tree.{Made as IsMade, Stmt, Typed}
use Rattle.c_typed.specs.refinement.Expressions as well
use Rattle.c_typed.specs.refinement.Expressions.{HasType, IsPlace}
use Rattle.c_typed.specs.refinement.Types.{IsObject}
use Rattle.c_typed.specs.Units.{IsWellTyped, context_of, literals_in, variables_in}
use Rattle.c_meaning.specs.Values.{Value, inside, points}
use Rattle.c_meaning.specs.Objects.{Outcome, to_object, write_all}
use Rattle.c_meaning.specs.World.{World, Result, gives, Does, after, alter, as_done, known, look, ◌>>=◌, pure}
use Rattle.c_meaning.specs.Expressions as meaning
use Rattle.c_meaning.specs.Expressions.{char_of, expr, further, place}
use Rattle.c_meaning.specs.Statements.{Flow, next, stmt}
use Rattle.c_meaning.specs.Units.{fill_literal, give_each, no_calls, run_each}
use Rattle.ms_emit.specs.Codes.{Code, plain, one, ◌⨾◌, size_of}
use Rattle.c_code.specs.Expressions as code
use Rattle.c_code.specs.Functions.{gives as gives_code, values}
use Rattle.c_code.specs.Statements as scheme
use Rattle.c_code.specs.Statements.{at_body, filled}
use Rattle.c_code.specs.Uses as uses
use Rattle.c_runs.proofs.Small.{is_short}
use Rattle.c_code.specs.Modules.{waits_made}
use Rattle.c_typing.proofs.Frames.{sound_with}
use Rattle.c_typing.proofs.Sound.{AreSoundNames}
use Rattle.ms_relate.specs.refinement.Homes.{handle}
use Rattle.c_runs.proofs.Goes as goes
use Rattle.c_runs.proofs.Goes.{Goes, Mem, Runs, RunsTo, Site, goes_on, one_here}
use Rattle.c_runs.proofs.Files.{Filed, first_of, filed_sealed, global_of}
use Rattle.c_runs.proofs.Related.{Env, HasAll, IsValue, Kept, Now, Starts, depth_front, extends_none, frame_of, front, has_back, has_front, pushes, sees_none}
use Rattle.c_runs.proofs.Ops.{GoodIn, OpIn, ToIn, at_work, op_any, op_look_in, op_none_in, op_then_in, same}
use Rattle.c_runs.proofs.Operations.{Linked}
use Rattle.c_runs.proofs.Nodes.{Always, Leaves, gone}
use Rattle.c_runs.proofs.Exprs.{AreScalars, ArgsRun, CallsRun, args_all, decays_run, expr_runs, sound_scalars}
use Rattle.c_runs.proofs.Strings.{fill_runs}
use Rattle.c_runs.proofs.Rooms.{IsReady, Needs, in_expr_of, in_place_of}
use Rattle.c_runs.proofs.Scalars.{IsData}
use Rattle.c_runs.proofs.Globals.{NamesOf, all_reached, at_text, file_slots, got, inside_text, seals, sealed_once, set_global, text_is}
use Rattle.c_runs.proofs.Entries.{places_of, types_of}
use Rattle.c_runs.proofs.Filing.{files_long}
use Rattle.c_runs.proofs.Starting.{Es, Good, HasStart, To, home, joins, refiled, setting, tg}

-- what a value at file scope may name
abbrev pub still : Typed → well.Context
still u = context_of u [] 0

module _ (S : Site) (L : Linked S) (u : Typed) (well : IsWellTyped u) (bound : ℕ) (p : HasStart S u) where
  -- of a part in which no call stands
  abbrev IsStill : List uses.Use → Needs → Type 0
  IsStill = IsReady false (tg S L u well bound p).is_object u 0 0 (waits_made u u.made)

  -- an assignment, or a string
  abbrev pub IsGiven : Stmt → Type 0
  IsGiven (tree.perform e) = (t : Ty) × HasType (still u) e t × IsStill (uses.in_expr e) (in_expr_of e)
  IsGiven (tree.fill q n bytes) =
      (is_short bytes ≡ true) × IsPlace (still u) q (array (integer Char) n) × IsStill (uses.in_place q) (in_place_of q)
  IsGiven _ = ⊥

  abbrev pub AreGiven : List Stmt → Type 0
  AreGiven [] = Unit {0}
  AreGiven (s ∷ ss) = IsGiven s × AreGiven ss

  abbrev pub AllGiven : List IsMade → Type 0
  AllGiven [] = Unit {0}
  AllGiven (tree.global n ss ∷ ms) = AreGiven ss × AllGiven ms
  AllGiven (tree.text bytes ∷ ms) = (length bytes < 4294967295) × AllGiven ms

  module _ (names : NamesOf u.structs (file_slots u) (all_reached u) (tg S L u well bound p) u.globals (literals_in u.made)) where
    -- where so many literals are sealed
    abbrev pub giving : ℕ → Rattle.c_runs.proofs.Files.Reached
    giving k = record { named = variables_in u.made; texts = literals_in u.made; sealed = k }

    abbrev E : ℕ → Env
    E k = Es S L u well bound p (giving k)

    names_at : (k : ℕ) → NamesOf u.structs (file_slots u) (giving k) (tg S L u well bound p) u.globals (literals_in u.made)
    names_at k = record { kinds = names.kinds; seen = names.seen; sizes = names.sizes; data_are = names.data_are; texts = names.texts; behind = names.behind }

    sound : AreSoundNames u.structs u.globals [] (types_of u)
    sound = sound_with u well [] (All-nil (IsObject u.structs))

    no_calls_run : (k : ℕ) → CallsRun (E k) L (home S L u well bound p (giving k)) (still u) refl
    no_calls_run k may = absurd cc

    no_scalars : (k : ℕ) (f : ℕ) (t : Ty) (ps : Tys) → slice_get (types_of u) f ≡ Some (function t ps) → AreScalars (E k) L (home S L u well bound p (giving k)) (still u) refl ps
    no_scalars k f t ps e = sound_scalars (E k) L (home S L u well bound p (giving k)) (still u) refl ps (sound.function f (function t ps) e).1.1

    no_slots_data : (k : ℕ) (x : ℕ) (t : Ty) → slice_get [] x ≡ Some t → (tg S L u well bound p).is_object (Rattle.c_typed.specs.declared.ops.Variable.TheVariants.Local x) ≡ false → IsData t
    no_slots_data k x t e = absurd cc

    no_args_run : (k : ℕ) → ArgsRun (E k) L (home S L u well bound p (giving k)) (still u) refl
    no_args_run k = args_all (waits_made u u.made) (E k) L (home S L u well bound p (giving k)) (still u) refl (no_calls_run k) (no_scalars k) (no_slots_data k) refl refl refl sound (names_at k) (omega arith)

    -- ---- one value

    given_runs : (k : ℕ) (s : Stmt) → IsGiven s → OpIn (E k) [] (scheme.stmt (tg S L u well bound p) [] 0 (at_body []) s) same (λ hs (f : Flow). gone (E k) f) (λ hs f. Unit {0}) (stmt u no_calls 0 [] s)
    given_runs k (tree.perform e) g =
        op_look_in (E k) [] (code.expr (tg S L u well bound p) false 0 e) same (λ hs. gone (E k)) (λ hs (f : Flow). gone (E k) f) (IsValue (E k) g.0) (λ hs f. Unit {0}) (expr u no_calls e) (λ q. pure next)
        (expr_runs (E k) L (home S L u well bound p (giving k)) (still u) refl (no_calls_run k) (no_args_run k) (no_scalars k) (no_slots_data k) refl refl refl sound (names_at k) false 0 e g.0 g.2 g.1)
        (λ gs more q ok. (next, refl, λ vs. refl, tt))
    given_runs k (tree.fill q n bytes) g =
        let less = ltb→lt (length bytes) 4294967295 (subst T (sym g.0) tt) in
        let size : n * 1 ≡ n = omega arith in
        let there = decays_run (E k) L (home S L u well bound p (giving k)) (still u) refl (no_calls_run k) (no_args_run k) (no_scalars k) (no_slots_data k) refl refl refl sound (names_at k) 0 q (integer Char) n g.2 g.1 in
        let x = meaning.pointer (place u no_calls q) >>= meaning.further inside in
        let code_of : ℕ → Code = λ i. code.decayed (code.is_deref q) i (code.place (tg S L u well bound p) 0 q) in
        op_look_in (E k) [] (filled (tg S L u well bound p) (code_of n) bytes) same (λ hs. gone (E k)) (λ hs (f : Flow). gone (E k) f) (λ hs. Always (E k)) (λ hs f. Unit {0}) (x >>= (λ a. alter (write_all 1 a 0 (Rattle.std.specs.Prelude.map char_of bytes)))) (λ z. pure next)
        (fill_runs (E k) bytes (omega (arith, less)) (code_of n) x (subst (λ (i : ℕ). Leaves (E k) (code_of i) (pointer (integer Char)) x) size there))
        (λ gs more z ok. (next, refl, λ vs. refl, tt))
    given_runs k _ g = absurd g

    values_run : (k : ℕ) (ss : List Stmt) → AreGiven ss → OpIn (E k) [] (values (tg S L u well bound p) ss) same (λ hs. gone (E k)) (λ hs. Always (E k)) (run_each u ss)
    values_run k [] g = op_none_in (E k) [] same (λ hs. gone (E k)) (λ hs. Always (E k)) tt (λ gs more. tt) (λ gs vs more. refl)
    values_run k (s ∷ ss) g =
        op_then_in (E k) [] (scheme.stmt (tg S L u well bound p) [] 0 (at_body []) s) (values (tg S L u well bound p) ss) same (λ hs (f : Flow). gone (E k) f) (λ hs. gone (E k)) (λ hs f. Unit {0}) (λ hs. Always (E k)) (stmt u no_calls 0 [] s) (λ f. run_each u ss)
        (given_runs k s g.0)
        (λ gs more f ok. op_any (E k) gs (values (tg S L u well bound p) ss) same (λ hs. gone (E k)) (λ hs. Always (E k)) (run_each u ss) (values_run k ss g.1))

    -- ---- a literal's bytes

    module _ (k : ℕ) (less : k < literals_in u.made) where
      abbrev X : ℕ
      X = length u.globals + k

      abbrev h0 : Rattle.c_runs.proofs.Operations.AtHome (E k)
      h0 = home S L u well bound p (giving k)

      abbrev pointed : Does Value
      pointed = look (λ w. slice_get w.literals k) >>= known >>= (λ o. further inside (to_object o))

      text_leaves : Leaves (E k) (one (GlobalGet X)) (pointer (integer Char)) pointed
      text_leaves n has now le vs r dep w m kept ag =
          let o = text_is (E k) L h0 k less names.behind now w m kept in
          let t = at_text (E k) L h0 k less names.behind now w m kept in
          let x = inside_text (E k) L h0 k less names.behind now w m kept false in
          let start = at_work (E k) m w vs (Do (GlobalGet X) ∷ r) in
          let is : pointed w ≡ gives x.0 w = ap (λ (q : Option ℕ). after (known q w) (λ j. further inside (to_object j))) o.1 ∙ ap (λ (q : Outcome Value). as_done q w) x.1 in
          subst (λ (y : Result Value). RunsTo S 1 m start w (ToIn (E k) (pushes (E k) (pointer (integer Char))) vs r) (GoodIn (E k) (IsValue (E k) (pointer (integer Char))) now) y) (sym is) (
            m,
            (x.2, kept),
            subst (λ (h : HandleOf). Goes S 1 w w m start m (at_work (E k) m w (Handle h ∷ vs) r)) (ap (λ (b : Bool). handle m.homes (points (first_of b o.0))) (t.not_yet (omega arith)) ∙ sym x.3)
                (got (E k) L h0 k less names.behind now w m kept vs r),
          )

      literal_fills : (bytes : List ℕ) → length bytes < 4294967295 → OpIn (E k) [] (filled (tg S L u well bound p) (one (GlobalGet X)) bytes) same (λ hs. gone (E k)) (λ hs. Always (E k)) (fill_literal u k bytes)
      literal_fills bytes few = fill_runs (E k) bytes (omega (arith, few)) (one (GlobalGet X)) pointed text_leaves

      -- it is sealed
      seal_runs : (now : Now) (vs : List Word) (r : List Item) (w : World) (m : Mem) → Kept (E k) now w m
          → Runs S 3 m (at_work (E k) m w vs (Do (GlobalGet X) ∷ Do (Segment segment.Seal) ∷ Do (GlobalSet X) ∷ r)) w (To S L u well bound p (giving (suc k)) vs r) (Good S L u well bound p (giving (suc k)) now) (gives tt w)
      seal_runs now vs r w m kept ag =
          let o = text_is (E k) L h0 k less names.behind now w m kept in
          let t = at_text (E k) L h0 k less names.behind now w m kept in
          let H = handle m.homes (points (first_of t.is_sealed o.0)) in
          let long = files_long u 0 u.globals in
          let same_place : length (file_slots u) + k ≡ X = omega (arith, long) in
          let room = p.room in
          let inside : X < S.shared = omega (arith, room, less) in
          let old = kept.file.all_are X inside in
          let m' = setting S L u well bound p m X (Handle (seal H)) in
          let r2 = Do (GlobalSet X) ∷ r in
          let r1 = Do (Segment segment.Seal) ∷ r2 in
          let sealed_now = filed_sealed u.structs (places_of u) (file_slots u) (variables_in u.made) (literals_in u.made) k S.shared m.homes w.globals w.literals m.globals kept.file o.0 o.1 in (
            m',
            refiled S L u well bound p (giving k) (giving (suc k)) now w m w.globals w.literals (slice_set m.globals X (global_of (Handle (seal H)))) kept
                (subst (λ (v : HandleOf). Filed u.structs (places_of u) (file_slots u) (giving (suc k)) S.shared m.homes w.globals w.literals (slice_set m.globals X (global_of (Handle v)))) (sym (sealed_once (E k) L h0 k less names.behind m.homes o.0 t.is_sealed))
                (subst (λ (i : ℕ). Filed u.structs (places_of u) (file_slots u) (giving (suc k)) S.shared m.homes w.globals w.literals (slice_set m.globals i (global_of (Handle (handle m.homes (points (first_of true o.0))))))) same_place sealed_now)),
            goes_on S 1 2 w w w m m m' (at_work (E k) m w vs (Do (GlobalGet X) ∷ r1)) (at_work (E k) m w (Handle H ∷ vs) r1) (at_work (E k) m' w vs r) (got (E k) L h0 k less names.behind now w m kept vs r1)
                (goes_on S 1 1 w w w m m m' (at_work (E k) m w (Handle H ∷ vs) r1) (at_work (E k) m w (Handle (seal H) ∷ vs) r2) (at_work (E k) m' w vs r) (seals (E k) L h0 k less names.behind w m H vs r2)
                (one_here S w m m' (GlobalSet X) (frame_of (E k) m w) (Handle (seal H) ∷ vs) r (thread (frame_of (E k) m w) vs r) (set_global (E k) L h0 w m X old.0 (Handle (seal H)) vs r inside old.1))),
          )

    -- ---- all of them

    starts_here : (k : ℕ) (now : Now) → now.below ≤ bound → now.waits ≤ 0 → Starts (E k) [] now
    starts_here k now le few = record { below = le; grown = extends_none now.homes; seen = sees_none now.visible; few = few }

    pub all_given : (ms : List IsMade) (k : ℕ) → AllGiven ms → k + literals_in ms ≤ literals_in u.made → (j : ℕ) (now : Now) → now.below ≤ bound → now.waits ≤ 0 → (vs : List Word) (r : List Item) → depth_of r ≡ 1 → (w : World) (m : Mem) → Kept (E k) now w m
        → HasAll S.funcs (E k).fn j (gives_code (tg S L u well bound p) k ms j).seqs
        → Runs S (size_of (gives_code (tg S L u well bound p) k ms j)) m (at_work (E k) m w vs (front (gives_code (tg S L u well bound p) k ms j).instrs r)) w (To S L u well bound p (giving (k + literals_in ms)) vs r) (Good S L u well bound p (giving (k + literals_in ms)) now) (give_each u k ms w)
    all_given [] k all le j now below few vs r dep w m kept has =
        let z : k ≡ k + 0 = omega arith in
        subst (λ (i : ℕ). Runs S 0 m (at_work (E k) m w vs r) w (To S L u well bound p (giving i) vs r) (Good S L u well bound p (giving i) now) (gives tt w)) z
        (goes.here S 0 w m (To S L u well bound p (giving k) vs r) (Good S L u well bound p (giving k) now) tt kept)
    all_given (tree.global n ss ∷ ms) k all le j now below few vs r dep w m kept has =
        let a = values (tg S L u well bound p) ss in
        let c = gives_code (tg S L u well bound p) k ms in
        let j' = j + length (a j).seqs in
        let end = giving (k + literals_in ms) in
        joins S L u well bound p a c j m w vs r (giving k) (λ r'. To S L u well bound p (giving k) vs r') (Good S L u well bound p (giving k) now) (To S L u well bound p end vs r) (Good S L u well bound p end now) (run_each u ss w) (λ z. give_each u k ms)
        (goes.weaker S (size_of (a j)) m (at_work (E k) m w vs (front (a j).instrs (front (c j').instrs r))) w (To S L u well bound p (giving k) vs (front (c j').instrs r)) (GoodIn (E k) (λ hs. Always (E k)) now) (Good S L u well bound p (giving k) now) (run_each u ss w) (λ z w1 m1 g. g.1)
        (values_run k ss all.0 j (has_front S.funcs (E k).fn j (a j).seqs (c j').seqs has) now (starts_here k now below few) vs (front (c j').instrs r) (depth_front (c j').instrs r ∙ dep) w m kept))
        (λ z w1 m1 k1. all_given ms k all.1 le j' now below few vs r dep w1 m1 k1 (has_back S.funcs (E k).fn j (a j).seqs (c j').seqs has))
    all_given (tree.text bytes ∷ ms) k all le j now below few vs r dep w m kept has =
        let less : k < literals_in u.made = omega (arith, le) in
        let a = filled (tg S L u well bound p) (one (GlobalGet (X k less))) bytes in
        let b = plain (GlobalGet (X k less) ∷ Segment segment.Seal ∷ GlobalSet (X k less) ∷ []) in
        let c = gives_code (tg S L u well bound p) (suc k) ms in
        let j1 = j + length (a j).seqs in
        let j2 = j1 + 0 in
        let z : suc k + literals_in ms ≡ k + (literals_in ms + 1) = omega arith in
        let end = giving (suc k + literals_in ms) in
        let rest = front ((b ⨾ c) j1).instrs r in
        subst (λ (i : ℕ). Runs S (size_of ((a ⨾ (b ⨾ c)) j)) m (at_work (E k) m w vs (front ((a ⨾ (b ⨾ c)) j).instrs r)) w (To S L u well bound p (giving i) vs r) (Good S L u well bound p (giving i) now) (give_each u k (tree.text bytes ∷ ms) w)) z
        (joins S L u well bound p a (b ⨾ c) j m w vs r (giving k) (λ r'. To S L u well bound p (giving k) vs r') (Good S L u well bound p (giving k) now) (To S L u well bound p end vs r) (Good S L u well bound p end now) (fill_literal u k bytes w) (λ q. give_each u (suc k) ms)
        (goes.weaker S (size_of (a j)) m (at_work (E k) m w vs (front (a j).instrs rest)) w (To S L u well bound p (giving k) vs rest) (GoodIn (E k) (λ hs. Always (E k)) now) (Good S L u well bound p (giving k) now) (fill_literal u k bytes w) (λ q w1 m1 g. g.1)
        (literal_fills k less bytes all.0 j (has_front S.funcs (E k).fn j (a j).seqs ((b ⨾ c) j1).seqs has) now (starts_here k now below few) vs rest (depth_front ((b ⨾ c) j1).instrs r ∙ dep) w m kept))
        (λ q w1 m1 k1.
        joins S L u well bound p b c j1 m1 w1 vs r (giving k) (λ r'. To S L u well bound p (giving (suc k)) vs r') (Good S L u well bound p (giving (suc k)) now) (To S L u well bound p end vs r) (Good S L u well bound p end now) (gives tt w1) (λ q. give_each u (suc k) ms)
        (seal_runs k less now vs (front (c j2).instrs r) w1 m1 k1)
        (λ q w2 m2 k2. all_given ms (suc k) all.1 (omega (arith, le)) j2 now below few vs r dep w2 m2 k2 (has_back S.funcs (E k).fn j1 (b j1).seqs (c j2).seqs (has_back S.funcs (E k).fn j (a j).seqs ((b ⨾ c) j1).seqs has)))))
