-- Code whose blocks nest within a depth, that has so many loops at most, and whose calls are of some functions.
use Rattle.std.proofs.Common.{◌≡◌, ℕ, zero, suc, ◌+◌, ◌≤◌, List, [], ◌∷◌, ◌++◌, length, Option, refl, sym, arith, subst}
use Rattle.ms_types.specs.declared.types.ValType.{ValType}
use Rattle.ms_module.specs.Numbered.{sequence_at}
use Rattle.ms_module.specs.refinement.Nesting.{NestsWithin, OfAllNamed, OfNamed}
use Rattle.ms_module.specs.declared.instr.Instr.{Instr}
use Rattle.ms_module.specs.declared.instr.Instr.TheVariants.{Unreachable, Nop, Block, Loop, If, Br, BrIf, BrTable, Return, Call, CallIndirect, Drop, Select, LocalGet, LocalSet, LocalTee, GlobalGet, GlobalSet, I32Const, I64Const, Numeric, Linear, Segment}
use Rattle.ms_emit.specs.Codes.{Code, coded, plain, no_code, ◌⨾◌, block, repeat, choice, inner, second, second_seqs}
use Rattle.c_typing.specs.refinement.LoopsAndCalls.{OfCalls, loops_among, loops_in_body, one_if_loop}
use Rattle.c_typing.proofs.Names.{Each, each_append}
use Rattle.c_typing.proofs.Typing.{Stand, stand_back, stand_front, stands}

-- ---- instructions that are no blocks, whose calls are of these functions and types

abbrev pub IsFlat : (C D : ℕ → Type 0) → Instr → Type 0
IsFlat C D (Block ty n) = ⊥
IsFlat C D (Loop ty n) = ⊥
IsFlat C D (If ty n o) = ⊥
IsFlat C D (Call i) = C i
IsFlat C D (CallIndirect i) = D i
IsFlat C D _ = Unit {0}

-- what such an instruction is
record Flat (C D : ℕ → Type 0) (i : Instr) : Type 1 where
  pub named : (P : ℕ → Type 0) → OfNamed P i
  pub calls : OfCalls C D i
  pub loops : one_if_loop i ≡ 0

module _ {C D : ℕ → Type 0} where
  flat_is : (i : Instr) → IsFlat C D i → Flat C D i
  flat_is (Block ty n) f = absurd f
  flat_is (Loop ty n) f = absurd f
  flat_is (If ty n o) f = absurd f
  flat_is (Call i) f = record { named = λ P. tt; calls = f; loops = refl }
  flat_is (CallIndirect i) f = record { named = λ P. tt; calls = f; loops = refl }
  flat_is Unreachable f = record { named = λ P. tt; calls = tt; loops = refl }
  flat_is Nop f = record { named = λ P. tt; calls = tt; loops = refl }
  flat_is (Br i) f = record { named = λ P. tt; calls = tt; loops = refl }
  flat_is (BrIf i) f = record { named = λ P. tt; calls = tt; loops = refl }
  flat_is (BrTable i) f = record { named = λ P. tt; calls = tt; loops = refl }
  flat_is Return f = record { named = λ P. tt; calls = tt; loops = refl }
  flat_is Drop f = record { named = λ P. tt; calls = tt; loops = refl }
  flat_is Select f = record { named = λ P. tt; calls = tt; loops = refl }
  flat_is (LocalGet i) f = record { named = λ P. tt; calls = tt; loops = refl }
  flat_is (LocalSet i) f = record { named = λ P. tt; calls = tt; loops = refl }
  flat_is (LocalTee i) f = record { named = λ P. tt; calls = tt; loops = refl }
  flat_is (GlobalGet i) f = record { named = λ P. tt; calls = tt; loops = refl }
  flat_is (GlobalSet i) f = record { named = λ P. tt; calls = tt; loops = refl }
  flat_is (I32Const z) f = record { named = λ P. tt; calls = tt; loops = refl }
  flat_is (I64Const z) f = record { named = λ P. tt; calls = tt; loops = refl }
  flat_is (Numeric i) f = record { named = λ P. tt; calls = tt; loops = refl }
  flat_is (Linear i) f = record { named = λ P. tt; calls = tt; loops = refl }
  flat_is (Segment i) f = record { named = λ P. tt; calls = tt; loops = refl }

abbrev pub AreFlat : (C D : ℕ → Type 0) → List Instr → Type 0
AreFlat C D is = Each (IsFlat C D) is

module _ (C D : ℕ → Type 0) where
  flat_named : (P : ℕ → Type 0) (is : List Instr) → AreFlat C D is → OfAllNamed P is
  flat_named P [] f = tt
  flat_named P (i ∷ is) f = ((flat_is i f.0).named P, flat_named P is f.1)

  flat_calls : (is : List Instr) → AreFlat C D is → Each (OfCalls C D) is
  flat_calls [] f = tt
  flat_calls (i ∷ is) f = ((flat_is i f.0).calls, flat_calls is f.1)

  flat_loops : (is : List Instr) → AreFlat C D is → loops_among is ≡ 0
  flat_loops [] f = refl
  flat_loops (i ∷ is) f = let a = (flat_is i f.0).loops in let b = flat_loops is f.1 in omega (arith, a, b)

-- ---- lists of instructions, one behind the other

named_append : (P : ℕ → Type 0) (a b : List Instr) → OfAllNamed P a → OfAllNamed P b → OfAllNamed P (a ++ b)
named_append P [] b h g = g
named_append P (i ∷ a) b h g = (h.0, named_append P a b h.1 g)

among_append : (a b : List Instr) → loops_among (a ++ b) ≡ loops_among a + loops_among b
among_append [] b = omega arith
among_append (i ∷ a) b = let e = among_append a b in omega (arith, e)

body_append : (a b : List (List Instr)) → loops_in_body (a ++ b) ≡ loops_in_body a + loops_in_body b
body_append [] b = omega arith
body_append (is ∷ a) b = let e = body_append a b in omega (arith, e)

-- ---- code

-- Wherever it stands in a body: at most suc h blocks are in one another in it, and it has at most l loops.
pub record Bounded (body : List (List Instr)) (C D : ℕ → Type 0) (h l : ℕ) (a : Code) : Type 0 where
  pub nested : (n : ℕ) → Stand body n (a n).seqs → OfAllNamed (λ k. NestsWithin h body k) (a n).instrs
  pub calls : (n : ℕ) → Each (OfCalls C D) (a n).instrs × Each (λ is. Each (OfCalls C D) is) (a n).seqs
  pub loops : (n : ℕ) → loops_among (a n).instrs + loops_in_body (a n).seqs ≤ l

module _ (body : List (List Instr)) where
  pub nests_here : (h n : ℕ) (is : List Instr) → sequence_at body n ≡ is → OfAllNamed (λ k. NestsWithin h body k) is
      → NestsWithin (suc h) body n
  nests_here h n is e g = subst (λ (js : List Instr). OfAllNamed (λ k. NestsWithin h body k) js) (sym e) g

  second_nests : (h n m : ℕ) (ty : Option ValType) (is : List Instr) (ss : List (List Instr))
      → (Stand body (suc m) ss → OfAllNamed (λ k. NestsWithin h body k) is) → Stand body m (second_seqs (coded is ss))
      → NestsWithin (suc h) body n → OfNamed (λ k. NestsWithin (suc h) body k) (If ty n (second m (coded is ss)))
  second_nests h n m ty [] ss g st w = w
  second_nests h n m ty (i ∷ is) ss g st w = (w, nests_here h m (i ∷ is) st.1 (g st.2))

second_loops : (is : List Instr) (ss : List (List Instr))
    → loops_in_body (second_seqs (coded is ss)) ≤ loops_among is + loops_in_body ss
second_loops [] ss = omega arith
second_loops (i ∷ is) ss = omega arith

module _ (C D : ℕ → Type 0) where
  second_calls : (is : List Instr) (ss : List (List Instr)) → Each (OfCalls C D) is → Each (λ js. Each (OfCalls C D) js) ss
      → Each (λ js. Each (OfCalls C D) js) (second_seqs (coded is ss))
  second_calls [] ss p q = tt
  second_calls (i ∷ is) ss p q = (p, q)

module _ (body : List (List Instr)) (C D : ℕ → Type 0) where
  -- flat instructions nest in nothing
  flat_within : (h n : ℕ) (is : List Instr) → AreFlat C D is → sequence_at body n ≡ is → NestsWithin h body n
  flat_within zero n is f e = subst (λ (js : List Instr). OfAllNamed (λ k. ⊥) js) (sym e) (flat_named C D (λ k. ⊥) is f)
  flat_within (suc h) n is f e = nests_here body h n is e (flat_named C D (λ k. NestsWithin h body k) is f)

  flat_second : (h n m : ℕ) (ty : Option ValType) (is : List Instr) → AreFlat C D is
      → Stand body m (second_seqs (coded is [])) → NestsWithin h body n
      → OfNamed (λ k. NestsWithin h body k) (If ty n (second m (coded is [])))
  flat_second h n m ty [] f st w = w
  flat_second h n m ty (i ∷ is) f st w = (w, flat_within h m (i ∷ is) f st.1)

module _ {body : List (List Instr)} {C D : ℕ → Type 0} where
  pub at_most : {h l m : ℕ} {a : Code} → Bounded body C D h l a → l ≤ m → Bounded body C D h m a
  at_most g le = record { nested = g.nested; calls = g.calls; loops = λ n. let p = g.loops n in omega (arith, le, p) }

  pub nothing : {h : ℕ} → Bounded body C D h 0 no_code
  nothing = record { nested = λ n st. tt; calls = λ n. (tt, tt); loops = λ n. omega arith }

  pub flat : {h : ℕ} {is : List Instr} → AreFlat C D is → Bounded body C D h 0 (plain is)
  flat {h} {is} f = record {
    nested = λ n st. flat_named C D (λ k. NestsWithin h body k) is f;
    calls = λ n. (flat_calls C D is f, tt);
    loops = λ n. let e = flat_loops C D is f in omega (arith, e);
  }

  infixr 4 ◌▸◌
  -- one behind the other
  pub ◌▸◌ : {h l m : ℕ} {a b : Code} → Bounded body C D h l a → Bounded body C D h m b → Bounded body C D h (l + m) (a ⨾ b)
  ◌▸◌ {h} {l} {m} {a} {b} ga gb = record {
    nested = λ n st. let x = a n in let k = n + length x.seqs in
        named_append (λ k. NestsWithin h body k) x.instrs (b k).instrs (ga.nested n (stand_front body n x.seqs (b k).seqs st))
        (gb.nested k (stand_back body n x.seqs (b k).seqs st));
    calls = λ n. let x = a n in let y = b (n + length x.seqs) in let p = ga.calls n in
        let q = gb.calls (n + length x.seqs) in (
          each_append (OfCalls C D) x.instrs y.instrs p.0 q.0,
          each_append (λ is. Each (OfCalls C D) is) x.seqs y.seqs p.1 q.1,
        );
    loops = λ n. let x = a n in let y = b (n + length x.seqs) in let p = ga.loops n in
        let q = gb.loops (n + length x.seqs) in
        let e = among_append x.instrs y.instrs in let f = body_append x.seqs y.seqs in omega (arith, p, q, e, f);
  }

  pub in_block_of : {h l : ℕ} {k : Option ValType} {a : Code} → Bounded body C D h l a → Bounded body C D (suc h) l (block k a)
  in_block_of {h} {l} {k} {a} g = record {
    nested = λ n st. (nests_here body h n (a (suc n)).instrs st.1 (g.nested (suc n) st.2), tt);
    calls = λ n. ((tt, tt), g.calls (suc n));
    loops = λ n. let p = g.loops (suc n) in omega (arith, p);
  }

  pub in_repeat_of : {h l : ℕ} {k : Option ValType} {a : Code} → Bounded body C D h l a
      → Bounded body C D (suc h) (suc l) (repeat k a)
  in_repeat_of {h} {l} {k} {a} g = record {
    nested = λ n st. (nests_here body h n (a (suc n)).instrs st.1 (g.nested (suc n) st.2), tt);
    calls = λ n. ((tt, tt), g.calls (suc n));
    loops = λ n. let p = g.loops (suc n) in omega (arith, p);
  }

  pub in_choice_of : {h l m : ℕ} {k : Option ValType} {a b : Code} → Bounded body C D h l a → Bounded body C D h m b
      → Bounded body C D (suc h) (l + m) (choice k a b)
  in_choice_of {h} {l} {m} {k} {a} {b} ga gb = record {
    nested = λ n st.
        let x = a (suc n) in
        let j = suc n + length x.seqs in
        let y = b (suc j) in
        let same : n + suc (length x.seqs) ≡ j = omega arith in
        let here = stand_front body n (inner x) (second_seqs y) st in (
          second_nests body h n j k y.instrs y.seqs (λ s. gb.nested (suc j) s)
              (subst (λ (q : ℕ). Stand body q (second_seqs y)) same (stand_back body n (inner x) (second_seqs y) st))
              (nests_here body h n x.instrs here.1 (ga.nested (suc n) here.2)),
          tt,
        );
    calls = λ n.
        let x = a (suc n) in
        let j = suc n + length x.seqs in
        let y = b (suc j) in
        let q = gb.calls (suc j) in (
          (tt, tt),
          each_append (λ is. Each (OfCalls C D) is) (inner x) (second_seqs y) (ga.calls (suc n))
              (second_calls C D y.instrs y.seqs q.0 q.1),
        );
    loops = λ n.
        let x = a (suc n) in
        let j = suc n + length x.seqs in
        let y = b (suc j) in
        let p = ga.loops (suc n) in
        let q = gb.loops (suc j) in
        let e = body_append (inner x) (second_seqs y) in
        let s = second_loops y.instrs y.seqs in
        omega (arith, p, q, e, s);
  }

  -- a choice of what holds no block
  pub in_leaf : {h : ℕ} {k : Option ValType} (is js : List Instr) → AreFlat C D is → AreFlat C D js
      → Bounded body C D h 0 (choice k (plain is) (plain js))
  in_leaf {h} {k} is js f g = record {
    nested = λ n st.
        let e : suc n ≡ suc n + 0 = omega arith in (
          flat_second body C D h n (suc n + 0) k js g
              (subst (λ (q : ℕ). Stand body q (second_seqs (coded js []))) e st.2) (flat_within body C D h n is f st.1),
          tt,
        );
    calls = λ n. ((tt, tt), (flat_calls C D is f, second_calls C D js [] (flat_calls C D js g) tt));
    loops = λ n.
        let a = flat_loops C D is f in
        let b = flat_loops C D js g in
        let s = second_loops js [] in
        omega (arith, a, b, s);
  }

  -- ---- without loops

  infixr 4 ◌▹◌
  pub ◌▹◌ : {h : ℕ} {a b : Code} → Bounded body C D h 0 a → Bounded body C D h 0 b → Bounded body C D h 0 (a ⨾ b)
  ◌▹◌ ga gb = ga ▸ gb

  pub in_choice : {h : ℕ} {k : Option ValType} {a b : Code} → Bounded body C D h 0 a → Bounded body C D h 0 b
      → Bounded body C D (suc h) 0 (choice k a b)
  in_choice ga gb = in_choice_of ga gb

-- ---- whole bodies

-- The code of a body, whose first sequence is its own.
pub record BodyBounded (C D : ℕ → Type 0) (h l : ℕ) (body : List (List Instr)) : Type 0 where
  pub nested : NestsWithin (suc h) body 0
  pub calls : Each (λ is. Each (OfCalls C D) is) body
  pub loops : loops_in_body body ≤ l

pub body_bounded : (C D : ℕ → Type 0) (h l : ℕ) (a : Code) → Bounded (inner (a 1)) C D h l a → BodyBounded C D h l (inner (a 1))
body_bounded C D h l a g =
    let st = stands [] (inner (a 1)) in
    record { nested = nests_here (inner (a 1)) h 0 (a 1).instrs st.1 (g.nested 1 st.2); calls = g.calls 1; loops = g.loops 1 }
