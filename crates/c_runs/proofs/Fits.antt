-- What an i32 has to hold is no more than the module has instructions: each group of a switch has one, and each byte of a string.
use Rattle.std.proofs.Common.{◌≡◌, ℕ, zero, suc, ◌+◌, ◌≤◌, List, [], ◌∷◌, ◌++◌, length, length-append, Bool, true, false, Option, Some, None, refl, sym, ap, arith, subst}
use Rattle.std.specs.Prelude.{◌&&◌, nat_lt, slice_get}
use Rattle.std.proofs.lemmas.Bool.{lt-ltb}
use Rattle.ms_module.specs.declared.instr.Instr.{Instr}
use Rattle.ms_module.specs.declared.instr.Instr.TheVariants.{Block, BrIf, If, LocalGet, LocalSet, Loop}
use Rattle.ms_module.specs.declared.numeric.RelOp.TheVariants as rels
use Rattle.ms_module.specs.declared.numeric.Width.TheVariants.{W32}
use Rattle.ms_module.specs.declared.module.Func.{Func}
use Rattle.ms_emit.specs.Codes.{Code, Coded, coded, joined, inner, plain, one, no_code, ◌⨾◌, block, choice, second, second_seqs, total}
use Rattle.c_types.specs.Types.{Ty, scalar_of}
use Rattle.c_typed.specs.Statements.{count}
use Rattle.c_typed.specs.Units.{numbers}
use Rattle.c_typed.specs.Tree.{Function, Stmt, nothing, perform, fill, if_else, loop, do_while, switch, scope, return, return_nothing, break, continue, Stmts, done, seq, Typed}
use Rattle.c_code.specs.Expressions as code
use Rattle.c_code.specs.Functions.{body, gives, makes, params, params_in, result, result_in, start}
use Rattle.c_code.specs.Operations.{i32, rel, width_of}
use Rattle.c_code.specs.Limits.{instructions_of, most_instructions}
use Rattle.c_code.specs.Modules.{compiled, func_of, funcs_from, start_func, start_target, target_of}
use Rattle.c_code.specs.Statements as scheme
use Rattle.c_code.specs.Statements.{Exits, at_body, bytes_put, continues, enters, filled, freed, group_from, iterated, objects_in, selected, with_objects, within}
use Rattle.c_code.specs.Targets.{Target, scratch_handle, scratch_of_width, waiting}
use Rattle.c_runs.proofs.Related.{total_append}
use Rattle.c_runs.proofs.Small.{are_small, is_small}

-- ---- how many instructions code has that stands in a block, and its parts

abbrev held : Coded → ℕ
held x = total (second_seqs x)

abbrev pub Fits : Coded → Type 0
Fits x = held x ≤ most_instructions

held_left : (is : List Instr) (ss : List (List Instr)) (y : Coded) → held (coded is ss) ≤ held (joined (coded is ss) y)
held_left [] ss y = omega arith
held_left (i ∷ is) ss y = omega (arith, length-append is y.instrs, total_append ss y.seqs)

held_right : (is js : List Instr) (ss rs : List (List Instr)) → held (coded js rs) ≤ held (joined (coded is ss) (coded js rs))
held_right is [] ss rs = omega arith
held_right [] (j ∷ js) ss rs = omega (arith, total_append ss rs)
held_right (i ∷ is) (j ∷ js) ss rs = omega (arith, length-append is (j ∷ js), total_append ss rs)

held_inner : (is : List Instr) (ss : List (List Instr)) → held (coded is ss) ≤ length is + total ss
held_inner [] ss = omega arith
held_inner (i ∷ is) ss = omega arith

held_long : (is : List Instr) (ss : List (List Instr)) → length is ≤ held (coded is ss)
held_long [] ss = omega arith
held_long (i ∷ is) ss = omega arith

left : (x y : Coded) → Fits (joined x y) → Fits x
left x y h = let a = held_left x.instrs x.seqs y in omega (arith, a, h)

right : (x y : Coded) → Fits (joined x y) → Fits y
right x y h = let a = held_right x.instrs y.instrs x.seqs y.seqs in omega (arith, a, h)

-- of a block or a loop
within_block : (i : Instr) (x : Coded) → Fits (coded (i ∷ []) (inner x)) → Fits x
within_block i x h = let a = held_inner x.instrs x.seqs in omega (arith, a, h)

of_first : (i : Instr) (x y : Coded) → Fits (coded (i ∷ []) (inner x ++ second_seqs y)) → Fits x
of_first i x y h = let a = held_inner x.instrs x.seqs in let b = total_append (inner x) (second_seqs y) in omega (arith, a, b, h)

of_second : (i : Instr) (x y : Coded) → Fits (coded (i ∷ []) (inner x ++ second_seqs y)) → Fits y
of_second i x y h = let b = total_append (inner x) (second_seqs y) in omega (arith, b, h)

-- ---- parts of code

pub joined_left : (a b : Code) (n : ℕ) → Fits ((a ⨾ b) n) → Fits (a n)
joined_left a b n h = left (a n) (b (n + length (a n).seqs)) h

pub joined_right : (a b : Code) (n : ℕ) → Fits ((a ⨾ b) n) → Fits (b (n + length (a n).seqs))
joined_right a b n h = right (a n) (b (n + length (a n).seqs)) h

long : (x : Coded) → Fits x → length x.instrs ≤ most_instructions
long x h = let a = held_long x.instrs x.seqs in omega (arith, a, h)

both_true : (a b : Bool) → a ≡ true → b ≡ true → (a && b) ≡ true
both_true true b e f = f
both_true false b e f = absurd cc

is_below : (n : ℕ) → n ≤ most_instructions → nat_lt n 4294967295 ≡ true
is_below n h = lt-ltb n 4294967295 (omega (arith, h))

module _ (t : Target) where
  bytes_long : (bytes : List ℕ) (i n : ℕ) → length bytes ≤ length (bytes_put t i bytes n).instrs
  bytes_long [] i n = omega arith
  bytes_long (b ∷ bytes) i n = let a = bytes_long bytes (suc i) (n + 0) in omega (arith, a)

  pub bytes_fit : (p : Code) (bytes : List ℕ) (n : ℕ) → Fits (filled t p bytes n) → length bytes ≤ most_instructions
  bytes_fit p bytes n h =
      let b = one (LocalSet (scratch_handle t)) in
      let c = bytes_put t 0 bytes in
      let m = n + length (p n).seqs in
      let q = joined_right b c m (joined_right p (b ⨾ c) n h) in
      let a = bytes_long bytes 0 (m + 0) in
      let l = long (c (m + 0)) q in
      omega (arith, a, l)

  module _ (slots : List Ty) where
    groups_long : (d : ℕ) (x : Exits) (ss : Stmts) (i n : ℕ) → count ss ≤ length (scheme.groups t slots d x i ss n).instrs
    groups_long d x done i n = omega arith
    groups_long d x (seq s ss) i n =
        let y = group_from t (waiting t d) i (scheme.stmt t slots (suc d) x s) in
        let a = groups_long d x ss (suc i) (n + length (y n).seqs) in omega (arith, a)

    -- the body of a loop
    body_fits : (b : Bool) (body step test : Code) (n : ℕ) → Fits (iterated t b body step test n) → (m : ℕ) × Fits (body m)
    body_fits false body step test n h =
        (suc n, joined_left body (step ⨾ (test ⨾ one (BrIf 0))) (suc n) (within_block (Loop None n) ((body ⨾ (step ⨾ (test ⨾ one (BrIf 0)))) (suc n)) h))
    body_fits true body step test n h =
        let c = block None body in
        let rest = step ⨾ (test ⨾ one (BrIf 0)) in
        (suc (suc n), within_block (Block None (suc n)) (body (suc (suc n))) (joined_left c rest (suc n) (within_block (Loop None n) ((c ⨾ rest) (suc n)) h)))

    mutual
      pub stmt_fits : (d : ℕ) (x : Exits) (s : Stmt) (n : ℕ) → Fits (scheme.stmt t slots d x s n) → is_small s ≡ true
      stmt_fits d x nothing n h = refl
      stmt_fits d x (perform e) n h = refl
      stmt_fits d x (fill p k bytes) n h = is_below (length bytes) (bytes_fit (code.decayed (code.is_deref p) k (code.place t d p)) bytes n h)
      stmt_fits d x (if_else c a b) n h =
          let e = code.expr t true d c in
          let y = scheme.stmt t slots d (within x) a in
          let z = scheme.stmt t slots d (within x) b in
          let m = n + length (e n).seqs in
          let q = joined_right e (choice None y z) n h in
          let i = suc m + length (y (suc m)).seqs in
          both_true (is_small a) (is_small b)
          (stmt_fits d (within x) a (suc m) (of_first (If None m (second i (z (suc i)))) (y (suc m)) (z (suc i)) q))
          (stmt_fits d (within x) b (suc i) (of_second (If None m (second i (z (suc i)))) (y (suc m)) (z (suc i)) q))
      stmt_fits d x (loop c step s) n h =
          let e = code.expr t true d c in
          let y = scheme.stmt t slots d (scheme.in_loop (continues s) x) s in
          let z = iterated t (continues s) y (code.step t d step) e in
          let m = n + length (e n).seqs in
          let q = joined_right e (choice None z no_code) n h in
          let i = suc m + length (z (suc m)).seqs in
          let b = body_fits (continues s) y (code.step t d step) e (suc m) (of_first (If None m None) (z (suc m)) (no_code (suc i)) q) in
          stmt_fits d (scheme.in_loop (continues s) x) s b.0 b.1
      stmt_fits d x (do_while s c) n h =
          let y = scheme.stmt t slots d (scheme.in_loop (continues s) x) s in
          let z = iterated t (continues s) y no_code (code.expr t true d c) in
          let b = body_fits (continues s) y no_code (code.expr t true d c) (suc n) (within_block (Block None n) (z (suc n)) h) in
          stmt_fits d (scheme.in_loop (continues s) x) s b.0 b.1
      stmt_fits d x (switch u e ns cases ss) n h =
          let vs = objects_in t slots ns in
          let xg = scheme.in_group (waiting t d) (with_objects vs x) in
          let a = selected t u (scratch_of_width t (width_of u)) (waiting t d) cases (count ss) (code.expr t true d e) in
          let b = enters t slots ns in
          let g = scheme.groups t slots d xg 0 ss in
          let n1 = n + length (a n).seqs in
          let n2 = n1 + length (b n1).seqs in
          let q = joined_left g (freed t vs) n2 (joined_right b (g ⨾ freed t vs) n1 (joined_right a (b ⨾ (g ⨾ freed t vs)) n h)) in
          let few = groups_long d xg ss 0 n2 in
          let l = long (g n2) q in
          both_true (nat_lt (count ss) 4294967295) (are_small ss) (is_below (count ss) (omega (arith, few, l))) (groups_fit d xg 0 ss n2 q)
      stmt_fits d x (scope ns ss) n h =
          let vs = objects_in t slots ns in
          let b = enters t slots ns in
          let y = scheme.stmts t slots d (with_objects vs x) ss in
          let m = n + length (b n).seqs in
          stmts_fit d (with_objects vs x) ss m (joined_left y (freed t vs) m (joined_right b (y ⨾ freed t vs) n h))
      stmt_fits d x (return e) n h = refl
      stmt_fits d x return_nothing n h = refl
      stmt_fits d x break n h = refl
      stmt_fits d x continue n h = refl

      stmts_fit : (d : ℕ) (x : Exits) (ss : Stmts) (n : ℕ) → Fits (scheme.stmts t slots d x ss n) → are_small ss ≡ true
      stmts_fit d x done n h = refl
      stmts_fit d x (seq s ss) n h =
          let a = scheme.stmt t slots d x s in
          let b = scheme.stmts t slots d x ss in
          both_true (is_small s) (are_small ss) (stmt_fits d x s n (joined_left a b n h)) (stmts_fit d x ss (n + length (a n).seqs) (joined_right a b n h))

      groups_fit : (d : ℕ) (x : Exits) (i : ℕ) (ss : Stmts) (n : ℕ) → Fits (scheme.groups t slots d x i ss n) → are_small ss ≡ true
      groups_fit d x i done n h = refl
      groups_fit d x i (seq s ss) n h =
          let y = scheme.stmt t slots (suc d) x s in
          let a = group_from t (waiting t d) i y in
          let b = scheme.groups t slots d x (suc i) ss in
          let test = plain (LocalGet (waiting t d) ∷ i32 i ∷ rel W32 rels.LeU ∷ []) in
          let m = n + 0 in
          let q = joined_right test (choice None y no_code) n (joined_left a b n h) in
          both_true (is_small s) (are_small ss) (stmt_fits (suc d) x s (suc m) (of_first (If None m None) (y (suc m)) (no_code (suc (suc m + length (y (suc m)).seqs))) q)) (groups_fit d x (suc i) ss (n + length (a n).seqs) (joined_right a b n h))

-- ---- functions of the module

all_of : (xs ys : List Func) → instructions_of (xs ++ ys) ≡ instructions_of xs + instructions_of ys
all_of [] ys = omega arith
all_of (x ∷ xs) ys = let e = all_of xs ys in omega (arith, e)

abbrev pub IsMost : Typed → Type 0
IsMost u = instructions_of (compiled u).funcs ≤ most_instructions

module _ (u : Typed) where
  of_one : (k : ℕ) (fs : List Function) (n : ℕ) (f : Function) (s : Stmt) → slice_get fs n ≡ Some f → f.body ≡ Some s → total (body (target_of u f s) f s) ≤ instructions_of (funcs_from u k fs)
  of_one k [] n f s e h = absurd cc
  of_one k (g ∷ fs) zero f s e h =
      let is : g ≡ f = some_function g f e in
      subst (λ (x : Function). total (body (target_of u f s) f s) ≤ instructions_of (funcs_from u k (x ∷ fs))) (sym is)
      (subst (λ (o : Option Stmt). total (body (target_of u f s) f s) ≤ instructions_of (func_of u k f o ++ funcs_from u (suc k) fs)) (sym h) (omega arith))
    where
      some_function : (g f : Function) → Some g ≡ Some f → g ≡ f
      some_function g f e = ap (λ (o : Option Function). or o) e where
        or : Option Function → Function
        or None = g
        or (Some x) = x
  of_one k (g ∷ fs) (suc n) f s e h =
      let r = of_one (suc k) fs n f s e h in
      let a = all_of (func_of u k g g.body) (funcs_from u (suc k) fs) in omega (arith, r, a)

  module _ (most : IsMost u) where
    both_parts : instructions_of (funcs_from u 0 u.functions) + (total (start (start_target u) u.globals u.made) + 0) ≤ most_instructions
    both_parts = let a = all_of (funcs_from u 0 u.functions) (start_func u ∷ []) in omega (arith, a, most)

    pub body_fits_in : (n : ℕ) (f : Function) (s : Stmt) → slice_get u.functions n ≡ Some f → f.body ≡ Some s → is_small s ≡ true
    body_fits_in n f s e h =
        let t = target_of u f s in
        let us = params_in f.ty in
        let vs = objects_in t f.slots (numbers (length us)) in
        let a = params t us in
        let b = scheme.stmt t f.slots 0 (at_body vs) s in
        let c = freed t vs ⨾ result t (scalar_of (result_in f.ty)) in
        let all = (a ⨾ (b ⨾ c)) 1 in
        let one' = of_one 0 u.functions n f s e h in
        let two = both_parts in
        let i = held_inner all.instrs all.seqs in
        let q : Fits all = omega (arith, one', two, i) in
        let m = 1 + length (a 1).seqs in
        stmt_fits t f.slots 0 (at_body vs) s m (joined_left b c m (joined_right a (b ⨾ c) 1 q))

    -- where the values begin
    abbrev pub values_at : ℕ
    values_at = 1 + length (makes (start_target u) u.globals 0 u.made 1).seqs

    pub start_fits : Fits (gives (start_target u) 0 u.made values_at)
    start_fits =
        let a = makes (start_target u) u.globals 0 u.made in
        let b = gives (start_target u) 0 u.made in
        let all = (a ⨾ b) 1 in
        let two = both_parts in
        let i = held_inner all.instrs all.seqs in
        let q : Fits all = omega (arith, two, i) in
        joined_right a b 1 q
