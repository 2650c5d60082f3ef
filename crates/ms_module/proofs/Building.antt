-- The builder's open blocks, the innermost last, and its sequences.
use Rattle.std.proofs.Common.{◌≡◌, ℕ, zero, suc, ◌+◌, ◌-◌, ◌<◌, true, false, List, [], ◌∷◌, ◌++◌, length, reverse, drop, take, get_or, slice_set, refl, sym, ap, subst, ◌∙◌, arith}
use Rattle.std.specs.Prelude.{Option}
use Rattle.std.proofs.lemmas.List.{reverse-append, set-get_or}
use Rattle.ms_types.proofs.Reversed.{reverse-set_last, reverse-take}
use Rattle.ms_types.specs.declared.types.ValType.{ValType}
use Rattle.ms_module.specs.declared.instr.Instr.{Instr}
use Rattle.ms_module.specs.declared.builder.Opening.{Opening}
use Rattle.ms_module.specs.declared.builder.Arm.TheVariants.{First, Second, AfterElse}
use Rattle.ms_module.specs.declared.builder.Open.{Open}
use Rattle.ms_module.specs.Building.{Builds, State, begun, begun_in, closed, current, in_second, is_after_else, may_else, placed, put, started, after_else_blocks, whole}
use Rattle.ms_module.proofs.Order.{Fall, current_within, in_order}

-- ---- instructions at the end of a sequence

pub put-is : (ss : List (List Instr)) (k : ℕ) (i : Instr) (d : List Instr) → k < length ss → slice_set ss k (get_or ss k d ++ i ∷ []) ≡ put ss k i
put-is [] k i d h = absurd (omega arith)
put-is (s ∷ ss) zero i d h = refl
put-is (s ∷ ss) (suc k) i d h = ap (λ (t : List (List Instr)). s ∷ t) (put-is ss k i d (omega arith))

put_new : (ss : List (List Instr)) (n : ℕ) (i : Instr) → n ≡ length ss → ss ++ (i ∷ []) ∷ [] ≡ put (ss ++ [] ∷ []) n i
put_new [] zero i e = refl
put_new [] (suc n) i e = absurd (omega arith)
put_new (s ∷ ss) zero i e = absurd (omega arith)
put_new (s ∷ ss) (suc n) i e = ap (λ (t : List (List Instr)). s ∷ t) (put_new ss n i (omega arith))

-- ---- the innermost block

pub last_is : (os : List Open) (k : ℕ) (o : Open) → k + 1 ≡ length os → get_or os k o ≡ o → reverse os ≡ o ∷ drop 1 (reverse os)
last_is os k o e is = ap reverse (sym (ap (λ x. slice_set os k x) (sym is) ∙ set-get_or os k o)) ∙ reverse-set_last os k o e

pub second-is : (os : List Open) (k n : ℕ) (o : Open) → k + 1 ≡ length os → get_or os k o ≡ o
    → reverse (slice_set os k (record { arm = Second o.seq; ty = o.ty; seq = n })) ≡ in_second n (reverse os)
second-is os k n o e is = rw (last_is os k o e is) (reverse-set_last os k (record { arm = Second o.seq; ty = o.ty; seq = n }) e)

pub after_else-is : (os : List Open) (k : ℕ) (o : Open) → k + 1 ≡ length os → get_or os k o ≡ o
    → reverse (slice_set os k (record { arm = AfterElse; ty = o.ty; seq = o.seq })) ≡ after_else_blocks (reverse os)
after_else-is os k o e is = rw (last_is os k o e is) (reverse-set_last os k (record { arm = AfterElse; ty = o.ty; seq = o.seq }) e)

rest_is : (os : List Open) (k : ℕ) → k + 1 ≡ length os → reverse (take k os) ≡ drop 1 (reverse os)
rest_is os k e = reverse-take os k (omega arith) ∙ ap (λ n. drop n (reverse os)) (let one : length os - k ≡ 1 = omega arith in one)

-- ---- the steps

module _ (os : List Open) (ss : List (List Instr)) (b : Builds (record { blocks = reverse os; seqs = ss })) where
  pub current_fits : current (reverse os) < length ss
  current_fits = current_within (reverse os) (length ss) (in_order b).1

  pub around_fits : (k : ℕ) (o : Open) → k + 1 ≡ length os → get_or os k o ≡ o → current (reverse (take k os)) < length ss
  around_fits k o e is =
      let falls = subst (λ l. Fall l (length ss)) (last_is os k o e is) (in_order b).1 in
      rw (rest_is os k e) (current_within (drop 1 (reverse os)) (length ss) falls.1)

pub closed-is : (os : List Open) (ss : List (List Instr)) (k : ℕ) (o : Open) → k + 1 ≡ length os → get_or os k o ≡ o
    → ◌≡◌ {A = State} (record { blocks = reverse (take k os); seqs = put ss (current (reverse (take k os))) (whole o.arm o.ty o.seq) }) (closed (record { blocks = reverse os; seqs = ss }))
closed-is os ss k o e is = rw (rest_is os k e, last_is os k o e is) refl

some_after_else : (blocks : List Open) (n : ℕ) → is_after_else blocks ≡ true → current (in_second n blocks) ≡ n
some_after_else [] n e = absurd cc
some_after_else (o ∷ os) n e = refl

pub may_else-some : (os : List Open) → may_else (reverse os) ≡ true → 0 < length os
may_else-some [] e = absurd cc
may_else-some (o ∷ os) e = omega arith

pub after_else-some : (os : List Open) → is_after_else (reverse os) ≡ true → 0 < length os
after_else-some [] e = absurd cc
after_else-some (o ∷ os) e = omega arith

pub placed-second : (blocks : List Open) (ss : List (List Instr)) (n : ℕ) (i : Instr) → is_after_else blocks ≡ true → n ≡ length ss
    → ◌≡◌ {A = State} (record { blocks = in_second n blocks; seqs = ss ++ (i ∷ []) ∷ [] }) (placed (record { blocks = blocks; seqs = ss }) i)
placed-second blocks ss n i e is = rw (e, some_after_else blocks (length ss) e, is, put_new ss (length ss) i refl) refl

pub placed-same : (blocks : List Open) (ss : List (List Instr)) (i : Instr) → is_after_else blocks ≡ false
    → ◌≡◌ {A = State} (record { blocks = blocks; seqs = put ss (current blocks) i }) (placed (record { blocks = blocks; seqs = ss }) i)
placed-same blocks ss i e = rw e refl

pub started-second : (blocks : List Open) (ss : List (List Instr)) (n : ℕ) → is_after_else blocks ≡ true → n ≡ length ss
    → ◌≡◌ {A = State} (record { blocks = in_second n blocks; seqs = ss ++ [] ∷ [] }) (started (record { blocks = blocks; seqs = ss }))
started-second blocks ss n e is = rw (e, is) refl

pub started-same : (blocks : List Open) (ss : List (List Instr)) → is_after_else blocks ≡ false
    → ◌≡◌ {A = State} (record { blocks = blocks; seqs = ss }) (started (record { blocks = blocks; seqs = ss }))
started-same blocks ss e = rw e refl

pub begun-is : (st : State) (os : List Open) (ss : List (List Instr)) (opening : Opening) (ty : Option ValType) (n : ℕ)
    → ◌≡◌ {A = State} (record { blocks = reverse os; seqs = ss }) (started st) → n ≡ length ss
    → ◌≡◌ {A = State} (record { blocks = reverse (os ++ record { arm = First opening; ty = ty; seq = n } ∷ []); seqs = ss ++ [] ∷ [] }) (begun st opening ty)
begun-is st os ss opening ty n e is =
    let o : Open = record { arm = First opening; ty = ty; seq = n } in
    let one : ◌≡◌ {A = State} (record { blocks = reverse (os ++ o ∷ []); seqs = ss ++ [] ∷ [] }) (begun_in (record { blocks = reverse os; seqs = ss }) opening ty) = rw (reverse-append os (o ∷ []), is) refl in
    one ∙ ap (λ (s : State). begun_in s opening ty) e
