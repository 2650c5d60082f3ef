-- Code is well typed: it goes from any operands to these with what it leaves on top.
use Rattle.std.proofs.Common.{◌≡◌, ℕ, zero, suc, ◌+◌, ◌<◌, ◌≤◌, List, [], ◌∷◌, ◌++◌, length, Option, Some, None, refl, sym, ap, ◌∙◌, arith, subst, length-append, append_assoc}
use Rattle.ms_types.specs.declared.types.ValType.{ValType}
use Rattle.ms_types.specs.declared.types.ValType.TheVariants as vals
use Rattle.ms_module.specs.Numbered.{sequence_at}
use Rattle.ms_module.specs.declared.instr.Instr.{Instr}
use Rattle.ms_rules.specs.Context.{Context}
use Rattle.ms_rules.specs.Typing.{Derived, InstrTyped, Known, OtherTyped, SequenceTyped, types}
use Rattle.ms_emit.specs.Codes.{Code, coded, plain, no_code, ◌⨾◌, block, repeat, choice, inner, second, second_seqs}

abbrev pub Labels : Type 0
Labels = List (Option ValType)

-- ---- instructions that are no blocks, whatever is known of sequences

pub record Step (c : Context) (ls : Labels) (i : Instr) (t1 t2 : List ValType) : Type 1 where
  pub by : (known : Known) → InstrTyped known c ls i t1 t2

pub record Steps (c : Context) (ls : Labels) (is : List Instr) (t1 t2 : List ValType) : Type 1 where
  pub by : (known : Known) → SequenceTyped known c ls is t1 t2

pub end : {c : Context} {ls : Labels} {t : List ValType} → Steps c ls [] t t
end = record { by = λ known. refl }

infixr 5 ◌▸◌
pub ◌▸◌ : {c : Context} {ls : Labels} {i : Instr} {is : List Instr} {t1 t2 t3 : List ValType} → Step c ls i t1 t2
    → Steps c ls is t2 t3 → Steps c ls (i ∷ is) t1 t3
◌▸◌ {t2 = t2} s r = record { by = λ known. (t2, s.by known, r.by known) }

-- ---- the sequences of a body from a number on

abbrev pub Stand : List (List Instr) → ℕ → List (List Instr) → Type 0
Stand body n [] = Unit {0}
Stand body n (is ∷ ss) = (n < length body) × (sequence_at body n ≡ is) × Stand body (suc n) ss

pub stand_front : (body : List (List Instr)) (n : ℕ) (a b : List (List Instr)) → Stand body n (a ++ b) → Stand body n a
stand_front body n [] b h = tt
stand_front body n (is ∷ a) b h = (h.0, h.1, stand_front body (suc n) a b h.2)

pub stand_back : (body : List (List Instr)) (n : ℕ) (a b : List (List Instr)) → Stand body n (a ++ b)
    → Stand body (n + length a) b
stand_back body n [] b h = let e : n ≡ n + 0 = omega arith in subst (λ (m : ℕ). Stand body m b) e h
stand_back body n (is ∷ a) b h =
    let e : suc n + length a ≡ n + length (is ∷ a) = omega arith in
    subst (λ (m : ℕ). Stand body m b) e (stand_back body (suc n) a b h.2)

-- every sequence of a body stands in it
pub stands : (pre ss : List (List Instr)) → Stand (pre ++ ss) (length pre) ss
stands pre [] = tt
stands pre (is ∷ ss) =
    let more : (pre ++ is ∷ []) ++ ss ≡ pre ++ is ∷ ss = append_assoc pre (is ∷ []) ss in
    let next : length (pre ++ is ∷ []) ≡ suc (length pre) = let l = length-append pre (is ∷ []) in
    omega (arith, l) in
    let l = length-append pre (is ∷ ss) in (
      omega (arith, l),
      here pre is ss,
      subst (λ (n : ℕ). Stand (pre ++ is ∷ ss) n ss) next
          (subst (λ (b : List (List Instr)). Stand b (length (pre ++ is ∷ [])) ss) more (stands (pre ++ is ∷ []) ss)),
    )
  where
    here : (pre : List (List Instr)) (is : List Instr) (ss : List (List Instr)) → sequence_at (pre ++ is ∷ ss) (length pre) ≡ is
    here [] is ss = refl
    here (p ∷ pre) is ss = here pre is ss

-- ---- one list of instructions behind the other

sequence_append : (known : Known) (c : Context) (labels : Labels) (a b : List Instr) (t1 t2 t3 : List ValType)
    → SequenceTyped known c labels a t1 t2 → SequenceTyped known c labels b t2 t3 → SequenceTyped known c labels (a ++ b) t1 t3
sequence_append known c labels [] b t1 t2 t3 h g = subst (λ (t : List ValType). SequenceTyped known c labels b t t3) (sym h) g
sequence_append known c labels (i ∷ a) b t1 t2 t3 h g = (h.0, h.1, sequence_append known c labels a b h.0 t2 t3 h.2 g)

-- ---- code

-- Wherever it stands: the blocks in it are sequences of the body from a number on, and a derivation goes as high as there are
-- sequences from there on. With no instruction it has no sequence.
pub record Goes (c : Context) (body : List (List Instr)) (ls : Labels) (a : Code) (t1 t2 : List ValType) : Type 0 where
  pub whole : (n : ℕ) → (a n).instrs ≡ [] → (a n).seqs ≡ []
  pub typed : (n h : ℕ) → length body ≤ n + h → Stand body n (a n).seqs → SequenceTyped (Derived h c body) c ls (a n).instrs t1 t2

nil_left : (a b : List Instr) → a ++ b ≡ [] → a ≡ []
nil_left [] b e = refl
nil_left (i ∷ a) b e = absurd cc

nil_right : (a b : List Instr) → a ++ b ≡ [] → b ≡ []
nil_right [] b e = e
nil_right (i ∷ a) b e = absurd cc

nothing_left : (k : Option ValType) → [] ≡ types k → k ≡ None
nothing_left None e = refl
nothing_left (Some t) e = absurd cc

module _ (c : Context) (body : List (List Instr)) where
  -- a sequence that stands there is derived
  derived : (labels : Labels) (a : Code) (k : Option ValType) → Goes c body labels a [] (types k) → (n h : ℕ)
      → length body ≤ n + h → Stand body n (inner (a (suc n))) → Derived h c body labels n k
  derived labels a k g n zero le s = absurd (let lt = s.0 in omega (arith, le, lt))
  derived labels a k g n (suc h) le s =
      subst (λ (is : List Instr). SequenceTyped (Derived h c body) c labels is [] (types k)) (sym s.1)
      (g.typed (suc n) h (omega (arith, le)) s.2)

  -- where the second sequence has no instruction it isn't there, and nothing is left
  other_typed : (ls : Labels) (k : Option ValType) (m h : ℕ) → length body ≤ m + h → (is : List Instr) (ss : List (List Instr))
      → ((h' : ℕ) → length body ≤ suc m + h' → Stand body (suc m) ss
      → SequenceTyped (Derived h' c body) c (k ∷ ls) is [] (types k))
      → (is ≡ [] → Stand body (suc m) ss) → Stand body m (second_seqs (coded is ss))
      → OtherTyped (Derived h c body) ls k (second m (coded is ss))
  other_typed ls k m h le [] ss g empty s = nothing_left k (g (length body) (omega arith) (empty refl))
  other_typed ls k m zero le (i ∷ is) ss g empty s = absurd (let lt = s.0 in omega (arith, le, lt))
  other_typed ls k m (suc h) le (i ∷ is) ss g empty s =
      subst (λ (js : List Instr). SequenceTyped (Derived h c body) c (k ∷ ls) js [] (types k)) (sym s.1)
      (g h (omega (arith, le)) s.2)

module _ {c : Context} {body : List (List Instr)} {ls : Labels} where
  pub none : {t : List ValType} → Goes c body ls no_code t t
  none = record { whole = λ n e. refl; typed = λ n h le s. refl }

  pub does : {is : List Instr} {t1 t2 : List ValType} → Steps c ls is t1 t2 → Goes c body ls (plain is) t1 t2
  does s = record { whole = λ n e. refl; typed = λ n h le st. s.by (Derived h c body) }

  infixr 4 ◌▹◌
  -- one code behind the other
  pub ◌▹◌ : {a b : Code} {t1 t2 t3 : List ValType} → Goes c body ls a t1 t2 → Goes c body ls b t2 t3
      → Goes c body ls (a ⨾ b) t1 t3
  ◌▹◌ {a} {b} {t1} {t2} {t3} ga gb = record {
    whole = λ n e. let x = a n in let y = b (n + length x.seqs) in
        ap (λ (l : List (List Instr)). l ++ y.seqs) (ga.whole n (nil_left x.instrs y.instrs e))
        ∙ gb.whole (n + length x.seqs) (nil_right x.instrs y.instrs e);
    typed = λ n h le s. let x = a n in let m = n + length x.seqs in
        sequence_append (Derived h c body) c ls x.instrs (b m).instrs t1 t2 t3
        (ga.typed n h le (stand_front body n x.seqs (b m).seqs s))
        (gb.typed m h (omega (arith, le)) (stand_back body n x.seqs (b m).seqs s));
  }

  pub in_block : {k : Option ValType} {a : Code} {ts : List ValType} → Goes c body (k ∷ ls) a [] (types k)
      → Goes c body ls (block k a) ts (types k ++ ts)
  in_block {k} {a} {ts} g = record
      { whole = λ n e. absurd cc; typed = λ n h le s. (types k ++ ts, (derived c body (k ∷ ls) a k g n h le s, refl), refl) }

  pub in_repeat : {k : Option ValType} {a : Code} {ts : List ValType} → Goes c body (None ∷ ls) a [] (types k)
      → Goes c body ls (repeat k a) ts (types k ++ ts)
  in_repeat {k} {a} {ts} g = record
      { whole = λ n e. absurd cc; typed = λ n h le s. (types k ++ ts, (derived c body (None ∷ ls) a k g n h le s, refl), refl) }

  pub in_choice : {k : Option ValType} {a b : Code} {ts : List ValType} → Goes c body (k ∷ ls) a [] (types k)
      → Goes c body (k ∷ ls) b [] (types k)
      → Goes c body ls (choice k a b) (vals.I32 ∷ ts) (types k ++ ts)
  in_choice {k} {a} {b} {ts} ga gb = record {
    whole = λ n e. absurd cc;
    typed = λ n h le s.
        let x = a (suc n) in
        let m = suc n + length x.seqs in
        let y = b (suc m) in
        let same : n + suc (length x.seqs) ≡ m = omega arith in (
          types k ++ ts,
          (
            ts,
            refl,
            derived c body (k ∷ ls) a k ga n h le (stand_front body n (inner x) (second_seqs y) s),
            other_typed c body ls k m h (omega (arith, le)) y.instrs y.seqs (λ h' le' s'. gb.typed (suc m) h' le' s')
                (λ e. subst (λ (ss : List (List Instr)). Stand body (suc m) ss) (sym (gb.whole (suc m) e)) tt)
                (subst (λ (q : ℕ). Stand body q (second_seqs y)) same (stand_back body n (inner x) (second_seqs y) s)),
            refl,
          ),
          refl,
        );
  }
