-- Code that is built by the builder in parts is the code of the whole: a law for each way to put code together. A part may stand behind
-- an `else`, where the second sequence begins with its first instruction.
use Rattle.std.proofs.Common.{◌≡◌, ℕ, zero, suc, ◌+◌, ◌<◌, Bool, true, false, List, [], ◌∷◌, ◌++◌, length, length-append, Option, Some, None, refl, sym, ap, ◌∙◌, arith, subst, append_assoc, append-nil}
use Rattle.std.specs.Prelude.{cond}
use Rattle.ms_types.specs.declared.types.ValType.{ValType}
use Rattle.ms_module.specs.Building.{State, after_else, after_else_blocks, begun, begun_in, closed, current, in_second, is_after_else, placed, placed_in, put, started}
use Rattle.ms_module.specs.declared.builder.Open.{Open}
use Rattle.ms_module.specs.declared.builder.Opening.{Opening}
use Rattle.ms_module.specs.declared.builder.Opening.TheVariants as openings
use Rattle.ms_module.specs.declared.builder.Arm.TheVariants.{AfterElse}
use Rattle.ms_module.specs.declared.instr.Instr.{Instr}
use Rattle.ms_module.specs.declared.instr.Instr.TheVariants.{Block, Loop, If}
use Rattle.ms_emit.specs.refinement.Parts.{HasRoom, IsWhole}
use Rattle.ms_emit.specs.Codes.{Code, Coded, coded, plain, one, ◌⨾◌, joined, block, repeat, choice, inner, second, second_seqs, puts, added, added_in, second_added, emitted}

-- ---- sequences

put_is : (ss : List (List Instr)) (k : ℕ) (i : Instr) → put ss k i ≡ puts ss k (i ∷ [])
put_is [] k i = refl
put_is (s ∷ ss) zero i = refl
put_is (s ∷ ss) (suc k) i = ap (λ (l : List (List Instr)). s ∷ l) (put_is ss k i)

puts_append : (ss more : List (List Instr)) (k : ℕ) (is : List Instr) → k < length ss → puts (ss ++ more) k is ≡ puts ss k is ++ more
puts_append [] more k is lt = absurd (omega (arith, lt))
puts_append (s ∷ ss) more zero is lt = refl
puts_append (s ∷ ss) more (suc k) is lt = ap (λ (l : List (List Instr)). s ∷ l) (puts_append ss more k is (omega (arith, lt)))

puts_puts : (ss : List (List Instr)) (k : ℕ) (a b : List Instr) → puts (puts ss k a) k b ≡ puts ss k (a ++ b)
puts_puts [] k a b = refl
puts_puts (s ∷ ss) zero a b = ap (λ (l : List Instr). l ∷ ss) (append_assoc s a b)
puts_puts (s ∷ ss) (suc k) a b = ap (λ (l : List (List Instr)). s ∷ l) (puts_puts ss k a b)

puts_last : (ss : List (List Instr)) (s is : List Instr) → puts (ss ++ s ∷ []) (length ss) is ≡ ss ++ (s ++ is) ∷ []
puts_last [] s is = refl
puts_last (s' ∷ ss) s is = ap (λ (l : List (List Instr)). s' ∷ l) (puts_last ss s is)

length_puts : (ss : List (List Instr)) (k : ℕ) (is : List Instr) → length (puts ss k is) ≡ length ss
length_puts [] k is = refl
length_puts (s ∷ ss) zero is = refl
length_puts (s ∷ ss) (suc k) is = ap suc (length_puts ss k is)

abbrev with_seqs : State → List (List Instr) → State
with_seqs st ss = record { blocks = st.blocks; seqs = ss }

-- the state where an instruction comes, by whether it comes first behind an `else`
abbrev pub started_in : Bool → State → State
started_in b st = cond b (record { blocks = in_second (length st.seqs) st.blocks; seqs = st.seqs ++ [] ∷ [] }) st

-- ---- in a sequence that has begun

module _ (st : State) (calm : is_after_else st.blocks ≡ false) (room : HasRoom st) where
  emitted_is : (c : Code) → emitted st c ≡ added st (c (length st.seqs))
  emitted_is c = ap (λ (b : Bool). added_in b st c) calm

  started_is : started st ≡ st
  started_is = ap (λ (b : Bool). started_in b st) calm

  emits_one_calm : (i : Instr) → placed st i ≡ emitted st (one i)
  emits_one_calm i =
      ap (λ (s : State). placed_in s i) started_is
      ∙ ap (with_seqs st) (put_is st.seqs (current st.blocks) i ∙ sym (append-nil (puts st.seqs (current st.blocks) (i ∷ [])))) ∙ sym (emitted_is (one i))

  emits_both : (a b : Code) → emitted (emitted st a) b ≡ emitted st (a ⨾ b)
  emits_both a b =
      let k = current st.blocks in
      let x = a (length st.seqs) in
      let s1 = added st x in
      let len : length s1.seqs ≡ length st.seqs + length x.seqs =
      length-append (puts st.seqs k x.instrs) x.seqs ∙ ap (λ (n : ℕ). n + length x.seqs) (length_puts st.seqs k x.instrs) in
      let y = b (length st.seqs + length x.seqs) in
      let lt : k < length (puts st.seqs k x.instrs) = let l = length_puts st.seqs k x.instrs in omega (arith, room, l) in
      ap (λ (s : State). emitted s b) (emitted_is a)
      ∙ ap (λ (q : Bool). added_in q s1 b) calm
      ∙ ap (λ (n : ℕ). added s1 (b n)) len
      ∙ ap (with_seqs st)
      (ap (λ (l : List (List Instr)). l ++ y.seqs)
      (puts_append (puts st.seqs k x.instrs) x.seqs k y.instrs lt ∙ ap (λ (l : List (List Instr)). l ++ x.seqs) (puts_puts st.seqs k x.instrs y.instrs))
      ∙ append_assoc (puts st.seqs k (x.instrs ++ y.instrs)) x.seqs y.seqs)
      ∙ sym (emitted_is (a ⨾ b))

  -- the sequences of a block that has begun and is filled
  abbrev opened : Opening → Option ValType → State
  opened o ty = begun_in st o ty

  filled : (o : Opening) (ty : Option ValType) (a : Code) → emitted (opened o ty) a ≡ record { blocks = (opened o ty).blocks; seqs = st.seqs ++ inner (a (suc (length st.seqs))) }
  filled o ty a =
      let len : length (st.seqs ++ [] ∷ []) ≡ suc (length st.seqs) = let l = length-append st.seqs ([] ∷ []) in omega (arith, l) in
      let x = a (suc (length st.seqs)) in
      ap (λ (n : ℕ). added (opened o ty) (a n)) len
      ∙ ap (λ (ss : List (List Instr)). record { blocks = (opened o ty).blocks; seqs = ss })
      (ap (λ (l : List (List Instr)). l ++ x.seqs) (puts_last st.seqs [] x.instrs) ∙ append_assoc st.seqs (x.instrs ∷ []) x.seqs)

  ended : (i : Instr) (ss : List (List Instr)) → placed_in (record { blocks = st.blocks; seqs = st.seqs ++ ss }) i ≡ added st (coded (i ∷ []) ss)
  ended i ss = ap (with_seqs st) (put_is (st.seqs ++ ss) (current st.blocks) i ∙ puts_append st.seqs ss (current st.blocks) (i ∷ []) room)

  emits_block_calm : (ty : Option ValType) (a : Code) → closed (emitted (begun st openings.Block ty) a) ≡ emitted st (block ty a)
  emits_block_calm ty a =
      ap (λ (s : State). closed (emitted (begun_in s openings.Block ty) a)) started_is
      ∙ ap closed (filled openings.Block ty a) ∙ ended (Block ty (length st.seqs)) (inner (a (suc (length st.seqs)))) ∙ sym (emitted_is (block ty a))

  emits_repeat_calm : (ty : Option ValType) (a : Code) → closed (emitted (begun st openings.Loop ty) a) ≡ emitted st (repeat ty a)
  emits_repeat_calm ty a =
      ap (λ (s : State). closed (emitted (begun_in s openings.Loop ty) a)) started_is
      ∙ ap closed (filled openings.Loop ty a) ∙ ended (Loop ty (length st.seqs)) (inner (a (suc (length st.seqs)))) ∙ sym (emitted_is (repeat ty a))

  abbrev behind_else : Option ValType → List (List Instr) → State
  behind_else ty ss = record { blocks = record { arm = AfterElse; ty = ty; seq = length st.seqs } ∷ st.blocks; seqs = st.seqs ++ ss }

  -- an `if` with no second arm
  emits_only_calm : (ty : Option ValType) (a : Code) → closed (emitted (begun st openings.If ty) a) ≡ emitted st (choice ty a (plain []))
  emits_only_calm ty a =
      ap (λ (s : State). closed (emitted (begun_in s openings.If ty) a)) started_is
      ∙ ap closed (filled openings.If ty a) ∙ ended (If ty (length st.seqs) None) (inner (a (suc (length st.seqs))))
      ∙ ap (λ (l : List (List Instr)). added st (coded (If ty (length st.seqs) None ∷ []) l)) (sym (append-nil (inner (a (suc (length st.seqs))))))
      ∙ sym (emitted_is (choice ty a (plain [])))

  -- the second arm, from its `else`
  second_arm : (ty : Option ValType) (ss : List (List Instr)) (m : ℕ) → length (st.seqs ++ ss) ≡ m → (is : List Instr) (more : List (List Instr))
      → closed (second_added is (behind_else ty ss) (coded is more)) ≡ added st (coded (If ty (length st.seqs) (second m (coded is more)) ∷ []) (ss ++ second_seqs (coded is more)))
  second_arm ty ss m len [] more =
      ended (If ty (length st.seqs) None) ss ∙ ap (λ (l : List (List Instr)). added st (coded (If ty (length st.seqs) None ∷ []) l)) (sym (append-nil ss))
  second_arm ty ss m len (i ∷ is) more =
      let all = st.seqs ++ ss in
      let go : List (List Instr) → State = λ l. placed_in (record { blocks = st.blocks; seqs = l }) (If ty (length st.seqs) (Some (length all))) in
      ap go (ap (λ (l : List (List Instr)). l ++ more) (puts_last all [] (i ∷ is)) ∙ append_assoc all ((i ∷ is) ∷ []) more ∙ append_assoc st.seqs ss ((i ∷ is) ∷ more))
      ∙ ended (If ty (length st.seqs) (Some (length all))) (ss ++ ((i ∷ is) ∷ more))
      ∙ ap (λ (n : ℕ). added st (coded (If ty (length st.seqs) (Some n) ∷ []) (ss ++ ((i ∷ is) ∷ more)))) len

  emits_choice_calm : (ty : Option ValType) (a b : Code) → closed (emitted (after_else (emitted (begun st openings.If ty) a)) b) ≡ emitted st (choice ty a b)
  emits_choice_calm ty a b =
      let n = length st.seqs in
      let x = a (suc n) in
      let m = suc n + length x.seqs in
      let len : length (st.seqs ++ inner x) ≡ m = let l = length-append st.seqs (inner x) in omega (arith, l) in
      let y = b (suc m) in
      ap (λ (s : State). closed (emitted (after_else (emitted (begun_in s openings.If ty) a)) b)) started_is
      ∙ ap (λ (s : State). closed (emitted (after_else s) b)) (filled openings.If ty a)
      ∙ ap (λ (k : ℕ). let q = b (suc k) in closed (second_added q.instrs (behind_else ty (inner x)) q)) len
      ∙ second_arm ty (inner x) m len y.instrs y.seqs
      ∙ sym (emitted_is (choice ty a b))

-- ---- a state behind an `else` goes on as the one in which the second sequence has begun

calm_started : (st : State) → is_after_else (started st).blocks ≡ false
calm_started st = by (is_after_else st.blocks) refl where
  inside : (bs : List Open) (n : ℕ) → is_after_else (in_second n bs) ≡ false
  inside [] n = refl
  inside (o ∷ bs) n = refl

  by : (b : Bool) → is_after_else st.blocks ≡ b → is_after_else (started st).blocks ≡ false
  by true e = ap (λ (q : Bool). is_after_else (started_in q st).blocks) e ∙ inside st.blocks (length st.seqs)
  by false e = ap (λ (q : Bool). is_after_else (started_in q st).blocks) e ∙ e

started_room : (st : State) → HasRoom st → HasRoom (started st)
started_room st room = by (is_after_else st.blocks) refl where
  inside : (bs : List Open) (n : ℕ) → is_after_else bs ≡ true → current (in_second n bs) ≡ n
  inside [] n e = absurd cc
  inside (o ∷ bs) n e = refl

  by : (b : Bool) → is_after_else st.blocks ≡ b → HasRoom (started st)
  by true e =
      let l = length-append st.seqs ([] ∷ []) in
      let c = inside st.blocks (length st.seqs) e in
      subst (λ (q : Bool). HasRoom (started_in q st)) (sym e) (omega (arith, l, c))
  by false e = subst (λ (q : Bool). HasRoom (started_in q st)) (sym e) room

started_twice : (st : State) → started (started st) ≡ started st
started_twice st = ap (λ (q : Bool). started_in q (started st)) (calm_started st)

emitted_started : (st : State) (c : Code) (i : Instr) (is : List Instr)
    → is_after_else st.blocks ≡ true → (c (suc (length st.seqs))).instrs ≡ i ∷ is → emitted st c ≡ emitted (started st) c
emitted_started st c i is e h =
    let is_s : started st ≡ started_in true st = ap (λ (q : Bool). started_in q st) e in
    let k = suc (length st.seqs) in
    let len : length (started_in true st).seqs ≡ k = let l = length-append st.seqs ([] ∷ []) in omega (arith, l) in
    ap (λ (q : Bool). added_in q st c) e
    ∙ ap (λ (js : List Instr). second_added js st (c k)) h
    ∙ ap (λ (n : ℕ). added (started st) (c n)) (sym len ∙ ap (λ (q : State). length q.seqs) (sym is_s))
    ∙ ap (λ (q : Bool). added_in q (started st) c) (sym (calm_started st))

abbrev HasOne : Code → Type 0
HasOne c = (n : ℕ) → (i : Instr) × (is : List Instr) × ((c n).instrs ≡ i ∷ is)

begins_second : (st : State) (c : Code) → HasOne c → emitted st c ≡ emitted (started st) c
begins_second st c h = by (is_after_else st.blocks) refl where
  by : (b : Bool) → is_after_else st.blocks ≡ b → emitted st c ≡ emitted (started st) c
  by true e = let o = h (suc (length st.seqs)) in emitted_started st c o.0 o.1 e o.2
  by false e = ap (λ (q : State). emitted q c) (sym (ap (λ (q : Bool). started_in q st) e))

-- ---- the laws

pub emits_one : (st : State) → HasRoom st → (i : Instr) → placed st i ≡ emitted st (one i)
emits_one st room i =
    ap (λ (s : State). placed_in s i) (sym (started_twice st)) ∙ emits_one_calm (started st) (calm_started st) (started_room st room) i
    ∙ sym (begins_second st (one i) (λ n. (i, [], refl)))

pub emits_then : (st : State) → HasRoom st → (a b : Code) → IsWhole a → emitted (emitted st a) b ≡ emitted st (a ⨾ b)
emits_then st room a b whole = by (is_after_else st.blocks) refl where
  behind : is_after_else st.blocks ≡ true → (is : List Instr) → (a (suc (length st.seqs))).instrs ≡ is → emitted (emitted st a) b ≡ emitted st (a ⨾ b)
  behind e (i ∷ is) h =
      let rest = (b (suc (length st.seqs) + length (a (suc (length st.seqs))).seqs)).instrs in
      ap (λ (s : State). emitted s b) (emitted_started st a i is e h) ∙ emits_both (started st) (calm_started st) (started_room st room) a b
      ∙ sym (emitted_started st (a ⨾ b) i (is ++ rest) e (ap (λ (l : List Instr). l ++ rest) h))
  behind e [] h =
      let n = suc (length st.seqs) in
      let none = whole n h in
      let zero : n + 0 ≡ n = omega arith in
      let same : (a ⨾ b) n ≡ b n =
      ap (λ (l : List Instr). joined (coded l (a n).seqs) (b (n + length (a n).seqs))) h
      ∙ ap (λ (l : List (List Instr)). joined (coded [] l) (b (n + length l))) none ∙ ap b zero in
      ap (λ (s : State). emitted s b) (ap (λ (q : Bool). added_in q st a) e ∙ ap (λ (js : List Instr). second_added js st (a n)) h)
      ∙ ap (λ (q : Bool). added_in q st b) e
      ∙ ap (λ (x : Coded). second_added x.instrs st x) (sym same)
      ∙ ap (λ (q : Bool). added_in q st (a ⨾ b)) (sym e)

  by : (q : Bool) → is_after_else st.blocks ≡ q → emitted (emitted st a) b ≡ emitted st (a ⨾ b)
  by false e = emits_both st e room a b
  by true e = behind e (a (suc (length st.seqs))).instrs refl

pub emits_block : (st : State) → HasRoom st → (ty : Option ValType) (a : Code) → closed (emitted (begun st openings.Block ty) a) ≡ emitted st (block ty a)
emits_block st room ty a =
    ap (λ (s : State). closed (emitted (begun_in s openings.Block ty) a)) (sym (started_twice st))
    ∙ emits_block_calm (started st) (calm_started st) (started_room st room) ty a
    ∙ sym (begins_second st (block ty a) (λ n. (Block ty n, [], refl)))

pub emits_repeat : (st : State) → HasRoom st → (ty : Option ValType) (a : Code) → closed (emitted (begun st openings.Loop ty) a) ≡ emitted st (repeat ty a)
emits_repeat st room ty a =
    ap (λ (s : State). closed (emitted (begun_in s openings.Loop ty) a)) (sym (started_twice st))
    ∙ emits_repeat_calm (started st) (calm_started st) (started_room st room) ty a
    ∙ sym (begins_second st (repeat ty a) (λ n. (Loop ty n, [], refl)))

pub emits_only : (st : State) → HasRoom st → (ty : Option ValType) (a : Code) → closed (emitted (begun st openings.If ty) a) ≡ emitted st (choice ty a (plain []))
emits_only st room ty a =
    ap (λ (s : State). closed (emitted (begun_in s openings.If ty) a)) (sym (started_twice st))
    ∙ emits_only_calm (started st) (calm_started st) (started_room st room) ty a
    ∙ sym (begins_second st (choice ty a (plain [])) (λ n. (If ty n None, [], refl)))

pub emits_choice : (st : State) → HasRoom st → (ty : Option ValType) (a b : Code)
    → closed (emitted (after_else (emitted (begun st openings.If ty) a)) b) ≡ emitted st (choice ty a b)
emits_choice st room ty a b =
    ap (λ (s : State). closed (emitted (after_else (emitted (begun_in s openings.If ty) a)) b)) (sym (started_twice st))
    ∙ emits_choice_calm (started st) (calm_started st) (started_room st room) ty a b
    ∙ sym (begins_second st (choice ty a b) (λ n. (If ty n (second (suc n + length (a (suc n)).seqs) (b (suc (suc n + length (a (suc n)).seqs)))), [], refl)))

-- nothing is added
pub emits_nothing : (st : State) → HasRoom st → emitted st (plain []) ≡ st
emits_nothing st room = by (is_after_else st.blocks) refl where
  puts_none : (ss : List (List Instr)) (k : ℕ) → puts ss k [] ≡ ss
  puts_none [] k = refl
  puts_none (s ∷ ss) zero = ap (λ (l : List Instr). l ∷ ss) (append-nil s)
  puts_none (s ∷ ss) (suc k) = ap (λ (l : List (List Instr)). s ∷ l) (puts_none ss k)

  by : (q : Bool) → is_after_else st.blocks ≡ q → emitted st (plain []) ≡ st
  by false e =
      ap (λ (q : Bool). added_in q st (plain [])) e
      ∙ ap (with_seqs st) (append-nil (puts st.seqs (current st.blocks) []) ∙ puts_none st.seqs (current st.blocks))
  by true e = ap (λ (q : Bool). added_in q st (plain [])) e

-- ---- there is a current sequence still

added_room : (st : State) (x : Coded) → HasRoom st → HasRoom (added st x)
added_room st x room =
    let a = length-append (puts st.seqs (current st.blocks) x.instrs) x.seqs in
    let b = length_puts st.seqs (current st.blocks) x.instrs in
    omega (arith, room, a, b)

pub emitted_room : (st : State) (c : Code) → HasRoom st → HasRoom (emitted st c)
emitted_room st c room = by (is_after_else st.blocks) where
  behind : (is : List Instr) (x : Coded) → HasRoom (second_added is st x)
  behind [] x = room
  behind (i ∷ is) x = added_room (started st) x (started_room st room)

  by : (b : Bool) → HasRoom (added_in b st c)
  by true = behind (c (suc (length st.seqs))).instrs (c (suc (length st.seqs)))
  by false = added_room st (c (length st.seqs)) room

pub begun_room : (st : State) (o : Opening) (ty : Option ValType) → HasRoom (begun st o ty)
begun_room st o ty = let l = length-append (started st).seqs ([] ∷ []) in omega (arith, l)

pub after_else_room : (st : State) → HasRoom st → HasRoom (after_else st)
after_else_room st room = by st.blocks room where
  by : (bs : List Open) → current bs < length st.seqs → current (after_else_blocks bs) < length st.seqs
  by [] lt = lt
  by (o ∷ bs) lt = lt

-- ---- code without instructions has no sequences

pub then_whole : (a b : Code) → IsWhole a → IsWhole b → IsWhole (a ⨾ b)
then_whole a b wa wb n e = by (a n).instrs refl e where
  by : (is : List Instr) → (a n).instrs ≡ is → ((a ⨾ b) n).instrs ≡ [] → ((a ⨾ b) n).seqs ≡ []
  by [] h e =
      let none = wa n h in
      let m = n + length (a n).seqs in
      let eb : (b m).instrs ≡ [] = ap (λ (l : List Instr). l ++ (b m).instrs) (sym h) ∙ e in
      ap (λ (l : List (List Instr)). l ++ (b m).seqs) none ∙ wb m eb
  by (i ∷ is) h e =
      let q : i ∷ (is ++ (b (n + length (a n).seqs)).instrs) ≡ [] = ap (λ (l : List Instr). l ++ (b (n + length (a n).seqs)).instrs) (sym h) ∙ e in
      absurd cc
