-- What is built is what its items up to there build.
use Rattle.std.proofs.Common.{◌≡◌, ℕ, ◌<◌, ◌≤◌, Bool, true, false, List, [], ◌∷◌, ◌++◌, length, refl, sym, ap, subst, ◌∙◌, arith, append_assoc}
use Rattle.std.specs.Prelude.{Option, None}
use Rattle.std.proofs.lemmas.List.{append-nil}
use Rattle.ms_types.specs.declared.types.ValType.{ValType}
use Rattle.ms_module.specs.declared.instr.Instr.{Instr}
use Rattle.ms_module.specs.declared.builder.Opening.{Opening}
use Rattle.ms_module.specs.declared.builder.Opening.TheVariants.{Block, If, Loop}
use Rattle.ms_module.specs.declared.builder.Arm.{Arm}
use Rattle.ms_module.specs.declared.builder.Arm.TheVariants.{First, Second, AfterElse}
use Rattle.ms_module.specs.declared.builder.Open.{Open}
use Rattle.ms_module.specs.declared.instr.Instr.TheVariants as instr
use Rattle.ms_module.specs.Building.{Builds, IsNumbered, State, begins, begun, closed_in, closes, current, first_state, is_after_else, is_after_else_in, may_else, may_else_in, opens, placed, placed_in, places, started, after_else_blocks, elses, whole}
use Rattle.ms_module.specs.Numbered.{IsPlain, sequence_at}
use Rattle.ms_module.proofs.Order.{Fall, current_within, in_order, length-put, names_later, longer}
use Rattle.ms_flat.specs.Flat.{Item, Plain, Begin, Else, End, flat, items_of, items_within, sequence_items}
use Rattle.ms_flat.specs.refinement.Rebuilt.{after, after_item}
use Rattle.ms_flat.proofs.Sequences.{plain_names_none, within_is}
use Rattle.ms_flat.proofs.Growing.{Apart, Below, Kept, below, kept, kept_started, whole_apart}
use Rattle.ms_flat.proofs.Rebuilding.{begun_items, begun_so_far, close_items, items_at, lower, more_at, more_so_far, none_at, put_so_far, so_far}
use Rattle.ms_module.proofs.Nesting.{of_all_named}

-- ---- items one after the other

-- an item may come, however many blocks are open
abbrev pub Comes : State → Item → Type 0
Comes st (Plain i) = IsPlain i
Comes st (Begin opening ty) = Unit {0}
Comes st Else = may_else st.blocks ≡ true
Comes st End = 0 < length st.blocks

abbrev pub AllCome : State → List Item → Type 0
AllCome st [] = Unit {0}
AllCome st (x ∷ xs) = Comes st x × AllCome (after_item st x) xs

after-append : (st : State) (xs ys : List Item) → after st (xs ++ ys) ≡ after (after st xs) ys
after-append st [] ys = refl
after-append st (x ∷ xs) ys = after-append (after_item st x) xs ys

all_come : (st : State) (xs ys : List Item) → AllCome st xs → AllCome (after st xs) ys → AllCome st (xs ++ ys)
all_come st [] ys h g = g
all_come st (x ∷ xs) ys h g = (h.0, all_come (after_item st x) xs ys h.1 g)

-- from the beginning these items lead to a state
abbrev pub Leads : List Item → State → Type 0
Leads xs st = (after first_state xs ≡ st) × AllCome first_state xs

leads_on : (xs ys zs : List Item) (st : State) → zs ≡ xs ++ ys → Leads xs st → AllCome st ys → Leads zs (after st ys)
leads_on xs ys zs st e h g =
    subst (λ (l : List Item). Leads l (after st ys)) (sym e)
    (after-append first_state xs ys ∙ ap (λ (s : State). after s ys) h.0, all_come first_state xs ys h.1 (subst (λ (s : State). AllCome s ys) (sym h.0) g))

-- ---- an `else` that waits for its first instruction

abbrev before_else_arm : Arm → Arm
before_else_arm (First opening) = First opening
before_else_arm AfterElse = First If
before_else_arm (Second first) = Second first

-- the blocks as if it hadn't come
abbrev pub before_else : List Open → List Open
before_else [] = []
before_else (o ∷ os) = record { arm = before_else_arm o.arm; ty = o.ty; seq = o.seq } ∷ os

-- only the innermost block may wait
abbrev Still : List Open → Type 0
Still [] = Unit {0}
Still (o ∷ os) = (is_after_else_in o.arm ≡ false) × Still os

abbrev Quiet : List Open → Type 0
Quiet [] = Unit {0}
Quiet (o ∷ os) = Still os

still_quiet : (os : List Open) → Still os → Quiet os
still_quiet [] h = tt
still_quiet (o ∷ os) h = h.1

still_started : (st : State) → Quiet st.blocks → Still (started st).blocks
still_started st q = go st.blocks refl (is_after_else st.blocks) refl q where
  go : (blocks : List Open) → st.blocks ≡ blocks → (b : Bool) → is_after_else st.blocks ≡ b → Quiet blocks → Still (started st).blocks
  go [] e b t q = rw e tt
  go (o ∷ os) e true t q = rw (t, e) (refl, q)
  go (o ∷ os) e false t q = rw (t, e) ((ap is_after_else (sym e) ∙ t), q)

quiet : {st : State} → Builds st → Quiet st.blocks
quiet begins = tt
quiet (places {st = st} i plain b) = still_quiet (started st).blocks (still_started st (quiet b))
quiet (opens {st = st} opening ty b) = still_started st (quiet b)
quiet (elses {st = st} may b) = go st.blocks (quiet b) where
  go : (os : List Open) → Quiet os → Quiet (after_else_blocks os)
  go [] q = tt
  go (o ∷ os) q = q
quiet (closes {st = st} some b) = go st.blocks st.seqs (quiet b) where
  go : (os : List Open) (ss : List (List Instr)) → Quiet os → Quiet (closed_in os ss).blocks
  go [] ss q = tt
  go (o ∷ os) ss q = still_quiet os q

before_else_arm-still : (a : Arm) → is_after_else_in a ≡ false → before_else_arm a ≡ a
before_else_arm-still (First opening) e = refl
before_else_arm-still AfterElse e = absurd cc
before_else_arm-still (Second before) e = refl

before_else-still : (os : List Open) → Still os → before_else os ≡ os
before_else-still [] h = refl
before_else-still (o ∷ os) h = rw (before_else_arm-still o.arm h.0) refl

-- ---- the steps

-- what waits comes before an instruction
abbrev waits : Arm → List Item
waits (First opening) = []
waits AfterElse = Else ∷ []
waits (Second before) = []

abbrev pending : List Open → List Item
pending [] = []
pending (o ∷ os) = waits o.arm

waiting_by : (a : Arm) (ty : Option ValType) (seq : ℕ) (os : List Open) (ss : List (List Instr))
    → (after (record { blocks = record { arm = before_else_arm a; ty = ty; seq = seq } ∷ os; seqs = ss }) (waits a) ≡ record { blocks = record { arm = a; ty = ty; seq = seq } ∷ os; seqs = ss })
    × AllCome (record { blocks = record { arm = before_else_arm a; ty = ty; seq = seq } ∷ os; seqs = ss }) (waits a)
waiting_by (First opening) ty seq os ss = (refl, tt)
waiting_by AfterElse ty seq os ss = (refl, (refl, tt))
waiting_by (Second before) ty seq os ss = (refl, tt)

waiting : (os : List Open) (ss : List (List Instr))
    → (after (record { blocks = before_else os; seqs = ss }) (pending os) ≡ record { blocks = os; seqs = ss }) × AllCome (record { blocks = before_else os; seqs = ss }) (pending os)
waiting [] ss = (refl, tt)
waiting (o ∷ os) ss = waiting_by o.arm o.ty o.seq os ss

-- the items up to a state
abbrev pub items_up_to : ℕ → State → List Item
items_up_to d st = so_far (items_within d st.seqs) st.seqs st.blocks

started_by : (d : ℕ) (a : Arm) (ty : Option ValType) (seq : ℕ) (os : List Open) (ss : List (List Instr)) → Below (length ss) os
    → items_up_to d (started (record { blocks = record { arm = a; ty = ty; seq = seq } ∷ os; seqs = ss })) ≡ items_up_to d (record { blocks = record { arm = a; ty = ty; seq = seq } ∷ os; seqs = ss }) ++ waits a
started_by d (First opening) ty seq os ss b = sym (append-nil _)
started_by d (Second before) ty seq os ss b = sym (append-nil _)
started_by d AfterElse ty seq os ss b = rw (more_so_far d os ss b, more_at d ss seq, none_at d ss) (ap (λ (l : List Item). so_far (items_within d ss) ss os ++ Begin If ty ∷ l) (append-nil (items_at (items_within d ss) ss seq ++ Else ∷ [])) ∙ simp append_assoc)

items_started : (d : ℕ) (os : List Open) (ss : List (List Instr)) → Below (length ss) os
    → items_up_to d (started (record { blocks = os; seqs = ss })) ≡ items_up_to d (record { blocks = os; seqs = ss }) ++ pending os
items_started d [] ss b = sym (append-nil _)
items_started d (o ∷ os) ss b = started_by d o.arm o.ty o.seq os ss b.2

-- a state is reached by its items
abbrev pub Reached : ℕ → State → Type 0
Reached d st = Leads (items_up_to d st) (record { blocks = before_else st.blocks; seqs = st.seqs })

reached_started : (d : ℕ) (st : State) → Below (length st.seqs) st.blocks → Reached d st → Leads (items_up_to d (started st)) st
reached_started d st b h =
    let w = waiting st.blocks st.seqs in
    subst (λ (s : State). Leads (items_up_to d (started st)) s) w.0
    (leads_on (items_up_to d st) (pending st.blocks) (items_up_to d (started st)) (record { blocks = before_else st.blocks; seqs = st.seqs }) (items_started d st.blocks st.seqs b) h w.1)

still_reached : (d : ℕ) (st : State) → Still st.blocks → Leads (items_up_to d st) st → Reached d st
still_reached d st still h = subst (λ (os : List Open). Leads (items_up_to d st) (record { blocks = os; seqs = st.seqs })) (sym (before_else-still st.blocks still)) h

plain_items : (F : ℕ → List Item) (i : Instr) → IsPlain i → items_of F i ≡ Plain i ∷ []
plain_items F (instr.Block ty body) h = absurd h
plain_items F (instr.Loop ty body) h = absurd h
plain_items F (instr.If ty first second) h = absurd h
plain_items F _ h = refl

started_len : (st : State) → length st.seqs ≤ length (started st).seqs
started_len st = go (is_after_else st.blocks) refl where
  go : (b : Bool) → is_after_else st.blocks ≡ b → length st.seqs ≤ length (started st).seqs
  go false e = rw e (omega arith)
  go true e = rw e (omega (arith, longer st.seqs))

-- an instruction is placed
module _ (d : ℕ) (st : State) (b : Builds st) where
  -- of the state in which an `else` waits no longer
  ready : (current (started st).blocks < length (started st).seqs) × Fall (started st).blocks (length ((started st).seqs ++ [] ∷ []))
  ready = let o = in_order (opens {st = st} Block None b) in (o.1.0.0, o.1.1)

  beneath : Below (length (started st).seqs) (started st).blocks
  beneath = below (started st).blocks (length ((started st).seqs ++ [] ∷ [])) (length (started st).seqs) ready.1 ready.0

  before : Below (length st.seqs) st.blocks
  before = let o = in_order b in below st.blocks (length st.seqs) (length st.seqs) o.1 (current_within st.blocks (length st.seqs) o.1)

  reached_placed : (i : Instr) → IsPlain i → Reached d st → Reached d (placed st i)
  reached_placed i plain h =
      let s = started st in
      let e = put_so_far d s.blocks s.seqs i (kept_started st (in_order b) (kept b)) ready.0 (plain_names_none (λ n. Apart n s.blocks) i plain) (lower s.blocks (length (s.seqs ++ [] ∷ [])) ready.1) in
      let last = ap (λ (l : List Item). items_up_to d s ++ l) (plain_items (items_within d s.seqs) i plain) in
      still_reached d (placed st i) (still_started st (quiet b))
      (leads_on (items_up_to d s) (Plain i ∷ []) (items_up_to d (placed st i)) st (e ∙ last) (reached_started d st before h) (plain, tt))

  reached_begun : (opening : Opening) (ty : Option ValType) → Reached d st → Reached d (begun st opening ty)
  reached_begun opening ty h =
      let s = started st in
      leads_on (items_up_to d s) (Begin opening ty ∷ []) (items_up_to d (begun st opening ty)) st (begun_so_far d s.blocks s.seqs opening ty beneath) (reached_started d st before h) (tt, tt)

after_else_by : (F : ℕ → List Item) (ss : List (List Instr)) (a : Arm) (ty : Option ValType) → may_else_in a ≡ true → (begun_items F ss AfterElse ty ≡ begun_items F ss a ty) × (First If ≡ before_else_arm a)
after_else_by F ss (First Block) ty e = absurd cc
after_else_by F ss (First Loop) ty e = absurd cc
after_else_by F ss (First If) ty e = (refl, refl)
after_else_by F ss AfterElse ty e = absurd cc
after_else_by F ss (Second before) ty e = absurd cc

reached_after_else : (d : ℕ) (os : List Open) (ss : List (List Instr)) → may_else os ≡ true → Reached d (record { blocks = os; seqs = ss }) → Reached d (record { blocks = after_else_blocks os; seqs = ss })
reached_after_else d [] ss e h = h
reached_after_else d (o ∷ os) ss e h =
    let F = items_within d ss in
    let t = after_else_by F ss o.arm o.ty e in
    let to : List Item → Arm → Type 0 = λ l a. Leads (so_far F ss os ++ (l ++ items_at F ss o.seq)) (record { blocks = record { arm = a; ty = o.ty; seq = o.seq } ∷ os; seqs = ss }) in
    subst (λ (l : List Item). to l (First If)) (sym t.0) (subst (λ (a : Arm). to (begun_items F ss o.arm o.ty) a) (sym t.1) h)

whole_before_else : (a : Arm) (ty : Option ValType) (seq : ℕ) → whole (before_else_arm a) ty seq ≡ whole a ty seq
whole_before_else (First opening) ty seq = refl
whole_before_else AfterElse ty seq = refl
whole_before_else (Second first) ty seq = refl

reached_closed : (d : ℕ) (os : List Open) (ss : List (List Instr)) → Builds (record { blocks = os; seqs = ss }) → length ss ≤ d → 0 < length os → Reached d (record { blocks = os; seqs = ss }) → Reached d (closed_in os ss)
reached_closed d [] ss b le some h = absurd (omega arith)
reached_closed d (o ∷ os) ss b le some h =
    let order = in_order b in
    let w = whole o.arm o.ty o.seq in
    let F = items_within d ss in
    let inside : Kept (record { blocks = os; seqs = ss }) = λ k. of_all_named (λ n. Apart n (o ∷ os)) (λ n. Apart n os) (sequence_at ss k) (λ n p. p.1) (kept b k) in
    let one = put_so_far d os ss w inside (current_within os (length ss) order.1.1) (whole_apart o.arm o.ty os o.seq (length ss) order.1.0 order.1.1) (lower os (length ss) order.1.1) in
    let two = close_items d ss order.0 le o.arm o.ty o.seq in
    let three : items_up_to d (closed_in (o ∷ os) ss) ≡ so_far F ss (o ∷ os) ++ End ∷ [] = one ∙ (ap (λ (l : List Item). so_far F ss os ++ l) two ∙ simp append_assoc) in
    let lead = leads_on (so_far F ss (o ∷ os)) (End ∷ []) (items_up_to d (closed_in (o ∷ os) ss)) (record { blocks = before_else (o ∷ os); seqs = ss }) three h (omega arith, tt) in
    still_reached d (closed_in (o ∷ os) ss) (quiet b)
    (subst (λ (i : Instr). Leads (items_up_to d (closed_in (o ∷ os) ss)) (placed_in (record { blocks = os; seqs = ss }) i)) (whole_before_else o.arm o.ty o.seq) lead)

pub reached : (d : ℕ) {st : State} → Builds st → length st.seqs ≤ d → Reached d st
reached d begins le = (refl, tt)
reached d (places {st = st} i plain b) le =
    reached_placed d st b i plain (reached d b (omega (arith, started_len st, length-put (started st).seqs (current (started st).blocks) i)))
reached d (opens {st = st} opening ty b) le = reached_begun d st b opening ty (reached d b (omega (arith, started_len st, longer (started st).seqs)))
reached d (elses {st = st} may b) le = reached_after_else d st.blocks st.seqs may (reached d b le)
reached d (closes {st = st} some b) le = reached_closed d st.blocks st.seqs b (closed_len st.blocks st.seqs le) some (reached d b (closed_len st.blocks st.seqs le)) where
  closed_len : (os : List Open) (ss : List (List Instr)) → length (closed_in os ss).seqs ≤ d → length ss ≤ d
  closed_len [] ss l = l
  closed_len (o ∷ os) ss l = omega (arith, length-put ss (current os) (whole o.arm o.ty o.seq))

-- a body is built by its items
pub flat_leads : (ss : List (List Instr)) → IsNumbered ss → Leads (flat ss) (record { blocks = []; seqs = ss })
unfolding sequence_items
flat_leads ss b =
    let h = reached (length ss) b (omega arith) in
    subst (λ (l : List Item). Leads l (record { blocks = []; seqs = ss })) (sym (within_is ss (names_later ss b) (length ss) 0 (omega arith))) h
