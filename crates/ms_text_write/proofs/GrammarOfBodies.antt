-- What the grammar takes of bodies as they are written: a turn for each item.
use Rattle.std.proofs.Common.{◌≡◌, ◌++◌, ◌&&◌, ◌-◌, ◌<◌, ℕ, zero, suc, Bool, true, false, List, [], ◌∷◌, length, Option, Some, None, All, refl, sym, ap, subst, ◌∙◌, arith, eqb, ltb, append_assoc}
use Rattle.std.specs.Prelude.{if◌then◌else◌}
use Rattle.std.specs.List.{flat_map}
use Rattle.std.proofs.lemmas.Bool.Decides.{nat_tests}
use Rattle.std.proofs.lemmas.List.{append-nil, length-append}
use Rattle.std.proofs.lemmas.List.Elements.{All-head, All-tail, All-nil}
use Rattle.ms_bytes.specs.Runs.{Runs}
use Rattle.ms_types.specs.declared.types.ValType.{ValType}
use Rattle.ms_module.specs.declared.builder.Arm.{Arm}
use Rattle.ms_module.specs.declared.builder.Arm.TheVariants.{First, AfterElse, Second}
use Rattle.ms_module.specs.declared.builder.Open.{Open}
use Rattle.ms_module.specs.declared.builder.Opening.{Opening}
use Rattle.ms_module.specs.declared.builder.Opening.TheVariants.{Block, If, Loop}
use Rattle.ms_module.specs.declared.instr.Instr.{Instr}
use Rattle.ms_module.specs.declared.instr.Instr.TheVariants as instr
use Rattle.ms_module.specs.Building as build
use Rattle.ms_module.specs.Building.{in_second, is_after_else, may_else_in, started}
use Rattle.ms_module.specs.Instructions.{else_word, end_word, opening_rows}
use Rattle.ms_module.specs.Numbered.{IsPlain, sequence_at}
use Rattle.ms_flat.specs.Flat.{Item, Plain, Begin, Else, End, flat, items_of, items_within, sequence_items}
use Rattle.ms_flat.specs.Keywords.{instr_word, opening_word}
use Rattle.ms_flat.specs.refinement.Rebuilt.{AllMayCome, MayCome, after, after_item}
use Rattle.ms_flat.proofs.Depths.{flat_may_come}
use Rattle.ms_flat.proofs.Arriving.{flat_leads}
use Rattle.ms_text_lex.specs.declared.token.Kind.TheVariants.{Keyword}
use Rattle.ms_text_lex.specs.declared.token.Token.{Token}
use Rattle.ms_text_grammar.specs.declared.frame.Frame.{Frame}
use Rattle.ms_text_grammar.specs.declared.frame.Frame.TheVariants.{Flat}
use Rattle.ms_text_grammar.specs.declared.frame.Sign.{Sign}
use Rattle.ms_text_grammar.specs.declared.frame.Sign.TheVariants as sign
use Rattle.ms_text_grammar.specs.declared.surface.Op.{Op}
use Rattle.ms_text_grammar.specs.declared.surface.Op.TheVariants as op
use Rattle.ms_text_grammar.specs.declared.surface.TypeUse.{TypeUse}
use Rattle.ms_text_grammar.specs.declared.word.Word.TheVariants as word
use Rattle.ms_text_grammar.specs.Tokens.{begins_id, is_close, is_id, is_keyword, is_open}
use Rattle.ms_text_grammar.specs.Bodies.{body, body_goes, advance}
use Rattle.ms_text_grammar.specs.Advances as advances
use Rattle.ms_text_grammar.specs.Advances.{State, first_state, flat_block, flat_else, flat_plain, head_word, heading, instructions, marked, may_else, repeated, repeated_by, sign_of, advance_on, word_sign}
use Rattle.ms_text_write.proofs.Pieces as piece
use Rattle.ms_text_write.proofs.Pieces.{Piece, Shows, block_type_pieces, body_pieces, item_pieces, operand_pieces, right}
use Rattle.ms_text_write.proofs.Pieces.Shows.{none, more}
use Rattle.ms_text_write.proofs.Said.{body_said, ops_of, plain_of, uses_of_instr, uses_of_item, uses_of_items, use_of}
use Rattle.ms_text_write.proofs.Sayable.{SayableBody, SayableInstr}
use Rattle.ms_text_write.proofs.Gives.{Gives, both, chosen, first, first_is, gives, grouped, known, past, read_as, steps, stops, weaker}
use Rattle.ms_text_write.proofs.GrammarOfParts.{keyed, no_id, starts_id}
use Rattle.ms_text_write.proofs.GrammarOfTypes.{block_type_given, no_start}
use Rattle.ms_text_write.proofs.GrammarOfInstructions.{IsCalm, is_operand, calm_id, calm_opens, fresh_said, instruction_given, word_other}

-- ---- numbers of the items of a body are in their ranges

abbrev SayableItem : Item → Type 0
SayableItem (Plain i) = SayableInstr i
SayableItem _ = Unit {0}

abbrev AllSayable : List Item → Type 0
AllSayable [] = Unit {0}
AllSayable (x ∷ xs) = SayableItem x × AllSayable xs

together : (xs ys : List Item) → AllSayable xs → AllSayable ys → AllSayable (xs ++ ys)
together [] ys h k = k
together (x ∷ xs) ys h k = (h.0, together xs ys h.1 k)

one : (F : ℕ → List Item) → ((b : ℕ) → AllSayable (F b)) → (i : Instr) → SayableInstr i → AllSayable (items_of F i)
one F f (instr.Block ty body) h = (tt, together (F body) (End ∷ []) (f body) (tt, tt))
one F f (instr.Loop ty body) h = (tt, together (F body) (End ∷ []) (f body) (tt, tt))
one F f (instr.If ty first None) h = (tt, together (F first) (End ∷ []) (f first) (tt, tt))
one F f (instr.If ty first (Some second)) h = (tt, together (F first) (Else ∷ (F second ++ End ∷ [])) (f first) (tt, together (F second) (End ∷ []) (f second) (tt, tt)))
one F f _ h = (h, tt)

each : (F : ℕ → List Item) → ((b : ℕ) → AllSayable (F b)) → (is : List Instr) → All SayableInstr is → AllSayable (flat_map (items_of F) is)
each F f [] h = tt
each F f (i ∷ is) h = together (items_of F i) (flat_map (items_of F) is) (one F f i (All-head SayableInstr i is h)) (each F f is (All-tail SayableInstr i is h))

in_sequence : (ss : List (List Instr)) (k : ℕ) → All (λ is. All SayableInstr is) ss → All SayableInstr (sequence_at ss k)
in_sequence [] k h = All-nil SayableInstr
in_sequence (is ∷ ss) zero h = All-head (λ l. All SayableInstr l) is ss h
in_sequence (is ∷ ss) (suc k) h = in_sequence ss k (All-tail (λ l. All SayableInstr l) is ss h)

within_sayable : (d : ℕ) (ss : List (List Instr)) → All (λ is. All SayableInstr is) ss → (k : ℕ) → AllSayable (items_within d ss k)
unfolding items_within
within_sayable zero ss h k = tt
within_sayable (suc d) ss h k = each (items_within d ss) (within_sayable d ss h) (sequence_at ss k) (in_sequence ss k h)

flat_sayable : (ss : List (List Instr)) → All (λ is. All SayableInstr is) ss → AllSayable (flat ss)
unfolding sequence_items
flat_sayable ss h = within_sayable (length ss) ss h 0

-- ---- what is open

-- a frame for each block
abbrev frames_of : List Open → List Frame
frames_of [] = []
frames_of (o ∷ os) = Flat None (may_else_in o.arm) ∷ frames_of os

second_frames : (n : ℕ) (os : List Open) → is_after_else os ≡ true → (frames_of (in_second n os) ≡ frames_of os) × (length (in_second n os) ≡ length os)
second_frames n [] e = (refl, refl)
second_frames n (o ∷ os) e = (ap (λ (b : Bool). Flat None b ∷ frames_of os) (sym (go o.arm e)), refl) where
  go : (a : Arm) → build.is_after_else_in a ≡ true → may_else_in a ≡ false
  go (First opening) h = absurd cc
  go AfterElse h = refl
  go (Second before) h = refl

started_frames : (st : build.State) → (frames_of (started st).blocks ≡ frames_of st.blocks) × (length (started st).blocks ≡ length st.blocks)
started_frames st = go (is_after_else st.blocks) refl where
  go : (b : Bool) → is_after_else st.blocks ≡ b → (frames_of (started st).blocks ≡ frames_of st.blocks) × (length (started st).blocks ≡ length st.blocks)
  go false e = rw e (refl, refl)
  go true e = rw e (second_frames (length st.seqs) st.blocks e)

else_first : (o : Opening) → may_else o ≡ may_else_in (First o)
else_first If = refl
else_first Block = refl
else_first Loop = refl

-- the state of the grammar where these blocks are open
abbrev state_at : List Open → List TypeUse → List Op → State
state_at os uses ops = record { frames = frames_of os; blocks = length os; uses = uses; ops = ops }

same_state : (fs gs : List Frame) (b c : ℕ) (us vs : List TypeUse) (ops : List Op) → fs ≡ gs → b ≡ c → us ≡ vs
    → ◌≡◌ {A = State} (record { frames = fs; blocks = b; uses = us; ops = ops }) (record { frames = gs; blocks = c; uses = vs; ops = ops })
same_state fs gs b c us vs ops e f g = rw (e, f, g) refl

-- ---- what stands in front

abbrev sign_in : List Piece → Sign
sign_in [] = sign.Other
sign_in (p ∷ ps) = if is_open p.kind then sign.Left else if is_close p.kind then sign.Right else if is_keyword p.kind then word_sign p.text else sign.Other

sign_is : (source : List ℕ) (s : List Token) (P : List Piece) → Shows source s P → sign_of source s ≡ sign_in P
sign_is source [] [] none = refl
sign_is source [] (p ∷ ps) h = elim h [ ]
sign_is source (t ∷ ts) [] h = elim h [ ]
sign_is source (t ∷ ts) (p ∷ ps) (more _ _ _ _ k e h) = rw (k, e) refl

-- an item as the grammar gives it
abbrev op_of : ℕ → Item → Op
op_of uses (Plain i) = op.Plain (plain_of uses i)
op_of uses (Begin opening ty) = op.Begin opening None ty
op_of uses Else = op.Else
op_of uses End = op.End

-- an instruction as it was read, among the type uses so far
plain_kept : (uses : List TypeUse) (i : Instr) → IsPlain i → (advances.plain_of uses (fresh_said i) ≡ plain_of (length uses) i) × (advances.uses_with uses (fresh_said i) ≡ uses ++ uses_of_instr i)
plain_kept uses (instr.BrTable targets) h = (refl, sym (append-nil uses))
plain_kept uses (instr.CallIndirect x) h = (refl, refl)
plain_kept uses _ h = (refl, sym (append-nil uses))

opening_sign : (o : Opening) → (word_sign (opening_word o) ≡ sign.Heads o) × (is_operand Keyword (opening_word o) ≡ false)
unfolding opening_rows
opening_sign Block = (refl, refl)
opening_sign Loop = (refl, refl)
opening_sign If = (refl, refl)

-- no label stands behind the keyword of a block
no_label : (ty : Option ValType) (P : List Piece) → IsCalm P → starts_id (block_type_pieces ty ++ P) ≡ false
no_label None P e = calm_id P e
no_label (Some ty) P e = refl

-- what the items of a body end with, behind these type uses and instructions
abbrev Ends : List TypeUse → List Op → List Item → State → Type 0
Ends uses ops xs y = (y.uses ≡ uses ++ uses_of_items xs) × (y.ops ≡ ops ++ ops_of (length uses) xs)

ops_more : (uses : List TypeUse) (x : Item) (xs : List Item) → op_of (length uses) x ∷ ops_of (length (uses ++ uses_of_item x)) xs ≡ ops_of (length uses) (x ∷ xs)
ops_more uses (Plain (instr.CallIndirect n)) xs =
    let l = length-append uses (use_of n ∷ []) in
    let k : length (uses ++ use_of n ∷ []) ≡ suc (length uses) = omega (arith, l) in
    ap (λ (m : ℕ). op.Plain (plain_of (length uses) (instr.CallIndirect n)) ∷ ops_of m xs) k
ops_more uses (Plain i) xs = rw (append-nil uses) refl
ops_more uses (Begin opening ty) xs = rw (append-nil uses) refl
ops_more uses Else xs = rw (append-nil uses) refl
ops_more uses End xs = rw (append-nil uses) refl

ends_on : (uses : List TypeUse) (ops : List Op) (x : Item) (xs : List Item) (y : State) → Ends (uses ++ uses_of_item x) (ops ++ op_of (length uses) x ∷ []) xs y → Ends uses ops (x ∷ xs) y
ends_on uses ops x xs y r =
    let more = append_assoc uses (uses_of_item x) (uses_of_items xs) in
    let behind = append_assoc ops (op_of (length uses) x ∷ []) (ops_of (length (uses ++ uses_of_item x)) xs) in
    (r.0 ∙ more, r.1 ∙ behind ∙ ap (λ (l : List Op). ops ++ l) (ops_more uses x xs))

-- each item may stand behind an instruction, and so may the parenthesis behind a body
calm_item : (most : ℕ) (b : build.State) (x : Item) (P : List Piece) → MayCome most b x → IsCalm (item_pieces x ++ P)
unfolding item_pieces
calm_item most b (Plain i) P a = (word_other i a).1
calm_item most b (Begin o ty) P a = (opening_sign o).1
calm_item most b Else P a = refl
calm_item most b End P a = refl

calm_rest : (most : ℕ) (b : build.State) (xs : List Item) (Q : List Piece) → AllMayCome most b xs → IsCalm (flat_map item_pieces xs ++ right ∷ Q)
calm_rest most b [] Q a = refl
calm_rest most b (x ∷ xs) Q a = subst (λ (l : List Piece). IsCalm l) (sym (append_assoc (item_pieces x) (flat_map item_pieces xs) (right ∷ Q))) (calm_item most b x (flat_map item_pieces xs ++ right ∷ Q) a.0)

no_close : (x : Item) (P : List Piece) → first (λ k w. is_close k) (item_pieces x ++ P) ≡ false
unfolding item_pieces
no_close (Plain i) P = refl
no_close (Begin o ty) P = refl
no_close Else P = refl
no_close End P = refl

and_false : (a : Bool) → (a && false) ≡ false
and_false true = refl
and_false false = refl

module _ {source : List ℕ} where
  -- what is taken in a turn by what stands in front
  advance_by : (most : ℕ) (st : State) (g : Sign) (P Q : List Piece) (R : State → Type 0) → sign_in P ≡ g → Gives source (advance_on source most st st.frames g).spelled P R Q → Gives source (advance source most st).spelled P R Q
  unfolding advance
  advance_by most st g P Q R e a = chosen (sign_of source) (λ k. (advance_on source most st st.frames k).spelled) g (λ s h. sign_is source s P h ∙ e) a

  other_on : (most : ℕ) (st : State) (os : List Open) (P Q : List Piece) (R : State → Type 0) → Gives source (flat_plain source most st).spelled P R Q → Gives source (advance_on source most st (frames_of os) sign.Other).spelled P R Q
  unfolding advance_on instructions
  other_on most st [] P Q R a = a
  other_on most st (o ∷ os) P Q R a = a

  head_on : (most : ℕ) (st : State) (o : Opening) (os : List Open) (P Q : List Piece) (R : State → Type 0) → Gives source (flat_block source most st o).spelled P R Q → Gives source (advance_on source most st (frames_of os) (sign.Heads o)).spelled P R Q
  unfolding advance_on instructions
  head_on most st o [] P Q R a = a
  head_on most st o (p ∷ os) P Q R a = a

  -- ---- instructions that are no blocks

  plain_given : (most : ℕ) (b : build.State) (uses : List TypeUse) (ops : List Op) (i : Instr) (P : List Piece) → IsPlain i → SayableInstr i → IsCalm P
      → Gives source (advance source most (state_at b.blocks uses ops)).spelled (piece.keyword (instr_word i) ∷ (operand_pieces i ++ P)) (λ y. y ≡ state_at (started b).blocks (uses ++ uses_of_item (Plain i)) (ops ++ op.Plain (plain_of (length uses) i) ∷ [])) P
  unfolding flat_plain
  plain_given most b uses ops i P a h e =
      let st = state_at b.blocks uses ops in
      let at = started_frames b in
      let k = plain_kept uses i a in
      let same : ◌≡◌ {A = State} (advances.given (frames_of b.blocks) (advances.plain_of uses (fresh_said i)) (advances.with_uses (fresh_said i) st)) (state_at (started b).blocks (uses ++ uses_of_instr i) (ops ++ op.Plain (plain_of (length uses) i) ∷ [])) = rw (k.0, k.1, at.0, at.1) refl in
      advance_by most st sign.Other (piece.keyword (instr_word i) ∷ (operand_pieces i ++ P)) P _ (word_other i a).0
      (other_on most st b.blocks (piece.keyword (instr_word i) ∷ (operand_pieces i ++ P)) P _ (known (instruction_given i P a h e) (gives (λ y. y ≡ state_at (started b).blocks (uses ++ uses_of_instr i) (ops ++ op.Plain (plain_of (length uses) i) ∷ [])) same)))

  -- ---- blocks

  heading_given : (most blocks : ℕ) (o : Opening) (ty : Option ValType) (P : List Piece) → blocks < most → IsCalm P → Gives source (heading source most blocks).spelled (piece.keyword (opening_word o) ∷ (block_type_pieces ty ++ P)) (λ y. y ≡ (None, ty)) P
  unfolding heading
  heading_given most blocks o ty P lt e =
      let few : ltb blocks most ≡ true = grind (arith, nat_tests) in
      past (read_as (head_word source most blocks) (λ t. Unit {0}) (λ t k w. (t, rw (few, k) refl, tt))) (λ head. known (no_id (no_label ty P e)) (known (block_type_given ty P (no_start word.Result P (calm_opens P e))) (gives (λ y. y ≡ (None, ty)) refl)))

  begin_given : (most : ℕ) (b : build.State) (uses : List TypeUse) (ops : List Op) (o : Opening) (ty : Option ValType) (P : List Piece) → length b.blocks < most → IsCalm P
      → Gives source (advance source most (state_at b.blocks uses ops)).spelled (piece.keyword (opening_word o) ∷ (block_type_pieces ty ++ P)) (λ y. y ≡ state_at (build.begun b o ty).blocks (uses ++ []) (ops ++ op.Begin o None ty ∷ [])) P
  unfolding flat_block
  begin_given most b uses ops o ty P lt e =
      let st = state_at b.blocks uses ops in
      let at = started_frames b in
      let same : ◌≡◌ {A = State} (advances.begun (Flat None (may_else o) ∷ frames_of b.blocks) o None ty st) (state_at (build.begun b o ty).blocks (uses ++ []) (ops ++ op.Begin o None ty ∷ [])) = rw (at.0, at.1, append-nil uses, else_first o) refl in
      advance_by most st (sign.Heads o) (piece.keyword (opening_word o) ∷ (block_type_pieces ty ++ P)) P _ (opening_sign o).0
      (head_on most st o b.blocks (piece.keyword (opening_word o) ∷ (block_type_pieces ty ++ P)) P _ (known (heading_given most (length b.blocks) o ty P lt e) (gives (λ y. y ≡ state_at (build.begun b o ty).blocks (uses ++ []) (ops ++ op.Begin o None ty ∷ [])) same)))

  marked_given : (most : ℕ) (text : List ℕ) (st : State) (P : List Piece) → IsCalm P → Gives source (marked source most text None st).spelled (piece.keyword text ∷ P) (λ y. y ≡ st) P
  unfolding marked repeated repeated_by
  marked_given most text st P e =
      past (keyed text) (λ mark. past (chosen begins_id (λ b. (repeated_by source most None b).spelled) false (λ s h. first_is (λ k w. is_id k) s P h ∙ calm_id P e) (gives (λ x. Unit {0}) tt)) (λ id. gives (λ y. y ≡ st) refl))

  else_given : (most : ℕ) (os : List Open) (uses : List TypeUse) (ops : List Op) (P : List Piece) → build.may_else os ≡ true → IsCalm P
      → Gives source (advance source most (state_at os uses ops)).spelled (piece.keyword else_word ∷ P) (λ y. y ≡ state_at (build.after_else_blocks os) (uses ++ []) (ops ++ op.Else ∷ [])) P
  unfolding advance_on flat_else opening_rows
  else_given most [] uses ops P m e = absurd cc
  else_given most (o ∷ os) uses ops P m e =
      let st = state_at (o ∷ os) uses ops in
      let after = state_at (build.after_else_blocks (o ∷ os)) (uses ++ []) (ops ++ op.Else ∷ []) in
      let same : ◌≡◌ {A = State} after (advances.after_else (Flat None false ∷ frames_of os) st) = rw (append-nil uses) refl in
      let taken = subst (λ y. Gives source (flat_else source most None true (frames_of os) st).spelled (piece.keyword else_word ∷ P) (λ x. x ≡ y) P) (sym same) (marked_given most else_word (advances.after_else (Flat None false ∷ frames_of os) st) P e) in
      advance_by most st sign.Elses (piece.keyword else_word ∷ P) P _ refl
      (subst (λ (b : Bool). Gives source (flat_else source most None b (frames_of os) st).spelled (piece.keyword else_word ∷ P) (λ x. x ≡ after) P) (sym m) taken)

  end_given : (most : ℕ) (os : List Open) (ss : List (List Instr)) (uses : List TypeUse) (ops : List Op) (P : List Piece) → 0 < length os → IsCalm P
      → Gives source (advance source most (state_at os uses ops)).spelled (piece.keyword end_word ∷ P) (λ y. y ≡ state_at (build.closed_in os ss).blocks (uses ++ []) (ops ++ op.End ∷ [])) P
  unfolding advance_on opening_rows
  end_given most [] ss uses ops P few e = absurd (omega arith)
  end_given most (o ∷ os) ss uses ops P some e =
      let st = state_at (o ∷ os) uses ops in
      let after = state_at os (uses ++ []) (ops ++ op.End ∷ []) in
      let one_less : length (o ∷ os) - 1 ≡ length os = omega arith in
      let same : ◌≡◌ {A = State} after (advances.ended (frames_of os) st) = rw (append-nil uses, one_less) refl in
      advance_by most st sign.Ends (piece.keyword end_word ∷ P) P _ refl
      (subst (λ y. Gives source (marked source most end_word None (advances.ended (frames_of os) st)).spelled (piece.keyword end_word ∷ P) (λ x. x ≡ y) P) (sym same) (marked_given most end_word (advances.ended (frames_of os) st) P e))

  -- ---- items

  item_given : (most : ℕ) (b : build.State) (uses : List TypeUse) (ops : List Op) (x : Item) (P : List Piece) → MayCome most b x → SayableItem x → IsCalm P
      → Gives source (advance source most (state_at b.blocks uses ops)).spelled (item_pieces x ++ P) (λ y. y ≡ state_at (after_item b x).blocks (uses ++ uses_of_item x) (ops ++ op_of (length uses) x ∷ [])) P
  unfolding item_pieces
  item_given most b uses ops (Plain i) P a h e = plain_given most b uses ops i P a h e
  item_given most b uses ops (Begin o ty) P a h e = begin_given most b uses ops o ty P a e
  item_given most b uses ops Else P a h e = else_given most b.blocks uses ops P a e
  item_given most b uses ops End P a h e = end_given most b.blocks b.seqs uses ops P a e

  goes_on : (most : ℕ) (st : State) (x : Item) (P : List Piece) (s : List Token) → Shows source s (item_pieces x ++ P) → body_goes source most st s ≡ true
  goes_on most st x P s h = rw (first_is (λ k w. is_close k) s (item_pieces x ++ P) h, no_close x P, and_false (eqb (length st.frames) 0)) refl

  items_given : (most : ℕ) (b : build.State) (uses : List TypeUse) (ops : List Op) (xs : List Item) (Q : List Piece) → AllMayCome most b xs → AllSayable xs → (after b xs).blocks ≡ []
      → Gives source (λ s x t. Runs (body_goes source most) (advance source most) (state_at b.blocks uses ops) s x t) (flat_map item_pieces xs ++ right ∷ Q) (Ends uses ops xs) (right ∷ Q)
  items_given most b uses ops [] Q a h e =
      stops (λ st s. body_goes source most st s) (λ st. advance source most st) (Ends uses ops []) (state_at b.blocks uses ops) (λ s g. rw (e, first_is (λ k w. is_close k) s (right ∷ Q) g) refl) (sym (append-nil uses), sym (append-nil ops))
  items_given most b uses ops (x ∷ xs) Q a h e =
      let more_uses = uses ++ uses_of_item x in
      let more_ops = ops ++ op_of (length uses) x ∷ [] in
      let rest = flat_map item_pieces xs ++ right ∷ Q in
      let all = weaker (Ends more_uses more_ops xs) (Ends uses ops (x ∷ xs)) (λ y r. ends_on uses ops x xs y r) (items_given most (after_item b x) more_uses more_ops xs Q a.1 h.1 e) in
      grouped (item_pieces x) (flat_map item_pieces xs) (right ∷ Q)
      (steps (λ st s. body_goes source most st s) (λ st. advance source most st) (state_at b.blocks uses ops) (λ s g. goes_on most (state_at b.blocks uses ops) x rest s g) (item_given most b uses ops x rest a.0 h.0 (calm_rest most (after_item b x) xs Q a.1))
      (λ y k. subst (λ z. Gives source (λ s x t. Runs (body_goes source most) (advance source most) z s x t) rest (Ends uses ops (x ∷ xs)) (right ∷ Q)) (sym k) all))

  pub body_given : (most : ℕ) (ss : List (List Instr)) (Q : List Piece) → SayableBody most ss → Gives source (body source most).spelled (body_pieces ss ++ right ∷ Q) (λ y. y ≡ body_said ss) (right ∷ Q)
  unfolding body body_pieces body_said
  body_given most ss Q h =
      let xs = flat ss in
      let over : (after build.first_state xs).blocks ≡ [] = ap (λ (st : build.State). st.blocks) (flat_leads ss h.numbered).0 in
      both (items_given most build.first_state [] [] xs Q (flat_may_come most ss h.numbered h.shallow) (flat_sayable ss h.ranges) over)
      (λ y r. gives (λ z. z ≡ body_said ss) (rw (r.0, r.1) refl))

-- an instruction may stand in front of a body, and so may none
pub body_calm : (most : ℕ) (ss : List (List Instr)) (Q : List Piece) → SayableBody most ss → IsCalm (body_pieces ss ++ right ∷ Q)
unfolding body_pieces
body_calm most ss Q h = calm_rest most build.first_state (flat ss) Q (flat_may_come most ss h.numbered h.shallow)
