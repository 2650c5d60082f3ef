-- What holds of all bodies that are spelled in bytes: they are numbered, no more blocks are in one another than may be, and
-- each operand is in its range.
use Rattle.std.proofs.Common.{◌≡◌, ℕ, zero, suc, ◌<◌, ◌≤◌, ◌||◌, Bool, true, false, inl, inr, List, [], ◌∷◌, ◌++◌, length, refl, subst, arith, ℤ}
use Rattle.std.specs.Prelude.{All, Option, Some}
use Rattle.std.proofs.Math.Dec.{ltb}
use Rattle.std.proofs.lemmas.Bool.{leb-true, ltb-false, ltb-true}
use Rattle.std.proofs.lemmas.List.{nil_from_length}
use Rattle.std.proofs.lemmas.List.Elements.{All-cons, All-head, All-nil, All-push, All-rest, All-tail}
use Rattle.ms_bytes.specs.Codes.{Coded}
use Rattle.ms_bytes.specs.Do.{◌>>=◌}
use Rattle.ms_bytes.specs.Parts.{pure}
use Rattle.ms_bytes.specs.RunLaws.{run_last}
use Rattle.ms_bytes.specs.Choice.{followed, no_other, paired, table}
use Rattle.ms_handle.specs.declared.handle.Kind.{Kind}
use Rattle.ms_types.specs.declared.types.ValType.{ValType}
use Rattle.ms_module.specs.declared.access.LoadOp.{LoadOp}
use Rattle.ms_module.specs.declared.access.StoreOp.{StoreOp}
use Rattle.ms_module.specs.declared.access.MemArg.{MemArg}
use Rattle.ms_module.specs.declared.access.Linear.TheVariants as linear
use Rattle.ms_module.specs.declared.access.Segment.TheVariants as segment
use Rattle.ms_module.specs.declared.br_table.Targets.{Targets}
use Rattle.ms_module.specs.declared.builder.Arm.{Arm}
use Rattle.ms_module.specs.declared.builder.Arm.TheVariants.{First, Second, AfterElse}
use Rattle.ms_module.specs.declared.builder.Open.{Open}
use Rattle.ms_module.specs.declared.builder.Opening.{Opening}
use Rattle.ms_module.specs.declared.builder.Opening.TheVariants.{Block, If, Loop}
use Rattle.ms_module.specs.declared.instr.Instr.{Instr}
use Rattle.ms_module.specs.declared.instr.Instr.TheVariants as instr
use Rattle.ms_module.specs.Building.{Builds, State, begins, begun, closed, closed_in, closes, current, first_state, is_after_else, may_else, opens, placed, places, put, started, after_else, elses, whole}
use Rattle.ms_module.specs.Instructions.{Bare, Form, Func, Global, Int32, Int64, KindOf, Label, Labels, Local, Memory, Row, Scale, Type_, by_code, end_code, is_float, load_rows, numeric_rows, opening_rows, operand_rows, prefix, segment_load_rows, segment_rows, segment_store_rows, store_rows, value_rows}
use Rattle.ms_module.specs.Numbered.{IsPlain}
use Rattle.ms_bin_grammar.specs.declared.fault.ReadFault.{ReadFault}
use Rattle.ms_bin_grammar.specs.declared.fault.ReadFault.TheVariants.{Malformed}
use Rattle.ms_bin_grammar.specs.Faults.{malformed, wrong}
use Rattle.ms_bin_grammar.specs.Numbers.{number}
use Rattle.ms_bin_grammar.specs.Types.{block_type, block_types, no_type, val_type, val_types}
use Rattle.ms_bin_grammar.specs.Code.{br_table, cases, form, kind, load, mem_arg, operations, plain, segment_accesses, segments, store}
use Rattle.ms_bin_grammar.specs.Body.{block_rows, body, goes_on, opens as opens_case, advance, advance_codes}
use Rattle.ms_text_write.proofs.Sayable.{Narrow, SayableBody, SayableInstr, Signed}
use Rattle.ms_text_write.proofs.BinaryParts.{AllCoded, AllSpelled, CaseHolds, RowsHold, among_holds, coded_holds, ends, marks_hold, number_holds, pair_holds, runs_hold, signed_holds, table_holds, vec_holds}
use Rattle.ms_text_write.proofs.Levels.{HasLevels, begun_levels, closed_levels, first_levels, levels_nest, placed_levels, after_else_levels}

left_false : (a b : Bool) → (a || b) ≡ false → a ≡ false
left_false true b e = absurd cc
left_false false b e = cc

-- ---- types

-- no fact
abbrev pub Any : {A : Type 0} → A → Type 0
Any x = Unit {0}

pub val_type_holds : AllSpelled val_type (λ (ty : ValType). Any ty)
unfolding val_type val_types
val_type_holds s x t bs h =
    let P : ValType → Type 0 = λ ty. Any ty in
    let others : AllCoded no_type P = λ code s' x' t' bs' h'. absurd h' in
    coded_holds P malformed val_types (table_holds P (by_code value_rows) (λ ty. pure ty) no_type (λ ty s' x' t' bs' h'. ends P h' tt bs') others) s x t bs h

block_types_hold : AllCoded block_types (λ (ty : Option ValType). Any ty)
unfolding block_types
block_types_hold code s x t bs (inl h) = ends (λ (ty : Option ValType). Any ty) h.1 tt bs
block_types_hold code s x t bs (inr h) =
    let P : Option ValType → Type 0 = λ ty. Any ty in
    let others : AllCoded no_type P = λ code s' x' t' bs' h'. absurd h' in
    table_holds P (by_code value_rows) (λ ty. pure (Some ty)) no_type (λ ty s' x' t' bs' h'. ends P h' tt bs') others code s x t bs h.1

block_type_holds : AllSpelled block_type (λ (ty : Option ValType). Any ty)
unfolding block_type
block_type_holds s x t bs h = coded_holds (λ (ty : Option ValType). Any ty) malformed block_types block_types_hold s x t bs h

-- ---- operands

record HasTargets (targets : Targets) : Type 0 where
  labels : All Narrow targets.labels
  default : Narrow targets.default

br_table_holds : AllSpelled br_table (λ targets. HasTargets targets)
unfolding br_table
br_table_holds s x t bs h =
    let labels = vec_holds number Narrow number_holds s h.0 h.1 bs h.2 in
    let default = number_holds h.1 h.3.0 h.3.1 labels.1 h.3.2 in
    ends (λ targets. HasTargets targets) h.3.3 (record { labels = labels.0; default = default.0 }) default.1

kind_holds : AllSpelled kind (λ (k : Kind). Any k)
unfolding kind
kind_holds s x t bs h =
    let P : Kind → Type 0 = λ k. Any k in
    let bytes = All-rest (λ b. b < 256) h.0 h.1 s h.2 bs in
    elim h.3 [
      | inl k ↦ ends P k.1 tt bytes
      | inr k ↦ elim k.1 [ inl k ↦ ends P k.1 tt bytes | inr k ↦ absurd k.1 ]
    ]

record HasArg (arg : MemArg) : Type 0 where
  align : arg.align ≤ 31
  offset : Narrow arg.offset

mem_arg_holds : AllSpelled mem_arg (λ arg. HasArg arg)
unfolding mem_arg
mem_arg_holds s x t bs h =
    let align = number_holds s h.0 h.1 bs h.2.0 in
    let offset = number_holds h.1 h.3.0 h.3.1 align.1 h.3.2 in
    ends (λ arg. HasArg arg) h.3.3 (record { align = leb-true h.0 31 h.2.1; offset = offset.0 }) offset.1

-- ---- instructions that are no blocks

record IsSayable (i : Instr) : Type 0 where
  plain : IsPlain i
  ranges : SayableInstr i

is_sayable : (i : Instr) → IsPlain i → SayableInstr i → IsSayable i
is_sayable i p r = record { plain = p; ranges = r }

-- what an instruction owes, by what stands behind its opcode
abbrev Owes : Form → Type 0
Owes (Bare i) = IsSayable i
Owes (Label f) = (n : ℕ) → Narrow n → IsSayable (f n)
Owes (Func f) = (n : ℕ) → Narrow n → IsSayable (f n)
Owes (Type_ f) = (n : ℕ) → Narrow n → IsSayable (f n)
Owes (Local f) = (n : ℕ) → Narrow n → IsSayable (f n)
Owes (Global f) = (n : ℕ) → Narrow n → IsSayable (f n)
Owes (Labels f) = (targets : Targets) → HasTargets targets → IsSayable (f targets)
Owes (Memory i) = IsSayable i
Owes (Int32 f) = (n : ℤ) → Signed 32 n → IsSayable (f n)
Owes (Int64 f) = (n : ℤ) → Signed 64 n → IsSayable (f n)
Owes (KindOf f) = (k : Kind) → IsSayable (f k)
Owes (Scale f) = (n : ℕ) → Narrow n → IsSayable (f n)

abbrev So : Instr → Type 0
So i = IsSayable i

indexed_holds : (f : ℕ → Instr) → ((n : ℕ) → Narrow n → IsSayable (f n)) → AllSpelled (number >>= λ n. pure (f n)) So
indexed_holds f o s x t bs h = let n = number_holds s h.0 h.1 bs h.2 in ends So h.3 (o h.0 n.0) n.1

form_holds : (f : Form) → Owes f → AllSpelled (form f) So
form_holds (Bare i) o s x t bs h = ends So h o bs
form_holds (Label f) o s x t bs h = indexed_holds f o s x t bs h
form_holds (Func f) o s x t bs h = indexed_holds f o s x t bs h
form_holds (Type_ f) o s x t bs h =
    let n = number_holds s h.0 h.1 bs h.2 in
    ends So h.3.3 (o h.0 n.0) (marks_hold (0 ∷ []) h.1 h.3.1 n.1 h.3.2)
form_holds (Local f) o s x t bs h = indexed_holds f o s x t bs h
form_holds (Global f) o s x t bs h = indexed_holds f o s x t bs h
form_holds (Labels f) o s x t bs h = let n = br_table_holds s h.0 h.1 bs h.2 in ends So h.3 (o h.0 n.0) n.1
form_holds (Memory i) o s x t bs h = ends So h.3 o (marks_hold (0 ∷ []) s h.1 bs h.2)
form_holds (Int32 f) o s x t bs h = let n = signed_holds 32 s h.0 h.1 bs h.2 in ends So h.3 (o h.0 n.0) n.1
form_holds (Int64 f) o s x t bs h = let n = signed_holds 64 s h.0 h.1 bs h.2 in ends So h.3 (o h.0 n.0) n.1
form_holds (KindOf f) o s x t bs h = let k = kind_holds s h.0 h.1 bs h.2 in ends So h.3 (o h.0) k.1
form_holds (Scale f) o s x t bs h = indexed_holds f o s x t bs h

abbrev AllOwe : List (Row Form) → Type 0
AllOwe [] = Unit {0}
AllOwe (r ∷ rs) = Owes r.item × AllOwe rs

cases_hold : (rows : List (Row Form)) → AllOwe rows → RowsHold So (cases rows)
cases_hold [] o = tt
cases_hold (r ∷ rs) o = (λ s x t bs h. form_holds r.item o.0 s x t bs h, cases_hold rs o.1)

-- a row
infixr 5 ◌&◌
◌&◌ : {X Y : Type 0} → X → Y → X × Y
x & y = (x, y)

operands_owe : AllOwe operand_rows
unfolding operand_rows
operands_owe =
    is_sayable instr.Unreachable tt tt
    & is_sayable instr.Nop tt tt
    & (λ n h. is_sayable (instr.Br n) tt h)
    & (λ n h. is_sayable (instr.BrIf n) tt h)
    & (λ n h. is_sayable (instr.BrTable n) tt (h.labels, h.default))
    & is_sayable instr.Return tt tt
    & (λ n h. is_sayable (instr.Call n) tt h)
    & (λ n h. is_sayable (instr.CallIndirect n) tt h)
    & is_sayable instr.Drop tt tt
    & is_sayable instr.Select tt tt
    & (λ n h. is_sayable (instr.LocalGet n) tt h)
    & (λ n h. is_sayable (instr.LocalSet n) tt h)
    & (λ n h. is_sayable (instr.LocalTee n) tt h)
    & (λ n h. is_sayable (instr.GlobalGet n) tt h)
    & (λ n h. is_sayable (instr.GlobalSet n) tt h)
    & is_sayable (instr.Linear linear.Size) tt tt
    & is_sayable (instr.Linear linear.Grow) tt tt
    & (λ n h. is_sayable (instr.I32Const n) tt h)
    & (λ n h. is_sayable (instr.I64Const n) tt h)
    & tt

segments_owe : AllOwe segment_rows
unfolding segment_rows
segments_owe =
    is_sayable (instr.Segment segment.Null) tt tt
    & (λ k. is_sayable (instr.Segment (segment.New k)) tt tt)
    & (λ k. is_sayable (instr.Segment (segment.Free k)) tt tt)
    & (λ n h. is_sayable (instr.Segment (segment.Add n)) tt h)
    & is_sayable (instr.Segment segment.Slice) tt tt
    & is_sayable (instr.Segment segment.Eq) tt tt
    & is_sayable (instr.Segment segment.IsNull) tt tt
    & is_sayable (instr.Segment segment.Diff) tt tt
    & is_sayable (instr.Segment segment.LoadHandle) tt tt
    & is_sayable (instr.Segment segment.StoreHandle) tt tt
    & is_sayable (instr.Segment segment.Seal) tt tt
    & tt

load_holds : (op : LoadOp) → AllSpelled (load op) So
unfolding load
load_holds op s x t bs h =
    let arg = mem_arg_holds s h.0 h.1 bs h.2 in
    ends So h.3 (is_sayable (instr.Linear (linear.Load op h.0)) arg.0.align arg.0.offset) arg.1

store_holds : (op : StoreOp) → AllSpelled (store op) So
unfolding store
store_holds op s x t bs h =
    let arg = mem_arg_holds s h.0 h.1 bs h.2 in
    ends So h.3 (is_sayable (instr.Linear (linear.Store op h.0)) arg.0.align arg.0.offset) arg.1

accesses_hold : AllCoded segment_accesses So
unfolding segment_accesses
accesses_hold =
    let last : AllCoded (no_other (λ at code. Malformed at)) So = λ code s x t bs h. absurd h in
    let stores = table_holds So (by_code segment_store_rows) (λ op. pure (instr.Segment (segment.Store op))) (no_other (λ at code. Malformed at))
    (λ op s x t bs h. ends So h (is_sayable (instr.Segment (segment.Store op)) tt tt) bs) last in
    table_holds So (by_code segment_load_rows) (λ op. pure (instr.Segment (segment.Load op)))
    (table (by_code segment_store_rows) (λ op. pure (instr.Segment (segment.Store op))) (no_other (λ at code. Malformed at)))
    (λ op s x t bs h. ends So h (is_sayable (instr.Segment (segment.Load op)) tt tt) bs) stores

segments_hold : AllCoded segments So
unfolding segments
segments_hold = among_holds So (cases segment_rows) segment_accesses (cases_hold segment_rows segments_owe) accesses_hold

-- no opcode
abbrev none : Coded ReadFault Instr
none = no_other (λ at code. wrong (is_float code) at)

abbrev prefixed : Coded ReadFault Instr
prefixed = paired Malformed prefix segments none

none_hold : AllCoded none So
none_hold code s x t bs h = absurd h

operations_hold : AllCoded operations So
unfolding operations
operations_hold =
    let pairs : AllCoded prefixed So = pair_holds So prefix segments none segments_hold none_hold in
    let stores = table_holds So (by_code store_rows) store prefixed store_holds pairs in
    let loads = table_holds So (by_code load_rows) load (table (by_code store_rows) store prefixed) load_holds stores in
    table_holds So (by_code numeric_rows) (λ i. pure (instr.Numeric i)) (table (by_code load_rows) load (table (by_code store_rows) store prefixed))
    (λ i s x t bs h. ends So h (is_sayable (instr.Numeric i) tt tt) bs) loads

plain_holds : AllCoded plain So
unfolding plain
plain_holds = among_holds So (cases operand_rows) operations (cases_hold operand_rows operands_owe) operations_hold

-- ---- a body while it is built

abbrev AllSay : List (List Instr) → Type 0
AllSay ss = All (λ is. All SayableInstr is) ss

record IsSo (most : ℕ) (st : State) : Type 0 where
  builds : Builds st
  levels : HasLevels most st
  ranges : AllSay st.seqs

put_say : (ss : List (List Instr)) (k : ℕ) (i : Instr) → SayableInstr i → AllSay ss → AllSay (put ss k i)
put_say [] k i f h = h
put_say (is ∷ ss) zero i f h =
    let P : List Instr → Type 0 = λ is. All SayableInstr is in
    All-cons P (is ++ i ∷ []) ss (All-push SayableInstr is i (All-head P is ss h) f) (All-tail P is ss h)
put_say (is ∷ ss) (suc k) i f h =
    let P : List Instr → Type 0 = λ is. All SayableInstr is in
    All-cons P is (put ss k i) (All-head P is ss h) (put_say ss k i f (All-tail P is ss h))

more_say : (ss : List (List Instr)) → AllSay ss → AllSay (ss ++ [] ∷ [])
more_say ss h = All-push (λ is. All SayableInstr is) ss [] h (All-nil SayableInstr)

whole_says : (a : Arm) (ty : Option ValType) (n : ℕ) → SayableInstr (whole a ty n)
whole_says (First Block) ty n = tt
whole_says (First Loop) ty n = tt
whole_says (First If) ty n = tt
whole_says AfterElse ty n = tt
whole_says (Second before) ty n = tt

started_say : (st : State) → AllSay st.seqs → AllSay (started st).seqs
started_say st h = go (is_after_else st.blocks) refl where
  go : (b : Bool) → is_after_else st.blocks ≡ b → AllSay (started st).seqs
  go false e = rw e h
  go true e = rw e (more_say st.seqs h)

closed_say : (os : List Open) (ss : List (List Instr)) → AllSay ss → AllSay (closed_in os ss).seqs
closed_say [] ss h = h
closed_say (o ∷ os) ss h = put_say ss (current os) (whole o.arm o.ty o.seq) (whole_says o.arm o.ty o.seq) h

module _ (most : ℕ) where
  first_so : IsSo most first_state
  first_so = record { builds = begins; levels = first_levels most; ranges = All-cons (λ is. All SayableInstr is) [] [] (All-nil SayableInstr) (All-nil (λ is. All SayableInstr is)) }

  placed_so : (st : State) (i : Instr) → IsSayable i → IsSo most st → IsSo most (placed st i)
  placed_so st i f h = record {
    builds = places i f.plain h.builds;
    levels = placed_levels most st i f.plain h.levels;
    ranges = put_say (started st).seqs (current (started st).blocks) i f.ranges (started_say st h.ranges);
  }

  begun_so : (st : State) (opening : Opening) (ty : Option ValType) → length st.blocks < most → IsSo most st → IsSo most (begun st opening ty)
  begun_so st opening ty room h = record {
    builds = opens opening ty h.builds;
    levels = begun_levels most st opening ty room h.levels;
    ranges = more_say (started st).seqs (started_say st h.ranges);
  }

  after_else_so : (st : State) → may_else st.blocks ≡ true → IsSo most st → IsSo most (after_else st)
  after_else_so st may h = record { builds = elses may h.builds; levels = after_else_levels most st h.levels; ranges = h.ranges }

  closed_so : (st : State) → 0 < length st.blocks → IsSo most st → IsSo most (closed st)
  closed_so st some h = record { builds = closes some h.builds; levels = closed_levels most st h.levels; ranges = closed_say st.blocks st.seqs h.ranges }

  abbrev So_far : State → Type 0
  So_far st = IsSo most st

  opens_hold : (st : State) → IsSo most st → (opening : Opening) → CaseHolds So_far (opens_case most st opening)
  opens_hold st so opening s x t bs h =
      let ty = block_type_holds s h.1.0 h.1.1 bs h.1.2 in
      ends So_far h.1.3 (begun_so st opening h.1.0 (ltb-true (length st.blocks) most h.0) so) ty.1

  rows_hold : (st : State) → IsSo most st → RowsHold So_far (block_rows most st)
  unfolding block_rows opening_rows
  rows_hold st so =
      opens_hold st so Block & opens_hold st so Loop & opens_hold st so If
      & (λ s x t bs h. ends So_far h.1 (after_else_so st h.0 so) bs)
      & (λ s x t bs h. ends So_far h.1 (closed_so st (ltb-true 0 (length st.blocks) h.0) so) bs)
      & tt

  advance_holds : (st : State) → IsSo most st → AllSpelled (advance most st) So_far
  unfolding advance advance_codes
  advance_holds st so s x t bs h =
      let others : AllCoded (followed plain (λ i. pure (placed st i))) So_far = λ code s' x' t' bs' h'. let i = plain_holds code s' h'.0 h'.1 bs' h'.2 in ends So_far h'.3 (placed_so st h'.0 i.0 so) i.1 in
      coded_holds So_far malformed (advance_codes most st) (among_holds So_far (block_rows most st) (followed plain (λ i. pure (placed st i))) (rows_hold st so) others) s x t bs h

  -- where no block is open
  body_is_sayable : (st : State) → IsSo most st → st.blocks ≡ [] → SayableBody most st.seqs
  body_is_sayable st so none_open = record {
    numbered = subst (λ (os : List Open). Builds (record { blocks = os; seqs = st.seqs })) none_open so.builds;
    shallow = levels_nest most st.seqs (subst (λ (os : List Open). HasLevels most (record { blocks = os; seqs = st.seqs })) none_open so.levels);
    ranges = so.ranges;
  }

  pub body_holds : AllSpelled (body most) (λ ss. SayableBody most ss)
  unfolding body
  body_holds s x t bs h =
      let built = runs_hold (advance most) So_far advance_holds goes_on h.2 first_so bs in
      let last : goes_on h.0 h.1 ≡ false = run_last goes_on (advance most) h.2 in
      let few = ltb-false 0 (length h.0.blocks) (left_false (ltb 0 (length h.0.blocks)) _ last) in
      let none_open : h.0.blocks ≡ [] = nil_from_length h.0.blocks (omega arith) in
      ends (λ ss. SayableBody most ss) h.3.3 (body_is_sayable h.0 built.0 none_open) (marks_hold (end_code ∷ []) h.1 h.3.1 built.1 h.3.2)
