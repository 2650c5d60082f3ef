-- Instructions that are no blocks are spelled as they are written.
use Rattle.std.proofs.Common.{◌≡◌, ℕ, ◌-◌, ◌<◌, ◌≤◌, ◌^◌, Bool, true, false, eqb, cond, List, [], ◌∷◌, ◌++◌, length, inl, inr, refl, sym, subst, arith}
use Rattle.std.specs.Prelude.{◌≢◌, Some, None, ℤ, codes}
use Rattle.std.proofs.lemmas.Bool.{eqb-true, eq-eqb, le-leb}
use Rattle.ms_bytes.specs.Codes.{AmongSpelled, Coded}
use Rattle.ms_handle.specs.declared.handle.Kind.{Kind}
use Rattle.ms_handle.specs.declared.handle.Kind.TheVariants.{Heap, Frame}
use Rattle.ms_leb.specs.Leb128.{IsWithin}
use Rattle.ms_leb.specs.Shortest.{shortest_signed}
use Rattle.ms_leb.proofs.Spelling.{signed_spelled}
use Rattle.ms_module.specs.declared.access.MemArg.{MemArg}
use Rattle.ms_module.specs.declared.access.LoadOp.{LoadOp}
use Rattle.ms_module.specs.declared.access.StoreOp.{StoreOp}
use Rattle.ms_module.specs.declared.access.Linear.TheVariants as linear
use Rattle.ms_module.specs.declared.access.Segment.{Segment}
use Rattle.ms_module.specs.declared.access.Segment.TheVariants as segment
use Rattle.ms_module.specs.declared.numeric.Numeric.{Numeric}
use Rattle.ms_module.specs.declared.br_table.Targets.{Targets}
use Rattle.ms_module.specs.declared.instr.Instr.{Instr}
use Rattle.ms_module.specs.declared.instr.Instr.TheVariants as instr
use Rattle.ms_module.specs.Numbered.{IsPlain}
use Rattle.ms_module.specs.Instructions.{Bare, Form, Func, Global, Int32, Int64, KindOf, Label, Labels, Local, Memory, Row, Scale, Type_, by_code, load_rows, numeric_rows, operand_rows, prefix, segment_load_rows, segment_rows, segment_store_rows, store_rows}
use Rattle.ms_flat.specs.Keywords.{code_of, load_word, store_word}
use Rattle.ms_bin_grammar.specs.declared.fault.ReadFault.{ReadFault}
use Rattle.ms_bin_grammar.specs.Numbers.{number, signed, vec}
use Rattle.ms_bin_grammar.specs.Code.{br_table, cases, form, kind, load, mem_arg, operations, plain, segment_accesses, segments, store}
use Rattle.ms_bin_write.specs.Parts.{number_bytes, vec_bytes}
use Rattle.ms_bin_write.specs.Instrs.{kind_code, linear_code, mem_arg_bytes, numeric_code, opcode, operands, segment_code, segment_operands}
use Rattle.ms_flat.specs.refinement.Ranges.{AllFit, InstrFits, NumberFits}
use Rattle.ms_bin_write.proofs.Counts.{number_some}
use Rattle.ms_bin_write.proofs.Found.{is_block_code, load_found, numeric_found, segment_load_found, segment_store_found, store_found}
use Rattle.ms_bin_write.proofs.Spelled.{Law, before, front_few, number_before, number_law, vec_law}

-- ---- a row of the table

apart : (b c : ℕ) → eqb b c ≡ false → b ≢ c
apart b c e is = absurd (let f : eqb b c ≡ true = eq-eqb b c is in cc)

-- by a row's own code, what stands behind it
among_form : (rows : List (Row Form)) (others : Coded ReadFault Instr) (code : ℕ) (fm : Form) → by_code rows code ≡ Some fm → (s : List ℕ) (x : Instr) (t : List ℕ) → (form fm).spelled s x t
    → AmongSpelled (cases rows) others code s x t
among_form [] others code fm e s x t h = absurd cc
among_form (r ∷ rows) others code fm e s x t h = go (eqb code r.code) refl e (among_form rows others code fm) where
  go : (b : Bool) → eqb code r.code ≡ b → cond b (Some r.item) (by_code rows code) ≡ Some fm
      → (by_code rows code ≡ Some fm → (s' : List ℕ) (x' : Instr) (t' : List ℕ) → (form fm).spelled s' x' t' → AmongSpelled (cases rows) others code s' x' t')
      → AmongSpelled (cases (r ∷ rows)) others code s x t
  go true q e' on = let same : r.item ≡ fm = cc in inl (eqb-true code r.code q, subst (λ (f : Form). (form f).spelled s x t) (sym same) h)
  go false q e' on = inr (apart code r.code q, on e' s x t h)

-- by another code, what comes after the rows
among_others : (rows : List (Row Form)) (others : Coded ReadFault Instr) (code : ℕ) → by_code rows code ≡ None → (s : List ℕ) (x : Instr) (t : List ℕ) → others.spelled code s x t
    → AmongSpelled (cases rows) others code s x t
among_others [] others code e s x t h = h
among_others (r ∷ rows) others code e s x t h = go (eqb code r.code) refl e (among_others rows others code) where
  go : (b : Bool) → eqb code r.code ≡ b → cond b (Some r.item) (by_code rows code) ≡ None
      → (by_code rows code ≡ None → (s' : List ℕ) (x' : Instr) (t' : List ℕ) → others.spelled code s' x' t' → AmongSpelled (cases rows) others code s' x' t')
      → AmongSpelled (cases (r ∷ rows)) others code s x t
  go true q e' on = absurd cc
  go false q e' on = inr (apart code r.code q, on e' s x t h)

-- ---- operands

signed_law : (bits : ℕ) (n : ℤ) (t : List ℕ) → IsWithin (bits - 1) n → (signed bits).spelled (shortest_signed n ++ t) n t
signed_law bits n t h = (shortest_signed n, signed_spelled bits n h, refl)

labels_law : Law (vec number) (vec_bytes number_bytes) (AllFit NumberFits)
labels_law = vec_law number number_bytes NumberFits (λ n lt small t. number_law n t lt) number_some

targets_law : (x : Targets) → AllFit NumberFits x.labels × (x.default < 2 ^ 32) → length (vec_bytes number_bytes x.labels ++ number_bytes x.default) < 2 ^ 32
    → (t : List ℕ) → br_table.spelled ((vec_bytes number_bytes x.labels ++ number_bytes x.default) ++ t) x t
unfolding br_table
targets_law x h small t = (
  x.labels,
  number_bytes x.default ++ t,
  before (vec number) (vec_bytes number_bytes) (AllFit NumberFits) labels_law x.labels (number_bytes x.default) t h.0 (front_few (vec_bytes number_bytes x.labels) (number_bytes x.default) small),
  (x.default, t, number_law x.default t h.1, (refl, refl)),
)

kind_law : (k : Kind) (t : List ℕ) → kind.spelled (kind_code k ∷ t) k t
unfolding kind
kind_law Heap t = (0x00, t, refl, inl (refl, (refl, refl)))
kind_law Frame t = (0x01, t, refl, inr ((λ e. omega arith), inl (refl, (refl, refl))))

mem_arg_law : (arg : MemArg) → arg.align ≤ 31 → arg.offset < 2 ^ 32 → (t : List ℕ) → mem_arg.spelled (mem_arg_bytes arg ++ t) arg t
unfolding mem_arg
mem_arg_law arg a b t = (
  arg.align,
  number_bytes arg.offset ++ t,
  (number_before arg.align (number_bytes arg.offset) t (omega arith), le-leb arg.align 31 a),
  (arg.offset, t, number_law arg.offset t b, (refl, refl)),
)

-- ---- operations: what a code names tells what stands behind it

-- an instruction is spelled by its opcode and what stands behind it
abbrev pub PlainLaw : Instr → Type 0
PlainLaw i = (is_block_code (opcode i) ≡ false) × ((t : List ℕ) → plain.spelled (opcode i) (operands i ++ t) i t)

numeric_law : (i : Numeric) → PlainLaw (instr.Numeric i)
unfolding opcode plain operations
numeric_law i =
    let f = numeric_found i in
    (f.0, λ t. among_others operand_rows operations (numeric_code i) f.1 t (instr.Numeric i) t (rw f.2 (refl, refl)))

load_law : (op : LoadOp) (arg : MemArg) → arg.align ≤ 31 → arg.offset < 2 ^ 32 → PlainLaw (instr.Linear (linear.Load op arg))
unfolding opcode linear_code plain operations load
load_law op arg a b =
    let c = code_of load_rows (load_word (codes "load") op) in
    let i = instr.Linear (linear.Load op arg) in
    let f = load_found op in (
      f.0,
      λ t. let s = mem_arg_bytes arg ++ t in
          among_others operand_rows operations c f.1 s i t
          (rw (f.2, f.3) (arg, t, mem_arg_law arg a b t, (refl, refl))),
    )

store_law : (op : StoreOp) (arg : MemArg) → arg.align ≤ 31 → arg.offset < 2 ^ 32 → PlainLaw (instr.Linear (linear.Store op arg))
unfolding opcode linear_code plain operations store
store_law op arg a b =
    let c = code_of store_rows (store_word (codes "store") op) in
    let i = instr.Linear (linear.Store op arg) in
    let f = store_found op in (
      f.0,
      λ t. let s = mem_arg_bytes arg ++ t in
          among_others operand_rows operations c f.1 s i t
          (rw (f.2, f.3, f.4) (arg, t, mem_arg_law arg a b t, (refl, refl))),
    )

-- ---- handles and segments

abbrev SecondLaw : Segment → Type 0
SecondLaw i = (t : List ℕ) → segments.spelled (segment_code i) (segment_operands i ++ t) (instr.Segment i) t

segment_law : (i : Segment) → SecondLaw i → PlainLaw (instr.Segment i)
unfolding opcode plain operations numeric_rows load_rows store_rows operand_rows
segment_law i h = (
  refl,
  λ t.
      let s = segment_code i ∷ (segment_operands i ++ t) in
      among_others operand_rows operations prefix refl s (instr.Segment i) t (inl (refl, (segment_code i, segment_operands i ++ t, refl, h t))),
)

segment_form : (code : ℕ) (fm : Form) (s : List ℕ) (x : Instr) (t : List ℕ) → by_code segment_rows code ≡ Some fm → (form fm).spelled s x t → segments.spelled code s x t
unfolding segments
segment_form code fm s x t e h = among_form segment_rows segment_accesses code fm e s x t h

segment_load_law : (op : LoadOp) → SecondLaw (segment.Load op)
unfolding segment_code segments segment_accesses
segment_load_law op t =
    let c = code_of segment_load_rows (load_word (codes "segload") op) in
    let i = instr.Segment (segment.Load op) in
    let f = segment_load_found op in
    among_others segment_rows segment_accesses c f.0 t i t (rw f.1 (refl, refl))

segment_store_law : (op : StoreOp) → SecondLaw (segment.Store op)
unfolding segment_code segments segment_accesses
segment_store_law op t =
    let c = code_of segment_store_rows (store_word (codes "segstore") op) in
    let i = instr.Segment (segment.Store op) in
    let f = segment_store_found op in
    among_others segment_rows segment_accesses c f.0 t i t (rw (f.1, f.2) (refl, refl))

second_law : (i : Segment) → InstrFits (instr.Segment i) → SecondLaw i
unfolding segment_code segment_rows
second_law segment.Null h t = segment_form 0x00 (Bare (instr.Segment segment.Null)) t (instr.Segment segment.Null) t refl (refl, refl)
second_law (segment.New k) h t = segment_form 0x01 (KindOf (λ k. instr.Segment (segment.New k))) (kind_code k ∷ t) (instr.Segment (segment.New k)) t refl (k, t, kind_law k t, (refl, refl))
second_law (segment.Free k) h t = segment_form 0x02 (KindOf (λ k. instr.Segment (segment.Free k))) (kind_code k ∷ t) (instr.Segment (segment.Free k)) t refl (k, t, kind_law k t, (refl, refl))
second_law (segment.Add n) h t = segment_form 0x03 (Scale (λ n. instr.Segment (segment.Add n))) (number_bytes n ++ t) (instr.Segment (segment.Add n)) t refl (n, t, number_law n t h, (refl, refl))
second_law segment.Slice h t = segment_form 0x04 (Bare (instr.Segment segment.Slice)) t (instr.Segment segment.Slice) t refl (refl, refl)
second_law segment.Eq h t = segment_form 0x05 (Bare (instr.Segment segment.Eq)) t (instr.Segment segment.Eq) t refl (refl, refl)
second_law segment.IsNull h t = segment_form 0x06 (Bare (instr.Segment segment.IsNull)) t (instr.Segment segment.IsNull) t refl (refl, refl)
second_law segment.Diff h t = segment_form 0x07 (Bare (instr.Segment segment.Diff)) t (instr.Segment segment.Diff) t refl (refl, refl)
second_law segment.LoadHandle h t = segment_form 0x08 (Bare (instr.Segment segment.LoadHandle)) t (instr.Segment segment.LoadHandle) t refl (refl, refl)
second_law segment.StoreHandle h t = segment_form 0x09 (Bare (instr.Segment segment.StoreHandle)) t (instr.Segment segment.StoreHandle) t refl (refl, refl)
second_law (segment.Load op) h t = segment_load_law op t
second_law (segment.Store op) h t = segment_store_law op t
second_law segment.Seal h t = segment_form 0x1D (Bare (instr.Segment segment.Seal)) t (instr.Segment segment.Seal) t refl (refl, refl)

-- ---- all of them

plain_form : (code : ℕ) (fm : Form) (s : List ℕ) (x : Instr) (t : List ℕ) → by_code operand_rows code ≡ Some fm → (form fm).spelled s x t → plain.spelled code s x t
unfolding plain
plain_form code fm s x t e h = among_form operand_rows operations code fm e s x t h

pub plain_law : (i : Instr) → IsPlain i → InstrFits i → length (operands i) < 2 ^ 32 → PlainLaw i
unfolding opcode operand_rows linear_code
plain_law instr.Unreachable p h small = (refl, λ t. plain_form 0x00 (Bare instr.Unreachable) t instr.Unreachable t refl (refl, refl))
plain_law instr.Nop p h small = (refl, λ t. plain_form 0x01 (Bare instr.Nop) t instr.Nop t refl (refl, refl))
plain_law (instr.Br n) p h small = (refl, λ t. plain_form 0x0C (Label instr.Br) (number_bytes n ++ t) (instr.Br n) t refl (n, t, number_law n t h, (refl, refl)))
plain_law (instr.BrIf n) p h small = (refl, λ t. plain_form 0x0D (Label instr.BrIf) (number_bytes n ++ t) (instr.BrIf n) t refl (n, t, number_law n t h, (refl, refl)))
plain_law instr.Return p h small = (refl, λ t. plain_form 0x0F (Bare instr.Return) t instr.Return t refl (refl, refl))
plain_law (instr.Call n) p h small = (refl, λ t. plain_form 0x10 (Func instr.Call) (number_bytes n ++ t) (instr.Call n) t refl (n, t, number_law n t h, (refl, refl)))
plain_law instr.Drop p h small = (refl, λ t. plain_form 0x1A (Bare instr.Drop) t instr.Drop t refl (refl, refl))
plain_law instr.Select p h small = (refl, λ t. plain_form 0x1B (Bare instr.Select) t instr.Select t refl (refl, refl))
plain_law (instr.LocalGet n) p h small = (refl, λ t. plain_form 0x20 (Local instr.LocalGet) (number_bytes n ++ t) (instr.LocalGet n) t refl (n, t, number_law n t h, (refl, refl)))
plain_law (instr.LocalSet n) p h small = (refl, λ t. plain_form 0x21 (Local instr.LocalSet) (number_bytes n ++ t) (instr.LocalSet n) t refl (n, t, number_law n t h, (refl, refl)))
plain_law (instr.LocalTee n) p h small = (refl, λ t. plain_form 0x22 (Local instr.LocalTee) (number_bytes n ++ t) (instr.LocalTee n) t refl (n, t, number_law n t h, (refl, refl)))
plain_law (instr.GlobalGet n) p h small = (refl, λ t. plain_form 0x23 (Global instr.GlobalGet) (number_bytes n ++ t) (instr.GlobalGet n) t refl (n, t, number_law n t h, (refl, refl)))
plain_law (instr.GlobalSet n) p h small = (refl, λ t. plain_form 0x24 (Global instr.GlobalSet) (number_bytes n ++ t) (instr.GlobalSet n) t refl (n, t, number_law n t h, (refl, refl)))
plain_law (instr.BrTable x) p h small =
    (refl, λ t. plain_form 0x0E (Labels instr.BrTable) ((vec_bytes number_bytes x.labels ++ number_bytes x.default) ++ t) (instr.BrTable x) t refl (x, t, targets_law x h small t, (refl, refl)))
plain_law (instr.CallIndirect n) p h small = (
  refl,
  λ t. plain_form 0x11 (Type_ instr.CallIndirect) ((number_bytes n ++ 0x00 ∷ []) ++ t) (instr.CallIndirect n) t refl
      (n, 0x00 ∷ t, number_before n (0x00 ∷ []) t h, (tt, t, refl, (refl, refl))),
)
plain_law (instr.I32Const n) p h small = (refl, λ t. plain_form 0x41 (Int32 instr.I32Const) (shortest_signed n ++ t) (instr.I32Const n) t refl (n, t, signed_law 32 n t h, (refl, refl)))
plain_law (instr.I64Const n) p h small = (refl, λ t. plain_form 0x42 (Int64 instr.I64Const) (shortest_signed n ++ t) (instr.I64Const n) t refl (n, t, signed_law 64 n t h, (refl, refl)))
plain_law (instr.Numeric i) p h small = numeric_law i
plain_law (instr.Linear (linear.Load op arg)) p h small = load_law op arg p h.1
plain_law (instr.Linear (linear.Store op arg)) p h small = store_law op arg p h.1
plain_law (instr.Linear linear.Size) p h small = (refl, λ t. plain_form 0x3F (Memory (instr.Linear linear.Size)) (0x00 ∷ t) (instr.Linear linear.Size) t refl (tt, t, refl, (refl, refl)))
plain_law (instr.Linear linear.Grow) p h small = (refl, λ t. plain_form 0x40 (Memory (instr.Linear linear.Grow)) (0x00 ∷ t) (instr.Linear linear.Grow) t refl (tt, t, refl, (refl, refl)))
plain_law (instr.Segment i) p h small = segment_law i (second_law i h)
plain_law (instr.Block ty body) p h small = absurd p
plain_law (instr.Loop ty body) p h small = absurd p
plain_law (instr.If ty first other) p h small = absurd p
