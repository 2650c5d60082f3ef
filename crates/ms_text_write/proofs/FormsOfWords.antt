-- What the keyword of an instruction stands for among all keywords, and what it isn't.
use Rattle.std.proofs.Common.{◌≡◌, refl}
use Rattle.std.specs.Prelude.{Some, codes}
use Rattle.ms_module.specs.declared.numeric.Width.TheVariants.{W32, W64}
use Rattle.ms_module.specs.declared.numeric.UnOp.TheVariants.{Clz, Ctz, Popcnt}
use Rattle.ms_module.specs.declared.numeric.BinOp.TheVariants.{Add, Sub, Mul, DivS, DivU, RemS, RemU, And, Or, Xor, Shl, ShrS, ShrU, Rotl, Rotr}
use Rattle.ms_module.specs.declared.numeric.RelOp.TheVariants.{Eq, Ne, LtS, LtU, GtS, GtU, LeS, LeU, GeS, GeU}
use Rattle.ms_module.specs.declared.numeric.Numeric.{Numeric}
use Rattle.ms_module.specs.declared.numeric.Numeric.TheVariants.{Eqz, Compare, Unary, Binary, Wrap, ExtendS, ExtendU}
use Rattle.ms_module.specs.declared.access.LoadOp.{LoadOp}
use Rattle.ms_module.specs.declared.access.LoadOp.TheVariants.{I32Load, I64Load, I32Load8S, I32Load8U, I32Load16S, I32Load16U, I64Load8S, I64Load8U, I64Load16S, I64Load16U, I64Load32S, I64Load32U}
use Rattle.ms_module.specs.declared.access.StoreOp.{StoreOp}
use Rattle.ms_module.specs.declared.access.StoreOp.TheVariants.{I32Store, I64Store, I32Store8, I32Store16, I64Store8, I64Store16, I64Store32}
use Rattle.ms_module.specs.declared.access.Linear.TheVariants as linear
use Rattle.ms_module.specs.declared.access.Segment.TheVariants as segment
use Rattle.ms_module.specs.declared.instr.Instr.{Instr}
use Rattle.ms_module.specs.declared.instr.Instr.TheVariants as instr
use Rattle.ms_module.specs.Instructions.{Bare, Func, Global, Int32, Int64, KindOf, Label, Labels, Local, Memory, Scale, Type_, load_rows, numeric_rows, operand_rows, segment_load_rows, segment_rows, segment_store_rows, store_rows}
use Rattle.ms_module.specs.Numbered.{IsPlain}
use Rattle.ms_flat.specs.Keywords.{instr_word, load_word, numeric_word, store_word}
use Rattle.ms_text_grammar.specs.Instructions.{Form_, form_of, form_rows}
use Rattle.ms_text_grammar.specs.Instructions as form

-- ---- what each keyword stands for

numeric_form : (i : Numeric) → form_of (numeric_word i) ≡ Some (form.numeric i)
unfolding form_rows operand_rows numeric_rows load_rows store_rows segment_rows segment_load_rows segment_store_rows
numeric_form (Eqz W32) = refl
numeric_form (Compare W32 Eq) = refl
numeric_form (Compare W32 Ne) = refl
numeric_form (Compare W32 LtS) = refl
numeric_form (Compare W32 LtU) = refl
numeric_form (Compare W32 GtS) = refl
numeric_form (Compare W32 GtU) = refl
numeric_form (Compare W32 LeS) = refl
numeric_form (Compare W32 LeU) = refl
numeric_form (Compare W32 GeS) = refl
numeric_form (Compare W32 GeU) = refl
numeric_form (Unary W32 Clz) = refl
numeric_form (Unary W32 Ctz) = refl
numeric_form (Unary W32 Popcnt) = refl
numeric_form (Binary W32 Add) = refl
numeric_form (Binary W32 Sub) = refl
numeric_form (Binary W32 Mul) = refl
numeric_form (Binary W32 DivS) = refl
numeric_form (Binary W32 DivU) = refl
numeric_form (Binary W32 RemS) = refl
numeric_form (Binary W32 RemU) = refl
numeric_form (Binary W32 And) = refl
numeric_form (Binary W32 Or) = refl
numeric_form (Binary W32 Xor) = refl
numeric_form (Binary W32 Shl) = refl
numeric_form (Binary W32 ShrS) = refl
numeric_form (Binary W32 ShrU) = refl
numeric_form (Binary W32 Rotl) = refl
numeric_form (Binary W32 Rotr) = refl
numeric_form (Eqz W64) = refl
numeric_form (Compare W64 Eq) = refl
numeric_form (Compare W64 Ne) = refl
numeric_form (Compare W64 LtS) = refl
numeric_form (Compare W64 LtU) = refl
numeric_form (Compare W64 GtS) = refl
numeric_form (Compare W64 GtU) = refl
numeric_form (Compare W64 LeS) = refl
numeric_form (Compare W64 LeU) = refl
numeric_form (Compare W64 GeS) = refl
numeric_form (Compare W64 GeU) = refl
numeric_form (Unary W64 Clz) = refl
numeric_form (Unary W64 Ctz) = refl
numeric_form (Unary W64 Popcnt) = refl
numeric_form (Binary W64 Add) = refl
numeric_form (Binary W64 Sub) = refl
numeric_form (Binary W64 Mul) = refl
numeric_form (Binary W64 DivS) = refl
numeric_form (Binary W64 DivU) = refl
numeric_form (Binary W64 RemS) = refl
numeric_form (Binary W64 RemU) = refl
numeric_form (Binary W64 And) = refl
numeric_form (Binary W64 Or) = refl
numeric_form (Binary W64 Xor) = refl
numeric_form (Binary W64 Shl) = refl
numeric_form (Binary W64 ShrS) = refl
numeric_form (Binary W64 ShrU) = refl
numeric_form (Binary W64 Rotl) = refl
numeric_form (Binary W64 Rotr) = refl
numeric_form Wrap = refl
numeric_form ExtendS = refl
numeric_form ExtendU = refl

load_form : (op : LoadOp) → form_of (load_word (codes "load") op) ≡ Some (form.load op)
unfolding form_rows operand_rows numeric_rows load_rows store_rows segment_rows segment_load_rows segment_store_rows
load_form I32Load = refl
load_form I64Load = refl
load_form I32Load8S = refl
load_form I32Load8U = refl
load_form I32Load16S = refl
load_form I32Load16U = refl
load_form I64Load8S = refl
load_form I64Load8U = refl
load_form I64Load16S = refl
load_form I64Load16U = refl
load_form I64Load32S = refl
load_form I64Load32U = refl

store_form : (op : StoreOp) → form_of (store_word (codes "store") op) ≡ Some (form.store op)
unfolding form_rows operand_rows numeric_rows load_rows store_rows segment_rows segment_load_rows segment_store_rows
store_form I32Store = refl
store_form I64Store = refl
store_form I32Store8 = refl
store_form I32Store16 = refl
store_form I64Store8 = refl
store_form I64Store16 = refl
store_form I64Store32 = refl

segment_load_form : (op : LoadOp) → form_of (load_word (codes "segload") op) ≡ Some (form.segment_load op)
unfolding form_rows operand_rows numeric_rows load_rows store_rows segment_rows segment_load_rows segment_store_rows
segment_load_form I32Load = refl
segment_load_form I64Load = refl
segment_load_form I32Load8S = refl
segment_load_form I32Load8U = refl
segment_load_form I32Load16S = refl
segment_load_form I32Load16U = refl
segment_load_form I64Load8S = refl
segment_load_form I64Load8U = refl
segment_load_form I64Load16S = refl
segment_load_form I64Load16U = refl
segment_load_form I64Load32S = refl
segment_load_form I64Load32U = refl

segment_store_form : (op : StoreOp) → form_of (store_word (codes "segstore") op) ≡ Some (form.segment_store op)
unfolding form_rows operand_rows numeric_rows load_rows store_rows segment_rows segment_load_rows segment_store_rows
segment_store_form I32Store = refl
segment_store_form I64Store = refl
segment_store_form I32Store8 = refl
segment_store_form I32Store16 = refl
segment_store_form I64Store8 = refl
segment_store_form I64Store16 = refl
segment_store_form I64Store32 = refl

-- what stands behind the keyword of an instruction that is no block
abbrev pub form_is : Instr → Form_
form_is (instr.Br l) = form.operand (Label instr.Br)
form_is (instr.BrIf l) = form.operand (Label instr.BrIf)
form_is (instr.BrTable targets) = form.operand (Labels instr.BrTable)
form_is (instr.Call x) = form.operand (Func instr.Call)
form_is (instr.CallIndirect x) = form.operand (Type_ instr.CallIndirect)
form_is (instr.LocalGet x) = form.operand (Local instr.LocalGet)
form_is (instr.LocalSet x) = form.operand (Local instr.LocalSet)
form_is (instr.LocalTee x) = form.operand (Local instr.LocalTee)
form_is (instr.GlobalGet x) = form.operand (Global instr.GlobalGet)
form_is (instr.GlobalSet x) = form.operand (Global instr.GlobalSet)
form_is (instr.I32Const n) = form.operand (Int32 instr.I32Const)
form_is (instr.I64Const n) = form.operand (Int64 instr.I64Const)
form_is (instr.Numeric i) = form.numeric i
form_is (instr.Linear (linear.Load op arg)) = form.load op
form_is (instr.Linear (linear.Store op arg)) = form.store op
form_is (instr.Linear i) = form.operand (Memory (instr.Linear i))
form_is (instr.Segment (segment.New kind)) = form.operand (KindOf (λ k. instr.Segment (segment.New k)))
form_is (instr.Segment (segment.Free kind)) = form.operand (KindOf (λ k. instr.Segment (segment.Free k)))
form_is (instr.Segment (segment.Add scale)) = form.operand (Scale (λ n. instr.Segment (segment.Add n)))
form_is (instr.Segment (segment.Load op)) = form.segment_load op
form_is (instr.Segment (segment.Store op)) = form.segment_store op
form_is i = form.operand (Bare i)

pub form_given : (i : Instr) → IsPlain i → form_of (instr_word i) ≡ Some (form_is i)
unfolding form_rows operand_rows numeric_rows load_rows store_rows segment_rows segment_load_rows segment_store_rows
form_given instr.Unreachable h = refl
form_given instr.Nop h = refl
form_given (instr.Block ty body) h = absurd h
form_given (instr.Loop ty body) h = absurd h
form_given (instr.If ty first other) h = absurd h
form_given (instr.Br l) h = refl
form_given (instr.BrIf l) h = refl
form_given (instr.BrTable targets) h = refl
form_given instr.Return h = refl
form_given (instr.Call x) h = refl
form_given (instr.CallIndirect x) h = refl
form_given instr.Drop h = refl
form_given instr.Select h = refl
form_given (instr.LocalGet x) h = refl
form_given (instr.LocalSet x) h = refl
form_given (instr.LocalTee x) h = refl
form_given (instr.GlobalGet x) h = refl
form_given (instr.GlobalSet x) h = refl
form_given (instr.I32Const n) h = refl
form_given (instr.I64Const n) h = refl
form_given (instr.Numeric i) h = numeric_form i
form_given (instr.Linear (linear.Load op arg)) h = load_form op
form_given (instr.Linear (linear.Store op arg)) h = store_form op
form_given (instr.Linear linear.Size) h = refl
form_given (instr.Linear linear.Grow) h = refl
form_given (instr.Segment segment.Null) h = refl
form_given (instr.Segment (segment.New kind)) h = refl
form_given (instr.Segment (segment.Free kind)) h = refl
form_given (instr.Segment (segment.Add scale)) h = refl
form_given (instr.Segment segment.Slice) h = refl
form_given (instr.Segment segment.Eq) h = refl
form_given (instr.Segment segment.IsNull) h = refl
form_given (instr.Segment segment.Diff) h = refl
form_given (instr.Segment segment.LoadHandle) h = refl
form_given (instr.Segment segment.StoreHandle) h = refl
form_given (instr.Segment (segment.Load op)) h = segment_load_form op
form_given (instr.Segment (segment.Store op)) h = segment_store_form op
form_given (instr.Segment segment.Seal) h = refl
