-- What the code tells of a keyword, as the table has it.
use Rattle.ms_module.specs.Instructions.{Bare, Func, Global, Int32, Int64, KindOf, Label, Labels, Local, Memory, Scale, Type_}
use Rattle.ms_module.specs.declared.access.Linear.TheVariants as linear
use Rattle.ms_module.specs.declared.access.Segment.TheVariants as segment
use Rattle.ms_module.specs.declared.instr.Instr.TheVariants as instr
use Rattle.ms_text_grammar.specs.Instructions.{Form_, load, numeric, operand, segment_load, segment_store, store}
use Rattle.ms_text_grammar.specs.declared.keyword.Keyword.{Keyword}
use Rattle.ms_text_grammar.specs.declared.keyword.Keyword.TheVariants as word

abbrev pub form_is : Keyword → Form_
form_is word.Unreachable = operand (Bare instr.Unreachable)
form_is word.Nop = operand (Bare instr.Nop)
form_is word.Br = operand (Label instr.Br)
form_is word.BrIf = operand (Label instr.BrIf)
form_is word.BrTable = operand (Labels instr.BrTable)
form_is word.Return = operand (Bare instr.Return)
form_is word.Call = operand (Func instr.Call)
form_is word.CallIndirect = operand (Type_ instr.CallIndirect)
form_is word.Drop = operand (Bare instr.Drop)
form_is word.Select = operand (Bare instr.Select)
form_is word.LocalGet = operand (Local instr.LocalGet)
form_is word.LocalSet = operand (Local instr.LocalSet)
form_is word.LocalTee = operand (Local instr.LocalTee)
form_is word.GlobalGet = operand (Global instr.GlobalGet)
form_is word.GlobalSet = operand (Global instr.GlobalSet)
form_is word.MemorySize = operand (Memory (instr.Linear linear.Size))
form_is word.MemoryGrow = operand (Memory (instr.Linear linear.Grow))
form_is word.I32Const = operand (Int32 instr.I32Const)
form_is word.I64Const = operand (Int64 instr.I64Const)
form_is (word.Numeric op) = numeric op
form_is (word.Load op) = load op
form_is (word.Store op) = store op
form_is word.HandleNull = operand (Bare (instr.Segment segment.Null))
form_is word.SegmentNew = operand (KindOf (λ k. instr.Segment (segment.New k)))
form_is word.SegmentFree = operand (KindOf (λ k. instr.Segment (segment.Free k)))
form_is word.HandleAdd = operand (Scale (λ n. instr.Segment (segment.Add n)))
form_is word.HandleSlice = operand (Bare (instr.Segment segment.Slice))
form_is word.HandleEq = operand (Bare (instr.Segment segment.Eq))
form_is word.HandleIsNull = operand (Bare (instr.Segment segment.IsNull))
form_is word.HandleDiff = operand (Bare (instr.Segment segment.Diff))
form_is word.HandleLoad = operand (Bare (instr.Segment segment.LoadHandle))
form_is word.HandleStore = operand (Bare (instr.Segment segment.StoreHandle))
form_is word.HandleSeal = operand (Bare (instr.Segment segment.Seal))
form_is (word.SegmentLoad op) = segment_load op
form_is (word.SegmentStore op) = segment_store op
