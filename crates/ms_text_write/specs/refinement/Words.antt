-- The keyword of an instruction, as it is written.
use Rattle.std.specs.Prelude.{ℕ, List, codes}
use Rattle.ms_flat.specs.Keywords.{load_word, numeric_word, store_word}
use Rattle.ms_text_grammar.specs.declared.keyword.Keyword.{Keyword}
use Rattle.ms_text_grammar.specs.declared.keyword.Keyword.TheVariants as word

abbrev pub keyword_word : Keyword → List ℕ
keyword_word word.Unreachable = codes "unreachable"
keyword_word word.Nop = codes "nop"
keyword_word word.Br = codes "br"
keyword_word word.BrIf = codes "br_if"
keyword_word word.BrTable = codes "br_table"
keyword_word word.Return = codes "return"
keyword_word word.Call = codes "call"
keyword_word word.CallIndirect = codes "call_indirect"
keyword_word word.Drop = codes "drop"
keyword_word word.Select = codes "select"
keyword_word word.LocalGet = codes "local.get"
keyword_word word.LocalSet = codes "local.set"
keyword_word word.LocalTee = codes "local.tee"
keyword_word word.GlobalGet = codes "global.get"
keyword_word word.GlobalSet = codes "global.set"
keyword_word word.MemorySize = codes "memory.size"
keyword_word word.MemoryGrow = codes "memory.grow"
keyword_word word.I32Const = codes "i32.const"
keyword_word word.I64Const = codes "i64.const"
keyword_word (word.Numeric op) = numeric_word op
keyword_word (word.Load op) = load_word (codes "load") op
keyword_word (word.Store op) = store_word (codes "store") op
keyword_word word.HandleNull = codes "handle.null"
keyword_word word.SegmentNew = codes "segment.new"
keyword_word word.SegmentFree = codes "segment.free"
keyword_word word.HandleAdd = codes "handle.add"
keyword_word word.HandleSlice = codes "handle.slice"
keyword_word word.HandleEq = codes "handle.eq"
keyword_word word.HandleIsNull = codes "handle.is_null"
keyword_word word.HandleDiff = codes "handle.diff"
keyword_word word.HandleLoad = codes "handle.load"
keyword_word word.HandleStore = codes "handle.store"
keyword_word word.HandleSeal = codes "handle.seal"
keyword_word (word.SegmentLoad op) = load_word (codes "segload") op
keyword_word (word.SegmentStore op) = store_word (codes "segstore") op
