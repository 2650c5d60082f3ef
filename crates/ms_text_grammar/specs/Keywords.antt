-- The keywords that belong to no instruction and are no value type (WebAssembly 1.0, chapter 6). Those of instructions and
-- value types stand in the table of instructions (`Instructions` of `ms_module`).
use Rattle.std.specs.Prelude.{ℕ, List, codes}
use Rattle.ms_text_grammar.specs.declared.word.Word.{Word}
use Rattle.ms_text_grammar.specs.declared.word.Word.TheVariants as word

abbrev pub spelling : Word → List ℕ
spelling word.Module = codes "module"
spelling word.Type = codes "type"
spelling word.Func = codes "func"
spelling word.Param = codes "param"
spelling word.Result = codes "result"
spelling word.Local = codes "local"
spelling word.Import = codes "import"
spelling word.Export = codes "export"
spelling word.Start = codes "start"
spelling word.Table = codes "table"
spelling word.Memory = codes "memory"
spelling word.Global = codes "global"
spelling word.Elem = codes "elem"
spelling word.Data = codes "data"
spelling word.Offset = codes "offset"
spelling word.Mut = codes "mut"
spelling word.Funcref = codes "funcref"
spelling word.Then = codes "then"
spelling word.Heap = codes "heap"
spelling word.Frame = codes "frame"

-- what stands in front of the number of an offset and of an alignment, in one token with it (6.5.5)
abbrev pub offset_is : List ℕ
offset_is = codes "offset="

abbrev pub align_is : List ℕ
align_is = codes "align="
