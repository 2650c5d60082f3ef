-- The lines of the report.
use Rattle.std.specs.Prelude.{ℕ, List, [], ◌∷◌, ◌++◌, codes, flat_map, Option, Some, None}
use Rattle.std.specs.Fmt.{decimal, signed_decimal}
use Rattle.ms_bin_grammar.specs.declared.fault.Counted.{Counted}
use Rattle.ms_bin_grammar.specs.declared.fault.Counted.TheVariants.{Blocks, Locals}
use Rattle.ms_bin_grammar.specs.declared.fault.ReadFault.{ReadFault}
use Rattle.ms_bin_grammar.specs.declared.fault.ReadFault.TheVariants.{Float, Limit, Malformed, Memory}
use Rattle.ms_linear.specs.declared.value.Value.{Value}
use Rattle.ms_linear.specs.declared.value.Value.TheVariants as values
use Rattle.ms_machine.specs.declared.externs.Why.{Why}
use Rattle.ms_machine.specs.declared.externs.Why.TheVariants as whys
use Rattle.ms_machine.specs.Externs.{Fault}
use Rattle.ms_job.specs.declared.fault.JobFault.{JobFault}
use Rattle.ms_job.specs.declared.fault.JobFault.TheVariants as jobs
use Rattle.ms_host.specs.declared.trap.TrapKind.{TrapKind}
use Rattle.ms_host.specs.Words.{trap_word}
use Rattle.ms_num.specs.Integers.{signed}
use Rattle.ms_text_grammar.specs.declared.fault.Counted.{Counted as TextCounted}
use Rattle.ms_text_grammar.specs.declared.fault.Counted.TheVariants as counted
use Rattle.ms_text_grammar.specs.declared.fault.TextFault.{TextFault}
use Rattle.ms_text_grammar.specs.declared.fault.TextFault.TheVariants as text
use Rattle.ms_text_lex.specs.declared.fault.LexFault.{LexFault}
use Rattle.ms_text_lex.specs.declared.fault.LexFault.TheVariants as lexing
use Rattle.c_check.specs.declared.fault.CCheck.{CCheck}
use Rattle.c_check.specs.declared.fault.CCheck.TheVariants as checking
use Rattle.c_compile.specs.declared.fault.Limit.{Limit as CLimit}
use Rattle.c_compile.specs.declared.fault.Limit.TheVariants as limits
use Rattle.c_lex.specs.declared.fault.CLex.{CLex}
use Rattle.c_lex.specs.declared.fault.CLex.TheVariants as tokens
use Rattle.c_parse.specs.declared.fault.CParse.{CParse}
use Rattle.c_parse.specs.declared.fault.CParse.TheVariants as parsing
use Rattle.ms_run.specs.declared.source.SourceFault.{SourceFault}
use Rattle.ms_run.specs.declared.source.SourceFault.TheVariants as source
use Rattle.ms_valid.specs.declared.refusal.Part.{Part}
use Rattle.ms_valid.specs.declared.refusal.Part.TheVariants.{Function, Head}

-- a text and a line feed
abbrev pub line : List ℕ → List ℕ
line text = text ++ 10 ∷ []

abbrev pub read_fault_line : List ℕ → List ℕ
read_fault_line name = line (codes "read fault " ++ name)

-- the input of a program failed
abbrev pub input_fault_line : List ℕ
input_fault_line = line (codes "read fault")

abbrev pub too_long_line : List ℕ → List ℕ
too_long_line name = line (codes "too long " ++ name)

abbrev pub valid_line : List ℕ
valid_line = line (codes "valid")

-- a file of so many bytes was written
abbrev pub written_line : ℕ → List ℕ
written_line size = line (codes "written " ++ decimal size)

-- ---- refusals

-- what is refused: nothing stands for the only file, and a module of a job is told by its number
abbrev pub refused_line : (what words : List ℕ) → List ℕ
refused_line what words = line (codes "refused " ++ what ++ words)

abbrev pub module_word : (number : ℕ) → List ℕ
module_word number = codes "module " ++ decimal number ++ codes " "

-- a section or a body would have 2^32 bytes or more
abbrev pub large_line : List ℕ
large_line = refused_line [] (codes "large")

abbrev pub counted_word : Counted → List ℕ
counted_word Blocks = codes "blocks"
counted_word Locals = codes "locals"

-- of binary modules; want of memory is no fault of bytes, and has no words
abbrev pub fault_words : ReadFault → List ℕ
fault_words (Malformed at) = codes "malformed " ++ decimal at
fault_words (Float at) = codes "float " ++ decimal at
fault_words (Limit which at) = codes "limit " ++ counted_word which ++ codes " " ++ decimal at
fault_words Memory = []

-- of texts
abbrev pub text_counted_word : TextCounted → List ℕ
text_counted_word counted.Blocks = codes "blocks"
text_counted_word counted.Locals = codes "locals"
text_counted_word counted.Parens = codes "parens"

abbrev pub lexing_words : LexFault → List ℕ
lexing_words (lexing.Char at) = codes "char " ++ decimal at
lexing_words (lexing.Unclosed at) = codes "unclosed " ++ decimal at
lexing_words lexing.Memory = []

abbrev pub text_fault_words : TextFault → List ℕ
text_fault_words (text.Lex fault) = lexing_words fault
text_fault_words (text.Syntax at) = codes "syntax " ++ decimal at
text_fault_words (text.Range at) = codes "range " ++ decimal at
text_fault_words (text.Float at) = codes "float " ++ decimal at
text_fault_words (text.Limit which at) = codes "limit " ++ text_counted_word which ++ codes " " ++ decimal at
text_fault_words (text.Name at) = codes "name " ++ decimal at
text_fault_words text.Memory = []

-- of C: its tokens, its syntax, its typing, and a limit of the compiler
abbrev pub token_words : CLex → List ℕ
token_words (tokens.Char at) = codes "c char " ++ decimal at
token_words (tokens.Unclosed at) = codes "c unclosed " ++ decimal at
token_words (tokens.Directive at) = codes "c directive " ++ decimal at
token_words (tokens.TooBig at) = codes "c number " ++ decimal at
token_words tokens.Memory = []

abbrev pub parsing_words : CParse → List ℕ
parsing_words (parsing.Syntax at) = codes "c syntax " ++ decimal at
parsing_words (parsing.TooDeep at) = codes "c deep " ++ decimal at
parsing_words parsing.Memory = []

abbrev pub typing_words : CCheck → List ℕ
typing_words (checking.NoTyping at) = codes "c type " ++ decimal at
typing_words checking.Memory = []

abbrev pub climit_words : CLimit → List ℕ
climit_words limits.Locals = codes "c limit locals"
climit_words limits.Copy = codes "c limit copy"
climit_words limits.Functions = codes "c limit functions"

abbrev pub source_fault_words : SourceFault → List ℕ
source_fault_words (source.Lex fault) = token_words fault
source_fault_words (source.Parse fault) = parsing_words fault
source_fault_words (source.Check fault) = typing_words fault
source_fault_words (source.Limit limit) = climit_words limit
source_fault_words source.Memory = []

abbrev pub part_words : Part → List ℕ
part_words Head = codes "invalid head"
part_words (Function n) = codes "invalid function " ++ decimal n

-- of a job: its text, and that of its schedule
abbrev pub job_line : JobFault → List ℕ
job_line (jobs.Line n) = line (codes "refused job line " ++ decimal n)
job_line jobs.NoTask = line (codes "refused job task")
job_line jobs.Budget = line (codes "refused job budget")
job_line jobs.Memory = []

abbrev pub schedule_line : (at : ℕ) → List ℕ
schedule_line at = line (codes "refused schedule " ++ decimal at)

-- of modules that are linked: the item of a module, both by their numbers
abbrev pub why_word : Why → List ℕ
why_word whys.NoModule = codes "nomodule"
why_word whys.NoExport = codes "noexport"
why_word whys.Kind = codes "kind"
why_word whys.Signature = codes "signature"
why_word whys.TooLarge = codes "toolarge"
why_word whys.Fit = codes "fit"

abbrev pub link_line : Fault → List ℕ
link_line fault = line (codes "refused link " ++ decimal fault.«module» ++ codes " " ++ decimal fault.item ++ codes " " ++ why_word fault.why)

-- of tasks: this one has no function
abbrev pub task_line : (number : ℕ) → List ℕ
task_line number = line (codes "refused task " ++ decimal number)

-- ---- traces

-- the line of this number is the first that tells no event
abbrev pub trace_line : (number : ℕ) → List ℕ
trace_line number = line (codes "refused trace line " ++ decimal number)

-- the event of this number is the first that isn't accepted
abbrev pub rejected_line : (number : ℕ) → List ℕ
rejected_line number = line (codes "rejected " ++ decimal number)

-- so many events are
abbrev pub accepted_line : (count : ℕ) → List ℕ
accepted_line count = line (codes "accepted " ++ decimal count)

-- ---- the ends of runs

abbrev pub trap_line : TrapKind → List ℕ
trap_line trap = line (codes "trap " ++ trap_word trap)

abbrev pub budget_line : List ℕ
budget_line = line (codes "out of budget")

-- what a task gives: nothing, or a number, which is read as signed
abbrev pub result_line : Option Value → List ℕ
result_line None = line (codes "done")
result_line (Some (values.I32 n)) = line (codes "result " ++ signed_decimal (signed 32 n))
result_line (Some (values.I64 n)) = line (codes "result " ++ signed_decimal (signed 64 n))
-- no task has such a type
result_line (Some (values.Handle h)) = line (codes "done")

-- what is reached for the set of modules of this number: so many live segments have a byte that is, and so many bytes are
abbrev pub reach_line : (number segments bytes : ℕ) → List ℕ
reach_line number segments bytes = line (codes "reach " ++ decimal number ++ codes " " ++ decimal segments ++ codes " " ++ decimal bytes)

-- a line for each task, in order
abbrev pub result_lines : List (Option Value) → List ℕ
result_lines = flat_map result_line
