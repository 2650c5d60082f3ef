-- What the reader of the code gives, against what the definition says of a text.
use Rattle.std.specs.Prelude.{◌≡◌, ◌⊎◌, ℕ, List, Result, Ok, Err}
use Rattle.ms_module.specs.declared.module.Module.{Module}
use Rattle.ms_text_lex.specs.declared.fault.LexFault.{LexFault}
use Rattle.ms_text_lex.specs.declared.fault.LexFault.TheVariants as lexing
use Rattle.ms_text_lex.specs.Readers as lexed
use Rattle.ms_text_grammar.specs.declared.fault.TextFault.{TextFault}
use Rattle.ms_text_grammar.specs.declared.fault.TextFault.TheVariants.{Lex, Memory, Name}
use Rattle.ms_text_grammar.specs.TextSpells.{Stops, TextSpells, TextStop}
use Rattle.ms_text_grammar.specs.TextSpells.TextStop.{lex, name, syntax}

-- the error that the code gives for a reason
abbrev pub error_of : TextStop → TextFault
error_of (lex f) = Lex (lexed.error_of f)
error_of (syntax f) = f
error_of (name at) = Name at

-- the fault of a lexer
abbrev pub lexing_fault : LexFault → TextFault
lexing_fault lexing.Memory = Memory
lexing_fault f = Lex f

-- the fault is want of memory, or why the text is no module
abbrev pub Tells : List ℕ → TextFault → Type 0
Tells bytes e = (e ≡ Memory) ⊎ ((why : TextStop) × (error_of why ≡ e) × Stops bytes why)

-- the module that the text spells, or why it spells none
abbrev pub ReadsText : List ℕ → Result Module TextFault → Type 0
ReadsText bytes (Ok m) = TextSpells bytes m
ReadsText bytes (Err e) = Tells bytes e
