-- What the bytes of a file of C are (C11, 5.1.1.2): tokens, a unit of them that has a typing, and its module; or why they are nothing.
use Rattle.std.specs.Prelude.{◌≡◌, ℕ, ◌≤◌, List, length, Ok, Err, Some, None}
use Rattle.c_token.specs.declared.word.Token.{Token}
use Rattle.c_lex.specs.Lexing as lexing
use Rattle.c_lex.specs.Lexing.{Lexes}
use Rattle.c_lex.specs.Fault.{Fault}
use Rattle.c_lex.specs.Readers.{error_of}
use Rattle.c_tree.specs.declared.external.External.{External}
use Rattle.c_parse.specs.Units as parsing
use Rattle.c_parse.specs.Units.{Parses}
use Rattle.c_parse.specs.declared.fault.CParse.{CParse}
use Rattle.c_check.specs.Units.{typing_of}
use Rattle.c_check.specs.declared.fault.CCheck.TheVariants.{NoTyping}
use Rattle.c_typed.specs.Tree.{Typed}
use Rattle.c_code.specs.Limits.{instructions_of, limit_of, most_instructions}
use Rattle.c_code.specs.Modules.{compiled}
use Rattle.c_compile.specs.Refusals.{limit}
use Rattle.c_compile.specs.declared.fault.Limit.{Limit}
use Rattle.ms_module.specs.declared.module.Module.{Module}
use Rattle.ms_run.specs.declared.source.SourceFault.{SourceFault}
use Rattle.ms_run.specs.declared.source.SourceFault.TheVariants as faults

-- the bytes are these external declarations
pub record IsParsed (bytes : List ℕ) (externals : List External) : Type 0 where
  pub tokens : List Token
  pub lexes : Lexes bytes tokens
  pub parses : Parses tokens externals

-- the bytes are this unit
pub record IsUnit (bytes : List ℕ) (u : Typed) : Type 0 where
  pub externals : List External
  pub parsed : IsParsed bytes externals
  pub typed : typing_of externals ≡ Ok u

-- the unit of the bytes has this module
pub record IsModule (bytes : List ℕ) (m : Module) : Type 0 where
  pub unit : Typed
  pub is_unit : IsUnit bytes unit
  pub within : limit_of unit ≡ None
  pub module' : m ≡ compiled unit
  -- more are want of memory
  pub small : instructions_of m.funcs ≤ most_instructions

-- why they have none
pub data Stops (bytes : List ℕ) : SourceFault → Type 0 where
  -- they are no tokens
  no_tokens : (fault : Fault) → lexing.Stops bytes fault → Stops bytes (faults.Lex (error_of fault))
  -- the tokens are no unit
  no_unit : (tokens : List Token) (fault : CParse) → Lexes bytes tokens → parsing.Stops tokens (length bytes) fault → Stops bytes (faults.Parse fault)
  -- the unit has no typing
  no_typing : (externals : List External) (at : ℕ) → IsParsed bytes externals → typing_of externals ≡ Err at → Stops bytes (faults.Check (NoTyping at))
  -- it is past a limit of the compiler
  past : (u : Typed) (l : Limit) → IsUnit bytes u → limit_of u ≡ Some (limit l) → Stops bytes (faults.Limit l)

-- this is why, unless memory ran out
abbrev pub Tells : List ℕ → SourceFault → Type 0
Tells bytes faults.Memory = Unit {0}
Tells bytes fault = Stops bytes fault
