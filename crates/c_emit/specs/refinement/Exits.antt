-- Where a statement stands, as code has it: the objects of the open blocks are a list of its own.
use Rattle.std.specs.Prelude.{ℕ, negsuc, List, [], ◌∷◌, Option, Some, None}
use Rattle.ms_module.specs.declared.instr.Instr.TheVariants.{LocalSet}
use Rattle.ms_module.specs.declared.numeric.Width.TheVariants.{W32}
use Rattle.c_typed.specs.declared.ops.Variable.{Variable}
use Rattle.ms_emit.specs.Codes.{Code, no_code, plain}
use Rattle.c_code.specs.Operations.{constant}
use Rattle.c_code.specs.Statements as words
use Rattle.c_emit.specs.declared.exits.Exits.{Exits}

abbrev pub leaving_of : Option ℕ → Code
leaving_of None = no_code
leaving_of (Some w) = plain (constant W32 (negsuc 0) ∷ LocalSet w ∷ [])

abbrev pub exits_of : Exits → List Variable → words.Exits
exits_of x vs = record {
  objects = vs;
  left_by_break = x.left_by_break;
  left_by_continue = x.left_by_continue;
  break_label = x.break_label;
  continue_label = x.continue_label;
  leaving = leaving_of x.leaving;
}
