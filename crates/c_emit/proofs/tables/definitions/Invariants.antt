use Rattle.std.proofs.Common.{◌≡◌, map}
use Rattle.std.specs.Prelude.{filter, slice_get}
use Rattle.c_typed.specs.refinement.Views.{function_of}
use Rattle.c_typed.specs.Units.{numbers}
use Rattle.c_code.specs.Modules.{is_defined}
use Rattle.c_emit.proofs.tables.definitions.Given as goal

abbrev pub invariant-loop-i : goal.invariant-loop-i
invariant-loop-i l = l.all.items ≡ filter (λ n. is_defined (slice_get (map function_of l.functions) n)) (numbers l.i)
