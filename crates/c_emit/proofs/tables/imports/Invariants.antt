use Rattle.std.proofs.Common.{◌≡◌, false, get_or, map}
use Rattle.std.specs.Prelude.{◌&&◌, not, filter, slice_get}
use Rattle.c_typed.specs.refinement.Views.{function_of}
use Rattle.c_typed.specs.Units.{numbers}
use Rattle.c_code.specs.Modules.{is_defined}
use Rattle.c_emit.proofs.tables.imports.Given as goal

abbrev pub invariant-loop-i : goal.invariant-loop-i
invariant-loop-i l = l.all.items ≡ filter (λ n. not (is_defined (slice_get (map function_of l.functions) n)) && get_or l.used n false) (numbers l.i)
