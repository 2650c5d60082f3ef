use Rattle.std.proofs.Common.{◌≡◌, ◌++◌, drop}
use Rattle.c_typed.specs.refinement.Views.{typed_of}
use Rattle.c_code.specs.Modules.{exports_of}
use Rattle.c_compile.proofs.unit.add_exports.Given as goal

abbrev pub invariant-loop-n : goal.invariant-loop-n
invariant-loop-n l =
    l.exports ++ exports_of (typed_of l.unit) (drop l.n-index l.numbers) ≡ l.fn.exports ++ exports_of (typed_of l.unit) l.numbers
