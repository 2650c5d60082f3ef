-- Why a unit isn't compiled: for the first limit that it passes, or for want of memory.
use Rattle.std.specs.Prelude.{◌≡◌, ⊤, Some}
use Rattle.c_typed.specs.Tree.{Typed}
use Rattle.c_code.specs.Limits as words
use Rattle.c_code.specs.Limits.{limit_of}
use Rattle.c_compile.specs.declared.fault.CFault.{CFault}
use Rattle.c_compile.specs.declared.fault.CFault.TheVariants as faults
use Rattle.c_compile.specs.declared.fault.Limit.{Limit}
use Rattle.c_compile.specs.declared.fault.Limit.TheVariants as limits

abbrev pub limit : Limit → words.Limit
limit limits.Locals = words.locals
limit limits.Copy = words.copy
limit limits.Functions = words.functions

abbrev pub IsRefused : Typed → CFault → Type 0
IsRefused u (faults.Limit l) = limit_of u ≡ Some (limit l)
IsRefused u faults.Memory = ⊤
