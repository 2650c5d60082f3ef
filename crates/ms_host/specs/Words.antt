-- The words of traps, as reports have them.
use Rattle.std.specs.Prelude.{ℕ, List, codes}
use Rattle.ms_host.specs.declared.trap.TrapKind.{TrapKind}
use Rattle.ms_host.specs.declared.trap.TrapKind.TheVariants as traps

abbrev pub trap_word : TrapKind → List ℕ
trap_word traps.Unreachable = codes "unreachable"
trap_word traps.Zero = codes "zero"
trap_word traps.Overflow = codes "overflow"
trap_word traps.Linear = codes "linear"
trap_word traps.Table = codes "table"
trap_word traps.Element = codes "element"
trap_word traps.Signature = codes "signature"
trap_word traps.Depth = codes "depth"
trap_word traps.Abort = codes "abort"
trap_word traps.Null = codes "null"
trap_word traps.Invalid = codes "invalid"
trap_word traps.Freed = codes "freed"
trap_word traps.Bounds = codes "bounds"
trap_word traps.Misaligned = codes "misaligned"
trap_word traps.Readonly = codes "readonly"
trap_word traps.Provenance = codes "provenance"
trap_word traps.Whole = codes "whole"
trap_word traps.Kind = codes "kind"
trap_word traps.Apart = codes "apart"
