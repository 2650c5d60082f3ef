-- What a refusal says of a module.
use Rattle.ms_module.specs.declared.module.Module.{Module}
use Rattle.ms_rules.specs.Modules.{Head, IsFirstUntyped}
use Rattle.ms_valid.specs.declared.refusal.Part.{Part}
use Rattle.ms_valid.specs.declared.refusal.Part.TheVariants as parts
use Rattle.ms_valid.specs.declared.refusal.Refusal.{Refusal}
use Rattle.ms_valid.specs.declared.refusal.Refusal.TheVariants.{Invalid, Memory}

abbrev pub IsWrong : Module → Part → Type 0
IsWrong m parts.Head = Head m → ⊥
IsWrong m (parts.Function n) = Head m × IsFirstUntyped m n

-- want of memory says nothing
abbrev pub DoesRefuse : Module → Refusal → Type 0
DoesRefuse m (Invalid part) = IsWrong m part
DoesRefuse m Memory = Unit {0}
