-- A value gives back what a cell keeps of it.
use Rattle.std.specs.Prelude.{◌≡◌, refl}
use Rattle.ms_linear.specs.declared.operands.Kept.{Kept}
use Rattle.ms_linear.specs.declared.operands.Kept.TheVariants as parts
use Rattle.ms_linear.specs.refinement.Cells.{kept_of, value_of}

pub kept_again : (kept : Kept) → kept_of (value_of kept) ≡ kept
kept_again (parts.I32 n) = refl
kept_again (parts.I64 n) = refl
kept_again parts.Null = refl
kept_again parts.Broken = refl
kept_again (parts.Good sealed id base length offset) = refl
