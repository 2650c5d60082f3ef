-- Heights of enumerators: an enumerator is no node, so that its value's counts alone.
use Rattle.std.specs.Prelude.{ℕ}
use Rattle.c_tree.specs.StatementHeights.{clause_height}
use Rattle.c_tree.specs.declared.enumerator.Enumerator.{Enumerator}

abbrev pub enumerator_height : Enumerator → ℕ
enumerator_height x = clause_height x.value
