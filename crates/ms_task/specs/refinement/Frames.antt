-- The locals of all frames, as the code keeps them.
use Rattle.std.specs.Prelude.{ℕ, ◌+◌, ◌≤◌, List, take, drop, reverse}
use Rattle.ms_linear.specs.declared.value.Value.{Value}
use Rattle.ms_task.specs.declared.far.Far.{Far}
use Rattle.ms_task.specs.declared.far.Written.{Written}
use Rattle.ms_task.specs.refinement.Far.{AreFirst, IsStacked, all_of, total}

-- the first so many of them
abbrev pub whole : List Far → List Value → List ℕ → List Written → ℕ → List Value
whole far items ds ws len = take len (all_of (reverse far) items ds ws)

-- those of the kept frames, and those of the current one
abbrev pub split : ℕ → List Value → List Value × List Value
split base vs = (take base vs, drop base vs)

pub record AreLaid (fs : List Far) (n d w start base len : ℕ) : Type 0 where
  pub stacked : IsStacked fs n d w
  pub base_within : base ≤ len
  pub len_within : len ≤ n + total fs
  pub first : AreFirst fs n start base
