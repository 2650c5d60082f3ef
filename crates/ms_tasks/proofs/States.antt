-- How a task stands, by what is left for it to do.
use Rattle.std.proofs.Common.{◌≡◌, ◌≢◌, List, [], ◌∷◌, slice_get, refl}
use Rattle.ms_linear.specs.declared.value.Value.{Value}
use Rattle.ms_task.specs.Thread.{Item}
use Rattle.ms_tasks.specs.States.{by_thread}
use Rattle.ms_tasks.specs.declared.state.TaskState.TheVariants.{Ended, Unended}

pub ended_is : (w : List Item) (vs : List Value) → w ≡ [] → Ended (slice_get vs 0) ≡ by_thread w vs
ended_is [] vs e = refl
ended_is (i ∷ w) vs e = absurd cc

pub unended_is : (w : List Item) (vs : List Value) → w ≢ [] → Unended ≡ by_thread w vs
unended_is [] vs going = absurd (going refl)
unended_is (i ∷ w) vs going = refl
