-- What the answers of calls say of the rule around them.
use Rattle.std.proofs.Common.{◌≡◌, ◌∙◌, sym, ap, Result, Ok, Err}
use Rattle.c_check_types.specs.declared.fault.Stop.{Stop}
use Rattle.c_check_types.specs.declared.fault.Stop.TheVariants as stops
use Rattle.c_check_types.specs.State.{Rule, State, followed}
use Rattle.c_check_types.specs.refinement.Views.{Obeys}

-- a rule ends where a part of it has no answer
pub stopped : {A B C D : Type 0} (view : B → A) (w : D → C) (rule : Rule A) (all : Rule C) (s t old new : State) (next : A → Rule C) (e : Stop)
    → followed (rule s) next ≡ all old → Obeys view rule s t (Err e) → Obeys w all old new (Err e)
stopped view w rule all s t old new next stops.NoTyping is gone = sym is ∙ ap (λ o. followed o next) gone
stopped view w rule all s t old new next stops.Memory is gone = tt

-- what an answer says of a rule, it says of one that is the same there
pub answered : {A B : Type 0} (view : B → A) (f g : Rule A) (old new : State) (r : Result B Stop) → f old ≡ g old → Obeys view g old new r → Obeys view f old new r
answered view f g old new (Ok x) e h = e ∙ h
answered view f g old new (Err stops.NoTyping) e h = e ∙ h
answered view f g old new (Err stops.Memory) e h = tt
