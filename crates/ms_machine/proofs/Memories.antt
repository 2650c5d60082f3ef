-- An instruction on the linear memory of an instance, as a step on the store.
use Rattle.std.proofs.Common.{◌≡◌, ◌≢◌, ◌<◌, ℕ, List, Some, None, Err, get_or, length, slice_get, slice_set, refl, ap, sym, subst, ⊎_elim, ◌∙◌}
use Rattle.std.proofs.lemmas.Bool.{cases_lt}
use Rattle.std.proofs.lemmas.List.{set-get_or}
use Rattle.std.proofs.lemmas.Option.{slice_get_past, slice_get_read}
use Rattle.ms_linear.specs.declared.value.Value.{Value}
use Rattle.ms_linear.specs.Memory.{Memory as LinearMemory}
use Rattle.ms_module.specs.declared.access.Linear.{Linear as LinearInstr}
use Rattle.ms_operate.specs.Memories.{linear_on}
use Rattle.ms_operate.specs.Effects as effects
use Rattle.ms_operate.specs.Effects.{DoesInMemory}
use Rattle.ms_operate.specs.declared.trap.Fault.{Fault as OperateFault}
use Rattle.ms_operate.specs.declared.trap.Fault.TheVariants as faults
use Rattle.ms_task.specs.declared.func.FuncInst.{FuncInst}
use Rattle.ms_task.specs.Thread.{Thread, thread}
use Rattle.ms_machine.specs.refinement.Doing.{DoesOutcome, fault_of}
use Rattle.ms_machine.specs.Step.{Next, Stuck, in_memory, linear, on_memory}
use Rattle.ms_machine.specs.Store.{Store, instance_of, memory_address, with_memories}

-- where the instruction finds what it takes, the memory is there
there : (s : Store) (i : LinearInstr) (a : ℕ) (t : Thread) → linear s t i (Some a) ≢ Stuck → a < length s.memories
there s i a t can =
    ⊎_elim (λ lt. lt) (λ le. absurd (can (ap (on_memory s t i a) (slice_get_past s.memories a le)))) (cases_lt a (length s.memories))

-- the memory that the instance of the thread's function has
finds : (s0 s : Store) (i : LinearInstr) (a : ℕ) (m : LinearMemory) (t : Thread) → s0 ≡ s → memory_address (instance_of s t.frame) ≡ Some a → linear s t i (memory_address (instance_of s t.frame)) ≢ Stuck → m ≡ get_or s0.memories a m → linear s t i (memory_address (instance_of s t.frame)) ≡ in_memory s t a (linear_on i m t.operands)
finds s0 s i a m t e address can read =
    let within : a < length s0.memories = subst (λ (x : Store). a < length x.memories) (sym e) (there s i a t (λ stuck. can (ap (linear s t i) address ∙ stuck))) in
    let got : slice_get s.memories a ≡ Some m = subst (λ (x : Store). slice_get x.memories a ≡ Some m) e (slice_get_read s0.memories (length s0.memories) a m refl within read) in
    ap (linear s t i) address ∙ ap (on_memory s t i a) got

pub linear_does : (s0 s : Store) (i : LinearInstr) (a : ℕ) (m m' : LinearMemory) (t t' : List FuncInst → Thread) (vs : List Value) → s0 ≡ s → memory_address (instance_of s (t s.funcs).frame) ≡ Some a → linear s (t s.funcs) i (memory_address (instance_of s (t s.funcs).frame)) ≢ Stuck → m ≡ get_or s0.memories a m → linear_on i m (t s.funcs).operands ≡ effects.Gives vs m' → ((funcs : List FuncInst) → t' funcs ≡ thread (t funcs).frame vs (t funcs).work) → linear s (t s.funcs) i (memory_address (instance_of s (t s.funcs).frame)) ≡ Next (with_memories s0 (slice_set s0.memories a m')) (t' s0.funcs) None
linear_does s0 s i a m m' t t' vs e address can read does is =
    finds s0 s i a m (t s.funcs) e address can read
    ∙ ap (in_memory s (t s.funcs) a) does
    ∙ ap (λ u. Next (with_memories s (slice_set s.memories a m')) u None) (sym (is s.funcs))
    ∙ ap (λ (x : Store). Next (with_memories x (slice_set x.memories a m')) (t' x.funcs) None) (sym e)

-- where nothing was written the store is as before
same_store : (s0 s : Store) (a : ℕ) (m m' : LinearMemory) → s0 ≡ s → m ≡ get_or s0.memories a m → m' ≡ m → with_memories s0 (slice_set s0.memories a m') ≡ s
same_store s0 s a m m' e read is =
    ap (λ x. with_memories s0 (slice_set s0.memories a x)) (is ∙ read) ∙ ap (with_memories s0) (set-get_or s0.memories a m) ∙ e

pub linear_fails : (s0 s : Store) (i : LinearInstr) (a : ℕ) (m m' : LinearMemory) (t : Thread) (u u' : List FuncInst → Thread) (vs : List Value) (fault : OperateFault) → s0 ≡ s → memory_address (instance_of s t.frame) ≡ Some a → linear s t i (memory_address (instance_of s t.frame)) ≢ Stuck → m ≡ get_or s0.memories a m → DoesInMemory (linear_on i m t.operands) t.operands vs m m' (Err fault) → ((funcs : List FuncInst) → vs ≡ t.operands → u' funcs ≡ u funcs) → DoesOutcome (linear s t i (memory_address (instance_of s t.frame))) s (u s.funcs) (with_memories s0 (slice_set s0.memories a m')) (u' s0.funcs) (Err (fault_of fault))
linear_fails s0 s i a m m' t u u' vs faults.Memory e address can read does is = same_store s0 s a m m' e read does.1
linear_fails s0 s i a m m' t u u' vs (faults.Trap trap) e address can read does is =
    (finds s0 s i a m t e address can read ∙ ap (in_memory s t a) does.0, same_store s0 s a m m' e read does.2, ap (λ (x : Store). u' x.funcs) e ∙ is s.funcs does.1)
