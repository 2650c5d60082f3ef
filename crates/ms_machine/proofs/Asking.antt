-- A call of a function of the host, by what stands at the address.
use Rattle.std.proofs.Common.{◌≡◌, ℕ, Some, sym, ap, ◌∙◌, slice_get}
use Rattle.ms_host.specs.declared.host.Host.{Host}
use Rattle.ms_module.specs.declared.instr.Instr.TheVariants as instr
use Rattle.ms_task.specs.Thread.{Thread}
use Rattle.ms_machine.specs.Step.{act, asks, call, called, host_in}
use Rattle.ms_machine.specs.Store.{Store, func_address, instance_of}

pub call_asks : (s : Store) (t : Thread) (x a : ℕ) (h : Host) → func_address (instance_of s t.frame) x ≡ Some a → Some h ≡ host_in (slice_get s.funcs a) → asks h t ≡ act s (instr.Call x) t
call_asks s t x a h at host = ap (called s a t) host ∙ sym (ap (call s t) at)
