use Rattle.std.proofs.Common.{◌≡◌, ◌<◌, ◌++◌, All, length, map}
use Rattle.std.specs.Vec.Iter.{into_iter_items, into_iter_len}
use Rattle.ms_module.specs.declared.module.Module.{Module}
use Rattle.ms_machine.specs.Linked.{own_func}
use Rattle.ms_link.proofs.making.push_funcs.Given as goal

abbrev pub invariant-loop-func : goal.invariant-loop-func
invariant-loop-func l = ((m : Module) → l.types ≡ m.sigs → l.all.items ++ map (own_func m l.instance) (into_iter_items l.func-iterator) ≡ l.initial.all.items ++ map (own_func m l.instance) l.fn.funcs.items)
    × All (λ f. f.sig < length l.types) (into_iter_items l.func-iterator)
    × (into_iter_len l.func-iterator ≡ length (into_iter_items l.func-iterator))
