use Rattle.std.proofs.Common.{Ok, ap, ◌∙◌, sym, subst}
use Rattle.ms_machine.specs.Linked.{StartsTyped, stored}
use Rattle.ms_machine.specs.Store.{Store}
use Rattle.ms_machine.specs.Typing.{StoreTyped, outline_of}
use Rattle.ms_link.proofs.Stores.{made_typed}
use Rattle.ms_link.proofs.linking.store_or_fault.Goals as goal

pub returns-clause-link : goal.returns-clause-link
returns-clause-link g c = ap (stored c.args.capacity) c.in_ok-made.ensures.made ∙ ap Ok (sym c.in_ok-store.ensures)

pub returns-clause-typed : goal.returns-clause-typed
returns-clause-typed g c =
    subst (λ (s : Store). StoreTyped (outline_of s)) (sym c.in_ok-store.ensures) (made_typed c.args.capacity c.in_ok-made.made c.in_ok-made.ensures.typed)

pub returns-clause-starts : goal.returns-clause-starts
returns-clause-starts g c = subst StartsTyped (sym c.in_ok-store.ensures) c.in_ok-made.ensures.typed.starts
