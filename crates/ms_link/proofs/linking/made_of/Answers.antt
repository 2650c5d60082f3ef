use Rattle.std.proofs.Common.{◌≡◌, ◌∷◌, ◌++◌, List, ℕ, Ok, length, map, ap, sym, subst, ◌∙◌, arith}
use Rattle.std.specs.Vec.Iter.{into_iter_items}
use Rattle.ms_module.specs.declared.module.Module.{Module}
use Rattle.ms_names.specs.Numbered.{number_of}
use Rattle.ms_rules.specs.Modules.{AreDistinct}
use Rattle.ms_machine.specs.Linked.{all_more, one_more}
use Rattle.ms_link.proofs.Fits.{one_more_typed}
use Rattle.ms_link.proofs.Refusing.{all_go_on, names_go_on}
use Rattle.ms_import.proofs.Exports.{is_new}
use Rattle.ms_link.proofs.linking.made_of.Goals as goal

abbrev first : (List ℕ × Module) → List ℕ
first m = m.0

pub add-requires-clause-new : goal.add-requires-clause-new
add-requires-clause-new c =
    let at = c.loop-name in
    let m : List ℕ × Module = (c.in-Some.name, c.in-Some.valid) in
    let left : into_iter_items at.name-iterator ≡ m ∷ into_iter_items c.next.new.self = c.in-Some.ensures.steps.0 in
    let distinct = subst (λ l. AreDistinct (at.made.names ++ map first l)) left at.invariant.2 in
    ap (number_of at.made.names) c.as_str.ensures ∙ is_new at.made.names c.in-Some.name (map first (into_iter_items c.next.new.self)) distinct

pub loop-name-preserved : goal.loop-name-preserved
loop-name-preserved c =
    let at = c.loop-name in
    let next = c.in_ok-made-2.made in
    let rest = into_iter_items c.next.new.self in
    let m : List ℕ × Module = (c.in-Some.name, c.in-Some.valid) in
    let left : into_iter_items at.name-iterator ≡ m ∷ rest = c.in-Some.ensures.steps.0 in
    let one : one_more at.made m.0 m.1 ≡ Ok next =
    ap (λ n. one_more at.made n c.in-Some.valid) (sym c.as_str.ensures) ∙ ap (one_more at.made c.as_str.result.now) (sym c.into_module.ensures.same) ∙ c.in_ok-made-2.ensures in (
      all_go_on rest _ at.made next m (ap (λ l. all_more l at.made) (sym left) ∙ at.invariant.0) one,
      one_more_typed at.made c.in-Some.name c.in-Some.valid next at.invariant.1 c.into_module.ensures.typed one,
      names_go_on rest at.made next m (subst (λ l. AreDistinct (at.made.names ++ map first l)) left at.invariant.2) one,
      let was = at.invariant.3 in let gone = c.in-Some.ensures.steps.1 in let short = ap length left in omega arith,
    )
