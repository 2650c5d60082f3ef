use Rattle.std.proofs.Common.{◌∙◌, ◌+◌, ℕ, ap, refl}
use Rattle.c_emit.proofs.Defined.{are_tables, imported_is, named_is, defined_is}
use Rattle.c_emit.proofs.tables.tables_of.Goals as goal

pub returns-clause-imported : goal.returns-clause-imported
returns-clause-imported c =
    let e = rw (c.as_slice-functions.ensures.value, c.deref.ensures.value) at c.in_ok-imported.ensures in
    e ∙ imported_is c.args.unit.now c.args.uses c.requires

pub returns-clause-defined : goal.returns-clause-defined
returns-clause-defined c =
    let e = rw c.as_slice-functions.ensures.value at c.in_ok-defined.ensures in
    e ∙ defined_is c.args.unit.now

pub returns-clause-named : goal.returns-clause-named
returns-clause-named c =
    let e = rw c.deref-2.ensures.value at c.in_ok-named.ensures in
    e ∙ named_is c.args.unit.now c.args.uses c.requires

pub returns-clause-tables : goal.returns-clause-tables
returns-clause-tables c =
    let index = rw (c.as_slice-functions.ensures.value, c.deref-3.ensures.value, c.deref-4.ensures.value) at c.in_ok-index.ensures in
    let entry = rw (c.as_slice-functions.ensures.value, c.deref-5.ensures.value) at c.in_ok-entry.ensures in
    let first = rw c.as_slice-functions.ensures.value at c.in_ok-number.ensures in
    are_tables c.args.unit.now c.args.uses _ c.requires (returns-clause-imported c) (returns-clause-defined c) (returns-clause-named c) index entry refl
    (c.in-Some.ensures.1 ∙ ap (λ (n : ℕ). n + 3) first)
