use Rattle.std.proofs.Common.{◌∙◌, ap, sym}
use Rattle.std.specs.Prelude.{is_some}
use Rattle.c_types.specs.Types.{type_of}
use Rattle.c_code.specs.Functions.{signature}
use Rattle.c_emit.specs.refinement.Keys.{key}
use Rattle.c_emit.proofs.Keyed.{is_added, there}
use Rattle.c_emit.proofs.signatures.Signatures.add.Goals as goal

pub returns-then-is_some-clause-ok : goal.returns-then-is_some-clause-ok
returns-then-is_some-clause-ok c =
    there c.self.inside.types (signature (type_of c.args.t.now)) c.deref.result.now c.args.self.now c.self.invariant c.self.view_is
    (c.deref.ensures.value ∙ c.in_ok-key.ensures ∙ ap key c.in_ok-ty.ensures)
    (ap is_some (sym c.find.ensures) ∙ sym c.is_some.ensures ∙ c.if-is_some.true)

pub returns-clause-ok : goal.returns-clause-ok
returns-clause-ok c =
    is_added c.insert.result c.self.inside.types c.insert.new.types c.in_ok-key.key c.in_ok-ty.ty (signature (type_of c.args.t.now)) c.deref.result.now c.args.self.now
    c.self.invariant c.self.view_is c.in_ok-ty.ensures (c.deref.ensures.value ∙ c.in_ok-key.ensures ∙ ap key c.in_ok-ty.ensures)
    (ap is_some (sym c.find.ensures) ∙ sym c.is_some.ensures ∙ c.if-is_some.false) c.insert.ensures.ok
