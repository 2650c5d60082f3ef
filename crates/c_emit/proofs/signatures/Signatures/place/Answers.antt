use Rattle.std.proofs.Common.{◌≡◌, ◌∙◌, ℕ, ap, sym, subst}
use Rattle.std.specs.Prelude.{IfOk}
use Rattle.c_types.specs.Types.{type_of}
use Rattle.c_code.specs.Functions.{signature}
use Rattle.c_code.specs.Modules.{place_of}
use Rattle.c_emit.specs.refinement.Keys.{key}
use Rattle.c_emit.proofs.Keyed.{place_is}
use Rattle.c_emit.proofs.signatures.Signatures.place.Goals as goal

pub returns-in-Some : goal.returns-in-Some
returns-in-Some c =
    let t = signature (type_of c.args.t.now) in
    let found : c.in-Some.place ≡ place_of t c.args.self.now =
    place_is c.self.inside.types t c.deref.result.now c.in-Some.place c.self.invariant
    (c.deref.ensures.value ∙ c.in_ok-key.ensures ∙ ap key c.in_ok-signature.ensures) (sym c.find.ensures ∙ c.in-Some.is)
    ∙ ap (place_of t) c.self.view_is in
    subst (λ (k : ℕ). IfOk c.number.result (λ n. n ≡ k)) found c.number.ensures
