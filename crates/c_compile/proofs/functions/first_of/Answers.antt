use Rattle.std.proofs.Common.{◌≡◌, ◌∙◌, ℕ, Bool, if◌then◌else◌, IfOk, subst, sym, ap}
use Rattle.c_code.specs.Modules.{first_of}
use Rattle.c_compile.proofs.ObjectFlags.{first_is}
use Rattle.c_compile.proofs.functions.first_of.Goals as goal

pub returns-then-not-is_any_set : goal.returns-then-not-is_any_set
returns-then-not-is_any_set c = λ u p gs h.
    let k = c.args.params in
    sym (first_is u p c.args.flags.now gs k c.is_any_set.result c.requires h c.is_any_set.ensures ∙ ap (λ (b : Bool). if b then k else 0) c.if-not-is_any_set.true)

pub returns : goal.returns
returns c = λ u p gs h.
    let k = c.args.params in
    let e : first_of u p k ≡ k = first_is u p c.args.flags.now gs k c.is_any_set.result c.requires h c.is_any_set.ensures ∙ ap (λ (b : Bool). if b then k else 0) c.if-not-is_any_set.false in
    subst (λ (m : ℕ). IfOk c.number.result (λ n. n ≡ m)) (sym e) c.number.ensures
