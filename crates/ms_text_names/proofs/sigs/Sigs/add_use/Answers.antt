use Rattle.std.proofs.Common.{◌≡◌, ◌∙◌, refl, true, false, None, arith}
use Rattle.std.proofs.lemmas.Grind.{common_steps}
use Rattle.ms_text_grammar.specs.Shapes.{has_type, use_type}
use Rattle.ms_text_names.proofs.Types.{has_first}
use Rattle.ms_text_names.proofs.sigs.Sigs.add_use.Goals as goal

pub returns-then-is_some-2 : goal.returns-then-is_some-2
returns-then-is_some-2 c =
    let ty = use_type c.args.sig.now in
    let none : c.args.sig.now.sig ≡ None = grind arith in
    let e : has_type ty c.args.self.now ≡ true = has_first ty c.args.self.now 0 ∙ grind (arith, common_steps) in
    rw (none, e) refl

pub returns : goal.returns
returns c =
    let ty = use_type c.args.sig.now in
    let none : c.args.sig.now.sig ≡ None = grind arith in
    let e : has_type ty c.args.self.now ≡ false = has_first ty c.args.self.now 0 ∙ grind (arith, common_steps) in
    rw (none, e) (grind (arith, common_steps))
