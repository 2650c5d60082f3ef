use Rattle.std.proofs.Common.{◌≡◌, ◌+◌, refl, Some, None, length, arith}
use Rattle.std.proofs.lemmas.Grind.{common_steps}
use Rattle.ms_text_grammar.specs.Shapes.{least_equal, use_type}
use Rattle.ms_text_names.specs.refinement.Keys.{first_of, key_of}
use Rattle.ms_text_names.proofs.Types.{least_first}
use Rattle.ms_text_names.proofs.sigs.Sigs.least_equal.Goals as goal

pub returns-in-Some : goal.returns-in-Some
returns-in-Some c =
    let ty = use_type c.args.sig.now in
    let first : first_of c.args.self.now (key_of ty) 0 ≡ Some c.in-Some.n = grind (arith, common_steps) in
    let e = least_first ty c.args.self.now 0 (0 + length c.args.self.now) refl in
    let n : c.in-Some.n ≡ 0 + least_equal ty c.args.self.now = rw first at e in
    omega arith

pub returns : goal.returns
returns c =
    let ty = use_type c.args.sig.now in
    let none : first_of c.args.self.now (key_of ty) 0 ≡ None = grind (arith, common_steps) in
    let e = least_first ty c.args.self.now 0 (0 + length c.args.self.now) refl in
    let n : 0 + length c.args.self.now ≡ 0 + least_equal ty c.args.self.now = rw none at e in
    grind (arith, common_steps)
