use Rattle.std.proofs.Common.{lit<, ◌≡◌, ◌≤◌, ◌<◌, ℕ, ◌+◌, ◌-◌, Some, take, drop, sym, ap, ◌∙◌, arith}
use Rattle.std.proofs.Math.Nat.{one-le-pow}
use Rattle.ms_tagged.specs.refinement.Granules.{number_of, piece_bit}
use Rattle.ms_tagged.proofs.GranuleBytes.{number-past, number-read, width-few}
use Rattle.ms_tagged.proofs.granules.GranulesTagged.get.Goals as goal

pub hold_data-requires-clause-some : goal.hold_data-requires-clause-some
hold_data-requires-clause-some c = let few = width-few c.args.width c.requires.width in omega arith

pub hold_data-requires-clause-few : goal.hold_data-requires-clause-few
hold_data-requires-clause-few c = let few = width-few c.args.width c.requires.width in omega arith

pub returns-then-hold_data-clause-number : goal.returns-then-hold_data-clause-number
returns-then-hold_data-clause-number c =
    let held = c.hold_data.ensures.0 c.if-hold_data.true in
    let none : (i : ℕ) → c.args.address ≤ i → i < c.args.address + c.args.width → piece_bit c.self.inside.masks.items i ≡ 0 = λ i above below. ap (λ masks. piece_bit masks i) (sym c.deref.ensures.value) ∙ held.none i above below in
    let k : c.args.address + c.args.width - c.args.address ≡ c.args.width = omega arith in
    let read = number-read c.self.inside.plain.items c.self.inside.masks.items c.self.inside.handles.items c.args.self.now c.self.inside.capacity c.args.address c.args.width c.self.view_is c.requires.within (omega (arith, held.there)) none in
    ap Some (c.read_word.ensures.number ∙ (ap (λ n. number_of (take n (drop c.args.address c.deref-then-hold_data.result.now))) k ∙ ap (λ l. number_of (take c.args.width (drop c.args.address l))) c.deref-then-hold_data.ensures.value)) ∙ sym read

pub returns-then-from-len-clause-number : goal.returns-then-from-len-clause-number
returns-then-from-len-clause-number c =
    sym (number-past c.self.inside.plain.items c.self.inside.masks.items c.self.inside.handles.items c.args.self.now c.self.inside.capacity c.args.address c.args.width c.self.view_is c.requires.within (omega arith) (omega arith))

pub returns-then-from-len-clause-fits : goal.returns-then-from-len-clause-fits
returns-then-from-len-clause-fits c = one-le-pow c.args.width 256 (lit< tt)
