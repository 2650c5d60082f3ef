use Rattle.std.proofs.Common.{◌≡◌, ◌∙◌, sym, ap, ℕ, Some, true, false, arith}
use Rattle.ms_text_grammar.specs.Identifiers.{is_named}
use Rattle.ms_text_names.proofs.Lists.{found_here, found_past}
use Rattle.ms_text_names.proofs.labels.found.Goals as goal

pub returns-then-is_named : goal.returns-then-is_named
returns-then-is_named c =
    let l = c.loop-depth in
    let named : is_named c.args.source.now c.get.result c.args.id ≡ true = grind arith in
    let n : c.in_ok-number.field-0 ≡ l.depth = grind arith in
    ap (λ (m : ℕ). Some m) n ∙ sym (found_here c.args.source.now c.args.labels.now c.args.id l.depth c.get.result c.get.ensures named) ∙ l.invariant

pub loop-depth-preserved : goal.loop-depth-preserved
loop-depth-preserved c =
    let l = c.loop-depth in
    let named : is_named c.args.source.now c.get.result c.args.id ≡ false = grind arith in
    found_past c.args.source.now c.args.labels.now c.args.id l.depth c.get.result c.get.ensures named ∙ l.invariant
