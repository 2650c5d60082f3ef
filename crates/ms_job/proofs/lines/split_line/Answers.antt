-- The text begins with this line.
use Rattle.std.proofs.Common.{◌∙◌, ◌∷◌, List, ℕ, ◌+◌, ◌-◌, length, drop, ap, sym, arith, length-drop}
use Rattle.std.specs.Str.Lines.{lines}
use Rattle.std.proofs.lemmas.List.{take_all}
use Rattle.ms_job.proofs.LineParts.{lines-first, lines-last}
use Rattle.ms_job.proofs.lines.split_line.Goals as goal

pub returns-in-Some-clause-lines : goal.returns-in-Some-clause-lines
returns-in-Some-clause-lines c =
    let text = c.args.text.now in
    let at = c.in-Some.at in
    let rest = drop (at + 1) text in
    let all = take_all (length text - (at + 1)) rest (omega (arith, length-drop (at + 1) text)) in
    lines-first text at (sym c.line_feed.ensures ∙ c.in-Some.is)
    ∙ ap (λ (line : List ℕ). line ∷ lines rest) (sym c.without_return.ensures)
    ∙ ap (λ (more : List ℕ). c.without_return.result.now ∷ lines more) (sym all)

pub returns-in-None-clause-lines : goal.returns-in-None-clause-lines
returns-in-None-clause-lines c = lines-last c.args.text.now (sym c.line_feed.ensures ∙ c.in-None.is) c.requires
