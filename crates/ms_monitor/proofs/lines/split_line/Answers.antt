-- The text begins with this line.
use Rattle.std.proofs.Common.{◌∙◌, ◌∷◌, List, ℕ, ◌+◌, ◌-◌, length, take, drop, ap, sym, arith, length-drop}
use Rattle.std.proofs.lemmas.List.{take_all}
use Rattle.ms_monitor.specs.Traces.{lines_of}
use Rattle.ms_monitor.proofs.FirstLine.{last_line, line_and_rest}
use Rattle.ms_monitor.proofs.lines.split_line.Goals as goal

pub returns-in-Some-clause-lines : goal.returns-in-Some-clause-lines
returns-in-Some-clause-lines c =
    let text = c.args.text.now in
    let at = c.in-Some.at in
    let rest = drop (at + 1) text in
    let all = take_all (length text - (at + 1)) rest (omega (arith, length-drop (at + 1) text)) in
    line_and_rest text at (sym c.line_feed.ensures ∙ c.in-Some.is) ∙ ap (λ (more : List ℕ). take at text ∷ lines_of more) (sym all)

pub returns-in-None-clause-lines : goal.returns-in-None-clause-lines
returns-in-None-clause-lines c = last_line c.args.text.now (sym c.line_feed.ensures ∙ c.in-None.is) c.requires
