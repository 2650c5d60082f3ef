-- Each line tells an event more, or is the first that tells none.
use Rattle.std.proofs.Common.{◌≡◌, ◌+◌, ℕ, List, length, sym, subst, arith, rules, tests}
use Rattle.ms_event.specs.declared.event.Event.{Event}
use Rattle.ms_monitor.specs.Traces.{IsNoTrace}
use Rattle.ms_monitor.proofs.Reading.{GoesOn, breaks, ends, one_more}
use Rattle.ms_monitor.proofs.trace.parse_trace.Goals as goal

pub returns-in_default : goal.returns-in_default
returns-in_default c =
    let number : length c.loop-left.events.items ≡ c.len.result = omega (arith, c.len.ensures, c.loop-left.events.ok) in
    subst (λ (n : ℕ). IsNoTrace c.args.text.now (n + 1)) number
    (breaks c.args.text.now c.loop-left.events.items c.loop-left.left.now c.split_line.result.0.now c.split_line.result.1.now c.split_line.ensures.lines c.loop-left.invariant c.in_default.ensures)

pub loop-left-preserved : goal.loop-left-preserved
loop-left-preserved c =
    subst (λ (events : List Event). GoesOn c.args.text.now events c.split_line.result.1.now) (sym c.in-Ok.ensures.items)
    (one_more c.args.text.now c.loop-left.events.items c.loop-left.left.now c.split_line.result.0.now c.split_line.result.1.now c.split_line.ensures.lines c.loop-left.invariant c.in-Some.event c.in-Some.ensures)

pub returns : goal.returns
returns c =
    let none : length c.loop-left.left.now ≡ 0 = search (rules, tests) in
    ends c.args.text.now c.loop-left.events.items c.loop-left.left.now none c.loop-left.invariant
