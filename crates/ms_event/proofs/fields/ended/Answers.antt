use Rattle.std.proofs.Common.{◌++◌, Some, ap, sym, ◌∙◌}
use Rattle.std.proofs.lemmas.Bool.Decides.{Decides-eqb}
use Rattle.std.proofs.lemmas.Slice.Eq.{strip_suffix_is}
use Rattle.ms_event.proofs.Endings.{ends_marked}
use Rattle.ms_event.proofs.fields.ended.Goals as goal

pub returns-in-Some-clause-found : goal.returns-in-Some-clause-found
returns-in-Some-clause-found c = strip_suffix_is Decides-eqb c.args.line.now c.as_bytes.result.now (Some c.in-Some.front) c.in-Some.ensures.cases ∙ ap (λ p. c.in-Some.front.now ++ p) c.as_bytes.ensures.value

pub returns-in-Some-clause-only : goal.returns-in-Some-clause-only
returns-in-Some-clause-only c = λ ns sealed small e.
    let found = strip_suffix_is Decides-eqb c.args.line.now c.as_bytes.result.now (Some c.in-Some.front) c.in-Some.ensures.cases ∙ ap (λ p. c.in-Some.front.now ++ p) c.as_bytes.ensures.value in
    ends_marked ns c.in-Some.front.now sealed small (sym e ∙ found)
