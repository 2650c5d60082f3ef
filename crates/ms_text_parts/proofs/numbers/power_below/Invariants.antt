use Rattle.std.proofs.Common.{◌≡◌, ◌-◌}
use Rattle.ms_text_grammar.specs.Numbers.{power_from}
use Rattle.ms_text_parts.proofs.numbers.power_below.Given as goal

abbrev pub invariant-loop-k : goal.invariant-loop-k
invariant-loop-k l = power_from (l.most - l.k) l.k l.n ≡ power_from l.most 0 l.n
