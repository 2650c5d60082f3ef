use Rattle.std.proofs.Common.{◌≡◌, drop}
use Rattle.c_lex.specs.Numbers.{first_holding}
use Rattle.c_lex.proofs.numbers.first_holding.Given as goal

abbrev pub invariant-loop-ty : goal.invariant-loop-ty
invariant-loop-ty l = first_holding l.value (drop l.ty-index l.types) ≡ first_holding l.value l.types
