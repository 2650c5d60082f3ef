use Rattle.c_numbers.proofs.Conversions.{constant_is, convert_is, not_is, truth_is}
use Rattle.c_numbers.proofs.Operators.{comparison, complement, negation, operation}
use Rattle.c_numbers.proofs.Ranges.{value_in}
use Rattle.c_numbers.proofs.laws.numbers_agree.Goals as goal

pub returns-clause-constants : goal.returns-clause-constants
returns-clause-constants c = constant_is

pub returns-clause-values : goal.returns-clause-values
returns-clause-values c = value_in

pub returns-clause-operators : goal.returns-clause-operators
returns-clause-operators c = λ o t x y rest p i j. operation o t p x y rest i j

pub returns-clause-relations : goal.returns-clause-relations
returns-clause-relations c = λ o t x y rest p i j. comparison o t p x y rest i j

pub returns-clause-negation : goal.returns-clause-negation
returns-clause-negation c = λ t x rest p. negation t p x rest

pub returns-clause-complement : goal.returns-clause-complement
returns-clause-complement c = λ t x rest p. complement t p x rest

pub returns-clause-conditions : goal.returns-clause-conditions
returns-clause-conditions c = λ t x n rest i. truth_is t x rest n i

pub returns-clause-negated_conditions : goal.returns-clause-negated_conditions
returns-clause-negated_conditions c = λ t x rest e i. not_is t x rest e i

pub returns-clause-conversions : goal.returns-clause-conversions
returns-clause-conversions c = λ t u x n rest i. convert_is t u x n rest i
