use Rattle.ms_text_grammar.proofs.Agreeing.{agree_from_scan, scan_from_agree}
use Rattle.ms_text_grammar.proofs.laws.scanned_uses_are_those_of_fields.Goals as goal

pub returns-clause-agree : goal.returns-clause-agree
returns-clause-agree c = λ source bounds tokens fields h none. agree_from_scan source bounds tokens fields h none

pub returns-clause-none : goal.returns-clause-none
returns-clause-none c = λ source bounds tokens fields h all. scan_from_agree source bounds tokens fields h all
