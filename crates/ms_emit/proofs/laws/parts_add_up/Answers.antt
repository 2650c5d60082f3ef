use Rattle.ms_emit.proofs.Adding.{adds_block, adds_choice, adds_nothing, adds_one, adds_only, adds_repeat, adds_then, block_is_open, else_may_come, second_is_open}
use Rattle.ms_emit.proofs.laws.parts_add_up.Goals as goal

pub returns-clause-nothing : goal.returns-clause-nothing
returns-clause-nothing c = adds_nothing

pub returns-clause-instruction : goal.returns-clause-instruction
returns-clause-instruction c = adds_one

pub returns-clause-behind : goal.returns-clause-behind
returns-clause-behind c = adds_then

pub returns-clause-block : goal.returns-clause-block
returns-clause-block c = adds_block

pub returns-clause-repeat : goal.returns-clause-repeat
returns-clause-repeat c = adds_repeat

pub returns-clause-only : goal.returns-clause-only
returns-clause-only c = adds_only

pub returns-clause-choice : goal.returns-clause-choice
returns-clause-choice c = adds_choice

pub returns-clause-else_may_come : goal.returns-clause-else_may_come
returns-clause-else_may_come c = else_may_come

pub returns-clause-is_open : goal.returns-clause-is_open
returns-clause-is_open c = block_is_open

pub returns-clause-second_is_open : goal.returns-clause-second_is_open
returns-clause-second_is_open c = second_is_open
