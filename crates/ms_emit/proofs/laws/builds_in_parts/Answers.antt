use Rattle.ms_emit.proofs.Emitting.{emits_block, emits_choice, emits_nothing, emits_one, emits_only, emits_repeat, emits_then, emitted_room, then_whole}
use Rattle.ms_emit.proofs.laws.builds_in_parts.Goals as goal

pub returns-clause-nothing : goal.returns-clause-nothing
returns-clause-nothing c = emits_nothing

pub returns-clause-instruction : goal.returns-clause-instruction
returns-clause-instruction c = λ st i room. emits_one st room i

pub returns-clause-behind : goal.returns-clause-behind
returns-clause-behind c = λ st a b room whole. emits_then st room a b whole

pub returns-clause-block : goal.returns-clause-block
returns-clause-block c = λ st ty a room. emits_block st room ty a

pub returns-clause-repeat : goal.returns-clause-repeat
returns-clause-repeat c = λ st ty a room. emits_repeat st room ty a

pub returns-clause-choice : goal.returns-clause-choice
returns-clause-choice c = λ st ty a b room. emits_choice st room ty a b

pub returns-clause-only : goal.returns-clause-only
returns-clause-only c = λ st ty a room. emits_only st room ty a

pub returns-clause-room : goal.returns-clause-room
returns-clause-room c = λ st a room. emitted_room st a room

pub returns-clause-whole : goal.returns-clause-whole
returns-clause-whole c = then_whole
