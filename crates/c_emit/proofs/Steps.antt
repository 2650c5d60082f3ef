-- Code that is added, a part behind another: what a function's answer is made of. Where parts stand one behind the other, the search
-- finds `then`; a block wants an answer of a line.
use Rattle.std.proofs.Common.{◌≡◌, ◌∷◌, [], List, ◌<◌, length, true, Bool, Option}
use Rattle.std.specs.Prelude.{Result, Ok, Err, OnOk}
use Rattle.ms_types.specs.declared.types.ValType.{ValType}
use Rattle.ms_module.specs.Building.{State, after_else, begun, closed, may_else, placed}
use Rattle.ms_module.specs.declared.builder.Opening.{Opening}
use Rattle.ms_module.specs.declared.builder.Opening.TheVariants.{Block, Loop, If}
use Rattle.ms_module.specs.declared.instr.Instr.{Instr}
use Rattle.ms_emit.proofs.Adding.{adds_block, adds_choice, adds_nothing, adds_one, adds_only, adds_repeat, adds_then, block_is_open, else_may_come, second_is_open}
use Rattle.ms_emit.specs.Codes.{Code, block, choice, no_code, one, plain, repeat, ◌⨾◌}
use Rattle.ms_emit.specs.refinement.Parts.{Adds}
use Rattle.c_emit.specs.refinement.Steps.{Begins, Ends, Turns}

-- ---- instructions, and parts

pub nothing_added : (s : State) → Adds s s no_code
nothing_added = adds_nothing

pub added : (A E : Type 0) (r : Result A E) (s0 s1 : State) (i : Instr) → OnOk r (s1 ≡ placed s0 i) → OnOk r (Adds s0 s1 (one i))
added A E (Ok x) s0 s1 i e = adds_one s0 s1 i e
added A E (Err x) s0 s1 i e = e

pub then : (A E : Type 0) (r : Result A E) (s0 s1 s2 : State) (a b : Code) → Adds s0 s1 a → OnOk r (Adds s1 s2 b) → OnOk r (Adds s0 s2 (a ⨾ b))
then A E (Ok x) s0 s1 s2 a b h k = adds_then s0 s1 s2 a b h k
then A E (Err x) s0 s1 s2 a b h k = k

-- in three parts, and in four
pub then_two : (A E : Type 0) (r : Result A E) (s0 s1 s2 s3 : State) (a b c : Code)
    → Adds s0 s1 a → Adds s1 s2 b → OnOk r (Adds s2 s3 c) → OnOk r (Adds s0 s3 (a ⨾ b ⨾ c))
then_two A E r s0 s1 s2 s3 a b c h k l = then A E r s0 s1 s3 a (b ⨾ c) h (then A E r s1 s2 s3 b c k l)

pub then_three : (A E : Type 0) (r : Result A E) (s0 s1 s2 s3 s4 : State) (a b c d : Code)
    → Adds s0 s1 a → Adds s1 s2 b → Adds s2 s3 c → OnOk r (Adds s3 s4 d) → OnOk r (Adds s0 s4 (a ⨾ b ⨾ c ⨾ d))
then_three A E r s0 s1 s2 s3 s4 a b c d h k l m = then A E r s0 s1 s4 a (b ⨾ c ⨾ d) h (then_two A E r s1 s2 s3 s4 b c d k l m)

pub then_plain : (A E : Type 0) (r : Result A E) (s0 s1 s2 : State) (i j : Instr) (is : List Instr)
    → Adds s0 s1 (one i) → OnOk r (Adds s1 s2 (plain (j ∷ is))) → OnOk r (Adds s0 s2 (plain (i ∷ j ∷ is)))
then_plain A E (Ok x) s0 s1 s2 i j is h k = adds_then s0 s1 s2 (one i) (plain (j ∷ is)) h k
then_plain A E (Err x) s0 s1 s2 i j is h k = k

-- ---- the builder's calls for blocks

pub begins : (A E : Type 0) (r : Result A E) (s0 s1 : State) (o : Opening) (ty : Option ValType) → OnOk r (s1 ≡ begun s0 o ty) → OnOk r (Begins s0 s1 o ty)
begins A E (Ok x) s0 s1 o ty e = record { is = e }
begins A E (Err x) s0 s1 o ty e = e

pub turns : (s0 s1 : State) → s1 ≡ after_else s0 → Turns s0 s1
turns s0 s1 e = record { is = e }

pub ends : (A E : Type 0) (r : Result A E) (s0 s1 : State) → OnOk r (s1 ≡ closed s0) → OnOk r (Ends s0 s1)
ends A E (Ok x) s0 s1 e = record { is = e }
ends A E (Err x) s0 s1 e = e

pub may_turn : (s0 s1 s2 : State) (ty : Option ValType) (a : Code) → Begins s0 s1 If ty → Adds s1 s2 a → may_else s2.blocks ≡ true
may_turn s0 s1 s2 ty a p = else_may_come s0 s1 s2 ty a p.is

pub may_end : (s0 s1 s2 : State) (o : Opening) (ty : Option ValType) (a : Code) → Begins s0 s1 o ty → Adds s1 s2 a → 0 < length s2.blocks
may_end s0 s1 s2 o ty a p = block_is_open s0 s1 s2 o ty a p.is

pub second_may_end : (s0 s1 s2 s3 s4 : State) (ty : Option ValType) (a b : Code)
    → Begins s0 s1 If ty → Adds s1 s2 a → Turns s2 s3 → Adds s3 s4 b → 0 < length s4.blocks
second_may_end s0 s1 s2 s3 s4 ty a b p h q k = second_is_open s0 s1 s2 s3 s4 ty a b p.is h q.is k

-- ---- blocks

pub then_block : (A E : Type 0) (r : Result A E) (s0 s1 s2 s3 : State) (ty : Option ValType) (a : Code)
    → Begins s0 s1 Block ty → Adds s1 s2 a → OnOk r (Ends s2 s3) → OnOk r (Adds s0 s3 (block ty a))
then_block A E (Ok x) s0 s1 s2 s3 ty a p h e = adds_block s0 s1 s2 s3 ty a p.is h e.is
then_block A E (Err x) s0 s1 s2 s3 ty a p h e = e

pub then_repeat : (A E : Type 0) (r : Result A E) (s0 s1 s2 s3 : State) (ty : Option ValType) (a : Code)
    → Begins s0 s1 Loop ty → Adds s1 s2 a → OnOk r (Ends s2 s3) → OnOk r (Adds s0 s3 (repeat ty a))
then_repeat A E (Ok x) s0 s1 s2 s3 ty a p h e = adds_repeat s0 s1 s2 s3 ty a p.is h e.is
then_repeat A E (Err x) s0 s1 s2 s3 ty a p h e = e

-- an `if` without an `else`
pub then_only : (A E : Type 0) (r : Result A E) (s0 s1 s2 s3 : State) (ty : Option ValType) (a : Code)
    → Begins s0 s1 If ty → Adds s1 s2 a → OnOk r (Ends s2 s3) → OnOk r (Adds s0 s3 (choice ty a no_code))
then_only A E (Ok x) s0 s1 s2 s3 ty a p h e = adds_only s0 s1 s2 s3 ty a p.is h e.is
then_only A E (Err x) s0 s1 s2 s3 ty a p h e = e

pub then_choice : (A E : Type 0) (r : Result A E) (s0 s1 s2 s3 s4 s5 : State) (ty : Option ValType) (a b : Code)
    → Begins s0 s1 If ty → Adds s1 s2 a → Turns s2 s3 → Adds s3 s4 b → OnOk r (Ends s4 s5) → OnOk r (Adds s0 s5 (choice ty a b))
then_choice A E (Ok x) s0 s1 s2 s3 s4 s5 ty a b p h q k e = adds_choice s0 s1 s2 s3 s4 s5 ty a b p.is h q.is k e.is
then_choice A E (Err x) s0 s1 s2 s3 s4 s5 ty a b p h q k e = e

-- the same behind its condition
pub then_if : (A E : Type 0) (r : Result A E) (s0 s1 s2 s3 s4 s5 s6 : State) (ty : Option ValType) (c a b : Code)
    → Adds s0 s1 c → Begins s1 s2 If ty → Adds s2 s3 a → Turns s3 s4 → Adds s4 s5 b → OnOk r (Ends s5 s6) → OnOk r (Adds s0 s6 (c ⨾ choice ty a b))
then_if A E r s0 s1 s2 s3 s4 s5 s6 ty c a b x p h q k e =
    then A E r s0 s1 s6 c (choice ty a b) x (then_choice A E r s1 s2 s3 s4 s5 s6 ty a b p h q k e)
