-- The items of a body have their operands in their ranges.
use Rattle.std.proofs.Common.{ℕ, suc, List, [], ◌∷◌, ◌≤◌, length, arith}
use Rattle.ms_module.specs.declared.instr.Instr.{Instr}
use Rattle.ms_module.specs.Building.{IsNumbered, State, first_state}
use Rattle.ms_module.proofs.Nesting.{nests}
use Rattle.ms_flat.specs.Flat.{Item, Plain, Begin, Else, End, flat}
use Rattle.ms_flat.specs.refinement.Rebuilt.{AllMayCome, after_item}
use Rattle.ms_flat.proofs.Depths.{flat_may_come}
use Rattle.ms_text_write.specs.Instrs.{AllPlain}

all_plain : (most : ℕ) (st : State) (xs : List Item) → AllMayCome most st xs → AllPlain xs
all_plain most st [] h = tt
all_plain most st (Plain i ∷ xs) h = (h.0, all_plain most (after_item st (Plain i)) xs h.1)
all_plain most st (Begin o ty ∷ xs) h = (tt, all_plain most (after_item st (Begin o ty)) xs h.1)
all_plain most st (Else ∷ xs) h = (tt, all_plain most (after_item st Else) xs h.1)
all_plain most st (End ∷ xs) h = (tt, all_plain most (after_item st End) xs h.1)

pub flat_plain : (ss : List (List Instr)) → IsNumbered ss → AllPlain (flat ss)
flat_plain ss h = let few : length ss ≤ suc (length ss) = omega arith in all_plain (length ss) first_state (flat ss) (flat_may_come (length ss) ss h (nests (length ss) ss h few))
