-- What is left of a body that is gone through: the place in the innermost sequence, and the places around it to which the
-- ends of blocks lead back.
use Rattle.std.specs.Prelude.{◌≡◌, ◌<◌, ℕ, List, [], ◌∷◌, ◌++◌, drop, Option, Some, None}
use Rattle.std.specs.List.{flat_map}
use Rattle.ms_module.specs.declared.instr.Instr.{Instr}
use Rattle.ms_module.specs.Numbered.{sequence_at}
use Rattle.ms_module.specs.declared.instr.Instr.TheVariants as instr
use Rattle.ms_module.specs.declared.builder.Opening.TheVariants as opening
use Rattle.ms_flat.specs.declared.walk.Block.{Block}
use Rattle.ms_flat.specs.declared.walk.Place.{Place}
use Rattle.ms_flat.specs.declared.walk.Step.{Step}
use Rattle.ms_flat.specs.declared.walk.Step.TheVariants as step
use Rattle.ms_flat.specs.Flat.{Item, Plain, Begin, Else, End, items_of, sequence_items}

-- the block that an instruction is
abbrev pub block_of : Instr → Option Block
block_of (instr.Block ty body) = Some (record { opening = opening.Block; ty = ty; first = body; other = None })
block_of (instr.Loop ty body) = Some (record { opening = opening.Loop; ty = ty; first = body; other = None })
block_of (instr.If ty first other) = Some (record { opening = opening.If; ty = ty; first = first; other = other })
block_of _ = None

-- what is left of the sequence in which the place is
abbrev pub rest_of : List (List Instr) → Place → List Item
rest_of ss p = flat_map (items_of (sequence_items ss)) (drop p.next (sequence_at ss p.sequence))

-- an else arm, if there is one, and what follows
abbrev pub else_then : List (List Instr) → Option ℕ → List Item → List Item
else_then ss None t = t
else_then ss (Some k) t = Else ∷ (sequence_items ss k ++ t)

abbrev pub around_items : List (List Instr) → List Place → List Item
around_items ss [] = []
around_items ss (p ∷ ps) = End ∷ (rest_of ss p ++ else_then ss p.other (around_items ss ps))

abbrev pub left : List (List Instr) → Place → List Place → List Item
left ss p ps = rest_of ss p ++ else_then ss p.other (around_items ss ps)

-- the sequences of places are among so many
abbrev pub OtherWithin : ℕ → Option ℕ → Type 0
OtherWithin n None = Unit {0}
OtherWithin n (Some k) = k < n

abbrev pub Within : ℕ → Place → Type 0
Within n p = (p.sequence < n) × OtherWithin n p.other

abbrev pub AllWithin : ℕ → List Place → Type 0
AllWithin n [] = Unit {0}
AllWithin n (p ∷ ps) = Within n p × AllWithin n ps

-- the item that a step is
abbrev pub item_of : Step → Item
item_of (step.Plain i) = Plain i.now
item_of (step.Begin opening ty) = Begin opening ty
item_of step.Else = Else
item_of step.End = End

-- it is no block
abbrev pub IsStep : Step → Type 0
IsStep (step.Plain i) = block_of i.now ≡ None
IsStep _ = Unit {0}

-- a step is the first of the items, and the others are left
abbrev pub Goes : Option Step → List Item → List Item → Type 0
Goes None old new = (old ≡ []) × (new ≡ [])
Goes (Some s) old new = (old ≡ item_of s ∷ new) × IsStep s
