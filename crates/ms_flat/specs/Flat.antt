-- A body in the order in which it is written (WebAssembly 1.0, 5.4.1 and 6.5.2): its instructions that are no blocks, and of
-- each block the beginning, the `else` and the `end`.
use Rattle.std.specs.Prelude.{ℕ, zero, suc, List, [], ◌∷◌, ◌++◌, length, Option, Some, None}
use Rattle.std.specs.List.{flat_map}
use Rattle.ms_types.specs.declared.types.ValType.{ValType}
use Rattle.ms_module.specs.declared.instr.Instr.{Instr}
use Rattle.ms_module.specs.declared.instr.Instr.TheVariants as instr
use Rattle.ms_module.specs.declared.builder.Opening.{Opening}
use Rattle.ms_module.specs.declared.builder.Opening.TheVariants as opening
use Rattle.ms_module.specs.Numbered.{sequence_at}

pub data Item : Type 0 where
  Plain : Instr → Item
  Begin : Opening → Option ValType → Item
  Else : Item
  End : Item

-- the items of an instruction, where F gives those of each sequence that it names
abbrev pub items_of : (ℕ → List Item) → Instr → List Item
items_of F (instr.Block ty body) = Begin opening.Block ty ∷ (F body ++ End ∷ [])
items_of F (instr.Loop ty body) = Begin opening.Loop ty ∷ (F body ++ End ∷ [])
items_of F (instr.If ty first None) = Begin opening.If ty ∷ (F first ++ End ∷ [])
items_of F (instr.If ty first (Some second)) = Begin opening.If ty ∷ (F first ++ Else ∷ (F second ++ End ∷ []))
items_of F i = Plain i ∷ []

-- the items of the sequence of number k, up to d sequences in one another
unfoldable pub items_within : ℕ → List (List Instr) → ℕ → List Item
items_within zero ss k = []
items_within (suc d) ss k = flat_map (items_of (items_within d ss)) (sequence_at ss k)

-- All items of that sequence: no more sequences are in one another than there are.
unfoldable pub sequence_items : List (List Instr) → ℕ → List Item
sequence_items ss k = items_within (length ss) ss k

-- the items of a body
abbrev pub flat : List (List Instr) → List Item
flat ss = sequence_items ss 0
