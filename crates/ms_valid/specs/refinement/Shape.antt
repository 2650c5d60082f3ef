-- What validation knows of the operand types: a shape stands for the lists of types that it admits, the topmost first.
use Rattle.std.specs.Prelude.{◌≡◌, List, [], ◌∷◌, ◌++◌, Option, Some, None, Bool, true, false}
use Rattle.ms_types.specs.declared.types.ValType.{ValType}
use Rattle.ms_module.specs.declared.instr.Instr.{Instr}
use Rattle.ms_module.specs.declared.instr.Instr.TheVariants.{Block, Loop, If}
use Rattle.ms_rules.specs.Context.{Context}
use Rattle.ms_rules.specs.Typing.{Known, Rel, SequenceTyped}

-- The types of the operands since the start of a block, the topmost first; None is any type. In dead code any further
-- types lie below them.
pub record Shape : Type 0 where
  pub slots : List (Option ValType)
  pub dead : Bool

abbrev pub shape : List (Option ValType) → Bool → Shape
shape slots dead = record { slots = slots; dead = dead }

-- the slot admits the type
abbrev pub Allows : Option ValType → ValType → Type 0
Allows None t = Unit {0}
Allows (Some x) t = x ≡ t

abbrev pub HasTypes : List (Option ValType) → Bool → List ValType → Type 0
HasTypes [] false ts = ts ≡ []
HasTypes [] true ts = Unit {0}
HasTypes (u ∷ us) dead [] = ⊥
HasTypes (None ∷ us) dead (t ∷ ts) = HasTypes us dead ts
HasTypes (Some x ∷ us) dead (t ∷ ts) = (x ≡ t) × HasTypes us dead ts

abbrev pub Admits : Shape → List ValType → Type 0
Admits a ts = HasTypes a.slots a.dead ts

-- the new shape admits exactly what R makes of the types that the old one admits
pub record Becomes (a : Shape) (R : Rel) (b : Shape) : Type 0 where
  pub reached : (t1 t2 : List ValType) → Admits a t1 → R t1 t2 → Admits b t2
  pub from : (t2 : List ValType) → Admits b t2 → (t1 : List ValType) × Admits a t1 × R t1 t2

-- R makes nothing of the types that the shape admits
pub record Stuck (a : Shape) (R : Rel) : Type 0 where
  pub none : (t1 t2 : List ValType) → Admits a t1 → R t1 t2 → ⊥

-- what an instruction's function answers: whether R makes something of the old shape, and then the new shape is that
abbrev pub DecidesOn : Bool → Shape → Rel → Shape → Type 0
DecidesOn true a R b = Becomes a R b
DecidesOn false a R b = Stuck a R

-- ---- parts of instructions

-- takes these types, the topmost first
abbrev pub Takes : List ValType → Rel
Takes p t1 t2 = t1 ≡ p ++ t2

-- puts these on top
abbrev pub Gives : List ValType → Rel
Gives g t1 t2 = t2 ≡ g ++ t1

-- goes elsewhere: after it any types are possible
abbrev pub Jumps : Rel
Jumps t1 t2 = Unit {0}

-- takes two operands of one type and gives one of them
abbrev pub Merges : Rel
Merges t1 t2 = (t : ValType) × (r : List ValType) × (t1 ≡ t ∷ t ∷ r) × (t2 ≡ t ∷ r)

-- one part, then the other
abbrev pub Then : Rel → Rel → Rel
Then R S t1 t2 = (t : List ValType) × R t1 t × S t t2

-- ---- the topmost slot, and the slots below it

abbrev pub front : List (Option ValType) → Bool → Option (Option ValType)
front [] false = None
front [] true = Some None
front (u ∷ us) dead = Some u

abbrev pub behind : List (Option ValType) → List (Option ValType)
behind [] = []
behind (u ∷ us) = us

-- ---- sequences

-- from some types that the shape admits, these instructions lead to those at the end
pub record Finishes (K : Known) (c : Context) (labels : List (Option ValType)) (a : Shape) (is : List Instr) (end : List ValType) : Type 0 where
  pub start : List ValType
  pub admits : Admits a start
  pub typed : SequenceTyped K c labels is start end

-- it has no sequence inside
abbrev pub IsSimple : Instr → Type 0
IsSimple (Block ty body) = ⊥
IsSimple (Loop ty body) = ⊥
IsSimple (If ty then other) = ⊥
IsSimple _ = Unit {0}
