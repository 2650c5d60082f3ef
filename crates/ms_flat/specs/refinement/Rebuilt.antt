-- What a list of items builds, from left to right (`Building` of `ms_module`).
use Rattle.std.specs.Prelude.{◌≡◌, ◌<◌, ℕ, List, [], ◌∷◌, length, true}
use Rattle.ms_module.specs.Building.{State, begun, closed, may_else, placed, after_else}
use Rattle.ms_module.specs.Numbered.{IsPlain}
use Rattle.ms_flat.specs.Flat.{Item, Plain, Begin, Else, End}

abbrev pub after_item : State → Item → State
after_item st (Plain i) = placed st i
after_item st (Begin opening ty) = begun st opening ty
after_item st Else = after_else st
after_item st End = closed st

abbrev pub after : State → List Item → State
after st [] = st
after st (x ∷ xs) = after (after_item st x) xs

-- whether an item may come, with fewer than `most` blocks open before one begins
abbrev pub MayCome : ℕ → State → Item → Type 0
MayCome most st (Plain i) = IsPlain i
MayCome most st (Begin opening ty) = length st.blocks < most
MayCome most st Else = may_else st.blocks ≡ true
MayCome most st End = 0 < length st.blocks

abbrev pub AllMayCome : ℕ → State → List Item → Type 0
AllMayCome most st [] = Unit {0}
AllMayCome most st (x ∷ xs) = MayCome most st x × AllMayCome most (after_item st x) xs
