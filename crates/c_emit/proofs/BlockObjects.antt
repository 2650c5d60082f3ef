-- The objects of a block, which stand behind those of the blocks around it, the first one last.
use Rattle.std.proofs.Common.{◌≡◌, ◌∙◌, ◌+◌, ◌-◌, ◌<◌, ◌≤◌, ℕ, Bool, true, false, cond, List, [], ◌∷◌, ◌++◌, length, map, filter, reverse, get_or, drop, append_assoc, append-nil, sym, ap, refl}
use Rattle.std.proofs.lemmas.List.{drop_all, reverse-append, reverse-reverse}
use Rattle.std.proofs.lemmas.List.Elements.{filter-append}
use Rattle.c_types.specs.Types.{Ty}
use Rattle.c_typed.specs.declared.ops.Variable.{Variable}
use Rattle.c_typed.specs.declared.ops.Variable.TheVariants.{Local}
use Rattle.c_code.specs.Statements.{object_of, objects_in}
use Rattle.c_code.specs.Targets.{Target}
use Rattle.c_emit.proofs.Items.{item_at}

-- ---- the objects among slots

module _ (t : Target) (slots : List Ty) where
  objects_append : (ms ns : List ℕ) → objects_in t slots (ms ++ ns) ≡ objects_in t slots ms ++ objects_in t slots ns
  objects_append ms ns = ap (map Local) (filter-append (object_of t slots) ms ns) ∙ map_append (filter (object_of t slots) ms) where
    map_append : (xs : List ℕ) → map Local (xs ++ filter (object_of t slots) ns) ≡ map Local xs ++ objects_in t slots ns
    map_append [] = refl
    map_append (x ∷ xs) = ap (λ (l : List Variable). Local x ∷ l) (map_append xs)

  one_object : (n : ℕ) → objects_in t slots (n ∷ []) ≡ reverse (objects_in t slots (n ∷ []))
  one_object n = by (object_of t slots n) where
    by : (b : Bool) → map Local (cond b (n ∷ []) []) ≡ reverse (map Local (cond b (n ∷ []) []))
    by true = refl
    by false = refl

  pub objects_reverse : (ns : List ℕ) → objects_in t slots (reverse ns) ≡ reverse (objects_in t slots ns)
  objects_reverse [] = refl
  objects_reverse (n ∷ ns) =
      ap (objects_in t slots) (reverse-append (n ∷ []) ns)
      ∙ objects_append (reverse ns) (n ∷ [])
      ∙ ap (λ (l : List Variable). l ++ objects_in t slots (n ∷ [])) (objects_reverse ns)
      ∙ ap (λ (l : List Variable). reverse (objects_in t slots ns) ++ l) (one_object n)
      ∙ sym (reverse-append (objects_in t slots (n ∷ [])) (objects_in t slots ns))
      ∙ ap reverse (sym (objects_append (n ∷ []) ns))

  -- the objects so far, and those that are left
  pub object_pushed : (os os' all : List Variable) (ns : List ℕ) (i k n : ℕ) → i < length ns → n ≡ get_or ns i n → k ≡ i + 1
      → os ++ objects_in t slots (drop i ns) ≡ all → os' ≡ os ++ objects_in t slots (n ∷ []) → os' ++ objects_in t slots (drop k ns) ≡ all
  object_pushed os os' all ns i k n l e next so h =
      ap (λ (x : List Variable). x ++ objects_in t slots (drop k ns)) h
      ∙ append_assoc os (objects_in t slots (n ∷ [])) (objects_in t slots (drop k ns))
      ∙ ap (λ (x : List Variable). os ++ x) (sym (objects_append (n ∷ []) (drop k ns)))
      ∙ ap (λ (x : List ℕ). os ++ objects_in t slots x) (sym (item_at ns i k n l e next))
      ∙ so

  pub all_pushed : (os os' : List Variable) (ns : List ℕ) (i : ℕ) → length (reverse ns) ≤ i
      → os' ++ objects_in t slots (drop i (reverse ns)) ≡ os ++ objects_in t slots (reverse ns) → os' ≡ os ++ reverse (objects_in t slots ns)
  all_pushed os os' ns i l so =
      sym (append-nil os')
      ∙ ap (λ (x : List ℕ). os' ++ objects_in t slots x) (sym (drop_all i (reverse ns) l))
      ∙ so
      ∙ ap (λ (x : List Variable). os ++ x) (objects_reverse ns)

-- ---- behind those of the blocks around it

pub are_in_front : (all vs ws : List Variable) → all ≡ ws ++ reverse vs → reverse all ≡ vs ++ reverse ws
are_in_front all vs ws is = ap reverse is ∙ reverse-append ws (reverse vs) ∙ ap (λ (l : List Variable). l ++ reverse ws) (reverse-reverse vs)
