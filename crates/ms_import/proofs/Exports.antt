-- Exports by the numbers of their names.
use Rattle.std.proofs.Common.{◌≡◌, ℕ, suc, ◌+◌, ◌<◌, Bool, true, false, cond, List, [], ◌∷◌, ◌++◌, drop, length, map, get_or, slice_get, Some, None, refl, sym, ap, ◌∙◌, subst, arith}
use Rattle.std.proofs.lemmas.List.{drop_more}
use Rattle.std.specs.Option.{option_and_then}
use Rattle.std.specs.List.{find, position_from}
use Rattle.std.specs.Str.{bytes_eq}
use Rattle.std.proofs.lemmas.Iterator.Adapters.{position_from-zero}
use Rattle.std.proofs.lemmas.Slice.Eq.{bytes_eq-Decides}
use Rattle.ms_module.specs.declared.module.Export.{Export}
use Rattle.ms_names.specs.Numbered.{number_of}
use Rattle.ms_rules.specs.Modules.{AreDistinct, IsNotAmong}
use Rattle.ms_machine.specs.declared.store.Instance.{Instance}
use Rattle.ms_machine.specs.Externs.{at_index, exported}

-- the next item
pub next_is : {A : Type 0} (xs : List A) (k : ℕ) (x : A) → k < length xs → x ≡ get_or xs k x → drop k xs ≡ x ∷ drop (k + 1) xs
next_is xs k x lt read = drop_more xs k x lt ∙ ap (λ y. y ∷ drop (k + 1) xs) (sym read)

differs : (x y : List ℕ) → ¬ (x ≡ y) → bytes_eq y x ≡ false
differs x y apart = by (bytes_eq y x) refl where
  by : (b : Bool) → bytes_eq y x ≡ b → bytes_eq y x ≡ false
  by true e = absurd (apart (sym ((bytes_eq-Decides y x).0 e)))
  by false e = e

not_among : (x : List ℕ) (xs : List (List ℕ)) (y : List ℕ) (ys : List (List ℕ)) → IsNotAmong x (xs ++ y ∷ ys) → ¬ (x ≡ y)
not_among x [] y ys h = h.0
not_among x (z ∷ xs) y ys h = not_among x xs y ys h.1

new_from : (n : ℕ) (xs : List (List ℕ)) (y : List ℕ) (ys : List (List ℕ)) → AreDistinct (xs ++ y ∷ ys) → position_from (bytes_eq y) n xs ≡ None
new_from n [] y ys h = refl
new_from n (x ∷ xs) y ys h = ap (λ b. cond b (Some n) (position_from (bytes_eq y) (n + 1) xs)) (differs x y (not_among x xs y ys h.0)) ∙ new_from (n + 1) xs y ys h.1

-- among different names the next one is new
pub is_new : (xs : List (List ℕ)) (y : List ℕ) (ys : List (List ℕ)) → AreDistinct (xs ++ y ∷ ys) → number_of xs y ≡ None
is_new xs y ys h = position_from-zero (bytes_eq y) xs ∙ new_from 0 xs y ys h

abbrev pub name_of : Export → List ℕ
name_of e = e.name

found_from : (name : List ℕ) (n : ℕ) (es : List Export) (k : ℕ) → position_from (bytes_eq name) n (map name_of es) ≡ Some k → (j : ℕ) × (k ≡ n + j) × (find (λ (e : Export). bytes_eq name e.name) es ≡ slice_get es j)
found_from name n [] k e = cc
found_from name n (x ∷ es) k e = by (bytes_eq name x.name) refl (found_from name (n + 1) es k) e where
  by : (b : Bool) → bytes_eq name x.name ≡ b → (position_from (bytes_eq name) (n + 1) (map name_of es) ≡ Some k → (j : ℕ) × (k ≡ n + 1 + j) × (find (λ (e : Export). bytes_eq name e.name) es ≡ slice_get es j))
      → cond b (Some n) (position_from (bytes_eq name) (n + 1) (map name_of es)) ≡ Some k → (j : ℕ) × (k ≡ n + j) × (find (λ (e : Export). bytes_eq name e.name) (x ∷ es) ≡ slice_get (x ∷ es) j)
  by true is later e = (0, (let same : n ≡ k = cc in omega arith), ap (λ b. cond b (Some x) (find (λ (e : Export). bytes_eq name e.name) es)) is)
  by false is later e =
      let h = later e in
      (suc h.0, (let at = h.1 in omega arith), ap (λ b. cond b (Some x) (find (λ (e : Export). bytes_eq name e.name) es)) is ∙ h.2)

missed_from : (name : List ℕ) (n : ℕ) (es : List Export) → position_from (bytes_eq name) n (map name_of es) ≡ None → find (λ (e : Export). bytes_eq name e.name) es ≡ None
missed_from name n [] e = refl
missed_from name n (x ∷ es) e = by (bytes_eq name x.name) refl (missed_from name (n + 1) es) e where
  by : (b : Bool) → bytes_eq name x.name ≡ b → (position_from (bytes_eq name) (n + 1) (map name_of es) ≡ None → find (λ (e : Export). bytes_eq name e.name) es ≡ None)
      → cond b (Some n) (position_from (bytes_eq name) (n + 1) (map name_of es)) ≡ None → find (λ (e : Export). bytes_eq name e.name) (x ∷ es) ≡ None
  by true is later e = cc
  by false is later e = ap (λ b. cond b (Some x) (find (λ (e : Export). bytes_eq name e.name) es)) is ∙ later e

pub exported_at : (name : List ℕ) (i : Instance) (k : ℕ) → number_of (map name_of i.exports) name ≡ Some k → exported name i ≡ option_and_then (λ (e : Export). at_index i e.desc) (slice_get i.exports k)
exported_at name i k e =
    let h = found_from name 0 i.exports k (sym (position_from-zero (bytes_eq name) (map name_of i.exports)) ∙ e) in
    let same : h.0 ≡ k = omega (arith, h.1) in
    ap (option_and_then (λ (e : Export). at_index i e.desc)) (h.2 ∙ ap (slice_get i.exports) same)

pub exported_none : (name : List ℕ) (i : Instance) → number_of (map name_of i.exports) name ≡ None → exported name i ≡ None
exported_none name i e =
    ap (option_and_then (λ (e : Export). at_index i e.desc)) (missed_from name 0 i.exports (sym (position_from-zero (bytes_eq name) (map name_of i.exports)) ∙ e))

-- the next export has a new name
pub name_new : (names : List (List ℕ)) (es : List Export) (k : ℕ) (e : Export) (text : List ℕ) → names ++ map name_of (drop k es) ≡ map name_of es → AreDistinct (map name_of es) → k < length es → e ≡ get_or es k e → text ≡ e.name
    → number_of names text ≡ None
name_new names es k e text so distinct lt read is =
    let left = ap (λ l. names ++ map name_of l) (next_is es k e lt read) in
    ap (number_of names) is ∙ is_new names e.name (map name_of (drop (k + 1) es)) (subst AreDistinct (sym so ∙ left) distinct)
