-- Where a test is first passed, in a list and in its image.
use Rattle.std.proofs.Common.{◌≡◌, ◌++◌, ℕ, suc, ◌+◌, Bool, true, false, not, cond, List, [], ◌∷◌, Some, None, length, map, nat_lt, refl, sym, ap, ◌∙◌}
use Rattle.std.specs.List.{list_any, position, position_from, position_or_len}
use Rattle.std.specs.Str.{bytes_eq}
use Rattle.std.proofs.lemmas.List.{map-append}
use Rattle.std.proofs.lemmas.Iterator.Adapters.{position_from-zero}
use Rattle.indexmap.specs.IndexSet.{insert_key}
use Rattle.ms_names.specs.Numbered.{number_of}

first-map : {X Y : Type 0} (p : Y → Bool) (f : X → Y) (xs : List X) → position_or_len (λ x. p (f x)) xs ≡ position_or_len p (map f xs)
first-map p f [] = refl
first-map p f (x ∷ xs) = ap (λ n. cond (not (p (f x))) (1 + n) 0) (first-map p f xs)

length-of_map : {X Y : Type 0} (f : X → Y) (xs : List X) → length xs ≡ length (map f xs)
length-of_map f [] = refl
length-of_map f (x ∷ xs) = ap suc (length-of_map f xs)

pub position-map : {X Y : Type 0} (p : Y → Bool) (f : X → Y) (xs : List X) → position (λ x. p (f x)) xs ≡ position p (map f xs)
position-map p f xs =
    ap (λ n. cond (nat_lt n (length xs)) (Some n) None) (first-map p f xs) ∙ ap (λ n. cond (nat_lt (position_or_len p (map f xs)) n) (Some (position_or_len p (map f xs))) None) (length-of_map f xs)

none_at : {X : Type 0} (p : X → Bool) (i : ℕ) (x : X) (xs : List X) → (position_from p (i + 1) xs ≡ None → list_any p xs ≡ false) → (b : Bool) → p x ≡ b → cond b (Some i) (position_from p (i + 1) xs) ≡ None → list_any p (x ∷ xs) ≡ false
none_at p i x xs go true h e = cc
none_at p i x xs go false h e = rw h (go e)

none_from : {X : Type 0} (p : X → Bool) (i : ℕ) (xs : List X) → position_from p i xs ≡ None → list_any p xs ≡ false
none_from p i [] e = refl
none_from p i (x ∷ xs) e = none_at p i x xs (none_from p (i + 1) xs) (p x) refl e

-- nowhere
pub any-none : {X : Type 0} (p : X → Bool) (xs : List X) → position p xs ≡ None → list_any p xs ≡ false
any-none p xs e = none_from p 0 xs (sym (position_from-zero p xs) ∙ e)

abbrev same_text : {T : Type 0} → (T → List ℕ) → T → T → Bool
same_text bytes a b = bytes_eq (bytes a) (bytes b)

-- a key whose text has no number goes last
pub added_name : {T : Type 0} (bytes : T → List ℕ) (keys : List T) (owned : T) (name : List ℕ) → bytes owned ≡ name → number_of (map bytes keys) name ≡ None → map bytes (insert_key (same_text bytes) keys owned) ≡ map bytes keys ++ name ∷ []
added_name bytes keys owned name is absent =
    let test = same_text bytes owned in
    let nowhere : position test keys ≡ None = position-map (bytes_eq (bytes owned)) bytes keys ∙ rw is absent in
    let new : list_any test keys ≡ false = any-none test keys nowhere in
    ap (λ b. map bytes (cond b keys (keys ++ owned ∷ []))) new ∙ map-append bytes keys (owned ∷ []) ∙ ap (λ n. map bytes keys ++ n ∷ []) is
