-- Lists read from their ends.
use Rattle.std.proofs.Common.{◌≡◌, ℕ, suc, ◌+◌, ◌-◌, ◌<◌, ◌≤◌, List, [], ◌∷◌, ◌++◌, length, reverse, drop, take, slice_set, sym, ap, ◌∙◌, arith, length-drop}
use Rattle.std.proofs.lemmas.List.{reverse-append, length-reverse, take-append-drop, set_split}
use Rattle.std.proofs.lemmas.Grind.{common_steps}

drop_front : {X : Type 0} (xs ys : List X) (k : ℕ) → k ≡ length xs → drop k (xs ++ ys) ≡ ys
drop_front xs ys k e = grind (arith, common_steps)

pub reverse-take : {X : Type 0} (xs : List X) (k : ℕ) → k ≤ length xs → reverse (take k xs) ≡ drop (length xs - k) (reverse xs)
reverse-take xs k h =
    let whole = ap reverse (sym (take-append-drop k xs)) ∙ reverse-append (take k xs) (drop k xs) in
    let long : length xs - k ≡ length (reverse (drop k xs)) = omega (arith, length-reverse (drop k xs), length-drop k xs) in
    sym (ap (drop (length xs - k)) whole ∙ drop_front (reverse (drop k xs)) (reverse (take k xs)) (length xs - k) long)

pub reverse-set_last : {X : Type 0} (xs : List X) (i : ℕ) (x : X) → i + 1 ≡ length xs → reverse (slice_set xs i x) ≡ x ∷ drop 1 (reverse xs)
reverse-set_last xs i x e =
    let within : i < length xs = omega arith in
    let none : drop (suc i) xs ≡ [] = grind (arith, common_steps) in
    let one : length xs - i ≡ 1 = omega arith in
    ap reverse (set_split xs i x within ∙ ap (λ l. take i xs ++ x ∷ l) none)
    ∙ reverse-append (take i xs) (x ∷ [])
    ∙ ap (λ l. x ∷ l) (reverse-take xs i (omega arith) ∙ ap (λ n. drop n (reverse xs)) one)
