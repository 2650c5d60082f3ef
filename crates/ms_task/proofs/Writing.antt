-- Far locals that are read and written.
use Rattle.std.proofs.Common.{◌≡◌, ◌≢◌, ℕ, ◌+◌, ◌-◌, ◌<◌, ◌≤◌, List, [], ◌∷◌, ◌++◌, cond, get_or, length, take, drop, set, leb, reverse, slice_get, Option, Some, None, refl, sym, ap, ◌∙◌, ⊎_elim, arith}
use Rattle.std.specs.Prelude.{unwrap_or}
use Rattle.std.proofs.lemmas.Bool.{cases_eq, cases_lt}
use Rattle.std.proofs.lemmas.List.{length-append, length-set, reverse-append, reverse-reverse, take-append-le, take-set-le, take_all, take_at, take_more}
use Rattle.std.proofs.lemmas.Option.{slice_get-get_or}
use Rattle.ms_linear.specs.declared.value.Value.{Value}
use Rattle.ms_linear.specs.Values.{default_of}
use Rattle.ms_types.specs.declared.types.ValType.{ValType}
use Rattle.ms_types.specs.declared.types.ValType.TheVariants.{I32}
use Rattle.ms_task.specs.declared.far.Far.{Far}
use Rattle.ms_task.specs.declared.far.Written.{Written}
use Rattle.ms_task.specs.refinement.Far.{Holds, Puts, count, far_values, look, near, value_at, value_for}
use Rattle.ms_task.proofs.FarValues.{get-append_left, get-append_right, get-drop, get-set_other, get-set_same, look_gone, look_is, look_other, values_get}

-- the last of a list that is not empty
pub reverse_last : {X : Type 0} (xs : List X) (n : ℕ) (x : X) → length xs ≡ n + 1 → x ≡ get_or xs n x → reverse xs ≡ x ∷ reverse (take n xs)
reverse_last xs n x long read =
    let all = take_all (n + 1) xs (omega (arith, long)) in
    let split = take_more xs n x (omega (arith, long)) in
    ap reverse (sym all ∙ split ∙ ap (λ y. take n xs ++ y ∷ []) (sym read)) ∙ reverse-append (take n xs) (x ∷ [])

-- those below it
pub reverse_rest : {X : Type 0} (xs ys : List X) (x : X) (n : ℕ) → reverse xs ≡ x ∷ reverse ys → n ≡ length xs - 1 → take n xs ≡ ys
reverse_rest xs ys x n is at =
    let all : xs ≡ ys ++ x ∷ [] = sym (reverse-reverse xs) ∙ ap reverse is ∙ reverse-append (x ∷ []) (reverse ys) ∙ ap (λ l. l ++ x ∷ []) (reverse-reverse ys) in
    ap (take n) all ∙ take_at ys (x ∷ []) n (omega (arith, at, ap length all, length-append ys (x ∷ [])))

-- ---- to read

pub values_read : (ds : List ℕ) (ws : List Written) (f : Far) (j : ℕ) (v : Value) → j < count f → ((t : ValType) → slice_get f.types (near + j) ≡ Some t → unwrap_or (look ds ws f j) (default_of t) ≡ v) → slice_get (far_values ds ws f) j ≡ Some v
values_read ds ws f j v lt is =
    let t = get_or f.types (near + j) I32 in
    let there = slice_get-get_or f.types (near + j) I32 (omega (arith, lt)) in
    values_get ds ws f 0 j j (drop near f.types) t (omega arith) (get-drop near f.types j (near + j) refl ∙ there) ∙ ap Some (is t there)

-- ---- to write

module _ (ds : List ℕ) (ws : List Written) (f : Far) (j : ℕ) (w : Written) (v : Value) (its : w.index ≡ j) (has : w.cell ≡ v) where
  pub puts_again : (place : ℕ) → Holds ds ws f j place → place < length ws → Puts ds ws ds (set ws place w) f j v
  puts_again place h lt = record {
    here = look_is ds (set ws place w) f j place h.listed w (get-set_same ws place w lt) h.within its ∙ ap Some has;
    others = λ k n. by k n (slice_get ds (f.directory + k)) refl;
    low_directory = refl;
    low_written = take-set-le f.written ws place w h.within;
    length_directory = refl;
    length_written = omega (arith, length-set ws place w);
  } where
    by : (k : ℕ) → k ≢ j → (o : Option ℕ) → slice_get ds (f.directory + k) ≡ o → look ds (set ws place w) f k ≡ look ds ws f k
    by k n None e = ap (value_at f.written k (set ws place w)) e ∙ sym (ap (value_at f.written k ws) e)
    by k n (Some p) e =
        ⊎_elim
        (λ is.
        look_other ds (set ws place w) f k p e w (ap (slice_get (set ws place w)) is ∙ get-set_same ws place w lt) (λ same. n (sym same ∙ its))
        ∙ sym (look_other ds ws f k p e h.what (ap (slice_get ws) is ∙ h.there) (λ same. n (sym same ∙ h.its))))
        (λ no. ap (value_at f.written k (set ws place w)) e ∙ ap (λ o. cond (leb f.written p) (value_for k o) None) (get-set_other ws place p w no) ∙ sym (ap (value_at f.written k ws) e))
        (cases_eq p place)

  pub puts_new : (place : ℕ) → f.directory + j < length ds → place ≡ length ws → f.written ≤ length ws → Puts ds ws (set ds (f.directory + j) place) (ws ++ w ∷ []) f j v
  puts_new place lt is le = record {
    here = look_is (set ds (f.directory + j) place) (ws ++ w ∷ []) f j place (get-set_same ds (f.directory + j) place lt) w (get-append_right ws (w ∷ []) place 0 (omega (arith, is))) (omega (arith, is, le)) its ∙ ap Some has;
    others = λ k n. by k n (slice_get ds (f.directory + k)) refl;
    low_directory = take-set-le f.directory ds (f.directory + j) place (omega arith);
    low_written = take-append-le f.written ws (w ∷ []) le;
    length_directory = length-set ds (f.directory + j) place;
    length_written = omega (arith, length-append ws (w ∷ []));
  } where
    by : (k : ℕ) → k ≢ j → (o : Option ℕ) → slice_get ds (f.directory + k) ≡ o → look (set ds (f.directory + j) place) (ws ++ w ∷ []) f k ≡ look ds ws f k
    by k n None e = ap (value_at f.written k (ws ++ w ∷ [])) (get-set_other ds (f.directory + j) (f.directory + k) place (λ same. n (omega (arith, same))) ∙ e) ∙ sym (ap (value_at f.written k ws) e)
    by k n (Some p) e =
        let e' = get-set_other ds (f.directory + j) (f.directory + k) place (λ same. n (omega (arith, same))) ∙ e in
        ⊎_elim
        (λ here. ap (value_at f.written k (ws ++ w ∷ [])) e' ∙ ap (λ o. cond (leb f.written p) (value_for k o) None) (get-append_left ws (w ∷ []) p here) ∙ sym (ap (value_at f.written k ws) e))
        (λ past.
        ⊎_elim
        (λ last. look_other (set ds (f.directory + j) place) (ws ++ w ∷ []) f k p e' w (get-append_right ws (w ∷ []) p 0 (omega (arith, last))) (λ same. n (sym same ∙ its)))
        (λ no. look_gone (set ds (f.directory + j) place) (ws ++ w ∷ []) f k p e' (omega (arith, past, no, length-append ws (w ∷ []))))
        (cases_eq p (length ws))
        ∙ sym (look_gone ds ws f k p e past))
        (cases_lt p (length ws))
