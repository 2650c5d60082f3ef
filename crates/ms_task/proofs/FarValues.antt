-- What was written to far locals, and their values.
use Rattle.std.proofs.Common.{◌≡◌, ◌≢◌, ℕ, zero, suc, ◌+◌, ◌<◌, ◌≤◌, List, [], ◌∷◌, ◌++◌, Bool, true, false, cond, length, take, drop, set, map, leb, slice_get, Option, Some, None, refl, ap, ◌∙◌, ⊎_elim, arith}
use Rattle.std.specs.Prelude.{unwrap_or}
use Rattle.std.proofs.lemmas.Bool.{cases_lt, eq-eqb, le-leb, lt-leb, ne_eqb}
use Rattle.std.proofs.lemmas.Option.{slice_get_past}
use Rattle.ms_linear.specs.declared.value.Value.{Value}
use Rattle.ms_linear.specs.Values.{default_of}
use Rattle.ms_types.specs.declared.types.ValType.{ValType}
use Rattle.ms_task.specs.declared.far.Far.{Far}
use Rattle.ms_task.specs.declared.far.Written.{Written}
use Rattle.ms_task.specs.refinement.Far.{Holds, look, value_at, value_for, values_from}

-- ---- items of lists

module _ {X : Type 0} where
  pub get-append_left : (xs ys : List X) (i : ℕ) → i < length xs → slice_get (xs ++ ys) i ≡ slice_get xs i
  get-append_left [] ys i lt = absurd (omega (arith, lt))
  get-append_left (x ∷ xs) ys zero lt = refl
  get-append_left (x ∷ xs) ys (suc i) lt = get-append_left xs ys i (omega (arith, lt))

  pub get-append_right : (xs ys : List X) (i j : ℕ) → i ≡ length xs + j → slice_get (xs ++ ys) i ≡ slice_get ys j
  get-append_right [] ys i j e = ap (slice_get ys) (omega (arith, e))
  get-append_right (x ∷ xs) ys zero j e = absurd (omega (arith, e))
  get-append_right (x ∷ xs) ys (suc i) j e = get-append_right xs ys i j (omega (arith, e))

  pub none_past : (xs : List X) (i : ℕ) → slice_get xs i ≡ None → length xs ≤ i
  none_past [] i e = omega arith
  none_past (x ∷ xs) zero e = absurd (cc)
  none_past (x ∷ xs) (suc i) e = omega (arith, none_past xs i e)

  pub get-take : (n : ℕ) (xs : List X) (i : ℕ) → i < n → slice_get (take n xs) i ≡ slice_get xs i
  get-take zero xs i lt = absurd (omega (arith, lt))
  get-take (suc n) [] i lt = refl
  get-take (suc n) (x ∷ xs) zero lt = refl
  get-take (suc n) (x ∷ xs) (suc i) lt = get-take n xs i (omega (arith, lt))

  pub get-drop : (n : ℕ) (xs : List X) (i j : ℕ) → j ≡ n + i → slice_get (drop n xs) i ≡ slice_get xs j
  get-drop zero xs i j e = ap (slice_get xs) (omega (arith, e))
  get-drop (suc n) [] i j e = refl
  get-drop (suc n) (x ∷ xs) i zero e = absurd (omega (arith, e))
  get-drop (suc n) (x ∷ xs) i (suc j) e = get-drop n xs i j (omega (arith, e))

  pub get-set_same : (xs : List X) (i : ℕ) (x : X) → i < length xs → slice_get (set xs i x) i ≡ Some x
  get-set_same [] i x lt = absurd (omega (arith, lt))
  get-set_same (y ∷ xs) zero x lt = refl
  get-set_same (y ∷ xs) (suc i) x lt = get-set_same xs i x (omega (arith, lt))

  pub get-set_other : (xs : List X) (i j : ℕ) (x : X) → (j ≡ i → ⊥) → slice_get (set xs i x) j ≡ slice_get xs j
  get-set_other [] zero j x n = refl
  get-set_other [] (suc i) j x n = refl
  get-set_other (y ∷ xs) zero zero x n = absurd (n refl)
  get-set_other (y ∷ xs) zero (suc j) x n = refl
  get-set_other (y ∷ xs) (suc i) zero x n = refl
  get-set_other (y ∷ xs) (suc i) (suc j) x n = get-set_other xs i j x (λ e. n (ap suc e))

  pub take-set_within : (n : ℕ) (xs : List X) (i : ℕ) (x : X) → i < n → take n (set xs i x) ≡ set (take n xs) i x
  take-set_within zero xs i x lt = absurd (omega (arith, lt))
  take-set_within (suc n) [] zero x lt = refl
  take-set_within (suc n) [] (suc i) x lt = refl
  take-set_within (suc n) (y ∷ xs) zero x lt = refl
  take-set_within (suc n) (y ∷ xs) (suc i) x lt = ap (λ l. y ∷ l) (take-set_within n xs i x (omega (arith, lt)))

-- ---- what was written

value_none : (b : Bool) (o : Option Value) → o ≡ None → cond b o None ≡ None
value_none true o e = e
value_none false o e = refl

module _ (ds : List ℕ) (ws : List Written) (f : Far) (j : ℕ) where
  pub look_past : length ds ≤ f.directory + j → look ds ws f j ≡ None
  look_past le = ap (value_at f.written j ws) (slice_get_past ds (f.directory + j) le)

  module _ (place : ℕ) (listed : slice_get ds (f.directory + j) ≡ Some place) where
    pub look_low : place < f.written → look ds ws f j ≡ None
    look_low lt = ap (value_at f.written j ws) listed ∙ ap (λ b. cond b (value_for j (slice_get ws place)) None) (lt-leb f.written place lt)

    pub look_gone : length ws ≤ place → look ds ws f j ≡ None
    look_gone le = ap (value_at f.written j ws) listed ∙ ap (λ o. cond (leb f.written place) (value_for j o) None) (slice_get_past ws place le) ∙ value_none (leb f.written place) None refl

    pub look_other : (w : Written) → slice_get ws place ≡ Some w → (w.index ≡ j → ⊥) → look ds ws f j ≡ None
    look_other w there n =
        ap (value_at f.written j ws) listed
        ∙ ap (λ o. cond (leb f.written place) (value_for j o) None) there
        ∙ ap (λ b. cond (leb f.written place) (cond b (Some w.cell) None) None) (ne_eqb w.index j n)
        ∙ value_none (leb f.written place) None refl

    pub look_is : (w : Written) → slice_get ws place ≡ Some w → f.written ≤ place → w.index ≡ j → look ds ws f j ≡ Some w.cell
    look_is w there le its =
        ap (value_at f.written j ws) listed
        ∙ ap (λ b. cond b (value_for j (slice_get ws place)) None) (le-leb f.written place le)
        ∙ ap (value_for j) there
        ∙ ap (λ b. cond b (Some w.cell) None) (eq-eqb w.index j its)

  -- nothing was written at all
  pub look_empty : length ws ≤ f.written → look ds ws f j ≡ None
  look_empty le = by (slice_get ds (f.directory + j)) refl where
    by : (o : Option ℕ) → slice_get ds (f.directory + j) ≡ o → look ds ws f j ≡ None
    by None e = ap (value_at f.written j ws) e
    by (Some place) e = ⊎_elim (λ lt. look_low place e lt) (λ ge. look_gone place e (omega (arith, le, ge))) (cases_lt place f.written)

pub holds_looks : (ds : List ℕ) (ws : List Written) (f : Far) (j place : ℕ) (h : Holds ds ws f j place) → look ds ws f j ≡ Some h.what.cell
holds_looks ds ws f j place h = look_is ds ws f j place h.listed h.what h.there h.within h.its

-- ---- values

pub length-values_from : (ds : List ℕ) (ws : List Written) (f : Far) (j : ℕ) (ts : List ValType) → length (values_from ds ws f j ts) ≡ length ts
length-values_from ds ws f j [] = refl
length-values_from ds ws f j (t ∷ ts) = ap suc (length-values_from ds ws f (suc j) ts)

pub values_same : (ds : List ℕ) (ws : List Written) (ds' : List ℕ) (ws' : List Written) (f : Far) (j : ℕ) (ts : List ValType) → ((k : ℕ) → j ≤ k → k < j + length ts → look ds ws f k ≡ look ds' ws' f k) → values_from ds ws f j ts ≡ values_from ds' ws' f j ts
values_same ds ws ds' ws' f j [] same = refl
values_same ds ws ds' ws' f j (t ∷ ts) same =
    let here = same j (omega arith) (omega arith) in
    let rest = values_same ds ws ds' ws' f (suc j) ts (λ k le lt. same k (omega (arith, le)) (omega (arith, lt))) in
    ap (λ o. unwrap_or o (default_of t) ∷ values_from ds ws f (suc j) ts) here ∙ ap (λ l. unwrap_or (look ds' ws' f j) (default_of t) ∷ l) rest

pub values_none : (ds : List ℕ) (ws : List Written) (f : Far) (j : ℕ) (ts : List ValType) → length ws ≤ f.written → values_from ds ws f j ts ≡ map default_of ts
values_none ds ws f j [] le = refl
values_none ds ws f j (t ∷ ts) le = ap (λ o. unwrap_or o (default_of t) ∷ values_from ds ws f (suc j) ts) (look_empty ds ws f j le) ∙ ap (λ l. default_of t ∷ l) (values_none ds ws f (suc j) ts le)

pub values_get : (ds : List ℕ) (ws : List Written) (f : Far) (j i k : ℕ) (ts : List ValType) (t : ValType) → k ≡ j + i → slice_get ts i ≡ Some t → slice_get (values_from ds ws f j ts) i ≡ Some (unwrap_or (look ds ws f k) (default_of t))
values_get ds ws f j i k [] t e is = absurd (cc)
values_get ds ws f j zero k (u ∷ ts) t e is =
    let here : j ≡ k = omega (arith, e) in
    let same : u ≡ t = cc in
    ap (λ n. Some (unwrap_or (look ds ws f n) (default_of u))) here ∙ ap (λ x. Some (unwrap_or (look ds ws f k) (default_of x))) same
values_get ds ws f j (suc i) k (u ∷ ts) t e is = values_get ds ws f (suc j) i k ts t (omega (arith, e)) is

pub values_set : (ds : List ℕ) (ws : List Written) (ds' : List ℕ) (ws' : List Written) (f : Far) (j i k : ℕ) (v : Value) (ts : List ValType) → k ≡ j + i → look ds' ws' f k ≡ Some v → ((n : ℕ) → n ≢ k → look ds' ws' f n ≡ look ds ws f n) → values_from ds' ws' f j ts ≡ set (values_from ds ws f j ts) i v
values_set ds ws ds' ws' f j zero k v [] e here others = refl
values_set ds ws ds' ws' f j (suc i) k v [] e here others = refl
values_set ds ws ds' ws' f j zero k v (t ∷ ts) e here others =
    let at : j ≡ k = omega (arith, e) in
    let rest = values_same ds' ws' ds ws f (suc j) ts (λ n le lt. others n (omega (arith, le, e))) in
    ap (λ n. unwrap_or (look ds' ws' f n) (default_of t) ∷ values_from ds' ws' f (suc j) ts) at
    ∙ ap (λ o. unwrap_or o (default_of t) ∷ values_from ds' ws' f (suc j) ts) here
    ∙ ap (λ l. v ∷ l) rest
values_set ds ws ds' ws' f j (suc i) k v (t ∷ ts) e here others =
    let rest = values_set ds ws ds' ws' f (suc j) i k v ts (omega (arith, e)) here others in
    ap (λ o. unwrap_or o (default_of t) ∷ values_from ds' ws' f (suc j) ts) (others j (omega (arith, e)))
    ∙ ap (λ l. unwrap_or (look ds ws f j) (default_of t) ∷ l) rest
