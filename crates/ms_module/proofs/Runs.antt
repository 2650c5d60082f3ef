-- Laws of the runs of locals.
use Rattle.std.proofs.Common.{◌≡◌, ℕ, zero, suc, ◌+◌, ◌-◌, ◌≤◌, ◌<◌, leb, true, false, List, [], ◌∷◌, ◌++◌, length, get_or, set, replicate, Some, refl, sym, ap, subst, ◌∙◌, arith, append_assoc}
use Rattle.std.specs.Prelude.{◌≢◌, option_map, slice_get}
use Rattle.std.specs.List.Sorted.{IsPartitionPoint, IsPartitionedBy}
use Rattle.std.proofs.lemmas.Bool.{leb-true, leb-false, le-leb}
use Rattle.std.proofs.lemmas.List.{append-nil, length-append, length-replicate, replicate-append-replicate}
use Rattle.ms_types.specs.declared.types.ValType.{ValType}
use Rattle.ms_module.specs.declared.locals.Run.{Run}
use Rattle.ms_module.specs.refinement.Locals.{BeginsOther, Differ, end_of, Rise, types_of}

pub length-types_of : (from : ℕ) (rs : List Run) → Rise from rs → from + length (types_of from rs) ≡ end_of from rs
length-types_of from [] h = omega arith
length-types_of from (r ∷ rs) h =
    let ih = length-types_of r.end rs h.1 in
    let n = length-append (replicate (r.end - from) r.ty) (types_of r.end rs) in
    let m = length-replicate (r.end - from) r.ty in
    let lt = h.0 in
    omega arith

-- the last run
pub end_of-last : (from : ℕ) (rs : List Run) (r : Run) → slice_get rs (length rs - 1) ≡ Some r → end_of from rs ≡ r.end
end_of-last from [] r e = absurd cc
end_of-last from (q ∷ []) r e = cc
end_of-last from (q ∷ p ∷ rs) r e =
    let n : length (q ∷ p ∷ rs) - 1 ≡ suc (length (p ∷ rs) - 1) = omega arith in
    end_of-last q.end (p ∷ rs) r (ap (λ (k : ℕ). slice_get (q ∷ p ∷ rs) k) (sym n) ∙ e)

pub length-at_last : (rs : List Run) (r : Run) → Rise 0 rs → slice_get rs (length rs - 1) ≡ Some r → r.end ≡ length (types_of 0 rs)
length-at_last rs r h e = let a = length-types_of 0 rs h in let b = end_of-last 0 rs r e in omega arith

-- ---- the run of an index

-- an index among so many equal items, and behind them
slice_get-front : (n : ℕ) (ty : ValType) (l : List ValType) (i : ℕ) → i < n → slice_get (replicate n ty ++ l) i ≡ Some ty
slice_get-front zero ty l i lt = absurd (omega arith)
slice_get-front (suc n) ty l zero lt = refl
slice_get-front (suc n) ty l (suc i) lt = slice_get-front n ty l i (omega arith)

slice_get-behind : (n : ℕ) (ty : ValType) (l : List ValType) (i j : ℕ) → j ≡ n + i → slice_get (replicate n ty ++ l) j ≡ slice_get l i
slice_get-behind zero ty l i j e = ap (λ (k : ℕ). slice_get l k) (omega arith)
slice_get-behind (suc n) ty l i zero e = absurd (omega arith)
slice_get-behind (suc n) ty l i (suc j) e = slice_get-behind n ty l i j (omega arith)

pub slice_get-types_of : (from index : ℕ) (rs : List Run) (k : ℕ) → Rise from rs → from ≤ index
    → IsPartitionPoint (λ r. leb r.end index ≡ true) (λ r. leb r.end index ≡ false) rs k
    → option_map (λ (r : Run). r.ty) (slice_get rs k) ≡ slice_get (types_of from rs) (index - from)
slice_get-types_of from index [] k h le p = refl
slice_get-types_of from index (r ∷ rs) zero h le p =
    let lt : index < r.end = leb-false _ _ (p.1 0 r (omega arith) (omega arith)) in
    sym (slice_get-front (r.end - from) r.ty (types_of r.end rs) (index - from) (omega arith))
slice_get-types_of from index (r ∷ rs) (suc k) h le p =
    let past : r.end ≤ index = leb-true _ _ (p.0 0 r (omega arith) (omega arith)) in
    let inner : IsPartitionPoint (λ r. leb r.end index ≡ true) (λ r. leb r.end index ≡ false) rs k =
    ((λ i d a b. p.0 (suc i) d (omega arith) (omega arith)), (λ i d a b. p.1 (suc i) d (omega arith) (omega arith))) in
    slice_get-types_of r.end index rs k h.1 past inner ∙ sym (slice_get-behind (r.end - from) r.ty (types_of r.end rs) (index - r.end) (index - from) (omega (arith, h.0)))

above : (from : ℕ) (rs : List Run) (j : ℕ) (d : Run) → Rise from rs → j < length rs → from < (get_or rs j d).end
above from [] j d h lt = absurd (omega arith)
above from (r ∷ rs) zero d h lt = h.0
above from (r ∷ rs) (suc j) d h lt = let ih = above r.end rs j d h.1 (omega arith) in let a = h.0 in omega arith

-- ends that rise part at each index
pub rise_parts : (from index : ℕ) (rs : List Run) → Rise from rs → IsPartitionedBy (λ (r : Run). leb r.end index) rs
rise_parts from index [] h i j d le lt e = absurd (omega arith)
rise_parts from index (r ∷ rs) h zero zero d le lt e = e
rise_parts from index (r ∷ rs) h zero (suc j) d le lt e =
    let a = above r.end rs j d h.1 (omega arith) in
    let b : (get_or rs j d).end ≤ index = leb-true _ _ e in
    le-leb _ _ (omega arith)
rise_parts from index (r ∷ rs) h (suc i) zero d le lt e = absurd (omega arith)
rise_parts from index (r ∷ rs) h (suc i) (suc j) d le lt e = rise_parts r.end index rs h.1 i j d (omega arith) (omega arith) e

-- ---- one more run

pub Rise-push : (from : ℕ) (rs : List Run) (e : ℕ) (ty : ValType) → Rise from rs → end_of from rs < e → Rise from (rs ++ record { end = e; ty = ty } ∷ [])
Rise-push from [] e ty h lt = (lt, tt)
Rise-push from (r ∷ rs) e ty h lt = (h.0, Rise-push r.end rs e ty h.1 lt)

pub types_of-push : (from : ℕ) (rs : List Run) (e : ℕ) (ty : ValType) → types_of from (rs ++ record { end = e; ty = ty } ∷ []) ≡ types_of from rs ++ replicate (e - end_of from rs) ty
types_of-push from [] e ty = append-nil (replicate (e - from) ty)
types_of-push from (r ∷ rs) e ty =
    ap (λ l. replicate (r.end - from) r.ty ++ l) (types_of-push r.end rs e ty) ∙ sym (append_assoc (replicate (r.end - from) r.ty) (types_of r.end rs) (replicate (e - end_of r.end rs) ty))

-- ---- the last run made longer

pub Rise-set : (from n : ℕ) (rs : List Run) (e : ℕ) (ty : ValType) → suc n ≡ length rs → Rise from rs → end_of from rs < e → Rise from (set rs n (record { end = e; ty = ty }))
Rise-set from n [] e ty l h lt = absurd (omega arith)
Rise-set from zero (r ∷ []) e ty l h lt = (omega (arith, h.0), tt)
Rise-set from (suc n) (r ∷ []) e ty l h lt = absurd (omega arith)
Rise-set from zero (r ∷ q ∷ rs) e ty l h lt = absurd (omega arith)
Rise-set from (suc n) (r ∷ q ∷ rs) e ty l h lt = (h.0, Rise-set r.end n (q ∷ rs) e ty (omega arith) h.1 lt)

pub types_of-set : (from n : ℕ) (rs : List Run) (e : ℕ) (ty : ValType) (d : Run) → suc n ≡ length rs → Rise from rs → end_of from rs < e → (get_or rs n d).ty ≡ ty
    → types_of from (set rs n (record { end = e; ty = ty })) ≡ types_of from rs ++ replicate (e - end_of from rs) ty
types_of-set from n [] e ty d l h lt t = absurd (omega arith)
types_of-set from zero (r ∷ []) e ty d l h lt t =
    let n : e - from ≡ (r.end - from) + (e - r.end) = omega (arith, h.0) in
    append-nil (replicate (e - from) ty) ∙ (ap (λ k. replicate k ty) n ∙ (sym (replicate-append-replicate (r.end - from) (e - r.end) ty) ∙ more)) where
      more : replicate (r.end - from) ty ++ replicate (e - r.end) ty ≡ (replicate (r.end - from) r.ty ++ []) ++ replicate (e - r.end) ty
      more = rw (t, append-nil (replicate (r.end - from) ty)) refl
types_of-set from (suc n) (r ∷ []) e ty d l h lt t = absurd (omega arith)
types_of-set from zero (r ∷ q ∷ rs) e ty d l h lt t = absurd (omega arith)
types_of-set from (suc n) (r ∷ q ∷ rs) e ty d l h lt t =
    ap (λ l. replicate (r.end - from) r.ty ++ l) (types_of-set r.end n (q ∷ rs) e ty d (omega arith) h.1 lt t) ∙ sym (append_assoc (replicate (r.end - from) r.ty) (types_of r.end (q ∷ rs)) (replicate (e - end_of q.end rs) ty))

-- ---- neighbours

-- a run is the same however it is read
pub same_at : (rs : List Run) (k : ℕ) (r q : Run) → k < length rs → get_or rs k r ≡ r → get_or rs k q ≡ q → q ≡ r
same_at [] k r q lt a b = absurd (omega arith)
same_at (p ∷ rs) zero r q lt a b = sym b ∙ a
same_at (p ∷ rs) (suc k) r q lt a b = same_at rs k r q (omega arith) a b

pub Differ-push : (rs : List Run) (r : Run) → Differ rs → ((q : Run) (k : ℕ) → suc k ≡ length rs → get_or rs k q ≡ q → q.ty ≢ r.ty) → Differ (rs ++ r ∷ [])
Differ-push [] r h other = (tt, tt)
Differ-push (q ∷ []) r h other = (other q 0 refl refl, (tt, tt))
Differ-push (q ∷ p ∷ rs) r h other = (h.0, Differ-push (p ∷ rs) r h.1 (λ d k l e. other d (suc k) (omega arith) e))

-- a run that has the same type in the place of one
Differ-others : (ty : ValType) (rs : List Run) (k : ℕ) (r d : Run) → (get_or rs k d).ty ≡ r.ty → BeginsOther ty rs → BeginsOther ty (set rs k r)
Differ-others ty [] k r d e h = tt
Differ-others ty (q ∷ rs) zero r d e h = λ same. h (same ∙ sym e)
Differ-others ty (q ∷ rs) (suc k) r d e h = h

pub Differ-set : (rs : List Run) (k : ℕ) (r d : Run) → (get_or rs k d).ty ≡ r.ty → Differ rs → Differ (set rs k r)
Differ-set [] k r d e h = tt
Differ-set (q ∷ rs) zero r d e h = (subst (λ (t : ValType). BeginsOther t rs) e h.0, h.1)
Differ-set (q ∷ rs) (suc k) r d e h = (Differ-others q.ty rs k r d e h.0, Differ-set rs k r d e h.1)

-- ---- more locals

abbrev pub longer : ℕ → ℕ → ValType → Run
longer was count ty = record { end = was + count; ty = ty }

module _ (rs : List Run) (l : List ValType) (is : types_of 0 rs ≡ l) (h : Rise 0 rs) (was count : ℕ) (ty : ValType) (end : was ≡ length l) where
  last_end : end_of 0 rs ≡ length l
  last_end = let a = length-types_of 0 rs h in let b = ap length is in omega arith

  pub Rise-more : (0 < count) → Rise 0 (rs ++ longer was count ty ∷ [])
  Rise-more lt = Rise-push 0 rs (was + count) ty h (let a = last_end in omega arith)

  pub types_of-more : types_of 0 (rs ++ longer was count ty ∷ []) ≡ l ++ replicate count ty
  types_of-more =
      let n : (was + count) - end_of 0 rs ≡ count = let a = last_end in omega arith in
      types_of-push 0 rs (was + count) ty ∙ rw (n, is) refl

  -- the last run, of index n, made longer
  pub Rise-longer : (n : ℕ) → suc n ≡ length rs → (0 < count) → Rise 0 (set rs n (longer was count ty))
  Rise-longer n last lt = Rise-set 0 n rs (was + count) ty last h (let a = last_end in omega arith)

  pub types_of-longer : (n : ℕ) (d : Run) → suc n ≡ length rs → (0 < count) → (get_or rs n d).ty ≡ ty → types_of 0 (set rs n (longer was count ty)) ≡ l ++ replicate count ty
  types_of-longer n d last lt t =
      let k : (was + count) - end_of 0 rs ≡ count = let a = last_end in omega arith in
      types_of-set 0 n rs (was + count) ty d last h (let a = last_end in omega arith) t ∙ rw (k, is) refl
