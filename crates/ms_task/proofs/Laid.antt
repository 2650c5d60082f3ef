-- The locals of all frames, and those of the current one.
use Rattle.std.proofs.Common.{◌≡◌, ℕ, ◌+◌, ◌-◌, ◌<◌, ◌≤◌, inl, inr, List, [], ◌∷◌, ◌++◌, length, take, drop, set, map, min, reverse, slice_get, Some, refl, sym, ap, subst, ◌∙◌, ⊎_elim, arith, append_assoc}
use Rattle.std.proofs.lemmas.List.{drop-append-le, drop-set-add, drop_all, length-append, length-drop, length-map, length-reverse, length-set, length-take, drop_min, map-append, reverse-append, take-append-drop, take-append-le, take-set-le, take_min, take-take, take_all}
use Rattle.ms_linear.specs.declared.value.Value.{Value}
use Rattle.ms_linear.specs.Values.{default_of}
use Rattle.ms_types.specs.declared.types.ValType.{ValType}
use Rattle.ms_task.specs.declared.far.Far.{Far}
use Rattle.ms_task.specs.declared.far.Written.{Written}
use Rattle.ms_task.specs.refinement.Far.{IsOver, IsPushed, IsStacked, IsUnderLast, Puts, all_of, count, directory_end, near, total}
use Rattle.ms_task.specs.refinement.Frames.{AreLaid, split}
use Rattle.ms_task.proofs.FarValues.{get-drop, get-take, take-set_within}
use Rattle.ms_task.proofs.Stacked.{all_of-append, all_of-grown, all_of-pushed, get_over, get_under, length-all_of, set_among, set_over, set_under, stacked_in_more, stacked_to_end}

-- ---- parts of the list of all

length_kept : (base len : ℕ) (all : List Value) → base ≤ len → len ≤ length all → length (take base (take len all)) ≡ base
length_kept base len all a b = omega (arith, length-take base (take len all), length-take len all)

length_current : (base len : ℕ) (all : List Value) → len ≤ length all → length (drop base (take len all)) ≡ len - base
length_current base len all b = omega (arith, length-drop base (take len all), length-take len all)

get_current : (base len i : ℕ) (all : List Value) → base + i < len → slice_get (drop base (take len all)) i ≡ slice_get all (base + i)
get_current base len i all lt = get-drop base (take len all) i (base + i) refl ∙ get-take len all (base + i) lt

set_current : (base len i p : ℕ) (all all' : List Value) (v : Value) → p ≡ base + i → p < len → all' ≡ set all p v → split base (take len all') ≡ (take base (take len all), set (drop base (take len all)) i v)
set_current base len i p all all' v at lt is =
    let whole : take len all' ≡ set (take len all) (base + i) v = ap (take len) is ∙ take-set_within len all p v lt ∙ ap (λ n. set (take len all) n v) at in
    ap (split base) whole
    ∙ ap (λ (l : List Value). (l, drop base (set (take len all) (base + i) v))) (take-set-le base (take len all) (base + i) v (omega arith))
    ∙ ap (λ (l : List Value). (take base (take len all), l)) (drop-set-add base (take len all) i v)

module _ (fs : List Far) (items : List Value) (ds : List ℕ) (ws : List Written) (start base len : ℕ) (h : AreLaid fs (length items) (length ds) (length ws) start base len) where
  within_all : len ≤ length (all_of fs items ds ws)
  within_all = omega (arith, h.len_within, length-all_of fs items ds ws)

  pub kept_long : length (take base (take len (all_of fs items ds ws))) ≡ base
  kept_long = length_kept base len (all_of fs items ds ws) h.base_within within_all

  pub current_long : length (drop base (take len (all_of fs items ds ws))) ≡ len - base
  current_long = length_current base len (all_of fs items ds ws) within_all

  pub both_are : take base (take len (all_of fs items ds ws)) ++ drop base (take len (all_of fs items ds ws)) ≡ take len (all_of fs items ds ws)
  both_are = take-append-drop base (take len (all_of fs items ds ws))

  pub both_long : length (take base (take len (all_of fs items ds ws)) ++ drop base (take len (all_of fs items ds ws))) ≡ len
  both_long = omega (arith, length-append (take base (take len (all_of fs items ds ws))) (drop base (take len (all_of fs items ds ws))), kept_long, current_long, h.base_within)

  -- ---- one of the near ones of the current frame

  near_get_all : (i : ℕ) → start + i < length items → slice_get (all_of fs items ds ws) (base + i) ≡ slice_get items (start + i)
  near_get_all i lt = ⊎_elim
      (λ none. absurd (omega (arith, none, lt)))
      (λ first. ⊎_elim (λ over. get_over fs items ds ws start base i over lt) (λ under. by fs h.stacked under) first)
      h.first where
        by : (gs : List Far) → IsStacked gs (length items) (length ds) (length ws) → IsUnderLast gs (length items) start base → slice_get (all_of gs items ds ws) (base + i) ≡ slice_get items (start + i)
        by [] st under = absurd under
        by (g ∷ gs) st under = get_under g gs items ds ws (length ds) (length ws) start base i st.0 under.1 (omega (arith, under.0, lt))

  near_set_all : (i : ℕ) (v : Value) → start + i < length items → all_of fs (set items (start + i) v) ds ws ≡ set (all_of fs items ds ws) (base + i) v
  near_set_all i v lt = ⊎_elim
      (λ none. absurd (omega (arith, none, lt)))
      (λ first. ⊎_elim (λ over. set_over fs items ds ws start base i v over lt) (λ under. by fs h.stacked under) first)
      h.first where
        by : (gs : List Far) → IsStacked gs (length items) (length ds) (length ws) → IsUnderLast gs (length items) start base → all_of gs (set items (start + i) v) ds ws ≡ set (all_of gs items ds ws) (base + i) v
        by [] st under = absurd under
        by (g ∷ gs) st under = set_under g gs items ds ws (length ds) (length ws) start base i v st.0 under.1 (omega (arith, under.0, lt))

  module _ (i : ℕ) (here : i < length (drop base (take len (all_of fs items ds ws)))) where
    pub below_len : base + i < len
    below_len = omega (arith, here, current_long)

    pub near_get : start + i < length items → slice_get (drop base (take len (all_of fs items ds ws))) i ≡ slice_get items (start + i)
    near_get lt = get_current base len i (all_of fs items ds ws) below_len ∙ near_get_all i lt

    pub far_get : (v : Value) → slice_get (all_of fs items ds ws) (base + i) ≡ Some v → slice_get (drop base (take len (all_of fs items ds ws))) i ≡ Some v
    far_get v is = get_current base len i (all_of fs items ds ws) below_len ∙ is

    pub near_set : (v : Value) → start + i < length items → split base (take len (all_of fs (set items (start + i) v) ds ws)) ≡ (take base (take len (all_of fs items ds ws)), set (drop base (take len (all_of fs items ds ws))) i v)
    near_set v lt = set_current base len i (base + i) (all_of fs items ds ws) (all_of fs (set items (start + i) v) ds ws) v refl below_len (near_set_all i v lt)

  pub near_set_laid : (p : ℕ) (v : Value) → AreLaid fs (length (set items p v)) (length ds) (length ws) start base len
  near_set_laid p v = subst (λ n. AreLaid fs n (length ds) (length ws) start base len) (sym (length-set items p v)) h

-- ---- a far one is written

module _ (f : Far) (fs : List Far) (items : List Value) (ds : List ℕ) (ws : List Written) (start base len : ℕ) (h : AreLaid (f ∷ fs) (length items) (length ds) (length ws) start base len) (ds' : List ℕ) (ws' : List Written) (i j : ℕ) (v : Value) (at : base + i ≡ f.first + j) (puts : Puts ds ws ds' ws' f j v) where
  pub far_set : i < length (drop base (take len (all_of (f ∷ fs) items ds ws))) → f.first + j < f.end → split base (take len (all_of (f ∷ fs) items ds' ws')) ≡ (take base (take len (all_of (f ∷ fs) items ds ws)), set (drop base (take len (all_of (f ∷ fs) items ds ws))) i v)
  far_set here lt =
      let l = h.stacked.0 in
      set_current base len i (base + i) (all_of (f ∷ fs) items ds ws) (all_of (f ∷ fs) items ds' ws') v refl (below_len (f ∷ fs) items ds ws start base len h i here)
      (set_among f fs items ds ws ds' ws' (length ds) (length ws) (base + i) j v l at (omega (arith, l.end, lt)) puts)

  pub far_set_laid : AreLaid (f ∷ fs) (length items) (length ds') (length ws') start base len
  far_set_laid = record {
    stacked = stacked_in_more (f ∷ fs) (length items) (length ds) (length ws) (length items) (length ds') (length ws') (omega arith) (omega (arith, puts.length_directory)) puts.length_written h.stacked;
    base_within = h.base_within;
    len_within = h.len_within;
    first = h.first;
  }

-- ---- a frame is opened

opened : (base len n : ℕ) (all xs all' : List Value) → length all ≡ len → all' ≡ all ++ xs → n ≡ len + length xs → split len (take n all') ≡ (take base (take len all) ++ drop base (take len all), xs)
opened base len n all xs all' long is more =
    let whole : take n all' ≡ all ++ xs = ap (take n) is ∙ take_all n (all ++ xs) (omega (arith, length-append all xs, more, long)) in
    let low : take len (all ++ xs) ≡ take base (take len all) ++ drop base (take len all) = take-append-le len all xs (omega (arith, long)) ∙ sym (take-append-drop base (take len all)) in
    let high : drop len (all ++ xs) ≡ xs = drop-append-le len all xs (omega (arith, long)) ∙ ap (λ l. l ++ xs) (drop_all len all (omega (arith, long))) in
    ap (split len) whole ∙ ap (λ (l : List Value). (l, drop len (all ++ xs))) low ∙ ap (λ (l : List Value). (take base (take len all) ++ drop base (take len all), l)) high

pub near_long : (items items' vs : List Value) (types : List ValType) (n : ℕ) → n ≤ length vs → items' ≡ (items ++ reverse (take n vs)) ++ map default_of (take near types) → n + min (length types) near + length items ≡ length items'
near_long items items' vs types n le are =
    let args = reverse (take n vs) in
    let declared = map default_of (take near types) in
    omega (arith, ap length are, length-append (items ++ args) declared, length-append items args, length-reverse (take n vs), length-take n vs, length-map (take near types) default_of, length-take near types, le)

over_all : (fs : List Far) (n d w len : ℕ) → IsStacked fs n d w → len ≡ n + total fs → IsOver fs n len
over_all [] n d w len h is = omega (arith, is)
over_all (f ∷ fs) n d w len h is = (h.0.at, is)

module _ (fs : List Far) (items : List Value) (ds : List ℕ) (ws : List Written) (start base len : ℕ) (h : AreLaid fs (length items) (length ds) (length ws) start base len) where
  -- a longer directory doesn't matter yet
  pub grown_laid : (d : ℕ) → length ds ≤ d → AreLaid fs (length items) d (length ws) start base len
  grown_laid d more = record {
    stacked = stacked_in_more fs (length items) (length ds) (length ws) (length items) d (length ws) (omega arith) more (omega arith) h.stacked;
    base_within = h.base_within;
    len_within = h.len_within;
    first = h.first;
  }

  module _ (is_whole : len ≡ length items + total fs) (items' args : List Value) (types : List ValType) (are : items' ≡ (items ++ args) ++ map default_of (take near types)) (n k : ℕ) (n_is : n + length items ≡ length items') (k_is : k ≡ len + n) where
    are_near : items' ≡ items ++ (args ++ map default_of (take near types))
    are_near = are ∙ append_assoc items args (map default_of (take near types))

    long_near : length items' ≡ length items + length (args ++ map default_of (take near types))
    long_near = ap length are_near ∙ length-append items (args ++ map default_of (take near types))

    all_near : all_of fs items' ds ws ≡ all_of fs items ds ws ++ (args ++ map default_of (take near types))
    all_near = ap (λ l. all_of fs l ds ws) are_near ∙ all_of-append fs items (args ++ map default_of (take near types)) ds ws (length ds) (length ws) h.stacked

    long_all : length (all_of fs items ds ws) ≡ len
    long_all = length-all_of fs items ds ws ∙ sym is_whole

    pub opened_near : length types ≤ near → split len (take k (all_of fs items' ds ws)) ≡ (take base (take len (all_of fs items ds ws)) ++ drop base (take len (all_of fs items ds ws)), args ++ map default_of types)
    opened_near few =
        let all_types = take_all near types few in
        opened base len k (all_of fs items ds ws) (args ++ map default_of (take near types)) (all_of fs items' ds ws) long_all all_near (omega (arith, k_is, n_is, long_near))
        ∙ ap (λ (l : List ValType). (take base (take len (all_of fs items ds ws)) ++ drop base (take len (all_of fs items ds ws)), args ++ map default_of l)) all_types

    pub opened_near_laid : AreLaid fs (length items') (length ds) (length ws) (length items) len k
    opened_near_laid = record {
      stacked = stacked_in_more fs (length items) (length ds) (length ws) (length items') (length ds) (length ws) (omega (arith, n_is)) (omega arith) (omega arith) h.stacked;
      base_within = omega (arith, k_is);
      len_within = omega (arith, k_is, n_is, is_whole);
      first = inr (inl (over_all fs (length items) (length ds) (length ws) len h.stacked is_whole));
    }

    module _ (far far' : List Far) (f : Far) (ds' : List ℕ) (reversed : reverse far ≡ fs) (pushed : IsPushed far far' f (length items') k (length ws) types) (low : take (length ds) ds' ≡ ds) (more : length ds ≤ length ds') (fits : f.directory + count f ≤ length ds') where
      on_top : reverse far' ≡ f ∷ fs
      on_top = ap reverse pushed.pushed ∙ reverse-append far (f ∷ []) ∙ ap (λ l. f ∷ l) reversed

      in_directory : f.directory ≡ directory_end fs
      in_directory = pushed.in_directory ∙ ap directory_end reversed

      stacked_more : IsStacked fs (length items') (length ds') (length ws)
      stacked_more = stacked_in_more fs (length items) (length ds) (length ws) (length items') (length ds') (length ws) (omega (arith, n_is)) more (omega arith) h.stacked

      all_pushed : all_of (f ∷ fs) items' ds' ws ≡ all_of fs items ds ws ++ (args ++ map default_of types)
      all_pushed =
          let types_are = pushed.of_types in
          all_of-pushed f fs items' ds' ws pushed.lies_at in_directory pushed.in_written
          ∙ ap (λ l. l ++ map default_of (drop near f.types)) (all_of-grown fs items' ds ds' ws (length items') (length ws) (stacked_in_more fs (length items) (length ds) (length ws) (length items') (length ds) (length ws) (omega (arith, n_is)) (omega arith) (omega arith) h.stacked) low ∙ all_near)
          ∙ ap (λ (l : List ValType). (all_of fs items ds ws ++ (args ++ map default_of (take near types))) ++ map default_of (drop near l)) types_are
          ∙ append_assoc (all_of fs items ds ws) (args ++ map default_of (take near types)) (map default_of (drop near types))
          ∙ ap (λ l. all_of fs items ds ws ++ l)
          (append_assoc args (map default_of (take near types)) (map default_of (drop near types))
          ∙ ap (λ l. args ++ l) (sym (map-append default_of (take near types) (drop near types)) ∙ ap (map default_of) (take-append-drop near types)))

      long_far : f.end ≡ len + length (args ++ map default_of types)
      long_far =
          let a = length-append args (map default_of (take near types)) in
          let b = length-append args (map default_of types) in
          let c = length-map (take near types) default_of in
          let d = length-map types default_of in
          let e = length-take near types in
          omega (arith, pushed.ends, k_is, n_is, long_near, a, b, c, d, e, ap length pushed.of_types)

      pub opened_far : split len (take f.end (all_of (reverse far') items' ds' ws)) ≡ (take base (take len (all_of fs items ds ws)) ++ drop base (take len (all_of fs items ds ws)), args ++ map default_of types)
      opened_far =
          ap (λ l. split len (take f.end (all_of l items' ds' ws))) on_top
          ∙ opened base len f.end (all_of fs items ds ws) (args ++ map default_of types) (all_of (f ∷ fs) items' ds' ws) long_all all_pushed long_far

      pub opened_far_laid : AreLaid (reverse far') (length items') (length ds') (length ws) (length items) len f.end
      opened_far_laid = subst (λ l. AreLaid l (length items') (length ds') (length ws) (length items) len f.end) (sym on_top) (record {
        stacked = (record { at = omega (arith, pushed.lies_at); directory = fits; written = omega (arith, pushed.in_written); first = omega (arith, pushed.lies_first, pushed.lies_at, k_is, n_is, is_whole); end = pushed.ends ∙ omega (arith, pushed.lies_first) }, lower);
        base_within = omega (arith, pushed.ends, k_is);
        len_within = omega (arith, pushed.ends, k_is, n_is, is_whole);
        first = inr (inr (omega (arith, pushed.lies_at), over_all fs (length items) (length ds) (length ws) len h.stacked is_whole));
      }) where
        lower : IsStacked fs f.at f.directory f.written
        lower = stacked_in_more fs (length items') (directory_end fs) (length ws) f.at f.directory f.written (omega (arith, pushed.lies_at)) (omega (arith, in_directory)) (omega (arith, pushed.in_written))
            (stacked_to_end fs (length items) (length ds) (length ws) (length items') (length ws) (omega (arith, n_is)) (omega arith) h.stacked)

-- ---- a frame is left

pub left : (b len old : ℕ) (all all' : List Value) → len ≤ old → len ≤ length all → take len all' ≡ take len all → split (min b len) (take len all') ≡ (take b (take len (take old all)), drop b (take len (take old all)))
left b len old all all' le long same =
    let x = take len all in
    let n : len ≡ length (take len all) = omega (arith, length-take len all, long) in
    ap (split (min b len)) same
    ∙ ap (λ k. split (min b k) (take len all)) n
    ∙ ap (λ (l : List Value). (l, drop (min b (length (take len all))) (take len all))) (take_min b (take len all))
    ∙ ap (λ (l : List Value). (take b (take len all), l)) (drop_min b (take len all))
    ∙ ap (split b) (sym (take-take len old all le))
