-- The locals of all frames, with the far ones in their places.
use Rattle.std.proofs.Common.{◌≡◌, ℕ, zero, suc, ◌+◌, ◌-◌, ◌<◌, ◌≤◌, List, [], ◌∷◌, ◌++◌, length, take, drop, set, map, slice_get, refl, sym, ap, ◌∙◌, arith, append_assoc, append-nil}
use Rattle.std.proofs.lemmas.List.{drop-append-le, drop-set-add, drop-set-lt, drop-take, drop_all, length-append, length-drop, length-take, set-append_left, set-append_right, take-append-le, take-set-le, take-take, take_all}
use Rattle.ms_linear.specs.declared.value.Value.{Value}
use Rattle.ms_linear.specs.Values.{default_of}
use Rattle.ms_task.specs.declared.far.Far.{Far}
use Rattle.ms_task.specs.declared.far.Written.{Written}
use Rattle.ms_task.specs.refinement.Far.{IsOver, IsStacked, Lies, Puts, all_of, count, directory_end, far_values, near, total, value_at}
use Rattle.ms_task.proofs.FarValues.{get-append_left, get-append_right, get-drop, get-take, length-values_from, take-set_within, values_none, values_same, values_set}

length-far_values : (ds : List ℕ) (ws : List Written) (f : Far) → length (far_values ds ws f) ≡ count f
length-far_values ds ws f = length-values_from ds ws f 0 (drop near f.types) ∙ length-drop near f.types

pub length-all_of : (fs : List Far) (items : List Value) (ds : List ℕ) (ws : List Written) → length (all_of fs items ds ws) ≡ length items + total fs
length-all_of [] items ds ws = omega arith
length-all_of (f ∷ fs) items ds ws =
    let low = all_of fs (take f.at items) (take f.directory ds) (take f.written ws) in
    let far = far_values ds ws f in
    omega (arith, length-append low (far ++ drop f.at items), length-append far (drop f.at items), length-all_of fs (take f.at items) (take f.directory ds) (take f.written ws), length-far_values ds ws f, length-take f.at items, length-drop f.at items)

take_seam : {X : Type 0} (xs ys : List X) (n k : ℕ) → n ≡ length xs + k → take n (xs ++ ys) ≡ xs ++ take k ys
take_seam [] ys n k e = ap (λ m. take m ys) (omega (arith, e))
take_seam (x ∷ xs) ys zero k e = absurd (omega (arith, e))
take_seam (x ∷ xs) ys (suc n) k e = ap (λ l. x ∷ l) (take_seam xs ys n k (omega (arith, e)))

-- ---- how they lie

pub stacked_in_more : (fs : List Far) (n d w n' d' w' : ℕ) → n ≤ n' → d ≤ d' → w ≤ w' → IsStacked fs n d w → IsStacked fs n' d' w'
stacked_in_more [] n d w n' d' w' a b c h = tt
stacked_in_more (f ∷ fs) n d w n' d' w' a b c h =
    (record { at = omega (arith, h.0.at, a); directory = omega (arith, h.0.directory, b); written = omega (arith, h.0.written, c); first = h.0.first; end = h.0.end }, h.1)

pub stacked_to_end : (fs : List Far) (n d w n' w' : ℕ) → n ≤ n' → w ≤ w' → IsStacked fs n d w → IsStacked fs n' (directory_end fs) w'
stacked_to_end [] n d w n' w' a c h = tt
stacked_to_end (f ∷ fs) n d w n' w' a c h =
    (record { at = omega (arith, h.0.at, a); directory = omega arith; written = omega (arith, h.0.written, c); first = h.0.first; end = h.0.end }, h.1)

pub ends_within : (fs : List Far) (n d w : ℕ) → IsStacked fs n d w → directory_end fs ≤ d
ends_within [] n d w h = omega arith
ends_within (f ∷ fs) n d w h = h.0.directory

-- only their part of the directory counts
pub all_of-directory : (fs : List Far) (items : List Value) (ds : List ℕ) (ws : List Written) (to : ℕ) → directory_end fs ≤ to → all_of fs items (take to ds) ws ≡ all_of fs items ds ws
all_of-directory [] items ds ws to le = refl
all_of-directory (f ∷ fs) items ds ws to le =
    let lower : f.directory ≤ to = omega (arith, le) in
    let far = values_same (take to ds) ws ds ws f 0 (drop near f.types)
    (λ k low lt. ap (value_at f.written k ws) (get-take to ds (f.directory + k) (omega (arith, le, lt, length-drop near f.types)))) in
    ap (λ l. all_of fs (take f.at items) l (take f.written ws) ++ (far_values (take to ds) ws f ++ drop f.at items)) (take-take f.directory to ds lower)
    ∙ ap (λ l. all_of fs (take f.at items) (take f.directory ds) (take f.written ws) ++ (l ++ drop f.at items)) far

pub all_of-grown : (fs : List Far) (items : List Value) (ds ds' : List ℕ) (ws : List Written) (n w : ℕ) → IsStacked fs n (length ds) w → take (length ds) ds' ≡ ds → all_of fs items ds' ws ≡ all_of fs items ds ws
all_of-grown fs items ds ds' ws n w h same =
    sym (all_of-directory fs items ds' ws (length ds) (ends_within fs n (length ds) w h)) ∙ ap (λ l. all_of fs items l ws) same

pub all_of-append : (fs : List Far) (items xs : List Value) (ds : List ℕ) (ws : List Written) (d w : ℕ) → IsStacked fs (length items) d w → all_of fs (items ++ xs) ds ws ≡ all_of fs items ds ws ++ xs
all_of-append [] items xs ds ws d w h = refl
all_of-append (f ∷ fs) items xs ds ws d w h =
    let low = all_of fs (take f.at items) (take f.directory ds) (take f.written ws) in
    let far = far_values ds ws f in
    ap (λ l. all_of fs l (take f.directory ds) (take f.written ws) ++ (far ++ drop f.at (items ++ xs))) (take-append-le f.at items xs h.0.at)
    ∙ ap (λ l. low ++ (far ++ l)) (drop-append-le f.at items xs h.0.at)
    ∙ ap (λ l. low ++ l) (sym (append_assoc far (drop f.at items) xs))
    ∙ sym (append_assoc low (far ++ drop f.at items) xs)

-- ---- one of them

module _ (f : Far) (fs : List Far) (items : List Value) (ds : List ℕ) (ws : List Written) where
  length_low : f.at ≤ length items → length (all_of fs (take f.at items) (take f.directory ds) (take f.written ws)) ≡ f.at + total fs
  length_low le = omega (arith, length-all_of fs (take f.at items) (take f.directory ds) (take f.written ws), length-take f.at items, le)

  pub get_above : (d w p : ℕ) → Lies f fs (length items) d w → f.end ≤ p → slice_get (all_of (f ∷ fs) items ds ws) p ≡ slice_get items (p - (f.end - f.at))
  get_above d w p l le =
      let low = all_of fs (take f.at items) (take f.directory ds) (take f.written ws) in
      let far = far_values ds ws f in
      let a = length_low l.at in
      let b = length-far_values ds ws f in
      get-append_right low (far ++ drop f.at items) p (p - f.first) (omega (arith, a, l.first, l.end, le))
      ∙ get-append_right far (drop f.at items) (p - f.first) (p - f.end) (omega (arith, b, l.first, l.end, le))
      ∙ get-drop f.at items (p - f.end) (p - (f.end - f.at)) (omega (arith, l.first, l.end, le))

  pub get_among : (d w p : ℕ) → Lies f fs (length items) d w → f.first ≤ p → p < f.end → slice_get (all_of (f ∷ fs) items ds ws) p ≡ slice_get (far_values ds ws f) (p - f.first)
  get_among d w p l le lt =
      let low = all_of fs (take f.at items) (take f.directory ds) (take f.written ws) in
      let far = far_values ds ws f in
      let a = length_low l.at in
      let b = length-far_values ds ws f in
      get-append_right low (far ++ drop f.at items) p (p - f.first) (omega (arith, a, l.first, le))
      ∙ get-append_left far (drop f.at items) (p - f.first) (omega (arith, b, l.end, le, lt))

  pub get_below : (d w p : ℕ) → Lies f fs (length items) d w → p < f.first → slice_get (all_of (f ∷ fs) items ds ws) p ≡ slice_get (all_of fs (take f.at items) (take f.directory ds) (take f.written ws)) p
  get_below d w p l lt =
      let low = all_of fs (take f.at items) (take f.directory ds) (take f.written ws) in
      let a = length_low l.at in
      get-append_left low (far_values ds ws f ++ drop f.at items) p (omega (arith, a, l.first, lt))

-- ---- near ones of the current frame

base_is : (fs : List Far) (start base : ℕ) → IsOver fs start base → base ≡ start + total fs
base_is [] start base h = omega (arith, h)
base_is (f ∷ fs) start base h = h.1

pub get_over : (fs : List Far) (items : List Value) (ds : List ℕ) (ws : List Written) (start base i : ℕ) → IsOver fs start base → start + i < length items → slice_get (all_of fs items ds ws) (base + i) ≡ slice_get items (start + i)
get_over [] items ds ws start base i h lt = ap (λ n. slice_get items (n + i)) h
get_over (f ∷ fs) items ds ws start base i h lt =
    let low = all_of fs (take f.at items) (take f.directory ds) (take f.written ws) in
    let far = far_values ds ws f in
    let a = length_low f fs items ds ws (omega (arith, h.0, lt)) in
    let b = length-far_values ds ws f in
    get-append_right low (far ++ drop f.at items) (base + i) (start - f.at + count f + i) (omega (arith, a, h.0, h.1))
    ∙ get-append_right far (drop f.at items) (start - f.at + count f + i) (start - f.at + i) (omega (arith, b))
    ∙ get-drop f.at items (start - f.at + i) (start + i) (omega (arith, h.0))

pub get_under : (f : Far) (fs : List Far) (items : List Value) (ds : List ℕ) (ws : List Written) (d w start base i : ℕ) → Lies f fs (length items) d w → IsOver fs start base → start + i < f.at → slice_get (all_of (f ∷ fs) items ds ws) (base + i) ≡ slice_get items (start + i)
get_under f fs items ds ws d w start base i l h lt =
    get_below f fs items ds ws d w (base + i) l (omega (arith, l.first, base_is fs start base h, lt))
    ∙ get_over fs (take f.at items) (take f.directory ds) (take f.written ws) start base i h (omega (arith, length-take f.at items, l.at, lt))
    ∙ get-take f.at items (start + i) lt

pub set_over : (fs : List Far) (items : List Value) (ds : List ℕ) (ws : List Written) (start base i : ℕ) (v : Value) → IsOver fs start base → start + i < length items → all_of fs (set items (start + i) v) ds ws ≡ set (all_of fs items ds ws) (base + i) v
set_over [] items ds ws start base i v h lt = ap (λ n. set items (n + i) v) (sym h)
set_over (f ∷ fs) items ds ws start base i v h lt =
    let low = all_of fs (take f.at items) (take f.directory ds) (take f.written ws) in
    let far = far_values ds ws f in
    let k = start - f.at + i in
    let a = length_low f fs items ds ws (omega (arith, h.0, lt)) in
    let b = length-far_values ds ws f in
    let at : start + i ≡ f.at + k = omega (arith, h.0) in
    let first : base + i - length low ≡ count f + k = omega (arith, a, h.0, h.1) in
    let second : count f + k - length far ≡ k = omega (arith, b) in
    ap (λ l. all_of fs l (take f.directory ds) (take f.written ws) ++ (far ++ drop f.at (set items (start + i) v))) (take-set-le f.at items (start + i) v (omega (arith, h.0)))
    ∙ ap (λ n. low ++ (far ++ drop f.at (set items n v))) at
    ∙ ap (λ l. low ++ (far ++ l)) (drop-set-add f.at items k v)
    ∙ ap (λ n. low ++ (far ++ set (drop f.at items) n v)) (sym second)
    ∙ ap (λ l. low ++ l) (sym (set-append_right far (drop f.at items) (length far) (count f + k) v refl (omega (arith, b))))
    ∙ ap (λ n. low ++ set (far ++ drop f.at items) n v) (sym first)
    ∙ sym (set-append_right low (far ++ drop f.at items) (length low) (base + i) v refl (omega (arith, a, h.0, h.1)))

pub set_under : (f : Far) (fs : List Far) (items : List Value) (ds : List ℕ) (ws : List Written) (d w start base i : ℕ) (v : Value) → Lies f fs (length items) d w → IsOver fs start base → start + i < f.at → all_of (f ∷ fs) (set items (start + i) v) ds ws ≡ set (all_of (f ∷ fs) items ds ws) (base + i) v
set_under f fs items ds ws d w start base i v l h lt =
    let low = all_of fs (take f.at items) (take f.directory ds) (take f.written ws) in
    let far = far_values ds ws f in
    let a = length_low f fs items ds ws l.at in
    ap (λ x. all_of fs x (take f.directory ds) (take f.written ws) ++ (far ++ drop f.at (set items (start + i) v))) (take-set_within f.at items (start + i) v lt)
    ∙ ap (λ x. x ++ (far ++ drop f.at (set items (start + i) v))) (set_over fs (take f.at items) (take f.directory ds) (take f.written ws) start base i v h (omega (arith, length-take f.at items, l.at, lt)))
    ∙ ap (λ x. set low (base + i) v ++ (far ++ x)) (drop-set-lt f.at items (start + i) v lt)
    ∙ sym (set-append_left low (far ++ drop f.at items) (base + i) v (omega (arith, a, base_is fs start base h, lt)))

-- ---- a far one

pub set_among : (f : Far) (fs : List Far) (items : List Value) (ds : List ℕ) (ws : List Written) (ds' : List ℕ) (ws' : List Written) (d w p j : ℕ) (v : Value) → Lies f fs (length items) d w → p ≡ f.first + j → j < count f → Puts ds ws ds' ws' f j v → all_of (f ∷ fs) items ds' ws' ≡ set (all_of (f ∷ fs) items ds ws) p v
set_among f fs items ds ws ds' ws' d w p j v l is lt puts =
    let low = all_of fs (take f.at items) (take f.directory ds) (take f.written ws) in
    let far = far_values ds ws f in
    let a = length_low f fs items ds ws l.at in
    let b = length-far_values ds ws f in
    let at : p - length low ≡ j = omega (arith, a, l.first, is) in
    ap (λ x. all_of fs (take f.at items) x (take f.written ws') ++ (far_values ds' ws' f ++ drop f.at items)) puts.low_directory
    ∙ ap (λ x. all_of fs (take f.at items) (take f.directory ds) x ++ (far_values ds' ws' f ++ drop f.at items)) puts.low_written
    ∙ ap (λ x. low ++ (x ++ drop f.at items)) (values_set ds ws ds' ws' f 0 j j v (drop near f.types) (omega arith) puts.here puts.others)
    ∙ ap (λ x. low ++ x) (sym (set-append_left far (drop f.at items) j v (omega (arith, b, lt))))
    ∙ ap (λ n. low ++ set (far ++ drop f.at items) n v) (sym at)
    ∙ sym (set-append_right low (far ++ drop f.at items) (length low) p v refl (omega (arith, a, l.first, is)))

-- ---- on top

pub all_of-pushed : (f : Far) (fs : List Far) (items : List Value) (ds : List ℕ) (ws : List Written) → f.at ≡ length items → f.directory ≡ directory_end fs → f.written ≡ length ws → all_of (f ∷ fs) items ds ws ≡ all_of fs items ds ws ++ map default_of (drop near f.types)
all_of-pushed f fs items ds ws at directory written =
    let far = far_values ds ws f in
    ap (λ x. all_of fs x (take f.directory ds) (take f.written ws) ++ (far ++ drop f.at items)) (take_all f.at items (omega (arith, at)))
    ∙ ap (λ x. all_of fs items (take f.directory ds) x ++ (far ++ drop f.at items)) (take_all f.written ws (omega (arith, written)))
    ∙ ap (λ x. x ++ (far ++ drop f.at items)) (all_of-directory fs items ds ws f.directory (omega (arith, directory)))
    ∙ ap (λ x. all_of fs items ds ws ++ (far ++ x)) (drop_all f.at items (omega (arith, at)))
    ∙ ap (λ x. all_of fs items ds ws ++ x) (append-nil far)
    ∙ ap (λ x. all_of fs items ds ws ++ x) (values_none ds ws f 0 (drop near f.types) (omega (arith, written)))

-- ---- what is dropped

pub dropped_behind : (f : Far) (fs : List Far) (items : List Value) (ds : List ℕ) (ws : List Written) (w len : ℕ) → Lies f fs (length items) (length ds) w → IsStacked fs f.at f.directory f.written → len ≤ f.first → take len (all_of fs (take f.at items) ds (take f.written ws)) ≡ take len (all_of (f ∷ fs) items ds ws)
dropped_behind f fs items ds ws w len l h le =
    let low = all_of fs (take f.at items) (take f.directory ds) (take f.written ws) in
    let a = length_low f fs items ds ws l.at in
    ap (take len) (sym (all_of-directory fs (take f.at items) ds (take f.written ws) f.directory (ends_within fs f.at f.directory f.written h)))
    ∙ sym (take-append-le len low (far_values ds ws f ++ drop f.at items) (omega (arith, a, l.first, le)))

pub dropped_near : (f : Far) (fs : List Far) (items : List Value) (ds : List ℕ) (ws : List Written) (d w len m : ℕ) → Lies f fs (length items) d w → f.end ≤ len → m ≡ len - (f.end - f.at) → take len (all_of (f ∷ fs) (take m items) ds ws) ≡ take len (all_of (f ∷ fs) items ds ws)
dropped_near f fs items ds ws d w len m l le is =
    let low = all_of fs (take f.at items) (take f.directory ds) (take f.written ws) in
    let far = far_values ds ws f in
    let k = len - f.end in
    let a = length_low f fs items ds ws l.at in
    let b = length-far_values ds ws f in
    let fits : f.at ≤ m = omega (arith, is, l.first, l.end, le) in
    let over : m ≡ f.at + k = omega (arith, is, l.first, l.end, le) in
    let seam : (d' : List Value) → take len (low ++ (far ++ d')) ≡ low ++ (far ++ take k d') =
    λ d'. take_seam low (far ++ d') len (count f + k) (omega (arith, a, l.first, l.end, le)) ∙ ap (λ x. low ++ x) (take_seam far d' (count f + k) k (omega (arith, b))) in
    ap (λ x. take len (all_of fs x (take f.directory ds) (take f.written ws) ++ (far ++ drop f.at (take m items)))) (take-take f.at m items fits)
    ∙ ap (λ n. take len (low ++ (far ++ drop f.at (take n items)))) over
    ∙ ap (λ x. take len (low ++ (far ++ x))) (drop-take f.at k items)
    ∙ seam (take k (drop f.at items))
    ∙ ap (λ x. low ++ (far ++ x)) (take-take k k (drop f.at items) (omega arith))
    ∙ sym (seam (drop f.at items))
