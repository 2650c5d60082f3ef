-- The far ones begin one behind the other, and those that begin behind a local don't matter to it.
use Rattle.std.proofs.Common.{◌≡◌, ℕ, zero, suc, ◌+◌, ◌-◌, ◌<◌, ◌≤◌, List, [], ◌∷◌, ◌++◌, length, take, drop, reverse, slice_get, get_or, refl, sym, ap, subst, ◌∙◌, arith, append_assoc}
use Rattle.std.specs.List.Sorted.{IsNonDecreasingBy, IsPartitionPoint}
use Rattle.std.proofs.Math.Seq.{split_at}
use Rattle.std.proofs.lemmas.List.{get_or-reverse, get_or-take, length-reverse, length-take, reverse-append, take-take}
use Rattle.ms_linear.specs.declared.value.Value.{Value}
use Rattle.ms_task.specs.declared.far.Far.{Far}
use Rattle.ms_task.specs.declared.far.Written.{Written}
use Rattle.ms_task.specs.refinement.Far.{HaveBegun, IsStacked, Lies, all_of, total}
use Rattle.ms_task.proofs.Stacked.{get_below, stacked_in_more}

-- ---- they begin one behind the other

under : (fs : List Far) (n d w j : ℕ) (e : Far) → IsStacked fs n d w → j < length fs → (get_or fs j e).first ≤ n + total fs
under [] n d w j e h lt = absurd (omega (arith, lt))
under (f ∷ fs) n d w zero e h lt = omega (arith, h.0.first, h.0.at)
under (f ∷ fs) n d w (suc j) e h lt = omega (arith, under fs f.at f.directory f.written j e h.1 (omega (arith, lt)), h.0.at)

fall : (fs : List Far) (n d w i j : ℕ) (e : Far) → IsStacked fs n d w → i ≤ j → j < length fs → (get_or fs j e).first ≤ (get_or fs i e).first
fall [] n d w i j e h le lt = absurd (omega (arith, lt))
fall (f ∷ fs) n d w zero zero e h le lt = omega arith
fall (f ∷ fs) n d w zero (suc j) e h le lt = omega (arith, under fs f.at f.directory f.written j e h.1 (omega (arith, lt)), h.0.first)
fall (f ∷ fs) n d w (suc i) zero e h le lt = absurd (omega (arith, le))
fall (f ∷ fs) n d w (suc i) (suc j) e h le lt = fall fs f.at f.directory f.written i j e h.1 (omega (arith, le)) (omega (arith, lt))

from_top : (far : List Far) (i : ℕ) (e : Far) → i < length far → get_or far i e ≡ get_or (reverse far) (length far - 1 - i) e
from_top far i e lt =
    let k = length far - 1 - i in
    let back : length far - 1 - k ≡ i = omega (arith, lt) in
    sym (get_or-reverse far k e (omega (arith, lt)) ∙ ap (λ m. get_or far m e) back)

pub beginnings_rise : (far : List Far) (n d w : ℕ) → IsStacked (reverse far) n d w → IsNonDecreasingBy (λ f. f.first) far
beginnings_rise far n d w h i j e le lt =
    let a = ap (λ (f : Far). f.first) (from_top far i e (omega (arith, le, lt))) in
    let b = ap (λ (f : Far). f.first) (from_top far j e lt) in
    let c = fall (reverse far) n d w (length far - 1 - j) (length far - 1 - i) e h (omega (arith, le, lt)) (omega (arith, length-reverse far, lt)) in
    omega (arith, a, b, c)

-- where the last one has begun, all have
pub all_in_front : (far : List Far) (f : Far) (fs : List Far) (n d w p : ℕ) → reverse far ≡ f ∷ fs → IsStacked (reverse far) n d w → f.first ≤ p → IsPartitionPoint (λ (g : Far). g.first ≤ p) (λ (g : Far). p < g.first) far (length far)
all_in_front far f fs n d w p parts h begun = (
  (λ k e low lt.
      let a = ap (λ (g : Far). g.first) (from_top far k e lt) in
      let top = ap (λ (gs : List Far). (get_or gs 0 e).first) parts in
      let b = fall (reverse far) n d w 0 (length far - 1 - k) e h (omega arith) (omega (arith, length-reverse far, lt)) in
      omega (arith, a, b, top, begun)),
  (λ k e le lt. absurd (omega (arith, le, lt))),
)

-- ---- of some that lie over others

lower_stacked : (hs : List Far) (f : Far) (fs : List Far) (n d w : ℕ) → IsStacked (hs ++ f ∷ fs) n d w → IsStacked fs f.at f.directory f.written
lower_stacked [] f fs n d w h = h.1
lower_stacked (g ∷ hs) f fs n d w h = lower_stacked hs f fs g.at g.directory g.written h.1

record Fits (f : Far) (fs : List Far) (n d w : ℕ) : Type 0 where
  pub at : f.at ≤ n
  pub directory : f.directory ≤ d
  pub written : f.written ≤ w
  pub first : f.first ≡ f.at + total fs

fits : (hs : List Far) (f : Far) (fs : List Far) (n d w : ℕ) → IsStacked (hs ++ f ∷ fs) n d w → Fits f fs n d w
fits [] f fs n d w h = record { at = h.0.at; directory = omega (arith, h.0.directory); written = h.0.written; first = h.0.first }
fits (g ∷ hs) f fs n d w h =
    let i = fits hs f fs g.at g.directory g.written h.1 in
    record { at = omega (arith, i.at, h.0.at); directory = omega (arith, i.directory, h.0.directory); written = omega (arith, i.written, h.0.written); first = i.first }

over : (hs : List Far) (f : Far) (fs : List Far) (n d w : ℕ) → IsStacked (hs ++ f ∷ fs) n d w → f.first ≤ n + total (hs ++ f ∷ fs)
over [] f fs n d w h = omega (arith, h.0.first, h.0.at)
over (g ∷ hs) f fs n d w h = omega (arith, over hs f fs g.at g.directory g.written h.1, h.0.at)

get_lower : (hs : List Far) (f : Far) (fs : List Far) (items : List Value) (ds : List ℕ) (ws : List Written) (n d w p : ℕ) → IsStacked (hs ++ f ∷ fs) n d w → n ≡ length items → p < f.first
    → slice_get (all_of (hs ++ f ∷ fs) items ds ws) p ≡ slice_get (all_of fs (take f.at items) (take f.directory ds) (take f.written ws)) p
get_lower [] f fs items ds ws n d w p h is lt = get_below f fs items ds ws d w p (subst (λ m. Lies f fs m d w) is h.0) lt
get_lower (g ∷ hs) f fs items ds ws n d w p h is lt =
    let i = fits hs f fs g.at g.directory g.written h.1 in
    let above : p < g.first = omega (arith, lt, over hs f fs g.at g.directory g.written h.1, h.0.first) in
    let long : g.at ≡ length (take g.at items) = omega (arith, length-take g.at items, h.0.at, is) in
    get_below g (hs ++ f ∷ fs) items ds ws d w p (subst (λ m. Lies g (hs ++ f ∷ fs) m d w) is h.0) above
    ∙ get_lower hs f fs (take g.at items) (take g.directory ds) (take g.written ws) g.at g.directory g.written p h.1 long lt
    ∙ ap (λ l. slice_get (all_of fs l (take f.directory (take g.directory ds)) (take f.written (take g.written ws))) p) (take-take f.at g.at items i.at)
    ∙ ap (λ l. slice_get (all_of fs (take f.at items) l (take f.written (take g.written ws))) p) (take-take f.directory g.directory ds i.directory)
    ∙ ap (λ l. slice_get (all_of fs (take f.at items) (take f.directory ds) l) p) (take-take f.written g.written ws i.written)

-- ---- the first so many

parted : (far : List Far) (k : ℕ) (f : Far) → k < length far → get_or far k f ≡ f → reverse far ≡ reverse (drop (suc k) far) ++ f ∷ reverse (take k far)
parted far k f lt is =
    let high = drop (suc k) far in
    ap reverse (split_at far k f lt)
    ∙ ap (λ g. reverse (take k far ++ g ∷ high)) is
    ∙ reverse-append (take k far) (f ∷ high)
    ∙ ap (λ l. l ++ reverse (take k far)) (reverse-append (f ∷ []) high)
    ∙ append_assoc (reverse high) (f ∷ []) (reverse (take k far))

module _ (far : List Far) (k : ℕ) (f : Far) (lt : k < length far) (is : get_or far k f ≡ f) (items : List Value) (ds : List ℕ) (ws : List Written) (h : IsStacked (reverse far) (length items) (length ds) (length ws)) where
  abbrev high : List Far
  high = reverse (drop (suc k) far)

  stacked : IsStacked (high ++ f ∷ reverse (take k far)) (length items) (length ds) (length ws)
  stacked = subst (λ l. IsStacked l (length items) (length ds) (length ws)) (parted far k f lt is) h

  fit : Fits f (reverse (take k far)) (length items) (length ds) (length ws)
  fit = fits high f (reverse (take k far)) (length items) (length ds) (length ws) stacked

  pub long_items : f.at ≡ length (take f.at items)
  long_items = omega (arith, length-take f.at items, fit.at)

  pub long_directory : f.directory ≡ length (take f.directory ds)
  long_directory = omega (arith, length-take f.directory ds, fit.directory)

  pub long_written : f.written ≡ length (take f.written ws)
  long_written = omega (arith, length-take f.written ws, fit.written)

  pub first_stacked : IsStacked (reverse (take k far)) (length (take f.at items)) (length (take f.directory ds)) (length (take f.written ws))
  first_stacked = stacked_in_more (reverse (take k far)) f.at f.directory f.written (length (take f.at items)) (length (take f.directory ds)) (length (take f.written ws))
      (omega (arith, long_items)) (omega (arith, long_directory)) (omega (arith, long_written))
      (lower_stacked high f (reverse (take k far)) (length items) (length ds) (length ws) stacked)

  pub first_within : (p : ℕ) → p < f.first → p < length (take f.at items) + total (reverse (take k far))
  first_within p below = omega (arith, fit.first, long_items, below)

  pub read_first : (p : ℕ) → p < f.first → slice_get (all_of (reverse far) items ds ws) p ≡ slice_get (all_of (reverse (take k far)) (take f.at items) (take f.directory ds) (take f.written ws)) p
  read_first p below =
      ap (λ l. slice_get (all_of l items ds ws) p) (parted far k f lt is)
      ∙ get_lower high f (reverse (take k far)) items ds ws (length items) (length ds) (length ws) p stacked refl below

-- the last one has begun where each has
have_begun : (far : List Far) (p : ℕ) → ((j : ℕ) (e : Far) → j < length far → (get_or far j e).first ≤ p) → HaveBegun (reverse far) p
have_begun far p each = begun (reverse far) (λ e some. let a = ap (λ (f : Far). f.first) (top e some) in omega (arith, a, each (length far - 1) e (omega (arith, length-reverse far, some)))) where
  top : (e : Far) → 0 < length (reverse far) → get_or (reverse far) 0 e ≡ get_or far (length far - 1) e
  top e some = get_or-reverse far 0 e (omega (arith, length-reverse far, some)) ∙ ap (λ m. get_or far m e) (omega arith)

  begun : (fs : List Far) → ((e : Far) → 0 < length fs → (get_or fs 0 e).first ≤ p) → HaveBegun fs p
  begun [] h = tt
  begun (f ∷ fs) h = h f (omega arith)

module _ (far : List Far) (p k : ℕ) (point : IsPartitionPoint (λ (f : Far). f.first ≤ p) (λ (f : Far). p < f.first) far k) where
  pub all_begun : length far ≤ k → HaveBegun (reverse far) p
  all_begun le = have_begun far p (λ j e lt. point.0 j e (omega arith) (omega (arith, le, lt)))

  pub first_begun : k ≤ length far → HaveBegun (reverse (take k far)) p
  first_begun le = have_begun (take k far) p (λ j e lt.
      let in_first : j < k = omega (arith, length-take k far, lt, le) in
      let a = ap (λ (f : Far). f.first) (get_or-take k far j e in_first) in
      omega (arith, a, point.0 j e (omega arith) in_first))

  pub begins_behind : (f : Far) → k < length far → get_or far k f ≡ f → p < f.first
  begins_behind f lt is = let a = ap (λ (g : Far). g.first) is in omega (arith, a, point.1 k f (omega arith) lt)
