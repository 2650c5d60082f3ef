-- What the map that the entries of a map make is at each name.
use Rattle.std.proofs.Common.{◌≡◌, ℕ, Bool, true, false, cond, List, [], ◌∷◌, Option, Some, option_map, refl, sym, ap, ◌∙◌}
use Rattle.std.specs.Prelude.{String, string_bytes, string_cmp}
use Rattle.std.specs.BTreeMap.{BTreeMap, UpdatesBy, get_by_text, is_at}
use Rattle.std.specs.Cmp.{eq_by_cmp_equiv}
use Rattle.std.specs.Cmp.Lexicographic.{slice_cmp, nat_list_cmp_total}
use Rattle.std.specs.FinMap.{get, insert, get-empty, get-insert, same_map, slice_cmp-IsAntisymmetric, nat_cmp-IsAntisymmetric}
use Rattle.std.specs.Map.{lookup}
use Rattle.std.specs.Ordering.{nat_cmp, is_eq}
use Rattle.std.specs.Str.{bytes_eq}
use Rattle.std.proofs.lemmas.Map.Text.{is_eq-slice_cmp, btree_map_updates_text}
use Rattle.ms_outside.specs.Files.{name_cmp}
use Rattle.ms_outside.specs.refinement.Kept.{by_name}

cond-seen : {V W : Type 0} (seen : V → W) (b : Bool) (v : V) (x : Option W) (y : Option V) → x ≡ option_map seen y → cond b (Some (seen v)) x ≡ option_map seen (cond b (Some v) y)
cond-seen seen true v x y e = refl
cond-seen seen false v x y e = e

pub get-by_name : {V W Y : Type 0} (seen : V → W) (es : List (String Y × V)) (q : List ℕ) → get (by_name seen es) q ≡ option_map seen (lookup (is_at (λ k. slice_cmp nat_cmp q (string_bytes k))) es)
get-by_name seen [] q = get-empty name_cmp q
get-by_name seen (e ∷ es) q =
    get-insert nat_list_cmp_total (by_name seen es) (string_bytes e.0) (seen e.1) q
    ∙ cond-seen seen (is_eq (slice_cmp nat_cmp q (string_bytes e.0))) e.1 _ _ (get-by_name seen es q)

tied : (bs q : List ℕ) → bytes_eq bs q ≡ is_eq (slice_cmp nat_cmp q bs)
tied bs q = sym (is_eq-slice_cmp bs q) ∙ (eq_by_cmp_equiv nat_list_cmp_total).symm bs q

pub by_name-updated : {V W Y : Type 0} (seen : V → W) (m n : BTreeMap (String Y) V) (bs : List ℕ) (v : V) → UpdatesBy string_cmp (λ k. slice_cmp nat_cmp bs (string_bytes k)) m n (Some v) → by_name seen n.entries ≡ insert (by_name seen m.entries) bs (seen v)
by_name-updated seen m n bs v u = same_map nat_list_cmp_total (slice_cmp-IsAntisymmetric nat_cmp-IsAntisymmetric) _ _ (λ q.
    get-by_name seen n.entries q
    ∙ ap (option_map seen) (btree_map_updates_text bs m n (Some v) u q)
    ∙ sym (cond-seen seen (bytes_eq bs q) v _ (get_by_text m q) (get-by_name seen m.entries q))
    ∙ ap (λ b. cond b (Some (seen v)) (get (by_name seen m.entries) q)) (tied bs q)
    ∙ sym (get-insert nat_list_cmp_total (by_name seen m.entries) bs (seen v) q))
