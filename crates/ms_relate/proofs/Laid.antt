-- What lies by its shape: its parts, and what a change of one leaf keeps.
use Rattle.std.specs.Prelude.{option_and_then}
use Rattle.std.proofs.Common.{◌≡◌, ℕ, zero, suc, ◌+◌, ◌*◌, ◌%◌, ◌<◌, ◌≤◌, ◌⊎◌, inl, inr, Bool, true, false, cond, ltb, List, [], ◌∷◌, Option, Some, None, refl, sym, ap, ◌∙◌, subst, arith}
use Rattle.std.proofs.lemmas.Bool.{ltb-true, or_left, or_right}
use Rattle.std.proofs.Math.Nat.{mul-le-mul_right}
use Rattle.std.proofs.lemmas.Nat.{mul-mod_second}
use Rattle.c_types.specs.Types.{Ty, void, integer, struct, pointer, array, function, is_function}
use Rattle.c_meaning.specs.Shapes.{Shape, scalar, elements, record', Members, no_members, member, size, width, Part, nth_member, part_of}
use Rattle.c_meaning.specs.Values.{Value, Step, to_member, inside, Tree, leaf, group, Trees, none, more, count, nth, put, so_many, zeros, member_zeros, zero_value, under, first, array_by, array_at, with_array_by, with_array, with_element}
use Rattle.c_meaning.specs.Objects.{Span, length_of, member_at, elements_at, span_by, span_at}
use Rattle.ms_relate.specs.refinement.Laid.{Fits, FitMembers, Laid, AreLaid, MembersLaid, has_handles, have_handles, is_handle}

abbrev offset_in : Option Part → ℕ
offset_in None = 0
offset_in (Some p) = p.offset

-- ---- sizes

mutual
  pub size-positive : (s : Shape) → Fits s → 0 < size s
  size-positive (scalar t) fits = fits
  size-positive (elements s n) fits = let h = size-positive s fits.1 in omega (arith, h, mul-le-mul_right (size s) fits.0)
  size-positive (record' n ms) fits = fits.0

-- the members end within the struct
pub fit_end : (ms : Members) (end n : ℕ) → FitMembers ms end n → end ≤ n
fit_end no_members end n fits = fits
fit_end (member o s ms) end n fits = let h = fit_end ms (o + size s) n fits.3 in omega (arith, h, fits.0)

pub member_after : (ms : Members) (end n m : ℕ) (p : Part) → FitMembers ms end n → nth_member ms m ≡ Some p → end ≤ p.offset
member_after no_members end n m p fits is = absurd (cc)
member_after (member o s ms) end n zero p fits is = let same : o ≡ p.offset = ap (λ (x : Option Part). offset_in x) is in omega (arith, fits.0, same)
member_after (member o s ms) end n (suc m) p fits is = let h = member_after ms (o + size s) n m p fits.3 is in omega (arith, h, fits.0)

pub member_fits : (ms : Members) (end n m : ℕ) (p : Part) → FitMembers ms end n → nth_member ms m ≡ Some p → (p.offset + size p.shape ≤ n) × Fits p.shape
member_fits no_members end n m p fits is = absurd (cc)
member_fits (member o s ms) end n zero p fits is =
    let same : record { offset = o; shape = s } ≡ p = cc in
    subst (λ (q : Part). (q.offset + size q.shape ≤ n) × Fits q.shape) same (fit_end ms (o + size s) n fits.3, fits.2)
member_fits (member o s ms) end n (suc m) p fits is = member_fits ms (o + size s) n m p fits.3 is

-- ---- lists of trees

pub count-put : (i : ℕ) (u : Tree) (ts : Trees) → count (put i u ts) ≡ count ts
count-put i u none = refl
count-put zero u (more t ts) = refl
count-put (suc i) u (more t ts) = ap suc (count-put i u ts)

pub count-so_many : (n : ℕ) (t : Tree) → count (so_many n t) ≡ n
count-so_many zero t = refl
count-so_many (suc n) t = ap suc (count-so_many n t)

-- ---- parts

module _ (P : ℕ → Ty → Value → Type 0) where
  pub laid_nth : (ts : Trees) (s : Shape) (a i : ℕ) → i < count ts → AreLaid P ts s a → (t : Tree) × (nth ts i ≡ Some t) × Laid P t s (a + i * size s)
  laid_nth none s a i within laid = absurd (omega arith)
  laid_nth (more t ts) s a zero within laid = (t, refl, subst (Laid P t s) (omega arith) laid.0)
  laid_nth (more t ts) s a (suc i) within laid =
      let next = laid_nth ts s (a + size s) i (omega arith) laid.1 in
      (next.0, next.1, subst (Laid P next.0 s) (omega arith) next.2)

  pub laid_member : (ts : Trees) (ms : Members) (a m : ℕ) (p : Part) → nth_member ms m ≡ Some p → MembersLaid P ts ms a → (t : Tree) × (nth ts m ≡ Some t) × Laid P t p.shape (a + p.offset)
  laid_member ts no_members a m p is laid = absurd (cc)
  laid_member none (member o s ms) a m p is laid = absurd laid
  laid_member (more t ts) (member o s ms) a zero p is laid =
      let same : record { offset = o; shape = s } ≡ p = cc in
      (t, refl, subst (λ (q : Part). Laid P t q.shape (a + q.offset)) same laid.0)
  laid_member (more t ts) (member o s ms) a (suc m) p is laid = laid_member ts ms a m p is laid.1

  -- ---- one step down

  tree_member : (t : Tree) (n : ℕ) (ms : Members) (a m : ℕ) (p : Part) → nth_member ms m ≡ Some p → Laid P t (record' n ms) a → (u : Tree) × (nth (under (Some t)) m ≡ Some u) × Laid P u p.shape (a + p.offset)
  tree_member (leaf v) n ms a m p is laid = absurd laid
  tree_member (group ts) n ms a m p is laid = laid_member ts ms a m p is laid

  down_member : (s : Shape) (ts : Trees) (a i m : ℕ) (p : Part) → part_of s m ≡ Some p → i < count ts → AreLaid P ts s a → (u : Tree) × (nth (under (nth ts i)) m ≡ Some u) × Laid P u p.shape (a + i * size s + p.offset)
  down_member (scalar t) ts a i m p is within laid = absurd (cc)
  down_member (elements s n) ts a i m p is within laid = absurd (cc)
  down_member (record' n ms) ts a i m p is within laid =
      let t = laid_nth ts (record' n ms) a i within laid in
      let u = tree_member t.0 n ms (a + i * n) m p is t.2 in
      (u.0, rw t.1 u.1, u.2)

  tree_elements : (t : Tree) (s : Shape) (n a : ℕ) → Laid P t (elements s n) a → (count (under (Some t)) ≡ n) × AreLaid P (under (Some t)) s a
  tree_elements (leaf v) s n a laid = absurd laid
  tree_elements (group ts) s n a laid = laid

  down_inside : (s : Shape) (n : ℕ) (ts : Trees) (a i : ℕ) → i < count ts → AreLaid P ts (elements s n) a → (count (under (nth ts i)) ≡ n) × AreLaid P (under (nth ts i)) s (a + i * (n * size s))
  down_inside s n ts a i within laid =
      let t = laid_nth ts (elements s n) a i within laid in
      rw t.1 (tree_elements t.0 s n (a + i * (n * size s)) t.2)

-- ---- what a step gives

cond_is : {A : Type 0} (b : Bool) (o : Option A) (x : A) → cond b o None ≡ Some x → (b ≡ true) × (o ≡ Some x)
cond_is true o x e = (refl, e)
cond_is false o x e = absurd (cc)

on_is : {A B : Type 0} (o : Option A) (f : A → Option B) (y : B) → option_and_then f o ≡ Some y → (x : A) × (o ≡ Some x) × (f x ≡ Some y)
on_is None f y e = absurd (cc)
on_is (Some x) f y e = (x, refl, e)

member_at_is : (a : ℕ) (o : Option Part) (t : Span) → member_at a o ≡ Some t → (p : Part) × (o ≡ Some p) × (record { place = a + p.offset; shape = p.shape; count = 1 } ≡ t)
member_at_is a None t e = absurd (cc)
member_at_is a (Some p) t e = (p, refl, cc)

elements_at_is : (a : ℕ) (s : Shape) (t : Span) → elements_at a s ≡ Some t → (u : Shape) × (n : ℕ) × (s ≡ elements u n) × (record { place = a; shape = u; count = n } ≡ t)
elements_at_is a (scalar t) u e = absurd (cc)
elements_at_is a (elements s n) t e = (s, n, refl, cc)
elements_at_is a (record' n ms) t e = absurd (cc)

-- a span whose array lies there
abbrev pub SpanLaid : (ℕ → Ty → Value → Type 0) → Trees → Span → Type 0
SpanLaid P ts s = (count ts ≡ s.count) × AreLaid P ts s.shape s.place

module _ (P : ℕ → Ty → Value → Type 0) where
  inside_by : (s : Shape) (ts : Trees) (a i : ℕ) (t : Span) → i < count ts → elements_at (a + i * size s) s ≡ Some t → AreLaid P ts s a → SpanLaid P (under (nth ts i)) t
  inside_by (scalar u) ts a i t within is laid = absurd (cc)
  inside_by (elements s n) ts a i t within is laid =
      let same : record { place = a + i * (n * size s); shape = s; count = n } ≡ t = cc in
      subst (SpanLaid P (under (nth ts i))) same (down_inside P s n ts a i within laid)
  inside_by (record' n ms) ts a i t within is laid = absurd (cc)

  pub down : (step : Step) (s t : Span) (ts : Trees) → span_by step s ≡ Some t → SpanLaid P ts s → SpanLaid P (array_by step ts) t
  down (to_member i m) s t ts is laid =
      let test = cond_is (ltb i s.count) _ t is in
      let part = member_at_is (s.place + i * size s.shape) (part_of s.shape m) t test.1 in
      let within : i < s.count = ltb-true i s.count test.0 in
      let u = down_member P s.shape ts s.place i m part.0 part.1 (omega (arith, within, laid.0)) laid.1 in
      subst (SpanLaid P (array_by (to_member i m) ts)) part.2 (rw u.1 (refl, (u.2, tt)))
  down (inside i) s t ts is laid =
      let test = cond_is (ltb i s.count) _ t is in
      let within : i < s.count = ltb-true i s.count test.0 in
      inside_by s.shape ts s.place i t (omega (arith, within, laid.0)) test.1 laid.1

  -- along a path
  pub laid_at : (path : List Step) (s t : Span) (ts : Trees) → span_at path s ≡ Some t → SpanLaid P ts s → SpanLaid P (array_at path ts) t
  laid_at [] s t ts is laid = let same : s ≡ t = cc in subst (SpanLaid P ts) same laid
  laid_at (step ∷ path) s t ts is laid =
      let next = on_is (span_by step s) (λ u. span_at path u) t is in
      laid_at path next.0 t (array_by step ts) next.2 (down step s next.0 ts next.1 laid)

-- ---- what weakens

module _ (P Q : ℕ → Ty → Value → Type 0) (lo hi : ℕ) (f : (b : ℕ) (t : Ty) (v : Value) → lo ≤ b → b + width t ≤ hi → P b t v → Q b t v) where
  mutual
    pub laid_weaker : (t : Tree) (s : Shape) (a : ℕ) → Fits s → lo ≤ a → a + size s ≤ hi → Laid P t s a → Laid Q t s a
    laid_weaker (leaf v) (scalar t) a fits low high laid = f a t v low high laid
    laid_weaker (leaf v) (elements s n) a fits low high laid = absurd laid
    laid_weaker (leaf v) (record' n ms) a fits low high laid = absurd laid
    laid_weaker (group ts) (scalar t) a fits low high laid = absurd laid
    laid_weaker (group ts) (elements s n) a fits low high laid = (laid.0, are_weaker ts s a fits.1 low (rw laid.0 high) laid.1)
    laid_weaker (group ts) (record' n ms) a fits low high laid = members_weaker ts ms a 0 n fits.1 low high laid

    pub are_weaker : (ts : Trees) (s : Shape) (a : ℕ) → Fits s → lo ≤ a → a + count ts * size s ≤ hi → AreLaid P ts s a → AreLaid Q ts s a
    are_weaker none s a fits low high laid = tt
    are_weaker (more t ts) s a fits low high laid =
        (laid_weaker t s a fits low (omega arith) laid.0, are_weaker ts s (a + size s) fits (omega arith) (omega arith) laid.1)

    pub members_weaker : (ts : Trees) (ms : Members) (a end n : ℕ) → FitMembers ms end n → lo ≤ a → a + n ≤ hi → MembersLaid P ts ms a → MembersLaid Q ts ms a
    members_weaker none no_members a end n fits low high laid = tt
    members_weaker none (member o s ms) a end n fits low high laid = absurd laid
    members_weaker (more t ts) no_members a end n fits low high laid = absurd laid
    members_weaker (more t ts) (member o s ms) a end n fits low high laid =
        (laid_weaker t s (a + o) fits.2 (omega arith) (omega (arith, fit_end ms (o + size s) n fits.3)) laid.0, members_weaker ts ms a (o + size s) n fits.3 low high laid.1)

-- ---- one leaf is written

-- the leaf has n bytes from c on; what holds of each leaf apart from it goes on holding
module _ (P Q : ℕ → Ty → Value → Type 0) (c n : ℕ) (f : (b : ℕ) (t : Ty) (v : Value) → (b + width t ≤ c) ⊎ (c + n ≤ b) → P b t v → Q b t v) where
  below : (t : Tree) (s : Shape) (a : ℕ) → Fits s → a + size s ≤ c → Laid P t s a → Laid Q t s a
  below t s a fits high laid = laid_weaker P Q 0 c (λ b u v low le h. f b u v (inl le) h) t s a fits (omega arith) high laid

  above : (t : Tree) (s : Shape) (a : ℕ) → Fits s → c + n ≤ a → Laid P t s a → Laid Q t s a
  above t s a fits low laid = laid_weaker P Q (c + n) (a + size s) (λ b u v le high h. f b u v (inr le) h) t s a fits low (omega arith) laid

  are_above : (ts : Trees) (s : Shape) (a : ℕ) → Fits s → c + n ≤ a → AreLaid P ts s a → AreLaid Q ts s a
  are_above ts s a fits low laid = are_weaker P Q (c + n) (a + count ts * size s) (λ b u v le high h. f b u v (inr le) h) ts s a fits low (omega arith) laid

  members_above : (ts : Trees) (ms : Members) (a end k : ℕ) → FitMembers ms end k → c + n ≤ a + end → MembersLaid P ts ms a → MembersLaid Q ts ms a
  members_above none no_members a end k fits low laid = tt
  members_above none (member o s ms) a end k fits low laid = absurd laid
  members_above (more t ts) no_members a end k fits low laid = absurd laid
  members_above (more t ts) (member o s ms) a end k fits low laid =
      (above t s (a + o) fits.2 (omega (arith, fits.0)) laid.0, members_above ts ms a (o + size s) k fits.3 (omega (arith, fits.0)) laid.1)

  -- the element in which it lies
  pub put_element : (ts : Trees) (s : Shape) (a i : ℕ) (u : Tree) → Fits s → i < count ts → a + i * size s ≤ c → c + n ≤ a + i * size s + size s → AreLaid P ts s a → Laid Q u s (a + i * size s) → AreLaid Q (put i u ts) s a
  put_element none s a i u fits within low high laid new = absurd (omega arith)
  put_element (more t ts) s a zero u fits within low high laid new =
      (subst (Laid Q u s) (omega arith) new, are_above ts s (a + size s) fits (omega arith) laid.1)
  put_element (more t ts) s a (suc i) u fits within low high laid new =
      (below t s a fits (omega arith) laid.0, put_element ts s (a + size s) i u fits (omega arith) (omega arith) (omega arith) laid.1 (subst (Laid Q u s) (omega arith) new))

  -- the member in which it lies
  pub put_member : (ts : Trees) (ms : Members) (a end k m : ℕ) (p : Part) (u : Tree) → FitMembers ms end k → nth_member ms m ≡ Some p → a + p.offset ≤ c → c + n ≤ a + p.offset + size p.shape → MembersLaid P ts ms a → Laid Q u p.shape (a + p.offset) → MembersLaid Q (put m u ts) ms a
  put_member ts no_members a end k m p u fits is low high laid new = absurd (cc)
  put_member none (member o s ms) a end k m p u fits is low high laid new = absurd laid
  put_member (more t ts) (member o s ms) a end k zero p u fits is low high laid new =
      let same : p ≡ record { offset = o; shape = s } = cc in
      let ends : c + n ≤ a + o + size s = subst (λ (q : Part). c + n ≤ a + q.offset + size q.shape) same high in
      (subst (λ (q : Part). Laid Q u q.shape (a + q.offset)) same new, members_above ts ms a (o + size s) k fits.3 (omega (arith, ends)) laid.1)
  put_member (more t ts) (member o s ms) a end k (suc m) p u fits is low high laid new =
      let after = member_after ms (o + size s) k m p fits.3 is in
      (below t s (a + o) fits.2 (omega (arith, after)) laid.0, put_member ts ms a (o + size s) k m p u fits.3 is low high laid.1 new)

  -- ---- one step up: the array of a step is written

  up_in : (t : Tree) (k : ℕ) (ms : Members) (a m : ℕ) (p : Part) (us : Trees) → Fits (record' k ms) → nth_member ms m ≡ Some p → a + p.offset ≤ c → c + n ≤ a + p.offset + size p.shape → Laid P t (record' k ms) a → Laid Q (first us) p.shape (a + p.offset) → Laid Q (group (put m (first us) (under (Some t)))) (record' k ms) a
  up_in (leaf v) k ms a m p us fits is low high laid new = absurd laid
  up_in (group ts) k ms a m p us fits is low high laid new = put_member ts ms a 0 k m p (first us) fits.1 is low high laid new

  up_member : (s : Shape) (ts us : Trees) (a i m : ℕ) (p : Part) → part_of s m ≡ Some p → i < count ts → Fits s → a + i * size s + p.offset ≤ c → c + n ≤ a + i * size s + p.offset + size p.shape → AreLaid P ts s a → Laid Q (first us) p.shape (a + i * size s + p.offset) → AreLaid Q (with_array_by (to_member i m) us ts) s a
  up_member (scalar t) ts us a i m p is within fits low high laid new = absurd (cc)
  up_member (elements s k) ts us a i m p is within fits low high laid new = absurd (cc)
  up_member (record' k ms) ts us a i m p is within fits low high laid new =
      let t = laid_nth P ts (record' k ms) a i within laid in
      let part = member_fits ms 0 k m p fits.1 is in
      rw t.1 (put_element ts (record' k ms) a i _ fits within (omega arith) (omega (arith, part.0)) laid (up_in t.0 k ms (a + i * k) m p us fits is low high t.2 new))

  up_inside : (s : Shape) (ts us : Trees) (a i : ℕ) (t : Span) → elements_at (a + i * size s) s ≡ Some t → i < count ts → Fits s → t.place ≤ c → c + n ≤ t.place + length_of t → AreLaid P ts s a → SpanLaid Q us t → AreLaid Q (with_array_by (inside i) us ts) s a
  up_inside (scalar u) ts us a i t is within fits low high laid new = absurd (cc)
  up_inside (record' k ms) ts us a i t is within fits low high laid new = absurd (cc)
  up_inside (elements s k) ts us a i t is within fits low high laid new =
      let same : t ≡ record { place = a + i * (k * size s); shape = s; count = k } = cc in
      let near : a + i * (k * size s) ≤ c = subst (λ (x : Span). x.place ≤ c) same low in
      let far : c + n ≤ a + i * (k * size s) + k * size s = subst (λ (x : Span). c + n ≤ x.place + length_of x) same high in
      put_element ts (elements s k) a i (group us) fits within near far laid (subst (SpanLaid Q us) same new)

  alone_first : (us : Trees) (s : Shape) (a : ℕ) → count us ≡ 1 → AreLaid Q us s a → Laid Q (first us) s a
  alone_first none s a one laid = absurd (omega (arith, one))
  alone_first (more t ts) s a one laid = laid.0

  up : (step : Step) (s t : Span) (ts us : Trees) → span_by step s ≡ Some t → Fits s.shape → t.place ≤ c → c + n ≤ t.place + length_of t → SpanLaid P ts s → SpanLaid Q us t → SpanLaid Q (with_array_by step us ts) s
  up (to_member i m) s t ts us is fits low high laid new =
      let test = cond_is (ltb i s.count) _ t is in
      let part = member_at_is (s.place + i * size s.shape) (part_of s.shape m) t test.1 in
      let within : i < s.count = ltb-true i s.count test.0 in
      let same : t ≡ record { place = s.place + i * size s.shape + part.0.offset; shape = part.0.shape; count = 1 } = sym part.2 in
      let near : s.place + i * size s.shape + part.0.offset ≤ c = subst (λ (x : Span). x.place ≤ c) same low in
      let far : c + n ≤ s.place + i * size s.shape + part.0.offset + 1 * size part.0.shape = subst (λ (x : Span). c + n ≤ x.place + length_of x) same high in
      let there = subst (SpanLaid Q us) same new in
      (count-put i _ ts ∙ laid.0, up_member s.shape ts us s.place i m part.0 part.1 (omega (arith, within, laid.0)) fits near (omega (arith, far)) laid.1 (alone_first us part.0.shape _ there.0 there.1))
  up (inside i) s t ts us is fits low high laid new =
      let test = cond_is (ltb i s.count) _ t is in
      let within : i < s.count = ltb-true i s.count test.0 in
      (count-put i _ ts ∙ laid.0, up_inside s.shape ts us s.place i t test.1 (omega (arith, within, laid.0)) fits low high laid.1 new)

-- ---- where a span lies

pub part_fits : (s : Shape) (m : ℕ) (p : Part) → Fits s → part_of s m ≡ Some p → (p.offset + size p.shape ≤ size s) × Fits p.shape
part_fits (scalar t) m p fits is = absurd (cc)
part_fits (elements s k) m p fits is = absurd (cc)
part_fits (record' k ms) m p fits is = member_fits ms 0 k m p fits.1 is

-- a span within another, of a shape that fits
abbrev pub IsWithin : Span → Span → Type 0
IsWithin t s = (s.place ≤ t.place) × (t.place + length_of t ≤ s.place + length_of s) × Fits t.shape

elements_within : (s : Shape) (a : ℕ) (t : Span) → Fits s → elements_at a s ≡ Some t → (a ≤ t.place) × (t.place + length_of t ≤ a + size s) × Fits t.shape
elements_within (scalar u) a t fits is = absurd (cc)
elements_within (record' k ms) a t fits is = absurd (cc)
elements_within (elements s k) a t fits is =
    let same : record { place = a; shape = s; count = k } ≡ t = cc in
    subst (λ (x : Span). (a ≤ x.place) × (x.place + length_of x ≤ a + k * size s) × Fits x.shape) same (omega arith, omega arith, fits.1)

-- element i ends within the array
pub index_within : (i k w : ℕ) → i < k → i * w + w ≤ k * w
index_within i k w within = let h : (i + 1) * w ≤ k * w = mul-le-mul_right w (let g : i + 1 ≤ k = omega arith in g) in omega (arith, h)

pub step_within : (step : Step) (s t : Span) → Fits s.shape → span_by step s ≡ Some t → IsWithin t s
step_within (to_member i m) s t fits is =
    let test = cond_is (ltb i s.count) _ t is in
    let part = member_at_is (s.place + i * size s.shape) (part_of s.shape m) t test.1 in
    let within = index_within i s.count (size s.shape) (ltb-true i s.count test.0) in
    let fit = part_fits s.shape m part.0 fits part.1 in
    subst (λ (x : Span). IsWithin x s) part.2 (omega arith, omega (arith, within, fit.0), fit.1)
step_within (inside i) s t fits is =
    let test = cond_is (ltb i s.count) _ t is in
    let within = index_within i s.count (size s.shape) (ltb-true i s.count test.0) in
    let there = elements_within s.shape (s.place + i * size s.shape) t fits test.1 in
    (omega (arith, there.0), omega (arith, there.1, within), there.2)

pub path_within : (path : List Step) (s t : Span) → Fits s.shape → span_at path s ≡ Some t → IsWithin t s
path_within [] s t fits is = let same : s ≡ t = cc in subst (λ (x : Span). IsWithin x s) same (omega arith, omega arith, fits)
path_within (step ∷ path) s t fits is =
    let next = on_is (span_by step s) (λ u. span_at path u) t is in
    let near = step_within step s next.0 fits next.1 in
    let far = path_within path next.0 t near.2 next.2 in
    (omega (arith, near.0, far.0), omega (arith, near.1, far.1), far.2)

-- ---- along a path

module _ (P Q : ℕ → Ty → Value → Type 0) (c n : ℕ) (f : (b : ℕ) (t : Ty) (v : Value) → (b + width t ≤ c) ⊎ (c + n ≤ b) → P b t v → Q b t v) where
  pub laid_with_array : (path : List Step) (s t : Span) (ts us : Trees) → span_at path s ≡ Some t → Fits s.shape → t.place ≤ c → c + n ≤ t.place + length_of t → SpanLaid P ts s → SpanLaid Q us t → SpanLaid Q (with_array path us ts) s
  laid_with_array [] s t ts us is fits low high laid new = let same : t ≡ s = cc in subst (SpanLaid Q us) same new
  laid_with_array (step ∷ path) s t ts us is fits low high laid new =
      let next = on_is (span_by step s) (λ u. span_at path u) t is in
      let near = step_within step s next.0 fits next.1 in
      let far = path_within path next.0 t near.2 next.2 in
      let there = laid_with_array path next.0 t (array_by step ts) us next.2 near.2 low high (down P step s next.0 ts next.1 laid) new in
      up P Q c n f step s next.0 ts _ next.1 fits (omega (arith, far.0)) (omega (arith, far.1)) laid there

  -- an element of the array at the end of the path is written
  pub laid_write : (path : List Step) (s t : Span) (ts : Trees) (k : ℕ) (u : Tree) → span_at path s ≡ Some t → Fits s.shape → k < t.count → c ≡ t.place + k * size t.shape → n ≡ size t.shape → SpanLaid P ts s → Laid Q u t.shape c → SpanLaid Q (with_element path k u ts) s
  laid_write path s t ts k u is fits within from long laid new =
      let there = laid_at P path s t ts is laid in
      let at = path_within path s t fits is in
      let room = index_within k t.count (size t.shape) within in
      let here : AreLaid Q (put k u (array_at path ts)) t.shape t.place = put_element P Q c n f (array_at path ts) t.shape t.place k u at.2 (omega (arith, within, there.0)) (omega (arith, from)) (omega (arith, from, long)) there.1 (subst (Laid Q u t.shape) from new) in
      laid_with_array path s t ts (put k u (array_at path ts)) is fits (omega (arith, from)) (omega (arith, from, long, room)) laid (count-put k u (array_at path ts) ∙ there.0, here)

-- ---- zeros

times_aligned : (n w : ℕ) → w % 16 ≡ 0 → (n * w) % 16 ≡ 0
times_aligned n w e = sym (mul-mod_second n w 16) ∙ (ap (λ x. (n * x) % 16) e ∙ omega arith)

pub handle_width : (t : Ty) → is_handle t ≡ true → width t ≡ 16
handle_width (pointer t) e = pointer_width (is_function t) e where
  pointer_width : (b : Bool) → cond b false true ≡ true → (let n : ℕ = cond b 4 16 in n ≡ 16)
  pointer_width true e = absurd (cc)
  pointer_width false e = refl
handle_width void e = absurd (cc)
handle_width (integer t) e = absurd (cc)
handle_width (struct n) e = absurd (cc)
handle_width (array t n) e = absurd (cc)
handle_width (function r ps) e = absurd (cc)

-- the size of what holds pointers is a multiple of 16
pub size_aligned : (s : Shape) → Fits s → has_handles s ≡ true → size s % 16 ≡ 0
size_aligned (scalar t) fits has = ap (λ n. n % 16) (handle_width t has)
size_aligned (elements s n) fits has = times_aligned n (size s) (size_aligned s fits.1 has)
size_aligned (record' n ms) fits has = fits.2 has

module _ (P : ℕ → Ty → Value → Type 0) (lo hi : ℕ) (f : (b : ℕ) (t : Ty) → lo ≤ b → b + width t ≤ hi → 0 < width t → (is_handle t ≡ true → b % 16 ≡ 0) → P b t (zero_value t)) where
  zero_elements : (s : Shape) (n a : ℕ) → ((b : ℕ) → lo ≤ b → b + size s ≤ hi → (has_handles s ≡ true → b % 16 ≡ 0) → Laid P (zeros s) s b) → (has_handles s ≡ true → size s % 16 ≡ 0) → lo ≤ a → a + n * size s ≤ hi → (has_handles s ≡ true → a % 16 ≡ 0) → AreLaid P (so_many n (zeros s)) s a
  zero_elements s zero a each long low high aligned = tt
  zero_elements s (suc n) a each long low high aligned =
      (each a low (omega arith) aligned, zero_elements s n (a + size s) each long (omega arith) (omega arith) (λ has. omega (arith, long has, aligned has)))

  mutual
    pub laid_zeros : (s : Shape) (a : ℕ) → Fits s → lo ≤ a → a + size s ≤ hi → (has_handles s ≡ true → a % 16 ≡ 0) → Laid P (zeros s) s a
    laid_zeros (scalar t) a fits low high aligned = f a t low high fits aligned
    laid_zeros (elements s n) a fits low high aligned =
        (count-so_many n (zeros s), zero_elements s n a (λ b. laid_zeros s b fits.1) (size_aligned s fits.1) low high aligned)
    laid_zeros (record' n ms) a fits low high aligned = members_laid ms a 0 n fits.1 low high aligned

    pub members_laid : (ms : Members) (a end n : ℕ) → FitMembers ms end n → lo ≤ a → a + n ≤ hi → (have_handles ms ≡ true → a % 16 ≡ 0) → MembersLaid P (member_zeros ms) ms a
    members_laid no_members a end n fits low high aligned = tt
    members_laid (member o s ms) a end n fits low high aligned =
        (laid_zeros s (a + o) fits.2 (omega arith) (omega (arith, fit_end ms (o + size s) n fits.3)) (λ has. omega (arith, fits.1 has, aligned (or_left (has_handles s) (have_handles ms) has))), members_laid ms a (o + size s) n fits.3 low high (λ have. aligned (or_right (has_handles s) (have_handles ms) have)))

  pub span_zeros : (s : Span) → Fits s.shape → lo ≤ s.place → s.place + length_of s ≤ hi → s.place % 16 ≡ 0 → SpanLaid P (so_many s.count (zeros s.shape)) s
  span_zeros s fits low high aligned =
      (count-so_many s.count (zeros s.shape), zero_elements s.shape s.count s.place (λ b. laid_zeros s.shape b fits) (size_aligned s.shape fits) low high (λ has. aligned))
