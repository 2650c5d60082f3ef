-- The ranges that handles lead to, and the search for a live segment.
use Rattle.std.proofs.Common.{◌≡◌, ◌==◌, ℕ, zero, suc, ◌+◌, ◌<◌, ◌≤◌, inl, inr, false, cond, List, [], ◌∷◌, length, drop, slice_get, Option, Some, None, refl, sym, ap, subst, ◌∙◌, arith}
use Rattle.std.specs.List.{Contains}
use Rattle.std.proofs.lemmas.Option.{get_or_from_slice_get, slice_get-get_or, slice_get_within}
use Rattle.std.proofs.lemmas.Bool.{cases_lt, eq-eqb, ne_eqb}
use Rattle.std.proofs.Math.ListN.{get_or}
use Rattle.std.proofs.lemmas.List.Elements.{All-contains}
use Rattle.ms_handle.specs.declared.handle.Handle.{Handle}
use Rattle.ms_handle.specs.declared.handle.Handle.TheVariants as handles
use Rattle.ms_linear.specs.declared.global.GlobalInst.{GlobalInst}
use Rattle.ms_linear.specs.declared.value.Value.{Value}
use Rattle.ms_linear.specs.declared.value.Value.TheVariants as values
use Rattle.ms_live.specs.declared.gaps.Live.{Live}
use Rattle.ms_segment.specs.Memory.{IsFit, IsSound, Memory}
use Rattle.ms_live.proofs.Found.{find-Some}
use Rattle.ms_segment.proofs.Finds.{find-none}
use Rattle.ms_segment.proofs.Standing.{live_is}
use Rattle.ms_tagged.specs.Bytes.{Byte, Data, Piece, held_at, range}
use Rattle.ms_machine.specs.refinement.Holding.{Each, EachGlobal, Fits}
use Rattle.ms_reach.specs.declared.leading.Range.{Range}
use Rattle.ms_reach.specs.Reach.{LeadsTo, ValueLeadsTo}
use Rattle.ms_reach.specs.refinement.Leading.{EndBelow, IsInside, IsRising, IsValueInside, found_in, range_at, range_in, range_of, value_range}

-- ---- items by place

pub place_of : {A : Type 0} (xs : List A) (x : A) → Contains xs x → (k : ℕ) × (slice_get xs k ≡ Some x)
place_of xs x has = (has.0, slice_get-get_or xs has.0 x has.1 ∙ ap Some has.2)

pub at_place : {A : Type 0} (xs : List A) (k : ℕ) (x : A) → slice_get xs k ≡ Some x → Contains xs x
at_place xs k x is = (k, slice_get_within xs k x is, get_or_from_slice_get xs k x x is)

pub rising_at : (live : List Live) (i j : ℕ) (s t : Live) → IsRising live → slice_get live i ≡ Some s → slice_get live j ≡ Some t → i < j → s.id < t.id
rising_at live i j s t rising is_s is_t low =
    let a = ap (λ (u : Live). u.id) (get_or_from_slice_get live i s s is_s) in
    let b = ap (λ (u : Live). u.id) (get_or_from_slice_get live j t s is_t) in
    let h = rising i j s low (slice_get_within live j t is_t) in
    omega (arith, a, b, h)

-- ---- a search by identities

pub lower_more : (live : List Live) (i id : ℕ) (t : Live) → IsRising live → slice_get live i ≡ Some t → t.id < id → (k : ℕ) (s : Live) → slice_get live k ≡ Some s → k < i + 1 → s.id < id
lower_more live i id t rising is_t less k s is_s low =
    elim (cases_lt k i) [
      | inl before ↦ let h = rising_at live k i s t rising is_s is_t before in omega (arith, h, less)
      | inr high ↦ let e : k ≡ i = omega (arith, high, low) in let same : Some s ≡ Some t = sym is_s ∙ (ap (slice_get live) e ∙ is_t) in let it : s ≡ t = cc in omega (arith, ap (λ (u : Live). u.id) it, less)
    ]

pub upper_more : (live : List Live) (i id : ℕ) (t : Live) → IsRising live → slice_get live i ≡ Some t → id < t.id → (k : ℕ) (s : Live) → slice_get live k ≡ Some s → i ≤ k → id < s.id
upper_more live i id t rising is_t less k s is_s high =
    elim (cases_lt i k) [
      | inl behind ↦ let h = rising_at live i k t s rising is_t is_s behind in omega (arith, h, less)
      | inr low ↦ let e : k ≡ i = omega (arith, high, low) in let same : Some s ≡ Some t = sym is_s ∙ (ap (slice_get live) e ∙ is_t) in let it : s ≡ t = cc in omega (arith, ap (λ (u : Live). u.id) it, less)
    ]

-- the same where the item was read by its place
pub upper_read : (live : List Live) (i id : ℕ) (d : Live) → IsRising live → i < length live → ¬ ((get_or live i d).id ≡ id) → id ≤ (get_or live i d).id → (k : ℕ) (s : Live) → slice_get live k ≡ Some s → i ≤ k → id < s.id
upper_read live i id d rising low other le = upper_more live i id (get_or live i d) rising (slice_get-get_or live i d low) (omega (arith, other, le))

pub found_at : (live : List Live) (i id : ℕ) (s : Live) → IsRising live → slice_get live i ≡ Some s → s.id ≡ id → found_in live id ≡ Some s
found_at [] i id s rising is same = absurd (cc)
found_at (t ∷ live) zero id s rising is same =
    let e : t ≡ s = cc in
    ap (λ b. cond b (Some t) (found_in live id)) (eq-eqb t.id id (ap (λ (u : Live). u.id) e ∙ same)) ∙ ap Some e
found_at (t ∷ live) (suc i) id s rising is same =
    let less = rising_at (t ∷ live) 0 (suc i) t s rising refl is (omega arith) in
    let other : (t.id == id) ≡ false = ne_eqb t.id id (λ e. absurd (omega (arith, less, same, e))) in
    ap (λ b. cond b (Some t) (found_in live id)) other ∙ found_at live i id s (λ a b d low within. rising (suc a) (suc b) d (omega arith) (omega arith)) is same

pub found_none : (live : List Live) (low id : ℕ) → ((k : ℕ) (s : Live) → slice_get live k ≡ Some s → k < low → s.id < id) → ((k : ℕ) (s : Live) → slice_get live k ≡ Some s → low ≤ k → id < s.id) → found_in live id ≡ None
found_none live low id lower upper =
    find-none (λ (s : Live). s.id == id) live (λ s has.
    let at = place_of live s has in
    ne_eqb s.id id (λ e. elim (cases_lt at.0 low) [ inl before ↦ absurd (omega (arith, lower at.0 s at.1 before, e)) | inr behind ↦ absurd (omega (arith, upper at.0 s at.1 behind, e)) ]))

-- ---- ranges

module _ (m : Memory) where
  pub range_leads : (h : Handle) (r : Range) (k : ℕ) → range_of m.live h ≡ Some r → r.from ≤ k → k < r.to → LeadsTo m h k
  range_leads handles.Null r k is from to = absurd (cc)
  range_leads handles.Broken r k is from to = absurd (cc)
  range_leads (handles.Good z id base size offset) r k is from to = by (found_in m.live id) refl is where
    by : (o : Option Live) → found_in m.live id ≡ o → range_in o base size ≡ Some r → LeadsTo m (handles.Good z id base size offset) k
    by None e there = absurd (cc)
    by (Some s) e there = let same : range_at s base size ≡ r = cc in (s, e, subst (λ (q : Range). q.from ≤ k) (sym same) from, subst (λ (q : Range). k < q.to) (sym same) to)

  pub leads_range : (h : Handle) (k : ℕ) → LeadsTo m h k → (r : Range) × (range_of m.live h ≡ Some r) × (r.from ≤ k) × (k < r.to)
  leads_range handles.Null k leads = absurd leads
  leads_range handles.Broken k leads = absurd leads
  leads_range (handles.Good z id base size offset) k leads = (range_at leads.0 base size, ap (λ o. range_in o base size) leads.1, leads.2, leads.3)

  pub range_value_leads : (v : Value) (r : Range) (k : ℕ) → value_range m.live v ≡ Some r → r.from ≤ k → k < r.to → ValueLeadsTo m v k
  range_value_leads (values.I32 n) r k is from to = absurd (cc)
  range_value_leads (values.I64 n) r k is from to = absurd (cc)
  range_value_leads (values.Handle h) r k is from to = range_leads h r k is from to

  pub value_leads_range : (v : Value) (k : ℕ) → ValueLeadsTo m v k → (r : Range) × (value_range m.live v ≡ Some r) × (r.from ≤ k) × (k < r.to)
  value_leads_range (values.I32 n) k leads = absurd leads
  value_leads_range (values.I64 n) k leads = absurd leads
  value_leads_range (values.Handle h) k leads = leads_range h k leads

  -- ---- bounds

  pub fit_inside : (h : Handle) → IsFit m h → IsInside m.live h
  fit_inside handles.Null fit = tt
  fit_inside handles.Broken fit = tt
  fit_inside (handles.Good z id base size offset) fit = fit.3

  pub value_inside : (v : Value) → Fits m v → IsValueInside m.live v
  value_inside (values.I32 n) fit = tt
  value_inside (values.I64 n) fit = tt
  value_inside (values.Handle h) fit = fit_inside h fit

  pub sound_end : IsSound m → EndBelow m.live 4294967295
  sound_end s k d below = let w = s.placed.within k d below in omega (arith, w.0, s.capacity)

  pub range_within : (h : Handle) (r : Range) (n : ℕ) → EndBelow m.live n → IsInside m.live h → range_of m.live h ≡ Some r → (r.from ≤ r.to) × (r.to ≤ n)
  range_within handles.Null r n ends inside is = absurd (cc)
  range_within handles.Broken r n ends inside is = absurd (cc)
  range_within (handles.Good z id base size offset) r n ends inside is = by (found_in m.live id) refl is where
    by : (o : Option Live) → found_in m.live id ≡ o → range_in o base size ≡ Some r → (r.from ≤ r.to) × (r.to ≤ n)
    by None e there = absurd (cc)
    by (Some s) e there =
        let same : range_at s base size ≡ r = cc in
        let room = inside s e in
        let end = All-contains (λ (t : Live). t.base + t.size ≤ n) m.live s ends (live_is m id s e).0 in
        subst (λ (q : Range). (q.from ≤ q.to) × (q.to ≤ n)) same (omega arith, omega (arith, room, end))

  pub value_within : (v : Value) (r : Range) (n : ℕ) → EndBelow m.live n → IsValueInside m.live v → value_range m.live v ≡ Some r → (r.from ≤ r.to) × (r.to ≤ n)
  value_within (values.I32 x) r n ends inside is = absurd (cc)
  value_within (values.I64 x) r n ends inside is = absurd (cc)
  value_within (values.Handle h) r n ends inside is = range_within h r n ends inside is

-- the sum of a part of a segment
pub part_fits : (live : List Live) (id base size : ℕ) (s : Live) → EndBelow live 4294967295 → found_in live id ≡ Some s → base + size ≤ s.size → s.base + base + size < 4294967296
part_fits live id base size s ends found room =
    let end = All-contains (λ (t : Live). t.base + t.size ≤ 4294967295) live s ends (find-Some (λ (t : Live). t.id == id) live s found).0 in omega (arith, room, end)

-- ---- pieces

pub held_piece : (bs : List Byte) (at : ℕ) (h : Handle) → held_at (range at 1 bs) ≡ Some h → (i : ℕ) × (slice_get bs at ≡ Some (Piece h i))
held_piece [] zero h is = absurd (cc)
held_piece [] (suc at) h is = absurd (cc)
held_piece (Data b ∷ bs) zero h is = absurd (cc)
held_piece (Piece g i ∷ bs) zero h is = let e : g ≡ h = cc in (i, ap (λ (x : Handle). Some (Piece x i)) e)
held_piece (b ∷ bs) (suc at) h is = held_piece bs at h is

pub piece_held : (bs : List Byte) (at i : ℕ) (h : Handle) → slice_get bs at ≡ Some (Piece h i) → held_at (range at 1 bs) ≡ Some h
piece_held [] zero i h is = absurd (cc)
piece_held [] (suc at) i h is = absurd (cc)
piece_held (Data b ∷ bs) zero i h is = absurd (cc)
piece_held (Piece g j ∷ bs) zero i h is = let same : Piece g j ≡ Piece h i = cc in let e : g ≡ h = cc in ap Some e
piece_held (b ∷ bs) (suc at) i h is = piece_held bs at i h is

pub held_inside : (m : Memory) (at : ℕ) (h : Handle) → IsSound m → held_at (range at 1 m.bytes) ≡ Some h → IsInside m.live h
held_inside m at h sound is = let piece = held_piece m.bytes at h is in fit_inside m h (sound.kept h piece.0 (at_place m.bytes at (Piece h piece.0) piece.1))

-- ---- values one by one

module _ (P : Value → Type 0) where
  pub each_get : (vs : List Value) (i : ℕ) (v : Value) → Each P vs → slice_get vs i ≡ Some v → P v
  each_get [] i v all is = absurd (cc)
  each_get (u ∷ vs) zero v all is = let e : u ≡ v = cc in subst P e all.0
  each_get (u ∷ vs) (suc i) v all is = each_get vs i v all.1 is

  pub global_get : (gs : List GlobalInst) (i : ℕ) (g : GlobalInst) → EachGlobal P gs → slice_get gs i ≡ Some g → P g.value
  global_get [] i g all is = absurd (cc)
  global_get (h ∷ gs) zero g all is = let e : h ≡ g = cc in subst (λ (x : GlobalInst). P x.value) e all.0
  global_get (h ∷ gs) (suc i) g all is = global_get gs i g all.1 is

  pub each_drop : (n : ℕ) (vs : List Value) → Each P vs → Each P (drop n vs)
  each_drop zero vs all = all
  each_drop (suc n) [] all = tt
  each_drop (suc n) (v ∷ vs) all = each_drop n vs all.1

module _ (P Q : Value → Type 0) (implies : (v : Value) → P v → Q v) where
  pub each_implied : (vs : List Value) → Each P vs → Each Q vs
  each_implied [] all = tt
  each_implied (v ∷ vs) all = (implies v all.0, each_implied vs all.1)

  pub global_implied : (gs : List GlobalInst) → EachGlobal P gs → EachGlobal Q gs
  global_implied [] all = tt
  global_implied (g ∷ gs) all = (implies g.value all.0, global_implied gs all.1)
