-- Shapes and the types that they admit.
use Rattle.std.proofs.lemmas.Bool.{eqb-true}
use Rattle.std.proofs.Common.{nat_eq, eq-eqb, ◌≡◌, ℕ, suc, ◌-◌, ◌<◌, ◌≤◌, List, [], ◌∷◌, ◌++◌, Option, Some, None, Bool, true, false, IsTrue, length, slice_get, reverse, take, drop, get_or, refl, sym, ap, ◌∙◌, subst, append_assoc, ◌↔◌, arith}
use Rattle.std.proofs.lemmas.List.{reverse-append, take-append-drop}
use Rattle.std.proofs.Math.Seq.{drop-cons}
use Rattle.ms_types.specs.declared.types.ValType.{ValType}
use Rattle.ms_types.specs.declared.types.ValType.TheVariants.{I32}
use Rattle.ms_rules.specs.Typing.{DropTyped, BrTyped, BrIfTyped, Rel, SelectTyped, types}
use Rattle.ms_valid.specs.refinement.Shape.{Shape, shape, Admits, Allows, DecidesOn, Becomes, HasTypes, Gives, Jumps, Merges, Stuck, Takes, Then, front, behind}

-- ---- relations and their parts

pub becomes_then : {a b c : Shape} {R S : Rel} → Becomes a R b → Becomes b S c → Becomes a (Then R S) c
becomes_then p q = record {
  reached = λ t1 t2 m r. q.reached r.0 t2 (p.reached t1 r.0 m r.1) r.2;
  from = λ t2 m. let y = q.from t2 m in let x = p.from y.0 y.1 in (x.0, x.1, (y.0, x.2, y.2));
}

pub stuck_first : {a : Shape} {R S : Rel} → Stuck a R → Stuck a (Then R S)
stuck_first p = record { none = λ t1 t2 m r. p.none t1 r.0 m r.1 }

pub stuck_then : {a b : Shape} {R S : Rel} → Becomes a R b → Stuck b S → Stuck a (Then R S)
stuck_then p q = record { none = λ t1 t2 m r. q.none r.0 t2 (p.reached t1 r.0 m r.1) r.2 }

pub becomes_as : {a b : Shape} {R S : Rel} → ((t1 t2 : List ValType) → R t1 t2 ↔ S t1 t2) → Becomes a R b → Becomes a S b
becomes_as e p = record {
  reached = λ t1 t2 m s. p.reached t1 t2 m ((e t1 t2).1 s);
  from = λ t2 m. let x = p.from t2 m in (x.0, x.1, (e x.0 t2).0 x.2);
}

pub stuck_as : {a : Shape} {R S : Rel} → ((t1 t2 : List ValType) → R t1 t2 ↔ S t1 t2) → Stuck a R → Stuck a S
stuck_as e p = record { none = λ t1 t2 m s. p.none t1 t2 m ((e t1 t2).1 s) }

-- ---- the topmost slots

pub splits : (us : List (Option ValType)) (d : Bool) (u : Option ValType) → front us d ≡ Some u → (t : ValType) (ts : List ValType) → HasTypes us d (t ∷ ts) ↔ (Allows u t × HasTypes (behind us) d ts)
splits [] false u e t ts = cc
splits [] true u e t ts = let n : None ≡ u = cc in ((λ m. (subst (λ v. Allows v t) n tt, tt)), (λ m. tt))
splits (None ∷ us) d u e t ts = let n : None ≡ u = cc in ((λ m. (subst (λ v. Allows v t) n tt, m)), (λ m. m.1))
splits (Some x ∷ us) d u e t ts = let n : Some x ≡ u = cc in ((λ m. (subst (λ v. Allows v t) n m.0, m.1)), (λ m. (subst (λ v. Allows v t) (sym n) m.0, m.1)))

some_type : (u : Option ValType) → (t : ValType) × Allows u t
some_type None = (I32, tt)
some_type (Some x) = (x, refl)

pub drops : (p q : Shape) (u : Option ValType) → Some u ≡ front p.slots p.dead → q ≡ shape (behind p.slots) p.dead → Becomes p DropTyped q
drops p q u e s = subst (λ z. Becomes p DropTyped z) (sym s) record {
  reached = λ t1 t2 m h. ((splits p.slots p.dead u (sym e) h.0 t2).0 (subst (Admits p) h.1 m)).1;
  from = λ t2 m. let x = some_type u in (x.0 ∷ t2, (splits p.slots p.dead u (sym e) x.0 t2).1 (x.1, m), (x.0, refl));
}

some_types : (us : List (Option ValType)) (d : Bool) → (ts : List ValType) × HasTypes us d ts
some_types [] false = ([], refl)
some_types [] true = ([], tt)
some_types (None ∷ us) d = let r = some_types us d in (I32 ∷ r.0, r.1)
some_types (Some x ∷ us) d = let r = some_types us d in (x ∷ r.0, (refl, r.1))

pub jumps : (us : List (Option ValType)) (d : Bool) → Becomes (shape us d) Jumps (shape [] true)
jumps us d = record { reached = λ t1 t2 m h. tt; from = λ t2 m. let s = some_types us d in (s.0, s.1, tt) }

-- ---- select

merges : (us : List (Option ValType)) (d : Bool) (a b u : Option ValType) → front us d ≡ Some a → front (behind us) d ≡ Some b → ((t : ValType) → Allows u t ↔ (Allows a t × Allows b t)) → Becomes (shape us d) Merges (shape (u ∷ behind (behind us)) d)
merges us d a b u ea eb meet = record { reached = reached; from = from } where
  reached : (t1 t2 : List ValType) → HasTypes us d t1 → Merges t1 t2 → HasTypes (u ∷ behind (behind us)) d t2
  reached t1 t2 m (t, r, e1, e2) =
      let x = (splits us d a ea t (t ∷ r)).0 (subst (HasTypes us d) e1 m) in
      let y = (splits (behind us) d b eb t r).0 x.1 in
      subst (HasTypes (u ∷ behind (behind us)) d) (sym e2) ((splits (u ∷ behind (behind us)) d u refl t r).1 ((meet t).1 (x.0, y.0), y.1))

  from : (t2 : List ValType) → HasTypes (u ∷ behind (behind us)) d t2 → (t1 : List ValType) × HasTypes us d t1 × Merges t1 t2
  from [] m = absurd m
  from (t ∷ r) m =
      let z = (splits (u ∷ behind (behind us)) d u refl t r).0 m in
      let f = (meet t).0 z.0 in
      (t ∷ t ∷ r, (splits us d a ea t (t ∷ r)).1 (f.0, (splits (behind us) d b eb t r).1 (f.1, z.1)), (t, r, refl, refl))

pub merged : (p q r s : Shape) (a b u : Option ValType) → Some a ≡ front p.slots p.dead → q ≡ shape (behind p.slots) p.dead → Some b ≡ front q.slots q.dead → r ≡ shape (behind q.slots) q.dead → ((t : ValType) → Allows u t ↔ (Allows a t × Allows b t)) → s ≡ shape (u ∷ r.slots) r.dead → Becomes p Merges s
merged p q r s a b u ea eq eb er meet es =
    let e : s ≡ shape (u ∷ behind (behind p.slots)) p.dead = es ∙ ap (λ z. shape (u ∷ z.slots) z.dead) (er ∙ ap (λ z. shape (behind z.slots) z.dead) eq) in
    subst (λ z. Becomes p Merges z) (sym e) (merges p.slots p.dead a b u (sym ea) (ap (λ z. front z.slots z.dead) (sym eq) ∙ sym eb) meet)

pub merges_apart : (p q : Shape) (a b : Option ValType) → Some a ≡ front p.slots p.dead → q ≡ shape (behind p.slots) p.dead → Some b ≡ front q.slots q.dead → ((t : ValType) → Allows a t → Allows b t → ⊥) → Stuck p Merges
merges_apart p q a b ea eq eb apart = record { none = none } where
  below : front (behind p.slots) p.dead ≡ Some b
  below = ap (λ z. front z.slots z.dead) (sym eq) ∙ sym eb

  none : (t1 t2 : List ValType) → Admits p t1 → Merges t1 t2 → ⊥
  none t1 t2 m (t, r, e1, e2) =
      let x = (splits p.slots p.dead a (sym ea) t (t ∷ r)).0 (subst (Admits p) e1 m) in
      let y = (splits (behind p.slots) p.dead b below t r).0 x.1 in
      apart t x.0 y.0

selects_are : (t1 t2 : List ValType) → Then (Takes (I32 ∷ [])) Merges t1 t2 ↔ SelectTyped t1 t2
selects_are t1 t2 =
    ((λ x. (x.2.0, x.2.1, x.1 ∙ ap (λ l. I32 ∷ l) x.2.2, x.2.3)), (λ x. (x.0 ∷ x.0 ∷ x.1, x.2, (x.0, x.1, refl, x.3))))

pub selects_nothing : {a : Shape} → Stuck a (Takes (I32 ∷ [])) → Stuck a SelectTyped
selects_nothing x = stuck_as selects_are (stuck_first x)

pub selects : {a b : Shape} (c : Shape) (r : Bool) → Becomes a (Takes (I32 ∷ [])) b → DecidesOn r b Merges c → DecidesOn r a SelectTyped c
selects c true x y = becomes_as selects_are (becomes_then x y)
selects c false x y = stuck_as selects_are (stuck_then x y)

-- ---- the end of a block

none_left : (us : List (Option ValType)) (d : Bool) → HasTypes us d [] ↔ (length us ≡ 0)
none_left [] false = ((λ m. refl), (λ e. refl))
none_left [] true = ((λ m. refl), (λ e. tt))
none_left (u ∷ us) d = ((λ m. absurd m), (λ e. absurd (omega (arith, e))))

pub ended : (a : Shape) (us : List (Option ValType)) (d : Bool) (n : ℕ) (k : Option ValType) → shape us d ≡ a → n ≡ length us → k ≡ None → IsTrue (nat_eq n 0) ↔ Admits a (types k)
ended a us d n k e l none =
    let s = none_left us d in
    subst (λ j. IsTrue (nat_eq n 0) ↔ Admits a (types j)) (sym none) (subst (λ z. IsTrue (nat_eq n 0) ↔ Admits z []) e ((λ z. s.1 (sym l ∙ eqb-true n 0 z)), (λ m. eq-eqb n 0 (l ∙ s.0 m))))

one_left : (us : List (Option ValType)) (d : Bool) (u : Option ValType) (t : ValType) → length us ≡ 1 → slice_get us 0 ≡ Some u → HasTypes us d (t ∷ []) ↔ Allows u t
one_left [] d u t l e = absurd (omega (arith, l))
one_left (w ∷ us) d u t l e =
    let s = splits (w ∷ us) d u e t [] in
    let n : length us ≡ 0 = omega (arith, l) in
    ((λ m. (s.0 m).0), (λ x. s.1 (x, (none_left us d).1 n)))

pub ended_one : (a : Shape) (us : List (Option ValType)) (d : Bool) (u : Option ValType) (t : ValType) (b : Bool) → shape us d ≡ a → length us ≡ 1 → slice_get us 0 ≡ Some u → (IsTrue b ↔ Allows u t) → IsTrue b ↔ Admits a (t ∷ [])
ended_one a us d u t b e l at h =
    let s = one_left us d u t l at in
    subst (λ z. IsTrue b ↔ Admits z (t ∷ [])) e ((λ z. s.1 (h.0 z)), (λ m. h.1 (s.0 m)))

too_many : (us : List (Option ValType)) (d : Bool) (t : ValType) → 2 ≤ length us → HasTypes us d (t ∷ []) → ⊥
too_many [] d t l m = omega (arith, l)
too_many (None ∷ us) d t l m = let n = (none_left us d).0 m in omega (arith, l, n)
too_many (Some x ∷ us) d t l m = let n = (none_left us d).0 m.1 in omega (arith, l, n)

pub not_ended : (a : Shape) (us : List (Option ValType)) (d : Bool) (t : ValType) → shape us d ≡ a → 2 ≤ length us → IsTrue false ↔ Admits a (t ∷ [])
not_ended a us d t e l =
    subst (λ z. IsTrue false ↔ Admits z (t ∷ [])) e ((λ z. cc), (λ m. absurd (too_many us d t l m)))

-- ---- branches

leads_are : (k : Option ValType) (t1 t2 : List ValType) → Then (Takes (types k)) Jumps t1 t2 ↔ BrTyped (Some k) t1 t2
leads_are k t1 t2 =
    ((λ x. (k, x.0, refl, x.1)), (λ x. let e : x.0 ≡ k = (let h = x.2 in cc) in (x.1, x.3 ∙ ap (λ j. types j ++ x.1) e, tt)))

pub leads : {a b c : Shape} (k : Option ValType) → Becomes a (Takes (types k)) b → Becomes b Jumps c → Becomes a (BrTyped (Some k)) c
leads k x y = becomes_as (leads_are k) (becomes_then x y)

leads_if_are : (k : Option ValType) (t1 t2 : List ValType) → Then (Takes (I32 ∷ [])) (Then (Takes (types k)) (Gives (types k))) t1 t2 ↔ BrIfTyped (Some k) t1 t2
leads_if_are k t1 t2 = (
  (λ x. (k, x.2.0, refl, x.1 ∙ ap (λ l. I32 ∷ l) x.2.1, x.2.2)),
  (λ x. let e : x.0 ≡ k = (let h = x.2 in cc) in (types k ++ x.1, x.3 ∙ ap (λ j. I32 ∷ (types j ++ x.1)) e, (x.1, refl, x.4 ∙ ap (λ j. types j ++ x.1) e))),
)

pub leads_if : {a b c d : Shape} (k : Option ValType) → Becomes a (Takes (I32 ∷ [])) b → Becomes b (Takes (types k)) c → Becomes c (Gives (types k)) d → Becomes a (BrIfTyped (Some k)) d
leads_if k x y z = becomes_as (leads_if_are k) (becomes_then x (becomes_then y z))

pub leads_if_other : {a b : Shape} (k : Option ValType) → Becomes a (Takes (I32 ∷ [])) b → Stuck b (Takes (types k)) → Stuck a (BrIfTyped (Some k))
leads_if_other k x y = stuck_as (leads_if_are k) (stuck_then x (stuck_first y))

pub leads_if_nothing : {a : Shape} (k : Option ValType) → Stuck a (Takes (I32 ∷ [])) → Stuck a (BrIfTyped (Some k))
leads_if_nothing k x = stuck_as (leads_if_are k) (stuck_first x)

-- ---- parameters, the last one first

stuck_more : {a b : Shape} (p q : List ValType) → Becomes a (Takes p) b → Stuck b (Takes q) → Stuck a (Takes (p ++ q))
stuck_more p q x y = record { none = λ t1 t2 m e. y.none (q ++ t2) t2 (x.reached t1 (q ++ t2) m (e ∙ append_assoc p q t2)) refl }

stuck_longer : {a : Shape} (p q : List ValType) → Stuck a (Takes p) → Stuck a (Takes (p ++ q))
stuck_longer p q x = record { none = λ t1 t2 m e. x.none t1 (q ++ t2) m (e ∙ append_assoc p q t2) }

-- the last of the types that are left isn't there
pub not_taken : {a b : Shape} (ps : List ValType) (i j : ℕ) (t d : ValType) → 0 < i → i ≤ length ps → j ≡ i - 1 → t ≡ get_or ps j d → Becomes a (Takes (reverse (drop i ps))) b → Stuck b (Takes (t ∷ [])) → Stuck a (Takes (reverse ps))
not_taken {a = a} ps i j t d pos le e et x y =
    let next : suc j ≡ i = omega (arith, e, pos) in
    let low : j < length ps = omega (arith, e, pos, le) in
    let cut : drop j ps ≡ t ∷ drop i ps = drop-cons ps j d low ∙ ap (λ u. u ∷ drop (suc j) ps) (sym et) ∙ ap (λ n. t ∷ drop n ps) next in
    let whole : reverse ps ≡ (reverse (drop i ps) ++ t ∷ []) ++ reverse (take j ps) = ap reverse (sym (take-append-drop j ps)) ∙ reverse-append (take j ps) (drop j ps) ∙ ap (λ l. reverse l ++ reverse (take j ps)) cut ∙ ap (λ l. l ++ reverse (take j ps)) (reverse-append (t ∷ []) (drop i ps)) in
    subst (λ l. Stuck a (Takes l)) (sym whole) (stuck_longer _ _ (stuck_more _ _ x y))
