-- Types of functions by their keys: a key is found where the type is.
use Rattle.std.proofs.Common.{◌≡◌, ◌∙◌, ℕ, ◌+◌, Bool, true, false, not, ◌&&◌, ◌||◌, cond, if◌then◌else◌, List, [], ◌∷◌, ◌++◌, length, map, Option, Some, None, Vec, Global, nat_eq, nat_lt, refl, sym, ap, subst}
use Rattle.std.specs.Prelude.{is_some, position, Result, Ok, Err, OnOk}
use Rattle.std.specs.List.{list_any, position_from, position_or_len}
use Rattle.std.specs.Map.{keys_of}
use Rattle.std.specs.Str.{bytes_eq}
use Rattle.std.proofs.lemmas.List.{length-map, map-append}
use Rattle.std.proofs.lemmas.Iterator.Adapters.{position_from-zero}
use Rattle.indexmap.specs.IndexMap.{IndexMap, insert_entry, keys, values}
use Rattle.ms_types.specs.declared.types.FuncType.{FuncType}
use Rattle.ms_types.specs.declared.types.ValType.{ValType}
use Rattle.ms_types.specs.declared.types.ValType.TheVariants.{I32, I64, Handle}
use Rattle.ms_linear.specs.Table.{same_sig, same_type, same_types}
use Rattle.c_code.specs.Modules.{place_of}
use Rattle.c_emit.specs.refinement.Keys.{code, key, keys_in}

-- ---- keys tell types apart

code_tells : (a b : ValType) → nat_eq (code a) (code b) ≡ same_type a b
code_tells I32 I32 = refl
code_tells I32 I64 = refl
code_tells I32 Handle = refl
code_tells I64 I32 = refl
code_tells I64 I64 = refl
code_tells I64 Handle = refl
code_tells Handle I32 = refl
code_tells Handle I64 = refl
code_tells Handle Handle = refl

no_end : (a : ValType) → nat_eq (code a) 0 ≡ false
no_end I32 = refl
no_end I64 = refl
no_end Handle = refl

no_start : (a : ValType) → nat_eq 0 (code a) ≡ false
no_start I32 = refl
no_start I64 = refl
no_start Handle = refl

codes_tell : (vs bs : List ValType) → bytes_eq (map code vs) (map code bs) ≡ same_types vs bs
codes_tell [] [] = refl
codes_tell [] (b ∷ bs) = refl
codes_tell (a ∷ vs) [] = refl
codes_tell (a ∷ vs) (b ∷ bs) = ap (λ (t : Bool). t && bytes_eq (map code vs) (map code bs)) (code_tells a b) ∙ ap (λ (t : Bool). same_type a b && t) (codes_tell vs bs)

and_assoc : (a b c : Bool) → (a && (b && c)) ≡ ((a && b) && c)
and_assoc true b c = refl
and_assoc false b c = refl

parts_tell : (vs bs cs ds : List ValType)
    → bytes_eq (map code vs ++ 0 ∷ map code cs) (map code bs ++ 0 ∷ map code ds) ≡ (same_types vs bs && same_types cs ds)
parts_tell [] [] cs ds = codes_tell cs ds
parts_tell [] (b ∷ bs) cs ds = ap (λ (t : Bool). t && bytes_eq (map code cs) (map code bs ++ 0 ∷ map code ds)) (no_start b)
parts_tell (a ∷ vs) [] cs ds = ap (λ (t : Bool). t && bytes_eq (map code vs ++ 0 ∷ map code cs) (map code ds)) (no_end a)
parts_tell (a ∷ vs) (b ∷ bs) cs ds =
    ap (λ (t : Bool). t && bytes_eq (map code vs ++ 0 ∷ map code cs) (map code bs ++ 0 ∷ map code ds)) (code_tells a b)
    ∙ ap (λ (t : Bool). same_type a b && t) (parts_tell vs bs cs ds) ∙ and_assoc (same_type a b) (same_types vs bs) (same_types cs ds)

key_tells : (s t : FuncType) → bytes_eq (key s) (key t) ≡ same_sig s t
key_tells s t = parts_tell s.params t.params s.results t.results

-- ---- places

module _ {X Y : Type 0} where
  first_in : (p : Y → Bool) (f : X → Y) (xs : List X) → position_or_len (λ x. p (f x)) xs ≡ position_or_len p (map f xs)
  first_in p f [] = refl
  first_in p f (x ∷ xs) = ap (λ n. cond (not (p (f x))) (1 + n) 0) (first_in p f xs)

  position_in : (p : Y → Bool) (f : X → Y) (xs : List X) → position (λ x. p (f x)) xs ≡ position p (map f xs)
  position_in p f xs =
      ap (λ n. cond (nat_lt n (length xs)) (Some n) None) (first_in p f xs)
      ∙ ap (λ n. cond (nat_lt (position_or_len p (map f xs)) n) (Some (position_or_len p (map f xs))) None) (sym (length-map xs f))

module _ {X : Type 0} where
  first_same : (p q : X → Bool) → ((x : X) → p x ≡ q x) → (xs : List X) → position_or_len p xs ≡ position_or_len q xs
  first_same p q same [] = refl
  first_same p q same (x ∷ xs) =
      ap (λ (b : Bool). cond (not b) (1 + position_or_len p xs) 0) (same x) ∙ ap (λ n. cond (not (q x)) (1 + n) 0) (first_same p q same xs)

  position_same : (p q : X → Bool) → ((x : X) → p x ≡ q x) → (xs : List X) → position p xs ≡ position q xs
  position_same p q same xs = ap (λ n. cond (nat_lt n (length xs)) (Some n) None) (first_same p q same xs)

  none_from : (p : X → Bool) (i : ℕ) (xs : List X) → position_from p i xs ≡ None → list_any p xs ≡ false
  none_from p i [] e = refl
  none_from p i (x ∷ xs) e = by (none_from p (i + 1) xs) (p x) refl e where
    by : (position_from p (i + 1) xs ≡ None → list_any p xs ≡ false) → (b : Bool) → p x ≡ b → cond (p x) (Some i) (position_from p (i + 1) xs) ≡ None
        → (p x || list_any p xs) ≡ false
    by rest true h e = absurd (let q : Some i ≡ None = ap (λ (b : Bool). cond b (Some i) (position_from p (i + 1) xs)) (sym h) ∙ e in cc)
    by rest false h e =
        ap (λ (b : Bool). b || list_any p xs) h ∙ rest (ap (λ (b : Bool). cond b (Some i) (position_from p (i + 1) xs)) (sym h) ∙ e)

  nowhere : (p : X → Bool) (xs : List X) → position p xs ≡ None → list_any p xs ≡ false
  nowhere p xs e = none_from p 0 xs (sym (position_from-zero p xs) ∙ e)

  some_from : (p : X → Bool) (i : ℕ) (xs : List X) → is_some (position_from p i xs) ≡ true → list_any p xs ≡ true
  some_from p i [] e = e
  some_from p i (x ∷ xs) e = by (some_from p (i + 1) xs) (p x) refl e where
    by : (is_some (position_from p (i + 1) xs) ≡ true → list_any p xs ≡ true) → (b : Bool) → p x ≡ b
        → is_some (cond (p x) (Some i) (position_from p (i + 1) xs)) ≡ true → (p x || list_any p xs) ≡ true
    by rest true h e = ap (λ (b : Bool). b || list_any p xs) h
    by rest false h e =
        ap (λ (b : Bool). b || list_any p xs) h ∙ rest (ap (λ (b : Bool). is_some (cond b (Some i) (position_from p (i + 1) xs))) (sym h) ∙ e)

  somewhere : (p : X → Bool) (xs : List X) → is_some (position p xs) ≡ true → list_any p xs ≡ true
  somewhere p xs e = some_from p 0 xs (ap is_some (sym (position_from-zero p xs)) ∙ e)

-- ---- a map by keys

abbrev or_first : Option ℕ → ℕ
or_first None = 0
or_first (Some i) = i

gone : {X : Type 0} (o : Option X) → is_some o ≡ false → o ≡ None
gone None e = refl
gone (Some x) e = absurd cc

abbrev Entry : Type 0
Entry = Vec ℕ Global × FuncType

module _ {S : Type 0} where
  abbrev Kept : IndexMap (Vec ℕ Global) FuncType S → Type 0
  Kept m = keys_in m ≡ map key (values m)

  place_in : (m : IndexMap (Vec ℕ Global) FuncType S) (t : FuncType) (bytes : List ℕ) → Kept m → bytes ≡ key t
      → position (λ (k : Vec ℕ Global). bytes_eq bytes k.items) (keys m) ≡ position (same_sig t) (values m)
  place_in m t bytes h e =
      ap (λ (b : List ℕ). position (λ (k : Vec ℕ Global). bytes_eq b k.items) (keys m)) e
      ∙ position_in (bytes_eq (key t)) (λ (k : Vec ℕ Global). k.items) (keys m) ∙ ap (position (bytes_eq (key t))) h
      ∙ sym (position_in (bytes_eq (key t)) key (values m)) ∙ position_same (λ u. bytes_eq (key t) (key u)) (same_sig t) (key_tells t) (values m)

  pub place_is : (m : IndexMap (Vec ℕ Global) FuncType S) (t : FuncType) (bytes : List ℕ) (n : ℕ) → Kept m → bytes ≡ key t
      → position (λ (k : Vec ℕ Global). bytes_eq bytes k.items) (keys m) ≡ Some n → n ≡ place_of t (values m)
  place_is m t bytes n h e p = ap or_first (sym p ∙ place_in m t bytes h e)

  -- a type that is there stays
  pub there : (m : IndexMap (Vec ℕ Global) FuncType S) (t : FuncType) (bytes : List ℕ) (old : List FuncType) → Kept m → values m ≡ old → bytes ≡ key t
      → is_some (position (λ (k : Vec ℕ Global). bytes_eq bytes k.items) (keys m)) ≡ true
      → old ≡ (if list_any (same_sig t) old then old else old ++ t ∷ [])
  there m t bytes old h is e p =
      let found : list_any (same_sig t) (values m) ≡ true = somewhere (same_sig t) (values m) (ap is_some (sym (place_in m t bytes h e)) ∙ p) in
      subst (λ (l : List FuncType). l ≡ (if list_any (same_sig t) l then l else l ++ t ∷ [])) is
      (sym (ap (λ (b : Bool). cond b (values m) (values m ++ t ∷ [])) found))

  values_added : (m n : IndexMap (Vec ℕ Global) FuncType S) (k : Vec ℕ Global) (t : FuncType) → n.entries ≡ m.entries ++ (k, t) ∷ []
      → values n ≡ values m ++ t ∷ []
  values_added m n k t e = ap (λ (es : List Entry). map (λ (p : Entry). p.1) es) e ∙ map-append (λ (p : Entry). p.1) m.entries ((k, t) ∷ [])

  -- a new one comes last
  added : (m n : IndexMap (Vec ℕ Global) FuncType S) (k : Vec ℕ Global) (t : FuncType) (bytes : List ℕ) → Kept m → bytes ≡ key t
      → is_some (position (λ (b : Vec ℕ Global). bytes_eq bytes b.items) (keys m)) ≡ false → n.entries ≡ m.entries ++ (k, t) ∷ []
      → values n ≡ (if list_any (same_sig t) (values m) then values m else values m ++ t ∷ [])
  added m n k t bytes h e p at =
      let new : list_any (same_sig t) (values m) ≡ false = nowhere (same_sig t) (values m) (sym (place_in m t bytes h e) ∙ gone (position (λ (b : Vec ℕ Global). bytes_eq bytes b.items) (keys m)) p) in
      values_added m n k t at ∙ sym (ap (λ (b : Bool). cond b (values m) (values m ++ t ∷ [])) new)

  pub is_added : {A E : Type 0} (r : Result A E) (m n : IndexMap (Vec ℕ Global) FuncType S) (k : Vec ℕ Global) (s t : FuncType) (bytes : List ℕ) (old : List FuncType)
      → Kept m → values m ≡ old → s ≡ t → bytes ≡ key t → is_some (position (λ (b : Vec ℕ Global). bytes_eq bytes b.items) (keys m)) ≡ false
      → OnOk r (n.entries ≡ m.entries ++ (k, s) ∷ []) → OnOk r (values n ≡ (if list_any (same_sig t) old then old else old ++ t ∷ []))
  is_added (Ok x) m n k s t bytes old h is same e p at =
      subst (λ (l : List FuncType). values n ≡ (if list_any (same_sig t) l then l else l ++ t ∷ [])) is
      (added m n k t bytes h e p (subst (λ (u : FuncType). n.entries ≡ m.entries ++ (k, u) ∷ []) same at))
  is_added (Err x) m n k s t bytes old h is same e p at = at

-- ---- a new key comes last

last_in : (eq : Vec ℕ Global → Vec ℕ Global → Bool) (es : List Entry) (k : Vec ℕ Global) (t : FuncType) → list_any (eq k) (keys_of es) ≡ false
    → insert_entry eq es k t ≡ es ++ (k, t) ∷ []
last_in eq [] k t h = refl
last_in eq (e ∷ es) k t h = by (last_in eq es k t) (eq k e.0) refl where
  by : (list_any (eq k) (keys_of es) ≡ false → insert_entry eq es k t ≡ es ++ (k, t) ∷ []) → (b : Bool) → eq k e.0 ≡ b
      → (if eq k e.0 then (e.0, t) ∷ es else e ∷ insert_entry eq es k t) ≡ e ∷ (es ++ (k, t) ∷ [])
  by rest true q = absurd (let z : true ≡ false = ap (λ (b : Bool). b || list_any (eq k) (keys_of es)) (sym q) ∙ h in cc)
  by rest false q =
      ap (λ (b : Bool). cond b ((e.0, t) ∷ es) (e ∷ insert_entry eq es k t)) q
      ∙ ap (λ (l : List Entry). e ∷ l) (rest (ap (λ (b : Bool). b || list_any (eq k) (keys_of es)) (sym q) ∙ h))

pub comes_last : (es : List Entry) (k : Vec ℕ Global) (t : FuncType) → position (λ (b : Vec ℕ Global). bytes_eq k.items b.items) (keys_of es) ≡ None
    → insert_entry (λ (a b : Vec ℕ Global). bytes_eq a.items b.items) es k t ≡ es ++ (k, t) ∷ []
comes_last es k t e = last_in (λ (a b : Vec ℕ Global). bytes_eq a.items b.items) es k t (nowhere (λ (b : Vec ℕ Global). bytes_eq k.items b.items) (keys_of es) e)
