-- Variables as locals: a plain variable's local has its value, that of an object the handle of its first element. What is known of them
-- goes on holding where more objects have homes, and where a variable is written.
use Rattle.std.proofs.Common.{◌≡◌, ◌≢◌, ℕ, zero, suc, ◌+◌, ◌<◌, ◌≤◌, List, [], ◌∷◌, ◌++◌, length, Bool, true, false, Option, Some, None, refl, sym, ap, ◌∙◌, arith, subst}
use Rattle.std.specs.Prelude.{slice_get, slice_set}
use Rattle.ms_handle.specs.declared.handle.Handle.TheVariants.{Null}
use Rattle.ms_linear.specs.declared.value.Value.{Value as Word}
use Rattle.ms_linear.specs.declared.value.Value.TheVariants.{I32, Handle}
use Rattle.c_types.specs.Layout.{Table}
use Rattle.c_types.specs.Types.{Ty}
use Rattle.c_meaning.specs.Shapes.{shape}
use Rattle.c_meaning.specs.Values.{Value}
use Rattle.c_meaning.specs.Objects.{Object, ended, frame, to_object}
use Rattle.c_meaning.specs.World.{Held, plain, object}
use Rattle.c_typed.specs.refinement.Expressions.{is_visible}
use Rattle.ms_relate.specs.refinement.Homes.{Home, handle}
use Rattle.ms_relate.proofs.Growing.{Extends}
use Rattle.c_runs.proofs.Values.{IsValueOf, value_still, word_of, word_still}

-- a slot by its type, and whether it is an object
abbrev pub Slot : Type 0
Slot = Ty × Bool

pub some_is : {A : Type 0} (x y : A) → Some x ≡ Some y → x ≡ y
some_is {A = A} x y e = ap (λ (o : Option A). or o) e where
  or : Option A → A
  or None = x
  or (Some z) = z

-- ---- an element that is set

module _ {A : Type 0} where
  pub set_there : (xs : List A) (i : ℕ) (x : A) → i < length xs → slice_get (slice_set xs i x) i ≡ Some x
  set_there [] i x lt = absurd (omega (arith, lt))
  set_there (y ∷ xs) zero x lt = refl
  set_there (y ∷ xs) (suc i) x lt = set_there xs i x (omega (arith, lt))

  pub set_elsewhere : (xs : List A) (i j : ℕ) (x : A) → i ≢ j → slice_get (slice_set xs i x) j ≡ slice_get xs j
  set_elsewhere [] i j x d = refl
  set_elsewhere (y ∷ xs) zero zero x d = absurd (d refl)
  set_elsewhere (y ∷ xs) zero (suc j) x d = refl
  set_elsewhere (y ∷ xs) (suc i) zero x d = refl
  set_elsewhere (y ∷ xs) (suc i) (suc j) x d = set_elsewhere xs i j x (λ e. d (ap suc e))

  pub length_set : (xs : List A) (i : ℕ) (x : A) → length (slice_set xs i x) ≡ length xs
  length_set [] i x = refl
  length_set (y ∷ xs) zero x = refl
  length_set (y ∷ xs) (suc i) x = ap suc (length_set xs i x)

  pub set_behind : (xs ys : List A) (i : ℕ) (x : A) → slice_set (xs ++ ys) (length xs + i) x ≡ xs ++ slice_set ys i x
  set_behind [] ys i x = let z : 0 + i ≡ i = omega arith in ap (λ (k : ℕ). slice_set ys k x) z
  set_behind (y ∷ xs) ys i x =
      let z : suc (length xs) + i ≡ suc (length xs + i) = omega arith in
      ap (λ (k : ℕ). slice_set (y ∷ (xs ++ ys)) k x) z ∙ ap (λ (l : List A). y ∷ l) (set_behind xs ys i x)

  pub get_behind : (xs ys : List A) (i : ℕ) → slice_get (xs ++ ys) (length xs + i) ≡ slice_get ys i
  get_behind [] ys i = let z : 0 + i ≡ i = omega arith in ap (slice_get ys) z
  get_behind (y ∷ xs) ys i =
      let z : suc (length xs) + i ≡ suc (length xs + i) = omega arith in
      ap (slice_get (y ∷ (xs ++ ys))) z ∙ get_behind xs ys i

-- ---- locals

module _ (places : Ty → ℕ → ℕ) where
  abbrev pub held_word : Slot → List Home → Held → Word
  held_word (t, false) hs (plain v) = word_of places t hs v
  held_word (t, false) hs (object n) = I32 0
  held_word (t, true) hs (plain v) = Handle Null
  held_word (t, true) hs (object n) = Handle (handle hs (to_object n))

  abbrev pub words : List Slot → List Home → List Held → List Word
  words [] hs xs = []
  words (k ∷ ks) hs [] = []
  words (k ∷ ks) hs (x ∷ xs) = held_word k hs x ∷ words ks hs xs

  pub words_set : (ks : List Slot) (hs : List Home) (xs : List Held) (i : ℕ) (k : Slot) (x : Held) → slice_get ks i ≡ Some k → words ks hs (slice_set xs i x) ≡ slice_set (words ks hs xs) i (held_word k hs x)
  words_set [] hs xs i k x e = refl
  words_set (j ∷ ks) hs [] i k x e = refl
  words_set (j ∷ ks) hs (y ∷ xs) zero k x e = ap (λ (s : Slot). held_word s hs x ∷ words ks hs xs) (some_is j k e)
  words_set (j ∷ ks) hs (y ∷ xs) (suc i) k x e = ap (λ (l : List Word). held_word j hs y ∷ l) (words_set ks hs xs i k x e)

-- ---- what they hold

-- an object of the variable's type has its home, of an array of one
pub record IsObjectAt (table : Table) (t : Ty) (hs : List Home) (n : ℕ) : Type 0 where
  pub home : Home
  pub at : slice_get hs n ≡ Some home
  pub shape_is : home.shape ≡ shape table t
  pub one : home.count ≡ 1

module _ (table : Table) (places : Ty → ℕ → ℕ) where
  abbrev pub IsHeld : Slot → List Home → Held → Type 0
  IsHeld (t, false) hs (plain v) = IsValueOf table places t hs v
  IsHeld (t, false) hs (object n) = ⊥
  -- nothing yet, or an object that may have ended
  IsHeld (t, true) hs (plain v) = Unit {0}
  IsHeld (t, true) hs (object n) = IsObjectAt table t hs n

  abbrev pub AreHeld : List Slot → List Home → List Held → Type 0
  AreHeld [] hs [] = Unit {0}
  AreHeld (k ∷ ks) hs (x ∷ xs) = IsHeld k hs x × AreHeld ks hs xs
  AreHeld _ hs _ = ⊥

  -- ---- a plain variable

  pub record Found (ks : List Slot) (hs : List Home) (xs : List Held) (i : ℕ) (t : Ty) : Type 0 where
    pub value : Value
    pub is_value : IsValueOf table places t hs value
    pub is : slice_get xs i ≡ Some (plain value)
    pub word_is : slice_get (words places ks hs xs) i ≡ Some (word_of places t hs value)

  found_here : (k : Slot) (ks : List Slot) (hs : List Home) (x : Held) (xs : List Held) (t : Ty) → k ≡ (t, false) → IsHeld k hs x → Found (k ∷ ks) hs (x ∷ xs) 0 t
  found_here k ks hs x xs t e i = subst (λ (s : Slot). Found (s ∷ ks) hs (x ∷ xs) 0 t) (sym e) (go x (subst (λ (s : Slot). IsHeld s hs x) e i)) where
    go : (y : Held) → IsHeld (t, false) hs y → Found ((t, false) ∷ ks) hs (y ∷ xs) 0 t
    go (plain v) i = record { value = v; is_value = i; is = refl; word_is = refl }
    go (object n) i = absurd i

  pub found : (ks : List Slot) (hs : List Home) (xs : List Held) (i : ℕ) (t : Ty) → AreHeld ks hs xs → slice_get ks i ≡ Some (t, false) → Found ks hs xs i t
  found [] hs [] i t a e = absurd cc
  found (k ∷ ks) hs (x ∷ xs) zero t a e = found_here k ks hs x xs t (some_is k (t, false) e) a.0
  found (k ∷ ks) hs (x ∷ xs) (suc i) t a e = let f = found ks hs xs i t a.1 e in record { value = f.value; is_value = f.is_value; is = f.is; word_is = f.word_is }
  found [] hs (x ∷ xs) i t a e = absurd a
  found (k ∷ ks) hs [] i t a e = absurd a

  -- ---- an object

  held_there : (k : Slot) (ks : List Slot) (hs : List Home) (x : Held) (xs : List Held) (t : Ty) (n : ℕ) → k ≡ (t, true) → x ≡ object n → IsHeld k hs x → IsObjectAt table t hs n
  held_there k ks hs x xs t n e f i = subst (λ (y : Held). IsHeld (t, true) hs y) f (subst (λ (s : Slot). IsHeld s hs x) e i)

  pub object_at : (ks : List Slot) (hs : List Home) (xs : List Held) (i : ℕ) (t : Ty) (n : ℕ) → AreHeld ks hs xs → slice_get ks i ≡ Some (t, true) → slice_get xs i ≡ Some (object n) → IsObjectAt table t hs n
  object_at [] hs [] i t n a e f = absurd cc
  object_at (k ∷ ks) hs (x ∷ xs) zero t n a e f = held_there k ks hs x xs t n (some_is k (t, true) e) (some_is x (object n) f) a.0
  object_at (k ∷ ks) hs (x ∷ xs) (suc i) t n a e f = object_at ks hs xs i t n a.1 e f
  object_at [] hs (x ∷ xs) i t n a e f = absurd a
  object_at (k ∷ ks) hs [] i t n a e f = absurd a

  pub object_word : (ks : List Slot) (hs : List Home) (xs : List Held) (i : ℕ) (t : Ty) (n : ℕ) → slice_get ks i ≡ Some (t, true) → slice_get xs i ≡ Some (object n) → slice_get (words places ks hs xs) i ≡ Some (Handle (handle hs (to_object n)))
  object_word [] hs xs i t n e f = absurd cc
  object_word (k ∷ ks) hs [] i t n e f = absurd cc
  object_word (k ∷ ks) hs (x ∷ xs) zero t n e f = ap (λ (s : Slot). Some (held_word places s hs x)) (some_is k (t, true) e) ∙ ap (λ (y : Held). Some (held_word places (t, true) hs y)) (some_is x (object n) f)
  object_word (k ∷ ks) hs (x ∷ xs) (suc i) t n e f = object_word ks hs xs i t n e f

  -- ---- one is written

  pub held_set : (ks : List Slot) (hs : List Home) (xs : List Held) (i : ℕ) (k : Slot) (x : Held) → slice_get ks i ≡ Some k → AreHeld ks hs xs → IsHeld k hs x → AreHeld ks hs (slice_set xs i x)
  held_set [] hs [] i k x e a h = tt
  held_set (j ∷ ks) hs (y ∷ xs) zero k x e a h = (subst (λ (s : Slot). IsHeld s hs x) (sym (some_is j k e)) h, a.1)
  held_set (j ∷ ks) hs (y ∷ xs) (suc i) k x e a h = (a.0, held_set ks hs xs i k x e a.1 h)
  held_set [] hs (y ∷ xs) i k x e a h = absurd a
  held_set (j ∷ ks) hs [] i k x e a h = absurd a

  pub length_words : (ks : List Slot) (hs : List Home) (xs : List Held) → AreHeld ks hs xs → length (words places ks hs xs) ≡ length ks
  length_words [] hs [] a = refl
  length_words (k ∷ ks) hs (x ∷ xs) a = ap suc (length_words ks hs xs a.1)
  length_words [] hs (x ∷ xs) a = absurd a
  length_words (k ∷ ks) hs [] a = absurd a

  pub length_held : (ks : List Slot) (hs : List Home) (xs : List Held) → AreHeld ks hs xs → length xs ≡ length ks
  length_held [] hs [] a = refl
  length_held (k ∷ ks) hs (x ∷ xs) a = ap suc (length_held ks hs xs a.1)
  length_held [] hs (x ∷ xs) a = absurd a
  length_held (k ∷ ks) hs [] a = absurd a

  -- ---- more homes

  module _ (old new : List Home) (more : Extends old new) where
    one_still : (k : Slot) (x : Held) → IsHeld k old x → IsHeld k new x
    one_still (t, false) (plain v) i = value_still table places old new more t v i
    one_still (t, false) (object n) i = absurd i
    one_still (t, true) (plain v) i = tt
    one_still (t, true) (object n) i = record { home = i.home; at = more n i.home i.at; shape_is = i.shape_is; one = i.one }

    word_one_still : (k : Slot) (x : Held) → IsHeld k old x → held_word places k new x ≡ held_word places k old x
    word_one_still (t, false) (plain v) i = word_still table places old new more t v i
    word_one_still (t, false) (object n) i = absurd i
    word_one_still (t, true) (plain v) i = refl
    word_one_still (t, true) (object n) i = ap (λ (o : Option Home). Handle (Rattle.ms_relate.specs.refinement.Homes.handle_in o (record { object = n; path = []; index = Rattle.std.specs.Prelude.pos 0; sealed = false }))) (more n i.home i.at ∙ sym i.at)

    pub held_still : (ks : List Slot) (xs : List Held) → AreHeld ks old xs → AreHeld ks new xs
    held_still [] [] a = tt
    held_still (k ∷ ks) (x ∷ xs) a = (one_still k x a.0, held_still ks xs a.1)
    held_still [] (x ∷ xs) a = absurd a
    held_still (k ∷ ks) [] a = absurd a

    pub words_still : (ks : List Slot) (xs : List Held) → AreHeld ks old xs → words places ks new xs ≡ words places ks old xs
    words_still [] [] a = refl
    words_still (k ∷ ks) (x ∷ xs) a = ap (λ (w : Word). w ∷ words places ks new xs) (word_one_still k x a.0) ∙ ap (λ (l : List Word). held_word places k old x ∷ l) (words_still ks xs a.1)
    words_still [] (x ∷ xs) a = absurd a
    words_still (k ∷ ks) [] a = absurd a

-- ---- the objects of variables

-- a variable's object is alive
pub record Lives (os : List Object) (xs : List Held) (i : ℕ) : Type 0 where
  pub number : ℕ
  pub held : slice_get xs i ≡ Some (object number)
  pub object_is : Object
  pub at : slice_get os number ≡ Some object_is
  pub alive : object_is.alive ≡ true
  pub is_frame : object_is.kind ≡ frame

-- the variables that may be named
abbrev pub AreOpen : List Slot → (visible : List ℕ) → List Object → List Held → Type 0
AreOpen ks vs os xs = (i : ℕ) (t : Ty) → is_visible vs i ≡ true → slice_get ks i ≡ Some (t, true) → Lives os xs i

-- no two variables have one object
abbrev pub AreApart : List Held → Type 0
AreApart xs = (i j n : ℕ) → slice_get xs i ≡ Some (object n) → slice_get xs j ≡ Some (object n) → i ≡ j

-- their objects were made after so many others
abbrev pub AreOwn : (count : ℕ) → List Held → Type 0
AreOwn k xs = (i n : ℕ) → slice_get xs i ≡ Some (object n) → k ≤ n

-- the variables' objects that were alive still are, apart from those with these numbers
pub record Lasts (old new : List Object) : Type 0 where
  pub longer : length old ≤ length new
  pub stay : (n : ℕ) (o : Object) → slice_get old n ≡ Some o → o.alive ≡ true → o.kind ≡ frame → (p : Object) × (slice_get new n ≡ Some p) × (p.alive ≡ true) × (p.kind ≡ frame)

-- ---- a plain variable is written

object_old : (xs : List Held) (x : ℕ) (v : Value) (i n : ℕ) → slice_get (slice_set xs x (plain v)) i ≡ Some (object n) → slice_get xs i ≡ Some (object n)
object_old [] x v i n e = e
object_old (y ∷ xs) zero v zero n e = absurd cc
object_old (y ∷ xs) zero v (suc i) n e = e
object_old (y ∷ xs) (suc x) v zero n e = e
object_old (y ∷ xs) (suc x) v (suc i) n e = object_old xs x v i n e

pub apart_plain : (xs : List Held) (x : ℕ) (v : Value) → AreApart xs → AreApart (slice_set xs x (plain v))
apart_plain xs x v h i j n e f = h i j n (object_old xs x v i n e) (object_old xs x v j n f)

pub own_plain : (k : ℕ) (xs : List Held) (x : ℕ) (v : Value) → AreOwn k xs → AreOwn k (slice_set xs x (plain v))
own_plain k xs x v h i n e = h i n (object_old xs x v i n e)

-- a slot of another kind is another one
pub other_kind : (ks : List Slot) (x i : ℕ) (t u : Ty) → slice_get ks x ≡ Some (t, false) → slice_get ks i ≡ Some (u, true) → x ≢ i
other_kind ks x i t u e f q = absurd (let g : Some (t, false) ≡ Some (u, true) = sym e ∙ ap (slice_get ks) q ∙ f in let b : false ≡ true = ap (λ (o : Option Slot). flag o) g in cc) where
  flag : Option Slot → Bool
  flag None = false
  flag (Some k) = k.1

pub lives_other : (os : List Object) (xs : List Held) (x i : ℕ) (h : Held) → x ≢ i → Lives os xs i → Lives os (slice_set xs x h) i
lives_other os xs x i h d l = record { number = l.number; held = set_elsewhere xs x i h d ∙ l.held; object_is = l.object_is; at = l.at; alive = l.alive; is_frame = l.is_frame }

pub open_plain : (ks : List Slot) (vs : List ℕ) (os : List Object) (xs : List Held) (x : ℕ) (t : Ty) (v : Value) → slice_get ks x ≡ Some (t, false) → AreOpen ks vs os xs → AreOpen ks vs os (slice_set xs x (plain v))
open_plain ks vs os xs x t v e h i u seen f = lives_other os xs x i (plain v) (other_kind ks x i t u e f) (h i u seen f)

-- ---- objects that end

abbrev pub end_at : Option Object → ℕ → List Object → List Object
end_at None n os = os
end_at (Some o) n os = slice_set os n (ended o)

abbrev pub end_held : Option Held → List Object → List Object
end_held (Some (object n)) os = end_at (slice_get os n) n os
end_held _ os = os

-- the objects, where those of these slots have ended
abbrev pub ending : List Held → List ℕ → List Object → List Object
ending xs [] os = os
ending xs (i ∷ is) os = ending xs is (end_held (slice_get xs i) os)
