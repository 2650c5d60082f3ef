-- The objects of a block's variables end: those of other variables go on as they were.
use Rattle.std.proofs.Common.{◌≡◌, ◌≢◌, ℕ, zero, suc, ◌<◌, ◌≤◌, List, [], ◌∷◌, ◌++◌, length, Bool, true, false, Option, Some, None, refl, sym, ap, ◌∙◌, arith, subst}
use Rattle.std.specs.Prelude.{slice_get, slice_set, ◌==◌, ◌||◌, if◌then◌else◌}
use Rattle.std.proofs.lemmas.Bool.{eq-eqb}
use Rattle.std.proofs.lemmas.Option.{slice_get_within}
use Rattle.c_typed.specs.Tree.{Typed}
use Rattle.c_types.specs.Types.{Ty}
use Rattle.c_typed.specs.refinement.Expressions as well
use Rattle.c_typed.specs.refinement.Expressions.{is_visible}
use Rattle.c_typed.specs.Statements.{AreNew}
use Rattle.c_meaning.specs.Values.{Value}
use Rattle.c_meaning.specs.Objects.{Object, Outcome, ended, end}
use Rattle.c_meaning.specs.Objects as objects
use Rattle.c_meaning.specs.World.{Held, plain, object, World, Result, gives, after, as_done, known}
use Rattle.c_meaning.specs.Expressions.{Calls}
use Rattle.c_meaning.specs.Statements.{leave, leave_held}
use Rattle.c_runs.proofs.Held.{AreApart, AreOwn, Lasts, Lives, end_at, end_held, ending, length_set, set_elsewhere}

-- ---- lists of slots

seen_test : (m n : ℕ) (b : Bool) → (m == n || b) ≡ false → (m ≢ n) × (b ≡ false)
seen_test m n b e = by (m == n) refl e where
  by : (t : Bool) → (m == n) ≡ t → (t || b) ≡ false → (m ≢ n) × (b ≡ false)
  by true q e = absurd cc
  by false q e = (λ p. absurd (let z : true ≡ false = sym (eq-eqb m n p) ∙ q in cc), e)

is_same : (n : ℕ) → (n == n) ≡ true
is_same n = eq-eqb n n refl

pub visible_first : (n : ℕ) (ns : List ℕ) → is_visible (n ∷ ns) n ≡ true
visible_first n ns = ap (λ (b : Bool). b || is_visible ns n) (is_same n)

pub visible_rest : (m n : ℕ) (ns : List ℕ) → is_visible ns n ≡ true → is_visible (m ∷ ns) n ≡ true
visible_rest m n ns e = by (m == n) where
  by : (b : Bool) → (b || is_visible ns n) ≡ true
  by true = refl
  by false = e

pub visible_left : (ms ns : List ℕ) (n : ℕ) → is_visible ms n ≡ true → is_visible (ms ++ ns) n ≡ true
visible_left [] ns n e = absurd cc
visible_left (m ∷ ms) ns n e = by (m == n) e (visible_left ms ns n) where
  by : (b : Bool) → (b || is_visible ms n) ≡ true → (is_visible ms n ≡ true → is_visible (ms ++ ns) n ≡ true) → (b || is_visible (ms ++ ns) n) ≡ true
  by true e h = refl
  by false e h = h e

pub visible_right : (ms ns : List ℕ) (n : ℕ) → is_visible ns n ≡ true → is_visible (ms ++ ns) n ≡ true
visible_right [] ns n e = e
visible_right (m ∷ ms) ns n e = visible_rest m n (ms ++ ns) (visible_right ms ns n e)

-- in one of two
pub visible_either : {P : Type 0} (ms ns : List ℕ) (n : ℕ) → is_visible (ms ++ ns) n ≡ true → (is_visible ms n ≡ true → P) → (is_visible ns n ≡ true → P) → P
visible_either [] ns n e f g = g e
visible_either {P = P} (m ∷ ms) ns n e f g = by (m == n) refl e (λ e'. visible_either ms ns n e' (λ h. f (visible_rest m n ms h)) g) where
  by : (b : Bool) → (m == n) ≡ b → (b || is_visible (ms ++ ns) n) ≡ true → (is_visible (ms ++ ns) n ≡ true → P) → P
  by true q e' h = f (ap (λ (b : Bool). b || is_visible ms n) q)
  by false q e' h = h e'

-- none stands twice
abbrev pub Differ : List ℕ → Type 0
Differ [] = Unit {0}
Differ (n ∷ ns) = (is_visible ns n ≡ false) × Differ ns

abbrev pub Disjoint : List ℕ → List ℕ → Type 0
Disjoint ms ns = (n : ℕ) → is_visible ms n ≡ true → is_visible ns n ≡ false

-- a variable that may be named is none of a block's own
pub none_new : (c : well.Context) (ns : List ℕ) → AreNew c ns → Disjoint c.visible ns
none_new c [] h n e = refl
none_new c (m ∷ ns) h n e = by (m == n) refl (none_new (well.opened c (m ∷ [])) ns h.2 n (visible_left c.visible (m ∷ []) n e)) where
  by : (b : Bool) → (m == n) ≡ b → is_visible ns n ≡ false → (b || is_visible ns n) ≡ false
  by true q rest = absurd (let p : m ≡ n = Rattle.std.proofs.Common.eqb→eq m n (subst Rattle.std.proofs.Common.T (sym q) tt) in let z : false ≡ true = sym h.1 ∙ ap (is_visible c.visible) p ∙ e in cc)
  by false q rest = rest

pub new_differ : (c : well.Context) (ns : List ℕ) → AreNew c ns → Differ ns
new_differ c [] h = tt
new_differ c (n ∷ ns) h = (none_new (well.opened c (n ∷ [])) ns h.2 n (visible_right c.visible (n ∷ []) n (visible_first n [])), new_differ (well.opened c (n ∷ [])) ns h.2)

not_either : (ms ns : List ℕ) (n : ℕ) → is_visible ms n ≡ false → is_visible ns n ≡ false → is_visible (ms ++ ns) n ≡ false
not_either [] ns n e f = f
not_either (m ∷ ms) ns n e f = by (m == n) e (not_either ms ns n) where
  by : (b : Bool) → (b || is_visible ms n) ≡ false → (is_visible ms n ≡ false → is_visible ns n ≡ false → is_visible (ms ++ ns) n ≡ false) → (b || is_visible (ms ++ ns) n) ≡ false
  by true e h = absurd cc
  by false e h = h e f

pub differ_both : (ms ns : List ℕ) → Differ ms → Differ ns → Disjoint ms ns → Differ (ms ++ ns)
differ_both [] ns a b d = b
differ_both (m ∷ ms) ns a b d = (not_either ms ns m a.0 (d m (visible_first m ms)), differ_both ms ns a.1 b (λ n e. d n (visible_rest m n ms e)))

-- ---- those of others stay

module _ (xs : List Held) where
  pub length_ending : (is : List ℕ) (os : List Object) → length (ending xs is os) ≡ length os
  length_ending [] os = refl
  length_ending (i ∷ is) os = length_ending is (end_held (slice_get xs i) os) ∙ by (slice_get xs i) where
    at : (o : Option Object) (n : ℕ) → length (end_at o n os) ≡ length os
    at None n = refl
    at (Some o) n = length_set os n (ended o)

    by : (h : Option Held) → length (end_held h os) ≡ length os
    by None = refl
    by (Some (plain v)) = refl
    by (Some (object n)) = at (slice_get os n) n

  pub ending_both : (is js : List ℕ) (os : List Object) → ending xs (is ++ js) os ≡ ending xs js (ending xs is os)
  ending_both [] js os = refl
  ending_both (i ∷ is) js os = ending_both is js (end_held (slice_get xs i) os)

  -- an object of another number
  end_other : (o : Option Object) (n k : ℕ) (os : List Object) → n ≢ k → slice_get (end_at o n os) k ≡ slice_get os k
  end_other None n k os d = refl
  end_other (Some o) n k os d = set_elsewhere os n k (ended o) d

  module _ (apart : AreApart xs) where
    lives_kept : (os : List Object) (x y : ℕ) → x ≢ y → Lives os xs y → Lives (end_held (slice_get xs x) os) xs y
    lives_kept os x y d l = by (slice_get xs x) refl where
      by : (h : Option Held) → slice_get xs x ≡ h → Lives (end_held h os) xs y
      by None e = l
      by (Some (plain v)) e = l
      by (Some (object n)) e =
          let other : n ≢ l.number = λ p. d (apart x y l.number (e ∙ ap (λ (q : ℕ). Some (object q)) p) l.held) in
          record { number = l.number; held = l.held; object_is = l.object_is; at = end_other (slice_get os n) n l.number os other ∙ l.at; alive = l.alive; is_frame = l.is_frame }

    pub ending_lives : (is : List ℕ) (os : List Object) (y : ℕ) → is_visible is y ≡ false → Lives os xs y → Lives (ending xs is os) xs y
    ending_lives [] os y e l = l
    ending_lives (i ∷ is) os y e l = let q = seen_test i y (is_visible is y) e in ending_lives is (end_held (slice_get xs i) os) y q.1 (lives_kept os i y q.0 l)

  -- those that were there before are others
  pub ending_lasts : (old : List Object) → AreOwn (length old) xs → (is : List ℕ) (os : List Object) → Lasts old os → Lasts old (ending xs is os)
  ending_lasts old own [] os l = l
  ending_lasts old own (i ∷ is) os l = ending_lasts old own is (end_held (slice_get xs i) os) (by (slice_get xs i) refl) where
    by : (h : Option Held) → slice_get xs i ≡ h → Lasts old (end_held h os)
    by None e = l
    by (Some (plain v)) e = l
    by (Some (object n)) e = record {
      longer = let a = l.longer in let b = length_end (slice_get os n) in omega (arith, a, b);
      stay = λ k o at alive kind.
          let q = l.stay k o at alive kind in
          let lt = slice_get_within old k o at in
          let le = own i n e in
          (q.0, end_other (slice_get os n) n k os (λ p. omega (arith, p, lt, le)) ∙ q.1, q.2, q.3);
    } where
      length_end : (o : Option Object) → length (end_at o n os) ≡ length os
      length_end None = refl
      length_end (Some o) = length_set os n (ended o)

-- ---- what is left of a block: plain variables, and objects that are alive

pub data IsClosing (os : List Object) (xs : List Held) (x : ℕ) : Type 0 where
  plain_closing : (v : Value) → slice_get xs x ≡ Some (plain v) → IsClosing os xs x
  object_closing : Lives os xs x → IsClosing os xs x

abbrev pub AreClosing : List Object → List Held → List ℕ → Type 0
AreClosing os xs ns = (x : ℕ) → is_visible ns x ≡ true → IsClosing os xs x

-- behind the first
pub closing_rest : (os : List Object) (xs : List Held) (x : ℕ) (ns : List ℕ) → AreApart xs → Differ (x ∷ ns) → AreClosing os xs (x ∷ ns) → AreClosing (end_held (slice_get xs x) os) xs ns
closing_rest os xs x ns apart d c y e = by (c y (visible_rest x y ns e)) where
  other : x ≢ y
  other p = absurd (let z : false ≡ true = sym d.0 ∙ ap (is_visible ns) p ∙ e in cc)

  by : IsClosing os xs y → IsClosing (end_held (slice_get xs x) os) xs y
  by (plain_closing v q) = plain_closing v q
  by (object_closing l) = object_closing (lives_kept xs apart os x y other l)

-- the meaning ends them, in order
module _ (unit : Typed) (calls : Calls) (bound : ℕ) (kinds : List (Ty × Bool)) where
  alive_ends : (os : List Object) (n : ℕ) (o : Object) → slice_get os n ≡ Some o → o.alive ≡ true → end os n ≡ objects.gives (slice_set os n (ended o))
  alive_ends os n o e alive =
      ap (λ (p : Option Object). objects.after (objects.if_alive p) (λ q. objects.gives (slice_set os n (ended q)))) e
      ∙ ap (λ (b : Bool). objects.after (if b then objects.gives o else objects.stops objects.freed) (λ q. objects.gives (slice_set os n (ended q)))) alive

  pub leave_is : (ns : List ℕ) (w : World) → AreApart w.locals → Differ ns → AreClosing w.objects w.locals ns → leave unit calls bound kinds ns w ≡ gives tt (record w { objects = ending w.locals ns w.objects })
  leave_is [] w apart d c = refl
  leave_is (x ∷ ns) w apart d c =
      by (c x (visible_first x ns)) (leave_is ns (record w { objects = end_held (slice_get w.locals x) w.objects }) apart d.1 (closing_rest w.objects w.locals x ns apart d c))
    where
      go : Option Held → Result (Unit {0})
      go o = after (after (known o w) (leave_held unit calls bound kinds)) (λ q. leave unit calls bound kinds ns)

      by : IsClosing w.objects w.locals x → leave unit calls bound kinds ns (record w { objects = end_held (slice_get w.locals x) w.objects }) ≡ gives tt (record w { objects = ending w.locals (x ∷ ns) w.objects })
          → go (slice_get w.locals x) ≡ gives tt (record w { objects = ending w.locals (x ∷ ns) w.objects })
      by (plain_closing v e) rest =
          ap go e ∙ ap (λ (h : Option Held). leave unit calls bound kinds ns (record w { objects = end_held h w.objects })) (sym e) ∙ rest
      by (object_closing l) rest =
          ap go l.held
          ∙ ap (λ (o : Outcome (List Object)). after (after (as_done o w) (λ os w1. gives tt (record w1 { objects = os }))) (λ q. leave unit calls bound kinds ns)) (alive_ends w.objects l.number l.object_is l.at l.alive)
          ∙ ap (λ (o : Option Object). leave unit calls bound kinds ns (record w { objects = end_at o l.number w.objects })) (sym l.at)
          ∙ ap (λ (h : Option Held). leave unit calls bound kinds ns (record w { objects = end_held h w.objects })) (sym l.held) ∙ rest
