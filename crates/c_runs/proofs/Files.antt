-- Variables at file scope and string literals as globals: a plain variable's global has its value, that of an object or of a literal the
-- handle of its first element. What is known of them goes on holding where more objects have homes, and where a variable is written.
use Rattle.std.proofs.Common.{◌≡◌, ℕ, ◌+◌, ◌^◌, ◌<◌, ◌≤◌, ⊎_elim, ◌≢◌, zero, suc, List, [], ◌∷◌, ◌++◌, length, length-append, Bool, true, false, Option, Some, refl, sym, ap, ◌∙◌, arith, subst, T, eqb→eq}
use Rattle.std.specs.Prelude.{pos, slice_get, slice_set, ◌==◌, ◌||◌}
use Rattle.std.proofs.lemmas.Bool.{cases_eq}
use Rattle.std.proofs.lemmas.Option.{slice_get_within}
use Rattle.ms_linear.specs.declared.global.GlobalInst.{GlobalInst}
use Rattle.ms_linear.specs.declared.value.Value.{Value as Word}
use Rattle.ms_linear.specs.declared.value.Value.TheVariants.{Handle}
use Rattle.c_types.specs.declared.integers.IntType.TheVariants.{Char}
use Rattle.c_types.specs.Layout.{Table}
use Rattle.c_types.specs.Types.{Ty, integer, array}
use Rattle.c_meaning.specs.Values.{Pointer, Value, points}
use Rattle.c_meaning.specs.World.{Held, plain, object}
use Rattle.c_typed.specs.refinement.Expressions.{is_visible}
use Rattle.ms_relate.specs.refinement.Homes.{Home, handle, handle_in}
use Rattle.ms_relate.proofs.Growing.{Extends, push_cases}
use Rattle.c_runs.proofs.Held.{AreHeld, IsObjectAt, Slot, held_set, held_still, held_word, length_held, length_set, length_words, other_kind, set_elsewhere, set_there, some_is, words, words_set, words_still}
use Rattle.c_runs.proofs.Ending.{visible_either}
use Rattle.c_runs.proofs.Values.{IsValueOf, word_of}

-- How far file scope is made: the variables that may be named, how many literals there are, and how many of them are sealed.
pub record Reached : Type 0 where
  pub named : List ℕ
  pub texts : ℕ
  pub sealed : ℕ

abbrev pub global_of : Word → GlobalInst
global_of v = record { value = v; mutable = true }

-- to the first element of an object
abbrev pub first_of : (sealed : Bool) → ℕ → Pointer
first_of b n = record { object = n; path = []; index = pos 0; sealed = b }

-- a literal's object is an array of one array, and its global has the handle, sealed or not yet
pub record TextAt (structs : Table) (behind sealed : ℕ) (hs : List Home) (gs : List GlobalInst) (k n : ℕ) : Type 0 where
  pub count : ℕ
  pub some : 0 < count
  pub small : count < 2 ^ 32
  pub object_is : IsObjectAt structs (array (integer Char) count) hs n
  pub is_sealed : Bool
  pub not_yet : sealed ≤ k → is_sealed ≡ false
  pub word_is : slice_get gs (behind + k) ≡ Some (global_of (Handle (handle hs (points (first_of is_sealed n)))))

one_seen : (x i : ℕ) → is_visible (x ∷ []) i ≡ true → x ≡ i
one_seen x i e = by (x == i) refl e where
  by : (b : Bool) → (x == i) ≡ b → (b || false) ≡ true → x ≡ i
  by true q h = eqb→eq x i (subst T (sym q) tt)
  by false q h = absurd cc

-- each of so many may change
abbrev pub AreGlobals : ℕ → List GlobalInst → Type 0
AreGlobals count gs = (x : ℕ) → x < count → (v : Word) × (slice_get gs x ≡ Some (global_of v))

set_all : {count : ℕ} (gs : List GlobalInst) (x : ℕ) (v : Word) → AreGlobals count gs → AreGlobals count (slice_set gs x (global_of v))
set_all gs x v all i lt =
    let g = all i lt in
    ⊎_elim (λ same. (v, ap (slice_get (slice_set gs x (global_of v))) same ∙ set_there gs x (global_of v) (subst (λ (j : ℕ). j < length gs) same (slice_get_within gs i (global_of g.0) g.1))))
    (λ other. (g.0, set_elsewhere gs x i (global_of v) (λ q. other (sym q)) ∙ g.1))
    (cases_eq i x)

-- so many globals have these variables and literals
pub record Filed (structs : Table) (places : Ty → ℕ → ℕ) (kinds : List Slot) (reached : Reached) (count : ℕ) (hs : List Home) (xs : List Held) (texts : List ℕ) (gs : List GlobalInst) : Type 0 where
  pub held : AreHeld structs places kinds hs xs
  pub named : (x : ℕ) (t : Ty) → is_visible reached.named x ≡ true → slice_get kinds x ≡ Some (t, true) → (n : ℕ) × (slice_get xs x ≡ Some (object n))
  pub long : length gs ≡ count
  pub all_are : AreGlobals count gs
  pub words_are : (x : ℕ) (v : Word) → slice_get (words places kinds hs xs) x ≡ Some v → slice_get gs x ≡ Some (global_of v)
  pub as_many : length texts ≡ reached.texts
  pub texts_are : (k n : ℕ) → slice_get texts k ≡ Some n → TextAt structs (length kinds) reached.sealed hs gs k n

module _ (structs : Table) (places : Ty → ℕ → ℕ) (kinds : List Slot) (reached : Reached) (count : ℕ) where
  -- ---- more homes

  module _ (old new : List Home) (more : Extends old new) where
    text_still : (gs : List GlobalInst) (k n : ℕ) → TextAt structs (length kinds) reached.sealed old gs k n → TextAt structs (length kinds) reached.sealed new gs k n
    text_still gs k n i =
        let o = i.object_is in
        let there = more n o.home o.at in
        record {
          count = i.count;
          some = i.some;
          small = i.small;
          object_is = record { home = o.home; at = there; shape_is = o.shape_is; one = o.one };
          is_sealed = i.is_sealed;
          not_yet = i.not_yet;
          word_is = i.word_is ∙ ap (λ (h : Option Home). Some (global_of (Handle (handle_in h (first_of i.is_sealed n))))) (o.at ∙ sym there);
        }

    pub filed_still : (xs : List Held) (texts : List ℕ) (gs : List GlobalInst) → Filed structs places kinds reached count old xs texts gs → Filed structs places kinds reached count new xs texts gs
    filed_still xs texts gs f = record {
      held = held_still structs places old new more kinds xs f.held;
      named = f.named;
      long = f.long;
      all_are = f.all_are;
      words_are = λ x v e. f.words_are x v (ap (λ (ws : List Word). slice_get ws x) (sym (words_still structs places old new more kinds xs f.held)) ∙ e);
      as_many = f.as_many;
      texts_are = λ k n e. text_still gs k n (f.texts_are k n e);
    }

  -- ---- a variable is written

  module _ (hs : List Home) (xs : List Held) (texts : List ℕ) (gs : List GlobalInst) (f : Filed structs places kinds reached count hs xs texts gs) (x : ℕ) (s : Slot) (h : Held) (at : slice_get kinds x ≡ Some s) where
    abbrev top : Word
    top = held_word places s hs h

    abbrev ys : List Held
    ys = slice_set xs x h

    few : x < length kinds
    few = slice_get_within kinds x s at

    many : length (words places kinds hs xs) ≡ length kinds
    many = length_words structs places kinds hs xs f.held

    -- it has a global
    old_word : (ws : List Word) (i : ℕ) → i < length ws → (u : Word) × (slice_get ws i ≡ Some u)
    old_word [] i lt = absurd (omega (arith, lt))
    old_word (u ∷ ws) zero lt = (u, refl)
    old_word (u ∷ ws) (suc i) lt = old_word ws i (omega (arith, lt))

    pub global_there : (u : Word) × (slice_get gs x ≡ Some (global_of u))
    global_there = let o = old_word (words places kinds hs xs) x (let a = few in let b = many in omega (arith, a, b)) in (o.0, f.words_are x o.0 o.1)

    in_globals : x < length gs
    in_globals = let g = global_there in slice_get_within gs x (global_of g.0) g.1

    pub set_words : (i : ℕ) (u : Word) → slice_get (words places kinds hs ys) i ≡ Some u → slice_get (slice_set gs x (global_of top)) i ≡ Some (global_of u)
    set_words i u e =
        let ws = words places kinds hs xs in
        let e' : slice_get (slice_set ws x top) i ≡ Some u = ap (λ (l : List Word). slice_get l i) (sym (words_set places kinds hs xs x s h at)) ∙ e in
        ⊎_elim
        (λ same.
        let here : Some top ≡ Some u = sym (ap (slice_get (slice_set ws x top)) same ∙ set_there ws x top (let a = few in let b = many in omega (arith, a, b))) ∙ e' in
        ap (slice_get (slice_set gs x (global_of top))) same ∙ set_there gs x (global_of top) in_globals ∙ ap (λ (w : Word). Some (global_of w)) (some_is top u here))
        (λ other. set_elsewhere gs x i (global_of top) (λ q. other (sym q)) ∙ f.words_are i u (sym (set_elsewhere ws x i top (λ q. other (sym q))) ∙ e'))
        (cases_eq i x)

    pub set_text : (k n : ℕ) → TextAt structs (length kinds) reached.sealed hs gs k n → TextAt structs (length kinds) reached.sealed hs (slice_set gs x (global_of top)) k n
    set_text k n i = record {
      count = i.count;
      some = i.some;
      small = i.small;
      object_is = i.object_is;
      is_sealed = i.is_sealed;
      not_yet = i.not_yet;
      word_is = set_elsewhere gs x (length kinds + k) (global_of top) (λ q. let lt = few in absurd (omega (arith, lt, q))) ∙ i.word_is;
    }

  -- one that is plain
  pub filed_set : (hs : List Home) (xs : List Held) (texts : List ℕ) (gs : List GlobalInst) → Filed structs places kinds reached count hs xs texts gs → (x : ℕ) (t : Ty) (v : Value) → slice_get kinds x ≡ Some (t, false) → IsValueOf structs places t hs v
      → Filed structs places kinds reached count hs (slice_set xs x (plain v)) texts (slice_set gs x (global_of (word_of places t hs v)))
  filed_set hs xs texts gs f x t v at ok = record {
    held = held_set structs places kinds hs xs x (t, false) (plain v) at f.held ok;
    named = λ i u seen e. let n = f.named i u seen e in (n.0, set_elsewhere xs x i (plain v) (other_kind kinds x i t u at e) ∙ n.1);
    long = length_set gs x (global_of (word_of places t hs v)) ∙ f.long;
    all_are = set_all gs x (word_of places t hs v) f.all_are;
    words_are = set_words hs xs texts gs f x (t, false) (plain v) at;
    as_many = f.as_many;
    texts_are = λ k n e. set_text hs xs texts gs f x (t, false) (plain v) at k n (f.texts_are k n e);
  }

-- ---- before `main`: variables and literals are made, and literals are sealed

module _ (structs : Table) (places : Ty → ℕ → ℕ) (kinds : List Slot) (named : List ℕ) (made sealed count : ℕ) (hs : List Home) (xs : List Held) (texts : List ℕ) (gs : List GlobalInst)
    (f : Filed structs places kinds (record { named = named; texts = made; sealed = sealed }) count hs xs texts gs) where
  abbrev old : Reached
  old = record { named = named; texts = made; sealed = sealed }

  -- a variable that is no object may be named
  pub filed_named : (x : ℕ) (t : Ty) → slice_get kinds x ≡ Some (t, false) → Filed structs places kinds (record old { named = named ++ x ∷ [] }) count hs xs texts gs
  filed_named x t at = record {
    held = f.held;
    named = λ i u seen e. visible_either named (x ∷ []) i seen (λ o. f.named i u o e) (λ o. absurd (other_kind kinds x i t u at e (one_seen x i o)));
    long = f.long;
    all_are = f.all_are;
    words_are = f.words_are;
    as_many = f.as_many;
    texts_are = f.texts_are;
  }

  -- the object of a variable is made
  pub filed_object : (x : ℕ) (t : Ty) (n : ℕ) → slice_get kinds x ≡ Some (t, true) → IsObjectAt structs t hs n
      → Filed structs places kinds (record old { named = named ++ x ∷ [] }) count hs (slice_set xs x (object n)) texts (slice_set gs x (global_of (Handle (handle hs (points (first_of false n))))))
  filed_object x t n at o =
      let top = Handle (handle hs (points (first_of false n))) in
      let inside : x < length xs = let a = length_held structs places kinds hs xs f.held in let b = slice_get_within kinds x (t, true) at in omega (arith, a, b) in
      record {
        held = held_set structs places kinds hs xs x (t, true) (object n) at f.held o;
        named = λ i u seen e.
            ⊎_elim (λ same. (n, ap (slice_get (slice_set xs x (object n))) same ∙ set_there xs x (object n) inside))
            (λ other.
            let q = visible_either named (x ∷ []) i seen (λ o'. f.named i u o' e) (λ o'. absurd (other (sym (one_seen x i o')))) in (q.0, set_elsewhere xs x i (object n) (λ p. other (sym p)) ∙ q.1))
            (cases_eq i x);
        long = length_set gs x (global_of top) ∙ f.long;
        all_are = set_all gs x top f.all_are;
        words_are = set_words structs places kinds old count hs xs texts gs f x (t, true) (object n) at;
        as_many = f.as_many;
        texts_are = λ k m e. set_text structs places kinds old count hs xs texts gs f x (t, true) (object n) at k m (f.texts_are k m e);
      }

  -- the global of a literal is no variable's
  behind_words : (k i : ℕ) (v u : Word) → slice_get (words places kinds hs xs) i ≡ Some u → slice_get (slice_set gs (length kinds + k) (global_of v)) i ≡ Some (global_of u)
  behind_words k i v u e =
      let a = slice_get_within (words places kinds hs xs) i u e in
      let b = length_words structs places kinds hs xs f.held in
      set_elsewhere gs (length kinds + k) i (global_of v) (λ q. absurd (omega (arith, a, b, q))) ∙ f.words_are i u e

  other_text : (k j n sealed' : ℕ) (v : Word) → k ≢ j → (sealed' ≤ j → sealed ≤ j) → TextAt structs (length kinds) sealed hs gs j n → TextAt structs (length kinds) sealed' hs (slice_set gs (length kinds + k) (global_of v)) j n
  other_text k j n sealed' v d le i = record {
    count = i.count;
    some = i.some;
    small = i.small;
    object_is = i.object_is;
    is_sealed = i.is_sealed;
    not_yet = λ l. i.not_yet (le l);
    word_is = set_elsewhere gs (length kinds + k) (length kinds + j) (global_of v) (λ q. absurd (d (omega (arith, q)))) ∙ i.word_is;
  }

  -- the object of a literal is made
  pub filed_text : (c n : ℕ) → 0 < c → c < 2 ^ 32 → IsObjectAt structs (array (integer Char) c) hs n → length kinds + made < count
      → Filed structs places kinds (record old { texts = suc made }) count hs xs (texts ++ n ∷ []) (slice_set gs (length kinds + made) (global_of (Handle (handle hs (points (first_of false n))))))
  filed_text c n some small o room =
      let g = length kinds + made in
      let top = Handle (handle hs (points (first_of false n))) in
      let there : slice_get (slice_set gs g (global_of top)) g ≡ Some (global_of top) = set_there gs g (global_of top) (let l = f.long in omega (arith, l, room)) in
      record {
        held = f.held;
        named = f.named;
        long = length_set gs g (global_of top) ∙ f.long;
        all_are = set_all gs g top f.all_are;
        words_are = λ i u e. behind_words made i top u e;
        as_many = length-append texts (n ∷ []) ∙ (let e = f.as_many in omega (arith, e));
        texts_are = λ k m e.
            ⊎_elim (λ was. other_text made k m sealed top (λ q. let lt = slice_get_within texts k m was in let e' = f.as_many in absurd (omega (arith, q, lt, e'))) (λ l. l) (f.texts_are k m was))
            (λ new.
            let last : k ≡ made = new.0 ∙ f.as_many in
            subst (λ (j : ℕ). TextAt structs (length kinds) sealed hs (slice_set gs g (global_of top)) j m) (sym last)
            (subst (λ (j : ℕ). TextAt structs (length kinds) sealed hs (slice_set gs g (global_of top)) made j) new.1
            (record { count = c; some = some; small = small; object_is = o; is_sealed = false; not_yet = λ l. refl; word_is = there })))
            (push_cases texts n k m e);
      }

  -- the literal that isn't sealed yet is
  pub filed_sealed : (n : ℕ) → slice_get texts sealed ≡ Some n
      → Filed structs places kinds (record old { sealed = suc sealed }) count hs xs texts (slice_set gs (length kinds + sealed) (global_of (Handle (handle hs (points (first_of true n))))))
  filed_sealed n at =
      let g = length kinds + sealed in
      let top = Handle (handle hs (points (first_of true n))) in
      let i = f.texts_are sealed n at in
      let there : slice_get (slice_set gs g (global_of top)) g ≡ Some (global_of top) = set_there gs g (global_of top) (slice_get_within gs g _ i.word_is) in
      record {
        held = f.held;
        named = f.named;
        long = length_set gs g (global_of top) ∙ f.long;
        all_are = set_all gs g top f.all_are;
        words_are = λ j u e. behind_words sealed j top u e;
        as_many = f.as_many;
        texts_are = λ k m e.
            ⊎_elim
            (λ same.
            let is : n ≡ m = some_is n m (sym at ∙ ap (slice_get texts) (sym same) ∙ e) in
            subst (λ (j : ℕ). TextAt structs (length kinds) (suc sealed) hs (slice_set gs g (global_of top)) j m) (sym same)
            (subst (λ (j : ℕ). TextAt structs (length kinds) (suc sealed) hs (slice_set gs g (global_of top)) sealed j) is
            (record { count = i.count; some = i.some; small = i.small; object_is = i.object_is; is_sealed = true; not_yet = λ l. absurd (omega (arith, l)); word_is = there })))
            (λ other. other_text sealed k m (suc sealed) top (λ q. other (sym q)) (λ l. omega (arith, l)) (f.texts_are k m e))
            (cases_eq k sealed);
      }
