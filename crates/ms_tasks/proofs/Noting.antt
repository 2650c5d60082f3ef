-- What was put together stays so, and in the end all that share something are.
use Rattle.std.proofs.Common.{◌≡◌, ◌<◌, ℕ, zero, suc, List, [], ◌∷◌, ◌++◌, length, replicate, slice_get, slice_set, Option, MatchOption, Some, None, refl, sym, ap, subst, ◌∙◌, arith, inl, inr, ◌⊎◌}
use Rattle.std.specs.List.{All}
use Rattle.std.proofs.lemmas.List.{length-map}
use Rattle.std.proofs.lemmas.List.Elements.{All-append, All-cons, All-head, All-nil, All-tail, All-weaker}
use Rattle.std.proofs.lemmas.Option.{get_or_from_slice_get, slice_get_within}
use Rattle.ms_linear.specs.Values.{global_type_of}
use Rattle.ms_machine.specs.Store.{Store}
use Rattle.ms_machine.specs.Typing.{IsBelow, StoreTyped, outline_of}
use Rattle.ms_machine.specs.declared.store.Instance.{Instance}
use Rattle.ms_task.specs.declared.func.FuncInst.{FuncInst}
use Rattle.ms_tasks.specs.Joined.{Joined, Shares, func, global, memory, table}
use Rattle.ms_tasks.specs.refinement.Parting.{AreAlike, AreFirsts, AreNoted, AreParts, AreTogether, AreWhole, FirstsBelow, IsFirst, IsNamed, IsNoted, IsWithFunc, IsWithFuncs, KeepsTogether, Notes, NotesAll, PutsTogether, count_of, listed, named}
use Rattle.ms_tasks.specs.declared.parts.Kind.{Kind}
use Rattle.ms_tasks.specs.declared.parts.Kind.TheVariants.{Globals, Memories, Tables}
use Rattle.ms_tasks.proofs.Parting.{joined_by}

-- ---- lists

pub all_at : {A : Type 0} (P : A → Type 0) (xs : List A) (k : ℕ) (x : A) → All P xs → slice_get xs k ≡ Some x → P x
all_at P xs k x all found = subst P (get_or_from_slice_get xs k x x found) (all k x (slice_get_within xs k x found))

all_from : {A : Type 0} (P : A → Type 0) (xs : List A) → ((k : ℕ) (x : A) → slice_get xs k ≡ Some x → P x) → All P xs
all_from P [] each = All-nil P
all_from P (x ∷ xs) each = All-cons P x xs (each zero x refl) (all_from P xs (λ k y found. each (suc k) y found))

all_front : {A : Type 0} (P : A → Type 0) (xs : List A) (a : A) → All P (xs ++ a ∷ []) → All P xs
all_front P [] a all = All-nil P
all_front P (x ∷ xs) a all = All-cons P x xs (All-head P x (xs ++ a ∷ []) all) (all_front P xs a (All-tail P x (xs ++ a ∷ []) all))

all_last : {A : Type 0} (P : A → Type 0) (xs : List A) (a : A) → All P (xs ++ a ∷ []) → P a
all_last P [] a all = All-head P a [] all
all_last P (x ∷ xs) a all = all_last P xs a (All-tail P x (xs ++ a ∷ []) all)

pub get_there : {A : Type 0} (xs : List A) (k : ℕ) → k < length xs → (x : A) × (slice_get xs k ≡ Some x)
get_there [] k low = absurd (omega (arith, low))
get_there (x ∷ xs) zero low = (x, refl)
get_there (x ∷ xs) (suc k) low = get_there xs k (omega (arith, low))

-- ---- functions

pub address_below : (s : Store) (n x a : ℕ) (i : Instance) → StoreTyped (outline_of s) → slice_get s.instances n ≡ Some i → slice_get i.funcs x ≡ Some a → a < length s.funcs
address_below s n x a i typed found names = let t = typed.instances n i found in all_at (λ b. b < length s.funcs) i.funcs x a t.funcs names

pub definer_below : (s : Store) (a : ℕ) (f : FuncInst) → StoreTyped (outline_of s) → slice_get s.funcs a ≡ Some f → f.instance < length s.instances
definer_below s a f typed found = let t = typed.funcs a f found in t.instance

-- the one that defines a function which an instance names
module _ (s : Store) (n x a m : ℕ) (i : Instance) (typed : StoreTyped (outline_of s)) (found : slice_get s.instances n ≡ Some i) (names : slice_get i.funcs x ≡ Some a) (is : MatchOption (slice_get s.funcs a) ⊥ (λ f. f.instance ≡ m)) where
  pub definer_is : (f : FuncInst) → slice_get s.funcs a ≡ Some f → f.instance ≡ m
  definer_is f there = subst (λ o. MatchOption o ⊥ (λ g. g.instance ≡ m)) there is

  pub definer_there : m < length s.instances
  definer_there =
      let f = get_there s.funcs a (address_below s n x a i typed found names) in
      subst (λ k. k < length s.instances) (definer_is f.0 f.1) (definer_below s a f.0 typed f.1)

  pub definer_joined : Joined s n m
  definer_joined =
      let f = get_there s.funcs a (address_below s n x a i typed found names) in
      subst (Joined s n) (definer_is f.0 f.1) (joined_by s n f.0.instance (func x a i f.0 found names f.1))

  pub definer_with : (parts : List ℕ) → AreTogether parts n m → IsWithFunc s parts n a
  definer_with parts together = λ f there. together ∙ ap (λ k. slice_get parts k) (sym (definer_is f there))

pub is_there : (s : Store) (parts : List ℕ) (n : ℕ) (i : Instance) → AreParts s parts → slice_get s.instances n ≡ Some i → n < length parts
is_there s parts n i are found = let lt = slice_get_within s.instances n i found in let e = are.each in omega (arith, lt, e)

pub with_func_kept : (s : Store) (parts parts' : List ℕ) (n : ℕ) → KeepsTogether parts parts' → (a : ℕ) → IsWithFunc s parts n a → IsWithFunc s parts' n a
with_func_kept s parts parts' n kept a is = λ f found. kept n f.instance (is f found)

pub with_funcs_kept : (s : Store) (parts parts' : List ℕ) (n : ℕ) → KeepsTogether parts parts' → IsWithFuncs s parts n → IsWithFuncs s parts' n
with_funcs_kept s parts parts' n kept are = λ i found. All-weaker (IsWithFunc s parts n) (IsWithFunc s parts' n) (with_func_kept s parts parts' n kept) i.funcs (are i found)

pub with_funcs_here : (s : Store) (parts : List ℕ) (n : ℕ) (i : Instance) (addresses : List ℕ) → slice_get s.instances n ≡ Some i → addresses ≡ i.funcs → All (IsWithFunc s parts n) addresses → IsWithFuncs s parts n
with_funcs_here s parts n i addresses found same all = λ j found'.
    let e : i ≡ j = cc in
    subst (λ xs. All (IsWithFunc s parts n) xs) (same ∙ ap (λ (k : Instance). k.funcs) e) all

-- ---- what instances name by address

listed_is : (o : Option ℕ) (x a : ℕ) → slice_get (listed o) x ≡ Some a → o ≡ Some a
listed_is None x a found = absurd cc
listed_is (Some b) zero a found = found
listed_is (Some b) (suc x) a found = absurd cc

listed_below : (o : Option ℕ) (most : ℕ) → IsBelow most o → All (λ a. a < most) (listed o)
listed_below None most below = All-nil (λ a. a < most)
listed_below (Some b) most below = All-cons (λ a. a < most) b [] below (All-nil (λ a. a < most))

pub named_below : (s : Store) (kind : Kind) (n : ℕ) (i : Instance) → StoreTyped (outline_of s) → slice_get s.instances n ≡ Some i → All (λ a. a < count_of kind s) (named kind i)
named_below s Tables n i typed found = let t = typed.instances n i found in listed_below i.table (length s.tables) t.table
named_below s Memories n i typed found = let t = typed.instances n i found in listed_below i.memory (length s.memories) t.memory
named_below s Globals n i typed found =
    let t = typed.instances n i found in
    subst (λ m. All (λ a. a < m) i.globals) (length-map s.globals global_type_of) t.globals

pub named_all : (s : Store) (kind : Kind) (n : ℕ) (i : Instance) → slice_get s.instances n ≡ Some i → All (IsNamed s kind n) (named kind i)
named_all s kind n i found = all_from (IsNamed s kind n) (named kind i) (λ x a names. (x, i, found, names))

pub named_joined : (s : Store) (kind : Kind) (m n a : ℕ) → IsNamed s kind m a → IsNamed s kind n a → Joined s m n
named_joined s Tables m n a one other = joined_by s m n (table n a one.1 other.1 one.2 other.2 (listed_is one.1.table one.0 a one.3) (listed_is other.1.table other.0 a other.3))
named_joined s Memories m n a one other = joined_by s m n (memory n a one.1 other.1 one.2 other.2 (listed_is one.1.memory one.0 a one.3) (listed_is other.1.memory other.0 a other.3))
named_joined s Globals m n a one other = joined_by s m n (global n one.0 other.0 a one.1 other.1 one.2 other.2 one.3 other.3)

-- ---- the first instance that names an address

pub no_first : (n a k : ℕ) → IsFirst (replicate n None) a k → ⊥
no_first zero a k first = absurd cc
no_first (suc n) zero k first = absurd cc
no_first (suc n) (suc a) k first = no_first n a k first

set_here : (firsts : List (Option ℕ)) (a n : ℕ) → a < length firsts → IsFirst (slice_set firsts a (Some n)) a n
set_here [] a n low = absurd (omega (arith, low))
set_here (x ∷ xs) zero n low = refl
set_here (x ∷ xs) (suc a) n low = set_here xs a n (omega (arith, low))

set_still : (firsts : List (Option ℕ)) (a n b k : ℕ) → slice_get firsts a ≡ Some None → IsFirst firsts b k → IsFirst (slice_set firsts a (Some n)) b k
set_still [] a n b k none first = absurd cc
set_still (x ∷ xs) zero n zero k none first = absurd cc
set_still (x ∷ xs) zero n (suc b) k none first = first
set_still (x ∷ xs) (suc a) n zero k none first = first
set_still (x ∷ xs) (suc a) n (suc b) k none first = set_still xs a n b k none first

set_cases : (firsts : List (Option ℕ)) (a n b k : ℕ) → IsFirst (slice_set firsts a (Some n)) b k → ((b ≡ a) × (n ≡ k)) ⊎ IsFirst firsts b k
set_cases [] a n b k first = absurd cc
set_cases (x ∷ xs) zero n zero k first = inl (refl, cc)
set_cases (x ∷ xs) zero n (suc b) k first = inr first
set_cases (x ∷ xs) (suc a) n zero k first = inr first
set_cases (x ∷ xs) (suc a) n (suc b) k first = elim (set_cases xs a n b k first) [ inl here ↦ inl (ap suc here.0, here.1) | inr other ↦ inr other ]

pub firsts_below : (s : Store) (kind : Kind) (parts : List ℕ) (firsts : List (Option ℕ)) → AreParts s parts → AreFirsts s kind firsts → FirstsBelow (length parts) firsts
firsts_below s kind parts firsts are firsts_are = λ a k first. let name = firsts_are a k first in is_there s parts k name.1 are name.2

-- ---- noting an address, or several

pub notes_first : (n a : ℕ) (firsts : List (Option ℕ)) (parts : List ℕ) → a < length firsts → slice_get firsts a ≡ Some None → Notes n (a ∷ []) firsts (slice_set firsts a (Some n)) parts parts
notes_first n a firsts parts low none = record {
  kept = λ m k together. together;
  still = λ m b noted. (noted.0, set_still firsts a n b noted.0 none noted.1, noted.2);
  noted = All-cons (IsNoted (slice_set firsts a (Some n)) parts n) a [] (n, set_here firsts a n low, refl) (All-nil (IsNoted (slice_set firsts a (Some n)) parts n));
  below = λ most lt below b k first. elim (set_cases firsts a n b k first) [ inl here ↦ subst (λ m. m < most) here.1 lt | inr other ↦ below b k other ];
  sound = λ s kind are firsts_are names. (
    are,
    λ b k first.
        elim (set_cases firsts a n b k first) [
          | inl here ↦ subst (λ c. IsNamed s kind k c) (sym here.0) (subst (λ m. IsNamed s kind m a) here.1 (All-head (IsNamed s kind n) a [] names))
          | inr other ↦ firsts_are b k other
        ],
  );
}

pub notes_again : (n a first : ℕ) (firsts : List (Option ℕ)) (parts parts' : List ℕ) → IsFirst firsts a first → PutsTogether first n parts parts' → Notes n (a ∷ []) firsts firsts parts parts'
notes_again n a first firsts parts parts' found puts = record {
  kept = puts.kept;
  still = λ m b noted. (noted.0, noted.1, puts.kept noted.0 m noted.2);
  noted = All-cons (IsNoted firsts parts' n) a [] (first, found, puts.together) (All-nil (IsNoted firsts parts' n));
  below = λ most lt below. below;
  sound = λ s kind are firsts_are names. (puts.sound s are (named_joined s kind first n a (firsts_are a first found) (All-head (IsNamed s kind n) a [] names)), firsts_are);
}

pub notes_none : (n : ℕ) (firsts : List (Option ℕ)) (parts : List ℕ) → Notes n [] firsts firsts parts parts
notes_none n firsts parts = record {
  kept = λ m k together. together;
  still = λ m b noted. noted;
  noted = All-nil (IsNoted firsts parts n);
  below = λ most lt below. below;
  sound = λ s kind are firsts_are names. (are, firsts_are);
}

pub notes_more : (n a : ℕ) (addresses : List ℕ) (f0 f1 f2 : List (Option ℕ)) (p0 p1 p2 : List ℕ) → Notes n addresses f0 f1 p0 p1 → Notes n (a ∷ []) f1 f2 p1 p2 → Notes n (addresses ++ a ∷ []) f0 f2 p0 p2
notes_more n a addresses f0 f1 f2 p0 p1 p2 front last = record {
  kept = λ m k together. last.kept m k (front.kept m k together);
  still = λ m b noted. last.still m b (front.still m b noted);
  noted = All-append (IsNoted f2 p2 n) addresses (a ∷ []) (All-weaker (IsNoted f1 p1 n) (IsNoted f2 p2 n) (λ b noted. last.still n b noted) addresses front.noted) last.noted;
  below = λ most lt below. last.below most lt (front.below most lt below);
  sound = λ s kind are firsts_are names.
      let mid = front.sound s kind are firsts_are (all_front (IsNamed s kind n) addresses a names) in
      last.sound s kind mid.0 mid.1 (All-cons (IsNamed s kind n) a [] (all_last (IsNamed s kind n) addresses a names) (All-nil (IsNamed s kind n)));
}

-- ---- the instances one after the other

pub none_noted : (s : Store) (kind : Kind) (firsts : List (Option ℕ)) (parts : List ℕ) → AreParts s parts → AreFirsts s kind firsts → NotesAll s kind firsts firsts parts parts
none_noted s kind firsts parts are firsts_are = record {
  kept = λ m k together. together;
  still = λ m b noted. noted;
  parts_are = are;
  firsts_are = firsts_are;
}

pub one_noted : (s : Store) (kind : Kind) (n : ℕ) (i : Instance) (f0 f1 f2 : List (Option ℕ)) (p0 p1 p2 : List ℕ) → slice_get s.instances n ≡ Some i → NotesAll s kind f0 f1 p0 p1 → Notes n (named kind i) f1 f2 p1 p2 → NotesAll s kind f0 f2 p0 p2
one_noted s kind n i f0 f1 f2 p0 p1 p2 found before notes =
    let sound = notes.sound s kind before.parts_are before.firsts_are (named_all s kind n i found) in
    record {
      kept = λ m k together. notes.kept m k (before.kept m k together);
      still = λ m b noted. notes.still m b (before.still m b noted);
      parts_are = sound.0;
      firsts_are = sound.1;
    }

pub noted_kept : (s : Store) (kind : Kind) (n m : ℕ) (addresses : List ℕ) (f1 f2 : List (Option ℕ)) (p1 p2 : List ℕ) → Notes n addresses f1 f2 p1 p2 → AreNoted s kind f1 p1 m → AreNoted s kind f2 p2 m
noted_kept s kind n m addresses f1 f2 p1 p2 notes noted = λ i found. All-weaker (IsNoted f1 p1 m) (IsNoted f2 p2 m) (λ b is. notes.still m b is) (named kind i) (noted i found)

pub noted_here : (s : Store) (kind : Kind) (n : ℕ) (i : Instance) (f1 f2 : List (Option ℕ)) (p1 p2 : List ℕ) → slice_get s.instances n ≡ Some i → Notes n (named kind i) f1 f2 p1 p2 → AreNoted s kind f2 p2 n
noted_here s kind n i f1 f2 p1 p2 found notes = λ j found'.
    let e : i ≡ j = cc in
    subst (λ (k : Instance). All (IsNoted f2 p2 n) (named kind k)) e notes.noted

pub all_alike : (s : Store) (kind : Kind) (firsts : List (Option ℕ)) (parts : List ℕ) → ((n : ℕ) → AreNoted s kind firsts parts n) → AreAlike s kind parts
all_alike s kind firsts parts noted = λ m n a one other.
    let p = all_at (IsNoted firsts parts m) (named kind one.1) one.0 a (noted m one.1 one.2) one.3 in
    let q = all_at (IsNoted firsts parts n) (named kind other.1) other.0 a (noted n other.1 other.2) other.3 in
    same m n a p.0 q.0 p.1 q.1 p.2 q.2 where
      same : (m n a k j : ℕ) → IsFirst firsts a k → IsFirst firsts a j → AreTogether parts k m → AreTogether parts j n → AreTogether parts m n
      same m n a k j first second x y = let e : k ≡ j = cc in sym x ∙ (ap (λ l. slice_get parts l) e ∙ y)

-- ---- all passes

pub alike_kept : (s : Store) (kind : Kind) (parts parts' : List ℕ) → KeepsTogether parts parts' → AreAlike s kind parts → AreAlike s kind parts'
alike_kept s kind parts parts' kept alike = λ m n a one other. kept m n (alike m n a one other)

module _ (s : Store) (parts : List ℕ) (funcs : (n : ℕ) → IsWithFuncs s parts n) (tables : AreAlike s Tables parts) (memories : AreAlike s Memories parts) (globals : AreAlike s Globals parts) where
  closed_by : (n k : ℕ) → Shares s n k → AreTogether parts n k
  closed_by n k (func x a i f found names is) = all_at (IsWithFunc s parts n) i.funcs x a (funcs n i found) names f is
  closed_by n k (table m a i j one other names also) = tables n m a (0, i, one, ap (λ o. slice_get (listed o) 0) names) (0, j, other, ap (λ o. slice_get (listed o) 0) also)
  closed_by n k (memory m a i j one other names also) = memories n m a (0, i, one, ap (λ o. slice_get (listed o) 0) names) (0, j, other, ap (λ o. slice_get (listed o) 0) also)
  closed_by n k (global m x y a i j one other names also) = globals n m a (x, i, one, names) (y, j, other, also)

pub whole_from : (s : Store) (parts : List ℕ) → AreParts s parts → ((n : ℕ) → IsWithFuncs s parts n) → AreAlike s Tables parts → AreAlike s Memories parts → AreAlike s Globals parts → AreWhole s parts
whole_from s parts are funcs tables memories globals = record {
  parts_are = are;
  closed = closed_by s parts funcs tables memories globals;
}
