-- What holds of all that a format of bytes spells: a law for each part that formats are made of.
use Rattle.std.proofs.Common.{◌≡◌, ℕ, zero, suc, ◌-◌, ◌<◌, ◌^◌, Bool, inl, inr, List, [], ◌∷◌, ◌++◌, length, sym, subst, arith, ℤ, pos, negsuc}
use Rattle.std.specs.Prelude.{All, Option, Some, None}
use Rattle.std.proofs.lemmas.Int.{ints}
use Rattle.std.proofs.lemmas.List.Elements.{All-cons, All-head, All-nil, All-rest, All-tail}
use Rattle.ms_bytes.specs.Choice.{among, coded, table}
use Rattle.ms_bytes.specs.Codes.{Case, CaseSpelled, Coded, NamedSpelled, PairSpelled}
use Rattle.ms_bytes.specs.Repetition.{each, repeat, times}
use Rattle.ms_bytes.specs.Runs.{Runs, goes, rests}
use Rattle.ms_leb.specs.Leb128.{IsSigned, IsUnsigned, IsWithin}
use Rattle.ms_leb.proofs.Powers.{pow_seven, pow_signed}
use Rattle.ms_bin_grammar.specs.declared.fault.ReadFault.{ReadFault}
use Rattle.ms_bin_grammar.specs.Faults.{Binary}
use Rattle.ms_bin_grammar.specs.Numbers.{number, signed, vec}
use Rattle.ms_bin_grammar.specs.Sizes.{name, sized}
use Rattle.ms_text_write.proofs.Sayable.{Narrow, SayableName, Signed}
use Rattle.ms_text_write.proofs.Showable.{AreBytes}

-- In bytes, what the format spells has the fact, and bytes follow it.
abbrev pub AllSpelled : {A : Type 0} → Binary A → (A → Type 0) → Type 0
AllSpelled {A} f P = (s : List ℕ) (x : A) (t : List ℕ) → AreBytes s → f.spelled s x t → P x × AreBytes t

-- ---- bytes

pub front_bytes : (xs ys : List ℕ) → AreBytes (xs ++ ys) → AreBytes xs
front_bytes [] ys h = All-nil (λ b. b < 256)
front_bytes (x ∷ xs) ys h = All-cons (λ b. b < 256) x xs (All-head (λ b. b < 256) x (xs ++ ys) h) (front_bytes xs ys (All-tail (λ b. b < 256) x (xs ++ ys) h))

pub back_bytes : (xs ys : List ℕ) → AreBytes (xs ++ ys) → AreBytes ys
back_bytes [] ys h = h
back_bytes (x ∷ xs) ys h = back_bytes xs ys (All-tail (λ b. b < 256) x (xs ++ ys) h)

pub marks_hold : (marks s t : List ℕ) → AreBytes s → s ≡ marks ++ t → AreBytes t
marks_hold marks s t bs e = back_bytes marks t (subst (λ (l : List ℕ). AreBytes l) e bs)

-- what `pure` spells
pub ends : {A : Type 0} (P : A → Type 0) {x v : A} {s t : List ℕ} → (x ≡ v) × (s ≡ t) → P v → AreBytes s → P x × AreBytes t
ends P h p bs = (subst P (sym h.0) p, subst (λ (l : List ℕ). AreBytes l) h.1 bs)

-- ---- numbers

unsigned_bounded : (bits : ℕ) (front : List ℕ) (n : ℕ) → AreBytes front → IsUnsigned bits front n → n < 2 ^ bits
unsigned_bounded bits [] n bs h = absurd h
unsigned_bounded bits (b ∷ []) n bs h = omega (arith, h.1, h.2)
unsigned_bounded bits (b ∷ c ∷ front) n bs h =
    let byte : b < 256 = All-head (λ b. b < 256) b (c ∷ front) bs in
    let high : h.2.0 < 2 ^ (bits - 7) = unsigned_bounded (bits - 7) (c ∷ front) h.2.0 (All-tail (λ b. b < 256) b (c ∷ front) bs) h.2.1 in
    omega (arith, h.0, h.2.2, pow_seven bits (omega (arith, h.1)))

signed_bounded : (bits : ℕ) (front : List ℕ) (n : ℤ) → AreBytes front → IsSigned bits front n → IsWithin (bits - 1) n
signed_bounded bits [] n bs h = absurd h
signed_bounded bits (b ∷ []) n bs (inl h) = (omega (arith, ints, h.2), omega (arith, ints, h.1, h.2))
signed_bounded bits (b ∷ []) n bs (inr h) = (omega (arith, ints, h.2, h.3), omega (arith, ints, h.1, h.3))
signed_bounded bits (b ∷ c ∷ front) n bs h =
    let byte : b < 256 = All-head (λ b. b < 256) b (c ∷ front) bs in
    let high = signed_bounded (bits - 7) (c ∷ front) h.2.0 (All-tail (λ b. b < 256) b (c ∷ front) bs) h.2.1 in
    let power = pow_signed bits h.1 in
    (omega (arith, ints, h.0, h.2.2, power, high.0), omega (arith, ints, h.0, h.2.2, power, high.1))

pub signed_is : (bits : ℕ) (n : ℤ) → IsWithin (bits - 1) n → Signed bits n
signed_is bits (pos n) h = omega (arith, ints, h.1)
signed_is bits (negsuc n) h = omega (arith, ints, h.0)

pub number_holds : AllSpelled number Narrow
number_holds s x t bs h =
    let all = subst (λ (l : List ℕ). AreBytes l) h.2 bs in
    (unsigned_bounded 32 h.0 x (front_bytes h.0 t all) h.1, back_bytes h.0 t all)

pub signed_holds : (bits : ℕ) → AllSpelled (signed bits) (Signed bits)
signed_holds bits s x t bs h =
    let all = subst (λ (l : List ℕ). AreBytes l) h.2 bs in
    (signed_is bits x (signed_bounded bits h.0 x (front_bytes h.0 t all) h.1), back_bytes h.0 t all)

-- ---- names

pub name_holds : AllSpelled name SayableName
name_holds s x t bs h =
    let count = number_holds s h.0 h.1 bs h.2 in
    let all = subst (λ (l : List ℕ). AreBytes l) h.3.0.1 count.1 in
    ((front_bytes x t all, h.3.1), back_bytes x t all)

-- ---- repetition

module _ {A : Type 0} (f : Binary A) (P : A → Type 0) (holds : AllSpelled f P) where
  times_hold : (n : ℕ) → AllSpelled (times n f) (λ (xs : List A). All P xs)
  unfolding times
  times_hold zero s x t bs h = ends (λ (xs : List A). All P xs) h (All-nil P) bs
  times_hold (suc n) s x t bs h =
      let one = holds s h.0 h.1 bs h.2 in
      let more = times_hold n h.1 h.3.0 h.3.1 one.1 h.3.2 in
      ends (λ (xs : List A). All P xs) h.3.3 (All-cons P h.0 h.3.0 one.0 more.0) more.1

  pub vec_holds : AllSpelled (vec f) (λ (xs : List A). All P xs)
  unfolding vec
  vec_holds s x t bs h = times_hold h.0 h.1 x t (number_holds s h.0 h.1 bs h.2).1 h.3

  pub sized_holds : AllSpelled (sized f) P
  sized_holds s x t bs h =
      let all = (number_holds s (length h.0) (h.0 ++ t) bs h.1).1 in
      ((holds h.0 x [] (front_bytes h.0 t all) h.2).0, back_bytes h.0 t all)

-- what follows an item of a size
pub behind_sized : {A : Type 0} (f : Binary A) (s : List ℕ) (x : A) (t : List ℕ) → AreBytes s → (sized f).spelled s x t → AreBytes t
behind_sized f s x t bs h = back_bytes h.0 t (number_holds s (length h.0) (h.0 ++ t) bs h.1).1

pub each_holds : {K A : Type 0} (f : K → Binary A) (Q : K → Type 0) (P : A → Type 0) → ((k : K) → Q k → AllSpelled (f k) P) → (ks : List K) → All Q ks → AllSpelled (each f ks) (λ (xs : List A). All P xs)
unfolding each
each_holds f Q P g [] q s x t bs h = ends (λ xs. All P xs) h (All-nil P) bs
each_holds f Q P g (k ∷ ks) q s x t bs h =
    let one = g k (All-head Q k ks q) s h.0 h.1 bs h.2 in
    let more = each_holds f Q P g ks (All-tail Q k ks q) h.1 h.3.0 h.3.1 one.1 h.3.2 in
    ends (λ xs. All P xs) h.3.3 (All-cons P h.0 h.3.0 one.0 more.0) more.1

-- a fact on a state that each step keeps
module _ {S : Type 0} (f : S → Binary S) (P : S → Type 0) (keeps : (st : S) → P st → AllSpelled (f st) P) where
  pub repeat_holds : (n : ℕ) (st : S) → P st → AllSpelled (repeat f n st) P
  unfolding repeat
  repeat_holds zero st p s x t bs h = ends P h p bs
  repeat_holds (suc n) st p s x t bs h = let one = keeps st p s h.0 h.1 bs h.2 in repeat_holds n h.0 one.0 h.1 x t one.1 h.3

  pub runs_hold : (going : S → List ℕ → Bool) {st last : S} {s u : List ℕ} → Runs going f st s last u → P st → AreBytes s → P last × AreBytes u
  runs_hold going (rests e) p bs = (p, bs)
  runs_hold going {st = st} {s = s} (goes {t = t} next e h r) p bs = let one = keeps st p s next t bs h in runs_hold going r one.0 one.1

-- ---- choices by a code

abbrev pub AllCoded : {A : Type 0} → Coded ReadFault A → (A → Type 0) → Type 0
AllCoded {A} c P = (code : ℕ) (s : List ℕ) (x : A) (t : List ℕ) → AreBytes s → c.spelled code s x t → P x × AreBytes t

abbrev pub CaseHolds : {A : Type 0} → (A → Type 0) → Case ReadFault A → Type 0
CaseHolds {A} P k = (s : List ℕ) (x : A) (t : List ℕ) → AreBytes s → CaseSpelled k s x t → P x × AreBytes t

abbrev pub RowsHold : {A : Type 0} → (A → Type 0) → List (ℕ × Case ReadFault A) → Type 0
RowsHold P [] = Unit {0}
RowsHold P (r ∷ rs) = CaseHolds P r.1 × RowsHold P rs

pub among_holds : {A : Type 0} (P : A → Type 0) (rows : List (ℕ × Case ReadFault A)) (others : Coded ReadFault A) → RowsHold P rows → AllCoded others P → AllCoded (among rows others) P
among_holds P [] others w g code s x t bs h = g code s x t bs h
among_holds P (r ∷ rs) others w g code s x t bs (inl h) = w.0 s x t bs h.1
among_holds P (r ∷ rs) others w g code s x t bs (inr h) = among_holds P rs others w.1 g code s x t bs h.1

named_holds : {K A : Type 0} (P : A → Type 0) (behind : K → Binary A) (others : Coded ReadFault A) → ((k : K) → AllSpelled (behind k) P) → AllCoded others P
    → (o : Option K) (code : ℕ) (s : List ℕ) (x : A) (t : List ℕ) → AreBytes s → NamedSpelled behind others o code s x t → P x × AreBytes t
named_holds P behind others w g None code s x t bs h = g code s x t bs h
named_holds P behind others w g (Some k) code s x t bs h = w k s x t bs h

pub table_holds : {K A : Type 0} (P : A → Type 0) (names : ℕ → Option K) (behind : K → Binary A) (others : Coded ReadFault A) → ((k : K) → AllSpelled (behind k) P) → AllCoded others P → AllCoded (table names behind others) P
table_holds P names behind others w g code s x t bs h = named_holds P behind others w g (names code) code s x t bs h

pub pair_holds : {A : Type 0} (P : A → Type 0) (first : ℕ) (seconds others : Coded ReadFault A) → AllCoded seconds P → AllCoded others P
    → (code : ℕ) (s : List ℕ) (x : A) (t : List ℕ) → AreBytes s → PairSpelled first seconds others code s x t → P x × AreBytes t
pair_holds P first seconds others w g code s x t bs (inl h) =
    let k = h.1 in
    w k.0 k.1 x t (All-rest (λ b. b < 256) k.0 k.1 s k.2 bs) k.3
pair_holds P first seconds others w g code s x t bs (inr h) = g code s x t bs h.1

pub coded_holds : {A : Type 0} (P : A → Type 0) (fault : ℕ → List ℕ → ReadFault) (c : Coded ReadFault A) → AllCoded c P → AllSpelled (coded fault c) P
coded_holds P fault c g s x t bs h = g h.0 h.1 x t (All-rest (λ b. b < 256) h.0 h.1 s h.2 bs) h.3
