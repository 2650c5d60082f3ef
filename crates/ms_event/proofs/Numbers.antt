-- A space and a number, and two of them.
use Rattle.std.proofs.Common.{◌≡◌, ℕ, List, [], ◌∷◌, ◌++◌, Option, Some, None, ap, ◌∙◌, arith}
use Rattle.std.specs.Fmt.{decimal}
use Rattle.ms_event.specs.Text.{IsId, numbers}
use Rattle.ms_event.specs.refinement.Reading.{IsStop, ReadsDigits, ReadsNumber, ReadsPair}

pub numbers_stop : (ns : List ℕ) → IsStop (numbers ns)
numbers_stop [] = tt
numbers_stop (n ∷ ns) = λ d digit e. omega (arith, e)

pub reads_behind_space : (s rest new : List ℕ) (r : Option ℕ) → s ≡ 32 ∷ rest → ReadsDigits IsId rest new r → ReadsNumber IsId s new r
reads_behind_space s rest new None space digits = record {
  found = tt;
  only = λ n ns small e.
      let behind : rest ≡ decimal n ++ numbers ns = cc in
      digits.only n (numbers ns) small (numbers_stop ns) behind;
}
reads_behind_space s rest new (Some v) space digits = record {
  found = (digits.found.0, space ∙ ap (λ xs. 32 ∷ xs) digits.found.1);
  only = λ n ns small e.
      let behind : rest ≡ decimal n ++ numbers ns = cc in
      digits.only n (numbers ns) small (numbers_stop ns) behind;
}

-- ---- two numbers

pub reads_pair : (IsKind : ℕ → Type 0) (s between new : List ℕ) (a b : ℕ) → ReadsNumber IsKind s between (Some a) → ReadsNumber IsKind between new (Some b) → ReadsPair IsKind s new (Some (a, b))
reads_pair IsKind s between new a b first second = record {
  found = (first.found.0, second.found.0, first.found.1 ∙ ap (λ xs. 32 ∷ decimal a ++ xs) second.found.1);
  only = λ m n ns first_fits second_fits e.
      let one = first.only m (n ∷ ns) first_fits e in
      let two = second.only n ns second_fits one.1 in
      let first_same : Some a ≡ Some m = one.0 in
      let second_same : Some b ≡ Some n = two.0 in
      let pair : Some (a, b) ≡ Some (m, n) = cc in
      (pair, two.1);
}

pub reads_no_pair : (IsKind : ℕ → Type 0) (s between : List ℕ) → ReadsNumber IsKind s between None → ReadsPair IsKind s between None
reads_no_pair IsKind s between first = record {
  found = tt;
  only = λ m n ns first_fits second_fits e.
      let one : None ≡ Some m = (first.only m (n ∷ ns) first_fits e).0 in
      absurd cc;
}

pub reads_half_pair : (IsKind : ℕ → Type 0) (s between new : List ℕ) (a : ℕ) → ReadsNumber IsKind s between (Some a) → ReadsNumber IsKind between new None → ReadsPair IsKind s new None
reads_half_pair IsKind s between new a first second = record {
  found = tt;
  only = λ m n ns first_fits second_fits e.
      let one = first.only m (n ∷ ns) first_fits e in
      let two : None ≡ Some n = (second.only n ns second_fits one.1).0 in
      absurd cc;
}
