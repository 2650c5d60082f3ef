-- All the numbers of an event, and then the end.
use Rattle.std.proofs.Common.{◌≡◌, ℕ, List, [], ◌∷◌, ◌++◌, Bool, true, false, Some, None, eqb, length, sym, ap, ◌∙◌}
use Rattle.std.specs.Bool.{then_some}
use Rattle.std.specs.Fmt.{decimal}
use Rattle.std.proofs.lemmas.Bool.{eqb-true}
use Rattle.std.proofs.lemmas.List.{nil_from_length}
use Rattle.ms_event.specs.Text.{IsId, IsWord}
use Rattle.ms_event.specs.refinement.Reading.{ReadsFive, ReadsNumber, ReadsOne, ReadsPair, ReadsThree}

no_more : (left : List ℕ) → true ≡ eqb (length left) 0 → left ≡ []
no_more left e = nil_from_length left (eqb-true _ _ (sym e))

some_more : (left : List ℕ) → false ≡ eqb (length left) 0 → left ≡ [] → ⊥
some_more left e none = let test : false ≡ true = rw none at e in cc

-- ---- one number

pub one_fails : (IsKind : ℕ → Type 0) (s new : List ℕ) → ReadsNumber IsKind s new None → ReadsOne IsKind s None
one_fails IsKind s new read = record { found = tt; only = λ n fits e. (read.only n [] fits e).0 }

pub one_ends : (IsKind : ℕ → Type 0) (s new : List ℕ) (n : ℕ) (b : Bool) → b ≡ eqb (length new) 0 → ReadsNumber IsKind s new (Some n) → ReadsOne IsKind s (then_some b n)
one_ends IsKind s new n true empty read = record {
  found = read.found.1 ∙ ap (λ xs. 32 ∷ decimal n ++ xs) (no_more new empty);
  only = λ m fits e. (read.only m [] fits e).0;
}
one_ends IsKind s new n false empty read = record {
  found = tt;
  only = λ m fits e. absurd (some_more new empty (read.only m [] fits e).1);
}

-- ---- three numbers

pub three_fails_first : (s new : List ℕ) → ReadsNumber IsId s new None → ReadsThree s None
three_fails_first s new read = record {
  found = tt;
  only = λ i a b i_fits a_fits b_fits e.
      let one : None ≡ Some i = (read.only i (a ∷ b ∷ []) i_fits e).0 in
      absurd cc;
}

pub three_fails : (s s1 new : List ℕ) (id : ℕ) → ReadsNumber IsId s s1 (Some id) → ReadsPair IsWord s1 new None → ReadsThree s None
three_fails s s1 new id first read = record {
  found = tt;
  only = λ i a b i_fits a_fits b_fits e.
      let one = first.only i (a ∷ b ∷ []) i_fits e in
      let two : None ≡ Some (a, b) = (read.only a b [] a_fits b_fits one.1).0 in
      absurd cc;
}

pub three_ends : (s s1 new : List ℕ) (id : ℕ) (p : ℕ × ℕ) (done : Bool) → done ≡ eqb (length new) 0 → ReadsNumber IsId s s1 (Some id) → ReadsPair IsWord s1 new (Some p) → ReadsThree s (then_some done (id, p))
three_ends s s1 new id p true empty first read = record {
  found = first.found.1 ∙ ap (λ xs. 32 ∷ decimal id ++ xs) read.found.2 ∙ ap (λ xs. 32 ∷ decimal id ++ (32 ∷ decimal p.0 ++ (32 ∷ decimal p.1 ++ xs))) (no_more new empty);
  only = λ i a b i_fits a_fits b_fits e.
      let one = first.only i (a ∷ b ∷ []) i_fits e in
      let id_same : Some id ≡ Some i = one.0 in
      let pair_same : Some p ≡ Some (a, b) = (read.only a b [] a_fits b_fits one.1).0 in
      let all_same : Some (id, p) ≡ Some (i, (a, b)) = cc in
      all_same;
}
three_ends s s1 new id p false empty first read = record {
  found = tt;
  only = λ i a b i_fits a_fits b_fits e.
      let one = first.only i (a ∷ b ∷ []) i_fits e in
      absurd (some_more new empty (read.only a b [] a_fits b_fits one.1).1);
}

-- ---- five numbers

pub five_fails_first : (s new : List ℕ) → ReadsNumber IsId s new None → ReadsFive s None
five_fails_first s new read = record {
  found = tt;
  only = λ i a b c d i_fits a_fits b_fits c_fits d_fits e.
      let one : None ≡ Some i = (read.only i (a ∷ b ∷ c ∷ d ∷ []) i_fits e).0 in
      absurd cc;
}

pub five_fails_second : (s s1 new : List ℕ) (id : ℕ) → ReadsNumber IsId s s1 (Some id) → ReadsPair IsWord s1 new None → ReadsFive s None
five_fails_second s s1 new id first read = record {
  found = tt;
  only = λ i a b c d i_fits a_fits b_fits c_fits d_fits e.
      let one = first.only i (a ∷ b ∷ c ∷ d ∷ []) i_fits e in
      let two : None ≡ Some (a, b) = (read.only a b (c ∷ d ∷ []) a_fits b_fits one.1).0 in
      absurd cc;
}

pub five_fails : (s s1 s2 new : List ℕ) (id : ℕ) (p : ℕ × ℕ) → ReadsNumber IsId s s1 (Some id) → ReadsPair IsWord s1 s2 (Some p) → ReadsPair IsWord s2 new None → ReadsFive s None
five_fails s s1 s2 new id p first second read = record {
  found = tt;
  only = λ i a b c d i_fits a_fits b_fits c_fits d_fits e.
      let one = first.only i (a ∷ b ∷ c ∷ d ∷ []) i_fits e in
      let two = second.only a b (c ∷ d ∷ []) a_fits b_fits one.1 in
      let three : None ≡ Some (c, d) = (read.only c d [] c_fits d_fits two.1).0 in
      absurd cc;
}

pub five_ends : (s s1 s2 new : List ℕ) (id : ℕ) (p q : ℕ × ℕ) (done : Bool) → done ≡ eqb (length new) 0 → ReadsNumber IsId s s1 (Some id) → ReadsPair IsWord s1 s2 (Some p) → ReadsPair IsWord s2 new (Some q) → ReadsFive s (then_some done (id, p, q))
five_ends s s1 s2 new id p q true empty first second read =
    let front : List ℕ → List ℕ = λ xs. 32 ∷ decimal id ++ (32 ∷ decimal p.0 ++ (32 ∷ decimal p.1 ++ xs)) in
    record {
      found = first.found.1 ∙ ap (λ xs. 32 ∷ decimal id ++ xs) second.found.2 ∙ ap front read.found.2 ∙ ap (λ xs. front (32 ∷ decimal q.0 ++ (32 ∷ decimal q.1 ++ xs))) (no_more new empty);
      only = λ i a b c d i_fits a_fits b_fits c_fits d_fits e.
          let one = first.only i (a ∷ b ∷ c ∷ d ∷ []) i_fits e in
          let two = second.only a b (c ∷ d ∷ []) a_fits b_fits one.1 in
          let id_same : Some id ≡ Some i = one.0 in
          let first_same : Some p ≡ Some (a, b) = two.0 in
          let second_same : Some q ≡ Some (c, d) = (read.only c d [] c_fits d_fits two.1).0 in
          let all_same : Some (id, p, q) ≡ Some (i, (a, b), (c, d)) = cc in
          all_same;
    }
five_ends s s1 s2 new id p q false empty first second read = record {
  found = tt;
  only = λ i a b c d i_fits a_fits b_fits c_fits d_fits e.
      let one = first.only i (a ∷ b ∷ c ∷ d ∷ []) i_fits e in
      let two = second.only a b (c ∷ d ∷ []) a_fits b_fits one.1 in
      absurd (some_more new empty (read.only c d [] c_fits d_fits two.1).1);
}
