-- The lines of an answer are put one by one.
use Rattle.std.proofs.Common.{◌≡◌, ◌∙◌, ◌⊎◌, ◌<◌, ℕ, inl, inr, List, [], ◌∷◌, ◌++◌, length, append_assoc, append-nil, refl, sym, ap, subst, true, false, ◌==◌, arith}
use Rattle.std.proofs.lemmas.Bool.{eqb-true}
use Rattle.std.specs.Prelude.{Option, Some, None, MatchOption}
use Rattle.ms_outside.specs.Faults.{CountsFault}
use Rattle.ms_outside.specs.Sink.{IsFront, Puts}
use Rattle.ms_outside.specs.declared.sink.Put.TheVariants as putting
use Rattle.ms_run.specs.Observed.{Report}
use Rattle.ms_run.proofs.Later.{report_of}
use Rattle.ms_run.specs.Reporting.{AreLines, Grows, IsCut, IsStarved, IsWhole}
use Rattle.ms_run.specs.declared.status.Status.{Status}
use Rattle.ms_run.specs.declared.status.Status.TheVariants.{OutOfMemory, WriteFault}

-- the lines in front of what is left were put
pub record IsSoFar (text left : List ℕ) (r : Report) : Type 0 where
  pub lines : List ℕ
  pub is_text : text ≡ lines ++ left
  pub are_lines : AreLines lines ⊎ (left ≡ [])
  pub grown : Grows r lines
  pub counts : r.puts_new ≡ r.puts_old

pub none_so_far : (text : List ℕ) (held : Option (List ℕ)) (puts : ℕ) → IsSoFar text text (report_of held held puts puts)
none_so_far text held puts = record { lines = []; is_text = refl; are_lines = inl (inl refl); grown = by held; counts = refl }
  where
    by : (held : Option (List ℕ)) → Grows (report_of held held puts puts) []
    by None = refl
    by (Some bytes) = ap (λ (x : List ℕ). Some x) (sym (append-nil bytes))

lines_behind : (xs ys : List ℕ) → AreLines xs → AreLines ys → AreLines (xs ++ ys)
lines_behind xs ys all (inl none) = subst AreLines (sym (append-nil xs) ∙ ap (λ (x : List ℕ). xs ++ x) (sym none)) all
lines_behind xs ys all (inr (front, is)) = inr (xs ++ front, ap (λ (x : List ℕ). xs ++ x) is ∙ sym (append_assoc xs front (10 ∷ [])))

pub some_left : (left : List ℕ) → false ≡ (length left == 0) → 0 < length left
some_left [] e = absurd cc
some_left (x ∷ xs) e = omega arith

pub none_left : (left : List ℕ) → true ≡ (length left == 0) → length left ≡ 0
none_left left e = eqb-true (length left) 0 (sym e)

nothing_left : (left : List ℕ) → left ≡ [] → ¬ (0 < length left)
nothing_left left e some = let none = ap length e in omega arith

module _ (text left line behind : List ℕ) (some : 0 < length left) (parts : left ≡ line ++ behind) (old mid new : Option (List ℕ)) (puts_old puts_mid puts_new : ℕ) (so_far : IsSoFar text left (report_of old mid puts_old puts_mid)) where
  whole_lines : AreLines so_far.lines
  whole_lines = elim so_far.are_lines [
    | inl h ↦ h
    | inr e ↦ absurd (nothing_left left e some)
  ]

  -- it holds these bytes behind the lines
  grown_by : (more : List ℕ) → ((held : List ℕ) → mid ≡ Some held → new ≡ Some (held ++ more)) → (mid ≡ None → new ≡ None) → Grows (report_of old new puts_old puts_new) (so_far.lines ++ more)
  grown_by more told untold = by old so_far.grown where
    by : (o : Option (List ℕ)) → MatchOption o (mid ≡ None) (λ held. mid ≡ Some (held ++ so_far.lines)) → MatchOption o (new ≡ None) (λ held. new ≡ Some (held ++ (so_far.lines ++ more)))
    by None e = untold e
    by (Some held) e = told (held ++ so_far.lines) e ∙ ap (λ (x : List ℕ). Some x) (append_assoc held so_far.lines more)

  front_of : (front rest : List ℕ) → line ≡ front ++ rest → IsFront (so_far.lines ++ front) text
  front_of front rest e =
      let lines = so_far.lines in
      (rest ++ behind, so_far.is_text ∙ (ap (λ (x : List ℕ). lines ++ x) (parts ∙ (ap (λ (x : List ℕ). x ++ behind) e ∙ append_assoc front rest behind)) ∙ sym (append_assoc lines front (rest ++ behind))))

  pub one_more : AreLines line ⊎ (behind ≡ []) → Puts putting.Done line mid new → puts_new ≡ puts_mid → IsSoFar text behind (report_of old new puts_old puts_new)
  one_more ends held counts = record {
    lines = so_far.lines ++ line;
    is_text = so_far.is_text ∙ (ap (λ (x : List ℕ). so_far.lines ++ x) parts ∙ sym (append_assoc so_far.lines line behind));
    are_lines = elim ends [
      | inl h ↦ inl (lines_behind so_far.lines line whole_lines h)
      | inr e ↦ inr e
    ];
    grown = grown_by line (λ bytes e. subst (λ (o : Option (List ℕ)). Puts putting.Done line o new) e held) (λ e. subst (λ (o : Option (List ℕ)). Puts putting.Done line o new) e held);
    counts = counts ∙ so_far.counts;
  }

  pub line_starved : Puts putting.Memory line mid new → puts_new ≡ puts_mid → IsStarved text (report_of old new puts_old puts_new) OutOfMemory
  line_starved held counts =
      let lines = so_far.lines in
      (refl, lines, (left, so_far.is_text), whole_lines, by old mid so_far.grown held, counts ∙ so_far.counts)
    where
      by : (o m : Option (List ℕ)) → MatchOption o (m ≡ None) (λ held. m ≡ Some (held ++ so_far.lines)) → Puts putting.Memory line m new → MatchOption o (new ≡ None) (λ held. new ≡ Some (held ++ so_far.lines))
      by None None e h = h
      by None (Some bytes) e h = absurd cc
      by (Some held) None e h = absurd cc
      by (Some held) (Some bytes) e h = h ∙ e

  pub line_cut : Puts putting.Failed line mid new → CountsFault puts_mid puts_new → IsCut text (report_of old new puts_old puts_new) WriteFault
  line_cut held counts = by mid refl held where
    counted : CountsFault puts_old puts_new
    counted = subst (λ (n : ℕ). CountsFault n puts_new) so_far.counts counts

    by : (m : Option (List ℕ)) → mid ≡ m → Puts putting.Failed line m new → IsCut text (report_of old new puts_old puts_new) WriteFault
    by None e h =
        (refl, so_far.lines ++ [], front_of [] line refl, grown_by [] (λ bytes is. absurd (let both = sym e ∙ is in cc)) (λ _. h), counted)
    by (Some bytes) e (front, (rest, is), now) =
        (refl, so_far.lines ++ front, front_of front rest is, grown_by front (λ held same. now ∙ ap (λ (x : List ℕ). Some (x ++ front)) (of_some bytes held (sym e ∙ same))) (λ none. absurd (let both = sym e ∙ none in cc)), counted)
      where
        of_some : (x y : List ℕ) → ◌≡◌ {A = Option (List ℕ)} (Some x) (Some y) → x ≡ y
        of_some x y e = cc

pub all_put : (status : Status) (text left : List ℕ) (r : Report) → length left ≡ 0 → IsSoFar text left r → IsWhole status text r status
all_put status text left r none so_far = (refl, subst (Grows r) (sym (is_all left none so_far.is_text)) so_far.grown, so_far.counts)
  where
    is_all : (left : List ℕ) → length left ≡ 0 → text ≡ so_far.lines ++ left → text ≡ so_far.lines
    is_all [] none e = e ∙ append-nil so_far.lines
    is_all (x ∷ xs) none e = absurd (omega (arith, none))
