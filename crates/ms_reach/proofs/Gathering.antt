-- Ranges of values, added one after the other.
use Rattle.std.proofs.Common.{◌≡◌, inl, inr, ℕ, ◌+◌, List, [], ◌∷◌, ◌++◌, take, slice_get, Some, refl, sym, ap, subst, ◌∙◌}
use Rattle.std.specs.List.{flat_map}
use Rattle.std.proofs.lemmas.Grind.{flat_map-append}
use Rattle.std.proofs.lemmas.List.{append-nil}
use Rattle.std.proofs.lemmas.List.Elements.{Contains-append_cases, Contains-append_left, Contains-append_right}
use Rattle.ms_linear.specs.declared.value.Value.{Value}
use Rattle.ms_live.specs.declared.gaps.Live.{Live}
use Rattle.ms_machine.proofs.SafePaints.{Contains-cases, Contains-first, Contains-none}
use Rattle.ms_reach.specs.refinement.Closing.{Adds, Gathers, State}
use Rattle.ms_reach.specs.refinement.Leading.{value_range}
use Rattle.ms_reach.proofs.Closings.{adds_all, adds_from, adds_kept}
use Rattle.ms_reach.proofs.Marks.{take_more}

module _ (live : List Live) where
  pub gather_none : (c : State) → Gathers live [] c c
  gather_none c = record { marks = refl; kept = λ r has. has; from = λ r has. inl has; all = λ v r has is. absurd (Contains-none v has) }

  pub gather_one : (v : Value) (c c' : State) → c'.marks ≡ c.marks → Adds (value_range live v) c.todo c'.todo → Gathers live (v ∷ []) c c'
  gather_one v c c' marks adds = record {
    marks = marks;
    kept = adds_kept (value_range live v) c.todo c'.todo adds;
    from = λ r has. elim (adds_from (value_range live v) c.todo c'.todo adds r has) [ inl old ↦ inl old | inr is ↦ inr (v, Contains-first v [], is) ];
    all = λ u r has is.
        elim (Contains-cases v [] u has) [
          | inl same ↦ adds_all (value_range live v) c.todo c'.todo adds r (ap (value_range live) same ∙ is)
          | inr none ↦ absurd (Contains-none u none)
        ];
  }

  pub gather_on : (us vs : List Value) (c c' c'' : State) → Gathers live us c c' → Gathers live vs c' c'' → Gathers live (us ++ vs) c c''
  gather_on us vs c c' c'' a b = record {
    marks = b.marks ∙ a.marks;
    kept = λ r has. b.kept r (a.kept r has);
    from = λ r has.
        elim (b.from r has) [
          | inl old ↦ elim (a.from r old) [ inl older ↦ inl older | inr new ↦ inr (new.0, Contains-append_left us vs new.0 new.1, new.2) ]
          | inr new ↦ inr (new.0, Contains-append_right us vs new.0 new.1, new.2)
        ];
    all = λ v r has is.
        elim (Contains-append_cases us vs v has) [
          | inl first ↦ b.kept r (a.all v r first is)
          | inr second ↦ b.all v r second is
        ];
  }

  pub gather_is : (us vs : List Value) (c c' : State) → us ≡ vs → Gathers live us c c' → Gathers live vs c c'
  gather_is us vs c c' same a = subst (λ ws. Gathers live ws c c') same a

  -- one value more of a list
  pub gather_next : (vs : List Value) (i : ℕ) (v : Value) (c c' c'' : State) → slice_get vs i ≡ Some v → Gathers live (take i vs) c c' → Gathers live (v ∷ []) c' c'' → Gathers live (take (i + 1) vs) c c''
  gather_next vs i v c c' c'' is a b = gather_is (take i vs ++ v ∷ []) (take (i + 1) vs) c c'' (sym (take_more vs i v is)) (gather_on (take i vs) (v ∷ []) c c' c'' a b)

  -- those of one place more
  pub gather_flat : (f : ℕ → List Value) (xs : List ℕ) (i x : ℕ) (c c' c'' : State) → slice_get xs i ≡ Some x → Gathers live (flat_map f (take i xs)) c c' → Gathers live (f x) c' c'' → Gathers live (flat_map f (take (i + 1) xs)) c c''
  gather_flat f xs i x c c' c'' is a b =
      let last : flat_map f (x ∷ []) ≡ f x = append-nil (f x) in
      let all : flat_map f (take (i + 1) xs) ≡ flat_map f (take i xs) ++ f x = ap (flat_map f) (take_more xs i x is) ∙ (flat_map-append f (take i xs) (x ∷ []) ∙ ap (λ zs. flat_map f (take i xs) ++ zs) last) in
      gather_is (flat_map f (take i xs) ++ f x) (flat_map f (take (i + 1) xs)) c c'' (sym all) (gather_on (flat_map f (take i xs)) (f x) c c' c'' a b)
