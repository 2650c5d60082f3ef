-- A text or a key among those that have a number: one more is kept where it has none.
use Rattle.std.proofs.Common.{◌≡◌, ℕ, Bool, true, false, cond, List, Option, Some, None, is_some, refl, sym, subst, ◌∙◌, if◌then◌else◌}
use Rattle.std.specs.Cmp.Lexicographic.{slice_cmp}
use Rattle.std.specs.Ordering.{is_eq, nat_cmp}
use Rattle.std.proofs.lemmas.Map.Text.{is_eq-slice_cmp}
use Rattle.std.proofs.lemmas.Slice.Eq.{bytes_eq-Decides}
use Rattle.ms_text_names.specs.refinement.Spaces.{first_or, numbered}

same : (bs q : List ℕ) → is_eq (slice_cmp nat_cmp bs q) ≡ true → bs ≡ q
same bs q e = (bytes_eq-Decides bs q).0 (sym (is_eq-slice_cmp bs q) ∙ e)

or_none : (o : Option ℕ) → o ≡ first_or o None
or_none (Some n) = refl
or_none None = refl

-- nothing changes where it has a number
pub kept : (f : List ℕ → Option ℕ) (bs q : List ℕ) (k : ℕ) → is_some (f bs) ≡ true → f q ≡ first_or (f q) (numbered bs q k)
kept f bs q k h = go (is_eq (slice_cmp nat_cmp bs q)) refl where
  there : (o : Option ℕ) → is_some o ≡ true → o ≡ first_or o (Some k)
  there (Some n) e = refl
  there None e = absurd cc

  go : (b : Bool) → is_eq (slice_cmp nat_cmp bs q) ≡ b → f q ≡ first_or (f q) (if b then Some k else None)
  go true e = there (f q) (subst (λ (l : List ℕ). is_some (f l) ≡ true) (same bs q e) h)
  go false e = or_none (f q)

-- it gets one where it has none
pub put : (f : List ℕ → Option ℕ) (bs q : List ℕ) (k : ℕ) → f bs ≡ None → cond (is_eq (slice_cmp nat_cmp bs q)) (Some k) (f q) ≡ first_or (f q) (numbered bs q k)
put f bs q k h = go (is_eq (slice_cmp nat_cmp bs q)) refl where
  empty : (o : Option ℕ) → o ≡ None → Some k ≡ first_or o (Some k)
  empty o e = rw e refl

  go : (b : Bool) → is_eq (slice_cmp nat_cmp bs q) ≡ b → cond b (Some k) (f q) ≡ first_or (f q) (if b then Some k else None)
  go true e = empty (f q) (subst (λ (l : List ℕ). f l ≡ None) (same bs q e) h)
  go false e = or_none (f q)

pub is_none : (o : Option ℕ) → is_some o ≡ false → o ≡ None
is_none None e = refl
is_none (Some n) e = absurd cc
