-- Laws of items whose size stands before them.
use Rattle.std.specs.Prelude.{◌≡◌, ℕ, ◌+◌, ◌-◌, ◌≤◌, false, List, [], ◌++◌, length, take, drop, Ok, Err, refl}
use Rattle.std.proofs.Common.{cond, eqb, ltb, inl, inr, subst, arith}
use Rattle.std.proofs.lemmas.Bool.{eqb-true, ltb-false, le-ltb}
use Rattle.std.proofs.lemmas.List.{take_at, drop_at, take-append-drop, length-append, length-take, nil_from_length}
use Rattle.ms_bytes.specs.Spot.{Spot, part}
use Rattle.ms_bytes.specs.Reading.{◌>>=◌}
use Rattle.ms_bytes.specs.ResultLaws.{bind_ok, chosen, ok_is}
use Rattle.ms_bytes.specs.TextLaws.{append_fits}
use Rattle.ms_leb.specs.Leb128.{UnsignedAt}
use Rattle.ms_bin_grammar.specs.declared.fault.ReadFault.{ReadFault}
use Rattle.ms_bin_grammar.specs.Faults.{Binary, malformed}
use Rattle.ms_bin_grammar.specs.Numbers.{number}
use Rattle.ms_bin_grammar.specs.Inside.{IsSized, bounded_at, end_at, sized_at}

bounded_takes : (end : ℕ) (s : List ℕ) (inside : Spot) (t : List ℕ) → bounded_at end s ≡ Ok (inside, t) → UnsignedAt 32 s (length inside.left) (inside.left ++ t)
unfolding bounded_at
bounded_takes end s inside t e =
    let n = bind_ok (number.read end s) (λ n. cond (ltb (length n.1) n.0) (Err (malformed end s)) (Ok (part n.0 (record { end = end; left = n.1 }), drop n.0 n.1))) (inside, t) e in
    let count = n.0.0 in
    let left = n.0.1 in
    elim (chosen (ltb (length left) count) _ _ _ n.2) [
      | inl h ↦ absurd cc
      | inr h ↦
          let room : count ≤ length left = ltb-false _ _ h.0 in
          let len : length (take count left) ≡ count = omega (arith, length-take count left) in
          let size : UnsignedAt 32 s (length (take count left)) (take count left ++ drop count left) = rw (len, take-append-drop count left) (number.takes end s count left n.1) in
          subst (λ (p : Spot × List ℕ). UnsignedAt 32 s (length p.0.left) (p.0.left ++ p.1)) (ok_is {F = ReadFault} (part count (record { end = end; left = left }), drop count left) (inside, t) h.1) size
    ]

bounded_again : (end : ℕ) (s text t : List ℕ) → UnsignedAt 32 s (length text) (text ++ t) → bounded_at end s ≡ Ok (record { end = end - length t; left = text }, t)
unfolding bounded_at
bounded_again end s text t h =
    let room : ltb (length (text ++ t)) (length text) ≡ false = le-ltb _ _ (omega (arith, length-append text t)) in
    rw (number.again end s (length text) (text ++ t) h, room, take_at text t (length text) refl, drop_at text t (length text) refl) refl

module _ {A : Type 0} (f : Binary A) where
  pub sized_takes : (end : ℕ) (s : List ℕ) (x : A) (t : List ℕ) → sized_at f.read end s ≡ Ok (x, t) → IsSized f.spelled s x t
  unfolding sized_at
  sized_takes end s x t e =
      let b = bind_ok (bounded_at end s) (λ b. f.read b.0.end b.0.left >>= λ y. end_at b.0.end y.1 >>= λ d. Ok (y.0, b.1)) (x, t) e in
      let y = bind_ok (f.read b.0.0.end b.0.0.left) (λ y. end_at b.0.0.end y.1 >>= λ d. Ok (y.0, b.0.1)) (x, t) b.2 in
      let d = bind_ok (end_at b.0.0.end y.0.1) (λ d. Ok (y.0.0, b.0.1)) (x, t) y.2 in
      elim (chosen (eqb (length y.0.1) 0) _ _ _ d.1) [
        | inl h ↦
            let nothing : y.0.1 ≡ [] = nil_from_length y.0.1 (eqb-true _ _ h.0) in
            let whole = subst (λ (r : List ℕ). f.spelled b.0.0.left y.0.0 r) nothing (f.takes b.0.0.end b.0.0.left y.0.0 y.0.1 y.1) in
            subst (λ (p : A × List ℕ). IsSized f.spelled s p.0 p.1) (ok_is {F = ReadFault} (y.0.0, b.0.1) (x, t) d.2) (b.0.0.left, bounded_takes end s b.0.0 b.0.1 b.1, whole)
        | inr h ↦ absurd cc
      ]

  pub sized_again : (end : ℕ) (s : List ℕ) (x : A) (t : List ℕ) → IsSized f.spelled s x t → sized_at f.read end s ≡ Ok (x, t)
  unfolding sized_at
  sized_again end s x t h = rw (bounded_again end s h.0 t h.1, f.again (end - length t) h.0 x [] h.2) refl

pub sized_fits : {A : Type 0} (R : List ℕ → A → List ℕ → Type 0) (s : List ℕ) (x : A) (t : List ℕ) → IsSized R s x t → length t + 0 ≤ length s
sized_fits R s x t h = let le = append_fits s h.1.0 (h.0 ++ t) h.1.2 in omega (arith, le, length-append h.0 t)
