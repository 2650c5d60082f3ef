-- A trace is read line by line.
use Rattle.std.proofs.Common.{◌≡◌, ℕ, suc, ◌+◌, List, [], ◌∷◌, ◌++◌, length, subst, sym, append_assoc, arith}
use Rattle.std.proofs.lemmas.List.{append-nil, length-append}
use Rattle.ms_event.specs.declared.event.Event.{Event}
use Rattle.ms_monitor.specs.Traces.{AreOf, FirstMalformed, IsNoTrace, IsOf, IsTrace, later, lines_of, no_line, one_line, malformed}

-- what was told so far and what is told by the text that is left are what the whole text tells
pub record GoesOn (text : List ℕ) (events : List Event) (left : List ℕ) : Type 0 where
  pub trace : (es : List Event) → IsTrace left es → IsTrace text (events ++ es)
  pub malformed_at : (n : ℕ) → FirstMalformed (length events + 1) (lines_of left) n → IsNoTrace text n

pub begins : (text : List ℕ) → GoesOn text [] text
begins text = record { trace = λ es h. h; malformed_at = λ n h. h }

module _ (text : List ℕ) (events : List Event) (left line rest : List ℕ) (split : lines_of left ≡ line ∷ lines_of rest) (so_far : GoesOn text events left) where
  pub one_more : (e : Event) → IsOf line e → GoesOn text (events ++ e ∷ []) rest
  one_more e is = record {
    trace = λ es h.
        let trace : AreOf (lines_of left) (e ∷ es) = subst (λ lines. AreOf lines (e ∷ es)) (sym split) (one_line line e is h) in
        subst (IsTrace text) (sym (append_assoc events (e ∷ []) es)) (so_far.trace (e ∷ es) trace);
    malformed_at = λ n h.
        let k : length (events ++ e ∷ []) + 1 ≡ suc (length events + 1) = omega (arith, length-append events (e ∷ [])) in
        let here = later (length events + 1) line e (lines_of rest) n is (subst (λ k. FirstMalformed k (lines_of rest) n) k h) in
        so_far.malformed_at n (subst (λ lines. FirstMalformed (length events + 1) lines n) (sym split) here);
  }

  pub breaks : ((e : Event) → ¬ (IsOf line e)) → IsNoTrace text (length events + 1)
  breaks none = so_far.malformed_at (length events + 1) (subst (λ lines. FirstMalformed (length events + 1) lines (length events + 1)) (sym split) (malformed (length events + 1) line (lines_of rest) none))

pub ends : (text : List ℕ) (events : List Event) (left : List ℕ) → length left ≡ 0 → GoesOn text events left → IsTrace text events
ends text events [] none so_far = subst (IsTrace text) (append-nil events) (so_far.trace [] no_line)
ends text events (b ∷ bs) none so_far = absurd (omega (arith, none))
