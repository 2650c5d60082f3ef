-- A text is the trace of one list of events or of none, and its first line that tells none is one.
use Rattle.std.proofs.Common.{◌≡◌, ◌∙◌, ℕ, suc, List, refl, sym}
use Rattle.ms_event.specs.declared.event.Event.{Event}
use Rattle.ms_event.proofs.OneText.{one_text}
use Rattle.ms_monitor.specs.Traces.{AreOf, FirstMalformed, IsNoTrace, IsOf, IsTrace, later, lines_of, no_line, one_line, malformed}

one_event : (line : List ℕ) (d e : Event) → IsOf line d → IsOf line e → d ≡ e
one_event line d e one other = one_text d e one.0 other.0 (sym one.1 ∙ other.1)

one_list : (lines : List (List ℕ)) (es fs : List Event) → AreOf lines es → AreOf lines fs → es ≡ fs
one_list _ _ _ no_line no_line = refl
one_list _ _ _ (one_line line e {lines} {es} is more) (one_line _ f {es = fs} other others) =
    let heads : e ≡ f = one_event line e f is other in
    let tails : es ≡ fs = one_list lines es fs more others in
    rw (heads, tails) refl

one_line_number : (k : ℕ) (lines : List (List ℕ)) (m n : ℕ) → FirstMalformed k lines m → FirstMalformed k lines n → m ≡ n
one_line_number _ _ _ _ (malformed k line lines none) (malformed _ _ _ _) = refl
one_line_number _ _ _ _ (malformed k line lines none) (later _ _ e _ _ is _) = absurd (none e is)
one_line_number _ _ _ _ (later k line e lines n is more) (malformed _ _ _ none) = absurd (none e is)
one_line_number _ _ _ _ (later k line e lines m is more) (later _ _ _ _ n _ others) = one_line_number (suc k) lines m n more others

not_both : (k : ℕ) (lines : List (List ℕ)) (es : List Event) (n : ℕ) → AreOf lines es → FirstMalformed k lines n → ⊥
not_both k _ _ n no_line none = elim none [ ]
not_both _ _ _ _ (one_line line e is more) (malformed _ _ _ none) = none e is
not_both _ _ _ _ (one_line line e {lines} {es} is more) (later k _ _ _ n _ others) = not_both (suc k) lines es n more others

pub one_trace : (text : List ℕ) (es fs : List Event) → IsTrace text es → IsTrace text fs → es ≡ fs
one_trace text es fs one other = one_list (lines_of text) es fs one other

pub one_malformed : (text : List ℕ) (m n : ℕ) → IsNoTrace text m → IsNoTrace text n → m ≡ n
one_malformed text m n one other = one_line_number 1 (lines_of text) m n one other

pub trace_or_none : (text : List ℕ) (es : List Event) (n : ℕ) → IsTrace text es → IsNoTrace text n → ⊥
trace_or_none text es n trace none = not_both 1 (lines_of text) es n trace none
