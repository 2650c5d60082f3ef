-- The text of an event has no LF in it, so that a written trace is read again.
use Rattle.std.proofs.Common.{◌≡◌, ◌==◌, ℕ, ◌≤◌, Bool, true, false, List, [], ◌∷◌, ◌++◌, All, refl, subst, sym, ap, arith, append_assoc, eqb-true}
use Rattle.std.specs.Fmt.{decimal}
use Rattle.std.specs.List.{AllByRecursion}
use Rattle.std.specs.Str.Parse.{AllDigits}
use Rattle.std.proofs.lemmas.Fmt.{decimal_is_IsNumeral}
use Rattle.std.proofs.lemmas.List.Elements.{All-head, All-tail}
use Rattle.std.proofs.lemmas.Str.Parse.{digit_from_value}
use Rattle.ms_event.specs.declared.event.Event.{Event}
use Rattle.ms_event.specs.declared.event.Event.TheVariants.{Alloc, Free, Read, Refused, Seal, Slice, Write}
use Rattle.ms_event.specs.Text.{IsId, IsInRange, IsWord, ending, numbers, text}
use Rattle.ms_monitor.specs.Traces.{AreOf, IsTrace, lengthened, lines_of, no_line, one_line, trace_text}

-- no LF is among these bytes
abbrev IsPlain : List ℕ → Type 0
IsPlain bytes = AllByRecursion (λ b. (b == 10) ≡ false) bytes

ended : (line rest : List ℕ) → IsPlain line → lines_of (line ++ 10 ∷ rest) ≡ line ∷ lines_of rest
ended [] rest plain = refl
ended (b ∷ bs) rest plain = rw plain.0 (ap (lengthened b) (ended bs rest plain.1))

both_plain : (xs ys : List ℕ) → IsPlain xs → IsPlain ys → IsPlain (xs ++ ys)
both_plain [] ys x y = y
both_plain (b ∷ bs) ys x y = (x.0, both_plain bs ys x.1 y)

no_digit : (t : Bool) (b : ℕ) → (b == 10) ≡ t → 48 ≤ b → t ≡ false
no_digit true b e low = absurd (omega (arith, eqb-true b 10 e))
no_digit false b e low = refl

digits_plain : (ds : List ℕ) → AllDigits 10 ds → IsPlain ds
digits_plain [] digits = tt
digits_plain (d ∷ ds) digits = (no_digit (d == 10) d refl (omega (arith, digit_from_value d digits.0)), digits_plain ds digits.1)

numbers_plain : (ns : List ℕ) → AllByRecursion IsId ns → IsPlain (numbers ns)
numbers_plain [] fits = tt
numbers_plain (n ∷ ns) fits = (refl, both_plain (decimal n) (numbers ns) (digits_plain (decimal n) (decimal_is_IsNumeral n fits.0).0.1) (numbers_plain ns fits.1))

ending_plain : (sealed : Bool) → IsPlain (ending sealed)
ending_plain false = tt
ending_plain true = (refl, (refl, (refl, (refl, (refl, (refl, (refl, tt)))))))

wider : {n : ℕ} → IsWord n → IsId n
wider {n} small = omega arith

event_plain : (e : Event) → IsInRange e → IsPlain (text e)
event_plain (Alloc id addr size) x = (refl, (refl, (refl, (refl, (refl, numbers_plain (id ∷ addr ∷ size ∷ []) (x.0, (wider x.1, (wider x.2, tt))))))))
event_plain (Refused size) x = (refl, (refl, (refl, (refl, (refl, (refl, (refl, numbers_plain (size ∷ []) (wider x, tt))))))))
event_plain (Seal id lo hi) x = (refl, (refl, (refl, (refl, numbers_plain (id ∷ lo ∷ hi ∷ []) (x.0, (wider x.1, (wider x.2, tt)))))))
event_plain (Slice sealed id lo hi lo2 hi2) x = (refl, (refl, (refl, (refl, (refl, both_plain (numbers (id ∷ lo ∷ hi ∷ lo2 ∷ hi2 ∷ [])) (ending sealed) (numbers_plain (id ∷ lo ∷ hi ∷ lo2 ∷ hi2 ∷ []) (x.0, (wider x.1, (wider x.2, (wider x.3, (wider x.4, tt)))))) (ending_plain sealed))))))
event_plain (Read sealed id lo hi addr width) x = (refl, (refl, (refl, (refl, both_plain (numbers (id ∷ lo ∷ hi ∷ addr ∷ width ∷ [])) (ending sealed) (numbers_plain (id ∷ lo ∷ hi ∷ addr ∷ width ∷ []) (x.0, (wider x.1, (wider x.2, (wider x.3, (wider x.4, tt)))))) (ending_plain sealed)))))
event_plain (Write id lo hi addr width) x = (refl, (refl, (refl, (refl, (refl, numbers_plain (id ∷ lo ∷ hi ∷ addr ∷ width ∷ []) (x.0, (wider x.1, (wider x.2, (wider x.3, (wider x.4, tt))))))))))
event_plain (Free id) x = (refl, (refl, (refl, (refl, numbers_plain (id ∷ []) (x, tt)))))

pub written_is_read : (events : List Event) → All IsInRange events → IsTrace (trace_text events) events
written_is_read [] fit = no_line
written_is_read (e ∷ es) fit =
    let range = All-head IsInRange e es fit in
    let lines : lines_of (trace_text (e ∷ es)) ≡ text e ∷ lines_of (trace_text es) = rw append_assoc (ended (text e) (trace_text es) (event_plain e range)) in
    subst (λ lines. AreOf lines (e ∷ es)) (sym lines) (one_line (text e) e (range, refl) (written_is_read es (All-tail IsInRange e es fit)))
