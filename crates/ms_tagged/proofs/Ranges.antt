-- Ranges of bytes, and what a write leaves of them.
use Rattle.std.proofs.Common.{◌≡◌, ℕ, ◌+◌, ◌-◌, ◌≤◌, ◌⊎◌, ⊎_elim, List, ◌++◌, length, take, drop, ap, sym, ◌∙◌, append_assoc, arith, length-append, length-drop, length-take}
use Rattle.std.proofs.lemmas.List.{take-take, take_at, drop_at, take-append-le, drop-append-le, drop-drop, drop-take, length-take-le}
use Rattle.ms_tagged.specs.Bytes.{Byte, range, overwritten}

pub length-range : (address width : ℕ) (bytes : List Byte) → address + width ≤ length bytes → length (range address width bytes) ≡ width
length-range address width bytes within =
    rw (length-take width (drop address bytes), length-drop address bytes) (omega arith)

-- a write within the bytes keeps their number
pub length-overwritten : (address : ℕ) (new old : List Byte) → address + length new ≤ length old → length (overwritten address new old) ≡ length old
length-overwritten address new old within =
    rw (length-append (take address old ++ new) (drop (address + length new) old), length-append (take address old) new, length-take address old, length-drop (address + length new) old) (omega arith)

-- the same of bytes that are known to be what a write left
pub length-written : (address : ℕ) (new old now : List Byte) → now ≡ overwritten address new old → address + length new ≤ length old → length now ≡ length old
length-written address new old now is within = ap length is ∙ length-overwritten address new old within

-- the bytes from the place of a write on
drop-overwritten : (address : ℕ) (new old : List Byte) → address ≤ length old → drop address (overwritten address new old) ≡ new ++ drop (address + length new) old
drop-overwritten address new old within =
    ap (drop address) (append_assoc (take address old) new (drop (address + length new) old)) ∙ drop_at (take address old) (new ++ drop (address + length new) old) address (length-take-le address old within)

-- the bytes that were written
pub range-overwritten_same : (address width : ℕ) (new old : List Byte) → width ≡ length new → address + width ≤ length old → range address width (overwritten address new old) ≡ new
range-overwritten_same address width new old is within =
    ap (take width) (drop-overwritten address new old (omega arith)) ∙ take_at new (drop (address + length new) old) width (sym is)

-- some of the bytes that were written
pub range-overwritten_inside : (at width address : ℕ) (new old : List Byte) → address ≤ at → at + width ≤ address + length new → address ≤ length old → range at width (overwritten address new old) ≡ range (at - address) width new
range-overwritten_inside at width address new old from to within =
    let place : address + (at - address) ≡ at = omega arith in
    let room : width ≤ length (drop (at - address) new) = rw (length-drop (at - address) new) (omega arith) in
    let rest : drop at (overwritten address new old) ≡ drop (at - address) new ++ drop (address + length new) old =
    ap (λ n. drop n (overwritten address new old)) (sym place) ∙ (sym (drop-drop (at - address) address (overwritten address new old)) ∙ (ap (drop (at - address)) (drop-overwritten address new old within) ∙ drop-append-le (at - address) new (drop (address + length new) old) (omega arith))) in
    ap (take width) rest ∙ take-append-le width (drop (at - address) new) (drop (address + length new) old) room

-- bytes below those that were written
pub range-overwritten_below : (at width address : ℕ) (new old : List Byte) → at + width ≤ address → address ≤ length old → range at width (overwritten address new old) ≡ range at width old
range-overwritten_below at width address new old below within =
    let front : at + width ≤ length (take address old) = rw (length-take-le address old within) below in
    let same : take (at + width) (overwritten address new old) ≡ take (at + width) old =
    ap (take (at + width)) (append_assoc (take address old) new (drop (address + length new) old)) ∙ (take-append-le (at + width) (take address old) (new ++ drop (address + length new) old) front ∙ take-take (at + width) address old below) in
    sym (drop-take at width (overwritten address new old)) ∙ (ap (drop at) same ∙ drop-take at width old)

-- bytes above those that were written
pub range-overwritten_above : (at width address : ℕ) (new old : List Byte) → address + length new ≤ at → address ≤ length old → range at width (overwritten address new old) ≡ range at width old
range-overwritten_above at width address new old above within =
    let front : length (take address old ++ new) ≡ address + length new = length-append (take address old) new ∙ ap (λ n. n + length new) (length-take-le address old within) in
    let place : address + length new + (at - (address + length new)) ≡ at = omega arith in
    let behind : drop (address + length new) (overwritten address new old) ≡ drop (address + length new) old = drop_at (take address old ++ new) (drop (address + length new) old) (address + length new) front in
    let same : drop at (overwritten address new old) ≡ drop at old =
    ap (λ n. drop n (overwritten address new old)) (sym place) ∙ (sym (drop-drop (at - (address + length new)) (address + length new) (overwritten address new old)) ∙ (ap (drop (at - (address + length new))) behind ∙ (drop-drop (at - (address + length new)) (address + length new) old ∙ ap (λ n. drop n old) place))) in
    ap (take width) same

-- a range apart from the bytes that were written
pub range-overwritten_apart : (at width address : ℕ) (new old : List Byte) → (at + width ≤ address) ⊎ (address + length new ≤ at) → address ≤ length old → range at width (overwritten address new old) ≡ range at width old
range-overwritten_apart at width address new old apart within =
    ⊎_elim (λ below. range-overwritten_below at width address new old below within) (λ above. range-overwritten_above at width address new old above within) apart
