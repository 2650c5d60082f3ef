-- Counts of failed reads, by name.
use Rattle.std.proofs.Common.{◌≡◌, ◌≤◌, ℕ, Bool, true, false, cond, List, Option, None, Some, option_map, unwrap_or, Result, Ok, Err, IfOk, inl, refl, sym, ap, ◌∙◌, arith}
use Rattle.std.specs.Prelude.{String, string_bytes}
use Rattle.std.specs.BTreeMap.{is_at}
use Rattle.std.specs.Cmp.{eq_by_cmp_equiv}
use Rattle.std.specs.Cmp.Lexicographic.{slice_cmp, nat_list_cmp_total}
use Rattle.std.specs.FinMap.{get, insert, get-insert, slice_cmp-IsAntisymmetric, nat_cmp-IsAntisymmetric}
use Rattle.std.specs.Map.{lookup}
use Rattle.std.specs.Ordering.{nat_cmp, is_eq}
use Rattle.std.specs.declared.cmp.Ordering.{Ordering}
use Rattle.std.specs.declared.cmp.Ordering.TheVariants.{Less, Equal, Greater}
use Rattle.ms_outside.specs.Faults.{CountsFault}
use Rattle.ms_outside.specs.Files.{Counts, count_of, name_cmp}
use Rattle.ms_outside.specs.refinement.Kept.{counts_of}
use Rattle.ms_outside.specs.Shelf.{CountsReadFault}
use Rattle.ms_outside.proofs.Kept.{get-by_name}

unwrapped : (found : Option ℕ) → unwrap_or (option_map (λ n. n) found) 0 ≡ unwrap_or found 0
unwrapped None = refl
unwrapped (Some n) = refl

-- the count that was found
pub count_of-found : {Y : Type 0} (es : List (String Y × ℕ)) (q : List ℕ) (found : Option ℕ) → found ≡ lookup (is_at (λ k. slice_cmp nat_cmp q (string_bytes k))) es → count_of (counts_of es) q ≡ unwrap_or found 0
count_of-found es q found e = ap (λ o. unwrap_or o 0) (get-by_name (λ n. n) es q ∙ ap (option_map (λ n. n)) (sym e)) ∙ unwrapped found

pushed : (b : Bool) (n : ℕ) (o : Option ℕ) → unwrap_or (cond b (Some n) o) 0 ≡ cond b n (unwrap_or o 0)
pushed true n o = refl
pushed false n o = refl

-- the count at any name, once one name has another count
count_of-insert : (counts : Counts) (name : List ℕ) (n : ℕ) (other : List ℕ) → count_of (insert counts name n) other ≡ cond (is_eq (name_cmp other name)) n (count_of counts other)
count_of-insert counts name n other =
    ap (λ o. unwrap_or o 0) (get-insert nat_list_cmp_total counts name n other) ∙ pushed (is_eq (name_cmp other name)) n (get counts other)

never_fall : (counts : Counts) (name other : List ℕ) (n : ℕ) → count_of counts name ≤ n → (r : Ordering) → name_cmp other name ≡ r → count_of counts other ≤ cond (is_eq r) n (count_of counts other)
never_fall counts name other n h Less e = omega arith
never_fall counts name other n h Equal e = rw (slice_cmp-IsAntisymmetric nat_cmp-IsAntisymmetric other name e) h
never_fall counts name other n h Greater e = omega arith

pub counts-rise : (counts : Counts) (name : List ℕ) (n : ℕ) → CountsFault (count_of counts name) n → CountsReadFault name (count_of counts) (count_of (insert counts name n))
counts-rise counts name n fault =
    record {
      never_fall = λ other. rw (count_of-insert counts name n other) (never_fall counts name other n fault.never_falls (name_cmp other name) refl);
      rose = rw (count_of-insert counts name n name, (eq_by_cmp_equiv nat_list_cmp_total).refl name) fault.rose;
    }

pub counts-begin : {T E : Type 0} (r : Result T E) (old new : Counts) (name : List ℕ) → count_of old name ≡ 0 → IfOk r (λ _. new ≡ insert old name 1) → IfOk r (λ _. CountsReadFault name (count_of old) (count_of new))
counts-begin (Ok x) old new name zero e =
    rw e (counts-rise old name 1 (rw zero (record { never_falls = omega arith; rose = inl (omega arith) })))
counts-begin (Err x) old new name zero e = tt
