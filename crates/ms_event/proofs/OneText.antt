-- Numbers, and so events, are told by their text.
use Rattle.std.proofs.Common.{◌≡◌, ℕ, ◌+◌, List, [], ◌∷◌, ◌++◌, Bool, Some, cond, eqb, ap, refl, sym, arith}
use Rattle.std.specs.Fmt.{decimal}
use Rattle.std.specs.List.{AllByRecursion}
use Rattle.ms_event.specs.declared.event.Event.{Event}
use Rattle.ms_event.specs.declared.event.Event.TheVariants.{Alloc, Free, Read, Refused, Seal, Slice, Write}
use Rattle.ms_event.specs.Text.{IsId, IsInRange, IsWord, ending, numbers, text}
use Rattle.ms_event.proofs.Digits.{reads_whole}
use Rattle.ms_event.proofs.Endings.{ended_so}
use Rattle.ms_event.proofs.Numbers.{numbers_stop}

same_numbers : (ms ns : List ℕ) → AllByRecursion IsId ms → AllByRecursion IsId ns → numbers ms ≡ numbers ns → ms ≡ ns
same_numbers [] [] small fits e = refl
same_numbers [] (n ∷ ns) small fits e = absurd cc
same_numbers (m ∷ ms) [] small fits e = absurd cc
same_numbers (m ∷ ms) (n ∷ ns) small fits e =
    let behind : decimal n ++ numbers ns ≡ decimal m ++ numbers ms = cc in
    let read = (reads_whole n (decimal n ++ numbers ns) (numbers ns) fits.0 refl (numbers_stop ns)).only m (numbers ms) small.0 (numbers_stop ms) behind in
    let first_same : Some n ≡ Some m = read.0 in
    let rest_same : ms ≡ ns = same_numbers ms ns small.1 fits.1 (sym read.1) in
    cc

same_ended : (ms ns : List ℕ) (b c : Bool) → AllByRecursion IsId ms → AllByRecursion IsId ns → numbers ms ++ ending b ≡ numbers ns ++ ending c → (ms ≡ ns) × (b ≡ c)
same_ended ms ns b c small fits e =
    let told = ended_so ms ns b c small fits e in
    (same_numbers ms ns small fits told.0, told.1)

-- what is told of a word by its first and third letter
key : List ℕ → ℕ
key (a ∷ b ∷ c ∷ cs) = a + c
key cs = 0

-- from the first space on
behind_word : List ℕ → List ℕ
behind_word [] = []
behind_word (c ∷ cs) = cond (eqb c 32) (c ∷ cs) (behind_word cs)

wider : {n : ℕ} → IsWord n → IsId n
wider {n} small = omega arith

pub one_text : (d e : Event) → IsInRange d → IsInRange e → text d ≡ text e → d ≡ e
unfolding key behind_word
one_text (Alloc id addr size) (Alloc id' addr' size') x y h = let same : id ∷ addr ∷ size ∷ [] ≡ id' ∷ addr' ∷ size' ∷ [] = same_numbers _ _ (x.0, (wider x.1, (wider x.2, tt))) (y.0, (wider y.1, (wider y.2, tt))) (ap behind_word h) in cc
one_text (Alloc id addr size) (Refused size') x y h = absurd (omega (arith, ap key h))
one_text (Alloc id addr size) (Seal id' lo' hi') x y h = absurd (omega (arith, ap key h))
one_text (Alloc id addr size) (Slice sealed' id' lo' hi' lo2' hi2') x y h = absurd (omega (arith, ap key h))
one_text (Alloc id addr size) (Read sealed' id' lo' hi' addr' width') x y h = absurd (omega (arith, ap key h))
one_text (Alloc id addr size) (Write id' lo' hi' addr' width') x y h = absurd (omega (arith, ap key h))
one_text (Alloc id addr size) (Free id') x y h = absurd (omega (arith, ap key h))
one_text (Refused size) (Alloc id' addr' size') x y h = absurd (omega (arith, ap key h))
one_text (Refused size) (Refused size') x y h = let same : size ∷ [] ≡ size' ∷ [] = same_numbers _ _ (wider x, tt) (wider y, tt) (ap behind_word h) in cc
one_text (Refused size) (Seal id' lo' hi') x y h = absurd (omega (arith, ap key h))
one_text (Refused size) (Slice sealed' id' lo' hi' lo2' hi2') x y h = absurd (omega (arith, ap key h))
one_text (Refused size) (Read sealed' id' lo' hi' addr' width') x y h = absurd (omega (arith, ap key h))
one_text (Refused size) (Write id' lo' hi' addr' width') x y h = absurd (omega (arith, ap key h))
one_text (Refused size) (Free id') x y h = absurd (omega (arith, ap key h))
one_text (Seal id lo hi) (Alloc id' addr' size') x y h = absurd (omega (arith, ap key h))
one_text (Seal id lo hi) (Refused size') x y h = absurd (omega (arith, ap key h))
one_text (Seal id lo hi) (Seal id' lo' hi') x y h = let same : id ∷ lo ∷ hi ∷ [] ≡ id' ∷ lo' ∷ hi' ∷ [] = same_numbers _ _ (x.0, (wider x.1, (wider x.2, tt))) (y.0, (wider y.1, (wider y.2, tt))) (ap behind_word h) in cc
one_text (Seal id lo hi) (Slice sealed' id' lo' hi' lo2' hi2') x y h = absurd (omega (arith, ap key h))
one_text (Seal id lo hi) (Read sealed' id' lo' hi' addr' width') x y h = absurd (omega (arith, ap key h))
one_text (Seal id lo hi) (Write id' lo' hi' addr' width') x y h = absurd (omega (arith, ap key h))
one_text (Seal id lo hi) (Free id') x y h = absurd (omega (arith, ap key h))
one_text (Slice sealed id lo hi lo2 hi2) (Alloc id' addr' size') x y h = absurd (omega (arith, ap key h))
one_text (Slice sealed id lo hi lo2 hi2) (Refused size') x y h = absurd (omega (arith, ap key h))
one_text (Slice sealed id lo hi lo2 hi2) (Seal id' lo' hi') x y h = absurd (omega (arith, ap key h))
one_text (Slice sealed id lo hi lo2 hi2) (Slice sealed' id' lo' hi' lo2' hi2') x y h = let same : (id ∷ lo ∷ hi ∷ lo2 ∷ hi2 ∷ [] ≡ id' ∷ lo' ∷ hi' ∷ lo2' ∷ hi2' ∷ []) × (sealed ≡ sealed') = same_ended _ _ _ _ (x.0, (wider x.1, (wider x.2, (wider x.3, (wider x.4, tt))))) (y.0, (wider y.1, (wider y.2, (wider y.3, (wider y.4, tt))))) (ap behind_word h) in let numbers_same = same.0 in let sorts_same = same.1 in cc
one_text (Slice sealed id lo hi lo2 hi2) (Read sealed' id' lo' hi' addr' width') x y h = absurd (omega (arith, ap key h))
one_text (Slice sealed id lo hi lo2 hi2) (Write id' lo' hi' addr' width') x y h = absurd (omega (arith, ap key h))
one_text (Slice sealed id lo hi lo2 hi2) (Free id') x y h = absurd (omega (arith, ap key h))
one_text (Read sealed id lo hi addr width) (Alloc id' addr' size') x y h = absurd (omega (arith, ap key h))
one_text (Read sealed id lo hi addr width) (Refused size') x y h = absurd (omega (arith, ap key h))
one_text (Read sealed id lo hi addr width) (Seal id' lo' hi') x y h = absurd (omega (arith, ap key h))
one_text (Read sealed id lo hi addr width) (Slice sealed' id' lo' hi' lo2' hi2') x y h = absurd (omega (arith, ap key h))
one_text (Read sealed id lo hi addr width) (Read sealed' id' lo' hi' addr' width') x y h = let same : (id ∷ lo ∷ hi ∷ addr ∷ width ∷ [] ≡ id' ∷ lo' ∷ hi' ∷ addr' ∷ width' ∷ []) × (sealed ≡ sealed') = same_ended _ _ _ _ (x.0, (wider x.1, (wider x.2, (wider x.3, (wider x.4, tt))))) (y.0, (wider y.1, (wider y.2, (wider y.3, (wider y.4, tt))))) (ap behind_word h) in let numbers_same = same.0 in let sorts_same = same.1 in cc
one_text (Read sealed id lo hi addr width) (Write id' lo' hi' addr' width') x y h = absurd (omega (arith, ap key h))
one_text (Read sealed id lo hi addr width) (Free id') x y h = absurd (omega (arith, ap key h))
one_text (Write id lo hi addr width) (Alloc id' addr' size') x y h = absurd (omega (arith, ap key h))
one_text (Write id lo hi addr width) (Refused size') x y h = absurd (omega (arith, ap key h))
one_text (Write id lo hi addr width) (Seal id' lo' hi') x y h = absurd (omega (arith, ap key h))
one_text (Write id lo hi addr width) (Slice sealed' id' lo' hi' lo2' hi2') x y h = absurd (omega (arith, ap key h))
one_text (Write id lo hi addr width) (Read sealed' id' lo' hi' addr' width') x y h = absurd (omega (arith, ap key h))
one_text (Write id lo hi addr width) (Write id' lo' hi' addr' width') x y h = let same : id ∷ lo ∷ hi ∷ addr ∷ width ∷ [] ≡ id' ∷ lo' ∷ hi' ∷ addr' ∷ width' ∷ [] = same_numbers _ _ (x.0, (wider x.1, (wider x.2, (wider x.3, (wider x.4, tt))))) (y.0, (wider y.1, (wider y.2, (wider y.3, (wider y.4, tt))))) (ap behind_word h) in cc
one_text (Write id lo hi addr width) (Free id') x y h = absurd (omega (arith, ap key h))
one_text (Free id) (Alloc id' addr' size') x y h = absurd (omega (arith, ap key h))
one_text (Free id) (Refused size') x y h = absurd (omega (arith, ap key h))
one_text (Free id) (Seal id' lo' hi') x y h = absurd (omega (arith, ap key h))
one_text (Free id) (Slice sealed' id' lo' hi' lo2' hi2') x y h = absurd (omega (arith, ap key h))
one_text (Free id) (Read sealed' id' lo' hi' addr' width') x y h = absurd (omega (arith, ap key h))
one_text (Free id) (Write id' lo' hi' addr' width') x y h = absurd (omega (arith, ap key h))
one_text (Free id) (Free id') x y h = let same : id ∷ [] ≡ id' ∷ [] = same_numbers _ _ (x, tt) (y, tt) (ap behind_word h) in cc
