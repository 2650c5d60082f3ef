-- The elements of a string, the bytes that stand for themselves a run at a time.
use Rattle.std.proofs.Common.{◌≡◌, ◌==◌, ℕ, zero, suc, ◌≤◌, ◌<◌, ◌||◌, not, Bool, true, false, List, [], ◌∷◌, ◌++◌, append_assoc, length, take, drop, nat_lt, ◌+◌, ◌*◌, Option, Some, None, Result, Ok, Err, refl, sym, ap, ◌∙◌, arith, if◌then◌else◌}
use Rattle.std.proofs.lemmas.Bool.Decides.{nat_tests}
use Rattle.std.proofs.lemmas.List.{append-nil}
use Rattle.ms_bytes.specs.Reading.{◌>>=◌}
use Rattle.ms_bytes.specs.Runs.{run_at}
use Rattle.ms_bytes.specs.Spot.{Spot, over}
use Rattle.ms_bytes.specs.Texts.{run_len}
use Rattle.ms_bytes.specs.Items.{taken}
use Rattle.ms_bytes.specs.Parts.{either, pure}
use Rattle.ms_bytes.specs.ResultLaws.{not_refused}
use Rattle.ms_text_lex.specs.declared.strings.Escape.{Escape}
use Rattle.ms_text_lex.specs.declared.strings.Escape.TheVariants.{High}
use Rattle.ms_text_lex.specs.declared.strings.Piece.{Piece}
use Rattle.ms_text_lex.specs.Classes.{hex}
use Rattle.ms_text_lex.specs.declared.strings.Piece.TheVariants.{Byte}
use Rattle.ms_text_lex.specs.Fault.{Fault, broken}
use Rattle.ms_text_lex.specs.Readers.{FailsBy}
use Rattle.ms_text_lex.specs.Values.{bytes_of}
use Rattle.ms_text_lex.specs.Strings.{after_bytes, behind_escape, behind_first, escape, escape_of, hex_escape, high_of, is_plain, no_quote, paired, piece, piece_step, string_goes}

-- ---- a byte that stands for itself

none_of : (a b c d : Bool) → not (a || b || c || d) ≡ true → (a ≡ false) × (b ≡ false) × (c ≡ false) × (d ≡ false)
none_of false false false false e = (refl, refl, refl, refl)
none_of false false false true e = absurd cc
none_of false false true d e = absurd cc
none_of false true c d e = absurd cc
none_of true b c d e = absurd cc

plain_goes : (b : ℕ) (s : List ℕ) → is_plain b ≡ true → no_quote (b ∷ s) ≡ true
plain_goes b s e = let h = none_of (nat_lt b 32) (b == 34) (b == 92) (b == 127) e in rw h.1 refl

itself : (t : Bool) (end b : ℕ) (s : List ℕ) → t ≡ false → (either t escape (pure (Byte b))).read end s ≡ Ok (Byte b, s)
itself true end b s e = absurd cc
itself false end b s e = refl

taken_plain : (t u : Bool) (b : ℕ) → t ≡ false → u ≡ false → (if t || u then None else Some b) ≡ Some b
taken_plain true u b e f = absurd cc
taken_plain false true b e f = absurd cc
taken_plain false false b e f = refl

plain_read : (end b : ℕ) (s : List ℕ) → is_plain b ≡ true → piece.read end (b ∷ s) ≡ Ok (Byte b, s)
unfolding piece behind_first
plain_read end b s e =
    let h = none_of (nat_lt b 32) (b == 34) (b == 92) (b == 127) e in
    ap (λ (o : Option ℕ). taken (broken end (b ∷ s)) s o >>= λ x. (behind_first x.0).read end x.1) (taken_plain (nat_lt b 32) (b == 127) b h.0 h.3)
    ∙ itself (b == 92) end b s h.2

-- ---- an escape of two digits

differs : (a k h : ℕ) → hex a ≡ Some h → hex k ≡ None → (a == k) ≡ false
differs a k h e n = by (a == k) refl
  where
    by : (t : Bool) → (a == k) ≡ t → (a == k) ≡ false
    by false q = q
    by true q = let same : a ≡ k = grind (arith, nat_tests) in let wrong : Some h ≡ None = sym e ∙ ap hex same ∙ n in absurd cc

is_high : (a h : ℕ) → hex a ≡ Some h → escape_of a ≡ Some (High h)
is_high a h e =
    rw (differs a 116 h e refl, differs a 110 h e refl, differs a 114 h e refl, differs a 34 h e refl, differs a 39 h e refl, differs a 92 h e refl, differs a 117 h e refl) (ap high_of e)

pair_read : (end a b h l : ℕ) (s : List ℕ) → hex a ≡ Some h → hex b ≡ Some l → piece.read end (92 ∷ a ∷ b ∷ s) ≡ Ok (Byte (h * 16 + l), s)
unfolding piece behind_first escape behind_escape
pair_read end a b h l s e f =
    ap (λ (o : Option Escape). taken (broken end (a ∷ b ∷ s)) (b ∷ s) o >>= λ x. (behind_escape x.0).read end x.1) (is_high a h e)
    ∙ ap (λ (o : Option ℕ). taken (broken end (b ∷ s)) s o >>= λ x. (pure (Byte (h * 16 + x.0))).read end x.1) f

by_pair : (t : Bool) (h l : Option ℕ) (byte : ℕ) → (if t then paired h l else None) ≡ Some byte → (t ≡ true) × (x : ℕ) × (y : ℕ) × (h ≡ Some x) × (l ≡ Some y) × (x * 16 + y ≡ byte)
by_pair true (Some x) (Some y) byte e = let same : x * 16 + y ≡ byte = cc in (refl, x, y, refl, refl, same)
by_pair true (Some x) None byte e = absurd cc
by_pair true None l byte e = absurd cc
by_pair false h l byte e = absurd cc

pub escape_read : (end : ℕ) (s : List ℕ) (byte : ℕ) → hex_escape s ≡ Some byte → piece.read end s ≡ Ok (Byte byte, drop 3 s)
escape_read end [] byte e = absurd cc
escape_read end (a ∷ []) byte e = absurd cc
escape_read end (a ∷ b ∷ []) byte e = absurd cc
escape_read end (a ∷ b ∷ c ∷ s) byte e =
    let p = by_pair (a == 92) (hex b) (hex c) byte e in
    let first : a ≡ 92 = let q = p.0 in grind (arith, nat_tests) in
    ap (λ n. piece.read end (n ∷ b ∷ c ∷ s)) first ∙ pair_read end b c p.1 p.2 s p.3 p.4 ∙ ap (λ n. Ok (Byte n, s)) p.5

pub escape_fits : (s : List ℕ) (byte : ℕ) → hex_escape s ≡ Some byte → 3 ≤ length s
escape_fits [] byte e = absurd cc
escape_fits (a ∷ []) byte e = absurd cc
escape_fits (a ∷ b ∷ []) byte e = absurd cc
escape_fits (a ∷ b ∷ c ∷ s) byte e = omega arith

-- ---- all elements from a state on

if_alike : {A : Type 0} (b : Bool) (x y z : A) → x ≡ y → (if b then x else z) ≡ (if b then y else z)
if_alike true x y z e = e
if_alike false x y z e = refl

bind_alike : {A B : Type 0} (r : Result A Fault) (f g : A → Result B Fault) → ((x : A) → r ≡ Ok x → f x ≡ g x) → (r >>= f) ≡ (r >>= g)
bind_alike (Ok x) f g h = h x refl
bind_alike (Err e) f g h = refl

piece_shorter : (end : ℕ) (s : List ℕ) (p : Piece) (t : List ℕ) → piece.read end s ≡ Ok (p, t) → length t < length s
unfolding piece
piece_shorter end s p t e = let le = piece.fits s p t (piece.takes end s p t e) in omega arith

length_drop_most : (n : ℕ) (s : List ℕ) → length (drop n s) ≤ length s
length_drop_most zero s = omega arith
length_drop_most (suc n) [] = omega arith
length_drop_most (suc n) (b ∷ s) = let le = length_drop_most n s in omega arith

module _ {S : Type 0} (after : S → Piece → S) (end : ℕ) where
  abbrev pub steps : ℕ → S → List ℕ → Result (S × List ℕ) Fault
  steps n st s = run_at broken string_goes (piece_step after) n st end s

  abbrev pub all : S → List ℕ → Result (S × List ℕ) Fault
  all st s = steps (length s) st s

  shorter : (st : S) (s : List ℕ) (x : S × List ℕ) → (piece_step after st).read end s ≡ Ok x → length x.1 < length s
  unfolding piece_step piece
  shorter st s x e =
      let le = (piece_step after st).fits s x.0 x.1 ((piece_step after st).takes end s x.0 x.1 e) in
      omega arith

  enough : (n m : ℕ) (st : S) (s : List ℕ) → length s ≤ n → length s ≤ m → steps n st s ≡ steps m st s
  unfolding run_at piece_step piece
  enough zero zero st s a b = refl
  enough zero (suc m) st [] a b = refl
  enough zero (suc m) st (c ∷ s) a b = absurd (omega arith)
  enough (suc n) zero st [] a b = refl
  enough (suc n) zero st (c ∷ s) a b = absurd (omega arith)
  enough (suc n) (suc m) st s a b =
      if_alike (no_quote s) _ _ _
      (bind_alike ((piece_step after st).read end s) (λ x. steps n x.0 x.1) (λ x. steps m x.0 x.1) (λ x e. let lt = shorter st s x e in enough n m x.0 x.1 (omega arith) (omega arith)))

  pub all_end : (st : S) (s : List ℕ) → no_quote s ≡ false → all st s ≡ Ok (st, s)
  unfolding run_at
  all_end st [] g = absurd cc
  all_end st (b ∷ s) g = rw g refl

  pub all_on : (st : S) (s : List ℕ) (p : Piece) (t : List ℕ) → no_quote s ≡ true → piece.read end s ≡ Ok (p, t) → all st s ≡ all (after st p) t
  unfolding run_at piece_step piece
  all_on st [] p t g e = absurd (not_refused {A = Piece × List ℕ} (broken end []) (p, t) e)
  all_on st (b ∷ s) p t g e =
      let lt = shorter st (b ∷ s) (after st p, t) (rw e refl) in
      rw (g, e) (enough (length s) (length t) (after st p) t (omega arith) (omega arith))

  pub all_fails : (st : S) (s : List ℕ) (f : Fault) → no_quote s ≡ true → piece.read end s ≡ Err f → all st s ≡ Err f
  unfolding run_at piece_step piece
  all_fails st [] f g e = ap (λ (r : Result (Piece × List ℕ) Fault). r >>= λ x. steps 0 (after st x.0) x.1) e
  all_fails st (b ∷ s) f g e = rw (g, e) refl

  plain_by : (b : ℕ) (s : List ℕ) (st : S) (t : Bool) → is_plain b ≡ t
      → all (after st (Byte b)) s ≡ all (after_bytes after (after st (Byte b)) (take (run_len is_plain s) s)) (drop (run_len is_plain s) s)
      → all st (b ∷ s) ≡ all (after_bytes after st (take (run_len is_plain (b ∷ s)) (b ∷ s))) (drop (run_len is_plain (b ∷ s)) (b ∷ s))
  plain_by b s st true e rest = rw e (all_on st (b ∷ s) (Byte b) s (plain_goes b s e) (plain_read end b s e) ∙ rest)
  plain_by b s st false e rest = rw e refl

  pub all_plain : (st : S) (s : List ℕ) → all st s ≡ all (after_bytes after st (take (run_len is_plain s) s)) (drop (run_len is_plain s) s)
  all_plain st [] = refl
  all_plain st (b ∷ s) = plain_by b s st (is_plain b) refl (all_plain (after st (Byte b)) s)

  -- a loop that goes on from st, over bytes that stand for themselves, to st'
  module _ (total : Result (S × List ℕ) Fault) (st st' : S) (now : Spot) (text : List ℕ) (n : ℕ) (so_far : all st now.left ≡ total) (same_end : now.end ≡ end)
      (text_is : text ≡ now.left) (n_is : n ≡ run_len is_plain text) (st_is : st' ≡ after_bytes after st (take n text)) (next : Spot) (next_is : next ≡ over n now) where
    ahead : all st' next.left ≡ total
    ahead =
        let e : all (after_bytes after st (take n text)) (drop n now.left) ≡ total = rw (n_is, text_is) (sym (all_plain st now.left) ∙ so_far) in
        rw (st_is, next_is) e

    pub end_stays : next.end ≡ end
    end_stays = ap (λ (s : Spot). s.end) next_is ∙ same_end

    pub ends : no_quote next.left ≡ false → total ≡ Ok (st', next.left)
    ends g = sym ahead ∙ all_end st' next.left g

    pub fails : (o : Option Fault) → no_quote next.left ≡ true → FailsBy o (piece.read next.end next.left) → FailsBy o total
    fails (Some f) g h = sym ahead ∙ all_fails st' next.left f g (ap (λ e. piece.read e next.left) (sym end_stays) ∙ h)
    fails None g h = tt

    module _ (p : Piece) (left : List ℕ) (g : no_quote next.left ≡ true) (h : piece.read next.end next.left ≡ Ok (p, left)) where
      pub on : (last : S) → last ≡ after st' p → all last left ≡ total
      on last e = ap (λ (x : S). all x left) e ∙ sym (all_on st' next.left p left g (ap (λ e. piece.read e next.left) (sym end_stays) ∙ h)) ∙ ahead

      pub fewer : (counter most : ℕ) → length now.left + counter ≤ most → length left + (counter + 1) ≤ most
      fewer counter most few =
          let lt = piece_shorter next.end next.left p left h in
          let le : length next.left ≤ length now.left = rw next_is (length_drop_most n now.left) in
          omega arith

  pub over_end : (total : Result (S × List ℕ) Fault) (st : S) (now : ℕ) (s : List ℕ) (counter most : ℕ) → all st s ≡ total → now ≡ end → length s + counter ≤ most → most ≤ counter → total ≡ Err (broken now s)
  unfolding run_at
  over_end total st now [] counter most e same few le = sym e ∙ ap (λ (n : ℕ). Err (broken n [])) (sym same)
  over_end total st now (b ∷ s) counter most e same few le = absurd (omega arith)

-- the bytes that bytes stand for
pub after_bytes_of : (so_far bytes : List ℕ) → after_bytes (λ (s : List ℕ) (p : Piece). s ++ bytes_of p) so_far bytes ≡ so_far ++ bytes
after_bytes_of so_far [] = sym (append-nil so_far)
after_bytes_of so_far (b ∷ s) = after_bytes_of (so_far ++ b ∷ []) s ∙ append_assoc so_far (b ∷ []) s
