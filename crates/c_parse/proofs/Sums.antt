-- Heights of what productions that stand open are part of.
use Rattle.std.proofs.Common.{◌≡◌, ℕ, ◌+◌, max, List, [], ◌∷◌, ◌++◌, reverse, sym, ◌∙◌, ap, subst, arith}
use Rattle.std.proofs.lemmas.List.{reverse-append}
use Rattle.c_productions.specs.declared.frame.Frame.{Frame}
use Rattle.c_productions.specs.refinement.Table.{rise}
use Rattle.c_productions.specs.refinement.Meaning.{over, overs, leasts}
use Rattle.c_parse.specs.declared.waiting.Entry.{Entry}
use Rattle.c_parse.specs.refinement.Waiting.{frames_of, rises, AreSummed}

pub overs_is : (fs : List Frame) (n : ℕ) → overs fs n ≡ max (overs fs 0) (n + rises fs)
overs_is [] n = omega arith
overs_is (f ∷ fs) n = omega (arith, overs_is fs (over f n), overs_is fs (over f 0))

pub record Summed (es : List Entry) (floor rising : ℕ) : Type 0 where
  pub floor_is : floor ≡ overs (frames_of es) 0
  pub rising_is : rising ≡ rises (frames_of es)

pub summed : (es : List Entry) (floor rising : ℕ) → AreSummed es floor rising → Summed es floor rising
summed [] floor rising s = record { floor_is = s.0; rising_is = s.1 }
summed (e ∷ es) floor rising s = record { floor_is = s.0; rising_is = s.1 }

pub over_all : (es : List Entry) (floor rising n : ℕ) → AreSummed es floor rising → max floor (n + rising) ≡ overs (frames_of es) n
over_all es floor rising n s =
    let r = summed es floor rising s in
    omega (arith, r.floor_is, r.rising_is, overs_is (frames_of es) n)

pub one_more : (es : List Entry) (e : Entry) (floor rising : ℕ) → AreSummed es e.floor e.rising
    → floor ≡ overs (frames_of es) (max e.frame.base (leasts e.frame.rest + rise e.frame.production)) → rising ≡ rise e.frame.production + e.rising
    → AreSummed (e ∷ es) floor rising
one_more es e floor rising s f r =
    let a = summed es e.floor e.rising s in
    let inside : max e.frame.base (leasts e.frame.rest + rise e.frame.production) ≡ over e.frame 0 = omega arith in
    (f ∙ ap (λ n. overs (frames_of es) n) inside, r ∙ ap (λ n. rise e.frame.production + n) a.rising_is, s)

pub one_pushed : (items new : List Entry) (e : Entry) (floor rising : ℕ) → new ≡ items ++ e ∷ [] → AreSummed (reverse items) e.floor e.rising
    → floor ≡ overs (frames_of (reverse items)) (max e.frame.base (leasts e.frame.rest + rise e.frame.production)) → rising ≡ rise e.frame.production + e.rising
    → AreSummed (reverse new) floor rising
one_pushed items new e floor rising n s f r =
    let P : List Entry → Type 0 = λ x. AreSummed x floor rising in
    let acted : reverse new ≡ e ∷ reverse items = ap (λ (x : List Entry). reverse x) n ∙ reverse-append items (e ∷ []) in
    subst P (sym acted) (one_more (reverse items) e floor rising s f r)
