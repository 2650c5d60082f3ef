-- The first word of a text, and the words behind it.
use Rattle.std.proofs.Common.{◌≡◌, ◌∙◌, ℕ, suc, ◌+◌, ◌-◌, ◌<◌, ◌≤◌, Bool, true, false, List, [], ◌∷◌, ◌++◌, Option, Some, Err, length, get_or, take, drop, refl, ap, sym, subst, add-zero, arith, append_assoc, length-drop}
use Rattle.std.proofs.lemmas.List.{drop-drop, drop_more, take_all, take_more}
use Rattle.std.specs.Option.{option_map_or}
use Rattle.ms_job.specs.Words.{number_within}
use Rattle.ms_job.specs.Schedules.{first_word, is_apart, numbers_behind, placed_words}
use Rattle.ms_job.specs.declared.fault.SchedFault.TheVariants.{At}

word_ends : (xs : List ℕ) → is_apart xs ≡ true → first_word xs ≡ []
word_ends [] e = refl
word_ends (x ∷ xs) e = rw e refl

word_goes : (x : ℕ) (xs : List ℕ) → is_apart (x ∷ xs) ≡ false → first_word (x ∷ xs) ≡ x ∷ first_word xs
word_goes x xs e = rw e refl

skip : (inside : Bool) (at x : ℕ) (xs : List ℕ) → is_apart (x ∷ xs) ≡ true
    → placed_words inside at (x ∷ xs) ≡ placed_words false (at + 1) xs
skip inside at x xs e = rw e refl

inside : (at x : ℕ) (xs : List ℕ) → is_apart (x ∷ xs) ≡ false → placed_words true at (x ∷ xs) ≡ placed_words true (at + 1) xs
inside at x xs e = rw e refl

begins : (at x : ℕ) (xs : List ℕ) → is_apart (x ∷ xs) ≡ false
    → placed_words false at (x ∷ xs) ≡ (at, first_word (x ∷ xs)) ∷ placed_words true (at + 1) xs
begins at x xs e = rw e refl

-- the words behind a word w that stands in front
abbrev Behind : ℕ → List ℕ → List ℕ → Type 0
Behind at xs w = placed_words true at xs ≡ placed_words false (at + length w) (drop (length w) xs)

abbrev at_place : List ℕ → ℕ → List (ℕ × List ℕ)
at_place xs n = placed_words false n xs

behind_more : (at x : ℕ) (xs : List ℕ) (b : Bool) → is_apart (x ∷ xs) ≡ b → Behind (at + 1) xs (first_word xs)
    → Behind at (x ∷ xs) (first_word (x ∷ xs))
behind_more at x xs true e h =
    let none : Behind at (x ∷ xs) [] =
    skip true at x xs e ∙ sym (skip false at x xs e) ∙ ap (at_place (x ∷ xs)) (sym (add-zero at)) in
    let P : List ℕ → Type 0 = Behind at (x ∷ xs) in
    subst P (sym (word_ends (x ∷ xs) e)) none
behind_more at x xs false e h =
    let w = first_word xs in
    let place : at + 1 + length w ≡ at + suc (length w) = omega arith in
    let more : Behind at (x ∷ xs) (x ∷ w) = inside at x xs e ∙ h ∙ ap (at_place (drop (length w) xs)) place in
    let P : List ℕ → Type 0 = Behind at (x ∷ xs) in
    subst P (sym (word_goes x xs e)) more

behind : (at : ℕ) (xs : List ℕ) → Behind at xs (first_word xs)
behind at [] = refl
behind at (x ∷ xs) = behind_more at x xs (is_apart (x ∷ xs)) refl (behind (at + 1) xs)

abbrev Begins : ℕ → List ℕ → Type 0
Begins at xs =
    let w = first_word xs in placed_words false at xs ≡ (at, w) ∷ placed_words false (at + length w) (drop (length w) xs)

-- the word in front and the words behind it
first_of_more : (at x : ℕ) (xs : List ℕ) → is_apart (x ∷ xs) ≡ false → Begins at (x ∷ xs)
first_of_more at x xs e =
    let w = first_word xs in
    let place : at + 1 + length w ≡ at + suc (length w) = omega arith in
    let first : ℕ × List ℕ = (at, first_word (x ∷ xs)) in
    let rest = behind (at + 1) xs ∙ ap (at_place (drop (length w) xs)) place in
    let more = begins at x xs e ∙ ap (λ (words : List (ℕ × List ℕ)). first ∷ words) rest in
    let P : List ℕ → Type 0 =
    λ v. placed_words false at (x ∷ xs) ≡ first ∷ placed_words false (at + length v) (drop (length v) (x ∷ xs)) in
    subst P (sym (word_goes x xs e)) more

short_more : (x : ℕ) (xs : List ℕ) (b : Bool) → is_apart (x ∷ xs) ≡ b → length (first_word xs) ≤ length xs
    → length (first_word (x ∷ xs)) ≤ length (x ∷ xs)
short_more x xs true e h = omega (arith, ap length (word_ends (x ∷ xs) e))
short_more x xs false e h = omega (arith, ap length (word_goes x xs e))

word_short : (xs : List ℕ) → length (first_word xs) ≤ length xs
word_short [] = omega arith
word_short (x ∷ xs) = short_more x xs (is_apart (x ∷ xs)) refl (word_short xs)

-- what a text says at a place in it, by what is left there
module _ (at : ℕ) (text : List ℕ) (inside : at < length text) where
  left : drop at text ≡ get_or text at 0 ∷ drop (at + 1) text
  left = drop_more text at 0 inside

  -- a byte more of the word in front
  pub word_grows : is_apart (drop at text) ≡ false → first_word text ≡ take at text ++ first_word (drop at text)
      → first_word text ≡ take (at + 1) text ++ first_word (drop (at + 1) text)
  word_grows e h =
      let x = get_or text at 0 in
      let rest = drop (at + 1) text in
      let goes : first_word (drop at text) ≡ x ∷ first_word rest =
      ap first_word left ∙ word_goes x rest (ap is_apart (sym left) ∙ e) in
      let front = take_more text at 0 inside in
      let joined = append_assoc (take at text) (x ∷ []) (first_word rest) in
      h ∙ ap (λ (w : List ℕ). take at text ++ w) goes ∙ sym joined ∙ ap (λ (w : List ℕ). w ++ first_word rest) (sym front)

  -- behind one separating byte
  pub words_skip : is_apart (drop at text) ≡ true
      → placed_words false at (drop at text) ≡ placed_words false (at + 1) (drop (at + 1) text)
  words_skip e =
      ap (placed_words false at) left ∙ skip false at (get_or text at 0) (drop (at + 1) text) (ap is_apart (sym left) ∙ e)

  -- the word that begins there, and the words behind it
  pub words_first : is_apart (drop at text) ≡ false →
      let w = first_word (drop at text) in
      placed_words false at (drop at text) ≡ (at, w) ∷ placed_words false (at + length w) (drop (at + length w) text)
  words_first e =
      let P : List ℕ → Type 0 = Begins at in
      let w = first_word (drop at text) in
      let goes = first_of_more at (get_or text at 0) (drop (at + 1) text) (ap is_apart (sym left) ∙ e) in
      let first : Begins at (drop at text) = subst P (sym left) goes in
      first ∙ ap (λ (rest : List ℕ). (at, w) ∷ placed_words false (at + length w) rest) (drop-drop (length w) at text)

  -- that word isn't empty, and ends in the text
  pub word_fits : is_apart (drop at text) ≡ false →
      let w = first_word (drop at text) in (0 < length w) × (at + length w ≤ length text)
  word_fits e =
      let x = get_or text at 0 in
      let rest = drop (at + 1) text in
      let goes : first_word (drop at text) ≡ x ∷ first_word rest =
      ap first_word left ∙ word_goes x rest (ap is_apart (sym left) ∙ e) in
      (omega (arith, ap length goes), omega (arith, word_short (drop at text), length-drop at text))

-- what a slice from a place on is
pub left_is : (at : ℕ) (text : List ℕ) → take (length text - at) (drop at text) ≡ drop at text
left_is at text = take_all (length text - at) (drop at text) (omega (arith, length-drop at text))

-- a word that is a number goes behind the numbers so far
pub numbers_more : (at : ℕ) (text ns : List ℕ) (n : ℕ) (word : List ℕ) → at < length text → is_apart (drop at text) ≡ false
    → word ≡ first_word (drop at text) → number_within 0 4294967295 word ≡ Some n
    → numbers_behind ns (placed_words false at (drop at text))
    ≡ numbers_behind (ns ++ n ∷ []) (placed_words false (at + length word) (drop (at + length word) text))
numbers_more at text ns n word inside e is number =
    let words = placed_words false at (drop at text) in
    let rest = λ (w : List ℕ). placed_words false (at + length w) (drop (at + length w) text) in
    let P : List ℕ → Type 0 = λ w. numbers_behind ns words ≡ numbers_behind (ns ++ n ∷ []) (rest w) in
    let more = rest (first_word (drop at text)) in
    let read = ap (number_within 0 4294967295) (sym is) ∙ number in
    let goes_on = λ (o : Option ℕ). option_map_or (λ k. numbers_behind (ns ++ k ∷ []) more) o (Err (At at)) in
    subst P (sym is) (ap (numbers_behind ns) (words_first at text inside e) ∙ ap goes_on read)
