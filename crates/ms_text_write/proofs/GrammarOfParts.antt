-- What the grammar takes of words, numbers, indices, strings, lists and groups as they are written.
use Rattle.std.proofs.Common.{◌≡◌, ◌++◌, ◌^◌, ◌<◌, ℕ, Bool, true, false, List, [], ◌∷◌, None, refl, sym, subst, ◌∙◌, append_assoc}
use Rattle.std.specs.Prelude.{map}
use Rattle.std.specs.Str.{bytes_eq}
use Rattle.std.proofs.lemmas.Bool.{eq-eqb}
use Rattle.std.proofs.lemmas.List.{append-nil}
use Rattle.ms_bytes.specs.Runs.{Runs}
use Rattle.ms_text_lex.specs.Numbers.{index_of}
use Rattle.ms_text_lex.specs.declared.token.Token.{Token}
use Rattle.ms_text_grammar.specs.declared.surface.Index.TheVariants.{Number}
use Rattle.ms_text_grammar.specs.declared.word.Word.{Word}
use Rattle.ms_text_grammar.specs.Keywords.{spelling}
use Rattle.ms_text_grammar.specs.Tokens.{begins_id, is_close, is_id, is_number, is_open, is_word, opens}
use Rattle.ms_text_grammar.specs.Faults.{Textual}
use Rattle.ms_text_grammar.specs.Numbers.{if_so, index, index_by, number}
use Rattle.ms_text_grammar.specs.Parts.{group_ends, id_by, keyword, no_group, optional_id, the}
use Rattle.ms_text_write.proofs.ReadNumbers.{decimal_read}
use Rattle.ms_text_write.proofs.Pieces as piece
use Rattle.ms_text_write.proofs.Pieces.{Piece, Shows}
use Rattle.ms_text_write.proofs.Gives.{Gives, chosen, first, first_is, gives, known, single, steps, stops, token, weaker}

pub same_text : (text : List ℕ) → bytes_eq text text ≡ true
same_text [] = refl
same_text (b ∷ bs) = rw (eq-eqb b b refl) (same_text bs)

-- whether an identifier, a parenthesis that opens or one that closes stands in front
abbrev pub starts_id : List Piece → Bool
starts_id P = first (λ k w. is_id k) P

abbrev pub starts_open : List Piece → Bool
starts_open P = first (λ k w. is_open k) P

abbrev pub starts_close : List Piece → Bool
starts_close P = first (λ k w. is_close k) P

module _ {source : List ℕ} where
  pub worded : {P : List Piece} (w : Word) → Gives source (the source w).spelled (piece.the w ∷ P) (λ t. Unit {0}) P
  worded w = token (λ t. is_word source (spelling w) t) (λ t. Unit {0}) (λ t k e. (rw (k, e, same_text (spelling w)) refl, tt))

  pub keyed : {P : List Piece} (text : List ℕ) → Gives source (keyword source text).spelled (piece.keyword text ∷ P) (λ t. Unit {0}) P
  keyed text = token (λ t. is_word source text t) (λ t. Unit {0}) (λ t k e. (rw (k, e, same_text text) refl, tt))

  -- ---- numbers

  pub numbered : {P : List Piece} (n : ℕ) → n < 2 ^ 32 → Gives source (number source).spelled (piece.number n ∷ P) (λ x. x ≡ n) P
  unfolding number
  numbered n h = single (λ k w. if_so (is_number k) (index_of w)) n (decimal_read n h).1

  pub index_given : {P : List Piece} (n : ℕ) → n < 2 ^ 32 → Gives source (index source).spelled (piece.number n ∷ P) (λ x. x ≡ Number n) P
  unfolding index index_by
  index_given {P = P} n h = chosen begins_id (λ b. (index_by source b).spelled) false (λ s g. first_is (λ k w. is_id k) s (piece.number n ∷ P) g) (known (numbered n h) (gives (λ x. x ≡ Number n) refl))

  -- ---- what isn't there

  pub no_id : {P : List Piece} → starts_id P ≡ false → Gives source (optional_id source).spelled P (λ x. x ≡ None) P
  unfolding optional_id id_by
  no_id {P = P} e = chosen begins_id (λ b. (id_by source b).spelled) false (λ s g. first_is (λ k w. is_id k) s P g ∙ e) (gives (λ x. x ≡ None) refl)

  pub none_opens : {P : List Piece} → starts_open P ≡ false → Gives source (no_group source).spelled P (λ x. Unit {0}) P
  unfolding no_group group_ends
  none_opens {P = P} e = chosen opens (λ b. (group_ends source b).spelled) false (λ s g. first_is (λ k w. is_open k) s P g ∙ e) (gives (λ x. Unit {0}) tt)

  -- ---- lists: steps that each take a piece

  module _ {X Y : Type 0} (going : List Y → List Token → Bool) (step : List Y → Textual (List Y)) (shown : X → Piece) (f : X → Y) (Room : List Y → List X → Type 0) (Q : List Piece)
      (room : (done : List Y) (x : X) (xs : List X) → Room done (x ∷ xs) → Room (done ++ f x ∷ []) xs)
      (on : (done : List Y) (x : X) (P : List Piece) (s : List Token) → Shows source s (shown x ∷ P) → going done s ≡ true)
      (off : (done : List Y) → Room done [] → (s : List Token) → Shows source s Q → going done s ≡ false)
      (take : (done : List Y) (x : X) (xs : List X) (P : List Piece) → Room done (x ∷ xs) → Gives source (step done).spelled (shown x ∷ P) (λ y. y ≡ done ++ f x ∷ []) P) where
    pub all_steps : (done : List Y) (xs : List X) → Room done xs → Gives source (λ s x t. Runs going step done s x t) (map shown xs ++ Q) (λ y. y ≡ done ++ map f xs) Q
    all_steps done [] r = stops going step (λ y. y ≡ done ++ []) done (off done r) (sym (append-nil done))
    all_steps done (x ∷ xs) r =
        let next = done ++ f x ∷ [] in
        let all = weaker (λ y. y ≡ next ++ map f xs) (λ y. y ≡ done ++ map f (x ∷ xs)) (λ y e. e ∙ append_assoc done (f x ∷ []) (map f xs)) (all_steps next xs (room done x xs r)) in
        steps going step done (on done x (map shown xs ++ Q)) (take done x xs (map shown xs ++ Q) r)
        (λ y e. subst (λ z. Gives source (λ s x t. Runs going step z s x t) (map shown xs ++ Q) (λ y. y ≡ done ++ map f (x ∷ xs)) Q) (sym e) all)
