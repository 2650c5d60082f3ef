-- What formats of tokens take of the tokens of a text as it is written: parts one after the other. What stands in front is told
-- by the pieces that are shown there.
use Rattle.std.proofs.Common.{◌≡◌, ◌++◌, ◌&&◌, ℕ, Bool, true, false, List, [], ◌∷◌, Option, Some, refl, sym, subst, append_assoc}
use Rattle.std.specs.Str.{bytes_eq}
use Rattle.ms_bytes.specs.Format.{Format}
use Rattle.ms_bytes.specs.Items.{ItemSpelled}
use Rattle.ms_bytes.specs.Runs.{Runs, goes, rests}
use Rattle.ms_text_lex.specs.declared.token.Kind.{Kind}
use Rattle.ms_text_lex.specs.declared.token.Token.{Token}
use Rattle.ms_text_lex.specs.Tokens.{text_of}
use Rattle.ms_text_grammar.specs.declared.word.Word.{Word}
use Rattle.ms_text_grammar.specs.Keywords.{spelling}
use Rattle.ms_text_grammar.specs.Tokens.{begins, is_close, is_keyword, is_open, next}
use Rattle.ms_text_grammar.specs.Faults.{kept}
use Rattle.ms_text_grammar.specs.Parts.{closing, opening}
use Rattle.ms_text_write.proofs.Pieces.{Piece, Shows, left, right}
use Rattle.ms_text_write.proofs.Pieces.Shows.{none, more}

-- Where the pieces P are shown, something is taken for which R holds, and the pieces Q are left.
pub record Gives {A : Type 0} (source : List ℕ) (spelled : List Token → A → List Token → Type 0) (P : List Piece) (R : A → Type 0) (Q : List Piece) : Type 0 where
  pub takes : (s : List Token) → Shows source s P → (x : A) × (t : List Token) × spelled s x t × R x × Shows source t Q

-- ---- what stands in front

abbrev pub first : (Kind → List ℕ → Bool) → List Piece → Bool
first test [] = false
first test (p ∷ ps) = test p.kind p.text

abbrev pub has_word : List ℕ → Kind → List ℕ → Bool
has_word text kind other = is_keyword kind && bytes_eq other text

-- a parenthesis and this word
abbrev pub starts : Word → List Piece → Bool
starts w [] = false
starts w (p ∷ ps) = is_open p.kind && first (has_word (spelling w)) ps

module _ {source : List ℕ} where
  pub first_is : (test : Kind → List ℕ → Bool) (s : List Token) (P : List Piece) → Shows source s P → next (λ t. test t.kind (text_of source t)) s ≡ first test P
  first_is test [] [] none = refl
  first_is test [] (p ∷ ps) h = elim h [ ]
  first_is test (t ∷ ts) [] h = elim h [ ]
  first_is test (t ∷ ts) (p ∷ ps) (more _ _ _ _ k e h) = rw (k, e) refl

  pub starts_is : (w : Word) (s : List Token) (P : List Piece) → Shows source s P → begins source w s ≡ starts w P
  starts_is w [] [] none = refl
  starts_is w [] (p ∷ ps) h = elim h [ ]
  starts_is w (t ∷ ts) [] h = elim h [ ]
  starts_is w (t ∷ ts) (p ∷ ps) (more _ _ _ _ k e h) = rw (k, first_is (has_word (spelling w)) ts ps h) refl

  -- ---- parts

  pub gives : {A : Type 0} {v : A} {P : List Piece} (R : A → Type 0) → R v → Gives source (λ s x t. (x ≡ v) × (s ≡ t)) P R P
  gives {v = v} R r = record { takes = λ s h. (v, s, (refl, refl), r, h) }

  pub both : {A B : Type 0} {F : List Token → A → List Token → Type 0} {G : A → List Token → B → List Token → Type 0} {P Q T : List Piece} {R : A → Type 0} {S : B → Type 0}
      → Gives source F P R Q → ((x : A) → R x → Gives source (G x) Q S T) → Gives source (λ s y t. (x : A) × (m : List Token) × F s x m × G x m y t) P S T
  both a b = record {
    takes = λ s h.
        let x = a.takes s h in
        let y = (b x.0 x.3).takes x.1 x.4 in
        (y.0, y.1, (x.0, x.1, x.2, y.2), y.3, y.4);
  }

  -- what was taken is a known value
  pub known : {A B : Type 0} {v : A} {F : List Token → A → List Token → Type 0} {G : A → List Token → B → List Token → Type 0} {P Q T : List Piece} {S : B → Type 0}
      → Gives source F P (λ x. x ≡ v) Q → Gives source (G v) Q S T → Gives source (λ s y t. (x : A) × (m : List Token) × F s x m × G x m y t) P S T
  known {G = G} {Q = Q} {T = T} {S = S} a b = both a (λ x e. subst (λ z. Gives source (G z) Q S T) (sym e) b)

  -- any token
  pub past : {A B : Type 0} {F : List Token → A → List Token → Type 0} {G : A → List Token → B → List Token → Type 0} {P Q T : List Piece} {S : B → Type 0}
      → Gives source F P (λ x. Unit {0}) Q → ((x : A) → Gives source (G x) Q S T) → Gives source (λ s y t. (x : A) × (m : List Token) × F s x m × G x m y t) P S T
  past a b = both a (λ x e. b x)

  pub weaker : {A : Type 0} {F : List Token → A → List Token → Type 0} {P Q : List Piece} (R S : A → Type 0) → ((x : A) → R x → S x) → Gives source F P R Q → Gives source F P S Q
  weaker R S f a = record { takes = λ s h. let x = a.takes s h in (x.0, x.1, x.2, f x.0 x.3, x.4) }

  -- pieces one behind the other, however they are put together
  pub grouped : {A : Type 0} {F : List Token → A → List Token → Type 0} {Q : List Piece} {R : A → Type 0} (xs ys zs : List Piece) → Gives source F (xs ++ (ys ++ zs)) R Q → Gives source F ((xs ++ ys) ++ zs) R Q
  grouped {F = F} {Q = Q} {R = R} xs ys zs a = subst (λ P. Gives source F P R Q) (sym (append_assoc xs ys zs)) a

  -- ---- tokens

  pub single : {A : Type 0} {p : Piece} {P : List Piece} (f : Kind → List ℕ → Option A) (v : A) → f p.kind p.text ≡ Some v → Gives source (ItemSpelled (λ t. f t.kind (text_of source t))) (p ∷ P) (λ x. x ≡ v) P
  single {A} {p = p} {P = P} f v e = record { takes = go } where
    go : (s : List Token) → Shows source s (p ∷ P) → (x : A) × (t : List Token) × ItemSpelled (λ t. f t.kind (text_of source t)) s x t × (x ≡ v) × Shows source t P
    go [] h = elim h [ ]
    go (t ∷ ts) (more _ _ _ _ k w h) = (v, ts, (t, refl, rw (k, w) e), refl, h)

  pub token : {p : Piece} {P : List Piece} (test : Token → Bool) (R : Token → Type 0) → ((t : Token) → t.kind ≡ p.kind → text_of source t ≡ p.text → (test t ≡ true) × R t)
      → Gives source (ItemSpelled (λ t. kept (test t) t)) (p ∷ P) R P
  token {p = p} {P = P} test R f = record { takes = go } where
    go : (s : List Token) → Shows source s (p ∷ P) → (x : Token) × (t : List Token) × ItemSpelled (λ t. kept (test t) t) s x t × R x × Shows source t P
    go [] h = elim h [ ]
    go (t ∷ ts) (more _ _ _ _ k w h) = let g = f t k w in (t, ts, (t, refl, rw g.0 refl), g.1, h)

  -- what a token is taken as
  pub read_as : {A : Type 0} {p : Piece} {P : List Piece} (f : Token → Option A) (R : A → Type 0) → ((t : Token) → t.kind ≡ p.kind → text_of source t ≡ p.text → (x : A) × (f t ≡ Some x) × R x)
      → Gives source (ItemSpelled f) (p ∷ P) R P
  read_as {A} {p = p} {P = P} f R g = record { takes = go } where
    go : (s : List Token) → Shows source s (p ∷ P) → (x : A) × (t : List Token) × ItemSpelled f s x t × R x × Shows source t P
    go [] h = elim h [ ]
    go (t ∷ ts) (more _ _ _ _ k w h) = let x = g t k w in (x.0, ts, (t, refl, x.1), x.2, h)

  pub opened : {P : List Piece} → Gives source (opening source).spelled (left ∷ P) (λ t. Unit {0}) P
  opened = token (λ t. is_open t.kind) (λ t. Unit {0}) (λ t k w. (rw k refl, tt))

  pub closed : {P : List Piece} → Gives source (closing source).spelled (right ∷ P) (λ t. Unit {0}) P
  closed = token (λ t. is_close t.kind) (λ t. Unit {0}) (λ t k w. (rw k refl, tt))

  -- ---- what is chosen

  pub chosen : {A K : Type 0} {P Q : List Piece} {R : A → Type 0} (look : List Token → K) (F : K → List Token → A → List Token → Type 0) (k : K) → ((s : List Token) → Shows source s P → look s ≡ k) → Gives source (F k) P R Q
      → Gives source (λ s x t. F (look s) s x t) P R Q
  chosen look F k e a = record {
    takes = λ s h.
        let x = a.takes s h in
        (x.0, x.1, subst (λ l. F l s x.0 x.1) (sym (e s h)) x.2, x.3, x.4);
  }

  -- ---- steps

  pub stops : {S : Type 0} {P : List Piece} {F : Type 0} (going : S → List Token → Bool) (step : S → Format Token F S) (R : S → Type 0) (st : S) → ((s : List Token) → Shows source s P → going st s ≡ false) → R st
      → Gives source (λ s x t. Runs going step st s x t) P R P
  stops going step R st e r = record { takes = λ s h. (st, s, rests (e s h), r, h) }

  pub steps : {S : Type 0} {P Q T : List Piece} {F : Type 0} {R M : S → Type 0} (going : S → List Token → Bool) (step : S → Format Token F S) (st : S) → ((s : List Token) → Shows source s P → going st s ≡ true)
      → Gives source (step st).spelled P M Q → ((x : S) → M x → Gives source (λ s y t. Runs going step x s y t) Q R T) → Gives source (λ s x t. Runs going step st s x t) P R T
  steps going step st e a b = record {
    takes = λ s h.
        let x = a.takes s h in
        let y = (b x.0 x.3).takes x.1 x.4 in
        (y.0, y.1, goes x.0 (e s h) x.2 y.2, y.3, y.4);
  }
