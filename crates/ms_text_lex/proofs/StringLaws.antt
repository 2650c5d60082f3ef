-- A string stands for bytes wherever it stands: what follows it doesn't count.
use Rattle.std.proofs.Common.{◌≡◌, ℕ, ◌<◌, Bool, true, false, List, [], ◌∷◌, ◌++◌, length, Option, refl, sym, subst, ap, ◌∙◌, arith, append_assoc}
use Rattle.ms_bytes.specs.Format.{Format}
use Rattle.ms_bytes.specs.Parts.{either, item, pure, seq}
use Rattle.ms_bytes.specs.Runs.{Runs, TakesItem, goes, rests}
use Rattle.ms_bytes.specs.Repetition.{run}
use Rattle.ms_text_lex.specs.Fault.{Fault, broken}

-- what a format takes, it takes in front of any other text, too
abbrev pub Moves : {A : Type 0} → Format ℕ Fault A → Type 0
Moves {A} f = (s : List ℕ) (v : A) (m : List ℕ) → f.spelled s v m → (x : List ℕ) × (s ≡ x ++ m) × ((u : List ℕ) → f.spelled (x ++ u) v u)

pub item_moves : {A : Type 0} (g : ℕ → Option A) → Moves (item broken g)
item_moves g s v m h = (h.0 ∷ [], h.1, λ u. (h.0, refl, h.2))

pub pure_moves : {A : Type 0} (w : A) → Moves {A = A} (pure {F = Fault} w)
pure_moves w s v m h = ([], h.1, λ u. (h.0, refl))

pub seq_moves : {A B : Type 0} (f : Format ℕ Fault A) (g : A → Format ℕ Fault B) → Moves f → ((v : A) → Moves (g v)) → Moves (seq f g)
seq_moves {A} {B} f g mf mg s w m h =
    let a = mf s h.0 h.1 h.2 in
    let b = mg h.0 h.1 w m h.3 in (
      a.0 ++ b.0,
      a.1 ∙ ap (λ (l : List ℕ). a.0 ++ l) b.1 ∙ sym (append_assoc a.0 b.0 m),
      λ u. (h.0, b.0 ++ u, subst (λ (l : List ℕ). f.spelled l h.0 (b.0 ++ u)) (sym (append_assoc a.0 b.0 u)) (a.2 (b.0 ++ u)), b.2 u),
    )

pub either_moves : {A : Type 0} (b : Bool) (f g : Format ℕ Fault A) → Moves f → Moves g → Moves (either b f g)
either_moves true f g mf mg = mf
either_moves false f g mf mg = mg

-- ---- steps up to a byte, and steps that go with them

module _ {S T : Type 0} (going : S → List ℕ → Bool) (step : S → Format ℕ Fault S) (takes : TakesItem {F = Fault} going step)
    (going' : T → List ℕ → Bool) (step' : T → Format ℕ Fault T) (takes' : TakesItem {F = Fault} going' step') (R : S → T → Type 0)
    (alike : (st : S) (st' : T) → R st st' → (c : ℕ) (w w' : List ℕ) → going st (c ∷ w) ≡ going' st' (c ∷ w'))
    (moves : (st : S) (st' : T) → R st st' → (s : List ℕ) (next : S) (t : List ℕ) → (step st).spelled s next t
    → (next' : T) × R next next' × (x : List ℕ) × (s ≡ x ++ t) × ((u : List ℕ) → (step' st').spelled (x ++ u) next' u)) where
  still_goes : (st : S) (st' : T) → R st st' → (x s t : List ℕ) → s ≡ x ++ t → length t < length s → going st s ≡ true → (w : List ℕ) → going' st' (x ++ w) ≡ true
  still_goes st st' r [] s t e lt g w = absurd (let l = ap length e in omega arith)
  still_goes st st' r (c ∷ x) s t e lt g w = sym (alike st st' r c (x ++ t) (x ++ w)) ∙ subst (λ (l : List ℕ). going st l ≡ true) e g

  pub run_moves : (b : ℕ) (m : List ℕ) {st last : S} {s e : List ℕ} → Runs going step st s last e → e ≡ b ∷ m → (st' : T) → R st st'
      → (last' : T) × R last last' × (x : List ℕ) × (s ≡ x ++ (b ∷ m)) × ((u : List ℕ) → Runs going' step' st' (x ++ (b ∷ u)) last' (b ∷ u))
  run_moves b m (rests {st = st} {s = s} h) e st' r = (st', r, [], e, λ u. rests (sym (alike st st' r b m u) ∙ subst (λ (l : List ℕ). going st l ≡ false) e h))
  run_moves b m (goes {st = st} {last = last} {s = s} {t = t} {u = z} next g h more) e st' r =
      let a = moves st st' r s next t h in
      let k = run_moves b m more e a.0 a.1 in (
        k.0,
        k.1,
        a.2 ++ k.2,
        a.3 ∙ ap (λ (l : List ℕ). a.2 ++ l) k.3 ∙ sym (append_assoc a.2 k.2 (b ∷ m)),
        λ u.
            let text = append_assoc a.2 k.2 (b ∷ u) in
            subst (λ (l : List ℕ). Runs going' step' st' l k.0 (b ∷ u)) (sym text)
            (goes a.0 (still_goes st st' r a.2 s t a.3 (takes st s next t g h) g (k.2 ++ (b ∷ u))) (a.4 (k.2 ++ (b ∷ u))) (k.4 u)),
      )

  -- between two bytes
  pub enclosed : {A B : Type 0} (f g : ℕ → Option ℕ) (v : S → A) (w : T → B) (st : S) (st' : T) → R st st' → (s : List ℕ) (y : A) (m : List ℕ)
      → (seq (item broken f) (λ b. seq (run broken going step takes st) (λ last. seq (item broken g) (λ e. pure (v last))))).spelled s y m
      → (last : S) × (last' : T) × R last last' × (y ≡ v last) × (x : List ℕ) × (s ≡ x ++ m)
      × ((u : List ℕ) → (seq (item broken f) (λ b. seq (run broken going' step' takes' st') (λ l. seq (item broken g) (λ e. pure (w l))))).spelled (x ++ u) (w last') u)
  enclosed {A} {B} f g v w st st' r s y m h =
      let open' = h.2 in
      let inner = h.3 in
      let close' = inner.3.2 in
      let behind = inner.3.3 in
      let k = run_moves close'.0 inner.3.1 inner.2 close'.1 st' r in
      let text : (u : List ℕ) → (open'.0 ∷ (k.2 ++ (close'.0 ∷ []))) ++ u ≡ open'.0 ∷ (k.2 ++ (close'.0 ∷ u)) = λ u. ap (λ (l : List ℕ). open'.0 ∷ l) (append_assoc k.2 (close'.0 ∷ []) u) in (
        inner.0,
        k.0,
        k.1,
        behind.0,
        open'.0 ∷ (k.2 ++ (close'.0 ∷ [])),
        open'.1 ∙ ap (λ (l : List ℕ). open'.0 ∷ l) (k.3 ∙ ap (λ (l : List ℕ). k.2 ++ (close'.0 ∷ l)) behind.1) ∙ sym (text m),
        λ u. (h.0, k.2 ++ (close'.0 ∷ u), (open'.0, text u, open'.2), (k.0, close'.0 ∷ u, k.4 u, (inner.3.0, u, (close'.0, refl, close'.2), (refl, refl)))),
      )
