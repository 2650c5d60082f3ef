-- How rules end, and what those say of the rest that look at a value alone.
use Rattle.std.proofs.Common.{◌≡◌, subst, Bool, true, false, Option, Some, None}
use Rattle.c_check_types.specs.State.{State, Rule, followed, ◌>>=◌, ◌>>◌, given, only_if}
use Rattle.c_check.proofs.States.{Good, Quiet, Steps, Does}
use Rattle.c_check.proofs.Extension.{quiet-onward, quiet-steps, steps-onward}

module _ (R : State → State → Type 0) where
  -- a rule whose answer and state are known
  pub ends : {A : Type 0} (x : A) (s v : State) (P : State → A → Type 0) → Good v → R s v → P v x
      → (a : A) (t : State) → ◌≡◌ {A = Option (A × State)} (Some (x, v)) (Some (a, t)) → Good t × R s t × P t a
  ends {A} x s v P g r p a t e =
      let q : ◌≡◌ {A = A × State} (x, v) (a, t) = cc in
      subst (λ (z : A × State). Good z.1 × R s z.1 × P z.1 z.0) q (g, r, p)

  pub given-then : {A B : Type 0} (o : Option A) (next : A → Rule B) (s : State) (Q : State → B → Type 0)
      → ((a : A) → o ≡ Some a → Does R (next a) s Q) → Does R (given o >>= next) s Q
  given-then None next s Q f b u e = let q : None ≡ Some (b, u) = e in absurd (cc)
  given-then (Some a) next s Q f b u e = f a (λ i. Some a) b u e

  pub given-ends : {A : Type 0} (o : Option A) (s : State) (P : State → A → Type 0) → Good s → R s s
      → ((a : A) → o ≡ Some a → P s a) → Does R (given o) s P
  given-ends None s P g r f b u e = let q : None ≡ Some (b, u) = e in absurd (cc)
  given-ends (Some a) s P g r f b u e = ends a s s P g r (f a (λ i. Some a)) b u e

  pub only-then : {B : Type 0} (b : Bool) (next : Rule B) (s : State) (Q : State → B → Type 0)
      → (b ≡ true → Does R next s Q) → Does R (only_if b >> next) s Q
  only-then false next s Q f b u e = let q : None ≡ Some (b, u) = e in absurd (cc)
  only-then true next s Q f b u e = f (λ i. true) b u e

-- a rule, and one that takes its answer
abbrev pub Is : (R : State → State → Type 0) → {A : Type 0} → Option (A × State) → State → (State → A → Type 0) → Type 0
Is R {A} o s P = (a : A) (t : State) → ◌≡◌ {A = Option (A × State)} o (Some (a, t)) → Good t × R s t × P t a

pub step : (R : State → State → Type 0) (onward : (s t u : State) → R s t → R t u → R s u) {A B : Type 0} (o : Option (A × State)) (next : A → Rule B) (s : State)
    (P : State → A → Type 0) (Q : State → B → Type 0) → Is R o s P
    → ((a : A) (t : State) → Good t → R s t → P t a → Is R (next a t) t Q) → Is R (followed o next) s Q
step R onward None next s P Q does f b u e = let q : None ≡ Some (b, u) = e in absurd (cc)
step R onward (Some (a, t)) next s P Q does f b u e =
    let d = does a t (λ i. Some (a, t)) in
    let r = f a t d.0 d.1 d.2 b u e in
    (r.0, onward s t u d.1 r.1, r.2)

pub quietly : {A B : Type 0} {o : Option (A × State)} {next : A → Rule B} (s : State) {P : State → A → Type 0} {Q : State → B → Type 0}
    → ((a : A) (t : State) → ◌≡◌ {A = Option (A × State)} o (Some (a, t)) → Good t × Quiet s t × P t a)
    → ((a : A) (t : State) → Good t → Quiet s t → P t a → (b : B) (u : State) → ◌≡◌ {A = Option (B × State)} (next a t) (Some (b, u)) → Good u × Quiet t u × Q u b)
    → (b : B) (u : State) → ◌≡◌ {A = Option (B × State)} (followed o next) (Some (b, u)) → Good u × Quiet s u × Q u b
quietly {o = o} {next = next} s {P = P} {Q = Q} does f = step Quiet quiet-onward o next s P Q does f

pub stepping : {A B : Type 0} {o : Option (A × State)} {next : A → Rule B} (s : State) {P : State → A → Type 0} {Q : State → B → Type 0}
    → ((a : A) (t : State) → ◌≡◌ {A = Option (A × State)} o (Some (a, t)) → Good t × Steps s t × P t a)
    → ((a : A) (t : State) → Good t → Steps s t → P t a → (b : B) (u : State) → ◌≡◌ {A = Option (B × State)} (next a t) (Some (b, u)) → Good u × Steps t u × Q u b)
    → (b : B) (u : State) → ◌≡◌ {A = Option (B × State)} (followed o next) (Some (b, u)) → Good u × Steps s u × Q u b
stepping {o = o} {next = next} s {P = P} {Q = Q} does f = step Steps steps-onward o next s P Q does f

-- what a quiet rule does, as one of statements
pub steadily : {A : Type 0} {o : Option (A × State)} (s : State) {P : State → A → Type 0}
    → ((a : A) (t : State) → ◌≡◌ {A = Option (A × State)} o (Some (a, t)) → Good t × Quiet s t × P t a)
    → (a : A) (t : State) → ◌≡◌ {A = Option (A × State)} o (Some (a, t)) → Good t × Steps s t × P t a
steadily s does a t e = let d = does a t e in (d.0, quiet-steps s t d.1, d.2)

-- a quiet rule in front of one of statements
pub calmly : {A B : Type 0} {o : Option (A × State)} {next : A → Rule B} (s : State) {P : State → A → Type 0} {Q : State → B → Type 0}
    → ((a : A) (t : State) → ◌≡◌ {A = Option (A × State)} o (Some (a, t)) → Good t × Quiet s t × P t a)
    → ((a : A) (t : State) → Good t → Quiet s t → P t a → (b : B) (u : State) → ◌≡◌ {A = Option (B × State)} (next a t) (Some (b, u)) → Good u × Steps t u × Q u b)
    → (b : B) (u : State) → ◌≡◌ {A = Option (B × State)} (followed o next) (Some (b, u)) → Good u × Steps s u × Q u b
calmly {A} {o = o} {next = next} s {P = P} {Q = Q} does f =
    step Steps steps-onward o next s (λ t a. Quiet s t × P t a) Q (λ a t e. let d = does a t e in (d.0, quiet-steps s t d.1, (d.1, d.2)))
    (λ a t good q p. f a t good p.0 p.1)

-- what a rule does at a state, it does from one in front of it
pub behind : {A : Type 0} {o : Option (A × State)} (s v : State) {P : State → A → Type 0} → Steps s v
    → ((a : A) (t : State) → ◌≡◌ {A = Option (A × State)} o (Some (a, t)) → Good t × Steps v t × P t a)
    → (a : A) (t : State) → ◌≡◌ {A = Option (A × State)} o (Some (a, t)) → Good t × Steps s t × P t a
behind s v r does a t e = let d = does a t e in (d.0, steps-onward s v t r d.1, d.2)
