-- What it is to read a line, and a number at the front of what is left of it.
use Rattle.std.specs.Prelude.{◌≡◌, ℕ, ◌+◌, ◌<◌, List, [], ◌∷◌, ◌++◌, Bool, Option, Some, IfSome}
use Rattle.std.specs.Fmt.{decimal}
use Rattle.ms_event.specs.declared.event.Event.{Event}
use Rattle.ms_event.specs.Text.{IsId, IsInRange, IsWord, ending, numbers, text}

-- this is what a line is read as: an event of this text, and each event of this text
pub record Reads (line : List ℕ) (result : Option Event) : Type 0 where
  pub found : IfSome result (λ e. line ≡ text e)
  pub only : (e : Event) → IsInRange e → line ≡ text e → result ≡ Some e

-- no digit stands in front
abbrev pub IsStop : List ℕ → Type 0
IsStop [] = Unit {0}
IsStop (c ∷ cs) = (d : ℕ) → d < 10 → c ≡ 48 + d → ⊥

-- the number of these digits is read from the front of old, and new is left; so is each number of this kind behind which no digit stands
pub record ReadsDigits (IsKind : ℕ → Type 0) (old new : List ℕ) (result : Option ℕ) : Type 0 where
  pub found : IfSome result (λ n. IsKind n × (old ≡ decimal n ++ new))
  pub only : (n : ℕ) (rest : List ℕ) → IsKind n → IsStop rest → old ≡ decimal n ++ rest → (result ≡ Some n) × (new ≡ rest)

-- the same for a space and a number, before more numbers
pub record ReadsNumber (IsKind : ℕ → Type 0) (old new : List ℕ) (result : Option ℕ) : Type 0 where
  pub found : IfSome result (λ n. IsKind n × (old ≡ 32 ∷ decimal n ++ new))
  pub only : (n : ℕ) (ns : List ℕ) → IsKind n → old ≡ numbers (n ∷ ns) → (result ≡ Some n) × (new ≡ numbers ns)

-- the same for two numbers
pub record ReadsPair (IsKind : ℕ → Type 0) (old new : List ℕ) (result : Option (ℕ × ℕ)) : Type 0 where
  pub found : IfSome result (λ p. IsKind p.0 × IsKind p.1 × (old ≡ 32 ∷ decimal p.0 ++ (32 ∷ decimal p.1 ++ new)))
  pub only : (m n : ℕ) (ns : List ℕ) → IsKind m → IsKind n → old ≡ numbers (m ∷ n ∷ ns) → (result ≡ Some (m, n)) × (new ≡ numbers ns)

-- these are all the numbers of old
pub record ReadsOne (IsKind : ℕ → Type 0) (old : List ℕ) (result : Option ℕ) : Type 0 where
  pub found : IfSome result (λ n. old ≡ numbers (n ∷ []))
  pub only : (n : ℕ) → IsKind n → old ≡ numbers (n ∷ []) → result ≡ Some n

-- an identity and two more
pub record ReadsThree (old : List ℕ) (result : Option (ℕ × (ℕ × ℕ))) : Type 0 where
  pub found : IfSome result (λ r. old ≡ numbers (r.0 ∷ r.1.0 ∷ r.1.1 ∷ []))
  pub only : (id a b : ℕ) → IsId id → IsWord a → IsWord b → old ≡ numbers (id ∷ a ∷ b ∷ []) → result ≡ Some (id, (a, b))

-- an identity and four more
pub record ReadsFive (old : List ℕ) (result : Option (ℕ × (ℕ × ℕ) × (ℕ × ℕ))) : Type 0 where
  pub found : IfSome result (λ r. old ≡ numbers (r.0 ∷ r.1.0 ∷ r.1.1 ∷ r.2.0 ∷ r.2.1 ∷ []))
  pub only : (id a b c d : ℕ) → IsId id → IsWord a → IsWord b → IsWord c → IsWord d → old ≡ numbers (id ∷ a ∷ b ∷ c ∷ d ∷ []) → result ≡ Some (id, (a, b), (c, d))

-- the same, and whether the word of a sealed handle ends the line behind them
pub record ReadsEnded (old : List ℕ) (result : Option (ℕ × (ℕ × ℕ) × (ℕ × ℕ) × Bool)) : Type 0 where
  pub found : IfSome result (λ r. old ≡ numbers (r.0 ∷ r.1.0 ∷ r.1.1 ∷ r.2.0 ∷ r.2.1 ∷ []) ++ ending r.3)
  pub only : (id a b c d : ℕ) (sealed : Bool) → IsId id → IsWord a → IsWord b → IsWord c → IsWord d → old ≡ numbers (id ∷ a ∷ b ∷ c ∷ d ∷ []) ++ ending sealed → result ≡ Some (id, (a, b), (c, d), sealed)
