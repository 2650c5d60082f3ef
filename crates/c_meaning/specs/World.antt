-- What a program acts on (C11, 5.1.2.3), and how what it does goes on or ends.
use Rattle.std.specs.Prelude.{ℕ, zero, suc, List, [], ◌∷◌, ◌++◌, Bool, Option, Some, None}
use Rattle.c_meaning.specs.Values.{Value}
use Rattle.c_meaning.specs.Objects.{Object, Outcome, Unsafe}
use Rattle.c_meaning.specs.Objects as objects

pub data End : Type 0 where
  -- of `main`, if it gives one
  result : Option Value → End
  unsafe : Unsafe → End
  -- a division by zero, a quotient that doesn't fit, and `abort`
  zero_divide overflow abort : End
  -- a call of a null function pointer, and one that is too deep
  null_call deep : End
  -- an object is refused, or no grant is left to ask
  exhausted ungranted : End
  out_of_fuel : End
  -- no well-typed unit comes to this
  lost : End

-- what a variable is: a value, or the number of its object
pub data Held : Type 0 where
  plain : Value → Held
  object : ℕ → Held

pub record World : Type 0 where
  pub objects : List Object
  -- the objects of the string literals that are made so far
  pub literals : List ℕ
  pub globals : List Held
  -- by slot, of the function that is carried out
  pub locals : List Held
  -- how many calls are open
  pub depth : ℕ
  -- how many iterations of loops and calls may still come
  pub fuel : ℕ
  -- what the next takes of the input give: a byte, or that there is none; behind these there is none
  pub input : List (Option ℕ)
  pub output : List ℕ
  -- whether the next creations of objects succeed
  pub grants : List Bool
  -- in bytes, of the objects whose creation took a grant
  pub sizes : List ℕ

pub data Result (A : Type 0) : Type 0 where
  gives : A → World → Result A
  ends : End → World → Result A

abbrev pub Does : Type 0 → Type 0
Does A = World → Result A

abbrev pub after : {A B : Type 0} → Result A → (A → World → Result B) → Result B
after (gives a w) go = go a w
after (ends e w) go = ends e w

infixl 20 ◌>>=◌
infixl 20 ◌>>◌
-- one behind the other (5.1.2.3, paragraph 3)
abbrev pub ◌>>=◌ : {A B : Type 0} → Does A → (A → Does B) → Does B
◌>>=◌ m f = λ w. after (m w) f

abbrev pub ◌>>◌ : {A B : Type 0} → Does A → Does B → Does B
◌>>◌ m n = λ w. after (m w) (λ a. n)

abbrev pub pure : {A : Type 0} → A → Does A
pure a = λ w. gives a w

abbrev pub stop : {A : Type 0} → End → Does A
stop e = λ w. ends e w

abbrev pub known : {A : Type 0} → Option A → Does A
known None = stop lost
known (Some a) = pure a

-- what the world says
abbrev pub look : {A : Type 0} → (World → A) → Does A
look f = λ w. gives (f w) w

abbrev pub change : (World → World) → Does (Unit {0})
change f = λ w. gives tt (f w)

-- ---- objects

abbrev pub as_done : {A : Type 0} → Outcome A → Does A
as_done (objects.gives a) = pure a
as_done (objects.stops u) = stop (unsafe u)
as_done objects.lost = stop lost

-- what the objects give
abbrev pub ask : {A : Type 0} → (List Object → Outcome A) → Does A
ask f = λ w. as_done (f w.objects) w

-- what becomes of them
abbrev pub alter : (List Object → Outcome (List Object)) → Does (Unit {0})
alter f = ask f >>= (λ os. change (λ w. record w { objects = os }))

-- ---- fuel

abbrev pub spend : Does (Unit {0})
spend = λ w. spent w.fuel w where
  spent : ℕ → World → Result (Unit {0})
  spent zero w = ends out_of_fuel w
  spent (suc n) w = gives tt (record w { fuel = n })

-- ---- input and output (7.21.7)

abbrev pub write_byte : ℕ → Does (Unit {0})
write_byte b = change (λ w. record w { output = w.output ++ b ∷ [] })

abbrev pub took : List (Option ℕ) → World → Result (Option ℕ)
took [] w = gives None w
took (b ∷ bs) w = gives b (record w { input = bs })

-- a byte, or none at the end
abbrev pub take_byte : Does (Option ℕ)
take_byte = λ w. took w.input w
