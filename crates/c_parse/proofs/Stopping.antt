-- Where tokens stop is one place, and they are no unit then.
use Rattle.std.proofs.Common.{◌≡◌, ◌⊎◌, inl, inr, ℕ, List, [], ◌∷◌, ◌++◌, Result, Ok, Err, MatchResult, refl, sym, ◌∙◌, ap, subst, append_assoc}
use Rattle.c_token.specs.declared.word.Token.{Token}
use Rattle.c_tree.specs.declared.external.External.{External}
use Rattle.c_tree.specs.Grammar.{IsUnit}
use Rattle.c_parse_steps.proofs.Lists.{append_nil}
use Rattle.c_parse_steps.proofs.Units.{one_unit}
use Rattle.c_parse.specs.declared.fault.CParse.{CParse}
use Rattle.c_parse.specs.declared.fault.CParse.TheVariants.{Syntax, TooDeep, Memory}
use Rattle.c_parse.specs.Units.{Parses, Begins, NoneBegins, Stops, syntax, too_deep, unfinished, ParsesTo}

-- how two fronts with a token more lie in one list
data Meet (xs ys : List Token) (a b : Token) : Type 0 where
  same : xs ≡ ys → a ≡ b → Meet xs ys a b
  before : (m : List Token) → ys ≡ (xs ++ a ∷ []) ++ m → Meet xs ys a b
  behind : (m : List Token) → xs ≡ (ys ++ b ∷ []) ++ m → Meet xs ys a b

further : (x y : Token) (xs ys : List Token) (a b : Token) → x ≡ y → Meet xs ys a b → Meet (x ∷ xs) (y ∷ ys) a b
further x y xs ys a b k (same e f) = same (cc) f
further x y xs ys a b k (before m e) = before m (cc)
further x y xs ys a b k (behind m e) = behind m (cc)

meet : (xs ys : List Token) (a b : Token) (r q : List Token) → xs ++ a ∷ r ≡ ys ++ b ∷ q → Meet xs ys a b
meet [] [] a b r q e = same refl (cc)
meet [] (y ∷ ys) a b r q e = let k : y ≡ a = cc in before ys (ap (λ z. z ∷ ys) k)
meet (x ∷ xs) [] a b r q e = let k : x ≡ b = cc in behind xs (ap (λ z. z ∷ xs) k)
meet (x ∷ xs) (y ∷ ys) a b r q e =
    let k : x ≡ y = cc in
    let t : xs ++ a ∷ r ≡ ys ++ b ∷ q = cc in
    further x y xs ys a b k (meet xs ys a b r q t)

begins_front : (limit : ℕ) (front more : List Token) → Begins limit (front ++ more) → Begins limit front
begins_front limit front more b =
    let P : List Token → Type 0 = λ x. IsUnit x b.unit in
    record { rest = more ++ b.rest; unit = b.unit; is_unit = subst P (append_assoc front more b.rest) b.is_unit; low = b.low }

-- the place where tokens stop
record Place (tokens front : List Token) (t : Token) : Type 0 where
  rest : List Token
  split : tokens ≡ front ++ t ∷ rest
  begun : Begins 200 front
  none : NoneBegins 200 (front ++ t ∷ [])

-- no longer part of the tokens begins a unit
none_longer : (tokens front : List Token) (t : Token) (more all : List Token) → Place tokens front t → all ≡ (front ++ t ∷ []) ++ more → Begins 200 all → ⊥
none_longer tokens front t more all p e b =
    let P : List Token → Type 0 = λ x. Begins 200 x in
    p.none (begins_front 200 (front ++ t ∷ []) more (subst P e b))

record SamePlace (f g : List Token) (t u : Token) : Type 0 where
  fronts : f ≡ g
  tokens : t ≡ u

same_place : (tokens f g : List Token) (t u : Token) → Place tokens f t → Place tokens g u → SamePlace f g t u
same_place tokens f g t u p q = by_meet (meet f g t u p.rest q.rest (sym p.split ∙ q.split))
  where
    by_meet : Meet f g t u → SamePlace f g t u
    by_meet (same e k) = record { fronts = e; tokens = k }
    by_meet (before m e) = absurd (none_longer tokens f t m g p e q.begun)
    by_meet (behind m e) = absurd (none_longer tokens g u m f q e p.begun)

not_all : (tokens f : List Token) (t : Token) → Place tokens f t → Begins 200 tokens → ⊥
not_all tokens f t p b = none_longer tokens f t p.rest tokens p (p.split ∙ sym (append_assoc f (t ∷ []) p.rest)) b

pub one_stop : (tokens : List Token) (end : ℕ) (a b : CParse) → Stops tokens end a → Stops tokens end b → a ≡ b
one_stop tokens end _ _ (syntax f t r e b n) (syntax g u q d c m) =
    let s = same_place tokens f g t u (record { rest = r; split = e; begun = b; none = n 200 }) (record { rest = q; split = d; begun = c; none = m 200 }) in
    ap (λ (x : Token). Syntax x.at) s.tokens
one_stop tokens end _ _ (syntax f t r e b n) (too_deep g u q limit d c l m) =
    let s = same_place tokens f g t u (record { rest = r; split = e; begun = b; none = n 200 }) (record { rest = q; split = d; begun = c; none = m }) in
    let P : List Token → Type 0 = λ x. Begins limit x in
    let k : g ++ u ∷ [] ≡ f ++ t ∷ [] = cc (s.fronts, s.tokens) in
    absurd (n limit (subst P k l))
one_stop tokens end _ _ (syntax f t r e b n) (unfinished c m) = absurd (not_all tokens f t (record { rest = r; split = e; begun = b; none = n 200 }) c)
one_stop tokens end _ _ (too_deep f t r limit e b l n) (syntax g u q d c m) =
    let s = same_place tokens f g t u (record { rest = r; split = e; begun = b; none = n }) (record { rest = q; split = d; begun = c; none = m 200 }) in
    let P : List Token → Type 0 = λ x. Begins limit x in
    let k : f ++ t ∷ [] ≡ g ++ u ∷ [] = cc (s.fronts, s.tokens) in
    absurd (m limit (subst P k l))
one_stop tokens end _ _ (too_deep f t r limit e b l n) (too_deep g u q bound d c k m) =
    let s = same_place tokens f g t u (record { rest = r; split = e; begun = b; none = n }) (record { rest = q; split = d; begun = c; none = m }) in
    ap (λ (x : Token). TooDeep x.at) s.tokens
one_stop tokens end _ _ (too_deep f t r limit e b l n) (unfinished c m) = absurd (not_all tokens f t (record { rest = r; split = e; begun = b; none = n }) c)
one_stop tokens end _ _ (unfinished b n) (syntax g u q d c m) = absurd (not_all tokens g u (record { rest = q; split = d; begun = c; none = m 200 }) b)
one_stop tokens end _ _ (unfinished b n) (too_deep g u q limit d c l m) = absurd (not_all tokens g u (record { rest = q; split = d; begun = c; none = m }) b)
one_stop tokens end _ _ (unfinished b n) (unfinished c m) = refl

all_begins : (tokens : List Token) (whole : List External) → Parses tokens whole → Begins 200 tokens
all_begins tokens whole p =
    let P : List Token → Type 0 = λ x. IsUnit x whole in
    record { rest = []; unit = whole; is_unit = subst P (sym (append_nil tokens)) p.is_unit; low = p.low }

pub no_stop : (tokens : List Token) (end : ℕ) (e : CParse) (whole : List External) → Stops tokens end e → Parses tokens whole → ⊥
no_stop tokens end _ whole (syntax f t r e b n) p = not_all tokens f t (record { rest = r; split = e; begun = b; none = n 200 }) (all_begins tokens whole p)
no_stop tokens end _ whole (too_deep f t r limit e b l n) p = not_all tokens f t (record { rest = r; split = e; begun = b; none = n }) (all_begins tokens whole p)
no_stop tokens end _ whole (unfinished b n) p = n whole p.is_unit

-- ---- the clauses of the parser

pub only_one : (tokens : List Token) (end : ℕ) (r : Result (List External) CParse) (whole : List External) → ParsesTo tokens end r → Parses tokens whole → MatchResult r (λ u. u ≡ whole) (λ e. e ≡ Memory)
only_one tokens end (Ok other) whole a p = one_unit tokens other whole a.is_unit p.is_unit
only_one tokens end (Err (Syntax at)) whole a p = absurd (no_stop tokens end (Syntax at) whole a p)
only_one tokens end (Err (TooDeep at)) whole a p = absurd (no_stop tokens end (TooDeep at) whole a p)
only_one tokens end (Err Memory) whole a p = refl

pub stop_given : (tokens : List Token) (end : ℕ) (r : Result (List External) CParse) (e : CParse) → ParsesTo tokens end r → Stops tokens end e → (r ≡ Err e) ⊎ (r ≡ Err Memory)
stop_given tokens end (Ok whole) e a s = absurd (no_stop tokens end e whole s a)
stop_given tokens end (Err (Syntax at)) e a s = inl (ap (λ x. Err x) (one_stop tokens end (Syntax at) e a s))
stop_given tokens end (Err (TooDeep at)) e a s = inl (ap (λ x. Err x) (one_stop tokens end (TooDeep at) e a s))
stop_given tokens end (Err Memory) e a s = inr refl
