-- What is seen of a source and a sink over several calls.
use Rattle.std.proofs.Common.{◌≡◌, ℕ, Bool, true, false, List, [], ◌∷◌, ◌++◌, map, Option, Some, None, refl, sym, ap, subst, ◌∙◌, append-nil, append_assoc}
use Rattle.ms_outside.specs.Sink.{IsFront, Puts}
use Rattle.ms_outside.specs.refinement.Source.{GivesByte, Takes}
use Rattle.ms_outside.specs.declared.sink.Put.TheVariants as puts
use Rattle.ms_outside.specs.declared.source.Got.TheVariants as gots
use Rattle.ms_machine.specs.Moves.{first_of, rest_of}
use Rattle.ms_machine.specs.Running.{IsByte, IsLeft, MayGive, TellsAlike}
use Rattle.ms_machine.specs.refinement.Stepped.{InputAfter, OutAfter, got_of}

abbrev pub Input : Type 0
Input = List (Option ℕ)

abbrev pub Content : Type 0
Content = Option (List ℕ)

-- ---- what is left

pub left_all : (input : Input) → IsLeft input input
left_all input = ([], refl)

pub left_trans : (rest mid input : Input) → IsLeft rest mid → IsLeft mid input → IsLeft rest input
left_trans rest mid input a b = (b.0 ++ a.0, b.1 ∙ ap (λ xs. b.0 ++ xs) a.1 ∙ sym (append_assoc b.0 a.0 rest))

pub left_rest : (took : Bool) (input : Input) → IsLeft (rest_of took input) input
left_rest true [] = ([], refl)
left_rest true (got ∷ later) = (got ∷ [], refl)
left_rest false input = ([], refl)

pub some_input : (left : Content) → (input : Input) × MayGive left input
some_input None = ([], tt)
some_input (Some bytes) = (map Some bytes, refl)

-- ---- telling

pub tells_same : (left : Content) → TellsAlike left left
tells_same None = refl
tells_same (Some bytes) = (bytes, refl)

pub tells_trans : (a b c : Content) → TellsAlike a b → TellsAlike b c → TellsAlike a c
tells_trans None b c x y = subst (λ (l : Content). TellsAlike l c) x y
tells_trans (Some bytes) b c x y = subst (λ (l : Content). TellsAlike l c) x.1 y

pub tells_after : (took : Bool) (got : Option ℕ) (left left' : Content) → InputAfter took got left left' → TellsAlike left left'
tells_after false got left left' is = subst (λ (l : Content). TellsAlike left l) (sym is) (tells_same left)
tells_after true got None left' is = is.0
tells_after true None (Some bytes) left' is = ([], is.0.1)
tells_after true (Some b) (Some bytes) left' is = (is.0.0, is.0.2)

-- a take that fails takes nothing
pub none_taken : (left left' : Content) → Takes gots.Failed left left' → left' ≡ left
none_taken None left' h = h
none_taken (Some bytes) left' h = h

-- ---- the input before a step, for each that may come after it

pub record Before (took : Bool) (got : Option ℕ) (left : Content) (rest : Input) : Type 0 where
  pub input : Input
  pub may : MayGive left input
  pub left_is : IsLeft rest input
  pub first : took ≡ true → first_of input ≡ got
  pub rest_is : rest_of took input ≡ rest

is_byte : (got : Option ℕ) → GivesByte (got_of got) → IsByte got
is_byte None gives = tt
is_byte (Some b) gives = gives

pub before : (took : Bool) (got : Option ℕ) (left left' : Content) → InputAfter took got left left' → (rest : Input) → MayGive left' rest → Before took got left rest
before false got left left' is rest may = record {
  input = rest;
  may = subst (λ (l : Content). MayGive l rest) is may;
  left_is = ([], refl);
  first = λ e. cc;
  rest_is = refl;
}
before true got None left' is rest may = record { input = got ∷ rest; may = (is_byte got is.1, subst (λ (l : Content). MayGive l rest) is.0 may); left_is = (got ∷ [], refl); first = λ e. refl; rest_is = refl }
before true None (Some bytes) left' is rest may =
    let none : rest ≡ [] = subst (λ (l : Content). MayGive l rest) is.0.1 may in
    record {
      input = [];
      may = ap (map Some) (sym is.0.0);
      left_is = ([], sym none);
      first = λ e. refl;
      rest_is = sym none;
    }
before true (Some b) (Some bytes) left' is rest may =
    let later : rest ≡ map Some is.0.0 = subst (λ (l : Content). MayGive l rest) is.0.2 may in
    record {
      input = Some b ∷ rest;
      may = ap (λ xs. Some b ∷ xs) later ∙ sym (ap (map Some) is.0.1);
      left_is = (Some b ∷ [], refl);
      first = λ e. refl;
      rest_is = refl;
    }

-- ---- puts

-- the byte, if there is one, in front of later ones
abbrev pub with_byte : Option ℕ → List ℕ → List ℕ
with_byte None bytes = bytes
with_byte (Some b) bytes = b ∷ bytes

pub puts_none : (held held' : Content) → held' ≡ held → Puts puts.Done [] held held'
puts_none None held' same = same
puts_none (Some bytes) held' same = same ∙ ap Some (sym (append-nil bytes))

pub puts_on : (a b : List ℕ) (held mid held' : Content) → Puts puts.Done a held mid → Puts puts.Done b mid held' → Puts puts.Done (a ++ b) held held'
puts_on a b None mid held' x y = subst (λ (h : Content). Puts puts.Done b h held') x y
puts_on a b (Some bytes) mid held' x y =
    let both : held' ≡ Some ((bytes ++ a) ++ b) = subst (λ (h : Content). Puts puts.Done b h held') x y in
    both ∙ ap Some (append_assoc bytes a b)

pub puts_after : (put : Option ℕ) (held held' : Content) → OutAfter put held held' → Puts puts.Done (with_byte put []) held held'
puts_after None held held' is = puts_none held held' is
puts_after (Some b) held held' is = is

-- a put that failed has put a front
pub front_put : (piece : List ℕ) (held held' : Content) → Puts puts.Failed piece held held' → (front : List ℕ) × IsFront front piece × Puts puts.Done front held held'
front_put piece None held' h = ([], (piece, refl), h)
front_put piece (Some bytes) held' h = (h.0, h.1, h.2)
