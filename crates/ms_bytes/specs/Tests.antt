-- Formats with tests: of a value, of the text of an item, of a longest run; places; and faults that stand where an item begins.
use Rattle.std.specs.Prelude.{◌≡◌, ℕ, Bool, true, List, [], ◌++◌, length, take, drop, Ok}
use Rattle.std.proofs.Common.{ap}
use Rattle.ms_bytes.specs.Reading.{blamed}
use Rattle.ms_bytes.specs.ResultLaws.{blamed_ok}
use Rattle.ms_bytes.specs.Format.{Format}
use Rattle.ms_bytes.specs.Texts.{IsRun, check_at, front_at, marks_at, only_at, run_len, text_before, from_text_at}
use Rattle.ms_bytes.specs.TextLaws.{append_fits, check_again, check_fits, check_takes, front_again, front_takes, left_again, left_fits, left_takes, longest_again, longest_takes, marks_again, marks_takes, only_again, only_takes, rest_again, rest_fits, rest_takes, from_text_again, from_text_takes}

-- an item that passes a test, which is given its value and its text, else a fault where it begins
abbrev pub only : {E F A : Type 0} → (A → List E → Bool) → (ℕ → List E → F) → Format E F A → Format E F A
only test fault f = record {
  read = only_at test fault f.read;
  spelled = λ s x t. f.spelled s x t × (test x (text_before s t) ≡ true);
  takes = only_takes test fault f;
  again = only_again test fault f;
  least = f.least;
  fits = λ s x t h. f.fits s x t h.0;
}

-- a function of an item's text, in place of the item
abbrev pub from_text : {E F A B : Type 0} → (List E → B) → Format E F A → Format E F B
from_text {E} {F} {A} {B} g f = record {
  read = from_text_at g f.read;
  spelled = λ s y t. (x : A) × f.spelled s x t × (y ≡ g (text_before s t));
  takes = from_text_takes g f;
  again = from_text_again g f;
  least = f.least;
  fits = λ s y t h. f.fits s h.0 t h.1;
}

-- an item whose every fault stands where it begins; G tells what the fault was
abbrev pub whole : {E F G A : Type 0} → (ℕ → List E → G → F) → Format E G A → Format E F A
whole {E} {F} {G} {A} fault f = record {
  read = λ end s. blamed (fault end s) (f.read end s);
  spelled = f.spelled;
  takes = λ end s x t e. f.takes end s x t (blamed_ok (fault end s) (f.read end s) (x, t) e);
  again = λ end s x t h. ap (blamed (fault end s)) (f.again end s x t h);
  least = f.least;
  fits = f.fits;
}

-- nothing, where a test holds, else a fault here
abbrev pub check : {E F : Type 0} → (ℕ → List E → F) → Bool → Format E F (Unit {0})
check fault b = record {
  read = check_at fault b;
  spelled = λ s x t. (b ≡ true) × (s ≡ t);
  takes = check_takes fault b;
  again = check_again fault b;
  least = 0;
  fits = check_fits b;
}

-- these bytes
abbrev pub marks : {F : Type 0} → (ℕ → List ℕ → F) → List ℕ → Format ℕ F (Unit {0})
marks fault bytes = record {
  read = marks_at fault bytes;
  spelled = λ s x t. s ≡ bytes ++ t;
  takes = marks_takes fault bytes;
  again = marks_again fault bytes;
  least = 0;
  fits = λ s x t h. append_fits s bytes t h;
}

-- so many items, of which a missing one is a fault where the text ends
abbrev pub front : {E F : Type 0} → (ℕ → List E → F) → ℕ → Format E F (List E)
front {E} fault n = record {
  read = front_at fault n;
  spelled = λ s x t. (length x ≡ n) × (s ≡ x ++ t);
  takes = front_takes fault n;
  again = front_again fault n;
  least = 0;
  fits = λ s x t h. append_fits s x t h.1;
}

-- the longest run of items that pass a test
abbrev pub longest : {E F : Type 0} → (E → Bool) → Format E F (List E)
longest {E} {F} test = record {
  read = λ end s. Ok (take (run_len test s) s, drop (run_len test s) s);
  spelled = λ s x t. IsRun test s x t;
  takes = λ end s x t e. longest_takes {F = F} test s x t e;
  again = λ end s x t h. longest_again {F = F} test s x t h;
  least = 0;
  fits = λ s x t h. append_fits s x t h.0;
}

-- a function of what is left, of which nothing is taken
abbrev pub seen : {E F A : Type 0} → (List E → A) → Format E F A
seen {E} {F} f = record {
  read = λ end s. Ok (f s, s);
  spelled = λ s x t. (x ≡ f s) × (s ≡ t);
  takes = λ end s x t e. left_takes {F = F} f s x t e;
  again = λ end s x t h. left_again {F = F} f s x t h;
  least = 0;
  fits = left_fits f;
}

-- all that is left
abbrev pub rest : {E F : Type 0} → Format E F (List E)
rest {E} {F} = record {
  read = λ end s. Ok (s, []);
  spelled = λ s x t. (x ≡ s) × (t ≡ []);
  takes = λ end s x t e. rest_takes {F = F} s x t e;
  again = λ end s x t h. rest_again {F = F} s x t h;
  least = 0;
  fits = λ s x t h. rest_fits s t h.1;
}
