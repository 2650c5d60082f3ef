-- The parts that formats are made of: nothing, an item, one format behind another, one by what stands in front.
use Rattle.std.specs.Prelude.{◌≡◌, ◌≤◌, ℕ, Bool, true, false, Option, List, [], length, Ok, Err}
use Rattle.ms_bytes.specs.Reading.{◌>>=◌}
use Rattle.ms_bytes.specs.Format.{Format}
use Rattle.ms_bytes.specs.Items.{ItemSpelled, ended_at, item_at}
use Rattle.ms_bytes.specs.PartLaws.{any_least, ended_again, ended_fits, ended_takes, fits_least, item_again, item_fits, item_takes, pure_again, pure_fits, pure_takes, seq_again, seq_fits, seq_takes}
use Rattle.ms_bytes.specs.ResultLaws.{not_refused}

-- one after the other
abbrev pub seq : {E F A B : Type 0} → Format E F A → (A → Format E F B) → Format E F B
seq {E} {F} {A} {B} a f = record {
  read = λ end s. a.read end s >>= λ x. (f x.0).read end x.1;
  spelled = λ s y t. (x : A) × (m : List E) × a.spelled s x m × (f x).spelled m y t;
  takes = seq_takes a f;
  again = seq_again a f;
  least = a.least;
  fits = seq_fits a f;
}

-- nothing, and a value for it
abbrev pub pure : {E F A : Type 0} → A → Format E F A
pure {E} {F} {A} v = record {
  read = λ end s. Ok (v, s);
  spelled = λ s x t. (x ≡ v) × (s ≡ t);
  takes = pure_takes {F = F} v;
  again = pure_again {F = F} v;
  least = 0;
  fits = pure_fits v;
}

-- no text at all
abbrev pub never : {E F A : Type 0} → (ℕ → List E → F) → Format E F A
never {E} {F} {A} fault = record {
  read = λ end s. Err (fault end s);
  spelled = λ s x t. ⊥;
  takes = λ end s x t e. not_refused {A = A × List E} (fault end s) (x, t) e;
  again = λ end s x t h. absurd h;
  least = 1;
  fits = λ s x t h. absurd h;
}

-- one item that is a value, else a fault there
abbrev pub item : {E F A : Type 0} → (ℕ → List E → F) → (E → Option A) → Format E F A
item fault f = record { read = item_at fault f; spelled = ItemSpelled f; takes = item_takes fault f; again = item_again fault f; least = 1; fits = item_fits f }

-- what stands in front tells which format it is; each of them takes n items at the least
abbrev pub choose_least : {E F A K : Type 0} → (n : ℕ) → (List E → K) → (f : K → Format E F A) → ((k : K) → n ≤ (f k).least) → Format E F A
choose_least n look f enough = record {
  read = λ end s. (f (look s)).read end s;
  spelled = λ s x t. (f (look s)).spelled s x t;
  takes = λ end s x t e. (f (look s)).takes end s x t e;
  again = λ end s x t h. (f (look s)).again end s x t h;
  least = n;
  fits = λ s x t h. fits_least n (f (look s)).least (length s) (length t) (enough (look s)) ((f (look s)).fits s x t h);
}

abbrev pub choose : {E F A K : Type 0} → (List E → K) → (K → Format E F A) → Format E F A
choose look f = choose_least 0 look f (λ k. any_least (f k).least)

-- one format or another, by a test
abbrev pub either : {E F A : Type 0} → Bool → Format E F A → Format E F A → Format E F A
either true a b = a
either false a b = b

-- the end of the text
abbrev pub ended : {E F : Type 0} → (ℕ → List E → F) → Format E F (Unit {0})
ended fault = record {
  read = ended_at fault;
  spelled = λ s x t. (s ≡ []) × (t ≡ []);
  takes = ended_takes fault;
  again = ended_again fault;
  least = 0;
  fits = ended_fits;
}
