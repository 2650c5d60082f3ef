-- What is seen of the shelf, the report, and the input and output of a program, before a call and after it.
use Rattle.std.specs.Prelude.{ℕ, List, Option}
use Rattle.ms_outside.specs.Files.{Files}

-- the files, where the shelf tells them; how often reads of each name have failed; how often writes have
pub record Shelved : Type 0 where
  pub old : Option Files
  pub new : Option Files
  pub reads_old : List ℕ → ℕ
  pub reads_new : List ℕ → ℕ
  pub writes_old : ℕ
  pub writes_new : ℕ

-- what a report holds, where it tells it, and how many of its puts have failed
pub record Report : Type 0 where
  pub old : Option (List ℕ)
  pub new : Option (List ℕ)
  pub puts_old : ℕ
  pub puts_new : ℕ

-- what is left of the input and what the output holds, where they tell it, and how many of their calls have failed
pub record Flow : Type 0 where
  pub left_old : Option (List ℕ)
  pub left_new : Option (List ℕ)
  pub takes_old : ℕ
  pub takes_new : ℕ
  pub held_old : Option (List ℕ)
  pub held_new : Option (List ℕ)
  pub puts_old : ℕ
  pub puts_new : ℕ

-- the same of a shelf, of a report, and of an input and an output, by their members, which are told before a call and after it
abbrev pub shelved : {S : Type 0} → (S → Option Files) → (S → List ℕ → ℕ) → (S → ℕ) → S → S → Shelved
shelved files read_faults write_faults old new = record {
  old = files old;
  new = files new;
  reads_old = read_faults old;
  reads_new = read_faults new;
  writes_old = write_faults old;
  writes_new = write_faults new;
}

abbrev pub reported : {S : Type 0} → (S → Option (List ℕ)) → (S → ℕ) → S → S → Report
reported held faults old new = record { old = held old; new = held new; puts_old = faults old; puts_new = faults new }

abbrev pub flowed : {S T : Type 0} → (S → Option (List ℕ)) → (S → ℕ) → (T → Option (List ℕ)) → (T → ℕ) → S → S → T → T → Flow
flowed left takes held puts input input' out out' = record {
  left_old = left input;
  left_new = left input';
  takes_old = takes input;
  takes_new = takes input';
  held_old = held out;
  held_new = held out';
  puts_old = puts out;
  puts_new = puts out';
}
