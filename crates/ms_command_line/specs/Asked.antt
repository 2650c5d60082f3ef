-- What the words of a command line ask for, of which the first is the program's name.
use Rattle.std.specs.Prelude.{◌≡◌, ⊤, IfSome, Result, Ok, Err, ◌&&◌, ℕ, Bool, true, false, List, Option, Some, None, [], find, if◌then◌else◌, option_and_then, unwrap_or}
use Rattle.std.specs.List.{list_all}
use Rattle.std.specs.Option.{option_map_or}
use Rattle.std.specs.Str.{bytes_eq}
use Rattle.std.specs.Str.Parse.{digits_value, without_leading_plus}
use Rattle.clap.specs.Words.{Row, Text, fault_of, first_of, subcommand_of}
use Rattle.clap.specs.Walk.{is_empty}
use Rattle.clap.specs.ValueTests.{is_unsigned_in}
use Rattle.ms_command_line.specs.Commands.{IsWithin, asm, budget, check, commands, compile, count, dis, exec, file, job, judge, memory, mswasm, out, run, seed, stress}
use Rattle.ms_command_line.specs.declared.request.Request.{Request}
use Rattle.ms_command_line.specs.declared.request.Request.TheVariants as request
use Rattle.ms_command_line.specs.declared.request.WordsFault.{WordsFault}
use Rattle.ms_command_line.specs.declared.request.WordsFault.TheVariants.{Refused, Memory}

pub data Asked : Type 0 where
  -- the file, the budget and the bytes of segment memory
  Exec : Text → ℕ → ℕ → Asked
  -- the file of a job
  Run : Text → Asked
  Check : Text → Asked
  -- the file, and the file that is written
  Asm : Text → Text → Asked
  Dis : Text → Text → Asked
  Compile : Text → Text → Asked
  -- the file of a trace, and the bytes of segment memory
  Judge : Text → ℕ → Asked
  -- the seed and the count
  Stress : ℕ → ℕ → Asked

-- ---- what a command's matches ask for

-- the word that was given for a name
abbrev pub word : Text → List Row → Text
word name rows = unwrap_or (first_of name rows) []

-- the number that was given for a name: decimal digits, which a `+` may precede
abbrev pub number : Text → List Row → ℕ
number name rows = digits_value 10 (without_leading_plus (word name rows))

abbrev pub asked_by : Text → List Row → Option Asked
asked_by name rows =
    if bytes_eq name exec.name then Some (Exec (word file rows) (number budget.name rows) (number memory.name rows))
    else (if bytes_eq name run.name then Some (Run (word job rows))
    else (if bytes_eq name check.name then Some (Check (word file rows))
    else (if bytes_eq name asm.name then Some (Asm (word file rows) (word out rows))
    else (if bytes_eq name dis.name then Some (Dis (word file rows) (word out rows))
    else (if bytes_eq name compile.name then Some (Compile (word file rows) (word out rows))
    else (if bytes_eq name judge.name then Some (Judge (word file rows) (number memory.name rows))
    else (if bytes_eq name stress.name then Some (Stress (number seed.name rows) (number count.name rows))
    else None)))))))

-- ---- what the words ask for

-- the definition of the commands refuses the words for none of its causes; want of memory is none of them
abbrev pub is_taken : List Text → Bool
is_taken words = is_empty (fault_of mswasm words)

-- what the words ask for, where they are taken
abbrev pub asked_of : List Text → Option Asked
asked_of words = if is_taken words then option_and_then (λ p. asked_by p.0 p.1) (subcommand_of mswasm words) else None

-- ---- that nothing is missing

abbrev pub has : (Text → Bool) → Text → List Row → Bool
has test name rows = option_map_or test (first_of name rows) false

abbrev pub has_word : Text → List Row → Bool
has_word name rows = has (λ _. true) name rows

-- a number from `least` to `most` was given for it
abbrev pub has_number : Text → (least most : ℕ) → List Row → Bool
has_number name least most rows = has (is_unsigned_in least most) name rows

-- the matches have each word and each number that the command's row names
abbrev pub is_complete : Text → List Row → Bool
is_complete name rows = option_map_or
    (λ c. list_all (λ place. has_word place rows) c.places && (list_all (λ p. has_number p.name p.least p.most rows) c.numbers
    && list_all (λ o. has_number o.name o.least o.most rows) c.options))
    (find (λ c. bytes_eq name c.name) commands) false

abbrev pub IsWhole : List Text → Type 0
IsWhole words = IfSome (subcommand_of mswasm words) (λ p. is_complete p.0 p.1 ≡ true)

-- ---- the request

abbrev pub view : Request → Asked
view (request.Exec f steps bytes) = Exec f.now steps bytes
view (request.Run j) = Run j.now
view (request.Check f) = Check f.now
view (request.Asm f o) = Asm f.now o.now
view (request.Dis f o) = Dis f.now o.now
view (request.Compile f o) = Compile f.now o.now
view (request.Judge f bytes) = Judge f.now bytes
view (request.Stress first n) = Stress first n

-- the numbers lie in their ranges
abbrev pub IsInRange : Request → Type 0
IsInRange (request.Exec f steps bytes) = IsWithin budget.least budget.most steps × IsWithin memory.least memory.most bytes
IsInRange (request.Judge f bytes) = IsWithin memory.least memory.most bytes
IsInRange (request.Stress first n) = IsWithin seed.least seed.most first × IsWithin count.least count.most n
IsInRange _ = ⊤

-- the request is what the words ask for, and words are refused only where the definition refuses them
abbrev pub IsRequest : List Text → Result Request WordsFault → Type 0
IsRequest words (Ok r) = asked_of words ≡ Some (view r)
IsRequest words (Err Refused) = is_taken words ≡ false
IsRequest words (Err Memory) = ⊤
