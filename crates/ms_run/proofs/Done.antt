-- What was done where a file was read.
use Rattle.std.proofs.Common.{◌≡◌, ℕ, ◌+◌, ◌<◌, inl, inr, List, length, replicate, refl, arith}
use Rattle.std.specs.Prelude.{Option, Some, None}
use Rattle.std.proofs.lemmas.List.{length-replicate}
use Rattle.ms_outside.specs.Files.{Files, bytes_of}
use Rattle.ms_outside.specs.Shelf.{CountsReadFault, SameCounts, IfKnown, Writes}
use Rattle.ms_outside.specs.declared.sink.Put.TheVariants.{Memory}
use Rattle.ms_run.specs.Answers.{Unfound, most_bytes, overlong, unreadable}
use Rattle.ms_run.specs.Lines.{read_fault_line, too_long_line}
use Rattle.ms_run.specs.Observed.{Report, Shelved}
use Rattle.ms_run.specs.Reporting.{IsFound, KeepsFiles, Reports, Tells, printed}
use Rattle.ms_run.specs.declared.status.Status.{Status}
use Rattle.ms_run.specs.declared.status.Status.TheVariants.{ReadFault, TooLong}

-- some bytes are more than any number
many : (n : ℕ) → (bytes : List ℕ) × (n < length bytes)
many n = (replicate (n + 1) 0, omega (arith, length-replicate {A = ℕ} (n + 1) 0))

module _ (name : List ℕ) (s : Shelved) (r : Report) (result : Status) where
  long_file : (files : Option Files) → IfKnown files name (λ known. most_bytes < length known) → (bytes : List ℕ) × (most_bytes < length bytes) × IfKnown files name (λ known. bytes ≡ known)
  long_file None longer = let m = many most_bytes in (m.0, m.1, tt)
  long_file (Some known) longer = (bytes_of known name, longer, refl)

  pub file_too_long : IfKnown s.old name (λ known. most_bytes < length known) → SameCounts s.reads_old s.reads_new → KeepsFiles s → Reports TooLong (too_long_line name) r result → Tells (Unfound (IsFound s) name) s r result
  file_too_long longer same kept h =
      let long = long_file s.old longer in
      printed TooLong (too_long_line name) (overlong long.0 long.2 long.1) (inr same) kept h

  pub file_failed : CountsReadFault name s.reads_old s.reads_new → KeepsFiles s → Reports ReadFault (read_fault_line name) r result → Tells (Unfound (IsFound s) name) s r result
  file_failed counts kept h = printed ReadFault (read_fault_line name) (unreadable counts.rose) (inl refl) kept h

-- where memory ran out, the files are as before
pub not_written : (name bytes : List ℕ) (old new : Option Files) → Writes name bytes Memory old new → new ≡ old
not_written name bytes None new h = h
not_written name bytes (Some known) new h = h
