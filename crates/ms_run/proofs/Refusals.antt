-- What holds of each answer that says only why nothing was done holds of all that the tables without other answers give.
use Rattle.std.proofs.Common.{ℕ, suc, List}
use Rattle.ms_job.specs.declared.job.Job.{Job}
use Rattle.ms_run.specs.Answers.{Answer, Found, Unfound, Unloaded, invalid, overlong, says, unfound, unread, unreadable}
use Rattle.ms_run.specs.Jobs.{FirstUnloaded, Unnumbered, Unscheduled, here, later, no_number, unlisted}
use Rattle.ms_run.specs.Jobs as jobs
use Rattle.ms_run.specs.declared.gathering.Naming.{Naming}
use Rattle.ms_run.specs.declared.status.Status.TheVariants.{ReadFault, Refused, TooLong}

pub record OfRefusals (P : Answer → Type 0) : Type 0 where
  pub read_fault : (line : List ℕ) → P (says ReadFault line)
  pub too_long : (line : List ℕ) → P (says TooLong line)
  pub refused : (line : List ℕ) → P (says Refused line)

module _ {P : Answer → Type 0} (each : OfRefusals P) (Has : List ℕ → Found → Type 0) where
  pub of_unfound : (name : List ℕ) (a : Answer) → Unfound Has name a → P a
  of_unfound name a (unreadable h) = each.read_fault _
  of_unfound name a (overlong bytes h long) = each.too_long _

  pub of_unloaded : (what name : List ℕ) (a : Answer) → Unloaded Has what name a → P a
  of_unloaded what name a (unfound h) = of_unfound name a h
  of_unloaded what name a (unread bytes h not) = each.refused _
  of_unloaded what name a (invalid bytes m part h spelled wrong) = each.refused _

  pub of_first : (naming : Naming) (number : ℕ) (files : List (List ℕ × List ℕ)) (a : Answer) → FirstUnloaded Has naming number files a → P a
  of_first naming number files a (here n name file fs h) = of_unloaded _ file a h
  of_first naming number files a (later n name file m fs h first) = of_first naming (suc n) fs a first

  of_unnumbered : (name : List ℕ) (a : Answer) → Unnumbered Has name a → P a
  of_unnumbered name a (jobs.no_file h) = of_unfound name a h
  of_unnumbered name a (no_number bytes at h not) = each.refused _

  pub of_unscheduled : (job : Job) (a : Answer) → Unscheduled Has job a → P a
  of_unscheduled job a (unlisted name e h) = of_unnumbered name a h
