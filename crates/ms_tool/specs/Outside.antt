-- What is seen of the objects outside at a moment: one value, which the program's contract has before a call and after it.
use Rattle.std.specs.Prelude.{ℕ, List, Option}
use Rattle.ms_outside.specs.Files.{Files}
use Rattle.ms_run.specs.Observed.{Flow, Report, Shelved}

-- The files, what is left of the input, what the output and the report hold, each where its object tells it; and how many calls
-- have failed so far: reads by the file's name, writes of files, takes of the input, puts to the output and to the report.
pub record Outside : Type 0 where
  pub files : Option Files
  pub left : Option (List ℕ)
  pub held : Option (List ℕ)
  pub report : Option (List ℕ)
  pub read_faults : List ℕ → ℕ
  pub write_faults : ℕ
  pub take_faults : ℕ
  pub put_faults : ℕ
  pub report_faults : ℕ

-- by the members of the traits, at a shelf, an input, an output and a report
abbrev pub seen : {F I O R : Type 0}
    → (F → Option Files) → (F → List ℕ → ℕ) → (F → ℕ)
    → (I → Option (List ℕ)) → (I → ℕ) → (O → Option (List ℕ)) → (O → ℕ) → (R → Option (List ℕ)) → (R → ℕ)
    → F → I → O → R → Outside
seen files read_faults write_faults left take_faults held put_faults report report_faults shelf input out lines = record {
  files = files shelf;
  left = left input;
  held = held out;
  report = report lines;
  read_faults = read_faults shelf;
  write_faults = write_faults shelf;
  take_faults = take_faults input;
  put_faults = put_faults out;
  report_faults = report_faults lines;
}

-- ---- of one object, before and after

abbrev pub shelf_of : (before after : Outside) → Shelved
shelf_of before after = record {
  old = before.files;
  new = after.files;
  reads_old = before.read_faults;
  reads_new = after.read_faults;
  writes_old = before.write_faults;
  writes_new = after.write_faults;
}

abbrev pub report_of : (before after : Outside) → Report
report_of before after = record {
  old = before.report;
  new = after.report;
  puts_old = before.report_faults;
  puts_new = after.report_faults;
}

abbrev pub flow_of : (before after : Outside) → Flow
flow_of before after = record {
  left_old = before.left;
  left_new = after.left;
  takes_old = before.take_faults;
  takes_new = after.take_faults;
  held_old = before.held;
  held_new = after.held;
  puts_old = before.put_faults;
  puts_new = after.put_faults;
}
