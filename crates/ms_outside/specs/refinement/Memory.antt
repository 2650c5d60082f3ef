-- The objects in memory, as contracts see them.
use Rattle.std.specs.Prelude.{ℕ, Bool, List, ◌||◌, not, refl}
use Rattle.std.specs.Coded.{Coded, code_by, coded×, coded_list, coded_ℕ}
use Rattle.std.specs.FinMap.{code, contains_key}
use Rattle.ms_outside.specs.Files.{Counts, Files}
use Rattle.ms_outside.specs.refinement.Script.{Script, next_fails}

-- a source that never fails is the bytes that are left; this is one that follows a script
pub record Input : Type 0 where
  pub left : List ℕ
  pub script : Script
  pub faults : ℕ

-- a sink that never fails: the bytes that it holds, and how many more it has room for, so that it needs no memory for them
pub record Held : Type 0 where
  pub held : List ℕ
  pub room : ℕ

-- a sink that follows a script
pub record Output : Type 0 where
  pub held : List ℕ
  pub room : ℕ
  pub script : Script
  pub faults : ℕ

-- a shelf that never fails is its files; this is one that follows scripts, and counts the failed reads of each name
pub record Folder : Type 0 where
  pub files : Files
  pub reads : Script
  pub read_faults : Counts
  pub writes : Script
  pub write_faults : ℕ

-- whether the next read of this name fails: as the script has it, or since the name is absent
abbrev pub read_fails : Folder → List ℕ → Bool
read_fails folder name = next_fails folder.reads || not (contains_key folder.files name)

-- how files, counts, and a folder as the tuple of its parts are stored
abbrev pub files_code : Coded Files
files_code = code (coded_list coded_ℕ) (coded_list coded_ℕ)

abbrev pub counts_code : Coded Counts
counts_code = code (coded_list coded_ℕ) coded_ℕ

abbrev pub folder_code : Coded Folder
folder_code =
    code_by (Files × ((List ℕ × ℕ) × (Counts × ((List ℕ × ℕ) × ℕ))))
    (coded× files_code (coded× (coded× (coded_list coded_ℕ) coded_ℕ) (coded× counts_code (coded× (coded× (coded_list coded_ℕ) coded_ℕ) coded_ℕ))))
    (λ f. (f.files, ((f.reads.failing, f.reads.calls), (f.read_faults, ((f.writes.failing, f.writes.calls), f.write_faults)))))
    (λ p. record {
      files = p.0;
      reads = record { failing = p.1.0.0; calls = p.1.0.1 };
      read_faults = p.1.1.0;
      writes = record { failing = p.1.1.1.0.0; calls = p.1.1.1.0.1 };
      write_faults = p.1.1.1.1;
    })
    (λ _. refl)
