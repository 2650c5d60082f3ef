-- `stress`: a program of C that allocates and frees by random numbers, which is compiled and run.
use Rattle.std.specs.Prelude.{ℕ, List, [], ◌∷◌, ◌++◌, codes, None, false, true}
use Rattle.std.specs.FinMap.{empty, insert}
use Rattle.std.specs.Fmt.{decimal}
use Rattle.ms_command_line.specs.Commands as options
use Rattle.ms_command_line.specs.Commands.{default_memory}
use Rattle.ms_job.specs.Jobs.{most_turns}
use Rattle.ms_job.specs.declared.job.Job.{Job}
use Rattle.ms_outside.specs.Files.{Files}

-- The numbers are those of Lehmer's generator with multiplier 48271 and modulus 2^31 - 1. Each names one of 4,096 places, whose segment
-- is freed, once its number is taken into the result; then it gets one of 4 to 128 bytes.
abbrev pub stress_text : (seed count : ℕ) → List ℕ
stress_text seed count =
    codes "int main(void){int *t[4096]; int *p; long long x=" ++ decimal seed
    ++ codes "; int i; int k; int s=0;\nfor(i=0;i<" ++ decimal count
    ++ codes ";i=i+1){x=x*48271%2147483647; k=x%4096;\nif(t[k]!=0){s=s*31+*t[k]; free(t[k]);}\np=malloc(4*(1+x/4096%32)); if(p!=0) *p=i; t[k]=p;}\nfor(k=0;k<4096;k=k+1) if(t[k]!=0){s=s*31+*t[k]; free(t[k]);}\nreturn s;}\n"

abbrev pub stress_file : List ℕ
stress_file = codes "stress.c"

-- the one file that is read
abbrev pub stress_files : (seed count : ℕ) → Files
stress_files seed count = insert empty stress_file (stress_text seed count)

-- its job: as that of `exec`, within the greatest budget, and with the numbers of what the run did
abbrev pub stress_job : Job
stress_job = record {
  modules = ([], stress_file) ∷ [];
  tasks = (0, codes "main") ∷ [];
  turns = most_turns;
  schedule = None;
  budget = options.budget.most;
  memory = default_memory;
  trace = None;
  dump = false;
  reach = [];
  each = false;
  only = None;
  counts = true;
}
