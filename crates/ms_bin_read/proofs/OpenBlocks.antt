-- Where the turns of a body have ended, no block is open.
use Rattle.std.proofs.Common.{◌≡◌, ℕ, ◌||◌, Bool, true, false, ltb, List, length, Ok, arith}
use Rattle.std.proofs.lemmas.Bool.{ltb-false}
use Rattle.ms_bytes.specs.Runs.{run_at}
use Rattle.ms_bytes.specs.RunLaws.{run_last, run_takes}
use Rattle.ms_module.specs.Building.{State}
use Rattle.ms_bin_grammar.specs.Faults.{malformed}
use Rattle.ms_bin_grammar.specs.Body.{goes_on, advance}

left_false : (a b : Bool) → (a || b) ≡ false → a ≡ false
left_false true b e = absurd cc
left_false false b e = cc

pub none_open : (most n : ℕ) (first built : State) (end : ℕ) (s t : List ℕ) → run_at malformed goes_on (advance most) n first end s ≡ Ok (built, t) → length built.blocks ≡ 0
none_open most n first built end s t e =
    let last : goes_on built t ≡ false = run_last goes_on (advance most) (run_takes malformed goes_on (advance most) n first end s built t e) in
    let few = ltb-false 0 (length built.blocks) (left_false (ltb 0 (length built.blocks)) _ last) in
    omega arith
