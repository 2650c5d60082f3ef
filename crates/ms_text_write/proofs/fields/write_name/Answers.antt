use Rattle.std.specs.Prelude.{◌≡◌, List, ℕ, true, OnOk, Result, Ok, Err}
use Rattle.std.specs.Str.{is_utf8}
use Rattle.std.proofs.Common.{subst}
use Rattle.std.proofs.lemmas.Str.{is_utf8-from_IsUtf8}
use Rattle.ms_flat.specs.refinement.Ranges.{AllFit}
use Rattle.ms_text_write.specs.refinement.Ranges.{ByteFits, NameFits}
use Rattle.ms_text_write.proofs.fields.write_name.Goals as goal

on_ok_too : {A E : Type 0} (r : Result A E) (P Q : Type 0) → OnOk r P → (P → Q) → OnOk r Q
on_ok_too (Ok x) P Q p f = f p
on_ok_too (Err e) P Q p f = tt

pub returns-clause-within : goal.returns-clause-within
returns-clause-within c =
    let text = c.as_str.result.now in
    let is_text : is_utf8 c.args.name.now ≡ true = subst (λ (bs : List ℕ). is_utf8 bs ≡ true) c.as_str.ensures (is_utf8-from_IsUtf8 text c.as_str.utf8) in
    on_ok_too c.write_string.result (AllFit ByteFits c.as_bytes.result.now) (NameFits c.args.name.now) c.write_string.ensures.within
    (λ h. (subst (λ (bs : List ℕ). AllFit ByteFits bs) c.as_str.ensures (subst (λ (bs : List ℕ). AllFit ByteFits bs) c.as_bytes.ensures.value h), is_text))
