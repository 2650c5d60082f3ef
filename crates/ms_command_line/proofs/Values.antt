-- Rows that passed, of arguments that take one value.
use Rattle.std.proofs.Common.{◌≡◌, ◌∙◌, ◌++◌, ◌&&◌, ◌||◌, ◌==◌, ℕ, Bool, cond, true, false, not, refl, ap, subst, sym, List, [], ◌∷◌, Option, Some, None, length, arith, append-nil}
use Rattle.std.specs.List.{find, list_any}
use Rattle.std.specs.Option.{option_map_or, is_some}
use Rattle.std.specs.Str.{bytes_eq}
use Rattle.std.proofs.lemmas.Slice.Eq.{bytes_eq-Decides}
use Rattle.clap.specs.Words.{Row, Rule, Text, first_of}
use Rattle.clap.specs.Kinds.{or_else, range_kinds, values_kinds}
use Rattle.clap.specs.Facts.{explicit_source, parser_of_value, unwrap_or_range}
use Rattle.clap.specs.Faults.{action_fault}
use Rattle.clap.specs.Takes.{is_given}
use Rattle.clap.specs.ValueTests.{accepts}
use Rattle.clap.specs.Walk.{action_of, arg_by_id, at_row, default_rows, has_row, more_values, most_values, reading_by, used_as, values_or_missing, with_default, with_values, without}
use Rattle.clap.specs.declared.builder.action.ArgAction.{ArgAction}
use Rattle.clap.specs.declared.builder.action.ArgAction.TheVariants.{Set, Help}
use Rattle.clap.specs.declared.parser.matches.ValueSource.{ValueSource}
use Rattle.clap.specs.declared.parser.matches.ValueSource.TheVariants.{DefaultValue, CommandLine}
use Rattle.clap.specs.declared.builder.value_parser.Reading.{Reading}
use Rattle.clap.specs.declared.error.kind.ErrorKind.{ErrorKind}
use Rattle.clap.specs.declared.error.kind.ErrorKind.TheVariants as kind
use Rattle.ms_command_line.proofs.Walks.{Each, Keeps, or_left, or_right}

abbrev pub is_one : Rule → List Text → Bool
is_one a (v ∷ []) = accepts a.ignore_case (parser_of_value a.parser) v
is_one a _ = false

-- the row of an argument has one value, which passes
abbrev pub row_passes : List Rule → Row → Bool
row_passes c r = option_map_or (λ a. is_one a r.values) (arg_by_id c r.id) true

abbrev pub Passes : List Rule → Row → Type 0
Passes c r = row_passes c r ≡ true

each_more : {X : Type 0} (P : X → Type 0) (xs : List X) (x : X) → Each P xs → P x → Each P (xs ++ x ∷ [])
each_more P [] x h p = (p, tt)
each_more P (y ∷ ys) x h p = (h.0, each_more P ys x h.1 p)

-- no row has the id
missing_row : (id : Text) (change : Row → List Row) (new : List Row) (rows : List Row) → has_row id rows ≡ false
    → at_row id change new rows ≡ rows ++ new
missing_row id change new [] e = refl
missing_row id change new (r ∷ rs) e = go (bytes_eq r.id id) e (missing_row id change new rs)
  where
    go : (b : Bool) → (b || has_row id rs) ≡ false → (has_row id rs ≡ false → at_row id change new rs ≡ rs ++ new)
        → cond b (change r ++ rs) (r ∷ at_row id change new rs) ≡ r ∷ (rs ++ new)
    go true f more = cc
    go false f more = ap (λ xs. r ∷ xs) (more f)

abbrev row_by : Rule → ValueSource → List Text → Row
row_by a source values = record { id = a.id; values = values; count = None; source = Some source; reading = reading_by a }

new_row : (a : Rule) (source : ValueSource) (v : Text) (vs : List Text) (rows : List Row) → has_row a.id rows ≡ false
    → with_values a.id (reading_by a) source (v ∷ vs) rows ≡ rows ++ row_by a source (v ∷ vs) ∷ []
new_row a source v vs rows h = missing_row a.id (more_values source (v ∷ vs)) (row_by a source (v ∷ vs) ∷ []) rows h

-- one value, for a use that takes one
one_value : (n : ℕ) → range_kinds 1 1 n ≡ [] → n ≡ 1
one_value n e = go (n == 0) (1 == n) refl refl e
  where
    go : (a b : Bool) → (n == 0) ≡ a → (1 == n) ≡ b → cond a (kind.InvalidValue ∷ []) (cond b [] (kind.WrongNumberOfValues ∷ [])) ≡ [] → n ≡ 1
    go true b p q f = cc
    go false false p q f = cc
    go false true p q f = grind arith

accepted : (i : Bool) (p : _) (v : Text) → values_kinds i p (v ∷ []) ≡ [] → accepts i p v ≡ true
accepted i p v e = go (accepts i p v) e
  where
    go : (b : Bool) → or_else (cond b [] (Rattle.clap.specs.Values.refused_kind p ∷ [])) [] ≡ [] → b ≡ true
    go true f = refl
    go false f = cc

not_repeated : (b : Bool) → cond (b && not false) (kind.ArgumentConflict ∷ []) [] ≡ [] → b ≡ false
not_repeated true e = cc
not_repeated false e = refl

module _ (c : List Rule) (a : Rule) (named : arg_by_id c a.id ≡ Some a) where
  new_passes : (v : Text) (count : Option ℕ) (source : Option ValueSource) (how : Reading) → accepts a.ignore_case (parser_of_value a.parser) v ≡ true
      → Passes c (record { id = a.id; values = v ∷ []; count = count; source = source; reading = how })
  new_passes v count source how e = ap (λ (o : Option Rule). option_map_or (λ x. is_one x (v ∷ [])) o true) named ∙ e

  set_keeps : (values : List Text) (rows : List Row) → length values ≡ 1 → action_fault Set false a (values_or_missing a values) rows ≡ []
      → Each (Passes c) rows → Each (Passes c) (used_as Set a.id (reading_by a) (values_or_missing a values) rows)
  set_keeps [] rows one e r = absurd (omega arith)
  set_keeps (v ∷ w ∷ more) rows one e r = absurd (omega arith)
  set_keeps (v ∷ []) rows one e r =
      let fresh : has_row a.id rows ≡ false = not_repeated (has_row a.id rows) (or_left _ _ e) in
      let passes = accepted a.ignore_case (parser_of_value a.parser) v (or_right (cond (has_row a.id rows && not false) (kind.ArgumentConflict ∷ []) []) _ e) in
      let same : without a.id rows ≡ rows = missing_row a.id (λ _. []) [] rows fresh ∙ append-nil rows in
      let is : used_as Set a.id (reading_by a) (v ∷ []) rows ≡ rows ++ record { id = a.id; values = v ∷ []; count = None; source = Some CommandLine; reading = reading_by a } ∷ [] =
      ap (with_values a.id (reading_by a) CommandLine (v ∷ [])) same ∙ missing_row a.id (more_values CommandLine (v ∷ [])) _ rows fresh in
      subst (λ (xs : List Row). Each (Passes c) xs) (sym is) (each_more (Passes c) rows _ r (new_passes v None (Some CommandLine) (reading_by a) passes))

  pub keeps_set : action_of a ≡ Set → (unwrap_or_range a.range).start_inclusive ≡ 1 → most_values a ≡ 1 → Keeps (Passes c) false a
  keeps_set action least most values rows e r =
      let ranged : range_kinds (unwrap_or_range a.range).start_inclusive (most_values a) (length values) ≡ [] = or_left _ _ e in
      let one : length values ≡ 1 = one_value (length values) (rw (least, most) at ranged) in
      let fault : action_fault (action_of a) false a (values_or_missing a values) rows ≡ [] =
      or_right (range_kinds (unwrap_or_range a.range).start_inclusive (most_values a) (length values)) _ e in
      subst (λ (x : ArgAction). action_fault x false a (values_or_missing a values) rows ≡ [] → Each (Passes c) (used_as x a.id (reading_by a) (values_or_missing a values) rows))
      (sym action) (λ f. set_keeps values rows one f r) fault

  default_keeps : (ds : List Text) (rows : List Row) → is_one a ds ≡ true → has_row a.id rows ≡ false → Each (Passes c) rows
      → Each (Passes c) (default_rows a.id (reading_by a) ds rows)
  default_keeps [] rows e fresh r = r
  default_keeps (v ∷ w ∷ more) rows e fresh r = cc
  default_keeps (v ∷ []) rows e fresh r =
      subst (λ (xs : List Row). Each (Passes c) xs) (sym (new_row a DefaultValue v [] rows fresh)) (each_more (Passes c) rows _ r (new_passes v None (Some DefaultValue) (reading_by a) e))

  pub keeps_default : is_one a a.defaults ≡ true → (rows : List Row) → Each (Passes c) rows → Each (Passes c) (with_default rows a)
  keeps_default e rows r = go (has_row a.id rows) refl
    where
      go : (b : Bool) → has_row a.id rows ≡ b → Each (Passes c) (cond b rows (default_rows a.id (reading_by a) a.defaults rows))
      go true h = r
      go false h = default_keeps a.defaults rows e h r

pub keeps_no_default : (c : List Rule) (a : Rule) → a.defaults ≡ [] → (rows : List Row) → Each (Passes c) rows → Each (Passes c) (with_default rows a)
keeps_no_default c a e rows r = go (has_row a.id rows)
  where
    go : (b : Bool) → Each (Passes c) (cond b rows (default_rows a.id (reading_by a) a.defaults rows))
    go true = r
    go false = subst (λ (ds : List Text). Each (Passes c) (default_rows a.id (reading_by a) ds rows)) (sym e) r

-- help never passes
pub keeps_help : (R : Row → Type 0) (again : Bool) (a : Rule) → action_of a ≡ Help → Keeps R again a
keeps_help R again a action values rows e r =
    let fault : action_fault (action_of a) again a (values_or_missing a values) rows ≡ [] =
    or_right (range_kinds (unwrap_or_range a.range).start_inclusive (most_values a) (length values)) _ e in
    let bad : kind.DisplayHelp ∷ [] ≡ [] = subst (λ (x : ArgAction). action_fault x again a (values_or_missing a values) rows ≡ []) action fault in
    absurd (not_empty bad)
  where
    not_empty : {X : Type 0} {x : X} → x ∷ [] ≡ [] → ⊥
    not_empty p = cc

-- ---- which rows are there

abbrev pub present : Text → List Row → Bool
present id rows = is_some (find (λ r. bytes_eq r.id id) rows)

row_found : (id : Text) (rows : List Row) → has_row id rows ≡ present id rows
row_found id [] = refl
row_found id (r ∷ rs) = go (bytes_eq r.id id) (row_found id rs)
  where
    go : (b : Bool) → has_row id rs ≡ present id rs → (b || has_row id rs) ≡ is_some (cond b (Some r) (find (λ x. bytes_eq x.id id) rs))
    go true e = refl
    go false e = e

present_more : (id : Text) (rows : List Row) (r : Row) → present id rows ≡ true → present id (rows ++ r ∷ []) ≡ true
present_more id [] r e = cc
present_more id (x ∷ xs) r e = go (bytes_eq x.id id) e (present_more id xs r)
  where
    go : (b : Bool) → is_some (cond b (Some x) (find (λ y. bytes_eq y.id id) xs)) ≡ true → (present id xs ≡ true → present id (xs ++ r ∷ []) ≡ true)
        → is_some (cond b (Some x) (find (λ y. bytes_eq y.id id) (xs ++ r ∷ []))) ≡ true
    go true f more = refl
    go false f more = more f

present_last : (id : Text) (rows : List Row) (r : Row) → bytes_eq r.id id ≡ true → present id (rows ++ r ∷ []) ≡ true
present_last id [] r e = ap (λ (b : Bool). is_some (cond b (Some r) None)) e
present_last id (x ∷ xs) r e = go (bytes_eq x.id id) (present_last id xs r e)
  where
    go : (b : Bool) → present id (xs ++ r ∷ []) ≡ true → is_some (cond b (Some x) (find (λ y. bytes_eq y.id id) (xs ++ r ∷ []))) ≡ true
    go true f = refl
    go false f = f

pub default_stays : (id : Text) (rows : List Row) (a : Rule) → present id rows ≡ true → present id (with_default rows a) ≡ true
default_stays id rows a e = go (has_row a.id rows) refl a.defaults
  where
    go : (b : Bool) → has_row a.id rows ≡ b → (ds : List Text) → present id (cond b rows (default_rows a.id (reading_by a) ds rows)) ≡ true
    go true h ds = e
    go false h [] = e
    go false h (v ∷ vs) = subst (λ (xs : List Row). present id xs ≡ true) (sym (new_row a DefaultValue v vs rows h)) (present_more id rows (row_by a DefaultValue (v ∷ vs)) e)

pub default_put : (rows : List Row) (a : Rule) (v : Text) (vs : List Text) → bytes_eq a.id a.id ≡ true → a.defaults ≡ v ∷ vs → present a.id (with_default rows a) ≡ true
default_put rows a v vs same e = go (has_row a.id rows) refl
  where
    go : (b : Bool) → has_row a.id rows ≡ b → present a.id (cond b rows (default_rows a.id (reading_by a) a.defaults rows)) ≡ true
    go true h = sym (row_found a.id rows) ∙ h
    go false h = subst (λ (ds : List Text). present a.id (default_rows a.id (reading_by a) ds rows) ≡ true) (sym e)
        (subst (λ (xs : List Row). present a.id xs ≡ true) (sym (new_row a DefaultValue v vs rows h)) (present_last a.id rows (row_by a DefaultValue (v ∷ vs)) same))

pub given_present : (id : Text) (rows : List Row) → is_given id rows ≡ true → present id rows ≡ true
given_present id rows e = go (find (λ r. bytes_eq r.id id) rows) e
  where
    go : (o : Option Row) → option_map_or (λ r. explicit_source r.source) o false ≡ true → is_some o ≡ true
    go None f = f
    go (Some r) f = refl

pub required_given : (rows : List Row) (k : ErrorKind) (xs : List Rule) → cond (list_any (λ a. a.required && not (is_given a.id rows)) xs) (k ∷ []) [] ≡ []
    → Each (λ a. a.required ≡ true → is_given a.id rows ≡ true) xs
required_given rows k [] e = tt
required_given rows k (x ∷ xs) e = go x.required (is_given x.id rows) e (required_given rows k xs)
  where
    go : (a b : Bool) → cond ((a && not b) || list_any (λ y. y.required && not (is_given y.id rows)) xs) (k ∷ []) [] ≡ []
        → (cond (list_any (λ y. y.required && not (is_given y.id rows)) xs) (k ∷ []) [] ≡ [] → Each (λ y. y.required ≡ true → is_given y.id rows ≡ true) xs)
        → (a ≡ true → b ≡ true) × Each (λ y. y.required ≡ true → is_given y.id rows ≡ true) xs
    go true true f more = (λ _. refl, more f)
    go true false f more = cc
    go false b f more = (λ (p : false ≡ true). cc, more f)

-- the value of an argument that has a row
pub value_passes : (c : List Rule) (id : Text) (a : Rule) → arg_by_id c id ≡ Some a → (rows : List Row) → Each (Passes c) rows → present id rows ≡ true
    → option_map_or (accepts a.ignore_case (parser_of_value a.parser)) (first_of id rows) false ≡ true
value_passes c id a named [] r p = cc
value_passes c id a named (x ∷ xs) r p = go (bytes_eq x.id id) refl p (value_passes c id a named xs r.1)
  where
    one : (vs : List Text) → is_one a vs ≡ true
        → option_map_or (accepts a.ignore_case (parser_of_value a.parser)) (Rattle.std.specs.Prelude.slice_get vs 0) false ≡ true
    one [] e = cc
    one (v ∷ []) e = e
    one (v ∷ w ∷ more) e = cc

    go : (b : Bool) → bytes_eq x.id id ≡ b → is_some (cond b (Some x) (find (λ y. bytes_eq y.id id) xs)) ≡ true
        → (present id xs ≡ true → option_map_or (accepts a.ignore_case (parser_of_value a.parser)) (first_of id xs) false ≡ true)
        → option_map_or (accepts a.ignore_case (parser_of_value a.parser))
        (Rattle.std.specs.Prelude.option_and_then (λ (y : Row). Rattle.std.specs.Prelude.slice_get y.values 0) (cond b (Some x) (find (λ y. bytes_eq y.id id) xs))) false ≡ true
    go true e q more =
        let same : x.id ≡ id = (bytes_eq-Decides x.id id).0 e in
        let is : arg_by_id c x.id ≡ Some a = ap (arg_by_id c) same ∙ named in
        one x.values (subst (λ (o : Option Rule). option_map_or (λ y. is_one y x.values) o true ≡ true) is r.0)
    go false e q more = more q
