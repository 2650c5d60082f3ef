-- Where the words are taken, they name a command, and what its row names is there.
use Rattle.std.proofs.Common.{◌≡◌, ◌∙◌, ◌&&◌, ◌⊎◌, Bool, cond, true, false, not, refl, ap, sym, subst, List, [], ◌∷◌, Option, Some, None, inl, inr, option_and_then, option_map, arith}
use Rattle.std.specs.List.{find, fold, list_any}
use Rattle.std.specs.Option.{option_map_or, is_some}
use Rattle.std.specs.Str.{bytes_eq}
use Rattle.std.proofs.lemmas.Bool.{ne_eqb}
use Rattle.clap.specs.declared.error.Error.{Error}
use Rattle.clap.specs.declared.parser.matches.ArgMatches.{ArgMatches}
use Rattle.ms_command_line.proofs.Counts.{mswasm_is_simple}
use Rattle.clap.specs.Words.{App, HasKind, HasMatchesOf, is_simple_and_free, subcommand_rows_of, Kinds, Row, Rule, Shape, Text, built, fault_of, first_of, subcommand_of}
use Rattle.clap.specs.Simple.{argument_words, built_leaf, entered, inherited, label_of, names_of, rows_at}
use Rattle.clap.specs.Faults.{check_fault, defaults_fault, entered_fault, level_fault, settle_fault, walk_fault}
use Rattle.clap.specs.Facts.{explicit_source, parser_of_value, unwrap_or_range}
use Rattle.clap.specs.Kinds.{IsAmong, check_kinds}
use Rattle.clap.specs.ValueTests.{accepts}
use Rattle.clap.specs.declared.error.kind.ErrorKind.{ErrorKind}
use Rattle.clap.specs.declared.builder.action.ArgAction.{ArgAction}
use Rattle.clap.specs.declared.builder.action.ArgAction.TheVariants.{Set, Help}
use Rattle.clap.specs.Takes.{is_given}
use Rattle.clap.specs.Walk.{action_of, answers_to, arg_by_id, finished, is_empty, most_values, nothing_held, settled, walk, walk_from, with_default}
use Rattle.clap.specs.declared.error.kind.ErrorKind.TheVariants as kind
use Rattle.ms_command_line.specs.Commands.{CommandRow, app_of_command, asm, check, compile, dis, exec, judge, mswasm, run, stress}
use Rattle.ms_command_line.specs.Asked.{IsWhole, asked_by, asked_of, is_complete, is_taken}
use Rattle.std.specs.Prelude.{IfSome}
use Rattle.ms_command_line.proofs.Walks.{Each, Keeps, Maybe, found, level_keeps, or_left, or_right}
use Rattle.ms_command_line.proofs.Values.{Passes, default_put, default_stays, given_present, is_one, keeps_default, keeps_help, keeps_no_default, keeps_set, present, required_given, value_passes}

both : (a b : Bool) → a ≡ true → b ≡ true → (a && b) ≡ true
both a b p q = ap (λ (x : Bool). x && b) p ∙ q

each_map : {X : Type 0} (P Q : X → Type 0) → ((x : X) → P x → Q x) → (xs : List X) → Each P xs → Each Q xs
each_map P Q f [] h = tt
each_map P Q f (x ∷ xs) h = (f x h.0, each_map P Q f xs h.1)

-- ---- a level whose arguments take one value

-- the argument has one default value, which passes
abbrev HasDefault : Rule → Type 0
HasDefault a = (v : Text) × (bytes_eq a.id a.id ≡ true) × (a.defaults ≡ v ∷ []) × (is_one a a.defaults ≡ true)

-- the argument takes one value, and either is required or has a default
record TakesOne (c : List Rule) (a : Rule) : Type 0 where
  named : arg_by_id c a.id ≡ Some a
  sets : action_of a ≡ Set
  least : (unwrap_or_range a.range).start_inclusive ≡ 1
  most : most_values a ≡ 1
  there : ((a.required ≡ true) × (a.defaults ≡ [])) ⊎ HasDefault a

-- or it is the help flag
abbrev IsPlain : List Rule → Rule → Type 0
IsPlain c a = TakesOne c a ⊎ ((action_of a ≡ Help) × (a.defaults ≡ []))

plain_keeps : (c : List Rule) (a : Rule) → IsPlain c a → Keeps (Passes c) false a
plain_keeps c a (inl one) = keeps_set c a one.named one.sets one.least one.most
plain_keeps c a (inr help) = keeps_help (Passes c) false a help.0

plain_default : (c : List Rule) (a : Rule) → IsPlain c a → (rows : List Row) → Each (Passes c) rows → Each (Passes c) (with_default rows a)
plain_default c a (inl one) = elim one.there [ inl none ↦ keeps_no_default c a none.1 | inr some ↦ keeps_default c a one.named some.3 ]
plain_default c a (inr help) = keeps_no_default c a help.1

-- a row that is there stays there, and an argument with a default has a row in the end
defaults_stay : (id : Text) (xs : List Rule) (rows : List Row) → present id rows ≡ true → present id (fold with_default rows xs) ≡ true
defaults_stay id [] rows p = p
defaults_stay id (x ∷ xs) rows p = defaults_stay id xs (with_default rows x) (default_stays id rows x p)

defaults_put : (xs : List Rule) (rows : List Row) → Each (λ a. HasDefault a → present a.id (fold with_default rows xs) ≡ true) xs
defaults_put [] rows = tt
defaults_put (x ∷ xs) rows =
    (λ d. defaults_stay x.id xs (with_default rows x) (default_put rows x d.0 [] d.1 d.2), defaults_put xs (with_default rows x))

abbrev is_set : ArgAction → Bool
is_set Set = true
is_set _ = false

-- the argument has a value that passes
abbrev HasValue : List Row → Rule → Type 0
HasValue rows a = is_set (action_of a) ≡ true → option_map_or (accepts a.ignore_case (parser_of_value a.parser)) (first_of a.id rows) false ≡ true

module _ (c : List Rule) (rows : List Row) (passes : Each (Passes c) rows) where
  has_value : (a : Rule) → IsPlain c a → (a.required ≡ true → is_given a.id rows ≡ true) → (HasDefault a → present a.id rows ≡ true) → HasValue rows a
  has_value a (inl one) given put =
      let here : present a.id rows ≡ true = elim one.there [ inl none ↦ given_present a.id rows (given none.0) | inr some ↦ put some ] in
      λ set. value_passes c a.id a one.named rows passes here
  has_value a (inr help) given put = λ set. let no : is_set Help ≡ true = ap is_set (sym help.0) ∙ set in cc

  have_values : (xs : List Rule) → Each (IsPlain c) xs → Each (λ a. a.required ≡ true → is_given a.id rows ≡ true) xs
      → Each (λ a. HasDefault a → present a.id rows ≡ true) xs → Each (HasValue rows) xs
  have_values [] plain given put = tt
  have_values (x ∷ xs) plain given put = (has_value x plain.0 given.0 put.0, have_values xs plain.1 given.1 put.1)

none_missing : (a b n x : Bool) → check_kinds a b (not (n && false) && x) ≡ [] → cond x (kind.MissingRequiredArgument ∷ []) [] ≡ []
none_missing true b n x e = cc
none_missing false true n x e = cc
none_missing false false true x e = e
none_missing false false false x e = e

-- a level that doesn't fail gives each of its arguments a value
level_gives : (s : Shape) (words : List Text) → s.args_override_self ≡ false → Each (IsPlain s.rules) s.rules
    → level_fault s [] nothing_held words false [] ≡ [] → Each (HasValue (rows_at s words).1) s.rules
level_gives s words once plain e =
    let held = (walk s.rules [] nothing_held words).held in
    let rows : List Row = finished s.rules held in
    let keeps = subst (λ (again : Bool). Each (Keeps (Passes s.rules) again) s.rules) (sym once) (each_map _ _ (plain_keeps s.rules) s.rules plain) in
    let level = level_keeps (Passes s.rules) s keeps [] words false [] e (each_map _ _ (plain_default s.rules) s.rules plain) in
    let given = required_given rows kind.MissingRequiredArgument s.rules (none_missing (s.arg_required_else_help && not (list_any (λ r. explicit_source r.source) rows)) s.subcommand_required
    s.subcommand_negates_reqs (list_any (λ a. a.required && not (is_given a.id rows)) s.rules) level.1) in
    have_values s.rules rows level.0 s.rules plain given (defaults_put s.rules (settled s.rules held).rows)

-- ---- each command

abbrev Complete : Shape → Type 0
Complete s = (words : List Text) → level_fault s [] nothing_held words false [] ≡ [] → is_complete (rows_at s words).0 (rows_at s words).1 ≡ true

-- the command as it is built below the top
abbrev below_top : CommandRow → Shape
below_top c = built_leaf (inherited (built mswasm).top (app_of_command c).top)

place : (c : List Rule) (a : Rule) → arg_by_id c a.id ≡ Some a → action_of a ≡ Set → (unwrap_or_range a.range).start_inclusive ≡ 1 → most_values a ≡ 1
    → a.required ≡ true → a.defaults ≡ [] → IsPlain c a
place c a named sets least most required none = inl (record { named = named; sets = sets; least = least; most = most; there = inl (required, none) })

option : (c : List Rule) (a : Rule) (v : Text) → arg_by_id c a.id ≡ Some a → action_of a ≡ Set → (unwrap_or_range a.range).start_inclusive ≡ 1 → most_values a ≡ 1
    → bytes_eq a.id a.id ≡ true → a.defaults ≡ v ∷ [] → is_one a a.defaults ≡ true → IsPlain c a
option c a v named sets least most same default one =
    inl (record { named = named; sets = sets; least = least; most = most; there = inr (v, same, default, one) })

exec_complete : Complete (below_top exec)
exec_complete words e =
    let gives = level_gives (below_top exec) words refl
    (place _ _ refl refl refl refl refl refl, (option _ _ _ refl refl refl refl refl refl refl, (option _ _ _ refl refl refl refl refl refl refl, (inr (refl, refl), tt)))) e in
    both _ _ (both _ _ (gives.0 refl) refl) (both _ _ (gives.1.0 refl) (both _ _ (gives.1.1.0 refl) refl))

run_complete : Complete (below_top run)
run_complete words e =
    let gives = level_gives (below_top run) words refl (place _ _ refl refl refl refl refl refl, (inr (refl, refl), tt)) e in
    both _ _ (both _ _ (gives.0 refl) refl) refl

check_complete : Complete (below_top check)
check_complete words e =
    let gives = level_gives (below_top check) words refl (place _ _ refl refl refl refl refl refl, (inr (refl, refl), tt)) e in
    both _ _ (both _ _ (gives.0 refl) refl) refl

asm_complete : Complete (below_top asm)
asm_complete words e =
    let gives = level_gives (below_top asm) words refl (place _ _ refl refl refl refl refl refl, (place _ _ refl refl refl refl refl refl, (inr (refl, refl), tt))) e in
    both _ _ (both _ _ (gives.0 refl) (both _ _ (gives.1.0 refl) refl)) refl

dis_complete : Complete (below_top dis)
dis_complete words e =
    let gives = level_gives (below_top dis) words refl (place _ _ refl refl refl refl refl refl, (place _ _ refl refl refl refl refl refl, (inr (refl, refl), tt))) e in
    both _ _ (both _ _ (gives.0 refl) (both _ _ (gives.1.0 refl) refl)) refl

compile_complete : Complete (below_top compile)
compile_complete words e =
    let gives = level_gives (below_top compile) words refl (place _ _ refl refl refl refl refl refl, (place _ _ refl refl refl refl refl refl, (inr (refl, refl), tt))) e in
    both _ _ (both _ _ (gives.0 refl) (both _ _ (gives.1.0 refl) refl)) refl

judge_complete : Complete (below_top judge)
judge_complete words e =
    let gives = level_gives (below_top judge) words refl (place _ _ refl refl refl refl refl refl, (option _ _ _ refl refl refl refl refl refl refl, (inr (refl, refl), tt))) e in
    both _ _ (both _ _ (gives.0 refl) refl) (both _ _ (gives.1.0 refl) refl)

stress_complete : Complete (below_top stress)
stress_complete words e =
    let gives = level_gives (below_top stress) words refl (place _ _ refl refl refl refl refl refl, (place _ _ refl refl refl refl refl refl, (inr (refl, refl), tt))) e in
    both _ _ (both _ _ (gives.0 refl) (both _ _ (gives.1.0 refl) refl)) refl

-- ---- the words

level_down : (s : Shape) (names : _) (words : List Text) (has : Bool) (below : Kinds) → level_fault s names nothing_held words has below ≡ []
    → (below ≡ []) × (check_fault s (finished s.rules (walk s.rules names nothing_held words).held) has ≡ [])
level_down s names words has below e =
    let end = (walk s.rules names nothing_held words).held in
    let e2 = or_right (walk_fault s names (walk_from nothing_held) words) _ e in
    let e3 = or_right below _ e2 in
    let e4 = or_right (settle_fault s.rules s.args_override_self end) _ e3 in
    (or_left below _ e2, or_right (defaults_fault (settled s.rules end).rows s.rules) _ e4)

refused : (a b x z : Bool) → a ≡ false → b ≡ true → check_kinds (a && x) b z ≡ [] → ⊥
refused true b x z off on e = cc
refused false true x z off on e = cc
refused false false x z off on e = cc

needs_subcommand : (s : Shape) (rows : List Row) (has : Bool) → s.arg_required_else_help ≡ false → s.subcommand_required ≡ true → check_fault s rows has ≡ [] → has ≡ true
needs_subcommand s rows true off on e = refl
needs_subcommand s rows false off on e = absurd (refused s.arg_required_else_help s.subcommand_required
    (not (list_any (λ r. explicit_source r.source) rows)) (not (s.subcommand_negates_reqs && false) && list_any (λ a. a.required && not (is_given a.id rows)) s.rules) off on e)

entered_complete : (a : App) → Each Complete a.subs → (stop : Option (Text × List Text)) → entered_fault a stop ≡ [] → is_some (entered a stop) ≡ true
    → (p : Text × List Row) × (entered a stop ≡ Some p) × (is_complete p.0 p.1 ≡ true)
entered_complete a all None e h = cc
entered_complete a all (Some q) e h = go (find (λ s. answers_to q.0 (label_of s)) a.subs) (found Complete (λ s. answers_to q.0 (label_of s)) a.subs all) e h
  where
    go : (o : Option Shape) → Maybe Complete o → option_map_or (λ s. level_fault s [] nothing_held q.1 false []) o [] ≡ []
        → is_some (option_map (λ s. rows_at s q.1) o) ≡ true
        → (p : Text × List Row) × (option_map (λ s. rows_at s q.1) o ≡ Some p) × (is_complete p.0 p.1 ≡ true)
    go None m f h2 = cc
    go (Some s) m f h2 = (rows_at s q.1, refl, m q.1 f)

subs_complete : Each Complete (built mswasm).subs
subs_complete = (exec_complete, (run_complete, (check_complete, (asm_complete, (dis_complete, (compile_complete, (judge_complete, (stress_complete, tt))))))))

-- words that the definition takes name a subcommand, and give it what it needs
pub taken_complete : (words : List Text) → fault_of mswasm words ≡ []
    → (p : Text × List Row) × (subcommand_of mswasm words ≡ Some p) × (is_complete p.0 p.1 ≡ true)
taken_complete words e =
    let a : App = built mswasm in
    let stop = (walk a.top.rules (names_of a) nothing_held (argument_words mswasm words)).stopped in
    let down = level_down a.top (names_of a) (argument_words mswasm words) (is_some (entered a stop)) (entered_fault a stop) e in
    entered_complete a subs_complete stop down.0 (needs_subcommand a.top (finished a.top.rules (walk a.top.rules (names_of a) nothing_held (argument_words mswasm words)).held) (is_some (entered a stop)) refl refl down.1)

-- what words ask for that are taken
pub taken_asks : (words : List Text) → fault_of mswasm words ≡ [] → asked_of words ≡ option_and_then (λ p. asked_by p.0 p.1) (subcommand_of mswasm words)
taken_asks words e = ap (λ (ks : Kinds). cond (is_empty ks) (option_and_then (λ p. asked_by p.0 p.1) (subcommand_of mswasm words)) None) e

-- words that fail by some kind are not taken
pub refused_words : (words : List Text) (k : ErrorKind) → IsAmong k (fault_of mswasm words) → is_taken words ≡ false
refused_words words k h = go (fault_of mswasm words) h
  where
    go : (ks : Kinds) → IsAmong k ks → is_empty ks ≡ false
    go [] i = absurd i
    go (x ∷ xs) i = ne_eqb _ _ (λ p. omega arith)

-- and nothing is missing in what they ask for
pub taken_whole : (words : List Text) → fault_of mswasm words ≡ [] → IsWhole words
taken_whole words e =
    let done = taken_complete words e in
    subst (λ (o : Option (Text × List Row)). IfSome o (λ p. is_complete p.0 p.1 ≡ true)) (sym done.1) done.2

-- ---- a parse of the command line

-- a parse that gives matches
pub no_fault : (a : App) (words : List Text) → a ≡ mswasm → (is_simple_and_free a ≡ true → fault_of a words ≡ []) → fault_of mswasm words ≡ []
no_fault a words same none = subst (λ (x : App). is_simple_and_free x ≡ true → fault_of x words ≡ []) same none mswasm_is_simple

pub names_command : (a : App) (words : List Text) (m : ArgMatches) → a ≡ mswasm → HasMatchesOf a words m → subcommand_rows_of m ≡ subcommand_of mswasm words
names_command a words m same has = (subst (λ (x : App). HasMatchesOf x words m) same has refl).1

-- a parse that gives an error
pub has_kind : (a : App) (words : List Text) (e : Error) → a ≡ mswasm → (is_simple_and_free a ≡ true → HasKind (fault_of a words) e) → HasKind (fault_of mswasm words) e
has_kind a words e same kinds = subst (λ (x : App). is_simple_and_free x ≡ true → HasKind (fault_of x words) e) same kinds mswasm_is_simple
