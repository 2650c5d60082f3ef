-- What the functions of the parser give, by the steps of the table.
use Rattle.std.specs.Prelude.{◌≡◌, ℕ, ◌≤◌, ◌<◌, Bool, true, false, List, [], ◌∷◌, ◌++◌, Option, Some, None, Result, Ok, Err}
use Rattle.std.specs.declared.alloc.AllocError.{AllocError}
use Rattle.c_token.specs.declared.word.Word.{Word}
use Rattle.c_token.specs.declared.word.Token.{Token}
use Rattle.c_tree.specs.declared.external.External.{External}
use Rattle.c_tree.specs.declared.external.OuterSpecifier.{OuterSpecifier}
use Rattle.c_tree.specs.declared.external.ExternalForm.{ExternalForm}
use Rattle.c_productions.specs.declared.kind.Kind.{Kind}
use Rattle.c_productions.specs.declared.kind.Kind.TheVariants as kinds
use Rattle.c_productions.specs.declared.value.Value.{Value}
use Rattle.c_productions.specs.declared.value.Value.TheVariants as values
use Rattle.c_productions.specs.declared.frame.Frame.{Frame}
use Rattle.c_productions.specs.refinement.Table.{Goal as Wanted, made, expects, State, rests, takes, goes, stops, resumes, step, end_step}
use Rattle.c_productions.specs.refinement.Meaning.{first_state, lowest, Reaches}
use Rattle.c_parse.specs.declared.fault.CParse.{CParse}
use Rattle.c_parse.specs.declared.fault.CParse.TheVariants.{Syntax, TooDeep, Memory}
use Rattle.c_parse.specs.declared.steps.Goal.{Goal}
use Rattle.c_parse.specs.declared.steps.Goal.TheVariants as goals
use Rattle.c_parse.specs.declared.steps.Resumed.{Resumed}
use Rattle.c_parse.specs.declared.steps.Resumed.TheVariants as resumed
use Rattle.c_parse.specs.declared.steps.Step.{Step}
use Rattle.c_parse.specs.declared.steps.Step.TheVariants as by
use Rattle.c_parse.specs.declared.runs.Taking.{Taking}
use Rattle.c_parse.specs.declared.runs.Taking.TheVariants as taking
use Rattle.c_parse.specs.declared.parser.Parser.{Parser}
use Rattle.c_parse.specs.Units.{most_high}

abbrev pub goal_of : Goal → Wanted
goal_of (goals.Made kind value) = made kind value
goal_of (goals.Expects p f) = expects p f

abbrev pub state : Goal → List Frame → State
state g fs = record { goal = goal_of g; waiting = fs }

-- an external declaration that is whole
abbrev pub whole : OuterSpecifier → ExternalForm → State
whole o f = record { goal = made kinds.External (values.External o f); waiting = [] }

abbrev pub is_external : Value → Bool
is_external (values.External o f) = true
is_external _ = false

abbrev pub is_whole_goal : Wanted → Bool
is_whole_goal (made kinds.External value) = is_external value
is_whole_goal (made _ value) = false
is_whole_goal (expects p f) = false

abbrev pub is_whole : Wanted → List Frame → Bool
is_whole g [] = is_whole_goal g
is_whole g (f ∷ fs) = false

-- a value for which no production waits
abbrev pub IsLast : Kind → Value → Resumed → Type 0
IsLast K v (resumed.Goes g) = ⊥
IsLast K v (resumed.Whole o f) = (K ≡ kinds.External) × (v ≡ values.External o f)
IsLast K v resumed.Stops = is_whole_goal (made K v) ≡ false

-- a value to which no word belongs goes to what waits for it
abbrev pub Resumes : Kind → Value → List Frame → List Frame → Result Resumed AllocError → Type 0
Resumes K v old new (Ok (resumed.Goes g)) = resumes (rests K v) old ≡ goes (state g new)
Resumes K v old new (Ok (resumed.Whole o f)) = (K ≡ kinds.External) × (v ≡ values.External o f) × (old ≡ [])
Resumes K v old new (Ok resumed.Stops) = (resumes (rests K v) old ≡ stops) × (is_whole (made K v) old ≡ false)
Resumes K v old new (Err e) = Unit {0}

-- the same as a step
abbrev pub Sticks : Kind → Value → List Frame → List Frame → Result Step AllocError → Type 0
Sticks K v old new (Ok (by.Taken g)) = ⊥
Sticks K v old new (Ok (by.Goes g)) = resumes (rests K v) old ≡ goes (state g new)
Sticks K v old new (Ok (by.Whole o f)) = (K ≡ kinds.External) × (v ≡ values.External o f) × (old ≡ [])
Sticks K v old new (Ok by.Stops) = (resumes (rests K v) old ≡ stops) × (is_whole (made K v) old ≡ false)
Sticks K v old new (Err e) = Unit {0}

-- what a word makes of a state
abbrev pub Steps : State → Word → List Frame → Result Step AllocError → Type 0
Steps s w new (Ok (by.Taken g)) = step s.goal s.waiting w ≡ takes (state g new)
Steps s w new (Ok (by.Goes g)) = step s.goal s.waiting w ≡ goes (state g new)
Steps s w new (Ok (by.Whole o f)) = s ≡ whole o f
Steps s w new (Ok by.Stops) = (step s.goal s.waiting w ≡ stops) × (is_whole s.goal s.waiting ≡ false)
Steps s w new (Err e) = Unit {0}

-- the word is taken on the way from the one state to the other, or comes next there, whatever lies behind it
abbrev pub Takes : State → Word → State → Type 0
Takes s w t = (q : List Word) → Reaches s (w ∷ q) t q

abbrev pub Comes : State → Word → State → Type 0
Comes s w t = (q : List Word) → Reaches s (w ∷ q) t (w ∷ q)

-- the word is never taken
pub record Refuses (s : State) (w : Word) : Type 0 where
  pub last : State
  pub comes : Comes s w last
  pub stop : step last.goal last.waiting w ≡ stops
  pub not_whole : is_whole last.goal last.waiting ≡ false

-- no external declaration ends there
pub record Unfinished (s : State) : Type 0 where
  pub last : State
  pub comes : Reaches s [] last []
  pub stop : end_step last.goal last.waiting ≡ stops
  pub not_whole : is_whole last.goal last.waiting ≡ false

-- what all steps at a word make of a state
abbrev pub Advances : State → Word → List Frame → Result Taking AllocError → Type 0
Advances s w new (Ok (taking.Taken g)) = Takes s w (state g new)
Advances s w new (Ok (taking.Whole o f)) = Comes s w (whole o f)
Advances s w new (Ok taking.Refused) = Refuses s w
Advances s w new (Err e) = Unit {0}

-- what a state is where the tokens end
abbrev pub Ends : State → Result (Option (OuterSpecifier × ExternalForm)) AllocError → Type 0
Ends s (Ok (Some p)) = Reaches s [] (whole p.0 p.1) []
Ends s (Ok None) = Unfinished s
Ends s (Err e) = Unit {0}

-- ---- from token to token

abbrev pub state_of : Parser → State
state_of p = state p.goal p.waiting

abbrev pub placed : ℕ → OuterSpecifier → ExternalForm → External
placed n o f = record { at = n; specifier = o; form = f }

-- a token is read
pub data Goes (p : Parser) (t : Token) (r : Parser) : Type 0 where
  -- of the same external declaration
  further : Takes (state_of p) t.word (state_of r) → r.done ≡ p.done → r.at ≡ p.at → Goes p t r
  -- of the next one
  anew : (o : OuterSpecifier) (f : ExternalForm) → Comes (state_of p) t.word (whole o f) → Takes first_state t.word (state_of r)
      → r.done ≡ p.done ++ placed p.at o f ∷ [] → r.at ≡ t.at → Goes p t r

-- a token isn't
pub data Fails (p : Parser) (t : Token) : Type 0 where
  further : Refuses (state_of p) t.word → Fails p t
  anew : (o : OuterSpecifier) (f : ExternalForm) → Comes (state_of p) t.word (whole o f) → Refuses first_state t.word → Fails p t

abbrev pub ReadsToken : Parser → Token → Result Parser CParse → Type 0
ReadsToken p t (Ok r) = Goes p t r
ReadsToken p t (Err (Syntax at)) = (at ≡ t.at) × Fails p t
ReadsToken p t (Err (TooDeep at)) = ⊥
ReadsToken p t (Err Memory) = Unit {0}

-- the first token of an external declaration is read
abbrev pub Starts : List External → Token → Result Parser CParse → Type 0
Starts done t (Ok r) = Takes first_state t.word (state_of r) × (r.done ≡ done) × (r.at ≡ t.at)
Starts done t (Err (Syntax at)) = (at ≡ t.at) × Refuses first_state t.word
Starts done t (Err (TooDeep at)) = ⊥
Starts done t (Err Memory) = Unit {0}

-- what is being read may be low enough
abbrev pub IsLow : Parser → ℕ → Result Parser CParse → Type 0
IsLow p at (Ok r) = (r ≡ p) × (lowest (goal_of p.goal) p.waiting ≤ most_high)
IsLow p at (Err (Syntax n)) = ⊥
IsLow p at (Err (TooDeep n)) = (n ≡ at) × (most_high < lowest (goal_of p.goal) p.waiting)
IsLow p at (Err Memory) = Unit {0}

-- with the last external declaration it is whole
pub record Finished (p : Parser) (unit : List External) : Type 0 where
  pub outer : OuterSpecifier
  pub form : ExternalForm
  pub comes : Reaches (state_of p) [] (whole outer form) []
  pub unit_is : unit ≡ p.done ++ placed p.at outer form ∷ []

abbrev pub Finishes : Parser → ℕ → Result (List External) CParse → Type 0
Finishes p end (Ok unit) = Finished p unit
Finishes p end (Err (Syntax at)) = (at ≡ end) × Unfinished (state_of p)
Finishes p end (Err (TooDeep at)) = ⊥
Finishes p end (Err Memory) = Unit {0}
