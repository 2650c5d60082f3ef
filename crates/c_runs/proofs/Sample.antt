-- A unit that is compiled, linked alone, and run, and does what is meant: the premises can be met at once.
use Rattle.std.proofs.Common.{◌≡◌, ℕ, ◌≤◌, true, [], ◌∷◌, Some, None, Ok, Err, refl, arith}
use Rattle.std.specs.Prelude.{Result, codes, nat_le}
use Rattle.std.proofs.lemmas.List.Elements.{All-nil, All-cons}
use Rattle.ms_host.specs.declared.trap.TrapKind.TheVariants as traps
use Rattle.ms_machine.specs.Crews.{Input, Task, Trap, bytes_of, run_of, turns_from}
use Rattle.ms_machine.specs.Externs.{Fault}
use Rattle.ms_machine.specs.Linked.{linked, nothing_made, store_of}
use Rattle.ms_machine.specs.Running.{AreBytes, func_thread}
use Rattle.ms_machine.specs.Store.{Store}
use Rattle.ms_tasks.specs.Tasks.{crew_of, threads_from}
use Rattle.ms_task.specs.Thread.{sequence}
use Rattle.c_types.specs.declared.integers.IntType.TheVariants.{Int}
use Rattle.c_types.specs.declared.types.Scalar.TheVariants as scalars
use Rattle.c_types.specs.Layout.{Layout, layout_at}
use Rattle.c_types.specs.Types.{Ty, integer, pointer, function, no_types, types}
use Rattle.c_typed.specs.declared.ops.BinaryOp.TheVariants as ops
use Rattle.c_typed.specs.declared.ops.Variable.TheVariants.{Local}
use Rattle.c_typed.specs.Tree as tree
use Rattle.c_typed.specs.Tree.{Expr, Function, Stmt, Typed}
use Rattle.c_typed.specs.declared.tree.Case.{Case}
use Rattle.c_typed.specs.refinement.Expressions.{Context, opened}
use Rattle.c_typed.specs.Statements.{IsCase, IsStatement, in_loop}
use Rattle.c_typed.specs.refinement.Types.{IsObject}
use Rattle.c_typed.specs.Units.{HasIdentifier, IsFunction, IsMade, IsWellTyped, context_of}
use Rattle.c_meaning.specs.Units.{means}
use Rattle.c_meaning.specs.World.{zero_divide}
use Rattle.c_code.specs.Limits.{instructions_of, most_instructions}
use Rattle.c_code.specs.Modules.{compiled}
use Rattle.c_runs.specs.Correct.{MeansRun, run_at}
use Rattle.c_runs.proofs.Executing.{executed_behaves}

abbrev i : Ty
i = integer Int

abbrev number : ℕ → Expr
number n = tree.number Int n

abbrev x : Expr
x = tree.read (scalars.Int Int) (tree.of (Local 0))

abbrev set_x : Expr → Expr
set_x e = tree.assign (scalars.Int Int) (tree.of (Local 0)) e

abbrev more_than_x : ℕ → Expr
more_than_x n = tree.binary ops.Add Int x (number n)

-- switch(x){case 3: putchar(51); break; default: putchar(x+48);}
abbrev three : Case
three = record { group = 0; label = Some 3 }

abbrev other : Case
other = record { group = 2; label = None }

abbrev digit : Stmt
digit =
    tree.switch Int x [] (three ∷ other ∷ [])
    (tree.seq (tree.perform (tree.putchar (number 51))) (tree.seq tree.break (tree.seq (tree.perform (tree.putchar (more_than_x 48))) tree.done)))

-- p=&x
abbrev point : Expr
point = tree.assign scalars.Pointer (tree.of (Local 1)) (tree.address (tree.of (Local 0)))

-- *p=3
abbrev set_there : Expr
set_there = tree.assign (scalars.Int Int) (tree.deref (tree.read scalars.Pointer (tree.of (Local 1)))) (number 3)

abbrev takes_one : Ty
takes_one = function i (types i no_types)

-- g=f
abbrev set_g : Expr
set_g = tree.assign scalars.Function (tree.of (Local 2)) (tree.function 2)

-- g(x)
abbrev of_x : Expr
of_x = tree.call_through takes_one (Some (scalars.Int Int)) (tree.read scalars.Function (tree.of (Local 2))) (tree.more x tree.none)

-- int main(void){int x; int *p; int (*g)(int); p=&x; *p=3; g=f; while(x){switch(x){..} x=x+-1;} return g(x);}
abbrev main_body : Stmt
main_body =
    tree.scope (0 ∷ 1 ∷ 2 ∷ []) (tree.seq (tree.perform point) (tree.seq (tree.perform set_there) (tree.seq (tree.perform set_g) (tree.seq
    (tree.loop x None (tree.scope [] (tree.seq digit (tree.seq (tree.perform (set_x (more_than_x 4294967295))) tree.done))))
    (tree.seq (tree.return of_x) tree.done)))))

-- int f(int n){return 7/n;}
abbrev f_body : Stmt
f_body = tree.return (tree.binary ops.Div Int (number 7) x)

abbrev main_is : Function
main_is = record { name = codes "main"; ty = function i no_types; slots = i ∷ pointer i ∷ pointer takes_one ∷ []; body = Some main_body }

abbrev f_is : Function
f_is = record { name = codes "f"; ty = function i (types i no_types); slots = i ∷ []; body = Some f_body }

-- int unused(void); it is declared alone
abbrev unused_is : Function
unused_is = record { name = codes "unused"; ty = function i no_types; slots = []; body = None }

abbrev unit : Typed
unit = record { tags = []; structs = []; members = []; enumerations = []; names = []; globals = []; made = []; functions = main_is ∷ unused_is ∷ f_is ∷ []; additions = [] }

-- ---- it is well-typed

no_layout : {A : Type 0} (n : ℕ) (l : Layout) → layout_at [] n ≡ Some l → A
no_layout n l e = absurd cc

abbrev Other : Function → Function → Type 0
Other f g = g.name ≡ f.name → ⊥

abbrev context : Context
context = context_of unit (i ∷ pointer i ∷ pointer takes_one ∷ []) 0

-- where its variables are visible
digit_typed : IsStatement (opened context (0 ∷ 1 ∷ 2 ∷ [])) i in_loop digit
digit_typed = (
  refl,
  (refl, (refl, refl)),
  tt,
  All-cons (IsCase Int 3) three (other ∷ []) (omega arith, omega arith) (All-cons (IsCase Int 3) other [] (omega arith, tt) (All-nil (IsCase Int 3))),
  (All-cons (λ (y : Case). y.label ≡ Some 3 → ⊥) other [] (λ e. absurd cc) (All-nil (λ (y : Case). y.label ≡ Some 3 → ⊥)), (All-nil (λ (y : Case). y.label ≡ None → ⊥), tt)),
  ((i, (refl, (refl, omega arith))), (refl, ((i, (refl, (refl, refl, (refl, (refl, refl)), (refl, omega arith)))), tt))),
)

main_typed : IsFunction unit main_is
main_typed = (
  i,
  no_types,
  refl,
  (tt, tt, tt),
  (
    (i ∷ pointer i ∷ pointer takes_one ∷ [], refl),
    All-cons (IsObject []) i (pointer i ∷ pointer takes_one ∷ []) (tt, (tt, omega arith)) (All-cons (IsObject []) (pointer i) (pointer takes_one ∷ []) ((tt, tt), (tt, omega arith))
        (All-cons (IsObject []) (pointer takes_one) [] ((tt, (tt, tt, (tt, tt, tt))), (tt, omega arith)) (All-nil (IsObject [])))),
    (
      (omega arith, refl, (omega arith, refl, (omega arith, refl, tt))),
      (
        (pointer i, (refl, (refl, refl), (i, refl, (refl, refl)))),
        (
          (i, (refl, (refl, (refl, (refl, refl))), (refl, omega arith))),
          (
            (pointer takes_one, (refl, (refl, refl), (takes_one, refl, refl))),
            (
              (
                (Int, omega arith, (refl, (refl, refl))),
                tt,
                (tt, (digit_typed, ((i, (refl, (refl, refl), (refl, refl, (refl, (refl, refl)), (refl, omega arith)))), tt))),
              ),
              ((tt, (types i no_types, refl, refl, (refl, (refl, refl)), ((refl, (refl, refl)), tt))), tt),
            ),
          ),
        ),
      ),
    ),
  ),
)

f_typed : IsFunction unit f_is
f_typed = (
  i,
  types i no_types,
  refl,
  (tt, tt, (tt, tt, tt)),
  (
    ([], refl),
    All-cons (IsObject []) i [] (tt, (tt, omega arith)) (All-nil (IsObject [])),
    (tt, (refl, refl, (refl, omega arith), (refl, (refl, refl)))),
  ),
)

unused_typed : IsFunction unit unused_is
unused_typed = (i, no_types, refl, (tt, tt, tt), tt)

well : IsWellTyped unit
well = record {
  laid_out = record { sized = λ n l e. no_layout n l e; is = λ n l e. no_layout n l e };
  structs = λ n l e. no_layout n l e;
  tags = refl;
  names = refl;
  globals = All-nil (IsObject []);
  variables = refl;
  made = All-nil (IsMade (context_of unit [] 0));
  identifiers = All-cons HasIdentifier main_is (unused_is ∷ f_is ∷ []) refl (All-cons HasIdentifier unused_is (f_is ∷ []) refl (All-cons HasIdentifier f_is [] refl (All-nil HasIdentifier)));
  distinct = (
    All-cons (Other main_is) unused_is (f_is ∷ []) (λ e. absurd cc) (All-cons (Other main_is) f_is [] (λ e. absurd cc) (All-nil (Other main_is))),
    (All-cons (Other unused_is) f_is [] (λ e. absurd cc) (All-nil (Other unused_is)), (All-nil (Other f_is), tt)),
  );
  functions = All-cons (IsFunction unit) main_is (unused_is ∷ f_is ∷ []) main_typed
      (All-cons (IsFunction unit) unused_is (f_is ∷ []) unused_typed (All-cons (IsFunction unit) f_is [] f_typed (All-nil (IsFunction unit))));
}

-- ---- linked alone

abbrev store_in : Result Store Fault → Store
store_in (Ok s) = s
store_in (Err f) = store_of 64 nothing_made

abbrev st : Store
st = store_in (linked (([], compiled unit) ∷ []) 64)

linked_is : linked (([], compiled unit) ∷ []) 64 ≡ Ok st
linked_is = refl

tasks_are : threads_from st ((0, codes "main") ∷ []) 0 ≡ Ok (func_thread st 3 ∷ [])
tasks_are = refl

at_most : (m n : ℕ) → nat_le m n ≡ true → m ≤ n
at_most m n e = grind (arith, e)

-- its module has so few instructions
few : instructions_of (compiled unit).funcs ≤ most_instructions
few = at_most (instructions_of (compiled unit).funcs) most_instructions refl

-- ---- so it does what is meant; and both, computed

sample_executed : (input : Input) → AreBytes input → (budget : ℕ) → MeansRun unit input budget (run_of (turns_from 1000 1 0 budget) (crew_of st (func_thread st 3 ∷ [])) input)
sample_executed input bytes budget =
    executed_behaves unit [] 64 1000 budget st (func_thread st 3 ∷ []) input well few linked_is tasks_are bytes

sample_run : bytes_of (run_at st 3 [] 300).deeds ≡ codes "321"
unfolding sequence
sample_run = refl

sample_end : (run_at st 3 [] 300).end ≡ Trap (Task 0) traps.Zero
unfolding sequence
sample_end = refl

sample_means : (means unit [] (true ∷ []) 100).0 ≡ zero_divide
sample_means = refl
