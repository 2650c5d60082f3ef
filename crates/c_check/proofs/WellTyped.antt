-- A unit that the rules type is well typed.
use Rattle.std.proofs.Common.{◌≡◌, subst, refl, ℕ, List, [], ◌∷◌, Option, Some, None, Result, Ok, Err, arith}
use Rattle.std.proofs.lemmas.List.Elements.{All-nil}
use Rattle.c_types.specs.Layout.{Layout, layout_at}
use Rattle.c_tree.specs.declared.external.External.{External}
use Rattle.c_typed.specs.Tree.{Typed}
use Rattle.c_check_types.specs.State.{State}
use Rattle.c_typed.specs.refinement.Types.{IsObject}
use Rattle.c_typed.specs.Units.{AreMembers, HasIdentifier, IsFunction, IsMade, IsWellTyped}
use Rattle.c_check.proofs.States.{IsBelow, IsKnown, Good, IsDeclared}
use Rattle.c_check.specs.Declarations.{external}
use Rattle.c_check.specs.Units.{start, typed_state, going_on, externals, typing_of}
use Rattle.c_check.proofs.Held.{so_far, Held, well-typed}
use Rattle.c_check.proofs.FileScope.{external-does}

nothing-defined : (n : ℕ) (l : Layout) → layout_at [] n ≡ Some l → AreMembers [] l.members
nothing-defined n l e = let q : None ≡ Some l = e in absurd (cc)

start-good : Good start
start-good =
    record {
      tags = refl;
      laid_out = record { sized = λ n l e. let q : None ≡ Some l = e in absurd (cc); is = λ n l e. let q : None ≡ Some l = e in absurd (cc) };
      structs = nothing-defined;
      names = refl;
      globals = All-nil (IsObject []);
      functions = All-nil (IsDeclared []);
      named = (refl, All-nil HasIdentifier, tt);
      slots = All-nil (IsObject []);
      scoped = omega arith;
      known = (All-nil (IsKnown []), tt);
      opened = All-nil (IsBelow []);
    }

start-held : Held start
start-held = (
  record {
    literals = refl;
    made = All-nil (IsMade (so_far start [] 0));
    functions = All-nil (IsFunction (typed_state start));
  },
  refl,
)

-- behind one declaration
behind-one : (x : External) (s : State) (next : State → Result Typed ℕ) (u : Typed) → Good s → Held s → s.slots ≡ []
    → ((t : State) → Good t → Held t → t.slots ≡ [] → next t ≡ Ok u → IsWellTyped u)
    → (o : Option (Unit {0} × State)) → external x s ≡ o → going_on x.at o next ≡ Ok u → IsWellTyped u
behind-one x s next u g h e more None is f = let q : Err x.at ≡ Ok u = f in absurd (cc)
behind-one x s next u g h e more (Some (a, t)) is f = let d = external-does x s g h e a t is in more t d.0 d.2.0 d.2.1 f

externals-does : (xs : List External) (s : State) → Good s → Held s → s.slots ≡ [] → (u : Typed) → externals xs s ≡ Ok u → IsWellTyped u
externals-does [] s g h e u f =
    let q : typed_state s ≡ u = cc in subst IsWellTyped q (well-typed s g h)
externals-does (x ∷ xs) s g h e u f =
    behind-one x s (λ t. externals xs t) u g h e (λ t good held empty is. externals-does xs t good held empty u is) (external x s) refl f

-- what typing gives is well typed
pub typing_well : (xs : List External) (u : Typed) → typing_of xs ≡ Ok u → IsWellTyped u
typing_well xs u e = externals-does xs start start-good start-held refl u e
