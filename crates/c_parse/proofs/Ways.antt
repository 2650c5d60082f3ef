-- Steps one behind the other.
use Rattle.std.proofs.Common.{◌≡◌, [], ◌∷◌, subst}
use Rattle.c_token.specs.declared.word.Word.{Word}
use Rattle.c_tree.specs.declared.external.OuterSpecifier.{OuterSpecifier}
use Rattle.c_tree.specs.declared.external.ExternalForm.{ExternalForm}
use Rattle.c_productions.specs.refinement.Table.{State, takes, goes, step, end_step}
use Rattle.c_productions.specs.refinement.Meaning.{Reaches, here, taking, going, ending}
use Rattle.c_parse_steps.proofs.Reach.{followed}
use Rattle.c_parse.specs.refinement.Calls.{whole, Takes, Comes}

pub taken : (s t u : State) (w : Word) → Comes s w t → step t.goal t.waiting w ≡ takes u → Takes s w u
taken s t u w c e = λ q. followed s t u (w ∷ q) (w ∷ q) q (c q) (taking t u u w q q e (here u q))

pub gone : (s t u : State) (w : Word) → Comes s w t → step t.goal t.waiting w ≡ goes u → Comes s w u
gone s t u w c e = λ q. followed s t u (w ∷ q) (w ∷ q) (w ∷ q) (c q) (going t u u w q (w ∷ q) e (here u (w ∷ q)))

pub come_whole : (s t : State) (w : Word) (o : OuterSpecifier) (f : ExternalForm) → Comes s w t → t ≡ whole o f → Comes s w (whole o f)
come_whole s t w o f c e = let P : State → Type 0 = λ x. Comes s w x in subst P e c

pub ended : (s t u : State) → Reaches s [] t [] → end_step t.goal t.waiting ≡ goes u → Reaches s [] u []
ended s t u c e = followed s t u [] [] [] c (ending t u u [] e (here u []))

pub ended_whole : (s t : State) (o : OuterSpecifier) (f : ExternalForm) → Reaches s [] t [] → t ≡ whole o f → Reaches s [] (whole o f) []
ended_whole s t o f c e = let P : State → Type 0 = λ x. Reaches s [] x [] in subst P e c
