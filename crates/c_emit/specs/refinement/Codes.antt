-- How the logic stores a body: by what its site is computed from.
use Rattle.std.proofs.Common.{ap, refl}
use Rattle.std.specs.Prelude.{◌≡◌, List, map, Option, ℕ}
use Rattle.std.specs.Coded.{Coded, code_by, coded×, coded_list, coded_option, coded_ℕ}
use Rattle.c_types.specs.declared.types.CType.{CType}
use Rattle.c_types.specs.Types.{type_of}
use Rattle.c_types.specs.contracts.types.CType as ctype
use Rattle.c_typed.specs.declared.tree.Stmt.{Stmt}
use Rattle.c_typed.specs.declared.unit.TypedUnit.{TypedUnit}
use Rattle.c_typed.specs.contracts.tree.Stmt as stmt
use Rattle.c_typed.specs.refinement.Views.{typed_of}
use Rattle.c_typed.specs.contracts.typed.Typed as typed
use Rattle.c_emit.specs.refinement.Sites.{Body, Site, site_in}
use mathlib.Core.Path.{path_j}

abbrev Data : Type 0
Data = TypedUnit × (List CType × (Option Stmt × (ℕ × ℕ)))

abbrev data_of : Body → Data
data_of b = (b.unit, (b.types, (b.body, (b.first, b.scratch))))

abbrev computed : Data → Site
computed d = site_in (typed_of d.0) (map type_of d.1.0) d.1.1.0 d.1.1.1.0 d.1.1.1.1

abbrev at : (d : Data) (s : Site) → s ≡ computed d → Body
at d s e = record { unit = d.0; types = d.1.0; body = d.1.1.0; first = d.1.1.1.0; scratch = d.1.1.1.1; site = s; is = e }

abbrev body_from : Data → Body
body_from d = at d (computed d) refl

-- all that is equal to one site is one
pub one_site : (s v : Site) (e : s ≡ v) → ◌≡◌ {A = (x : Site) × (x ≡ v)} (v, refl) (s, e)
one_site s v e = path_j (λ (z : Site) (q : s ≡ z). ◌≡◌ {A = (x : Site) × (x ≡ z)} (z, refl) (s, q)) refl e

pub one_body : (b : Body) → body_from (data_of b) ≡ b
one_body b = ap (λ (p : (x : Site) × (x ≡ computed (data_of b))). at (data_of b) p.0 p.1) (one_site b.site (computed (data_of b)) b.is)

abbrev pub coded_body : Coded Body
coded_body =
    code_by Data (coded× typed.the_row.coded (coded× (coded_list ctype.the_row.coded) (coded× (coded_option stmt.the_row.coded) (coded× coded_ℕ coded_ℕ)))) data_of body_from one_body
