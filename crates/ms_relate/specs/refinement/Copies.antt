-- What the code of a struct assignment does to the memory: for each leaf a slice of either handle, a load and a store.
use Rattle.std.specs.Prelude.{ℕ, zero, suc, ◌*◌, pos, List, Result, Ok, Err, if◌then◌else◌}
use Rattle.c_types.specs.Layout.{Table}
use Rattle.c_types.specs.Types.{Ty}
use Rattle.c_meaning.specs.Shapes.{Shape, scalar, elements, record', Members, no_members, member, size, width}
use Rattle.ms_relate.specs.refinement.Laid.{is_handle}
use Rattle.c_meaning.specs.Objects.{Object, Outcome, gives, stops, Unsafe}
use Rattle.ms_handle.specs.declared.handle.Handle.{Handle}
use Rattle.ms_handle.specs.Handle.{add, slice}
use Rattle.ms_segment.specs.Memory.{Memory, loaded, once_more}
use Rattle.ms_segment.specs.Calls.{Change, load_handle, store, store_handle}
use Rattle.ms_segment.specs.declared.trap.SegTrap.{SegTrap}
use Rattle.ms_relate.specs.refinement.Homes.{Home, IsScalar}
use Rattle.ms_relate.specs.refinement.Relation.{Related}
use Rattle.ms_relate.specs.refinement.Operations.{Ends}

-- each leaf is of a type of one value
abbrev mutual
  pub Scalars : Shape → Type 0
  Scalars (scalar t) = IsScalar t
  Scalars (elements s n) = Scalars s
  Scalars (record' n ms) = MemberScalars ms

  pub MemberScalars : Members → Type 0
  MemberScalars no_members = Unit {0}
  MemberScalars (member o s ms) = Scalars s × MemberScalars ms

abbrev pub next : {A B : Type 0} → Result A SegTrap → (A → Result B SegTrap) → Result B SegTrap
next (Ok a) f = f a
next (Err e) f = Err e

abbrev pub left : Result Change SegTrap → Result Memory SegTrap
left (Ok c) = Ok c.memory
left (Err e) = Err e

abbrev pub copy_leaf_on : Ty → Handle → Handle → Memory → Result Memory SegTrap
copy_leaf_on t h g m =
    if is_handle t then next (load_handle m g) (λ x. left (store_handle (once_more m) h x.0)) else next (loaded m g (width t)) (λ x. left (store (once_more m) h (width t) x.0))

abbrev pub each_on : (n i : ℕ) → (ℕ → Memory → Result Memory SegTrap) → Memory → Result Memory SegTrap
each_on zero i f m = Ok m
each_on (suc n) i f m = next (f i m) (λ k. each_on n (suc i) f k)

abbrev mutual
  pub copy_on : Shape → Handle → Handle → Memory → Result Memory SegTrap
  copy_on (scalar t) h g m = copy_leaf_on t h g m
  copy_on (elements s n) h g m = each_on n 0 (λ i. copy_on s (add (slice h 0 (n * size s)) (pos i) (size s)) (add (slice g 0 (n * size s)) (pos i) (size s))) m
  copy_on (record' n ms) h g m = copy_members_on ms h g m

  pub copy_members_on : Members → Handle → Handle → Memory → Result Memory SegTrap
  copy_members_on no_members h g m = Ok m
  copy_members_on (member o s ms) h g m = next (copy_on s (slice h o (size s)) (slice g o (size s)) m) (λ k. copy_members_on ms h g k)

-- objects are changed, or it ends
pub data Copies (table : Table) (places : Ty → ℕ → ℕ) (homes : List Home) : Outcome (List Object) → Result Memory SegTrap → Type 0 where
  copied : {objects : List Object} {m : Memory} → Related table places homes objects m → Copies table places homes (gives objects) (Ok m)
  copy_stopped : {u : Unsafe} {e : SegTrap} → Ends u e → Copies table places homes (stops u) (Err e)
