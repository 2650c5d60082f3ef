-- Objects (C11, 6.2.4), where an array lies in one, and what is done through pointers: objects are made, read, written, copied and
-- freed, and pointers are moved and compared (6.5.3.2, 6.5.6, 6.5.8, 6.5.9, 7.22.3). What C leaves undefined stops here.
use Rattle.std.specs.Prelude.{ℕ, zero, suc, ◌+◌, ◌*◌, ◌&&◌, ◌==◌, ℤ, pos, negsuc, ◌+ℤ◌, ◌-ℤ◌, ◌*ℤ◌, nat_lt, int_le, Bool, true, false, List, [], ◌∷◌, ◌++◌, Option, Some, None, if◌then◌else◌, option_and_then, slice_get, slice_set}
use Rattle.std.specs.Ordering.{int_eq}
use Rattle.c_meaning.specs.Shapes.{Shape, scalar, elements, record', Members, no_members, member, Part, part_of, size}
use Rattle.c_meaning.specs.Values.{Step, to_member, inside, Pointer, Value, null, invalid, points, Tree, Trees, leaf, count, nth, so_many, zeros, array_at, with_element}

pub data Kind : Type 0 where
  -- made by malloc or calloc, and ended by free
  heap : Kind
  -- of a variable or of a string literal
  frame : Kind

pub record Object : Type 0 where
  pub kind : Kind
  pub alive : Bool
  -- of its elements
  pub shape : Shape
  pub count : ℕ
  pub trees : Trees

-- what an access through a pointer, a free or a comparison stops with
pub data Unsafe : Type 0 where
  at_null at_invalid freed bounds whole wrong_kind readonly apart : Unsafe

pub data Outcome (A : Type 0) : Type 0 where
  gives : A → Outcome A
  stops : Unsafe → Outcome A
  -- no well-typed unit comes to this
  lost : Outcome A

abbrev pub after : {A B : Type 0} → Outcome A → (A → Outcome B) → Outcome B
after (gives a) f = f a
after (stops u) f = stops u
after lost f = lost

-- ---- the place of an array in its object, in bytes, the shape of its elements and their number

pub record Span : Type 0 where
  pub place : ℕ
  pub shape : Shape
  pub count : ℕ

abbrev pub length_of : Span → ℕ
length_of s = s.count * size s.shape

-- a member that is no array counts as an array of one
abbrev pub member_at : ℕ → Option Part → Option Span
member_at place None = None
member_at place (Some p) = Some (record { place = place + p.offset; shape = p.shape; count = 1 })

abbrev pub elements_at : ℕ → Shape → Option Span
elements_at place (elements s n) = Some (record { place = place; shape = s; count = n })
elements_at place _ = None

abbrev pub span_by : Step → Span → Option Span
span_by (to_member i m) s = if nat_lt i s.count then member_at (s.place + i * size s.shape) (part_of s.shape m) else None
span_by (inside i) s = if nat_lt i s.count then elements_at (s.place + i * size s.shape) s.shape else None

abbrev pub span_at : List Step → Span → Option Span
span_at [] s = Some s
span_at (step ∷ path) s = option_and_then (λ t. span_at path t) (span_by step s)

abbrev pub whole_of : Shape → ℕ → Span
whole_of s n = record { place = 0; shape = s; count = n }

abbrev pub span_in : Object → List Step → Option Span
span_in o path = span_at path (whole_of o.shape o.count)

-- ---- pointers (6.5.6)

-- to an object's first element
abbrev pub to_object : ℕ → Value
to_object n = points (record { object = n; path = []; index = pos 0; sealed = false })

-- at most 2^40 bytes from the array's start, either way
abbrev pub is_near : ℤ → Bool
is_near distance = int_le (negsuc 1099511627775) distance && int_le distance (pos 1099511627776)

abbrev pub moved_to : (size : ℕ) → Pointer → ℤ → Value
moved_to n p i = if is_near (i *ℤ pos n) then points (record p { index = i }) else invalid

abbrev pub moved_by : (size : ℕ) → ℤ → Value → Value
moved_by n d (points p) = moved_to n p (p.index +ℤ d)
moved_by n d _ = invalid

-- a pointer that goes on by so many elements of this size
abbrev pub moved : (size : ℕ) → ℤ → Value → Value
moved n d v = if int_eq d (pos 0) then v else moved_by n d v

-- an index of an array of so many elements, if it is one
abbrev pub index_in : (count : ℕ) → ℤ → Option ℕ
index_in n (pos i) = if nat_lt i n then Some i else None
index_in n (negsuc i) = None

abbrev pub stepped : (ℕ → Step) → Pointer → Option ℕ → Value
stepped f p None = invalid
stepped f p (Some k) = points (record p { path = p.path ++ f k ∷ []; index = pos 0 })

abbrev pub span_count : Option Span → ℕ
span_count None = 0
span_count (Some s) = s.count

-- to the array that an element is, or that a member of it is, where the pointer is at an element
abbrev pub further : (ℕ → Step) → List Object → Value → Outcome Value
further f objects (points p) = found (slice_get objects p.object) where
  found : Option Object → Outcome Value
  found None = lost
  found (Some o) = gives (stepped f p (index_in (span_count (span_in o p.path)) p.index))
further f objects v = gives invalid

-- ---- making

abbrev pub new_object : Kind → Shape → ℕ → Object
new_object k s n = record { kind = k; alive = true; shape = s; count = n; trees = so_many n (zeros s) }

-- ---- accesses: null, invalid, ended, outside of its array, and a write through a sealed pointer

abbrev pub if_alive : Option Object → Outcome Object
if_alive None = lost
if_alive (Some o) = if o.alive then gives o else stops freed

abbrev pub alive_at : List Object → ℕ → Outcome Object
alive_at objects n = if_alive (slice_get objects n)

abbrev pub if_within : Option ℕ → Outcome ℕ
if_within None = stops bounds
if_within (Some k) = gives k

-- the index of the element at which the pointer is
abbrev pub element_at : Object → Pointer → Outcome ℕ
element_at o p = if_within (index_in (count (array_at p.path o.trees)) p.index)

abbrev pub value_in : Option Tree → Outcome Value
value_in (Some (leaf v)) = gives v
value_in _ = lost

abbrev pub read : List Object → Value → Outcome Value
read objects null = stops at_null
read objects invalid = stops at_invalid
read objects (points p) =
    after (alive_at objects p.object) (λ o. after (element_at o p) (λ k. value_in (nth (array_at p.path o.trees) k)))
read objects _ = lost

abbrev pub with_trees : Object → Trees → Object
with_trees o ts = record o { trees = ts }

-- the objects, where this one's element has another value
abbrev pub with_leaf : List Object → Object → Pointer → ℕ → Value → List Object
with_leaf objects o p k v = slice_set objects p.object (with_trees o (with_element p.path k (leaf v) o.trees))

abbrev pub write : List Object → Value → Value → Outcome (List Object)
write objects null v = stops at_null
write objects invalid v = stops at_invalid
write objects (points p) v =
    after (alive_at objects p.object) (λ o. after (element_at o p) (λ k. if p.sealed then stops readonly else gives (with_leaf objects o p k v)))
write objects _ v = lost

-- ---- ends

abbrev pub ended : Object → Object
ended o = record o { alive = false }

-- a variable's object ends with its block
abbrev pub end : List Object → ℕ → Outcome (List Object)
end objects n = after (alive_at objects n) (λ o. gives (slice_set objects n (ended o)))

abbrev pub is_whole_span : Object → Option Span → Bool
is_whole_span o None = false
is_whole_span o (Some s) = (s.place == 0) && (length_of s == o.count * size o.shape)

-- the pointer is to the first element, and its array is the whole object
abbrev pub is_whole : Object → Pointer → Bool
is_whole o p = int_eq p.index (pos 0) && is_whole_span o (span_in o p.path)

abbrev pub free_kind : Kind → (sealed : Bool) → List Object → Outcome (List Object)
free_kind heap sealed objects = if sealed then stops readonly else gives objects
free_kind frame sealed objects = stops wrong_kind

-- 7.22.3.3
abbrev pub free : List Object → Value → Outcome (List Object)
free objects null = gives objects
free objects invalid = stops at_invalid
free objects (points p) =
    after (alive_at objects p.object) (λ o. if is_whole o p then free_kind o.kind p.sealed (slice_set objects p.object (ended o)) else stops whole)
free objects _ = lost

-- ---- comparing

abbrev pub place_in : Option Span → ℤ → ℤ
place_in None i = pos 0
place_in (Some s) i = pos s.place +ℤ i *ℤ pos (size s.shape)

-- where a pointer is, in bytes from the object's start
abbrev pub place_of : Object → Pointer → ℤ
place_of o p = place_in (span_in o p.path) p.index

abbrev pub distance_in : Option Object → Pointer → Pointer → Outcome ℤ
distance_in None p q = lost
distance_in (Some o) p q = gives (place_of o p -ℤ place_of o q)

-- how far apart two pointers into one object are, in bytes
abbrev pub distance : List Object → Value → Value → Outcome ℤ
distance objects (points p) (points q) =
    if p.object == q.object then distance_in (slice_get objects p.object) p q else stops apart
distance objects _ _ = stops apart

abbrev pub same_in : Option Object → Pointer → Pointer → Outcome Bool
same_in None p q = lost
same_in (Some o) p q = gives (int_eq (place_of o p) (place_of o q))

-- an invalid pointer is equal to none
abbrev pub same_place : List Object → Value → Value → Outcome Bool
same_place objects null null = gives true
same_place objects (points p) (points q) =
    if p.object == q.object then same_in (slice_get objects p.object) p q else gives false
same_place objects _ _ = gives false

-- ---- copying: a struct is assigned leaf by leaf, in rising order, each leaf as the member that it is (6.5.16.1)

abbrev pub copy_value : Value → Value → List Object → Outcome (List Object)
copy_value a b objects = after (read objects b) (λ v. write objects a v)

-- so many times, from an index on
abbrev pub each_from : {A : Type 0} → (n i : ℕ) → (ℕ → A → Outcome A) → A → Outcome A
each_from zero i f x = gives x
each_from (suc n) i f x = after (f i x) (λ y. each_from n (suc i) f y)

-- from the second pointer to the first
abbrev mutual
  pub copy : Shape → Value → Value → List Object → Outcome (List Object)
  copy (scalar t) a b objects = copy_value a b objects
  copy (elements s n) a b objects =
      after (further inside objects a) (λ p. after (further inside objects b) (λ q.
      each_from n 0 (λ i. copy s (moved (size s) (pos i) p) (moved (size s) (pos i) q)) objects))
  copy (record' n ms) a b objects = copy_members ms 0 a b objects

  pub copy_members : Members → (number : ℕ) → Value → Value → List Object → Outcome (List Object)
  copy_members no_members m a b objects = gives objects
  copy_members (member o s ms) m a b objects =
      after (further (λ i. to_member i m) objects a) (λ p. after (further (λ i. to_member i m) objects b) (λ q.
      after (copy s p q objects) (λ os. copy_members ms (suc m) a b os)))

-- these values into the elements from the i-th on
abbrev pub write_all : (size : ℕ) → Value → (i : ℕ) → List Value → List Object → Outcome (List Object)
write_all n p i [] objects = gives objects
write_all n p i (v ∷ vs) objects = after (write objects (moved n (pos i) p) v) (λ os. write_all n p (suc i) vs os)
