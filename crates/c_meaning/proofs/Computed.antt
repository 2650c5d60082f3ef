-- Units of C, computed: how each ends, what it writes, and the sizes of the objects that it asks for, as the rules of C have it. In
-- front of each stands its text.
use Rattle.std.proofs.Common.{◌≡◌, ℕ, List, [], ◌∷◌, true, false, Option, Some, None, refl}
use Rattle.std.specs.Prelude.{codes, map, pos, negsuc}
use Rattle.c_types.specs.declared.integers.IntType.TheVariants.{Char, UnsignedChar, Int, UnsignedInt, LongLong}
use Rattle.c_types.specs.declared.types.Scalar.TheVariants as scalars
use Rattle.c_types.specs.Types.{Ty, void, integer, struct, pointer, array, function, no_types, types}
use Rattle.c_types.specs.Layout.{Layout, Table, laid_out}
use Rattle.c_typed.specs.declared.ops.BinaryOp.TheVariants as ops
use Rattle.c_typed.specs.declared.ops.UnaryOp.TheVariants.{Negate}
use Rattle.c_typed.specs.declared.ops.RelOp.TheVariants as rels
use Rattle.c_typed.specs.declared.ops.Variable.TheVariants.{Local, Global}
use Rattle.c_typed.specs.Tree as tree
use Rattle.c_typed.specs.Tree.{Place, of, deref, member, none, more, Stmt, nothing, perform, fill, if_else, loop, do_while, switch, scope, return, return_nothing, break, continue, done, seq, Function, Made, global, text, Typed}
use Rattle.c_meaning.specs.Values.{number}
use Rattle.c_meaning.specs.Objects.{at_null, at_invalid, freed, bounds, whole, wrong_kind, readonly, apart}
use Rattle.c_meaning.specs.World.{World, End, result, unsafe, zero_divide, overflow, abort, null_call, deep, exhausted, ungranted, out_of_fuel}
use Rattle.c_meaning.specs.Units.{means}

abbrev seen : End × World → End × List ℕ × List ℕ
seen m = (m.0, m.1.output, m.1.sizes)

abbrev function_named : List ℕ → Ty → List Ty → Option Stmt → Function
function_named name t slots body = record { name = name; ty = t; slots = slots; body = body }

abbrev unit_of : Table → List Ty → List Made → List Function → Typed
unit_of structs globals made functions = record {
  tags = [];
  structs = structs;
  members = [];
  enumerations = [];
  names = [];
  globals = globals;
  made = made;
  functions = functions;
  additions = [];
}

-- int main(void){return 7;}
abbrev pub constant : Typed
constant = unit_of [] [] []
    ((function_named (codes "main") (function (integer Int) no_types) [] (Some (scope [] (seq (return (tree.number Int 7))
    done)))) ∷ [])

constant_is : seen (means constant [] [] 1) ≡ (result (Some (number (pos 7))), [], [])
constant_is = refl

-- int main(void){int a[4]; int i; for(i=0;i<=4;i=i+1){putchar(48+i); a[i]=i;} return 0;}
abbrev pub past_an_array : Typed
past_an_array = unit_of [] [] []
    ((function_named (codes "main") (function (integer Int) no_types) ((array (integer Int) 4) ∷ (integer Int) ∷ []) (Some
    (scope (0 ∷ 1 ∷ []) (seq (scope [] (seq (perform (tree.assign (scalars.Int Int) (of (Local 1)) (tree.number Int 0))) (seq
    (loop (tree.compare rels.LessEqual Int (tree.read (scalars.Int Int) (of (Local 1))) (tree.number Int 4)) (Some (tree.assign
    (scalars.Int Int) (of (Local 1)) (tree.binary ops.Add Int (tree.read (scalars.Int Int) (of (Local 1))) (tree.number Int
    1)))) (scope [] (seq (perform (tree.putchar (tree.binary ops.Add Int (tree.number Int 48) (tree.read (scalars.Int Int) (of
    (Local 1)))))) (seq (perform (tree.assign (scalars.Int Int) (deref (tree.move (integer Int) false (tree.decay (integer Int)
    4 (of (Local 0))) (tree.convert Int LongLong (tree.read (scalars.Int Int) (of (Local 1)))))) (tree.read (scalars.Int Int)
    (of (Local 1))))) done)))) done))) (seq (return (tree.number Int 0)) done))))) ∷ [])

past_an_array_is : seen (means past_an_array [] (true ∷ []) 9) ≡ (unsafe bounds, codes "01234", (16 ∷ []))
past_an_array_is = refl

-- struct s{char a[4];int k;}; int main(void){struct s v; int i; v.k=5; for(i=0;i<8;i=i+1) v.a[i]=1; return v.k;}
abbrev struct_0_of_past_a_member : Layout
struct_0_of_past_a_member = laid_out [] ((array (integer Char) 4) ∷ (integer Int) ∷ [])

abbrev pub past_a_member : Typed
past_a_member = unit_of (Some struct_0_of_past_a_member ∷ []) [] []
    ((function_named (codes "main") (function (integer Int) no_types) ((struct 0) ∷ (integer Int) ∷ []) (Some (scope (0 ∷ 1 ∷
    []) (seq (perform (tree.assign (scalars.Int Int) (member (of (Local 0)) 0 1) (tree.number Int 5))) (seq (scope [] (seq
    (perform (tree.assign (scalars.Int Int) (of (Local 1)) (tree.number Int 0))) (seq (loop (tree.compare rels.Less Int
    (tree.read (scalars.Int Int) (of (Local 1))) (tree.number Int 8)) (Some (tree.assign (scalars.Int Int) (of (Local 1))
    (tree.binary ops.Add Int (tree.read (scalars.Int Int) (of (Local 1))) (tree.number Int 1)))) (perform (tree.assign
    (scalars.Int Char) (deref (tree.move (integer Char) false (tree.decay (integer Char) 4 (member (of (Local 0)) 0 0))
    (tree.convert Int LongLong (tree.read (scalars.Int Int) (of (Local 1)))))) (tree.convert Int Char (tree.number Int 1)))))
    done))) (seq (return (tree.read (scalars.Int Int) (member (of (Local 0)) 0 1))) done)))))) ∷ [])

past_a_member_is : seen (means past_a_member [] (true ∷ []) 9) ≡ (unsafe bounds, [], (8 ∷ []))
past_a_member_is = refl

-- int main(void){int *p=malloc(4); int *q; free(p); q=malloc(4); *q=9; return *p;}
abbrev pub freed_and_used_again : Typed
freed_and_used_again = unit_of [] [] []
    ((function_named (codes "main") (function (integer Int) no_types) ((pointer (integer Int)) ∷ (pointer (integer Int)) ∷ [])
    (Some (scope (0 ∷ 1 ∷ []) (seq (perform (tree.assign scalars.Pointer (of (Local 0)) (tree.malloc (integer Int) (tree.convert
    Int UnsignedInt (tree.number Int 4))))) (seq (perform (tree.free (tree.read scalars.Pointer (of (Local 0))))) (seq (perform
    (tree.assign scalars.Pointer (of (Local 1)) (tree.malloc (integer Int) (tree.convert Int UnsignedInt (tree.number Int 4)))))
    (seq (perform (tree.assign (scalars.Int Int) (deref (tree.read scalars.Pointer (of (Local 1)))) (tree.number Int 9))) (seq
    (return (tree.read (scalars.Int Int) (deref (tree.read scalars.Pointer (of (Local 0)))))) done)))))))) ∷ [])

freed_and_used_again_is : seen (means freed_and_used_again [] (true ∷ true ∷ []) 9) ≡ (unsafe freed, [], (4 ∷ 4 ∷ []))
freed_and_used_again_is = refl

-- int main(void){int *p=malloc(8); free(p); free(p); return 0;}
abbrev pub freed_twice : Typed
freed_twice = unit_of [] [] []
    ((function_named (codes "main") (function (integer Int) no_types) ((pointer (integer Int)) ∷ []) (Some (scope (0 ∷ []) (seq
    (perform (tree.assign scalars.Pointer (of (Local 0)) (tree.malloc (integer Int) (tree.convert Int UnsignedInt (tree.number
    Int 8))))) (seq (perform (tree.free (tree.read scalars.Pointer (of (Local 0))))) (seq (perform (tree.free (tree.read
    scalars.Pointer (of (Local 0))))) (seq (return (tree.number Int 0)) done))))))) ∷ [])

freed_twice_is : seen (means freed_twice [] (true ∷ []) 9) ≡ (unsafe freed, [], (8 ∷ []))
freed_twice_is = refl

-- int main(void){int *p=malloc(8); free(p+1); return 0;}
abbrev pub freed_in_part : Typed
freed_in_part = unit_of [] [] []
    ((function_named (codes "main") (function (integer Int) no_types) ((pointer (integer Int)) ∷ []) (Some (scope (0 ∷ []) (seq
    (perform (tree.assign scalars.Pointer (of (Local 0)) (tree.malloc (integer Int) (tree.convert Int UnsignedInt (tree.number
    Int 8))))) (seq (perform (tree.free (tree.move (integer Int) false (tree.read scalars.Pointer (of (Local 0))) (tree.convert
    Int LongLong (tree.number Int 1))))) (seq (return (tree.number Int 0)) done)))))) ∷ [])

freed_in_part_is : seen (means freed_in_part [] (true ∷ []) 9) ≡ (unsafe whole, [], (8 ∷ []))
freed_in_part_is = refl

-- int main(void){int x; free(&x); return 0;}
abbrev pub variable_freed : Typed
variable_freed = unit_of [] [] []
    ((function_named (codes "main") (function (integer Int) no_types) ((integer Int) ∷ []) (Some (scope (0 ∷ []) (seq (perform
    (tree.free (tree.address (of (Local 0))))) (seq (return (tree.number Int 0)) done))))) ∷ [])

variable_freed_is : seen (means variable_freed [] (true ∷ []) 9) ≡ (unsafe wrong_kind, [], (4 ∷ []))
variable_freed_is = refl

-- int main(void){free(0); return 0;}
abbrev pub null_freed : Typed
null_freed = unit_of [] [] []
    ((function_named (codes "main") (function (integer Int) no_types) [] (Some (scope [] (seq (perform (tree.free tree.null))
    (seq (return (tree.number Int 0)) done))))) ∷ [])

null_freed_is : seen (means null_freed [] [] 9) ≡ (result (Some (number (pos 0))), [], [])
null_freed_is = refl

-- int main(void){int *p; int n=0; while((p=malloc(16))!=0) n=n+1; return n;}
abbrev pub refused_by_malloc : Typed
refused_by_malloc = unit_of [] [] []
    ((function_named (codes "main") (function (integer Int) no_types) ((pointer (integer Int)) ∷ (integer Int) ∷ []) (Some
    (scope (0 ∷ 1 ∷ []) (seq (perform (tree.assign (scalars.Int Int) (of (Local 1)) (tree.number Int 0))) (seq (loop
    (tree.compare_pointers rels.NotEqual (tree.assign scalars.Pointer (of (Local 0)) (tree.malloc (integer Int) (tree.convert
    Int UnsignedInt (tree.number Int 16)))) tree.null) None (perform (tree.assign (scalars.Int Int) (of (Local 1)) (tree.binary
    ops.Add Int (tree.read (scalars.Int Int) (of (Local 1))) (tree.number Int 1))))) (seq (return (tree.read (scalars.Int Int)
    (of (Local 1)))) done)))))) ∷ [])

refused_by_malloc_is : seen (means refused_by_malloc [] (true ∷ true ∷ true ∷ true ∷ false ∷ []) 9) ≡ (
  result (Some (number (pos
      4))),
  [],
  (16 ∷ 16 ∷ 16 ∷ 16 ∷ 16 ∷ []),
)
refused_by_malloc_is = refl

-- int main(void){int a[2]; int *p=a; p=p+1073741824; return *p;}
abbrev pub far_pointer : Typed
far_pointer = unit_of [] [] []
    ((function_named (codes "main") (function (integer Int) no_types) ((array (integer Int) 2) ∷ (pointer (integer Int)) ∷ [])
    (Some (scope (0 ∷ 1 ∷ []) (seq (perform (tree.assign scalars.Pointer (of (Local 1)) (tree.decay (integer Int) 2 (of (Local
    0))))) (seq (perform (tree.assign scalars.Pointer (of (Local 1)) (tree.move (integer Int) false (tree.read scalars.Pointer
    (of (Local 1))) (tree.convert Int LongLong (tree.number Int 1073741824))))) (seq (return (tree.read (scalars.Int Int) (deref
    (tree.read scalars.Pointer (of (Local 1)))))) done)))))) ∷ [])

far_pointer_is : seen (means far_pointer [] (true ∷ []) 9) ≡ (unsafe bounds, [], (8 ∷ []))
far_pointer_is = refl

-- int main(void){int a[2]; int *p=a; p=p+274877906945LL; p=p-274877906945LL; return *p;}
abbrev pub too_far_pointer : Typed
too_far_pointer = unit_of [] [] []
    ((function_named (codes "main") (function (integer Int) no_types) ((array (integer Int) 2) ∷ (pointer (integer Int)) ∷ [])
    (Some (scope (0 ∷ 1 ∷ []) (seq (perform (tree.assign scalars.Pointer (of (Local 1)) (tree.decay (integer Int) 2 (of (Local
    0))))) (seq (perform (tree.assign scalars.Pointer (of (Local 1)) (tree.move (integer Int) false (tree.read scalars.Pointer
    (of (Local 1))) (tree.number LongLong 274877906945)))) (seq (perform (tree.assign scalars.Pointer (of (Local 1)) (tree.move
    (integer Int) true (tree.read scalars.Pointer (of (Local 1))) (tree.number LongLong 274877906945)))) (seq (return (tree.read
    (scalars.Int Int) (deref (tree.read scalars.Pointer (of (Local 1)))))) done))))))) ∷ [])

too_far_pointer_is : seen (means too_far_pointer [] (true ∷ []) 9) ≡ (unsafe at_invalid, [], (8 ∷ []))
too_far_pointer_is = refl

-- int main(void){int a[2]; int *p=a; p=p+274877906944LL; p=p-274877906944LL; return *p;}
abbrev pub as_far_as_may_be : Typed
as_far_as_may_be = unit_of [] [] []
    ((function_named (codes "main") (function (integer Int) no_types) ((array (integer Int) 2) ∷ (pointer (integer Int)) ∷ [])
    (Some (scope (0 ∷ 1 ∷ []) (seq (perform (tree.assign scalars.Pointer (of (Local 1)) (tree.decay (integer Int) 2 (of (Local
    0))))) (seq (perform (tree.assign scalars.Pointer (of (Local 1)) (tree.move (integer Int) false (tree.read scalars.Pointer
    (of (Local 1))) (tree.number LongLong 274877906944)))) (seq (perform (tree.assign scalars.Pointer (of (Local 1)) (tree.move
    (integer Int) true (tree.read scalars.Pointer (of (Local 1))) (tree.number LongLong 274877906944)))) (seq (return (tree.read
    (scalars.Int Int) (deref (tree.read scalars.Pointer (of (Local 1)))))) done))))))) ∷ [])

as_far_as_may_be_is : seen (means as_far_as_may_be [] (true ∷ []) 9) ≡ (result (Some (number (pos 0))), [], (8 ∷ []))
as_far_as_may_be_is = refl

-- int main(void){for(;;){}}
abbrev pub endless : Typed
endless = unit_of [] [] []
    ((function_named (codes "main") (function (integer Int) no_types) [] (Some (scope [] (seq (loop (tree.number Int 1) None
    (scope [] done)) done)))) ∷ [])

endless_is : seen (means endless [] [] 20) ≡ (out_of_fuel, [], [])
endless_is = refl

-- int main(void){return (-2147483647-1)/-1;}
abbrev pub least_by_minus_one : Typed
least_by_minus_one = unit_of [] [] []
    ((function_named (codes "main") (function (integer Int) no_types) [] (Some (scope [] (seq (return (tree.binary ops.Div Int
    (tree.binary ops.Sub Int (tree.unary Negate Int (tree.number Int 2147483647)) (tree.number Int 1)) (tree.unary Negate Int
    (tree.number Int 1)))) done)))) ∷ [])

least_by_minus_one_is : seen (means least_by_minus_one [] [] 9) ≡ (overflow, [], [])
least_by_minus_one_is = refl

-- int main(void){return (-2147483647-1)%-1;}
abbrev pub rest_by_minus_one : Typed
rest_by_minus_one = unit_of [] [] []
    ((function_named (codes "main") (function (integer Int) no_types) [] (Some (scope [] (seq (return (tree.binary ops.Rem Int
    (tree.binary ops.Sub Int (tree.unary Negate Int (tree.number Int 2147483647)) (tree.number Int 1)) (tree.unary Negate Int
    (tree.number Int 1)))) done)))) ∷ [])

rest_by_minus_one_is : seen (means rest_by_minus_one [] [] 9) ≡ (result (Some (number (pos 0))), [], [])
rest_by_minus_one_is = refl

-- int main(void){return 1/0;}
abbrev pub by_zero : Typed
by_zero = unit_of [] [] []
    ((function_named (codes "main") (function (integer Int) no_types) [] (Some (scope [] (seq (return (tree.binary ops.Div Int
    (tree.number Int 1) (tree.number Int 0))) done)))) ∷ [])

by_zero_is : seen (means by_zero [] [] 9) ≡ (zero_divide, [], [])
by_zero_is = refl

-- int main(void){int *p=0; int i; for(i=0;i<2;i=i+1){int x=i; if(i==0) p=&x; else return *p;} return 9;}
abbrev pub ended_with_its_block : Typed
ended_with_its_block = unit_of [] [] []
    ((function_named (codes "main") (function (integer Int) no_types) ((pointer (integer Int)) ∷ (integer Int) ∷ (integer Int) ∷
    []) (Some (scope (0 ∷ 1 ∷ []) (seq (perform (tree.assign scalars.Pointer (of (Local 0)) tree.null)) (seq (scope [] (seq
    (perform (tree.assign (scalars.Int Int) (of (Local 1)) (tree.number Int 0))) (seq (loop (tree.compare rels.Less Int
    (tree.read (scalars.Int Int) (of (Local 1))) (tree.number Int 2)) (Some (tree.assign (scalars.Int Int) (of (Local 1))
    (tree.binary ops.Add Int (tree.read (scalars.Int Int) (of (Local 1))) (tree.number Int 1)))) (scope (2 ∷ []) (seq (perform
    (tree.assign (scalars.Int Int) (of (Local 2)) (tree.read (scalars.Int Int) (of (Local 1))))) (seq (if_else (tree.compare
    rels.Equal Int (tree.read (scalars.Int Int) (of (Local 1))) (tree.number Int 0)) (perform (tree.assign scalars.Pointer (of
    (Local 0)) (tree.address (of (Local 2))))) (return (tree.read (scalars.Int Int) (deref (tree.read scalars.Pointer (of (Local
    0))))))) done)))) done))) (seq (return (tree.number Int 9)) done)))))) ∷ [])

ended_with_its_block_is : seen (means ended_with_its_block [] (true ∷ true ∷ []) 9) ≡ (unsafe freed, [], (4 ∷ 4 ∷ []))
ended_with_its_block_is = refl

-- struct s{int k;}; int main(void){struct s *p=0; return p->k;}
abbrev struct_0_of_member_of_null : Layout
struct_0_of_member_of_null = laid_out [] ((integer Int) ∷ [])

abbrev pub member_of_null : Typed
member_of_null = unit_of (Some struct_0_of_member_of_null ∷ []) [] []
    ((function_named (codes "main") (function (integer Int) no_types) ((pointer (struct 0)) ∷ []) (Some (scope (0 ∷ []) (seq
    (perform (tree.assign scalars.Pointer (of (Local 0)) tree.null)) (seq (return (tree.read (scalars.Int Int) (member (deref
    (tree.read scalars.Pointer (of (Local 0)))) 0 0))) done))))) ∷ [])

member_of_null_is : seen (means member_of_null [] [] 9) ≡ (unsafe at_invalid, [], [])
member_of_null_is = refl

-- int main(void){int *p=0; return *p;}
abbrev pub through_null : Typed
through_null = unit_of [] [] []
    ((function_named (codes "main") (function (integer Int) no_types) ((pointer (integer Int)) ∷ []) (Some (scope (0 ∷ []) (seq
    (perform (tree.assign scalars.Pointer (of (Local 0)) tree.null)) (seq (return (tree.read (scalars.Int Int) (deref (tree.read
    scalars.Pointer (of (Local 0)))))) done))))) ∷ [])

through_null_is : seen (means through_null [] [] 9) ≡ (unsafe at_null, [], [])
through_null_is = refl

-- int main(void){int a; int b; return &a==&b;}
abbrev pub two_objects : Typed
two_objects = unit_of [] [] []
    ((function_named (codes "main") (function (integer Int) no_types) ((integer Int) ∷ (integer Int) ∷ []) (Some (scope (0 ∷ 1 ∷
    []) (seq (return (tree.compare_pointers rels.Equal (tree.address (of (Local 0))) (tree.address (of (Local 1))))) done)))) ∷
    [])

two_objects_is : seen (means two_objects [] (true ∷ true ∷ []) 9) ≡ (result (Some (number (pos 0))), [], (4 ∷ 4 ∷ []))
two_objects_is = refl

-- int main(void){int a; int b; return &a<&b;}
abbrev pub order_of_two_objects : Typed
order_of_two_objects = unit_of [] [] []
    ((function_named (codes "main") (function (integer Int) no_types) ((integer Int) ∷ (integer Int) ∷ []) (Some (scope (0 ∷ 1 ∷
    []) (seq (return (tree.compare_pointers rels.Less (tree.address (of (Local 0))) (tree.address (of (Local 1))))) done)))) ∷
    [])

order_of_two_objects_is : seen (means order_of_two_objects [] (true ∷ true ∷ []) 9) ≡ (unsafe apart, [], (4 ∷ 4 ∷ []))
order_of_two_objects_is = refl

-- int main(void){int *p=malloc(0); return p==0;}
abbrev pub nothing_allocated : Typed
nothing_allocated = unit_of [] [] []
    ((function_named (codes "main") (function (integer Int) no_types) ((pointer (integer Int)) ∷ []) (Some (scope (0 ∷ []) (seq
    (perform (tree.assign scalars.Pointer (of (Local 0)) (tree.malloc (integer Int) (tree.convert Int UnsignedInt (tree.number
    Int 0))))) (seq (return (tree.compare_pointers rels.Equal (tree.read scalars.Pointer (of (Local 0))) tree.null)) done))))) ∷
    [])

nothing_allocated_is : seen (means nothing_allocated [] (true ∷ []) 9) ≡ (result (Some (number (pos 0))), [], (0 ∷ []))
nothing_allocated_is = refl

-- int main(void){int *p=malloc(0); return *p;}
abbrev pub nothing_read : Typed
nothing_read = unit_of [] [] []
    ((function_named (codes "main") (function (integer Int) no_types) ((pointer (integer Int)) ∷ []) (Some (scope (0 ∷ []) (seq
    (perform (tree.assign scalars.Pointer (of (Local 0)) (tree.malloc (integer Int) (tree.convert Int UnsignedInt (tree.number
    Int 0))))) (seq (return (tree.read (scalars.Int Int) (deref (tree.read scalars.Pointer (of (Local 0)))))) done))))) ∷ [])

nothing_read_is : seen (means nothing_read [] (true ∷ []) 9) ≡ (unsafe bounds, [], (0 ∷ []))
nothing_read_is = refl

-- int main(void){int c; while((c=getchar())!=-1) putchar(c); return 0;}
abbrev pub copies_its_input : Typed
copies_its_input = unit_of [] [] []
    ((function_named (codes "main") (function (integer Int) no_types) ((integer Int) ∷ []) (Some (scope (0 ∷ []) (seq (loop
    (tree.compare rels.NotEqual Int (tree.assign (scalars.Int Int) (of (Local 0)) tree.getchar) (tree.unary Negate Int
    (tree.number Int 1))) None (perform (tree.putchar (tree.read (scalars.Int Int) (of (Local 0)))))) (seq (return (tree.number
    Int 0)) done))))) ∷ [])

copies_its_input_is : seen (means copies_its_input (map Some (codes "hi")) [] 9) ≡ (result (Some (number (pos 0))), codes "hi", [])
copies_its_input_is = refl

-- int main(void){int c; while((c=getchar())!=-1) putchar(c); return 0;}
abbrev pub no_input : Typed
no_input = unit_of [] [] []
    ((function_named (codes "main") (function (integer Int) no_types) ((integer Int) ∷ []) (Some (scope (0 ∷ []) (seq (loop
    (tree.compare rels.NotEqual Int (tree.assign (scalars.Int Int) (of (Local 0)) tree.getchar) (tree.unary Negate Int
    (tree.number Int 1))) None (perform (tree.putchar (tree.read (scalars.Int Int) (of (Local 0)))))) (seq (return (tree.number
    Int 0)) done))))) ∷ [])

no_input_is : seen (means no_input [] [] 9) ≡ (result (Some (number (pos 0))), [], [])
no_input_is = refl

-- int main(void){int (*f)(void)=0; return f();}
abbrev pub null_called : Typed
null_called = unit_of [] [] []
    ((function_named (codes "main") (function (integer Int) no_types) ((pointer (function (integer Int) no_types)) ∷ []) (Some
    (scope (0 ∷ []) (seq (perform (tree.assign scalars.Function (of (Local 0)) tree.no_function)) (seq (return
    (tree.call_through (function (integer Int) no_types) (Some (scalars.Int Int)) (tree.read scalars.Function (of (Local 0)))
    none)) done))))) ∷ [])

null_called_is : seen (means null_called [] [] 9) ≡ (null_call, [], [])
null_called_is = refl

-- int f(int n){return f(n+1);} int main(void){return f(0);}
abbrev pub too_deep : Typed
too_deep = unit_of [] [] []
    ((function_named (codes "f") (function (integer Int) (types (integer Int) no_types)) ((integer Int) ∷ []) (Some (scope []
    (seq (return (tree.call 0 (Some (scalars.Int Int)) (more (tree.binary ops.Add Int (tree.read (scalars.Int Int) (of (Local
    0))) (tree.number Int 1)) none))) done)))) ∷ (function_named (codes "main") (function (integer Int) no_types) [] (Some
    (scope [] (seq (return (tree.call 0 (Some (scalars.Int Int)) (more (tree.number Int 0) none))) done)))) ∷ [])

too_deep_is : seen (means too_deep [] [] 20000) ≡ (deep, [], [])
too_deep_is = refl

-- int f(int n){if(n==0) return 0; return f(n-1);} int main(void){return f(16382);}
abbrev pub as_deep_as_may_be : Typed
as_deep_as_may_be = unit_of [] [] []
    ((function_named (codes "f") (function (integer Int) (types (integer Int) no_types)) ((integer Int) ∷ []) (Some (scope []
    (seq (if_else (tree.compare rels.Equal Int (tree.read (scalars.Int Int) (of (Local 0))) (tree.number Int 0)) (return
    (tree.number Int 0)) nothing) (seq (return (tree.call 0 (Some (scalars.Int Int)) (more (tree.binary ops.Sub Int (tree.read
    (scalars.Int Int) (of (Local 0))) (tree.number Int 1)) none))) done))))) ∷ (function_named (codes "main") (function (integer
    Int) no_types) [] (Some (scope [] (seq (return (tree.call 0 (Some (scalars.Int Int)) (more (tree.number Int 16382) none)))
    done)))) ∷ [])

as_deep_as_may_be_is : seen (means as_deep_as_may_be [] [] 20000) ≡ (result (Some (number (pos 0))), [], [])
as_deep_as_may_be_is = refl

-- int main(void){int a[100]; return a[0];}
abbrev pub variable_refused : Typed
variable_refused = unit_of [] [] []
    ((function_named (codes "main") (function (integer Int) no_types) ((array (integer Int) 100) ∷ []) (Some (scope (0 ∷ [])
    (seq (return (tree.read (scalars.Int Int) (deref (tree.move (integer Int) false (tree.decay (integer Int) 100 (of (Local
    0))) (tree.convert Int LongLong (tree.number Int 0)))))) done)))) ∷ [])

variable_refused_is : seen (means variable_refused [] (false ∷ []) 9) ≡ (exhausted, [], (400 ∷ []))
variable_refused_is = refl

-- int main(void){int a[100]; return a[0];}
abbrev pub no_grant : Typed
no_grant = unit_of [] [] []
    ((function_named (codes "main") (function (integer Int) no_types) ((array (integer Int) 100) ∷ []) (Some (scope (0 ∷ [])
    (seq (return (tree.read (scalars.Int Int) (deref (tree.move (integer Int) false (tree.decay (integer Int) 100 (of (Local
    0))) (tree.convert Int LongLong (tree.number Int 0)))))) done)))) ∷ [])

no_grant_is : seen (means no_grant [] [] 9) ≡ (ungranted, [], [])
no_grant_is = refl

-- int *g(void){int a[2]; a[1]=5; return a;} int main(void){int *p=g(); return p[1];}
abbrev pub result_of_a_block : Typed
result_of_a_block = unit_of [] [] []
    ((function_named (codes "g") (function (pointer (integer Int)) no_types) ((array (integer Int) 2) ∷ []) (Some (scope (0 ∷
    []) (seq (perform (tree.assign (scalars.Int Int) (deref (tree.move (integer Int) false (tree.decay (integer Int) 2 (of
    (Local 0))) (tree.convert Int LongLong (tree.number Int 1)))) (tree.number Int 5))) (seq (return (tree.decay (integer Int) 2
    (of (Local 0)))) done))))) ∷ (function_named (codes "main") (function (integer Int) no_types) ((pointer (integer Int)) ∷ [])
    (Some (scope (0 ∷ []) (seq (perform (tree.assign scalars.Pointer (of (Local 0)) (tree.call 0 (Some scalars.Pointer) none)))
    (seq (return (tree.read (scalars.Int Int) (deref (tree.move (integer Int) false (tree.read scalars.Pointer (of (Local 0)))
    (tree.convert Int LongLong (tree.number Int 1)))))) done))))) ∷ [])

result_of_a_block_is : seen (means result_of_a_block [] (true ∷ []) 9) ≡ (unsafe freed, [], (8 ∷ []))
result_of_a_block_is = refl

-- int main(void){int x=0; while(1){int y=x; int *p=&y; *p=*p+1; x=y; if(x==3) break;} return x;}
abbrev pub break_ends_objects : Typed
break_ends_objects = unit_of [] [] []
    ((function_named (codes "main") (function (integer Int) no_types) ((integer Int) ∷ (integer Int) ∷ (pointer (integer Int)) ∷
    []) (Some (scope (0 ∷ []) (seq (perform (tree.assign (scalars.Int Int) (of (Local 0)) (tree.number Int 0))) (seq (loop
    (tree.number Int 1) None (scope (1 ∷ 2 ∷ []) (seq (perform (tree.assign (scalars.Int Int) (of (Local 1)) (tree.read
    (scalars.Int Int) (of (Local 0))))) (seq (perform (tree.assign scalars.Pointer (of (Local 2)) (tree.address (of (Local
    1))))) (seq (perform (tree.assign (scalars.Int Int) (deref (tree.read scalars.Pointer (of (Local 2)))) (tree.binary ops.Add
    Int (tree.read (scalars.Int Int) (deref (tree.read scalars.Pointer (of (Local 2))))) (tree.number Int 1)))) (seq (perform
    (tree.assign (scalars.Int Int) (of (Local 0)) (tree.read (scalars.Int Int) (of (Local 1))))) (seq (if_else (tree.compare
    rels.Equal Int (tree.read (scalars.Int Int) (of (Local 0))) (tree.number Int 3)) break nothing) done))))))) (seq (return
    (tree.read (scalars.Int Int) (of (Local 0)))) done)))))) ∷ [])

break_ends_objects_is : seen (means break_ends_objects [] (true ∷ true ∷ true ∷ []) 9) ≡ (
  result (Some (number (pos 3))),
  [],
  (4
      ∷ 4 ∷ 4 ∷ []),
)
break_ends_objects_is = refl

-- int main(void){int *p=0; while(1){int y=1; p=&y; break;} return *p;}
abbrev pub ended_by_break : Typed
ended_by_break = unit_of [] [] []
    ((function_named (codes "main") (function (integer Int) no_types) ((pointer (integer Int)) ∷ (integer Int) ∷ []) (Some
    (scope (0 ∷ []) (seq (perform (tree.assign scalars.Pointer (of (Local 0)) tree.null)) (seq (loop (tree.number Int 1) None
    (scope (1 ∷ []) (seq (perform (tree.assign (scalars.Int Int) (of (Local 1)) (tree.number Int 1))) (seq (perform (tree.assign
    scalars.Pointer (of (Local 0)) (tree.address (of (Local 1))))) (seq break done))))) (seq (return (tree.read (scalars.Int
    Int) (deref (tree.read scalars.Pointer (of (Local 0)))))) done)))))) ∷ [])

ended_by_break_is : seen (means ended_by_break [] (true ∷ []) 9) ≡ (unsafe freed, [], (4 ∷ []))
ended_by_break_is = refl

-- int main(void){int *p=0; int i; for(i=0;i<1;i=i+1){int y=1; p=&y; continue;} return *p;}
abbrev pub ended_by_continue : Typed
ended_by_continue = unit_of [] [] []
    ((function_named (codes "main") (function (integer Int) no_types) ((pointer (integer Int)) ∷ (integer Int) ∷ (integer Int) ∷
    []) (Some (scope (0 ∷ 1 ∷ []) (seq (perform (tree.assign scalars.Pointer (of (Local 0)) tree.null)) (seq (scope [] (seq
    (perform (tree.assign (scalars.Int Int) (of (Local 1)) (tree.number Int 0))) (seq (loop (tree.compare rels.Less Int
    (tree.read (scalars.Int Int) (of (Local 1))) (tree.number Int 1)) (Some (tree.assign (scalars.Int Int) (of (Local 1))
    (tree.binary ops.Add Int (tree.read (scalars.Int Int) (of (Local 1))) (tree.number Int 1)))) (scope (2 ∷ []) (seq (perform
    (tree.assign (scalars.Int Int) (of (Local 2)) (tree.number Int 1))) (seq (perform (tree.assign scalars.Pointer (of (Local
    0)) (tree.address (of (Local 2))))) (seq continue done))))) done))) (seq (return (tree.read (scalars.Int Int) (deref
    (tree.read scalars.Pointer (of (Local 0)))))) done)))))) ∷ [])

ended_by_continue_is : seen (means ended_by_continue [] (true ∷ []) 9) ≡ (unsafe freed, [], (4 ∷ []))
ended_by_continue_is = refl

-- int *p; int f(void){int y=3; p=&y; return y+1;} int main(void){int n=f(); putchar(48+n); return *p;}
abbrev pub ended_by_return : Typed
ended_by_return = unit_of [] ((pointer (integer Int)) ∷ []) ((global 0 []) ∷ [])
    ((function_named (codes "f") (function (integer Int) no_types) ((integer Int) ∷ []) (Some (scope (0 ∷ []) (seq (perform
    (tree.assign (scalars.Int Int) (of (Local 0)) (tree.number Int 3))) (seq (perform (tree.assign scalars.Pointer (of (Global
    0)) (tree.address (of (Local 0))))) (seq (return (tree.binary ops.Add Int (tree.read (scalars.Int Int) (of (Local 0)))
    (tree.number Int 1))) done)))))) ∷ (function_named (codes "main") (function (integer Int) no_types) ((integer Int) ∷ [])
    (Some (scope (0 ∷ []) (seq (perform (tree.assign (scalars.Int Int) (of (Local 0)) (tree.call 0 (Some (scalars.Int Int))
    none))) (seq (perform (tree.putchar (tree.binary ops.Add Int (tree.number Int 48) (tree.read (scalars.Int Int) (of (Local
    0)))))) (seq (return (tree.read (scalars.Int Int) (deref (tree.read scalars.Pointer (of (Global 0)))))) done)))))) ∷ [])

ended_by_return_is : seen (means ended_by_return [] (true ∷ []) 9) ≡ (unsafe freed, codes "4", (4 ∷ []))
ended_by_return_is = refl

-- int main(void){int *p=0; switch(1){int y; case 1: p=&y; *p=2; break; case 2: return 5;} return *p;}
abbrev pub ended_in_a_switch : Typed
ended_in_a_switch = unit_of [] [] []
    ((function_named (codes "main") (function (integer Int) no_types) ((pointer (integer Int)) ∷ (integer Int) ∷ []) (Some
    (scope (0 ∷ []) (seq (perform (tree.assign scalars.Pointer (of (Local 0)) tree.null)) (seq (switch Int (tree.number Int 1)
    (1 ∷ []) ((record { label = Some 1; group = 0 }) ∷ (record { label = Some 2; group = 1 }) ∷ []) (seq (scope [] (seq (perform
    (tree.assign scalars.Pointer (of (Local 0)) (tree.address (of (Local 1))))) (seq (perform (tree.assign (scalars.Int Int)
    (deref (tree.read scalars.Pointer (of (Local 0)))) (tree.number Int 2))) (seq break done)))) (seq (scope [] (seq (return
    (tree.number Int 5)) done)) done))) (seq (return (tree.read (scalars.Int Int) (deref (tree.read scalars.Pointer (of (Local
    0)))))) done)))))) ∷ [])

ended_in_a_switch_is : seen (means ended_in_a_switch [] (true ∷ []) 9) ≡ (unsafe freed, [], (4 ∷ []))
ended_in_a_switch_is = refl

-- int f(int n){int *p=&n; *p=*p+1; return n;} int main(void){return f(4);}
abbrev pub parameter_in_memory : Typed
parameter_in_memory = unit_of [] [] []
    ((function_named (codes "f") (function (integer Int) (types (integer Int) no_types)) ((integer Int) ∷ (pointer (integer
    Int)) ∷ []) (Some (scope (1 ∷ []) (seq (perform (tree.assign scalars.Pointer (of (Local 1)) (tree.address (of (Local 0)))))
    (seq (perform (tree.assign (scalars.Int Int) (deref (tree.read scalars.Pointer (of (Local 1)))) (tree.binary ops.Add Int
    (tree.read (scalars.Int Int) (deref (tree.read scalars.Pointer (of (Local 1))))) (tree.number Int 1)))) (seq (return
    (tree.read (scalars.Int Int) (of (Local 0)))) done)))))) ∷ (function_named (codes "main") (function (integer Int) no_types)
    [] (Some (scope [] (seq (return (tree.call 0 (Some (scalars.Int Int)) (more (tree.number Int 4) none))) done)))) ∷ [])

parameter_in_memory_is : seen (means parameter_in_memory [] (true ∷ []) 9) ≡ (result (Some (number (pos 5))), [], (4 ∷ []))
parameter_in_memory_is = refl

-- struct s{int a;int b;}; int main(void){struct s x; struct s y; x.a=3; x.b=4; y=x; return y.a*10+y.b;}
abbrev struct_0_of_struct_copied : Layout
struct_0_of_struct_copied = laid_out [] ((integer Int) ∷ (integer Int) ∷ [])

abbrev pub struct_copied : Typed
struct_copied = unit_of (Some struct_0_of_struct_copied ∷ []) [] []
    ((function_named (codes "main") (function (integer Int) no_types) ((struct 0) ∷ (struct 0) ∷ []) (Some (scope (0 ∷ 1 ∷ [])
    (seq (perform (tree.assign (scalars.Int Int) (member (of (Local 0)) 0 0) (tree.number Int 3))) (seq (perform (tree.assign
    (scalars.Int Int) (member (of (Local 0)) 0 1) (tree.number Int 4))) (seq (perform (tree.copy 0 (of (Local 1)) (of (Local
    0)))) (seq (return (tree.binary ops.Add Int (tree.binary ops.Mul Int (tree.read (scalars.Int Int) (member (of (Local 1)) 0
    0)) (tree.number Int 10)) (tree.read (scalars.Int Int) (member (of (Local 1)) 0 1)))) done))))))) ∷ [])

struct_copied_is : seen (means struct_copied [] (true ∷ true ∷ []) 9) ≡ (result (Some (number (pos 34))), [], (8 ∷ 8 ∷ []))
struct_copied_is = refl

-- int add(int a,int b){return a+b;} int main(void){int (*f)(int,int)=add; return f(2,3);}
abbrev pub function_called_by_its_address : Typed
function_called_by_its_address = unit_of [] [] []
    ((function_named (codes "add") (function (integer Int) (types (integer Int) (types (integer Int) no_types))) ((integer Int)
    ∷ (integer Int) ∷ []) (Some (scope [] (seq (return (tree.binary ops.Add Int (tree.read (scalars.Int Int) (of (Local 0)))
    (tree.read (scalars.Int Int) (of (Local 1))))) done)))) ∷ (function_named (codes "main") (function (integer Int) no_types)
    ((pointer (function (integer Int) (types (integer Int) (types (integer Int) no_types)))) ∷ []) (Some (scope (0 ∷ []) (seq
    (perform (tree.assign scalars.Function (of (Local 0)) (tree.function 0))) (seq (return (tree.call_through (function (integer
    Int) (types (integer Int) (types (integer Int) no_types))) (Some (scalars.Int Int)) (tree.read scalars.Function (of (Local
    0))) (more (tree.number Int 2) (more (tree.number Int 3) none)))) done))))) ∷ [])

function_called_by_its_address_is : seen (means function_called_by_its_address [] [] 9) ≡ (result (Some (number (pos 5))), [], [])
function_called_by_its_address_is = refl

-- char *s="ok"; int main(void){putchar(s[0]); putchar(s[1]); return s[2];}
abbrev pub string : Typed
string = unit_of [] ((pointer (integer Char)) ∷ []) ((global 0 ((perform (tree.assign scalars.Pointer (of (Global 0))
    (tree.literal 0))) ∷ [])) ∷ (text (111 ∷ 107 ∷ [])) ∷ [])
    ((function_named (codes "main") (function (integer Int) no_types) [] (Some (scope [] (seq (perform (tree.putchar
    (tree.convert Char Int (tree.read (scalars.Int Char) (deref (tree.move (integer Char) false (tree.read scalars.Pointer (of
    (Global 0))) (tree.convert Int LongLong (tree.number Int 0)))))))) (seq (perform (tree.putchar (tree.convert Char Int
    (tree.read (scalars.Int Char) (deref (tree.move (integer Char) false (tree.read scalars.Pointer (of (Global 0)))
    (tree.convert Int LongLong (tree.number Int 1)))))))) (seq (return (tree.convert Char Int (tree.read (scalars.Int Char)
    (deref (tree.move (integer Char) false (tree.read scalars.Pointer (of (Global 0))) (tree.convert Int LongLong (tree.number
    Int 2))))))) done)))))) ∷ [])

string_is : seen (means string [] (true ∷ []) 9) ≡ (result (Some (number (pos 0))), codes "ok", (3 ∷ []))
string_is = refl

-- int g[3]={1,2}; int main(void){return g[0]+g[1]+g[2];}
abbrev pub array_at_file_scope : Typed
array_at_file_scope = unit_of [] ((array (integer Int) 3) ∷ []) ((global 0 ((perform (tree.assign (scalars.Int Int) (deref
    (tree.move (integer Int) false (tree.decay (integer Int) 3 (of (Global 0))) (tree.number LongLong 0))) (tree.number Int 1))) ∷
    (perform (tree.assign (scalars.Int Int) (deref (tree.move (integer Int) false (tree.decay (integer Int) 3 (of (Global 0)))
    (tree.number LongLong 1))) (tree.number Int 2))) ∷ [])) ∷ [])
    ((function_named (codes "main") (function (integer Int) no_types) [] (Some (scope [] (seq (return (tree.binary ops.Add Int
    (tree.binary ops.Add Int (tree.read (scalars.Int Int) (deref (tree.move (integer Int) false (tree.decay (integer Int) 3 (of
    (Global 0))) (tree.convert Int LongLong (tree.number Int 0))))) (tree.read (scalars.Int Int) (deref (tree.move (integer Int)
    false (tree.decay (integer Int) 3 (of (Global 0))) (tree.convert Int LongLong (tree.number Int 1)))))) (tree.read
    (scalars.Int Int) (deref (tree.move (integer Int) false (tree.decay (integer Int) 3 (of (Global 0))) (tree.convert Int
    LongLong (tree.number Int 2))))))) done)))) ∷ [])

array_at_file_scope_is : seen (means array_at_file_scope [] (true ∷ []) 9) ≡ (result (Some (number (pos 3))), [], (12 ∷ []))
array_at_file_scope_is = refl

-- int main(void){char *s="ab"; putchar(s[1]); s[0]=99; return 0;}
abbrev pub string_written : Typed
string_written = unit_of [] [] ((text (97 ∷ 98 ∷ [])) ∷ [])
    ((function_named (codes "main") (function (integer Int) no_types) ((pointer (integer Char)) ∷ []) (Some (scope (0 ∷ []) (seq
    (perform (tree.assign scalars.Pointer (of (Local 0)) (tree.literal 0))) (seq (perform (tree.putchar (tree.convert Char Int
    (tree.read (scalars.Int Char) (deref (tree.move (integer Char) false (tree.read scalars.Pointer (of (Local 0)))
    (tree.convert Int LongLong (tree.number Int 1)))))))) (seq (perform (tree.assign (scalars.Int Char) (deref (tree.move
    (integer Char) false (tree.read scalars.Pointer (of (Local 0))) (tree.convert Int LongLong (tree.number Int 0))))
    (tree.convert Int Char (tree.number Int 99)))) (seq (return (tree.number Int 0)) done))))))) ∷ [])

string_written_is : seen (means string_written [] (true ∷ []) 9) ≡ (unsafe readonly, codes "b", (3 ∷ []))
string_written_is = refl

-- int main(void){char s[3]="ab"; s[0]=99; return s[0];}
abbrev pub array_of_char_written : Typed
array_of_char_written = unit_of [] [] []
    ((function_named (codes "main") (function (integer Int) no_types) ((array (integer Char) 3) ∷ []) (Some (scope (0 ∷ []) (seq
    (fill (of (Local 0)) 3 (97 ∷ 98 ∷ [])) (seq (perform (tree.assign (scalars.Int Char) (deref (tree.move (integer Char) false
    (tree.decay (integer Char) 3 (of (Local 0))) (tree.convert Int LongLong (tree.number Int 0)))) (tree.convert Int Char
    (tree.number Int 99)))) (seq (return (tree.convert Char Int (tree.read (scalars.Int Char) (deref (tree.move (integer Char)
    false (tree.decay (integer Char) 3 (of (Local 0))) (tree.convert Int LongLong (tree.number Int 0))))))) done)))))) ∷ [])

array_of_char_written_is : seen (means array_of_char_written [] (true ∷ []) 9) ≡ (result (Some (number (pos 99))), [], (3 ∷ []))
array_of_char_written_is = refl

-- int main(void){free("ab"); return 0;}
abbrev pub string_freed : Typed
string_freed = unit_of [] [] ((text (97 ∷ 98 ∷ [])) ∷ [])
    ((function_named (codes "main") (function (integer Int) no_types) [] (Some (scope [] (seq (perform (tree.free (tree.literal
    0))) (seq (return (tree.number Int 0)) done))))) ∷ [])

string_freed_is : seen (means string_freed [] (true ∷ []) 9) ≡ (unsafe wrong_kind, [], (3 ∷ []))
string_freed_is = refl

-- int main(void){int n=0; do n=n+1; while(n<3); return n;}
abbrev pub at_least_once : Typed
at_least_once = unit_of [] [] []
    ((function_named (codes "main") (function (integer Int) no_types) ((integer Int) ∷ []) (Some (scope (0 ∷ []) (seq (perform
    (tree.assign (scalars.Int Int) (of (Local 0)) (tree.number Int 0))) (seq (do_while (perform (tree.assign (scalars.Int Int)
    (of (Local 0)) (tree.binary ops.Add Int (tree.read (scalars.Int Int) (of (Local 0))) (tree.number Int 1)))) (tree.compare
    rels.Less Int (tree.read (scalars.Int Int) (of (Local 0))) (tree.number Int 3))) (seq (return (tree.read (scalars.Int Int)
    (of (Local 0)))) done)))))) ∷ [])

at_least_once_is : seen (means at_least_once [] [] 9) ≡ (result (Some (number (pos 3))), [], [])
at_least_once_is = refl

-- int main(void){int n=0; do n=n+1; while(n<3); return n;}
abbrev pub do_costs_a_unit_a_return : Typed
do_costs_a_unit_a_return = unit_of [] [] []
    ((function_named (codes "main") (function (integer Int) no_types) ((integer Int) ∷ []) (Some (scope (0 ∷ []) (seq (perform
    (tree.assign (scalars.Int Int) (of (Local 0)) (tree.number Int 0))) (seq (do_while (perform (tree.assign (scalars.Int Int)
    (of (Local 0)) (tree.binary ops.Add Int (tree.read (scalars.Int Int) (of (Local 0))) (tree.number Int 1)))) (tree.compare
    rels.Less Int (tree.read (scalars.Int Int) (of (Local 0))) (tree.number Int 3))) (seq (return (tree.read (scalars.Int Int)
    (of (Local 0)))) done)))))) ∷ [])

do_costs_a_unit_a_return_is : seen (means do_costs_a_unit_a_return [] [] 1) ≡ (out_of_fuel, [], [])
do_costs_a_unit_a_return_is = refl

-- enum e{A,B=5,C}; int main(void){enum e v=C; switch(v){case A: return 1; case 6: putchar(120); default: putchar(121); break; case B: putchar(122);} return C;}
abbrev pub switch_falls_through : Typed
switch_falls_through = unit_of [] [] []
    ((function_named (codes "main") (function (integer Int) no_types) ((integer Int) ∷ []) (Some (scope (0 ∷ []) (seq (perform
    (tree.assign (scalars.Int Int) (of (Local 0)) (tree.number Int 6))) (seq (switch Int (tree.read (scalars.Int Int) (of (Local
    0))) [] ((record { label = Some 0; group = 0 }) ∷ (record { label = Some 6; group = 1 }) ∷ (record {
      label = None;
      group = 2;
    }) ∷ (record { label = Some 5; group = 3 }) ∷ []) (seq (scope [] (seq (return (tree.number Int 1)) done)) (seq (scope []
    (seq (perform (tree.putchar (tree.number Int 120))) done)) (seq (scope [] (seq (perform (tree.putchar (tree.number Int
    121))) (seq break done))) (seq (scope [] (seq (perform (tree.putchar (tree.number Int 122))) done)) done))))) (seq (return
    (tree.number Int 6)) done)))))) ∷ [])

switch_falls_through_is : seen (means switch_falls_through [] [] 9) ≡ (result (Some (number (pos 6))), codes "xy", [])
switch_falls_through_is = refl

-- int main(void){switch(3){int x; case 1: x=1; return x;} return 8;}
abbrev pub no_label : Typed
no_label = unit_of [] [] []
    ((function_named (codes "main") (function (integer Int) no_types) ((integer Int) ∷ []) (Some (scope [] (seq (switch Int
    (tree.number Int 3) (0 ∷ []) ((record { label = Some 1; group = 0 }) ∷ []) (seq (scope [] (seq (perform (tree.assign
    (scalars.Int Int) (of (Local 0)) (tree.number Int 1))) (seq (return (tree.read (scalars.Int Int) (of (Local 0)))) done)))
    done)) (seq (return (tree.number Int 8)) done))))) ∷ [])

no_label_is : seen (means no_label [] [] 9) ≡ (result (Some (number (pos 8))), [], [])
no_label_is = refl

-- int main(void){int n=4; switch(1){int x=n; case 1: return x;} return 8;}
abbrev pub initialiser_passed_over : Typed
initialiser_passed_over = unit_of [] [] []
    ((function_named (codes "main") (function (integer Int) no_types) ((integer Int) ∷ (integer Int) ∷ []) (Some (scope (0 ∷ [])
    (seq (perform (tree.assign (scalars.Int Int) (of (Local 0)) (tree.number Int 4))) (seq (switch Int (tree.number Int 1) (1 ∷
    []) ((record { label = Some 1; group = 1 }) ∷ []) (seq (scope [] (seq (perform (tree.assign (scalars.Int Int) (of (Local 1))
    (tree.read (scalars.Int Int) (of (Local 0))))) done)) (seq (scope [] (seq (return (tree.read (scalars.Int Int) (of (Local
    1)))) done)) done))) (seq (return (tree.number Int 8)) done)))))) ∷ [])

initialiser_passed_over_is : seen (means initialiser_passed_over [] [] 9) ≡ (result (Some (number (pos 0))), [], [])
initialiser_passed_over_is = refl

-- int main(void){int i; int n=0; for(i=0;i<4;i=i+1){switch(i){case 1: continue; case 3: n=n+10;} n=n+1;} return n;}
abbrev pub continue_in_a_switch : Typed
continue_in_a_switch = unit_of [] [] []
    ((function_named (codes "main") (function (integer Int) no_types) ((integer Int) ∷ (integer Int) ∷ []) (Some (scope (0 ∷ 1 ∷
    []) (seq (perform (tree.assign (scalars.Int Int) (of (Local 1)) (tree.number Int 0))) (seq (scope [] (seq (perform
    (tree.assign (scalars.Int Int) (of (Local 0)) (tree.number Int 0))) (seq (loop (tree.compare rels.Less Int (tree.read
    (scalars.Int Int) (of (Local 0))) (tree.number Int 4)) (Some (tree.assign (scalars.Int Int) (of (Local 0)) (tree.binary
    ops.Add Int (tree.read (scalars.Int Int) (of (Local 0))) (tree.number Int 1)))) (scope [] (seq (switch Int (tree.read
    (scalars.Int Int) (of (Local 0))) [] ((record { label = Some 1; group = 0 }) ∷ (record { label = Some 3; group = 1 }) ∷ [])
    (seq (scope [] (seq continue done)) (seq (scope [] (seq (perform (tree.assign (scalars.Int Int) (of (Local 1)) (tree.binary
    ops.Add Int (tree.read (scalars.Int Int) (of (Local 1))) (tree.number Int 10)))) done)) done))) (seq (perform (tree.assign
    (scalars.Int Int) (of (Local 1)) (tree.binary ops.Add Int (tree.read (scalars.Int Int) (of (Local 1))) (tree.number Int
    1)))) done)))) done))) (seq (return (tree.read (scalars.Int Int) (of (Local 1)))) done)))))) ∷ [])

continue_in_a_switch_is : seen (means continue_in_a_switch [] [] 9) ≡ (result (Some (number (pos 13))), [], [])
continue_in_a_switch_is = refl

-- int main(void){int *p=calloc(65536,65536); return p==0;}
abbrev pub product_too_large : Typed
product_too_large = unit_of [] [] []
    ((function_named (codes "main") (function (integer Int) no_types) ((pointer (integer Int)) ∷ []) (Some (scope (0 ∷ []) (seq
    (perform (tree.assign scalars.Pointer (of (Local 0)) (tree.calloc (integer Int) (tree.convert Int UnsignedInt (tree.number
    Int 65536)) (tree.convert Int UnsignedInt (tree.number Int 65536))))) (seq (return (tree.compare_pointers rels.Equal
    (tree.read scalars.Pointer (of (Local 0))) tree.null)) done))))) ∷ [])

product_too_large_is : seen (means product_too_large [] [] 9) ≡ (result (Some (number (pos 1))), [], [])
product_too_large_is = refl

-- int main(void){int *p=calloc(2,4); return p[1];}
abbrev pub product_allocated : Typed
product_allocated = unit_of [] [] []
    ((function_named (codes "main") (function (integer Int) no_types) ((pointer (integer Int)) ∷ []) (Some (scope (0 ∷ []) (seq
    (perform (tree.assign scalars.Pointer (of (Local 0)) (tree.calloc (integer Int) (tree.convert Int UnsignedInt (tree.number
    Int 2)) (tree.convert Int UnsignedInt (tree.number Int 4))))) (seq (return (tree.read (scalars.Int Int) (deref (tree.move
    (integer Int) false (tree.read scalars.Pointer (of (Local 0))) (tree.convert Int LongLong (tree.number Int 1)))))) done)))))
    ∷ [])

product_allocated_is : seen (means product_allocated [] (true ∷ []) 9) ≡ (result (Some (number (pos 0))), [], (8 ∷ []))
product_allocated_is = refl

-- void f(void){putchar(65);} int main(void){f(); return 1;}
abbrev pub no_result : Typed
no_result = unit_of [] [] []
    ((function_named (codes "f") (function void no_types) [] (Some (scope [] (seq (perform (tree.putchar (tree.number Int 65)))
    done)))) ∷ (function_named (codes "main") (function (integer Int) no_types) [] (Some (scope [] (seq (perform (tree.call 0
    None none)) (seq (return (tree.number Int 1)) done))))) ∷ [])

no_result_is : seen (means no_result [] [] 9) ≡ (result (Some (number (pos 1))), codes "A", [])
no_result_is = refl

-- int f(void){} int main(void){return f()+2;}
abbrev pub missing_result : Typed
missing_result = unit_of [] [] []
    ((function_named (codes "f") (function (integer Int) no_types) [] (Some (scope [] done))) ∷ (function_named (codes "main")
    (function (integer Int) no_types) [] (Some (scope [] (seq (return (tree.binary ops.Add Int (tree.call 0 (Some (scalars.Int
    Int)) none) (tree.number Int 2))) done)))) ∷ [])

missing_result_is : seen (means missing_result [] [] 9) ≡ (result (Some (number (pos 2))), [], [])
missing_result_is = refl

-- int main(void){putchar(65); abort(); putchar(66); return 0;}
abbrev pub aborts : Typed
aborts = unit_of [] [] []
    ((function_named (codes "main") (function (integer Int) no_types) [] (Some (scope [] (seq (perform (tree.putchar
    (tree.number Int 65))) (seq (perform tree.abort) (seq (perform (tree.putchar (tree.number Int 66))) (seq (return
    (tree.number Int 0)) done))))))) ∷ [])

aborts_is : seen (means aborts [] [] 9) ≡ (abort, codes "A", [])
aborts_is = refl

-- int f(int n){putchar(n); return n;} int g(int a,int b){return a-b;} int main(void){return g(f(65),f(66))+(f(67)+f(68))*0;}
abbrev pub left_to_right : Typed
left_to_right = unit_of [] [] []
    ((function_named (codes "f") (function (integer Int) (types (integer Int) no_types)) ((integer Int) ∷ []) (Some (scope []
    (seq (perform (tree.putchar (tree.read (scalars.Int Int) (of (Local 0))))) (seq (return (tree.read (scalars.Int Int) (of
    (Local 0)))) done))))) ∷ (function_named (codes "g") (function (integer Int) (types (integer Int) (types (integer Int)
    no_types))) ((integer Int) ∷ (integer Int) ∷ []) (Some (scope [] (seq (return (tree.binary ops.Sub Int (tree.read
    (scalars.Int Int) (of (Local 0))) (tree.read (scalars.Int Int) (of (Local 1))))) done)))) ∷ (function_named (codes "main")
    (function (integer Int) no_types) [] (Some (scope [] (seq (return (tree.binary ops.Add Int (tree.call 1 (Some (scalars.Int
    Int)) (more (tree.call 0 (Some (scalars.Int Int)) (more (tree.number Int 65) none)) (more (tree.call 0 (Some (scalars.Int
    Int)) (more (tree.number Int 66) none)) none))) (tree.binary ops.Mul Int (tree.binary ops.Add Int (tree.call 0 (Some
    (scalars.Int Int)) (more (tree.number Int 67) none)) (tree.call 0 (Some (scalars.Int Int)) (more (tree.number Int 68)
    none))) (tree.number Int 0)))) done)))) ∷ [])

left_to_right_is : seen (means left_to_right [] [] 9) ≡ (result (Some (number (negsuc 0))), codes "ABCD", [])
left_to_right_is = refl

-- int main(void){int a=5; int b=a++; return b*10+a;}
abbrev pub old_value : Typed
old_value = unit_of [] [] []
    ((function_named (codes "main") (function (integer Int) no_types) ((integer Int) ∷ (integer Int) ∷ []) (Some (scope (0 ∷ 1 ∷
    []) (seq (perform (tree.assign (scalars.Int Int) (of (Local 0)) (tree.number Int 5))) (seq (perform (tree.assign
    (scalars.Int Int) (of (Local 1)) (tree.update true Int ops.Add Int (of (Local 0)) (tree.number Int 1)))) (seq (return
    (tree.binary ops.Add Int (tree.binary ops.Mul Int (tree.read (scalars.Int Int) (of (Local 1))) (tree.number Int 10))
    (tree.read (scalars.Int Int) (of (Local 0))))) done)))))) ∷ [])

old_value_is : seen (means old_value [] [] 9) ≡ (result (Some (number (pos 56))), [], [])
old_value_is = refl

-- int main(void){unsigned char c=250; c=c+10; return c;}
abbrev pub narrowing_wraps : Typed
narrowing_wraps = unit_of [] [] []
    ((function_named (codes "main") (function (integer Int) no_types) ((integer UnsignedChar) ∷ []) (Some (scope (0 ∷ []) (seq
    (perform (tree.assign (scalars.Int UnsignedChar) (of (Local 0)) (tree.convert Int UnsignedChar (tree.number Int 250)))) (seq
    (perform (tree.assign (scalars.Int UnsignedChar) (of (Local 0)) (tree.convert Int UnsignedChar (tree.binary ops.Add Int
    (tree.convert UnsignedChar Int (tree.read (scalars.Int UnsignedChar) (of (Local 0)))) (tree.number Int 10))))) (seq (return
    (tree.convert UnsignedChar Int (tree.read (scalars.Int UnsignedChar) (of (Local 0))))) done)))))) ∷ [])

narrowing_wraps_is : seen (means narrowing_wraps [] [] 9) ≡ (result (Some (number (pos 4))), [], [])
narrowing_wraps_is = refl

-- struct t{int a;int b[2];}; struct s{char c;struct t t;}; int main(void){struct s v; v.t.b[1]=6; return v.t.b[1]+v.t.a;}
abbrev struct_0_of_nested_members : Layout
struct_0_of_nested_members = laid_out [] ((integer Int) ∷ (array (integer Int) 2) ∷ [])

abbrev struct_1_of_nested_members : Layout
struct_1_of_nested_members = laid_out (Some struct_0_of_nested_members ∷ []) ((integer Char) ∷ (struct 0) ∷ [])

abbrev pub nested_members : Typed
nested_members = unit_of (Some struct_0_of_nested_members ∷ Some struct_1_of_nested_members ∷ []) [] []
    ((function_named (codes "main") (function (integer Int) no_types) ((struct 1) ∷ []) (Some (scope (0 ∷ []) (seq (perform
    (tree.assign (scalars.Int Int) (deref (tree.move (integer Int) false (tree.decay (integer Int) 2 (member (member (of (Local
    0)) 1 1) 0 1)) (tree.convert Int LongLong (tree.number Int 1)))) (tree.number Int 6))) (seq (return (tree.binary ops.Add Int
    (tree.read (scalars.Int Int) (deref (tree.move (integer Int) false (tree.decay (integer Int) 2 (member (member (of (Local
    0)) 1 1) 0 1)) (tree.convert Int LongLong (tree.number Int 1))))) (tree.read (scalars.Int Int) (member (member (of (Local
    0)) 1 1) 0 0)))) done))))) ∷ [])

nested_members_is : seen (means nested_members [] (true ∷ []) 9) ≡ (result (Some (number (pos 6))), [], (16 ∷ []))
nested_members_is = refl

-- int main(void){int x=3; int *a[2]; a[1]=&x; return *a[1];}
abbrev pub pointer_in_memory : Typed
pointer_in_memory = unit_of [] [] []
    ((function_named (codes "main") (function (integer Int) no_types) ((integer Int) ∷ (array (pointer (integer Int)) 2) ∷ [])
    (Some (scope (0 ∷ 1 ∷ []) (seq (perform (tree.assign (scalars.Int Int) (of (Local 0)) (tree.number Int 3))) (seq (perform
    (tree.assign scalars.Pointer (deref (tree.move (pointer (integer Int)) false (tree.decay (pointer (integer Int)) 2 (of
    (Local 1))) (tree.convert Int LongLong (tree.number Int 1)))) (tree.address (of (Local 0))))) (seq (return (tree.read
    (scalars.Int Int) (deref (tree.read scalars.Pointer (deref (tree.move (pointer (integer Int)) false (tree.decay (pointer
    (integer Int)) 2 (of (Local 1))) (tree.convert Int LongLong (tree.number Int 1)))))))) done)))))) ∷ [])

pointer_in_memory_is : seen (means pointer_in_memory [] (true ∷ true ∷ []) 9) ≡ (
  result (Some (number (pos 3))),
  [],
  (4 ∷ 32 ∷
      []),
)
pointer_in_memory_is = refl

-- int main(void){int a[5]; int *p=&a[4]; int *q=&a[1]; return (int)(p-q);}
abbrev pub distance : Typed
distance = unit_of [] [] []
    ((function_named (codes "main") (function (integer Int) no_types) ((array (integer Int) 5) ∷ (pointer (integer Int)) ∷
    (pointer (integer Int)) ∷ []) (Some (scope (0 ∷ 1 ∷ 2 ∷ []) (seq (perform (tree.assign scalars.Pointer (of (Local 1))
    (tree.address (deref (tree.move (integer Int) false (tree.decay (integer Int) 5 (of (Local 0))) (tree.convert Int LongLong
    (tree.number Int 4))))))) (seq (perform (tree.assign scalars.Pointer (of (Local 2)) (tree.address (deref (tree.move (integer
    Int) false (tree.decay (integer Int) 5 (of (Local 0))) (tree.convert Int LongLong (tree.number Int 1))))))) (seq (return
    (tree.convert LongLong Int (tree.difference (integer Int) (tree.read scalars.Pointer (of (Local 1))) (tree.read
    scalars.Pointer (of (Local 2)))))) done)))))) ∷ [])

distance_is : seen (means distance [] (true ∷ []) 9) ≡ (result (Some (number (pos 3))), [], (20 ∷ []))
distance_is = refl
