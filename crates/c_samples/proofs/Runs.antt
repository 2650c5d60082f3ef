-- The code of the units that `c_meaning` computes, run by the machine's definition: each ends, writes and asks for objects as its
-- meaning does.
use Rattle.std.proofs.Common.{◌≡◌, ℕ, List, [], ◌∷◌, Option, Some, None, refl}
use Rattle.std.specs.Prelude.{codes, map, replicate, Result, Ok, Err}
use Rattle.ms_event.specs.Monitor.{sizes_of}
use Rattle.ms_host.specs.declared.trap.TrapKind.TheVariants as traps
use Rattle.ms_linear.specs.declared.value.Value.TheVariants as vals
use Rattle.ms_machine.specs.Crews.{Crew, End, OutOfBudget, Results, Run, Task, Trap, bytes_of, events_of, run_of}
use Rattle.ms_machine.specs.Externs.{Fault}
use Rattle.ms_machine.specs.Linked.{linked, start_chain}
use Rattle.ms_machine.specs.Running.{func_thread}
use Rattle.ms_machine.specs.Store.{Store}
use Rattle.ms_task.specs.Thread.{sequence}
use Rattle.c_typed.specs.Tree.{Typed}
use Rattle.c_meaning.proofs.Computed.{constant, past_an_array, past_a_member, freed_and_used_again, freed_twice, freed_in_part, variable_freed, null_freed, refused_by_malloc, far_pointer, too_far_pointer, as_far_as_may_be, endless, least_by_minus_one, rest_by_minus_one, by_zero, ended_with_its_block, member_of_null, through_null, two_objects, order_of_two_objects, nothing_allocated, nothing_read, copies_its_input, no_input, null_called, variable_refused, result_of_a_block, break_ends_objects, ended_by_break, ended_by_continue, ended_by_return, ended_in_a_switch, parameter_in_memory, struct_copied, function_called_by_its_address, string, array_at_file_scope, string_written, array_of_char_written, string_freed, at_least_once, switch_falls_through, no_label, initialiser_passed_over, continue_in_a_switch, product_too_large, product_allocated, no_result, missing_result, aborts, left_to_right, old_value, narrowing_wraps, nested_members, pointer_in_memory, distance}
use Rattle.c_code.specs.Modules.{compiled, index_of}

abbrev seen : Run → End × List ℕ × List ℕ
seen r = (r.end, bytes_of r.deeds, sizes_of (events_of r.deeds))

-- the task is the function of this number in the unit
abbrev crew_in : Typed → (main : ℕ) → Store → Crew
crew_in u main s =
    record { store = s; chain = map (func_thread s) (start_chain s.instances); tasks = func_thread s (index_of u main) ∷ [] }

abbrev ran_in : Typed → (main : ℕ) → (input : List ℕ) → Result Store Fault → Option (End × List ℕ × List ℕ)
ran_in u main input (Err f) = None
ran_in u main input (Ok s) = Some (seen (run_of (replicate 400 0) (crew_in u main s) (map Some input)))

-- within 400 steps, over these bytes of input, with a segment memory of so many bytes
abbrev ran : Typed → (main : ℕ) → (input : List ℕ) → (capacity : ℕ) → Option (End × List ℕ × List ℕ)
ran u main input capacity = ran_in u main input (linked (([], compiled u) ∷ []) capacity)

constant_runs : ran constant 0 [] 512 ≡ Some (Results (Some (vals.I32 7) ∷ []), [], [])
unfolding sequence
constant_runs = refl

past_an_array_runs : ran past_an_array 0 [] 512 ≡ Some (Trap (Task 0) traps.Bounds, codes "01234", (16 ∷ []))
unfolding sequence
past_an_array_runs = refl

past_a_member_runs : ran past_a_member 0 [] 512 ≡ Some (Trap (Task 0) traps.Bounds, [], (8 ∷ []))
unfolding sequence
past_a_member_runs = refl

freed_and_used_again_runs : ran freed_and_used_again 0 [] 512 ≡ Some (Trap (Task 0) traps.Freed, [], (4 ∷ 4 ∷ []))
unfolding sequence
freed_and_used_again_runs = refl

freed_twice_runs : ran freed_twice 0 [] 512 ≡ Some (Trap (Task 0) traps.Freed, [], (8 ∷ []))
unfolding sequence
freed_twice_runs = refl

freed_in_part_runs : ran freed_in_part 0 [] 512 ≡ Some (Trap (Task 0) traps.Whole, [], (8 ∷ []))
unfolding sequence
freed_in_part_runs = refl

variable_freed_runs : ran variable_freed 0 [] 512 ≡ Some (Trap (Task 0) traps.Kind, [], (4 ∷ []))
unfolding sequence
variable_freed_runs = refl

null_freed_runs : ran null_freed 0 [] 512 ≡ Some (Results (Some (vals.I32 0) ∷ []), [], [])
unfolding sequence
null_freed_runs = refl

refused_by_malloc_runs : ran refused_by_malloc 0 [] 64 ≡ Some (Results (Some (vals.I32 4) ∷ []), [], (16 ∷ 16 ∷ 16 ∷ 16 ∷ 16 ∷ []))
unfolding sequence
refused_by_malloc_runs = refl

far_pointer_runs : ran far_pointer 0 [] 512 ≡ Some (Trap (Task 0) traps.Bounds, [], (8 ∷ []))
unfolding sequence
far_pointer_runs = refl

too_far_pointer_runs : ran too_far_pointer 0 [] 512 ≡ Some (Trap (Task 0) traps.Invalid, [], (8 ∷ []))
unfolding sequence
too_far_pointer_runs = refl

as_far_as_may_be_runs : ran as_far_as_may_be 0 [] 512 ≡ Some (Results (Some (vals.I32 0) ∷ []), [], (8 ∷ []))
unfolding sequence
as_far_as_may_be_runs = refl

endless_runs : ran endless 0 [] 512 ≡ Some (OutOfBudget, [], [])
unfolding sequence
endless_runs = refl

least_by_minus_one_runs : ran least_by_minus_one 0 [] 512 ≡ Some (Trap (Task 0) traps.Overflow, [], [])
unfolding sequence
least_by_minus_one_runs = refl

rest_by_minus_one_runs : ran rest_by_minus_one 0 [] 512 ≡ Some (Results (Some (vals.I32 0) ∷ []), [], [])
unfolding sequence
rest_by_minus_one_runs = refl

by_zero_runs : ran by_zero 0 [] 512 ≡ Some (Trap (Task 0) traps.Zero, [], [])
unfolding sequence
by_zero_runs = refl

ended_with_its_block_runs : ran ended_with_its_block 0 [] 512 ≡ Some (Trap (Task 0) traps.Freed, [], (4 ∷ 4 ∷ []))
unfolding sequence
ended_with_its_block_runs = refl

member_of_null_runs : ran member_of_null 0 [] 512 ≡ Some (Trap (Task 0) traps.Invalid, [], [])
unfolding sequence
member_of_null_runs = refl

through_null_runs : ran through_null 0 [] 512 ≡ Some (Trap (Task 0) traps.Null, [], [])
unfolding sequence
through_null_runs = refl

two_objects_runs : ran two_objects 0 [] 512 ≡ Some (Results (Some (vals.I32 0) ∷ []), [], (4 ∷ 4 ∷ []))
unfolding sequence
two_objects_runs = refl

order_of_two_objects_runs : ran order_of_two_objects 0 [] 512 ≡ Some (Trap (Task 0) traps.Apart, [], (4 ∷ 4 ∷ []))
unfolding sequence
order_of_two_objects_runs = refl

nothing_allocated_runs : ran nothing_allocated 0 [] 512 ≡ Some (Results (Some (vals.I32 0) ∷ []), [], (0 ∷ []))
unfolding sequence
nothing_allocated_runs = refl

nothing_read_runs : ran nothing_read 0 [] 512 ≡ Some (Trap (Task 0) traps.Bounds, [], (0 ∷ []))
unfolding sequence
nothing_read_runs = refl

copies_its_input_runs : ran copies_its_input 0 (codes "hi") 512 ≡ Some (Results (Some (vals.I32 0) ∷ []), codes "hi", [])
unfolding sequence
copies_its_input_runs = refl

no_input_runs : ran no_input 0 [] 512 ≡ Some (Results (Some (vals.I32 0) ∷ []), [], [])
unfolding sequence
no_input_runs = refl

null_called_runs : ran null_called 0 [] 512 ≡ Some (Trap (Task 0) traps.Element, [], [])
unfolding sequence
null_called_runs = refl

variable_refused_runs : ran variable_refused 0 [] 64 ≡ Some (Trap (Task 0) traps.Unreachable, [], (400 ∷ []))
unfolding sequence
variable_refused_runs = refl

result_of_a_block_runs : ran result_of_a_block 1 [] 512 ≡ Some (Trap (Task 0) traps.Freed, [], (8 ∷ []))
unfolding sequence
result_of_a_block_runs = refl

break_ends_objects_runs : ran break_ends_objects 0 [] 512 ≡ Some (Results (Some (vals.I32 3) ∷ []), [], (4 ∷ 4 ∷ 4 ∷ []))
unfolding sequence
break_ends_objects_runs = refl

ended_by_break_runs : ran ended_by_break 0 [] 512 ≡ Some (Trap (Task 0) traps.Freed, [], (4 ∷ []))
unfolding sequence
ended_by_break_runs = refl

ended_by_continue_runs : ran ended_by_continue 0 [] 512 ≡ Some (Trap (Task 0) traps.Freed, [], (4 ∷ []))
unfolding sequence
ended_by_continue_runs = refl

ended_by_return_runs : ran ended_by_return 1 [] 512 ≡ Some (Trap (Task 0) traps.Freed, codes "4", (4 ∷ []))
unfolding sequence
ended_by_return_runs = refl

ended_in_a_switch_runs : ran ended_in_a_switch 0 [] 512 ≡ Some (Trap (Task 0) traps.Freed, [], (4 ∷ []))
unfolding sequence
ended_in_a_switch_runs = refl

parameter_in_memory_runs : ran parameter_in_memory 1 [] 512 ≡ Some (Results (Some (vals.I32 5) ∷ []), [], (4 ∷ []))
unfolding sequence
parameter_in_memory_runs = refl

struct_copied_runs : ran struct_copied 0 [] 512 ≡ Some (Results (Some (vals.I32 34) ∷ []), [], (8 ∷ 8 ∷ []))
unfolding sequence
struct_copied_runs = refl

function_called_by_its_address_runs : ran function_called_by_its_address 1 [] 512 ≡ Some (Results (Some (vals.I32 5) ∷ []), [], [])
unfolding sequence
function_called_by_its_address_runs = refl

string_runs : ran string 0 [] 512 ≡ Some (Results (Some (vals.I32 0) ∷ []), codes "ok", (3 ∷ []))
unfolding sequence
string_runs = refl

array_at_file_scope_runs : ran array_at_file_scope 0 [] 512 ≡ Some (Results (Some (vals.I32 3) ∷ []), [], (12 ∷ []))
unfolding sequence
array_at_file_scope_runs = refl

string_written_runs : ran string_written 0 [] 512 ≡ Some (Trap (Task 0) traps.Readonly, codes "b", (3 ∷ []))
unfolding sequence
string_written_runs = refl

array_of_char_written_runs : ran array_of_char_written 0 [] 512 ≡ Some (Results (Some (vals.I32 99) ∷ []), [], (3 ∷ []))
unfolding sequence
array_of_char_written_runs = refl

string_freed_runs : ran string_freed 0 [] 512 ≡ Some (Trap (Task 0) traps.Kind, [], (3 ∷ []))
unfolding sequence
string_freed_runs = refl

at_least_once_runs : ran at_least_once 0 [] 512 ≡ Some (Results (Some (vals.I32 3) ∷ []), [], [])
unfolding sequence
at_least_once_runs = refl

switch_falls_through_runs : ran switch_falls_through 0 [] 512 ≡ Some (Results (Some (vals.I32 6) ∷ []), codes "xy", [])
unfolding sequence
switch_falls_through_runs = refl

no_label_runs : ran no_label 0 [] 512 ≡ Some (Results (Some (vals.I32 8) ∷ []), [], [])
unfolding sequence
no_label_runs = refl

initialiser_passed_over_runs : ran initialiser_passed_over 0 [] 512 ≡ Some (Results (Some (vals.I32 0) ∷ []), [], [])
unfolding sequence
initialiser_passed_over_runs = refl

continue_in_a_switch_runs : ran continue_in_a_switch 0 [] 512 ≡ Some (Results (Some (vals.I32 13) ∷ []), [], [])
unfolding sequence
continue_in_a_switch_runs = refl

product_too_large_runs : ran product_too_large 0 [] 512 ≡ Some (Results (Some (vals.I32 1) ∷ []), [], [])
unfolding sequence
product_too_large_runs = refl

product_allocated_runs : ran product_allocated 0 [] 512 ≡ Some (Results (Some (vals.I32 0) ∷ []), [], (8 ∷ []))
unfolding sequence
product_allocated_runs = refl

no_result_runs : ran no_result 1 [] 512 ≡ Some (Results (Some (vals.I32 1) ∷ []), codes "A", [])
unfolding sequence
no_result_runs = refl

missing_result_runs : ran missing_result 1 [] 512 ≡ Some (Results (Some (vals.I32 2) ∷ []), [], [])
unfolding sequence
missing_result_runs = refl

aborts_runs : ran aborts 0 [] 512 ≡ Some (Trap (Task 0) traps.Abort, codes "A", [])
unfolding sequence
aborts_runs = refl

left_to_right_runs : ran left_to_right 2 [] 512 ≡ Some (Results (Some (vals.I32 4294967295) ∷ []), codes "ABCD", [])
unfolding sequence
left_to_right_runs = refl

old_value_runs : ran old_value 0 [] 512 ≡ Some (Results (Some (vals.I32 56) ∷ []), [], [])
unfolding sequence
old_value_runs = refl

narrowing_wraps_runs : ran narrowing_wraps 0 [] 512 ≡ Some (Results (Some (vals.I32 4) ∷ []), [], [])
unfolding sequence
narrowing_wraps_runs = refl

nested_members_runs : ran nested_members 0 [] 512 ≡ Some (Results (Some (vals.I32 6) ∷ []), [], (16 ∷ []))
unfolding sequence
nested_members_runs = refl

pointer_in_memory_runs : ran pointer_in_memory 0 [] 512 ≡ Some (Results (Some (vals.I32 3) ∷ []), [], (4 ∷ 32 ∷ []))
unfolding sequence
pointer_in_memory_runs = refl

distance_runs : ran distance 0 [] 512 ≡ Some (Results (Some (vals.I32 3) ∷ []), [], (20 ∷ []))
unfolding sequence
distance_runs = refl
