use Rattle.std.proofs.Common.{◌≡◌, ◌≤◌, ◌++◌, All, length, map, refl, sym, ap, ◌∙◌, subst}
use Rattle.ms_linear.specs.Memory.{most_pages}
use Rattle.ms_linear.specs.Table.{most_entries}
use Rattle.ms_types.specs.declared.types.Limits.{Limits}
use Rattle.ms_machine.specs.Externs.{Made}
use Rattle.ms_machine.specs.Linked.{funcs_in, globals_in, host_funcs, memory_in, numbers, or_own, own_func, own_global, table_in, values_at}
use Rattle.ms_machine.specs.Writing.{empty_table, zeroed}
use Rattle.ms_link.proofs.Beginning.{begins_along, same_instance, small_parts}
use Rattle.ms_link.proofs.adding.begin.Goals as goal

pub grow-requires-clause-tables : goal.grow-requires-clause-tables
grow-requires-clause-tables c =
    subst (All (λ (l : Limits). l.min ≤ most_entries)) (sym c.as_slice.ensures) (small_parts (length c.args.made.now.instances) c.args.module.tables c.args.module.memories c.requires.small).0

pub grow-requires-clause-memories : goal.grow-requires-clause-memories
grow-requires-clause-memories c =
    subst (All (λ (l : Limits). l.min ≤ most_pages)) (sym c.as_slice-2.ensures) (small_parts (length c.args.made.now.instances) c.args.module.tables c.args.module.memories c.requires.small).1

pub returns : goal.returns
returns c =
    let m = c.args.module in
    let es = c.args.externs.now in
    let v = c.made.inside in
    let was : Made = record {
      names = v.names;
      funcs = v.funcs.items;
      instances = v.instances.items;
      tables = v.tables.items;
      memories = v.memories.items;
      globals = v.globals.items;
      elements = v.elements.items;
      fills = v.fills.items;
    } in
    let number : c.len.result ≡ length was.instances = c.len.ensures ∙ v.instances.ok.0 in
    let grown = c.in_ok-addresses.ensures in
    let shared = grown.types ∙ c.into_vec.ensures in
    let spaces = grown.funcs m c.into_vec.ensures in
    let own = c.into_vec-2.ensures in
    let funcs = spaces.0
    ∙ ap (λ n. was.funcs ++ host_funcs n 0 es ++ map (own_func m n) c.into_vec-2.result.items) number
    ∙ ap (λ fs. was.funcs ++ host_funcs (length was.instances) 0 es ++ map (own_func m (length was.instances)) fs) own in
    let addresses = spaces.1
    ∙ ap (λ n. funcs_in (length was.funcs) es ++ numbers (length (was.funcs ++ host_funcs n 0 es)) (length c.into_vec-2.result.items)) number
    ∙ ap (λ fs. funcs_in (length was.funcs) es ++ numbers (length (was.funcs ++ host_funcs (length was.instances) 0 es)) (length fs)) own in
    begins_along was c.args.made.now _ m es _ c.made.view_is (record {
      names = refl;
      funcs = funcs;
      instances = refl;
      tables = grown.tables.0 ∙ ap (λ ls. was.tables ++ map empty_table ls) c.as_slice.ensures;
      memories = grown.memories.0 ∙ ap (λ ls. was.memories ++ map zeroed ls) c.as_slice-2.ensures;
      globals = grown.globals.0 ∙ ap (λ gs. was.globals ++ map (own_global (values_at was.globals (globals_in es))) gs) c.as_slice-3.ensures;
      elements = refl;
      fills = refl;
      instance = same_instance m.exports m.start _ _ _ _ _ _ _ _ _ _
          (c.from_vec.ensures ∙ shared)
          (c.from_vec-2.ensures ∙ addresses)
          (grown.tables.1 ∙ ap (λ ls. or_own (table_in es) (length was.tables) ls) c.as_slice.ensures)
          (grown.memories.1 ∙ ap (λ ls. or_own (memory_in es) (length was.memories) ls) c.as_slice-2.ensures)
          (c.from_vec-3.ensures ∙ grown.globals.1 ∙ ap (λ gs. globals_in es ++ numbers (length was.globals) (length gs)) c.as_slice-3.ensures);
      own_elements = refl;
      own_fills = refl;
    })
