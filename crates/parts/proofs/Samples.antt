-- Samples of packed rows, all numbers written out.
use mathlib.Core.Bool.{true}
use mathlib.Core.List.{[], ◌∷◌, ◌++◌}
use mathlib.Core.Path.{◌≡◌, refl}
use Rattle.grammar.specs.Layout.{layout}
use Rattle.grammar.specs.Named.{rows, all_kinds}
use Rattle.grammar.specs.Samples.{row}
use Rattle.parts.specs.Moved.{moved_node, moved_numbers, moved_nodes, moved_names, moved_entries, moved_lists, list_links, moved_row, moved_links, row_links}
use Rattle.parts.specs.Spoken.{node_parts, name_parts, entry_parts, parts, parts_of, words, spoken, heard, first_places}
use Rattle.parts.specs.Packed.{keeps, kept_upto, stays_in, stays, rows_kept, links_kept, links_before, packed_nodes, packed_links, root_links, packed_with, spoken_all, upto, left, packed, packed_symbols}

-- a; b; a; without its first statement: b is now symbol 0, and a stands first where it stood second
three : packed (keeps (0 ∷ 1 ∷ 1 ∷ [])) 0 (rows (row 10 0 1 0 0 1 0 0 0 3 ++ row 10 3 4 1 3 4 0 0 0 3 ++ row 10 6 7 0 6 7 0 0 0 3 ++ row 20 0 0 0 3 4294967295 0 0 0 4294967295) (0 ∷ 0 ∷ 0 ∷ 1 ∷ 0 ∷ 0 ∷ 2 ∷ 0 ∷ 0 ∷ []))
    ≡ rows (row 10 3 4 0 3 4 0 0 0 2 ++ row 10 6 7 1 6 7 0 0 0 2 ++ row 20 0 0 0 2 4294967295 0 0 0 4294967295) (0 ∷ 0 ∷ 0 ∷ 1 ∷ 0 ∷ 0 ∷ [])
unfolding moved_node moved_numbers moved_nodes moved_names moved_entries moved_lists list_links moved_row moved_links row_links node_parts name_parts entry_parts parts parts_of words spoken heard first_places kept_upto stays_in stays rows_kept links_kept links_before packed_nodes packed_links root_links packed_with spoken_all upto left packed packed_symbols layout
three = refl

-- every kind of row, all kept
all : packed (λ i. true) 0 all_kinds ≡ all_kinds
unfolding moved_node moved_numbers moved_nodes moved_names moved_entries moved_lists list_links moved_row moved_links row_links node_parts name_parts entry_parts parts parts_of words spoken heard first_places kept_upto stays_in stays rows_kept links_kept links_before packed_nodes packed_links root_links packed_with spoken_all upto left packed packed_symbols layout
all = refl
