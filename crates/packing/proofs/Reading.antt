-- Document 02, L12: 'For rows that our reader wrote, rows, links and symbols equal those of reading the token list with the dropped statements and their `;` removed'. What a
-- call's answer tells and what it leaves in the rooms, handed to `drop`, is packed to just what reading the shorter list in the same rooms leaves, and the counts are the
-- same: `packed-as-read`. How much scratch that needs at most: `lent-enough`. That the shorter list is read so is crate parts' (Screens.antt).
use Prim.Native.Nat.{ℕ, ◌+◌, ◌-◌, ◌*◌, ◌/◌, ◌≤◌}
use mathlib.Core.List.{List}
use mathlib.Core.Path.{◌≡◌, sym, ap, subst, ◌∙◌}
use native.Mathlib.Omega.{arith}
use lib.ListN.{length, replicate, length-replicate, replicate-append-replicate}
use lib.Seq.{take_at, drop_at}
use Rattle.grammar.specs.Answer.{Answer, success, rooms_filled, Answers}
use Rattle.grammar.specs.Builtin.{built}
use Rattle.grammar.specs.Call.{Call}
use Rattle.grammar.specs.Door.{Admitted}
use Rattle.grammar.specs.Edition.{edition}
use Rattle.grammar.specs.Label.{Label}
use Rattle.grammar.specs.Phrase.{Tree}
use Rattle.grammar.specs.Profile.{Profile}
use Rattle.grammar.specs.Room.{Rooms, node_width, link_width, symbol_width, filled}
use Rattle.grammar.specs.Rows.{Rows}
use Rattle.grammar.specs.Symbol.{symbol}
use Rattle.grammar.specs.Token.{count}
use Rattle.grammar.proofs.Calls.{written_whole}
use Rattle.grammar.proofs.Demands.{rows_of, symbols_of, ReadAs, Sorts, sorts}
use Rattle.grammar.proofs.Symbols.{rows_built, rows_whole}
use Rattle.foreign.specs.Check.{Given, Lends, Checks}
use Rattle.foreign.proofs.Accepted.{answer_checked}
use Rattle.parts.specs.Dropped.{statement_count, leaving}
use Rattle.parts.specs.Packed.{statements, keeps}
use Rattle.parts.proofs.Passing.{packed_nodes_most, packed_links_most}
use Rattle.parts.proofs.Screens.{ScriptOf, rows_left, symbols_left, symbols_most, read_checked, answered, dropped_answers, statements_counted}
use Rattle.packing.specs.Answer.{Asked, Lent, refilled, rooms_packed, done, Packs, asked}
use Rattle.packing.specs.Answer.{rows_of as asked-rows, symbols_of as asked-symbols}
use Rattle.packing.specs.declared.Packed.{Packed}
use Rattle.packing.proofs.Outcomes.{one_packing}

-- an answer's counts and the rooms that it left, with the call's edition and built-in names, and a choice
abbrev pub asked_of : Call → Answer → (after : Rooms) → (choice : List ℕ) → Asked
asked_of k a after choice = asked a.nodes a.links a.symbols (built k.names) k.edition choice after

-- code 0 and an answer's counts
abbrev pub packed_so : Answer → Packed
packed_so a = record { code = 0; nodes = a.nodes; links = a.links; symbols = a.symbols; rule = 0; row = 0 }

-- the rooms are those that reading the shorter list leaves, and the counts are those of its answer
pub record AsRead (call : Call) (t : Tree Label) (choice : List ℕ) (r : Packed) (x : Rooms) : Type 0 where
  pub reads : Answers (leaving call (keeps choice) t) (success (rows_left call (keeps choice) t) (symbols_left call (keeps choice) t)) x
  pub tells : r ≡ packed_so (success (rows_left call (keeps choice) t) (symbols_left call (keeps choice) t))

-- a room that was filled with zeros behind what was read is filled so again
refilled_filled : (xs ws before : List ℕ) (n : ℕ) → length ws ≡ n → length xs ≤ n → n ≤ length before → refilled xs n (filled ws before) ≡ filled xs before
refilled_filled xs ws before n e h l =
    let z : n - length xs + (length before - length ws) ≡ length before - length xs = omega arith in
    rw (drop_at ws (replicate (length before - length ws) 0) n e, replicate-append-replicate {A = ℕ} (n - length xs) (length before - length ws) 0, z)

module _ (call : Call) (choice : List ℕ) {t : Tree Label} (d : Admitted call) (p : call.profile ≡ Profile.script) (s : ScriptOf call t) where
  abbrev w : Rows
  w = rows_of call t

  abbrev ss : List ℕ
  ss = symbols_of call

  abbrev q : Asked
  q = asked_of call (success w ss) (rooms_filled w ss call.rooms) choice

  module _ (r : ReadAs call (success w ss) (rooms_filled w ss call.rooms) t) where
    same_rows : asked-rows q ≡ w
    same_rows = (read_checked d p r).same

    whole_symbols : symbol_width * (length ss / symbol_width) ≡ length ss
    whole_symbols = rows_whole call.names call.text call.tokens (count call.tokens)

    same_symbols : asked-symbols q ≡ ss
    same_symbols = take_at ss (replicate (length call.rooms.symbols - length ss) 0) (symbol_width * (length ss / symbol_width)) (sym whole_symbols)

    done_is : done q ≡ packed_so (success (rows_left call (keeps choice) t) (symbols_left call (keeps choice) t))
    done_is = rw (same_rows, same_symbols)

    rooms_are : rooms_packed q ≡ rooms_filled (rows_left call (keeps choice) t) (symbols_left call (keeps choice) t) call.rooms
    rooms_are =
        let k = (read_checked d p r).checked in
        let whole = written_whole Profile.script (count call.tokens) (edition call.edition) call.tokens (symbol call.names call.text call.tokens) s in
        let b = built call.names in
        let c = keeps choice in
        rw (
          same_rows,
          same_symbols,
          refilled_filled (rows_left call c t).nodes w.nodes call.rooms.nodes (node_width * (length w.nodes / node_width)) (omega (arith, whole.nodes)) (omega (arith, whole.nodes, packed_nodes_most k c b)) (omega (arith, whole.nodes, r.fits.nodes)),
          refilled_filled (rows_left call c t).links w.links call.rooms.links (link_width * (length w.links / link_width)) (omega (arith, whole.links)) (omega (arith, whole.links, packed_links_most k c b)) (omega (arith, whole.links, r.fits.links)),
          refilled_filled (symbols_left call c t) ss call.rooms.symbols (symbol_width * (length ss / symbol_width)) (omega (arith, whole_symbols)) (omega (arith, whole_symbols, symbols_most call c t k)) (omega (arith, whole_symbols, r.symbols_fit)),
          length-replicate {A = ℕ} (length call.rooms.scratch) 0,
        )

    packs : length choice ≡ statement_count t → Lent q → Packs q (done q) (rooms_packed q)
    packs h l = Packs.passed l d.edition (rw same_rows (read_checked d p r).checked) (h ∙ sym (statements_counted call s) ∙ ap (λ v. statements v) (sym same_rows))

pub packed_as_read : {call : Call} {a : Answer} {after : Rooms} {t : Tree Label} → Answers call a after → a.code ≡ 0 → call.profile ≡ Profile.script → ScriptOf call t → (choice : List ℕ) → length choice ≡ statement_count t → Lent (asked_of call a after choice) → {r : Packed} {x : Rooms} → Packs (asked_of call a after choice) r x → AsRead call t choice r x
packed_as_read {call} {a} {after} {t} y z p s choice h l {r = r₀} {x = x} k =
    let c = keeps choice in
    let (d, r) = answered y z p s in
    let e = r.numbers_are in
    let f = r.rooms_are in
    let r' = subst (λ v. ReadAs call (success (rows_of call t) (symbols_of call)) v t) f (subst (λ v. ReadAs call v after t) e r) in
    let l' = subst (λ v. Lent (asked_of call (success (rows_of call t) (symbols_of call)) v choice)) f (subst (λ v. Lent (asked_of call v after choice)) e l) in
    let k' = subst (λ v. Packs (asked_of call (success (rows_of call t) (symbols_of call)) v choice) r₀ x) f (subst (λ v. Packs (asked_of call v after choice) r₀ x) e k) in
    let (m, n) = one_packing k' (packs call choice d p s r' h l') in
    record { reads = subst (λ v. Answers (leaving call c t) (success (rows_left call c t) (symbols_left call c t)) v) (sym (n ∙ rooms_are call choice d p s r')) (dropped_answers y z p s c).answers; tells = m ∙ done_is call choice d p s r' }

lends_of : {g : Given} {x : Rooms} → Checks g 0 0 0 x → Lends g
lends_of (Checks.passed l e c) = l

-- of such a call a scratch room with five numbers for each token and one for each built-in name is enough
pub lent_enough : {call : Call} {a : Answer} {after : Rooms} → Answers call a after → a.code ≡ 0 → call.profile ≡ Profile.script → (choice : List ℕ) → 5 * count call.tokens + built call.names ≤ length call.rooms.scratch → Lent (asked_of call a after choice)
lent_enough {call} {a} {after} y z p choice h = pick (sorts y)
  where
    pick : Sorts call a after → Lent (asked_of call a after choice)
    pick (Sorts.read d r) =
        let n = r.numbers_are in
        let few = rows_built call.names call.text call.tokens (count call.tokens) in
        let room : length after.scratch ≡ length call.rooms.scratch = rw r.rooms_are (length-replicate {A = ℕ} (length call.rooms.scratch) 0) in
        let well = r.one_tree in
        record {
          rows = lends_of (answer_checked y p z);
          builtins = rw n few;
          scratch = rw room (rw n (omega (arith, well.nodes, well.links, well.symbols)));
        }
    pick (Sorts.stopped d r) = absurd (omega (arith, r.codes.least))
    pick (Sorts.turned r) = absurd (omega (arith, r.codes.least))
