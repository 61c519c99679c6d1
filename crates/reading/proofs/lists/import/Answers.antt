-- An import holds its path and then its names; one `gather` makes both the links of its row.
use Prim.Native.Nat.{ℕ, ◌+◌, ◌*◌, ◌-◌, ◌/◌, ◌≤◌, ◌<◌}
use native.Mathlib.Omega.{arith}
use mathlib.Core.List.{List, [], ◌∷◌, ◌++◌, append_assoc}
use mathlib.Core.Path.{◌≡◌, refl}
use lib.ListN.{length, take, length-append}
use lib.Seq.{length-take-le}
use Rattle.ast.specs.Inserted.{Tried}
use Rattle.ast.specs.Written.{Written}
use Rattle.ast.specs.declared.Node.{Node}
use Rattle.grammar.specs.Handle.{Handle, absent}
use Rattle.grammar.specs.Label.{Node as Form, Label}
use Rattle.grammar.specs.Rows.{links_of, numbers, write, fill, put, make}
use Rattle.grammar.specs.Rule.{rule}
use Rattle.grammar.specs.Space.{has_word}
use Rattle.grammar.specs.Token.{start, end}
use Rattle.grammar.proofs.Room.{paid, spare, links_length}
use Rattle.reading.specs.Parts.{MakesList}
use Rattle.reading.specs.State.{state, Standing}
use Rattle.reading.specs.declared.Cursor.{Cursor}
use Rattle.reading.specs.declared.Read.{Read}
use Rattle.reading.proofs.Entering.{link_number, Tries, list_tried}
use Rattle.reading.proofs.Gathering.{gather_asks, gathered_numbers, gathered_size}
use Rattle.reading.proofs.Laws.{taken, ready_next, ready_on}
use Rattle.reading.proofs.Listings.{listed_from, held_since, listed_both, rows_both}
use Rattle.reading.proofs.Refusals as Refuses
use Rattle.reading.proofs.Replies.{token_taken, lacks, passed_list, listed, after, built}
use Rattle.reading.proofs.Taking.{opened_led, free}
use Rattle.reading.proofs.lists.import.Goals as goal
use Rattle.reading.proofs.lists.import.Goals.{After-bindings-read}

-- the row of an import: the second list's links come after the first's
tried : {ts ns ns' ls ls' ss : List ℕ} {a h : ℕ} {xs zs : List Handle} {n : Node} {r : Read} (c : Cursor) (m : ℕ) → Standing (state ns ls ss c) → c.nodes < absent → length (links_of xs ++ links_of zs) ≡ 3 * m →
    (3 * (c.links + m) ≤ length ls → Written (3 * c.links) (3 * (c.links + m)) (links_of xs ++ links_of zs) ls ls') → length ls' ≡ length ls →
    MakesList (length ls') n (record { at = c.at; nodes = c.nodes; links = c.links + m; held = h }) r →
    Tried c.nodes 26 (start ts a) (end ts c.at) (c.links ∷ length xs ∷ (c.links + length xs) ∷ length zs ∷ []) ns ns' n →
    Tries ts (Label.Row Form.Import) a (state ns ls ss (record { at = c.at; nodes = c.nodes; links = c.links; held = h })) xs zs ns' ls' ss r
unfolding make put fill numbers write rule has_word
tried {ls = ls} {xs = xs} {zs = zs} c m w b e g z q i =
    let l = length-take-le (3 * c.links) ls w.link_rows in
    let k = length-append (take (3 * c.links) ls) (links_of xs) in
    let second : length (take (3 * c.links) ls ++ links_of xs) / 3 ≡ c.links + length xs = omega (arith, links_length xs) in
    list_tried c m w b refl (rw (link_number c.links ls w.link_rows, second, append_assoc (take (3 * c.links) ls) (links_of xs) (links_of zs))) e g z q i

-- how much is held where both lists are
record Sizes (from middle upto links : ℕ) : Type 0 where
  rises : from ≤ middle
  on : middle ≤ upto
  few : links + upto < 4096

sizes : (c : After-bindings-read) {n : Node} {d : Cursor} → c.bindings-read.result ≡ Read.Node n d → Sizes c.args.cur.held c.in-Node-read.middle.held d.held d.links
sizes c e =
    let l = listed_from (token_taken c.in-Node.is c.consume-read.ensures).after (listed c.in-Node-read.is c.path-read.ensures) in
    let m = listed e c.bindings-read.ensures in
    record {
      rises = omega (arith, l.count);
      on = omega (arith, m.count);
      few = omega (arith, m.within.links, m.within.at, c.requires.lent.whole.most);
    }

pub returns-in_default : goal.returns-in_default
returns-in_default c = lacks c.in_default.is c.consume-read.ensures (λ n. Refuses.in_node (Refuses.missing n))

pub path-read-requires : goal.path-read-requires
path-read-requires c = opened_led c.requires (token_taken c.in-Node.is c.consume-read.ensures) (λ e. omega arith)

pub returns-in_default-read : goal.returns-in_default-read
returns-in_default-read c =
    let t = token_taken c.in-Node.is c.consume-read.ensures in
    passed_list c.in_default-read.is (rw t.after at c.path-read.ensures) (λ x h. Refuses.in_node (Refuses.past_token t.kind_is (Refuses.in_first h)))

pub bindings-read-requires : goal.bindings-read-requires
bindings-read-requires c = ready_on c.requires (listed c.in-Node-read.is c.path-read.ensures).within

pub returns-in_default-read-2 : goal.returns-in_default-read-2
returns-in_default-read-2 c =
    let t = token_taken c.in-Node.is c.consume-read.ensures in
    let l = listed_from t.after (listed c.in-Node-read.is c.path-read.ensures) in
    passed_list c.in_default-read-2.is c.bindings-read.ensures (λ x h. Refuses.in_node (Refuses.past_token t.kind_is (after l.reading (Refuses.lowered h))))

pub overflow_sub-length : goal.overflow_sub-length
overflow_sub-length c = (sizes (goal.at.overflow_sub-length c).After-bindings-read c.in-Node-read-2.is).rises

pub overflow_sub-count : goal.overflow_sub-count
overflow_sub-count c = (sizes (goal.at.overflow_sub-count c).After-bindings-read c.in-Node-read-2.is).on

pub gather-past-requires : goal.gather-past-requires
gather-past-requires c =
    let z = sizes (goal.at.gather-past-requires c).After-bindings-read c.in-Node-read-2.is in
    gather_asks c.requires.lent (listed c.in-Node-read-2.is c.bindings-read.ensures).within (omega arith)

pub end_at-upto-requires : goal.end_at-upto-requires
end_at-upto-requires c = rw c.gather-past.ensures.cursor (listed c.in-Node-read-2.is c.bindings-read.ensures).within.at

pub overflow_cast-first : goal.overflow_cast-first
overflow_cast-first c = let z = sizes (goal.at.overflow_cast-first c).After-bindings-read c.in-Node-read-2.is in omega arith

pub overflow_cast-length : goal.overflow_cast-length
overflow_cast-length c = let z = sizes (goal.at.overflow_cast-length c).After-bindings-read c.in-Node-read-2.is in omega arith

pub overflow_add-first : goal.overflow_add-first
overflow_add-first c = let z = sizes (goal.at.overflow_add-first c).After-bindings-read c.in-Node-read-2.is in omega arith

pub overflow_cast-first-2 : goal.overflow_cast-first-2
overflow_cast-first-2 c = let z = sizes (goal.at.overflow_cast-first-2 c).After-bindings-read c.in-Node-read-2.is in omega arith

pub overflow_cast-count : goal.overflow_cast-count
overflow_cast-count c = let z = sizes (goal.at.overflow_cast-count c).After-bindings-read c.in-Node-read-2.is in omega arith

pub import-node-requires : goal.import-node-requires
import-node-requires c = (gathered_numbers c.requires.lent (listed c.in-Node-read-2.is c.bindings-read.ensures).within c.gather-past.ensures).0

pub made_list-requires : goal.made_list-requires
made_list-requires c = gathered_numbers c.requires.lent (listed c.in-Node-read-2.is c.bindings-read.ensures).within c.gather-past.ensures

pub returns : goal.returns
unfolding paid spare
returns c =
    let p = c.requires in
    let t = token_taken c.in-Node.is c.consume-read.ensures in
    let l = listed_from t.after (listed c.in-Node-read.is c.path-read.ensures) in
    let m = listed c.in-Node-read-2.is c.bindings-read.ensures in
    let g = c.gather-past.ensures in
    let path_long : c.in-Node-read.middle.held - c.args.cur.held ≡ length l.items = omega (arith, l.count) in
    let names_long : c.in-Node-read-2.end.held - c.in-Node-read.middle.held ≡ length m.items = omega (arith, m.count) in
    let w = rw (g.cursor, held_since (ready_next p t.kind_is (λ e. omega arith)).within m.within (omega (arith, l.count, m.count)) (rows_both l m)) at g.links in
    let i = rw (c.end_at-upto.ensures, t.node_is, g.cursor, path_long, names_long) at c.import-node.ensures in
    let q = rw g.cursor at c.made_list.ensures in
    let u = m.within in
    let e = length-append (links_of l.items) (links_of m.items) in
    built p (record { pays = tt }) u.at (taken t.kind_is (listed_both l m))
    (tried c.in-Node-read-2.end (c.in-Node-read-2.end.held - c.args.cur.held) u.stands (free p.lent u) (omega (arith, e, links_length l.items, links_length m.items, l.count, m.count)) w (gathered_size g) q i)
