-- A whole script. The statements that are read and held make, with the root's row and links, just the rows of a script's tree; what is refused among them is the
-- script's refusal, and so is a root that has no room.
use Prim.Native.Nat.{ℕ, ◌+◌, ◌-◌, ◌*◌, ◌≤◌, ◌<◌}
use native.Mathlib.Decide.{ℕ_discrete}
use native.Mathlib.Omega.{arith}
use mathlib.Core.List.{List, [], ◌∷◌, ◌++◌}
use mathlib.Core.Path.{◌≡◌, refl, subst, ◌∙◌}
use lib.ListN.{length, take, length-append}
use lib.Seq.{length-take-le}
use Rattle.ast.specs.Inserted.{Inserted}
use Rattle.ast.specs.Written.{Written}
use Rattle.ast.specs.declared.Node.{Node}
use Rattle.grammar.specs.Edition.{edition as named-edition}
use Rattle.grammar.specs.Handle.{absent}
use Rattle.grammar.specs.Kaori.{script, script_items, Script}
use Rattle.grammar.specs.Kind.{Eof}
use Rattle.grammar.specs.Label.{Node as a_node, Label, number_of}
use Rattle.grammar.specs.Phrase.{empty, chain, whole, made, Tree, Reads, depth}
use Rattle.grammar.specs.Profile.{Profile, ReadsAll}
use Rattle.grammar.specs.Refusal.{refused}
use Rattle.grammar.specs.Room.{node_width, link_width, scratch_width}
use Rattle.grammar.specs.Rows.{Rows, padded, links_of, numbers as field-numbers, write, fill, put, make, walk, unparented}
use Rattle.grammar.specs.Space.{has_word, Named}
use Rattle.grammar.specs.Token.{kind, count}
use Rattle.grammar.proofs.Outcomes.{ends_at_eof}
use Rattle.grammar.proofs.Room.{links_length}
use Rattle.names.specs.Resolved.{names_of}
use Rattle.reading.specs.Answers.{Listed, ListCase, Lists}
use Rattle.reading.specs.Reading.{Refusing}
use Rattle.reading.specs.State.{State, state, written, Lent}
use Rattle.reading.specs.declared.Cursor.{Cursor}
use Rattle.reading.specs.declared.Read.{Read}
use Rattle.reading.specs.declared.Refusal.{Refusal}
use Rattle.reading.specs.declared.Terms.{Terms}
use Rattle.reading.proofs.Entering.{entered, row_unmade, links_unmade}
use Rattle.reading.proofs.Gathering.{first_link}
use Rattle.reading.proofs.Laws.{plain, full}
use Rattle.reading.proofs.Refusals.{in_node}
use Rattle.syntax.specs.Parsed.{begin, Completed, CompleteCase, Completes}

-- a refusal among the statements is the script's
pub chain_told : {ts : List ℕ} {terms : Terms} {s : State} {ns ls ss : List ℕ} {r : Read} {q : Refusal} → r ≡ Read.Refused q → Lists ts terms (whole (chain empty script_items)) 0 s ns ls ss r →
    Completes Profile.script ts terms s ns ls ss r
unfolding ListCase CompleteCase
chain_told e a = rw e (record { says = in_node (rw e at a).says })

-- the root's numbers
abbrev root_numbers : (first items : ℕ) → List ℕ
root_numbers first items = number_of a_node.Block ∷ 0 ∷ 0 ∷ first ∷ items ∷ absent ∷ []

-- the statements up to Eof, read and held from the first token on
module _ {ts : List ℕ} {terms : Terms} {ns₀ ls₀ ss₀ ns ls ss : List ℕ} {c : Cursor} (l : Listed ts terms (whole (chain empty script_items)) 0 (state ns₀ ls₀ ss₀ begin) (state ns ls ss c)) where
  -- the link rows with the root's own
  abbrev root_links : List ℕ
  root_links = take (link_width * c.links) ls ++ links_of l.items

  many : c.held ≡ length l.items
  many = omega (arith, l.count)

  long : length root_links ≡ link_width * (c.links + c.held)
  long = omega (arith, length-append (take (link_width * c.links) ls) (links_of l.items), length-take-le (link_width * c.links) ls l.within.stands.link_rows, many, links_length l.items)

  root_made : make ts (names_of ts ss) Label.Script 0 c.at (written (state ns ls ss c)) l.items [] ≡
      entered c ns ls 20 0 0 (c.links ∷ length l.items ∷ absent ∷ []) (links_of l.items)
  unfolding make put fill field-numbers write
  root_made = rw (first_link l.within)

  -- its links or its row have no room: the script is refused at the Eof
  pub no_links : length ls < link_width * (c.links + c.held) → Refusing ts terms script 0 (state ns₀ ls₀ ss₀ begin) (refused 4 c.at 255)
  unfolding has_word
  no_links h = full l.reading (links_unmade (root_numbers c.links (length l.items)) root_links l.within.stands (λ x y. plain refl x) root_made (omega (arith, h, long)))

  pub no_row : link_width * (c.links + c.held) ≤ length ls → length ns < node_width * (c.nodes + 1) → Refusing ts terms script 0 (state ns₀ ls₀ ss₀ begin) (refused 4 c.at 255)
  unfolding has_word
  no_row h i = full l.reading (row_unmade (root_numbers c.links (length l.items)) root_links l.within.stands (λ x y. plain refl x) root_made (omega (arith, h, long)) i)

  -- they are a script's
  tree : Tree Label
  tree = made Label.Script 0 c.at l.reading.tree

  reads_script : Script (named-edition terms.edition) (kind ts) c.at tree
  unfolding tree
  reads_script = Reads.labelled l.reading.reads

  -- the Eof that ends it is the last token
  reads_all : Lent ts → ReadsAll Profile.script (named-edition terms.edition) (kind ts) (count ts) tree
  reads_all d =
      let e : kind ts c.at ≡ Eof = elim (ℕ_discrete (kind ts c.at) Eof) [ yes h ↦ h | no n ↦ absurd (n (ends_at_eof (named-edition terms.edition) reads_script)) ] in
      let last : c.at ≡ count ts - 1 = omega (arith, (d.closed c.at l.within.at).only e) in
      subst (λ n. Script (named-edition terms.edition) (kind ts) n tree) last reads_script

  -- the rows of the statements, and the root's
  abbrev with_root : Rows
  with_root = record {
    nodes = take (node_width * c.nodes) ns ++ padded (root_numbers c.links c.held);
    links = take (link_width * c.links) ls ++ take (scratch_width * c.held) ss;
  }

  read_rows : unparented ts (names_of ts ss₀) tree ≡ with_root
  unfolding unparented walk make put fill field-numbers write tree
  read_rows = rw (l.reading.rows, first_link l.within, l.rows, many)

  named_all : Named (names_of ts ss₀) tree
  unfolding Named has_word tree
  named_all = (l.reading.named, λ e z. plain refl e)

  deep : depth tree ≤ terms.limit
  unfolding depth tree
  deep = omega (arith, l.reading.fits)

  -- where they are written, the script is read
  pub rooted : {ns₁ ls₁ : List ℕ} {n : Node} → Lent ts → link_width * (c.links + c.held) ≤ length ls → node_width * (c.nodes + 1) ≤ length ns →
      Written (link_width * c.links) (link_width * (c.links + c.held)) (take (scratch_width * c.held) ss) ls ls₁ → Inserted c.nodes (number_of a_node.Block) 0 0 (c.links ∷ c.held ∷ absent ∷ []) ns ns₁ n →
      Completed Profile.script ts terms (state ns₀ ls₀ ss₀ begin) (state ns₁ ls₁ ss (record { at = c.at; nodes = c.nodes + 1; links = c.links + c.held; held = 0 }))
  rooted d h k w i =
      let m = l.reading.rooms in
      record {
        tree = tree;
        reads = reads_all d;
        fits = deep;
        named = named_all;
        rows = read_rows ∙ rw (i.row.rows, w.rows);
        rooms = record { nodes = i.row.size ∙ m.nodes; links = w.size ∙ m.links; scratch = m.scratch; stands = λ _. record { node_rows = omega (arith, i.row.size, k); link_rows = omega (arith, w.size, h) } };
        stands = record { node_rows = omega (arith, i.row.size, k); link_rows = omega (arith, w.size, h) };
      }
