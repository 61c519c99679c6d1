-- How readings of parts make a reading of the whole, and answers of parts an answer: a law for each production.
use Prim.Native.Nat.{ℕ, ◌+◌, ◌*◌, ◌≤◌, ◌<◌}
use native.Mathlib.Omega.{arith}
use mathlib.Core.Bool.{Bool, true, false}
use mathlib.Core.List.{List, [], ◌++◌, append-nil}
use mathlib.Core.Path.{◌≡◌, refl, sym, ap, ◌∙◌}
use lib.ListN.{length-take}
use Rattle.grammar.specs.Handle.{Handle}
use Rattle.grammar.specs.Kaori.{Form, Table}
use Rattle.grammar.specs.Kind.{Eof}
use Rattle.grammar.specs.Label.{Label}
use Rattle.grammar.specs.Phrase.{empty, token, part, nested, node, choice, chain, once, made, more, none, deeper, Aim, whole, begun, Reads, depth}
use Rattle.grammar.specs.Refusal.{Refused, refused, Passes, Refuses}
use Rattle.grammar.specs.Room.{node_width, link_width}
use Rattle.grammar.specs.Rows.{Rows, walk, then, make}
use Rattle.grammar.specs.Space.{Space, Worded, Named, Lacks}
use Rattle.grammar.specs.Token.{kind, count}
use Rattle.names.specs.Resolved.{names_of}
use Rattle.reading.specs.Answers.{next}
use Rattle.reading.specs.Reading.{tables, Reading, Refusing}
use Rattle.reading.specs.State.{State, state, written, held, space, Lent, Roomy, Within, Ready, Opened, Rooms}
use Rattle.reading.specs.declared.Cursor.{Cursor}
use Rattle.reading.specs.declared.Terms.{Terms}

-- rooms
pub rooms_same : {s : State} → Rooms s s
rooms_same = record { nodes = refl; links = refl; scratch = refl; stands = λ h. h }

pub rooms_on : {s s₁ s₂ : State} → Rooms s s₁ → Rooms s₁ s₂ → Rooms s s₂
rooms_on a b = record { nodes = b.nodes ∙ a.nodes; links = b.links ∙ a.links; scratch = b.scratch ∙ a.scratch; stands = λ h. b.stands (a.stands h) }

pub roomy_on : {ts : List ℕ} {s s' : State} → Roomy ts s → Rooms s s' → Roomy ts s'
roomy_on r a = record { scratch = omega arith }

-- a node that has no word needs no symbol
pub plain : {b : Bool} → b ≡ false → b ≡ true → ⊥
plain n h = let z : ◌≡◌ {A = Bool} true false = sym h ∙ n in let o : ◌≡◌ {A = ℕ} 0 1 = cc in omega arith

-- from s₁ to s₂ what a node made of xs and ys: rows, and the handles hs
pub record Made (ts : List ℕ) (f : Label) (a : ℕ) (s₁ : State) (xs ys hs : List Handle) (s₂ : State) : Type 0 where
  pub makes : make ts (names_of ts s₁.scratch) f a s₁.cursor.at (written s₁) xs ys ≡ record { rows = written s₂; first = hs; rest = [] }
  pub at : s₂.cursor.at ≡ s₁.cursor.at
  pub holds : s₂.cursor.held ≡ s₁.cursor.held
  pub same : held s₂ ≡ held s₁
  pub rooms : Rooms s₁ s₂
  pub kept : names_of ts s₂.scratch ≡ names_of ts s₁.scratch
  pub word : Worded (names_of ts s₁.scratch) f a

-- and where that does not fit, as is met at token c
pub record Unmade (ts : List ℕ) (f : Label) (a : ℕ) (s₁ : State) (xs ys : List Handle) (c : ℕ) : Type 0 where
  pub lacks : Lacks (names_of ts s₁.scratch) (space s₁) f a s₁.cursor.at (make ts (names_of ts s₁.scratch) f a s₁.cursor.at (written s₁) xs ys).rows c

-- a node that writes no row
pub unwritten : {ts : List ℕ} {f : Label} {a : ℕ} {s : State} {xs ys hs : List Handle} → Worded (names_of ts s.scratch) f a →
    make ts (names_of ts s.scratch) f a s.cursor.at (written s) xs ys ≡ record { rows = written s; first = hs; rest = [] } → Made ts f a s xs ys hs s
unwritten n e = record { makes = e; at = refl; holds = refl; same = refl; rooms = rooms_same; kept = refl; word = n }

-- the rows of a part, with the names of the state where the whole starts
pub with_names : {ts : List ℕ} {terms : Terms} {o : ℕ} {g : Aim Table Label} {s s' : State} {xs ys : List Handle} {σ : ℕ → ℕ} (r : Reading ts terms g o s xs ys s') → names_of ts s.scratch ≡ σ →
    walk ts σ r.tree (written s) ≡ record { rows = written s'; first = xs; rest = ys }
with_names r e = rw e at r.rows

-- and its words
pub named_with : {ts : List ℕ} {terms : Terms} {o : ℕ} {g : Aim Table Label} {s s' : State} {xs ys : List Handle} {σ : ℕ → ℕ} (r : Reading ts terms g o s xs ys s') → names_of ts s.scratch ≡ σ →
    Named σ r.tree
named_with r e = rw e at r.named

pub worded_with : {σ τ : ℕ → ℕ} (f : Label) (a : ℕ) → σ ≡ τ → Worded σ f a → Worded τ f a
worded_with f a e w = rw e at w

-- readings
module _ {ts : List ℕ} {terms : Terms} {o : ℕ} {s : State} where
  pub nothing : o ≤ terms.limit → Reading ts terms (whole empty) o s [] [] s
  unfolding walk depth Named
  nothing h = record { tree = none; reads = Reads.nothing; fits = omega arith; named = tt; rows = refl; holds = refl; same = refl; rooms = rooms_same; kept = refl }

  -- two parts that each leave handles in their first part alone
  pub both : {p q : Form} {xs ys : List Handle} {s₁ s' : State} → Reading ts terms (whole p) o s xs [] s₁ → Reading ts terms (whole q) o s₁ ys [] s' → Reading ts terms (whole (part p q)) o s xs ys s'
  unfolding walk depth Named
  both {xs = xs} {ys = ys} r q =
      record {
        tree = more r.tree q.tree;
        reads = Reads.both r.reads q.reads;
        fits = omega arith;
        named = (r.named, named_with q r.kept);
        rows = rw (r.rows, with_names q r.kept, append-nil xs, append-nil ys);
        holds = q.holds ∙ r.holds;
        same = q.same ∙ r.same;
        rooms = rooms_on r.rooms q.rooms;
        kept = q.kept ∙ r.kept;
      }

  -- and where the second has two parts
  pub both_more : {p q : Form} {xs ys zs : List Handle} {s₁ s' : State} → Reading ts terms (whole p) o s xs [] s₁ → Reading ts terms (whole q) o s₁ ys zs s' →
      Reading ts terms (whole (part p q)) o s xs (ys ++ zs) s'
  unfolding walk depth Named
  both_more {xs = xs} r q =
      record {
        tree = more r.tree q.tree;
        reads = Reads.both r.reads q.reads;
        fits = omega arith;
        named = (r.named, named_with q r.kept);
        rows = rw (r.rows, with_names q r.kept, append-nil xs);
        holds = q.holds ∙
            r.holds;
        same = q.same ∙ r.same;
        rooms = rooms_on r.rooms q.rooms;
        kept = q.kept ∙ r.kept;
      }

  -- and where the first has
  pub both_first : {p q : Form} {xs ys zs : List Handle} {s₁ s' : State} → Reading ts terms (whole p) o s xs ys s₁ → Reading ts terms (whole q) o s₁ zs [] s' →
      Reading ts terms (whole (part p q)) o s (xs ++ ys) zs s'
  unfolding walk depth Named
  both_first {zs = zs} r q =
      record {
        tree = more r.tree q.tree;
        reads = Reads.both r.reads q.reads;
        fits = omega arith;
        named = (r.named, named_with q r.kept);
        rows = rw (r.rows, with_names q r.kept, append-nil zs);
        holds = q.holds ∙
            r.holds;
        same = q.same ∙ r.same;
        rooms = rooms_on r.rooms q.rooms;
        kept = q.kept ∙ r.kept;
      }

  module _ {xs ys : List Handle} {s' : State} where
    pub opened : {k : ℕ} {p : Form} → Reading ts terms (whole p) (o + 1) s xs ys s' → Reading ts terms (whole (nested k p)) o s xs ys s'
    unfolding walk depth Named
    opened r = record { tree = deeper r.tree; reads = Reads.opened r.reads; fits = omega arith; named = r.named; rows = r.rows; holds = r.holds; same = r.same; rooms = r.rooms; kept = r.kept }

    -- the same tree, as another aim
    read_as : {g g' : Aim Table Label} (r : Reading ts terms g o s xs ys s') → Reads (tables terms) (kind ts) g' s.cursor.at s'.cursor.at r.tree → Reading ts terms g' o s xs ys s'
    read_as r t = record { tree = r.tree; reads = t; fits = r.fits; named = r.named; rows = r.rows; holds = r.holds; same = r.same; rooms = r.rooms; kept = r.kept }

    pub chosen : {n : Table} {p : Form} → tables terms n (kind ts s.cursor.at) ≡ p → Reading ts terms (whole p) o s xs ys s' → Reading ts terms (whole (choice n)) o s xs ys s'
    chosen e r = read_as r (Reads.chosen e r.reads)

    pub first : {n : Table} {p : Form} → Reading ts terms (whole p) o s xs ys s' → Reading ts terms (begun p n) o s xs ys s'
    first r = read_as r (Reads.first r.reads)

    pub ended : {n : Table} {p : Form} → tables terms n (kind ts s'.cursor.at) ≡ empty → Reading ts terms (begun p n) o s xs ys s' → Reading ts terms (whole (chain p n)) o s xs ys s'
    ended e r = read_as r (Reads.ended r.reads e)

    pub alone : {n : Table} {p : Form} → tables terms n (kind ts s'.cursor.at) ≡ empty → Reading ts terms (whole p) o s xs ys s' → Reading ts terms (whole (once p n)) o s xs ys s'
    alone e r = read_as r (Reads.alone r.reads e)

    -- a node of what is read
    pub labelled : {f : Label} {p : Form} {hs : List Handle} {s₂ : State} → Reading ts terms (whole p) o s xs ys s' → Made ts f s.cursor.at s' xs ys hs s₂ →
        Reading ts terms (whole (node f p)) o s hs [] s₂
    unfolding walk depth Named
    labelled {f} r m =
        record {
          tree = made f s.cursor.at s'.cursor.at r.tree;
          reads = rw m.at (Reads.labelled r.reads);
          fits = r.fits;
          named = (r.named, worded_with f s.cursor.at r.kept m.word);
          rows = rw (r.rows, ← r.kept) m.makes;
          holds = m.holds ∙ r.holds;
          same = m.same ∙ r.same;
          rooms = rooms_on r.rooms m.rooms;
          kept = m.kept ∙ r.kept;
        }

  -- a link after what stands, and one link at most
  module _ {t : Table} {f : Label} {p q : Form} {xs ys hs : List Handle} {s₀ s₁ s₂ : State} where
    unfoldable pub linked : Reading ts terms (begun p t) o s xs [] s₀ → tables terms t (kind ts s₀.cursor.at) ≡ node f q → Reading ts terms (whole q) o s₀ ys [] s₁ →
        Made ts f s₀.cursor.at s₁ xs ys hs s₂ → Reading ts terms (begun p t) o s hs [] s₂
    unfolding walk depth Named
    linked b g r m =
        record {
          tree = made f s₀.cursor.at s₁.cursor.at (more b.tree r.tree);
          reads = rw m.at (Reads.link b.reads g r.reads);
          fits = omega arith;
          named = ((b.named, named_with r b.kept), worded_with f s₀.cursor.at (r.kept ∙ b.kept) m.word);
          rows = rw (b.rows, with_names r b.kept, ← b.kept, ← r.kept, append-nil xs, append-nil ys) m.makes;
          holds = m.holds ∙ r.holds ∙ b.holds;
          same = m.same ∙ r.same ∙
              b.same;
          rooms = rooms_on (rooms_on b.rooms r.rooms) m.rooms;
          kept = m.kept ∙ r.kept ∙ b.kept;
        }

    pub joined : Reading ts terms (whole p) o s xs [] s₀ → tables terms t (kind ts s₀.cursor.at) ≡ node f q → Reading ts terms (whole q) o s₀ ys [] s₁ →
        Made ts f s₀.cursor.at s₁ xs ys hs s₂ → Reading ts terms (whole (once p t)) o s hs [] s₂
    unfolding walk depth Named
    joined b g r m =
        record {
          tree = made f s₀.cursor.at s₁.cursor.at (more b.tree r.tree);
          reads = rw m.at (Reads.joined b.reads g r.reads);
          fits = omega arith;
          named = ((b.named, named_with r b.kept), worded_with f s₀.cursor.at (r.kept ∙ b.kept) m.word);
          rows = rw (b.rows, with_names r b.kept, ← b.kept, ← r.kept, append-nil xs, append-nil ys) m.makes;
          holds = m.holds ∙ r.holds ∙ b.holds;
          same = m.same ∙ r.same ∙
              b.same;
          rooms = rooms_on (rooms_on b.rooms r.rooms) m.rooms;
          kept = m.kept ∙ r.kept ∙ b.kept;
        }

-- what is read passes: its rows fit, since they stand in the rooms
pub same_space : {s s' : State} → Rooms s s' → space s' ≡ space s
same_space a = rw (a.nodes, a.links)

module _ {ts : List ℕ} {terms : Terms} {o : ℕ} {s s' : State} {xs ys : List Handle} where
  rows_then : {g : Aim Table Label} (r : Reading ts terms g o s xs ys s') → then ts (names_of ts s.scratch) r.tree (written s) ≡ written s'
  rows_then r = ap (λ w. w.rows) r.rows

  pub pass : {g : Aim Table Label} (r : Reading ts terms g o s xs ys s') → Passes ts (names_of ts s.scratch) terms.limit (space s) (tables terms) (kind ts) g o s.cursor.at (written s) s'.cursor.at r.tree
  pass r =
      record {
        reads = r.reads;
        deep = r.fits;
        named = r.named;
        fits = rw (rows_then r)
            (record {
              nodes = omega (arith, length-take (node_width * s'.cursor.nodes) s'.nodes, r.rooms.nodes);
              links = omega (arith, length-take (link_width * s'.cursor.links) s'.links, r.rooms.links);
            });
      }

  -- a refusal after it, of the rows once it is read
  pub onto : {g : Aim Table Label} {p : Form} {q : Refused} (r : Reading ts terms g o s xs ys s') → Refusing ts terms p o s' q →
      Refuses ts (names_of ts s.scratch) terms.limit (space s) (tables terms) (kind ts) p o s'.cursor.at (then ts (names_of ts s.scratch) r.tree (written s)) q
  onto r h = rw (rows_then r, ← same_space r.rooms, ← r.kept) h.refuses

-- a second reading passes after the rows of the first
pass_on : {ts : List ℕ} {terms : Terms} {o : ℕ} {g h : Aim Table Label} {s s₀ s₁ : State} {xs ys zs vs : List Handle} (b : Reading ts terms g o s xs ys s₀) (r : Reading ts terms h o s₀ zs vs s₁) →
    Passes ts (names_of ts s.scratch) terms.limit (space s) (tables terms) (kind ts) h o s₀.cursor.at (then ts (names_of ts s.scratch) b.tree (written s)) s₁.cursor.at r.tree
pass_on b r = rw (rows_then b, ← same_space b.rooms, ← b.kept) (pass r)

-- what a node adds to what is read, and a link
module _ {ts : List ℕ} {terms : Terms} {o : ℕ} {s s₁ : State} (f : Label) (a b : ℕ) {xs ys : List Handle} where
  node_then : {g : Aim Table Label} (r : Reading ts terms g o s xs ys s₁) →
      then ts (names_of ts s.scratch) (made f a b r.tree) (written s) ≡ (make ts (names_of ts s₁.scratch) f a b (written s₁) xs ys).rows
  unfolding walk
  node_then r = rw r.kept (ap (λ z. (make ts (names_of ts s.scratch) f a b z.rows z.first z.rest).rows) r.rows)

  link_then : {g h : Aim Table Label} {s₀ : State} (z : Reading ts terms g o s xs [] s₀) (r : Reading ts terms h o s₀ ys [] s₁) →
      then ts (names_of ts s.scratch) (made f a b (more z.tree r.tree)) (written s) ≡ (make ts (names_of ts s₁.scratch) f a b (written s₁) xs ys).rows
  unfolding walk
  link_then z r =
      let e : walk ts (names_of ts s.scratch) (made f a b (more z.tree r.tree)) (written s) ≡ make ts (names_of ts s.scratch) f a b (written s₁) xs ys = rw
      (z.rows, with_names r z.kept, append-nil xs, append-nil ys) in
      rw (r.kept, z.kept) (ap (λ w. w.rows) e)

pub lacks_as : {σ τ : ℕ → ℕ} {z z' : Space} {f : Label} {a b b' c : ℕ} {w w' : Rows} → τ ≡ σ → z' ≡ z → b' ≡ b → w ≡ w' → Lacks τ z' f a b' w' c → Lacks σ z f a b w c
lacks_as n d i e l = rw (e, ← d, ← n, ← i) l

-- a node of what is read, a link after what stands, and one link at most, whose rows do not fit
module _ {ts : List ℕ} {terms : Terms} {o c : ℕ} {s : State} {f : Label} {p : Form} {xs ys : List Handle} {s₁ : State} where
  pub full : Reading ts terms (whole p) o s xs ys s₁ → Unmade ts f s.cursor.at s₁ xs ys c → Refusing ts terms (node f p) o s (refused 4 c 255)
  full r l = record { refuses = Refuses.no_room (pass r) (lacks_as r.kept (same_space r.rooms) refl (node_then f _ _ r) l.lacks) }

  module _ {t : Table} {q : Form} {s₀ : State} where
    pub full_linked : Reading ts terms (begun p t) o s xs [] s₀ → tables terms t (kind ts s₀.cursor.at) ≡ node f q → Reading ts terms (whole q) o s₀ ys [] s₁ →
        Unmade ts f s₀.cursor.at s₁ xs ys c → Refusing ts terms (chain p t) o s (refused 4 c 255)
    full_linked z g r l =
        record { refuses = Refuses.no_room_linked (pass z) g (pass_on z r) (lacks_as (r.kept ∙ z.kept) (same_space (rooms_on z.rooms r.rooms)) refl (link_then f _ _ z r) l.lacks) }

    pub full_joined : Reading ts terms (whole p) o s xs [] s₀ → tables terms t (kind ts s₀.cursor.at) ≡ node f q → Reading ts terms (whole q) o s₀ ys [] s₁ →
        Unmade ts f s₀.cursor.at s₁ xs ys c → Refusing ts terms (once p t) o s (refused 4 c 255)
    full_joined z g r l =
        record { refuses = Refuses.no_room_joined (pass z) g (pass_on z r) (lacks_as (r.kept ∙ z.kept) (same_space (rooms_on z.rooms r.rooms)) refl (link_then f _ _ z r) l.lacks) }

-- a token: the state after it, then the rest
pub taken : {ts ns ls ss : List ℕ} {terms : Terms} {o x : ℕ} {c : Cursor} {p : Form} {hs gs : List Handle} {s' : State} → kind ts c.at ≡ x →
    Reading ts terms (whole p) o (state ns ls ss (next c)) hs gs s' → Reading ts terms (whole (token x p)) o (state ns ls ss c) hs gs s'
taken k r =
    record {
      tree = r.tree;
      reads = Reads.taken k r.reads;
      fits = r.fits;
      named = r.named;
      rows = r.rows;
      holds = r.holds;
      same = r.same;
      rooms = record { nodes = r.rooms.nodes; links = r.rooms.links; scratch = r.rooms.scratch; stands = r.rooms.stands };
      kept = r.kept;
    }

-- what was read, and a token after it
pub closed : {ts ns ls ss : List ℕ} {terms : Terms} {o x : ℕ} {p : Form} {s : State} {hs : List Handle} {c : Cursor} → Reading ts terms (whole p) o s hs [] (state ns ls ss c) → o ≤ terms.limit →
    kind ts c.at ≡ x → Reading ts terms (whole (part p (token x empty))) o s hs [] (state ns ls ss (next c))
closed z h k = both z (taken k (nothing h))

-- past a token that is not Eof there is another
pub more_tokens : {ts : List ℕ} {a x : ℕ} → Lent ts → a < count ts → kind ts a ≡ x → (x ≡ Eof → ⊥) → a + 1 < count ts
more_tokens {ts = ts} {a = a} l h k n = omega (arith, apart)
  where
    apart : a + 1 ≡ count ts → ⊥
    apart e = n (sym k ∙ (l.closed a h).last e)

-- what the next reader is asked
module _ {ts : List ℕ} {terms : Terms} {o : ℕ} where
  pub ready_next : {ns ls ss : List ℕ} {c : Cursor} {x : ℕ} → Ready ts terms o (state ns ls ss c) → kind ts c.at ≡ x → (x ≡ Eof → ⊥) → Ready ts terms o (state ns ls ss (next c))
  ready_next r k n =
      let w = r.within in record {
        lent = r.lent;
        deep = r.deep;
        within = record {
          roomy = record { scratch = w.roomy.scratch };
          stands = w.stands;
          at = more_tokens r.lent w.at k n;
          rows = omega (arith, w.rows);
          links = omega (arith, w.links);
          stack = omega (arith, w.stack);
        };
      }

  -- past a token there is room for one item more
  pub opened_next : {ns ls ss : List ℕ} {c : Cursor} {x : ℕ} → Ready ts terms o (state ns ls ss c) → kind ts c.at ≡ x → (x ≡ Eof → ⊥) → Opened ts terms o (state ns ls ss (next c))
  opened_next r k n = record { ready = ready_next r k n; spare = omega (arith, r.within.stack) }

  pub ready_deep : {s : State} → Ready ts terms o s → o < terms.limit → Ready ts terms (o + 1) s
  ready_deep r h = record { lent = r.lent; deep = omega arith; within = r.within }

  pub opened_deep : {s : State} → Opened ts terms o s → o < terms.limit → Opened ts terms (o + 1) s
  opened_deep r h = record { ready = ready_deep r.ready h; spare = r.spare }

  pub ready_on : {s s' : State} → Ready ts terms o s → Within ts s' → Ready ts terms o s'
  ready_on r w = record { lent = r.lent; deep = r.deep; within = w }
