-- A list is read: its items are held on the scratch stack, and become links with their node's row.
use Prim.Native.Nat.{ℕ, ◌+◌, ◌*◌, ◌-◌, ◌≤◌, ◌<◌}
use native.Mathlib.Omega.{arith}
use mathlib.Core.List.{List, [], ◌∷◌, ◌++◌, append-nil, append_assoc}
use mathlib.Core.Path.{◌≡◌, refl, sym, ◌∙◌, ap}
use lib.ListN.{length, take, drop, length-append}
use lib.Seq.{take-take, drop_at, drop-drop, length-take-le}
use Rattle.ast.proofs.Rooms.{below, stretch}
use Rattle.ast.specs.Written.{Written}
use Rattle.ast.specs.declared.Node.{Node}
use Rattle.grammar.specs.Edition.{edition}
use Rattle.grammar.specs.Handle.{Handle, absent, row, link, block_tail}
use Rattle.grammar.specs.Kaori.{Form, Table, block_items}
use Rattle.grammar.specs.Label.{Label}
use Rattle.grammar.specs.Phrase.{empty, token, part, node, choice, chain, Aim, whole, begun, Reads}
use Rattle.grammar.specs.Refusal.{Refused}
use Rattle.grammar.specs.Rows.{links_of, make}
use Rattle.grammar.specs.Space.{has_word}
use Rattle.grammar.specs.Token.{kind, count}
use Rattle.grammar.proofs.Halves.{Lists as List-table, items, half}
use Rattle.names.proofs.Readers.{names_kept}
use Rattle.reading.specs.Answers.{next, blank, holding, AnswerCase, Answered, Listed, ListCase, Lists}
use Rattle.reading.specs.Reading.{tables, form, refusal, Reading, Success, Refusing}
use Rattle.reading.specs.State.{State, state, held, Lent, Within, Ready, Opened, Rooms}
use Rattle.reading.specs.declared.Cursor.{Cursor}
use Rattle.reading.specs.declared.Read.{Read}
use Rattle.reading.specs.declared.Refusal.{Refusal}
use Rattle.reading.specs.declared.Terms.{Terms}
use Rattle.reading.proofs.Bound.{Paid, paid_link, paid_inside, bound, strictly}
use Rattle.reading.proofs.Laws.{nothing, both, chosen, first, ended, linked, taken, rooms_same, rooms_on, plain, Made, unwritten}
use Rattle.reading.proofs.Refusals.{lowered as low}
use Rattle.reading.proofs.Replies.{further}

-- the state s₁ with no more held than at s, and the cursor with one row more held
abbrev pub lowered : State → State → State
lowered s s₁ = holding s.cursor.held s₁

abbrev pub pushed : Cursor → Cursor
pushed c = record { at = c.at; nodes = c.nodes; links = c.links; held = c.held + 1 }

-- what a row on the stack leaves as it was
rest_kept : (ts : List ℕ) (n : ℕ) {row ss ss' : List ℕ} → Written (3 * n) (3 * (n + 1)) row ss ss' → 3 * (n + 1) ≤ 2 * count ts → drop (2 * count ts) ss' ≡ drop (2 * count ts) ss
rest_kept ts n {ss = ss} {ss' = ss'} w h =
    let f : 3 * (n + 1) + (2 * count ts - 3 * (n + 1)) ≡ 2 * count ts = omega arith in
    let k = 2 * count ts - 3 * (n + 1) in
    rw f at (sym (drop-drop k (3 * (n + 1)) ss') ∙ ap (drop k) w.rest ∙ drop-drop k (3 * (n + 1)) ss)

-- lists that agree up to n agree up to m
pub agree : (m n : ℕ) (l k : List ℕ) → m ≤ n → take n l ≡ take n k → take m l ≡ take m k
agree m n l k h e = sym (take-take m n l h) ∙ ap (take m) e ∙ take-take m n k h

-- a reading does not touch what is held below
pub lower : {ts : List ℕ} {terms : Terms} {o : ℕ} {g : Aim Table Label} {s s' : State} {xs ys : List Handle} (k : ℕ) → k ≤ s.cursor.held → Reading ts terms g o s xs ys s' →
    Reading ts terms g o (holding k s) xs ys (holding k s')
lower {s = s} {s' = s'} k h r =
    record {
      tree = r.tree;
      reads = r.reads;
      fits = r.fits;
      named = r.named;
      rows = r.rows;
      holds = refl;
      same = agree (3 * k) (3 * s.cursor.held) s'.scratch s.scratch (omega arith) (ap (λ n. take (3 * n) s'.scratch) (sym r.holds) ∙ r.same);
      rooms = record { nodes = r.rooms.nodes; links = r.rooms.links; scratch = r.rooms.scratch; stands = r.rooms.stands };
      kept = r.kept;
    }

pub links_append : (xs ys : List Handle) → links_of (xs ++ ys) ≡ links_of xs ++ links_of ys
unfolding links_of
links_append [] ys = refl
links_append (x ∷ xs) ys = rw (links_append xs ys, append_assoc (link x) (links_of xs) (links_of ys))

-- what is held for a list: nothing, or one item
module _ {ts : List ℕ} {terms : Terms} {g : Aim Table Label} {o : ℕ} {s : State} where
  pub listed_none : Within ts s → Reading ts terms g o s [] [] s → Listed ts terms g o s s
  unfolding links_of
  listed_none w r = record { items = []; reading = r; count = omega arith; rows = rw append-nil; within = w; past = omega arith }

  pub listed_one : {h : Handle} {ns ls ss ss' row : List ℕ} {c : Cursor} → Within ts s → Paid (form g) → Success ts terms g o s (h ∷ []) (state ns ls ss c) →
      Written (3 * c.held) (3 * (c.held + 1)) row ss ss' → row ≡ link h → 2 * (c.held + 1) ≤ c.at + 1 → Listed ts terms g o s (state ns ls ss' (pushed c))
  unfolding links_of
  listed_one {h = h} {ss = ss} {ss' = ss'} {c = c} i p z w f low =
      let r = z.reading in
      let v = z.within in
      let b = bound i p v.at r in
      let room : 3 * c.held ≤ length ss = omega (arith, v.links, v.at, v.roomy.scratch) in
      let under : take (3 * c.held) ss' ≡ held s = below (3 * c.held) (omega arith) (omega arith) room w ∙ r.same in
      record {
        items = h ∷ [];
        reading =
            record {
              tree = r.tree;
              reads = r.reads;
              fits = r.fits;
              named = r.named;
              rows = r.rows;
              holds = refl;
              same = ap (λ n. take (3 * n) ss') (sym r.holds) ∙ under;
              rooms = record { nodes = r.rooms.nodes; links = r.rooms.links; scratch = w.size ∙ r.rooms.scratch; stands = r.rooms.stands };
              kept = names_kept ts ss ss' (rest_kept ts c.held w (omega (arith, low, v.at))) ∙ r.kept;
            };
        count = omega (arith, r.holds);
        rows = w.rows ∙ rw (f, r.same, append-nil (link h));
        within =
            record {
              roomy = record { scratch = omega (arith, w.size, v.roomy.scratch) };
              stands = v.stands;
              at = v.at;
              rows = v.rows;
              links = omega (arith, i.links, b.links, r.holds);
              stack = low;
            };
        past = z.past;
      }

  pub listed_rooms : {s₁ : State} → Listed ts terms g o s s₁ → Rooms s s₁
  listed_rooms l = let r = l.reading.rooms in record { nodes = r.nodes; links = r.links; scratch = r.scratch; stands = r.stands }

-- the same items, as the whole says
module _ {ts : List ℕ} {terms : Terms} {o : ℕ} where
  module _ {s s₁ : State} where
    relisted : {g g' : Aim Table Label} (l : Listed ts terms g o s s₁) → Reading ts terms g' o s l.items [] (lowered s s₁) → Listed ts terms g' o s s₁
    relisted l r = record { items = l.items; reading = r; count = l.count; rows = l.rows; within = l.within; past = l.past }

    pub listed_chosen : {n : Table} {p : Form} → tables terms n (kind ts s.cursor.at) ≡ p → Listed ts terms (whole p) o s s₁ → Listed ts terms (whole (choice n)) o s s₁
    listed_chosen e l = relisted l (chosen e l.reading)

    pub listed_first : {n : Table} {p : Form} → Listed ts terms (whole p) o s s₁ → Listed ts terms (begun p n) o s s₁
    listed_first l = relisted l (first l.reading)

    pub listed_ended : {n : Table} {p : Form} → tables terms n (kind ts s₁.cursor.at) ≡ empty → Listed ts terms (begun p n) o s s₁ → Listed ts terms (whole (chain p n)) o s s₁
    listed_ended e l = relisted l (ended e l.reading)

  pub listed_taken : {ns ls ss : List ℕ} {x : ℕ} {c : Cursor} {p : Form} {s₁ : State} → kind ts c.at ≡ x → Listed ts terms (whole p) o (state ns ls ss (next c)) s₁ →
      Listed ts terms (whole (token x p)) o (state ns ls ss c) s₁
  listed_taken k l = record { items = l.items; reading = taken k l.reading; count = l.count; rows = l.rows; within = l.within; past = omega (arith, l.past) }

  -- where a cursor is said otherwise, as after a token
  pub listed_from : {g : Aim Table Label} {ns ls ss : List ℕ} {c d : Cursor} {s₁ : State} → d ≡ c → Listed ts terms g o (state ns ls ss d) s₁ → Listed ts terms g o (state ns ls ss c) s₁
  listed_from e l = rw e at l

  -- a link of a list: its items come after those that are held
  pub listing_join : {t : Table} {p q : Form} {s s₁ s₂ : State} → Listed ts terms (begun p t) o s s₁ → tables terms t (kind ts s₁.cursor.at) ≡ node Label.Item q →
      Listed ts terms (whole q) o s₁ s₂ → Listed ts terms (begun p t) o s s₂
  unfolding make has_word
  listing_join {s = s} {s₁ = s₁} {s₂ = s₂} l e z =
      let base = s.cursor.held in
      let m : Made ts Label.Item s₁.cursor.at (holding base s₂) l.items z.items (l.items ++ z.items) (holding base s₂) = unwritten (λ h z. plain refl h) refl in
      record {
        items = l.items ++ z.items;
        reading = linked l.reading e (lower base (omega (arith, l.count)) z.reading) m;
        count = omega (arith, l.count, z.count, length-append l.items z.items);
        rows = z.rows ∙ rw (l.rows, links_append l.items z.items) (append_assoc (held s) (links_of l.items) (links_of z.items));
        within = z.within;
        past = omega (arith, l.past, z.past);
      }

-- what a loop over a list that starts where its list does keeps: what is read since s, and held for it at s₁; and the opener has paid for one item more
pub record Listing (ts : List ℕ) (terms : Terms) (t : Table) (o : ℕ) (s s₁ : State) : Type 0 where
  pub listed : Listed ts terms (begun empty t) o s s₁
  pub few : length listed.items ≤ items listed.reading.tree
  pub list : List-table (edition terms.edition) t
  pub start : 2 * s.cursor.held ≤ s.cursor.at

module _ {ts : List ℕ} {terms : Terms} {o : ℕ} {t : Table} {s : State} where
  pub listing_none : List-table (edition terms.edition) t → Opened ts terms o s → Listing ts terms t o s s
  unfolding listed_none
  listing_none l r = record { listed = listed_none r.ready.within (first (nothing r.ready.deep)); few = omega arith; list = l; start = r.spare }

  -- one item more: there is room for it below the symbols
  pub item_room : {s₁ s₂ : State} {q : Form} {h : Handle} → Listing ts terms t o s s₁ → tables terms t (kind ts s₁.cursor.at) ≡ node Label.Item q → Success ts terms (whole q) o s₁ (h ∷ []) s₂ →
      2 * (s₂.cursor.held + 1) ≤ s₂.cursor.at + 1
  unfolding items
  item_room l e z =
      let r = l.listed.reading in
      let b = (half _ l.list (Reads.link r.reads e z.reading.reads)).few in
      omega (arith, l.few, l.start, l.listed.count, z.reading.holds, b)

  pub listing_more : {s₁ : State} {q : Form} {h : Handle} {ns ls ss ss' row : List ℕ} {c : Cursor} → Listing ts terms t o s s₁ → tables terms t (kind ts s₁.cursor.at) ≡ node Label.Item q →
      Success ts terms (whole q) o s₁ (h ∷ []) (state ns ls ss c) →
      Written (3 * c.held) (3 * (c.held + 1)) row ss ss' → row ≡ link h → Listing ts terms t o s (state ns ls ss' (pushed c))
  unfolding listing_join listed_one linked items
  listing_more {s₁} {h = h} l e z w f =
      record {
        listed = listing_join l.listed e (listed_one l.listed.within (paid_inside (paid_link _ t (kind ts s₁.cursor.at) e)) z w f (item_room l e z));
        few = omega (arith, l.few, length-append l.listed.items (h ∷ []));
        list = l.list;
        start = l.start;
      }

  module _ {s₁ : State} (l : Listing ts terms t o s s₁) where
    pub more_items : {q : Form} {h : Handle} {ns ls ss ss' row : List ℕ} {c : Cursor} (e : tables terms t (kind ts s₁.cursor.at) ≡ node Label.Item q)
        (z : Success ts terms (whole q) o s₁ (h ∷ []) (state ns ls ss c))
        (w : Written (3 * c.held) (3 * (c.held + 1)) row ss ss') (f : row ≡ link h) → (listing_more l e z w f).listed.items ≡ l.listed.items ++ (h ∷ [])
    unfolding listing_more listing_join listed_one
    more_items e z w f = refl

    -- the list is whole
    pub listing_end : tables terms t (kind ts s₁.cursor.at) ≡ empty → Listed ts terms (whole (chain empty t)) o s s₁
    listing_end e = listed_ended e l.listed

pub none_items : {ts : List ℕ} {terms : Terms} {o : ℕ} {s : State} {t : Table} (k : List-table (edition terms.edition) t) (r : Opened ts terms o s) → (listing_none k r).listed.items ≡ []
unfolding listing_none listed_none
none_items k r = refl

-- what a loop over a list keeps that starts after the list's first part: whatever is held for it at s₀, more is at s₁
pub record Longer (ts : List ℕ) (terms : Terms) (p : Form) (t : Table) (o : ℕ) (s₀ s₁ : State) : Type 0 where
  pub grown : (s : State) → Listed ts terms (begun p t) o s s₀ → Listed ts terms (begun p t) o s s₁
  pub within : Within ts s₁
  pub rooms : Rooms s₀ s₁

module _ {ts : List ℕ} {terms : Terms} {o : ℕ} {p : Form} {t : Table} {s₀ : State} where
  pub longer_none : Within ts s₀ → Longer ts terms p t o s₀ s₀
  longer_none w = record { grown = λ s l. l; within = w; rooms = rooms_same }

  pub longer_on : {q : Form} {s₁ s₂ : State} → Longer ts terms p t o s₀ s₁ → tables terms t (kind ts s₁.cursor.at) ≡ node Label.Item q → Listed ts terms (whole q) o s₁ s₂ → Longer ts terms p t o s₀ s₂
  longer_on a e z = record { grown = λ s l. listing_join (a.grown s l) e z; within = z.within; rooms = rooms_on a.rooms (listed_rooms z) }

-- answers that are lists
module _ {ts : List ℕ} {terms : Terms} {g : Aim Table Label} {o : ℕ} {s : State} {ns ls ss : List ℕ} where
  pub lists : {c : Cursor} → Listed ts terms g o s (state ns ls ss c) → Lists ts terms g o s ns ls ss (Read.Node blank c)
  unfolding ListCase
  lists l = record { says = (refl, l) }

  -- what was learnt of a list, named by the answer that it is read from
  abbrev pub Held : {r : Read} → Lists ts terms g o s ns ls ss r → Cursor → Type 0
  Held a c = Listed ts terms g o s (state ns ls ss c)

  module _ {g' : Aim Table Label} {o' : ℕ} {s' : State} where
    -- a refusal of an item, and of a list
    pub lists_passed : {h : Node → Handle} {r : Read} {q : Refusal} → r ≡ Read.Refused q → Answered ts terms h g' o' s' ns ls ss r →
        ((x : Refused) → Refusing ts terms (form g') o' s' x → Refusing ts terms (form g) o s x) → Lists ts terms g o s ns ls ss r
    unfolding AnswerCase ListCase
    lists_passed {q = q} e a up = rw e (record { says = up (refusal q) (rw e at a).says })

    pub lists_passed_list : {r : Read} {q : Refusal} → r ≡ Read.Refused q → Lists ts terms g' o' s' ns ls ss r →
        ((x : Refused) → Refusing ts terms (form g') o' s' x → Refusing ts terms (form g) o s x) → Lists ts terms g o s ns ls ss r
    unfolding ListCase
    lists_passed_list {q = q} e a up = rw e (record { says = up (refusal q) (rw e at a).says })

    -- an answer of a part that is an answer of the whole
    pub lists_mapped : (r : Read) → Lists ts terms g' o' s' ns ls ss r → ((s₁ : State) → Listed ts terms g' o' s' s₁ → Listed ts terms g o s s₁) →
        ((x : Refused) → Refusing ts terms (form g') o' s' x → Refusing ts terms (form g) o s x) → Lists ts terms g o s ns ls ss r
    unfolding ListCase
    lists_mapped (Read.Node n c) a f up = record { says = (a.says.0, f (state ns ls ss c) a.says.1) }
    lists_mapped (Read.Refused q) a f up = record { says = up (refusal q) a.says }

-- a choice that is nothing here
pub lists_nothing : {ts ns ls ss : List ℕ} {terms : Terms} {o : ℕ} {t : Table} {c : Cursor} → Ready ts terms o (state ns ls ss c) → tables terms t (kind ts c.at) ≡ empty →
    Lists ts terms (whole (choice t)) o (state ns ls ss c) ns ls ss (Read.Node blank c)
lists_nothing r e = lists (listed_chosen e (listed_none r.within (nothing r.deep)))

-- a turn of a loop over a list, where its table has an item: the item is refused, or it is read and held
abbrev pub ItemOf : {ts : List ℕ} {terms : Terms} {o : ℕ} {t : Table} {s s₁ : State} → Listing ts terms t o s s₁ → Form → Type 0
ItemOf {ts} {terms} {t = t} {s₁ = s₁} l q = tables terms t (kind ts s₁.cursor.at) ≡ node Label.Item q

module _ {ts : List ℕ} {terms : Terms} {o : ℕ} {t : Table} {s s₁ : State} {q : Form} (l : Listing ts terms t o s s₁) (e : tables terms t (kind ts s₁.cursor.at) ≡ node Label.Item q) where
  pub item_refused : {h : Node → Handle} {ns ls ss : List ℕ} {r : Read} {x : Refusal} → r ≡ Read.Refused x → Answered ts terms h (whole q) o s₁ ns ls ss r →
      Lists ts terms (whole (chain empty t)) o s ns ls ss r
  item_refused i a = lists_passed i a (λ x h. further l.listed.reading e (low h))

  -- fewer tokens are left
  pub item_less : {h : Handle} {s₂ : State} → Success ts terms (whole q) o s₁ (h ∷ []) s₂ → count ts - s₂.cursor.at < count ts - s₁.cursor.at
  item_less z = omega (arith, z.within.at, strictly l.listed.within (paid_inside (paid_link _ t (kind ts s₁.cursor.at) e)) z.within.at z.reading)

-- there is room to hold one more, and its number fits
module _ {ts ns ls ss : List ℕ} {c : Cursor} (w : Within ts (state ns ls ss c)) where
  pub hold_room : 3 * (c.held + 1) ≤ length ss
  hold_room = omega (arith, w.links, w.at, w.roomy.scratch)

  pub hold_number : Lent ts → c.held < absent
  hold_number l = omega (arith, w.links, w.at, l.whole.most)

-- the rows that are held above the first, as `gather` copies them; and those that are held since s
pub held_above : (base n : ℕ) (ss below : List ℕ) {xs : List ℕ} → base ≤ n → 3 * n ≤ length ss → length below ≡ 3 * base → take (3 * n) ss ≡ below ++ xs →
    take (3 * (n - base)) (drop (3 * base) ss) ≡ xs
held_above base n ss below {xs} h i l e =
    let k : 3 * base + 3 * (n - base) ≡ 3 * n = omega arith in
    stretch (3 * base) (3 * (n - base)) ss (omega arith) ∙ ap (λ m. drop (3 * base) (take m ss)) k ∙ ap (drop (3 * base)) e ∙ drop_at below xs (3 * base) l

pub size_held : {ts : List ℕ} {base : ℕ} {s : State} → Within ts s → s.cursor.held ≡ base → length (held s) ≡ 3 * base
size_held {s = s} w h = length-take-le (3 * s.cursor.held) s.scratch (omega (arith, w.links, w.at, w.roomy.scratch)) ∙ ap (λ k. 3 * k) h

pub held_since : {ts : List ℕ} {s s₁ : State} {xs : List ℕ} → Within ts s → Within ts s₁ → s.cursor.held ≤ s₁.cursor.held → held s₁ ≡ held s ++ xs →
    take (3 * (s₁.cursor.held - s.cursor.held)) (drop (3 * s.cursor.held) s₁.scratch) ≡ xs
held_since {s = s} {s₁ = s₁} w v h e = held_above s.cursor.held s₁.cursor.held s₁.scratch (held s) h (omega (arith, v.links, v.at, v.roomy.scratch)) (size_held w refl) e

-- two lists, one held after the other
module _ {ts : List ℕ} {terms : Terms} {o : ℕ} {p q : Form} {s s₁ s₂ : State} (l : Listed ts terms (whole p) o s s₁) (m : Listed ts terms (whole q) o s₁ s₂) where
  pub listed_both : Reading ts terms (whole (part p q)) o s l.items m.items (lowered s s₂)
  listed_both = both l.reading (lower s.cursor.held (omega (arith, l.count)) m.reading)

  pub rows_both : held s₂ ≡ held s ++ (links_of l.items ++ links_of m.items)
  rows_both = m.rows ∙ rw l.rows (append_assoc (held s) (links_of l.items) (links_of m.items))

-- what the loop over a block's statements keeps: a list, and the row of the tail so far, or absent
pub record Statements (ts : List ℕ) (terms : Terms) (o : ℕ) (s s₁ : State) (tail : ℕ) : Type 0 where
  pub listing : Listing ts terms block_items o s s₁
  pub last : tail ≡ row (block_tail listing.listed.items)
