-- Everything that our reader writes of a script passes the check, and a walk from its root meets each row once.
use Prim.Native.Nat.{ℕ, zero, suc, ◌+◌, ◌-◌, ◌*◌, ◌/◌, ◌≤◌, ◌<◌}
use native.Mathlib.Omega.{arith}
use mathlib.Core.List.{List, [], ◌∷◌, ◌++◌}
use mathlib.Core.Logic.{inl, inr}
use mathlib.Core.Path.{◌≡◌, refl, sym, ap, subst, ◌∙◌}
use lib.Dec.{T}
use lib.ListN.{length, get_or, take, drop, replicate, length-append, length-replicate}
use lib.Seq.{take_at, drop_at}
use Rattle.grammar.specs.Answer.{Answer, rooms_filled, Answers}
use Rattle.grammar.specs.Builtin.{Builtins}
use Rattle.grammar.specs.Call.{Call}
use Rattle.grammar.specs.Door.{Whole as Right-tokens, Admitted}
use Rattle.grammar.specs.Edition.{Edition, edition}
use Rattle.grammar.specs.Handle.{absent}
use Rattle.grammar.specs.Kaori.{Script}
use Rattle.grammar.specs.Label.{Node, Label, number_of}
use Rattle.grammar.specs.Naming.{height, Rising, OneTree}
use Rattle.grammar.specs.Outcome.{Outcome, Comes}
use Rattle.grammar.specs.Parent.{parent, own, parented, written}
use Rattle.grammar.specs.Phrase.{Tree}
use Rattle.grammar.specs.Profile.{Profile, ReadsAll}
use Rattle.grammar.specs.Room.{Rooms, node_width, own_width, link_width, symbol_width}
use Rattle.grammar.specs.Rows.{Rows, lined, blank, unparented}
use Rattle.grammar.specs.Space.{space_of}
use Rattle.grammar.specs.Symbol.{symbol_rows, symbol}
use Rattle.grammar.specs.Token.{kind, count}
use Rattle.grammar.proofs.Calls.{accepted_rows}
use Rattle.grammar.proofs.Decoding.{Whole}
use Rattle.grammar.proofs.Demands.{turned_code, refused_place}
use Rattle.grammar.proofs.Forest.{later_self}
use Rattle.grammar.proofs.Parents.{parented_length, parented_own, parented_tenth, parented_height, parented_names}
use Rattle.grammar.proofs.Shapes.{table, both_fit, takes, shape, ok}
use Rattle.grammar.proofs.Sizes.{sub}
use Rattle.grammar.proofs.Symbols.{rows_grow, name_has_row, word_inside}
use Rattle.grammar.proofs.Tests.{as_true}
use Rattle.grammar.proofs.Trees.{all_whole}
use Rattle.grammar.proofs.Worded.{a_name}
use Rattle.foreign.specs.Check.{Item, items_of, link_count, Each, nil, cons, InRange, Before, Rooted, covered, Allowed, Zero, Checked, Given, Lends, used, scratch_cleared, Checks}
use Rattle.foreign.proofs.Each.{each_map}
use Rattle.foreign.proofs.Lawful.{Fine, Lawful}
use Rattle.foreign.proofs.Passing.{stood}
use Rattle.foreign.proofs.Suits.{suit, suits}
use Rattle.foreign.proofs.Walks.{Walked, walk_once}

-- a word's symbol is one of the list's
word_there : (names : Builtins) (text ts : List ℕ) → Right-tokens ts → (i : ℕ) → T (a_name (kind ts i)) → symbol names text ts i < length (symbol_rows names text ts (count ts)) / symbol_width
word_there names text ts h i t = let e = as_true (a_name (kind ts i)) t in omega (arith, name_has_row names text ts i e, rows_grow names text ts (suc i) (count ts) (word_inside ts h i e))

blank_lawful : (e : Edition) (s : ℕ) → Lawful e s blank
unfolding covered
blank_lawful e s = record { keeps = λ l i h. absurd (omega arith); cover = λ l. refl }

script_lawful : (e : Edition) (ts : List ℕ) (σ : ℕ → ℕ) (s : ℕ) → ((i : ℕ) → T (a_name (kind ts i)) → σ i < s) → {n : ℕ} {t : Tree Label} → Script e (kind ts) n t → Lawful e s (unparented ts σ t)
unfolding unparented ok shape takes both_fit sub table suit suits
script_lawful e ts σ s words x = (stood e ts σ s words x tt tt (record { nodes = refl; links = refl }) (blank_lawful e s)).lawful

-- names that rise are earlier ones
risen : {high low : ℕ} {xs : List ℕ} → Rising high low xs → Each (Before high) xs
risen Rising.done = nil
risen (Rising.skip r) = cons (inr refl) (risen r)
risen (Rising.next l h r) = cons (inl h) (risen r)

module _ (s m i : ℕ) where
  ranged : (x : Item) → Fine s m i x → InRange s m x
  ranged (Item.number l n) f = f
  ranged (Item.child x) f = tt
  ranged (Item.option x) f = tt
  ranged (Item.symbol x) f = f
  ranged (Item.list x c) f = f
  ranged (Item.unused x) f = tt

  allowed : i ≤ absent → (x : Item) → Fine s m i x → Allowed x
  allowed h (Item.number l n) f = tt
  allowed h (Item.child x) f = λ e. omega arith
  allowed h (Item.option x) f = tt
  allowed h (Item.symbol x) f = tt
  allowed h (Item.list x c) f = tt
  allowed h (Item.unused x) f = tt

  zeroed : (x : Item) → Fine s m i x → Zero x
  zeroed (Item.number l n) f = tt
  zeroed (Item.child x) f = tt
  zeroed (Item.option x) f = tt
  zeroed (Item.symbol x) f = tt
  zeroed (Item.list x c) f = tt
  zeroed (Item.unused x) f = f

-- with the parents put in
module _ (e : Edition) (w : Rows) (x : Whole w) where
  same_items : (i : ℕ) → i < height w → items_of e (parented w) i ≡ items_of e w i
  unfolding items_of
  same_items i h = rw (parented_own w x.nodes i h)

  same_covered : (n : ℕ) → n ≤ height w → covered e (parented w) n ≡ covered e w n
  unfolding covered
  same_covered zero h = refl
  same_covered (suc n) h = rw (same_covered n (omega arith), same_items n h)

same_parent : (w : Rows) → Whole w → (j n : ℕ) → n ≤ height w → parent (parented w) n j ≡ parent w n j
unfolding parent
same_parent w x j zero h = refl
same_parent w x j (suc n) h = rw (parented_names w x.nodes n h, same_parent w x j n (omega arith))

parented_checked : (e : Edition) (s : ℕ) (w : Rows) → Whole w → Lawful e s w → OneTree (parented w) → Rooted (parented w) → height w ≤ absent → Checked e s (parented w)
parented_checked e s w x f tree root few =
    let tall = parented_height w x.nodes in
    let keeps = f.keeps (later_self w) in
    let low : (i : ℕ) → i < height (parented w) → i < height w = λ i h. rw tall at h in
    record {
      kinds = λ i h. record { least = rw (parented_own w x.nodes i (low i h)) (keeps i (low i h)).kind.least; most = rw (parented_own w x.nodes i (low i h)) (keeps i (low i h)).kind.most };
      ranges = λ i h. rw (same_items e w x i (low i h)) (each_map (ranged s (link_count w) i) (keeps i (low i h)).fine);
      earlier = λ i h. risen (tree.rising i h);
      once = λ i h. tree.once i (omega arith);
      rooted = root;
      follows = λ i h. rw (same_covered e w x i (omega (arith, low i h)), same_items e w x i (low i h)) (keeps i (low i h)).follows;
      covering = rw tall (same_covered e w x (height w) (omega arith) ∙ f.cover (later_self w));
      present = λ i h. rw (same_items e w x i (low i h)) (each_map (allowed s (link_count w) i (omega (arith, low i h))) (keeps i (low i h)).fine);
      clean = λ i h. rw (same_items e w x i (low i h)) (each_map (zeroed s (link_count w) i) (keeps i (low i h)).fine);
      parents = λ i h. parented_tenth w x.nodes i (low i h) ∙ sym (rw tall (same_parent w x i (height w) (omega arith)));
    }

-- rows that end with a script's root
ends_rooted : (w : Rows) → node_width * height w ≡ length w.nodes → (before : List ℕ) (l c : ℕ) → w.nodes ≡ before ++ lined (number_of Node.Block ∷ 0 ∷ 0 ∷ l ∷ c ∷ absent ∷ []) absent → Rooted w
ends_rooted w x y l c e =
    let last = lined (number_of Node.Block ∷ 0 ∷ 0 ∷ l ∷ c ∷ absent ∷ []) absent in
    let long = ap length e ∙ length-append y last in
    let root : own w (height w - 1) ≡ take own_width last = ap (λ xs. take own_width (drop (node_width * (height w - 1)) xs)) e ∙ ap (take own_width) (drop_at y last (node_width * (height w - 1)) (omega arith)) in
    record { some = omega arith; block = ap (λ xs. get_or xs 0 0) root; no_tail = ap (λ xs. get_or xs 5 0) root }

-- an answer's counts and the rooms that it leaves, handed over to the check
abbrev pub handed_over : Call → Rows → (symbols : List ℕ) → Given
handed_over c w ss = record { edition = c.edition; nodes = height w; links = link_count w; symbols = length ss / symbol_width; rooms = rooms_filled w ss c.rooms }

all_lent : (c : Call) (w : Rows) (ss : List ℕ) → height w + 2 * link_count w ≤ length c.rooms.scratch → Lends (handed_over c w ss)
all_lent c w ss h = record { nodes = simp length-append (omega arith); links = simp length-append (omega arith); symbols = simp length-append (omega arith); scratch = simp length-replicate h }

-- scratch is zero throughout
left_clear : (w : Rows) (ss : List ℕ) (r : Rooms) → scratch_cleared (rooms_filled w ss r) ≡ rooms_filled w ss r
left_clear w ss r = simp length-replicate

pub record Accepted (c : Call) (w : Rows) (ss : List ℕ) : Type 0 where
  -- the rows that the counts tell of are those that were written
  pub same : used (handed_over c w ss) ≡ w
  pub checked : Checked (edition c.edition) (length ss / symbol_width) w
  pub passes : Checks (handed_over c w ss) 0 0 0 (rooms_filled w ss c.rooms)
  -- a walk from the root meets each row once
  pub walked : (deep : ℕ) → height w ≤ deep → Walked w deep

-- what a call writes that reads a script and is accepted
pub accepted_checked : {c : Call} {w : Rows} {ss : List ℕ} → Admitted c → c.profile ≡ Profile.script → Comes c.profile (edition c.edition) c.names c.text c.tokens c.limit (space_of c.rooms) (length c.rooms.symbols) (Outcome.accepted w ss) → Accepted c w ss
unfolding written
accepted_checked {c} {w} {ss} d z (Comes.read {t = t} x h i j) =
    let e = edition c.edition in
    let ts = c.tokens in
    let σ = symbol c.names c.text ts in
    let s = length ss / symbol_width in
    let u = unparented ts σ t in
    let r = subst (λ q. ReadsAll q e (kind ts) (count ts) t) z x in
    let well = accepted_rows d {p = c.profile} (Comes.read x h i j) in
    let whole = all_whole e ts σ Profile.script (count ts) r in
    let long = parented_length u whole.nodes in
    let (y, l, n, last) = well.root z in
    let lawful = script_lawful e ts σ s (word_there c.names c.text ts d.whole) r in
    let checked : Checked e s w = parented_checked e s u whole lawful well.tree (ends_rooted w (omega arith) y l n last) (omega arith) in
    let same : used (handed_over c w ss) ≡ w = rw (take_at w.nodes (replicate (length c.rooms.nodes - length w.nodes) 0) (node_width * height w) (omega arith), take_at w.links (replicate (length c.rooms.links - length w.links) 0) (link_width * link_count w) (omega arith)) in
    record { same = same; checked = checked; passes = rw (left_clear w ss c.rooms) at (Checks.passed (all_lent c w ss (omega arith)) d.edition (rw same checked)); walked = walk_once checked (omega arith) }

-- and in the words of the call's answer
pub answer_checked : {c : Call} {a : Answer} {r : Rooms} → Answers c a r → c.profile ≡ Profile.script → a.code ≡ 0 → Checks (record { edition = c.edition; nodes = a.nodes; links = a.links; symbols = a.symbols; rooms = r }) 0 0 0 r
answer_checked (Answers.turned_away x) z k = absurd (omega (arith, (turned_code x.wrong).least))
answer_checked (Answers.accepted d x) z k = (accepted_checked d z x).passes
answer_checked (Answers.refused d (Comes.stop x)) z k = absurd (omega (arith, (refused_place d x).code.least))
