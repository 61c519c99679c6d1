-- What rooms have to do with it: a larger room keeps every outcome but a 4, a room with a row for each token is never too small, and a list succeeds exactly
-- where it has a reading within the limit whose rows fit.
use Prim.Native.Nat.{ℕ, ◌+◌, ◌-◌, ◌*◌, ◌/◌, ◌≤◌}
use mathlib.Core.List.{List}
use mathlib.Core.Path.{◌≡◌, refl}
use native.Mathlib.Omega.{arith}
use lib.Dec.{T, leb, leb→le}
use lib.ListN.{length}
use Rattle.grammar.specs.Answer.{Answer}
use Rattle.grammar.specs.Builtin.{Builtins, built}
use Rattle.grammar.specs.Call.{Call}
use Rattle.grammar.specs.Door.{Whole, RightSymbols, Admitted}
use Rattle.grammar.specs.Edition.{Edition, edition}
use Rattle.grammar.specs.Handle.{absent}
use Rattle.grammar.specs.Kaori.{Table, Form, above, kaori, Script}
use Rattle.grammar.specs.Kind.{Eof}
use Rattle.grammar.specs.Label.{Label}
use Rattle.grammar.specs.Outcome.{Outcome, accepted, refusal, Stops, Comes}
use Rattle.grammar.specs.Parent.{written}
use Rattle.grammar.specs.Phrase.{Phrase, Grammar, Tree, none, more, deeper, made, Aim, whole, Reads, depth}
use Rattle.grammar.specs.Profile.{Profile, form, taken, ReadsAll}
use Rattle.grammar.specs.Refusal.{Refused, Passes, Refuses}
use Rattle.grammar.specs.Room.{Rooms, node_width, link_width, symbol_width}
use Rattle.grammar.specs.Rows.{Rows, blank, then, unparented}
use Rattle.grammar.specs.Space.{Space, Enough, Worded, Named, Lacks, space_of}
use Rattle.grammar.specs.Symbol.{symbol_rows, symbol, symbol_in}
use Rattle.grammar.specs.Token.{kind, count}
use Rattle.grammar.proofs.Demands.{last_token, RefusedAt}
use Rattle.grammar.proofs.Lengths.{Alike, alike_self, then_alike, tree_whole, written_alike, enough_written, enough_then}
use Rattle.grammar.proofs.Machine.{asked, read_not_refused}
use Rattle.grammar.proofs.Outcomes.{reading_not_refused}
use Rattle.grammar.proofs.Places.{proper, proper_entry, proper_link, reading_ends, rest, before, code_of}
use Rattle.grammar.proofs.Room.{paid, paid_node, paid_entry, pays, script_room, all_room}
use Rattle.grammar.proofs.Symbols.{named_all, symbol_in_kept, symbol_there, rows_few, rows_whole}
use Rattle.grammar.proofs.Tests.{both}
use Rattle.grammar.proofs.Worded.{words_fit}

-- rooms hold as much, and no token lacks its symbol that had it
pub record Keeps (s z : Space) (σ τ : ℕ → ℕ) : Type 0 where
  pub nodes : s.nodes ≤ z.nodes
  pub links : s.links ≤ z.links
  pub words : (i : ℕ) → τ i ≡ absent → σ i ≡ absent

keeps_self : {s : Space} {σ : ℕ → ℕ} → Keeps s s σ σ
keeps_self = record { nodes = omega arith; links = omega arith; words = λ i e. e }

module _ {s z : Space} {σ τ : ℕ → ℕ} (g : Keeps s z σ τ) where
  enough_kept : {w v : Rows} → Alike w v → Enough s w → Enough z v
  enough_kept a h = omega (arith, g.nodes, g.links)

  worded_kept : (f : Label) (a : ℕ) → Worded σ f a → Worded τ f a
  worded_kept f a h e i = h e (g.words a i)

  named_kept : (t : Tree Label) → Named σ t → Named τ t
  unfolding Named
  named_kept none n = tt
  named_kept (more t u) n = (named_kept t n.0, named_kept u n.1)
  named_kept (deeper t) n = named_kept t n
  named_kept (made f a b t) n = (named_kept t n.0, worded_kept f a n.1)

  lacks_kept : {f : Label} {a b c : ℕ} {w v : Rows} → Keeps z s τ σ → Alike w v → Lacks σ s f a b w c → Lacks τ z f a b v c
  lacks_kept h e (Lacks.word i j) = Lacks.word i (h.words _ j)
  lacks_kept {f} {a} {b} {w = w} {v = v} h e (Lacks.link i j) = Lacks.link (worded_kept f a i) (omega (arith, h.links, e.links))
  lacks_kept {f} {a} {b} {w = w} {v = v} h e (Lacks.row i j k) = Lacks.row (worded_kept f a i) (omega (arith, g.links, e.links)) (omega (arith, h.nodes, e.nodes))

module _ {ts : List ℕ} {N : Type 0} {G : Grammar N Label} {kind : ℕ → ℕ} {k l : ℕ} {s z : Space} {σ τ : ℕ → ℕ} (d : k ≤ l) (g : Keeps s z σ τ) where
  pass_kept : {m : Aim N Label} {o a b : ℕ} {w v : Rows} {t : Tree Label} → Alike w v → Passes ts σ k s G kind m o a w b t → Passes ts τ l z G kind m o a v b t
  pass_kept {t = t} e x = record { reads = x.reads; deep = omega (arith, x.deep); named = named_kept g t x.named; fits = enough_kept g (then_alike ts σ τ t e) x.fits }

  -- a refusal stays as it is where the limit grows, if it is no 11, and the rooms grow, if it is no 4
  pub refusal_kept : {p : Phrase N Label} {o a : ℕ} {w v : Rows} {q : Refused} → Alike w v → Refuses ts σ k s G kind p o a w q → (code_of q ≡ 11 → l ≤ k) → (code_of q ≡ 4 → Keeps z s τ σ) → Refuses ts τ l z G kind p o a v q
  refusal_kept e (Refuses.missing n) i j = Refuses.missing n
  refusal_kept e (Refuses.past_token h x) i j = Refuses.past_token h (refusal_kept e x i j)
  refusal_kept e (Refuses.in_first x) i j = Refuses.in_first (refusal_kept e x i j)
  refusal_kept e (Refuses.in_second {t = t} x y) i j = Refuses.in_second (pass_kept e x) (refusal_kept (then_alike ts σ τ t e) y i j)
  refusal_kept e (Refuses.too_deep {o = o} h) i j = Refuses.too_deep {o = o} (omega (arith, i refl))
  refusal_kept e (Refuses.inside {o = o} h x) i j = Refuses.inside {o = o} (omega arith) (refusal_kept e x i j)
  refusal_kept e (Refuses.in_node x) i j = Refuses.in_node (refusal_kept e x i j)
  refusal_kept e (Refuses.no_room {f = f} {a = a} {b = b} {t = t} x h) i j = Refuses.no_room (pass_kept e x) (lacks_kept g (j refl) (then_alike ts σ τ (made f a b t) e) h)
  refusal_kept e (Refuses.in_choice h x) i j = Refuses.in_choice h (refusal_kept e x i j)
  refusal_kept e (Refuses.in_start x) i j = Refuses.in_start (refusal_kept e x i j)
  refusal_kept e (Refuses.in_link {t = t} x h y) i j = Refuses.in_link (pass_kept e x) h (refusal_kept (then_alike ts σ τ t e) y i j)
  refusal_kept e (Refuses.no_room_linked {f = f} {b = b} {c = c} {t = t} {u = u} x h y n) i j = Refuses.no_room_linked (pass_kept e x) h (pass_kept (then_alike ts σ τ t e) y) (lacks_kept g (j refl) (then_alike ts σ τ (made f b c (more t u)) e) n)
  refusal_kept e (Refuses.in_only x) i j = Refuses.in_only (refusal_kept e x i j)
  refusal_kept e (Refuses.in_joined {t = t} x h y) i j = Refuses.in_joined (pass_kept e x) h (refusal_kept (then_alike ts σ τ t e) y i j)
  refusal_kept e (Refuses.no_room_joined {f = f} {b = b} {c = c} {t = t} {u = u} x h y n) i j = Refuses.no_room_joined (pass_kept e x) h (pass_kept (then_alike ts σ τ t e) y) (lacks_kept g (j refl) (then_alike ts σ τ (made f b c (more t u)) e) n)
  refusal_kept e Refuses.stopped i j = Refuses.stopped

-- each room holds as much
pub record Larger (s z : Space) (room larger : ℕ) : Type 0 where
  pub nodes : s.nodes ≤ z.nodes
  pub links : s.links ≤ z.links
  pub symbols : room ≤ larger

keeps : (names : Builtins) (text ts : List ℕ) {s z : Space} {room larger : ℕ} → Larger s z room larger → Keeps s z (symbol_in names text ts room) (symbol_in names text ts larger)
keeps names text ts {room = room} {larger = larger} g = record { nodes = g.nodes; links = g.links; words = λ i. symbol_in_kept names text ts room larger i g.symbols }

-- the code of an outcome, 0 for a success
abbrev pub code : Outcome → ℕ
code (accepted w ss) = 0
code (refusal q) = code_of q

-- what comes of a list in larger rooms is what came of it before, the same rows or the same refusal, unless that was a 4
pub outcome_kept : {p : Profile} {e : Edition} {names : Builtins} {text ts : List ℕ} {limit : ℕ} {s z : Space} {room larger : ℕ} {r : Outcome} → Larger s z room larger → Comes p e names text ts limit s room r → (code r ≡ 4 → ⊥) → Comes p e names text ts limit z larger r
outcome_kept g (Comes.read x h i j) n = Comes.read x h (omega (arith, i, g)) (omega (arith, j, g))
outcome_kept {names = names} {text} {ts} g (Comes.stop x) n = Comes.stop (refusal_kept (omega arith) (keeps names text ts g) alike_self x (λ e. omega arith) (λ e. absurd (n e)))

pub success_kept : {p : Profile} {e : Edition} {names : Builtins} {text ts : List ℕ} {limit : ℕ} {s z : Space} {room larger : ℕ} {w : Rows} {ss : List ℕ} → Larger s z room larger → Comes p e names text ts limit s room (accepted w ss) → Comes p e names text ts limit z larger (accepted w ss)
success_kept g x = outcome_kept g x (λ e. omega arith)

-- a list succeeds with just what a reading writes that the limit and the rooms let pass: all symbol rows fit where the built-in ones do and each node of what is read
-- has its symbol
pub passing_comes : (p : Profile) (e : Edition) (names : Builtins) (text ts : List ℕ) {limit : ℕ} {space : Space} (room : ℕ) → RightSymbols names room → {t : Tree Label} → Passes ts (symbol_in names text ts room) limit space (kaori e) (kind ts) (whole (form p)) 0 0 blank (taken p (count ts)) t → Comes p e names text ts limit space room (accepted (written ts (symbol names text ts) t) (symbol_rows names text ts (count ts)))
passing_comes p e names text ts room r {t} x = Comes.read x.reads (omega (arith, x.deep)) (enough_written ts (symbol_in names text ts room) (symbol names text ts) t x.fits) (words_fit p e names text ts room r x.reads x.named)

-- succeeding with these rows: a reading within the limit, and its rows fit all three rooms
pub record Succeeds (p : Profile) (e : Edition) (names : Builtins) (text ts : List ℕ) (limit : ℕ) (space : Space) (room : ℕ) (w : Rows) (ss : List ℕ) : Type 0 where
  pub tree : Tree Label
  pub reading : ReadsAll p e (kind ts) (count ts) tree
  pub deep : depth tree ≤ limit
  pub fits : Enough space w
  pub symbols_fit : length ss ≤ room
  pub rows_are : w ≡ written ts (symbol names text ts) tree
  pub symbols_are : ss ≡ symbol_rows names text ts (count ts)

pub succeeds : {p : Profile} {e : Edition} {names : Builtins} {text ts : List ℕ} {limit : ℕ} {space : Space} {room : ℕ} {w : Rows} {ss : List ℕ} → Comes p e names text ts limit space room (accepted w ss) → Succeeds p e names text ts limit space room w ss
succeeds (Comes.read {t = t} x h i j) = record { tree = t; reading = x; deep = h; fits = i; symbols_fit = j; rows_are = refl; symbols_are = refl }

pub success_comes : {p : Profile} {e : Edition} {names : Builtins} {text ts : List ℕ} {limit : ℕ} {space : Space} {room : ℕ} {w : Rows} {ss : List ℕ} → Succeeds p e names text ts limit space room w ss → Comes p e names text ts limit space room (accepted w ss)
success_comes x = rw (x.rows_are, x.symbols_are) (Comes.read x.reading x.deep (rw x.rows_are at x.fits) (rw x.symbols_are at x.symbols_fit))

module _ (p : Profile) (e : Edition) (names : Builtins) (text ts : List ℕ) {limit : ℕ} {space : Space} (room : ℕ) {n : ℕ} {t : Tree Label} {q : Refused} where
  -- where a list is refused by 4, the rows of no reading fit, however deep it is
  pub short_truly : Whole ts → built names ≤ 64 → Stops p e names text ts limit space room q → code_of q ≡ 4 → Reads (kaori e) (kind ts) (whole (form p)) 0 n t → Enough space (written ts (symbol names text ts) t) → length (symbol_rows names text ts (count ts)) ≤ room → ⊥
  short_truly l few x c r i j = reading_not_refused p e names text ts room l few r (omega arith) i j (refusal_kept {l = limit + depth t} (omega arith) keeps_self alike_self x (λ f. omega arith) (λ f. keeps_self))

  -- and where it is refused by another code, no reading is within the limit, whatever its rows
  pub refused_truly : Stops p e names text ts limit space room q → (code_of q ≡ 4 → ⊥) → Reads (kaori e) (kind ts) (whole (form p)) 0 n t → depth t ≤ limit → ⊥
  refused_truly x c r h =
      let τ : ℕ → ℕ = λ i. 0 in
      let w = then ts τ t blank in
      let z : Space = record { nodes = space.nodes + length w.nodes; links = space.links + length w.links } in
      let g : Keeps space z (symbol_in names text ts room) τ = record { nodes = omega arith; links = omega arith; words = λ i f. omega arith } in
      read_not_refused {ts = ts} {symbol = τ} {limit = limit} {space = z} {o = 0} {w = blank} (record { reads = r; deep = omega arith; named = named_all (λ i f. omega arith) t; fits = omega arith }) (refusal_kept (omega arith) g alike_self x (λ f. omega arith) (λ f. absurd (c f)))

-- reading does not depend on the text nor on built-in names: with others, and room for the rows of both, the same refusal comes, or the rows of the same tree
pub same_refusal : {p : Profile} {e : Edition} {names others : Builtins} {text other ts : List ℕ} {limit : ℕ} {space : Space} {room room' : ℕ} {q : Refused} → Whole ts → built names ≤ 64 → built others ≤ 64 → length (symbol_rows names text ts (count ts)) ≤ room → length (symbol_rows others other ts (count ts)) ≤ room' → Comes p e names text ts limit space room (refusal q) → Comes p e others other ts limit space room' (refusal q)
same_refusal {names = names} {others} {text} {other} {ts} {space = space} {room = room} {room' = room'} l few fewer h i (Comes.stop x) =
    Comes.stop (refusal_kept (omega arith) (there (symbol_in names text ts room) others other fewer i) alike_self x (λ c. omega arith) (λ c. there (symbol_in others other ts room') names text few h))
  where
    there : (σ : ℕ → ℕ) (ns : Builtins) (u : List ℕ) → built ns ≤ 64 → {n : ℕ} → length (symbol_rows ns u ts (count ts)) ≤ n → Keeps space space σ (symbol_in ns u ts n)
    there σ ns u f k = record { nodes = omega arith; links = omega arith; words = λ j a. absurd (symbol_there ns u ts l f k j a) }

pub record SameTree (p : Profile) (e : Edition) (names others : Builtins) (text other ts : List ℕ) (limit : ℕ) (space : Space) (room : ℕ) (w : Rows) (ss : List ℕ) : Type 0 where
  pub tree : Tree Label
  pub rows : w ≡ written ts (symbol names text ts) tree
  pub symbols : ss ≡ symbol_rows names text ts (count ts)
  pub comes : Comes p e others other ts limit space room (accepted (written ts (symbol others other ts) tree) (symbol_rows others other ts (count ts)))

pub same_tree : {p : Profile} {e : Edition} {names others : Builtins} {text other ts : List ℕ} {limit : ℕ} {space : Space} {room room' : ℕ} {w : Rows} {ss : List ℕ} → length (symbol_rows others other ts (count ts)) ≤ room' → Comes p e names text ts limit space room (accepted w ss) → SameTree p e names others text other ts limit space room' w ss
same_tree {names = names} {others} {text} {other} {ts} k (Comes.read {t = t} x h i j) = record { tree = t; rows = refl; symbols = refl; comes = Comes.read x h (enough_written ts (symbol names text ts) (symbol others other ts) t (enough_then ts (symbol names text ts) (symbol names text ts) t i)) k }

-- rows that the tokens before a pay for
record Paid (a : ℕ) (w : Rows) : Type 0 where
  pub nodes : length w.nodes ≤ node_width * a
  pub links : length w.links ≤ link_width * a

-- node and link rooms have a row for each of n tokens, and all symbols are there
record Spacious (n : ℕ) (space : Space) (σ : ℕ → ℕ) : Type 0 where
  pub nodes : node_width * n ≤ space.nodes
  pub links : link_width * n ≤ space.links
  pub words : (i : ℕ) → σ i ≡ absent → ⊥

spacious : {n a b c : ℕ} {space : Space} {σ : ℕ → ℕ} {f : Label} {w : Rows} → Spacious n space σ → Paid n w → Lacks σ space f a b w c → ⊥
spacious h p (Lacks.word i j) = h.words _ j
spacious h p (Lacks.link i j) = omega (arith, h.links, p.links)
spacious h p (Lacks.row i j k) = omega (arith, h.nodes, p.nodes)

module _ (e : Edition) (ts : List ℕ) (σ : ℕ → ℕ) (space : Space) (kind : ℕ → ℕ) (n : ℕ) (last : kind n ≡ Eof) (room : Spacious (n + 1) space σ) where
  -- what is read up to b is paid for
  paid_on : {m : Aim Table Label} {a b : ℕ} {w : Rows} {t : Tree Label} → Reads (kaori e) kind m a b t → T (paid (asked m)) → Paid a w → Paid b (then ts σ t w)
  paid_on {w = w} x h p = let (k, i, g) = (pays e ts σ x h).pay w in omega arith

  within : {m : Aim Table Label} {f : Label} {a b c d : ℕ} {w : Rows} {t : Tree Label} → Reads (kaori e) kind m a b t → T (paid (asked m)) → T (proper (asked m)) → a ≤ n → Paid a w → Lacks σ space f c b (then ts σ t w) d → ⊥
  within x h i j p l = let k = reading_ends e kind n last x i j in let v = paid_on x h p in spacious room (omega arith) l

  never : {limit : ℕ} {p : Form} {o a : ℕ} {w : Rows} {q : Refused} → Refuses ts σ limit space (kaori e) kind p o a w q → T (paid p) → T (proper p) → a ≤ n → Paid a w → code_of q ≡ 4 → ⊥
  unfolding paid proper
  never (Refuses.missing k) h i j v = λ c. omega arith
  never (Refuses.past_token {x = x} {p = p} k r) h i j v = never r h (rest x p i) (before kind n last _ x p i j k) (omega arith)
  never (Refuses.in_first {p = p} {r = r} x) h i j v = never x (both (paid p) (paid r) h).0 (both (proper p) (proper r) i).0 j v
  never (Refuses.in_second {p = p} {r = r} x y) h i j v =
      let (f, g) = both (paid p) (paid r) h in
      let (c, d) = both (proper p) (proper r) i in
      never y g d (reading_ends e kind n last x.reads c j) (paid_on x.reads f v)
  never (Refuses.too_deep d) h i j v = λ c. omega arith
  never (Refuses.inside d x) h i j v = never x h i j v
  never (Refuses.in_node {f = f} {p = p} x) h i j v = never x (paid_node f p h).1 i j v
  never (Refuses.no_room x l) h i j v = λ c. within (Reads.labelled x.reads) h i j v l
  never (Refuses.in_choice {n = m} k x) h i j v = never x (paid_entry e m _ k) (proper_entry e m _ k) j v
  never (Refuses.in_start x) h i j v = never x h i j v
  never (Refuses.in_link {n = m} {f = f} {r = r} x k y) h i j v = never y (paid_node f r (paid_entry e m _ k)).1 (proper_link e m _ k) (reading_ends e kind n last x.reads i j) (paid_on x.reads h v)
  never (Refuses.no_room_linked x k y l) h i j v = λ c. within (Reads.link x.reads k y.reads) h i j v l
  never (Refuses.in_only x) h i j v = never x h i j v
  never (Refuses.in_joined {n = m} {f = f} {r = r} x k y) h i j v = never y (paid_node f r (paid_entry e m _ k)).1 (proper_link e m _ k) (reading_ends e kind n last x.reads i j) (paid_on x.reads h v)
  never (Refuses.no_room_joined x k y l) h i j v = λ c. within (Reads.joined x.reads k y.reads) h i j v l
  never (Refuses.stopped {e = k}) h i j v = λ c. omega (arith, leb→le 9 k (both (leb 9 k) (leb k 10) i).0)

  form_never : (p : Profile) {limit : ℕ} {q : Refused} → Refuses ts σ limit space (kaori e) kind (form p) 0 0 blank q → code_of q ≡ 4 → ⊥
  unfolding paid proper unparented above
  form_never Profile.script (Refuses.in_node x) = never x tt tt (omega arith) (omega arith)
  form_never Profile.script (Refuses.no_room {b = b} x l) = λ c.
      let r : Script e kind b _ = Reads.labelled x.reads in
      let k = reading_ends e kind n last r tt (omega arith) in
      let f = script_room e ts σ r in
      spacious room (omega arith) l
  form_never Profile.guard (Refuses.in_first x) = never x tt tt (omega arith) (omega arith)
  form_never Profile.guard (Refuses.in_second x (Refuses.missing k)) = λ c. omega arith
  form_never Profile.guard (Refuses.in_second x (Refuses.past_token k y)) = absurd (elim y [ ])

-- the rooms have a row for each of n tokens, and the symbol room one for each built-in name, too
pub record Ample (names : Builtins) (n : ℕ) (space : Space) (room : ℕ) : Type 0 where
  pub nodes : node_width * n ≤ space.nodes
  pub links : link_width * n ≤ space.links
  pub symbols : symbol_width * (built names + n) ≤ room

module _ (p : Profile) (e : Edition) (names : Builtins) (text ts : List ℕ) {space : Space} {room : ℕ} (l : Whole ts) (h : Ample names (count ts) space room) where
  symbols_enough : length (symbol_rows names text ts (count ts)) ≤ room
  symbols_enough = omega (arith, rows_few names text ts (count ts), h.symbols)

  -- a list is never refused by 4 where each room has a row for each token: what was promised before rooms could be small
  pub ample_never_short : built names ≤ 64 → {limit : ℕ} {q : Refused} → kind ts (count ts - 1) ≡ Eof → Stops p e names text ts limit space room q → code_of q ≡ 4 → ⊥
  ample_never_short few last x =
      let some = l.some in
      let same : count ts - 1 + 1 ≡ count ts = omega arith in
      form_never e ts (symbol_in names text ts room) space (kind ts) (count ts - 1) last (rw same (record { nodes = h.nodes; links = h.links; words = symbol_there names text ts l few symbols_enough })) p x

  -- and has room for the rows
  pub ample_enough : {t : Tree Label} → ReadsAll p e (kind ts) (count ts) t → Enough space (written ts (symbol names text ts) t) × (length (symbol_rows names text ts (count ts)) ≤ room)
  unfolding unparented
  ample_enough {t} x =
      let f = all_room e ts (symbol names text ts) p (count ts) x l.some in
      let a = written_alike ts (symbol names text ts) t in
      (omega (arith, l.some, h.nodes, h.links, f, a), symbols_enough)

-- of a call whose rooms have a row for each token, and each built-in name: what is let in has a code from 8 where it is refused, as before
pub ample_codes : {c : Call} {a : Answer} {after : Rooms} → Admitted c → Ample c.names (count c.tokens) (space_of c.rooms) (length c.rooms.symbols) → RefusedAt c a after → 8 ≤ a.code
ample_codes {c} {a} d h x =
    let never : a.code ≡ 4 → ⊥ = ample_never_short c.profile (edition c.edition) c.names c.text c.tokens d.whole h d.named.few (last_token d) x.refusal in
    x.codes.others (omega (arith, never, x.codes.least))

-- rows are written whole: numbers fit exactly where the counts of an answer are no more than the rooms' whole rows, and a number left over in a room is of no use
pub record Counted (names : Builtins) (text ts : List ℕ) (r : Rooms) (t : Tree Label) : Type 0 where
  pub nodes : length (written ts (symbol names text ts) t).nodes / node_width ≤ length r.nodes / node_width
  pub links : length (written ts (symbol names text ts) t).links / link_width ≤ length r.links / link_width
  pub symbols : length (symbol_rows names text ts (count ts)) / symbol_width ≤ length r.symbols / symbol_width

module _ (names : Builtins) (text ts : List ℕ) (r : Rooms) (t : Tree Label) where
  pub enough_counted : Enough (space_of r) (written ts (symbol names text ts) t) → length (symbol_rows names text ts (count ts)) ≤ length r.symbols → Counted names text ts r t
  enough_counted h i = omega arith

  pub counted_enough : Counted names text ts r t → Enough (space_of r) (written ts (symbol names text ts) t) × (length (symbol_rows names text ts (count ts)) ≤ length r.symbols)
  counted_enough h =
      let a = written_alike ts (symbol names text ts) t in
      let w = tree_whole ts (symbol names text ts) t {w = blank} (record { nodes = refl; links = refl }) in
      (omega (arith, w.nodes, w.links, a, h.nodes, h.links), omega (arith, rows_whole names text ts (count ts), h.symbols))
