-- Document 02, L12, 'drop screens no longer used': 'For rows that our reader wrote, rows, links and symbols equal those of reading the token list with the dropped statements and
-- their `;` removed, spans as in the old text'; 'Rows of a script read with built-ins keep the built-in symbols'. What to read: `Dropped` and `statements-dropped`, of any call that
-- the door lets in and any tree that its tokens read as; `script-read` and `dropped-answers`, of a call that was answered, and what the shorter call's answer and rooms are then; `statements-counted`,
-- how long a choice has to be; `all-kept-same`, where nothing is dropped nothing changes; `accepted-packed`, what is packed passes the check of L8 again.
use Prim.Native.Nat.{ℕ, ◌-◌, ◌*◌, ◌/◌, ◌≤◌}
use mathlib.Core.Bool.{Bool, true}
use mathlib.Core.List.{List, ◌++◌}
use mathlib.Core.Path.{◌≡◌, refl, sym, ap, subst, ◌∙◌}
use native.Mathlib.Omega.{arith}
use lib.ListN.{length, take}
use Rattle.grammar.specs.Answer.{Answer, success, rooms_filled, Answers}
use Rattle.grammar.specs.Builtin.{Builtins, built}
use Rattle.grammar.specs.Call.{Call}
use Rattle.grammar.specs.Door.{Admitted}
use Rattle.grammar.specs.Edition.{Edition, edition}
use Rattle.grammar.specs.Handle.{absent}
use Rattle.grammar.specs.Label.{Label}
use Rattle.grammar.specs.Naming.{height}
use Rattle.grammar.specs.Operator.{place}
use Rattle.grammar.specs.Outcome.{Comes}
use Rattle.grammar.specs.Parent.{written}
use Rattle.grammar.specs.Phrase.{Tree, none, made, depth}
use Rattle.grammar.specs.Profile.{Profile, ReadsAll}
use Rattle.grammar.specs.Room.{Rooms, symbol_width}
use Rattle.grammar.specs.Rows.{Rows, unparented}
use Rattle.grammar.specs.Symbol.{is_name, symbol_rows, symbol}
use Rattle.grammar.specs.Token.{kind, count}
use Rattle.grammar.proofs.Demands.{rows_of, symbols_of, ReadAs, Sorts, sorts}
use Rattle.grammar.proofs.Machine.{one_reading}
use Rattle.grammar.proofs.Parents.{parented_height}
use Rattle.grammar.proofs.Room.{all_room}
use Rattle.grammar.proofs.Symbols.{rows_built}
use Rattle.grammar.proofs.Trees.{all_whole}
use Rattle.foreign.specs.Check.{Checked, Checks}
use Rattle.foreign.proofs.Accepted.{handed_over, Accepted, accepted_checked, answer_checked}
use Rattle.parts.specs.Dropped.{statement_count, without, leaving}
use Rattle.parts.specs.Packed.{statements, kept as kept-rows, spoken_all, upto, left, renumbered, packed, packed_symbols}
use Rattle.parts.specs.Spoken.{heard, first_places}
use Rattle.parts.proofs.Carried.{statement_starts, statement_lies}
use Rattle.parts.proofs.Dropping.{Settled, Renumbers, rows_dropped}
use Rattle.parts.proofs.Kinship.{Items, Fresh, kept}
use Rattle.parts.proofs.Leaving.{landing}
use Rattle.parts.proofs.Numbering.{Left, symbol_left, symbols_packed}
use Rattle.parts.proofs.Passing.{packed_nodes_most, packed_links_most}
use Rattle.parts.proofs.Sequence.{AsItems, script_items}
use Rattle.parts.proofs.Shorter.{Shorter, shorter, all_kept_tokens}
use Rattle.parts.proofs.Speaking.{spoken_kept}
use Rattle.parts.proofs.Statements.{statements_count}
use Rattle.parts.proofs.Symbols.{left_most, packed_symbols_length}
use Rattle.parts.proofs.Words.{kept_words}

-- the tokens of a call read as a script, t
abbrev pub ScriptOf : Call → Tree Label → Type 0
ScriptOf k t = ReadsAll Profile.script (edition k.edition) (kind k.tokens) (count k.tokens) t

-- what is left of a call's rows and of its symbol rows, by the rows alone
abbrev pub rows_left : Call → (ℕ → Bool) → Tree Label → Rows
rows_left k c t = packed c (built k.names) (rows_of k t)

abbrev pub symbols_left : Call → (ℕ → Bool) → Tree Label → List ℕ
symbols_left k c t = packed_symbols c (built k.names) (rows_of k t) (symbols_of k)

-- the call without the statements that c does not keep is let in and read, no deeper than before, and its rows and symbols are those that are left
pub record Dropped (call : Call) (c : ℕ → Bool) (t : Tree Label) : Type 0 where
  pub door : Admitted (leaving call c t)
  pub tree : Tree Label
  pub reading : ScriptOf (leaving call c t) tree
  pub shallow : depth tree ≤ depth t
  pub rows : rows_of (leaving call c t) tree ≡ rows_left call c t
  pub symbols : symbols_of (leaving call c t) ≡ symbols_left call c t

-- the nodes of each statement lie in its tokens
settled : {e : Edition} {k : ℕ → ℕ} {n : ℕ} {t : Tree Label} → Items e k n t → Fresh (k n) → Settled t
settled Items.nil u = Settled.nil
settled {e} (Items.next i x) u = Settled.next (statement_lies e x u) (settled i (statement_starts e x).fresh)

-- a number for each name that is left
renumbers : {ts : List ℕ} {c : ℕ → Bool} {σ σ' f ρ : ℕ → ℕ} {e : Edition} {k : ℕ → ℕ} {n : ℕ} {t : Tree Label} → Items e k n t → ((i : ℕ) → Left c i t → is_name ts i ≡ true → σ' (f i) ≡ ρ (σ i)) → Renumbers ts c σ σ' f ρ t
renumbers Items.nil h = Renumbers.nil
renumbers (Items.next i x) h = Renumbers.next (λ z j p q. h j (Left.here z p q)) (renumbers i (λ j l. h j (Left.before l)))

-- few rows
few : (call : Call) → Admitted call → {t : Tree Label} → ScriptOf call t → height (rows_of call t) ≤ 4096
unfolding written
few call d {t} x =
    let ts = call.tokens in
    let σ = symbol call.names call.text ts in
    let e = edition call.edition in
    let whole = all_whole e ts σ Profile.script (count ts) x in
    let room = all_room e ts σ Profile.script (count ts) x d.whole.some in
    omega (arith, parented_height (unparented ts σ t) whole.nodes, room.nodes, d.whole.most)

module _ (call : Call) (d : Admitted call) (c : ℕ → Bool) {t₀ : Tree Label} (i : Items (edition call.edition) (kind call.tokens) (count call.tokens - 1) t₀) (r : Shorter call c t₀) (low : height (rows_of call (made Label.Script 0 (count call.tokens - 1) t₀)) ≤ absent) where
  abbrev ts : List ℕ
  ts = call.tokens

  abbrev n : ℕ
  n = count ts - 1

  abbrev t : Tree Label
  t = made Label.Script 0 n t₀

  abbrev ts' : List ℕ
  ts' = without c ts t

  abbrev σ : ℕ → ℕ
  σ = symbol call.names call.text ts

  abbrev f : ℕ → ℕ
  f = landing c t₀

  -- what is said is what the tokens say
  said_words : spoken_all (rows_of call t) (kept-rows c (rows_of call t)) ≡ kept_words c ts σ t₀
  said_words = spoken_kept ts σ c i low (λ j h. (d.sound j (omega arith)).forward) (λ j h. omega (arith, (d.sound j (omega arith)).inside, d.short))

  new_number : (j : ℕ) → Left c j t₀ → is_name ts j ≡ true → symbol call.names call.text ts' (f j) ≡ renumbered c (built call.names) (rows_of call t) (σ j)
  unfolding left
  new_number j l h = symbol_left call.names call.text ts ts' c f r.starts i r.keeping j l h ∙ ap (λ ws. place (σ j) (heard ws (upto (built call.names)))) (sym said_words)

  rows_are : rows_of (leaving call c t) (made Label.Script 0 (f n) (kept c f none t₀)) ≡ rows_left call c t
  unfolding packed
  rows_are = rows_dropped (edition call.edition) ts ts' σ (symbol call.names call.text ts') c f (renumbered c (built call.names) (rows_of call t)) n i r.statements (settled i r.fresh) r.keeping (renumbers i new_number) low

  symbols_are : symbols_of (leaving call c t) ≡ symbols_left call c t
  unfolding packed_symbols
  symbols_are = symbols_packed call.names call.text ts ts' c f r.starts i r.keeping r.ends r.eof ∙ ap (λ ws. take (symbol_width * built call.names) (symbols_of call) ++ first_places ws (upto (built call.names))) (sym said_words)

  dropped : Dropped call c t
  dropped = record { door = r.door; tree = made Label.Script 0 (f n) (kept c f none t₀); reading = r.reading; shallow = r.shallow; rows = rows_are; symbols = symbols_are }

pub statements_dropped : (call : Call) → Admitted call → (c : ℕ → Bool) {t : Tree Label} → ScriptOf call t → Dropped call c t
statements_dropped call d c x = pick (script_items x) (few call d x)
  where
    pick : {t : Tree Label} → AsItems (edition call.edition) (kind call.tokens) (count call.tokens - 1) t → height (rows_of call t) ≤ 4096 → Dropped call c t
    pick (AsItems.as_items i e) h = dropped call d c i (shorter call d c i) (omega arith)

-- there are no more symbols than before
pub symbols_most : (call : Call) (c : ℕ → Bool) (t : Tree Label) {e : Edition} → Checked e (length (symbols_of call) / symbol_width) (rows_of call t) → length (symbols_left call c t) ≤ length (symbols_of call)
symbols_most call c t k =
    let b = built call.names in
    let h = rows_built call.names call.text call.tokens (count call.tokens) in
    omega (arith, packed_symbols_length c b (rows_of call t) (symbols_of call) (omega arith), left_most k c b h)

-- a call that was answered by 0 was read as t; without the others, its answer and its rooms are those of what is left
pub record Shortened (call : Call) (a : Answer) (after : Rooms) (c : ℕ → Bool) (t : Tree Label) : Type 0 where
  pub read : ReadAs call a after t
  pub answers : Answers (leaving call c t) (success (rows_left call c t) (symbols_left call c t)) (rooms_filled (rows_left call c t) (symbols_left call c t) call.rooms)

answered_as : {k : Call} {w v : Rows} {ss us : List ℕ} → w ≡ v → ss ≡ us → Answers k (success w ss) (rooms_filled w ss k.rooms) → Answers k (success v us) (rooms_filled v us k.rooms)
answered_as p q x = rw (← p, ← q) x

-- what is known of such a call
abbrev pub read_checked : {call : Call} {a : Answer} {after : Rooms} {t : Tree Label} → Admitted call → call.profile ≡ Profile.script → ReadAs call a after t → Accepted call (rows_of call t) (symbols_of call)
read_checked {call} d p r = accepted_checked {c = call} d p (Comes.read r.reading r.deep r.fits r.symbols_fit)

read_shortened : {call : Call} {a : Answer} {after : Rooms} {t : Tree Label} → Admitted call → call.profile ≡ Profile.script → ScriptOf call t → (c : ℕ → Bool) → ReadAs call a after t → Shortened call a after c t
read_shortened {call} {a} {after} {t} d p s c r =
    let x = statements_dropped call d c s in
    let k = (read_checked d p r).checked in
    let nodes_fit : length (rows_of (leaving call c t) x.tree).nodes ≤ length call.rooms.nodes = omega (arith, ap (λ (w : Rows). length w.nodes) x.rows, packed_nodes_most k c (built call.names), r.fits.nodes) in
    let links_fit : length (rows_of (leaving call c t) x.tree).links ≤ length call.rooms.links = omega (arith, ap (λ (w : Rows). length w.links) x.rows, packed_links_most k c (built call.names), r.fits.links) in
    let reads = subst (λ q. ReadsAll q (edition call.edition) (kind (without c call.tokens t)) (count (without c call.tokens t)) x.tree) (sym p) x.reading in
    record { read = r; answers = answered_as x.rows x.symbols (Answers.accepted x.door (Comes.read reads (omega (arith, x.shallow, r.deep)) (record { nodes = nodes_fit; links = links_fit }) (omega (arith, ap length x.symbols, symbols_most call c t k, r.symbols_fit)))) }

-- a script that was answered by 0 was read as a tree, and this is what its answer says of it
pub script_read : {call : Call} {a : Answer} {after : Rooms} → Answers call a after → a.code ≡ 0 → call.profile ≡ Profile.script → (t : Tree Label) × ScriptOf call t
script_read {call} {a} {after} x z p = pick (sorts x)
  where
    pick : Sorts call a after → (t : Tree Label) × ScriptOf call t
    pick (Sorts.read d {t = t} r) = (t, subst (λ q. ReadsAll q (edition call.edition) (kind call.tokens) (count call.tokens) t) p r.reading)
    pick (Sorts.stopped d r) = absurd (omega (arith, r.codes.least))
    pick (Sorts.turned r) = absurd (omega (arith, r.codes.least))

pub answered : {call : Call} {a : Answer} {after : Rooms} {t : Tree Label} → Answers call a after → a.code ≡ 0 → call.profile ≡ Profile.script → ScriptOf call t → Admitted call × ReadAs call a after t
answered {call} {a} {after} {t} x z p s = pick (sorts x)
  where
    pick : Sorts call a after → Admitted call × ReadAs call a after t
    pick (Sorts.read d r) = (d, subst (ReadAs call a after) (r.only (subst (λ q. ReadsAll q (edition call.edition) (kind call.tokens) (count call.tokens) t) (sym p) s)).1 r)
    pick (Sorts.stopped d r) = absurd (omega (arith, r.codes.least))
    pick (Sorts.turned r) = absurd (omega (arith, r.codes.least))

pub dropped_answers : {call : Call} {a : Answer} {after : Rooms} {t : Tree Label} → Answers call a after → a.code ≡ 0 → call.profile ≡ Profile.script → ScriptOf call t → (c : ℕ → Bool) → Shortened call a after c t
dropped_answers x z p s c = let (d, r) = answered x z p s in read_shortened d p s c r

-- the root has as many statements as the script
pub statements_counted : (call : Call) {t : Tree Label} → ScriptOf call t → statements (rows_of call t) ≡ statement_count t
unfolding statement_count
statements_counted call x = pick (script_items x)
  where
    pick : {t : Tree Label} → AsItems (edition call.edition) (kind call.tokens) (count call.tokens - 1) t → statements (rows_of call t) ≡ statement_count t
    pick (AsItems.as_items i e) = statements_count call.tokens (symbol call.names call.text call.tokens) i (count call.tokens - 1)

-- where all are kept, all stays as it is
read_alike : (e : Edition) (names : Builtins) (text vs us : List ℕ) {t u : Tree Label} → us ≡ vs → ReadsAll Profile.script e (kind us) (count us) u → ReadsAll Profile.script e (kind vs) (count vs) t → written us (symbol names text us) u ≡ written vs (symbol names text vs) t
read_alike e names text vs us {t} {u} z x y =
    let v = subst (λ l. ReadsAll Profile.script e (kind l) (count l) u) z x in
    rw (z, (one_reading v y).1)

pub all_kept_same : (call : Call) → Admitted call → {t : Tree Label} → ScriptOf call t → (rows_left call (λ i. true) t ≡ rows_of call t) × (symbols_left call (λ i. true) t ≡ symbols_of call)
all_kept_same call d {t} x =
    let y = statements_dropped call d (λ i. true) x in
    let z = all_kept_tokens call d (script_items x) in
    (sym y.rows ∙ read_alike (edition call.edition) call.names call.text call.tokens (without (λ i. true) call.tokens t) z y.reading x, sym y.symbols ∙ ap (λ us. symbol_rows call.names call.text us (count us)) z)

-- what is left passes the check again
pub accepted_packed : {call : Call} {a : Answer} {after : Rooms} {c : ℕ → Bool} {t : Tree Label} → call.profile ≡ Profile.script → Shortened call a after c t → Checks (handed_over call (rows_left call c t) (symbols_left call c t)) 0 0 0 (rooms_filled (rows_left call c t) (symbols_left call c t) call.rooms)
accepted_packed p s = answer_checked s.answers p refl
