-- Leaves: a node of one token, also of one whose text has a symbol; a name with a row; and a dot with its name.
use Prim.Native.Nat.{ℕ, ◌+◌, ◌<◌}
use native.Mathlib.Omega.{arith}
use mathlib.Core.Bool.{false}
use mathlib.Core.List.{List, [], ◌∷◌}
use mathlib.Core.Logic.{⊎_elim}
use mathlib.Core.Path.{◌≡◌, refl, sym, ap, ◌∙◌}
use lib.ListN.{length, get_or}
use Rattle.ast.specs.Inserted.{Tried}
use Rattle.ast.specs.declared.Node.{Node}
use Rattle.grammar.specs.Handle.{Handle, absent, link, head, from, upto}
use Rattle.grammar.specs.Kaori.{Form, Table, leaf, name, calls, rules, kaori}
use Rattle.grammar.specs.Kind.{Dot, True, False, Semicolon, StringLiteral, Identifier}
use Rattle.grammar.specs.Label.{Label, Node as Form-of, number_of}
use Rattle.grammar.specs.Phrase.{empty, token, Grammar, Tree, made, none, Aim, whole, begun, Reads}
use Rattle.grammar.specs.Refusal.{Refused, Passes, Refuses}
use Rattle.grammar.specs.Rows.{Rows, make, put, fill, numbers, write, walk, then}
use Rattle.grammar.specs.Rule.{rule}
use Rattle.grammar.specs.Space.{Space, has_word, Named, Lacks}
use Rattle.grammar.specs.Token.{kind, start, end, count}
use Rattle.grammar.proofs.Room.{paid, spare}
use Rattle.names.specs.Resolved.{names_of}
use Rattle.reading.specs.Answers.{next, node_of, name_of, Answered}
use Rattle.reading.specs.Chains.{Onward}
use Rattle.reading.specs.Parts.{Makes, Single, single_node, single_fields}
use Rattle.reading.specs.Reading.{tables, Reading, Success, Refusing}
use Rattle.reading.specs.State.{State, state, written, Lent, Within, Ready}
use Rattle.reading.specs.declared.Cursor.{Cursor}
use Rattle.reading.specs.declared.Read.{Read}
use Rattle.reading.specs.declared.Refusal.{Refusal}
use Rattle.reading.specs.declared.Terms.{Terms}
use Rattle.reading.proofs.Chains.{tried, stopped}
use Rattle.reading.proofs.Entering.{entered_alone, Tries, from_before, row_tried}
use Rattle.reading.proofs.Laws.{plain, Made, nothing, taken, ready_next}
use Rattle.reading.proofs.Refusals.{past_token}
use Rattle.reading.proofs.Replies.{Taken, built, further}
use Rattle.reading.proofs.Taking.{free}

-- a token was read as a node
leaf_tried : {ts ns ls ss ns' ls' ss' : List ℕ} {terms : Terms} {o x : ℕ} {f : Form-of} {c : Cursor} {q : Read} → Ready ts terms o (state ns ls ss c) → kind ts c.at ≡ x → c.at + 1 < count ts →
    Tries ts (Label.Row f) c.at (state ns ls ss (next c)) [] [] ns' ls' ss' q → Answered ts terms node_of (whole (leaf f x)) o (state ns ls ss c) ns' ls' ss' q
unfolding paid spare
leaf_tried r e h m = built r (record { pays = tt }) h (taken e (nothing r.deep)) m

-- `break`, `continue`, `true`, `false`, `nil` and numbers
single_row : (ts ns ls ss : List ℕ) (a : ℕ) (c : Cursor) {x : ℕ} → Single x → kind ts a ≡ x →
    make ts (names_of ts ss) (Label.Row (single_node x)) a c.at (written (state ns ls ss c)) [] [] ≡ entered_alone c ns ls (number_of (single_node x)) (start ts a) (end ts a)
    (single_fields x)
unfolding make put fill numbers write rule
single_row ts ns ls ss a c s k =
    ⊎_elim (λ e. rw e)
    (⊎_elim (λ e. rw e) (⊎_elim (λ e. let z : kind ts a ≡ True = k ∙ e in rw (e, z)) (⊎_elim (λ e. let z : kind ts a ≡ False = k ∙ e in rw (e, z)) (⊎_elim (λ e. rw e) (λ e. rw e)))))
    s.known

single_below : {x : ℕ} → Single x → x < Semicolon
single_below s = ⊎_elim (λ e. omega arith) (⊎_elim (λ e. omega arith) (⊎_elim (λ e. omega arith) (⊎_elim (λ e. omega arith) (⊎_elim (λ e. omega arith) (λ e. omega arith))))) s.known

single_plain : {x : ℕ} → Single x → has_word (Label.Row (single_node x)) ≡ false
unfolding has_word
single_plain s = ⊎_elim (λ e. rw e) (⊎_elim (λ e. rw e) (⊎_elim (λ e. rw e) (⊎_elim (λ e. rw e) (⊎_elim (λ e. rw e) (λ e. rw e))))) s.known

pub single_read : {ts ns ls ss ns' : List ℕ} {terms : Terms} {o x : ℕ} {c d : Cursor} {place n : Node} {q : Read} → Makes n d q → Ready ts terms o (state ns ls ss c) → Single x →
    Taken ts c x place d →
    Tried d.nodes (number_of (single_node x)) place.start place.end (single_fields x) ns ns' n → Answered ts terms node_of (whole (leaf (single_node x) x)) o (state ns ls ss c) ns' ls ss q
single_read {ts} {ns} {ls} {ss} {ns'} {x = x} {c = c} {place = place} {n = n} {q = q} m r s t i =
    let b = single_below s in
    let j : Tried c.nodes (number_of (single_node x)) (start ts c.at) (end ts c.at) (single_fields x) ns ns' n = rw (t.after, t.node_is) at i in
    let o : Makes n (next c) q = rw t.after at m in
    let w = (ready_next r t.kind_is (λ z. omega arith)).within in
    leaf_tried r t.kind_is w.at (row_tried w r.lent (λ h z. plain (single_plain s) h) (single_row ts ns ls ss c.at (next c) s t.kind_is) o j)

-- where a token was just taken a row more has a number
pub next_row : {ts ns ls ss : List ℕ} {terms : Terms} {o x : ℕ} {c d : Cursor} {n : Node} → Ready ts terms o (state ns ls ss c) → Taken ts c x n d → d.nodes < absent
next_row r t = rw t.after (free r.lent r.within)

pub string_read : {ts ns ls ss ns' : List ℕ} {terms : Terms} {o symbol : ℕ} {c d : Cursor} {place n : Node} {q : Read} → Makes n d q → Ready ts terms o (state ns ls ss c) →
    Taken ts c StringLiteral place d →
    symbol ≡ names_of ts ss c.at → (symbol ≡ absent → ⊥) → Tried d.nodes (number_of Form-of.String) place.start place.end (symbol ∷ []) ns ns' n →
    Answered ts terms node_of (whole (leaf Form-of.String StringLiteral)) o (state ns ls ss c) ns' ls ss q
unfolding make put fill numbers write rule
string_read {ts} {ns} {ls} {ss} {ns'} {c = c} {n = n} {q = q} m r t y a i =
    let k = t.kind_is in
    let j : Tried c.nodes (number_of Form-of.String) (start ts c.at) (end ts c.at) (names_of ts ss c.at ∷ []) ns ns' n = rw (t.after, t.node_is, y) at i in
    let o : Makes n (next c) q = rw t.after at m in
    let w = (ready_next r k (λ z. omega arith)).within in
    leaf_tried r k w.at (row_tried w r.lent (λ h z. a (y ∙ z)) refl o j)

-- a name writes nothing
module _ {ts : List ℕ} {σ k : ℕ → ℕ} {limit o a b : ℕ} {z : Space} {G : Grammar Table Label} {w : Rows} {t : Tree Label} (p : Passes ts σ limit z G k (whole (token Identifier empty)) o a w b t) where
  unlinked : z.links < length (then ts σ (made Label.Name a b t) w).links → ⊥
  unfolding walk make
  unlinked h = omega (arith, p.fits.links)

  unrowed : z.nodes < length (then ts σ (made Label.Name a b t) w).nodes → ⊥
  unfolding walk make
  unrowed h = omega (arith, p.fits.nodes)

-- what was read as a name is one token: what it made
read_name : {G : Grammar Table Label} {k : ℕ → ℕ} {a b : ℕ} {t : Tree Label} → Reads G k (whole name) a b t → (k a ≡ Identifier) × (b ≡ a + 1) × (t ≡ made Label.Name a b none)
read_name (Reads.labelled (Reads.taken k Reads.nothing)) = (k, refl, refl)

name_made : {ts ns ls ss : List ℕ} {terms : Terms} {o : ℕ} {c : Cursor} {hs : List Handle} {s' : State} → Reading ts terms (whole name) o (state ns ls ss c) hs [] s' →
    Made ts Label.Name c.at (state ns ls ss (next c)) [] [] hs s'
unfolding walk Named
name_made r =
    let (k, b, t) = read_name r.reads in
    record {
      word = (rw t at r.named).1;
      makes = rw (t, b) at r.rows;
      at = b;
      holds = r.holds;
      same = r.same;
      rooms = record { nodes = r.rooms.nodes; links = r.rooms.links; scratch = r.rooms.scratch; stands = r.rooms.stands };
      kept = r.kept;
    }

-- a name with a row is an identifier: the row is made of the name, or lacks room
identifier_tried : {ts ns ls ss ns' : List ℕ} {a : ℕ} {s : State} {c : Cursor} {word n : Node} {q : Read} → Within ts (state ns ls ss c) → Lent ts →
    Made ts Label.Name a s [] [] (name_of word ∷ []) (state ns ls ss c) → Makes n c q →
    Tried c.nodes (number_of Form-of.Identifier) word.start word.end (word.id ∷ word.start ∷ word.end ∷ []) ns ns' n →
    Tries ts (Label.Row Form-of.Identifier) a s [] [] ns' ls ss q
unfolding make put fill numbers write rule has_word
identifier_tried {ts} {ns} {ls} {ss} {a = a} {s = s} {c = c} {word = word} w l m o i =
    let id : names_of ts ss a ≡ word.id = ap (λ σ. σ a) m.kept ∙ ap (λ w. get_or (link (head w.first)) 0 0) m.makes in
    let from_is : start ts a ≡ word.start = ap (λ w. from (head w.first)) m.makes in
    let upto_is : end ts a ≡ word.end = ap (λ w. upto (head w.first)) m.makes in
    from_before m (ap (λ w. w.rows) m.makes) (row_tried w l (λ h e. m.word refl (ap (λ σ. σ a) (sym m.kept) ∙ e)) (rw (id, from_is, upto_is)) o i)

pub identifier_read : {ts ns ls ss ns' : List ℕ} {terms : Terms} {o : ℕ} {c d : Cursor} {word n : Node} {ns₀ ls₀ ss₀ : List ℕ} {q : Read} → Makes n d q →
    Ready ts terms o (state ns₀ ls₀ ss₀ c) → Success ts terms (whole name) o (state ns₀ ls₀ ss₀ c) (name_of word ∷ []) (state ns ls ss d) →
    Tried d.nodes (number_of Form-of.Identifier) word.start word.end (word.id ∷ word.start ∷ word.end ∷ []) ns ns' n →
    Answered ts terms node_of (whole (leaf Form-of.Identifier Identifier)) o (state ns₀ ls₀ ss₀ c) ns' ls ss q
identifier_read {ts = ts} {c = c} m r z i =
    let (k, b, t) = read_name z.reading.reads in
    let h : c.at + 1 < count ts = omega (arith, z.within.at) in
    leaf_tried r k h (identifier_tried z.within r.lent (name_made z.reading) m i)

-- a name's refusal is an identifier's: its token is missing, or its symbol has no room
as_identifier : {ts : List ℕ} {σ k : ℕ → ℕ} {limit o a : ℕ} {z : Space} {G : Grammar Table Label} {w : Rows} {q : Refused} → Refuses ts σ limit z G k name o a w q →
    Refuses ts σ limit z G k (leaf Form-of.Identifier Identifier) o a w q
unfolding has_word
as_identifier (Refuses.in_node h) = Refuses.in_node h
as_identifier (Refuses.no_room p (Lacks.word h e)) = Refuses.no_room p (Lacks.word refl e)
as_identifier (Refuses.no_room p (Lacks.link h l)) = absurd (unlinked p l)
as_identifier (Refuses.no_room p (Lacks.row h l r)) = absurd (unrowed p r)

pub relabelled : {ts : List ℕ} {terms : Terms} {o : ℕ} {s : State} {q : Refused} → Refusing ts terms name o s q → Refusing ts terms (leaf Form-of.Identifier Identifier) o s q
relabelled x = record { refuses = as_identifier x.refuses }

-- a dot and a name go on with a chain of calls
module _ {ts ns₀ ls₀ ss₀ ns ls ss : List ℕ} {terms : Terms} {o : ℕ} {p : Form} {c d : Cursor} {dot object : Node} (r : Ready ts terms o (state ns₀ ls₀ ss₀ c)) (t : Taken ts c Dot dot d) where
  pub property_read : {ns' : List ℕ} {e : Cursor} {word n : Node} {q : Read} → Makes n e q →
      Success ts terms (whole name) o (state ns₀ ls₀ ss₀ d) (name_of word ∷ []) (state ns ls ss e) →
      Tried e.nodes (number_of Form-of.PropertyAccess) dot.start word.end (object.id ∷ word.id ∷ word.start ∷ word.end ∷ []) ns ns' n →
      Onward ts terms p calls (begun p calls) o (state ns₀ ls₀ ss₀ c) object (c.at + 1) ns' ls ss q
  unfolding kaori rules make put fill numbers write rule has_word
  property_read {ns'} {e} {word} {n} m z i =
      let y : Success ts terms (whole name) o (state ns₀ ls₀ ss₀ (next c)) (name_of word ∷ []) (state ns ls ss e) = rw t.after at z in
      let j : Tried e.nodes (number_of Form-of.PropertyAccess) (start ts c.at) word.end (object.id ∷ word.id ∷ word.start ∷ word.end ∷ []) ns ns' n = rw t.node_is at i in
      let k = t.kind_is in
      tried r.within (ap (tables terms calls) k) (taken k y.reading) z.within.at y.past (row_tried z.within r.lent (λ h z. plain refl h) refl m j)

  pub property_refused : {g : Aim Table Label} {a : ℕ} {q : Read} {x : Refusal} → q ≡ Read.Refused x → Answered ts terms name_of (whole name) o (state ns₀ ls₀ ss₀ d) ns ls ss q →
      Onward ts terms p calls g o (state ns₀ ls₀ ss₀ c) object a ns ls ss q
  unfolding kaori rules
  property_refused {q = q} e z =
      let y : Answered ts terms name_of (whole name) o (state ns₀ ls₀ ss₀ (next c)) ns ls ss q = rw t.after at z in
      let k = t.kind_is in
      stopped e y (λ s x b h. further b (ap (tables terms calls) k) (past_token k h))
