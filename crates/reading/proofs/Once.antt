-- Two outcomes that the contract of a reader allows for one entry are the same: both succeed, with one node and one cursor, the same rows written so far and the
-- same rows held; or both are refused, alike. What the rooms hold beyond these rows, and after a refusal, is not settled: `parse` clears it.
use Prim.Native.Nat.{ℕ, ◌+◌, ◌*◌, ◌≤◌}
use native.Mathlib.Decide.{ℕ_discrete, dec_le}
use native.Mathlib.Omega.{arith}
use mathlib.Core.Bool.{Bool, true, false, cond}
use mathlib.Core.List.{List, [], ◌∷◌, ◌++◌}
use mathlib.Core.Logic.{inl, inr}
use mathlib.Core.Path.{◌≡◌, refl, sym, ap, ◌∙◌}
use lib.Dec.{eqb}
use lib.ListN.{length, take}
use lib.Seq.{length-take-le}
use Rattle.ast.specs.declared.Node.{Node}
use Rattle.ast.proofs.Rooms.{written_once}
use Rattle.grammar.specs.Edition.{Edition}
use Rattle.grammar.specs.Handle.{Handle, row, absent}
use Rattle.grammar.specs.Kaori.{Form, expression, group, leaf, calls, may_end, must_end, rules, kaori}
use Rattle.grammar.specs.Kind.{LeftParen, Identifier, Eof}
use Rattle.grammar.specs.Label.{Node as Node-of}
use Rattle.grammar.specs.Phrase.{empty, chain, whole}
use Rattle.grammar.specs.Room.{node_width}
use Rattle.grammar.specs.Rows.{links_of, walk}
use Rattle.grammar.proofs.Machine.{one_reading, read_not_refused, one_refusal}
use Rattle.names.specs.Resolved.{names_of}
use Rattle.reading.specs.Answers.{node_of, name_of, tail_of, holding, Took, Consumed, AnswerCase, Answered, Listed, ListCase, Lists, StateCase, States}
use Rattle.reading.specs.Parts.{Makes, MakesList, Separates, Separated, Gathered, Ends, Ended, Untailed, Bare, head_form, Lone}
use Rattle.reading.specs.Reading.{refusal, Success}
use Rattle.reading.specs.State.{State, state, written, held, Within}
use Rattle.reading.specs.declared.Cursor.{Cursor}
use Rattle.reading.specs.declared.Read.{Read}
use Rattle.reading.specs.declared.Refusal.{Refusal}
use Rattle.reading.specs.declared.Terms.{Terms}
use Rattle.reading.proofs.Laws.{pass}

-- what is the same after two successes: what they stand for, where they ended, what is written and what is held
pub record Alike (hs hs' : List Handle) (s s' : State) : Type 0 where
  pub handles : hs ≡ hs'
  pub cursor : s.cursor ≡ s'.cursor
  pub rows : written s ≡ written s'
  pub stack : held s ≡ held s'

-- rows that are the same are as many
rows_counted : (w n m : ℕ) (l k : List ℕ) → w * n ≤ length l → w * m ≤ length k → take (w * n) l ≡ take (w * m) k → w * n ≡ w * m
rows_counted w n m l k h i e = sym (length-take-le (w * n) l h) ∙ ap length e ∙ length-take-le (w * m) k i

cursors : {c d : Cursor} → c.nodes ≡ d.nodes → c.links ≡ d.links → c.held ≡ d.held → c.at ≡ d.at → c ≡ d
cursors {c} {d} n l h a =
    let e : ◌≡◌ {A = Cursor} (record { nodes = c.nodes; links = c.links; held = c.held; at = c.at }) (record { nodes = d.nodes; links = d.links; held = d.held; at = d.at }) = rw
    (n, l, h, a) in
    e

nodes : {n m : Node} → n.id ≡ m.id → n.start ≡ m.start → n.end ≡ m.end → n ≡ m
nodes {n} {m} i s e =
    let z : ◌≡◌ {A = Node} (record { id = n.id; start = n.start; end = n.end }) (record { id = m.id; start = m.start; end = m.end }) = rw (i, s, e) in
    z

refusals : {q r : Refusal} → refusal q ≡ refusal r → q ≡ r
refusals {q} {r} e =
    let c : q.code ≡ r.code = cc in
    let a : q.at ≡ r.at = cc in
    let x : q.expected ≡ r.expected = cc in
    let z : ◌≡◌ {A = Refusal} (record { code = q.code; expected = q.expected; at = q.at }) (record { code = r.code; expected = r.expected; at = r.at }) = rw (c, a, x) in
    z

-- two successes of one phrase from one entry
module _ {ts : List ℕ} {terms : Terms} {o : ℕ} {p : Form} {s s₁ s₂ : State} {hs hs' : List Handle} where
  pub one_success : Success ts terms (whole p) o s hs s₁ → Success ts terms (whole p) o s hs' s₂ → Alike hs hs' s₁ s₂
  one_success x y =
      let (at, tree) = one_reading x.reading.reads y.reading.reads in
      let e = sym x.reading.rows ∙ ap (λ t. walk ts (names_of ts s.scratch) t (written s)) tree ∙ y.reading.rows in
      let w : written s₁ ≡ written s₂ = ap (λ v. v.rows) e in
      let v = x.within in
      let u = y.within in
      let n = rows_counted node_width s₁.cursor.nodes s₂.cursor.nodes s₁.nodes s₂.nodes v.stands.node_rows u.stands.node_rows
      (ap (λ r. r.nodes) w) in
      let l = rows_counted 3 s₁.cursor.links s₂.cursor.links s₁.links s₂.links v.stands.link_rows
      u.stands.link_rows (ap (λ r. r.links) w) in
      record {
        handles = ap (λ v. v.first) e;
        cursor = cursors (omega (arith, n)) (omega (arith, l)) (x.reading.holds ∙ sym y.reading.holds) at;
        rows = w;
        stack = x.reading.same ∙
            sym y.reading.same;
      }

-- two outcomes are the same, in the rows that are written and held
unfoldable pub Same : (nodes links scratch nodes' links' scratch' : List ℕ) → Read → Read → Type 0
Same ns ls ss ns' ls' ss' (Read.Node n c) (Read.Node m d) = (n ≡ m) × (c ≡ d) × (written (state ns ls ss c) ≡ written (state ns' ls' ss' d)) × (held (state ns ls ss c) ≡ held (state ns' ls' ss' d))
Same ns ls ss ns' ls' ss' (Read.Refused q) (Read.Refused r) = q ≡ r
Same ns ls ss ns' ls' ss' (Read.Node n c) (Read.Refused r) = ⊥
Same ns ls ss ns' ls' ss' (Read.Refused q) (Read.Node m d) = ⊥

heads : {h h' : Handle} → h ∷ [] ≡ h' ∷ [] → h ≡ h'
heads e = cc

-- a node that stands for a row, or for a name, is known by what it stands for
pub node_alike : (n m : Node) → node_of n ≡ node_of m → n ≡ m
node_alike n m e = nodes (cc) (cc) (cc)

pub name_alike : (n m : Node) → name_of n ≡ name_of m → n ≡ m
name_alike n m e = nodes (cc) (cc) (cc)

-- once a list's items are held no more, the cursor is within the list as before
let_go : {ts : List ℕ} {terms : Terms} {o : ℕ} {p : Form} {s s₁ : State} → Listed ts terms (whole p) o s s₁ → Within ts (holding s.cursor.held s₁)
let_go l = let w = l.within in record {
  roomy = record { scratch = w.roomy.scratch };
  stands = w.stands;
  at = w.at;
  rows = w.rows;
  links = omega (arith, w.links, l.count);
  stack = omega (arith, w.stack, l.count);
}

module _ {ts : List ℕ} {terms : Terms} {o : ℕ} {p : Form} {s : State} {ns ls ss ns' ls' ss' : List ℕ} where
  -- of a reader whose node stands for what it read
  pub one_answered : (h : Node → Handle) → ((n m : Node) → h n ≡ h m → n ≡ m) → (r r' : Read) → Answered ts terms h (whole p) o s ns ls ss r →
      Answered ts terms h (whole p) o s ns' ls' ss' r' → Same ns ls ss ns' ls' ss' r r'
  unfolding AnswerCase Same
  one_answered h alike (Read.Node n c) (Read.Node m d) a b = let e = one_success a.says b.says in (alike n m (heads e.handles), e.cursor, e.rows, e.stack)
  one_answered h alike (Read.Refused q) (Read.Refused r) a b = refusals (one_refusal a.says.refuses b.says.refuses)
  one_answered h alike (Read.Node n c) (Read.Refused r) a b = read_not_refused (pass a.says.reading) b.says.refuses
  one_answered h alike (Read.Refused q) (Read.Node m d) a b = read_not_refused (pass b.says.reading) a.says.refuses

  -- of a list's reader: the items that are held are the same too
  pub one_lists : (r r' : Read) → Lists ts terms (whole p) o s ns ls ss r → Lists ts terms (whole p) o s ns' ls' ss' r' → Same ns ls ss ns' ls' ss' r r'
  unfolding ListCase Same
  one_lists (Read.Node n c) (Read.Node m d) a b =
      let x = a.says.1 in
      let y = b.says.1 in
      let u : Success ts terms (whole p) o s x.items (holding s.cursor.held (state ns ls ss c)) = record { reading = x.reading; within = let_go x; past = x.past } in
      let v : Success ts terms (whole p) o s y.items (holding s.cursor.held (state ns' ls' ss' d)) = record { reading = y.reading; within = let_go y; past = y.past } in
      let e = one_success u v in
      let k = e.cursor in
      let h = x.count ∙ ap (λ i. s.cursor.held + length i) e.handles ∙ sym y.count in
      (a.says.0 ∙ sym b.says.0, cursors (ap (λ c. c.nodes) k) (ap (λ c. c.links) k) h (ap (λ c. c.at) k), e.rows, x.rows ∙ ap (λ i. held s ++ links_of i) e.handles ∙ sym y.rows)
  one_lists (Read.Refused q) (Read.Refused r) a b = refusals (one_refusal a.says.refuses b.says.refuses)
  one_lists (Read.Node n c) (Read.Refused r) a b = read_not_refused (pass a.says.1.reading) b.says.refuses
  one_lists (Read.Refused q) (Read.Node m d) a b = read_not_refused (pass b.says.1.reading) a.says.refuses

-- of the functions that read no phrase
pub one_consumed : {ts : List ℕ} {c : Cursor} {x : ℕ} (r r' : Read) → Consumed ts c x r → Consumed ts c x r' → r ≡ r'
unfolding Took
one_consumed (Read.Node n c) (Read.Node m d) a b = let i = a.says.1 ∙ sym b.says.1 in let k = a.says.2 ∙ sym b.says.2 in cc
one_consumed (Read.Refused q) (Read.Refused r) a b = ap Read.Refused (a.says.1 ∙ sym b.says.1)
one_consumed (Read.Node n c) (Read.Refused r) a b = absurd (b.says.0 a.says.0)
one_consumed (Read.Refused q) (Read.Node m d) a b = absurd (a.says.0 b.says.0)

pub one_untailed : {tail : ℕ} {c : Cursor} {r r' : Read} → Untailed tail c r → Untailed tail c r' → r ≡ r'
one_untailed {tail} a b = elim (ℕ_discrete tail absent) [ yes e ↦ a.none e ∙ sym (b.none e) | no n ↦ a.one n ∙ sym (b.one n) ]

pub one_gathered : {base : ℕ} {c d e : Cursor} {scratch before after other : List ℕ} → Gathered base c scratch before after d → Gathered base c scratch before other e → (d ≡ e) × (after ≡ other)
one_gathered {d = d} {before = before} a b =
    let k = a.cursor ∙ sym b.cursor in
    let l : 3 * d.links ≡ 3 * _ = ap (λ f. 3 * f.links) k in (
      k,
      elim (dec_le (3 * d.links) (length before)) [
        | yes h ↦ written_once (a.links h) (b.links (omega (arith, l)))
        | no n ↦ a.kept (omega (arith, n)) ∙ sym (b.kept (omega (arith, n, l)))
      ],
    )

pub one_made : {n : Node} {c : Cursor} {r r' : Read} → Makes n c r → Makes n c r' → r ≡ r'
one_made (Makes.made a) (Makes.made b) = refl
one_made (Makes.full a) (Makes.full b) = refl
one_made (Makes.made a) (Makes.full b) = absurd (a b)
one_made (Makes.full a) (Makes.made b) = absurd (b a)

pub one_made_list : {m : ℕ} {n : Node} {c : Cursor} {r r' : Read} → MakesList m n c r → MakesList m n c r' → r ≡ r'
one_made_list (MakesList.listed h a) (MakesList.listed i b) = one_made a b
one_made_list (MakesList.full h) (MakesList.full i) = refl
one_made_list (MakesList.listed h a) (MakesList.full i) = absurd (omega arith)
one_made_list (MakesList.full h) (MakesList.listed i b) = absurd (omega arith)

pub one_separated : {ts : List ℕ} {n : Node} {c : Cursor} {z : ℕ} (r r' : Read) → Separated ts n c z r → Separated ts n c z r' → r ≡ r'
unfolding Separates
one_separated (Read.Node n d) (Read.Node m e) a b =
    let i = a.says.0 ∙ sym b.says.0 in
    let k : d ≡ e = elim a.says.1 [
      | inl x ↦ elim b.says.1 [ inl y ↦ x.1 ∙ sym y.1 | inr y ↦ absurd (y.0 x.0) ]
      | inr x ↦ elim b.says.1 [ inl y ↦ absurd (x.0 y.0) | inr y ↦ x.2 ∙ sym y.2 ]
    ] in
    cc
one_separated (Read.Refused q) (Read.Refused r) a b = ap Read.Refused (a.says.2 ∙ sym b.says.2)
one_separated (Read.Node n d) (Read.Refused r) a b = absurd (elim a.says.1 [ inl x ↦ b.says.0 x.0 | inr x ↦ b.says.1 x.1 ])
one_separated (Read.Refused q) (Read.Node m e) a b = absurd (elim b.says.1 [ inl x ↦ a.says.0 x.0 | inr x ↦ a.says.1 x.1 ])

-- the two tables that end a statement differ: before Eof one has nothing, and the other requires `;`
may_not_must : may_end ≡ must_end → ⊥
unfolding kaori rules
may_not_must e = let z : kaori Edition.first may_end Eof ≡ kaori Edition.first must_end Eof = ap (λ t. kaori Edition.first t Eof) e in let y : ◌≡◌ {A = ℕ} 0 1 = cc in omega (arith, y)

pub one_ended : {ts : List ℕ} {n : Node} {c : Cursor} {x : ℕ} (r r' : Read) → Ended ts n c x r → Ended ts n c x r' → r ≡ r'
unfolding Ends
one_ended (Read.Node m d) (Read.Node k e) a b = elim a.says [
  | inl u ↦ elim b.says [ inl v ↦ (let i = u.1 ∙ sym v.1 in let j = u.2 ∙ sym v.2 in cc) | inr v ↦ absurd (v.0 u.0) ]
  | inr u ↦ elim b.says [ inl v ↦ absurd (u.0 v.0) | inr v ↦ (let i = u.2 ∙ sym v.2 in let j = u.3 ∙ sym v.3 in cc) ]
]
one_ended (Read.Refused q) (Read.Refused r) a b = ap Read.Refused (a.says.3 ∙ sym b.says.3)
one_ended (Read.Node m d) (Read.Refused r) a b = absurd (elim a.says [ inl u ↦ b.says.0 u.0 | inr u ↦ elim u.1 [ inl v ↦ b.says.1 v | inr v ↦ may_not_must (sym v ∙ b.says.2) ] ])
one_ended (Read.Refused q) (Read.Node k e) a b = absurd (elim b.says [ inl u ↦ a.says.0 u.0 | inr u ↦ elim u.1 [ inl v ↦ a.says.1 v | inr v ↦ may_not_must (sym v ∙ a.says.2) ] ])

-- nothing is no expression
not_both : ◌≡◌ {A = Form} empty expression → ⊥
not_both e = let z : ◌≡◌ {A = ℕ} 0 1 = cc in omega (arith, z)

pub one_bare : {n x : ℕ} (r r' : Bool) → Bare n x r → Bare n x r' → r ≡ r'
one_bare true true a b = refl
one_bare false false a b = refl
one_bare true false a b = absurd (not_both (sym a.form ∙ b.form))
one_bare false true a b = absurd (not_both (sym b.form ∙ a.form))

-- what a chain starts with is no chain
no_chain : (x : ℕ) → head_form x ≡ chain (head_form x) calls → ⊥
unfolding head_form
no_chain x = pick (eqb x LeftParen)
  where
    pick : (b : Bool) → ◌≡◌ {A = Form} (cond b group (leaf Node-of.Identifier Identifier)) (chain (cond b group (leaf Node-of.Identifier Identifier)) calls) → ⊥
    pick true e = let z : ◌≡◌ {A = ℕ} 0 1 = cc in omega (arith, z)
    pick false e = let z : ◌≡◌ {A = ℕ} 0 1 = cc in omega (arith, z)

pub one_lone : {n x : ℕ} (r r' : Bool) → Lone n x r → Lone n x r' → r ≡ r'
one_lone true true a b = refl
one_lone false false a b = refl
one_lone {x = x} true false a b = absurd (no_chain x (sym a.form ∙ b.form))
one_lone {x = x} false true a b = absurd (no_chain x (sym b.form ∙ a.form))

module _ {ts : List ℕ} {terms : Terms} {o : ℕ} {s : State} {ns ls ss ns' ls' ss' : List ℕ} where
  pub one_statement : (r r' : Read) → States ts terms o s ns ls ss r → States ts terms o s ns' ls' ss' r' → Same ns ls ss ns' ls' ss' r r'
  unfolding StateCase Same
  one_statement (Read.Node n c) (Read.Node m d) a b =
      let x = a.says in
      let y = b.says in
      let e = one_success x.success y.success in
      let h = heads e.handles in
      (nodes (sym x.row_is ∙ ap row h ∙ y.row_is) (x.start_is ∙ sym y.start_is) (sym x.tail_is ∙ ap (λ i. row (tail_of i)) h ∙ y.tail_is), e.cursor, e.rows, e.stack)
  one_statement (Read.Refused q) (Read.Refused r) a b = refusals (one_refusal a.says.refuses b.says.refuses)
  one_statement (Read.Node n c) (Read.Refused r) a b = read_not_refused (pass a.says.success.reading) b.says.refuses
  one_statement (Read.Refused q) (Read.Node m d) a b = read_not_refused (pass b.says.success.reading) a.says.refuses
