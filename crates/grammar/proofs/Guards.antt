-- A guard is the script of one statement: a list that reads as a guard reads, with a `;` before its Eof, as a script of that one statement, with the guard's rows and
-- then the root.
use Prim.Native.Nat.{ℕ, zero, suc, ◌+◌, ◌-◌, ◌≤◌, ◌<◌}
use mathlib.Core.Bool.{false}
use mathlib.Core.List.{List}
use mathlib.Core.Path.{◌≡◌, refl, sym, ap, ◌∙◌, subst}
use native.Mathlib.Omega.{arith}
use lib.Dec.{T}
use Rattle.grammar.specs.Builtin.{Builtins}
use Rattle.grammar.specs.Door.{Whole, Inside}
use Rattle.grammar.specs.Edition.{Edition}
use Rattle.grammar.specs.Kaori.{Table, above, expression, assignment, strict, rules, kaori, Script}
use Rattle.grammar.specs.Kind.{LeftBrace, Let, Const, Ref, Function, For, While, Break, Continue, If, Return, Import, Semicolon, Eof}
use Rattle.grammar.specs.Label.{Label}
use Rattle.grammar.specs.Outcome.{accepted, Comes}
use Rattle.grammar.specs.Parent.{parented, written}
use Rattle.grammar.specs.Phrase.{Tree, none, more, made, whole, refusal, Reads, depth}
use Rattle.grammar.specs.Profile.{Profile, allowed, ReadsAll}
use Rattle.grammar.specs.Rows.{Rows, blank, links_of, numbers, write, fill, put, make, walk, unparented}
use Rattle.grammar.specs.Space.{Space, Enough}
use Rattle.grammar.specs.Symbol.{is_name, symbol_rows, symbol}
use Rattle.grammar.specs.Token.{kind, start, end, count}
use Rattle.grammar.proofs.Follow.{no_expression}
use Rattle.grammar.proofs.Halves.{traits, least, takes}
use Rattle.grammar.proofs.Outcomes.{guard_parts}
use Rattle.grammar.proofs.Room.{all_room}
use Rattle.grammar.proofs.Rooting.{then_root, with_root, root_later, root_put}
use Rattle.grammar.proofs.Steady.{SameToken, Carried, expression_carried}
use Rattle.grammar.proofs.Tables.{unlisted, unkeyed}
use Rattle.grammar.proofs.Tops.{tops, Top, top}
use Rattle.grammar.proofs.Trees.{one_tree, all_whole, later_names}

-- us is the list ts with a `;` before its Eof, in the same text
pub record WithSemicolon (ts us : List ℕ) : Type 0 where
  pub more : count us ≡ count ts + 1
  pub same : (i : ℕ) → i + 1 < count ts → (kind us i ≡ kind ts i) × (start us i ≡ start ts i) × (end us i ≡ end ts i)
  pub semicolon : kind us (count ts - 1) ≡ Semicolon
  pub eof : kind us (count ts) ≡ Eof

-- a list that reads as the guard t reads, with a `;` before its Eof, as a script: as deep, with the same symbols, and with the rows of t and then the root, before
-- parents are put in and after
pub record AsScript (e : Edition) (names : Builtins) (text ts us : List ℕ) (t : Tree Label) : Type 0 where
  pub tree : Tree Label
  pub reads : Script e (kind us) (count us - 1) tree
  pub deep : depth tree ≡ depth t
  pub symbols : symbol_rows names text us (count us) ≡ symbol_rows names text ts (count ts)
  pub rows : unparented us (symbol names text us) tree ≡ then_root (unparented ts (symbol names text ts) t)
  pub all_rows : written us (symbol names text us) tree ≡ with_root (written ts (symbol names text ts) t)

-- lists that are the same below n have the same symbols there, and a token that has no word adds no row
module _ (names : Builtins) (text ts us : List ℕ) (n : ℕ) (same : (i : ℕ) → i < n → SameToken ts us i) where
  rows_same : (i : ℕ) → i ≤ n → symbol_rows names text ts i ≡ symbol_rows names text us i
  unfolding symbol_rows
  rows_same zero h = refl
  rows_same (suc i) h = let z = same i h in rw (z.kinds, z.starts, z.ends, rows_same i (omega arith))

  symbol_same : (i : ℕ) → i < n → symbol names text ts i ≡ symbol names text us i
  unfolding symbol
  symbol_same i h = let z = same i h in rw (z.kinds, z.starts, z.ends, rows_same i (omega arith))

module _ (names : Builtins) (text ts : List ℕ) (i : ℕ) where
  silent : is_name ts i ≡ false → symbol_rows names text ts (suc i) ≡ symbol_rows names text ts i
  unfolding symbol_rows
  silent h = rw h

-- the script of one expression, which ends at token n with its `;`
unfoldable sole : ℕ → Tree Label → Tree Label
sole n x = made Label.Script 0 (n + 1) (made Label.Item 0 (n + 1) (more none (made Label.Ended n (n + 1) (more x none))))

sole_depth : (n : ℕ) (x : Tree Label) → depth (sole n x) ≡ depth (more x none)
unfolding sole depth
sole_depth n x = omega arith

-- no other statement begins as this expression does: `{` and `if` are outside the profile, and no operand begins with another of their first tokens
module _ (e : Edition) {kind : ℕ → ℕ} {n : ℕ} {x : Tree Label} (r : Reads (kaori e) kind (whole expression) 0 n x) (h : T (allowed Profile.guard (kind 0))) where
  never : (k : ℕ) → kaori e Table.operand k ≡ refusal 9 → kind 0 ≡ k → ⊥
  never k i j = no_expression (ap (kaori e Table.operand) j ∙ i) r

  a_statement : kaori e Table.statement (kind 0) ≡ strict assignment
  unfolding kaori rules
  a_statement =
      let brace : kind 0 ≡ LeftBrace → ⊥ = λ k. rw k at h in
      let if : kind 0 ≡ If → ⊥ = λ k. rw k at h in
      unlisted e Table.statement (kind 0) (never Import refl, (brace, (if, (never Function refl, (never While refl, (never For refl, (never Break refl, (never Continue refl, (never Return refl, (never Let refl, (never Const refl, (never Ref refl, tt))))))))))))

  sole_reads : kind n ≡ Semicolon → kind (n + 1) ≡ Eof → Script e kind (n + 1) (sole n x)
  unfolding sole kaori rules
  sole_reads s z =
      let item = Reads.chosen a_statement (Reads.joined (Reads.alone r (ap (kaori e Table.assigned) s)) (ap (kaori e Table.must_end) s) (Reads.taken s Reads.nothing)) in
      Reads.labelled (Reads.ended (Reads.link (Reads.first Reads.nothing) (unkeyed e Table.script_items (kind 0) refl (never Eof refl)) item) (ap (kaori e Table.script_items) z))

-- its rows are those of the expression, and then the root
sole_rows : (ts : List ℕ) (σ : ℕ → ℕ) (n : ℕ) (x : Tree Label) → Top (walk ts σ x blank) → unparented ts σ (sole n x) ≡ then_root (walk ts σ x blank).rows
unfolding sole unparented walk make put fill numbers write links_of
sole_rows ts σ n x t = rw t.made

-- a guard whose expression is x
module _ (e : Edition) (names : Builtins) (text ts us : List ℕ) (x : Tree Label) (l : Whole ts) (h : T (allowed Profile.guard (kind ts 0))) (s : WithSemicolon ts us) (r : Reads (kaori e) (kind ts) (whole expression) 0 (count ts - 1) x) (z : kind ts (count ts - 1) ≡ Eof) (y : ReadsAll Profile.guard e (kind ts) (count ts) (more x none)) where
  abbrev n : ℕ
  n = count ts - 1

  abbrev σ : ℕ → ℕ
  σ = symbol names text ts

  abbrev τ : ℕ → ℕ
  τ = symbol names text us

  same : (i : ℕ) → i < n → SameToken ts us i
  same i k = let q = s.same i (omega arith) in record { kinds = sym q.0; starts = sym q.1; ends = sym q.2 }

  ends : kind us (n + 1) ≡ Eof
  ends = let i : n + 1 ≡ count ts = omega (arith, l.some) in rw i s.eof

  over : Carried e ts us σ τ n z s.semicolon same (symbol_same names text ts us n same) (whole expression) 0 n x
  over = expression_carried e ts us σ τ n z s.semicolon same (symbol_same names text ts us n same) r

  some_token : 0 < n
  unfolding least traits above
  some_token = omega (arith, takes e r)

  reads : Script e (kind us) (count us - 1) (sole n x)
  reads = let i : n + 1 ≡ count us - 1 = omega (arith, l.some, s.more) in rw i at (sole_reads e over.reads (rw (s.same 0 (omega (arith, some_token))).0 h) s.semicolon ends)

  symbols : symbol_rows names text us (count us) ≡ symbol_rows names text ts (count ts)
  symbols =
      let i : count us ≡ suc (n + 1) = omega (arith, l.some, s.more) in
      let j : n + 1 ≡ suc n = omega arith in
      let k : count ts ≡ suc n = omega (arith, l.some) in
      rw (i, silent names text us (n + 1) (rw ends), j, silent names text us n (rw s.semicolon)) (sym (ap (symbol_rows names text ts) k ∙ silent names text ts n (rw z) ∙ rows_same names text ts us n same n (omega arith)))

  rows : unparented us τ (sole n x) ≡ then_root (unparented ts σ (more x none))
  unfolding unparented walk tops above
  rows = sole_rows us τ n x (top e us τ over.reads tt blank) ∙ ap (λ w. then_root w.rows) (sym (over.rows blank))

  all_rows : written us τ (sole n x) ≡ with_root (written ts σ (more x none))
  unfolding written
  all_rows =
      let m = l.some in
      let w = unparented ts σ (more x none) in
      let a = all_whole e ts σ Profile.guard (count ts) y in
      let o = one_tree e us τ Profile.script (count us) reads (omega (arith, s.more)) (omega (arith, l.most, s.more)) in
      ap parented rows ∙ root_put w a (omega (arith, (all_room e ts σ Profile.guard (count ts) y m).nodes, l.most)) (later_names e ts σ Profile.guard (count ts) y (root_later w a)) (rw rows at o) (one_tree e ts σ Profile.guard (count ts) y m (omega (arith, l.most))).some

  of_expression : AsScript e names text ts us (more x none)
  of_expression = record { tree = sole n x; reads = reads; deep = sole_depth n x; symbols = symbols; rows = rows; all_rows = all_rows }

-- any guard, of a list without the four kinds
pub guard_as_script : {e : Edition} (names : Builtins) {text ts us : List ℕ} {t : Tree Label} → Whole ts → ((i : ℕ) → i < count ts → Inside Profile.guard ts i) → WithSemicolon ts us → ReadsAll Profile.guard e (kind ts) (count ts) t → AsScript e names text ts us t
guard_as_script {e} names {text} {ts} {us} l h s y = let g = guard_parts y in subst (AsScript e names text ts us) (sym g.is) (of_expression e names text ts us g.inner l (h 0 l.some) s g.reads g.eof (subst (ReadsAll Profile.guard e (kind ts) (count ts)) g.is y))

-- what comes of a guard comes of its script, in rooms that have the root's rows too
pub guard_comes_script : {e : Edition} {names : Builtins} {text ts us : List ℕ} {limit room : ℕ} {space z : Space} {w : Rows} {ss : List ℕ} → Whole ts → ((i : ℕ) → i < count ts → Inside Profile.guard ts i) → WithSemicolon ts us → Comes Profile.guard e names text ts limit space room (accepted w ss) → Enough z (with_root w) → Comes Profile.script e names text us limit z room (accepted (with_root w) ss)
guard_comes_script {e} {names} {text} {ts} {us} {limit} {room} {z = z} l h s (Comes.read y d i j) k =
    let a = guard_as_script names {text = text} {us = us} l h s y in
    let c : Comes Profile.script e names text us limit z room (accepted (written us (symbol names text us) a.tree) (symbol_rows names text us (count us))) = Comes.read a.reads (rw a.deep d) (rw a.all_rows k) (rw a.symbols j) in
    rw (a.all_rows, a.symbols) at c
