-- What a reading writes says the words of its tokens, in order: each rule's fields against its kind's layout, which holds what the parts of the node said in the order
-- in which they were made. A token that has a word is the one token of a node that says it, and no other node takes one. F are all rows in the end.
use Prim.Native.Nat.{ℕ, ◌+◌, ◌-◌, ◌≤◌, ◌<◌, min}
use native.Mathlib.Omega.{arith}
use mathlib.Core.Bool.{Bool, true, false, cond, not}
use mathlib.Core.List.{List, [], ◌∷◌, ◌++◌, append_assoc, append-nil}
use mathlib.Core.Path.{◌≡◌, refl, sym, ap, ◌∙◌}
use lib.Dec.{T}
use Rattle.grammar.specs.Edition.{Edition}
use Rattle.grammar.specs.Handle.{Handle, absent, row, head}
use Rattle.grammar.specs.Kaori.{Table, Form, kaori}
use Rattle.grammar.specs.Kind.{StringLiteral, Identifier}
use Rattle.grammar.specs.Label.{Node, Label, number_of}
use Rattle.grammar.specs.Layout.{Slot, layout}
use Rattle.grammar.specs.Naming.{height}
use Rattle.grammar.specs.Parent.{written}
use Rattle.grammar.specs.Phrase.{node, Tree, more, made, Aim, whole, Reads}
use Rattle.grammar.specs.Rows.{Rows, blank, Walked, keep, parts, put, make, walk, unparented}
use Rattle.grammar.specs.Rule.{Field, Row, writes, rule}
use Rattle.grammar.specs.Space.{has_word}
use Rattle.grammar.specs.Symbol.{is_name, word_start, word_end}
use Rattle.grammar.specs.Token.{kind, start, end}
use Rattle.grammar.proofs.Decoding.{Whole}
use Rattle.grammar.proofs.Follow.{forth}
use Rattle.grammar.proofs.Forest.{Later, later_both}
use Rattle.grammar.proofs.Growth.{filled as one_more}
use Rattle.grammar.proofs.Machine.{asked}
use Rattle.grammar.proofs.Order.{wants}
use Rattle.grammar.proofs.Shapes.{table, takes, shape, ok, choice_ok, chain_ok, link_ok}
use Rattle.grammar.proofs.Sizes.{Size, Fits, sub, fits_none, none as no-handles}
use Rattle.grammar.proofs.Tests.{both}
use Rattle.grammar.proofs.Trees.{Grows, weaker, both_grow, grows}
use Rattle.grammar.proofs.Worded.{a_name, spoken as words-taken, spoken_entry, Speech, speech}
use Rattle.foreign.proofs.Suits.{suits, needs, Filled, Suited, suited, choice_suits, link_suits, node_suits, filled, filled_link}
use Rattle.parts.specs.Dropped.{items}
use Rattle.parts.specs.Packed.{statement, kept_upto, kept, spoken_all}
use Rattle.parts.specs.Spoken.{Word, said, inside_from, inside_upto, spoken}
use Rattle.parts.proofs.Hearing.{spoken_parented}
use Rattle.parts.proofs.Kinship.{Items}
use Rattle.parts.proofs.Spelling.{spells, Spelt, choice_spells, node_spelt, link_spelt}
use Rattle.parts.proofs.Statements.{IsStatement, statement_ends, Initial, inner, initial_items, items_grow, statements_count, statement_last}
use Rattle.parts.proofs.Voices.{Voice, Heard, Tells, tells_up, tells_append, no_words, maybe_heard, one_heard, two_heard, ended_tells, entry_tells, called, none_left, blocked, Utters, row_voice}
use Rattle.parts.proofs.Words.{token_words, kept_words, words_split}
use Rattle.parts.proofs.Upward.{initial_before, before_whole, before_height, script_height}
use Rattle.parts.proofs.Walking.{make_later, taller}

-- a name alone, and what follows it
bound : {x : Word} {ps ws : List Word} → ws ≡ [] → ps ≡ x ∷ ws → (qs : List Word) → x ∷ (qs ++ []) ≡ ps ++ qs
bound {x} e h qs = ap (λ v. x ∷ v) (append-nil qs) ∙ sym (ap (λ v. v ++ qs) (h ∙ ap (λ v. x ∷ v) e))

alone : {x : Word} {ps ws : List Word} → ws ≡ [] → ps ≡ x ∷ ws → ps ≡ x ∷ []
alone {x} e h = h ∙ ap (λ v. x ∷ v) e

-- a name with others, and what follows them
following : {x : Word} {ps ws : List Word} (qs : List Word) → ps ≡ x ∷ ws → x ∷ (ws ++ (qs ++ [])) ≡ ps ++ qs
following {x} {ws = ws} qs h = ap (λ v. x ∷ (ws ++ v)) (append-nil qs) ∙ sym (ap (λ v. v ++ qs) h)

module _ (F : Rows) where
  -- a row with these slots says these words
  data RowUtters (n : ℕ) (ss : List Slot) : Row → List Word → Type 0 where
    utters : {s e : ℕ} {fs : List Field} {xs : List Word} → Utters F n 6 ss s e fs xs → RowUtters n ss (writes s e fs) xs

  -- a row that has no word of its own
  plain : {n : ℕ} {ss : List Slot} {s e : ℕ} {fs : List Field} {xs : List Word} (ps qs : List Word) → Utters F n 6 ss s e fs xs → xs ≡ ps ++ qs → RowUtters n ss (writes s e fs) ((ps ++ qs) ++ [])
  plain ps qs u e = rw (append-nil (ps ++ qs), ← e) (utters u)

  -- and one that has its own alone
  worded : {n : ℕ} {ss : List Slot} {s e : ℕ} {fs : List Field} {x y : Word} (ps qs : List Word) → Utters F n 6 ss s e fs (x ∷ []) → x ≡ y → ps ≡ [] → qs ≡ [] → RowUtters n ss (writes s e fs) ((ps ++ qs) ++ (y ∷ []))
  worded ps qs u e p q = rw (p, q, ← e) (utters u)

  -- what a walk made says these words
  pub record Telling (r : Walked) (xs : List Word) : Type 0 where
    pub one_says : List Word
    pub two_says : List Word
    pub first : Tells F (height r.rows) r.first one_says
    pub rest : Tells F (height r.rows) r.rest two_says
    pub all_are : one_says ++ two_says ≡ xs

  retell : {r : Walked} {xs ys : List Word} → xs ≡ ys → Telling r xs → Telling r ys
  retell e g = record { one_says = g.one_says; two_says = g.two_says; first = g.first; rest = g.rest; all_are = g.all_are ∙ e }

  nothing_told : (w : Rows) → Telling (keep w []) []
  nothing_told w = record { one_says = []; two_says = []; first = Tells.nil; rest = Tells.nil; all_are = refl }

  -- handles alone
  kept_tells : {w : Rows} {hs : List Handle} {xs : List Word} → Tells F (height w) hs xs → Telling (keep w hs) xs
  kept_tells {xs = xs} t = record { one_says = xs; two_says = []; first = t; rest = Tells.nil; all_are = append-nil xs }

  both_tell : {r s : Walked} {xs ys : List Word} → Later r.rows s.rows → Telling r xs → Telling s ys → Telling (parts r s) (xs ++ ys)
  both_tell l g h = record { one_says = g.one_says ++ g.two_says; two_says = h.one_says ++ h.two_says; first = tells_up (taller l) (tells_append g.first g.rest); rest = tells_append h.first h.rest; all_are = rw (g.all_are, h.all_are) }

  -- one row more
  put_tells : height F ≤ absent → (k : ℕ) {x : Row} {w : Rows} {xs : List Word} → RowUtters (height w) (layout Edition.second k) x xs → Whole w → Later (put k x w).rows F → Telling (put k x w) xs
  unfolding put
  put_tells small k {w = w} (utters {s = s} {e = e} {fs = fs} {xs = xs} u) h b =
      let f = one_more fs (k ∷ s ∷ e ∷ []) w in
      let v = row_voice F k s e u h b (omega (arith, small, f.nodes, taller b)) in
      let v' : Voice F (height (put k (writes s e fs) w).rows) (height w) xs = record { stands = omega (arith, f.nodes); says = v.says } in
      retell (append-nil xs) (kept_tells (Tells.node v' Tells.nil))

module _ (ts : List ℕ) (σ : ℕ → ℕ) where
  -- the words of the tokens from a up to b
  abbrev pub between : (a b : ℕ) → List Word
  between a b = token_words ts σ a (b - a)

  between_none : (a : ℕ) → between a a ≡ []
  unfolding token_words
  between_none a = let e : a - a ≡ 0 = omega arith in rw e

  between_both : (a b c : ℕ) → a ≤ b → b ≤ c → between a b ++ between b c ≡ between a c
  between_both a b c h i =
      let e : a + (b - a) ≡ b = omega arith in
      let f : (b - a) + (c - b) ≡ c - a = omega arith in
      sym (ap (token_words ts σ a) (sym f) ∙ words_split ts σ a (b - a) (c - b) ∙ ap (λ x. between a b ++ token_words ts σ x (c - b)) e)

  between_one : (a b : ℕ) → b ≡ a + 1 → between a b ≡ cond (is_name ts a) (said (σ a) (word_start ts a) (word_end ts a) ∷ []) []
  unfolding token_words
  between_one a b h = let e : b - a ≡ 1 = omega arith in let f : a + 0 ≡ a = omega arith in rw (e, f)

  -- the word of a node's own token
  unfoldable own_word : Label → (a : ℕ) → List Word
  own_word f a = cond (has_word f) (said (σ a) (word_start ts a) (word_end ts a) ∷ []) []

  -- as the row of an identifier has it, and that of a string
  plain_word : (a : ℕ) → kind ts a ≡ Identifier → said (σ a) (start ts a) (end ts a) ≡ said (σ a) (word_start ts a) (word_end ts a)
  plain_word a h = let e : start ts a + 0 ≡ start ts a = omega arith in let f : end ts a - 0 ≡ end ts a = omega arith in rw (h, e, f)

  quoted_word : (a : ℕ) → kind ts a ≡ StringLiteral → start ts a < absent → said (σ a) (inside_from (start ts a)) (inside_upto (end ts a)) ≡ said (σ a) (word_start ts a) (word_end ts a)
  quoted_word a h i = let e : min (start ts a + 1) 4294967295 ≡ start ts a + 1 = omega arith in rw (h, e)

  module _ (F : Rows) where
    -- a node's row says what its parts said, and its own word
    rule_utters : (e : Edition) (m : Node) (a b : ℕ) {n : ℕ} {xs ys : List Handle} {ps qs : List Word} → Fits (wants m).0 xs → Fits (wants m).1 ys → Filled (needs e (Label.Row m)) xs ys → Spelt (kind ts) (Label.Row m) a xs ys → (T (has_word (Label.Row m)) → start ts a < absent) → Tells F n xs ps → Tells F n ys qs → RowUtters F n (layout Edition.second (number_of m)) (rule ts σ m a b xs ys (head xs) (head ys)) ((ps ++ qs) ++ own_word (Label.Row m) a)
    unfolding wants layout rule own_word has_word sub
    rule_utters e Node.Binary a b {ps = ps} {qs = qs} f g z l s t u = plain F ps qs (Utters.number (Utters.child (one_heard f t) (Utters.child (one_heard g u) Utters.done))) (ap (λ v. ps ++ v) (append-nil qs))
    rule_utters e Node.LogicalAnd a b {ps = ps} {qs = qs} f g z l s t u = plain F ps qs (Utters.child (one_heard f t) (Utters.child (one_heard g u) Utters.done)) (ap (λ v. ps ++ v) (append-nil qs))
    rule_utters e Node.LogicalOr a b {ps = ps} {qs = qs} f g z l s t u = plain F ps qs (Utters.child (one_heard f t) (Utters.child (one_heard g u) Utters.done)) (ap (λ v. ps ++ v) (append-nil qs))
    rule_utters e (Node.LogicalNot Edition.first) a b {ps = ps} {qs = qs} f g z l s t u = plain F ps qs (Utters.child (one_heard f t) Utters.done) (ap (λ v. ps ++ v) (sym (no_words g u)))
    rule_utters e (Node.LogicalNot Edition.second) a b {ps = ps} {qs = qs} f g z l s t u = plain F ps qs (Utters.child (one_heard f t) Utters.done) (ap (λ v. ps ++ v) (sym (no_words g u)))
    rule_utters e Node.Unary a b {ps = ps} {qs = qs} f g z l s t u = plain F ps qs (Utters.number (Utters.child (one_heard f t) Utters.done)) (ap (λ v. ps ++ v) (sym (no_words g u)))
    rule_utters e Node.Assign a b {ps = ps} {qs = qs} f g z l s t u = plain F ps qs (Utters.child (one_heard f t) (Utters.child (one_heard g u) Utters.done)) (ap (λ v. ps ++ v) (append-nil qs))
    rule_utters e Node.Variable a b {ps = ps} {qs = qs} f g z l s t u = let c = called f (z.first tt) t in plain F ps qs (Utters.name c.linked (Utters.child (one_heard g u) Utters.done)) (bound (none_left (l.first tt) c) c.all_are qs)
    rule_utters e Node.Constant a b {ps = ps} {qs = qs} f g z l s t u = let c = called f (z.first tt) t in plain F ps qs (Utters.name c.linked (Utters.child (one_heard g u) Utters.done)) (bound (none_left (l.first tt) c) c.all_are qs)
    rule_utters e Node.Ref a b {ps = ps} {qs = qs} f g z l s t u = let c = called f (z.first tt) t in plain F ps qs (Utters.name c.linked (Utters.child (one_heard g u) Utters.done)) (bound (none_left (l.first tt) c) c.all_are qs)
    rule_utters e Node.Identifier a b {ps = ps} {qs = qs} f g z l s t u = worded F ps qs (Utters.name refl Utters.done) (plain_word a (l.opens_with tt)) (no_words f t) (no_words g u)
    rule_utters e Node.String a b {ps = ps} {qs = qs} f g z l s t u = worded F ps qs (Utters.symbol Utters.done) (quoted_word a (l.opens_with tt) (s tt)) (no_words f t) (no_words g u)
    rule_utters e Node.Number a b {ps = ps} {qs = qs} f g z l s t u = plain F ps qs Utters.done (rw (no_words f t, no_words g u))
    rule_utters e Node.Boolean a b {ps = ps} {qs = qs} f g z l s t u = plain F ps qs (Utters.number Utters.done) (rw (no_words f t, no_words g u))
    rule_utters e Node.Nil a b {ps = ps} {qs = qs} f g z l s t u = plain F ps qs Utters.done (rw (no_words f t, no_words g u))
    rule_utters e Node.FunctionCall a b {ps = ps} {qs = qs} f g z l s t u = plain F ps qs (Utters.child (one_heard f t) (Utters.nodes g u Utters.done)) (ap (λ v. ps ++ v) (append-nil qs))
    rule_utters e Node.PropertyAccess a b {ps = ps} {qs = qs} f g z l s t u = let c = called g (z.rest tt) u in plain F ps qs (Utters.child (one_heard f t) (Utters.name c.linked Utters.done)) (ap (λ v. ps ++ v) (sym (alone (none_left (l.rest tt) c) c.all_are)))
    rule_utters e Node.Map a b {ps = ps} {qs = qs} f g z l s t u = plain F ps qs (Utters.entries f t Utters.done) (ap (λ v. ps ++ v) (sym (no_words g u)))
    rule_utters e Node.Function a b {ps = ps} {qs = qs} f g z l s t u = let c = called f (z.first tt) t in plain F ps qs (Utters.name c.linked (Utters.names c.names_left c.tells_left (Utters.child (one_heard g u) Utters.done))) (following qs c.all_are)
    rule_utters e Node.Lambda a b {ps = ps} {qs = qs} f g z l s t u = plain F ps qs (Utters.names f t (Utters.child (one_heard g u) Utters.done)) (ap (λ v. ps ++ v) (append-nil qs))
    rule_utters e Node.Block a b {ps = ps} {qs = qs} f g z l s t u = let c = blocked f t in plain F ps qs (Utters.nodes c.are_nodes c.first (Utters.option c.second Utters.done)) (ap (λ v. c.one_says ++ v) (append-nil c.two_says) ∙ sym c.both_are ∙ sym (ap (λ v. ps ++ v) (no_words g u) ∙ append-nil ps))
    rule_utters e Node.If a b {ps = ps} {qs = qs} f g z l s t u = let c = two_heard g u in plain F ps qs (Utters.child (one_heard f t) (Utters.child c.first (Utters.option c.second Utters.done))) (ap (λ v. ps ++ v) (ap (λ v. c.one_says ++ v) (append-nil c.two_says) ∙ sym c.both_are))
    rule_utters e Node.WhileLoop a b {ps = ps} {qs = qs} f g z l s t u = plain F ps qs (Utters.child (one_heard f t) (Utters.child (one_heard g u) Utters.done)) (ap (λ v. ps ++ v) (append-nil qs))
    rule_utters e Node.Return a b {ps = ps} {qs = qs} f g z l s t u = plain F ps qs (Utters.option (maybe_heard f t) Utters.done) (ap (λ v. ps ++ v) (sym (no_words g u)))
    rule_utters e Node.Break a b {ps = ps} {qs = qs} f g z l s t u = plain F ps qs Utters.done (rw (no_words f t, no_words g u))
    rule_utters e Node.Continue a b {ps = ps} {qs = qs} f g z l s t u = plain F ps qs Utters.done (rw (no_words f t, no_words g u))
    rule_utters e Node.Import a b {ps = ps} {qs = qs} f g z l s t u = plain F ps qs (Utters.names f t (Utters.names g u Utters.done)) (ap (λ v. ps ++ v) (append-nil qs))

    module _ (small : height F ≤ absent) where
      -- and so does what a node makes
      node_tells : (e : Edition) {z : Size × Size} {w : Rows} {r : Walked} {xs : List Word} (f : Label) (a b : ℕ) → T (takes f z) → Suited e (kind ts) f a r.first r.rest → Spelt (kind ts) f a r.first r.rest → (T (has_word f) → start ts a < absent) → Grows z w r → Telling F r xs → Later (make ts σ f a b r.rows r.first r.rest).rows F → Telling F (make ts σ f a b r.rows r.first r.rest) (xs ++ own_word f a)
      unfolding takes make own_word has_word layout sub
      node_tells e (Label.Row m) a b t i l s g x c =
          let h = weaker t g in
          retell F (ap (λ v. v ++ own_word (Label.Row m) a) x.all_are) (put_tells F small (number_of m) (rule_utters e m a b h.first h.rest i.filled l s x.first x.rest) h.whole c)
      node_tells e {xs = xs} Label.Script a b t i l s g x c =
          let h = weaker t g in
          retell F (ap (λ v. x.one_says ++ v) (sym (no_words h.rest x.rest)) ∙ x.all_are ∙ sym (append-nil xs)) (put_tells F small (number_of Node.Block) (utters (Utters.nodes h.first x.first (Utters.option Heard.silent Utters.done))) h.whole c)
      node_tells e {xs = xs} Label.Ended a b t i l s g x c =
          let h = weaker t g in
          retell F (sym (append-nil x.one_says) ∙ ap (λ v. x.one_says ++ v) (sym (no_words h.rest x.rest)) ∙ x.all_are ∙ sym (append-nil xs)) (kept_tells F (ended_tells h.first x.first))
      node_tells e {xs = xs} Label.Item a b t i l s g x c = retell F (x.all_are ∙ sym (append-nil xs)) (kept_tells F (tells_append x.first x.rest))
      node_tells e {r = r} {xs = xs} Label.Entry a b t i l s g x c =
          let h = weaker t g in
          retell F (ap (λ v. x.one_says ++ v) (append-nil x.two_says) ∙ x.all_are ∙ sym (append-nil xs)) (kept_tells F (entry_tells r.first r.rest h.first h.rest x.first x.rest))
      node_tells e {xs = xs} Label.Name a b t i l s g x c =
          let h = weaker t g in
          let n : xs ≡ [] = sym x.all_are ∙ ap (λ v. v ++ x.two_says) (no_words h.first x.first) ∙ no_words h.rest x.rest in
          retell F (ap (λ v. v ∷ []) (plain_word a (l.opens_with tt)) ∙ ap (λ v. v ++ own_word Label.Name a) (sym n)) (kept_tells F (Tells.name Tells.nil))

module _ (e : Edition) (ts : List ℕ) (σ : ℕ → ℕ) where
  -- a token that has no word
  wordless : (a x : ℕ) → kind ts a ≡ x → T (not (a_name x)) → between ts σ a (a + 1) ≡ []
  wordless a x k h = between_one ts σ a (a + 1) refl ∙ pick (a_name x) (ap a_name k) h
    where
      pick : (c : Bool) → is_name ts a ≡ c → T (not c) → cond (is_name ts a) (said (σ a) (word_start ts a) (word_end ts a) ∷ []) [] ≡ []
      pick true i t = absurd t
      pick false i t = rw i

  -- in the first n tokens a string has its quotes within what a number can be
  module _ (F : Rows) (small : height F ≤ absent) (n : ℕ) (inside : (i : ℕ) → i < n → start ts i < absent) where
    -- what a node's own form says, and then its own word, are the words of its tokens
    record Piece (f : Label) (a b : ℕ) (r : Walked) : Type 0 where
      says : List Word
      tells : Telling F r says
      all_are : says ++ own_word ts σ f a ≡ between ts σ a b
      fits : T (has_word f) → start ts a < absent

    piece : (f : Label) {p : Form} {a b : ℕ} {t : Tree Label} (w : Rows) → Reads (kaori e) (kind ts) (whole p) a b t → T (words-taken (node f p)) → b ≤ n → (T (words-taken p) → Telling F (walk ts σ t w) (between ts σ a b)) → Piece f a b (walk ts σ t w)
    unfolding own_word walk
    piece f {p} {a} {b} {t} w x h l g = pick (speech e f x h)
      where
        pick : Speech (kind ts) f p a b t → Piece f a b (walk ts σ t w)
        pick (Speech.word i y) = record { says = []; tells = rw y.bare (nothing_told F w); all_are = rw i (sym (between_one ts σ a b y.ends ∙ rw y.spells)); fits = λ k. inside a (omega (arith, y.ends)) }
        pick (Speech.wordless i k) = record { says = between ts σ a b; tells = g k; all_are = rw i (append-nil (between ts σ a b)); fits = λ k. absurd (rw i at k) }

    -- what was read so far, and then a link
    linked : (o : Table) (f : Label) {x : Aim Table Label} {q : Form} {a b d : ℕ} {t u : Tree Label} {w : Rows} → Reads (kaori e) (kind ts) x a b t → kaori e o (kind ts b) ≡ node f q → Reads (kaori e) (kind ts) (whole q) b d u → T (not (table o).0) → d ≤ n → Grows ((table o).1, no-handles) w (walk ts σ t w)
        → (Later (walk ts σ t w).rows F → Telling F (walk ts σ t w) (between ts σ a b))
        → (T (ok q) → T (suits e q) → T (words-taken q) → T (spells q) → Whole (walk ts σ t w).rows → Later (walk ts σ u (walk ts σ t w).rows).rows F → Telling F (walk ts σ u (walk ts σ t w).rows) (between ts σ b d))
        → Later (walk ts σ (made f b d (more t u)) w).rows F → Telling F (walk ts σ (made f b d (more t u)) w) (between ts σ a d)
    unfolding walk
    linked o f {q = q} {a = a} {b = b} {d = d} {t = t} {u = u} {w = w} x k y n₁ m g before own c =
        let r = walk ts σ t w in
        let s = walk ts σ u r.rows in
        let (i, j, v) = link_ok e o _ f q k n₁ in
        let (z, v') = link_suits e o _ f q k n₁ in
        let gy = grows e ts σ y v g.whole in
        let gb = both_grow g gy in
        let (sp, v'') = link_spelt e o _ f k n₁ y gb.first gb.rest in
        let c₁ = later_both (make_later ts σ f b d s.rows (r.first ++ r.rest) (s.first ++ s.rest)) c in
        let p = piece f r.rows y (spoken_entry e o _ k) m (λ z. own v v' z v'' g.whole c₁) in
        retell F (append_assoc (between ts σ a b) p.says (own_word ts σ f b) ∙ ap (λ z. between ts σ a b ++ z) p.all_are ∙ between_both ts σ a b d (forth x) (forth y)) (node_tells ts σ F small e f b d i (suited e f z y (filled_link (filled e ts σ y v g.whole))) sp p.fits gb (both_tell F gy.later (before (later_both gy.later c₁)) p.tells) c)

    -- what is read says, in its rows, the words of its tokens
    tells : {m : Aim Table Label} {a b : ℕ} {t : Tree Label} → Reads (kaori e) (kind ts) m a b t → T (ok (asked m)) → T (suits e (asked m)) → T (words-taken (asked m)) → T (spells (asked m)) → b ≤ n → {w : Rows} → Whole w → Later (walk ts σ t w).rows F → Telling F (walk ts σ t w) (between ts σ a b)
    unfolding ok shape walk suits words-taken spells
    tells (Reads.nothing {a = a}) h j k l m {w} i c = retell F (sym (between_none ts σ a)) (nothing_told F w)
    tells (Reads.taken {x = x} {a = a} {b = b} {p = p} q r) h j k l m i c =
        let (u, v) = both (not (a_name x)) (words-taken p) k in
        retell F (ap (λ z. z ++ between ts σ (a + 1) b) (sym (wordless a x q u)) ∙ between_both ts σ a (a + 1) b (omega arith) (forth r)) (tells r h j v l m i c)
    tells (Reads.both {a = a} {b = b} {c = d} {p = p} {q = q} x y) h j k l m i c =
        let (h₁, h₂) = both (ok p) (ok q) h in
        let (j₁, j₂) = both (suits e p) (suits e q) j in
        let (k₁, k₂) = both (words-taken p) (words-taken q) k in
        let (l₁, l₂) = both (spells p) (spells q) l in
        let g = grows e ts σ x h₁ i in
        let o = grows e ts σ y h₂ g.whole in
        retell F (between_both ts σ a b d (forth x) (forth y)) (both_tell F o.later (tells x h₁ j₁ k₁ l₁ (omega (arith, forth y)) i (later_both o.later c)) (tells y h₂ j₂ k₂ l₂ m g.whole c))
    tells (Reads.opened x) h j k l m i c = tells x h j k l m i c
    tells (Reads.labelled {f = f} {a = a} {b = b} {p = p} {t = t} x) h j k l m {w} i c =
        let (u, v) = both (takes f (shape p)) (ok p) h in
        let (y, d) = node_suits e f p j in
        let g = grows e ts σ x v i in
        let (s, o) = node_spelt e f l x g.first g.rest in
        let r = walk ts σ t w in
        let q = piece f w x k m (λ z. tells x v d z o m i (later_both (make_later ts σ f a b r.rows r.first r.rest) c)) in
        retell F q.all_are (node_tells ts σ F small e f a b u (suited e f y x (filled e ts σ x v i)) s q.fits g q.tells c)
    tells (Reads.chosen {n = o} q x) h j k l m i c = tells x (choice_ok e o _ q h).1 (choice_suits e o _ q h) (spoken_entry e o _ q) (choice_spells e o _ q h) m i c
    tells (Reads.first {n = o} {p = p} x) h j k l m i c = tells x (chain_ok o p h).2 j k l m i c
    tells (Reads.link {n = o} {f = f} {a = a} {b = b} {c = d} {p = p} {q = q} {t = t} {u = u} x z y) h j k l m {w} i c =
        linked o f x z y (chain_ok o p h).0 m (grows e ts σ x h i) (λ v. tells x h j k l (omega (arith, forth y)) i v) (λ hq jq kq lq wq v. tells y hq jq kq lq m wq v) c
    tells (Reads.ended x q) h j k l m i c = tells x h j k l m i c
    tells (Reads.alone {n = o} {p = p} x q) h j k l m i c = tells x (chain_ok o p h).2 j k l m i c
    tells (Reads.joined {n = o} {f = f} {a = a} {b = b} {c = d} {p = p} {q = q} {t = t} {u = u} x z y) h j k l m {w} i c =
        let (o₁, r₁, v₁) = chain_ok o p h in
        linked o f x z y o₁ m (weaker r₁ (grows e ts σ x v₁ i)) (λ v. tells x v₁ j k l (omega (arith, forth y)) i v) (λ hq jq kq lq wq v. tells y hq jq kq lq m wq v) c

-- a statement's one handle says what is said
statement_voice : {F : Rows} {n : ℕ} {g : Handle} {ps : List Word} → IsStatement g → Tells F n (g ∷ []) ps → Voice F n (row g) ps
statement_voice IsStatement.a_node (Tells.node {xs = xs} v Tells.nil) = rw (append-nil xs) v
statement_voice IsStatement.an_end (Tells.ended {xs = xs} v Tells.nil) = rw (append-nil xs) v

spoken_both : (w : Rows) (xs ys : List ℕ) → spoken_all w (xs ++ ys) ≡ spoken_all w xs ++ spoken_all w ys
unfolding spoken_all
spoken_both w [] ys = refl
spoken_both w (i ∷ xs) ys = rw (spoken_both w xs ys) (sym (append_assoc (spoken w (height w) i) (spoken_all w xs) (spoken_all w ys)))

module _ {e : Edition} (ts : List ℕ) (σ : ℕ → ℕ) where
  module _ {n : ℕ} {t₀ : Tree Label} (all : Items e (kind ts) n t₀) (inside : (i : ℕ) → i < n → start ts i < absent) where
    abbrev script_rows : Rows
    script_rows = written ts σ (made Label.Script 0 n t₀)

    abbrev bare : Rows
    bare = unparented ts σ (made Label.Script 0 n t₀)

    same_height : height script_rows ≡ height bare
    same_height = omega (arith, script_height ts σ all n, before_height ts σ all n)

    module _ (small : height script_rows ≤ absent) where
      -- the row of a statement says the words of its tokens
      statement_says : {a b : ℕ} {t u : Tree Label} → Initial (made Label.Item a b (more t u)) t₀ → b ≤ n → spoken script_rows (height script_rows) (statement script_rows (items t)) ≡ between ts σ a b
      unfolding written walk make ok table suits words-taken spells
      statement_says {a} {b} {t} {u} j m =
          let (i, x) = initial_items all j in
          let v = (walk ts σ t blank).rows in
          let y = statement_ends e ts σ x v in
          let l : Later (walk ts σ u v).rows bare = initial_before ts σ all n j in
          let g = tells e ts σ bare (omega (arith, same_height)) n inside x tt tt tt tt m (items_grow ts σ i).whole l in
          let z = statement_voice y.sort (rw y.made at g.first) in
          let s : statement script_rows (items t) ≡ row y.handle = omega (arith, statement_last ts σ all n j, y.tall) in
          let o : g.two_says ≡ [] = no_words fits_none (rw y.alone at g.rest) in
          rw s (spoken_parented bare (before_whole ts σ all n).nodes (height script_rows) (row y.handle) ∙ z.says (height script_rows) (omega (arith, same_height, z.stands, taller l)) ∙ sym (append-nil g.one_says) ∙ ap (λ v. g.one_says ++ v) (sym o) ∙ g.all_are)

      -- and those that are kept of the first items say theirs
      kept_say : (c : ℕ → Bool) {m : ℕ} {t : Tree Label} → Items e (kind ts) m t → Initial t t₀ → m ≤ n → spoken_all script_rows (kept_upto c script_rows (items t)) ≡ kept_words c ts σ t
      unfolding items spoken_all kept_upto kept_words
      kept_say c Items.nil j h = refl
      kept_say c (Items.next {b = a} {c = b} {t = t} {u = u} i x) j h =
          spoken_both script_rows (kept_upto c script_rows (items t)) (cond (c (items t)) (statement script_rows (items t) ∷ []) []) ∙ rw (kept_say c i (inner j) (omega (arith, forth x)), one (c (items t)) (statement_says j h))
        where
          one : (q : Bool) → spoken script_rows (height script_rows) (statement script_rows (items t)) ≡ between ts σ a b → spoken_all script_rows (cond q (statement script_rows (items t) ∷ []) []) ≡ cond q (between ts σ a b) []
          one true k = rw k (append-nil (between ts σ a b))
          one false k = refl

-- what the kept statements of a script's rows say is the words of their tokens
pub spoken_kept : {e : Edition} (ts : List ℕ) (σ : ℕ → ℕ) (c : ℕ → Bool) {n : ℕ} {t₀ : Tree Label} → Items e (kind ts) n t₀ → height (written ts σ (made Label.Script 0 n t₀)) ≤ absent → ((i : ℕ) → i < n → start ts i ≤ end ts i) → ((i : ℕ) → i < n → end ts i ≤ 65536) → spoken_all (written ts σ (made Label.Script 0 n t₀)) (kept c (written ts σ (made Label.Script 0 n t₀))) ≡ kept_words c ts σ t₀
spoken_kept ts σ c {n} {t₀} i small forward short =
    let w = written ts σ (made Label.Script 0 n t₀) in
    ap (λ m. spoken_all w (kept_upto c w m)) (statements_count ts σ i n) ∙ kept_say ts σ i (λ j h. omega (arith, forward j h, short j h)) small c i Initial.same (omega arith)
