-- What is told is right: a law for each way that an answer is made. Reading is refused at the place exactly as the stack fares there (crate grammar's Fares.antt).
use Prim.Native.Nat.{ℕ, zero, suc, ◌+◌, ◌≤◌, ◌<◌}
use mathlib.Core.Bool.{Bool, false}
use mathlib.Core.List.{List, [], ◌∷◌, ◌++◌, append-nil}
use mathlib.Core.Logic.{◌↔◌}
use mathlib.Core.Path.{◌≡◌, refl, sym, ap, subst, ◌∙◌}
use native.Mathlib.Decide.{ℕ_discrete}
use native.Mathlib.Omega.{arith}
use lib.Count.{ones, ones_in}
use lib.Dec.{T}
use lib.ListN.{length, take, drop}
use lib.Seq.{take_all, take-append-le}
use Rattle.grammar.specs.Edition.{Edition, edition}
use Rattle.grammar.specs.Expected.{Opening as Open, opening, openings, CouldStand, Met, Expects, gathered, how_many, lowest_from}
use Rattle.grammar.specs.Kaori.{Table, kaori, script, an_expression, a_block}
use Rattle.grammar.specs.Kind.{Eof}
use Rattle.grammar.specs.Label.{Label}
use Rattle.grammar.specs.Phrase.{empty, token, part, nested, node, choice, chain, once, refusal}
use Rattle.grammar.specs.Refusal.{refused}
use Rattle.grammar.specs.Token.{kind}
use Rattle.grammar.proofs.Expected.{could, stands}
use Rattle.grammar.proofs.Fares.{Barring, Fares, fares_on}
use Rattle.grammar.proofs.Overflow.{Overflows, opened_append, opened_length, script_opens}
use Rattle.grammar.proofs.Refusing.{refusing}
use Rattle.grammar.proofs.Stack.{want, links, mark, Stack, took, over, bars}
use Rattle.grammar.proofs.Stopping.{opened, marks, Meets, Opens, meets, met_chain, one_met, onward_over, stood}
use Rattle.expected.specs.Cells.{decoded, entry, barred, barred_by, only_marks, Sound}
use Rattle.expected.specs.Chains.{Chained}
use Rattle.expected.specs.Left.{AskedOf, Reached, ComesTo, LeftAt}
use Rattle.expected.specs.Parts.{Inner, Inside, lowest_of, Filled, Nothing, code_of, opened_by}
use Rattle.expected.specs.Steps.{TooDeep, Taken, Ends, Bars, Case, Stepped, Admits, Gathers}
use Rattle.expected.specs.Tells.{Tells}
use Rattle.expected.specs.declared.Chain.{Chain}
use Rattle.expected.specs.declared.Told.{Told}
use Rattle.expected.specs.declared.stack.Step.{Step}
use Rattle.expected.proofs.Chaining.{extended, count_length}
use Rattle.expected.proofs.Counting.{count_right, lowest_right}
use Rattle.std.specs.Prelude.{Some, None}
use Rattle.expected.specs.declared.tables.Bar.{Bar}
use Rattle.expected.specs.Cells.{bar_number}
use Rattle.expected.proofs.Passing.{marks_append}

-- the empty set
no_kind : ℕ → Bool
no_kind x = false

none_gathered : (n : ℕ) → gathered no_kind n ≡ 0
unfolding gathered no_kind
none_gathered zero = refl
none_gathered (suc n) = omega (arith, none_gathered n)

none_counted : (n : ℕ) → how_many no_kind n ≡ 0
unfolding how_many no_kind
none_counted zero = refl
none_counted (suc n) = omega (arith, none_counted n)

no_lowest : (k n : ℕ) → lowest_from no_kind k n ≡ 255
unfolding lowest_from no_kind
no_lowest k zero = refl
no_lowest k (suc n) = no_lowest (suc k) n

-- what a number of the table's says was opened
abbrev inner : ℕ → ℕ → List Open
inner c zero = []
inner c (suc zero) = []
inner c (suc (suc zero)) = []
inner c (suc (suc (suc zero))) = opening an_expression c ∷ []
inner c (suc (suc (suc (suc n)))) = opening a_block c ∷ []

record Numbered (c a code : ℕ) (M : Stack Table Label) : Type 0 where
  code_is : code ≡ code_of a
  opens : opened M ≡ inner c a
  marked : marks M ≡ opened_by a

numbered : (c a : ℕ) {code : ℕ} {M : Stack Table Label} → a < 5 → entry c a ≡ barred code M → Numbered c a code M
unfolding entry code_of opened_by
numbered c zero {code} {M} h e = let i : 8 ≡ code = cc in let j : [] ≡ M = cc in record { code_is = sym i; opens = ap opened (sym j); marked = ap marks (sym j) }
numbered c (suc zero) {code} {M} h e = let i : 9 ≡ code = cc in let j : [] ≡ M = cc in record { code_is = sym i; opens = ap opened (sym j); marked = ap marks (sym j) }
numbered c (suc (suc zero)) {code} {M} h e = let i : 10 ≡ code = cc in let j : [] ≡ M = cc in record { code_is = sym i; opens = ap opened (sym j); marked = ap marks (sym j) }
numbered c (suc (suc (suc zero))) {code} {M} h e = let i : 9 ≡ code = cc in let j : (mark an_expression c ∷ []) ≡ M = cc in record { code_is = sym i; opens = ap opened (sym j); marked = ap marks (sym j) }
numbered c (suc (suc (suc (suc zero)))) {code} {M} h e = let i : 8 ≡ code = cc in let j : (mark a_block c ∷ []) ≡ M = cc in record { code_is = sym i; opens = ap opened (sym j); marked = ap marks (sym j) }
numbered c (suc (suc (suc (suc (suc a))))) h e = absurd (omega arith)

pub code_small : (a : ℕ) → (8 ≤ code_of a) × (code_of a ≤ 10)
unfolding code_of
code_small zero = (omega arith, omega arith)
code_small (suc zero) = (omega arith, omega arith)
code_small (suc (suc zero)) = (omega arith, omega arith)
code_small (suc (suc (suc zero))) = (omega arith, omega arith)
code_small (suc (suc (suc (suc a)))) = (omega arith, omega arith)

pub opened_few : (a : ℕ) → opened_by a ≤ 1
unfolding opened_by
opened_few zero = omega arith
opened_few (suc zero) = omega arith
opened_few (suc (suc zero)) = omega arith
opened_few (suc (suc (suc a))) = omega arith

pub opened_one : (a : ℕ) → 3 ≤ a → opened_by a ≡ 1
unfolding opened_by
opened_one zero h = absurd (omega arith)
opened_one (suc zero) h = absurd (omega arith)
opened_one (suc (suc zero)) h = absurd (omega arith)
opened_one (suc (suc (suc a))) h = refl

only_opened : (K : Stack Table Label) → opened (only_marks K) ≡ opened K
only_opened [] = refl
only_opened (want p ∷ K) = only_opened K
only_opened (links g n ∷ K) = only_opened K
only_opened (mark k o ∷ K) = ap (λ os. os ++ (opening k o ∷ [])) (only_opened K)

only_marked : (K : Stack Table Label) → marks (only_marks K) ≡ marks K
only_marked [] = refl
only_marked (want p ∷ K) = only_marked K
only_marked (links g n ∷ K) = only_marked K
only_marked (mark k o ∷ K) = ap suc (only_marked K)

-- the code that the top bars by
barring : (S K : Stack Table Label) {code expected : ℕ} → Barring (S ++ K) code expected → (barred_by S ≡ 0 → ⊥) → code ≡ barred_by S
barring [] K b h = absurd (h refl)
barring (want empty ∷ S) K b h = elim b [ ]
barring (want (token x p) ∷ S) K Barring.lack h = refl
barring (want (part p q) ∷ S) K b h = elim b [ ]
barring (want (nested s p) ∷ S) K b h = elim b [ ]
barring (want (node f p) ∷ S) K b h = elim b [ ]
barring (want (choice n) ∷ S) K b h = elim b [ ]
barring (want (chain p n) ∷ S) K b h = elim b [ ]
barring (want (once p n) ∷ S) K b h = elim b [ ]
barring (want (refusal e) ∷ S) K Barring.stop h = refl
barring (links g n ∷ S) K b h = elim b [ ]
barring (mark k o ∷ S) K b h = elim b [ ]

-- a chain and what a number says was opened
pub inner_chain : {os : List Open} {c r : Chain} (number at : ℕ) → Chained os c → Inside c number at r → (3 ≤ number → c.count < 64) → Chained (os ++ inner at number) r
unfolding Inner
inner_chain {os} {c} {r} zero at k i h = subst (λ ps. Chained ps r) (sym (append-nil os)) (subst (Chained os) (sym i.says) k)
inner_chain {os} {c} {r} (suc zero) at k i h = subst (λ ps. Chained ps r) (sym (append-nil os)) (subst (Chained os) (sym i.says) k)
inner_chain {os} {c} {r} (suc (suc zero)) at k i h = subst (λ ps. Chained ps r) (sym (append-nil os)) (subst (Chained os) (sym i.says) k)
inner_chain (suc (suc (suc zero))) at k i h = extended k i.says (h (omega arith))
inner_chain (suc (suc (suc (suc n)))) at k i h = extended k i.says (h (omega arith))

module _ {n : ℕ} {ts : List ℕ} {limit code place : ℕ} where
  -- nothing is told
  pub nothing_told : {r : Told} → (8 ≤ code → code ≤ 11 → Met n ts limit code place → ⊥) → Nothing r → Tells ts n limit code place r
  unfolding no_kind
  nothing_told f k = record {
    could = no_kind;
    chain = [];
    expects = Expects.nothing f (λ x h. refl);
    kinds_are = k.kinds_are ∙ sym (none_gathered 45);
    how_many_are = k.how_many_are ∙ sym (none_counted 45);
    lowest_is = k.lowest_is ∙ sym (no_lowest 0 45);
    chained = k.chained;
  }

  -- nothing may be told
  pub unasked : (AskedOf (length ts) n limit code place → ⊥) → 8 ≤ code → code ≤ 11 → Met n ts limit code place → ⊥
  unasked f a b m = f (record { least = a; most = b; some_depth = m.some_depth; least_depth = m.least_depth; right = m.right; whole = m.whole; inside = m.inside })

  pub unknown_kind : Eof < kind ts place → Met n ts limit code place → ⊥
  unknown_kind h m = omega (arith, m.known place (omega arith))

  module _ (asked : AskedOf (length ts) n limit code place) {room : List ℕ} {top depth : ℕ} (w : Reached (edition n) ts limit place room top depth) (k : kind ts place ≤ Eof) where
    known_upto : (i : ℕ) → i ≤ place → kind ts i ≤ Eof
    known_upto i h = elim (ℕ_discrete i place) [ yes e ↦ rw e k | no e ↦ w.known i (omega (arith, e)) ]

    -- a refusal that the script meets at the place
    met : {expected : ℕ} {M : Stack Table Label} → Meets (kaori (edition n)) (kind ts) limit (want script ∷ []) 0 (refused code place expected) M → (m : Met n ts limit code place) × (openings m.refusal ≡ opened M)
    met {expected} m =
        let (symbol, space, x) = refusing (edition n) ts m in
        (record { whole = asked.whole; some_depth = asked.some_depth; least_depth = asked.least_depth; right = asked.right; inside = asked.inside; known = known_upto; symbol = symbol; space = space; expected = expected; refusal = x }, (met_chain x (λ e. let h = asked.least in omega arith) m).1)

    -- it is met with what is left
    met_from : (m : Met n ts limit code place) → (M : Stack Table Label) × Meets (kaori (edition n)) (kind ts) limit (want script ∷ []) 0 (refused code place m.expected) M
    met_from m = let (M, c, e) = meets m.refusal (λ e. let h = asked.least in omega arith) [] refl (omega arith) in (M, c)

    met_here : (m : Met n ts limit code place) → (M : Stack Table Label) × Meets (kaori (edition n)) (kind ts) limit (decoded (drop top room)) place (refused code place m.expected) M
    met_here m = let (M, c) = met_from m in (M, (onward_over w.within.after c (omega arith) (omega arith)).0)

    deep_here : {code' expected : ℕ} {M : Stack Table Label} → Opens M → Meets (kaori (edition n)) (kind ts) limit (want script ∷ []) 0 (refused code' place expected) M → TooDeep (edition n) (kind ts place) place (kind ts) limit (refused code' place expected) M (decoded (drop top room))
    deep_here o m = let (c, b) = onward_over w.within.after m (omega arith) (omega arith) in record { here = refl; opens = o; there = omega arith; within = b; meets = c }

    met_deep : (m : Met n ts limit code place) → code ≡ 11 → (M : Stack Table Label) × TooDeep (edition n) (kind ts place) place (kind ts) limit (refused code place m.expected) M (decoded (drop top room))
    met_deep m e = let (M, c) = met_from m in (M, deep_here (script_opens (edition n) c e) c)

    -- an opening passes the limit: the chain is the first of what is open
    deep_told : {M : Stack Table Label} (J : Stack Table Label) {c : Chain} {r : Told} → code ≡ 11 → Meets (kaori (edition n)) (kind ts) limit (want script ∷ []) 0 (refused 11 place 255) M → opened M ≡ take limit (opened J) → Chained (take limit (opened J)) c → Filled 0 c r → Tells ts n limit code place r
    unfolding no_kind ones ones_in lowest_of
    deep_told {M} J {c} {r} e m o h f =
        let (t, d) = met (subst (λ x. Meets (kaori (edition n)) (kind ts) limit (want script ∷ []) 0 (refused x place 255) M) (sym e) m) in
        record {
          could = no_kind;
          chain = openings t.refusal;
          expects = Expects.too_deep e t (λ x l. refl);
          kinds_are = f.kinds_are ∙ sym (none_gathered 45);
          how_many_are = f.how_many_are ∙ sym (none_counted 45);
          lowest_is = f.lowest_is ∙ sym (no_lowest 0 45);
          chained = subst (λ x. Chained (openings t.refusal) x) (sym f.chain_is) (subst (λ os. Chained os c) (sym (d ∙ o)) h);
        }

    -- the kind is taken
    module _ {after : List ℕ} {t d : ℕ} (s : Taken (edition n) (kind ts place) place top room after t d) where
      pub not_taken : (code ≡ 11 → ⊥) → Met n ts limit code place → ⊥
      not_taken h m = let (M, c) = met_here m in let e : took (decoded (drop t after)) ≡ bars M = stood c h (omega arith) s.goes in let z : ◌≡◌ {A = ℕ} 0 1 = cc in omega (arith, z)

      pub not_passed : d ≤ limit → code ≡ 11 → Met n ts limit code place → ⊥
      not_passed h e m = let (M, z) = met_deep m e in omega (arith, (s.fills.full z).past, s.deep)

      pub passed_told : {c : Chain} {r : Told} → limit < d → code ≡ 11 → Chained (take limit (opened (decoded (drop t after)))) c → Filled 0 c r → Tells ts n limit code place r
      passed_told {c} {r} h e k f = go (fares_on w.within s.goes)
        where
          go : Fares (kaori (edition n)) (kind ts) limit (want script ∷ []) 0 place (took (decoded (drop t after))) → Tells ts n limit code place r
          go (Fares.deep o m) = deep_told (decoded (drop t after)) e m (s.fills.full (deep_here o m)).first k f
          go (Fares.on l b) = absurd (omega (arith, s.deep))

    -- nothing is left
    pub not_over : Ends (edition n) (kind ts place) place (decoded (drop top room)) → Met n ts limit code place → ⊥
    not_over s m = elim (ℕ_discrete code 11) [ yes e ↦ (let (M, z) = met_deep m e in s.never z) | no h ↦ (let (M, c) = met_here m in let e : over ≡ bars M = stood c h (omega arith) s.goes in let z : ◌≡◌ {A = ℕ} 0 1 = cc in omega (arith, z)) ]

    -- it is barred
    module _ {after : List ℕ} {t d a : ℕ} (s : Bars (edition n) (kind ts place) place top room after t d a) where
      below : Stack Table Label
      below = decoded (drop (suc t) after)

      says : Numbered place a (barred_by s.stands) (only_marks s.stands)
      says = numbered place a s.number s.marked

      marks_are : marks (s.stands ++ below) ≡ d + opened_by a
      unfolding below
      marks_are = let e = says.marked in omega (arith, e, only_marked s.stands, marks_append s.stands (decoded (drop (suc t) after)), s.deep)

      opened_are : opened (s.stands ++ below) ≡ opened below ++ inner place a
      opened_are = opened_append s.stands below ∙ ap (λ os. opened below ++ os) (sym (only_opened s.stands) ∙ says.opens)

      fares_here : Fares (kaori (edition n)) (kind ts) limit (want script ∷ []) 0 place (bars (s.stands ++ below))
      unfolding below
      fares_here = fares_on w.within s.goes

      next : suc t ≡ t + 1
      next = omega arith

      pub below_sound : Sound (drop (t + 1) after)
      below_sound = subst (λ m. Sound (drop m after)) next s.sounds

      as_below : {c : Chain} → Chained (take limit (opened (decoded (drop (t + 1) after)))) c → Chained (take limit (opened below)) c
      unfolding below
      as_below {c} k = subst (λ j. Chained (take limit (opened (decoded (drop j after)))) c) (sym next) k

      pub lower : d ≤ limit
      lower = omega (arith, s.fewer, w.within.marked)

      passes_limit : {code' expected : ℕ} {M : Stack Table Label} → Opens M → Meets (kaori (edition n)) (kind ts) limit (want script ∷ []) 0 (refused code' place expected) M → Overflows limit M (s.stands ++ below)
      unfolding below
      passes_limit o m = s.fills.full (deep_here o m)

      -- more than the limit allows is open
      module _ (h : limit < d + opened_by a) where
        pub only_deep : (code ≡ 11 → ⊥) → Met n ts limit code place → ⊥
        only_deep k m = let (M, c) = met_from m in go c fares_here
          where
            go : {expected : ℕ} {M : Stack Table Label} → Meets (kaori (edition n)) (kind ts) limit (want script ∷ []) 0 (refused code place expected) M → Fares (kaori (edition n)) (kind ts) limit (want script ∷ []) 0 place (bars (s.stands ++ below)) → ⊥
            go c (Fares.deep o x) = let (e, f) = one_met c x in k cc
            go c (Fares.stuck b l x) = omega (arith, h, l, marks_are)

        pub barred_deep : {c : Chain} {r : Told} → code ≡ 11 → Chained (take limit (opened (decoded (drop (t + 1) after)))) c → Filled 0 c r → Tells ts n limit code place r
        unfolding below
        barred_deep {c} {r} e k f = go fares_here
          where
            same : take limit (opened (s.stands ++ below)) ≡ take limit (opened below)
            same = ap (take limit) opened_are ∙ take-append-le limit (opened below) (inner place a) (omega (arith, h, opened_few a, opened_length below, s.deep))

            go : Fares (kaori (edition n)) (kind ts) limit (want script ∷ []) 0 place (bars (s.stands ++ below)) → Tells ts n limit code place r
            go (Fares.deep o m) = deep_told below e m ((passes_limit o m).first ∙ same) (as_below k) f
            go (Fares.stuck b l m) = absurd (omega (arith, h, l, marks_are))

      -- no more than that
      module _ (h : d + opened_by a ≤ limit) where
        -- the refusal is the one that the number says
        refuses_by : (code' : ℕ) × (expected : ℕ) × (code' ≡ code_of a) × Meets (kaori (edition n)) (kind ts) limit (want script ∷ []) 0 (refused code' place expected) (s.stands ++ below)
        refuses_by = go fares_here
          where
            some : barred_by s.stands ≡ 0 → ⊥
            some e = omega (arith, e, says.code_is, (code_small a).0)

            go : Fares (kaori (edition n)) (kind ts) limit (want script ∷ []) 0 place (bars (s.stands ++ below)) → (code' : ℕ) × (expected : ℕ) × (code' ≡ code_of a) × Meets (kaori (edition n)) (kind ts) limit (want script ∷ []) 0 (refused code' place expected) (s.stands ++ below)
            go (Fares.deep o m) = absurd (omega (arith, h, (passes_limit o m).past, marks_are))
            go (Fares.stuck b l m) = (_, _, barring s.stands below b some ∙ says.code_is, m)

        pub other_code : (code ≡ code_of a → ⊥) → Met n ts limit code place → ⊥
        other_code k m = let (M, c) = met_from m in let (code', expected, e, x) = refuses_by in let (f, g) = one_met c x in let i : code ≡ code' = cc in k (i ∙ e)

        whole_chain : {o : Chain} → Chained (take limit (opened (decoded (drop (t + 1) after)))) o → Chained (opened below) o
        unfolding below
        whole_chain {o} k = subst (λ os. Chained os o) (take_all limit (opened below) (omega (arith, opened_length below, s.deep, lower))) (as_below k)

        pub room_inside : {o : Chain} → Chained (take limit (opened (decoded (drop (t + 1) after)))) o → 3 ≤ a → o.count < 64
        unfolding below
        room_inside k y = omega (arith, h, opened_one a y, count_length (whole_chain k), opened_length below, s.deep, asked.least_depth)

        -- the set and the chain of a refusal that is met there
        with_met : {kinds : ℕ} {o c : Chain} {r : Told} (m : Met n ts limit code place) → openings m.refusal ≡ opened (s.stands ++ below) → code ≡ code_of a → Gathers (edition n) (decoded (drop top after)) 45 kinds → Chained (take limit (opened (decoded (drop (t + 1) after)))) o → Inside o a place c → Filled kinds c r → Tells ts n limit code place r
        with_met {kinds} {o} {c} {r} m q e g k i f =
            let (l, u) = code_small a in
            record {
              could = g.member;
              chain = openings m.refusal;
              expects = Expects.unread (omega (arith, l, e)) (omega (arith, u, e)) m right;
              kinds_are = f.kinds_are ∙ g.number;
              how_many_are = f.how_many_are ∙ ap ones g.number ∙ count_right g.member 45;
              lowest_is = f.lowest_is ∙ ap lowest_of g.number ∙ lowest_right g.member;
              chained = subst (λ y. Chained (openings m.refusal) y) (sym f.chain_is) (subst (λ os. Chained os c) (sym (q ∙ opened_are)) (inner_chain a place (whole_chain k) i (λ y. room_inside k y)));
            }
          where
            right : (x : ℕ) → x ≤ Eof → T (g.member x) ↔ CouldStand (edition n) (kind ts) place x
            right x l = let p = subst (λ z. Admits (edition n) x (decoded (drop top z)) (g.member x)) s.kept (g.right x (omega (arith, l))) in (λ y. could (edition n) w.within.after (p.result place) (p.goes place) (p.yes y place), λ y. p.no place (stands (edition n) w.within.after (p.result place) (p.goes place) y))

        pub barred_told : {kinds : ℕ} {o c : Chain} {r : Told} → code ≡ code_of a → Gathers (edition n) (decoded (drop top after)) 45 kinds → Chained (take limit (opened (decoded (drop (t + 1) after)))) o → Inside o a place c → Filled kinds c r → Tells ts n limit code place r
        barred_told e g k i f =
            let (code', expected, d, x) = refuses_by in
            let (m, q) = met (subst (λ y. Meets (kaori (edition n)) (kind ts) limit (want script ∷ []) 0 (refused y place expected) (s.stands ++ below)) (d ∙ sym e) x) in
            with_met m q e g k i f

-- what a step's answer says
module _ {e : Edition} {x c top : ℕ} {before after : List ℕ} where
  pub as_barred : {t d : ℕ} {b : Bar} (r : Step) → r ≡ Step.Barred t d b → Stepped e x c top before after r → Bars e x c top before after t d (bar_number b)
  unfolding Case
  as_barred r k s = (subst (Stepped e x c top before after) k s).says

  pub as_over : (r : Step) → ((t d : ℕ) → r ≡ Step.Took t d → ⊥) → ((t d : ℕ) (b : Bar) → r ≡ Step.Barred t d b → ⊥) → Stepped e x c top before after r → Ends e x c (decoded (drop top before))
  unfolding Case
  as_over (Step.Took t d) f g s = absurd (f t d refl)
  as_over Step.Over f g s = s.says
  as_over (Step.Barred t d a) f g s = absurd (g t d a refl)

-- and what is left before the place
module _ {n : ℕ} {ts : List ℕ} {limit place : ℕ} {room : List ℕ} where
  pub as_reached : {top depth : ℕ} → LeftAt n ts limit place room (Some (top, depth)) → Reached (edition n) ts limit place room top depth
  unfolding ComesTo
  as_reached l = l.says

  pub as_gone : LeftAt n ts limit place room None → (code : ℕ) → 8 ≤ code → Met n ts limit code place → ⊥
  unfolding ComesTo
  as_gone l = l.says
