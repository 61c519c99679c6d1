-- The walk through a statement: the words that were heard and the words of what waits are all of its words. Each step takes one from the stack: a word is heard, and a row gives way to
-- what it holds.
use Prim.Native.Nat.{ℕ, suc, ◌+◌, ◌*◌, ◌≤◌, ◌<◌}
use native.Mathlib.Omega.{arith}
use mathlib.Core.Bool.{Bool, true, false, cond}
use mathlib.Core.List.{List, [], ◌∷◌, ◌++◌, append-nil, append_assoc}
use mathlib.Core.Logic.{inl, inr}
use mathlib.Core.Path.{◌≡◌, refl, sym, ap, ◌∙◌}
use lib.Dec.{eqb}
use lib.ListN.{length, get_or}
use borrow.Author.Tests.{eqb-false, ne_eqb}
use Rattle.grammar.specs.Handle.{absent}
use Rattle.grammar.specs.Naming.{height}
use Rattle.grammar.specs.Rows.{Rows}
use Rattle.foreign.specs.Check.{Each, nil, cons, Before, link_count}
use Rattle.foreign.proofs.Each.{each_both}
use Rattle.parts.specs.Spoken.{Word, Part, word, row, parts_of, words, spoken, heard, first_places}
use Rattle.parts.proofs.Hearing.{words_append, spoken_enough}
use Rattle.parts.proofs.Symbols.{Holds, row_holds, heard_append, first_places_append}
use Rattle.packing.specs.Good.{Good}
use Rattle.packing.specs.Known.{Hearing, Noted, Hears}
use Rattle.packing.specs.Stack.{source, stacked, present, RoomFor, Pushed}
use Rattle.packing.proofs.Knowing.{hear_one}
use Rattle.packing.proofs.Loads.{load, load_append, load_present, load_least, weight, weight_some, row_load, row_words, places, steps, most_places}
use Rattle.packing.proofs.Stacking.{stacked_length}

-- a part that can be taken: a word of the table's, a row that is there
abbrev pub Takes : (s n : ℕ) → Part → Type 0
Takes s n (word x) = x.symbol < s
Takes s n (row i) = i < n

-- words that were heard, none of them and one more
pub hears_none : {s : ℕ} (symbols scratch : List ℕ) (count : ℕ) → Hears s [] symbols scratch count symbols scratch count
unfolding heard first_places
hears_none symbols scratch count = record { says = λ {b} {ss} {ks} {ps} h. rw (append-nil ps) h }

pub hears_both : {s : ℕ} (xs ys : List Word) {sy sc sy' sc' sy'' sc'' : List ℕ} {n n' n'' : ℕ} → Hears s xs sy sc n sy' sc' n' → Hears s ys sy' sc' n' sy'' sc'' n'' → Hears s (xs ++ ys) sy sc n sy'' sc'' n''
hears_both xs ys p q = record { says = λ {b} {ss} {ks} {ps} h. rw (heard_append xs ys ks, first_places_append xs ys ks, sym (append_assoc ps (first_places xs ks) (first_places ys (heard xs ks)))) (q.says (p.says h)) }

-- numbers past the symbols' do not matter
pub hearing_low : {s b count : ℕ} {ss ks ps symbols scratch scratch' : List ℕ} → ((x : ℕ) → x < s → get_or scratch' x 0 ≡ get_or scratch x 0) → Hearing s b ss ks ps symbols scratch count → Hearing s b ss ks ps symbols scratch' count
hearing_low e h = record { numbers = λ x l. e x l ∙ h.numbers x l; many = h.many; rows = h.rows; room = h.room; once = h.once; below = h.below }

-- the words of parts without absent rows
words_present : (f : ℕ → List Word) (ps : List Part) → words f (present ps) ≡ words f ps
unfolding words present
words_present f [] = refl
words_present f (word x ∷ ps) = ap (λ xs. x ∷ xs) (words_present f ps)
words_present f (row i ∷ ps) = pick (eqb i absent) refl (words_present f ps)
  where
    pick : (b : Bool) → eqb i absent ≡ b → words f (present ps) ≡ words f ps → words f (cond b (present ps) (row i ∷ present ps)) ≡ cond b [] (f i) ++ words f ps
    pick true q e = e
    pick false q e = rw (q, e) refl

-- parts that can be taken are all present
all_present : {s n : ℕ} {ps : List Part} → n ≤ absent → Each (Takes s n) ps → present ps ≡ ps
unfolding present
all_present h nil = refl
all_present h (cons {x = word x} l e) = ap (λ ps. word x ∷ ps) (all_present h e)
all_present {ps = ps} h (cons {x = row i} {xs = xs} l e) = rw (ne_eqb i absent (λ z. omega arith)) (ap (λ qs. row i ∷ qs) (all_present h e))

held_takes : {s i n : ℕ} {ps : List Part} → i ≤ n → Each (Holds s i) ps → Each (Takes s n) (present ps)
unfolding present
held_takes h nil = nil
held_takes h (cons {x = word x} l e) = cons {x = word x} l (held_takes h e)
held_takes {s} {i} {n} h (cons {x = row j} {xs = xs} b e) = pick (eqb j absent) refl b (held_takes h e)
  where
    pick : (t : Bool) → eqb j absent ≡ t → Before i j → Each (Takes s n) (present xs) → Each (Takes s n) (cond t (present xs) (row j ∷ present xs))
    pick true q b r = r
    pick false q (inl l) r = cons {x = row j} (omega arith) r
    pick false q (inr z) r = absurd (eqb-false j absent q z)

module _ (s : ℕ) (w : Rows) where
  -- from where the walk began, with all words of it as its goal
  pub record Tour (goal : List Word) (symbols₀ numbers₀ : List ℕ) (count : ℕ) (symbols numbers : List ℕ) (known : ℕ) (stack₀ stack : List ℕ) (top : ℕ) : Type 0 where
    pub done : List Word
    pub hears : Hears s done symbols₀ numbers₀ count symbols numbers known
    pub rest : done ++ words (spoken w (height w)) (stacked w stack top) ≡ goal
    pub takes : Each (Takes s (height w)) (stacked w stack top)
    pub same : length stack ≡ length stack₀
    pub few : load (weight w (places w)) (stacked w stack top) ≤ height w + link_count w

-- what is left to do: a step for each word and row that waits or is below one
abbrev pub left_steps : (w : Rows) (stack : List ℕ) (top : ℕ) → ℕ
left_steps w stack top = load (weight w (steps w)) (stacked w stack top)

module _ {s : ℕ} {w : Rows} (g : Good s w) where
  -- a row's words are those of what it holds
  row_says : (i : ℕ) → i < height w → spoken w (height w) i ≡ words (spoken w (height w)) (parts_of w i)
  unfolding spoken
  row_says i l = spoken_enough w g.checked.earlier (height w) (suc (height w)) i l (omega arith) l

  -- what waits is as many as its load at most
  some_place : (i : ℕ) → 1 ≤ weight w (places w) i
  some_place = weight_some w (places w) (λ i. omega arith) g.checked.rooted.some

  waiting : {ps : List Part} → Each (Takes s (height w)) ps → length ps ≤ load (weight w (places w)) ps
  waiting {ps} t = rw (all_present g.short t) at (load_least (weight w (places w)) some_place ps)

  -- a row weighs at least what it holds, and one step more
  held_places : (i : ℕ) → i < height w → load (weight w (places w)) (parts_of w i) ≤ weight w (places w) i
  held_places i l = omega (arith, row_load w g.checked.earlier (places w) i l, row_words w i)

  held_steps : (i : ℕ) → i < height w → suc (load (weight w (steps w)) (parts_of w i)) ≡ weight w (steps w) i
  held_steps i l = omega (arith, row_load w g.checked.earlier (steps w) i l)

  -- the walk begins at a row
  pub began : {i : ℕ} {sy sc st₀ st : List ℕ} {n r : ℕ} → i < height w → Pushed w 0 (row i ∷ []) st₀ st r → Tour s w (spoken w (height w) i) sy sc n sy sc n st st r
  unfolding words stacked load
  began {i} {sy} {sc} {st₀} {st} {n} {r} l p =
      let z : present (row i ∷ []) ≡ row i ∷ [] = all_present {s = s} g.short (cons {x = row i} l nil) in
      let one : stacked w st r ≡ row i ∷ [] = p.stack ∙ rw z refl in
      let q : eqb i absent ≡ false = ne_eqb i absent (λ y. omega (arith, g.short)) in
      record {
        done = [];
        hears = hears_none sy sc n;
        rest = rw (one, q, append-nil (spoken w (height w) i)) refl;
        takes = rw one (cons {x = row i} l nil);
        same = refl;
        few = rw (one, q) (omega (arith, most_places g i l));
      }

  module _ {goal : List Word} {sy₀ sc₀ st₀ : List ℕ} {n₀ : ℕ} where
    -- what waits is within the lent room
    pub inside : {sy sc st : List ℕ} {n top : ℕ} → 2 * (height w + link_count w) ≤ length st₀ → Tour s w goal sy₀ sc₀ n₀ sy sc n st₀ st top → 2 * top ≤ length st
    inside {st = st} {top = top} h t = omega (arith, waiting t.takes, t.few, stacked_length w st top, t.same)

    -- and ends where nothing waits
    pub ended : {sy sc st : List ℕ} {n top : ℕ} → top ≡ 0 → Tour s w goal sy₀ sc₀ n₀ sy sc n st₀ st top → Hears s goal sy₀ sc₀ n₀ sy sc n
    unfolding stacked words
    ended e t = let z = rw e at t.rest in rw (sym z ∙ append-nil t.done) t.hears

    module _ {sy sc st : List ℕ} {n k : ℕ} (t : Tour s w goal sy₀ sc₀ n₀ sy sc n st₀ st (suc k)) where
      -- a row is taken: it is there, and there is room for what it holds
      pub row_there : {i : ℕ} → stacked w st (suc k) ≡ row i ∷ stacked w st k → i < height w
      row_there {i} e = head (rw e at t.takes)
        where
          head : {ps : List Part} → Each (Takes s (height w)) (row i ∷ ps) → i < height w
          head (cons l m) = l

      word_there : {x : Word} → stacked w st (suc k) ≡ word x ∷ stacked w st k → x.symbol < s
      word_there {x} e = head (rw e at t.takes)
        where
          head : {ps : List Part} → Each (Takes s (height w)) (word x ∷ ps) → x.symbol < s
          head (cons l m) = l

      others : {p : Part} → stacked w st (suc k) ≡ p ∷ stacked w st k → Each (Takes s (height w)) (stacked w st k)
      others {p} e = tail (rw e at t.takes)
        where
          tail : {ps : List Part} → Each (Takes s (height w)) (p ∷ ps) → Each (Takes s (height w)) ps
          tail (cons l m) = m

      module _ {i : ℕ} (e : stacked w st (suc k) ≡ row i ∷ stacked w st k) where
        here : eqb i absent ≡ false
        here = ne_eqb i absent (λ y. omega (arith, g.short, row_there e))

        row_few : weight w (places w) i + load (weight w (places w)) (stacked w st k) ≤ height w + link_count w
        unfolding load
        row_few = let f = rw (e, here) at t.few in f

        pub row_room : 2 * (height w + link_count w) ≤ length st₀ → RoomFor k (length (present (parts_of w i))) (length st)
        row_room h = omega (arith, row_few, held_places i (row_there e), load_least (weight w (places w)) some_place (parts_of w i), waiting (others e), stacked_length w st k, t.same)

        module _ {st' : List ℕ} {r : ℕ} (p : Pushed w k (parts_of w i) st st' r) where
          pub row_taken : length st' ≡ length st → Tour s w goal sy₀ sc₀ n₀ sy sc n st₀ st' r
          unfolding words load
          row_taken same = record {
            done = t.done;
            hears = t.hears;
            rest = ap (λ ps. t.done ++ words (spoken w (height w)) ps) p.stack ∙ ap (λ xs. t.done ++ xs) (words_append (spoken w (height w)) (present (parts_of w i)) (stacked w st k) ∙ ap (λ xs. xs ++ words (spoken w (height w)) (stacked w st k)) (words_present (spoken w (height w)) (parts_of w i) ∙ sym (row_says i (row_there e)))) ∙ (rw (e, here) at t.rest);
            takes = rw p.stack (each_both (held_takes (omega (arith, row_there e)) (row_holds g.checked i (row_there e))) (others e));
            same = same ∙ t.same;
            few = rw p.stack (omega (arith, row_few, held_places i (row_there e), load_append (weight w (places w)) (present (parts_of w i)) (stacked w st k), load_present (weight w (places w)) (parts_of w i)));
          }

          pub row_steps : left_steps w st' r < left_steps w st (suc k)
          unfolding load
          row_steps = rw (p.stack, e, here) (omega (arith, held_steps i (row_there e), load_append (weight w (steps w)) (present (parts_of w i)) (stacked w st k), load_present (weight w (steps w)) (parts_of w i)))

      module _ {x : Word} (e : stacked w st (suc k) ≡ word x ∷ stacked w st k) where
        pub word_low : x.symbol < s
        word_low = word_there e

        module _ {sy' sc' : List ℕ} {r : ℕ} (l : s ≤ length sc) (p : Noted n x sy sc sy' sc' r) where
          pub word_taken : Tour s w goal sy₀ sc₀ n₀ sy' sc' r st₀ st k
          unfolding words load
          word_taken = record {
            done = t.done ++ (x ∷ []);
            hears = hears_both t.done (x ∷ []) t.hears (record { says = λ h. hear_one h x (word_there e) l p });
            rest = append_assoc t.done (x ∷ []) (words (spoken w (height w)) (stacked w st k)) ∙ (rw e at t.rest);
            takes = others e;
            same = t.same;
            few = let f = rw e at t.few in omega arith;
          }

        pub word_steps : left_steps w st k < left_steps w st (suc k)
        unfolding load
        word_steps = rw e (omega arith)

-- what is taken from the stack, by its two numbers
pub popped : (w : Rows) (st : List ℕ) (k : ℕ) {p : Part} → p ≡ source w (get_or st (2 * k) 0) (get_or st (2 * k + 1) 0) → stacked w st (suc k) ≡ p ∷ stacked w st k
unfolding stacked
popped w st k e = rw e refl
