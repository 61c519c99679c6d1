-- The chain of a refusal: no longer than the limit, just as long where that is passed, and its tokens rise.
use Prim.Native.Nat.{ℕ, ◌+◌, ◌≤◌}
use mathlib.Core.List.{List, [], ◌∷◌}
use mathlib.Core.Path.{◌≡◌}
use native.Mathlib.Omega.{arith}
use lib.Dec.{leb, T, leb→le}
use lib.ListN.{length}
use Rattle.grammar.specs.Edition.{Edition}
use Rattle.grammar.specs.Expected.{Opening, opening, openings}
use Rattle.grammar.specs.Kaori.{Form, kaori, script}
use Rattle.grammar.specs.Label.{Label}
use Rattle.grammar.specs.Phrase.{Grammar, Tree, Aim, Reads}
use Rattle.grammar.specs.Refusal.{Refused, refused, Refuses}
use Rattle.grammar.specs.Rows.{Rows, blank}
use Rattle.grammar.specs.Space.{Space, Lacks}
use Rattle.grammar.proofs.Places.{proper, proper_entry, proper_link, rest, code_of, place_of}
use Rattle.grammar.proofs.Tests.{both}

-- tokens from a up to b, each no earlier than the one before
abbrev pub Rise : ℕ → ℕ → List Opening → Type 0
Rise a b [] = a ≤ b
Rise a b (opening k c ∷ os) = (a ≤ c) × Rise c b os

pub record Chained (limit o a : ℕ) (q : Refused) (os : List Opening) : Type 0 where
  pub most : o + length os ≤ limit
  pub full : code_of q ≡ 11 → o + length os ≡ limit
  pub rise : Rise a (place_of q) os

reading_rises : {N L : Type 0} {G : Grammar N L} {kind : ℕ → ℕ} {m : Aim N L} {a b : ℕ} {t : Tree L} → Reads G kind m a b t → a ≤ b
reading_rises Reads.nothing = omega arith
reading_rises (Reads.taken e x) = omega (arith, reading_rises x)
reading_rises (Reads.both x y) = omega (arith, reading_rises x, reading_rises y)
reading_rises (Reads.opened x) = reading_rises x
reading_rises (Reads.labelled x) = reading_rises x
reading_rises (Reads.chosen e x) = reading_rises x
reading_rises (Reads.first x) = reading_rises x
reading_rises (Reads.link l e x) = omega (arith, reading_rises l, reading_rises x)
reading_rises (Reads.ended l e) = reading_rises l
reading_rises (Reads.alone x e) = reading_rises x
reading_rises (Reads.joined x e y) = omega (arith, reading_rises x, reading_rises y)

later : {a b : ℕ} (c : ℕ) (os : List Opening) → a ≤ b → Rise b c os → Rise a c os
later c [] h r = omega arith
later c (opening k d ∷ os) h r = (omega (arith, r.0), r.1)

-- the same chain, from an earlier token
from : {limit o a b : ℕ} {q : Refused} {os : List Opening} → a ≤ b → Chained limit o b q os → Chained limit o a q os
from {q = q} {os = os} h c = record { most = c.most; full = c.full; rise = later (place_of q) os h c.rise }

alone : {limit o a : ℕ} (code expected : ℕ) → o ≤ limit → (code ≡ 11 → o ≡ limit) → Chained limit o a (refused code a expected) []
alone code expected h f = record { most = omega arith; full = λ e. omega (arith, f e); rise = omega arith }

-- nothing is open where a row does not fit: it is met at a node's first token or at the one after it
unfit : {symbol : ℕ → ℕ} {space : Space} {f : Label} {limit o a b c d : ℕ} {w : Rows} → Lacks symbol space f b c w d → a ≤ b → b ≤ c → o ≤ limit → Chained limit o a (refused 4 d 255) []
unfit (Lacks.word i j) h k l = from h (alone 4 255 l (λ e. absurd (omega arith)))
unfit {a = a} {c = c} (Lacks.link i j) h k l = from {b = c} (omega arith) (alone 4 255 l (λ e. absurd (omega arith)))
unfit {a = a} {c = c} (Lacks.row i j m) h k l = from {b = c} (omega arith) (alone 4 255 l (λ e. absurd (omega arith)))

module _ (e : Edition) {ts : List ℕ} {symbol : ℕ → ℕ} {limit : ℕ} {space : Space} {kind : ℕ → ℕ} where
  chained : {p : Form} {o a : ℕ} {w : Rows} {q : Refused} (x : Refuses ts symbol limit space (kaori e) kind p o a w q) → T (proper p) → o ≤ limit → Chained limit o a q (openings x)
  unfolding openings proper
  chained (Refuses.missing {x = y} k) h l = alone 8 y l (λ e. absurd (omega arith))
  chained (Refuses.past_token {x = y} {p = p} k x) h l = from (omega arith) (chained x (rest y p h) l)
  chained (Refuses.in_first {p = p} {r = r} x) h l = chained x (both (proper p) (proper r) h).0 l
  chained (Refuses.in_second {p = p} {r = r} y x) h l = from (reading_rises y.reads) (chained x (both (proper p) (proper r) h).1 l)
  chained (Refuses.too_deep d) h l = alone 11 255 l (λ e. omega arith)
  chained (Refuses.inside d x) h l = let c = chained x h (omega arith) in record { most = omega (arith, c.most); full = λ e. omega (arith, c.full e); rise = (omega arith, c.rise) }
  chained (Refuses.in_node x) h l = chained x h l
  chained (Refuses.no_room y n) h l = unfit n (omega arith) (reading_rises y.reads) l
  chained (Refuses.in_choice {n = m} k x) h l = chained x (proper_entry e m _ k) l
  chained (Refuses.in_start x) h l = chained x h l
  chained (Refuses.in_link {n = m} y k x) h l = from (reading_rises y.reads) (chained x (proper_link e m _ k) l)
  chained (Refuses.no_room_linked y k z n) h l = unfit n (reading_rises y.reads) (reading_rises z.reads) l
  chained (Refuses.in_only x) h l = chained x h l
  chained (Refuses.in_joined {n = m} y k x) h l = from (reading_rises y.reads) (chained x (proper_link e m _ k) l)
  chained (Refuses.no_room_joined y k z n) h l = unfit n (reading_rises y.reads) (reading_rises z.reads) l
  chained (Refuses.stopped {e = c}) h l = alone c 255 l (λ d. absurd (omega (arith, leb→le c 10 (both (leb 9 c) (leb c 10) h).1)))

  pub script_chain : {q : Refused} (x : Refuses ts symbol limit space (kaori e) kind script 0 0 blank q) → Chained limit 0 0 q (openings x)
  unfolding proper
  script_chain x = chained x tt (omega arith)
