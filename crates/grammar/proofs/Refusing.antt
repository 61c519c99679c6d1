-- The way back: what a stack meets is a refusal of what it has to read, in rooms that are large enough. First without rows: the turns that drove the stack are taken
-- back one by one. Then with them: each part that is read adds its rows to what the rooms have to hold.
use Prim.Native.Nat.{ℕ, suc, ◌+◌, ◌≤◌, ◌<◌}
use mathlib.Core.Bool.{true, false}
use mathlib.Core.List.{List, [], ◌∷◌, ◌++◌}
use mathlib.Core.Path.{◌≡◌}
use native.Mathlib.Omega.{arith}
use lib.ListN.{length}
use Rattle.grammar.specs.Edition.{Edition}
use Rattle.grammar.specs.Kaori.{Table, kaori, script}
use Rattle.grammar.specs.Label.{Label}
use Rattle.grammar.specs.Phrase.{Phrase, empty, token, part, nested, node, choice, chain, once, refusal, Grammar, Tree, Aim, whole, begun, Reads, depth}
use Rattle.grammar.specs.Refusal.{Refused, refused, Passes, Refuses}
use Rattle.grammar.specs.Rows.{Rows, blank, then}
use Rattle.grammar.specs.Space.{Space}
use Rattle.grammar.specs.Token.{kind}
use Rattle.grammar.proofs.Stack.{Item, want, links, mark, Stack, Turn}
use Rattle.grammar.proofs.Stopping.{marks, Meets}
use Rattle.grammar.proofs.Symbols.{named_all}

module _ {N L : Type 0} (G : Grammar N L) (kind : ℕ → ℕ) (limit : ℕ) where
  -- the tokens from a up to b read, no deeper than the limit
  data Runs (m : Aim N L) (o a b : ℕ) : Type 0 where
    runs : {t : Tree L} → Reads G kind m a b t → o + depth t ≤ limit → Runs m o a b

  -- a refusal whatever the rooms are
  data Stops : Phrase N L → ℕ → ℕ → Refused → Type 0 where
    missing : {x o a : ℕ} {p : Phrase N L} → (kind a ≡ x → ⊥) → Stops (token x p) o a (refused 8 a x)
    past_token : {x o a : ℕ} {p : Phrase N L} {q : Refused} → kind a ≡ x → Stops p o (a + 1) q → Stops (token x p) o a q
    in_first : {o a : ℕ} {p r : Phrase N L} {q : Refused} → Stops p o a q → Stops (part p r) o a q
    in_second : {o a b : ℕ} {p r : Phrase N L} {q : Refused} → Runs (whole p) o a b → Stops r o b q → Stops (part p r) o a q
    too_deep : {k o a : ℕ} {p : Phrase N L} → limit ≤ o → Stops (nested k p) o a (refused 11 a 255)
    inside : {k o a : ℕ} {p : Phrase N L} {q : Refused} → o < limit → Stops p (suc o) a q → Stops (nested k p) o a q
    in_node : {f : L} {o a : ℕ} {p : Phrase N L} {q : Refused} → Stops p o a q → Stops (node f p) o a q
    in_choice : {n : N} {o a : ℕ} {p : Phrase N L} {q : Refused} → G n (kind a) ≡ p → Stops p o a q → Stops (choice n) o a q
    in_start : {n : N} {o a : ℕ} {p : Phrase N L} {q : Refused} → Stops p o a q → Stops (chain p n) o a q
    in_link : {n : N} {f : L} {o a b : ℕ} {p r : Phrase N L} {q : Refused} → Runs (begun p n) o a b → G n (kind b) ≡ node f r → Stops r o b q → Stops (chain p n) o a q
    in_only : {n : N} {o a : ℕ} {p : Phrase N L} {q : Refused} → Stops p o a q → Stops (once p n) o a q
    in_joined : {n : N} {f : L} {o a b : ℕ} {p r : Phrase N L} {q : Refused} → Runs (whole p) o a b → G n (kind b) ≡ node f r → Stops r o b q → Stops (once p n) o a q
    stopped : {e o a : ℕ} → Stops (refusal e) o a (refused e a 255)

  -- an item of a stack is refused, once those above it are read
  data Fails : Stack N L → ℕ → Refused → Type 0 where
    want_stops : {a : ℕ} {p : Phrase N L} {K : Stack N L} {q : Refused} → Stops p (marks K) a q → Fails (want p ∷ K) a q
    want_runs : {a b : ℕ} {p : Phrase N L} {K : Stack N L} {q : Refused} → Runs (whole p) (marks K) a b → Fails K b q → Fails (want p ∷ K) a q
    chain_stops : {a : ℕ} {n : N} {K : Stack N L} {q : Refused} → Stops (chain empty n) (marks K) a q → Fails (links true n ∷ K) a q
    chain_runs : {a b : ℕ} {n : N} {K : Stack N L} {q : Refused} → Runs (whole (chain empty n)) (marks K) a b → Fails K b q → Fails (links true n ∷ K) a q
    once_stops : {a : ℕ} {n : N} {K : Stack N L} {q : Refused} → Stops (once empty n) (marks K) a q → Fails (links false n ∷ K) a q
    once_runs : {a b : ℕ} {n : N} {K : Stack N L} {q : Refused} → Runs (whole (once empty n)) (marks K) a b → Fails K b q → Fails (links false n ∷ K) a q
    shut : {k o a : ℕ} {K : Stack N L} {q : Refused} → Fails K a q → Fails (mark k o ∷ K) a q

module _ {N L : Type 0} {G : Grammar N L} {kind : ℕ → ℕ} {limit : ℕ} where
  -- the ways of reading, within the limit
  run : {m : Aim N L} {o a b : ℕ} {t : Tree L} → Reads G kind m a b t → o + depth t ≤ limit → Runs G kind limit m o a b
  run x h = Runs.runs x h

  run_nothing : {o a : ℕ} → o ≤ limit → Runs G kind limit (whole empty) o a a
  unfolding depth
  run_nothing h = run Reads.nothing (omega arith)

  run_taken : {x o a b : ℕ} {p : Phrase N L} → kind a ≡ x → Runs G kind limit (whole p) o (a + 1) b → Runs G kind limit (whole (token x p)) o a b
  run_taken e (Runs.runs x h) = run (Reads.taken e x) h

  run_both : {o a b c : ℕ} {p q : Phrase N L} → Runs G kind limit (whole p) o a b → Runs G kind limit (whole q) o b c → Runs G kind limit (whole (part p q)) o a c
  unfolding depth
  run_both (Runs.runs x h) (Runs.runs y i) = run (Reads.both x y) (omega arith)

  run_opened : {k o a b : ℕ} {p : Phrase N L} → Runs G kind limit (whole p) (suc o) a b → Runs G kind limit (whole (nested k p)) o a b
  unfolding depth
  run_opened (Runs.runs x h) = run (Reads.opened x) (omega arith)

  run_labelled : {f : L} {o a b : ℕ} {p : Phrase N L} → Runs G kind limit (whole p) o a b → Runs G kind limit (whole (node f p)) o a b
  unfolding depth
  run_labelled (Runs.runs x h) = run (Reads.labelled x) h

  run_chosen : {n : N} {o a b : ℕ} {p : Phrase N L} → G n (kind a) ≡ p → Runs G kind limit (whole p) o a b → Runs G kind limit (whole (choice n)) o a b
  run_chosen e (Runs.runs x h) = run (Reads.chosen e x) h

  run_first : {n : N} {o a b : ℕ} {p : Phrase N L} → Runs G kind limit (whole p) o a b → Runs G kind limit (begun p n) o a b
  run_first (Runs.runs x h) = run (Reads.first x) h

  run_link : {n : N} {f : L} {o a b c : ℕ} {p q : Phrase N L} → Runs G kind limit (begun p n) o a b → G n (kind b) ≡ node f q → Runs G kind limit (whole q) o b c → Runs G kind limit (begun p n) o a c
  unfolding depth
  run_link (Runs.runs x h) e (Runs.runs y i) = run (Reads.link x e y) (omega arith)

  run_ended : {n : N} {o a b : ℕ} {p : Phrase N L} → Runs G kind limit (begun p n) o a b → G n (kind b) ≡ empty → Runs G kind limit (whole (chain p n)) o a b
  run_ended (Runs.runs x h) e = run (Reads.ended x e) h

  run_alone : {n : N} {o a b : ℕ} {p : Phrase N L} → Runs G kind limit (whole p) o a b → G n (kind b) ≡ empty → Runs G kind limit (whole (once p n)) o a b
  run_alone (Runs.runs x h) e = run (Reads.alone x e) h

  run_joined : {n : N} {f : L} {o a b c : ℕ} {p q : Phrase N L} → Runs G kind limit (whole p) o a b → G n (kind b) ≡ node f q → Runs G kind limit (whole q) o b c → Runs G kind limit (whole (once p n)) o a c
  unfolding depth
  run_joined (Runs.runs x h) e (Runs.runs y i) = run (Reads.joined x e y) (omega arith)

  -- links after links
  attach : {p : Phrase N L} {n : N} {o a b c : ℕ} {u : Tree L} → Runs G kind limit (begun p n) o a b → Reads G kind (begun empty n) b c u → o + depth u ≤ limit → Runs G kind limit (begun p n) o a c
  unfolding depth
  attach x (Reads.first Reads.nothing) h = x
  attach x (Reads.link l e y) h = run_link (attach x l (omega arith)) e (run y (omega arith))

  run_more : {p : Phrase N L} {n : N} {o a b c : ℕ} → Runs G kind limit (begun p n) o a b → Runs G kind limit (whole (chain empty n)) o b c → Runs G kind limit (whole (chain p n)) o a c
  run_more x (Runs.runs (Reads.ended l e) h) = run_ended (attach x l h) e

  run_one : {p : Phrase N L} {n : N} {o a b c : ℕ} → Runs G kind limit (whole p) o a b → Runs G kind limit (whole (once empty n)) o b c → Runs G kind limit (whole (once p n)) o a c
  unfolding depth
  run_one x (Runs.runs (Reads.alone Reads.nothing e) h) = run_alone x e
  run_one x (Runs.runs (Reads.joined Reads.nothing e y) h) = run_joined x e (run y (omega arith))

  -- a link is refused after links
  stop_more : {p : Phrase N L} {n : N} {o a b : ℕ} {q : Refused} → Runs G kind limit (begun p n) o a b → Stops G kind limit (chain empty n) o b q → Stops G kind limit (chain p n) o a q
  stop_more x (Stops.in_start y) = elim y [ ]
  stop_more x (Stops.in_link (Runs.runs l h) e y) = Stops.in_link (attach x l h) e y

  stop_one : {p : Phrase N L} {n : N} {o a b : ℕ} {q : Refused} → Runs G kind limit (whole p) o a b → Stops G kind limit (once empty n) o b q → Stops G kind limit (once p n) o a q
  stop_one x (Stops.in_only y) = elim y [ ]
  stop_one x (Stops.in_joined (Runs.runs Reads.nothing h) e y) = Stops.in_joined x e y

  -- what is refused once an item is turned is refused before
  back_turn : {i : Item N L} {J K : Stack N L} {a : ℕ} {q : Refused} → Turn G (kind a) a i J → marks (J ++ K) ≤ limit → Fails G kind limit (J ++ K) a q → Fails G kind limit (i ∷ K) a q
  back_turn Turn.nothing l k = Fails.want_runs (run_nothing l) k
  back_turn Turn.both l (Fails.want_stops s) = Fails.want_stops (Stops.in_first s)
  back_turn Turn.both l (Fails.want_runs r (Fails.want_stops s)) = Fails.want_stops (Stops.in_second r s)
  back_turn Turn.both l (Fails.want_runs r (Fails.want_runs s k)) = Fails.want_runs (run_both r s) k
  back_turn {K = K} Turn.opens l (Fails.want_stops s) = let h : marks K < limit = omega arith in Fails.want_stops (Stops.inside h s)
  back_turn Turn.opens l (Fails.want_runs r (Fails.shut k)) = Fails.want_runs (run_opened r) k
  back_turn Turn.labels l (Fails.want_stops s) = Fails.want_stops (Stops.in_node s)
  back_turn Turn.labels l (Fails.want_runs r k) = Fails.want_runs (run_labelled r) k
  back_turn (Turn.chooses e) l (Fails.want_stops s) = Fails.want_stops (Stops.in_choice e s)
  back_turn (Turn.chooses e) l (Fails.want_runs r k) = Fails.want_runs (run_chosen e r) k
  back_turn Turn.starts l (Fails.want_stops s) = Fails.want_stops (Stops.in_start s)
  back_turn Turn.starts l (Fails.want_runs r (Fails.chain_stops s)) = Fails.want_stops (stop_more (run_first r) s)
  back_turn Turn.starts l (Fails.want_runs r (Fails.chain_runs s k)) = Fails.want_runs (run_more (run_first r) s) k
  back_turn Turn.only l (Fails.want_stops s) = Fails.want_stops (Stops.in_only s)
  back_turn Turn.only l (Fails.want_runs r (Fails.once_stops s)) = Fails.want_stops (stop_one r s)
  back_turn Turn.only l (Fails.want_runs r (Fails.once_runs s k)) = Fails.want_runs (run_one r s) k
  back_turn (Turn.joins {g = true} e) l (Fails.want_stops s) = Fails.chain_stops (Stops.in_link (run_first (run_nothing l)) e s)
  back_turn (Turn.joins {g = true} e) l (Fails.want_runs r (Fails.chain_stops s)) = Fails.chain_stops (stop_more (run_link (run_first (run_nothing l)) e r) s)
  back_turn (Turn.joins {g = true} e) l (Fails.want_runs r (Fails.chain_runs s k)) = Fails.chain_runs (run_more (run_link (run_first (run_nothing l)) e r) s) k
  back_turn (Turn.joins {g = false} e) l (Fails.want_stops s) = Fails.once_stops (Stops.in_joined (run_nothing l) e s)
  back_turn (Turn.joins {g = false} e) l (Fails.want_runs r k) = Fails.once_runs (run_joined (run_nothing l) e r) k
  back_turn (Turn.ends {g = true} e) l k = Fails.chain_runs (run_ended (run_first (run_nothing l)) e) k
  back_turn (Turn.ends {g = false} e) l k = Fails.once_runs (run_alone (run_nothing l) e) k
  back_turn Turn.shuts l k = Fails.shut k

  back_take : {x a : ℕ} {p : Phrase N L} {K : Stack N L} {q : Refused} → kind a ≡ x → Fails G kind limit (want p ∷ K) (a + 1) q → Fails G kind limit (want (token x p) ∷ K) a q
  back_take e (Fails.want_stops s) = Fails.want_stops (Stops.past_token e s)
  back_take e (Fails.want_runs r k) = Fails.want_runs (run_taken e r) k

  fails : {K M : Stack N L} {a : ℕ} {q : Refused} → Meets G kind limit K a q M → Fails G kind limit K a q
  fails (Meets.lacks e) = Fails.want_stops (Stops.missing e)
  fails (Meets.full h) = Fails.want_stops (Stops.too_deep h)
  fails Meets.stops = Fails.want_stops Stops.stopped
  fails (Meets.take e x) = back_take e (fails x)
  fails (Meets.turn t h x) = back_turn t h (fails x)

  alone : {p : Phrase N L} {a : ℕ} {q : Refused} → Fails G kind limit (want p ∷ []) a q → Stops G kind limit p 0 a q
  alone (Fails.want_stops s) = s
  alone (Fails.want_runs r k) = elim k [ ]

-- no token lacks its symbol
abbrev given : ℕ → ℕ
given i = 0

module _ (ts : List ℕ) {N : Type 0} {G : Grammar N Label} {kind : ℕ → ℕ} {limit : ℕ} where
  passing : {m : Aim N Label} {o a b : ℕ} {t : Tree Label} (w : Rows) (n : ℕ) (space : Space) → Reads G kind m a b t → o + depth t ≤ limit → length (then ts given t w).nodes + (length (then ts given t w).links + n) ≤ space.nodes → length (then ts given t w).nodes + (length (then ts given t w).links + n) ≤ space.links → Passes ts given limit space G kind m o a w b t
  passing {t = t} w n space x h i j = record { reads = x; deep = h; named = named_all (λ i. omega arith) t; fits = omega arith }

  -- rooms of n numbers or more will do
  rooms : {p : Phrase N Label} {o a : ℕ} {q : Refused} → Stops G kind limit p o a q → (w : Rows) → (n : ℕ) × ((space : Space) → n ≤ space.nodes → n ≤ space.links → Refuses ts given limit space G kind p o a w q)
  rooms (Stops.missing e) w = (0, λ z i j. Refuses.missing e)
  rooms (Stops.past_token e x) w = let (n, f) = rooms x w in (n, λ z i j. Refuses.past_token e (f z i j))
  rooms (Stops.in_first x) w = let (n, f) = rooms x w in (n, λ z i j. Refuses.in_first (f z i j))
  rooms (Stops.in_second (Runs.runs {t = t} r h) x) w = let v = then ts given t w in let (n, f) = rooms x v in (length v.nodes + (length v.links + n), λ z i j. Refuses.in_second (passing w n z r h i j) (f z (omega arith) (omega arith)))
  rooms (Stops.too_deep h) w = (0, λ z i j. Refuses.too_deep h)
  rooms (Stops.inside h x) w = let (n, f) = rooms x w in (n, λ z i j. Refuses.inside h (f z i j))
  rooms (Stops.in_node x) w = let (n, f) = rooms x w in (n, λ z i j. Refuses.in_node (f z i j))
  rooms (Stops.in_choice e x) w = let (n, f) = rooms x w in (n, λ z i j. Refuses.in_choice e (f z i j))
  rooms (Stops.in_start x) w = let (n, f) = rooms x w in (n, λ z i j. Refuses.in_start (f z i j))
  rooms (Stops.in_link (Runs.runs {t = t} r h) e x) w = let v = then ts given t w in let (n, f) = rooms x v in (length v.nodes + (length v.links + n), λ z i j. Refuses.in_link (passing w n z r h i j) e (f z (omega arith) (omega arith)))
  rooms (Stops.in_only x) w = let (n, f) = rooms x w in (n, λ z i j. Refuses.in_only (f z i j))
  rooms (Stops.in_joined (Runs.runs {t = t} r h) e x) w = let v = then ts given t w in let (n, f) = rooms x v in (length v.nodes + (length v.links + n), λ z i j. Refuses.in_joined (passing w n z r h i j) e (f z (omega arith) (omega arith)))
  rooms Stops.stopped w = (0, λ z i j. Refuses.stopped)

  -- what a phrase meets is a refusal of it
  pub refusing_phrase : {p : Phrase N Label} {a : ℕ} {q : Refused} {M : Stack N Label} → Meets G kind limit (want p ∷ []) a q M → (w : Rows) → (symbol : ℕ → ℕ) × (space : Space) × Refuses ts symbol limit space G kind p 0 a w q
  refusing_phrase x w = let (n, f) = rooms (alone (fails x)) w in (given, record { nodes = n; links = n }, f (record { nodes = n; links = n }) (omega arith) (omega arith))

-- of a script
pub refusing : (e : Edition) (ts : List ℕ) {limit code place expected : ℕ} {M : Stack Table Label} → Meets (kaori e) (kind ts) limit (want script ∷ []) 0 (refused code place expected) M → (symbol : ℕ → ℕ) × (space : Space) × Refuses ts symbol limit space (kaori e) (kind ts) script 0 0 blank (refused code place expected)
refusing e ts x = refusing_phrase ts x blank
