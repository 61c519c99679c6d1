-- What could have stood at a refused token, and what was open there. Document 02, L2.
use Rattle.std.specs.Prelude.{ℕ, zero, suc, ◌+◌, ◌^◌, ◌≤◌, ◌<◌, Bool, false, cond, List, [], ◌∷◌, ◌↔◌, ◌≡◌, T}
use Rattle.grammar.specs.Door.{Whole, RightEdition}
use Rattle.grammar.specs.Edition.{Edition, edition}
use Rattle.grammar.specs.Kaori.{kaori, script, Script}
use Rattle.grammar.specs.Kind.{Eof}
use Rattle.grammar.specs.Label.{Label}
use Rattle.grammar.specs.Phrase.{Phrase, Grammar, Tree}
use Rattle.grammar.specs.Refusal.{Refused, refused, Refuses}
use Rattle.grammar.specs.Rows.{Rows, blank}
use Rattle.grammar.specs.Space.{Space}
use Rattle.grammar.specs.Token.{kind, count}

-- 'A kind is in the set exactly when some script accepted by the grammar, with no bound on length or depth, begins with the tokens before the place and then
-- that kind; for Eof, when the tokens before it form a whole script': the kinds before the place stay, x stands there, and what follows is free. A script ends
-- at its first Eof, so with Eof at the place it ends there.
pub record CouldStand (e : Edition) (kind : ℕ → ℕ) (place x : ℕ) : Type 0 where
  pub kinds : ℕ → ℕ
  pub before : (i : ℕ) → i < place → kinds i ≡ kind i
  pub there : kinds place ≡ x
  pub end : ℕ
  pub reaches : place ≤ end
  pub tree : Tree Label
  pub script : Script e kinds end tree

-- an open construct: 'its sort (expression 0, block 1, `if` 2, sign 3) and opening token'
pub data Opening : Type 0 where
  opening : (sort at : ℕ) → Opening

-- 'the chain of .. open constructs, outermost first .. those that the depth counts, each closed once it is whole and the next token can't extend it': what a
-- refusal lies inside of. A construct that is whole has been read, and the refusal comes after it.
module _ {ts : List ℕ} {symbol : ℕ → ℕ} {limit : ℕ} {space : Space} {N : Type 0} {G : Grammar N Label} {kind : ℕ → ℕ} where
  unfoldable pub openings : {p : Phrase N Label} {o a : ℕ} {w : Rows} {q : Refused} → Refuses ts symbol limit space G kind p o a w q → List Opening
  openings (Refuses.missing e) = []
  openings (Refuses.past_token e x) = openings x
  openings (Refuses.in_first x) = openings x
  openings (Refuses.in_second r x) = openings x
  openings (Refuses.too_deep h) = []
  openings (Refuses.inside {s = s} {a = a} h x) = opening s a ∷ openings x
  openings (Refuses.in_node x) = openings x
  openings (Refuses.no_room r l) = []
  openings (Refuses.in_choice e x) = openings x
  openings (Refuses.in_start x) = openings x
  openings (Refuses.in_link l e x) = openings x
  openings (Refuses.no_room_linked l e r k) = []
  openings (Refuses.in_only x) = openings x
  openings (Refuses.in_joined r e x) = openings x
  openings (Refuses.no_room_joined r e s k) = []
  openings Refuses.stopped = []

-- reading in edition n is refused by this code at this token, in rooms of some size: where checks 1, 3 and 21 let list, limit and edition in, and check 6 the kinds
pub record Met (n : ℕ) (ts : List ℕ) (limit code place : ℕ) : Type 0 where
  pub whole : Whole ts
  pub some_depth : 1 ≤ limit
  pub least_depth : limit ≤ 64
  pub right : RightEdition n
  pub inside : place < count ts
  pub known : (i : ℕ) → i ≤ place → kind ts i ≤ Eof
  pub symbol : ℕ → ℕ
  pub space : Space
  pub expected : ℕ
  pub refusal : Refuses ts symbol limit space (kaori (edition n)) (kind ts) script 0 0 blank (refused code place expected)

-- what is told of a list, an edition, a limit, a code and a token: which kinds are in the set, and the chain
pub data Expects (n : ℕ) (ts : List ℕ) (limit code place : ℕ) (could : ℕ → Bool) : List Opening → Type 0 where
  -- 'For refusals 8, 9 and 10 give the kinds .. give also the chain'
  unread : 8 ≤ code → code ≤ 10 → (m : Met n ts limit code place) → ((x : ℕ) → x ≤ Eof → T (could x) ↔ CouldStand (edition n) (kind ts) place x) → Expects n ts limit code place could (openings m.refusal)
  -- 'For 11 the set is empty and the chain holds as many as the limit'
  too_deep : code ≡ 11 → (m : Met n ts limit code place) → ((x : ℕ) → x ≤ Eof → could x ≡ false) → Expects n ts limit code place could (openings m.refusal)
  -- 'other codes give an empty set and an empty chain'; so does a token at which reading is not refused by the code
  nothing : (8 ≤ code → code ≤ 11 → Met n ts limit code place → ⊥) → ((x : ℕ) → x ≤ Eof → could x ≡ false) → Expects n ts limit code place could []

-- of a set of kinds under n: the number that has a 1 at each of them, how many they are, and the lowest of the n from k on ('an empty set's lowest is 255')
unfoldable pub gathered : (ℕ → Bool) → ℕ → ℕ
gathered f zero = 0
gathered f (suc n) = gathered f n + cond (f n) (2 ^ n) 0

unfoldable pub how_many : (ℕ → Bool) → ℕ → ℕ
how_many f zero = 0
how_many f (suc n) = how_many f n + cond (f n) 1 0

unfoldable pub lowest_from : (ℕ → Bool) → (k n : ℕ) → ℕ
lowest_from f k zero = 255
lowest_from f k (suc n) = cond (f k) k (lowest_from f (suc k) n)
