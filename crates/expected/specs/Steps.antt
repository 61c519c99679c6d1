-- What comes of a kind before the cells of a stack.
use Rattle.std.specs.Prelude.{ℕ, suc, ◌+◌, ◌≤◌, ◌<◌, Bool, List, ◌++◌, ◌≡◌, Option, Some, None, T, length, get_or, drop}
use Rattle.grammar.specs.Edition.{Edition}
use Rattle.grammar.specs.Expected.{gathered}
use Rattle.grammar.specs.Kaori.{Table, kaori}
use Rattle.grammar.specs.Label.{Label}
use Rattle.grammar.specs.Refusal.{Refused}
use Rattle.grammar.proofs.Stack.{Stack, Result, took, over, bars, Goes}
use Rattle.grammar.proofs.Expected.{Stands}
use Rattle.grammar.proofs.Overflow.{Overflows}
use Rattle.grammar.proofs.Places.{place_of}
use Rattle.grammar.proofs.Stopping.{marks, Opens, Meets}
use Rattle.expected.specs.Cells.{decoded, barred, barred_by, entry, only_marks, Sound, Acts, bar_number, number_of}
use Rattle.expected.specs.declared.stack.Step.{Step}
use Rattle.expected.specs.declared.stack.Stop.{Stop}

-- with K left before token c, of kind x, an opening passes the limit there
pub record TooDeep (e : Edition) (x c : ℕ) (kind : ℕ → ℕ) (limit : ℕ) (q : Refused) (M K : Stack Table Label) : Type 0 where
  pub here : kind c ≡ x
  pub opens : Opens M
  pub there : place_of q ≤ c
  pub within : marks K ≤ limit
  pub meets : Meets (kaori e) kind limit K c q M

-- then more is open in J than the limit allows, and what is open at the refusal is the first of it
pub record Fills (e : Edition) (x c : ℕ) (K J : Stack Table Label) : Type 0 where
  pub full : {kind : ℕ → ℕ} {limit : ℕ} {q : Refused} {M : Stack Table Label} → TooDeep e x c kind limit q M K → Overflows limit M J

-- the kind is taken: the top is then at t, and d constructs are open
pub record Taken (e : Edition) (x c top : ℕ) (before after : List ℕ) (t d : ℕ) : Type 0 where
  pub goes : Goes (kaori e) x c (decoded (drop top before)) (took (decoded (drop t after)))
  pub fills : Fills e x c (decoded (drop top before)) (decoded (drop t after))
  pub deep : d ≡ marks (decoded (drop t after))
  pub sounds : Sound (drop t after)
  pub near : top ≤ t + 8
  pub fits : t ≤ length after

-- nothing is left to read, and no opening passes a limit
pub record Ends (e : Edition) (x c : ℕ) (K : Stack Table Label) : Type 0 where
  pub goes : Goes (kaori e) x c K over
  pub never : {kind : ℕ → ℕ} {limit : ℕ} {q : Refused} {M : Stack Table Label} → TooDeep e x c kind limit q M K → ⊥

-- the cell at t bars it, and d constructs are open below it; of what stands for it there the code and the marks are those that the number says
pub record Bars (e : Edition) (x c top : ℕ) (before after : List ℕ) (t d a : ℕ) : Type 0 where
  pub stands : Stack Table Label
  pub goes : Goes (kaori e) x c (decoded (drop top before)) (bars (stands ++ decoded (drop (suc t) after)))
  pub fills : Fills e x c (decoded (drop top before)) (stands ++ decoded (drop (suc t) after))
  pub marked : entry c a ≡ barred (barred_by stands) (only_marks stands)
  pub deep : d ≡ marks (decoded (drop (suc t) after))
  pub fewer : d ≤ marks (decoded (drop top before))
  pub sounds : Sound (drop (suc t) after)
  pub fits : t < length after
  pub number : a < 5
  pub kept : after ≡ before

unfoldable pub Case : (e : Edition) (x c top : ℕ) (before after : List ℕ) → Step → Type 0
Case e x c top before after (Step.Took t d) = Taken e x c top before after t d
Case e x c top before after Step.Over = Ends e x c (decoded (drop top before))
Case e x c top before after (Step.Barred t d b) = Bars e x c top before after t d (bar_number b)

pub record Stepped (e : Edition) (x c top : ℕ) (before after : List ℕ) (r : Step) : Type 0 where
  pub says : Case e x c top before after r
  pub same_length : length after ≡ length before

-- where an opening passes the limit with K left, it does with J left
pub record Deepens (e : Edition) (x c : ℕ) (K J : Stack Table Label) : Type 0 where
  pub deeper : {limit : ℕ} {kind : ℕ → ℕ} {q : Refused} {M : Stack Table Label} → TooDeep e x c kind limit q M K → TooDeep e x c kind limit q M J

-- the cells above t are left behind
pub record Passing (e : Edition) (x c top : ℕ) (before room : List ℕ) (t : ℕ) : Type 0 where
  pub same : room ≡ before
  pub past : top ≤ t
  pub upto : t ≤ length room
  pub sounds : Sound (drop t room)
  pub on : (r : Result Table Label) → Goes (kaori e) x c (decoded (drop t room)) r → Goes (kaori e) x c (decoded (drop top before)) r
  pub deepens : Deepens e x c (decoded (drop top before)) (decoded (drop t room))

-- the cells above a place are left behind: what comes of the kind before those from there on comes of it before all, wherever the token is; and so many of them are marks
pub record Above (e : Edition) (x top : ℕ) (room : List ℕ) (t n : ℕ) : Type 0 where
  pub passing : (c : ℕ) → Passing e x c top room room t
  pub counted : marks (decoded (drop top room)) ≡ n + marks (decoded (drop t room))
  pub few : n ≤ t

-- the cell there stops the kind
pub record StopsAt (e : Edition) (x top : ℕ) (room : List ℕ) (s : Stop) : Type 0 where
  pub above : Above e x top room s.at s.marks
  pub inside : s.at < length room
  pub state : get_or room s.at 0 < 64
  pub acts : Acts e (get_or room s.at 0) x (number_of (Some s.action))

unfoldable pub StopCase : (e : Edition) (x top : ℕ) (room : List ℕ) → Option Stop → Type 0
StopCase e x top room (Some s) = StopsAt e x top room s
StopCase e x top room None = (c : ℕ) → Passing e x c top room room (length room)

pub record Stops (e : Edition) (x top : ℕ) (room : List ℕ) (r : Option Stop) : Type 0 where
  pub says : StopCase e x top room r

-- whether a kind could stand before what is left: it is not barred, wherever the token is
pub record Admits (e : Edition) (x : ℕ) (K : Stack Table Label) (b : Bool) : Type 0 where
  pub result : ℕ → Result Table Label
  pub goes : (c : ℕ) → Goes (kaori e) x c K (result c)
  pub yes : T b → (c : ℕ) → Stands (result c)
  pub no : (c : ℕ) → Stands (result c) → T b

pub record Gathers (e : Edition) (K : Stack Table Label) (n r : ℕ) : Type 0 where
  pub member : ℕ → Bool
  pub number : r ≡ gathered member n
  pub right : (x : ℕ) → x < n → Admits e x K (member x)
