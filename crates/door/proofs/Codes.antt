-- The first code in order that finds something wrong: the checks before it found nothing. And what each contract of the door allows is one outcome.
use Prim.Native.Nat.{ℕ, zero, suc, ◌+◌, ◌≤◌, ◌<◌}
use mathlib.Core.Bool.{cond}
use mathlib.Core.List.{List, []}
use mathlib.Core.Path.{◌≡◌, refl, ap}
use native.Mathlib.Decide.{dec_lt}
use native.Mathlib.Omega.{arith}
use Rattle.std.specs.Prelude.{Ok, Err}
use borrow.Author.Tests.{ne_eqb}
use lib.Dec.{eqb}
use lib.ListN.{length, get_or, replicate, length-replicate}
use Rattle.grammar.specs.Answer.{Answer, refuse, Answers}
use Rattle.grammar.specs.Builtin.{Builtins, RightNames}
use Rattle.grammar.specs.Call.{Call}
use Rattle.grammar.specs.Door.{RightSymbols, Ascii, Sound, Closed, Inside, FirstWithout, Admitted, Wrong}
use Rattle.grammar.specs.Profile.{Profile}
use Rattle.grammar.specs.Room.{Rooms}
use Rattle.grammar.specs.Token.{count}
use Rattle.grammar.proofs.Answers.{one_first as one_place, one_turn, lent_admitted, admitted_not_wrong}
use Rattle.grammar.proofs.Demands.{turned_code}
use Rattle.door.specs.Entry.{Highest, AsksLengths, lengths_code, LengthsChecked, AdmitsCode, at_token, ProfileChecked, ListChecked, entry_numbers, Enters, Told, Entered, Entry, open_entry, outright, number_of}
use Rattle.door.specs.declared.Refusal.{Refusal}
use Rattle.door.specs.declared.wrong.Wrong.{Wrong as Fault}
use Rattle.door.proofs.Searching.{Passed, passed_more}

not_over : (n k : ℕ) → (k < n → ⊥) → n ≤ k
not_over n k h = elim (dec_lt k n) [ yes z ↦ absurd (h z) | no z ↦ omega arith ]

-- what the check whose turn it is asks of a call
abbrev pub Asks : Call → ℕ → Type 0
Asks c k =
    cond (eqb k 6) (RightNames c.names)
    (cond (eqb k 7) (RightSymbols c.names (length c.rooms.symbols))
    (cond (eqb k 8) (Ascii c.text)
    (cond (eqb k 9) ((i : ℕ) → i < count c.tokens → Sound c.text c.tokens i)
    (cond (eqb k 10) ((i : ℕ) → i < count c.tokens → Closed c.tokens i)
    (cond (eqb k 11) ((i : ℕ) → i < count c.tokens → Inside c.profile c.tokens i)
    (AsksLengths (length c.tokens) (length c.text) c.edition c.limit (length c.rooms.scratch) k))))))

-- where the checks before turn n found nothing, none whose turn is before it finds anything wrong
pub from : {c : Call} {n : ℕ} → Passed (Asks c) 12 n → {t k a s e : ℕ} → Wrong c t k a s e → n ≤ t
from {n = n} r (Wrong.list x) = not_over n 1 (λ h. x (r.before 1 h))
from {n = n} r (Wrong.text x) = not_over n 2 (λ h. let z = r.before 2 h in omega arith)
from {n = n} r (Wrong.no_depth x) = not_over n 3 (λ h. let z = r.before 3 h in omega arith)
from {n = n} r (Wrong.deep x) = not_over n 3 (λ h. let z = r.before 3 h in omega arith)
from {n = n} r (Wrong.edition x) = not_over n 4 (λ h. x (r.before 4 h))
from {n = n} r (Wrong.room x) = not_over n 5 (λ h. x (r.before 5 h))
from {n = n} r (Wrong.names x) = not_over n 6 (λ h. x (r.before 6 h))
from {n = n} r (Wrong.names_room x) = not_over n 7 (λ h. let z = r.before 7 h in omega arith)
from {n = n} r (Wrong.byte {i = i} x) = not_over n 8 (λ h. x.lacks (r.before 8 h i x.place))
from {n = n} r (Wrong.token {i = i} x) = not_over n 9 (λ h. x.lacks (r.before 9 h i x.place))
from {n = n} r (Wrong.eof {i = i} x) = not_over n 10 (λ h. x.lacks (r.before 10 h i x.place))
from {n = n} r (Wrong.outside {i = i} x) = not_over n 11 (λ h. x.lacks (r.before 11 h i x.place))

pub turned : {c : Call} {n k a s e : ℕ} → Wrong c n k a s e → Passed (Asks c) 12 n → Enters c (refuse k a s e 255)
turned {n = n} w r = Enters.turned (record { turn = n; wrong = w; first = from r })

-- only where nothing is asked is the code 0
no_turn : (t : ℕ) → t < 6 → 0 ≡ lengths_code t → t ≡ 0
no_turn zero h e = refl
no_turn (suc zero) h e = absurd (omega arith)
no_turn (suc (suc zero)) h e = absurd (omega arith)
no_turn (suc (suc (suc zero))) h e = absurd (omega arith)
no_turn (suc (suc (suc (suc zero)))) h e = absurd (omega arith)
no_turn (suc (suc (suc (suc (suc zero))))) h e = absurd (omega arith)
no_turn (suc (suc (suc (suc (suc (suc t)))))) h e = absurd (omega arith)

-- what is asked of lengths where these checks find nothing
module _ {list text edition limit scratch : ℕ} where
  pub right_lengths : LengthsChecked list text edition limit scratch 0 → (j : ℕ) → j < 6 → AsksLengths list text edition limit scratch j
  right_lengths (LengthsChecked.wrong {turn = t} f e) = absurd (f.lacks (rw (no_turn t f.place e) tt))
  right_lengths (LengthsChecked.right f) = f

  -- two outcomes of `lengths` are equal
  pub one_measure : {k l : ℕ} → LengthsChecked list text edition limit scratch k → LengthsChecked list text edition limit scratch l → k ≡ l
  one_measure (LengthsChecked.wrong f d) (LengthsChecked.wrong g e) = rw (d, e) (ap lengths_code (one_place _ 6 f g))
  one_measure (LengthsChecked.wrong {turn = t} f d) (LengthsChecked.right g) = absurd (f.lacks (g t f.place))
  one_measure (LengthsChecked.right f) (LengthsChecked.wrong {turn = t} g e) = absurd (g.lacks (f t g.place))
  one_measure (LengthsChecked.right f) (LengthsChecked.right g) = refl

-- two outcomes of `admit` have the same code
module _ {names : Builtins} {list text edition limit symbols scratch : ℕ} where
  pub one_admit : {k l : ℕ} → AdmitsCode names list text edition limit symbols scratch k → AdmitsCode names list text edition limit symbols scratch l → k ≡ l
  one_admit (AdmitsCode.lengths x n) (AdmitsCode.lengths y m) = one_measure x y
  one_admit (AdmitsCode.lengths x n) (AdmitsCode.names y w) = absurd (n (one_measure x y))
  one_admit (AdmitsCode.lengths x n) (AdmitsCode.names_room y r f) = absurd (n (one_measure x y))
  one_admit (AdmitsCode.lengths x n) (AdmitsCode.right y r f) = absurd (n (one_measure x y))
  one_admit (AdmitsCode.names x w) (AdmitsCode.lengths y n) = absurd (n (one_measure y x))
  one_admit (AdmitsCode.names x w) (AdmitsCode.names y v) = refl
  one_admit (AdmitsCode.names x w) (AdmitsCode.names_room y r f) = absurd (w r)
  one_admit (AdmitsCode.names x w) (AdmitsCode.right y r f) = absurd (w r)
  one_admit (AdmitsCode.names_room x r f) (AdmitsCode.lengths y n) = absurd (n (one_measure y x))
  one_admit (AdmitsCode.names_room x r f) (AdmitsCode.names y w) = absurd (w r)
  one_admit (AdmitsCode.names_room x r f) (AdmitsCode.names_room y q g) = refl
  one_admit (AdmitsCode.names_room x r f) (AdmitsCode.right y q g) = absurd (omega arith)
  one_admit (AdmitsCode.right x r f) (AdmitsCode.lengths y n) = absurd (n (one_measure y x))
  one_admit (AdmitsCode.right x r f) (AdmitsCode.names y w) = absurd (w r)
  one_admit (AdmitsCode.right x r f) (AdmitsCode.names_room y q g) = absurd (omega arith)
  one_admit (AdmitsCode.right x r f) (AdmitsCode.right y q g) = refl

-- a call with these names, lists and rooms
module _ (p : Profile) (names : Builtins) (text ts : List ℕ) (edition limit : ℕ) (rooms : Rooms) where
  abbrev pub call : Call
  call = record { profile = p; names = names; text = text; tokens = ts; edition = edition; limit = limit; rooms = rooms }

  abbrev asked : ℕ → Type 0
  asked = AsksLengths (length ts) (length text) edition limit (length rooms.scratch)

  abbrev Code : ℕ → Type 0
  Code = AdmitsCode names (length ts) (length text) edition limit (length rooms.symbols) (length rooms.scratch)

  of_lengths : (k : ℕ) → k < 6 → asked k → Asks call k
  of_lengths k h a = rw (ne_eqb k 6 (λ e. omega arith), ne_eqb k 7 (λ e. omega arith), ne_eqb k 8 (λ e. omega arith), ne_eqb k 9 (λ e. omega arith), ne_eqb k 10 (λ e. omega arith), ne_eqb k 11 (λ e. omega arith)) a

  wrong_lengths : (k : ℕ) → k < 6 → (asked k → ⊥) → Wrong call k (lengths_code k) 0 0 0
  wrong_lengths zero h f = absurd (f tt)
  wrong_lengths (suc zero) h f = Wrong.list f
  wrong_lengths (suc (suc zero)) h f = Wrong.text (not_over _ _ (λ l. f (omega arith)))
  wrong_lengths (suc (suc (suc zero))) h f = elim (dec_lt limit 1) [ yes l ↦ Wrong.no_depth (omega arith) | no l ↦ Wrong.deep (not_over _ _ (λ m. f (omega arith, omega arith))) ]
  wrong_lengths (suc (suc (suc (suc zero)))) h f = Wrong.edition f
  wrong_lengths (suc (suc (suc (suc (suc zero))))) h f = Wrong.room f
  wrong_lengths (suc (suc (suc (suc (suc (suc k)))))) h f = absurd (omega arith)

  -- checks 1 to 3, 21 and 4
  measured : {k : ℕ} → LengthsChecked (length ts) (length text) edition limit (length rooms.scratch) k → (k ≡ 0 → ⊥) → Enters call (refuse k 0 0 0 255)
  measured (LengthsChecked.wrong {turn = t} f e) n = rw e (turned (wrong_lengths t f.place f.lacks) (record { most = omega (arith, f.place); before = λ j h. of_lengths j (omega (arith, f.place)) (f.before j h) }))
  measured (LengthsChecked.right f) n = absurd (n refl)

  measures : LengthsChecked (length ts) (length text) edition limit (length rooms.scratch) 0 → Passed (Asks call) 12 6
  measures x = record { most = omega arith; before = λ j h. of_lengths j h (right_lengths x j h) }

  -- and those of the built-in names
  pub unadmitted : {k : ℕ} → Code k → (k ≡ 0 → ⊥) → Enters call (refuse k 0 0 0 255)
  unadmitted (AdmitsCode.lengths x n) m = measured x n
  unadmitted (AdmitsCode.names x w) m = turned (Wrong.names w) (measures x)
  unadmitted (AdmitsCode.names_room x r f) m = turned (Wrong.names_room f) (passed_more (measures x) (omega arith) r)
  unadmitted (AdmitsCode.right x r f) m = absurd (m refl)

  pub admits : {k : ℕ} → Code k → k ≡ 0 → Passed (Asks call) 12 8
  admits (AdmitsCode.lengths x n) e = absurd (n e)
  admits (AdmitsCode.names x w) e = absurd (omega arith)
  admits (AdmitsCode.names_room x r f) e = absurd (omega arith)
  admits (AdmitsCode.right x r f) e = passed_more (passed_more (measures x) (omega arith) r) (omega arith) f

  -- checks 6, 7 and 17
  pub listing : {r : Entry} → Passed (Asks call) 12 9 → ListChecked p text ts r → Enters call (entry_numbers r)
  listing m (ListChecked.unsound f) = turned (Wrong.token f) m
  listing m (ListChecked.unclosed s f) = turned (Wrong.eof f) (passed_more m (omega arith) s)
  listing m (ListChecked.lent l (ProfileChecked.outside f)) = turned (Wrong.outside f) (passed_more (passed_more m (omega arith) l.sound) (omega arith) l.closed)
  listing m (ListChecked.lent l (ProfileChecked.inside g)) =
      let (d, e) = m.before 3 (omega arith) in
      Enters.let_in (lent_admitted l (m.before 2 (omega arith)) d e (m.before 4 (omega arith)) (m.before 5 (omega arith)) (m.before 6 (omega arith)) (m.before 7 (omega arith)) g)

-- what is asked of the list and the text where nothing is wrong so far
pub right_so_far : {names : Builtins} {list text edition limit symbols scratch k : ℕ} → AdmitsCode names list text edition limit symbols scratch k → k ≡ 0 → (j : ℕ) → j < 6 → AsksLengths list text edition limit scratch j
right_so_far (AdmitsCode.lengths x n) e = absurd (n e)
right_so_far (AdmitsCode.names x w) e = absurd (omega arith)
right_so_far (AdmitsCode.names_room x r f) e = absurd (omega arith)
right_so_far (AdmitsCode.right x r f) e = right_lengths x

-- no byte is over 127 where the highest is not
pub none_high : {text : List ℕ} {r : ℕ} → Highest text (length text) r → r ≤ 127 → Ascii text
none_high x h i s = omega (arith, x.most i s)

listed_told : {p : Profile} {text ts : List ℕ} {r : Entry} → ListChecked p text ts r → Told r
listed_told (ListChecked.unsound f) = omega arith
listed_told (ListChecked.unclosed s f) = omega arith
listed_told (ListChecked.lent l (ProfileChecked.outside f)) = omega arith
listed_told (ListChecked.lent l (ProfileChecked.inside g)) = tt

-- what is wrong has a code
pub some_code : (w : Fault) → number_of w ≡ 0 → ⊥
some_code Fault.List e = omega arith
some_code Fault.Text e = omega arith
some_code Fault.Limit e = omega arith
some_code Fault.Room e = omega arith
some_code Fault.Byte e = omega arith
some_code Fault.Token e = omega arith
some_code Fault.Eof e = omega arith
some_code Fault.Outside e = omega arith
some_code Fault.Names e = omega arith
some_code Fault.Edition e = omega arith

-- what is turned away is not let in
pub not_open : (q : Refusal) → open_entry ≡ Err q → ⊥
not_open q e = cc

-- the answers, for rooms of any content
module _ {p : Profile} {names : Builtins} {text ts : List ℕ} {edition limit symbols scratch k : ℕ} (m : AdmitsCode names (length ts) (length text) edition limit symbols scratch k) where
  pub by_code : (k ≡ 0 → ⊥) → Entered p names text ts edition limit symbols scratch (Err (outright k))
  by_code n = record { told = omega arith; says = λ rooms e f. unadmitted p names text ts edition limit rooms (rw (e, f) m) n }

  pub by_byte : {i : ℕ} → k ≡ 0 → FirstWithout (λ j. get_or text j 0 ≤ 127) (length text) i → Entered p names text ts edition limit symbols scratch (Err (record { code = 5; at = 0; start = i; end = i + 1 }))
  by_byte z g = record { told = omega arith; says = λ rooms e f. turned (Wrong.byte g) (admits p names text ts edition limit rooms (rw (e, f) m) z) }

  pub by_list : {q : Entry} → k ≡ 0 → Ascii text → ListChecked p text ts q → Entered p names text ts edition limit symbols scratch q
  by_list z h l = record { told = listed_told l; says = λ rooms e f. listing p names text ts edition limit rooms (passed_more (admits p names text ts edition limit rooms (rw (e, f) m) z) (omega arith) h) l }

-- what the numbers of an entry say
module _ {c : Call} where
  pub opened : {a : Answer} → Enters c a → a.code ≡ 0 → Admitted c
  opened (Enters.let_in d) e = d
  opened (Enters.turned x) e = absurd (omega (arith, (turned_code x.wrong).least))

  pub shut : {a : Answer} → Enters c a → 1 ≤ a.code → Answers c a c.rooms
  shut (Enters.let_in d) h = absurd (omega arith)
  shut (Enters.turned x) h = Answers.turned_away x

  one_numbers : {a b : Answer} → Enters c a → Enters c b → a ≡ b
  one_numbers (Enters.let_in d) (Enters.let_in f) = refl
  one_numbers (Enters.let_in d) (Enters.turned y) = absurd (admitted_not_wrong d y.wrong)
  one_numbers (Enters.turned x) (Enters.let_in f) = absurd (admitted_not_wrong f x.wrong)
  one_numbers (Enters.turned x) (Enters.turned y) = one_turn x y

same_entry : (r s : Entry) → Told r → Told s → entry_numbers r ≡ entry_numbers s → r ≡ s
same_entry (Ok a) (Ok b) t u e = refl
same_entry (Ok a) (Err q) t u e = absurd (omega (arith, ap (λ a. a.code) e))
same_entry (Err p) (Ok a) t u e = absurd (omega (arith, ap (λ a. a.code) e))
same_entry (Err p) (Err q) t u e = λ i. Err (record { code = (e i).code; at = (e i).at; start = (e i).start; end = (e i).end })

-- two outcomes of `check` are equal
pub one_entry : {p : Profile} {names : Builtins} {text ts : List ℕ} {edition limit symbols scratch : ℕ} {r s : Entry} → Entered p names text ts edition limit symbols scratch r → Entered p names text ts edition limit symbols scratch s → r ≡ s
one_entry {symbols = m} {scratch = n} {r = r} {s = s} x y =
    let rooms : Rooms = record { nodes = []; links = []; symbols = replicate m 0; scratch = replicate n 0 } in
    let e : length rooms.symbols ≡ m = length-replicate m 0 in
    let f : length rooms.scratch ≡ n = length-replicate n 0 in
    same_entry r s x.told y.told (one_numbers (x.says rooms e f) (y.says rooms e f))

-- two outcomes of `within` are equal
pub one_within : {p : Profile} {ts : List ℕ} {r s : Entry} → ProfileChecked p ts r → ProfileChecked p ts s → r ≡ s
one_within {ts = ts} (ProfileChecked.outside x) (ProfileChecked.outside y) = ap (at_token 17 ts) (one_place _ _ x y)
one_within (ProfileChecked.outside x) (ProfileChecked.inside g) = absurd (x.lacks (g _ x.place))
one_within (ProfileChecked.inside f) (ProfileChecked.outside y) = absurd (y.lacks (f _ y.place))
one_within (ProfileChecked.inside f) (ProfileChecked.inside g) = refl

-- two outcomes of `highest` are equal
module _ {text : List ℕ} {n : ℕ} where
  no_higher : {r s : ℕ} → Highest text n r → Highest text n s → r ≤ s
  no_higher {r} {s} x y = elim (dec_lt 0 r) [ yes h ↦ let (i, l, e) = x.there h in omega (arith, y.most i l) | no h ↦ omega arith ]

  pub one_highest : {r s : ℕ} → Highest text n r → Highest text n s → r ≡ s
  one_highest x y = omega (arith, no_higher x y, no_higher y x)
