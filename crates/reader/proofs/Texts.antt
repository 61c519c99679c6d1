-- What a text is answered: one answer and no other; and within the limits a refusal of 5, 16 or 1, of a guard one of 17, a refusal of reading, or exactly one tree.
use Prim.Native.Nat.{ℕ, ◌*◌, ◌/◌, ◌≤◌}
use native.Mathlib.Omega.{arith}
use mathlib.Core.List.{List}
use mathlib.Core.Path.{◌≡◌, refl, sym, ap, ◌∙◌}
use lib.Dec.{T}
use lib.ListN.{length, length-append, length-replicate}
use Rattle.grammar.specs.Answer.{Answer}
use Rattle.grammar.specs.Builtin.{Builtins, RightNames}
use Rattle.grammar.specs.Door.{RightSymbols, RightEdition, Lent, Wrong}
use Rattle.grammar.specs.Label.{Label}
use Rattle.grammar.specs.Phrase.{Tree}
use Rattle.grammar.specs.Profile.{Profile, allowed}
use Rattle.grammar.specs.Room.{Rooms, scratch_width}
use Rattle.grammar.specs.Token.{kind}
use Rattle.grammar.proofs.Answers.{one_answer}
use Rattle.grammar.proofs.Demands.{ReadAs, RefusedAt, TurnedAt, Sorts, sorts}
use Rattle.lexer.specs.Lexes.{Lexes}
use Rattle.lexer.specs.Reads.{TextReads}
use Rattle.lexer.specs.declared.Lexed.{Lexed}
use Rattle.lexer.proofs.Once.{one_answer as one-lexing}
use Rattle.lexer.proofs.Passing.{reads_lent, made_list as made}
use Rattle.syntax.specs.Parsed.{numbers, call}
use Rattle.syntax.specs.declared.Numbers.{Numbers}
use Rattle.reader.specs.Answered.{lexed_numbers, made_list, AnswersText, Read}

module _ {p : Profile} {names : Builtins} {text : List ℕ} {edition limit : ℕ} {list : List ℕ} {before : Rooms} where
  one_text : {a b : Answer} {m n : List ℕ} {r s : Rooms} → AnswersText p names text edition limit list before a m r → AnswersText p names text edition limit list before b n s → (a ≡ b) × (m ≡ n) × (r ≡ s)
  one_text (AnswersText.unmade x f) (AnswersText.unmade y g) = let (u, v) = one-lexing x y in (ap lexed_numbers u, v, refl)
  one_text (AnswersText.unmade x f) (AnswersText.made y g z) = let (u, v) = one-lexing x y in absurd (f (ap (λ l. l.code) u ∙ g))
  one_text (AnswersText.made x f z) (AnswersText.unmade y g) = let (u, v) = one-lexing x y in absurd (g (ap (λ l. l.code) (sym u) ∙ f))
  one_text (AnswersText.made x f z) (AnswersText.made y g w) = let (u, v) = one-lexing x y in let (p, q) = one_answer (rw (u, v) at z) w in (p, v, q)

-- two outcomes that the contract of `read_as` allows are equal: the answer, every number of the list room, and every number of the four rooms
abbrev answer_of : Answer → Numbers
answer_of n = record { code = n.code; nodes = n.nodes; links = n.links; symbols = n.symbols; at = n.at; start = n.start; end = n.end; expected = n.expected }

pub one_read : {p : Profile} {names : Builtins} {text : List ℕ} {edition limit : ℕ} {list m n : List ℕ} {before after after' : Rooms} {r r' : Numbers} → Read p names text edition limit list m before after r → Read p names text edition limit list n before after' r' → (r ≡ r') × (m ≡ n) × (after ≡ after')
one_read x y = let (u, v, w) = one_text x.answers y.answers in (ap answer_of u, v, w)

-- the list that is made stands in its room
pub made_fits : {text list room : List ℕ} {l : Lexed} → Lexes text list l room → l.code ≡ 0 → (3 * l.count ≤ length room) × (l.count ≤ 4096)
made_fits (Lexes.long h) e = absurd (omega arith)
made_fits (Lexes.high h x) e = absurd (omega arith)
made_fits (Lexes.no_token h x) e = absurd (omega arith)
made_fits (Lexes.too_many h x f) e = absurd (omega arith)
made_fits (Lexes.made {ts = ts} h x f) e = (simp (length-append, length-replicate) (omega (arith, f.rows, (reads_lent h.ascii x f.most).whole.rows)), f.most)

-- built-in names, a text, an edition, a limit and rooms within the limits: scratch has the 4,096 rows that the longest list asks for, and the symbol room the built-in rows
pub record WithinLimits (names : Builtins) (text : List ℕ) (edition limit : ℕ) (before : Rooms) : Type 0 where
  pub short : length text ≤ 65536
  pub some_depth : 1 ≤ limit
  pub least_depth : limit ≤ 64
  pub edition_right : RightEdition edition
  pub scratch : 4096 ≤ length before.scratch / scratch_width
  pub named : RightNames names
  pub names_fit : RightSymbols names (length before.symbols)

-- the codes of the maker's refusals, within the limits
pub data Unmade (code : ℕ) : Type 0 where
  byte : code ≡ 5 → Unmade code
  no_token : code ≡ 16 → Unmade code
  too_many : code ≡ 1 → Unmade code

unmade_code : {text list room : List ℕ} {l : Lexed} → Lexes text list l room → length text ≤ 65536 → (l.code ≡ 0 → ⊥) → Unmade l.code
unmade_code (Lexes.long h) s n = absurd (omega arith)
unmade_code (Lexes.high h x) s n = Unmade.byte refl
unmade_code (Lexes.no_token h x) s n = Unmade.no_token refl
unmade_code (Lexes.too_many h x f) s n = Unmade.too_many refl
unmade_code (Lexes.made h x f) s n = absurd (n refl)

-- of what the maker makes of a text within the limits, the door finds nothing wrong but a token outside the profile
only_outside : {p : Profile} {names : Builtins} {text ts : List ℕ} {edition limit : ℕ} {before : Rooms} {turn code at from upto : ℕ} → WithinLimits names text edition limit before → Lent text ts →
    Wrong (call p names text ts edition limit before) turn code at from upto → (p ≡ Profile.guard) × (code ≡ 17)
only_outside w l (Wrong.list x) = absurd (x l.whole)
only_outside w l (Wrong.text x) = absurd (omega (arith, w.short))
only_outside w l (Wrong.no_depth x) = absurd (omega (arith, w.some_depth))
only_outside w l (Wrong.deep x) = absurd (omega (arith, w.least_depth))
only_outside w l (Wrong.edition x) = absurd (x w.edition_right)
only_outside w l (Wrong.room x) = absurd (x (omega (arith, l.whole.most, w.scratch)))
only_outside w l (Wrong.names x) = absurd (x w.named)
only_outside w l (Wrong.names_room x) = absurd (omega (arith, w.names_fit))
only_outside w l (Wrong.byte {i = i} x) = absurd (x.lacks (l.ascii i x.place))
only_outside w l (Wrong.token {i = i} x) = absurd (x.lacks (l.sound i x.place))
only_outside w l (Wrong.eof {i = i} x) = absurd (x.lacks (l.closed i x.place))
only_outside {p} {ts = ts} w l (Wrong.outside {i = i} x) = (of_guards p (kind ts i) x.lacks, refl)
  where
    of_guards : (p : Profile) (k : ℕ) → (T (allowed p k) → ⊥) → p ≡ Profile.guard
    of_guards Profile.script k f = absurd (f tt)
    of_guards Profile.guard k f = refl

-- a text within the limits is refused by 5, 16 or 1; or, of a guard, the tokens ts that it reads as are turned away by 17; or they are refused in reading, or have exactly one
-- tree
pub data Texts (p : Profile) (names : Builtins) (text : List ℕ) (edition limit : ℕ) (before after : Rooms) (r : Numbers) : Type 0 where
  unmade : Unmade r.code → Texts p names text edition limit before after r
  outside : {ts : List ℕ} → TextReads text 0 ts → p ≡ Profile.guard → r.code ≡ 17 → TurnedAt (call p names text ts edition limit before) (numbers r) after → Texts p names text edition limit before after r
  refused : {ts : List ℕ} → TextReads text 0 ts → RefusedAt (call p names text ts edition limit before) (numbers r) after → Texts p names text edition limit before after r
  tree : {ts : List ℕ} {t : Tree Label} → TextReads text 0 ts → r.code ≡ 0 → ReadAs (call p names text ts edition limit before) (numbers r) after t → Texts p names text edition limit before after r

pub text_read : {p : Profile} {names : Builtins} {text : List ℕ} {edition limit : ℕ} {list room : List ℕ} {before after : Rooms} {r : Numbers} → WithinLimits names text edition limit before → Read p names text edition limit list room before after r → Texts p names text edition limit before after r
text_read {p} {names} {text} {edition} {limit} {list} {before = before} {after = after} {r = r} w q = by q.answers refl refl
  where
    by : {a : Answer} {m : List ℕ} {s : Rooms} → AnswersText p names text edition limit list before a m s → a ≡ numbers r → s ≡ after → Texts p names text edition limit before after r
    by (AnswersText.unmade x n) e f = Texts.unmade (rw (ap (λ m. m.code) e) at (unmade_code x w.short n))
    by (AnswersText.made {l = l} {room = m} x n z) e f = pick (sorts (rw (e, f) at z))
      where
        pick : Sorts (call p names text (made_list l m) edition limit before) (numbers r) after → Texts p names text edition limit before after r
        pick (Sorts.read d y) = Texts.tree (made x n).reads (ap (λ m. m.code) y.numbers_are) y
        pick (Sorts.stopped d y) = Texts.refused (made x n).reads y
        pick (Sorts.turned y) = let (g, k) = only_outside w (made x n).lent y.turned.wrong in Texts.outside (made x n).reads g k y
