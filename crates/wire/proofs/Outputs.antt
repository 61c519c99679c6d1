-- The program as one definition: an input has one output at most, since it holds one text and one list at most (Scanning.antt) and a call has one answer
-- (grammar's Answers.antt); so the room is settled too. And document 01's example of the program, computed.
use Prim.Native.Nat.{ℕ, ◌*◌, ◌/◌, ◌≤◌, ◌<◌}
use native.Mathlib.Nat.{mul-div-le}
use native.Mathlib.Decide.{dec_lt}
use native.Mathlib.Omega.{arith}
use mathlib.Core.List.{List, [], ◌∷◌, ◌++◌}
use mathlib.Core.Path.{◌≡◌, refl, sym, ap, ◌∙◌}
use borrow.Author.Tests.{eq-eqb, ne_eqb}
use lib.ListN.{length, replicate, length-append, length-take, length-replicate, get_or-replicate, get_or-eq_default}
use lib.Seq.{ext_get_or}
use Rattle.grammar.specs.Answer.{Answer, Answers}
use Rattle.grammar.specs.Pattern.{bytes}
use Rattle.grammar.specs.Call.{Call}
use Rattle.grammar.specs.Room.{Rooms, node_width, link_width, symbol_width}
use Rattle.grammar.specs.Token.{kind}
use Rattle.grammar.proofs.Answers.{one_answer}
use Rattle.spelling.specs.Display.{Put}
use Rattle.spelling.proofs.display.Writing.{one_room}
use Rattle.wire.specs.Input.{InputHolds, Broken}
use Rattle.wire.specs.Lines.{PutWithin}
use Rattle.wire.specs.Number.{decimal, digits}
use Rattle.wire.specs.Output.{call, Outputs, Zeros, OutputGiven}
use Rattle.wire.specs.Printed.{fields, line, row, rows, listed, refused, printed}
use Rattle.wire.proofs.Scanning.{one_script}

-- two outputs of one input are equal
pub one_output : {input x y : List ℕ} → Outputs input x → Outputs input y → x ≡ y
one_output (Outputs.bad b) (Outputs.bad d) = refl
one_output (Outputs.bad b) (Outputs.answered h a) = absurd (b.holds_none _ _ h)
one_output (Outputs.answered h a) (Outputs.bad b) = absurd (b.holds_none _ _ h)
one_output (Outputs.answered {text = text} {ts = ts} {a = a} {r = r} h x) (Outputs.answered {text = other} {ts = us} {a = b} {r = s} k y) =
    let same = one_script h k in
    let z : Answers (call text ts) b s = rw (same.texts, same.lists) y in
    let (p, q) = one_answer x z in
    rw (same.lists, p, q)

-- what is put into a room settles the next place and every byte of the room, also where a bound is said with it
pub one_put : {part before after other : List ℕ} {at next end : ℕ} → Put part at before after next → Put part at before other end → (next ≡ end) × (after ≡ other)
one_put p q = (p.ends ∙ sym q.ends, one_room p q)

pub one_within : {bound : ℕ} {part before after other : List ℕ} {at next end : ℕ} → PutWithin bound part at before after next → PutWithin bound part at before other end → (next ≡ end) × (after ≡ other)
one_within p q = one_put p.put q.put

-- so two rooms with an answer in them are equal
pub one_answered : {input before after other : List ℕ} {n m : ℕ} → OutputGiven input before after n → OutputGiven input before other m → (n ≡ m) × (after ≡ other)
one_answered x y = one_put (rw (one_output x.right y.right) at x.put) y.put

-- the example: for `a;` the rows of its script
pub example : listed 2 1 1 (10 ∷ 0 ∷ 1 ∷ 0 ∷ 0 ∷ 1 ∷ 0 ∷ 0 ∷ 0 ∷ 1 ∷ 20 ∷ 0 ∷ 0 ∷ 0 ∷ 1 ∷ 4294967295 ∷ 0 ∷ 0 ∷ 0 ∷ 4294967295 ∷ []) (0 ∷ 0 ∷ 0 ∷ []) (0 ∷ 1 ∷ []) ≡ bytes "ok 2 1 1\n0 10 0 1 0 0 1 0 0 0 1\n1 20 0 0 0 1 4294967295 0 0 0 4294967295\nlink 0 0 0 0\nsym 0 0 1\n"
unfolding listed rows row line fields decimal digits
example = refl

-- the three ways to answer: a bad input, a success and a refusal
pub bad_answered : {input before after : List ℕ} {n : ℕ} → Broken input → Put (bytes "bad input\n") 0 before after n → OutputGiven input before after n
bad_answered b p = record { output = bytes "bad input\n"; right = Outputs.bad b; put = p }

pub success_answered : {input text ts before after : List ℕ} {a : Answer} {r : Rooms} {n : ℕ} → InputHolds input text ts → Answers (call text ts) a r → a.code ≡ 0 → Put (listed a.nodes a.links a.symbols r.nodes r.links r.symbols) 0 before after n → OutputGiven input before after n
unfolding printed
success_answered {ts = ts} {a = a} {r = r} h x e p = record { output = printed ts a r; right = Outputs.answered h x; put = rw (eq-eqb a.code 0 e) p }

pub refusal_answered : {input text ts before after : List ℕ} {a : Answer} {r : Rooms} {n : ℕ} → InputHolds input text ts → Answers (call text ts) a r → (a.code ≡ 0 → ⊥) → Put (refused a.code a.at a.start a.end a.expected (kind ts a.at)) 0 before after n → OutputGiven input before after n
unfolding printed
refusal_answered {ts = ts} {a = a} {r = r} h x e p = record { output = printed ts a r; right = Outputs.answered h x; put = rw (ne_eqb a.code 0 e) p }

-- the rows that an answer counts are there
pub record Counted (a : Answer) (r : Rooms) : Type 0 where
  pub nodes : node_width * a.nodes ≤ length r.nodes
  pub links : link_width * a.links ≤ length r.links
  pub symbols : symbol_width * a.symbols ≤ length r.symbols

whole_rows : (width : ℕ) (xs ys : List ℕ) → width * (length xs / width) ≤ length (xs ++ ys)
whole_rows width xs ys = rw (length-append xs ys) (omega (arith, mul-div-le (length xs) width))

pub counted : {c : Call} {a : Answer} {r : Rooms} → Answers c a r → Counted a r
counted (Answers.turned_away x) = record { nodes = omega arith; links = omega arith; symbols = omega arith }
counted (Answers.accepted {w = w} {ss = ss} d x) = record { nodes = whole_rows node_width w.nodes _; links = whole_rows link_width w.links _; symbols = whole_rows symbol_width ss _ }
counted (Answers.refused d x) = record { nodes = omega arith; links = omega arith; symbols = omega arith }

-- so many zeros are one list
pub one_blank : {n : ℕ} {r s : List ℕ} → Zeros n r → Zeros n s → r ≡ s
one_blank x y = ext_get_or 0 _ _ (sym x.size ∙ y.size) (λ i h. x.zeros i ∙ sym (y.zeros i))

-- a list of zeros, as an array is made
pub blank : (n : ℕ) → Zeros n (replicate n 0)
blank n = record { size = sym (length-replicate n 0); zeros = λ i. elim (dec_lt i n) [ yes h ↦ get_or-replicate n i 0 0 h | no h ↦ get_or-eq_default (replicate n 0) 0 {n = i} (omega (arith, length-replicate {A = ℕ} n 0)) ] }

-- an answer fits its room
pub inside : {input before after : List ℕ} {n : ℕ} → OutputGiven input before after n → n ≤ length after
inside {before = before} {after = after} {n = n} x = omega (arith, x.put.ends, ap length x.put.written, length-take n after)

-- no input of more than 13,830 bytes is good, so neither is a part of it that is as long
pub too_long : (input : List ℕ) → 13830 < length input → Broken input
too_long input h = record { holds_none = λ text ts k. omega (arith, k.ends, k.most_bytes, k.most_tokens) }
