-- A text is read in one way: at each place one rule applies, since no token starts with a blank, the longest end is one, and a text fits one kind at most. So two answers of the
-- maker that the definition allows are equal, and so is what they leave in the room.
use Prim.Native.Nat.{ℕ, suc, ◌≤◌, ◌<◌}
use mathlib.Core.List.{List, [], ◌∷◌}
use mathlib.Core.Path.{◌≡◌, refl, sym, ap, ◌∙◌}
use native.Mathlib.Omega.{arith}
use lib.ListN.{length, get_or}
use Rattle.grammar.specs.Door.{FirstWithout}
use Rattle.grammar.specs.Kind.{Eof}
use Rattle.grammar.specs.Room.{filled}
use Rattle.grammar.specs.Token.{count, lexeme}
use Rattle.grammar.proofs.Answers.{one_first}
use Rattle.grammar.proofs.Tests.{as_true}
use Rattle.lexer.specs.Reads.{Stands, Longest, Blank, TextReads, Stops}
use Rattle.lexer.specs.Lexes.{success, Readable, Lexes}
use Rattle.lexer.specs.declared.Lexed.{Lexed}
use Rattle.lexer.proofs.Sorts.{Sort, blank_none, one_kind}
use Rattle.lexer.proofs.Standing.{sort, stands_some, cut_there}

module _ {text : List ℕ} {i : ℕ} where
  no_token : {k e : ℕ} → Blank text i → Stands text k i e → ⊥
  no_token b s = blank_none _ _ (cut_there s) (as_true _ b.test) (sort s)

  one_end : {k e l f : ℕ} → Longest text k i e → Longest text l i f → e ≡ f
  one_end a b = omega (arith, a.longest _ _ b.stands, b.longest _ _ a.stands)

  one_token : {k e l f : ℕ} → Longest text k i e → Longest text l i f → k ≡ l
  one_token {k} {e} {l} {f} a b =
      let t : Sort (lexeme text i e) l = rw (one_end a b) (sort b.stands) in
      one_kind _ _ (cut_there a.stands) (sort a.stands) t

  not_past : {k e : ℕ} → Longest text k i e → i < length text
  not_past a = omega (arith, stands_some a.stands, a.stands.inside)

-- what becomes of a text: its tokens, or where they stop
data Outcome : Type 0 where
  tokens : List ℕ → Outcome
  stop : ℕ → Outcome

abbrev put_before : ℕ → ℕ → ℕ → Outcome → Outcome
put_before k i e (Outcome.tokens ts) = Outcome.tokens (k ∷ i ∷ e ∷ ts)
put_before k i e (Outcome.stop j) = Outcome.stop j

data Goes (text : List ℕ) : ℕ → Outcome → Type 0 where
  end : {i : ℕ} → i ≡ length text → Goes text i (Outcome.tokens (Eof ∷ i ∷ i ∷ []))
  here : {i : ℕ} → i < length text → (Blank text i → ⊥) → ((k e : ℕ) → Stands text k i e → ⊥) → Goes text i (Outcome.stop i)
  skip : {i : ℕ} {o : Outcome} → Blank text i → Goes text (suc i) o → Goes text i o
  token : {k i e : ℕ} {o p : Outcome} → Longest text k i e → Goes text e o → p ≡ put_before k i e o → Goes text i p

reading : {text ts : List ℕ} {i : ℕ} → TextReads text i ts → Goes text i (Outcome.tokens ts)
reading (TextReads.end e) = Goes.end e
reading (TextReads.skip b r) = Goes.skip b (reading r)
reading (TextReads.token l r) = Goes.token l (reading r) refl

stopping : {text : List ℕ} {i j : ℕ} → Stops text i j → Goes text i (Outcome.stop j)
stopping (Stops.here h b s) = Goes.here h b s
stopping (Stops.skip b r) = Goes.skip b (stopping r)
stopping (Stops.token l r) = Goes.token l (stopping r) refl

one_outcome : {text : List ℕ} {i : ℕ} {o p : Outcome} → Goes text i o → Goes text i p → o ≡ p
one_outcome (Goes.end e) (Goes.end f) = refl
one_outcome (Goes.end e) (Goes.here h b s) = absurd (omega arith)
one_outcome (Goes.end e) (Goes.skip b r) = absurd (omega (arith, b.inside))
one_outcome (Goes.end e) (Goes.token l r z) = absurd (omega (arith, not_past l))
one_outcome (Goes.here h b s) (Goes.end e) = absurd (omega arith)
one_outcome (Goes.here h b s) (Goes.here k c t) = refl
one_outcome (Goes.here h b s) (Goes.skip c r) = absurd (b c)
one_outcome (Goes.here h b s) (Goes.token l r z) = absurd (s _ _ l.stands)
one_outcome (Goes.skip b r) (Goes.end e) = absurd (omega (arith, b.inside))
one_outcome (Goes.skip b r) (Goes.here h c s) = absurd (c b)
one_outcome (Goes.skip b r) (Goes.skip c s) = one_outcome r s
one_outcome (Goes.skip b r) (Goes.token l s z) = absurd (no_token b l.stands)
one_outcome (Goes.token l r z) (Goes.end e) = absurd (omega (arith, not_past l))
one_outcome (Goes.token l r z) (Goes.here h b s) = absurd (s _ _ l.stands)
one_outcome (Goes.token l r z) (Goes.skip b s) = absurd (no_token b l.stands)
one_outcome (Goes.token {k = k} {i = i} {e = e} {o = o} l r z) (Goes.token {k = k'} {e = e'} {o = o'} m s y) =
    let x : k ≡ k' = one_token l m in
    let w : e ≡ e' = one_end l m in
    let v : o ≡ o' = one_outcome r (rw w s) in
    z ∙ rw (x, w, v) (sym y)

-- a text reads as one list at most, stops at one byte at most, and not both
module _ {text : List ℕ} {i : ℕ} where
  pub one_list : {ts us : List ℕ} → TextReads text i ts → TextReads text i us → ts ≡ us
  one_list r s = let e = one_outcome (reading r) (reading s) in cc

  pub one_stop : {j k : ℕ} → Stops text i j → Stops text i k → j ≡ k
  one_stop r s = let e = one_outcome (stopping r) (stopping s) in cc

  pub read_not_stopped : {ts : List ℕ} {j : ℕ} → TextReads text i ts → Stops text i j → ⊥
  read_not_stopped r s = let e = one_outcome (reading r) (stopping s) in let z : ◌≡◌ {A = ℕ} 0 1 = cc in omega arith

-- a text that codes 2 and 5 let through has no byte over 127
not_high : {text : List ℕ} {i : ℕ} → Readable text → FirstWithout (λ j. get_or text j 0 ≤ 127) (length text) i → ⊥
not_high r f = f.lacks (r.ascii _ f.place)

-- two answers are equal, and all that they leave in the room
pub one_answer : {text room r s : List ℕ} {a b : Lexed} → Lexes text room a r → Lexes text room b s → (a ≡ b) × (r ≡ s)
one_answer (Lexes.long h) (Lexes.long k) = (refl, refl)
one_answer (Lexes.long h) (Lexes.high k f) = absurd (omega arith)
one_answer (Lexes.long h) (Lexes.no_token x y) = absurd (omega (arith, x.short))
one_answer (Lexes.long h) (Lexes.too_many x y z) = absurd (omega (arith, x.short))
one_answer (Lexes.long h) (Lexes.made x y z) = absurd (omega (arith, x.short))
one_answer (Lexes.high k f) (Lexes.long h) = absurd (omega arith)
one_answer (Lexes.high k f) (Lexes.high l g) = let z = one_first _ _ f g in (cc, refl)
one_answer (Lexes.high k f) (Lexes.no_token x y) = absurd (not_high x f)
one_answer (Lexes.high k f) (Lexes.too_many x y z) = absurd (not_high x f)
one_answer (Lexes.high k f) (Lexes.made x y z) = absurd (not_high x f)
one_answer (Lexes.no_token x y) (Lexes.long h) = absurd (omega (arith, x.short))
one_answer (Lexes.no_token x y) (Lexes.high k f) = absurd (not_high x f)
one_answer (Lexes.no_token x y) (Lexes.no_token u v) = let z = one_stop y v in (cc, refl)
one_answer (Lexes.no_token x y) (Lexes.too_many u v w) = absurd (read_not_stopped v y)
one_answer (Lexes.no_token x y) (Lexes.made u v w) = absurd (read_not_stopped v y)
one_answer (Lexes.too_many x y z) (Lexes.long h) = absurd (omega (arith, x.short))
one_answer (Lexes.too_many x y z) (Lexes.high k f) = absurd (not_high x f)
one_answer (Lexes.too_many x y z) (Lexes.no_token u v) = absurd (read_not_stopped y v)
one_answer (Lexes.too_many x y z) (Lexes.too_many u v w) = (refl, refl)
one_answer (Lexes.too_many {ts = ts} x y z) (Lexes.made {ts = us} u v w) = let e : us ≡ ts = one_list v y in absurd (z (rw e at w))
one_answer (Lexes.made x y z) (Lexes.long h) = absurd (omega (arith, x.short))
one_answer (Lexes.made x y z) (Lexes.high k f) = absurd (not_high x f)
one_answer (Lexes.made x y z) (Lexes.no_token u v) = absurd (read_not_stopped y v)
one_answer (Lexes.made {ts = ts} x y z) (Lexes.too_many {ts = us} u v w) = let e : ts ≡ us = one_list y v in absurd (w (rw e at z))
one_answer {room = room} (Lexes.made {ts = ts} x y z) (Lexes.made {ts = us} u v w) = let e : ts ≡ us = one_list y v in (ap (λ (l : List ℕ). success (count l)) e, ap (λ (l : List ℕ). filled l room) e)
