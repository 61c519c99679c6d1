-- What a scan of a string goes through: it is open up to a place, and there it closes, goes on or breaks off.
use Prim.Native.Nat.{ℕ, ◌+◌, ◌≤◌, ◌<◌}
use mathlib.Core.Bool.{false, not, ◌&&◌}
use mathlib.Core.List.{List}
use mathlib.Core.Path.{◌≡◌, ap, ◌∙◌}
use native.Mathlib.Decide.{dec_lt}
use native.Mathlib.Omega.{arith}
use lib.Dec.{eqb}
use lib.ListN.{length, get_or}
use borrow.Author.Tests.{ne_eqb}
use Rattle.grammar.specs.Derivative.{matches}
use Rattle.grammar.specs.Lexeme.{string}
use Rattle.grammar.specs.Pattern.{among, bytes, maybe}
use Rattle.grammar.specs.Token.{lexeme}
use Rattle.lexeme.specs.Parts.{inside}
use Rattle.lexeme.proofs.Texts.{inside_quote, inside_plain, inside_cut, inside_escape, inside_open}
use Rattle.grammar.proofs.Lexemes.{lexeme_none, lexeme_first, at_first, at_end}
use Rattle.lexer.specs.Parts.{StretchEnds}
use Rattle.lexer.proofs.Stretches.{Becomes, becomes_then, ended, ends_nothing, left_out, put_in, byte_on}

-- no stretch that ends before `at` is a string, and one that ends later is where the rest of it is the inside of one
pub record Open (text : List ℕ) (start at : ℕ) : Type 0 where
  pub on : Becomes string inside text start at
  pub within : at ≤ length text
  pub none : (e : ℕ) → start < e → e < at → matches string (lexeme text start e) ≡ false

-- the rest of a stretch that ends here, or just after a backslash
ends_here : (text : List ℕ) (at e : ℕ) → at ≡ e → matches inside (lexeme text at e) ≡ false
ends_here text at e z = at_end inside text at e z ∙ inside_open

after_backslash : (text : List ℕ) (at e : ℕ) → get_or text at 0 ≡ 92 → at + 1 ≡ e → e ≤ length text → matches inside (lexeme text at e) ≡ false
after_backslash text at e b z m = at_first inside text at e (omega arith) m ∙ rw (lexeme_none text (at + 1) e z) (inside_cut _ b)

two_bytes : (text : List ℕ) (at e : ℕ) → get_or text at 0 ≡ 92 → at + 1 < e → e ≤ length text → matches inside (lexeme text at e) ≡ (not (eqb (get_or text (at + 1) 0) 10) && matches inside (lexeme text (at + 1 + 1) e))
two_bytes text at e b h m = at_first inside text at e (omega arith) m ∙ rw (lexeme_first text (at + 1) e h m) (inside_escape _ _ _ b)

pub opened : {text : List ℕ} {start : ℕ} → start < length text → get_or text start 0 ≡ 34 → Open text start (start + 1)
opened {text} {start} h q = record { on = byte_on h (ap (among (bytes "\"")) q); within = omega arith; none = λ e l m. absurd (omega arith) }

module _ {text : List ℕ} {start at : ℕ} (o : Open text start at) where
  -- it goes on at j
  further : {j : ℕ} → Becomes inside inside text at j → j ≤ length text → ((e : ℕ) → at ≤ e → e < j → matches inside (lexeme text at e) ≡ false) → Open text start j
  further {j} b w f = record { on = becomes_then o.on b; within = w; none = λ e l m. elim (dec_lt e at) [ yes h ↦ o.none e l h | no h ↦ o.on.alike e (omega arith) (omega arith) ∙ f e (omega arith) m ] }

  pub plain_on : at < length text → (get_or text at 0 ≡ 34 → ⊥) → (get_or text at 0 ≡ 92 → ⊥) → Open text start (at + 1)
  plain_on h q b = further (record { onward = omega arith; alike = λ e l m. at_first inside text at e (omega arith) m ∙ inside_plain _ _ q b }) (omega arith) (λ e l m. ends_here text at e (omega arith))

  pub escape_on : at + 1 < length text → get_or text at 0 ≡ 92 → (get_or text (at + 1) 0 ≡ 10 → ⊥) → Open text start (at + 1 + 1)
  escape_on h b n =
      further (record { onward = omega arith; alike = λ e l m. two_bytes text at e b (omega arith) m ∙ rw (ne_eqb (get_or text (at + 1) 0) 10 n) }) (omega arith)
      (λ e l m. elim (dec_lt at e) [ yes k ↦ after_backslash text at e b (omega arith) (omega arith) | no k ↦ ends_here text at e (omega arith) ])

  pub closed : at < length text → get_or text at 0 ≡ 34 → StretchEnds (maybe string) text start (at + 1)
  closed h q = put_in (ended (becomes_then o.on (record { onward = omega arith; alike = λ e l m. at_first inside text at e (omega arith) m ∙ inside_quote _ _ q })) (ends_nothing (omega arith)))

  -- it is never closed
  never : ((e : ℕ) → at ≤ e → e ≤ length text → matches inside (lexeme text at e) ≡ false) → StretchEnds (maybe string) text start start
  never f = left_out (omega (arith, o.within, o.on.onward)) (λ e l m. elim (dec_lt e at) [ yes h ↦ o.none e l h | no h ↦ o.on.alike e (omega arith) m ∙ f e (omega arith) m ])

  pub ends_open : length text ≤ at → StretchEnds (maybe string) text start start
  ends_open h = never (λ e l m. ends_here text at e (omega arith))

  pub ends_cut : get_or text at 0 ≡ 92 → at + 1 ≡ length text → StretchEnds (maybe string) text start start
  ends_cut b h = never (λ e l m. elim (dec_lt at e) [ yes k ↦ after_backslash text at e b (omega arith) m | no k ↦ ends_here text at e (omega arith) ])

  pub ends_broken : get_or text at 0 ≡ 92 → get_or text (at + 1) 0 ≡ 10 → StretchEnds (maybe string) text start start
  ends_broken b n = never (λ e l m. elim (dec_lt (at + 1) e) [ yes k ↦ two_bytes text at e b k m ∙ rw n | no k ↦ elim (dec_lt at e) [ yes i ↦ after_backslash text at e b (omega arith) m | no i ↦ ends_here text at e (omega arith) ] ])
