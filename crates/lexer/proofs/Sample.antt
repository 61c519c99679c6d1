-- The request's own sample: 'a number cut back to its longest fitting part, so `1.x` gives three tokens'.
use Prim.Native.Nat.{ℕ}
use mathlib.Core.List.{List, [], ◌∷◌}
use mathlib.Core.Path.{refl}
use native.Mathlib.Omega.{arith}
use Rattle.grammar.specs.Kind.{NumberLiteral, Dot, Identifier, Eof}
use Rattle.grammar.specs.Lexeme.{spelling}
use Rattle.grammar.specs.Pattern.{bytes, digit}
use Rattle.lexeme.specs.Parts.{Word}
use Rattle.grammar.specs.Run.{Ran}
use Rattle.lexeme.proofs.Keywords.{too_short}
use Rattle.lexeme.proofs.Numbers.{rest_shy}
use Rattle.lexer.specs.Reads.{Longest, TextReads}
use Rattle.lexer.specs.Parts.{Spelt}
use Rattle.lexer.proofs.Numbers.{lone_point}
use Rattle.lexer.proofs.Sorts.{other_byte}
use Rattle.lexer.proofs.Standing.{a_number, a_word, one_byte}
use Rattle.lexer.proofs.Stretches.{ended, byte_on, many_stop, run_on_some}

abbrev text : List ℕ
text = bytes "1.x"

digits : Ran digit text 0 3 1
digits = record { counted = refl; within = omega arith }

no_digits : Ran digit text 2 3 2
no_digits = record { counted = refl; within = omega arith }

one : Longest text NumberLiteral 0 1
one = a_number refl (ended (run_on_some digits rest_shy (λ z. omega arith)) (lone_point refl (omega arith) no_digits refl))

point : Longest text Dot 1 2
unfolding spelling
point = one_byte (other_byte 46 (λ z. omega arith) (λ z. omega arith) (λ z. absurd (omega arith)) (λ z. absurd (omega arith)) (λ z. absurd (omega arith))) (record { no_two = λ k h l z. absurd (omega arith) }) (Spelt.sign {k = Dot} (omega arith) refl) (omega arith)

x : Longest text Identifier 2 3
x = a_word refl (ended (byte_on (omega arith) refl) (many_stop (omega arith) (λ h. absurd (omega arith)))) (Word.name (too_short (bytes "x") (omega arith)))

pub sample : TextReads text 0 (NumberLiteral ∷ 0 ∷ 1 ∷ Dot ∷ 1 ∷ 2 ∷ Identifier ∷ 2 ∷ 3 ∷ Eof ∷ 3 ∷ 3 ∷ [])
sample = TextReads.token one (TextReads.token point (TextReads.token x (TextReads.end refl)))
