-- Every number that check 6 lets through is one that Rust's f64 reading takes: document 002's pattern (Lexeme.antt) against the Rust library's grammar (Float.antt).
use Prim.Native.Nat.{ℕ, ◌<◌}
use mathlib.Core.Bool.{or-false}
use mathlib.Core.List.{List, ◌++◌, append_assoc, append-nil}
use mathlib.Core.Path.{◌≡◌, refl, ◌∙◌}
use native.Mathlib.Omega.{arith}
use lib.Dec.{eqb}
use Rattle.grammar.specs.Call.{Call}
use Rattle.grammar.specs.Door.{Admitted}
use Rattle.grammar.specs.Float.{caseless, float, mantissa, point}
use Rattle.grammar.specs.Kind.{NumberLiteral}
use Rattle.grammar.specs.Lexeme.{number}
use Rattle.grammar.specs.Pattern.{Pattern, Matches, byte, sequence, many, maybe, some, among, bytes, digit}
use Rattle.grammar.specs.Token.{kind, start, end, lexeme, count}

letter_e : {x : List ℕ} → Matches (byte (among (bytes "eE"))) x → Matches (caseless (bytes "e")) x
unfolding caseless
letter_e (Matches.byte {x = x} t) = Matches.sequence (Matches.byte (rw (or-false (eqb x 69)) at t)) Matches.nothing refl

power : {p : Pattern} {x : List ℕ} → Matches (maybe (sequence (byte (among (bytes "eE"))) p)) x → Matches (maybe (sequence (caseless (bytes "e")) p)) x
power (Matches.left (Matches.sequence l n e)) = Matches.left (Matches.sequence (letter_e l) n e)
power (Matches.right n) = Matches.right n

digits : {x : List ℕ} → Matches (some (byte digit)) x → Matches (many (byte digit)) x
digits (Matches.sequence d ds e) = Matches.again d ds e

-- digits, and a point with digits after it if there is one
decimal : {x y z : List ℕ} → Matches (some (byte digit)) x → Matches (maybe (sequence point (some (byte digit)))) y → z ≡ x ++ y → Matches mantissa z
decimal d (Matches.left (Matches.sequence p ds e)) f = Matches.right (Matches.left (Matches.sequence d (Matches.sequence p (digits ds) e) f))
decimal {x = x} {z = z} d (Matches.right Matches.nothing) f = let w : Matches (some (byte digit)) z = rw (f, append-nil x) d in Matches.left w

-- the patterns
pub number_read : {x : List ℕ} → Matches number x → Matches float x
number_read (Matches.sequence {xs = x} d (Matches.sequence {xs = y} f p e) g) =
    let m : Matches mantissa (x ++ y) = decimal d f refl in
    Matches.sequence (Matches.right Matches.nothing) (Matches.right (Matches.right (Matches.right (Matches.sequence m (power p) (g ∙ rw (e, append_assoc)))))) refl

-- and so the number tokens of every list that is let in
pub numbers_read : {c : Call} → Admitted c → (i : ℕ) → i < count c.tokens → kind c.tokens i ≡ NumberLiteral → Matches float (lexeme c.text (start c.tokens i) (end c.tokens i))
numbers_read d i h e = number_read (rw e at ((d.sound i h).fits.lexeme (rw e (omega arith))))
