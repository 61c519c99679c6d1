-- What is known of built-in names that were checked, and what the check of one more asks and answers. Document 02, L10.
use Rattle.std.specs.Prelude.{ℕ, ◌+◌, ◌*◌, ◌<◌, Bool, true, false, List, ◌≡◌, replicate, Option, unwrap_or, IfSome}
use Rattle.grammar.specs.Builtin.{Builtins, built, RightNames}
use Rattle.grammar.specs.Kind.{Identifier}
use Rattle.grammar.specs.Lexeme.{Fits}
use Rattle.grammar.specs.Symbol.{seek}
use Rattle.grammar.specs.Table.{word}
use Rattle.interner.specs.Interns.{Indexed}

-- the most names, and an index of none: two numbers for each that there may be
abbrev pub most : ℕ
most = 64

abbrev pub blank_index : List ℕ
blank_index = replicate (2 * most) 0

-- the first n names are right, and the index is theirs
pub record Named (names : Builtins) (n : ℕ) (index : List ℕ) : Type 0 where
  pub indexed : Indexed names.text most n names.rows index
  pub identifiers : (i : ℕ) → i < n → Fits Identifier (word names.text names.rows i)

-- what the check of name n asks: there is one, and those before it are right
pub record Before (names : Builtins) (n : ℕ) (index : List ℕ) : Type 0 where
  pub there : n < built names
  pub free : n < most
  pub named : Named names n index

-- whether name n, too, is right: then the index has it, and else the names are not right
pub record Next (names : Builtins) (n : ℕ) (index : List ℕ) (r : Bool) : Type 0 where
  pub named : r ≡ true → Named names (n + 1) index
  pub wrong : r ≡ false → RightNames names → ⊥

-- the index is that of all names
pub record Known (names : Builtins) (index : List ℕ) : Type 0 where
  pub indexed : Indexed names.text most (built names) names.rows index

-- whether the names are right: then the index is theirs
pub record Checked (names : Builtins) (index : List ℕ) (r : Bool) : Type 0 where
  pub right : r ≡ true → RightNames names
  pub known : r ≡ true → Known names index
  pub wrong : r ≡ false → RightNames names → ⊥

-- the name that has these bytes is the grammar's `seek`, and there is none where that is how many there are
pub record FoundIn (names : Builtins) (bytes : List ℕ) (r : Option ℕ) : Type 0 where
  pub is : unwrap_or r (built names) ≡ seek names.text bytes names.rows
  pub there : IfSome r (λ i. i < built names)
