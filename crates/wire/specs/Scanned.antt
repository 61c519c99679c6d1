-- What the parts of the program `rows` answer: the form of an input, and what is written of it.
use Rattle.std.specs.Prelude.{ℕ, ◌+◌, ◌*◌, ◌<◌, List, ◌≡◌, length, drop}
use Rattle.grammar.specs.Token.{count}
use Rattle.wire.specs.Input.{Marked, TokenRecord, InputHolds, Broken, token_size}
use Rattle.wire.specs.declared.input.Script.{Script}
use Rattle.wire.specs.declared.input.Script.TheVariants.{Bad, Sized}

-- the marks of n token records stand from a place on
pub record Marks (input : List ℕ) (at n : ℕ) : Type 0 where
  pub marked : (i : ℕ) → i < n → Marked input (at + token_size * i) 0x54

-- an input holds a text of this size and n tokens
pub record Sizes (input : List ℕ) (size n : ℕ) : Type 0 where
  pub text : List ℕ
  pub tokens : List ℕ
  pub holds : InputHolds input text tokens
  pub size_is : length text ≡ size
  pub count_is : count tokens ≡ n

-- what the cases of `Script` say of an input: 'A broken record or more input', and 'mark 4B 53, text length .., text; then per token mark 4B 54 ..'
unfoldable pub FormCase : (input : List ℕ) → Script → Type 0
FormCase input Bad = Broken input
FormCase input (Sized size n) = Sizes input size n

pub record Scanned (input : List ℕ) (r : Script) : Type 0 where
  pub says : FormCase input r

-- the n tokens whose records stand from a place on are the first of a list, and the rest of the list and its length stay
pub record TokensFilled (input : List ℕ) (at n : ℕ) (before after : List ℕ) : Type 0 where
  pub size : length after ≡ length before
  pub tokens : (i : ℕ) → i < n → TokenRecord input after (at + token_size * i) i
  pub rest : drop (3 * n) after ≡ drop (3 * n) before
