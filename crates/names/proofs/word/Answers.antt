-- `word` meets its contract: by the kind of the token.
use Prim.Native.Nat.{◌+◌, ◌-◌, ◌*◌, ◌≤◌}
use native.Mathlib.Omega.{arith}
use mathlib.Core.Bool.{true}
use mathlib.Core.Path.{◌≡◌, ap, ◌∙◌}
use Rattle.grammar.specs.Kind.{Identifier}
use Rattle.grammar.specs.Symbol.{is_name, quote, word_start, word_end}
use Rattle.grammar.proofs.Quotes.{quoted}
use Rattle.names.proofs.Words.{is_word, is_no_word, quote_is, free_word, word_named, no_word}
use Rattle.names.proofs.word.Goals as goal
use Rattle.names.proofs.word.Goals.{After-end_at-end}

-- the token has a word, and the code's quote is its quote
named : (c : After-end_at-end) → is_name c.args.source.tokens.now c.args.at ≡ true
named c = is_word c.args.source.tokens.now c.args.at (omega arith) (omega arith)

quote_here : (c : After-end_at-end) → Identifier - c.kind_at-kind.result ≡ quote c.args.source.tokens.now c.args.at
quote_here c = ap (λ x. Identifier - x) c.kind_at-kind.ensures ∙ quote_is c.args.source.tokens.now c.args.at (omega arith) (omega arith)

-- the word, as the code has it, and that it is inside the token
starts : (c : After-end_at-end) → c.start_at-start.result + (Identifier - c.kind_at-kind.result) ≡ word_start c.args.source.tokens.now c.args.at
starts c = omega (arith, quote_here c, c.start_at-start.ensures)

ends : (c : After-end_at-end) → c.end_at-end.result - (Identifier - c.kind_at-kind.result) ≡ word_end c.args.source.tokens.now c.args.at
ends c = omega (arith, quote_here c, c.end_at-end.ensures)

inside : (c : After-end_at-end) → c.start_at-start.result + 2 * (Identifier - c.kind_at-kind.result) ≤ c.end_at-end.result
inside c = omega (arith, quote_here c, c.start_at-start.ensures, c.end_at-end.ensures, quoted c.requires.sound)

pub overflow_add-start : goal.overflow_add-start
overflow_add-start c = omega (arith, inside (goal.at.overflow_add-start c).After-end_at-end)

pub name-requires : goal.name-requires
name-requires c = let read = (goal.at.name-requires c).After-end_at-end in rw (starts read, ends read) (free_word c.requires)

pub returns-in-42-to-43 : goal.returns-in-42-to-43
returns-in-42-to-43 c =
    let read = (goal.at.returns-in-42-to-43 c).After-end_at-end in
    word_named c.requires (named read) (rw (starts read, ends read) at c.name.ensures)

-- below the two kinds and above them there is no word
pub returns-in_default : goal.returns-in_default
returns-in_default c = no_word c.requires (is_no_word c.args.source.tokens.now c.args.at (λ e. omega arith) (λ e. omega arith))

pub returns-in_default-2 : goal.returns-in_default-2
returns-in_default-2 c = no_word c.requires (is_no_word c.args.source.tokens.now c.args.at (λ e. omega arith) (λ e. omega arith))
