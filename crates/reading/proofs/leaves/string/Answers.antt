-- `leaves::string` meets its contract: a token, the symbol of what is between its quotes, and its row.
use mathlib.Core.Path.{refl}
use Rattle.grammar.specs.Space.{has_word}
use Rattle.reading.proofs.Leaf.{next_row, string_read}
use Rattle.reading.proofs.Names.{unnamed}
use Rattle.reading.proofs.Refusals as Refuses
use Rattle.reading.proofs.Replies.{token_taken, lacks}
use Rattle.reading.proofs.leaves.string.Goals as goal

pub returns-in_default : goal.returns-in_default
returns-in_default c = lacks c.in_default.is c.consume-read.ensures (λ n. Refuses.in_node (Refuses.missing n))

pub symbol_at-symbol-requires : goal.symbol_at-symbol-requires
symbol_at-symbol-requires c = (c.requires.within.at, c.requires.within.roomy.scratch)

pub returns-then-symbol : goal.returns-then-symbol
unfolding has_word
returns-then-symbol c = rw c.no_room.ensures (unnamed c.requires (token_taken c.in-Node.is c.consume-read.ensures) c.symbol_at-symbol.ensures c.if-symbol.true refl)

pub string-node-requires : goal.string-node-requires
string-node-requires c = next_row c.requires (token_taken c.in-Node.is c.consume-read.ensures)

pub made-requires : goal.made-requires
made-requires c = next_row c.requires (token_taken c.in-Node.is c.consume-read.ensures)

pub returns : goal.returns
returns c =
    string_read c.made.ensures c.requires (token_taken c.in-Node.is c.consume-read.ensures) c.symbol_at-symbol.ensures c.if-symbol.false c.string-node.ensures
