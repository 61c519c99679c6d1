-- A name is an identifier's token, and the symbol of its text, if there is room for that.
use mathlib.Core.Path.{refl}
use Rattle.grammar.specs.Space.{has_word}
use Rattle.reading.proofs.Names.{name_read, unnamed}
use Rattle.reading.proofs.Refusals as Refuses
use Rattle.reading.proofs.Replies.{token_taken, lacks}
use Rattle.reading.proofs.lists.name.Goals as goal

pub returns-in_default : goal.returns-in_default
returns-in_default c = lacks c.in_default.is c.consume-read.ensures (λ n. Refuses.in_node (Refuses.missing n))

pub symbol_at-symbol-requires : goal.symbol_at-symbol-requires
symbol_at-symbol-requires c = let w = c.requires.within in (w.at, w.roomy.scratch)

pub returns-then-symbol : goal.returns-then-symbol
unfolding has_word
returns-then-symbol c = rw c.no_room.ensures (unnamed c.requires (token_taken c.in-Node.is c.consume-read.ensures) c.symbol_at-symbol.ensures c.if-symbol.true refl)

pub returns : goal.returns
returns c = name_read c.requires (token_taken c.in-Node.is c.consume-read.ensures) c.symbol_at-symbol.ensures c.if-symbol.false
