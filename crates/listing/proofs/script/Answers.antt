-- `listing::script` meets its contract: the input holds the text and the list that are read, and the answer is printed by its code.
use Prim.Native.Nat.{ℕ, ◌+◌, ◌*◌}
use native.Mathlib.Omega.{arith}
use mathlib.Core.List.{List}
use mathlib.Core.Path.{◌≡◌}
use lib.ListN.{length, take}
use Rattle.grammar.specs.Token.{lexeme}
use Rattle.wire.specs.Input.{InputHolds}
use Rattle.wire.specs.Scanned.{Sizes, TokensFilled}
use Rattle.wire.proofs.Outputs.{success_answered, refusal_answered, counted}
use Rattle.wire.proofs.Scanning.{measured, holding}
use Rattle.listing.proofs.script.Goals as goal

-- the tokens that were written are the list's first, and the input holds them
read : {input before after : List ℕ} {size n : ℕ} → Sizes input size n → TokensFilled input (6 + size) n before after → length after ≡ 1536 → InputHolds input (lexeme input 6 (6 + size)) (take (3 * n) after)
read s f h = let m = measured s in holding m f (omega (arith, m.most_tokens))

pub fill-requires : goal.fill-requires
fill-requires c = let m = measured c.requires in (m.marks, omega (arith, m.ends), omega (arith, m.most_tokens))

pub listed-requires : goal.listed-requires
listed-requires c =
    let parse = c.parse-a in
    let there = counted parse.ensures.answers in
    record {
      few_nodes = omega (arith, there.nodes, parse.auto.nodes);
      few_links = omega (arith, there.links, parse.auto.links);
      few_symbols = omega (arith, there.symbols, parse.auto.symbols);
      nodes_there = there.nodes;
      links_there = there.links;
      symbols_there = there.symbols;
      fits = omega arith;
    }

pub returns-then-a-eq0 : goal.returns-then-a-eq0
returns-then-a-eq0 c =
    let parse = c.parse-a in
    let fill = c.fill in
    success_answered (read c.requires fill.ensures fill.auto.tokens) parse.ensures.answers c.if-a-eq0.true c.listed.ensures

pub returns : goal.returns
returns c =
    let parse = c.parse-a in
    let fill = c.fill in
    refusal_answered (read c.requires fill.ensures fill.auto.tokens) parse.ensures.answers c.if-a-eq0.false c.refused.ensures
