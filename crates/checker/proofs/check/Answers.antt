-- `check` meets its contract: the counts, the edition, the rules; and then the scratch room is cleared.
use Rattle.std.proofs.Common.{inl, inr}
use Rattle.grammar.specs.Door.{RightEdition}
use Rattle.checker.specs.Verdict.{rooms, given, Tells}
use Rattle.checker.proofs.Answering.{told, past_nodes, past_links, past_symbols, past_scratch, no_edition, judged}
use Rattle.checker.proofs.check.Goals as goal
use Rattle.checker.proofs.check.Goals.{After-clear, then-nodes-high-via-then-nodes-high, then-nodes-high-via-else-nodes-high+then-links-long, then-nodes-high-via-else-nodes-high+else-links-long+then-symbols-s, then-nodes-high-via-else-nodes-high+else-links-long+else-symbols-s+then-scratch-n, else-edition-ne-FIRST-via-then-edition-ne-FIRST+else-edition-ne-SECOND, else-edition-ne-FIRST-via-else-edition-ne-FIRST}

-- what the rules tell, once the scratch room is cleared
all : (c : After-clear) → (let a = c.args in Tells (given a.edition a.n a.m a.s (rooms a.nodes.now a.links.now a.symbols.now a.scratch.now)) (rooms a.nodes.now a.links.now a.symbols.now c.clear.new.room) (told c.judge-judged.result))
all c =
    let right : RightEdition c.args.edition = elim c.else-edition-ne-FIRST.branch [
      | else-edition-ne-FIRST-via-then-edition-ne-FIRST+else-edition-ne-SECOND w ↦ inr w.if-edition-ne-SECOND.false
      | else-edition-ne-FIRST-via-else-edition-ne-FIRST w ↦ inl w.if-edition-ne-FIRST.false
    ] in
    judged _ _ _ _ _ _ _ _ (record { nodes = c.if-nodes-high.false; links = c.if-links-long.false; symbols = c.if-symbols-s.false; scratch = c.if-scratch-n.false }) right c.slots-table.ensures c.judge-judged.ensures c.judge-judged.auto.scratch c.clear.ensures

pub returns-then-nodes-high : goal.returns-then-nodes-high
returns-then-nodes-high c = rw c.plain.ensures (elim c.then-nodes-high.branch [
  | then-nodes-high-via-then-nodes-high w ↦ past_nodes _ _ _ _ _ _ _ _ w.if-nodes-high.true
  | then-nodes-high-via-else-nodes-high+then-links-long w ↦ past_links _ _ _ _ _ _ _ _ w.if-links-long.true
  | then-nodes-high-via-else-nodes-high+else-links-long+then-symbols-s w ↦ past_symbols _ _ _ _ _ _ _ _ w.if-symbols-s.true
  | then-nodes-high-via-else-nodes-high+else-links-long+else-symbols-s+then-scratch-n w ↦ past_scratch _ _ _ _ _ _ _ _ w.if-scratch-n.true
])

pub returns-then-edition-ne-SECOND : goal.returns-then-edition-ne-SECOND
returns-then-edition-ne-SECOND c = rw c.plain-then-edition-ne-SECOND.ensures (no_edition _ _ _ _ _ _ _ _ (record { nodes = c.if-nodes-high.false; links = c.if-links-long.false; symbols = c.if-symbols-s.false; scratch = c.if-scratch-n.false }) c.if-edition-ne-FIRST.true c.if-edition-ne-SECOND.true)

pub returns-in-Ok : goal.returns-in-Ok
returns-in-Ok c = rw c.plain-in-Ok.ensures (rw c.in-Ok.is at (all (goal.at.returns-in-Ok c).After-clear))

pub returns-in-Err : goal.returns-in-Err
returns-in-Err c = rw c.number.ensures (rw c.in-Err.is at (all (goal.at.returns-in-Err c).After-clear))
