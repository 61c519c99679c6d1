-- The answer of a call that is let in: that of its reading's refusal, or of the rows that are read.
use native.Mathlib.Omega.{arith}
use Rattle.syntax.proofs.Calls.{names_open, asked, lent, refused_told, refused_at, refused_answer, completed_told, fitting, accepted_answer}
use Rattle.syntax.proofs.answer.Goals as goal

pub resolve-known-requires : goal.resolve-known-requires
resolve-known-requires c = names_open c.requires

pub tree-read-requires : goal.tree-read-requires
tree-read-requires c = asked c.requires c.resolve-known.ensures

pub cut-requires : goal.cut-requires
cut-requires c = (refused_at c.requires c.resolve-known.ensures (refused_told c.tree-read.ensures c.in-Refused.is), (lent c.requires).whole.most)

pub finish-requires : goal.finish-requires
finish-requires c = fitting c.requires c.resolve-known.ensures (completed_told c.tree-read.ensures c.in-Node.is)

pub returns-in-Refused : goal.returns-in-Refused
returns-in-Refused c =
    refused_answer c.requires c.resolve-known.ensures (refused_told c.tree-read.ensures c.in-Refused.is)
    (record {
      nodes = c.tree-read.auto.nodes;
      links = c.tree-read.auto.links;
      symbols = c.resolve-known.ensures.symbol_size;
      scratch = omega (arith, c.tree-read.auto.scratch, c.resolve-known.ensures.scratch_size);
    })
    c.cut.ensures

pub returns-in-Node : goal.returns-in-Node
returns-in-Node c = accepted_answer c.requires c.resolve-known.ensures (completed_told c.tree-read.ensures c.in-Node.is) c.finish.ensures
