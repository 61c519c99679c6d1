-- `whole` meets its contract: the statements are the script's, and then its root has room or not.
use Prim.Native.Nat.{ℕ, ◌+◌, ◌<◌}
use native.Mathlib.Omega.{arith}
use mathlib.Core.List.{List}
use Rattle.ast.proofs.Rooms.{inserted}
use Rattle.reading.specs.State.{State, Lent, Within}
use Rattle.reading.proofs.Replies.{listed}
use Rattle.syntax.specs.Parsed.{CompleteCase}
use Rattle.syntax.proofs.Scripts.{chain_told, no_links, no_row, rooted}
use Rattle.syntax.proofs.whole.Goals as goal

-- few rows are counted
few : {ts : List ℕ} {s : State} → Lent ts → Within ts s → s.cursor.links + s.cursor.held < 4096
few l w = omega (arith, w.links, w.at, l.whole.most)

few_rows : {ts : List ℕ} {s : State} → Lent ts → Within ts s → s.cursor.nodes < 4096
few_rows l w = omega (arith, w.rows, w.at, l.whole.most)

pub returns-in_default : goal.returns-in_default
returns-in_default c = chain_told c.in_default.is c.statements-read.ensures

pub overflow_add-used : goal.overflow_add-used
overflow_add-used c = omega (arith, few c.requires.ready.lent (listed c.in-Node.is c.statements-read.ensures).within)

pub overflow_mul-used : goal.overflow_mul-used
overflow_mul-used c = omega (arith, few c.requires.ready.lent (listed c.in-Node.is c.statements-read.ensures).within)

pub returns-then-links-used : goal.returns-then-links-used
unfolding CompleteCase
returns-then-links-used c = rw c.no_room.ensures (record { says = no_links (listed c.in-Node.is c.statements-read.ensures) c.if-links-used.true })

pub overflow_add-n : goal.overflow_add-n
overflow_add-n c = omega (arith, few_rows c.requires.ready.lent (listed c.in-Node.is c.statements-read.ensures).within)

pub overflow_mul-n : goal.overflow_mul-n
overflow_mul-n c = omega (arith, few_rows c.requires.ready.lent (listed c.in-Node.is c.statements-read.ensures).within)

pub returns-then-nodes-n : goal.returns-then-nodes-n
unfolding CompleteCase
returns-then-nodes-n c =
    rw c.no_room-then-nodes-n.ensures (record { says = no_row (listed c.in-Node.is c.statements-read.ensures) c.if-links-used.false c.if-nodes-n.true })

pub link-requires : goal.link-requires
link-requires c =
    let w = (listed c.in-Node.is c.statements-read.ensures).within in
    (c.if-links-used.false, omega (arith, w.links, w.at, w.roomy.scratch))

pub overflow_cast-first : goal.overflow_cast-first
overflow_cast-first c = omega (arith, few c.requires.ready.lent (listed c.in-Node.is c.statements-read.ensures).within)

pub overflow_cast-count : goal.overflow_cast-count
overflow_cast-count c = omega (arith, few c.requires.ready.lent (listed c.in-Node.is c.statements-read.ensures).within)

pub block-root-requires : goal.block-root-requires
block-root-requires c = omega (arith, few_rows c.requires.ready.lent (listed c.in-Node.is c.statements-read.ensures).within)

pub overflow_add-all : goal.overflow_add-all
overflow_add-all c = omega (arith, few_rows c.requires.ready.lent (listed c.in-Node.is c.statements-read.ensures).within)

pub returns : goal.returns
unfolding CompleteCase
returns c =
    record {
      says = rooted (listed c.in-Node.is c.statements-read.ensures) c.requires.ready.lent c.if-links-used.false c.if-nodes-n.false c.link.ensures (inserted c.if-nodes-n.false c.block-root.ensures);
    }
