-- `find` meets its contract: it stands at a row of the bucket, and no row newer than that has the bytes. The measure is that row.
use Rattle.interner.specs.Interns.{used}
use Rattle.interner.specs.Search.{Wanted}
use Rattle.interner.proofs.Buckets.{Seeking}
use Rattle.interner.proofs.find.Given as goal

-- what is asked, with the size of the index, and where the search stands
abbrev pub invariant-loop-next : goal.invariant-loop-next
invariant-loop-next l = (asked : Wanted l.text l.word l.count l.place l.symbols l.index) × Seeking l.text l.word asked.size l.count (used l.count l.symbols) l.next

abbrev pub decreases-loop-next : goal.decreases-loop-next
decreases-loop-next l = l.next
