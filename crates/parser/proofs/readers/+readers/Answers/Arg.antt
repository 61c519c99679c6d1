-- An argument: an expression, and the comma after it unless the list ends there.
use Rattle.reading.proofs.Names.{separated}
use Rattle.reading.proofs.Refusals as Refuses
use Rattle.reading.proofs.Replies.{success, passed}
use Rattle.parser.proofs.readers.+readers.Goals as goal

pub arg-returns-in_default : goal.arg-returns-in_default
arg-returns-in_default t c = passed c.in_default.is c.expression-read.ensures (λ x h. Refuses.in_first h)

pub arg-comma-requires : goal.arg-comma-requires
arg-comma-requires t c =
    let part = success c.in-Node.is c.expression-read.ensures in
    part.within.at

pub arg-returns : goal.arg-returns
arg-returns t c =
    let part = success c.in-Node.is c.expression-read.ensures in
    separated _ c.requires part c.comma.ensures
