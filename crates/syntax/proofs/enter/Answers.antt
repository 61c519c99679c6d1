-- `enter` meets its contract: what the door turns away is answered by its numbers, the rooms as they were; what it lets in has its answer.
use Rattle.syntax.proofs.Calls.{let_in, turned}
use Rattle.syntax.proofs.enter.Goals as goal

pub answer-requires : goal.answer-requires
answer-requires c =
    let open-here = c.in-Ok.is in
    let checked = c.requires in
    let_in checked.entered (checked.known open-here) open-here

pub returns-in-Err : goal.returns-in-Err
returns-in-Err c = turned c.requires.entered c.in-Err.is c.refused.ensures
