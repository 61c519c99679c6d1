-- `listed` meets its contract: what the two searches found, with the numbers of the token, and else what the profile says.
use Rattle.door.specs.Entry.{ListChecked}
use Rattle.door.proofs.listed.Goals as goal

pub returns-in-Some : goal.returns-in-Some
returns-in-Some c = rw c.at_token.ensures (ListChecked.unsound c.in-Some.ensures)

pub returns-in-Some-first_unclosed : goal.returns-in-Some-first_unclosed
returns-in-Some-first_unclosed c = rw c.at_token-in-Some-first_unclosed.ensures (ListChecked.unclosed c.in_default.ensures c.in-Some-first_unclosed.ensures)

pub returns : goal.returns
returns c =
    let (w, a) = c.requires in
    ListChecked.lent (record { whole = w; ascii = a; sound = c.in_default.ensures; closed = c.in_default-first_unclosed.ensures }) c.within.ensures
