-- `listing::answer` meets its contract: by the form of the input.
use Rattle.wire.proofs.Outputs.{bad_answered}
use Rattle.wire.proofs.Scanning.{scanned_bad, scanned_sized}
use Rattle.listing.proofs.answer.Goals as goal

pub script-requires : goal.script-requires
script-requires c = scanned_sized c.in-Sized.is c.scan-form.ensures

pub returns-in-Bad : goal.returns-in-Bad
returns-in-Bad c = bad_answered (scanned_bad c.in-Bad.is c.scan-form.ensures) c.put.ensures
