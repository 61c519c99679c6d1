-- `batch::lent` is safe and ends: the input is as it was measured.
use Rattle.wire.proofs.Scanning.{scanned_sized}
use Rattle.batch.proofs.lent.Goals as goal

pub called-requires-clause-input : goal.called-requires-clause-input
called-requires-clause-input c = scanned_sized c.in-Sized.is c.scan-form.ensures
