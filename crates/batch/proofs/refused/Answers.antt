-- `batch::refused` is safe and ends: the input is as it was measured.
use Rattle.wire.proofs.Scanning.{scanned_sized}
use Rattle.batch.proofs.refused.Goals as goal

pub filled-tokens-requires : goal.filled-tokens-requires
filled-tokens-requires c = scanned_sized c.in-Sized.is c.scan-form.ensures
