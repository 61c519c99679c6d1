-- `diagnostics::line::writing_end` meets its contract: what is counted is the run.
use Rattle.diagnostics.proofs.Lines.{run_counted}
use Rattle.diagnostics.proofs.line.writing_end.Goals as goal

pub returns : goal.returns
returns c = run_counted c.requires c.written.ensures
