-- `highest` meets its contract: it is a fold of the higher of two.
use Rattle.std.specs.Prelude.{max, ◌≡◌}
use Rattle.std.specs.List.{fold}
use borrow.Author.Rules.{rules}
use Rattle.door.proofs.Searching.{highest_of}
use Rattle.door.proofs.highest.Goals as goal

pub returns : goal.returns
returns c = highest_of _ _ (let e : c.fold.result ≡ fold max 0 c.args.text.now = search rules in e)
