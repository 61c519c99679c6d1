-- `bucket` meets its contract: what is mixed is below 65536, so that a bucket stays in the index.
use mathlib.Core.Path.{refl}
use Rattle.interner.specs.Index.{bucket}
use Rattle.interner.proofs.Buckets.{bucket_none}
use Rattle.interner.proofs.bucket.Goals as goal

pub returns-then-n-eq0 : goal.returns-then-n-eq0
returns-then-n-eq0 c = bucket_none c.args.word.now c.args.size c.if-n-eq0.true

pub returns : goal.returns
unfolding bucket
returns c = rw c.mix.ensures refl
