-- What is held becomes links where they have room, and is counted in any case.
use native.Mathlib.Omega.{arith}
use mathlib.Core.Path.{refl}
use Rattle.reading.proofs.lists.gather.Goals as goal

pub overflow_add-all : goal.overflow_add-all
overflow_add-all c = omega (arith, c.requires.0, c.requires.2)

pub overflow_mul-all : goal.overflow_mul-all
overflow_mul-all c = omega (arith, c.requires.0, c.requires.2)

pub link-requires : goal.link-requires
link-requires c = let p = c.requires in (c.if-all-links.true, omega (arith, p.0, p.1))

pub returns-then-all-links : goal.returns-then-all-links
returns-then-all-links c = record { cursor = refl; links = λ h. c.link.ensures; kept = λ h. absurd (omega (arith, c.if-all-links.true, h)) }

pub returns-else-all-links : goal.returns-else-all-links
returns-else-all-links c = record { cursor = refl; links = λ h. absurd (omega (arith, c.if-all-links.false, h)); kept = λ h. refl }
