-- `sound` meets its contract: a token fails one of the five tests, or its lexeme decides.
use mathlib.Core.Path.{◌≡◌}
use Prim.Native.Nat.{◌-◌}
use native.Mathlib.Omega.{arith}
use Rattle.spelling.proofs.Deciding.{fails, carried}
use Rattle.door.proofs.sound.Goals as goal

pub returns-then-kind-gt-EOF : goal.returns-then-kind-gt-EOF
returns-then-kind-gt-EOF c = fails (λ z. let k = z.known in omega (arith, c.kind_at-kind.ensures))

pub returns-then-end-start : goal.returns-then-end-start
returns-then-end-start c = fails (λ z. let k = z.forward in omega (arith, c.start_at-start.ensures, c.end_at-end.ensures))

pub returns-then-text-end : goal.returns-then-text-end
returns-then-text-end c = fails (λ z. let k = z.inside in omega (arith, c.end_at-end.ensures))

pub returns-then-start-end_at : goal.returns-then-start-end_at
returns-then-start-end_at c = fails (λ z. let k = z.apart (c.args.at - 1) (omega arith) in omega (arith, c.start_at-start.ensures, c.end_at.ensures))

pub returns-then-at-gt0 : goal.returns-then-at-gt0
returns-then-at-gt0 c = carried (λ f. record { known = omega (arith, c.kind_at-kind.ensures); forward = omega (arith, c.start_at-start.ensures, c.end_at-end.ensures); inside = omega (arith, c.end_at-end.ensures); apart = λ j e. let y : j ≡ c.args.at - 1 = omega arith in rw y (omega (arith, c.start_at-start.ensures, c.end_at.ensures)); fits = f }) (λ z. z.fits) (rw (c.kind_at-kind.ensures, c.start_at-start.ensures, c.end_at-end.ensures) at c.fits.ensures)

pub returns : goal.returns
returns c = carried (λ f. record { known = omega (arith, c.kind_at-kind.ensures); forward = omega (arith, c.start_at-start.ensures, c.end_at-end.ensures); inside = omega (arith, c.end_at-end.ensures); apart = λ j e. absurd (omega arith); fits = f }) (λ z. z.fits) (rw (c.kind_at-kind.ensures, c.start_at-start.ensures, c.end_at-end.ensures) at c.fits-2.ensures)
