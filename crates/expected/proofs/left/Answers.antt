-- `left` meets its contract: token by token the stack is what is left, each taken within the limit; or reading is not refused at the place.
use mathlib.Core.Path.{◌≡◌, subst}
use native.Mathlib.Omega.{arith}
use borrow.Author.Rules.{rules}
use Rattle.grammar.specs.Edition.{edition as the-edition}
use Rattle.expected.specs.Left.{ComesTo}
use Rattle.expected.proofs.Leaving.{Leaving, leaving, spare, leaving_on, must_take, not_deep, as_took}
use Rattle.expected.proofs.left.Goals as goal

pub loop-i-init : goal.loop-i-init
loop-i-init c = leaving c.args.room.now c.requires.room_len

-- a kind that is none: reading is not refused here
pub returns-then-kind-gt-EOF : goal.returns-then-kind-gt-EOF
unfolding ComesTo
returns-then-kind-gt-EOF c = record { says = λ code h m. omega (arith, m.known c.loop-i.i (search rules), c.kind_at-kind.ensures) }

pub advance-requires-clause-le_top : goal.advance-requires-clause-le_top
advance-requires-clause-le_top c = spare c.loop-i.invariant c.requires.asked.shallow

-- a token that is not taken: reading is not refused at the place
pub returns-in_default : goal.returns-in_default
unfolding ComesTo
returns-in_default c =
    let stepped = rw c.kind_at-kind.ensures at c.advance.ensures in
    record { says = λ code h m. let (t, d, e) = must_take m h c.loop-i.invariant (search rules) c.advance.result stepped in c.in_default.not-Took t d e }

-- an opening that passes the limit before the place: neither
pub returns-then-d-limit : goal.returns-then-d-limit
unfolding ComesTo
returns-then-d-limit c =
    let stepped = rw c.kind_at-kind.ensures at c.advance.ensures in
    record { says = λ code h m. not_deep m h c.loop-i.invariant (search rules) (as_took c.advance.result c.in-Took.is stepped) (omega arith) }

-- one token more
pub loop-i-preserved : goal.loop-i-preserved
loop-i-preserved c =
    let stepped = rw c.kind_at-kind.ensures at c.advance.ensures in
    let taken = as_took c.advance.result c.in-Took.is stepped in
    leaving_on c.loop-i.invariant (omega (arith, c.kind_at-kind.ensures)) taken c.advance.ensures.same_length (omega arith)

-- the place is reached
pub returns : goal.returns
unfolding ComesTo
returns c =
    let l = c.loop-i in
    let a = c.args in
    let e : l.i ≡ a.at = omega arith in
    let k = subst (Leaving (the-edition a.edition) a.tokens.now a.limit l.room l.top l.depth) e l.invariant in
    record { says = record { within = k.within; known = k.known; deep = k.deep; sounds = k.sounds; fits = k.fits; spare = spare k c.requires.asked.shallow; whole_room = k.whole_room } }
