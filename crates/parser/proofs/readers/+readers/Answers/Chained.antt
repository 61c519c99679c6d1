-- An identifier or parentheses, with the calls and dots after them, where these may follow.
use Prim.Native.Nat.{ℕ}
use native.Mathlib.Omega.{arith}
use mathlib.Core.Bool.{Bool, true, false}
use mathlib.Core.Logic.{inl, inr}
use mathlib.Core.Path.{◌≡◌, refl, ◌∙◌}
use Rattle.grammar.specs.Edition.{edition}
use Rattle.grammar.specs.Kaori.{calls}
use Rattle.grammar.specs.Phrase.{chain}
use Rattle.reading.specs.Parts.{head_form, chained_form, Lone}
use Rattle.reading.proofs.Bound.{strictly}
use Rattle.reading.proofs.Chains.{onward}
use Rattle.reading.proofs.Laws.{first, ended, ready_on}
use Rattle.reading.proofs.Picks.{no_call, head_paid, head_refused}
use Rattle.reading.proofs.Replies.{success, passed, answered}
use Rattle.parser.proofs.Forms.{as_form}
use Rattle.parser.proofs.readers.+readers.Goals as goal

-- it stands alone, or calls and dots may follow
alone : {n x : ℕ} {r : Bool} → Lone n x r → r ≡ true → chained_form (edition n) x ≡ head_form x
alone l e = rw e at l.form

goes_on : {n x : ℕ} {r : Bool} → Lone n x r → r ≡ false → chained_form (edition n) x ≡ chain (head_form x) calls
goes_on l e = rw e at l.form

pub chained-returns-in_default : goal.chained-returns-in_default
chained-returns-in_default t c = passed c.in_default.is c.head-read.ensures (λ x h. head_refused (edition c.args.terms.edition) c.args.kind h)

pub chained-returns-then-lone : goal.chained-returns-then-lone
chained-returns-then-lone t c =
    let part = success c.in-Node.is c.head-read.ensures in
    as_form (alone c.lone.ensures c.if-lone.true) (answered part)

pub chained-kind_at-next-requires : goal.chained-kind_at-next-requires
chained-kind_at-next-requires t c =
    let part = success c.in-Node.is c.head-read.ensures in
    part.within.at

-- nothing follows that goes on with the chain
pub chained-returns-in_default-next : goal.chained-returns-in_default-next
chained-returns-in_default-next t c =
    let part = success c.in-Node.is c.head-read.ensures in
    let k = c.kind_at-next.ensures in
    as_form (goes_on c.lone.ensures c.if-lone.false)
    (answered (record { reading = ended (no_call _ (λ e. c.in_default-next.in_default-next-own.rest.1 (inl (k ∙ e))) (λ e. c.in_default-next.in_default-next-own.rest.1 (inr (k ∙ e)))) (first part.reading); within = part.within; past = part.past }))

pub chained-postfix-requires : goal.chained-postfix-requires
chained-postfix-requires t c =
    let part = success c.in-Node.is c.head-read.ensures in
    let m = strictly c.requires.within (head_paid _) part.within.at part.reading in
    (omega (arith, m, part.within.at), ready_on c.requires part.within)

pub chained-returns : goal.chained-returns
chained-returns t c =
    let part = success c.in-Node.is c.head-read.ensures in
    as_form (goes_on c.lone.ensures c.if-lone.false)
    (onward _ part.past (first part.reading) (c.postfix.ensures (head_form c.args.kind)) refl)
