-- A key, and its value if it has one, and the comma after them unless the map ends there.
use native.Mathlib.Omega.{arith}
use mathlib.Core.Path.{refl}
use Rattle.grammar.specs.Kaori.{value, rules as form_rules}
use Rattle.grammar.proofs.Tables.{keyed}
use Rattle.parser.proofs.Entries.{entry_alone, entry_pair}
use Rattle.reading.proofs.Laws.{ready_next, ready_on}
use Rattle.reading.proofs.Names.{separated}
use Rattle.reading.proofs.Refusals as Refuses
use Rattle.reading.proofs.Replies.{success, passed, after}
use Rattle.parser.proofs.readers.+readers.Goals as goal

pub pair-returns-in_default : goal.pair-returns-in_default
pair-returns-in_default t c =
    passed c.in_default.is c.expression-read.ensures
    (λ x h. Refuses.in_first (Refuses.in_node (Refuses.in_first h)))

pub pair-kind_at-requires : goal.pair-kind_at-requires
pair-kind_at-requires t c =
    let key = success c.in-Node.is c.expression-read.ensures in
    key.within.at

pub pair-comma-requires : goal.pair-comma-requires
pair-comma-requires t c =
    let key = success c.in-Node.is c.expression-read.ensures in
    key.within.at

pub pair-returns-then-kind_at-ne-COLON : goal.pair-returns-then-kind_at-ne-COLON
pair-returns-then-kind_at-ne-COLON t c =
    let key = success c.in-Node.is c.expression-read.ensures in
    separated _ c.requires (entry_alone key c.requires (rw c.kind_at.ensures at c.if-kind_at-ne-COLON.true)) c.comma.ensures

pub pair-overflow_add-next : goal.pair-overflow_add-next
pair-overflow_add-next t c =
    let key = success c.in-Node.is c.expression-read.ensures in
    omega (arith, key.within.at, c.requires.lent.whole.most)

pub pair-expression-turn-requires : goal.pair-expression-turn-requires
pair-expression-turn-requires t c =
    let key = success c.in-Node.is c.expression-read.ensures in (
      omega (arith, key.past, key.within.at),
      ready_next (ready_on c.requires key.within)
          (rw c.kind_at.ensures at c.if-kind_at-ne-COLON.false) (λ e. omega arith),
    )

pub pair-returns-in_default-turn : goal.pair-returns-in_default-turn
unfolding form_rules
pair-returns-in_default-turn t c =
    let key = success c.in-Node.is c.expression-read.ensures in
    let k = rw c.kind_at.ensures at
    c.if-kind_at-ne-COLON.false in
    passed c.in_default-turn.is c.expression-turn.ensures
    (λ x h. Refuses.in_first (Refuses.in_node (after key.reading (Refuses.in_choice (keyed _ value _ refl k) (Refuses.past_token k h)))))

pub pair-comma-requires-2 : goal.pair-comma-requires-2
pair-comma-requires-2 t c =
    let second = success c.in-Node-turn.is c.expression-turn.ensures in
    second.within.at

pub pair-returns : goal.pair-returns
pair-returns t c =
    let key = success c.in-Node.is c.expression-read.ensures in
    let second = success c.in-Node-turn.is c.expression-turn.ensures in
    separated _ c.requires
    (entry_pair key (rw c.kind_at.ensures at c.if-kind_at-ne-COLON.false) second) c.comma-2.ensures
