-- The names after a colon; with no colon there are none.
use mathlib.Core.Logic.{inr}
use mathlib.Core.Path.{◌≡◌, refl}
use native.Mathlib.Omega.{arith}
use Rattle.grammar.proofs.Tables.{keyed, unkeyed}
use Rattle.grammar.specs.Kaori.{bindings, rules}
use Rattle.grammar.specs.Kind.{Colon}
use Rattle.grammar.specs.Token.{kind}
use Rattle.reading.proofs.Laws.{opened_next}
use Rattle.reading.proofs.Listings.{listed_chosen, listed_taken, lists_nothing, lists_mapped}
use Rattle.reading.proofs.Refusals as Refuses
use Rattle.reading.proofs.lists.bindings.Goals as goal

pub returns-then-kind_at-ne-COLON : goal.returns-then-kind_at-ne-COLON
unfolding rules
returns-then-kind_at-ne-COLON c = lists_nothing c.requires (unkeyed _ bindings _ refl (rw c.kind_at.ensures at c.if-kind_at-ne-COLON.true))

pub names-requires : goal.names-requires
names-requires c = record {
  closer = record { known = inr (inr refl) };
  opened = opened_next c.requires (rw c.kind_at.ensures at c.if-kind_at-ne-COLON.false) (λ e. omega arith);
}

pub returns : goal.returns
unfolding rules
returns c =
    let k : kind c.args.tokens.now c.args.cur.at ≡ Colon = rw c.kind_at.ensures at c.if-kind_at-ne-COLON.false in
    let t = keyed _ bindings _ refl k in
    lists_mapped _ c.names.ensures (λ s l. listed_chosen t (listed_taken k l)) (λ q h. Refuses.in_choice t (Refuses.past_token k h))
