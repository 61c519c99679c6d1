-- The statements up to Eof: the loop keeps a listing, as that of any list, and the kind of the token after it; each turn holds one statement more.
use Prim.Native.Nat.{ℕ, ◌-◌}
use mathlib.Core.List.{List}
use mathlib.Core.Path.{◌≡◌}
use Rattle.grammar.specs.Kaori.{script_items}
use Rattle.grammar.specs.Token.{kind, count}
use Rattle.reading.specs.State.{State, state}
use Rattle.reading.specs.declared.Terms.{Terms}
use Rattle.reading.proofs.Listings.{Listing}
use Rattle.syntax.proofs.statements.Given as goal

-- what the loop keeps: what is read and held since s, and the kind of the token that comes next
pub record UpTo (ts : List ℕ) (terms : Terms) (s s₁ : State) (x : ℕ) : Type 0 where
  pub listing : Listing ts terms script_items 0 s s₁
  pub next_is : x ≡ kind ts s₁.cursor.at

abbrev pub invariant-list : goal.invariant-list
invariant-list l = UpTo l.tokens l.terms (state l.initial.nodes l.initial.links l.initial.scratch l.initial.now) (state l.nodes l.links l.scratch l.now) l.kind

abbrev pub decreases-list : goal.decreases-list
decreases-list l = count l.tokens - l.now.at
