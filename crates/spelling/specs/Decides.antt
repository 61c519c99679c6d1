-- An answer that decides a statement: true where it holds, false where it does not.
use Rattle.std.specs.Prelude.{Bool, true, false}

unfoldable pub Truth : Type 0 → Bool → Type 0
Truth P true = P
Truth P false = P → ⊥

pub record Decides (P : Type 0) (r : Bool) : Type 0 where
  pub says : Truth P r
