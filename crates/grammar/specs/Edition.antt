-- The editions of Kaori. Document 02, L14: 'The caller names edition 1 or 2'. Where they differ stands in Kaori.antt (three forms), Rule.antt (one span) and
-- Layout.antt (one slot), each beside document 02's words.
use Rattle.std.specs.Prelude.{ℕ, cond, eqb}

pub data Edition : Type 0 where
  first second : Edition

-- the edition that a number names. The door lets 1 and 2 in (Door.antt)
unfoldable pub edition : ℕ → Edition
edition n = cond (eqb n 2) Edition.second Edition.first
