-- The pieces of a row's slots, arranged as children.
use Prim.Native.Nat.{ℕ, suc}
use mathlib.Core.Bool.{Bool, true, false}
use mathlib.Core.List.{List, [], ◌∷◌}
use mathlib.Core.Path.{◌≡◌, refl, ap, ◌∙◌}
use lib.ListN.{get_or, drop}
use Rattle.grammar.specs.Layout.{Slot}
use Rattle.grammar.proofs.Pieces.{Piece, single, list, pieces, first_on, second_on, past_one, past_two, past_three}
use Rattle.children.specs.Below.{nothing, one_more, listing, placed}
use Rattle.children.specs.declared.Children.{Children}

abbrev pub each_of : Bool → ℕ
each_of false = 1
each_of true = 2

more_alike : {a b : ℕ} {r s : Children} → a ≡ b → r ≡ s → one_more a r ≡ one_more b s
more_alike e f = cc

listing_alike : (t : ℕ) {a b c d : ℕ} {r s : Children} → a ≡ b → c ≡ d → r ≡ s → listing t a c r ≡ listing t b d s
listing_alike t e f g = cc

module _ (xs : List ℕ) where
  unfoldable pub arranged : List Piece → Children
  arranged [] = nothing
  arranged (single i ∷ ps) = one_more (get_or xs i 0) (arranged ps)
  arranged (list t i ∷ ps) = listing (each_of t) (get_or xs i 0) (get_or xs (suc i) 0) (arranged ps)

  pub placed_pieces : (ss : List Slot) (i : ℕ) → placed ss (drop i xs) ≡ arranged (pieces ss i)
  unfolding placed pieces arranged
  placed_pieces [] i = refl
  placed_pieces (Slot.below n ∷ ss) i = ap (placed ss) (past_one xs i) ∙ placed_pieces ss (suc i)
  placed_pieces (Slot.child ∷ ss) i = more_alike (first_on xs i) (ap (placed ss) (past_one xs i) ∙ placed_pieces ss (suc i))
  placed_pieces (Slot.option ∷ ss) i = more_alike (first_on xs i) (ap (placed ss) (past_one xs i) ∙ placed_pieces ss (suc i))
  placed_pieces (Slot.symbol ∷ ss) i = ap (placed ss) (past_one xs i) ∙ placed_pieces ss (suc i)
  placed_pieces (Slot.name ∷ ss) i = ap (placed ss) (past_three xs i) ∙ placed_pieces ss (suc (suc (suc i)))
  placed_pieces (Slot.nodes ∷ ss) i = listing_alike 1 (first_on xs i) (second_on xs i) (ap (placed ss) (past_two xs i) ∙ placed_pieces ss (suc (suc i)))
  placed_pieces (Slot.names ∷ ss) i = ap (placed ss) (past_two xs i) ∙ placed_pieces ss (suc (suc i))
  placed_pieces (Slot.entries ∷ ss) i = listing_alike 2 (first_on xs i) (second_on xs i) (ap (placed ss) (past_two xs i) ∙ placed_pieces ss (suc (suc i)))
