-- The numbers of a place are always a part of the symbol's text, and this part is the name; and no two answers are allowed.
use Prim.Native.Nat.{ℕ, ◌+◌, ◌*◌}
use native.Mathlib.Decide.{dec_le, dec_lt}
use native.Mathlib.Omega.{arith}
use mathlib.Core.List.{List}
use mathlib.Core.Path.{◌≡◌, sym, ◌∙◌}
use lib.ListN.{length}
use denote.Ref.{Bor}
use Rattle.grammar.specs.Room.{symbol_width}
use Rattle.grammar.specs.Table.{Part, start_of, end_of}
use Rattle.naming.specs.Name.{chosen, Known, Told, PlaceTold, PartOf, PartTold, NameTold}
use Rattle.naming.specs.declared.NameAnswer.{NameAnswer}
use Rattle.naming.specs.declared.PlaceAnswer.{PlaceAnswer}

-- each symbol is known or not
known_or : (names text symbols : List ℕ) (count built symbol : ℕ) → Dec (Known names text symbols count built symbol)
known_or names text symbols count built symbol =
    elim (dec_lt symbol count) [
      | no h ↦ no (λ k. h k.below)
      | yes h ↦
          elim (dec_le (symbol_width * (symbol + 1)) (length symbols)) [
            | no i ↦ no (λ k. i k.row)
            | yes i ↦
                elim (dec_le (start_of symbols symbol) (end_of symbols symbol)) [
                  | no j ↦ no (λ k. j k.part.ordered)
                  | yes j ↦
                      elim (dec_le (end_of symbols symbol) (length (chosen built symbol names text))) [
                        | no l ↦ no (λ k. l k.part.inside)
                        | yes l ↦ yes (record { below = h; row = i; part = record { ordered = j; inside = l } })
                      ]
                ]
          ]
    ]

module _ {names text symbols : List ℕ} {count built symbol : ℕ} where
  -- what follows in both cases is so
  settle : {refused given goal : Type 0} → Told names text symbols count built symbol refused given → (refused → goal) → (Known names text symbols count built symbol → given → goal) → goal
  settle p f g = elim (known_or names text symbols count built symbol) [ no h ↦ f (p.none h) | yes k ↦ g k (p.there k) ]

  -- and what follows in both from two answers
  once : {refused given refused' given' goal : Type 0} → Told names text symbols count built symbol refused given → Told names text symbols count built symbol refused' given' → (refused → refused' → goal) → (given → given' → goal) → goal
  once p q f g = elim (known_or names text symbols count built symbol) [ no h ↦ f (p.none h) (q.none h) | yes k ↦ g (p.there k) (q.there k) ]

  -- the numbers of a place are a part of the text, also in a refusal
  pub placed_part : {p : PlaceAnswer} → PlaceTold names text symbols count built symbol p → Part (chosen built symbol names text) p.start p.end
  placed_part x = settle x (λ e. rw e (record { ordered = omega arith; inside = omega arith })) (λ k e. rw e k.part)

  pub one_place : {p q : PlaceAnswer} → PlaceTold names text symbols count built symbol p → PlaceTold names text symbols count built symbol q → p ≡ q
  one_place x y = once x y (λ e f. e ∙ sym f) (λ e f. e ∙ sym f)

-- two references are to the same bytes at the same place. (The name under which the proofs know a reference is left open.)
pub record Same (r q : Bor (List ℕ)) : Type 0 where
  pub bytes : r.now ≡ q.now
  pub place : r.ref_ptr ≡ q.ref_ptr

part_once : {text r q : Bor (List ℕ)} {s e : ℕ} → PartOf text s e r → PartOf text s e q → Same r q
part_once x y = record { bytes = x.bytes ∙ sym y.bytes; place = x.place ∙ sym y.place }

module _ {names text : Bor (List ℕ)} {symbols : List ℕ} {count built symbol : ℕ} where
  -- the part that a place's numbers say is the name
  pub handed : {p : PlaceAnswer} {r : Bor (List ℕ)} → PlaceTold names.now text.now symbols count built symbol p → PartOf (chosen built symbol names text) p.start p.end r → PartTold names text symbols count built symbol r
  handed x y = record { says = record { none = λ h. rw (x.none h) at y; there = λ k. rw (x.there k) at y } }

  pub one_part : {r q : Bor (List ℕ)} → PartTold names text symbols count built symbol r → PartTold names text symbols count built symbol q → Same r q
  one_part x y = once x.says y.says part_once part_once

  pub one_name : {r q : NameAnswer} → NameTold names text symbols count built symbol r → NameTold names text symbols count built symbol q → (r.code ≡ q.code) × Same r.bytes q.bytes
  one_name x y = once x.says y.says (λ (c, e) (d, f). (c ∙ sym d, part_once e f)) (λ (c, e) (d, f). (c ∙ sym d, part_once e f))
