-- The name of a symbol. Document 02, L10: 'One service shall hand back the name's bytes out of the built-in text or the script, as a part of whichever holds them .. 15
-- and an empty part for a symbol not below the count or a row that doesn't fit its text.'
use Rattle.std.specs.Prelude.{ℕ, ◌+◌, ◌<◌, cond, List, ◌≡◌, ltb}
use Rattle.std.specs.Borrow.{Bor}
use Rattle.grammar.specs.Table.{Part, Row, start_of, end_of}
use Rattle.grammar.specs.Token.{lexeme}
use Rattle.naming.specs.declared.PlaceAnswer.{PlaceAnswer}
use Rattle.naming.specs.declared.NameAnswer.{NameAnswer}

-- of what the built-in names have and what the script has, that which is a symbol's: the built-in names are the first
abbrev pub chosen : {A : Type 0} (built symbol : ℕ) (names text : A) → A
chosen built symbol names text = cond (ltb symbol built) names text

module _ (names text symbols : List ℕ) (count built symbol : ℕ) where
  -- the symbol is below the count, and its row stands among the lent ones and is a part of its text
  pub record Known : Type 0 where
    pub below : symbol < count
    pub row : Row symbols symbol
    pub part : Part (chosen built symbol names text) (start_of symbols symbol) (end_of symbols symbol)

  -- what is said of the answer: `given` of a symbol that is known, and `refused` of any other
  pub record Told (refused given : Type 0) : Type 0 where
    pub none : (Known → ⊥) → refused
    pub there : Known → given

  -- where the name starts and ends in its text
  abbrev pub PlaceTold : PlaceAnswer → Type 0
  PlaceTold r = Told (r ≡ record { code = 15; start = 0; end = 0 }) (r ≡ record { code = 0; start = start_of symbols symbol; end = end_of symbols symbol })

-- r is the part of a text from start up to end: it has these bytes, and points to where they stand in the text
pub record PartOf (text : Bor (List ℕ)) (start end : ℕ) (r : Bor (List ℕ)) : Type 0 where
  pub bytes : r.now ≡ lexeme text.now start end
  pub place : r.ref_ptr ≡ (text.ref_ptr.0, start + text.ref_ptr.1)

module _ (names text : Bor (List ℕ)) (symbols : List ℕ) (count built symbol : ℕ) where
  -- the empty part of the symbol's text, and the name's
  abbrev pub NoPart : Bor (List ℕ) → Type 0
  NoPart r = PartOf (chosen built symbol names text) 0 0 r

  abbrev pub NamePart : Bor (List ℕ) → Type 0
  NamePart r = PartOf (chosen built symbol names text) (start_of symbols symbol) (end_of symbols symbol) r

  -- the name, as a part of the text that holds it; and with its code
  pub record PartTold (r : Bor (List ℕ)) : Type 0 where
    pub says : Told names.now text.now symbols count built symbol (NoPart r) (NamePart r)

  pub record NameTold (r : NameAnswer) : Type 0 where
    pub says : Told names.now text.now symbols count built symbol ((r.code ≡ 15) × NoPart r.bytes) ((r.code ≡ 0) × NamePart r.bytes)
