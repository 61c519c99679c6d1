-- What a call reads: a script or a guard. Document 02, L9: 'an entry that reads one expression and then Eof, with no `;`. No token may be `{`, `if`, `|` or `#`'.
use Rattle.std.specs.Prelude.{ℕ, ◌-◌, Bool, true, not, [], ◌∷◌}
use Rattle.grammar.specs.Edition.{Edition}
use Rattle.grammar.specs.Kaori.{Form, kaori, script as a-script, guard as a-guard}
use Rattle.grammar.specs.Kind.{Pipe, Hash, LeftBrace, If}
use Rattle.grammar.specs.Label.{Label}
use Rattle.grammar.specs.Pattern.{among}
use Rattle.grammar.specs.Phrase.{Tree, whole, Reads}

pub data Profile : Type 0 where
  script guard : Profile

-- whether a token of this kind may stand in the list
abbrev pub allowed : Profile → ℕ → Bool
allowed Profile.script x = true
allowed Profile.guard x = not (among (LeftBrace ∷ If ∷ Pipe ∷ Hash ∷ []) x)

-- the form that is read, and how many of n tokens it takes: a script ends before the Eof, and a guard with it
abbrev pub form : Profile → Form
form Profile.script = a-script
form Profile.guard = a-guard

abbrev pub taken : Profile → ℕ → ℕ
taken Profile.script n = n - 1
taken Profile.guard n = n

-- a list of n tokens of these kinds reads as t
abbrev pub ReadsAll : Profile → Edition → (ℕ → ℕ) → ℕ → Tree Label → Type 0
ReadsAll p e kind n t = Reads (kaori e) kind (whole (form p)) 0 (taken p n) t
