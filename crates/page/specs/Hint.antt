-- The style that a number means: 0 is lines and 2 is more strings; any other is a first string.
use Rattle.std.specs.Prelude.{ℕ, cond, eqb}
use Rattle.page.specs.declared.hint.Style.{Style}
use Rattle.page.specs.declared.hint.Style.TheVariants.{Lines, First, More}

abbrev pub style_of : ℕ → Style
style_of n = cond (eqb n 0) Lines (cond (eqb n 2) More First)
