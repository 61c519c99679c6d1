-- A word, and what is taken from the stack, as the code has them.
use Rattle.parts.specs.Spoken.{said, word, row, Word as Spoken-word, Part as Spoken-part}
use Rattle.packing.specs.declared.hear.Word.{Word}
use Rattle.packing.specs.declared.hear.Part.{Part}
use Rattle.packing.specs.declared.hear.Part.TheVariants.{Row, Said}

abbrev pub worded : Word → Spoken-word
worded w = said w.symbol w.from w.upto

abbrev pub parted : Part → Spoken-part
parted (Row i) = row i
parted (Said w) = word (worded w)
