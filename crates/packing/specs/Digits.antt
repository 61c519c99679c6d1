-- A role's number: the octal digit of Roles.antt that stands for it.
use Rattle.std.specs.Prelude.{ℕ}
use Rattle.packing.specs.declared.roles.Role.{Role}
use Rattle.packing.specs.declared.roles.Role.TheVariants.{Plain, Child, Letters, Name, Nodes, Names, Entries}

abbrev pub digit : Role → ℕ
digit Plain = 0
digit Child = 1
digit Letters = 2
digit Name = 3
digit Nodes = 4
digit Names = 5
digit Entries = 6
