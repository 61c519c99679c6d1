-- Rows, and where they go, as the code lends them to the passes.
use Rattle.grammar.specs.Rows.{Rows}
use Rattle.parts.specs.Moved.{Move}
use Rattle.packing.specs.Rows.{Maps, moving}
use Rattle.packing.specs.declared.rows.Rows.{Rows as Lent-rows}
use Rattle.packing.specs.declared.maps.Maps.{Maps as Lent-maps}

abbrev pub seen : Lent-rows → Rows
seen r = record { nodes = r.nodes.now; links = r.links.now }

abbrev pub maps_of : Lent-maps → Maps
maps_of m = record { words = m.words.now; places = m.places.now; symbols = m.symbols; from = m.from; to = m.to }

abbrev pub moves_of : Lent-maps → Move
moves_of m = moving (maps_of m)
