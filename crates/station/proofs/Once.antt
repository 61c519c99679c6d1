-- Two outcomes that the contract of an exported function allows are equal: what it hands back, and every number of every lent room.
use Prim.Native.Nat.{ℕ, ◌≤◌, ◌<◌}
use native.Mathlib.Omega.{arith}
use mathlib.Core.List.{List}
use mathlib.Core.Path.{◌≡◌, refl, ap, subst, ◌∙◌}
use lib.ListN.{length, get_or-eq_default}
use Rattle.grammar.specs.Handle.{absent}
use Rattle.children.specs.Below.{Child, Places as Places-below, children}
use Rattle.children.proofs.Laws.{places_length}
use Rattle.children.proofs.Outcomes.{one_below, one_child as one_row, one_places as one-count}
use Rattle.diagnostics.specs.Message.{text_of}
use Rattle.diagnostics.specs.Reason.{reason_of}
use Rattle.diagnostics.proofs.Messages.{one_message as one_text}
use Rattle.diagnostics.proofs.Reasons.{one_reason as one-whole}
use Rattle.diagnostics.proofs.Places.{one_place as one_line}
use Rattle.expected.proofs.Once.{one_told}
use Rattle.foreign.specs.Check.{Given}
use Rattle.foreign.proofs.Checking.{one_check as one-verdict}
use Rattle.grammar.specs.Builtin.{Builtins}
use Rattle.grammar.specs.Profile.{Profile}
use Rattle.grammar.specs.Room.{Rooms}
use Rattle.naming.proofs.Telling.{one_place as one-name-place}
use Rattle.packing.specs.Answer.{Asked}
use Rattle.packing.proofs.Outcomes.{one_packing}
use Rattle.reader.proofs.Texts.{one_read as one_answer}
use Rattle.scripts.specs.Joined.{listed}
use Rattle.station.specs.Exports.{placed, name_placed, told, put, packed, Parses, ReadsText, Places, Writes, WritesReason, NamesPlace, TellsExpected, HasChild, HasPlaces, ChecksRows, Drops}
use Rattle.syntax.proofs.Promises.{one_parse as one_tree}

pub one_parse : {p : Profile} {names : Builtins} {text ts : List ℕ} {edition limit : ℕ} {before after after' : Rooms} {room out out' : List ℕ} {r r' : ℕ} → Parses p names text ts edition limit before room after out r → Parses p names text ts edition limit before room after' out' r' → (r ≡ r') × (out ≡ out') × (after ≡ after')
one_parse (Parses.short h) (Parses.short i) = (refl, refl, refl)
one_parse (Parses.short h) (Parses.parsed i q) = absurd (omega arith)
one_parse (Parses.parsed h p) (Parses.short i) = absurd (omega arith)
one_parse {room = room} (Parses.parsed h p) (Parses.parsed i q) = let (e, f) = one_tree p q in (ap (λ a. a.code) e, ap (λ a. put (listed a) room) e, f)

pub one_read : {p : Profile} {names : Builtins} {text : List ℕ} {edition limit : ℕ} {list tokens tokens' : List ℕ} {before after after' : Rooms} {room out out' : List ℕ} {r r' : ℕ} → ReadsText p names text edition limit list before room tokens after out r → ReadsText p names text edition limit list before room tokens' after' out' r' → (r ≡ r') × (out ≡ out') × (tokens ≡ tokens') × (after ≡ after')
one_read (ReadsText.short h) (ReadsText.short i) = (refl, refl, refl, refl)
one_read (ReadsText.short h) (ReadsText.read i q) = absurd (omega arith)
one_read (ReadsText.read h p) (ReadsText.short i) = absurd (omega arith)
one_read {room = room} (ReadsText.read h p) (ReadsText.read i q) = let (e, f, g) = one_answer p q in (ap (λ a. a.code) e, ap (λ a. put (listed a) room) e, f, g)

pub one_place : {text : List ℕ} {offset : ℕ} {room out out' : List ℕ} {r r' : ℕ} → Places text offset room out r → Places text offset room out' r' → (r ≡ r') × (out ≡ out')
one_place (Places.short h) (Places.short i) = (refl, refl)
one_place (Places.short h) (Places.place i q) = absurd (omega arith)
one_place (Places.place h p) (Places.short i) = absurd (omega arith)
one_place {room = room} (Places.place h p) (Places.place i q) = let e = one_line p q in (ap (λ a. a.code) e, ap (λ a. put (placed a) room) e)

pub one_name : {names text symbols : List ℕ} {count built symbol : ℕ} {room out out' : List ℕ} {r r' : ℕ} → NamesPlace names text symbols count built symbol room out r → NamesPlace names text symbols count built symbol room out' r' → (r ≡ r') × (out ≡ out')
one_name (NamesPlace.short h) (NamesPlace.short i) = (refl, refl)
one_name (NamesPlace.short h) (NamesPlace.place i q) = absurd (omega arith)
one_name (NamesPlace.place h p) (NamesPlace.short i) = absurd (omega arith)
one_name {room = room} (NamesPlace.place h p) (NamesPlace.place i q) = let e = one-name-place p q in (ap (λ a. a.code) e, ap (λ a. put (name_placed a) room) e)

pub one_message : {code expected found : ℕ} {before after after' : List ℕ} {r r' : ℕ} → Writes code expected found before after r → Writes code expected found before after' r' → (r ≡ r') × (after ≡ after')
one_message (Writes.written p) (Writes.written q) = let (e, f) = one_text p q in (ap (λ m. m.length) e, f)

-- the length alone says it all: 0 and nothing written under 52 bytes of room, else that of the text, which stands at the room's start
pub no_room : {code expected found : ℕ} {before after : List ℕ} {r : ℕ} → length before < 52 → Writes code expected found before after r → (r ≡ 0) × (after ≡ before)
no_room h (Writes.written p) = (ap (λ m. m.length) (p.refused h), p.untouched h)

pub with_room : {code expected found : ℕ} {before after : List ℕ} {r : ℕ} → 52 ≤ length before → Writes code expected found before after r → (r ≡ length (text_of code expected found)) × (after ≡ put (text_of code expected found) before)
with_room h (Writes.written p) = (ap (λ m. m.length) (p.answer h), p.room h)

-- and so does the length of any refusal's text
pub one_reason : {text : List ℕ} {code start expected found : ℕ} {before after after' : List ℕ} {r r' : ℕ} → WritesReason text code start expected found before after r → WritesReason text code start expected found before after' r' → (r ≡ r') × (after ≡ after')
one_reason (WritesReason.written p) (WritesReason.written q) = let (e, f) = one-whole p q in (ap (λ m. m.length) e, f)

pub no_reason : {text : List ℕ} {code start expected found : ℕ} {before after : List ℕ} {r : ℕ} → length before < 52 → WritesReason text code start expected found before after r → (r ≡ 0) × (after ≡ before)
no_reason h (WritesReason.written p) = (ap (λ m. m.length) (p.refused h), p.untouched h)

pub whole_reason : {text : List ℕ} {code start expected found : ℕ} {before after : List ℕ} {r : ℕ} → 52 ≤ length before → WritesReason text code start expected found before after r → (r ≡ length (reason_of text code start expected found)) × (after ≡ put (reason_of text code start expected found) before)
whole_reason h (WritesReason.written p) = (ap (λ m. m.length) (p.answer h), p.room h)

pub one_expected : {ts : List ℕ} {edition limit code at : ℕ} {room out out' : List ℕ} {r r' : ℕ} → TellsExpected ts edition limit code at room out r → TellsExpected ts edition limit code at room out' r' → (r ≡ r') × (out ≡ out')
one_expected (TellsExpected.short h p) (TellsExpected.short i q) = (ap (λ t. t.kinds) (one_told p q), refl)
one_expected (TellsExpected.short h p) (TellsExpected.whole i q) = absurd (omega arith)
one_expected (TellsExpected.whole h p) (TellsExpected.short i q) = absurd (omega arith)
one_expected {room = room} (TellsExpected.whole h p) (TellsExpected.whole i q) = let e = one_told p q in (ap (λ t. t.kinds) e, ap (λ t. put (told t) room) e)

-- the set does not depend on the room
pub same_set : {ts : List ℕ} {edition limit code at : ℕ} {room room' out out' : List ℕ} {r r' : ℕ} → TellsExpected ts edition limit code at room out r → TellsExpected ts edition limit code at room' out' r' → r ≡ r'
same_set (TellsExpected.short h p) (TellsExpected.short i q) = ap (λ t. t.kinds) (one_told p q)
same_set (TellsExpected.short h p) (TellsExpected.whole i q) = ap (λ t. t.kinds) (one_told p q)
same_set (TellsExpected.whole h p) (TellsExpected.short i q) = ap (λ t. t.kinds) (one_told p q)
same_set (TellsExpected.whole h p) (TellsExpected.whole i q) = ap (λ t. t.kinds) (one_told p q)

-- what stands below a row
pub one_child : {nodes links : List ℕ} {row place r r' : ℕ} → HasChild nodes links row place r → HasChild nodes links row place r' → r ≡ r'
one_child {links = links} {place = place} {r' = r'} (HasChild.child h p) (HasChild.child i q) = one_row p (subst (λ b. Child links b place r') (one_below i h) q)

pub one_places : {nodes : List ℕ} {row r r' : ℕ} → HasPlaces nodes row r → HasPlaces nodes row r' → r ≡ r'
one_places {r' = r'} (HasPlaces.places {b = b} h p) (HasPlaces.places i q) = one-count b p (subst (λ b. Places-below b r') (one_below i h) q)

-- past the last place nothing stands
pub past_places : {nodes links : List ℕ} {row place n r : ℕ} → HasPlaces nodes row n → n ≤ place → HasChild nodes links row place r → r ≡ absent
past_places {links = links} {place = place} {r = r} (HasPlaces.places {b = b} h p) l (HasChild.child i q) =
    (subst (λ b. Child links b place r) (one_below i h) q).one ∙ get_or-eq_default (children links b) absent {n = place} (omega (arith, places_length links b, p.0))

-- rows that another build wrote
pub one_check : {g : Given} {room out out' : List ℕ} {after after' : Rooms} {r r' : ℕ} → ChecksRows g room after out r → ChecksRows g room after' out' r' → (r ≡ r') × (out ≡ out') × (after ≡ after')
one_check (ChecksRows.short h) (ChecksRows.short i) = (refl, refl, refl)
one_check (ChecksRows.short h) (ChecksRows.checked i q) = absurd (omega arith)
one_check (ChecksRows.checked h p) (ChecksRows.short i) = absurd (omega arith)
one_check {room = room} (ChecksRows.checked h p) (ChecksRows.checked i q) = let (c, x, y, e) = one-verdict p q in (c, rw (c, x, y) refl, e)

-- and rows without some statements
pub one_drop : {a : Asked} {room out out' : List ℕ} {after after' : Rooms} {r r' : ℕ} → Drops a room after out r → Drops a room after' out' r' → (r ≡ r') × (out ≡ out') × (after ≡ after')
one_drop (Drops.short h) (Drops.short i) = (refl, refl, refl)
one_drop (Drops.short h) (Drops.dropped i q) = absurd (omega arith)
one_drop (Drops.dropped h p) (Drops.short i) = absurd (omega arith)
one_drop {room = room} (Drops.dropped h p) (Drops.dropped i q) = let (e, f) = one_packing p q in (ap (λ a. a.code) e, ap (λ a. put (packed a) room) e, f)
