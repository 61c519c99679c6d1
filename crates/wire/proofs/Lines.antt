-- Lines: that of a row from its parts, one row more, and the message of a refusal in a part of a room.
use Prim.Native.Nat.{ℕ, ◌+◌, ◌-◌, ◌*◌, ◌≤◌, ◌<◌}
use native.Mathlib.Nat.{mul-suc, mul-le-mul_left, add-sub_cancel_left}
use native.Mathlib.Numerals.{add-one}
use native.Mathlib.Omega.{arith}
use mathlib.Core.List.{List, [], ◌++◌, append_assoc, append-nil}
use mathlib.Core.Path.{◌≡◌, refl, sym, ap, ◌∙◌}
use lib.ListN.{length, take, drop, length-take, length-drop, length-append, drop_of_length-le}
use lib.Seq.{take_all, take_at, drop_at, drop-drop, length-take-le}
use Rattle.diagnostics.specs.Message.{text_of, MessageGiven}
use Rattle.diagnostics.specs.declared.Message.{Message}
use Rattle.spelling.specs.Display.{Put}
use Rattle.spelling.proofs.display.Writing.{nothing, joined}
use Rattle.wire.specs.Lines.{PutWithin, Line, line_size}
use Rattle.wire.specs.Number.{decimal}
use Rattle.wire.specs.Printed.{newline, fields, line, row, rows}
use Rattle.wire.proofs.Decimals.{decimal_short}

-- the numbers of a row, as the code takes them
pub part_short : (from width : ℕ) (source : List ℕ) → length (take (from + width - from) (drop from source)) ≤ width
part_short from width source = rw (add-sub_cancel_left from width, length-take width (drop from source)) (omega arith)

-- row i is there where n are
pub row_there : (width : ℕ) {i n m : ℕ} → i < n → width * n ≤ m → width * i + width ≤ m
row_there width {i} {n} h k = omega (arith, k, mul-suc width i, mul-le-mul_left width h)

pub row_made : {lead source before one two three after : List ℕ} {width i at a b c end : ℕ} → Line lead width source i before at → Put lead at before one a → Put (decimal i) a one two b → PutWithin (11 * length (take (width * i + width - width * i) (drop (width * i) source))) (fields (take (width * i + width - width * i) (drop (width * i) source))) b two three c → Put newline c three after end → PutWithin line_size (row lead width source i) at before after end
unfolding row line
row_made {lead} {source} {width = width} {i = i} l p q f n =
    let e : width * i + width - width * i ≡ width = add-sub_cancel_left (width * i) width in
    record {
      put = joined p (joined q (joined (rw e at f.put) n));
      most = omega (arith, l.short, l.narrow, p.ends, q.ends, f.most, n.ends, decimal_short i (omega (arith, l.few)), part_short (width * i) width source);
    }

-- no row, and one more
pub no_row : (lead : List ℕ) (width : ℕ) (source : List ℕ) (at : ℕ) (room : List ℕ) → PutWithin (line_size * 0) (rows lead width source 0) at room room at
unfolding rows
no_row lead width source at room = record { put = nothing at room; most = omega arith }

pub another_row : (lead : List ℕ) (width : ℕ) (source : List ℕ) (i : ℕ) {before between after : List ℕ} {at k end : ℕ} → PutWithin (line_size * i) (rows lead width source i) at before between k → PutWithin line_size (row lead width source i) k between after end → PutWithin (line_size * (i + 1)) (rows lead width source (i + 1)) at before after end
unfolding rows
another_row lead width source i w v = record { put = rw (add-one i) (joined w.put v.put); most = omega (arith, w.most, v.most) }

-- a part that is written into a room, from the whole room
pub put_at : {part room after : List ℕ} {at : ℕ} → at ≤ length room → after ≡ take at room ++ (part ++ drop (at + length part) room) → Put part at room after (at + length part)
put_at {part} {room} {after} {at} h e =
    let s : length (take at room ++ part) ≡ at + length part = length-append (take at room) part ∙ ap (λ (n : ℕ). n + length part) (length-take-le at room h) in
    let f : after ≡ (take at room ++ part) ++ drop (at + length part) room = e ∙ sym (append_assoc (take at room) part _) in
    let d = drop (at + length part) room in
    record { ends = refl; written = rw f (take_at (take at room ++ part) d (at + length part) s); rest = rw f (drop_at (take at room ++ part) d (at + length part) s) }

-- a message in the part of a room that starts at a place
pub told_at : {code expected found at : ℕ} {room part : List ℕ} {m : Message} → at + 52 ≤ length room → MessageGiven code expected found (take (length room - at) (drop at room)) part m → Put (text_of code expected found) at room (take at room ++ (part ++ drop (length room - at) (drop at room))) (at + m.length)
told_at {code} {expected} {found} {at} {room} {part} {m} h w =
    let t = text_of code expected found in
    let l : length (drop at room) ≡ length room - at = length-drop at room in
    let a : take (length room - at) (drop at room) ≡ drop at room = take_all (length room - at) (drop at room) (omega arith) in
    let n : drop (length room - at) (drop at room) ≡ [] = drop_of_length-le (drop at room) {i = length room - at} (omega arith) in
    let v : MessageGiven code expected found (drop at room) part m = rw a at w in
    let k : m.length ≡ length t = ap (λ (x : Message). x.length) (v.answer (omega arith)) in
    let q : part ≡ t ++ drop (at + length t) room = v.room (omega arith) ∙ ap (λ (x : List ℕ). t ++ x) (drop-drop (length t) at room) in
    rw (k, n, append-nil part, q) (put_at (omega arith) refl)
