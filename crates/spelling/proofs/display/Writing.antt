-- Bytes that are written into a room one after the other: a part more, and what one writing from the start leaves.
use Prim.Native.Nat.{ℕ, ◌+◌}
use native.Mathlib.Nat.{add-zero}
use native.Mathlib.Omega.{arith}
use mathlib.Core.Path.{◌≡◌, refl, sym, ap, ◌∙◌}
use mathlib.Core.List.{List, [], ◌++◌, append_assoc, append-nil}
use lib.ListN.{length, take, drop, length-append, take-append-drop}
use lib.Seq.{drop-drop}
use Rattle.spelling.specs.Display.{Put}

-- no byte
pub nothing : (at : ℕ) (room : List ℕ) → Put [] at room room at
nothing at room = record { ends = rw add-zero; written = rw append-nil; rest = refl }

-- a part more
pub joined : {part more before between after : List ℕ} {at next end : ℕ} → Put part at before between next → Put more next between after end → Put (part ++ more) at before after end
joined {part} {more} {before} {between} {after} {at} {next} {end} p q =
    let e : end ≡ next + length more = q.ends in
    record {
      ends = simp length-append (omega (arith, p.ends, q.ends));
      written = q.written ∙ ap (λ (l : List ℕ). l ++ more) p.written ∙ append_assoc (take at before) part more;
      rest = q.rest ∙ rw e (sym (drop-drop (length more) next between) ∙ ap (drop (length more)) p.rest ∙ drop-drop (length more) next before);
    }

-- the whole room
pub room_after : {part before after : List ℕ} {at next : ℕ} → Put part at before after next → after ≡ take at before ++ (part ++ drop next before)
room_after {part} {before} {after} {at} {next} p = sym (take-append-drop next after) ∙ rw (p.written, p.rest, append_assoc)

-- what is written is settled, and so is every byte of the room
pub one_room : {part before after other : List ℕ} {at next end : ℕ} → Put part at before after next → Put part at before other end → after ≡ other
one_room {part} {before} {after} {other} {at} {next} {end} p q =
    let e : next ≡ end = p.ends ∙ sym q.ends in
    room_after p ∙ rw e (sym (room_after q))

-- two outcomes of a writing are equal: the room and the place after it
pub one_put : {part before after other : List ℕ} {at next end : ℕ} → Put part at before after next → Put part at before other end → (after ≡ other) × (next ≡ end)
one_put p q = (one_room p q, p.ends ∙ sym q.ends)
