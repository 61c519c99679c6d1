-- A byte that is put stands behind the others; where the room was full, alone.
use native.Mathlib.Omega.{arith}
use Prim.Native.Nat.{ℕ, ◌+◌, ◌≤◌, ◌<◌}
use mathlib.Core.Path.{◌≡◌, refl, sym, ◌∙◌, ap}
use mathlib.Core.List.{List, [], ◌∷◌, append_assoc}
use lib.ListN.{length, take, set, get_or, length-append}
use lib.Seq.{length-take-le}
use borrow.Author.Tests.{lt-ltb}
use Rattle.std.specs.Prelude.{◌++◌}
use Rattle.std.proofs.lemmas.List.{append-nil, take_more_set, take_more}
use Rattle.std.proofs.lemmas.Bool.{le-ltb}
use Rattle.page.specs.Line.{after, puts}

pub behind : (room : List ℕ) (at byte : ℕ) → length room ≡ 4096 → at < 4096 → take (at + 1) (set room at byte) ≡ after byte (take at room)
unfolding after
behind room at byte n h = rw (length-take-le at room (omega (arith, n, h)), lt-ltb at 4096 h) (take_more_set room at byte (omega (arith, n, h)))

pub alone : (room next : List ℕ) (at byte : ℕ) → length room ≡ 4096 → length next ≡ 4096 → 4096 ≤ at → at ≤ 4096 → take 1 (set next 0 byte) ≡ after byte (take at room)
unfolding after
alone room next at byte n m h k = rw (length-take-le at room (omega (arith, n, k)), le-ltb at 4096 (omega (arith, h))) (take_more_set next 0 byte (omega (arith, m)))

pub one_more : (byte : ℕ) (part bytes : List ℕ) → after byte (puts part bytes) ≡ puts (part ++ (byte ∷ [])) bytes
unfolding puts
one_more byte [] bytes = refl
one_more byte (x ∷ part) bytes = one_more byte part (after x bytes)

pub next : (part bytes : List ℕ) (i : ℕ) → i < length part → after (get_or part i 0) (puts (take i part) bytes) ≡ puts (take (i + 1) part) bytes
next part bytes i h = one_more (get_or part i 0) (take i part) bytes ∙ ap (λ p. puts p bytes) (sym (take_more part i 0 h))

behind_one : (x : ℕ) (xs : List ℕ) → length xs < 4096 → after x xs ≡ xs ++ (x ∷ [])
unfolding after
behind_one x xs l = rw (lt-ltb (length xs) 4096 l) refl

-- a part that fits stands behind as it is
pub fits : (part bytes : List ℕ) → length bytes + length part ≤ 4096 → puts part bytes ≡ bytes ++ part
unfolding puts
fits [] bytes h = sym (append-nil bytes)
fits (x ∷ part) bytes h =
    let l = length-append bytes (x ∷ []) in
    ap (puts part) (behind_one x bytes (omega (arith, h))) ∙ fits part (bytes ++ (x ∷ [])) (omega (arith, l, h)) ∙ append_assoc bytes (x ∷ []) part

pub copied : (room next part : List ℕ) (at : ℕ) → length room ≡ 4096 → at + length part ≤ 4096 → take (at + length part) next ≡ take at room ++ part → take (at + length part) next ≡ puts part (take at room)
copied room next part at n h e = let l = length-take-le at room (omega (arith, n, h)) in e ∙ sym (fits part (take at room) (omega (arith, l, h)))
