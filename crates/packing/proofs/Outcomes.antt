-- Two answers of `drop` are equal, rooms included.
use mathlib.Core.Path.{◌≡◌, refl}
use Rattle.grammar.specs.Room.{Rooms}
use Rattle.foreign.proofs.Checking.{one_failure, checked_unbroken}
use Rattle.packing.specs.Answer.{Asked, Packs}
use Rattle.packing.specs.declared.Packed.{Packed}

pub one_packing : {a : Asked} {r s : Packed} {x y : Rooms} → Packs a r x → Packs a s y → (r ≡ s) × (x ≡ y)
one_packing (Packs.past n) (Packs.past n') = (refl, refl)
one_packing (Packs.past n) (Packs.no_edition l' n') = absurd (n l')
one_packing (Packs.past n) (Packs.failed l' e' f') = absurd (n l')
one_packing (Packs.past n) (Packs.miscounted l' e' c' n') = absurd (n l')
one_packing (Packs.past n) (Packs.passed l' e' c' h') = absurd (n l')
one_packing (Packs.no_edition l n) (Packs.past n') = absurd (n' l)
one_packing (Packs.no_edition l n) (Packs.no_edition l' n') = (refl, refl)
one_packing (Packs.no_edition l n) (Packs.failed l' e' f') = absurd (n e')
one_packing (Packs.no_edition l n) (Packs.miscounted l' e' c' n') = absurd (n e')
one_packing (Packs.no_edition l n) (Packs.passed l' e' c' h') = absurd (n e')
one_packing (Packs.failed l e f) (Packs.past n') = absurd (n' l)
one_packing (Packs.failed l e f) (Packs.no_edition l' n') = absurd (n' e)
one_packing (Packs.failed l e f) (Packs.failed l' e' f') = let (r, i) = one_failure f f' in (rw (r, i) refl, refl)
one_packing (Packs.failed l e f) (Packs.miscounted l' e' c' n') = absurd (checked_unbroken c' f.breaks)
one_packing (Packs.failed l e f) (Packs.passed l' e' c' h') = absurd (checked_unbroken c' f.breaks)
one_packing (Packs.miscounted l e c n) (Packs.past n') = absurd (n' l)
one_packing (Packs.miscounted l e c n) (Packs.no_edition l' n') = absurd (n' e)
one_packing (Packs.miscounted l e c n) (Packs.failed l' e' f') = absurd (checked_unbroken c f'.breaks)
one_packing (Packs.miscounted l e c n) (Packs.miscounted l' e' c' n') = (refl, refl)
one_packing (Packs.miscounted l e c n) (Packs.passed l' e' c' h') = absurd (n h')
one_packing (Packs.passed l e c h) (Packs.past n') = absurd (n' l)
one_packing (Packs.passed l e c h) (Packs.no_edition l' n') = absurd (n' e)
one_packing (Packs.passed l e c h) (Packs.failed l' e' f') = absurd (checked_unbroken c f'.breaks)
one_packing (Packs.passed l e c h) (Packs.miscounted l' e' c' n') = absurd (n' h)
one_packing (Packs.passed l e c h) (Packs.passed l' e' c' h') = (refl, refl)
