-- What holds of each of a list: it may be weakened, and joins where two lists do.
use mathlib.Core.List.{List, ◌++◌}
use Rattle.foreign.specs.Check.{Each, nil, cons}

pub each_map : {A : Type 0} {P Q : A → Type 0} {xs : List A} → ((x : A) → P x → Q x) → Each P xs → Each Q xs
each_map f nil = nil
each_map f (cons {x = x} p e) = cons (f x p) (each_map f e)

pub each_both : {A : Type 0} {P : A → Type 0} {xs ys : List A} → Each P xs → Each P ys → Each P (xs ++ ys)
each_both nil e = e
each_both (cons p d) e = cons p (each_both d e)
