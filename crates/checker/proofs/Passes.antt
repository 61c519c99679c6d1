-- The first row that a pass stops at is the first that breaks its rule.
use Prim.Native.Nat.{ℕ, ◌<◌}
use native.Mathlib.Omega.{arith}
use mathlib.Core.Bool.{Bool, true}
use mathlib.Core.List.{List}
use mathlib.Core.Path.{◌≡◌, ap, sym, ◌∙◌}
use Rattle.grammar.specs.Door.{FirstWithout}
use Rattle.grammar.specs.Edition.{Edition}
use Rattle.foreign.specs.Check.{items_of, KnownKind, Ranged, Earlier, Present, Clean}
use Rattle.checker.specs.Slots.{table, rows}
use Rattle.checker.specs.Test.{keep_all, AllStanding, First, known_kind, row_keeps}
use Rattle.checker.proofs.Laws.{never}
use Rattle.checker.proofs.Items.{own_kind, cut_items, named_items}
use Rattle.checker.proofs.Keeping.{many}
use Rattle.checker.proofs.Roots.{kind_known, kind_means}
use Rattle.checker.proofs.Deciding.{ranged, is_ranged, earlier, is_earlier, allowed, is_allowed, zeroed, is_zeroed}

-- a test that decides P of each of n rows
pub record Tests (test : ℕ → Bool) (P : ℕ → Type 0) (n : ℕ) : Type 0 where
  pub means : (j : ℕ) → j < n → test j ≡ true → P j
  pub holds : (j : ℕ) → j < n → P j → test j ≡ true

pub breaks : {test : ℕ → Bool} {P : ℕ → Type 0} {n r : ℕ} → Tests test P n → First test n r → r < n → FirstWithout P n r
breaks {r = r} t f h = record { place = h; lacks = λ p. never (t.holds r h p) (f.fails h); before = λ j l. t.means j (omega arith) (f.before j l) }

-- kinds
pub rule_one : (ns ls : List ℕ) (n : ℕ) → Tests (known_kind ns) (KnownKind (rows ns ls)) n
rule_one ns ls n = record {
  means = λ j h e. let (a, b) = kind_means ns j e in record { least = rw (own_kind j ns ls) a; most = rw (own_kind j ns ls) b };
  holds = λ j h k. kind_known ns j (rw (own_kind j ns ls) at k.least) (rw (own_kind j ns ls) at k.most);
}

-- items
module _ (e : Edition) (s : ℕ) (ls : List ℕ) {t ns : List ℕ} {n : ℕ} (same : t ≡ table e) (stands : AllStanding t ns n) where
  row_is : (rule j : ℕ) → j < n → row_keeps rule s t ns ls j ≡ keep_all rule j s (many ls) (items_of e (rows ns ls) j)
  unfolding row_keeps
  row_is rule j h = ap (keep_all rule j s (many ls)) (sym (cut_items e ns ls j same (stands.each j h)))

  pub rule_two : Tests (row_keeps 2 s t ns ls) (Ranged e s (rows ns ls)) n
  rule_two = record { means = λ j h d. ranged j s (many ls) _ (sym (row_is 2 j h) ∙ d); holds = λ j h d. row_is 2 j h ∙ is_ranged j s (many ls) d }

  module _ (in-range : (j : ℕ) → j < n → Ranged e s (rows ns ls) j) where
    pub rule_three : Tests (row_keeps 3 s t ns ls) (Earlier (rows ns ls)) n
    rule_three = record {
      means = λ j h d. rw (named_items e (rows ns ls) j) (earlier j s (many ls) (items_of e (rows ns ls) j) (sym (row_is 3 j h) ∙ d));
      holds = λ j h d. row_is 3 j h ∙ is_earlier j s (many ls) (items_of e (rows ns ls) j) (rw (named_items e (rows ns ls) j) at d) (in-range j h);
    }

    pub rule_seven : Tests (row_keeps 7 s t ns ls) (Present e (rows ns ls)) n
    rule_seven = record { means = λ j h d. allowed j s (many ls) _ (sym (row_is 7 j h) ∙ d); holds = λ j h d. row_is 7 j h ∙ is_allowed j s (many ls) d (in-range j h) }

    pub rule_eight : Tests (row_keeps 8 s t ns ls) (Clean e (rows ns ls)) n
    rule_eight = record { means = λ j h d. zeroed j s (many ls) _ (sym (row_is 8 j h) ∙ d); holds = λ j h d. row_is 8 j h ∙ is_zeroed j s (many ls) d (in-range j h) }
