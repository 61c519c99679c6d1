-- From the passes to the answer: the first pass that stops gives the first failed rule, and where none does all rules hold.
use Prim.Native.Nat.{ℕ, suc, ◌-◌, ◌/◌, ◌≤◌, ◌<◌}
use native.Mathlib.Decide.{ℕ_discrete}
use native.Mathlib.Nat.{mul-div_cancel_left}
use native.Mathlib.Omega.{arith}
use mathlib.Core.Bool.{Bool, true, false}
use mathlib.Core.List.{List}
use mathlib.Core.Path.{◌≡◌, refl, sym, ap, ◌∙◌}
use Rattle.std.specs.Prelude.{Result, Ok, Err}
use lib.ListN.{length}
use Rattle.grammar.specs.Door.{FirstWithout}
use Rattle.grammar.specs.Edition.{Edition}
use Rattle.grammar.specs.Naming.{height}
use Rattle.grammar.specs.Room.{node_width, link_width}
use Rattle.grammar.specs.Rows.{Rows}
use Rattle.foreign.specs.Check.{KnownKind, Ranged, Earlier, Once, Rooted, covered, Follows, Covering, Present, Clean, ParentRight, Breaks}
use Rattle.checker.specs.Follow.{covered_by, row_follows, AllFollow, OneStrays}
use Rattle.checker.specs.Named.{Nameable, AllNamed, is_once, is_parent}
use Rattle.checker.specs.Slots.{rows, table}
use Rattle.checker.specs.Test.{AllStanding, First, known_kind, is_rooted, row_keeps}
use Rattle.checker.specs.Pass.{number, Passes}
use Rattle.checker.specs.declared.rule.Broken.{Broken}
use Rattle.checker.specs.declared.rule.Rule.{Rule}
use Rattle.checker.specs.Verdict.{Judgeable, EarlierKept, TreeKept, Judges, Judged}
use Rattle.checker.proofs.Following.{covered_means, follows_means}
use Rattle.checker.proofs.Laws.{never}
use Rattle.checker.proofs.Naming.{once_means, parent_means}
use Rattle.checker.proofs.Passes.{Tests, breaks, rule_one, rule_two, rule_three, rule_seven, rule_eight}
use Rattle.checker.proofs.Roots.{kind_means, rooted_means, means_rooted}

module _ (e : Edition) (s : ℕ) (w : Rows) where
  -- no rule before k is broken
  pub record Least (k : ℕ) : Type 0 where
    pub least : {r i : ℕ} → Breaks e s w r i → k ≤ r

module _ {e : Edition} {s : ℕ} {w : Rows} where
  least_one : Least e s w 1
  least_one = record { least = one }
    where
      one : {r i : ℕ} → Breaks e s w r i → 1 ≤ r
      one (Breaks.kinds x) = omega arith
      one (Breaks.ranges x) = omega arith
      one (Breaks.earlier x) = omega arith
      one (Breaks.once x) = omega arith
      one (Breaks.rooted x) = omega arith
      one (Breaks.follows x) = omega arith
      one (Breaks.left_over f n) = omega arith
      one (Breaks.present x) = omega arith
      one (Breaks.clean x) = omega arith
      one (Breaks.parents x) = omega arith

  -- one rule more that is not broken
  past : {k : ℕ} → Least e s w k → ((i : ℕ) → Breaks e s w k i → ⊥) → Least e s w (suc k)
  past {k} l f = record { least = λ {r} {i} b. elim (ℕ_discrete r k) [ yes q ↦ absurd (f i (rw q at b)) | no q ↦ (let h = l.least b in omega arith) ] }

  past_kinds : ((i : ℕ) → i < height w → KnownKind w i) → (i : ℕ) → Breaks e s w 1 i → ⊥
  past_kinds f i (Breaks.kinds x) = x.lacks (f i x.place)

  past_ranges : ((i : ℕ) → i < height w → Ranged e s w i) → (i : ℕ) → Breaks e s w 2 i → ⊥
  past_ranges f i (Breaks.ranges x) = x.lacks (f i x.place)

  past_earlier : ((i : ℕ) → i < height w → Earlier w i) → (i : ℕ) → Breaks e s w 3 i → ⊥
  past_earlier f i (Breaks.earlier x) = x.lacks (f i x.place)

  past_once : ((i : ℕ) → i < height w - 1 → Once w i) → (i : ℕ) → Breaks e s w 4 i → ⊥
  past_once f i (Breaks.once x) = x.lacks (f i x.place)

  past_rooted : Rooted w → (i : ℕ) → Breaks e s w 5 i → ⊥
  past_rooted r i (Breaks.rooted x) = x r

  past_follows : ((i : ℕ) → i < height w → Follows e w i) → Covering e w → (i : ℕ) → Breaks e s w 6 i → ⊥
  past_follows f c i (Breaks.follows x) = x.lacks (f i x.place)
  past_follows f c i (Breaks.left_over g n) = n c

  past_present : ((i : ℕ) → i < height w → Present e w i) → (i : ℕ) → Breaks e s w 7 i → ⊥
  past_present f i (Breaks.present x) = x.lacks (f i x.place)

  past_clean : ((i : ℕ) → i < height w → Clean e w i) → (i : ℕ) → Breaks e s w 8 i → ⊥
  past_clean f i (Breaks.clean x) = x.lacks (f i x.place)

  failed_at : {b : Broken} (rule : Rule) → b.rule ≡ rule → Least e s w (number rule) → Breaks e s w (number rule) b.row → Judges e s w (Err b)
  failed_at rule q l x = Judges.failed (record { breaks = rw q x; first = rw q l.least })

-- a row that a pass tells of
abbrev pub Fault : Rule → (test : ℕ → Bool) (n : ℕ) → Broken → Type 0
Fault rule test n b = (b.rule ≡ rule) × (b.row < n) × First test n b.row

-- rows that are there, and room for marks elsewhere

module _ {t ns ls : List ℕ} {n marks : ℕ} (j : Judgeable t ns ls n marks) where
  abbrev w : Rows
  w = rows ns ls

  tall : height w ≡ n
  tall = ap (λ k. k / node_width) (sym j.node_rows) ∙ mul-div_cancel_left n (omega arith)

  -- what is said of n rows is said of all
  first_of_all : {P : ℕ → Type 0} {i : ℕ} → FirstWithout P n i → FirstWithout P (height w) i
  first_of_all f = rw tall f

  of_all : {P : ℕ → Type 0} → ((i : ℕ) → i < n → P i) → (i : ℕ) → i < height w → P i
  of_all f i h = f i (rw tall at h)

  -- rule 1
  kinds_mean : Tests (known_kind ns) (KnownKind w) n
  kinds_mean = rule_one ns ls n

  pub judged_kinds : {s : ℕ} {b : Broken} → Fault Rule.Kinds (known_kind ns) n b → Judged t s w (Err b)
  judged_kinds (r, h, f) = record { says = λ e q. failed_at Rule.Kinds r least_one (Breaks.kinds (first_of_all (breaks kinds_mean f h))) }

  pub all_standing : ((i : ℕ) → i < n → known_kind ns i ≡ true) → AllStanding t ns n
  all_standing k = record { each = λ i h. let (a, b) = kind_means ns i (k i h) in record { edition = j.edition; same = j.same; room = omega (arith, j.node_rows); least = a; most = b } }

  module _ (s : ℕ) (k : (i : ℕ) → i < n → known_kind ns i ≡ true) where
    past_one : (e : Edition) → Least e s w 2
    past_one e = past least_one (past_kinds (of_all (λ i h. kinds_mean.means i h (k i h))))

    ranges_mean : (e : Edition) → t ≡ table e → Tests (row_keeps 2 s t ns ls) (Ranged e s w) n
    ranges_mean e q = rule_two e s ls q (all_standing k)

    -- rule 2
    pub judged_ranges : {b : Broken} → Fault Rule.Ranges (row_keeps 2 s t ns ls) n b → Judged t s w (Err b)
    judged_ranges (r, h, f) = record { says = λ e q. failed_at Rule.Ranges r (past_one e) (Breaks.ranges (first_of_all (breaks (ranges_mean e q) f h))) }

    module _ (m : (i : ℕ) → i < n → row_keeps 2 s t ns ls i ≡ true) where
      in_range : (e : Edition) → t ≡ table e → (i : ℕ) → i < n → Ranged e s w i
      in_range e q i h = (ranges_mean e q).means i h (m i h)

      past_two : (e : Edition) → t ≡ table e → Least e s w 3
      past_two e q = past (past_one e) (past_ranges (of_all (in_range e q)))

      earlier_mean : (e : Edition) → t ≡ table e → Tests (row_keeps 3 s t ns ls) (Earlier w) n
      earlier_mean e q = rule_three e s ls q (all_standing k) (in_range e q)

      -- rule 3
      pub judged_earlier : {b : Broken} → Fault Rule.Earlier (row_keeps 3 s t ns ls) n b → Judged t s w (Err b)
      judged_earlier (r, h, f) = record { says = λ e q. failed_at Rule.Earlier r (past_two e q) (Breaks.earlier (first_of_all (breaks (earlier_mean e q) f h))) }

  -- where these hold
  module _ {s : ℕ} (k : EarlierKept t ns ls n s) where
    standing : AllStanding t ns n
    standing = all_standing k.kinds

    earlier : (i : ℕ) → i < n → Earlier w i
    earlier i h = (earlier_mean s k.kinds k.ranges j.edition j.same).means i h (k.earlier i h)

    past_three : (e : Edition) → t ≡ table e → Least e s w 4
    past_three e q = past (past_two s k.kinds k.ranges e q) (past_earlier (of_all earlier))

    pub nameable : {ms : List ℕ} → length ms ≡ marks → Nameable t ns ls n ms
    nameable e = record { few = j.few; rows = j.short; room = omega (arith, j.room); standing = standing; symbols = s; earlier = k.earlier }

    module _ {ms : List ℕ} (a : AllNamed w n ms) where
      once_mean : Tests (is_once ms) (Once w) (n - 1)
      once_mean = once_means j.short tall earlier a

      last_row : {P : ℕ → Type 0} {i : ℕ} → FirstWithout P (n - 1) i → FirstWithout P (height w - 1) i
      last_row f = rw tall f

      but_last : {P : ℕ → Type 0} → ((i : ℕ) → i < n - 1 → P i) → (i : ℕ) → i < height w - 1 → P i
      but_last f i h = f i (rw tall at h)

      -- rule 4
      pub judged_once : {b : Broken} → Fault Rule.Once (is_once ms) (n - 1) b → Judged t s w (Err b)
      judged_once (r, h, f) = record { says = λ e q. failed_at Rule.Once r (past_three e q) (Breaks.once (last_row (breaks once_mean f h))) }

      module _ (o : (i : ℕ) → i < n - 1 → is_once ms i ≡ true) where
        once : (i : ℕ) → i < n - 1 → Once w i
        once i h = once_mean.means i h (o i h)

        past_four : (e : Edition) → t ≡ table e → Least e s w 5
        past_four e q = past (past_three e q) (past_once (but_last once))

        -- rule 5
        rooted_at : is_rooted ns n ≡ is_rooted ns (height w)
        rooted_at = ap (is_rooted ns) (sym tall)

        pub judged_rooted : is_rooted ns n ≡ false → Judged t s w (Err (record { rule = Rule.Rooted; row = n - 1 }))
        judged_rooted f = record { says = λ e q. failed_at Rule.Rooted refl (past_four e q) (at e (Breaks.rooted (λ r. never (means_rooted ns ls r) (sym rooted_at ∙ f)))) }
          where
            at : (e : Edition) → Breaks e s w 5 (height w - 1) → Breaks e s w 5 (n - 1)
            at e b = rw tall at b

        module _ (g : is_rooted ns n ≡ true) where
          past_five : (e : Edition) → t ≡ table e → Least e s w 6
          past_five e q = past (past_four e q) (past_rooted (rooted_means ns ls (sym rooted_at ∙ g)))

          follows_mean : (e : Edition) → t ≡ table e → Tests (row_follows t ns ls) (Follows e w) n
          follows_mean e q = follows_means e ls q standing

          covered_mean : (e : Edition) → t ≡ table e → covered_by t ns ls n ≡ covered e w (height w)
          covered_mean e q = covered_means e ls q standing n (omega arith) ∙ ap (covered e w) (sym tall)

          -- rule 6
          pub judged_follows : {b : Broken} → OneStrays t ns n b → Judged t s w (Err b)
          judged_follows f = record { says = λ e q. failed_at Rule.Follows f.rule (past_five e q) (Breaks.follows (first_of_all (breaks (follows_mean e q) (f.first ls) f.place))) }

          pub judged_left_over : {links : ℕ} → AllFollow t ns n links → (links ≡ length ls / link_width → ⊥) → Judged t s w (Err (record { rule = Rule.Follows; row = n - 1 }))
          judged_left_over f m = record { says = λ e q. failed_at Rule.Follows refl (past_five e q) (at e (Breaks.left_over (of_all (λ i l. (follows_mean e q).means i l ((f.first ls).before i l))) (λ c. m (f.covered ls ∙ covered_mean e q ∙ c)))) }
            where
              at : (e : Edition) → Breaks e s w 6 (height w - 1) → Breaks e s w 6 (n - 1)
              at e b = rw tall at b

          pub tree_kept : {links : ℕ} {orphans : Result (Unit {0}) Broken} → AllFollow t ns n links → links ≡ length ls / link_width → Passes Rule.Parents (is_parent ns ms) n orphans → TreeKept t ns ls n s orphans
          tree_kept f m p = record { kept = k; marks = ms; named = a; once = o; rooted = g; follows = (f.first ls).before; covered = sym (f.covered ls) ∙ m; told = p }

  -- where rules 1 to 6 hold
  module _ {s : ℕ} {orphans : Result (Unit {0}) Broken} (k : TreeKept t ns ls n s orphans) where
    abbrev before : EarlierKept t ns ls n s
    before = k.kept

    only_once : (i : ℕ) → i < n - 1 → Once w i
    only_once = once before k.named k.once

    follow : (e : Edition) → t ≡ table e → (i : ℕ) → i < height w → Follows e w i
    follow e q = of_all (λ i h. (follows_mean before k.named k.once k.rooted e q).means i h (k.follows i h))

    cover : (e : Edition) → t ≡ table e → Covering e w
    cover e q = sym (covered_mean before k.named k.once k.rooted e q) ∙ k.covered

    past_six : (e : Edition) → t ≡ table e → Least e s w 7
    past_six e q = past (past_five before k.named k.once k.rooted e q) (past_follows (follow e q) (cover e q))

    ranged : (e : Edition) → t ≡ table e → (i : ℕ) → i < n → Ranged e s w i
    ranged = in_range s before.kinds before.ranges

    present_mean : (e : Edition) → t ≡ table e → Tests (row_keeps 7 s t ns ls) (Present e w) n
    present_mean e q = rule_seven e s ls q (standing before) (ranged e q)

    -- rule 7
    pub judged_present : {b : Broken} → Fault Rule.Present (row_keeps 7 s t ns ls) n b → Judged t s w (Err b)
    judged_present (r, h, f) = record { says = λ e q. failed_at Rule.Present r (past_six e q) (Breaks.present (first_of_all (breaks (present_mean e q) f h))) }

    module _ (x : (i : ℕ) → i < n → row_keeps 7 s t ns ls i ≡ true) where
      present : (e : Edition) → t ≡ table e → (i : ℕ) → i < height w → Present e w i
      present e q = of_all (λ i h. (present_mean e q).means i h (x i h))

      clean_mean : (e : Edition) → t ≡ table e → Tests (row_keeps 8 s t ns ls) (Clean e w) n
      clean_mean e q = rule_eight e s ls q (standing before) (ranged e q)

      -- rule 8
      pub judged_clean : {b : Broken} → Fault Rule.Clean (row_keeps 8 s t ns ls) n b → Judged t s w (Err b)
      judged_clean (r, h, f) = record { says = λ e q. failed_at Rule.Clean r (past (past_six e q) (past_present (present e q))) (Breaks.clean (first_of_all (breaks (clean_mean e q) f h))) }

      module _ (y : (i : ℕ) → i < n → row_keeps 8 s t ns ls i ≡ true) where
        clean : (e : Edition) → t ≡ table e → (i : ℕ) → i < height w → Clean e w i
        clean e q = of_all (λ i h. (clean_mean e q).means i h (y i h))

        parents_mean : Tests (is_parent ns k.marks) (ParentRight w) n
        parents_mean = parent_means j.short tall (earlier before) k.named only_once

        -- rule 9, and all rules
        pub judged_told : Judged t s w orphans
        judged_told = pick orphans k.told
          where
            pick : (r : Result (Unit {0}) Broken) → Passes Rule.Parents (is_parent ns k.marks) n r → Judged t s w r
            pick (Err b) (r, h, f) = record { says = λ e q. failed_at Rule.Parents r (past (past (past_six e q) (past_present (present e q))) (past_clean (clean e q))) (Breaks.parents (first_of_all (breaks parents_mean f h))) }
            pick (Ok u) f = record {
              says = λ e q. Judges.passed (record {
                kinds = of_all (λ i l. kinds_mean.means i l (before.kinds i l));
                ranges = of_all (ranged e q);
                earlier = of_all (earlier before);
                once = but_last before k.named only_once;
                rooted = rooted_means ns ls (ap (is_rooted ns) tall ∙ k.rooted);
                follows = follow e q;
                covering = cover e q;
                present = present e q;
                clean = clean e q;
                parents = of_all (λ i l. parents_mean.means i l (f.before i l));
              });
            }
