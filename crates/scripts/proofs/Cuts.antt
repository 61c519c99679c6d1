-- Cuts and rows: what a pass over the cuts tells, where parts start, and that the parts of a script are there where cuts and rooms are right.
use Prim.Native.Nat.{ℕ, zero, suc, ◌+◌, ◌-◌, ◌*◌, ◌≤◌, ◌<◌}
use native.Mathlib.Decide.{ℕ_discrete}
use native.Mathlib.Nat.{mul-le-mul_left}
use native.Mathlib.Numerals.{add-one}
use native.Mathlib.Omega.{arith}
use mathlib.Core.List.{List}
use mathlib.Core.Path.{◌≡◌, refl, subst}
use lib.ListN.{length, get_or}
use Rattle.std.specs.Prelude.{Bool, true, false}
use Rattle.std.specs.Bool.{MatchBool}
use Rattle.std.specs.List.{range_with_len, AllWithin, HoldsAt}
use Rattle.std.proofs.lemmas.List.FromFn.{length-range_with_len, get_or-range_with_len}
use Rattle.spelling.specs.Decides.{Decides}
use Rattle.spelling.proofs.Deciding.{holds, fails}
use Rattle.grammar.specs.Room.{node_width, link_width, symbol_width, scratch_width}
use Rattle.scripts.specs.Joined.{Joined, cut_start, cut_end, of_text, of_list, scripts, answer_width, Forward, Fits}

-- of script i no cut goes back or past the end; and a look at every script tells that of all
abbrev pub Right : (cuts : List ℕ) (side long i : ℕ) → Type 0
Right cuts side long i = (cut_start cuts side i ≤ cut_end cuts side i) × (cut_end cuts side i ≤ long)

module _ (cuts : List ℕ) (side long : ℕ) where
  at : (n i : ℕ) → i < n → get_or (range_with_len 0 n) i 0 ≡ i
  at n i h = omega (arith, get_or-range_with_len 0 n i 0 h)

  pub all_right : (n : ℕ) (r : Bool) → n ≡ scripts cuts → MatchBool r (AllWithin (Right cuts side long) (range_with_len 0 n) 0 (length (range_with_len 0 n))) ((k : ℕ) × (k < length (range_with_len 0 n)) × HoldsAt (λ i. Right cuts side long i → ⊥) (range_with_len 0 n) k) → Decides (Forward cuts side long) r
  all_right n true e a =
      let right : (i : ℕ) → i < n → Right cuts side long i = λ i h. subst (Right cuts side long) (at n i h) (a i 0 (omega arith) (omega (arith, h, length-range_with_len 0 n))) in
      holds (record { forth = λ {i} h. (right i (omega (arith, e, h))).0; within = λ {i} h. (right i (omega (arith, e, h))).1 })
  all_right n false e (k, h, f) =
      let m : k < n = omega (arith, h, length-range_with_len 0 n) in
      let wrong : Right cuts side long k → ⊥ = subst (λ i. Right cuts side long i → ⊥) (at n k m) (f 0) in
      fails (λ g. wrong (g.forth (omega (arith, e, m)), g.within (omega (arith, e, m))))

-- 32 parts of any number of rows
pub rows_few : {rows n : ℕ} → rows < 4294967296 → n ≤ 32 → rows * n ≤ 137438953440
rows_few {rows} {n} h k = let m : rows * n ≤ rows * 32 = mul-le-mul_left rows k in omega (arith, m, h)

-- where parts start: the first at 0, every other one where the one before it ends; and nothing goes back
pub first_start : (cuts : List ℕ) (side : ℕ) {i : ℕ} → i ≡ 0 → cut_start cuts side i ≡ 0
unfolding cut_start
first_start cuts side e = rw e refl

pub later_start : (cuts : List ℕ) (side i : ℕ) → 1 ≤ i → cut_start cuts side i ≡ cut_end cuts side (i - 1)
unfolding cut_start
later_start cuts side zero h = absurd (omega (arith, h))
later_start cuts side (suc i) h = let e : suc i - 1 ≡ i = omega arith in rw e refl

pub next_start : (cuts : List ℕ) (side i : ℕ) → cut_start cuts side (i + 1) ≡ cut_end cuts side i
unfolding cut_start
next_start cuts side i = rw (add-one i) refl

pub starts_rise : {cuts : List ℕ} {side long : ℕ} → Forward cuts side long → (k i : ℕ) → k < i → i ≤ scripts cuts → cut_end cuts side k ≤ cut_start cuts side i
unfolding cut_start
starts_rise f k zero h l = absurd (omega (arith, h))
starts_rise {cuts} {side} f k (suc i) h l = elim (ℕ_discrete k i) [ yes e ↦ subst (λ n. cut_end cuts side k ≤ cut_end cuts side n) e (omega arith) | no e ↦ omega (arith, starts_rise f k i (omega (arith, h, e)) (omega (arith, l)), f.forth {i = i} (omega (arith, l))) ]

pub rows_rise : (width rows : ℕ) {k i : ℕ} → k ≤ i → width * (rows * k) ≤ width * (rows * i)
rows_rise width rows h = mul-le-mul_left width (mul-le-mul_left rows h)

-- the parts of script i are there, and their places are numbers that a machine has
pub record Places (j : Joined) (i : ℕ) : Type 0 where
  pub text_forth : cut_start j.cuts of_text i ≤ cut_end j.cuts of_text i
  pub text_within : cut_end j.cuts of_text i ≤ length j.text
  pub list_forth : cut_start j.cuts of_list i ≤ cut_end j.cuts of_list i
  pub list_within : cut_end j.cuts of_list i ≤ length j.lent.list
  pub two_cuts : 2 * i + 1 < length j.cuts
  pub most : i < 32
  pub rise : j.rows * i ≤ j.rows * (i + 1)
  pub small : j.rows * (i + 1) ≤ 137438953440
  pub nodes : node_width * (j.rows * (i + 1)) ≤ length j.lent.rooms.nodes
  pub links : link_width * (j.rows * (i + 1)) ≤ length j.lent.rooms.links
  pub symbols : symbol_width * (j.rows * (i + 1)) ≤ length j.lent.rooms.symbols
  pub scratch : scratch_width * (j.rows * (i + 1)) ≤ length j.lent.rooms.scratch
  pub answers : answer_width * (i + 1) ≤ length j.lent.answers

pub places : {j : Joined} {i : ℕ} → j.rows < 4294967296 → Fits j → i < scripts j.cuts → Places j i
places {j} {i} m f h =
    let right = f.cuts_right in
    let last : j.rows * (i + 1) ≤ j.rows * scripts j.cuts = mul-le-mul_left j.rows (omega (arith, h)) in
    record {
      text_forth = right.text_cuts.forth h;
      text_within = right.text_cuts.within h;
      list_forth = right.list_cuts.forth h;
      list_within = right.list_cuts.within h;
      two_cuts = omega (arith, h, right.even);
      most = omega (arith, h, right.few);
      rise = mul-le-mul_left j.rows (omega arith);
      small = rows_few m (omega (arith, h, right.few));
      nodes = omega (arith, last, f.room.nodes_fit);
      links = omega (arith, last, f.room.links_fit);
      symbols = omega (arith, last, f.room.symbols_fit);
      scratch = omega (arith, last, f.room.scratch_fit);
      answers = omega (arith, h, f.room.answers_fit);
    }
