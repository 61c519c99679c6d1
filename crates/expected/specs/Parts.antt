-- What the pass's own functions promise each other of a chain and of what is told.
use Rattle.std.specs.Prelude.{ℕ, zero, suc, ◌+◌, cond, [], ◌≡◌, eqb, set}
use Rattle.std.specs.Int.Count.{ones, count_trailing_zeros}
use Rattle.grammar.specs.Kaori.{an_expression, a_block}
use Rattle.expected.specs.Chains.{Chained}
use Rattle.expected.specs.declared.Chain.{Chain}
use Rattle.expected.specs.declared.Told.{Told}

-- a chain with one construct more
pub record Extends (c : Chain) (sort at : ℕ) (r : Chain) : Type 0 where
  pub entries_are : r.entries ≡ set c.entries c.count (record { sort = sort; at = at })
  pub count_is : r.count ≡ c.count + 1

-- and what a number of the table's says was opened: an expression, a block or nothing
unfoldable pub Inner : Chain → ℕ → ℕ → Chain → Type 0
Inner c zero at r = r ≡ c
Inner c (suc zero) at r = r ≡ c
Inner c (suc (suc zero)) at r = r ≡ c
Inner c (suc (suc (suc zero))) at r = Extends c an_expression at r
Inner c (suc (suc (suc (suc n)))) at r = Extends c a_block at r

pub record Inside (c : Chain) (number at : ℕ) (r : Chain) : Type 0 where
  pub says : Inner c number at r

-- of a number as a set: 'an empty set's lowest is 255'
unfoldable pub lowest_of : ℕ → ℕ
lowest_of n = cond (eqb n 0) 255 (count_trailing_zeros 64 n)

pub record Filled (kinds : ℕ) (c : Chain) (r : Told) : Type 0 where
  pub kinds_are : r.kinds ≡ kinds
  pub how_many_are : r.count ≡ ones kinds
  pub lowest_is : r.lowest ≡ lowest_of kinds
  pub chain_is : r.chain ≡ c

pub record Nothing (r : Told) : Type 0 where
  pub kinds_are : r.kinds ≡ 0
  pub how_many_are : r.count ≡ 0
  pub lowest_is : r.lowest ≡ 255
  pub chained : Chained [] r.chain

-- the code that a number of the table's stands for, and how many constructs it opens
unfoldable pub code_of : ℕ → ℕ
code_of zero = 8
code_of (suc zero) = 9
code_of (suc (suc zero)) = 10
code_of (suc (suc (suc zero))) = 9
code_of (suc (suc (suc (suc n)))) = 8

unfoldable pub opened_by : ℕ → ℕ
opened_by zero = 0
opened_by (suc zero) = 0
opened_by (suc (suc zero)) = 0
opened_by (suc (suc (suc n))) = 1
