-- The index of the rows. A word's bucket is a number that its bytes alone decide: words that are the same have one bucket, so a row of another bucket is not the
-- one. The room has `2 * size` numbers: first for each row the next older one of its bucket, and then for each bucket its newest row, at the number that the bucket
-- is. Each is a row's number and one, and 0 is none.
use Rattle.std.specs.Prelude.{ℕ, zero, suc, ◌+◌, ◌-◌, ◌*◌, ◌/◌, ◌%◌, ◌≤◌, ◌<◌, cond, List, ◌≡◌, eqb, length, get_or, set}
use Rattle.grammar.specs.Handle.{absent}
use Rattle.grammar.specs.Table.{word}

-- four bytes of a word and how long it is, as far as it fits, mixed to a number below 65536. Any function would do; the factors are odd and arbitrary
abbrev pub mix : (a b c d n : ℕ) → ℕ
mix a b c d n = (44623 * a + 15823 * b + 10417 * c + 48761 * d + 55381 * (n % 256)) % 65536

abbrev pub mixed : (bytes : List ℕ) → ℕ
mixed bytes =
    let n = length bytes in
    mix (get_or bytes (n / 4) 0) (get_or bytes (n / 2) 0) (get_or bytes (n - 1 - n / 4) 0) (get_or bytes (n - 1) 0) n

-- the bucket of a word, among the `size` numbers from `size` on
unfoldable pub bucket : (size : ℕ) (bytes : List ℕ) → ℕ
bucket size bytes = size + mixed bytes * size / 65536

-- the newest of the first n rows that is of bucket b, and one; 0 where there is none
unfoldable pub newest : (text : List ℕ) (size : ℕ) (table : List ℕ) (b n : ℕ) → ℕ
newest text size table b zero = 0
newest text size table b (suc n) = cond (eqb (bucket size (word text table n)) b) (suc n) (newest text size table b n)

-- the newest row of each bucket, and the next older one of each row, of `count` rows
pub record Index (text : List ℕ) (size count : ℕ) (table index : List ℕ) : Type 0 where
  pub heads : (b : ℕ) → size ≤ b → b < 2 * size → get_or index b 0 ≡ newest text size table b count
  pub next : (k : ℕ) → k < count → get_or index k 0 ≡ newest text size table (bucket size (word text table k)) k

-- the index has row `count` and bucket b, and a u32 the number of rows with that one
pub record Linkable (count b : ℕ) (index : List ℕ) : Type 0 where
  pub row : count < length index
  pub place : b < length index
  pub number : count < absent

-- row `count` is the newest of bucket b now, and the one that was is the next older
abbrev pub linked : (count b : ℕ) (index : List ℕ) → List ℕ
linked count b index = set (set index count (get_or index b 0)) b (count + 1)
