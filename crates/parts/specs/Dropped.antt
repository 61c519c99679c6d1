-- The token list without some of a script's statements, which a tree of it tells. Document 02, L12: 'the token list with the dropped statements and their `;` removed'.
use Rattle.std.specs.Prelude.{ℕ, suc, ◌+◌, ◌-◌, ◌*◌, Bool, cond, List, [], ◌++◌, take, drop}
use Rattle.grammar.specs.Call.{Call}
use Rattle.grammar.specs.Label.{Label}
use Rattle.grammar.specs.Phrase.{Tree, none, more, deeper, made}

-- how many statements a tree of items has: each is an item of those before it and itself
unfoldable pub items : Tree Label → ℕ
items none = 0
items (more t u) = 0
items (deeper t) = 0
items (made l a b none) = 0
items (made l a b (more t u)) = suc (items t)
items (made l a b (deeper t)) = 0
items (made l a b (made k x y t)) = 0

-- and a script
unfoldable pub statement_count : (script : Tree Label) → ℕ
statement_count none = 0
statement_count (more t u) = 0
statement_count (deeper t) = 0
statement_count (made l a b t) = items t

-- the tokens from a up to b, and those of the statements that are kept: an item's tokens hold the `;` that it took
abbrev pub tokens_between : List ℕ → ℕ → ℕ → List ℕ
tokens_between ts a b = take (3 * (b - a)) (drop (3 * a) ts)

unfoldable pub kept_tokens : (ℕ → Bool) → List ℕ → (items : Tree Label) → List ℕ
kept_tokens c ts none = []
kept_tokens c ts (more t u) = []
kept_tokens c ts (deeper t) = []
kept_tokens c ts (made l a b none) = []
kept_tokens c ts (made l a b (more t u)) = kept_tokens c ts t ++ cond (c (items t)) (tokens_between ts a b) []
kept_tokens c ts (made l a b (deeper t)) = []
kept_tokens c ts (made l a b (made k x y t)) = []

-- a script's token list without the others: the kept ones, and the Eof
unfoldable pub without : (ℕ → Bool) → List ℕ → (script : Tree Label) → List ℕ
without c ts none = []
without c ts (more t u) = []
without c ts (deeper t) = []
without c ts (made l a b t) = kept_tokens c ts t ++ tokens_between ts b (b + 1)

-- the call without the dropped statements: the text stays, and so do the spans of the other tokens
abbrev pub leaving : Call → (ℕ → Bool) → (script : Tree Label) → Call
leaving k c t = record { profile = k.profile; names = k.names; text = k.text; tokens = without c k.tokens t; edition = k.edition; limit = k.limit; rooms = k.rooms }
