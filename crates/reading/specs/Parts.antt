-- What the functions answer that read no phrase by themselves: after a list's item, after a statement, and for a kind.
use Rattle.std.specs.Prelude.{ℕ, ◌+◌, ◌*◌, ◌-◌, ◌≤◌, ◌<◌, Bool, cond, List, [], ◌∷◌, ◌⊎◌, ◌≡◌, eqb, length, take, drop}
use Rattle.ast.specs.Written.{Written}
use Rattle.ast.specs.declared.Node.{Node}
use Rattle.grammar.specs.Edition.{Edition, edition}
use Rattle.grammar.specs.Handle.{absent}
use Rattle.grammar.specs.Kaori.{Form, Table, look, kaori, expression, group, grouping, reference, calls, returned, import, block, conditional, function, while_loop, leaf, return, binding, assignment, may_end, must_end}
use Rattle.grammar.specs.Kind.{Plus, Minus, Caret, Comma, Pipe, LeftParen, RightParen, Not, LeftBrace, RightBrace, And, Or, Let, Const, Ref, Function, For}
use Rattle.grammar.specs.Kind.{While, Break, Continue, If, Return, Import, True, False, Nil, NumberLiteral, Semicolon, StringLiteral, Identifier}
use Rattle.grammar.specs.Label.{Node as Form-of}
use Rattle.grammar.specs.Operator.{place, binary_operators}
use Rattle.grammar.specs.Phrase.{empty, chain, refusal}
use Rattle.grammar.specs.Room.{link_width}
use Rattle.grammar.specs.Token.{kind}
use Rattle.reading.specs.Answers.{next}
use Rattle.reading.specs.declared.Cursor.{Cursor}
use Rattle.reading.specs.declared.Read.{Read}
use Rattle.reading.specs.declared.Refusal.{Refusal}

-- after an item: the closer, which stays, or a comma, which is taken
unfoldable pub Separates : List ℕ → Node → Cursor → ℕ → Read → Type 0
Separates ts n c z (Read.Node m d) = (m ≡ n) × (((kind ts c.at ≡ z) × (d ≡ c)) ⊎ ((kind ts c.at ≡ z → ⊥) × (kind ts c.at ≡ Comma) × (d ≡ next c)))
Separates ts n c z (Read.Refused q) = (kind ts c.at ≡ z → ⊥) × (kind ts c.at ≡ Comma → ⊥) × (q ≡ record { code = 8; at = c.at; expected = Comma })

pub record Separated (ts : List ℕ) (n : Node) (c : Cursor) (z : ℕ) (r : Read) : Type 0 where
  pub says : Separates ts n c z r

-- one node row more
abbrev pub grown : Cursor → Cursor
grown c = record { at = c.at; nodes = c.nodes + 1; links = c.links; held = c.held }

-- no room, met at a token
abbrev pub no_room : ℕ → Refusal
no_room at = record { code = 4; expected = 255; at = at }

-- the answer of a reader that made a row: its node, or none where the row had no room
pub data Makes (n : Node) (c : Cursor) : Read → Type 0 where
  made : (n.id ≡ absent → ⊥) → Makes n c (Read.Node n (grown c))
  full : n.id ≡ absent → Makes n c (Read.Refused (no_room c.at))

-- and of one whose row has links, so many as the cursor counts in a room of so many numbers
pub data MakesList (numbers : ℕ) (n : Node) (c : Cursor) : Read → Type 0 where
  listed : {r : Read} → link_width * c.links ≤ numbers → Makes n c r → MakesList numbers n c r
  full : numbers < link_width * c.links → MakesList numbers n c (Read.Refused (no_room c.at))

-- the rows held since `base` are held no more, and counted as links. They are links if there is room for them
pub record Gathered (base : ℕ) (c : Cursor) (scratch before after : List ℕ) (d : Cursor) : Type 0 where
  pub cursor : d ≡ record { at = c.at; nodes = c.nodes; links = c.links + (c.held - base); held = base }
  pub links : link_width * d.links ≤ length before → Written (3 * c.links) (3 * (c.links + (c.held - base))) (take (3 * (c.held - base)) (drop (3 * base) scratch)) before after
  pub kept : length before < link_width * d.links → after ≡ before

-- whether a `return` stands alone before a token of kind x, or what it returns is read
pub record Bare (n x : ℕ) (r : Bool) : Type 0 where
  pub form : kaori (edition n) returned x ≡ cond r empty expression

-- what a chain starts with, by the kind of its first token, and with what may follow it in an edition
unfoldable pub head_form : ℕ → Form
head_form x = cond (eqb x LeftParen) group (leaf Form-of.Identifier Identifier)

unfoldable pub chained_form : Edition → ℕ → Form
chained_form e x = cond (eqb x LeftParen) (grouping e) reference

-- whether it stands alone in the edition that is named, or calls and dots may follow
pub record Lone (n x : ℕ) (r : Bool) : Type 0 where
  pub form : chained_form (edition n) x ≡ cond r (head_form x) (chain (head_form x) calls)

-- the form of a statement that starts with a token of this kind, and what ends it
abbrev pub forms : List (ℕ × Form)
forms =
    (Import, import) ∷ (LeftBrace, block) ∷ (If, conditional) ∷ (Function, function) ∷ (While, while_loop) ∷ (For, refusal 10) ∷ (Break, leaf Form-of.Break Break) ∷
    (Continue, leaf Form-of.Continue Continue) ∷ (Return, return) ∷ (Let, binding Form-of.Variable Let) ∷ (Const, binding Form-of.Constant Const) ∷ (Ref, binding Form-of.Ref Ref) ∷ []

unfoldable pub form_of : ℕ → Form
form_of x = look forms assignment x

unfoldable pub ending : ℕ → Table
ending x = cond (eqb x LeftBrace) may_end (cond (eqb x If) may_end (cond (eqb x Function) may_end (cond (eqb x While) may_end must_end)))

-- after a statement that began with a token of kind x: its `;` was taken, or may be missing
unfoldable pub Ends : List ℕ → Node → Cursor → ℕ → Read → Type 0
Ends ts n c x (Read.Node m d) =
    ((kind ts c.at ≡ Semicolon) × (m ≡ record { id = n.id; start = 0; end = absent }) × (d ≡ next c)) ⊎
    ((kind ts c.at ≡ Semicolon → ⊥) × ((kind ts c.at ≡ RightBrace) ⊎ (ending x ≡ may_end)) × (m ≡ record { id = n.id; start = 0; end = n.id }) × (d ≡ c))
Ends ts n c x (Read.Refused q) = (kind ts c.at ≡ Semicolon → ⊥) × (kind ts c.at ≡ RightBrace → ⊥) × (ending x ≡ must_end) × (q ≡ record { code = 8; at = c.at; expected = Semicolon })

pub record Ended (ts : List ℕ) (n : Node) (c : Cursor) (x : ℕ) (r : Read) : Type 0 where
  pub says : Ends ts n c x r

-- a tail is not held
pub record Untailed (tail : ℕ) (c : Cursor) (r : Read) : Type 0 where
  pub none : tail ≡ absent → r ≡ Read.Node (record { id = tail; start = 0; end = 0 }) c
  pub one : (tail ≡ absent → ⊥) → r ≡ Read.Node (record { id = tail; start = 0; end = 0 }) (record { at = c.at; nodes = c.nodes; links = c.links; held = c.held - 1 })

-- the node of a token of this kind alone, and that of a binding
abbrev pub single_node : ℕ → Form-of
single_node x =
    cond (eqb x Break) Form-of.Break
    (cond (eqb x Continue) Form-of.Continue (cond (eqb x True) Form-of.Boolean (cond (eqb x False) Form-of.Boolean (cond (eqb x Nil) Form-of.Nil Form-of.Number))))

abbrev pub single_fields : ℕ → List ℕ
single_fields x = cond (eqb x True) (1 ∷ []) (cond (eqb x False) (0 ∷ []) [])

abbrev pub binding_node : ℕ → Form-of
binding_node x = cond (eqb x Let) Form-of.Variable (cond (eqb x Const) Form-of.Constant Form-of.Ref)

-- the fields of two operands that an operator of this kind joins
abbrev pub joined_fields : (x left right : ℕ) → List ℕ
joined_fields x left right = cond (eqb x And) (left ∷ right ∷ []) (cond (eqb x Or) (left ∷ right ∷ []) (place x binary_operators ∷ left ∷ right ∷ []))

-- the kinds that some readers are called for
pub record Closer (x : ℕ) : Type 0 where
  pub known : (x ≡ Pipe) ⊎ ((x ≡ RightParen) ⊎ (x ≡ Semicolon))

pub record Single (x : ℕ) : Type 0 where
  pub known : (x ≡ Break) ⊎ ((x ≡ Continue) ⊎ ((x ≡ True) ⊎ ((x ≡ False) ⊎ ((x ≡ Nil) ⊎ (x ≡ NumberLiteral)))))

pub record Binder (x : ℕ) : Type 0 where
  pub known : (x ≡ Let) ⊎ ((x ≡ Const) ⊎ (x ≡ Ref))

pub record Sign (x : ℕ) : Type 0 where
  pub known : (x ≡ Minus) ⊎ (x ≡ Caret)

-- none of the kinds that an operand of `prefix` starts with
pub record Other (x : ℕ) : Type 0 where
  pub not_plus : x ≡ Plus → ⊥
  pub not_minus : x ≡ Minus → ⊥
  pub not_caret : x ≡ Caret → ⊥
  pub not_paren : x ≡ LeftParen → ⊥
  pub not_not : x ≡ Not → ⊥
  pub not_number : x ≡ NumberLiteral → ⊥
  pub not_string : x ≡ StringLiteral → ⊥
  pub not_name : x ≡ Identifier → ⊥
