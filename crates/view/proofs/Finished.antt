-- What is told of the rows of an accepted call, in its node room and by its count: the last row has no parent, and is a script's root, a Block with the span 0, 0; and
-- the parent of another row is the one row that names it.
use Prim.Native.Nat.{ℕ, ◌+◌, ◌-◌, ◌*◌, ◌≤◌, ◌<◌}
use native.Mathlib.Omega.{arith}
use mathlib.Core.List.{List, [], ◌∷◌, ◌++◌, append_assoc}
use mathlib.Core.Path.{◌≡◌, refl, ap, ◌∙◌}
use lib.ListN.{length, get_or, replicate, length-append, get_or-append}
use lib.Seq.{get_or-append-add}
use Rattle.grammar.specs.Answer.{success, rooms_filled}
use Rattle.grammar.specs.Builtin.{Builtins}
use Rattle.grammar.specs.Call.{Call}
use Rattle.grammar.specs.Door.{Admitted}
use Rattle.grammar.specs.Edition.{Edition, edition}
use Rattle.grammar.specs.Handle.{absent}
use Rattle.grammar.specs.Label.{Node, number_of}
use Rattle.grammar.specs.Outcome.{accepted, Comes}
use Rattle.grammar.specs.Parent.{tenth, ParentOf}
use Rattle.grammar.specs.Profile.{Profile}
use Rattle.grammar.specs.Room.{node_width, own_width}
use Rattle.grammar.specs.Rows.{Rows, lined}
use Rattle.grammar.specs.Space.{Space, space_of}
use Rattle.grammar.specs.Symbol.{symbol}
use Rattle.grammar.specs.Token.{count}
use Rattle.grammar.proofs.Calls.{written_whole, accepted_rows}
use Rattle.grammar.proofs.Decoding.{Whole}
use Rattle.view.specs.View.{number, LastTold, KindTold, SpanTold, ParentTold}
use Rattle.view.specs.declared.KindAnswer.{KindAnswer}
use Rattle.view.specs.declared.ParentAnswer.{ParentAnswer}
use Rattle.view.specs.declared.RowAnswer.{RowAnswer}
use Rattle.view.specs.declared.SpanAnswer.{SpanAnswer}

-- the numbers of a row, whatever stands before and after it
number_at : (before ys after : List ℕ) (row i : ℕ) → node_width * row ≡ length before → number ((before ++ ys) ++ after) row i ≡ get_or (ys ++ after) i 0
number_at before ys after row i e = rw (e, append_assoc before ys after) (get_or-append-add before (ys ++ after) i 0)

accepted_whole : (p : Profile) {e : Edition} {names : Builtins} {text ts ss : List ℕ} {limit room : ℕ} {space : Space} {w : Rows} → Comes p e names text ts limit space room (accepted w ss) → Whole w
accepted_whole p {e} {names} {text} {ts} (Comes.read x h i j) = written_whole p (count ts) e ts (symbol names text ts) x

module _ {c : Call} {w : Rows} {ss : List ℕ} (d : Admitted c) (o : Comes c.profile (edition c.edition) c.names c.text c.tokens c.limit (space_of c.rooms) (length c.rooms.symbols) (accepted w ss)) where
  abbrev nodes : List ℕ
  nodes = (rooms_filled w ss c.rooms).nodes

  abbrev total : ℕ
  total = (success w ss).nodes

  abbrev zeros : List ℕ
  zeros = replicate (length c.rooms.nodes - length w.nodes) 0

  enough : node_width * total ≤ length nodes
  enough = simp length-append (omega arith)

  some : 0 < total
  some = (accepted_rows d o).tree.some

  pub last_is : {r : RowAnswer} → LastTold nodes total r → r ≡ record { code = 0; row = total - 1 }
  last_is p = p.there enough (omega (arith, some))

  -- the parent in a row's own numbers
  tenth_there : (j : ℕ) → j < total → number nodes j own_width ≡ tenth w j
  tenth_there j h = get_or-append w.nodes zeros 0 (node_width * j + own_width) (omega (arith, (accepted_whole c.profile o).nodes))

  pub last_parent : {r : ParentAnswer} → ParentTold nodes total (total - 1) r → r ≡ record { code = 0; parent = absent }
  last_parent p = rw (tenth_there (total - 1) (omega (arith, some)), (accepted_rows d o).parents.root) at (p.there enough (omega (arith, some)))

  pub parent_names : {r : ParentAnswer} (j : ℕ) → j + 1 < total → ParentTold nodes total j r → (r.code ≡ 0) × ParentOf w j r.parent
  parent_names j h p = rw (p.there enough (omega arith), tenth_there j (omega arith)) (refl, (accepted_rows d o).parents.parents j h)

  -- the last row of a script is its root
  module _ (s : c.profile ≡ Profile.script) where
    abbrev root : List ℕ
    root = lined (number_of Node.Block ∷ 0 ∷ 0 ∷ ((accepted_rows d o).root s).1 ∷ ((accepted_rows d o).root s).2 ∷ absent ∷ []) absent

    -- its numbers stand after those of all other rows and before the zeros
    root_number : (i : ℕ) → number nodes (total - 1) i ≡ get_or (root ++ zeros) i 0
    root_number i =
        let (before, first, items, e) = (accepted_rows d o).root s in
        let k : node_width * (total - 1) ≡ length before = omega (arith, (accepted_whole c.profile o).nodes, ap (λ (xs : List ℕ). length xs) e ∙ length-append before root) in
        ap (λ (xs : List ℕ). number (xs ++ zeros) (total - 1) i) e ∙ number_at before root zeros (total - 1) i k

    pub root_kind : {r : KindAnswer} → KindTold nodes total (total - 1) r → r ≡ record { code = 0; kind = number_of Node.Block }
    root_kind p = rw (root_number 0) at (p.there enough (omega (arith, some)))

    pub root_span : {r : SpanAnswer} → SpanTold nodes total (total - 1) r → r ≡ record { code = 0; start = 0; end = 0 }
    root_span p = rw (root_number 1, root_number 2) at (p.there enough (omega (arith, some)))
