-- A script's root put over the rows of one tree: the tree's last row is its one statement. Every other row keeps its parent.
use Prim.Native.Nat.{ℕ, zero, suc, ◌+◌, ◌-◌, ◌*◌, ◌/◌, ◌≤◌, ◌<◌}
use mathlib.Core.List.{List, [], ◌∷◌, ◌++◌, append_assoc}
use mathlib.Core.Path.{◌≡◌, refl, sym, ap, ◌∙◌}
use native.Mathlib.Omega.{arith}
use borrow.Author.Tests.{eq-eqb, ne_eqb}
use lib.ListN.{length, take, drop, length-append, length-drop}
use lib.Seq.{take-append-le, drop-append-le, take_at}
use Rattle.grammar.specs.Handle.{Handle, absent}
use Rattle.grammar.specs.Label.{Node, number_of}
use Rattle.grammar.specs.Layout.{layout}
use Rattle.grammar.specs.Naming.{height, named_by, times, OneTree}
use Rattle.grammar.specs.Parent.{parent, own, parented_below, parented}
use Rattle.grammar.specs.Room.{node_width, own_width, link_width}
use Rattle.grammar.specs.Rows.{Rows, lined, padded, links_of, numbers, write, fill}
use Rattle.grammar.specs.Rule.{fields, root}
use Rattle.grammar.proofs.Decoding.{Whole, Added, added}
use Rattle.grammar.proofs.Forest.{Later, later_self}
use Rattle.grammar.proofs.Order.{Nodes, Laid}
use Rattle.grammar.proofs.Parents.{parented_height, parented_root}

-- the root's own numbers: a block of one statement and no tail, span 0, 0, whose link row comes after those of w
abbrev pub root_numbers : Rows → List ℕ
root_numbers w = number_of Node.Block ∷ 0 ∷ 0 ∷ length w.links / link_width ∷ 1 ∷ absent ∷ []

-- and the root's link: the last row of w
abbrev pub root_link : Rows → List ℕ
root_link w = (height w - 1) ∷ 0 ∷ 0 ∷ []

-- the rows of w and then the root, where parents are yet to be put in
abbrev pub then_root : Rows → Rows
then_root w = record { nodes = w.nodes ++ padded (root_numbers w); links = w.links ++ root_link w }

-- the same where they are in: the last row of w, whose tenth number is the last of all, has the root for its parent, and the root has none
abbrev pub with_root : Rows → Rows
with_root w = record { nodes = take (length w.nodes - 1) w.nodes ++ height w ∷ lined (root_numbers w) absent; links = w.links ++ root_link w }

but_last : (xs : List ℕ) (x : ℕ) → take (length (xs ++ x ∷ []) - 1) (xs ++ x ∷ []) ≡ xs
but_last xs x = take_at xs (x ∷ []) (length (xs ++ x ∷ []) - 1) (omega (arith, length-append xs (x ∷ [])))

same_rows : {ns ms ls ks : List ℕ} → ns ≡ ms → ls ≡ ks → ◌≡◌ {A = Rows} (record { nodes = ns; links = ls }) (record { nodes = ms; links = ks })
same_rows e f = rw (e, f)

-- the first n rows, where n is not 0: all but the last of them, and the last
some_below : (w : Rows) (n : ℕ) → 0 < n → parented_below w n ≡ (parented_below w (n - 1) ++ own w (n - 1)) ++ parent w (height w) (n - 1) ∷ []
unfolding parented_below
some_below w n h = let z : n ≡ suc (n - 1) = omega arith in ap (parented_below w) z ∙ sym (append_assoc (parented_below w (n - 1)) (own w (n - 1)) (parent w (height w) (n - 1) ∷ []))

module _ (w : Rows) (whole : Whole w) where
  root_added : Added w (then_root w) ((height w - 1) ∷ absent ∷ [])
  unfolding fill numbers write links_of layout
  root_added = added (number_of Node.Block) 0 0 {fs = fields (root (Handle.ended (height w - 1) ∷ []))} (Laid.nodes (Nodes.ended Nodes.nil) (Laid.option Laid.done)) whole

  pub root_later : Later w (then_root w)
  root_later = root_added.later

  own_kept : (i : ℕ) → i < height w → own (then_root w) i ≡ own w i
  own_kept i h = rw (drop-append-le (node_width * i) w.nodes (padded (root_numbers w)) (omega (arith, whole.nodes)), take-append-le own_width (drop (node_width * i) w.nodes) (padded (root_numbers w)) (simp length-drop (omega (arith, whole.nodes))))

  module _ (few : height w < absent) (kept : (i : ℕ) → i < height w → named_by (then_root w) i ≡ named_by w i) where
    earlier : (n j : ℕ) → n ≤ height w → parent (then_root w) n j ≡ parent w n j
    unfolding parent
    earlier zero j h = refl
    earlier (suc n) j h = rw (kept n (omega arith), earlier n j (omega arith))

    root_names : named_by (then_root w) (height w) ≡ (height w - 1) ∷ absent ∷ []
    root_names = root_added.names.says (later_self (then_root w))

    parent_kept : (j : ℕ) → j + 1 < height w → parent (then_root w) (height (then_root w)) j ≡ parent w (height w) j
    unfolding parent
    parent_kept j h = rw (root_added.taller, root_names, ne_eqb j (height w - 1) (λ e. omega arith), ne_eqb j absent (λ e. omega arith)) (earlier (height w) j (omega arith))

    last_parent : 0 < height w → parent (then_root w) (height (then_root w)) (height w - 1) ≡ height w
    unfolding parent
    last_parent h = rw (root_added.taller, root_names, ne_eqb (times (height w - 1) ((height w - 1) ∷ absent ∷ [])) 0 (rw (eq-eqb (height w - 1) (height w - 1) refl) (λ k. omega arith)))

    below_kept : (n : ℕ) → n < height w → parented_below (then_root w) n ≡ parented_below w n
    unfolding parented_below
    below_kept zero h = refl
    below_kept (suc n) h = rw (below_kept n (omega arith), own_kept n (omega arith), parent_kept n (omega arith))

    pub root_put : OneTree (then_root w) → 0 < height w → parented (then_root w) ≡ with_root (parented w)
    root_put t h = same_rows (front ∙ sym back) (ap (λ n. w.links ++ ((n - 1) ∷ 0 ∷ 0 ∷ [])) (sym (parented_height w whole.nodes)))
      where
        rest : List ℕ
        rest = parented_below w (height w - 1) ++ own w (height w - 1)

        front : (parented (then_root w)).nodes ≡ rest ++ height w ∷ lined (root_numbers w) absent
        front =
            let z : height (then_root w) - 1 ≡ height w = omega (arith, root_added.taller) in
            let k : height w - 1 < height w = omega arith in
            parented_root (then_root w) root_added.whole.nodes t w.nodes (root_numbers w) refl ∙ rw (z, some_below (then_root w) (height w) h, below_kept (height w - 1) k, own_kept (height w - 1) k, last_parent h, append_assoc rest (height w ∷ []) (lined (root_numbers w) absent))

        back : (with_root (parented w)).nodes ≡ rest ++ height w ∷ lined (root_numbers w) absent
        back = rw (parented_height w whole.nodes, some_below w (height w) h, but_last rest (parent w (height w) (height w - 1)))
