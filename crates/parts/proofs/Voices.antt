-- What handles say: a name itself, a row what its fields hold in the order of its slots, an entry what its key and its value say. F are all rows in the end.
use Prim.Native.Nat.{ℕ, zero, suc, ◌≤◌, ◌<◌, min}
use native.Mathlib.Omega.{arith}
use mathlib.Core.Bool.{cond}
use mathlib.Core.List.{List, [], ◌∷◌, ◌++◌, append_assoc, append-nil, tail}
use mathlib.Core.Path.{◌≡◌, refl, sym, ap, ◌∙◌}
use lib.Dec.{T, eqb}
use lib.ListN.{length, take, replicate}
use borrow.Author.Tests.{ne_eqb}
use Rattle.grammar.specs.Edition.{Edition}
use Rattle.grammar.specs.Handle.{Handle, absent, row, link, head, block_list, block_tail, entry_of}
use Rattle.grammar.specs.Layout.{Slot, below, layout}
use Rattle.grammar.specs.Naming.{height}
use Rattle.grammar.specs.Room.{own_width}
use Rattle.grammar.specs.Rows.{Rows, links_of, numbers, write, fill}
use Rattle.grammar.specs.Rule.{Field, list}
use Rattle.grammar.proofs.Decoding.{Whole, gathered, write_whole, found}
use Rattle.grammar.proofs.Forest.{Begins, Later}
use Rattle.grammar.proofs.Order.{others}
use Rattle.grammar.proofs.Sizes.{Sort, Fits, sub, count, fits_sub, fits_none, one, maybe, two, a_name, any_nodes, any_names, any_entries, none as no-handles}
use Rattle.foreign.proofs.Suits.{some}
use Rattle.parts.specs.Spoken.{Word, said, inside_from, inside_upto, node_parts, name_parts, entry_parts, parts, parts_of, words, spoken}
use Rattle.parts.proofs.Hearing.{words_append}
use Rattle.parts.proofs.Walking.{own_row}

-- row i, which stands below n, says xs
pub record Voice (F : Rows) (n i : ℕ) (xs : List Word) : Type 0 where
  pub stands : i < n
  pub says : (deep : ℕ) → i < deep → spoken F deep i ≡ xs

-- a row's number, or absent
pub data Heard (F : Rows) (n : ℕ) : ℕ → List Word → Type 0 where
  silent : Heard F n absent []
  voice : {i : ℕ} {xs : List Word} → Voice F n i xs → Heard F n i xs

-- what handles say
pub data Tells (F : Rows) (n : ℕ) : List Handle → List Word → Type 0 where
  nil : Tells F n [] []
  node : {i s e : ℕ} {hs : List Handle} {xs ys : List Word} → Voice F n i xs → Tells F n hs ys → Tells F n (Handle.node i s e ∷ hs) (xs ++ ys)
  ended : {i : ℕ} {hs : List Handle} {xs ys : List Word} → Voice F n i xs → Tells F n hs ys → Tells F n (Handle.ended i ∷ hs) (xs ++ ys)
  name : {x s e : ℕ} {hs : List Handle} {ys : List Word} → Tells F n hs ys → Tells F n (Handle.name x s e ∷ hs) (said x s e ∷ ys)
  entry : {k v : ℕ} {hs : List Handle} {xs ys zs : List Word} → Heard F n k xs → Heard F n v ys → Tells F n hs zs → Tells F n (Handle.entry k v ∷ hs) (xs ++ (ys ++ zs))

module _ {F : Rows} where
  voice_up : {n o i : ℕ} {xs : List Word} → n ≤ o → Voice F n i xs → Voice F o i xs
  voice_up h v = record { stands = omega (arith, v.stands); says = v.says }

  heard_up : {n o i : ℕ} {xs : List Word} → n ≤ o → Heard F n i xs → Heard F o i xs
  heard_up h Heard.silent = Heard.silent
  heard_up h (Heard.voice v) = Heard.voice (voice_up h v)

  pub tells_up : {n o : ℕ} {hs : List Handle} {xs : List Word} → n ≤ o → Tells F n hs xs → Tells F o hs xs
  tells_up h Tells.nil = Tells.nil
  tells_up h (Tells.node v t) = Tells.node (voice_up h v) (tells_up h t)
  tells_up h (Tells.ended v t) = Tells.ended (voice_up h v) (tells_up h t)
  tells_up h (Tells.name t) = Tells.name (tells_up h t)
  tells_up h (Tells.entry k v t) = Tells.entry (heard_up h k) (heard_up h v) (tells_up h t)

  pub tells_append : {n : ℕ} {hs gs : List Handle} {xs ys : List Word} → Tells F n hs xs → Tells F n gs ys → Tells F n (hs ++ gs) (xs ++ ys)
  tells_append Tells.nil u = u
  tells_append {ys = ys} (Tells.node {xs = xs} {ys = zs} v t) u = rw (append_assoc xs zs ys) (Tells.node v (tells_append t u))
  tells_append {ys = ys} (Tells.ended {xs = xs} {ys = zs} v t) u = rw (append_assoc xs zs ys) (Tells.ended v (tells_append t u))
  tells_append (Tells.name t) u = Tells.name (tells_append t u)
  tells_append {ys = ys} (Tells.entry {xs = xs} {ys = vs} {zs = zs} k v t) u = rw (append_assoc xs (vs ++ zs) ys, append_assoc vs zs ys) (Tells.entry k v (tells_append t u))

  -- what the links of a list of handles say
  child_says : {n i : ℕ} {xs : List Word} → Heard F n i xs → n ≤ absent → (deep : ℕ) → n ≤ deep → cond (eqb i absent) [] (spoken F deep i) ≡ xs
  child_says Heard.silent h deep g = refl
  child_says (Heard.voice {i = i} v) h deep g = let s = v.stands in rw (ne_eqb i absent (λ e. omega arith)) (v.says deep (omega arith))

  nodes_say : {n : ℕ} {hs : List Handle} {xs : List Word} → Fits any_nodes hs → Tells F n hs xs → n ≤ absent → (deep : ℕ) → n ≤ deep → (us : List ℕ) → words (spoken F deep) (node_parts (length hs) (links_of hs ++ us)) ≡ xs
  unfolding words node_parts links_of
  nodes_say f Tells.nil h deep g us = refl
  nodes_say f (Tells.node v t) h deep g us = rw (child_says (Heard.voice v) h deep g, nodes_say (others refl f) t h deep g us)
  nodes_say f (Tells.ended v t) h deep g us = rw (child_says (Heard.voice v) h deep g, nodes_say (others refl f) t h deep g us)
  nodes_say f (Tells.name t) h deep g us = absurd (omega (arith, f.most Sort.name))
  nodes_say f (Tells.entry k v t) h deep g us = absurd (omega (arith, f.most Sort.entry))

  names_say : {n : ℕ} {hs : List Handle} {xs : List Word} → Fits any_names hs → Tells F n hs xs → (deep : ℕ) (us : List ℕ) → words (spoken F deep) (name_parts (length hs) (links_of hs ++ us)) ≡ xs
  unfolding words name_parts links_of
  names_say f Tells.nil deep us = refl
  names_say f (Tells.node v t) deep us = absurd (omega (arith, f.most Sort.node))
  names_say f (Tells.ended v t) deep us = absurd (omega (arith, f.most Sort.node))
  names_say f (Tells.name t) deep us = rw (names_say (others refl f) t deep us)
  names_say f (Tells.entry k v t) deep us = absurd (omega (arith, f.most Sort.entry))

  entries_say : {n : ℕ} {hs : List Handle} {xs : List Word} → Fits any_entries hs → Tells F n hs xs → n ≤ absent → (deep : ℕ) → n ≤ deep → (us : List ℕ) → words (spoken F deep) (entry_parts (length hs) (links_of hs ++ us)) ≡ xs
  unfolding words entry_parts links_of
  entries_say f Tells.nil h deep g us = refl
  entries_say f (Tells.node v t) h deep g us = absurd (omega (arith, f.most Sort.node))
  entries_say f (Tells.ended v t) h deep g us = absurd (omega (arith, f.most Sort.node))
  entries_say f (Tells.name t) h deep g us = absurd (omega (arith, f.most Sort.name))
  entries_say f (Tells.entry k v t) h deep g us = rw (child_says k h deep g, child_says v h deep g, entries_say (others refl f) t h deep g us)

-- fits of what follows a node, or a name
module _ {g : Handle} {hs : List Handle} where
  after_maybe : (sort-is : count (g ∷ []) Sort.node ≡ 1) → Fits maybe (g ∷ hs) → Fits no-handles hs
  after_maybe k f = record { most = most; least = omega arith }
    where
      most : (c : Sort) → min 3 (count hs c) ≤ no-handles.most c
      most Sort.name = omega (arith, f.most Sort.name)
      most Sort.node = omega (arith, f.most Sort.node)
      most Sort.entry = omega (arith, f.most Sort.entry)

  after_two : count (g ∷ []) Sort.node ≡ 1 → Fits two (g ∷ hs) → Fits maybe hs
  after_two k f = record { most = most; least = omega arith }
    where
      most : (c : Sort) → min 3 (count hs c) ≤ maybe.most c
      most Sort.name = omega (arith, f.most Sort.name)
      most Sort.node = omega (arith, f.most Sort.node)
      most Sort.entry = omega (arith, f.most Sort.entry)

  after_name : count (g ∷ []) Sort.name ≡ 1 → Fits a_name (g ∷ hs) → Fits no-handles hs
  after_name k f = record { most = most; least = omega arith }
    where
      most : (c : Sort) → min 3 (count hs c) ≤ no-handles.most c
      most Sort.name = omega (arith, f.most Sort.name)
      most Sort.node = omega (arith, f.most Sort.node)
      most Sort.entry = omega (arith, f.most Sort.entry)

pub record Two (F : Rows) (n : ℕ) (hs : List Handle) (ps : List Word) : Type 0 where
  pub one_says : List Word
  pub two_says : List Word
  pub first : Heard F n (row (head hs)) one_says
  pub second : Heard F n (row (head (tail hs))) two_says
  pub both_are : ps ≡ one_says ++ two_says

pub record Called (F : Rows) (n : ℕ) (hs : List Handle) (ps : List Word) : Type 0 where
  pub sym_is : ℕ
  pub from_is : ℕ
  pub upto_is : ℕ
  pub left : List Word
  pub linked : link (head hs) ≡ sym_is ∷ from_is ∷ upto_is ∷ []
  pub names_left : Fits any_names (tail hs)
  pub tells_left : Tells F n (tail hs) left
  pub all_are : ps ≡ said sym_is from_is upto_is ∷ left

pub record Blocked (F : Rows) (n : ℕ) (hs : List Handle) (ps : List Word) : Type 0 where
  pub one_says : List Word
  pub two_says : List Word
  pub first : Tells F n (block_list hs) one_says
  pub second : Heard F n (row (block_tail hs)) two_says
  pub are_nodes : Fits any_nodes (block_list hs)
  pub both_are : ps ≡ one_says ++ two_says

-- one node more, of any number of them
more_nodes : {g : Handle} {hs : List Handle} → count (g ∷ []) Sort.name ≡ 0 → count (g ∷ []) Sort.entry ≡ 0 → Fits any_nodes hs → Fits any_nodes (g ∷ hs)
more_nodes {g} {hs} i j f = record { most = most; least = omega arith }
  where
    most : (c : Sort) → min 3 (count (g ∷ hs) c) ≤ any_nodes.most c
    most Sort.name = omega (arith, f.most Sort.name)
    most Sort.node = omega arith
    most Sort.entry = omega (arith, f.most Sort.entry)

-- a block's statement before others
module _ {F : Rows} {n : ℕ} {g : Handle} {hs : List Handle} {xs ys : List Word} where
  node_first : {i s e : ℕ} → Voice F n i xs → Blocked F n (g ∷ hs) ys → Blocked F n (Handle.node i s e ∷ g ∷ hs) (xs ++ ys)
  unfolding block_list block_tail
  node_first v b = record { one_says = xs ++ b.one_says; two_says = b.two_says; first = Tells.node v b.first; second = b.second; are_nodes = more_nodes refl refl b.are_nodes; both_are = ap (λ z. xs ++ z) b.both_are ∙ sym (append_assoc xs b.one_says b.two_says) }

  ended_first : {i : ℕ} → Voice F n i xs → Blocked F n (g ∷ hs) ys → Blocked F n (Handle.ended i ∷ g ∷ hs) (xs ++ ys)
  unfolding block_list block_tail
  ended_first v b = record { one_says = xs ++ b.one_says; two_says = b.two_says; first = Tells.ended v b.first; second = b.second; are_nodes = more_nodes refl refl b.are_nodes; both_are = ap (λ z. xs ++ z) b.both_are ∙ sym (append_assoc xs b.one_says b.two_says) }

-- lists of handles that hold just what a row has slots for
module _ {F : Rows} {n : ℕ} where
  pub no_words : {hs : List Handle} {ps : List Word} → Fits no-handles hs → Tells F n hs ps → ps ≡ []
  no_words f Tells.nil = refl
  no_words f (Tells.node v t) = absurd (omega (arith, f.most Sort.node))
  no_words f (Tells.ended v t) = absurd (omega (arith, f.most Sort.node))
  no_words f (Tells.name t) = absurd (omega (arith, f.most Sort.name))
  no_words f (Tells.entry k v t) = absurd (omega (arith, f.most Sort.entry))

  pub maybe_heard : {hs : List Handle} {ps : List Word} → Fits maybe hs → Tells F n hs ps → Heard F n (row (head hs)) ps
  maybe_heard f Tells.nil = Heard.silent
  maybe_heard f (Tells.node {xs = xs} v t) = rw (no_words (after_maybe refl f) t, append-nil xs) (Heard.voice v)
  maybe_heard f (Tells.ended {xs = xs} v t) = rw (no_words (after_maybe refl f) t, append-nil xs) (Heard.voice v)
  maybe_heard f (Tells.name t) = absurd (omega (arith, f.most Sort.name))
  maybe_heard f (Tells.entry k v t) = absurd (omega (arith, f.most Sort.entry))

  pub one_heard : {hs : List Handle} {ps : List Word} → Fits one hs → Tells F n hs ps → Heard F n (row (head hs)) ps
  unfolding sub
  one_heard f t = maybe_heard (fits_sub tt f) t

  -- a statement that has taken its `;`
  pub ended_tells : {hs : List Handle} {ps : List Word} → Fits one hs → Tells F n hs ps → Tells F n (Handle.ended (row (head hs)) ∷ []) ps
  unfolding sub
  ended_tells f Tells.nil = absurd (omega (arith, f.least))
  ended_tells f (Tells.node v t) = rw (no_words (after_maybe refl (fits_sub tt f)) t) (Tells.ended v Tells.nil)
  ended_tells f (Tells.ended v t) = rw (no_words (after_maybe refl (fits_sub tt f)) t) (Tells.ended v Tells.nil)
  ended_tells f (Tells.name t) = absurd (omega (arith, f.most Sort.name))
  ended_tells f (Tells.entry k v t) = absurd (omega (arith, f.most Sort.entry))

  -- a key, with its value
  pub entry_tells : (xs ys : List Handle) {ps qs : List Word} → Fits one xs → Fits maybe ys → Tells F n xs ps → Tells F n ys qs → Tells F n (entry_of xs ys) (ps ++ (qs ++ []))
  entry_tells [] ys f g t u = absurd (omega (arith, f.least))
  entry_tells (x ∷ xs) ys f g t u = Tells.entry (one_heard f t) (maybe_heard g u) Tells.nil

  pub two_heard : {hs : List Handle} {ps : List Word} → Fits two hs → Tells F n hs ps → Two F n hs ps
  two_heard f Tells.nil = record { one_says = []; two_says = []; first = Heard.silent; second = Heard.silent; both_are = refl }
  two_heard f (Tells.node {xs = xs} {ys = ys} v t) = record { one_says = xs; two_says = ys; first = Heard.voice v; second = maybe_heard (after_two refl f) t; both_are = refl }
  two_heard f (Tells.ended {xs = xs} {ys = ys} v t) = record { one_says = xs; two_says = ys; first = Heard.voice v; second = maybe_heard (after_two refl f) t; both_are = refl }
  two_heard f (Tells.name t) = absurd (omega (arith, f.most Sort.name))
  two_heard f (Tells.entry k v t) = absurd (omega (arith, f.most Sort.entry))

  -- a name, and the others
  pub called : {hs : List Handle} {ps : List Word} → Fits any_names hs → T (some hs) → Tells F n hs ps → Called F n hs ps
  called f h Tells.nil = absurd h
  called f h (Tells.node v t) = absurd (omega (arith, f.most Sort.node))
  called f h (Tells.ended v t) = absurd (omega (arith, f.most Sort.node))
  called f h (Tells.name {x = x} {s = s} {e = e} {ys = ys} t) = record { sym_is = x; from_is = s; upto_is = e; left = ys; linked = refl; names_left = others refl f; tells_left = t; all_are = refl }
  called f h (Tells.entry k v t) = absurd (omega (arith, f.most Sort.entry))

  -- a name alone
  pub none_left : {hs : List Handle} {ps : List Word} → Fits a_name hs → (c : Called F n hs ps) → c.left ≡ []
  none_left {hs = []} f c = no_words fits_none c.tells_left
  none_left {hs = Handle.node i s e ∷ hs} f c = absurd (omega (arith, f.most Sort.node))
  none_left {hs = Handle.name x s e ∷ hs} f c = no_words (after_name refl f) c.tells_left
  none_left {hs = Handle.entry k v ∷ hs} f c = absurd (omega (arith, f.most Sort.entry))
  none_left {hs = Handle.ended i ∷ hs} f c = absurd (omega (arith, f.most Sort.node))
  none_left {hs = Handle.other ∷ hs} f c = no_words (after_name refl f) c.tells_left

  -- a block's list, and its tail
  pub blocked : {hs : List Handle} {ps : List Word} → Fits any_nodes hs → Tells F n hs ps → Blocked F n hs ps
  unfolding block_list block_tail
  blocked f Tells.nil = record { one_says = []; two_says = []; first = Tells.nil; second = Heard.silent; are_nodes = f; both_are = refl }
  blocked f (Tells.node {xs = xs} v Tells.nil) = record { one_says = []; two_says = xs; first = Tells.nil; second = Heard.voice v; are_nodes = others refl f; both_are = append-nil xs }
  blocked f (Tells.ended {xs = xs} v Tells.nil) = record { one_says = xs ++ []; two_says = []; first = Tells.ended v Tells.nil; second = Heard.silent; are_nodes = f; both_are = sym (append-nil (xs ++ [])) }
  blocked f (Tells.node v (Tells.node u t)) = node_first v (blocked (others refl f) (Tells.node u t))
  blocked f (Tells.node v (Tells.ended u t)) = node_first v (blocked (others refl f) (Tells.ended u t))
  blocked f (Tells.ended v (Tells.node u t)) = ended_first v (blocked (others refl f) (Tells.node u t))
  blocked f (Tells.ended v (Tells.ended u t)) = ended_first v (blocked (others refl f) (Tells.ended u t))
  blocked f (Tells.node v (Tells.name t)) = absurd (omega (arith, f.most Sort.name))
  blocked f (Tells.node v (Tells.entry k u t)) = absurd (omega (arith, f.most Sort.entry))
  blocked f (Tells.ended v (Tells.name t)) = absurd (omega (arith, f.most Sort.name))
  blocked f (Tells.ended v (Tells.entry k u t)) = absurd (omega (arith, f.most Sort.entry))
  blocked f (Tells.name t) = absurd (omega (arith, f.most Sort.name))
  blocked f (Tells.entry k v t) = absurd (omega (arith, f.most Sort.entry))

module _ (F : Rows) where
  -- fields that fill slots, with room for so many numbers, and what they say, in a row with the span s, e
  pub data Utters (n : ℕ) : (room : ℕ) → List Slot → (s e : ℕ) → List Field → List Word → Type 0 where
    done : {r s e : ℕ} → Utters n r [] s e [] []
    number : {r s e k m : ℕ} {ss : List Slot} {fs : List Field} {ys : List Word} → Utters n r ss s e fs ys → Utters n (suc r) (below k ∷ ss) s e (Field.number m ∷ fs) ys
    child : {r s e : ℕ} {h : Handle} {ss : List Slot} {fs : List Field} {xs ys : List Word} → Heard F n (row h) xs → Utters n r ss s e fs ys → Utters n (suc r) (Slot.child ∷ ss) s e (Field.child h ∷ fs) (xs ++ ys)
    option : {r s e : ℕ} {h : Handle} {ss : List Slot} {fs : List Field} {xs ys : List Word} → Heard F n (row h) xs → Utters n r ss s e fs ys → Utters n (suc r) (Slot.option ∷ ss) s e (Field.child h ∷ fs) (xs ++ ys)
    symbol : {r s e x : ℕ} {ss : List Slot} {fs : List Field} {ys : List Word} → Utters n r ss s e fs ys → Utters n (suc r) (Slot.symbol ∷ ss) s e (Field.number x ∷ fs) (said x (inside_from s) (inside_upto e) ∷ ys)
    name : {r s e x a b : ℕ} {h : Handle} {ss : List Slot} {fs : List Field} {ys : List Word} → link h ≡ x ∷ a ∷ b ∷ [] → Utters n r ss s e fs ys → Utters n (suc (suc (suc r))) (Slot.name ∷ ss) s e (Field.named h ∷ fs) (said x a b ∷ ys)
    nodes : {r s e : ℕ} {hs : List Handle} {ss : List Slot} {fs : List Field} {xs ys : List Word} → Fits any_nodes hs → Tells F n hs xs → Utters n r ss s e fs ys → Utters n (suc (suc r)) (Slot.nodes ∷ ss) s e (Field.list hs ∷ fs) (xs ++ ys)
    names : {r s e : ℕ} {hs : List Handle} {ss : List Slot} {fs : List Field} {xs ys : List Word} → Fits any_names hs → Tells F n hs xs → Utters n r ss s e fs ys → Utters n (suc (suc r)) (Slot.names ∷ ss) s e (Field.list hs ∷ fs) (xs ++ ys)
    entries : {r s e : ℕ} {hs : List Handle} {ss : List Slot} {fs : List Field} {xs ys : List Word} → Fits any_entries hs → Tells F n hs xs → Utters n r ss s e fs ys → Utters n (suc (suc r)) (Slot.entries ∷ ss) s e (Field.list hs ∷ fs) (xs ++ ys)

  -- the row's numbers are those of its fields, cut off after r of them
  decoded : {n r s e : ℕ} {ss : List Slot} {fs : List Field} {xs : List Word} → Utters n r ss s e fs xs → (us : List ℕ) {w : Rows} → Whole w → Begins (fill fs us w).links F.links → n ≤ absent → (deep : ℕ) → n ≤ deep → (zs : List ℕ) → words (spoken F deep) (parts F.links ss s e (take r (gathered fs w ++ zs))) ≡ xs
  unfolding words parts gathered fill numbers write
  decoded Utters.done us h b i deep g zs = refl
  decoded (Utters.number u) us h b i deep g zs = decoded u _ h b i deep g zs
  decoded (Utters.child c u) us h b i deep g zs = rw (child_says c i deep g, decoded u _ h b i deep g zs)
  decoded (Utters.option c u) us h b i deep g zs = rw (child_says c i deep g, decoded u _ h b i deep g zs)
  decoded (Utters.symbol u) us h b i deep g zs = rw (decoded u _ h b i deep g zs)
  decoded (Utters.name l u) us h b i deep g zs = rw (l, decoded u _ h b i deep g zs)
  decoded (Utters.nodes {hs = hs} {ss = ss} {fs = fs} d t u) us h b i deep g zs = let (vs, q) = found hs fs _ h b in rw q (words_append (spoken F deep) (node_parts (length hs) (links_of hs ++ vs)) _ ∙ rw (nodes_say d t i deep g vs, decoded u _ (write_whole (list hs) h) b i deep g zs))
  decoded (Utters.names {hs = hs} {fs = fs} d t u) us h b i deep g zs = let (vs, q) = found hs fs _ h b in rw q (words_append (spoken F deep) (name_parts (length hs) (links_of hs ++ vs)) _ ∙ rw (names_say d t deep vs, decoded u _ (write_whole (list hs) h) b i deep g zs))
  decoded (Utters.entries {hs = hs} {fs = fs} d t u) us h b i deep g zs = let (vs, q) = found hs fs _ h b in rw q (words_append (spoken F deep) (entry_parts (length hs) (links_of hs ++ vs)) _ ∙ rw (entries_say d t i deep g vs, decoded u _ (write_whole (list hs) h) b i deep g zs))

  -- the row that they write says what they do
  pub row_voice : (k s e : ℕ) {fs : List Field} {w : Rows} {xs : List Word} → Utters (height w) 6 (layout Edition.second k) s e fs xs → Whole w → Later (fill fs (k ∷ s ∷ e ∷ []) w) F → height w ≤ absent → Voice F (suc (height w)) (height w) xs
  unfolding spoken parts_of
  row_voice k s e {fs} {w} {xs} u h b i = record { stands = omega arith; says = says }
    where
      says : (deep : ℕ) → height w < deep → spoken F deep (height w) ≡ xs
      says zero g = absurd (omega arith)
      says (suc d) g = rw (own_row k s e fs h b) (decoded u (k ∷ s ∷ e ∷ []) h b.links i d (omega arith) (replicate own_width 0))
