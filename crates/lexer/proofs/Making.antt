-- What the maker's loop keeps: the tokens made so far. Whatever the rest of the text reads as, the whole reads as these tokens and the rest (`reads`), and where the rest stops
-- the whole does (`stops`). They stand in the list for as long as it can take them.
use Prim.Native.Nat.{ℕ, zero, suc, ◌+◌, ◌-◌, ◌*◌, ◌≤◌, ◌<◌}
use mathlib.Core.Bool.{Bool, true, false}
use mathlib.Core.List.{List, [], ◌∷◌, ◌++◌, append_assoc}
use mathlib.Core.Path.{◌≡◌, refl, sym, ap, subst, ◌∙◌}
use native.Mathlib.Numerals.{add-one}
use native.Mathlib.Omega.{arith}
use lib.Dec.{T}
use lib.ListN.{length, get_or, take, length-append}
use Rattle.ast.specs.Written.{Written, Cleared}
use Rattle.grammar.specs.Kind.{Eof}
use Rattle.grammar.specs.Room.{cleared, filled}
use Rattle.grammar.specs.Token.{count}
use Rattle.lexer.specs.Reads.{blank, Stands, Longest, Blank, TextReads, Stops}
use Rattle.lexer.specs.Parts.{BlanksEnd, StartCase, Starts, Capacity, Kept}
use Rattle.lexer.specs.Lexes.{success, refuse, Readable, Lexes}
use Rattle.std.specs.Prelude.{Option, Some, None}
use Rattle.lexer.proofs.Standing.{stands_some}

-- what the parts say at a place
module _ {text : List ℕ} {i : ℕ} where
  pub a_blank : {r : Bool} → i < length text → r ≡ blank (get_or text i 0) → r ≡ true → Blank text i
  a_blank h e t = record { inside = h; test = so (blank (get_or text i 0)) (sym e ∙ t) }
    where
      so : (b : Bool) → b ≡ true → T b
      so b z = rw z tt

  pub no_blank : {r : Bool} → r ≡ blank (get_or text i 0) → r ≡ false → Blank text i → ⊥
  no_blank e f b = so (blank (get_or text i 0)) (sym e ∙ f) b.test
    where
      so : (b : Bool) → b ≡ false → T b → ⊥
      so b z t = rw z at t

  pub token_there : {r : Option (ℕ × ℕ)} {k e : ℕ} → r ≡ Some (k, e) → Starts text i r → Longest text k i e
  unfolding StartCase
  token_there z s = (rw z at s).says

  pub nothing_there : {r : Option (ℕ × ℕ)} → r ≡ None → Starts text i r → (k e : ℕ) → Stands text k i e → ⊥
  unfolding StartCase
  nothing_there z s = (rw z at s).says

pub record Made (text room : List ℕ) (rows : ℕ) (list : List ℕ) (n at : ℕ) : Type 0 where
  pub ts : List ℕ
  pub size : length ts ≡ 3 * n
  pub reads : (us : List ℕ) → TextReads text at us → TextReads text 0 (ts ++ us)
  pub stops : (j : ℕ) → Stops text at j → Stops text 0 j
  pub written : n ≤ rows → take (3 * n) list ≡ ts
  pub same : length list ≡ length room
  pub fewer : n ≤ at
  pub within : at ≤ length text

pub made_none : {text room : List ℕ} {rows : ℕ} → Made text room rows room 0 0
made_none = record { ts = []; size = refl; reads = λ us r. r; stops = λ j s. s; written = λ h. refl; same = refl; fewer = omega arith; within = omega arith }

module _ {text room : List ℕ} {rows : ℕ} {list : List ℕ} {n at : ℕ} (m : Made text room rows list n at) where
  pub made_blank : Blank text at → Made text room rows list n (at + 1)
  made_blank b =
      record {
        ts = m.ts;
        size = m.size;
        reads = λ us r. m.reads us (TextReads.skip b (rw add-one at r));
        stops = λ j s. m.stops j (Stops.skip b (rw add-one at s));
        written = m.written;
        same = m.same;
        fewer = omega (arith, m.fewer);
        within = omega (arith, b.inside);
      }

  pub made_token : {k e : ℕ} {after : List ℕ} → Longest text k at e → Kept rows n k at e list after → Made text room rows after (n + 1) e
  made_token {k} {e} {after} l w =
      record {
        ts = m.ts ++ k ∷ at ∷ e ∷ [];
        size = length-append m.ts (k ∷ at ∷ e ∷ []) ∙ omega (arith, m.size);
        reads = λ us r. rw append_assoc (m.reads (k ∷ at ∷ e ∷ us) (TextReads.token l r));
        stops = λ j s. m.stops j (Stops.token l s);
        written = λ h. (w.row (omega arith)).rows ∙ ap (λ (x : List ℕ). x ++ k ∷ at ∷ e ∷ []) (m.written (omega arith));
        same = w.size ∙ m.same;
        fewer = omega (arith, m.fewer, stands_some l.stands);
        within = l.stands.inside;
      }

  -- a room that is cleared throughout
  all_zeros : {after : List ℕ} → Cleared 0 list after → after ≡ cleared room
  all_zeros z = let e : length list - 0 ≡ length room = omega (arith, m.same) in z.zeros ∙ rw e

  pub stopped : {after : List ℕ} → Readable text → at < length text → (Blank text at → ⊥) → ((k e : ℕ) → Stands text k at e → ⊥) → Cleared 0 list after → Lexes text room (refuse 16 at (at + 1)) after
  stopped r h b s z = rw (all_zeros z) (Lexes.no_token r (m.stops at (Stops.here h b s)))

  -- the list of all tokens, Eof last
  whole : at ≡ length text → TextReads text 0 (m.ts ++ Eof ∷ at ∷ at ∷ [])
  whole e = m.reads (Eof ∷ at ∷ at ∷ []) (TextReads.end e)

  counted : count (m.ts ++ Eof ∷ at ∷ at ∷ []) ≡ n + 1
  counted = rw (length-append m.ts (Eof ∷ at ∷ at ∷ [])) (omega (arith, m.size))

  pub too_many : {after : List ℕ} → Readable text → at ≡ length text → Capacity (length room) rows → rows ≤ n → Cleared 0 list after → Lexes text room (refuse 1 0 0) after
  too_many r e c h z = rw (all_zeros z) (Lexes.too_many r (whole e) (λ f. omega (arith, counted, c.all (n + 1) (omega (arith, f.most, counted)) (omega (arith, f.rows, counted)))))

  pub all_made : {next after : List ℕ} → Readable text → at ≡ length text → Capacity (length room) rows → n < rows → Written (3 * n) (3 * (n + 1)) (Eof ∷ at ∷ at ∷ []) list next → Cleared (3 * (n + 1)) next after → Lexes text room (success (n + 1)) after
  all_made {next} {after} r e c h w z = said (sym counted) left (Lexes.made r (whole e) (record { most = omega (arith, counted, c.most); rows = omega (arith, counted, c.rows) }))
    where
      said : {a b : ℕ} {x y : List ℕ} → a ≡ b → x ≡ y → Lexes text room (success b) y → Lexes text room (success a) x
      said p q l = rw (p, q) l

      left : after ≡ filled (m.ts ++ Eof ∷ at ∷ at ∷ []) room
      left =
          let free : length next - 3 * (n + 1) ≡ length room - length (m.ts ++ Eof ∷ at ∷ at ∷ []) = omega (arith, w.size, m.same, m.size, length-append m.ts (Eof ∷ at ∷ at ∷ [])) in
          z.zeros ∙ rw (w.rows, m.written (omega arith), free)

-- one blank, and all that follow it
module _ {text room : List ℕ} {rows : ℕ} {list : List ℕ} {n j : ℕ} where
  past : {from : ℕ} → BlanksEnd text from j → (d i : ℕ) → i + d ≡ j → from ≤ i → Made text room rows list n i → Made text room rows list n j
  past b zero i e l m = let h : i ≡ j = omega (arith, e) in subst (λ (k : ℕ). Made text room rows list n k) h m
  past b (suc d) i e l m = past b d (i + 1) (omega (arith, e)) (omega (arith, l)) (made_blank m (b.blanks i l (omega (arith, e))))

  pub made_blanks : {at : ℕ} → Made text room rows list n at → Blank text at → BlanksEnd text (at + 1) j → Made text room rows list n j
  made_blanks {at} m h b = past b (j - (at + 1)) (at + 1) (omega (arith, b.forward)) (omega arith) (made_blank m h)
