-- A script's call without some statements: the door lets it in, and its tokens read as the others.
use Prim.Native.Nat.{ℕ, zero, suc, ◌+◌, ◌-◌, ◌*◌, ◌≤◌, ◌<◌}
use mathlib.Core.Bool.{Bool, true}
use mathlib.Core.List.{List, ◌++◌}
use mathlib.Core.Path.{◌≡◌, refl, sym, ap, ◌∙◌}
use native.Mathlib.Decide.{dec_lt}
use native.Mathlib.Omega.{arith}
use lib.ListN.{length, take, length-append}
use lib.Seq.{take-add, take_all}
use Rattle.grammar.specs.Call.{Call}
use Rattle.grammar.specs.Door.{Sound, Closed, Inside, Admitted}
use Rattle.grammar.specs.Edition.{Edition, edition}
use Rattle.grammar.specs.Kind.{Eof}
use Rattle.grammar.specs.Label.{Label}
use Rattle.grammar.specs.Phrase.{Tree, none, made, depth}
use Rattle.grammar.specs.Profile.{Profile, ReadsAll}
use Rattle.grammar.specs.Token.{count, kind, start, end}
use Rattle.grammar.proofs.Demands.{last_token}
use Rattle.grammar.proofs.Follow.{forth}
use Rattle.grammar.proofs.Forest.{Begins, begins_self}
use Rattle.parts.specs.Dropped.{tokens_between, kept_tokens, without, leaving}
use Rattle.parts.proofs.Carried.{eof_fresh}
use Rattle.parts.proofs.Kinship.{kept, Items, Fresh, Keeps}
use Rattle.parts.proofs.Leaving.{left, landing, landing_end, landing_zero, landing_rises, left_most, kept_length, between_length, number_at, keeps_of, Source, source}
use Rattle.parts.proofs.Sequence.{AsItems, script_of, Kept, kept_items, kept_depth}

-- tokens stand in order
ordered : {k : Call} → Admitted k → (p q : ℕ) → p < q → q < count k.tokens → end k.tokens p ≤ start k.tokens q
ordered d p zero h i = absurd (omega arith)
ordered {k} d p (suc q) h i = elim (dec_lt p q) [ yes j ↦ omega (arith, ordered d p q j (omega arith), (d.sound q (omega arith)).forward, (d.sound (suc q) i).apart q refl) | no j ↦ (let z : p ≡ q = omega arith in rw z ((d.sound (suc q) i).apart q refl)) ]

kept_of : {ts ts' : List ℕ} {c : ℕ → Bool} {f span : ℕ → ℕ} {t : Tree Label} → Keeps ts ts' c f span t → Kept c f (kind ts) (kind ts') t
kept_of Keeps.nil = Kept.nil
kept_of (Keeps.stays z kin q) = Kept.keep z (record { steps = λ i p h. (kin i p h).step; kinds = λ i p h. (kin i p h).kind_is }) (kept_of q)
kept_of (Keeps.goes z w q) = Kept.drop z w (kept_of q)

-- what is known of the call that is left, where the statements' items are t₀
pub record Shorter (call : Call) (c : ℕ → Bool) (t₀ : Tree Label) : Type 0 where
  pub door : Admitted (leaving call c (made Label.Script 0 (count call.tokens - 1) t₀))
  pub starts : landing c t₀ 0 ≡ 0
  pub ends : count (without c call.tokens (made Label.Script 0 (count call.tokens - 1) t₀)) ≡ landing c t₀ (count call.tokens - 1) + 1
  pub eof : kind (without c call.tokens (made Label.Script 0 (count call.tokens - 1) t₀)) (landing c t₀ (count call.tokens - 1)) ≡ Eof
  pub fresh : Fresh (kind call.tokens (count call.tokens - 1))
  pub keeping : Keeps call.tokens (without c call.tokens (made Label.Script 0 (count call.tokens - 1) t₀)) c (landing c t₀) (λ x. x) t₀
  pub statements : Items (edition call.edition) (kind (without c call.tokens (made Label.Script 0 (count call.tokens - 1) t₀))) (landing c t₀ (count call.tokens - 1)) (kept c (landing c t₀) none t₀)
  pub reading : ReadsAll Profile.script (edition call.edition) (kind (without c call.tokens (made Label.Script 0 (count call.tokens - 1) t₀))) (count (without c call.tokens (made Label.Script 0 (count call.tokens - 1) t₀))) (made Label.Script 0 (landing c t₀ (count call.tokens - 1)) (kept c (landing c t₀) none t₀))
  pub shallow : depth (made Label.Script 0 (landing c t₀ (count call.tokens - 1)) (kept c (landing c t₀) none t₀)) ≤ depth (made Label.Script 0 (count call.tokens - 1) t₀)

module _ (call : Call) (d : Admitted call) (c : ℕ → Bool) {t : Tree Label} (i : Items (edition call.edition) (kind call.tokens) (count call.tokens - 1) t) where
  abbrev ts : List ℕ
  ts = call.tokens

  abbrev n : ℕ
  n = count ts - 1

  abbrev ts' : List ℕ
  ts' = kept_tokens c ts t ++ tokens_between ts n (n + 1)

  abbrev f : ℕ → ℕ
  f = landing c t

  enough : 3 * (n + 1) ≤ length ts
  enough = let p = d.whole.rows in let q = d.whole.some in omega arith

  front : length (kept_tokens c ts t) ≡ 3 * left c t
  front = kept_length c ts i (omega (arith, enough))

  all_numbers : length ts' ≡ 3 * (left c t + 1)
  all_numbers = omega (arith, length-append (kept_tokens c ts t) (tokens_between ts n (n + 1)), front, between_length ts n (n + 1) enough)

  tokens_left : count ts' ≡ left c t + 1
  tokens_left = omega (arith, all_numbers)

  keeping' : Keeps ts ts' c f (λ x. x) t
  keeping' = keeps_of ts ts' c f i (λ j h. refl) (record { rest = tokens_between ts n (n + 1); same = refl }) (omega (arith, enough))

  -- the token at a place, and where it stood
  record Stood (j : ℕ) : Type 0 where
    pub at : ℕ
    pub below : at ≤ n
    pub lands : f at ≡ j
    pub kind_is : kind ts' j ≡ kind ts at
    pub start_is : start ts' j ≡ start ts at
    pub end_is : end ts' j ≡ end ts at

  eof_stood : Stood (left c t)
  eof_stood =
      let g : Begins ts' ts' = begins_self ts' in
      record {
        at = n;
        below = omega arith;
        lands = landing_end c i;
        kind_is = number_at ts (kept_tokens c ts t) ts' n (n + 1) (left c t) enough front g n 0 (3 * left c t) (3 * n) (omega arith) (omega arith) (omega arith) (omega arith) (omega arith);
        start_is = number_at ts (kept_tokens c ts t) ts' n (n + 1) (left c t) enough front g n 1 (3 * left c t + 1) (3 * n + 1) (omega arith) (omega arith) (omega arith) (omega arith) (omega arith);
        end_is = number_at ts (kept_tokens c ts t) ts' n (n + 1) (left c t) enough front g n 2 (3 * left c t + 2) (3 * n + 2) (omega arith) (omega arith) (omega arith) (omega arith) (omega arith);
      }

  stood : (j : ℕ) → j < count ts' → Stood j
  stood j h = elim (dec_lt j (left c t)) [ yes p ↦ from (source ts ts' c f i (λ m v. refl) keeping' j p) | no p ↦ (let z : j ≡ left c t = omega (arith, tokens_left) in rw z eof_stood) ]
    where
      from : Source ts ts' c f n j → Stood j
      from s =
          let k = s.kin in
          let e = s.lands in
          record { at = s.at; below = omega (arith, s.below); lands = e; kind_is = ap (λ x. kind ts' x) (sym e) ∙ k.kind_is; start_is = ap (λ x. start ts' x) (sym e) ∙ k.start_is; end_is = ap (λ x. end ts' x) (sym e) ∙ k.end_is }

  sound' : (j : ℕ) → j < count ts' → Sound call.text ts' j
  sound' j h =
      let s = stood j h in
      let o = d.sound s.at (omega (arith, s.below, d.whole.some)) in
      record {
        known = rw s.kind_is o.known;
        forward = rw (s.start_is, s.end_is) o.forward;
        inside = rw s.end_is o.inside;
        apart = apart s;
        fits = rw (s.kind_is, s.start_is, s.end_is) o.fits;
      }
    where
      apart : Stood j → (p : ℕ) → suc p ≡ j → end ts' p ≤ start ts' j
      apart s p e =
          let q = stood p (omega arith) in
          let less : q.at < s.at = elim (dec_lt q.at s.at) [ yes u ↦ u | no u ↦ absurd (omega (arith, landing_rises c i s.at q.at (omega arith) q.below, q.lands, s.lands)) ] in
          rw (q.end_is, s.start_is) (ordered d q.at s.at less (omega (arith, s.below, d.whole.some)))

  closed' : (j : ℕ) → j < count ts' → Closed ts' j
  unfolding eof_stood
  closed' j h =
      let s = stood j h in
      record {
        only = λ e. (let z = (d.closed s.at (omega (arith, s.below, d.whole.some))).only (sym s.kind_is ∙ e) in let y : s.at ≡ n = omega arith in let x : f n ≡ j = rw y at s.lands in omega (arith, landing_end c i, tokens_left));
        last = λ e. (let z : j ≡ left c t = omega (arith, tokens_left) in rw z (eof_stood.kind_is ∙ last_token d));
      }

  inside' : (j : ℕ) → j < count ts' → Inside call.profile ts' j
  inside' j h = let s = stood j h in rw s.kind_is (d.inside s.at (omega (arith, s.below, d.whole.some)))

  door' : Admitted (leaving call c (made Label.Script 0 n t))
  unfolding without
  door' =
      let fewer = left_most c i in
      let l = tokens_left in
      let a = all_numbers in
      let w = d.whole in
      let r = d.roomy in
      record {
        whole = record { rows = omega arith; some = omega arith; most = omega arith };
        short = d.short;
        some_depth = d.some_depth;
        least_depth = d.least_depth;
        edition = d.edition;
        roomy = omega arith;
        named = d.named;
        names_fit = d.names_fit;
        ascii = d.ascii;
        sound = sound';
        closed = closed';
        inside = inside';
      }

  pub shorter : Shorter call c t
  unfolding without depth eof_stood
  shorter =
      let at-end = landing_end c i in
      let end_is : count ts' - 1 ≡ f n = omega (arith, tokens_left, at-end) in
      let last = last_token d in
      let eof_is : kind ts' (f n) ≡ Eof = rw at-end (eof_stood.kind_is ∙ last) in
      let u : Fresh (kind ts n) = rw last eof_fresh in
      let v : Fresh (kind ts' (f n)) = rw eof_is eof_fresh in
      let j = kept_items {c = c} {f = f} {k = kind ts} {k' = kind ts'} {s = none} i (kept_of keeping') u v (rw (landing_zero c i) Items.nil) in
      record {
        door = door';
        starts = landing_zero c i;
        ends = omega (arith, tokens_left, at-end);
        eof = eof_is;
        fresh = u;
        keeping = keeping';
        statements = j;
        reading = rw end_is (script_of j eof_is);
        shallow = omega (arith, kept_depth c f none i);
      }

-- where every statement is kept, nothing changes
all_tokens : (ts : List ℕ) {e : Edition} {k : ℕ → ℕ} {n : ℕ} {t : Tree Label} → Items e k n t → kept_tokens (λ i. true) ts t ≡ take (3 * n) ts
unfolding kept_tokens
all_tokens ts Items.nil = refl
all_tokens ts (Items.next {b = b} {c = n} i x) = let h = forth x in let z : 3 * n ≡ 3 * b + 3 * (n - b) = omega arith in ap (λ l. l ++ tokens_between ts b n) (all_tokens ts i) ∙ sym (rw z (take-add (3 * b) (3 * (n - b)) ts))

pub all_kept_tokens : (call : Call) → Admitted call → {e : Edition} {k : ℕ → ℕ} {t : Tree Label} → AsItems e k (count call.tokens - 1) t → without (λ i. true) call.tokens t ≡ call.tokens
unfolding without
all_kept_tokens call d (AsItems.as_items {t = t} i e) =
    let ts = call.tokens in
    let n = count call.tokens - 1 in
    let rows = d.whole.rows in
    let some = d.whole.some in
    let z : 3 * n + 3 * (n + 1 - n) ≡ 3 * (n + 1) = omega arith in
    ap (λ l. l ++ tokens_between ts n (n + 1)) (all_tokens ts i) ∙ sym (take-add (3 * n) (3 * (n + 1 - n)) ts) ∙ ap (λ j. take j ts) z ∙ take_all (3 * (n + 1)) ts (omega arith)
