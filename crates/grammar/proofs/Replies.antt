-- The table of calls is right, by computation: the certified door decides whether a call is let in, and the certified reader what comes of it then.
use Prim.Native.Nat.{ℕ}
use mathlib.Core.List.{List, [], ◌∷◌, map}
use mathlib.Core.Option.{Option, some, none}
use mathlib.Core.Path.{◌≡◌, refl, subst}
use native.Mathlib.Decide.{ℕ_discrete, dec_le, dec_lt}
use native.Mathlib.Omega.{arith}
use lib.ListN.{length}
use Rattle.grammar.specs.Answer.{Answer, success, refuse, rooms_cleared, rooms_filled, Answers}
use Rattle.grammar.specs.Call.{Call}
use Rattle.grammar.specs.Derivative.{nullable, after, matches}
use Rattle.grammar.specs.Edition.{edition}
use Rattle.grammar.specs.Handle.{block_tail, block_list}
use Rattle.grammar.specs.Kaori.{above, rules, kaori}
use Rattle.grammar.specs.Layout.{layout}
use Rattle.grammar.specs.Lexeme.{spelling}
use Rattle.grammar.specs.Naming.{linked_nodes, linked_entries, naming, named_by}
use Rattle.grammar.specs.Outcome.{Outcome, accepted, refusal, Comes}
use Rattle.grammar.specs.Parent.{parent, parented_below, written}
use Rattle.grammar.specs.Pattern.{literal}
use Rattle.grammar.specs.Refusal.{refused}
use Rattle.grammar.specs.Replies.{Reply, AllAnswered, replies}
use Rattle.grammar.specs.Room.{Rooms}
use Rattle.grammar.specs.Rows.{links_of, numbers, write, fill, put, make, walk, unparented}
use Rattle.grammar.specs.Rule.{rule}
use Rattle.grammar.specs.Space.{has_word, space_of}
use Rattle.grammar.specs.Symbol.{same, seek, look_up, interned, symbol_rows, symbol, symbol_in}
use Rattle.grammar.specs.Token.{start, end}
use Rattle.grammar.proofs.Doors.{by_test, carried, also, either, implies, denied, look_through, each, text_is, matched, fitting, parted, sounds, closes, in_parts, in_names, in_identifiers, right_names, in_bytes, in_tokens, in_ends, in_profile, ask, find, Verdict, inside, turned, verdict}
use Rattle.grammar.proofs.Reader.{fit_rows, fit_word, fit, reader}
use Rattle.grammar.proofs.Samples.{answer, outcome_of, right, coming}

module _ (c : Call) where
  -- what comes of its list
  abbrev came : Option Outcome
  came = coming c.profile (edition c.edition) c.names c.text c.tokens c.limit (space_of c.rooms) (length c.rooms.symbols)

  came_right : (o : Outcome) → came ≡ some o → Comes c.profile (edition c.edition) c.names c.text c.tokens c.limit (space_of c.rooms) (length c.rooms.symbols) o
  unfolding coming
  came_right o e = right c.profile (edition c.edition) c.names c.text c.tokens c.limit (space_of c.rooms) (length c.rooms.symbols) (answer c.profile (edition c.edition) c.names c.text c.tokens c.limit (space_of c.rooms) (length c.rooms.symbols)) e

  -- what is answered, of what the door says and what comes of the list
  unfoldable reply : Verdict c → Option Outcome → Option (Answer × Rooms)
  reply (turned code at from upto t) o = some (refuse code at from upto 255, c.rooms)
  reply (inside d) (some (accepted w ss)) = some (success w ss, rooms_filled w ss c.rooms)
  reply (inside d) (some (refusal (refused code at expected))) = some (refuse code at (start c.tokens at) (end c.tokens at) expected, rooms_cleared c.rooms)
  reply (inside d) none = none

  said : {a b : Answer} {r s : Rooms} → Answers c a r → ◌≡◌ {A = Option (Answer × Rooms)} (some (a, r)) (some (b, s)) → Answers c b s
  said {a} {b} {r} {s} x e = let z : ◌≡◌ {A = Answer × Rooms} (a, r) (b, s) = cc in subst (λ (p : Answer × Rooms). Answers c p.0 p.1) z x

  replied : (v : Verdict c) (o : Option Outcome) → ((p : Outcome) → o ≡ some p → Comes c.profile (edition c.edition) c.names c.text c.tokens c.limit (space_of c.rooms) (length c.rooms.symbols) p) → {a : Answer} {r : Rooms} → reply v o ≡ some (a, r) → Answers c a r
  unfolding reply
  replied (turned code at from upto t) o f e = said (Answers.turned_away t) e
  replied (inside d) (some (accepted w ss)) f e = said (Answers.accepted d (f _ refl)) e
  replied (inside d) (some (refusal (refused code at expected))) f e = said (Answers.refused d (f _ refl)) e
  replied (inside d) none f e = absurd (let z : ◌≡◌ {A = ℕ} 0 1 = cc in omega arith)

all_answered : (rs : List Reply) → map (λ r. reply r.call (verdict r.call) (came r.call)) rs ≡ map (λ r. some (r.answer, r.after)) rs → AllAnswered rs
all_answered [] e = tt
all_answered (r ∷ rs) e = (replied r.call (verdict r.call) (came r.call) (came_right r.call) (cc), all_answered rs (cc))

pub replies_right : AllAnswered replies
unfolding reply verdict look_through each ask find by_test also either implies denied carried text_is matched fitting parted sounds closes in_parts in_names in_identifiers right_names in_bytes in_tokens in_ends in_profile dec_le literal spelling edition coming answer outcome_of reader fit fit_word fit_rows has_word kaori rules above matches after nullable ℕ_discrete dec_lt written parented_below parent named_by naming linked_nodes linked_entries layout unparented walk make put fill write numbers links_of symbol symbol_in symbol_rows interned look_up seek same rule block_list block_tail
replies_right = all_answered replies refl
