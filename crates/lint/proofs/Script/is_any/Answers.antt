-- `Script::is_any` meets its contract: the first rule that is met, or the last.
use mathlib.Core.Logic.{◌⊎◌}
use Rattle.spelling.specs.Decides.{Decides}
use Rattle.spelling.proofs.Deciding.{held, failed, said}
use Rattle.lint.specs.Rules.{ReachingNot, CutOff, GoingOn}
use Rattle.lint.proofs.Laws.{first_decides, second_decides, any_met, any_of}
use Rattle.lint.proofs.Script.is_any.Goals as goal
use Rattle.lint.proofs.Script.is_any.Goals.{Joined-is_cut_off, then-is_reaching, else-is_reaching, then-is_cut_off, else-is_cut_off}

-- what the first three rules decide
first_two : (c : Joined-is_cut_off) → Decides (ReachingNot c.args.self.tokens.now c.args.self.nodes.now c.args.row ⊎ CutOff c.args.self.tokens.now c.args.self.nodes.now c.args.row) c.if-is_reaching.value
first_two c = elim c.if-is_reaching.branch [
  | then-is_reaching w ↦ first_decides c.is_reaching.ensures w.if-is_reaching.true w.value-is
  | else-is_reaching w ↦ second_decides c.is_reaching.ensures w.if-is_reaching.false w.is_cut_off.ensures w.value-is
]

first_three : (c : Joined-is_cut_off) → Decides ((ReachingNot c.args.self.tokens.now c.args.self.nodes.now c.args.row ⊎ CutOff c.args.self.tokens.now c.args.self.nodes.now c.args.row) ⊎ GoingOn c.args.self.text.now c.args.self.tokens.now c.args.self.nodes.now c.args.row) c.if-is_cut_off.value
first_three c = elim c.if-is_cut_off.branch [
  | then-is_cut_off w ↦ first_decides (first_two c) w.if-is_cut_off.true w.value-is
  | else-is_cut_off w ↦ second_decides (first_two c) w.if-is_cut_off.false w.is_going_on.ensures w.value-is
]

pub returns-then-is_going_on : goal.returns-then-is_going_on
returns-then-is_going_on c = rw c.if-is_going_on.true (any_met (held (said (first_three (goal.at.returns-then-is_going_on c).Joined-is_cut_off) c.if-is_going_on.true)))

pub returns-else-is_going_on : goal.returns-else-is_going_on
returns-else-is_going_on c = any_of (failed (said (first_three (goal.at.returns-else-is_going_on c).Joined-is_cut_off) c.if-is_going_on.false)) c.is_long.ensures
