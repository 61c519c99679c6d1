-- `Row::show_tree` ends, since a child's number is below its parent's.
use Rattle.showing.proofs.Row.+show_tree.Given as goal

abbrev pub decreases-show_tree : goal.decreases-show_tree
decreases-show_tree l = l.self.id
