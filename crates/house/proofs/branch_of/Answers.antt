-- `branch_of` meets its contract: both arrays pass the one test over all eight branches, and the rule follows at 2·s + x.
-- Assumes nothing.
use Rattle.std.proofs.Common.{refl}
use Rattle.lists.specs.Lists.{every, upto}
use Rattle.house.specs.House.{house_parity, house_next}
use Rattle.house.specs.laws.Branches.{are_branches, branch_at}
use Rattle.house.proofs.branch_of.Goals as goal

-- `refl` is the test: the checker computes it over the arrays as they stand in the code
pub returns : goal.returns
unfolding are_branches every upto house_parity house_next
returns c = branch_at _ _ refl c.requires.s_bound c.requires.x_bound
