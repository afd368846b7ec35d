-- `run_cases` counts no more cases than it takes turns.
-- Each turn counts one case as agreeing or as differing. Assumes nothing.
use Rattle.std.proofs.Common.{◌≤◌}
use Rattle.replay.proofs.run_cases.Given as goal

abbrev pub invariant-loop-turn : goal.invariant-loop-turn
invariant-loop-turn g l = (l.count.agree ≤ l.turn) × (l.count.differ ≤ l.turn)
