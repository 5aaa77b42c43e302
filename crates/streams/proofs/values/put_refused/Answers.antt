-- The line of a refusal takes 50 bytes at most.
use Rattle.streams.proofs.Growing.{refusal_grows}
use Rattle.streams.proofs.values.put_refused.Goals as goal

pub returns-clause-grows : goal.returns-clause-grows
returns-clause-grows c = refusal_grows _ _ c.put_refusal.ensures
