use Rattle.witness_check.proofs.Settled.{stop_settles}
use Rattle.witness_check.proofs.settling.settled.Goals as goal

pub returns-in-Err-clause-refused : goal.returns-in-Err-clause-refused
returns-in-Err-clause-refused g c = stop_settles c.args.first c.args.tried c.args.breaks c.in-Err.stop c.refusal_at.result c.in-Err.is c.refusal_at.ensures.fault c.refusal_at.ensures.memory
