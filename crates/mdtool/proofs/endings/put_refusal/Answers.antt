use Rattle.mdtool.proofs.Refusals.{refusal_is}
use Rattle.mdtool.proofs.endings.put_refusal.Goals as goal

pub returns-in_default : goal.returns-in_default
returns-in_default g c = rw (refusal_is c.args.fault.now c.in_default.not-NoMemory) c.put_refused.ensures
