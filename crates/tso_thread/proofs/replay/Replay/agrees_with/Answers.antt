use Rattle.tso_thread.proofs.Fronts.{not_front}
use Rattle.tso_thread.proofs.replay.Replay.agrees_with.Goals as goal

pub returns-else-self : goal.returns-else-self
returns-else-self c = not_front c.args.self.now.made c.args.entry.now c.args.self.now.ops.now c.args.self.now.agrees c.args.self.now.agree c.if-self.false
