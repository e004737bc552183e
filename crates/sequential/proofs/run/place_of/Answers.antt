-- The event goes before the first later one, or behind all.
use Rattle.std.proofs.Common.{deque_items}
use Rattle.sequential.proofs.Waits.{queued-placed}
use Rattle.sequential.proofs.run.place_of.Goals as goal

pub returns-clause-place : goal.returns-clause-place
returns-clause-place c = queued-placed c.args.event.now (deque_items c.args.waiting.now) c.unwrap_or.result (cc)
