use Rattle.std.proofs.Common.{◌≡◌, length, take, vec_items}
use Rattle.executive.specs.Running.{Goes}
use Rattle.executive.specs.Runs.{transcript_of}
use Rattle.executive.proofs.Executive.make_all.Given as goal

-- the calls so far and their answers are a run
abbrev pub invariant-loop-call : goal.invariant-loop-call
invariant-loop-call g l = record {
  answered : length (vec_items l.answers) ≡ l.call-index;
  runs : Goes l.initial.self (transcript_of (take l.call-index l.calls) (vec_items l.answers)) l.self;
}
