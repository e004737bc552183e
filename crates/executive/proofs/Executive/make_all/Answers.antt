-- Each call goes on from where the run has come.
use Rattle.std.proofs.Common.{◌≡◌, ◌+◌, length, take, vec_items, refl, ap, ◌∙◌, subst}
use Rattle.std.proofs.lemmas.List.{take_all, length_push}
use Rattle.machine.specs.declared.call.Call.TheVariants.{Post}
use Rattle.machine.specs.Calls.Run.{rests}
use Rattle.executive.specs.Running.{Goes}
use Rattle.executive.specs.Runs.{transcript_of}
use Rattle.executive.proofs.Goings.{goes_call}
use Rattle.executive.proofs.Executive.make_all.Goals as goal

pub loop-call-init : goal.loop-call-init
loop-call-init g c = record {
  answered = ap length c.new-answers.ensures.items;
  runs = record { model = refl; plan = refl; runs = rests };
}

pub loop-call-preserved : goal.loop-call-preserved
loop-call-preserved g c =
    let items = c.in_ok-push.ensures.items in
    let answers = vec_items c.loop-call.answers in
    let answer = c.in_ok-make.field-0 in
    let run = c.loop-call.invariant in
    record {
      answered = ap length items ∙ length_push answers answer ∙ ap (λ n. n + 1) run.answered;
      runs = goes_call c.args.calls.now answers (vec_items c.push.new.self) c.loop-call.call-index (Post 0 0 0) answer
          c.loop-call-test.true run.answered items run.runs c.in_ok-make.ensures.makes;
    }

pub returns-clause-runs : goal.returns-clause-runs
returns-clause-runs g c =
    let calls = c.args.calls.now in
    let all : take c.loop-call.call-index calls ≡ calls = take_all c.loop-call.call-index calls
    c.loop-call-test.false in
    subst (λ cs. Goes c.args.self.now (transcript_of cs (vec_items c.loop-call.answers)) c.loop-call.self) all
    c.loop-call.invariant.runs
