-- The law of runs, on what the two groups of calls came to.
use Rattle.executive.specs.Running.{machine, set_up}
use Rattle.executive.proofs.Goings.{went_first, went_on}
use Rattle.executive.proofs.Groups.{groups_lawful}
use Rattle.executive.proofs.runs.run_groups.Goals as goal

pub returns : goal.returns
returns g c =
    let s = c.args.setup in
    let one = c.in_ok-one.ensures in
    let two = c.in_ok-two.ensures in
    let started = c.start-executive.ensures in
    groups_lawful (set_up s) s.proper c.args.first.now c.in_ok-one.one (machine c.make_group.new.self)
    (went_first started one.runs) one.answered one.gvt one.out
    c.args.second.now c.in_ok-two.two (machine c.make_group-2.new.self)
    (went_on started one.runs two.runs) two.answered two.gvt two.out
