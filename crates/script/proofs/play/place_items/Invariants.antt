use Rattle.std.proofs.Common.{◌≡◌, drop}
use Rattle.machine.specs.declared.plan.Plan.{Plan}
use Rattle.script.specs.Playing.{Settles}
use Rattle.script.proofs.play.place_items.Given as goal

-- where what is left of the items leads from here, all of them lead from the beginning
abbrev pub invariant-loop-item : goal.invariant-loop-item
invariant-loop-item g l =
    let m = g.M.Model.meaning l.initial.setup.model in
    record {
      same : l.setup.model ≡ l.initial.setup.model;
      leads : (v : Plan) → Settles m l.setup.plan (drop l.item-index l.items) v →
          Settles m l.initial.setup.plan l.items v;
    }
