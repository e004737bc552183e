-- Each call of the closure starts its process as the model does.
use Rattle.std.proofs.Common.{ℕ, rules}
use Rattle.sequential.proofs.Arrays.{from_fn-map}
use Rattle.sequential.specs.Events.{nobody}
use Rattle.sequential.specs.Run.{fresh}
use Rattle.sequential.specs.declared.event.Process.{Process}
use Rattle.sequential.proofs.run.fresh_processes.Goals as goal

pub returns : goal.returns
unfolding fresh
returns g c =
    let f : ℕ → Process = λ p. record { state = (g.M.Model.meaning c.args.model.now).initial p; count = 0 } in
    from_fn-map _ _ f (λ i y q called. search rules) c.from_fn.result 32 nobody c.from_fn.ensures.items
