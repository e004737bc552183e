use Rattle.std.proofs.Common.{sym, subst, replicate}
use Rattle.std.proofs.lemmas.List.{length-replicate}
use Rattle.pool.specs.declared.place.Place.TheVariants.{Out}
use Rattle.pool.specs.Stacks.{Tally, Once}
use Rattle.pool.specs.Stocking.{Tally-bare, Once-bare}
use Rattle.pool.proofs.shelf.Shelf.bare.Goals as goal

pub invariant_of-result : goal.invariant_of-result
invariant_of-result g c =
    let none = sym c.empty_stacks.ensures in record {
      whole = length-replicate 256 Out;
      tally = subst (λ stacks. Tally (replicate 256 Out) stacks) none (Tally-bare g.row.N);
      once = subst (λ stacks. Once (replicate 256 Out) stacks) none (Once-bare g.row.N);
    }
