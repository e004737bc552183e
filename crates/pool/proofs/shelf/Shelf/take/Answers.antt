use Rattle.std.proofs.Common.{◌<◌, length, refl, ◌∙◌, arith, length-set}
use Rattle.pool.specs.declared.place.Place.TheVariants.{Out}
use Rattle.pool.proofs.Keeping.{on_top, Tally-pop, Once-pop}
use Rattle.pool.proofs.shelf.Shelf.take.Goals as goal

pub invariant_of-self-2 : goal.invariant_of-self-2
invariant_of-self-2 g c =
    let s = c.args.self.now in
    let b = c.in_ok-buffer.buffer in
    let lane : c.args.lane < length s.stacks = omega arith in
    let known : b < length s.places = omega arith in
    let top = c.in_ok-buffer.ensures in record {
      whole = length-set s.places b Out ∙ s.whole;
      tally = Tally-pop s.places s.stacks _ b _ _ s.tally s.once lane known top;
      once = Once-pop s.places s.stacks _ b _ _ s.tally s.once lane known top;
    }

pub returns : goal.returns
returns g c =
    let s = c.args.self.now in
    let lane : c.args.lane < length s.stacks = omega arith in
    let known : c.in_ok-buffer.buffer < length s.places = omega arith in
    (omega arith, on_top s.places s.stacks _ _ _ _ s.tally s.once lane known c.in_ok-buffer.ensures, refl)
