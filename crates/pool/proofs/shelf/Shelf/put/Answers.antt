use Rattle.std.proofs.Common.{◌≡◌, ◌<◌, [], length, sym, ◌∙◌, arith, length-set}
use Rattle.pool.specs.declared.place.Place.TheVariants.{Out, Lane}
use Rattle.pool.specs.Lanes.{place_at}
use Rattle.pool.specs.Laws.{out_is}
use Rattle.pool.proofs.Keeping.{height_room, Tally-push, Once-push}
use Rattle.pool.proofs.shelf.Shelf.put.Goals as goal

pub push-requires : goal.push-requires
push-requires g c =
    let s = c.args.self.now in
    let lane : c.args.lane < length s.stacks = omega arith in
    let known : c.args.buffer < length s.places = omega arith in
    let out = out_is _ (sym c.is_out.ensures ∙ c.if-not-is_out.false) in
    let room = height_room s.places s.stacks _ _ c.index-self-lane.result [] s.tally s.once lane known out in
    omega arith

pub invariant_of-self : goal.invariant_of-self
invariant_of-self g c =
    let s = c.args.self.now in
    let b = c.args.buffer in
    let lane : c.args.lane < length s.stacks = omega arith in
    let known : b < length s.places = omega arith in
    let out : place_at s.places b ≡ Out = out_is _ (sym c.is_out.ensures ∙ c.if-not-is_out.false) in
    let top = c.push.ensures in record {
      whole = length-set s.places b (Lane c.args.lane) ∙ s.whole;
      tally = Tally-push s.places s.stacks _ b _ _ s.tally s.once lane known out top;
      once = Once-push s.places s.stacks _ b _ _ s.tally s.once lane known out top;
    }
