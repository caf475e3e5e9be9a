-- `next_place` makes the ladder and asks it once.
-- What `next_hop` asks for follows from `table_passes`.
use Rattle.find_routes.proofs.Places.{in_range, home_there, out_bus_there, reached}
use Rattle.find_routes.proofs.routes.next_place.Goals as goal

pub ladder-l-requires : goal.ladder-l-requires
ladder-l-requires c = in_range c.args.t c.requires.0

pub next_hop-requires : goal.next_hop-requires
next_hop-requires c =
    let a = c.args in
    let p = c.requires in (
      in_range a.t p.0,
      c.ladder-l.ensures,
      rw (c.out_bus.ensures, c.home.ensures) (reached a.t p.0 _ _ (out_bus_there a.t p.0 a.n p.1) (home_there a.t p.0 a.a p.2)),
    )
