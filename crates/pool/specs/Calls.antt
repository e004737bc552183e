use Rattle.std.specs.Prelude.{◌≡◌, ℕ, ◌<◌, Bool, true, if◌then◌else◌, ◌&&◌, List, Some, None, Option, slice_set}
use Rattle.pool.specs.declared.place.Place.{Place}
use Rattle.pool.specs.declared.place.Place.TheVariants.{Out, Lane}
use Rattle.pool.specs.declared.grant.Grant.{Grant}
use Rattle.pool.specs.Lanes.{Lanes, place_at, is_pair, is_out, lies}

-- a draw is refused where the pair is none or its draw lane is empty, with every place kept; else it takes some buffer
-- of that lane out, and only that
abbrev pub DrawnOne : Lanes → List Place → List Place → ℕ → ℕ → Option Grant → Type 0
DrawnOne n before after side worker None =
    (is_pair side worker ≡ true → lies (n.draw side worker) before ≡ 0) × (after ≡ before)
DrawnOne n before after side worker (Some g) =
    (is_pair side worker ≡ true)
    × (g.buffer < 256)
    × (place_at before g.buffer ≡ Lane (n.draw side worker))
    × (after ≡ slice_set before g.buffer Out)

-- a buffer is taken in for a pair, and only while it is out
abbrev pub takes_in : ℕ → ℕ → ℕ → List Place → Bool
takes_in side worker buffer ps = is_pair side worker && is_out (place_at ps buffer)

-- the places after a buffer is handed in for a pair: it goes into the lane where it is taken in, and else every place
-- is kept
abbrev pub handed_in : ℕ → ℕ → ℕ → ℕ → List Place → List Place
handed_in lane side worker buffer ps = if takes_in side worker buffer ps then slice_set ps buffer (Lane lane) else ps
