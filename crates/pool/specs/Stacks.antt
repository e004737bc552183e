use Rattle.std.specs.Prelude.{◌≡◌, ℕ, ◌/◌, ◌<◌, ◌==◌, if◌then◌else◌, List, [], map, length, count_by, Some, None}
use Rattle.std.specs.Prelude.{Option, slice_index_or, slice_set}
use Rattle.std.specs.List.{range_with_len}
use Rattle.pool.specs.declared.place.Place.{Place}
use Rattle.pool.specs.declared.place.Place.TheVariants.{Out, Lane}
use Rattle.pool.specs.Lanes.{place_at, is_in, lies}

-- a stack is as high as its lane has buffers; a lane with no stack is empty
abbrev pub Tally : List Place → List (List ℕ) → Type 0
Tally ps stacks = (l : ℕ) → length (slice_index_or stacks l []) ≡ lies l ps

-- how often a buffer stands on a stack
abbrev pub times : ℕ → List ℕ → ℕ
times b stack = count_by (λ x. x == b) stack

-- a buffer stands on a lane's stack once where it lies in that lane, and else not at all
abbrev pub Once : List Place → List (List ℕ) → Type 0
Once ps stacks = (l b : ℕ) → times b (slice_index_or stacks l []) ≡ (if is_in l (place_at ps b) then 1 else 0)

-- taking from a lane: refused where it is empty, else some buffer of it goes out
abbrev pub Taken : ℕ → List Place → List Place → Option ℕ → Type 0
Taken l before after None = (lies l before ≡ 0) × (after ≡ before)
Taken l before after (Some b) = (b < 256) × (place_at before b ≡ Lane l) × (after ≡ slice_set before b Out)

-- 256 buffers dealt to lanes, each to the one that the function names
abbrev pub dealt_by : (ℕ → ℕ) → List Place
dealt_by lane = map (λ b. Lane (lane b)) (range_with_len 0 256)

-- 256 buffers dealt to lanes in shares of one size: the first share to lane 0, the next to lane 1
abbrev pub dealt : ℕ → List Place
dealt share = dealt_by (λ b. b / share)
