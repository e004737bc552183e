-- How a script is written.
use Rattle.std.specs.Prelude.{◌≡◌, ℕ, ◌^◌, Bool, true, false, not, ◌&&◌, ◌||◌, List, [], ◌∷◌, ◌++◌, length, Some, None}
use Rattle.std.specs.Prelude.{codes, nat_le, nat_lt}
use Rattle.std.specs.List.{flat_map}
use Rattle.machine.specs.declared.call.Call.{Call}
use Rattle.machine.specs.declared.call.Call.TheVariants.{Post, Absorb, Step, Round, Report, Collect}
use Rattle.machine.specs.Text.{call_text, call_words}
use Rattle.sequential.specs.Text.{spaced}
pub use Rattle.sequential.specs.Text.{behind}
use Rattle.script.specs.declared.heading.Heading.{Heading}
use Rattle.script.specs.declared.item.Item.{Item}
use Rattle.script.specs.declared.item.Item.TheVariants.{Place, Make}
use Rattle.script.specs.declared.heading.ModelKind.{ModelKind}
use Rattle.script.specs.declared.heading.ModelKind.TheVariants.{Switch, Phold}
use Rattle.script.specs.declared.heading.PoolKind.{PoolKind}
use Rattle.script.specs.declared.heading.PoolKind.TheVariants.{Common, Receiver}
use Rattle.script.specs.Lines.{heading_names, call_names}
use Rattle.script.specs.Reading.{is_call, reading}

abbrev pub model_text : ModelKind → List ℕ
model_text Switch = codes "switch"
model_text Phold = codes "phold"

abbrev pub pool_word : PoolKind → List ℕ
pool_word Common = codes "common"
pool_word Receiver = codes "receiver"

-- the pool's word behind one space
abbrev pub pool_text : PoolKind → List ℕ
pool_text p = 32 ∷ pool_word p

-- the second line, without its line feed
abbrev pub heading_words : Heading → List ℕ
heading_words h =
    model_text h.model
    ++ (behind h.size ++ (behind h.setting ++ (pool_text h.pool ++ flat_map behind (h.end ∷ h.most ∷ h.workers ∷ []))))

-- the second line
abbrev pub heading_text : Heading → List ℕ
heading_text h =
    model_text h.model
    ++ (behind h.size ++ (behind h.setting ++ (pool_text h.pool ++ spaced (h.end ∷ h.most ∷ h.workers ∷ []))))

-- a further line, without its line feed
abbrev pub item_words : Item → List ℕ
item_words (Place p w) = codes "place" ++ flat_map behind (p ∷ w ∷ 0 ∷ [])
item_words (Make c) = call_words c

-- a further line
abbrev pub item_text : Item → List ℕ
item_text (Place p w) = codes "place" ++ spaced (p ∷ w ∷ 0 ∷ [])
item_text (Make c) = call_text c

-- a script: three heading lines, and a line for each item
abbrev pub script_text : Heading → List Item → List ℕ
script_text h items =
    (heading_names ++ 10 ∷ []) ++ (heading_text h ++ ((call_names ++ 10 ∷ []) ++ flat_map item_text items))

-- the numbers of a call are below 2^64, and a list has at most 64 places
abbrev pub call_fits : Call → Bool
call_fits (Post p t x) = nat_lt p (2 ^ 64) && (nat_lt t (2 ^ 64) && nat_lt x (2 ^ 64))
call_fits (Absorb w) = nat_lt w (2 ^ 64)
call_fits (Step w) = nat_lt w (2 ^ 64)
call_fits Round = true
call_fits (Report w) = nat_lt w (2 ^ 64)
call_fits (Collect n) = nat_le n 64

abbrev pub item_fits : Item → Bool
item_fits (Place p w) = nat_lt p (2 ^ 64) && nat_lt w (2 ^ 64)
item_fits (Make c) = call_fits c

-- every item fits, and no process is placed behind a call
abbrev pub ordered : Bool → List Item → Bool
ordered begun [] = true
ordered begun (i ∷ items) = item_fits i && ((is_call i || not begun) && ordered (is_call i) items)

-- the numbers of the heading are below 2^64, and its line has at most 80 bytes before its line feed
abbrev pub heading_fits : Heading → Bool
heading_fits h =
    nat_lt h.size (2 ^ 64)
    && (nat_lt h.setting (2 ^ 64)
    && (nat_lt h.end (2 ^ 64)
    && (nat_lt h.most (2 ^ 64)
    && (nat_lt h.workers (2 ^ 64) && nat_le (length (heading_text h)) 81))))

-- what is written of a proper script reads back as the same
abbrev pub ReadsBack : Heading → List Item → Type 0
ReadsBack h items =
    heading_fits h ≡ true → ordered false items ≡ true
    → reading (script_text h items) ≡ record { heading = Some h; items = items; bad = None }

-- a script with no wrong line is proper, and is what is written of its heading and its items
abbrev pub WrittenSo : List ℕ → Type 0
WrittenSo bytes =
    (reading bytes).bad ≡ None
    → (h : Heading)
    × ((reading bytes).heading ≡ Some h)
    × (bytes ≡ script_text h (reading bytes).items)
    × (heading_fits h ≡ true)
    × (ordered false (reading bytes).items ≡ true)
