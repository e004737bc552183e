-- What one item of a script does while the script runs.
use Rattle.std.specs.Prelude.{◌≡◌, List, ◌++◌, String, string_bytes}
use Rattle.std.specs.List.{flat_map}
use Rattle.std.specs.declared.alloc.Global.{Global}
use Rattle.model.specs.declared.Model.{Ghosts as OfModel}
use Rattle.pool.specs.declared.Pool.{Ghosts as OfPool}
use Rattle.sequential.specs.Text.{line_text}
use Rattle.sequential.specs.declared.event.Line.{Line}
use Rattle.machine.specs.declared.call.Answer.{Answer}
use Rattle.machine.specs.Calls.{Transcript}
use Rattle.law.specs.Law.{calls_in, collected_lines, lines_told}
use Rattle.executive.specs.declared.Executive.{Executive}
use Rattle.executive.specs.Running.{Goes, Makes}
use Rattle.script.specs.Playing.{calls_among}
use Rattle.script.specs.declared.item.Item.{Item}
use Rattle.script.specs.declared.item.Item.TheVariants.{Place, Make}

module _ {M P : Type 0} {m : OfModel M} {p : OfPool P} where
  -- a placing does nothing now; a call is made, and the lines that it hands out are written
  abbrev pub PlaysItem : Executive M P m p → Item → String Global → String Global → Executive M P m p → Type 0
  PlaysItem x (Place q w) text text' y = (y ≡ x) × (string_bytes text' ≡ string_bytes text)
  PlaysItem x (Make c) text text' y =
      (a : Answer (List Line)) × Makes x c a y
      × (string_bytes text' ≡ string_bytes text ++ flat_map line_text (lines_told a))

  -- the items' calls lead from the executive x to y, and the lines that they hand out are written behind the text
  pub record PlaysItems
      (x : Executive M P m p) (items : List Item) (text text' : String Global) (y : Executive M P m p) : Type 0 where
    pub transcript : Transcript
    pub goes : Goes x transcript y
    pub calls : calls_in transcript ≡ calls_among items
    pub writes : string_bytes text' ≡ string_bytes text ++ flat_map line_text (collected_lines transcript)
