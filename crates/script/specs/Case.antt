-- The first worked case as a script: what its bytes mean, and the text of its lines.
use Rattle.std.specs.Prelude.{◌≡◌, ℕ, List, [], ◌∷◌, ◌++◌, Some, None, codes}
use Rattle.std.specs.List.{flat_map}
use Rattle.sequential.specs.Events.{outside}
use Rattle.sequential.specs.Text.{field_names, line_text}
use Rattle.sequential.specs.declared.event.Line.{Line}
use Rattle.sequential.specs.declared.event.Verdict.TheVariants.{Fine}
use Rattle.machine.specs.declared.call.Call.TheVariants.{Post, Absorb, Step, Round, Report, Collect}
use Rattle.machine.specs.Cases.{line, words}
use Rattle.script.specs.declared.heading.Heading.{Heading}
use Rattle.script.specs.declared.item.Item.{Item}
use Rattle.script.specs.declared.item.Item.TheVariants.{Place, Make}
use Rattle.script.specs.declared.heading.ModelKind.TheVariants.{Switch}
use Rattle.script.specs.declared.heading.PoolKind.TheVariants.{Common}
use Rattle.script.specs.Reading.{reading}

abbrev pub case_script : List ℕ
case_script =
    codes "model size setting pool end cap workers\nswitch 2 3 common 100 100 2\ncall a b c\nplace 1 1 0\n"
    ++ codes "post 0 10 1\npost 1 14 0\nabsorb 1 0 0\nstep 1 0 0\nabsorb 0 0 0\nstep 0 0 0\nabsorb 1 0 0\nstep 1 0 0\n"
    ++ codes "step 1 0 0\nround 0 0 0\nreport 0 0 0\nreport 1 0 0\ncollect 8 0 0\n"

abbrev pub case_heading : Heading
case_heading = record { model = Switch; size = 2; setting = 3; pool = Common; end = 100; most = 100; workers = 2 }

abbrev pub case_items : List Item
case_items =
    Place 1 1 ∷ Make (Post 0 10 1) ∷ Make (Post 1 14 0) ∷ Make (Absorb 1) ∷ Make (Step 1) ∷ Make (Absorb 0)
    ∷ Make (Step 0) ∷ Make (Absorb 1) ∷ Make (Step 1) ∷ Make (Step 1) ∷ Make Round
    ∷ Make (Report 0) ∷ Make (Report 1) ∷ Make (Collect 8) ∷ []

-- the lines that the worked case collects
abbrev pub case_lines : List Line
case_lines =
    line 10 0 outside 0 1 Fine (words 13 1 0) ∷ line 13 1 0 0 0 Fine (words 16 1 0)
    ∷ line 14 1 outside 1 0 Fine (words 19 2 2) ∷ []

-- the script means the case's setup and calls, and the names with the case's lines are this text
abbrev pub TheFirstCaseIsReadAndWrittenSo : Type 0
TheFirstCaseIsReadAndWrittenSo =
    (reading case_script ≡ record { heading = Some case_heading; items = case_items; bad = None })
    × (field_names ++ flat_map line_text case_lines ≡
    codes "time process sender number payload layer code w0 w1 w2 w3\n10 0 255 0 1 0 0 13 1 0 0\n"
    ++ codes "13 1 0 0 0 0 0 16 1 0 0\n14 1 255 1 0 0 0 19 2 2 0\n")
