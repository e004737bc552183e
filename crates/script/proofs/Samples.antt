-- What small scripts mean.
use Rattle.std.proofs.Common.{◌≡◌, ℕ, List, [], ◌∷◌, ◌++◌, Some, None, codes, refl}
use Rattle.machine.specs.declared.call.Call.TheVariants.{Post, Round, Collect}
use Rattle.script.specs.declared.item.Item.TheVariants.{Place, Make}
use Rattle.script.specs.Reading.{reading}

switch_lines : List ℕ
switch_lines = codes "model size setting pool end cap workers\nswitch 2 3 common 100 100 2\ncall a b c\n"

phold_lines : List ℕ
phold_lines = codes "model size setting pool end cap workers\nphold 2 3 receiver 100 100 2\ncall a b c\n"

right :
    (reading (switch_lines ++ codes "place 1 1 0\npost 0 18446744073709551615 1\nround 0 0 0\ncollect 64 0 0\n")).items
    ≡ Place 1 1 ∷ Make (Post 0 18446744073709551615 1) ∷ Make Round ∷ Make (Collect 64) ∷ []
unfolding switch_lines
right = refl

late : (reading (phold_lines ++ codes "round 0 0 0\nplace 1 1 0\n")).bad ≡ Some 5
unfolding phold_lines
late = refl

open_ended : (reading (phold_lines ++ codes "round 0 0 0")).bad ≡ Some 4
unfolding phold_lines
open_ended = refl

done : (reading phold_lines).bad ≡ None
unfolding phold_lines
done = refl
