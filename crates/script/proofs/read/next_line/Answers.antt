use Rattle.std.proofs.Common.{◌≡◌, ℕ, ◌<◌, true, false, eqb, All, get_or, rules}
use Rattle.script.proofs.Cuts.{FirstLine-feed, FirstLine-plain}
use Rattle.script.proofs.read.next_line.Goals as goal

pub returns-in-Some : goal.returns-in-Some
returns-in-Some c =
    let xs = c.args.rest.now in
    let n = c.in-Some.feed in
    let below : (k : ℕ) → k < n → eqb (get_or xs k 0) 10 ≡ false = search rules in
    let at : eqb (get_or xs n 0) 10 ≡ true = search rules in
    let cut = c.split_at.ensures in
    let first = FirstLine-feed xs _ _ n (search rules) below at cut.front cut.back in
    record { line = first.0; others = first.1; fewer = λ some. search rules }

pub returns-in-None : goal.returns-in-None
returns-in-None c =
    let xs = c.args.rest.now in
    let all : All (λ b. eqb b 10 ≡ false) xs = search rules in
    let cut = c.split_at-in-None.ensures in
    let first = FirstLine-plain xs _ _ all cut.front cut.back in
    record { line = first.0; others = first.1; fewer = λ some. search rules }
