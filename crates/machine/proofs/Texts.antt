-- A call and a line feed are the call's line.
use Rattle.std.proofs.Common.{◌≡◌, [], ◌∷◌, ◌++◌, sym, ap, ◌∙◌, append_assoc}
use Rattle.std.specs.List.{flat_map}
use Rattle.sequential.proofs.Texts.{spaced-figures}
use Rattle.sequential.specs.Text.{behind}
use Rattle.machine.specs.declared.call.Call.{Call}
use Rattle.machine.specs.Text.{call_name, call_numbers, call_words, call_text}

pub call_words-text : (c : Call) → call_words c ++ 10 ∷ [] ≡ call_text c
call_words-text c =
    append_assoc (call_name c) (flat_map behind (call_numbers c)) (10 ∷ []) ∙
    ap (λ l. call_name c ++ l) (sym (spaced-figures (call_numbers c)))
