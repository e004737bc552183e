use Rattle.std.proofs.Common.{sym, ap, ◌∙◌}
use Rattle.machine.specs.declared.message.Message.{Message}
use Rattle.sequential.specs.Events.{line_of}
use Rattle.sequential.specs.declared.event.Line.{Line}
use Rattle.tables.proofs.Tables.pull.Goals as goal

pub returns : goal.returns
returns c =
    let is_line = c.line-line.ensures ∙ ap (λ (m : Message). line_of m.event m.outcome) c.at-message.ensures.message in
    let is_event = c.wipe.ensures.event ∙ sym (ap (λ (l : Line). l.event) is_line) in
    record {
      posted = c.wipe.ensures.posted;
      does = λ l u pl.
          (sym (c.in_ok-buffer.ensures pl), is_line, rw is_event at c.wipe.ensures.machine l u pl);
    }
