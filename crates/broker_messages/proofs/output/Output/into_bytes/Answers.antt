use Rattle.std.proofs.Common.{ℕ, List, ◌++◌, drop, sym, ap, ◌∙◌}
use Rattle.std.proofs.lemmas.List.{take-append-drop}
use Rattle.broker_messages.proofs.output.Output.into_bytes.Goals as goal

pub returns : goal.returns
returns c =
    let rest = drop c.self.inside.kept c.self.inside.bytes.items in
    (rest, sym (take-append-drop c.self.inside.kept c.self.inside.bytes.items) ∙ ap (λ (l : List ℕ). l ++ rest) c.self.view_is)
