use Rattle.std.proofs.Common.{map, ap, sym, ◌∙◌, string_bytes}
use Rattle.std.specs.FinMap as finite
use Rattle.topic_meta.proofs.Shown.{entries-topics_in, keys-pairs_in}
use Rattle.topic_meta.proofs.image.Image.names.Goals as goal

pub returns-clause-rest : goal.returns-clause-rest
returns-clause-rest c =
    ap (map string_bytes) c.keys.ensures.rest
    ∙ sym (keys-pairs_in c.self.inside.topics.entries)
    ∙ ap (map (λ e. e.0)) (sym (entries-topics_in c.self.inside.topics.entries c.keys.ensures.ordered))
    ∙ ap finite.keys c.self.view_is
