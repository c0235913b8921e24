use Rattle.std.proofs.Common.{rules, ◌≡◌, ap, ◌∙◌, to_z, of_z, w32}
use Rattle.std.specs.FinMap as finite
use Rattle.std.proofs.lemmas.Result.{on_ok_weaker}
use Rattle.offset_guard.specs.Topics.{offsets_in}
use Rattle.offset_guard.proofs.Stores.{offsets_put}
use Rattle.offset_guard.proofs.offsets.Offsets.put.Goals as goal

pub returns : goal.returns
returns c =
    let index : to_z w32 (of_z w32 c.args.index) ≡ c.args.index = search rules in
    on_ok_weaker c.put.result
    (λ puts. offsets_put c.self.inside.topics c.put.new.topics (c.args.name.now, to_z w32 (of_z w32 c.args.index)) c.args.committed puts
    ∙ ap (λ i. finite.insert (offsets_in c.self.inside.topics.entries) (c.args.name.now, i) c.args.committed) index
    ∙ ap (λ m. finite.insert m (c.args.name.now, c.args.index) c.args.committed) c.self.view_is)
    c.put.ensures
