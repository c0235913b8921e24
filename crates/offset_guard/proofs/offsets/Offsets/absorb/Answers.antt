use Rattle.std.proofs.Common.{sym, ap, ◌∙◌}
use Rattle.std.specs.FinMap as finite
use Rattle.std.specs.Option.{option_or}
use Rattle.offset_guard.proofs.Places.{get-offsets_in}
use Rattle.offset_guard.proofs.Stores.{any_err, offsets_same}
use Rattle.offset_guard.proofs.offsets.Offsets.absorb.Goals as goal

pub returns-in_err-make_room-clause-err : goal.returns-in_err-make_room-clause-err
returns-in_err-make_room-clause-err c =
    any_err c.from_residual.result (offsets_same c.self.inside.topics c.make_room.new.topics c.make_room.ensures.offsets ∙ c.self.view_is)

pub returns-clause-absorbed : goal.returns-clause-absorbed
returns-clause-absorbed c place =
    let news = sym (get-offsets_in c.news.inside.topics.entries place) ∙ ap (λ m. finite.get m place) c.news.view_is in
    let old = c.make_room.ensures.offsets place ∙ sym (get-offsets_in c.self.inside.topics.entries place) ∙ ap (λ m. finite.get m place) c.self.view_is in
    get-offsets_in c.append.new.topics.entries place ∙ c.append.ensures place ∙ (λ j. option_or (news j) (old j))
