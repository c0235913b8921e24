use Rattle.std.proofs.Common.{rules, ◌≡◌, ℤ, sym, ap, ◌∙◌, to_z, of_z, w32}
use Rattle.std.specs.FinMap as finite
use Rattle.group_types.specs.Text.{Text}
use Rattle.offset_guard.specs.Topics.{offset_in}
use Rattle.offset_guard.proofs.Places.{get-offsets_in}
use Rattle.offset_guard.proofs.offsets.Offsets.committed.Goals as goal

pub returns-in-Some : goal.returns-in-Some
returns-in-Some c =
    let index : to_z w32 (of_z w32 c.args.index) ≡ c.args.index = search rules in
    let place : Text × ℤ = (c.args.name.now, c.args.index) in
    c.get-in-Some.ensures
    ∙ ap (finite.get c.in-Some.offsets.now.offsets) index
    ∙ ap (λ o. offset_in o c.args.index) c.in-Some.ensures.value
    ∙ sym (get-offsets_in c.self.inside.topics.entries place)
    ∙ ap (λ m. finite.get m place) c.self.view_is

pub returns-in-None : goal.returns-in-None
returns-in-None c =
    let place : Text × ℤ = (c.args.name.now, c.args.index) in
    ap (λ o. offset_in o c.args.index) c.in-None.ensures.value
    ∙ sym (get-offsets_in c.self.inside.topics.entries place)
    ∙ ap (λ m. finite.get m place) c.self.view_is
