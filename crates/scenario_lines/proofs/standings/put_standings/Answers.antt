use Rattle.std.proofs.Common.{List, ◌++◌, map, string_bytes, ap, ◌∙◌}
use Rattle.group_types.specs.Text.{Text}
use Rattle.scenario_lines.specs.Shows.{standings_text}
use Rattle.scenario_lines.proofs.Closing.{all_stand, length-names, name_at, nobody_stands, one_stands}
use Rattle.scenario_lines.proofs.standings.put_standings.Goals as goal
use Rattle.scenario_lines.proofs.standings.put_standings.Goals.{in-Some+in_ok-put_standing, in_default}

pub loop-place-preserved : goal.loop-place-preserved
loop-place-preserved c =
    let place = c.loop-place.place in
    let names = c.names-names.result.now in
    let name = c.index-names-place.result in
    let so_far = c.loop-place.invariant in
    elim c.match-client.branch [
      | in-Some+in_ok-put_standing w ↦
          one_stands c.args.page.now c.loop-place.page c.match-client.page (map string_bytes names) c.args.world.now place (string_bytes name) w.as_str.result.now w.in-Some.view
          (name_at names place name c.loop-place-test.true c.index-names-place.is) w.as_str.ensures.value w.in-Some.ensures so_far (w.page-is ∙ w.in_ok-put_standing.ensures)
      | in_default w ↦
          nobody_stands c.args.page.now c.match-client.page (map string_bytes names) c.args.world.now place w.in_default.ensures (w.page-is ∙ so_far)
    ]

pub returns : goal.returns
returns c =
    let names = c.names-names.result.now in
    all_stand c.args.page.now c.loop-place.page (map string_bytes names) c.args.world.now c.loop-place.place
    (length-names names c.loop-place.place c.loop-place-test.false) c.loop-place.invariant
    ∙ ap (λ (texts : List Text). c.args.page.now ++ standings_text texts c.args.world.now.clients) c.names-names.ensures
