use Rattle.std.proofs.Common.{◌≡◌, List, ℕ, ◌++◌, Bor, codes, decimal, unwrap_or, ap, ◌∙◌}
use Rattle.std.proofs.lemmas.Result.{on_ok_weaker}
use Rattle.std.specs.Option.{option_copied}
use Rattle.world_sim.specs.Standing.{state_value}
use Rattle.scenario_lines.specs.Shows.{set_word, state_word}
use Rattle.scenario_lines.proofs.Closing.{unwrap_or-copied}
use Rattle.scenario_text.proofs.Pages.{behind_space, four_words_put}
use Rattle.scenario_lines.proofs.standings.put_standing.Goals as goal

pub returns : goal.returns
returns c =
    let view = c.args.view in
    let id : c.unwrap_or.result.now ≡ unwrap_or (option_copied view.id) (codes "-") =
    ap (λ (word : Bor (List ℕ)). word.now) c.unwrap_or.ensures ∙ unwrap_or-copied view.id _ in
    on_ok_weaker c.put-3.result
    (four_words_put c.args.page.now c.put.new.self c.word.new.self c.word-2.new.self c.number_word.new.self c.put_set.new.page c.put-3.new.self
    c.args.name.now (state_word (state_value view.state)) (unwrap_or (option_copied view.id) (codes "-")) (decimal view.epoch) (set_word view.own.now)
    c.in_ok-put.ensures
    (c.in_ok-word.ensures ∙ ap (λ word. c.put.new.self ++ codes " " ++ word) c.state_word.ensures)
    (c.in_ok-word-2.ensures ∙ ap (λ word. c.word.new.self ++ codes " " ++ word) id)
    (c.in_ok-number_word.ensures ∙ ap (λ n. c.word-2.new.self ++ codes " " ++ decimal n) c.as_u32.ensures.value)
    (behind_space c.number_word.new.self c.put-2.new.self c.put_set.new.page (set_word view.own.now) c.in_ok-put-2.ensures c.in_ok-put_set.ensures))
    c.put-3.ensures
