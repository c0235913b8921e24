use Rattle.std.proofs.Common.{rules, ◌≡◌, ◌++◌, codes, ap, ◌∙◌, to_z, of_z, w32}
use Rattle.std.proofs.lemmas.Result.{on_ok_weaker}
use Rattle.std.specs.Fmt.{signed_decimal}
use Rattle.uuid.specs.Text.{hyphenated_text, lower}
use Rattle.scenario_text.proofs.Pages.{two_put}
use Rattle.scenario_lines.proofs.parts.put_partition.Goals as goal

pub returns : goal.returns
returns c =
    let p = c.args.partition.now in
    let index : to_z w32 (of_z w32 p.index) ≡ p.index = search rules in
    let topic = c.in_ok-put.ensures ∙ ap (λ text. c.args.page.now ++ text) (c.encode_lower.ensures.text ∙ ap (hyphenated_text lower) c.hyphenated.ensures) in
    let slash = two_put c.args.page.now c.put.new.self c.put-2.new.self (hyphenated_text lower p.topic) (codes "/") topic c.in_ok-put-2.ensures in
    on_ok_weaker c.put_number.result
    (λ put. two_put c.args.page.now c.put-2.new.self c.put_number.new.self (hyphenated_text lower p.topic ++ codes "/") (signed_decimal p.index) slash
    (put ∙ ap (λ z. c.put-2.new.self ++ signed_decimal z) index))
    c.put_number.ensures
