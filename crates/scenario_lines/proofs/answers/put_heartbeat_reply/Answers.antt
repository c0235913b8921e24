use Rattle.std.proofs.Common.{rules, ◌≡◌, ◌++◌, codes, decimal, ap, ◌∙◌, to_z, of_z, w16, w32}
use Rattle.std.proofs.lemmas.Result.{on_ok_weaker}
use Rattle.std.specs.Fmt.{signed_decimal}
use Rattle.kip_msgs.specs.Views.{heartbeat_reply_value}
use Rattle.scenario_lines.specs.Shows.{assignment_word}
use Rattle.scenario_text.proofs.Pages.{behind_space, seven_words_put}
use Rattle.scenario_lines.proofs.answers.put_heartbeat_reply.Goals as goal

pub returns : goal.returns
returns c =
    let v = heartbeat_reply_value c.args.reply.now in
    let code : to_z w16 (of_z w16 v.error_code) ≡ v.error_code = search rules in
    let epoch : to_z w32 (of_z w32 v.member_epoch) ≡ v.member_epoch = search rules in
    on_ok_weaker c.put-3.result
    (seven_words_put c.args.page.now c.put.new.self c.number_word.new.self c.word.new.self c.number_word-2.new.self c.word-2.new.self c.number_word-3.new.self
    c.word-3.new.self c.put_assignment.new.page c.put-3.new.self
    (codes "reply") (decimal c.args.number) (codes "code") (signed_decimal v.error_code) (codes "epoch") (signed_decimal v.member_epoch) (codes "shows") (assignment_word v.assignment)
    c.in_ok-put.ensures c.in_ok-number_word.ensures c.in_ok-word.ensures
    (c.in_ok-number_word-2.ensures ∙ ap (λ z. c.word.new.self ++ codes " " ++ signed_decimal z) code)
    c.in_ok-word-2.ensures
    (c.in_ok-number_word-3.ensures ∙ ap (λ z. c.word-2.new.self ++ codes " " ++ signed_decimal z) epoch)
    c.in_ok-word-3.ensures
    (behind_space c.word-3.new.self c.put-2.new.self c.put_assignment.new.page (assignment_word v.assignment) c.in_ok-put-2.ensures c.in_ok-put_assignment.ensures))
    c.put-3.ensures
