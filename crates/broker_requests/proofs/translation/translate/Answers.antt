use Rattle.std.proofs.Common.{◌≡◌, ◌++◌, ℕ, List, to_z, of_z, rules, Err, sym, ap, subst, ◌∙◌}
use Rattle.std.specs.Int.{w32}
use Rattle.std.specs.Option.{option_copied}
use Rattle.flex_wire.specs.Spelling.{compact_nullable_string}
use Rattle.broker_messages.specs.Heartbeat.{IsTranslation, expression_of}
use Rattle.topic_expressions.specs.Expressions.{texts}
use Rattle.broker_requests.proofs.BodyLemmas.{begins_as}
use Rattle.broker_requests.proofs.translation.translate.Goals as goal

pub returns-in-Err-Refused : goal.returns-in-Err-Refused
returns-in-Err-Refused g c =
    let id : to_z w32 (of_z w32 c.correlation_id_of.result) ≡ c.correlation_id_of.result = search rules in
    let h = c.in-Ok.heartbeat in
    let tail = compact_nullable_string (option_copied h.subscribed_topic_regex) ++ h.back.now in
    let begins = c.correlation_id_of.ensures in
    rw id (record {
      none = λ header v regex expression spells is.
          c.in-Err-Refused.ensures.refused (ap Err c.in-Err-Refused.field-0-is) expression (ap expression_of (c.in-Ok.ensures.only header v regex spells) ∙ is);
      begins = begins_as c.args.body.now h.front.now tail begins.0 c.correlation_id_of.result c.in-Ok.ensures.found.bytes begins.1;
    })

pub returns-in-Ok-put_as_version_0 : goal.returns-in-Ok-put_as_version_0
returns-in-Ok-put_as_version_0 g c =
    let body = c.args.body.now in
    let new = c.put_as_version_0.new.out.items in
    let further = c.in-Ok-further.further.items in
    let done = c.in-Ok-put_as_version_0.ensures.ok body c.in-Ok.ensures.found in
    let items : done.0 ≡ new = sym (done.2 ∙ ap (λ (l : List ℕ). l ++ done.0) c.new-written.ensures.items) in
    let same : texts c.deref.result.now ≡ texts further = ap texts c.deref.ensures.value in
    record {
      further = texts further;
      are_matched = λ header v regex expression spells is.
          c.in-Ok-further.ensures.matched expression (ap expression_of (c.in-Ok.ensures.only header v regex spells) ∙ is);
      translation =
          subst (λ (f : List (List ℕ)). IsTranslation f body new) same
          (subst (λ (w : List ℕ). IsTranslation (texts c.deref.result.now) body w) items done.1);
    }
