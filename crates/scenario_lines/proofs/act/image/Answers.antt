use Rattle.std.proofs.Common.{rules, ◌≡◌, Err}
use Rattle.scenario_text.specs.declared.fault.LineFault.TheVariants.{BadLine}
use Rattle.scenario_lines.proofs.Asked.{no_image_act}
use Rattle.scenario_text.proofs.TopicWords.{texts}
use Rattle.scenario_lines.proofs.act.image.Goals as goal

pub returns-in_err-image-clause-refused : goal.returns-in_err-image-clause-refused
returns-in_err-image-clause-refused c = λ bad deed spelled.
    let is_bad : c.image_of.result ≡ Err BadLine = search rules in
    no_image_act c.args.cast.now (texts c.args.arguments.now) deed (λ image is. c.image_of.ensures.refused is_bad is.0 is.1) spelled
