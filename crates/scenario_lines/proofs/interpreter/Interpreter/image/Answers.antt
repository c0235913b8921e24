use Rattle.std.proofs.Common.{◌≡◌, Err, rules}
use Rattle.scenario_text.specs.declared.fault.LineFault.TheVariants.{BadLine}
use Rattle.scenario_text.proofs.TopicWords.{texts}
use Rattle.scenario_lines.proofs.Commanded.{image_done, not_image}
use Rattle.scenario_lines.proofs.interpreter.Interpreter.image.Goals as goal

pub returns-in_err-image-clause-refused : goal.returns-in_err-image-clause-refused
returns-in_err-image-clause-refused c = λ bad is_command.
    let is_bad : c.image_of.result ≡ Err BadLine = search rules in
    not_image (texts c.args.arguments.now) (c.image_of.ensures.refused is_bad) is_command

pub returns-clause-done : goal.returns-clause-done
returns-clause-done c =
    rw c.set_image.ensures.value (image_done c.args.self.now (texts c.args.arguments.now) c.in_ok-image.image c.in_ok-image.ensures.image)
