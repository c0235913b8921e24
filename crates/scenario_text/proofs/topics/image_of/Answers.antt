use Rattle.std.proofs.Common.{◌≡◌}
use Rattle.topic_meta.specs.Images.{entries_of}
use Rattle.scenario_text.specs.declared.fault.LineFault.TheVariants.{BadLine}
use Rattle.scenario_text.proofs.TopicWords.{no_image, texts}
use Rattle.scenario_text.proofs.topics.image_of.Goals as goal

pub returns-in-Err-clause-refused : goal.returns-in-Err-clause-refused
returns-in-Err-clause-refused c = λ bad list.
    let is_bad : c.line_fault.result ≡ BadLine = cc in
    no_image (texts c.args.words.now) (entries_of c.in_ok-list.list.items) c.in-Err.fault c.in_ok-list.ensures.topics c.in-Err.ensures.refused
    (c.line_fault.ensures.bad_line is_bad) list
