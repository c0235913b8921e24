use Rattle.flex_wire.proofs.TextLaws.{text_is, text_is_none}
use Rattle.flex_wire.proofs.text.text_of.Goals as goal

pub returns-in-Ok : goal.returns-in-Ok
returns-in-Ok c = text_is _ _ _ _ _ c.in_ok-front.ensures.exact c.in-Ok.ensures.cases.0 c.in-Ok.ensures.cases.1

pub returns-in-Err : goal.returns-in-Err
returns-in-Err c = text_is_none _ _ _ _ c.in_ok-front.ensures.exact c.in-Err.ensures.cases.0
