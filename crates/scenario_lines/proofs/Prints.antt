-- The line that is printed for an answer.
use Rattle.std.proofs.Common.{◌≡◌, ℕ, List, [], ◌∷◌, ◌++◌, Result, Ok, Err, OnOk, refl, ap, ◌∙◌, sym, subst}
use Rattle.hex.specs.Hex.{decode_of, encode_lower}
use Rattle.group_types.specs.declared.stamp.Stamp.{Stamp}
use Rattle.coord_node.specs.declared.event.Answered.{Answered}
use Rattle.coord_node.specs.declared.event.Answered.TheVariants as answered
use Rattle.coord_node.specs.Coordinator.{Coordinator, Answer, Replied, Closes, Done, bytes_of}
use Rattle.coord_node.specs.Answers.{IsAnswered}
use Rattle.scenario_lines.specs.Requests.{PrintsAnswer, BytesStep, text_of}
use Rattle.scenario_lines.specs.Printing.{AnswersBytes, line_of}

line_of-text_of : (kind : Answered) (answer : Answer) (reply : List ℕ) → IsAnswered kind answer → reply ≡ bytes_of answer
    → line_of kind reply ≡ text_of answer
line_of-text_of answered.Replied (Replied frame) reply is same = ap encode_lower same
line_of-text_of answered.Replied Closes reply is same = absurd is
line_of-text_of answered.Replied (Done removed) reply is same = absurd is
line_of-text_of answered.Closes (Replied frame) reply is same = absurd is
line_of-text_of answered.Closes Closes reply is same = refl
line_of-text_of answered.Closes (Done removed) reply is same = absurd is

-- bytes that are answered, and whose answer's line is printed
pub answer_is_printed : (old new : Coordinator) (word bytes slice : List ℕ) (stamp asked : Stamp) (moment : ℕ) (kind : Answered)
    (none reply shown before after : List ℕ) → decode_of word ≡ Ok bytes → slice ≡ bytes → stamp ≡ asked
    → AnswersBytes old slice stamp moment kind new none reply → none ≡ [] → shown ≡ reply
    → after ≡ before ++ line_of kind shown ++ 10 ∷ [] → PrintsAnswer old word asked moment new before after
answer_is_printed old new word bytes slice stamp asked moment kind none reply shown before after spelled same right answers empty shows printed =
    let own = shows ∙ answers.appended ∙ ap (λ l. l ++ bytes_of answers.answer) empty in
    record {
      bytes = slice;
      spelled = subst (λ l. decode_of word ≡ Ok l) (sym same) spelled;
      answer = answers.answer;
      step = subst (λ s. BytesStep old slice s moment answers.answer new) right answers.step;
      printed = printed ∙ ap (λ l. before ++ l ++ 10 ∷ []) (line_of-text_of kind answers.answer shown answers.is_answered own);
    }

pub OnOk-by : {T E : Type 0} (r : Result T E) (P Q : Type 0) → (P → Q) → OnOk r P → OnOk r Q
OnOk-by (Ok x) P Q more holds = more holds
OnOk-by (Err e) P Q more holds = tt
