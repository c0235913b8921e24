-- No two verbs have one word.
use Rattle.std.proofs.Common.{◌≡◌, ℕ, cond, List, codes, refl, sym, ap, ◌∙◌}
use Rattle.std.specs.Prelude.{bytes_eq}
use Rattle.scenario_lines.specs.declared.verb.Verb.{Verb}
use Rattle.scenario_lines.specs.declared.verb.Verb.TheVariants.{Client, Image, Clock, Tick, Join, Beat, Quit, Lose, Deliver, Take, Release, Commit, Bring, Settle}
use Rattle.scenario_lines.specs.Scripts.{word_of}

abbrev picks : List ℕ → List ℕ → Verb → Verb → Verb
picks word other verb rest = cond (bytes_eq word other) verb rest

abbrev verb_in : List ℕ → Verb
verb_in word =
    picks word (codes "client") Client (picks word (codes "image") Image (picks word (codes "clock") Clock
    (picks word (codes "tick") Tick (picks word (codes "join") Join (picks word (codes "beat") Beat (picks word (codes "quit") Quit
    (picks word (codes "lose") Lose (picks word (codes "deliver") Deliver (picks word (codes "take") Take
    (picks word (codes "release") Release (picks word (codes "commit") Commit (picks word (codes "bring") Bring Settle))))))))))))

verb_in-word_of : (verb : Verb) → verb_in (word_of verb) ≡ verb
verb_in-word_of Client = refl
verb_in-word_of Image = refl
verb_in-word_of Clock = refl
verb_in-word_of Tick = refl
verb_in-word_of Join = refl
verb_in-word_of Beat = refl
verb_in-word_of Quit = refl
verb_in-word_of Lose = refl
verb_in-word_of Deliver = refl
verb_in-word_of Take = refl
verb_in-word_of Release = refl
verb_in-word_of Commit = refl
verb_in-word_of Bring = refl
verb_in-word_of Settle = refl

pub one_verb : (v w : Verb) → word_of v ≡ word_of w → v ≡ w
one_verb v w same = sym (verb_in-word_of v) ∙ ap verb_in same ∙ verb_in-word_of w
