-- That an answer leaves nothing out: a tick counts all members that go, and the reply to a commit has each of its partitions.
use Rattle.std.specs.Prelude.{◌≡◌, ℕ, ◌+◌, ℤ, List, map}
use Rattle.std.specs.FinMap as finite
use Rattle.group_types.specs.declared.code.Code.{Code}
use Rattle.group_types.specs.Text.{Text}
use Rattle.group_types.specs.Topics.{Topics}
use Rattle.group_types.specs.Group.{Group}
use Rattle.group_types.specs.Tick.{removed_by_tick, ticked}
use Rattle.group_types.specs.Commit.{Commit, Commitment, CommitReply, CommitStep, TopicCommitments, answers_by}

-- KIP-848, "Session Management": how many members a tick takes is how many fewer there are then
abbrev pub TicksCountWhoGoes : Type 0
TicksCountWhoGoes = (g : Group) (moment : ℕ) → finite.len (ticked g moment).records + removed_by_tick g moment ≡ finite.len g.records

-- a topic's name and its indexes, in a commit and in the reply to it
abbrev pub asked_of : TopicCommitments → Text × List ℤ
asked_of t = (t.name, map (λ x. x.index) t.partitions)

abbrev pub told_of : Text × List (ℤ × Code) → Text × List ℤ
told_of t = (t.0, map (λ x. x.0) t.1)

-- Kafka protocol guide, "OffsetCommit Response v9": the reply has the topics and the indexes of the request, in its order
abbrev pub NamesEach : Commit → CommitReply → Type 0
NamesEach c reply = map told_of reply ≡ map asked_of c.topics

-- of a group's reply, and of any other where each partition has a code, as that of a group that isn't there
pub record CommitsAreAnsweredWhole : Type 0 where
  pub of_group : (g : Group) (c : Commit) (image : Topics) (reply : CommitReply) (new : Group) → CommitStep g c image reply new → NamesEach c reply
  pub of_codes : (code : Text → Commitment → Code) (c : Commit) → NamesEach c (answers_by code c)
