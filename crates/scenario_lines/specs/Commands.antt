-- What the lines of `coord reply` ask, and what each does. The forms are this program's own.
use Rattle.std.specs.Prelude.{◌≡◌, ℕ, ◌+◌, ◌-◌, ◌^◌, ◌<◌, min, List, [], ◌∷◌, ◌++◌, Some, None, codes, decimal, Ok}
use Rattle.std.specs.declared.alloc.Global.{Global}
use Rattle.hex.specs.Hex.{decode_of}
use Rattle.group_types.specs.declared.stamp.Stamp.{Stamp}
use Rattle.topic_meta.specs.Images.{Entry, topics_of}
use Rattle.coord_node.specs.Coordinator.{Answer}
use Rattle.coord_node.specs.Coordinator as coordinator
use Rattle.coord_node.specs.Nodes.{coordinator_of, node_opening}
use Rattle.coord_node.specs.Steps.{Step}
use Rattle.scenario_lines.specs.declared.interpreter.Interpreter.{Interpreter}
use Rattle.scenario_text.specs.Lines.{fed}
use Rattle.scenario_text.specs.Words.{IsLine, words_of}
use Rattle.scenario_text.specs.ImageWords.{SpellImage}
use Rattle.scenario_lines.specs.Stamps.{stamp_of}
use Rattle.scenario_lines.specs.Requests.{BytesStep, text_of}

-- what a line asks: another image, another moment, the stamp of the next request, the answer to bytes, or a tick at the moment
pub data Command : Type 0 where
  Image : List Entry → Command
  Now : ℕ → Command
  Stamped : Stamp → Command
  Request : List ℕ → Command
  Tick : Command

-- the words that ask it
abbrev pub SpellCommand : List (List ℕ) → Command → Type 0
SpellCommand words (Image list) = (topics : List (List ℕ)) × (words ≡ codes "image" ∷ topics) × SpellImage topics list
SpellCommand words (Now moment) = (moment < 2 ^ 64) × (words ≡ codes "now" ∷ decimal moment ∷ [])
SpellCommand words (Stamped stamp) =
    (stamp.connection < 2 ^ 64) × (stamp.frame < 2 ^ 64)
    × (words ≡ codes "stamp" ∷ decimal stamp.connection ∷ decimal stamp.frame ∷ [])
SpellCommand words (Request bytes) = (word : List ℕ) × (words ≡ codes "req" ∷ word ∷ []) × (decode_of word ≡ Ok bytes)
SpellCommand words Tick = words ≡ codes "tick" ∷ []

-- how many request lines there were with one more, as far as is counted
abbrev pub one_more : ℕ → ℕ
one_more requests = min (requests + 1) (2 ^ 64 - 1)

-- what it changes, and the text that it prints
abbrev pub Does : Command → Interpreter → Interpreter → List ℕ → Type 0
Does (Image list) old new text = (new ≡ record old { node = record old.node { image = topics_of list } }) × (text ≡ [])
Does (Now moment) old new text = (new ≡ record old { now = moment }) × (text ≡ [])
Does (Stamped stamp) old new text = (new ≡ record old { stamps = record old.stamps { given = Some stamp } }) × (text ≡ [])
Does (Request bytes) old new text =
    (answer : Answer)
    × BytesStep (coordinator_of old.node) bytes (stamp_of old.stamps.given (one_more old.stamps.requests)) old.now answer (coordinator_of new.node)
    × (new ≡ record old { node = new.node; stamps = record { given = None; requests = one_more old.stamps.requests } })
    × (text ≡ fed (text_of answer))
Does Tick old new text =
    (answer : Answer)
    × Step (coordinator_of old.node) (coordinator.Tick old.now) answer (coordinator_of new.node)
    × (new ≡ record old { node = new.node })
    × (text ≡ fed (text_of answer))

-- before the first line: a node with no groups and no topics, whose salt is 0, at the moment 0, and no stamp given
abbrev pub new_interpreter : Global → Interpreter
new_interpreter alloc =
    record { alloc = alloc; node = node_opening 0; now = 0; stamps = record { given = None; requests = 0 } }

-- words ask something, and it is done
pub record DoesCommand (words : List (List ℕ)) (old new : Interpreter) (text : List ℕ) : Type 0 where
  pub command : Command
  pub spelled : SpellCommand words command
  pub does : Does command old new text

-- words ask something
abbrev pub IsCommand : List (List ℕ) → Type 0
IsCommand words = (command : Command) × SpellCommand words command

-- a line of `coord reply`
pub record IsReplyLine (line : List ℕ) : Type 0 where
  pub is_line : IsLine line
  pub is_command : IsCommand (words_of line)

-- a line that begins as a request does
abbrev pub BeginsRequest : List ℕ → Type 0
BeginsRequest line = (digits : List ℕ) × (line ≡ codes "req " ++ digits)

-- what it does
pub record DoesReplyLine (old : Interpreter) (line : List ℕ) (new : Interpreter) (text : List ℕ) : Type 0 where
  pub is_line : IsLine line
  pub does : DoesCommand (words_of line) old new text
