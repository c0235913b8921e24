-- What is appended for a client.
use Rattle.std.specs.Prelude.{◌≡◌, ◌≤◌, ℕ, ℤ, pos, List, ◌++◌, length}
use Rattle.flex_wire.specs.Spelling.{int32}
use Rattle.group_types.specs.Limits.{LARGEST_BODY}
use Rattle.group_types.specs.Frames.{frame_of}
use Rattle.broker_topics.specs.declared.request.TopicsAnswer.{TopicsAnswer}
use Rattle.broker_topics.specs.declared.request.TopicsAnswer.TheVariants.{Replied, Held, NoReply, Closes}

-- The frame of a reply to the request of this correlation id (Kafka protocol guide, "Protocol", "Response Header v0"): its size
-- as an INT32, and the body, which begins with the correlation id. The limit of a body is ours.
pub record IsFrameTo (correlation_id : ℤ) (frame : List ℕ) : Type 0 where
  pub rest : List ℕ
  pub size : length (int32 correlation_id ++ rest) ≤ LARGEST_BODY
  pub bytes : frame ≡ frame_of (int32 correlation_id ++ rest)

-- One such frame has been appended.
pub record AddsFrame (correlation_id : ℤ) (old new : List ℕ) : Type 0 where
  pub frame : List ℕ
  pub is_frame : IsFrameTo correlation_id frame
  pub bytes : new ≡ old ++ frame

-- The same with 0 in place of the body's size.
pub record AddsUnsized (correlation_id : ℤ) (size : ℕ) (old new : List ℕ) : Type 0 where
  pub rest : List ℕ
  pub bytes : new ≡ (old ++ int32 (pos 0)) ++ (int32 correlation_id ++ rest)
  pub counted : size ≡ length (int32 correlation_id ++ rest)
  pub few : size ≤ LARGEST_BODY

-- What is appended, by the answer: one frame, or nothing.
abbrev pub Appends : TopicsAnswer → ℤ → List ℕ → List ℕ → Type 0
Appends Replied correlation_id old new = AddsFrame correlation_id old new
Appends (Held held) correlation_id old new = AddsFrame correlation_id old new
Appends NoReply correlation_id old new = new ≡ old
Appends Closes correlation_id old new = new ≡ old
