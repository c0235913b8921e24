-- The part of a heartbeat before its regular expression: from the correlation id to the subscribed names.
use Rattle.std.specs.Prelude.{◌≡◌, ℕ, ℤ, pos, List, ◌++◌, Option, Ok, FitsSigned}
use Rattle.std.specs.Int.{w16, w32}
use Rattle.std.specs.Option.{option_copied}
use Rattle.flex_wire.specs.Spelling.{Tagged, int16, int32, compact_string, compact_nullable_string, nullable_string, FitsText, FitsNullableText, tagged_fields, FitsTaggedFields}
use Rattle.flex_wire.specs.Composed.{pair_at, nullable_array, FitsNullableArray, nullable_array_at}
use Rattle.flex_wire.specs.Reading.{Read, ◌>>=◌, signed_at, compact_string_at, compact_nullable_string_at, nullable_string_at, tagged_fields_at}
use Rattle.broker_messages.specs.declared.heartbeat.Heartbeat1.{Heartbeat1}

-- who sends it: correlation_id, client_id and the header's tagged fields, GroupId, MemberId
abbrev pub SenderValue : Type 0
SenderValue = ℤ × (Option (List ℕ) × (List Tagged × (List ℕ × List ℕ)))

-- what it says before the expression: MemberEpoch, InstanceId, RackId, RebalanceTimeoutMs, SubscribedTopicNames
abbrev pub SaidValue : Type 0
SaidValue = ℤ × (Option (List ℕ) × (Option (List ℕ) × (ℤ × Option (List (List ℕ)))))

unfoldable pub sender_at : List ℕ → Read SenderValue
sender_at = pair_at (signed_at w32) (pair_at nullable_string_at (pair_at tagged_fields_at (pair_at compact_string_at compact_string_at)))

unfoldable pub said_at : List ℕ → Read SaidValue
said_at =
    pair_at (signed_at w32)
    (pair_at compact_nullable_string_at
    (pair_at compact_nullable_string_at
    (pair_at (signed_at w32) (nullable_array_at compact_string_at))))

unfoldable pub front_at : List ℕ → Read (SenderValue × SaidValue)
front_at = pair_at sender_at said_at

-- The key and the version.
unfoldable pub head_at : List ℕ → Read (ℤ × ℤ)
head_at = pair_at (signed_at w16) (signed_at w16)

-- What stands after the front, the regular expression, and what stands after that.
unfoldable pub cut_at : List ℕ → Read (List ℕ × Option (List ℕ))
cut_at bytes = front_at bytes >>= λ front. compact_nullable_string_at front.1 >>= λ regex. Ok ((front.1, regex.0), regex.1)

unfoldable pub front_fields : SenderValue × SaidValue → List ℕ
front_fields f =
    (int32 f.0.0 ++ (nullable_string f.0.1.0 ++ (tagged_fields f.0.1.1.0 ++ (compact_string f.0.1.1.1.0 ++ compact_string f.0.1.1.1.1))))
    ++ (int32 f.1.0 ++ (compact_nullable_string f.1.1.0 ++ (compact_nullable_string f.1.1.1.0 ++ (int32 f.1.1.1.1.0 ++ nullable_array compact_string f.1.1.1.1.1))))

abbrev pub FitsFront : SenderValue × SaidValue → Type 0
FitsFront f =
    (FitsSigned w32 f.0.0 × (FitsNullableText f.0.1.0 × (FitsTaggedFields f.0.1.1.0 × (FitsText f.0.1.1.1.0 × FitsText f.0.1.1.1.1))))
    × (FitsSigned w32 f.1.0 × (FitsNullableText f.1.1.0 × (FitsNullableText f.1.1.1.0 × (FitsSigned w32 f.1.1.1.1.0 × FitsNullableArray FitsText f.1.1.1.1.1))))

-- These bytes are the front of a heartbeat.
pub record IsFront (bytes : List ℕ) : Type 0 where
  pub value : SenderValue × SaidValue
  pub fits : FitsFront value
  pub encoded : bytes ≡ front_fields value

-- The body is one of version 1 up to its regular expression, and is cut there.
pub record IsCut (h : Heartbeat1) (body : List ℕ) : Type 0 where
  pub front : IsFront h.front.now
  pub regex : FitsNullableText (option_copied h.subscribed_topic_regex)
  pub bytes : body ≡ int16 (pos 68) ++ (int16 (pos 1) ++ (h.front.now ++ (compact_nullable_string (option_copied h.subscribed_topic_regex) ++ h.back.now)))

-- The same without the expression, as a body of version 0.
abbrev pub as_version_0 : Heartbeat1 → List ℕ
as_version_0 h = int16 (pos 68) ++ (int16 (pos 0) ++ (h.front.now ++ h.back.now))
