-- The reply that a beat reads: one frame, of which the bytes come in pieces. The limits of its body are ours.
use Rattle.std.specs.Prelude.{◌≡◌, ◌⊎◌, ℕ, ◌+◌, ◌<◌, ◌≤◌, ℤ, pos, ◌<ℤ◌, List, ◌++◌, length, FitsSigned}
use Rattle.std.specs.Int.{w32}
use Rattle.flex_wire.specs.Spelling.{int32}
use Rattle.link_futures.specs.declared.heard.Heard.{Heard}
use Rattle.link_futures.specs.declared.heard.Heard.TheVariants.{Partial, Whole, Refused}
use Rattle.group_types.specs.Frames.{frame_of}

-- a reply's body may have `size` bytes
abbrev pub IsReplySize : ℕ → Type 0
IsReplySize size = (1 ≤ size) × (size ≤ 16777216)

-- the bytes are the frame of a reply with this body
pub record IsReplyOf (body bytes : List ℕ) : Type 0 where
  pub size : IsReplySize (length body)
  pub whole : bytes ≡ frame_of body

-- the bytes begin with a size that no reply's body may have
pub record BeginsWithRefusedReply (bytes : List ℕ) : Type 0 where
  pub size : ℤ
  pub rest : List ℕ
  pub fits : FitsSigned w32 size
  pub refused : (size <ℤ pos 1) ⊎ (pos 16777216 <ℤ size)
  pub whole : bytes ≡ int32 size ++ rest

-- the bytes begin with a size, and of the body after it at least `missing` bytes aren't there
pub record LacksOfBody (missing : ℕ) (bytes : List ℕ) : Type 0 where
  pub size : ℕ
  pub rest : List ℕ
  pub is_size : IsReplySize size
  pub whole : bytes ≡ int32 (pos size) ++ rest
  pub lacks : length rest + missing ≤ size

-- at least `missing` bytes of a reply aren't there: of its size, or of its body
abbrev pub LacksOfReply : ℕ → List ℕ → Type 0
LacksOfReply missing bytes = (length bytes + missing ≤ 4) ⊎ LacksOfBody missing bytes

-- how far a reply has come: some of it is missing, or it is whole, or it is refused
abbrev pub IsHeard : Heard → List ℕ → Type 0
IsHeard (Partial missing) bytes = (0 < missing) × LacksOfReply missing bytes
IsHeard Whole bytes = (body : List ℕ) × IsReplyOf body bytes
IsHeard Refused bytes = BeginsWithRefusedReply bytes
