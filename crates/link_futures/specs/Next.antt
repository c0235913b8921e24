-- What the bytes of a stream begin with.
use Rattle.std.specs.Prelude.{◌≡◌, ℕ, ◌+◌, ◌≤◌, List, ◌++◌, length, take, drop}
use Rattle.link_futures.specs.declared.inbox.Next.{Next}
use Rattle.link_futures.specs.declared.inbox.Next.TheVariants.{Partial, Whole, Refused}
use Rattle.group_types.specs.Frames.{frame_of, IsBody}
use Rattle.link_futures.specs.Framing.{BeginsWithFrame, BeginsWithRefusedSize}

-- the bytes are a frame whose body is the next `size` bytes, and the rest
pub record IsFront (bytes : List ℕ) (size : ℕ) : Type 0 where
  pub whole : bytes ≡ frame_of (take size (drop 4 bytes)) ++ drop size (drop 4 bytes)
  pub is_body : IsBody (take size (drop 4 bytes))
  pub there : 4 + size ≤ length bytes

abbrev pub IsNext : Next → List ℕ → Type 0
IsNext Partial bytes = (¬ BeginsWithFrame bytes) × (¬ BeginsWithRefusedSize bytes)
IsNext (Whole size) bytes = IsFront bytes size
IsNext Refused bytes = BeginsWithRefusedSize bytes
