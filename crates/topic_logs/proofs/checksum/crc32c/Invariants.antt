use Rattle.std.proofs.Common.{◌≡◌, take}
use Rattle.std.specs.List.{fold}
use Rattle.topic_logs.specs.Checksum.{after_byte}
use Rattle.topic_logs.proofs.checksum.crc32c.Given as goal

abbrev pub invariant-loop-byte : goal.invariant-loop-byte
invariant-loop-byte l = l.sum ≡ fold after_byte 0xFFFFFFFF (take l.byte-index l.bytes)
