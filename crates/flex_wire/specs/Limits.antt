-- The limit of the wire, as a literal. The constants of the code are these by a law of group_types.
use Rattle.std.specs.Prelude.{ℕ}

-- The most bytes of a text (Kafka protocol guide, "Protocol Primitive Types"): the greatest INT16.
abbrev pub LONGEST_STRING : ℕ
LONGEST_STRING = 32767
