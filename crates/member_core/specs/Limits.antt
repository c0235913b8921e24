-- How many requests a member can make.
use Rattle.std.specs.Prelude.{ℕ}

-- The greatest number of a request: a request's number is its correlation id, which is an INT32 (Kafka protocol guide,
-- "Request Header v2").
abbrev pub GREATEST_NUMBER : ℕ
GREATEST_NUMBER = 2147483647
