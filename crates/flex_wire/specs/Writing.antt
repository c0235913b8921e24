-- What a put does to the bytes written so far.
use Rattle.std.specs.Prelude.{◌≡◌, ℕ, ◌+◌, ◌<◌, ◌≤◌, List, ◌++◌, length, take, Result, OnOk, OnErr, is_ok, vec_len, vec_capacity, if◌then◌else◌}
use Rattle.std.specs.Global.{Vec}

-- The spelling is appended; want of memory changes no byte, and comes only where the whole spelling
-- had no room; the capacity never shrinks.
pub record Appends {X E : Type 0} (result : Result X E) (old new : Vec ℕ) (spelling : List ℕ) : Type 0 where
  pub items : new.items ≡ (if is_ok result then old.items ++ spelling else old.items)
  pub room : OnErr result (vec_capacity old < vec_len old + length spelling)
  pub capacity : vec_capacity old ≤ vec_capacity new

-- The same of a put that may stop inside the spelling: the old bytes are then still the first ones.
pub record AppendsUpTo {X E : Type 0} (result : Result X E) (old new : Vec ℕ) (spelling : List ℕ) : Type 0 where
  pub ok : OnOk result (new.items ≡ old.items ++ spelling)
  pub err : OnErr result (take (length old.items) new.items ≡ old.items)
  pub room : OnErr result (vec_capacity old < vec_len old + length spelling)
  pub capacity : vec_capacity old ≤ vec_capacity new
