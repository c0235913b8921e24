-- The rule of uniform never lacks a result.
use Rattle.std.specs.Prelude.{List}
use Rattle.group_types.specs.Topics.{Topics}
use Rattle.group_types.specs.Assignors.{IdsAreApart, Subscriber}
use Rattle.group_types.specs.Owners.{Spread}
use Rattle.group_types.specs.Uniform.{IsUniform}

-- Whatever the topics and the former owners, there is a spread under uniform. Of the members it is asked that no two have
-- one id, as the records of a group have it: that the levelling ends is counted member by member.
abbrev pub UniformHasASpread : Type 0
UniformHasASpread =
    (view : Topics) (subs : List Subscriber) (former : Spread) → IdsAreApart subs → (spread : Spread) × IsUniform view subs former spread
