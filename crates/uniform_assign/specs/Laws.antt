-- What the owners under uniform are.
use Rattle.std.specs.Prelude.{◌≡◌, List}
use Rattle.group_types.specs.Topics.{Topics}
use Rattle.group_types.specs.Assignors.{Subscriber}
use Rattle.group_types.specs.Owners.{Spread, IsLawful}
use Rattle.group_types.specs.Uniform.{IsEven, IsUniform}

-- Under uniform each partition that some member subscribes has exactly one owner, who subscribes it; nothing else is owned.
abbrev pub UniformIsLawful : Type 0
UniformIsLawful = (view : Topics) (subs : List Subscriber) (former spread : Spread) → IsUniform view subs former spread → IsLawful view subs spread

-- under uniform no owner of a partition owns more than one partition more than a subscriber of its topic
abbrev pub UniformIsEven : Type 0
UniformIsEven = (view : Topics) (subs : List Subscriber) (former spread : Spread) → IsUniform view subs former spread → IsEven view subs spread

-- owners that are lawful and even are given back
abbrev pub LawfulAndEvenOwnersStay : Type 0
LawfulAndEvenOwnersStay =
    (view : Topics) (subs : List Subscriber) (former spread : Spread) → IsLawful view subs former → IsEven view subs former
    → IsUniform view subs former spread → spread ≡ former

-- uniform gives one spread
abbrev pub UniformIsOneSpread : Type 0
UniformIsOneSpread =
    (view : Topics) (subs : List Subscriber) (former one other : Spread) → IsUniform view subs former one → IsUniform view subs former other → one ≡ other
