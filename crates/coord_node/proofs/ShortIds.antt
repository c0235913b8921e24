-- A reply names the id of the request, or one that was made, which is short.
use Rattle.std.proofs.Common.{◌≡◌, ℕ, ◌≤◌, [], ◌∷◌, length, Option, Some, None, IfSome, max, refl, sym, ap, subst, arith}
use Rattle.std.specs.Option.{MatchOption}
use Rattle.group_types.specs.Limits.{LONGEST_STRING}
use Rattle.group_types.specs.Text.{Text}
use Rattle.group_types.specs.Topics.{Topics}
use Rattle.group_types.specs.MemberId.{made_id}
use Rattle.group_types.specs.Request.{Heartbeat, Kind, Joins, Beats, Leaves, GoesAway, MeansNothing, kind_of}
use Rattle.group_types.specs.Group.{Group, Record}
use Rattle.group_types.specs.Join.{Name, IsNamed, name_of_serial}
use Rattle.group_types.specs.Renewal.{changed_if, view_for}
use Rattle.group_types.specs.Checks.{Verdict, Accepted, Refused, Overtaken, Member, Sender, sender_of, verdict_on}
use Rattle.group_types.specs.HeartbeatStep.{Answer, Replied, Closes, Arrival, Draft, IsRefused, Reply, Stages, refusal, acceptance, draft_of_beat, draft_of_join, draft_under, ByVerdict, verdict_on_change, TakesIn, BeatsWith, GoesAwayWith, StepOf, HeartbeatStep}
use Rattle.group_types.specs.declared.code.Code.TheVariants.{CoordinatorNotAvailable}
use Rattle.group_types.proofs.Lookups.{some_is}
use Rattle.group_types.proofs.MadeIds.{length-made_id}
use Rattle.coord_node.specs.Answers.{HasShortId}

abbrev IsShort : Text → Type 0
IsShort id = length id ≤ LONGEST_STRING

-- the answer names this id, or none
abbrev Names : Text → Answer → Type 0
Names id (Replied r) = IfSome r.member (λ m. m ≡ id)
Names id Closes = Unit {0}

named_short : (id : Text) (a : Answer) → Names id a → IsShort id → HasShortId a
named_short id (Replied r) names short = by r.member names
  where
    by : (member : Option Text) → IfSome member (λ m. m ≡ id) → IfSome member IsShort
    by None is = tt
    by (Some m) is = subst IsShort (sym is) short
named_short id Closes names short = tt

refused : (id : Text) (a : Answer) (r : Reply) → a ≡ Replied r → r.member ≡ None → Names id a
refused id a r is none = subst (Names id) (sym is) (subst (λ member. IfSome member (λ m. m ≡ id)) (sym none) tt)

replied : (id : Text) (a : Answer) (r : Reply) → a ≡ Replied r → r.member ≡ Some id → Names id a
replied id a r is some = subst (Names id) (sym is) (subst (λ member. IfSome member (λ m. m ≡ id)) (sym some) refl)

by_verdict : (v : Verdict) (Accepts : Answer → Group → Type 0) (id : Text) (g : Group) (a : Answer) (n : Group)
    → (Accepts a n → Names id a) → ByVerdict v Accepts g a n → Names id a
by_verdict Accepted Accepts id g a n accepts is = accepts is
by_verdict (Refused code) Accepts id g a n accepts is = refused id a (refusal code) is.0 refl
by_verdict Overtaken Accepts id g a n accepts is = subst (Names id) (sym is.0) tt

taken_in : (g : Group) (d : Draft) (q : Heartbeat) (image : Topics) (a : Answer) (n : Group) → TakesIn g d q image a n → Names d.id a
taken_in g d q image a n is =
    by_verdict (verdict_on_change is.change g.epoch) (Stages (changed_if is.change d.group (view_for image d.group.records)) d q) d.id g a n
    (λ stages. replied d.id a (acceptance d.id stages.kept stages.told) stages.answers refl) is.step

-- whoever joins, the reply names the id under which it does
id_is : (g : Group) (now : ℕ) (id : Text) (own : Option Record) (other : Option Member) (q : Heartbeat) (h : Arrival)
    → (draft_of_join g now id own other q h.stamp).id ≡ id
id_is g now id (Some r) other q h = refl
id_is g now id None None q h = refl
id_is g now id None (Some old) q h = refl

joined : (sender : Sender) (g : Group) (h : Arrival) (name : Name) (a : Answer) (n : Group) → TakesIn g (draft_under name sender g h) h.heartbeat h.image a n → Names name.id a
joined sender g h name a n is =
    subst (λ id. Names id a) (id_is (record g { serial = name.next_serial }) (max g.clock h.moment) name.id sender.own sender.other h.heartbeat h)
    (taken_in g (draft_under name sender g h) h.heartbeat h.image a n is)

name_short : (g : Group) (member : Text) (name : Name) → IsNamed g member (Some name) → IsShort member → IsShort name.id
name_short g [] name (Some serial, is_serial, is) short =
    let id : name.id ≡ made_id g.salt serial = ap (λ (x : Name). x.id) (some_is name (name_of_serial g serial) is) in
    omega (arith, ap length id, length-made_id g.salt serial)
name_short g [] name (None, is_serial, is) short = cc
name_short g (c ∷ m) name is short =
    let id : name.id ≡ c ∷ m = ap (λ (x : Name). x.id) (some_is name _ is) in
    subst IsShort (sym id) short

joins_short : (sender : Sender) (g : Group) (h : Arrival) (name : Option Name) (a : Answer) (n : Group)
    → IsShort h.heartbeat.member → IsNamed g h.heartbeat.member name
    → MatchOption name (IsRefused CoordinatorNotAvailable g a n) (λ x. TakesIn g (draft_under x sender g h) h.heartbeat h.image a n) → HasShortId a
joins_short sender g h None a n short named is = named_short [] a (refused [] a _ is.0 refl) (omega arith)
joins_short sender g h (Some name) a n short named is =
    named_short name.id a (joined sender g h name a n is) (name_short g h.heartbeat.member name named short)

beats : (own : Option Record) (g : Group) (h : Arrival) (a : Answer) (n : Group) → BeatsWith own g h a n → Names h.heartbeat.member a
beats None g h a n is = absurd is
beats (Some r) g h a n is = taken_in g (draft_of_beat g (max g.clock h.moment) r h.heartbeat h.stamp) h.heartbeat h.image a n is

goes_away : (own : Option Record) (g : Group) (h : Arrival) (a : Answer) (n : Group) → GoesAwayWith own g h a n → Names h.heartbeat.member a
goes_away None g h a n is = absurd is
goes_away (Some r) g h a n is = replied h.heartbeat.member a _ is.0 refl

step_short : (kind : Kind) (sender : Sender) (g : Group) (h : Arrival) (a : Answer) (n : Group)
    → IsShort h.heartbeat.member → StepOf kind sender g h a n → HasShortId a
step_short Joins sender g h a n short is = joins_short sender g h is.name a n short is.is_named is.joins
step_short (Beats e) sender g h a n short is = named_short h.heartbeat.member a (beats sender.own g h a n is) short
step_short Leaves sender g h a n short is =
    named_short h.heartbeat.member a (replied h.heartbeat.member a _ is.0 refl) short
step_short GoesAway sender g h a n short is = named_short h.heartbeat.member a (goes_away sender.own g h a n is) short
step_short MeansNothing sender g h a n short is = absurd is

whole_short : (v : Verdict) (kind : Kind) (sender : Sender) (g : Group) (h : Arrival) (a : Answer) (n : Group)
    → IsShort h.heartbeat.member → ByVerdict v (StepOf kind sender g h) g a n → HasShortId a
whole_short Accepted kind sender g h a n short is = step_short kind sender g h a n short is
whole_short (Refused code) kind sender g h a n short is = named_short [] a (refused [] a _ is.0 refl) (omega arith)
whole_short Overtaken kind sender g h a n short is = subst HasShortId (sym is.0) tt

-- a reply to a heartbeat under a short id, or none, names a short id, or none
pub HasShortId-step : (g : Group) (h : Arrival) (a : Answer) (n : Group) → length h.heartbeat.member ≤ LONGEST_STRING → HeartbeatStep g h a n → HasShortId a
HasShortId-step g h a n short is =
    whole_short (verdict_on (kind_of h.heartbeat.epoch) (sender_of g.records h.heartbeat) g h.heartbeat h.stamp) (kind_of h.heartbeat.epoch) (sender_of g.records h.heartbeat) g h a n short is
