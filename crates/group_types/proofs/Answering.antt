-- What an answer says of the step: a refusal changed nothing, and the connection closes only where the heartbeat was
-- overtaken.
use Rattle.std.proofs.Common.{◌≡◌, ◌≢◌, ◌⊎◌, inl, inr, Bool, true, false, ◌&&◌, nat_le, Option, Some, None, MatchOption, max, refl, sym, subst, ◌∙◌, cond}
use Rattle.group_types.specs.declared.code.Code.TheVariants as codes
use Rattle.group_types.specs.Limits.{GREATEST_EPOCH}
use Rattle.group_types.specs.Topics.{Topics}
use Rattle.group_types.specs.Request.{Heartbeat, Kind, Joins, Beats, Leaves, GoesAway, MeansNothing, LEAVES_AT, GOES_AWAY_AT, kind_of}
use Rattle.group_types.specs.Group.{Group, Record}
use Rattle.group_types.specs.Join.{Name}
use Rattle.group_types.specs.Renewal.{changed_if, view_for}
use Rattle.group_types.specs.Checks.{Verdict, Accepted, Refused, Overtaken, Sender, sender_of, verdict_on}
use Rattle.group_types.specs.HeartbeatStep.{Answer, Replied, Closes, Arrival, Draft, Reply, Stages, IsRefused, JoinsAs, refusal, farewell, acceptance, draft_of_beat, draft_under, ByVerdict, TakesIn, BeatsWith, GoesAwayWith, StepOf, HeartbeatStep}

-- It is answered, and where that isn't with success nothing has changed.
pub record IsAnswered (g : Group) (answer : Answer) (new : Group) : Type 0 where
  pub reply : Reply
  pub is_reply : answer ≡ Replied reply
  pub unless_success : (reply.code ≡ codes.NoError) ⊎ (new ≡ g)

answered_refusal : (g : Group) (a : Answer) (n : Group) (r : Reply) → (a ≡ Replied r) × (n ≡ g) → IsAnswered g a n
answered_refusal g a n r is = record { reply = r; is_reply = is.0; unless_success = inr is.1 }

answered_stages : (g changed : Group) (d : Draft) (q : Heartbeat) (a : Answer) (n : Group) → Stages changed d q a n → IsAnswered g a n
answered_stages g changed d q a n is =
    record { reply = acceptance d.id is.kept is.told; is_reply = is.answers; unless_success = inl refl }

by_change : (b : Bool) (Accepts : Answer → Group → Type 0) (g : Group) (a : Answer) (n : Group) → (Accepts a n → IsAnswered g a n)
    → ByVerdict (cond b (Refused codes.CoordinatorNotAvailable) Accepted) Accepts g a n → IsAnswered g a n
by_change true Accepts g a n accepts is = answered_refusal g a n (refusal codes.CoordinatorNotAvailable) is
by_change false Accepts g a n accepts is = accepts is

answered_draft : (g : Group) (d : Draft) (q : Heartbeat) (image : Topics) (a : Answer) (n : Group) → TakesIn g d q image a n → IsAnswered g a n
answered_draft g d q image a n is =
    let changed : Group = changed_if is.change d.group (view_for image d.group.records) in
    by_change (is.change && nat_le GREATEST_EPOCH g.epoch) (Stages changed d q) g a n (answered_stages g changed d q a n) is.step

answered_join : (sender : Sender) (g : Group) (h : Arrival) (a : Answer) (n : Group) → JoinsAs sender g h a n → IsAnswered g a n
answered_join sender g h a n is = by is.name is.joins
  where
    by : (name : Option Name) → MatchOption name (IsRefused codes.CoordinatorNotAvailable g a n) (λ m. TakesIn g (draft_under m sender g h) h.heartbeat h.image a n) → IsAnswered g a n
    by None refused = answered_refusal g a n (refusal codes.CoordinatorNotAvailable) refused
    by (Some name) taken = answered_draft g (draft_under name sender g h) h.heartbeat h.image a n taken

answered_beat : (own : Option Record) (g : Group) (h : Arrival) (a : Answer) (n : Group) → BeatsWith own g h a n → IsAnswered g a n
answered_beat None g h a n is = absurd is
answered_beat (Some r) g h a n is =
    answered_draft g (draft_of_beat g (max g.clock h.moment) r h.heartbeat h.stamp) h.heartbeat h.image a n is

answered_going : (own : Option Record) (g : Group) (h : Arrival) (a : Answer) (n : Group) → GoesAwayWith own g h a n → IsAnswered g a n
answered_going None g h a n is = absurd is
answered_going (Some r) g h a n is =
    record { reply = farewell h.heartbeat.member GOES_AWAY_AT; is_reply = is.0; unless_success = inl refl }

answered_step : (kind : Kind) (sender : Sender) (g : Group) (h : Arrival) (a : Answer) (n : Group) → StepOf kind sender g h a n → IsAnswered g a n
answered_step Joins sender g h a n is = answered_join sender g h a n is
answered_step (Beats e) sender g h a n is = answered_beat sender.own g h a n is
answered_step Leaves sender g h a n is =
    record { reply = farewell h.heartbeat.member LEAVES_AT; is_reply = is.0; unless_success = inl refl }
answered_step GoesAway sender g h a n is = answered_going sender.own g h a n is
answered_step MeansNothing sender g h a n is = absurd is

-- ---- by the verdict

module _ (Accepts : Answer → Group → Type 0) (g : Group) (a : Answer) (n : Group) (answered : Accepts a n → IsAnswered g a n) where
  abbrev Replies : Answer → Type 0
  Replies Closes = ⊥
  Replies (Replied r) = Unit {0}

  overtaken : (v : Verdict) → ByVerdict v Accepts g a n → a ≡ Closes → v ≡ Overtaken
  overtaken Accepted is closes = absurd (subst Replies (sym (answered is).is_reply ∙ closes) tt)
  overtaken (Refused code) is closes = absurd (subst Replies (sym is.0 ∙ closes) tt)
  overtaken Overtaken is closes = refl

  abbrev CodeOf : Answer → Type 0
  CodeOf Closes = Unit {0}
  CodeOf (Replied r) = (r.code ≡ codes.NoError) ⊎ (n ≡ g)

  unchanged : (v : Verdict) → ByVerdict v Accepts g a n → CodeOf a
  unchanged Accepted is = subst CodeOf (sym (answered is).is_reply) (answered is).unless_success
  unchanged (Refused code) is = subst CodeOf (sym is.0) (inr is.1)
  unchanged Overtaken is = subst CodeOf (sym is.0) tt

  closed_as_was : (v : Verdict) → ByVerdict v Accepts g a n → a ≡ Closes → n ≡ g
  closed_as_was Accepted is closes = absurd (subst Replies (sym (answered is).is_reply ∙ closes) tt)
  closed_as_was (Refused code) is closes = is.1
  closed_as_was Overtaken is closes = is.1

module _ (g : Group) (h : Arrival) (a : Answer) (n : Group) (step : HeartbeatStep g h a n) where
  abbrev Accepting : Answer → Group → Type 0
  Accepting = StepOf (kind_of h.heartbeat.epoch) (sender_of g.records h.heartbeat) g h

  answering : Accepting a n → IsAnswered g a n
  answering = answered_step (kind_of h.heartbeat.epoch) (sender_of g.records h.heartbeat) g h a n

  abbrev TheVerdict : Verdict
  TheVerdict = verdict_on (kind_of h.heartbeat.epoch) (sender_of g.records h.heartbeat) g h.heartbeat h.stamp

  pub closes_when_overtaken : a ≡ Closes → (TheVerdict ≡ Overtaken) × (n ≡ g)
  closes_when_overtaken closes = (
    overtaken Accepting g a n answering TheVerdict step closes,
    closed_as_was Accepting g a n answering TheVerdict step closes,
  )

  pub refusal_changes_nothing : (r : Reply) → a ≡ Replied r → r.code ≢ codes.NoError → n ≡ g
  refusal_changes_nothing r is fails =
      by (subst (CodeOf Accepting g a n answering) is (unchanged Accepting g a n answering TheVerdict step))
    where
      by : (r.code ≡ codes.NoError) ⊎ (n ≡ g) → n ≡ g
      by (inl success) = absurd (fails success)
      by (inr same) = same
