-- A heartbeat has one answer in a group, and leaves one group.
use Rattle.std.proofs.Common.{◌≡◌, ℕ, ◌<◌, Bool, true, false, ◌||◌, [], ◌∷◌, Option, Some, None, max, ◌==◌, refl, sym, ap, subst, ◌∙◌, arith, true≢false}
use Rattle.std.specs.FinMap as finite
use Rattle.std.specs.Option.{MatchOption, option_map}
use Rattle.group_types.specs.Text.{Text}
use Rattle.group_types.specs.Topics.{Topics}
use Rattle.group_types.specs.Request.{Heartbeat, Kind, Joins, Beats, Leaves, GoesAway, MeansNothing, is_full, kind_of, reported}
use Rattle.group_types.specs.Group.{Group, Record, Target}
use Rattle.group_types.specs.Join.{IsSerial, IsNextSerial, IsNamed, Name, name_of_serial}
use Rattle.group_types.specs.Renewal.{IsChange, RenewsWhere, changed_if, view_for}
use Rattle.group_types.specs.Checks.{Verdict, Accepted, Refused, Overtaken, Sender, sender_of, verdict_on}
use Rattle.group_types.specs.HeartbeatStep.{Answer, Arrival, Draft, draft_of_beat, ByVerdict, verdict_on_change, Replied, Stages, IsRefused, TakesIn, acceptance, assignment_of, draft_under, is_news, sent_after, shown, BeatsWith, GoesAwayWith, StepOf, HeartbeatStep}
use Rattle.group_types.specs.declared.code.Code.TheVariants as codes
use Rattle.group_types.specs.Partition.{Partitions}
use Rattle.group_types.specs.Settle.{settled as settled_to}
use Rattle.group_types.proofs.Lookups.{some_is}
use Rattle.group_core.proofs.OneTarget.{one_target}

-- one answer, and one group
abbrev Same : Answer → Answer → Group → Group → Type 0
Same a b n o = (a ≡ b) × (n ≡ o)

-- ---- the id

not_below : (g : Group) (n m : ℕ) → IsNextSerial g n → IsNextSerial g m → n < m → ⊥
not_below g n m one other less = true≢false (sym (other.first n one.from less) ∙ one.fresh)

pub same_serial : (g : Group) (s t : Option ℕ) → IsSerial g s → IsSerial g t → s ≡ t
same_serial g (Some n) (Some m) one other = ap Some (omega (arith, not_below g n m one other, not_below g m n other one))
same_serial g (Some n) None one other = absurd (true≢false (sym (other n one.from one.below) ∙ one.fresh))
same_serial g None (Some m) one other = absurd (true≢false (sym (one m other.from other.below) ∙ other.fresh))
same_serial g None None one other = refl

pub same_name : (g : Group) (m : Text) (s t : Option Name) → IsNamed g m s → IsNamed g m t → s ≡ t
same_name g [] s t one other =
    one.2 ∙ ap (option_map (name_of_serial g)) (same_serial g one.0 other.0 one.1 other.1) ∙ sym other.2
same_name g (c ∷ m) s t one other = one ∙ sym other

-- ---- the stages

same_change : (b c : Bool) (before : Option Record) (after : Record) (stored view : Topics) → IsChange b before after stored view → IsChange c before after stored view → b ≡ c
same_change b c None after stored view one other = one ∙ sym other
same_change true true (Some before) after stored view one other = refl
same_change false false (Some before) after stored view one other = refl
same_change true false (Some before) after stored view one other = absurd (one other)
same_change false true (Some before) after stored view one other = absurd (other one)

same_renewed : (b : Bool) (g n o : Group) → RenewsWhere b g n → RenewsWhere b g o → n ≡ o
same_renewed true g n o p q = p ∙ sym q
same_renewed false g n o p q =
    p.2 ∙ ap (λ (t : Target). record g { target = t; target_epoch = g.epoch }) (one_target g.records g.view g.target p.0 q.0 p.1 q.1) ∙ sym q.2

-- the member is told the same of the same group
same_told : (d : Draft) (q : Heartbeat) (settled : Group) (r s : Record) → r ≡ s → (t u : Option Partitions)
    → t ≡ assignment_of (is_full q || is_news r.sent (shown settled d.id)) (shown settled d.id) → u ≡ assignment_of (is_full q || is_news s.sent (shown settled d.id)) (shown settled d.id) → t ≡ u
same_told d q settled r s same t u one other =
    one ∙ ap (λ (x : Record). assignment_of (is_full q || is_news x.sent (shown settled d.id)) (shown settled d.id)) same ∙ sym other

same_stages : (changed : Group) (d : Draft) (q : Heartbeat) (a b : Answer) (n o : Group) → Stages changed d q a n → Stages changed d q b o → Same a b n o
same_stages changed d q a b n o one other =
    let renewed : one.renewed ≡ other.renewed = same_renewed (changed.epoch == changed.target_epoch) changed one.renewed other.renewed one.renews other.renews in
    let settled : one.settled ≡ other.settled = one.settles ∙ ap (λ (x : Group). settled_to x d.id (reported q) x.clock) renewed ∙ sym other.settles in
    let kept : one.kept ≡ other.kept = some_is one.kept other.kept (sym one.is_kept ∙ ap (λ (x : Group). finite.get x.records d.id) settled ∙ other.is_kept) in
    let told : one.told ≡ other.told = same_told d q one.settled one.kept other.kept kept one.told other.told one.tells
    (subst (λ (x : Group). other.told ≡ assignment_of (is_full q || is_news other.kept.sent (shown x d.id)) (shown x d.id)) (sym settled) other.tells) in (
      one.answers ∙ (λ i. Replied (acceptance d.id (kept i) (told i))) ∙ sym other.answers,
      one.leaves ∙ (λ i. record (settled i) { records = finite.insert (settled i).records d.id (sent_after (kept i) (told i)) }) ∙ sym other.leaves,
    )

same_by_verdict : (v : Verdict) (Accepts : Answer → Group → Type 0) (g : Group) (a b : Answer) (n o : Group)
    → (Accepts a n → Accepts b o → Same a b n o) → ByVerdict v Accepts g a n → ByVerdict v Accepts g b o → Same a b n o
same_by_verdict Accepted Accepts g a b n o same one other = same one other
same_by_verdict (Refused code) Accepts g a b n o same one other = (one.0 ∙ sym other.0, one.1 ∙ sym other.1)
same_by_verdict Overtaken Accepts g a b n o same one other = (one.0 ∙ sym other.0, one.1 ∙ sym other.1)

-- a draft with its change on goes on where the last check lets it
abbrev Continues : Bool → Group → Draft → Heartbeat → Topics → Answer → Group → Type 0
Continues change g d q image answer new =
    ByVerdict (verdict_on_change change g.epoch) (Stages (changed_if change d.group (view_for image d.group.records)) d q) g answer new

same_takes_in : (g : Group) (d : Draft) (q : Heartbeat) (image : Topics) (a b : Answer) (n o : Group) → TakesIn g d q image a n → TakesIn g d q image b o → Same a b n o
same_takes_in g d q image a b n o one other =
    let view : Topics = view_for image d.group.records in
    let change : one.change ≡ other.change = same_change one.change other.change d.before d.after g.view view one.is_change other.is_change in
    let later : Continues one.change g d q image b o = subst (λ (c : Bool). Continues c g d q image b o) (sym change) other.step in
    same_by_verdict (verdict_on_change one.change g.epoch) (Stages (changed_if one.change d.group view) d q) g a b n o
    (same_stages (changed_if one.change d.group view) d q a b n o) one.step later

-- ---- by the kind of heartbeat

-- what comes of a name, or of none
abbrev Under : Option Name → Sender → Group → Arrival → Answer → Group → Type 0
Under name sender g h answer new =
    MatchOption name (IsRefused codes.CoordinatorNotAvailable g answer new) (λ n. TakesIn g (draft_under n sender g h) h.heartbeat h.image answer new)

same_under : (name : Option Name) (sender : Sender) (g : Group) (h : Arrival) (a b : Answer) (n o : Group) → Under name sender g h a n → Under name sender g h b o → Same a b n o
same_under None sender g h a b n o one other = (one.0 ∙ sym other.0, one.1 ∙ sym other.1)
same_under (Some name) sender g h a b n o one other = same_takes_in g (draft_under name sender g h) h.heartbeat h.image a b n o one other

same_beats : (own : Option Record) (g : Group) (h : Arrival) (a b : Answer) (n o : Group) → BeatsWith own g h a n → BeatsWith own g h b o → Same a b n o
same_beats None g h a b n o one other = absurd one
same_beats (Some r) g h a b n o one other =
    same_takes_in g (draft_of_beat g (max g.clock h.moment) r h.heartbeat h.stamp) h.heartbeat h.image a b n o one other

same_goes_away : (own : Option Record) (g : Group) (h : Arrival) (a b : Answer) (n o : Group) → GoesAwayWith own g h a n → GoesAwayWith own g h b o → Same a b n o
same_goes_away None g h a b n o one other = absurd one
same_goes_away (Some r) g h a b n o one other = (one.0 ∙ sym other.0, one.1 ∙ sym other.1)

same_step_of : (kind : Kind) (sender : Sender) (g : Group) (h : Arrival) (a b : Answer) (n o : Group) → StepOf kind sender g h a n → StepOf kind sender g h b o → Same a b n o
same_step_of Joins sender g h a b n o one other =
    let name : one.name ≡ other.name = same_name g h.heartbeat.member one.name other.name one.is_named other.is_named in
    let later : Under one.name sender g h b o = subst (λ (x : Option Name). Under x sender g h b o) (sym name) other.joins in
    same_under one.name sender g h a b n o one.joins later
same_step_of (Beats e) sender g h a b n o one other = same_beats sender.own g h a b n o one other
same_step_of Leaves sender g h a b n o one other = (one.0 ∙ sym other.0, one.1 ∙ sym other.1)
same_step_of GoesAway sender g h a b n o one other = same_goes_away sender.own g h a b n o one other
same_step_of MeansNothing sender g h a b n o one other = absurd one

pub same_heartbeat_step : (g : Group) (h : Arrival) (a b : Answer) (n o : Group) → HeartbeatStep g h a n → HeartbeatStep g h b o → (a ≡ b) × (n ≡ o)
same_heartbeat_step g h a b n o one other =
    let kind : Kind = kind_of h.heartbeat.epoch in
    let sender : Sender = sender_of g.records h.heartbeat in
    same_by_verdict (verdict_on kind sender g h.heartbeat h.stamp) (StepOf kind sender g h) g a b n o
    (same_step_of kind sender g h a b n o) one other
