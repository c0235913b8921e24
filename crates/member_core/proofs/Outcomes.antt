-- What a member makes of a reply, and what it owns afterwards.
use Rattle.std.proofs.Common.{◌≡◌, ◌≢◌, ◌⊎◌, Bool, true, false, not, ◌&&◌, List, ℕ, refl, sym, ap, subst, ◌∙◌, inl, inr, IsTrue, true≢false}
use Rattle.std.specs.Ordering.{eq_by_cmp}
use Rattle.std.specs.Cmp.{Equal-is, eq_by_cmp_equiv, first_so, second_so}
use Rattle.kip_msgs.specs.Values.{HeartbeatReplyValue, ReplyValue, heartbeat_reply, commit_reply}
use Rattle.kip_msgs.specs.Laws.{OneReplyABody}
use Rattle.group_types.specs.declared.partition.Partition.{Partition}
use Rattle.group_types.specs.Sets.{nothing, has, without}
use Rattle.group_types.specs.Partition.{partition_cmp, Partitions}
use Rattle.group_types.proofs.Orders.{partition_cmp_total, partition_cmp-IsAntisymmetric}
use Rattle.group_types.proofs.Lookups.{some_is}
use Rattle.group_types.proofs.SetLemmas.{has-nothing, has-without, same_set}
use Rattle.member_core.specs.Client.{Client}
use Rattle.member_core.specs.Asking.{Ask, Join, Beat, Leave, GoAway, after_asking}
use Rattle.member_core.specs.Taking.{News, Accepts, Fences, Retries, Ends, Tells, TakesIf, after_news, news_of}
use Rattle.member_core.specs.Releasing.{released_if}
use Rattle.member_core.specs.Laws.{GoesAsking, GoesGivingUp, GoesTaking, GoesReleasing, OneOutcomeAReply, OwnsOnlyInside, MembersOwnOnlyInside, ReleasesLeaveTheRest}

-- ---- one outcome

abbrev heartbeat_in : ReplyValue → HeartbeatReplyValue → HeartbeatReplyValue
heartbeat_in (heartbeat_reply header v) other = v
heartbeat_in (commit_reply header v) other = other

-- one body tells one thing
pub same_news : OneReplyABody → (one other : ℕ) (body : List ℕ) (a b : News) → Tells one body a → Tells other body b → a ≡ b
same_news one_reply one other body a b first second =
    let same : heartbeat_reply first.header first.reply ≡ heartbeat_reply second.header second.reply =
    one_reply (heartbeat_reply first.header first.reply) (heartbeat_reply second.header second.reply) body refl first.spells second.spells in
    some_is a b (sym first.tells ∙ ap (λ v. news_of (heartbeat_in v first.reply)) same ∙ second.tells)

outcomes_if : OneReplyABody → (b : Bool) (c : Client) (body : List ℕ) (taken other : Bool) (new newer : Client) → TakesIf b c body taken new → TakesIf b c body other newer → (taken ≡ other) × (new ≡ newer)
outcomes_if one false c body taken other new newer first second = (first.0 ∙ sym second.0, first.1 ∙ sym second.1)
outcomes_if one true c body true true new newer first second =
    (refl, first.2 ∙ ap (after_news c) (same_news one c.number c.number body first.0 second.0 first.1 second.1) ∙ sym second.2)
outcomes_if one true c body true false new newer first second = absurd (second.0 first.0 first.1)
outcomes_if one true c body false true new newer first second = absurd (first.0 second.0 second.1)
outcomes_if one true c body false false new newer first second = (refl, first.1 ∙ sym second.1)

pub one_outcome : OneReplyABody → OneOutcomeAReply
one_outcome one c body taken other new newer first second = outcomes_if one c.waits c body taken other new newer first second

-- ---- who isn't inside owns nothing

own_after_asking : (c : Client) (ask : Ask) → OwnsOnlyInside c → OwnsOnlyInside (after_asking c ask)
own_after_asking c Join own = own
own_after_asking c (Beat fullness) own = own
own_after_asking c Leave own = λ out. refl
own_after_asking c GoAway own = λ out. refl

own_after_news : (c : Client) (news : News) → OwnsOnlyInside c → OwnsOnlyInside (after_news c news)
own_after_news c (Accepts m epoch shown) own = λ out. absurd (out refl)
own_after_news c Fences own = λ out. refl
own_after_news c Retries own = own
own_after_news c Ends own = λ out. refl

own_after_taking : (b : Bool) (c : Client) (body : List ℕ) (taken : Bool) (new : Client) → TakesIf b c body taken new → OwnsOnlyInside c → OwnsOnlyInside new
own_after_taking false c body taken new takes own = subst OwnsOnlyInside (sym takes.1) own
own_after_taking true c body true new takes own = subst OwnsOnlyInside (sym takes.2) (own_after_news c takes.0 own)
own_after_taking true c body false new takes own = subst OwnsOnlyInside (sym takes.1) own

-- who owns nothing has nothing to release
pub nothing_without : (set : Partitions) (p : Partition) → set ≡ nothing → without set p ≡ nothing
nothing_without set p is =
    same_set partition_cmp_total partition_cmp-IsAntisymmetric _ _ (λ q.
    has-without partition_cmp_total set p q
    ∙ ap (λ (s : Partitions). not (eq_by_cmp partition_cmp q p) && has s q) is
    ∙ ap (λ b. not (eq_by_cmp partition_cmp q p) && b) (has-nothing partition_cmp q)
    ∙ neither (not (eq_by_cmp partition_cmp q p))
    ∙ sym (has-nothing partition_cmp q))
  where
    neither : (b : Bool) → (b && false) ≡ false
    neither true = refl
    neither false = refl

own_after_release : (b : Bool) (c : Client) (p : Partition) → OwnsOnlyInside c → OwnsOnlyInside (released_if b c p)
own_after_release true c p own = own
own_after_release false c p own = λ out. nothing_without c.own p (own out)

pub own_only_inside : MembersOwnOnlyInside
own_only_inside c new (GoesAsking ask body asks) own = subst OwnsOnlyInside (sym asks.after) (own_after_asking c ask own)
own_only_inside c new (GoesGivingUp is) own = subst OwnsOnlyInside (sym is) own
own_only_inside c new (GoesTaking body taken takes) own = own_after_taking c.waits c body taken new takes own
own_only_inside c new (GoesReleasing p is) own = subst OwnsOnlyInside (sym is) (own_after_release (has c.shown p) c p own)

-- ---- what is released

same_partition : (p q : Partition) → eq_by_cmp partition_cmp q p ≡ true → q ≡ p
same_partition p q so = partition_cmp-IsAntisymmetric q p ((Equal-is (partition_cmp q p)).0 so)

left_by : (b : Bool) (c : Client) (p q : Partition) → has c.shown p ≡ b → IsTrue (has (released_if b c p).own q) → IsTrue (has c.own q) × ((q ≢ p) ⊎ IsTrue (has c.shown p))
left_by true c p q shown there = (there, inr shown)
left_by false c p q shown there =
    let so : (not (eq_by_cmp partition_cmp q p) && has c.own q) ≡ true = sym (has-without partition_cmp_total c.own p q) ∙ there in
    (second_so (not (eq_by_cmp partition_cmp q p)) (has c.own q) so, inl (λ same. differ (first_so (not (eq_by_cmp partition_cmp q p)) (has c.own q) so) same))
  where
    differ : not (eq_by_cmp partition_cmp q p) ≡ true → q ≡ p → ⊥
    differ apart same =
        true≢false (sym apart ∙ ap not (ap (λ x. eq_by_cmp partition_cmp x p) same ∙ (eq_by_cmp_equiv partition_cmp_total).refl p))

stays_by : (b : Bool) (c : Client) (p q : Partition) → has c.shown p ≡ b → IsTrue (has c.own q) → (q ≢ p) ⊎ IsTrue (has c.shown p) → IsTrue (has (released_if b c p).own q)
stays_by true c p q shown owns other = owns
stays_by false c p q not_shown owns (inr shown) = absurd (true≢false (sym shown ∙ not_shown))
stays_by false c p q not_shown owns (inl other) =
    has-without partition_cmp_total c.own p q ∙ (λ i. not (apart (eq_by_cmp partition_cmp q p) refl i) && owns i)
  where
    apart : (t : Bool) → eq_by_cmp partition_cmp q p ≡ t → eq_by_cmp partition_cmp q p ≡ false
    apart true same = absurd (other (same_partition p q same))
    apart false is = is

pub release_leaves : ReleasesLeaveTheRest
release_leaves c p q = (left_by (has c.shown p) c p q refl, λ both. stays_by (has c.shown p) c p q refl both.0 both.1)
