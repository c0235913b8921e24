-- What an heir has.
use Rattle.std.proofs.Common.{◌≡◌, ◌≢◌, ◌↔◌, Bool, true, false, not, ◌&&◌, ◌||◌, List, [], ◌∷◌, Option, Some, None, IsTrue, refl, sym, ap, subst, ◌∙◌, true≢false, ◌≤◌, length, cond, is_some, arith}
use Rattle.std.specs.Cmp.{eq_by_cmp_equiv, Equal-is, first_so, second_so}
use Rattle.std.specs.List.{list_any}
use Rattle.std.specs.Ordering.{eq_by_cmp}
use Rattle.std.specs.FinMap as finite
use Rattle.group_types.specs.declared.epoch.Epoch.{Epoch}
use Rattle.group_types.specs.declared.epoch.Epoch.TheVariants.{At, Away}
use Rattle.group_types.specs.declared.partition.Partition.{Partition}
use Rattle.group_types.specs.Text.{Text, text_cmp}
use Rattle.group_types.specs.Sets.{common, has, in_order, is_nothing, minus, nothing}
use Rattle.group_types.specs.Partition.{Partitions, partition_cmp}
use Rattle.group_types.specs.Request.{GOES_AWAY_AT, LEAVES_AT, reported}
use Rattle.group_types.specs.Group.{Grant, Grants, Group, Past, Record, Records, grant_cmp, held, wanted}
use Rattle.group_types.specs.Limits.{MOST_PAST_MEMBERS}
use Rattle.group_types.specs.Members.{past_stamp, remembering, without_past}
use Rattle.group_types.specs.Settle.{grants_after, is_free_for, may_move, moved}
use Rattle.group_types.specs.Checks.{Member, is_away}
use Rattle.group_types.specs.HeartbeatStep.{Answer, Arrival, Draft, farewell, handed_over}
use Rattle.group_types.proofs.Consistent.{IsConsistent, consistent}
use Rattle.group_types.specs.FormerMembers.{IsFormer}
use Rattle.group_types.specs.TakeOvers.{HeirsHaveAll, IsHeirTo, TakesOver}
use Rattle.group_types.proofs.Orders.{partition_cmp_total, partition_cmp-IsAntisymmetric}
use Rattle.group_types.proofs.SetLemmas.{common-nothing, has-in_order, has-nothing, is_nothing-Decides}
use Rattle.group_types.proofs.SpreadLemmas.{has-share_of, owns-get}
use Rattle.group_types.proofs.GrantLemmas.{grant_cmp_total, has-moved, has-others}
use Rattle.group_types.proofs.Lookups.{Tie, ties, differs, tie, no_tie, text_ties, not_none, some_is, get-insert_other}
use Rattle.group_types.proofs.PastLemmas.{few_remembered, few_without, not_past, stamp_without}
use Rattle.group_types.proofs.Remembered.{remembered_now, stamp_without_other}
use Rattle.group_types.proofs.Settlings.{moved_gets, moved_own, moved_within}
use Rattle.group_types.proofs.Accepted.{Came, unchanged, has_left, went_away, taken_in, came, nobody, Drafting, Stages, Whose, its_own, newcomer, takes_over, may}
use Rattle.group_types.proofs.Soundness.{still_holds}
use Rattle.group_types.proofs.Afterwards.{IsHanded, Last, Renewed, accepted_is, grants_are, handed, has_record, heir_differs, last_same, other_record, past_is, same_id, taken_from, target_epoch_is, target_is, there}

-- ---- a partition that nobody else holds is free

or_true : (a b : Bool) → b ≡ true → (a || b) ≡ true
or_true true b so = refl
or_true false b so = so

any_found : (f : Grant → Bool) (gs : List Grant) → list_any f gs ≡ true → (x : Grant) × (f x ≡ true) × (list_any (eq_by_cmp grant_cmp x) gs ≡ true)
any_found f [] never = absurd (true≢false (sym never))
any_found f (e ∷ gs) so = by (any_found f gs) (f e) refl so
  where
    by : (list_any f gs ≡ true → (x : Grant) × (f x ≡ true) × (list_any (eq_by_cmp grant_cmp x) gs ≡ true)) → (b : Bool) → f e ≡ b → (b || list_any f gs) ≡ true
        → (x : Grant) × (f x ≡ true) × (list_any (eq_by_cmp grant_cmp x) (e ∷ gs) ≡ true)
    by rest true is so = (e, is, ap (λ b. b || list_any (eq_by_cmp grant_cmp e) gs) ((eq_by_cmp_equiv grant_cmp_total).refl e))
    by rest false is so = let found = rest so in (found.0, found.1, or_true (eq_by_cmp grant_cmp found.0 e) _ found.2)

is_free : (grants : Grants) (m : Text) (p : Partition) → ((n : Text) → IsTrue (has grants (n, p)) → n ≡ m) → is_free_for grants m p ≡ true
is_free grants m p only = by (list_any (λ (g : Grant). eq_by_cmp partition_cmp p g.1 && not (eq_by_cmp text_cmp m g.0)) (in_order grants)) refl
  where
    other : (x : Grant) → (eq_by_cmp partition_cmp p x.1 && not (eq_by_cmp text_cmp m x.0)) ≡ true → list_any (eq_by_cmp grant_cmp x) (in_order grants) ≡ true → ⊥
    other x so there =
        let same : p ≡ x.1 = partition_cmp-IsAntisymmetric p x.1 ((Equal-is (partition_cmp p x.1)).0 (first_so _ _ so)) in
        let holds : IsTrue (has grants (x.0, p)) = ap (λ (k : Partition). has grants (x.0, k)) same ∙ has-in_order grants x ∙ there in
        let is : x.0 ≡ m = only x.0 holds in
        true≢false (sym (second_so (eq_by_cmp partition_cmp p x.1) _ so) ∙ ap (λ k. not (eq_by_cmp text_cmp m k)) is ∙ ap not (text_ties m))

    by : (b : Bool) → list_any (λ (g : Grant). eq_by_cmp partition_cmp p g.1 && not (eq_by_cmp text_cmp m g.0)) (in_order grants) ≡ b → not b ≡ true
    by true some = let found = any_found (λ (g : Grant). eq_by_cmp partition_cmp p g.1 && not (eq_by_cmp text_cmp m g.0)) (in_order grants) some in absurd (other found.0 found.1 found.2)
    by false none = refl

-- ---- who reports that it owns nothing may move

pub moves : (rest : Partitions) (report : Option Partitions) → report ≡ Some nothing → may_move rest report ≡ true
moves rest report is =
    ap (may_move rest) is
    ∙ or_true (is_nothing rest) _ ((is_nothing-Decides (common nothing rest)).1
    (common-nothing partition_cmp_total partition_cmp-IsAntisymmetric nothing rest (λ p there. absurd (true≢false (sym there ∙ has-nothing partition_cmp p)))))

is_away_so : (e : Epoch) → is_away e ≡ true → e ≡ Away
is_away_so (At n) never = absurd (true≢false (sym never))
is_away_so Away so = refl

-- ---- the heir

module _ (g : Group) (sound : IsConsistent g) (a : Arrival) (answer : Answer) (new : Group) (d : Draft) (drafting : Drafting g a d) (stages : Stages d a.heartbeat answer new)
    (old : Member) (base_is : drafting.base ≡ handed_over g old d.id) (was : finite.get g.records old.id ≡ Some old.kept) (absent : finite.get g.records d.id ≡ None)
    (gone : is_away old.kept.epoch ≡ true) (instance : d.after.instance ≡ old.kept.instance) (reports : reported a.heartbeat ≡ Some nothing) where
  abbrev TheRenewed : Group
  TheRenewed = Renewed g a answer new d drafting stages

  abbrev Base : Group
  Base = drafting.base

  apart : d.id ≢ old.id
  apart = heir_differs g a answer new d drafting stages sound old base_is was absent

  over : IsHanded g old d.id Base
  over = handed g a answer new d drafting stages sound old base_is was absent

  may_so : may TheRenewed d a.heartbeat ≡ true
  may_so = moves (minus (held TheRenewed.grants d.id) (wanted TheRenewed.target d.id)) (reported a.heartbeat) reports

  new_grants : new.grants ≡ moved TheRenewed.grants d.id (wanted TheRenewed.target d.id)
  new_grants =
      grants_are g a answer new d drafting stages ∙ ap (λ b. grants_after b TheRenewed.grants d.id (wanted TheRenewed.target d.id)) may_so

  holds_moved : (p : Partition) → has new.grants (d.id, p) ≡ has (moved TheRenewed.grants d.id (wanted TheRenewed.target d.id)) (d.id, p)
  holds_moved p = ap (λ x. has x (d.id, p)) new_grants

  owner_same : (p : Partition) → finite.get new.target p ≡ finite.get TheRenewed.target p
  owner_same p = ap (λ t. finite.get t p) (target_is g a answer new d drafting stages)

  held_by : (n : Text) (p : Partition) → has TheRenewed.grants (n, p) ≡ has Base.grants (n, p)
  held_by n p = ap (λ x. has x (n, p)) (stages.grants ∙ drafting.grants)

  is_stored : finite.get TheRenewed.records d.id ≡ Some d.after
  is_stored = there g a answer new d drafting stages

  nobody_new : (p : Partition) → IsTrue (has g.grants (d.id, p)) → ⊥
  nobody_new p holds = true≢false (sym (sound.holders d.id p holds) ∙ ap is_some absent)

  -- another member than the old one holds what it held
  others_hold : (n : Text) (p : Partition) → n ≢ d.id → n ≢ old.id → IsTrue (has g.grants (n, p)) → IsTrue (has TheRenewed.grants (n, p))
  others_hold n p not_heir not_old holds =
      held_by n p ∙ over.other_grants n not_heir p ∙ has-others g.grants old.id n p
      ∙ ap (λ b. not b && has g.grants (n, p)) (no_tie old.id n (λ same. not_old (sym same))) ∙ holds

  -- and nobody else holds anything
  held_before : (n : Text) (p : Partition) → n ≢ d.id → IsTrue (has TheRenewed.grants (n, p)) → IsTrue (has g.grants (n, p)) × (n ≢ old.id)
  held_before n p not_heir holds = still_holds g.grants old.id n p (sym (over.other_grants n not_heir p) ∙ sym (held_by n p) ∙ holds)

  holds : (p : Partition) → IsTrue (has new.grants (d.id, p))
      ↔ ((finite.get new.target p ≡ Some d.id) × ((n : Text) → IsTrue (has g.grants (n, p)) → n ≡ old.id))
  holds p = (
    λ there_p.
        let then = sym (holds_moved p) ∙ there_p in (
          owner_same p ∙ moved_within TheRenewed stages.sound d.id d.after is_stored p then,
          λ n holds_n. only then n holds_n (tie n old.id) (tie n d.id),
        ),
    λ so.
        let owned = has-share_of TheRenewed.target d.id p ∙ (owns-get TheRenewed.target d.id p).1 (sym (owner_same p) ∙ so.0) in
        let free = is_free TheRenewed.grants d.id p (λ n holds_n. free_of so.1 n holds_n (tie n d.id)) in
        holds_moved p ∙ moved_own TheRenewed stages.sound d.id d.after is_stored p
        ∙ (λ i. owned i && (has TheRenewed.grants (d.id, p) || free i)) ∙ or_true (has TheRenewed.grants (d.id, p)) true refl,
  )
    where
      only : IsTrue (has (moved TheRenewed.grants d.id (wanted TheRenewed.target d.id)) (d.id, p)) → (n : Text) → IsTrue (has g.grants (n, p)) → Tie n old.id → Tie n d.id → n ≡ old.id
      only then n holds_n (ties same) _ = same
      only then n holds_n (differs _ _) (ties same) = absurd (nobody_new p (ap (λ k. has g.grants (k, p)) (sym same) ∙ holds_n))
      only then n holds_n (differs not_old _) (differs not_heir _) =
          absurd (not_heir (moved_gets TheRenewed stages.sound d.id d.after is_stored p then n (others_hold n p not_heir not_old holds_n)))

      free_of : ((n : Text) → IsTrue (has g.grants (n, p)) → n ≡ old.id) → (n : Text) → IsTrue (has TheRenewed.grants (n, p)) → Tie n d.id → n ≡ d.id
      free_of only n holds_n (ties same) = same
      free_of only n holds_n (differs not_heir _) = let before = held_before n p not_heir holds_n in absurd (before.1 (only n before.0))

  to_own : new.target_epoch ≡ g.target_epoch → (p : Partition) → (finite.get new.target p ≡ Some d.id) ↔ (finite.get g.target p ≡ Some old.id)
  to_own same p =
      let target : TheRenewed.target ≡ Base.target =
      stages.target (sym (target_epoch_is g a answer new d drafting stages) ∙ same ∙ sym drafting.target_epoch) ∙ drafting.target in
      let so : finite.get new.target p ≡ finite.get Base.target p = owner_same p ∙ ap (λ t. finite.get t p) target in
      (λ owns. (over.target p).0 (sym so ∙ owns), λ owns. so ∙ (over.target p).1 owns)

  -- the old id has no record once the target is renewed, so it holds and owns nothing
  old_is_gone : finite.get TheRenewed.records old.id ≡ None
  old_is_gone =
      ap (λ (rs : Records). finite.get rs old.id) (stages.records ∙ drafting.records)
      ∙ get-insert_other Base.records d.id d.after old.id (no_tie old.id d.id (λ same. apart (sym same))) ∙ over.gone

  old_holds : (p : Partition) → ¬ IsTrue (has new.grants (old.id, p))
  old_holds p holds_old = true≢false (sym (stages.sound.holders old.id p before) ∙ ap is_some old_is_gone)
    where
      before : IsTrue (has TheRenewed.grants (old.id, p))
      before =
          sym (has-moved TheRenewed.grants d.id (wanted TheRenewed.target d.id) old.id p
          ∙ ap (λ b. cond b (has (wanted TheRenewed.target d.id) p && (has TheRenewed.grants (d.id, p) || is_free_for TheRenewed.grants d.id p)) (has TheRenewed.grants (old.id, p))) (no_tie old.id d.id (λ same. apart (sym same))))
          ∙ sym (ap (λ x. has x (old.id, p)) new_grants) ∙ holds_old

  old_owns : (p : Partition) → ¬ (finite.get new.target p ≡ Some old.id)
  old_owns p owns = true≢false (sym (stages.sound.owners old.id p (sym (owner_same p) ∙ owns)) ∙ ap is_some old_is_gone)

  -- the group's past has no stamp of the old id before
  stamp_before : past_stamp (without_past g.past d.id) old.id ≡ None
  stamp_before = stamp_without g.past d.id old.id (not_past g.records g.past old.id old.kept sound.past was)

  abbrev Remembered : Past
  Remembered = remembering (without_past g.past d.id) old.id old.kept.stamp

  past_so : new.past ≡ without_past Remembered d.id
  past_so = past_is g a answer new d drafting stages ∙ ap (λ (x : Group). without_past x.past d.id) base_is

  pub former : IsFormer new old.id old.kept.stamp
  former =
      record {
        left = taken_from g a answer new d drafting stages sound old base_is was absent;
        remembered =
            ap (λ x. past_stamp x old.id) past_so
            ∙ stamp_without_other Remembered d.id old.id (λ same. apart (sym same))
            ∙ remembered_now (without_past g.past d.id) old.id old.kept.stamp stamp_before;
        few =
            let fewer = few_without Remembered d.id in
            let most = few_remembered (without_past g.past d.id) old.id old.kept.stamp in
            subst (λ x. length x ≤ MOST_PAST_MEMBERS) (sym past_so) (omega (arith, fewer, most));
      }

  is_heir : IsHeirTo g new old.id d.id old.kept
  is_heir =
      record {
        away = is_away_so old.kept.epoch gone;
        former = former;
        after = Last g a answer new d drafting stages;
        has_record = has_record g a answer new d drafting stages;
        same_instance = (last_same g a answer new d drafting stages).instance ∙ instance;
        to_own = to_own;
        holds = holds;
        nothing_held = old_holds;
        nothing_owned = old_owns;
      }

-- ---- who takes over

module _ (g : Group) (sound : IsConsistent g) (a : Arrival) (answer : Answer) (new : Group) (old heir : Text) (r : Record) (over : TakesOver g answer new old heir r) where
  still_there : finite.get new.records old ≡ finite.get g.records old → ⊥
  still_there same = not_none r (sym over.gone ∙ same ∙ over.was)

  by_owner : (d : Draft) (drafting : Drafting g a d) (stages : Stages d a.heartbeat answer new) → Whose g drafting.base a.heartbeat d → IsHeirTo g new old heir r
  by_owner d drafting stages (its_own t base_is id_is there_was same_epoch sent same_release) =
      absurd (not_none t (sym over.absent ∙ ap (finite.get g.records) (accepted_is g a answer new d drafting stages heir over.accepted) ∙ there_was))
  by_owner d drafting stages (newcomer base_is absent reports full) = absurd (by (tie old d.id))
    where
      by : Tie old d.id → ⊥
      by (ties same) = not_none r (sym absent ∙ ap (finite.get g.records) (sym same) ∙ over.was)
      by (differs other _) = still_there (other_record g a answer new d drafting stages old other ∙ ap (λ (x : Group). finite.get x.records old) base_is)
  by_owner d drafting stages (takes_over o base_is was absent gone instance reports full) = by (tie old o.id)
    where
      same_heir : heir ≡ d.id
      same_heir = accepted_is g a answer new d drafting stages heir over.accepted

      by : Tie old o.id → IsHeirTo g new old heir r
      by (ties same) =
          let before : o.kept ≡ r = some_is o.kept r (sym was ∙ ap (finite.get g.records) (sym same) ∙ over.was) in
          subst (λ (k : Text). IsHeirTo g new k heir r) (sym same)
          (subst (λ (k : Text). IsHeirTo g new o.id k r) (sym same_heir)
          (subst (λ (x : Record). IsHeirTo g new o.id d.id x) before
          (is_heir g sound a answer new d drafting stages o base_is was absent gone instance reports)))
      by (differs other _) =
          let not_heir : old ≢ d.id = λ so. over.not_left (same_heir ∙ sym so) in
          absurd (still_there (other_record g a answer new d drafting stages old not_heir
          ∙ (handed g a answer new d drafting stages sound o base_is was absent).others old not_heir other))

  -- whoever is answered has a record
  known : (k : Text) (s : Record) → heir ≡ k → finite.get g.records k ≡ Some s → ⊥
  known k s same there_was = not_none s (sym over.absent ∙ ap (finite.get g.records) same ∙ there_was)

  by : Came g a answer new → IsHeirTo g new old heir r
  by (unchanged same fails) = absurd (nobody answer fails heir over.accepted)
  by (has_left s epoch there_was later answers is) =
      absurd (known a.heartbeat.member s (same_id heir a.heartbeat.member answer (farewell a.heartbeat.member LEAVES_AT) answers refl over.accepted) there_was)
  by (went_away s epoch there_was later answers is) =
      absurd (known a.heartbeat.member s (same_id heir a.heartbeat.member answer (farewell a.heartbeat.member GOES_AWAY_AT) answers refl over.accepted) there_was)
  by (taken_in d drafting stages takes) = by_owner d drafting stages drafting.whose

pub heirs_have_all : HeirsHaveAll
heirs_have_all g a answer new old heir r sound step over =
    let kept = consistent g sound in by g kept a answer new old heir r over (came g kept a answer new step)
