-- What the world knows makes it exclusive.
use Rattle.std.proofs.Common.{◌≡◌, ℕ, pos, [], Option, Some, None, is_some, IsTrue, refl, sym, ap, subst, subst₂, ◌∙◌, inl, true≢false, unwrap_or}
use Rattle.std.specs.Option.{option_map_or}
use Rattle.std.specs.FinMap as finite
use Rattle.group_types.specs.declared.partition.Partition.{Partition}
use Rattle.group_types.specs.Text.{Text}
use Rattle.group_types.specs.Sets.{has, nothing}
use Rattle.group_types.specs.Group.{Record, Group, grant_cmp, held, new_group}
use Rattle.group_types.proofs.SetLemmas.{has-nothing}
use Rattle.group_types.proofs.Commits.{taken_at_epoch}
use Rattle.group_types.specs.Leave.{last_epoch, last_epoch_at}
use Rattle.coord_node.specs.Coordinator.{Coordinator}
use Rattle.member_core.specs.Client.{Client}
use Rattle.world_sim.specs.World.{World, Commit, granted}
use Rattle.world_sim.specs.Turn.{Holds}
use Rattle.world_sim.specs.Invariant.{Keeps, group_at}
use Rattle.world_sim.specs.Holding.{IsMember, IsTakenIn}
use Rattle.world_sim.specs.Exclusivity.{HoldApart, HoldGranted, ShowGranted, CommitHeld, SinceGranted}
use Rattle.group_types.proofs.GrantLemmas.{has-held}

-- a record that is there
record_of : (o : Option Record) → IsTrue (is_some o) → (r : Record) × (o ≡ Some r)
record_of None there = absurd (true≢false (sym there))
record_of (Some r) there = (r, refl)

group_is : (c : Coordinator) (name : Text) (g : Group) → finite.get c.groups name ≡ Some g → group_at c name ≡ g
group_is c name g is = ap (λ (o : Option Group). unwrap_or o (new_group c.salt)) is

granted_is : (c : Coordinator) (name m : Text) (g : Group) → finite.get c.groups name ≡ Some g → (p : Partition) → has (granted c name m) p ≡ has g.grants (m, p)
granted_is c name m g is p = ap (λ (o : Option Group). has (option_map_or (λ x. held x.grants m) o nothing) p) is ∙ has-held g.grants m p

-- ---- a commit that is taken is at its member's epoch

taken_at : (g : Group) (k : Commit) → IsTakenIn (Some g) k → (r : Record) × (finite.get g.records k.id ≡ Some r) × (k.epoch ≡ last_epoch r)
taken_at g k taken =
    let found = taken_at_epoch g (record { group = k.group; member = k.id; epoch = pos k.epoch; topics = [] }) k.epoch refl taken in
    (found.0, found.1, sym (ap (λ e. last_epoch_at e found.0) found.2))

-- ---- the clauses

module _ (w : World) (keeps : Keeps w) where
  abbrev at : Text → Group
  at name = group_at w.coordinator name

  member_holds : (i : ℕ) (c : Client) (m : Text) (p : Partition) → IsMember w i c m → IsTrue (has c.own p) → Holds (at c.settings.group).grants m p
  member_holds i c m p member owns =
      let found = record_of (finite.get member.member.group.records m) member.member.has_record in
      (keeps.clients i c member.client).holds m found.0 p member.is_id
      (ap (λ (g : Group). finite.get g.records m) (group_is w.coordinator c.settings.group member.member.group member.member.of_group) ∙ found.1) owns

  member_owner : (i : ℕ) (c : Client) (m : Text) → IsMember w i c m → (r : Record) × (finite.get (at c.settings.group).records m ≡ Some r) × (r.stamp.connection ≡ i)
  member_owner i c m member =
      let found = record_of (finite.get member.member.group.records m) member.member.has_record in
      let there = ap (λ (g : Group). finite.get g.records m) (group_is w.coordinator c.settings.group member.member.group member.member.of_group) ∙ found.1 in
      (found.0, there, ((keeps.clients i c member.client).its m member.is_id).owner found.0.stamp (inl (found.0, there, refl)))

  pub hold_apart : HoldApart w
  hold_apart i j c d m n p one other group owns owns_too =
      let same : m ≡ n = (keeps.groups c.settings.group).sound.one_holder m n p (member_holds i c m p one owns)
      (subst (λ name. Holds (at name).grants n p) (sym group) (member_holds j d n p other owns_too)) in
      let mine = member_owner i c m one in
      let theirs = ((keeps.clients j d other.client).its n other.is_id).owner mine.0.stamp
      (inl (mine.0, subst₂ (λ name k. finite.get (at name).records k ≡ Some mine.0) group same mine.1, refl)) in
      sym mine.2 ∙ theirs

  pub hold_granted : HoldGranted w
  hold_granted i c m p member owns =
      granted_is w.coordinator c.settings.group m member.member.group member.member.of_group p
      ∙ ap (λ (g : Group). has g.grants (m, p)) (sym (group_is w.coordinator c.settings.group member.member.group member.member.of_group))
      ∙ member_holds i c m p member owns

  pub show_granted : ShowGranted w
  show_granted r c m epoch shown p may has_p =
      let found = record_of (finite.get may.member.group.records m) may.member.has_record in
      let is = group_is w.coordinator c.settings.group may.member.group may.member.of_group in
      let reply = keeps.replies r c c.number m epoch (Some shown) may.pooled may.client may.tells in
      granted_is w.coordinator c.settings.group m may.member.group may.member.of_group p
      ∙ ap (λ (g : Group). has g.grants (m, p)) (sym is)
      ∙ (reply.taker c (may.client, refl) may.waits refl).shows shown found.0 p refl (ap (λ (g : Group). finite.get g.records m) is ∙ found.1) has_p

  pub commit_held : CommitHeld w
  commit_held k p pooled taken owns = by (finite.get w.coordinator.groups k.group) refl taken
    where
      by : (o : Option Group) → finite.get w.coordinator.groups k.group ≡ o → IsTakenIn o k → IsTrue (has k.since p)
      by None is taken = absurd taken
      by (Some g) is taken =
          let member = taken_at g k taken in
          (keeps.commits k pooled).keeps.still member.0 p (ap (λ (x : Group). finite.get x.records k.id) (group_is w.coordinator k.group g is) ∙ member.1) member.2 owns

  pub since_granted : SinceGranted w
  since_granted k p pooled since = by ((keeps.commits k pooled).keeps.within p since) (finite.get w.coordinator.groups k.group) refl
    where
      by : Holds (at k.group).grants k.id p → (o : Option Group) → finite.get w.coordinator.groups k.group ≡ o → IsTrue (has (granted w.coordinator k.group k.id) p)
      by holds None is =
          absurd (true≢false (sym holds ∙ ap (λ (o : Option Group). has (unwrap_or o (new_group w.coordinator.salt)).grants (k.id, p)) is ∙ has-nothing grant_cmp (k.id, p)))
      by holds (Some g) is =
          granted_is w.coordinator k.group k.id g is p ∙ ap (λ (x : Group). has x.grants (k.id, p)) (sym (group_is w.coordinator k.group g is)) ∙ holds
