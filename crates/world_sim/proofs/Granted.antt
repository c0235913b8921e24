-- Where every group has the grants that it had, no commit has anything to be cut.
use Rattle.std.proofs.Common.{◌≡◌, ℕ, suc, ◌+◌, Bool, true, false, cond, List, [], ◌∷◌, length, map, sum_by, Option, Some, None, inl, inr, refl, sym, ap, ap₂, subst, ◌∙◌, arith}
use Rattle.std.proofs.lemmas.List.Sums.{sum_by-cons}
use Rattle.std.specs.Option.{option_map}
use Rattle.std.specs.Ordering.{eq_by_cmp}
use Rattle.std.specs.FinMap as finite
use Rattle.std.specs.FinMap.{find}
use Rattle.kip_msgs.specs.Values.{RequestValue, commit_request}
use Rattle.kip_msgs.specs.Laws.{OneRequestABody}
use Rattle.group_types.specs.declared.stamp.Stamp.{Stamp}
use Rattle.group_types.specs.Text.{Text, text_cmp}
use Rattle.group_types.specs.Sets.{has}
use Rattle.group_types.specs.Partition.{Partitions}
use Rattle.group_types.specs.Group.{Grants, Group, Record}
use Rattle.group_types.specs.Tick.{at_moment, due, expired, removed_by_tick, ticked}
use Rattle.group_types.specs.Commit as group
use Rattle.group_types.specs.Commit.{CommitReply}
use Rattle.group_types.proofs.GrantLemmas.{has-held}
use Rattle.group_types.proofs.Lookups.{Tie, ties, differs, tie, not_none, some_is}
use Rattle.group_epochs.specs.Request.{commit_of}
use Rattle.coord_node.specs.Coordinator.{Coordinator, Answer, Replied, Closes, Done, Image, Tick}
use Rattle.coord_node.specs.Steps.{CommitAt, FrameStepBy, RequestStep, Step, removed_from_all, with_group}
use Rattle.member_core.specs.Asking.{header_of}
use Rattle.member_core.specs.Committing.{commit_value}
use Rattle.world_sim.specs.World.{World, Commit, cut, granted}
use Rattle.world_sim.specs.Invariant.{Committed, Keeps, group_at}
use Rattle.world_sim.proofs.Cutting.{common_within}
use Rattle.world_sim.proofs.Lists.{In, from_in}
use Rattle.world_sim.proofs.Groups.{after_tick, get_ticked, granted_at, group_is, group_none, put_here, put_other}

-- every group has the grants that it had
abbrev pub SameGrants : Coordinator → Coordinator → Type 0
SameGrants c new = (name : Text) → (group_at new name).grants ≡ (group_at c name).grants

-- ---- nothing to be cut

map_itself : {X : Type 0} (f : X → X) (xs : List X) → ((x : X) → In xs x → f x ≡ x) → map f xs ≡ xs
map_itself f [] same = refl
map_itself f (x ∷ xs) same = ap₂ (λ y ys. y ∷ ys) (same x (inl refl)) (map_itself f xs (λ y there. same y (inr there)))

pub uncut : (w : World) → Keeps w → (c : Coordinator) → SameGrants w.coordinator c → map (cut c) w.commits ≡ w.commits
uncut w keeps c same = map_itself (cut c) w.commits (λ k there. one k (keeps.commits k (from_in w.commits k there)))
  where
    one : (k : Commit) → Committed w.coordinator w.clients k → cut c k ≡ k
    one k committed =
        ap (λ (s : Partitions). record k { since = s })
        (common_within k.since (granted c k.group k.id)
        (λ p has_p.
        ap (λ (s : Partitions). has s p) (granted_at c k.group k.id)
        ∙ has-held (group_at c k.group).grants k.id p
        ∙ ap (λ (grants : Grants). has grants (k.id, p)) (same k.group)
        ∙ committed.keeps.within p has_p))

-- ---- an image

pub image_grants : (c new : Coordinator) (image : _) (answer : Answer) → Step c (Image image) answer new → SameGrants c new
image_grants c new image answer step = λ name. ap (λ (x : Coordinator). (group_at x name).grants) step.1

-- ---- a commit

put_grants : (c : Coordinator) (name : Text) (g : Group) → g.grants ≡ (group_at c name).grants → SameGrants c (with_group c name g)
put_grants c name g same other = by (tie other name)
  where
    by : Tie other name → (group_at (with_group c name g) other).grants ≡ (group_at c other).grants
    by (ties is) =
        ap (λ (k : Text). (group_at (with_group c name g) k).grants) is
        ∙ ap (λ (x : Group). x.grants) (put_here c name g) ∙ same ∙ ap (λ (k : Text). (group_at c k).grants) (sym is)
    by (differs _ apart) = ap (λ (x : Group). x.grants) (put_other c name g other apart)

committed_grants : (there : Option Group) (c : Coordinator) (r : group.Commit) → finite.get c.groups r.group ≡ there
    → (reply : CommitReply) (new : Coordinator) → CommitAt there c r reply new → SameGrants c new
committed_grants None c r none reply new is = λ name. ap (λ (x : Coordinator). (group_at x name).grants) is.1
committed_grants (Some g) c r there reply new is =
    subst (SameGrants c) (sym is.2)
    (put_grants c r.group is.0 (ap (λ (x : Group). x.grants) is.1.stores ∙ ap (λ (x : Group). x.grants) (sym (group_is c r.group g there))))

pub brought_grants : OneRequestABody → (c new : Coordinator) (k : Commit) (all : _) → Committed c all k → (stamp : Stamp) (moment : ℕ) (answer : Answer)
    → FrameStepBy RequestStep c k.body stamp moment answer new → SameGrants c new
brought_grants one_request c new k all committed stamp moment answer (inl (v, is, step)) =
    let message : RequestValue = commit_request (header_of committed.number) (commit_value k.group k.id k.epoch committed.topics) in
    let same : v ≡ message = one_request v message k.body is.spells committed.spells in
    let commits : RequestStep c message stamp moment answer new = subst (λ (x : RequestValue). RequestStep c x stamp moment answer new) same step in
    committed_grants (finite.get c.groups k.group) c (commit_of (commit_value k.group k.id k.epoch committed.topics)) refl commits.0 new commits.1
brought_grants one_request c new k all committed stamp moment answer (inr is) = λ name. ap (λ (x : Coordinator). (group_at x name).grants) is.2

-- ---- a tick that removes nobody

found_in : (es : List (Text × Group)) (name : Text) (g : Group) → find text_cmp name es ≡ Some g → In (map (λ (e : Text × Group). e.1) es) g
found_in [] name g never = absurd (not_none g never)
found_in (e ∷ es) name g is = by (eq_by_cmp text_cmp name e.0) (found_in es name g) is
  where
    by : (b : Bool) → (find text_cmp name es ≡ Some g → In (map (λ (e : Text × Group). e.1) es) g) → cond b (Some e.1) (find text_cmp name es) ≡ Some g
        → In (map (λ (e : Text × Group). e.1) (e ∷ es)) g
    by true further is = inl (some_is e.1 g is)
    by false further is = inr (further is)

none_of_sum : {X : Type 0} (f : X → ℕ) (xs : List X) → sum_by f xs ≡ 0 → (x : X) → In xs x → f x ≡ 0
none_of_sum f [] none x there = absurd there
none_of_sum f (y ∷ ys) none x (inl same) = let all : f y + sum_by f ys ≡ 0 = sym (sum_by-cons f y ys) ∙ none in ap f (sym same) ∙ omega (arith, all)
none_of_sum f (y ∷ ys) none x (inr there) = let all : f y + sum_by f ys ≡ 0 = sym (sum_by-cons f y ys) ∙ none in none_of_sum f ys (omega (arith, all)) x there

ticked_grants : (g : Group) (moment : ℕ) → removed_by_tick g moment ≡ 0 → (ticked g moment).grants ≡ g.grants
ticked_grants g moment = by (due (at_moment g moment))
  where
    by : (ms : List (Text × Record)) → length ms ≡ 0 → (expired (at_moment g moment) ms).grants ≡ g.grants
    by [] none = refl
    by (m ∷ ms) some = let never : suc (length ms) ≡ 0 = some in absurd (omega (arith, never))

all_ticked_grants : (c : Coordinator) (moment : ℕ) → removed_from_all c.groups moment ≡ 0 → SameGrants c (after_tick c moment)
all_ticked_grants c moment none name = by (finite.get c.groups name) refl
  where
    of_group : (g : Group) → finite.get c.groups name ≡ Some g → removed_by_tick g moment ≡ 0
    of_group g there =
        none_of_sum (λ (x : Group). removed_by_tick x moment) (finite.values c.groups) none g
        (found_in (finite.entries c.groups) name g (sym (finite.get-entries c.groups name) ∙ there))

    by : (o : Option Group) → finite.get c.groups name ≡ o → (group_at (after_tick c moment) name).grants ≡ (group_at c name).grants
    by None is =
        ap (λ (x : Group). x.grants)
        (group_none (after_tick c moment) name (get_ticked c.groups moment name ∙ ap (option_map (λ g. ticked g moment)) is) ∙ sym (group_none c name is))
    by (Some g) there =
        ap (λ (x : Group). x.grants) (group_is (after_tick c moment) name (ticked g moment) (get_ticked c.groups moment name ∙ ap (option_map (λ g. ticked g moment)) there))
        ∙ ticked_grants g moment (of_group g there)
        ∙ ap (λ (x : Group). x.grants) (sym (group_is c name g there))

abbrev removed_in : Answer → ℕ
removed_in (Replied frame) = 0
removed_in Closes = 0
removed_in (Done removed) = removed

pub tick_grants : (c new : Coordinator) (moment removed : ℕ) → Step c (Tick moment) (Done removed) new → removed ≡ 0 → SameGrants c new
tick_grants c new moment removed step none =
    subst (SameGrants c) (sym step.1) (all_ticked_grants c moment (sym (ap removed_in step.0) ∙ none))
