-- The group of the two newcomers while rounds are made, over an image that the first one's topic is gone from: the first
-- one gives up its partition, and the second one keeps its own.
use Rattle.std.proofs.Common.{◌≡◌, ℕ, suc, Bool, true, false, cond, not, ◌&&◌, ◌||◌, [], ◌∷◌, Option, Some, None, refl, sym, ap, ◌∙◌, true≢false}
use Rattle.std.specs.Ordering.{eq_by_cmp}
use Rattle.std.specs.Cmp.{eq_by_cmp_equiv}
use Rattle.std.specs.FinMap as finite
use Rattle.std.proofs.lemmas.Bool.{or_left, or_right}
use Rattle.uuid.specs.Text.{by_index}
use Rattle.group_types.specs.declared.partition.Partition.{Partition}
use Rattle.group_types.specs.Text.{Text, text_cmp}
use Rattle.group_types.specs.Sets.{common, has, is_nothing, minus, nothing}
use Rattle.group_types.specs.Partition.{partition_cmp, Partitions}
use Rattle.group_types.specs.Topics.{Topics}
use Rattle.group_types.specs.Owners.{owns}
use Rattle.group_types.specs.Group.{Grants, Record, Records, held, wanted}
use Rattle.group_types.specs.Renewal.{view_for}
use Rattle.group_types.specs.Settle.{grants_after, is_free_for, may_settle, moved}
use Rattle.group_types.specs.Checks.{is_late}
use Rattle.group_types.proofs.BoolLemmas.{or_none}
use Rattle.group_types.proofs.GrantLemmas.{eq-grant, grant_cmp_total, has-held, has-moved}
use Rattle.group_types.proofs.Lookups.{not_none, text_ties}
use Rattle.group_types.proofs.Orders.{text_cmp_total, partition_cmp_total, partition_cmp-IsAntisymmetric}
use Rattle.group_types.proofs.SetLemmas.{common-nothing, has-common, has-minus, has-nothing, has-of_list, has-with_one, is_nothing-Decides, same_set}
use Rattle.group_types.proofs.SpreadLemmas.{has-share_of, owns-get}
use Rattle.group_core.proofs.Single.{get-inserted, retain_keys-empty}
use Rattle.group_types.proofs.ViewsFor.{view_for-insert}
use Rattle.world_sim.proofs.NewcomerJoin.{grown_view, grown_wants}
use Rattle.world_sim.proofs.Newcomers.{id_of, kept_of, partition_of, set_of, stamp_at, topic_of}
use Rattle.world_sim.proofs.QuietBeats.{CanBeat, TARGET, told}
use Rattle.world_sim.proofs.TwoNewcomers.{AfterOne, AfterTwo, One, OneTopic, Two, apart_ids, comes_last, has_one, ids_differ, lone_owner, nothing_seen, one_kept, two_kept}

abbrev pub OneWanted : Partitions
OneWanted = wanted TARGET (id_of One)

abbrev pub TwoWanted : Partitions
TwoWanted = wanted TARGET (id_of Two)

-- nothing is wanted of the first one
unwanted : (p : Partition) → has OneWanted p ≡ false
unwanted p = has-share_of TARGET (id_of One) p ∙ by (owns TARGET (id_of One) p) refl
  where
    by : (b : Bool) → owns TARGET (id_of One) p ≡ b → b ≡ false
    by true its = absurd (lone_owner Two One (λ same. ids_differ (sym same)) p ((owns-get TARGET (id_of One) p).0 its))
    by false not_its = refl

two_wants : (p : Partition) → has TwoWanted p ≡ eq_by_cmp partition_cmp p (partition_of Two)
two_wants = grown_wants Two finite.empty (λ p is. not_none (id_of Two) (sym (finite.get-empty partition_cmp p) ∙ is))

-- ---- what the group keeps

-- the second one's partition is its own, and nobody else's
pub record IsTwos (grants : Grants) : Type 0 where
  pub holds : (p : Partition) → has grants (id_of Two, p) ≡ eq_by_cmp partition_cmp p (partition_of Two)
  pub alone : (m : Text) → eq_by_cmp text_cmp m (id_of Two) ≡ false → has grants (m, partition_of Two) ≡ false

pub record Stands (records : Records) (grants : Grants) (a b : Record) : Type 0 where
  pub one : finite.get records (id_of One) ≡ Some a
  pub two : finite.get records (id_of Two) ≡ Some b
  pub named : finite.get records [] ≡ None
  pub view : view_for OneTopic records ≡ OneTopic
  pub twos : IsTwos grants

not_empty : (eq_by_cmp text_cmp [] (id_of One) ≡ false) × (eq_by_cmp text_cmp [] (id_of Two) ≡ false)
unfolding by_index
not_empty = (refl, refl)

get_other : (records : Records) (m n : Text) (r : Record) → eq_by_cmp text_cmp m n ≡ false → finite.get (finite.insert records n r) m ≡ finite.get records m
get_other records m n r apart = finite.get-insert text_cmp_total records n r m ∙ ap (λ b. cond b (Some r) (finite.get records m)) apart

pub one_changes : (records : Records) (grants after : Grants) (a b new : Record) → Stands records grants a b → new.names ≡ a.names → IsTwos after
    → Stands (finite.insert records (id_of One) new) after new b
one_changes records grants after a b new stands same twos =
    record {
      one = get-inserted text_cmp_total records (id_of One) new;
      two = get_other records (id_of Two) (id_of One) new apart_ids.1 ∙ stands.two;
      named = get_other records [] (id_of One) new not_empty.0 ∙ stands.named;
      view = view_for-insert OneTopic records (id_of One) a new stands.one same ∙ stands.view;
      twos = twos;
    }

pub two_changes : (records : Records) (grants after : Grants) (a b new : Record) → Stands records grants a b → new.names ≡ b.names → IsTwos after
    → Stands (finite.insert records (id_of Two) new) after a new
two_changes records grants after a b new stands same twos =
    record {
      one = get_other records (id_of One) (id_of Two) new apart_ids.0 ∙ stands.one;
      two = get-inserted text_cmp_total records (id_of Two) new;
      named = get_other records [] (id_of Two) new not_empty.1 ∙ stands.named;
      view = view_for-insert OneTopic records (id_of Two) b new stands.two same ∙ stands.view;
      twos = twos;
    }

-- ---- where the rounds begin

abbrev pub FIRST_RECORDS : Records
FIRST_RECORDS = (AfterTwo finite.empty finite.empty).records

abbrev pub FIRST_GRANTS : Grants
FIRST_GRANTS = (AfterTwo finite.empty finite.empty).grants

has_both : (m : Text) (p : Partition) → has FIRST_GRANTS (m, p) ≡ ((eq_by_cmp text_cmp m (id_of Two) && eq_by_cmp partition_cmp p (partition_of Two)) || (eq_by_cmp text_cmp m (id_of One) && eq_by_cmp partition_cmp p (partition_of One)))
has_both m p =
    has-with_one grant_cmp_total AfterOne.grants (id_of Two, partition_of Two) (m, p)
    ∙ (λ i. eq-grant m (id_of Two) p (partition_of Two) i || has_one m p i)

pub one_holds_first : has FIRST_GRANTS (id_of One, partition_of One) ≡ true
one_holds_first =
    has_both (id_of One) (partition_of One)
    ∙ (λ i. (apart_ids.0 i && eq_by_cmp partition_cmp (partition_of One) (partition_of Two)) || (text_ties (id_of One) i && (eq_by_cmp_equiv partition_cmp_total).refl (partition_of One) i))

pub stands_first : Stands FIRST_RECORDS FIRST_GRANTS (kept_of One) (kept_of Two)
stands_first =
    record {
      one = one_kept finite.empty finite.empty;
      two = two_kept finite.empty finite.empty;
      named = get_other AfterOne.records [] (id_of Two) (kept_of Two) not_empty.1 ∙ get_other finite.empty [] (id_of One) (kept_of One) not_empty.0 ∙ finite.get-empty text_cmp [];
      view = grown_view Two OneTopic AfterOne.records (kept_of Two) refl (comes_last (kept_of Two)) (get-inserted text_cmp_total finite.empty Two.name (topic_of Two))
          ∙ ap (λ (v : Topics). finite.insert v Two.name (topic_of Two)) nothing_seen;
      twos = record {
        holds = λ p. has_both (id_of Two) p
            ∙ (λ i. (text_ties (id_of Two) i && eq_by_cmp partition_cmp p (partition_of Two)) || (apart_ids.1 i && eq_by_cmp partition_cmp p (partition_of One)))
            ∙ or_none (eq_by_cmp partition_cmp p (partition_of Two));
        alone = λ m apart. has_both m (partition_of Two)
            ∙ (λ i. (apart i && eq_by_cmp partition_cmp (partition_of Two) (partition_of Two)) || (eq_by_cmp text_cmp m (id_of One) && false))
            ∙ never (eq_by_cmp text_cmp m (id_of One));
      };
    }
  where
    never : (b : Bool) → (b && false) ≡ false
    never true = refl
    never false = refl

-- ---- the first one's beats

some_key : (s : Partitions) (p : Partition) → has s p ≡ true → is_nothing s ≡ false
some_key s p there = by (is_nothing s) refl
  where
    by : (b : Bool) → is_nothing s ≡ b → b ≡ false
    by true none = absurd (true≢false (sym there ∙ ap (λ (t : Partitions). has t p) ((is_nothing-Decides s).0 none) ∙ has-nothing partition_cmp p))
    by false some = refl

-- it may not move while it reports a partition that it has to give up
pub one_may_not : may_settle FIRST_GRANTS (id_of One) OneWanted (Some (set_of One true)) ≡ false
one_may_not = λ i. some_key rest (partition_of One) left i || some_key (common (set_of One true) rest) (partition_of One) both i
  where
    rest : Partitions
    rest = minus (held FIRST_GRANTS (id_of One)) OneWanted

    left : has rest (partition_of One) ≡ true
    left =
        has-minus partition_cmp_total (held FIRST_GRANTS (id_of One)) OneWanted (partition_of One)
        ∙ (λ i. (has-held FIRST_GRANTS (id_of One) (partition_of One) ∙ one_holds_first) i && not (unwanted (partition_of One) i))

    reported : has (set_of One true) (partition_of One) ≡ true
    reported = has-of_list partition_cmp_total (partition_of One ∷ []) (partition_of One) ∙ ap (λ b. b || false) ((eq_by_cmp_equiv partition_cmp_total).refl (partition_of One))

    both : has (common (set_of One true) rest) (partition_of One) ≡ true
    both = has-common partition_cmp_total (set_of One true) rest (partition_of One) ∙ (λ i. reported i && left i)

-- .. and may once it reports none
pub one_may : (grants : Grants) → may_settle grants (id_of One) OneWanted (Some (set_of One false)) ≡ true
one_may grants =
    or_right (is_nothing rest) (is_nothing (common nothing rest))
    ((is_nothing-Decides (common nothing rest)).1 (retain_keys-empty partition_cmp_total partition_cmp-IsAntisymmetric (has rest)))
  where
    rest : Partitions
    rest = minus (held grants (id_of One)) OneWanted

pub one_can : (records : Records) (grants : Grants) (b : Record) (frame below previous : ℕ) (deadline : Option ℕ) (sent : Partitions) (owns may : Bool)
    → Stands records grants (told One frame (suc below) previous deadline sent) b → is_late (stamp_at One (suc frame)) (stamp_at One frame) ≡ false
    → may_settle grants (id_of One) OneWanted (Some (set_of One owns)) ≡ may
    → CanBeat One records grants frame below previous deadline sent owns may false
one_can records grants b frame below previous deadline sent owns may stands later settles =
    record {
      named = stands.named;
      kept = stands.one;
      later = later;
      view = stands.view;
      settles = settles;
      is_shown = common-nothing partition_cmp_total partition_cmp-IsAntisymmetric (held (grants_after may grants (id_of One) OneWanted) (id_of One)) OneWanted (λ p holds. unwanted p);
    }

pub one_moves : (grants : Grants) → IsTwos grants → IsTwos (moved grants (id_of One) OneWanted)
one_moves grants twos =
    record {
      holds = λ p. has-moved grants (id_of One) OneWanted (id_of Two) p
          ∙ ap (λ b. cond b (has OneWanted p && (has grants (id_of One, p) || is_free_for grants (id_of One) p)) (has grants (id_of Two, p))) apart_ids.1
          ∙ twos.holds p;
      alone = λ m apart. has-moved grants (id_of One) OneWanted m (partition_of Two)
          ∙ (λ i. cond (eq_by_cmp text_cmp m (id_of One)) (unwanted (partition_of Two) i && (has grants (id_of One, partition_of Two) || is_free_for grants (id_of One) (partition_of Two))) (twos.alone m apart i))
          ∙ either (eq_by_cmp text_cmp m (id_of One));
    }
  where
    either : (b : Bool) → cond b false false ≡ false
    either true = refl
    either false = refl

-- ---- the second one's

pub two_moves : (grants : Grants) → IsTwos grants → IsTwos (moved grants (id_of Two) TwoWanted)
two_moves grants twos =
    record {
      holds = λ p. has-moved grants (id_of Two) TwoWanted (id_of Two) p
          ∙ (λ i. cond (text_ties (id_of Two) i) (two_wants p i && (twos.holds p i || is_free_for grants (id_of Two) p)) (has grants (id_of Two, p)))
          ∙ absorbed (eq_by_cmp partition_cmp p (partition_of Two)) (is_free_for grants (id_of Two) p);
      alone = λ m apart. has-moved grants (id_of Two) TwoWanted m (partition_of Two)
          ∙ ap (λ b. cond b (has TwoWanted (partition_of Two) && (has grants (id_of Two, partition_of Two) || is_free_for grants (id_of Two) (partition_of Two))) (has grants (m, partition_of Two))) apart
          ∙ twos.alone m apart;
    }
  where
    absorbed : (b f : Bool) → (b && (b || f)) ≡ b
    absorbed true f = refl
    absorbed false f = refl

pub two_can : (records : Records) (grants : Grants) (a : Record) (frame : ℕ) → Stands records grants a (told Two frame 2 0 None (set_of Two true)) → is_late (stamp_at Two (suc frame)) (stamp_at Two frame) ≡ false
    → CanBeat Two records grants frame 1 0 None (set_of Two true) true true true
two_can records grants a frame stands later =
    record {
      named = stands.named;
      kept = stands.two;
      later = later;
      view = stands.view;
      settles = or_left (is_nothing rest) _ ((is_nothing-Decides rest).1 (same_set partition_cmp_total partition_cmp-IsAntisymmetric rest nothing (λ p.
          has-minus partition_cmp_total (held grants (id_of Two)) TwoWanted p
          ∙ (λ i. (has-held grants (id_of Two) p ∙ stands.twos.holds p) i && not (two_wants p i))
          ∙ neither (eq_by_cmp partition_cmp p (partition_of Two))
          ∙ sym (has-nothing partition_cmp p))));
      is_shown = same_set partition_cmp_total partition_cmp-IsAntisymmetric (common (held (moved grants (id_of Two) TwoWanted) (id_of Two)) TwoWanted) (set_of Two true) (λ p.
          has-common partition_cmp_total (held (moved grants (id_of Two) TwoWanted) (id_of Two)) TwoWanted p
          ∙ (λ i. (has-held (moved grants (id_of Two) TwoWanted) (id_of Two) p ∙ (two_moves grants stands.twos).holds p) i && two_wants p i)
          ∙ both (eq_by_cmp partition_cmp p (partition_of Two))
          ∙ sym (or_none (eq_by_cmp partition_cmp p (partition_of Two)))
          ∙ sym (has-of_list partition_cmp_total (partition_of Two ∷ []) p));
    }
  where
    rest : Partitions
    rest = minus (held grants (id_of Two)) TwoWanted

    neither : (b : Bool) → (b && not b) ≡ false
    neither true = refl
    neither false = refl

    both : (b : Bool) → (b && b) ≡ b
    both true = refl
    both false = refl
