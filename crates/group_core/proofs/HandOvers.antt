-- What storing a record leaves, and what an heir's taking it leaves to others.
use Rattle.std.proofs.Common.{◌≡◌, ◌≢◌, ℕ, ◌≤◌, Bool, true, false, cond, not, ◌&&◌, ◌||◌, List, [], ◌∷◌, map, Option, Some, None, is_some, refl, sym, ap, ◌∙◌, true≢false}
use Rattle.std.specs.declared.cmp.Ordering.TheVariants.{Less, Equal, Greater}
use Rattle.std.specs.List.{list_any}
use Rattle.std.specs.Option.{IfSome, option_map, option_map_or}
use Rattle.std.specs.Ordering.{eq_by_cmp, is_eq}
use Rattle.std.specs.Str.{bytes_eq}
use Rattle.std.specs.FinMap as finite
use Rattle.std.specs.FinMap.{find, put}
use Rattle.std.proofs.lemmas.Slice.Eq.{bytes_eq-Decides}
use Rattle.group_types.specs.declared.partition.Partition.{Partition}
use Rattle.group_types.specs.Text.{Text, text_cmp}
use Rattle.group_types.specs.Sets.{has}
use Rattle.group_types.specs.Topics.{Topics}
use Rattle.group_types.specs.Owners.{Spread, renamed, renamed_id}
use Rattle.group_types.specs.Group.{Grants, Group, Record, Records, held, wanted}
use Rattle.group_types.specs.Members.{past_stamp}
use Rattle.group_types.specs.Settle.{granting, grants_of_others}
use Rattle.group_types.specs.Renewal.{is_subscribed, view_for}
use Rattle.group_core.specs.CodeOrder.{Heir, heir_or}
use Rattle.group_types.specs.Sound.{IsSound}
use Rattle.group_types.proofs.GrantLemmas.{has-granting, has-held, has-others}
use Rattle.group_types.proofs.Lookups.{no_tie, not_none, get-insert_other, none_without, removed_is_none}
use Rattle.group_types.proofs.Orders.{partition_cmp_total, partition_cmp-IsAntisymmetric, text_cmp_total, text_cmp-IsAntisymmetric}
use Rattle.group_types.proofs.PastLemmas.{not_past}
use Rattle.group_types.proofs.SetLemmas.{same_set}
use Rattle.group_types.proofs.SpreadLemmas.{get-renamed, has-share_of}
use Rattle.group_epochs.specs.Records.{Marks}
use Rattle.group_epochs.specs.Drafts.{IsHeirOf}
use Rattle.group_core.specs.Stages.{heir_of, stored_in}
use Rattle.group_core.specs.Steady.{AreMarked, IsSteady}

-- ---- an heir

pub heir_of-none : (before : Option Record) → heir_of before None ≡ None
heir_of-none None = refl
heir_of-none (Some r) = refl

pub heir_differs : (records : Records) (old heir : Text) → IsHeirOf records old heir → heir ≢ old
heir_differs records old heir is = λ same. true≢false (sym is.there ∙ ap (λ k. is_some (finite.get records k)) (sym same) ∙ ap is_some is.absent)

-- the heir of a draft has no record
pub heir_is_absent : (records : Records) (m : Text) (before : Option Record) (heir : Option Text) → IfSome heir (IsHeirOf records m)
    → IfSome (heir_of before heir) (λ h. finite.get records h.id ≡ None)
heir_is_absent records m None heir is = tt
heir_is_absent records m (Some r) None is = tt
heir_is_absent records m (Some r) (Some h) is = is.absent

-- the id that is taken over isn't of the past
pub old_is_not_past : (g : Group) → IsSound g → (m : Text) (before : Option Record) → finite.get g.records m ≡ before → (heir : Option Text)
    → IfSome (heir_of before heir) (λ h. past_stamp g.past m ≡ None)
old_is_not_past g sound m None is heir = tt
old_is_not_past g sound m (Some r) is None = tt
old_is_not_past g sound m (Some r) is (Some h) = not_past g.records g.past m r sound.past is

-- the id that a reply says
pub told : (records : Records) (m : Text) (before : Option Record) → finite.get records m ≡ before → (heir : Option Text) → IfSome heir (IsHeirOf records m)
    → heir_or m (heir_of before heir) ≡ Rattle.std.specs.Option.unwrap_or heir m
told records m before is None ok = ap (heir_or m) (heir_of-none before)
told records m None is (Some h) ok = absurd (true≢false (sym ok.there ∙ ap is_some is))
told records m (Some r) is (Some h) ok = refl

-- ---- what others hold and own

beside : (a b c : Bool) → a ≡ false → ((a && b) || c) ≡ c
beside true b c never = absurd (true≢false never)
beside false b c is = refl

held_beside : (g : Grants) (old heir n : Text) (ps : List Partition) → n ≢ old → n ≢ heir → held (granting (grants_of_others g old) heir ps) n ≡ held g n
held_beside g old heir n ps not_old not_heir =
    same_set partition_cmp_total partition_cmp-IsAntisymmetric _ _
    (λ q. has-held (granting (grants_of_others g old) heir ps) n q
    ∙ has-granting (grants_of_others g old) heir ps n q
    ∙ beside _ _ _ (no_tie n heir not_heir)
    ∙ has-others g old n q
    ∙ ap (λ b. not b && has g (n, q)) (no_tie old n (λ same. not_old (sym same)))
    ∙ sym (has-held g n q))

owner_beside : (o : Option Text) (old heir n : Text) → n ≢ old → n ≢ heir
    → option_map_or (λ x. bytes_eq x n) (option_map (renamed_id old heir) o) false ≡ option_map_or (λ x. bytes_eq x n) o false
owner_beside None old heir n not_old not_heir = refl
owner_beside (Some x) old heir n not_old not_heir =
    elim (bytes_eq x old) as (λ b. bytes_eq x old ≡ b → bytes_eq (cond b heir x) n ≡ bytes_eq x n) [
      | true ↦ λ same. not_so (bytes_eq heir n) (λ so. not_heir (sym ((bytes_eq-Decides heir n).0 so)))
          ∙ sym (not_so (bytes_eq x n) (λ so. not_old (sym ((bytes_eq-Decides x n).0 so) ∙ (bytes_eq-Decides x old).0 same)))
      | false ↦ λ apart. refl
    ] refl
  where
    not_so : (b : Bool) → (b ≡ true → ⊥) → b ≡ false
    not_so true never = absurd (never refl)
    not_so false never = refl

wanted_beside : (t : Spread) (old heir n : Text) → n ≢ old → n ≢ heir → wanted (renamed t old heir) n ≡ wanted t n
wanted_beside t old heir n not_old not_heir =
    same_set partition_cmp_total partition_cmp-IsAntisymmetric _ _
    (λ p. has-share_of (renamed t old heir) n p
    ∙ ap (λ o. option_map_or (λ x. bytes_eq x n) o false) (get-renamed t old heir p)
    ∙ owner_beside (finite.get t p) old heir n not_old not_heir
    ∙ sym (has-share_of t n p))

-- ---- marks

module _ (g : Group) (m : Text) (after : Record) where
  -- another member that has a record is as steady as it was
  still_steady : (o : Option Heir) → IfSome o (λ h. finite.get g.records h.id ≡ None) → (n : Text) → n ≢ m → IsSteady g n → IsSteady (stored_in g m after o) n
  still_steady None absent n other steady =
      record {
        kept = steady.kept;
        is_kept = get-insert_other g.records m after n (no_tie n m other) ∙ steady.is_kept;
        arrived = steady.arrived;
        unasked = steady.unasked;
        holds = steady.holds;
        sent = steady.sent;
      }
  still_steady (Some h) absent n other steady =
      let not_heir : n ≢ h.id = λ same. not_none steady.kept (sym absent ∙ ap (finite.get g.records) (sym same) ∙ steady.is_kept) in
      let part = wanted_beside g.target m h.id n other not_heir in
      record {
        kept = steady.kept;
        is_kept = get-insert_other (finite.remove g.records m) h.id after n (no_tie n h.id not_heir)
            ∙ finite.get-remove text_cmp_total g.records m n ∙ ap (λ b. cond b None (finite.get g.records n)) (no_tie n m other) ∙ steady.is_kept;
        arrived = steady.arrived;
        unasked = steady.unasked;
        holds = held_beside g.grants m h.id n _ other not_heir ∙ steady.holds ∙ sym part;
        sent = steady.sent ∙ ap Some (sym part);
      }

  abbrev IsMarkedBeside : Text → ℕ → Type 0
  IsMarkedBeside n e = (e ≤ g.target_epoch) × (e ≡ g.target_epoch → (n ≢ m) × IsSteady g n)

  pub marked_beside : (o : Option Heir) → IfSome o (λ h. finite.get g.records h.id ≡ None) → (marks : Marks)
      → ((n : Text) (e : ℕ) → finite.get marks n ≡ Some e → IsMarkedBeside n e) → AreMarked (stored_in g m after o) marks
  marked_beside None absent marks are = λ n e there. let is = are n e there in (is.0, λ so. still_steady None absent n (is.1 so).0 (is.1 so).1)
  marked_beside (Some h) absent marks are = λ n e there. let is = are n e there in (is.0, λ so. still_steady (Some h) absent n (is.1 so).0 (is.1 so).1)

-- ---- the view

any-put_new : (f : Record → Bool) (k : Text) (v : Record) (es : List (Text × Record)) → find text_cmp k es ≡ None
    → list_any f (map (λ e. e.1) (put text_cmp k v es)) ≡ (f v || list_any f (map (λ e. e.1) es))
any-put_new f k v [] none = refl
any-put_new f k v (e ∷ es) none =
    elim (text_cmp k e.0) as (λ r. text_cmp k e.0 ≡ r → list_any f (map (λ e. e.1) (finite.Entries.by_order r ((k, v) ∷ e ∷ es) ((e.0, v) ∷ es) (e ∷ put text_cmp k v es))) ≡ (f v || (f e.1 || list_any f (map (λ e. e.1) es)))) [
      | Less ↦ λ r. refl
      | Equal ↦ λ r. absurd (not_none e.1 (sym none ∙ ap (λ o. cond (is_eq o) (Some e.1) (find text_cmp k es)) r))
      | Greater ↦ λ r. ap (λ b. f e.1 || b) (any-put_new f k v es (sym (ap (λ o. cond (is_eq o) (Some e.1) (find text_cmp k es)) r) ∙ none))
          ∙ swapped (f e.1) (f v) (list_any f (map (λ e. e.1) es))
    ] refl
  where
    swapped : (a b c : Bool) → (a || (b || c)) ≡ (b || (a || c))
    swapped true true c = refl
    swapped true false c = refl
    swapped false true c = refl
    swapped false false c = refl

subscribed-new : (records : Records) (k : Text) (v : Record) → finite.get records k ≡ None → (name : Text)
    → is_subscribed (finite.insert records k v) name ≡ (has v.names name || is_subscribed records name)
subscribed-new records k v none name =
    ap (λ es. list_any (λ r. has r.names name) (map (λ e. e.1) es)) (finite.entries-insert text_cmp_total records k v)
    ∙ any-put_new (λ r. has r.names name) k v (finite.entries records) (sym (finite.get-entries records k) ∙ none)

twice : {X : Type 0} (b : Bool) (v : X) (o : Option X) → cond b (Some v) (cond b None o) ≡ cond b (Some v) o
twice true v o = refl
twice false v o = refl

pub insert-removed : (records : Records) (k : Text) (v : Record) → finite.insert (finite.remove records k) k v ≡ finite.insert records k v
insert-removed records k v =
    finite.same_map text_cmp_total text_cmp-IsAntisymmetric _ _ (λ q. finite.get-insert text_cmp_total (finite.remove records k) k v q
    ∙ ap (cond (eq_by_cmp text_cmp q k) (Some v)) (finite.get-remove text_cmp_total records k q)
    ∙ twice (eq_by_cmp text_cmp q k) v (finite.get records q)
    ∙ sym (finite.get-insert text_cmp_total records k v q))

gone : {X : Type 0} (b : Bool) (v : X) (o : Option X) → cond b None (cond b (Some v) o) ≡ cond b None o
gone true v o = refl
gone false v o = refl

pub remove-inserted : (records : Records) (k : Text) (v : Record) → finite.remove (finite.insert records k v) k ≡ finite.remove records k
remove-inserted records k v =
    finite.same_map text_cmp_total text_cmp-IsAntisymmetric _ _ (λ q. finite.get-remove text_cmp_total (finite.insert records k v) k q
    ∙ ap (cond (eq_by_cmp text_cmp q k) None) (finite.get-insert text_cmp_total records k v q)
    ∙ gone (eq_by_cmp text_cmp q k) v (finite.get records q)
    ∙ sym (finite.get-remove text_cmp_total records k q))

-- an heir with the names of the record leaves the view
pub view_for-heir : (image : Topics) (records : Records) (old heir : Text) (r after : Record) → finite.get records heir ≡ None → after.names ≡ r.names
    → view_for image (finite.insert (finite.remove records old) heir after) ≡ view_for image (finite.insert records old r)
view_for-heir image records old heir r after absent same =
    ap (finite.retain_keys image) (λ i name. subscribed name i)
  where
    subscribed : (name : Text) → is_subscribed (finite.insert (finite.remove records old) heir after) name ≡ is_subscribed (finite.insert records old r) name
    subscribed name =
        subscribed-new (finite.remove records old) heir after (none_without records old heir absent) name
        ∙ ap (λ ns. has ns name || is_subscribed (finite.remove records old) name) same
        ∙ sym (subscribed-new (finite.remove records old) old r (removed_is_none records old) name)
        ∙ ap (λ rs. is_subscribed rs name) (insert-removed records old r)
