-- A heartbeat has an answer in every group: each stage of the machine's step has its value.
use Rattle.std.proofs.Common.{◌≡◌, ℕ, ◌+◌, ◌-◌, ◌^◌, Bool, true, false, cond, is_none, List, [], ◌∷◌, Option, Some, None, max, ◌==◌, inl, inr, refl, sym, ap, subst, ◌∙◌, arith, true≢false}
use Rattle.std.specs.FinMap as finite
use Rattle.std.specs.Option.{MatchOption, option_map}
use Rattle.group_types.specs.declared.assignor_name.AssignorName.{AssignorName}
use Rattle.group_types.specs.declared.assignor_name.AssignorName.TheVariants.{Range, Uniform}
use Rattle.group_types.specs.declared.stamp.Stamp.{Stamp}
use Rattle.group_types.specs.declared.code.Code.TheVariants as codes
use Rattle.group_types.specs.Text.{Text, text_cmp}
use Rattle.group_types.specs.Topics.{Topic, Topics}
use Rattle.group_types.specs.Images.{AreImageTopics}
use Rattle.group_types.specs.MemberId.{made_id}
use Rattle.group_types.specs.Request.{Heartbeat, Kind, Joins, Beats, Leaves, GoesAway, MeansNothing, kind_of, reported}
use Rattle.group_types.specs.Group.{Group, Record}
use Rattle.group_types.specs.Members.{is_remembered, members_of}
use Rattle.group_types.specs.Settle.{may_settle, settled, settled_by, settled_record}
use Rattle.group_types.specs.Group.{wanted}
use Rattle.group_types.specs.Join.{IsNamed, IsSerial, Name, name_of_serial}
use Rattle.group_types.specs.Renewal.{IsChange, IsUnchanged, RenewsWhere, changed_if, is_subscribed, view_for}
use Rattle.group_types.specs.Checks.{Member, Sender, Verdict, Accepted, Refused, Overtaken, is_another, sender_of, verdict_on}
use Rattle.group_types.specs.HeartbeatStep.{Answer, Arrival, BeatsWith, ByVerdict, Draft, GoesAwayWith, IsRefused, Stages, StepOf, TakesIn, draft_of_beat, draft_of_join, draft_under, verdict_on_change}
use Rattle.group_types.proofs.Images.{retained-AreImageTopics}
use Rattle.group_types.proofs.KeptViews.{changed_view}
use Rattle.group_types.proofs.Lookups.{get-inserted}
use Rattle.uniform_assign.proofs.Choices.{Decided, decided_both, first_below}
use Rattle.uniform_assign.proofs.Counts.{cases_equal}
use Rattle.uniform_assign.proofs.Keeping.{decided_text}
use Rattle.group_core.specs.Existence.{HasAnAnswer, IsAnswered}
use Rattle.group_core.proofs.SomeTarget.{targets_exist}

-- ---- whether two values are one

decided_list : {X : Type 0} → ((x y : X) → Decided (x ≡ y)) → (xs ys : List X) → Decided (xs ≡ ys)
decided_list decide [] [] = inl refl
decided_list decide [] (y ∷ ys) = inr (λ same. cc)
decided_list decide (x ∷ xs) [] = inr (λ same. cc)
decided_list decide (x ∷ xs) (y ∷ ys) = elim (decide x y) [
  | inr apart ↦ inr (λ same. apart (let here : x ≡ y = cc in here))
  | inl here ↦ elim (decided_list decide xs ys) [
    | inr apart ↦ inr (λ same. apart (let there : xs ≡ ys = cc in there))
    | inl there ↦ inl (λ i. here i ∷ there i)
  ]
]

decided_entry : {X : Type 0} → ((x y : X) → Decided (x ≡ y)) → (e f : Text × X) → Decided (e ≡ f)
decided_entry {X} decide e f = elim (decided_text e.0 f.0) [
  | inr apart ↦ inr (λ same. apart (ap (λ (x : Text × X). x.0) same))
  | inl key ↦ elim (decide e.1 f.1) [
    | inr apart ↦ inr (λ same. apart (ap (λ (x : Text × X). x.1) same))
    | inl value ↦ inl (λ i. (key i, value i))
  ]
]

decided_map : {X : Type 0} → ((x y : X) → Decided (x ≡ y)) → (m n : finite.FinMap text_cmp X) → Decided (m ≡ n)
decided_map decide m n = elim (decided_list (decided_entry decide) (finite.entries m) (finite.entries n)) [
  | inl same ↦ inl (finite.same_entries_map m n same)
  | inr apart ↦ inr (λ same. apart (ap (λ x. finite.entries x) same))
]

decided_topic : (s t : Topic) → Decided (s ≡ t)
decided_topic s t = elim (decided_text s.id t.id) [
  | inr apart ↦ inr (λ same. apart (ap (λ (x : Topic). x.id) same))
  | inl id ↦ elim (cases_equal s.count t.count) [
    | inr apart ↦ inr (λ same. apart (ap (λ (x : Topic). x.count) same))
    | inl count ↦ inl (λ i. record { id = id i; count = count i })
  ]
]

decided_assignor : (a b : Option AssignorName) → Decided (a ≡ b)
decided_assignor None None = inl refl
decided_assignor None (Some b) = inr (λ same. cc)
decided_assignor (Some a) None = inr (λ same. cc)
decided_assignor (Some Range) (Some Range) = inl refl
decided_assignor (Some Range) (Some Uniform) = inr (λ same. cc)
decided_assignor (Some Uniform) (Some Range) = inr (λ same. cc)
decided_assignor (Some Uniform) (Some Uniform) = inl refl

decided_unchanged : (before after : Record) (stored present : Topics) → Decided (IsUnchanged before after stored present)
decided_unchanged before after stored present =
    elim (decided_both (decided_map (λ x y. inl refl) before.names after.names) (decided_both (decided_assignor before.assignor after.assignor) (decided_map decided_topic stored present))) [
      | inl all ↦ inl (record { names = all.0; assignor = all.1.0; view = all.1.1 })
      | inr other ↦ inr (λ is. other (is.names, (is.assignor, is.view)))
    ]

is_change_or_not : (before : Option Record) (after : Record) (stored view : Topics) → (change : Bool) × IsChange change before after stored view
is_change_or_not None after stored view = (true, refl)
is_change_or_not (Some before) after stored view = elim (decided_unchanged before after stored view) [ inl same ↦ (false, same) | inr other ↦ (true, other) ]

-- ---- the id

remembered_or_fresh : (g : Group) (k : ℕ) → Decided (is_remembered (members_of g) (made_id g.salt k) ≡ false)
remembered_or_fresh g k = elim (is_remembered (members_of g) (made_id g.salt k)) as (λ b. Decided (b ≡ false)) [ true ↦ inr (λ is. true≢false is) | false ↦ inl refl ]

not_fresh : (b : Bool) → ¬ (b ≡ false) → b ≡ true
not_fresh true apart = refl
not_fresh false apart = absurd (apart refl)

-- among a number of serials from the group's on
serial_within : (g : Group) (n : ℕ) → n ≡ 2 ^ 64 - g.serial → (serial : Option ℕ) × IsSerial g serial
serial_within g n is =
    elim (first_below (λ k. is_remembered (members_of g) (made_id g.salt (g.serial + k)) ≡ false) (λ k. remembered_or_fresh g (g.serial + k)) n) [
      | inl (k, found) ↦ (
        Some (g.serial + k),
        record {
          from = omega arith;
          below = let low = found.below in omega arith;
          fresh = found.there;
          first = λ j from low. not_fresh _ (λ fresh.
              found.first (j - g.serial) (omega arith) (subst (λ i. is_remembered (members_of g) (made_id g.salt i) ≡ false) (let same : j ≡ g.serial + (j - g.serial) = omega arith in same) fresh));
        },
      )
      | inr none ↦ (
        None,
        λ j from below. not_fresh _ (λ fresh.
            none (j - g.serial) (omega arith) (subst (λ i. is_remembered (members_of g) (made_id g.salt i) ≡ false) (let same : j ≡ g.serial + (j - g.serial) = omega arith in same) fresh)),
      )
    ]

is_named_or_not : (g : Group) (m : Text) → (name : Option Name) × IsNamed g m name
is_named_or_not g [] =
    let (serial, is) = serial_within g (2 ^ 64 - g.serial) refl in
    (option_map (name_of_serial g) serial, (serial, is, refl))
is_named_or_not g (c ∷ m) = (Some (record { id = c ∷ m; next_serial = g.serial }), refl)

-- ---- the renewal

renewed_where : (b : Bool) (g : Group) → AreImageTopics g.view → (new : Group) × RenewsWhere b g new × (new.records ≡ g.records)
renewed_where true g image = (g, refl, refl)
renewed_where false g image =
    let (target, is) = targets_exist g.records g.view g.target image in
    (record g { target = target; target_epoch = g.epoch }, (target, is, refl), refl)

-- ---- the settling and the reply

-- the member has a record
abbrev HasRecord : Group → Text → Type 0
HasRecord g m = (r : Record) × (finite.get g.records m ≡ Some r)

settled_has_record : (g : Group) (m : Text) (owned : Option (finite.FinMap _ (Unit {0}))) (now : ℕ) → HasRecord g m → HasRecord (settled g m owned now) m
settled_has_record g m owned now (r, is) =
    let may : Bool = may_settle g.grants m (wanted g.target m) owned in
    let after : Record = settled_record may r g.target_epoch now in
    (after, ap (λ o. finite.get (settled_by may g m o now).records m) is ∙ get-inserted g.records m after)

stages : (changed : Group) (d : Draft) (q : Heartbeat) → AreImageTopics changed.view → HasRecord changed d.id → IsAnswered (Stages changed d q)
stages changed d q image (r, is) =
    let (renewed, renews, same) = renewed_where (changed.epoch == changed.target_epoch) changed image in
    let (last, there) = settled_has_record renewed d.id (reported q) renewed.clock (r, ap (λ records. finite.get records d.id) same ∙ is) in
    let done : Group = settled renewed d.id (reported q) renewed.clock in
    record {
      answer = _;
      new = _;
      step = record { renewed = renewed; renews = renews; settled = done; settles = refl; kept = last; is_kept = there; told = _; tells = refl; answers = refl; leaves = refl };
    }

by_verdict : (v : Verdict) (Accepts : Answer → Group → Type 0) (g : Group) → (v ≡ Accepted → IsAnswered Accepts) → IsAnswered (ByVerdict v Accepts g)
by_verdict Accepted Accepts g accepted = let is = accepted refl in record { answer = is.answer; new = is.new; step = is.step }
by_verdict (Refused code) Accepts g accepted = record { answer = _; new = _; step = (refl, refl) }
by_verdict Overtaken Accepts g accepted = record { answer = _; new = _; step = (refl, refl) }

-- a draft that has its member's record and the group's view
record IsBegun (g : Group) (d : Draft) : Type 0 where
  pub recorded : HasRecord d.group d.id
  pub view : d.group.view ≡ g.view

changed_record : (change : Bool) (g : Group) (view : Topics) (m : Text) → HasRecord g m → HasRecord (changed_if change g view) m
changed_record true g view m has = has
changed_record false g view m has = has

takes_in : (g : Group) (d : Draft) (q : Heartbeat) (image : Topics) → AreImageTopics g.view → AreImageTopics image → IsBegun g d → IsAnswered (TakesIn g d q image)
takes_in g d q image stored are begun =
    let view : Topics = view_for image d.group.records in
    let (change, is) = is_change_or_not d.before d.after g.view view in
    let changed : Group = changed_if change d.group view in
    let good : AreImageTopics changed.view = changed_view change d.group view (subst AreImageTopics (sym begun.view) stored) (retained-AreImageTopics image (is_subscribed d.group.records) are) in
    let taken = by_verdict (verdict_on_change change g.epoch) (Stages changed d q) g (λ so. stages changed d q good (changed_record change d.group view d.id begun.recorded)) in
    record { answer = taken.answer; new = taken.new; step = record { change = change; is_change = is; step = taken.step } }

-- ---- by the kind of heartbeat

join_begun : (g : Group) (serial now : ℕ) (m : Text) (own : Option Record) (other : Option Member) (q : Heartbeat) (stamp : Stamp)
    → IsBegun g (draft_of_join (record g { serial = serial }) now m own other q stamp)
join_begun g serial now m (Some r) other q stamp = record { recorded = (_, get-inserted g.records m _); view = refl }
join_begun g serial now m None None q stamp = record { recorded = (_, get-inserted g.records m _); view = refl }
join_begun g serial now m None (Some old) q stamp = record { recorded = (_, get-inserted (finite.insert (finite.remove g.records old.id) m old.kept) m _); view = refl }

-- what comes of a name, or of none
joins_under : (name : Option Name) (sender : Sender) (g : Group) (h : Arrival) → AreImageTopics g.view → AreImageTopics h.image
    → IsAnswered (λ answer new. MatchOption name (IsRefused codes.CoordinatorNotAvailable g answer new) (λ n. TakesIn g (draft_under n sender g h) h.heartbeat h.image answer new))
joins_under None sender g h stored image = record { answer = _; new = _; step = (refl, refl) }
joins_under (Some name) sender g h stored image =
    let is = takes_in g (draft_under name sender g h) h.heartbeat h.image stored image
    (join_begun g name.next_serial (max g.clock h.moment) name.id sender.own sender.other h.heartbeat h.stamp) in
    record { answer = is.answer; new = is.new; step = is.step }

beats_with : (own : Option Record) (g : Group) (h : Arrival) → AreImageTopics g.view → AreImageTopics h.image → is_none own ≡ false → IsAnswered (BeatsWith own g h)
beats_with None g h stored image some = absurd (true≢false some)
beats_with (Some r) g h stored image some =
    let is = takes_in g (draft_of_beat g (max g.clock h.moment) r h.heartbeat h.stamp) h.heartbeat h.image stored image
    (record { recorded = (_, get-inserted g.records h.heartbeat.member _); view = refl }) in
    record { answer = is.answer; new = is.new; step = is.step }

goes_away_with : (own : Option Record) (g : Group) (h : Arrival) → is_none own ≡ false → IsAnswered (GoesAwayWith own g h)
goes_away_with None g h some = absurd (true≢false some)
goes_away_with (Some r) g h some = record { answer = _; new = _; step = (refl, refl) }

-- a check that would refuse doesn't apply
passed : (b : Bool) (v rest : Verdict) → (v ≡ Accepted → ⊥) → cond b v rest ≡ Accepted → (b ≡ false) × (rest ≡ Accepted)
passed true v rest fails is = absurd (fails is)
passed false v rest fails is = (refl, is)

refuses : (code : _) → Refused code ≡ Accepted → ⊥
refuses code is = cc

is_there : (own : Option Record) (instance : Option Text) → is_another own instance ≡ false → is_none own ≡ false
is_there None None is = is
is_there None (Some i) is = is
is_there (Some r) instance is = refl

step_of : (kind : Kind) (sender : Sender) (g : Group) (h : Arrival) → AreImageTopics g.view → AreImageTopics h.image → verdict_on kind sender g h.heartbeat h.stamp ≡ Accepted → IsAnswered (StepOf kind sender g h)
step_of Joins sender g h stored image accepted =
    let (name, is_named) = is_named_or_not g h.heartbeat.member in
    let is = joins_under name sender g h stored image in
    record { answer = is.answer; new = is.new; step = record { name = name; is_named = is_named; joins = is.step } }
step_of (Beats n) sender g h stored image accepted =
    let valid = passed _ _ _ (refuses codes.InvalidRequest) accepted in
    let supported = passed _ _ _ (refuses codes.UnsupportedAssignor) valid.1 in
    let known = passed _ _ _ (refuses codes.UnknownMemberId) supported.1 in
    let is = beats_with sender.own g h stored image known.0 in
    record { answer = is.answer; new = is.new; step = is.step }
step_of Leaves sender g h stored image accepted = record { answer = _; new = _; step = (refl, refl) }
step_of GoesAway sender g h stored image accepted =
    let valid = passed _ _ _ (refuses codes.InvalidRequest) accepted in
    let known = passed _ _ _ (refuses codes.UnknownMemberId) valid.1 in
    let is = goes_away_with sender.own g h (is_there sender.own h.heartbeat.instance known.0) in
    record { answer = is.answer; new = is.new; step = is.step }
step_of MeansNothing sender g h stored image accepted = cc

pub has_an_answer : HasAnAnswer
has_an_answer g h stored image =
    let kind : Kind = kind_of h.heartbeat.epoch in
    let sender : Sender = sender_of g.records h.heartbeat in
    let is = by_verdict (verdict_on kind sender g h.heartbeat h.stamp) (StepOf kind sender g h) g (step_of kind sender g h stored image) in
    record { answer = is.answer; new = is.new; step = is.step }
