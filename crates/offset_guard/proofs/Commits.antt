-- What a taken commit stores.
use Rattle.std.proofs.Common.{◌≡◌, ℤ, Bool, true, false, cond, List, [], ◌∷◌, map, Option, Some, None, is_some, refl, sym, ap, ◌∙◌, true≢false}
use Rattle.std.specs.FinMap as finite
use Rattle.std.specs.List.{flat_map}
use Rattle.std.specs.Option.{option_or}
use Rattle.std.specs.Ordering.{eq_by_cmp}
use Rattle.kip_msgs.specs.declared.commit.CommitRequestPartition.{CommitRequestPartition}
use Rattle.kip_msgs.specs.declared.commit.CommitRequestTopic.{CommitRequestTopic}
use Rattle.kip_msgs.specs.Views.{commit_request_partition_value, commit_request_topic_value}
use Rattle.group_types.specs.declared.code.Code.{Code}
use Rattle.group_types.specs.Text.{Text}
use Rattle.group_types.specs.Topics.{Topics}
use Rattle.group_types.specs.Group.{Offsets, place_cmp}
use Rattle.group_types.specs.Commit.{Commit, Commitment, is_stored, named_commitments, with_offset, with_offsets, offsets_after}
use Rattle.group_epochs.specs.Request.{commitment_of}
use Rattle.offset_guard.specs.Requests.{topic_of}
use Rattle.group_types.proofs.OffsetLemmas.{or_assoc, place_cmp_total, place_cmp-IsAntisymmetric}

abbrev pub partition_commitments : Text → List CommitRequestPartition → List (Text × Commitment)
partition_commitments name ps = map (λ x. (name, x)) (map commitment_of (map commit_request_partition_value ps))

abbrev pub topic_commitments : List CommitRequestTopic → List (Text × Commitment)
topic_commitments ts = flat_map named_commitments (map topic_of (map commit_request_topic_value ts))

get-with_offset : (stored : Bool) (offsets : Offsets) (name : Text) (x : Commitment) (place : Text × ℤ)
    → finite.get (with_offset stored offsets name x) place ≡ option_or (finite.get (with_offset stored finite.empty name x) place) (finite.get offsets place)
get-with_offset true offsets name x place =
    finite.get-insert place_cmp_total offsets (name, x.index) x.committed place
    ∙ over (eq_by_cmp place_cmp place (name, x.index))
    ∙ ap (λ o. option_or o (finite.get offsets place))
    (ap (cond (eq_by_cmp place_cmp place (name, x.index)) (Some x.committed)) (sym (finite.get-empty place_cmp place))
    ∙ sym (finite.get-insert place_cmp_total finite.empty (name, x.index) x.committed place))
  where
    over : (b : Bool) → cond b (Some x.committed) (finite.get offsets place) ≡ option_or (cond b (Some x.committed) None) (finite.get offsets place)
    over true = refl
    over false = refl
get-with_offset false offsets name x place =
    ap (λ o. option_or o (finite.get offsets place)) (sym (finite.get-empty place_cmp place))

-- what a commit stores stands before what was stored
get-with_offsets : (image : Topics) (offsets : Offsets) (xs : List (Text × Commitment)) (place : Text × ℤ)
    → finite.get (with_offsets image offsets xs) place ≡ option_or (finite.get (with_offsets image finite.empty xs) place) (finite.get offsets place)
get-with_offsets image offsets [] place = ap (λ o. option_or o (finite.get offsets place)) (sym (finite.get-empty place_cmp place))
get-with_offsets image offsets (x ∷ xs) place =
    let stored = is_stored image x.0 x.1 in
    get-with_offsets image (with_offset stored offsets x.0 x.1) xs place
    ∙ ap (option_or (finite.get (with_offsets image finite.empty xs) place)) (get-with_offset stored offsets x.0 x.1 place)
    ∙ or_assoc (finite.get (with_offsets image finite.empty xs) place) (finite.get (with_offset stored finite.empty x.0 x.1) place) (finite.get offsets place)
    ∙ ap (λ o. option_or o (finite.get offsets place)) (sym (get-with_offsets image (with_offset stored finite.empty x.0 x.1) xs place))

pub with_offsets-absorbed : (image : Topics) (old news new : Offsets) (xs : List (Text × Commitment)) → news ≡ with_offsets image finite.empty xs
    → ((place : Text × ℤ) → finite.get new place ≡ option_or (finite.get news place) (finite.get old place)) → new ≡ with_offsets image old xs
with_offsets-absorbed image old news new xs is absorbed =
    finite.same_map place_cmp_total place_cmp-IsAntisymmetric _ _
    (λ place. absorbed place ∙ ap (λ m. option_or (finite.get m place) (finite.get old place)) is ∙ sym (get-with_offsets image old xs place))

-- ---- refused or taken

pub after_taken : (refusal : Option Code) (offsets : Offsets) (c : Commit) (image : Topics) → is_some refusal ≡ false
    → offsets_after refusal offsets c image ≡ with_offsets image offsets (flat_map named_commitments c.topics)
after_taken None offsets c image taken = refl
after_taken (Some code) offsets c image taken = absurd (true≢false taken)

pub after_refused : (refusal : Option Code) (offsets : Offsets) (c : Commit) (image : Topics) → is_some refusal ≡ true → offsets_after refusal offsets c image ≡ offsets
after_refused None offsets c image refused = absurd (true≢false (sym refused))
after_refused (Some code) offsets c image refused = refl
