-- An answer leaves nothing out.
use Rattle.std.proofs.Common.{◌≡◌, ◌≤◌, ℕ, zero, suc, ◌+◌, ◌-◌, ℤ, cond, List, [], ◌∷◌, map, length, Option, Some, None, is_some, refl, sym, ap, subst, ◌∙◌, arith}
use Rattle.std.specs.FinMap as finite
use Rattle.group_types.specs.declared.code.Code.{Code}
use Rattle.group_types.specs.Text.{Text, text_cmp}
use Rattle.group_types.specs.Topics.{Topics}
use Rattle.group_types.specs.Group.{Group, Record, Records}
use Rattle.group_types.specs.Leave.{risen, without_member}
use Rattle.group_types.specs.Tick.{at_moment, due, expired, is_due, without_members}
use Rattle.group_types.specs.Commit.{Commit, Commitment, TopicCommitments, answers_by, code_of_taken, commit_reply, refusal_of_commit}
use Rattle.group_types.proofs.Entries.{entries_found}
use Rattle.group_types.proofs.Lookups.{not_none}
use Rattle.group_types.proofs.Orders.{text_cmp_total}
use Rattle.group_types.proofs.Soundness.{Leaves, leaves_after, leaves_of_sorted}
use Rattle.machine_laws.specs.Whole.{CommitsAreAnsweredWhole, NamesEach, TicksCountWhoGoes, asked_of, told_of}

-- ---- ticks

some_there : (records : Records) (m : Text) (r : Record) → finite.get records m ≡ Some r → (n : ℕ) → finite.len records ≡ n → 1 ≤ n
some_there records m r there zero none =
    absurd (not_none r (sym (ap (λ (s : Records). finite.get s m) (finite.empty_of_len records none) ∙ finite.get-empty text_cmp m) ∙ there))
some_there records m r there (suc n) some = omega arith

fewer : (ms : List (Text × Record)) (g : Group) → Leaves g.records ms → finite.len (without_members g ms).records + length ms ≡ finite.len g.records
fewer [] g leaves = omega arith
fewer (m ∷ ms) g leaves =
    let later = fewer ms (without_member g m.0 m.1.stamp) (leaves_after g.records m.0 ms leaves.1 leaves.2) in
    let one : finite.len (finite.remove g.records m.0) ≡ finite.len g.records - 1 =
    finite.len-remove text_cmp_total g.records m.0 ∙ ap (λ (o : Option Record). cond (is_some o) (finite.len g.records - 1) (finite.len g.records)) leaves.0 in
    let some = some_there g.records m.0 m.1 leaves.0 (finite.len g.records) refl in
    omega (arith, later, one, some)

expired_fewer : (ms : List (Text × Record)) (g : Group) → Leaves g.records ms → finite.len (expired g ms).records + length ms ≡ finite.len g.records
expired_fewer [] g leaves = omega arith
expired_fewer (m ∷ ms) g leaves = fewer (m ∷ ms) (record g { epoch = risen g.epoch }) leaves

pub ticks_count_who_goes : TicksCountWhoGoes
ticks_count_who_goes g moment =
    let now : Group = at_moment g moment in
    expired_fewer (due now) now
    (leaves_of_sorted (λ m. is_due now.clock m.1) g.records (finite.entries g.records) (finite.entries_sorted g.records) (entries_found g.records))

-- ---- commits

module _ (code : Text → Commitment → Code) where
  abbrev part_of : Text → Commitment → ℤ × Code
  part_of name x = (x.index, code name x)

  abbrev topic_of : TopicCommitments → Text × List (ℤ × Code)
  topic_of t = (t.name, map (part_of t.name) t.partitions)

  indexes : (name : Text) (xs : List Commitment) → map (λ (x : ℤ × Code). x.0) (map (part_of name) xs) ≡ map (λ (x : Commitment). x.index) xs
  indexes name [] = refl
  indexes name (x ∷ xs) = ap (λ is. x.index ∷ is) (indexes name xs)

  topics : (ts : List TopicCommitments) → map told_of (map topic_of ts) ≡ map asked_of ts
  topics [] = refl
  topics (t ∷ ts) = λ i. (t.name, indexes t.name t.partitions i) ∷ topics ts i

  whole : (c : Commit) → NamesEach c (answers_by code c)
  whole c = topics c.topics

pub commits_are_answered_whole : CommitsAreAnsweredWhole
commits_are_answered_whole =
    record {
      of_group = λ g c image reply new step. subst (NamesEach c) (sym step.answers) (by c image (refusal_of_commit g.records c.member c.epoch));
      of_codes = whole;
    }
  where
    by : (c : Commit) (image : Topics) (o : Option Code) → NamesEach c (commit_reply o c image)
    by c image (Some code) = whole (λ name x. code) c
    by c image None = whole (code_of_taken image) c
