-- A record's settings are its client's: what an accepted heartbeat of the client leaves them.
use Rattle.std.proofs.Common.{◌≡◌, ◌⊎◌, ℤ, pos, ◌&&◌, int_le, Option, Some, None, refl, sym, ap, ◌∙◌, inl, inr, true≢false}
use Rattle.std.specs.Option.{option_or, option_and_then}
use Rattle.std.proofs.lemmas.Bool.{or_parts}
use Rattle.group_types.specs.Text.{Text}
use Rattle.group_types.specs.Sets.{of_list}
use Rattle.group_types.specs.AssignorName.{assignor_named}
use Rattle.group_types.specs.Request.{Heartbeat, is_empty, is_invalid_as, is_unknown, kind_of}
use Rattle.group_types.specs.Group.{Record}
use Rattle.group_types.specs.Join.{names_after}
use Rattle.member_core.specs.Settings.{Settings}
use Rattle.world_sim.specs.Turn.{Gives, GivesFirst}
use Rattle.world_sim.specs.Invariant.{IsOfSettings, SaysSettings}

-- what is given twice is given
or_again : {X : Type 0} (given stored : Option X) → option_or given (option_or given stored) ≡ option_or given stored
or_again None stored = refl
or_again (Some x) stored = refl

pub settings_after : (s : Settings) (q : Heartbeat) (before r : Record) → SaysSettings s q → IsOfSettings s before → Gives q before r → IsOfSettings s r
settings_after s q before r says old (inl given) =
    record {
      group = old.group;
      supported = old.supported;
      names = by_names says.names;
      assignor = by_assignor says.assignor;
    }
  where
    by_names : (q.names ≡ None) ⊎ (q.names ≡ Some s.names) → r.names ≡ of_list s.names
    by_names (inl none) = given.names ∙ ap (names_after before.names) none ∙ old.names
    by_names (inr some) = given.names ∙ ap (names_after before.names) some

    by_assignor : (q.assignor ≡ None) ⊎ (q.assignor ≡ s.assignor) → option_or (option_and_then assignor_named s.assignor) r.assignor ≡ r.assignor
    by_assignor (inl none) =
        let same : r.assignor ≡ before.assignor = given.assignor ∙ ap (λ (o : Option Text). option_or (option_and_then assignor_named o) before.assignor) none in
        ap (option_or (option_and_then assignor_named s.assignor)) same ∙ old.assignor ∙ sym same
    by_assignor (inr some) =
        let same : r.assignor ≡ option_or (option_and_then assignor_named s.assignor) before.assignor =
        given.assignor ∙ ap (λ (o : Option Text). option_or (option_and_then assignor_named o) before.assignor) some in
        ap (option_or (option_and_then assignor_named s.assignor)) same ∙ or_again (option_and_then assignor_named s.assignor) before.assignor ∙ sym same
settings_after s q before r says old (inr same) =
    record {
      group = old.group;
      supported = old.supported;
      names = same.0 ∙ old.names;
      assignor = ap (option_or (option_and_then assignor_named s.assignor)) same.1 ∙ old.assignor ∙ sym same.1;
    }

pub settings_first : (s : Settings) (q : Heartbeat) (r : Record) → SaysSettings s q → q.epoch ≡ pos 0 → GivesFirst q r → IsOfSettings s r
settings_first s q r says joins first =
    let said = says.joins joins in
    let named : r.names ≡ of_list s.names = first.given.names ∙ ap (names_after first.stored_names) said.0 in
    let same : r.assignor ≡ option_or (option_and_then assignor_named s.assignor) first.stored_assignor =
    first.given.assignor ∙ ap (λ (o : Option Text). option_or (option_and_then assignor_named o) first.stored_assignor) said.1 in
    record {
      group = λ empty. true≢false (ap is_empty (sym empty) ∙ ap is_empty (sym says.group) ∙ (or_parts (is_empty q.group) (is_invalid_as q (kind_of q.epoch)) first.valid).0);
      supported =
          ap is_unknown (sym said.1)
          ∙ ap (λ (e : ℤ). int_le (pos 0) e && is_unknown q.assignor) (sym joins)
          ∙ first.supported;
      names = named;
      assignor = ap (option_or (option_and_then assignor_named s.assignor)) same ∙ or_again (option_and_then assignor_named s.assignor) first.stored_assignor ∙ sym same;
    }
