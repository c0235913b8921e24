-- Ids: who is a former member has no record, and an id that was made stays one.
use Rattle.std.proofs.Common.{◌≡◌, ◌≢◌, ◌≤◌, ℕ, [], ◌∷◌, length, None, inl, inr, sym, ap, ◌∙◌, arith, lt_of_lt_of_le}
use Rattle.std.specs.List.{Contains}
use Rattle.std.specs.FinMap as finite
use Rattle.group_types.specs.declared.stamp.Stamp.{Stamp}
use Rattle.group_types.specs.Text.{Text}
use Rattle.group_types.specs.MemberId.{made_id}
use Rattle.group_types.specs.Group.{Group, Past, Records}
use Rattle.group_types.proofs.MadeIds.{length-made_id}
use Rattle.world_sim.specs.Invariant.{IsMade}
use Rattle.group_types.specs.Sound.{IsPast}
use Rattle.world_sim.proofs.Lists.{In, to_in}

apart_in : (records : Records) (past : Past) (m : Text) (s : Stamp) → IsPast records past → In past (m, s) → finite.get records m ≡ None
apart_in records [] m s is there = absurd there
apart_in records (e ∷ past) m s is (inl same) = ap (λ (x : Text × Stamp). finite.get records x.0) (sym same) ∙ is.0
apart_in records (e ∷ past) m s is (inr there) = apart_in records past m s is.3 there

pub past_apart : (records : Records) (past : Past) (m : Text) (s : Stamp) → IsPast records past → Contains past (m, s) → finite.get records m ≡ None
past_apart records past m s is there = apart_in records past m s is (to_in past (m, s) there)

pub made_after : (g new : Group) → new.salt ≡ g.salt → g.serial ≤ new.serial → (m : Text) → IsMade g m → IsMade new m
made_after g new salt serial m is =
    record {
      serial = is.serial;
      below = lt_of_lt_of_le is.below serial;
      fits = is.fits;
      made = is.made ∙ ap (λ s. made_id s is.serial) (sym salt);
    }

-- a made id isn't empty
pub made_is_given : (salt serial : ℕ) → made_id salt serial ≢ []
made_is_given salt serial empty =
    let long = length-made_id salt serial in
    let none : length (made_id salt serial) ≡ 0 = ap length empty in
    absurd (omega (arith, long, none))
