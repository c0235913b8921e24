-- Which commits are taken.
use Rattle.std.proofs.Common.{◌≡◌, ℕ, ℤ, pos, negsuc, true, false, cond, ◌&&◌, ◌==◌, int_lt, le-ltb, arith, Option, Some, None, is_some, refl, sym, ap, ◌∙◌, true≢false}
use Rattle.std.specs.Ordering.{int_eq}
use Rattle.std.specs.FinMap as finite
use Rattle.std.proofs.lemmas.Bool.Decides.{Decides-int_eq}
use Rattle.group_types.specs.declared.code.Code.{Code}
use Rattle.group_types.specs.declared.code.Code.TheVariants as codes
use Rattle.group_types.specs.declared.epoch.Epoch.{Epoch}
use Rattle.group_types.specs.declared.epoch.Epoch.TheVariants.{At, Away}
use Rattle.group_types.specs.Epoch.{is_at}
use Rattle.group_types.specs.Group.{Record}
use Rattle.group_types.specs.Commit.{refusal_of_commit, refusal_of_member}
use Rattle.group_types.specs.Laws.{CommitsAreAtEpoch, IsMember}

refused_not : (code : Code) → Some code ≡ None → ⊥
refused_not code is = true≢false (ap is_some is)

abbrev magnitude : ℤ → ℕ
magnitude (pos n) = n
magnitude (negsuc n) = n

at_epoch : (e : Epoch) (n : ℕ) → cond (is_at e (pos n)) None (Some codes.StaleMemberEpoch) ≡ None → e ≡ At n
at_epoch (At e) n is =
    elim (int_eq (pos e) (pos n)) as (λ b. int_eq (pos e) (pos n) ≡ b → cond b None (Some codes.StaleMemberEpoch) ≡ None → At e ≡ At n) [
      | true ↦ λ same taken. ap (λ z. At (magnitude z)) ((Decides-int_eq (pos e) (pos n)).0 same)
      | false ↦ λ other taken. absurd (refused_not codes.StaleMemberEpoch taken)
    ] refl is
at_epoch Away n is = absurd (refused_not codes.StaleMemberEpoch is)

pub taken_at_epoch : CommitsAreAtEpoch
taken_at_epoch g c epoch is taken =
    by (finite.get g.records c.member) refl (sym (not_negative (finite.get g.records c.member)) ∙ ap (λ e. refusal_of_commit g.records c.member e) (sym is) ∙ taken)
  where
    -- an epoch of 0 or more is a member's
    not_negative : (own : Option Record) → cond (int_lt (pos epoch) (pos 0) && finite.len g.records == 0) None (refusal_of_member own (pos epoch)) ≡ refusal_of_member own (pos epoch)
    not_negative own = ap (λ b. cond (b && finite.len g.records == 0) None (refusal_of_member own (pos epoch))) below
      where
        below : int_lt (pos epoch) (pos 0) ≡ false
        below = le-ltb epoch 0 (omega arith)

    by : (own : Option Record) → finite.get g.records c.member ≡ own → refusal_of_member (finite.get g.records c.member) (pos epoch) ≡ None
        → (r : Record) × IsMember g c.member r × (r.epoch ≡ At epoch)
    by None none refused = absurd (refused_not codes.UnknownMemberId (sym (ap (λ o. refusal_of_member o (pos epoch)) none) ∙ refused))
    by (Some r) there refused = (r, there, at_epoch r.epoch epoch (sym (ap (λ o. refusal_of_member o (pos epoch)) there) ∙ refused))
