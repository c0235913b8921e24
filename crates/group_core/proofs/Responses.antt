-- What every answer comes with.
use Rattle.std.proofs.Common.{◌≡◌, ◌≢◌, ◌≤ℤ◌, arith, ℕ, pos, negsuc, sym, subst}
use Rattle.group_types.specs.declared.code.Code.{Code}
use Rattle.group_types.specs.declared.code.Code.TheVariants.{NoError}
use Rattle.group_types.specs.Text.{Text}
use Rattle.group_types.specs.Topics.{Topics}
use Rattle.group_types.specs.Group.{Group}
use Rattle.group_types.specs.HeartbeatStep.{Answer, Replied, farewell, refusal}
use Rattle.group_core.specs.Outcome.{HasFewPartitions, HasRoomFor, IsCurrentAfter, IsResponse}

module _ (a : Answer) (g : Group) (image : Topics) (room : ℕ) (fits : HasRoomFor a room) where
  pub of_refusal : (code : Code) → code ≢ NoError → a ≡ Replied (refusal code) → IsResponse a g image room
  of_refusal code error is =
      record {
        few = subst HasFewPartitions (sym is) tt;
        current = subst (λ (x : Answer). IsCurrentAfter x g image) (sym is) (λ none above. absurd (error none));
        room = fits;
      }

  pub of_farewell : (m : Text) (n : ℕ) → a ≡ Replied (farewell m (negsuc n)) → IsResponse a g image room
  of_farewell m n is =
      record {
        few = subst HasFewPartitions (sym is) tt;
        current = subst (λ (x : Answer). IsCurrentAfter x g image) (sym is) (λ none above. let below : pos 0 ≤ℤ negsuc n = above in absurd (omega (arith, below)));
        room = fits;
      }
