-- The desk that owns a node goes through the coordinator's run, at the moments that were handed out to it.
use Rattle.std.specs.Prelude.{◌≡◌, ℕ}
use Rattle.coord_node.specs.Coordinator.{Frame}
use Rattle.coord_node.specs.Nodes.{coordinator_of}
use Rattle.link_futures.specs.declared.solo.Solo.{Solo}
use Rattle.link_futures.specs.Desks.{Answering, NodeStep}

module _ {M : Type 0} (hands : M → ℕ → M → Type 0) where
  abbrev pub SoloAnswers : Answering (Solo M)
  SoloAnswers s body stamp answer t =
      (moment : ℕ) × hands s.moments moment t.moments × NodeStep (coordinator_of s.node) (Frame body stamp moment) answer (coordinator_of t.node)

  -- where memory is short only the moment is used up
  abbrev pub SoloLacks : Solo M → Solo M → Type 0
  SoloLacks s t = (moment : ℕ) × hands s.moments moment t.moments × (t.node ≡ s.node)
