use denote.Exit.{unseen}
use denote.Param.Send.{Quiet-if}
use mir.Syntax.{of_param}
use Rattle.coord_server.proofs.event_loops.run_beside.Goals as goal

-- what the closure is given may cross threads, since this function's parameters may
pub scoped-requires : goal.scoped-requires
scoped-requires g c = record {
  at = λ a. (
    c.requires,
    (
      record { owned = c.type_bounds.send-B.owned; leaving = λ k. Quiet-if (k (of_param 1)) unseen unseen (λ x w. tt) (λ x w. tt) },
      record { owned = c.type_bounds.send-E.owned; leaving = λ k. Quiet-if (k (of_param 2)) unseen unseen (λ x w. tt) (λ x w. tt) },
      record { shared = c.type_bounds.sync-R.shared },
    ),
  );
}
