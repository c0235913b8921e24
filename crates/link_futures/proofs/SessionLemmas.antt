-- What a session gives behind one poll, it gives before it.
use Rattle.std.proofs.Common.{ℕ, sym, subst}
use Rattle.futures.specs.declared.task.Poll.{Poll}
use Rattle.futures.specs.declared.task.Poll.TheVariants.{Ready, Pending}
use Rattle.futures.specs.Poll.{IfReady, OnPending}
use Rattle.tokio.specs.Io.Moved.{Passes, PassesInOrder}
use Rattle.link_futures.specs.declared.end.End.{End}
use Rattle.link_futures.specs.declared.line.Line.{Line}
use Rattle.link_futures.specs.declared.session.Session.{Session}
use Rattle.link_futures.specs.Desks.{Answering}
use Rattle.link_futures.specs.Stream.{Talks, EndsAs, MetNoFault, LeavesDesk}
use Rattle.link_futures.specs.Sessions.{MayEnd}
use Rattle.link_futures.proofs.TurnLemmas.{Talks_trans, EndsAs_earlier}

module _ {R W D : Type 0} (reads : Passes R) (is_at_end : R → Type 0) (read_faults : R → ℕ) (writes : Passes W) (write_faults : W → ℕ) (stalls : W → ℕ) (answers : Answering D) where
  pub MayEnd_ready : (r : Poll End) (old : Session R W D) (line : Line R W) (last : D) → Talks reads is_at_end writes answers old (record { line = line; desk = last })
      → IfReady r (λ end. EndsAs read_faults write_faults stalls end old.line line) → IfReady r (MayEnd reads is_at_end read_faults writes write_faults stalls answers old)
  MayEnd_ready (Ready end) old line last talks ends =
      let s : Session R W D = record { line = line; desk = last } in (s, talks, ends)
  MayEnd_ready Pending old line last talks ends = tt

  pub MayEnd_pending : PassesInOrder reads → PassesInOrder writes → (lacks : D → D → Type 0) (r : Poll End) (old new : Session R W D) (last : D)
      → Talks reads is_at_end writes answers old (record { line = new.line; desk = last }) → LeavesDesk lacks r last new.desk
      → OnPending r (MetNoFault read_faults write_faults stalls old.line new.line)
      → OnPending r ((end : End) → MayEnd reads is_at_end read_faults writes write_faults stalls answers new end → MayEnd reads is_at_end read_faults writes write_faults stalls answers old end)
  MayEnd_pending read_order write_order lacks (Ready end) old new last talked leaves none = tt
  MayEnd_pending read_order write_order lacks Pending old new last talked leaves none = λ end may.
      let talks : Talks reads is_at_end writes answers old new =
      subst (λ (d : D). Talks reads is_at_end writes answers old (record { line = new.line; desk = d })) (sym leaves) talked in (
        may.0,
        Talks_trans reads is_at_end writes answers read_order write_order old new may.0 talks may.1,
        EndsAs_earlier read_faults write_faults stalls end old.line new.line may.0.line none may.2,
      )
