use Rattle.world_sim.proofs.BroughtAgain.{some_commit_is_brought_again}
use Rattle.world_sim.proofs.TakenOver.{some_static_member_is_taken_over}
use Rattle.world_sim.proofs.TwoHolders.{some_commit_is_taken, some_reply_shows, some_target_is_renewed, some_world_can_settle, some_rounds_move, somebody_holds, two_hold}
use Rattle.world_sim.proofs.laws.the_laws_are_met.Goals as goal

pub returns-clause-holds : goal.returns-clause-holds
returns-clause-holds c = somebody_holds

pub returns-clause-two_hold : goal.returns-clause-two_hold
returns-clause-two_hold c = two_hold

pub returns-clause-shows : goal.returns-clause-shows
returns-clause-shows c = some_reply_shows

pub returns-clause-takes : goal.returns-clause-takes
returns-clause-takes c = some_commit_is_taken

pub returns-clause-brings : goal.returns-clause-brings
returns-clause-brings c = some_commit_is_brought_again

pub returns-clause-renews : goal.returns-clause-renews
returns-clause-renews c = some_target_is_renewed

pub returns-clause-settles : goal.returns-clause-settles
returns-clause-settles c = some_world_can_settle

pub returns-clause-moves : goal.returns-clause-moves
returns-clause-moves c = some_rounds_move

pub returns-clause-takes_over : goal.returns-clause-takes_over
returns-clause-takes_over c = some_static_member_is_taken_over
