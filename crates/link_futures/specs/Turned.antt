-- What a turn of a line came to, as a poll.
use Rattle.futures.specs.declared.task.Poll.{Poll}
use Rattle.futures.specs.declared.task.Poll.TheVariants.{Ready, Pending}
use Rattle.link_futures.specs.declared.end.End.{End}
use Rattle.link_futures.specs.declared.turned.Turned.{Turned}
use Rattle.link_futures.specs.declared.turned.Turned.TheVariants.{Ends, Waits, GoesOn}

abbrev pub polled_of : Turned → Poll End
polled_of (Ends end) = Ready end
polled_of Waits = Pending
polled_of GoesOn = Pending
