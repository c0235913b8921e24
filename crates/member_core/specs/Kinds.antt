-- The kinds of the code as the client machine's.
use Rattle.member_core.specs.Asking as client
use Rattle.member_core.specs.Asking.{Fullness}
use Rattle.member_core.specs.declared.ask.Kind.{Kind}
use Rattle.member_core.specs.declared.ask.Kind.TheVariants.{Short, Owned, Full}
use Rattle.member_core.specs.declared.ask.Quit.{Quit}
use Rattle.member_core.specs.declared.ask.Quit.TheVariants.{Leave, Away}
use Rattle.member_core.specs.declared.ask.Ask as code
use Rattle.member_core.specs.declared.ask.Ask.TheVariants as asks

abbrev pub fullness : Kind → Fullness
fullness Short = client.Short
fullness Owned = client.Owned
fullness Full = client.Full

abbrev pub quit_ask : Quit → client.Ask
quit_ask Leave = client.Leave
quit_ask Away = client.GoAway

abbrev pub ask_value : code.Ask → client.Ask
ask_value asks.Join = client.Join
ask_value (asks.Beat kind) = client.Beat (fullness kind)
ask_value (asks.Quit quit) = quit_ask quit
