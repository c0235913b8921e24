-- A new world is live.
use Rattle.std.proofs.Common.{◌≡◌, ℕ, zero, suc, List, [], map, All, Some, sym, subst, ◌∙◌, arith, true≢false}
use Rattle.std.specs.List.{Contains}
use Rattle.std.proofs.lemmas.Option.{slice_get_within, get_or_from_slice_get}
use Rattle.group_types.specs.Partition.{partition_cmp}
use Rattle.group_types.proofs.SetLemmas.{has-nothing}
use Rattle.group_types.proofs.ListLemmas.{slice_get-map_from}
use Rattle.coord_node.proofs.SoundGroups.{opening_serves}
use Rattle.member_core.specs.Settings.{FitsSettings, Settings}
use Rattle.member_core.specs.Client.{Client, new_client}
use Rattle.member_core.specs.Existence.{CanSay}
use Rattle.world_sim.specs.World.{numbered}
use Rattle.world_sim.specs.Existence.{NewWorldsAreLive}

new_client_says : (s : Settings) → FitsSettings s → CanSay (new_client s)
new_client_says s said = record {
  settings = said;
  id = tt;
  epoch = record { sfits = omega arith };
  own = λ p there. absurd (true≢false (sym there ∙ has-nothing partition_cmp p));
}

new_clients_say : (clients : List Settings) → All FitsSettings clients → (n : ℕ) (c : Client) → numbered (map new_client clients) n ≡ Some c → CanSay c
new_clients_say clients said zero c is = cc
new_clients_say clients said (suc n) c is =
    let (s, there, same) = slice_get-map_from new_client clients n c is in
    subst CanSay same (new_client_says s (subst FitsSettings (get_or_from_slice_get clients n s s there) (said n s (slice_get_within clients n s there))))

-- an empty pool has nothing
empty_pool : {X P : Type 0} (x : X) → Contains [] x → P
empty_pool x there = absurd (let within = there.1 in omega arith)

pub new_worlds_are_live : NewWorldsAreLive
new_worlds_are_live salt clients said = record {
  serving = opening_serves salt;
  clients = new_clients_say clients said;
  requests = λ q there. empty_pool q there;
  replies = λ r there. empty_pool r there;
  commits = λ k there. empty_pool k there;
}
