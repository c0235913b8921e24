use Rattle.group_types.proofs.Runs.{heartbeats_are_sound}
use Rattle.group_types.proofs.laws.heartbeats_are_sound.Goals as goal

pub returns : goal.returns
returns c = heartbeats_are_sound
