use Rattle.std.proofs.Common.{◌≡◌, map, take}
use Rattle.serde_json.specs.Data.{no_members}
use Rattle.serde_json.specs.View.{members_view}
use Rattle.list_json.specs.Objects.{put_all}
use Rattle.list_json.specs.Registers.{register_member}
use Rattle.list_json.proofs.registers.pcr_json.Given as goal

abbrev pub invariant-loop-start : goal.invariant-loop-start
invariant-loop-start l = members_view l.members.entries ≡ put_all no_members (map (register_member l.paths) (take l.start-index l.starts))
