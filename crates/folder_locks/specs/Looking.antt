-- What is looked at, what stands in a folder as looks compare it, and the error of a look.
use Rattle.std.specs.Prelude.{Option, Some, None, if◌then◌else◌}
use Rattle.std.specs.FinSet as set
use Rattle.std.specs.declared.io.ErrorKind.{ErrorKind}
use Rattle.std.specs.declared.io.ErrorKind.TheVariants.{OutOfMemory, WouldBlock}
use Rattle.folder_calls.specs.Tree.{Tree, is_file}
use Rattle.folder_calls.specs.declared.found.Found.{Found}
use Rattle.run_looks.specs.Standing.{RecentStand, Standing}
use Rattle.run_looks.specs.declared.identity.Identity.{Identity}
use Rattle.run_looks.specs.declared.looks.LookFault.{LookFault}
use Rattle.run_looks.specs.declared.looks.LookFault.TheVariants.{Changed, Memory}
use Rattle.run_looks.specs.declared.looks.RunLooks.{RunLooks}

-- what tells a regular file from another one, and from itself after a change
abbrev pub identity_of : Option Found → Option Identity
identity_of None = None
identity_of (Some found) =
    if is_file found then Some (record {
      device = found.device;
      inode = found.inode;
      length = found.facts.length;
      seconds = found.seconds;
      nanoseconds = found.nanoseconds;
    }) else None

-- what is no regular file, after links, isn't there
abbrev pub standing_of : Tree → Standing
standing_of tree = record {
  files = λ path. identity_of (tree.leads path);
  names = λ folder. set.from_list (tree.names folder);
}

-- what this run has looked at since its last reply is as it was found first
abbrev pub LooksStand : Tree → RunLooks → Type 0
LooksStand tree looks = RecentStand (standing_of tree) looks

-- the kind of the error of a look that isn't taken
abbrev pub look_error_kind : LookFault → ErrorKind
look_error_kind Changed = WouldBlock
look_error_kind Memory = OutOfMemory
