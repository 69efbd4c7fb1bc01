-- What clauses and proofs cite of this crate, handed on from one place. It defines nothing.
pub use Rattle.boot_machine.specs.Counts.{Counts, CountsDisk, CountsPipe, CountsRead, DiskFailed, DiskFailsOnce, PipeFailed, PipeFailsOnce, one_more, read_counts}
pub use Rattle.boot_machine.specs.Disk.{Files, HasNoHalfRename, HasOneCandidate, IsCandidate, IsIn, IsRested, IsSound, Paths, State, candidates, has, intent_names, is_same_path, of_intent, path_cmp}
unfoldable pub use Rattle.boot_machine.specs.Disk.{is_intended, is_left, is_recovered, is_shown, recovered_view, view}
pub use Rattle.boot_machine.specs.Images.{IsFirm, IsImage, IsImageOf, IsSettled}
pub use Rattle.boot_machine.specs.Listed.{is_listed}
pub use Rattle.boot_machine.specs.Moments.{EachSince, Elapses, IsBetween, IsMoment, Timeline}
pub use Rattle.boot_machine.specs.Reading.{IsIdleMoment, Looks, OnlyReads, TakesAtMost, TakesPiece, bytes_between, fill_with_zeros}
pub use Rattle.boot_machine.specs.Rows.{AppendRow, CreateRow, DoneOrNot, Gave, InputRow, IsNamesOf, NamesRow, PrintRow, ReadRow, RenameRow, SizeRow, SyncFileRow, SyncNamesRow, UnlinkRow, after_append, after_create, after_half_rename, after_rename, after_sync_file, after_sync_names, after_unlink, contents, on_channel, with_files, with_printed}
unfoldable pub use Rattle.boot_machine.specs.Rows.{append_to, move_in}
pub use Rattle.boot_machine.specs.Sent.{Adds, IsPrefix, PrintsPart, SameButInput, Sent, latest_view, recovered_now, recovered_views, seen}
pub use Rattle.boot_machine.specs.Streams.{TookSome, TookWhere}
pub use Rattle.boot_machine.specs.Taken.{TakesNone, TakesRead}
