-- What clauses and proofs cite of this crate, handed on from one place. It defines nothing.
pub use Rattle.command_plans.specs.Answers.{Answer, answer_of_read, answer_or_refusal, channel_of, done_answer, is_refusal, refusal}
pub use Rattle.command_plans.specs.Changes.{IsCopy, installed_text, removal, unlink_answer, unlinked_text}
pub use Rattle.command_plans.specs.Choices.{banks_of, paths_of}
unfoldable pub use Rattle.command_plans.specs.Choices.{without_repeats}
pub use Rattle.command_plans.specs.WordErrors.{WordErrorFor, Means, path_error, install_name, path_in, path_or, path_under, printed_path, ◌>>=◌}
pub use Rattle.command_plans.specs.Deeds.{Acts, Breaks, Deed, DiskFails, End, Finished, NoMemory, PipeFails, Stays, Stopped, deed_of_answer, left_by}
pub use Rattle.command_plans.specs.Files.{bytes_at, headers_or, if_given, image_at, readable_bytes}
unfoldable pub use Rattle.command_plans.specs.Files.{each}
pub use Rattle.command_plans.specs.Folders.{folders_of}
pub use Rattle.command_plans.specs.Makeable.{IsIdleIfRefused, IsLineOf, IsMakeable, SaysCleaned, TellsGone, changes_nothing, cleaned_text}
pub use Rattle.command_plans.specs.Menus.{menu_at, menu_limit, menu_read_error}
pub use Rattle.command_plans.specs.Performs.{CountsFault, CountsRunError, DoesDeed, LeavesNoTemp, LeavesNoTempBy, LeavesRested, LeavesRestedBy, Performs, end_by, end_of, run_error_of, run_error_rests, run_error_temps}
pub use Rattle.command_plans.specs.Plans.{CanCopy, CanMake, Drops, DropsBy, IsSparedBy, Plans, PlansAs, SparesTemps, answer_of_plan, effect, fault_drops, making_length, own_temps, view_with_image, with_copy}
pub use Rattle.command_plans.specs.Refusing.{DeclinesWords, PlansWordError, PlansReadError, RefusesWords, unless_refused}
pub use Rattle.command_plans.specs.ReadErrors.{CountsReadError, Says, ReadErrorFor, read_error_counts, read_error_of_words}
