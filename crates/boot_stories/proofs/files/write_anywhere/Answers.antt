use Rattle.std.proofs.Common.{◌≡◌, true, ℕ, List}
use Rattle.boot_base.specs.Paths.{Path}
use Rattle.boot_machine.specs.Prelude.{State, has, after_append, after_create}
use Rattle.boot_machine.proofs.Written.{has-created, has-appended}
use Rattle.boot_stories.proofs.files.write_anywhere.Goals as goal

created_there : (p : Path) (old made : State) → made ≡ after_create p old → has made.files p ≡ true
created_there p old made is = rw is (has-created old.files p)

appended_there : (p : Path) (bytes : List ℕ) (old made now : State) → made ≡ after_create p old → now ≡ after_append p bytes made → has now.files p ≡ true
appended_there p bytes old made now is_made is_now = rw (is_now, is_made) (has-appended old.files p bytes)

pub append-requires : goal.append-requires
append-requires c = created_there _ _ _ c.in_ok-create.ensures.row

pub put_in_place-requires : goal.put_in_place-requires
put_in_place-requires c = record { there = λ told. appended_there _ _ _ _ _ c.in_ok-create.ensures.row c.in_ok-append.ensures.row }
