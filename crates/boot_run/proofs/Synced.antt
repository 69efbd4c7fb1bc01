-- The moments of a run before its names are synced, and those from then on.
use Rattle.std.proofs.Common.{◌⊎◌, inl, inr, ◌≡◌, ℕ, ◌+◌, ◌<◌, Bool, true, false, not, ◌||◌, List, [], ◌∷◌, ◌++◌, length, take, get_or, refl, sym, ap, ◌∙◌, subst, append_assoc}
use Rattle.std.proofs.lemmas.List.{append-nil, take_more}
use Rattle.boot_machine.specs.Prelude.{Files, State, recovered_view, IsImage, Timeline, EachSince, IsIdleMoment, OnlyReads, Sent, Adds, IsPrefix, PrintsPart, latest_view, recovered_views, recovered_now}
use Rattle.boot_machine.proofs.Elapsing.{weaken, joined}
use Rattle.boot_machine.proofs.Printing.{prefix_behind}
use Rattle.boot_machine.proofs.Seeing.{latest_view-recovered_views}
use Rattle.command_plans.specs.Prelude.{Deed, Stopped, left_by, Breaks}
use Rattle.boot_run.specs.History.{states, printed_by}
use Rattle.boot_run.specs.Lines.{Prints, has_command, is_unread, line_deed}
use Rattle.boot_run.specs.RunsTo.{FromSync, IsSyncedBy, IsUnsynced, OnlyPrints, RunsAfresh, SyncsBefore}
use Rattle.boot_run.specs.Step.{AllUnread, join_replies as end_to_end, replies}
use Rattle.boot_run.specs.declared.line.Line.{Line}
use Rattle.boot_run.specs.declared.line.Line.TheVariants.{Plain, Part, Numbered, Unread, TooLong}
use Rattle.boot_run.proofs.Staying.{image_stays}
use Rattle.boot_run.proofs.Running.{SoFar, runs_break, printed_by-is, said_more, states-append}

-- what is said depends on the last view alone
pub said_latest : (a b : List Files) (lines : List Line) → latest_view a ≡ latest_view b → printed_by a lines ≡ printed_by b lines
said_latest a b lines same = printed_by-is a lines ∙ ap (λ v. end_to_end (replies v lines)) same ∙ sym (printed_by-is b lines)

-- unread lines leave a state
unread_states : (a : List Files) (lines : List Line) → AllUnread lines → states a lines ≡ a
unread_states a [] all = refl
unread_states a (Plain command ∷ lines) all = cc
unread_states a (Part action ∷ lines) all = cc
unread_states a (Numbered number command ∷ lines) all = cc
unread_states a (Unread number ∷ lines) all = unread_states a lines all.1
unread_states a (TooLong ∷ lines) all = unread_states a lines all.1

-- a command settles
pub command_settles : (view : Files) (line : Line) → is_unread line ≡ false → (line_deed view line).settles ≡ true
command_settles view (Plain command) is = refl
command_settles view (Part action) is = refl
command_settles view (Numbered number command) is = refl
command_settles view (Unread number) is = cc
command_settles view TooLong is = cc

unread_push : (lines : List Line) (line : Line) → AllUnread lines → is_unread line ≡ true → AllUnread (lines ++ line ∷ [])
unread_push [] line all is = (is, tt)
unread_push (x ∷ lines) line all is = (all.0, unread_push lines line all.1 is)

-- where no line is a command none was begun
pub none_begun : (lines : List Line) → AllUnread lines → has_command lines ≡ false
none_begun [] all = refl
none_begun (line ∷ lines) all = ap (λ b. not b || has_command lines) all.0 ∙ none_begun lines all.1

has_push : (lines : List Line) (line : Line) → has_command (lines ++ line ∷ []) ≡ (has_command lines || not (is_unread line))
has_push [] line = last (not (is_unread line))
  where
    last : (b : Bool) → (b || false) ≡ b
    last true = refl
    last false = refl
has_push (x ∷ lines) line = ap (λ b. not (is_unread x) || b) (has_push lines line) ∙ assoc (not (is_unread x)) (has_command lines) (not (is_unread line))
  where
    assoc : (a b c : Bool) → (a || (b || c)) ≡ ((a || b) || c)
    assoc true b c = refl
    assoc false b c = refl

pub begun_more : (lines : List Line) (i : ℕ) (line : Line) → i < length lines → get_or lines i line ≡ line → has_command (take (i + 1) lines) ≡ (has_command (take i lines) || not (is_unread line))
begun_more lines i line within is = ap has_command (take_more lines i line within ∙ ap (λ (x : Line). take i lines ++ x ∷ []) is) ∙ has_push (take i lines) line

left_settles : (a b : List Files) (deed : Deed) → deed.settles ≡ true → left_by deed a ≡ left_by deed b
left_settles a b deed settles = rw settles refl

-- nothing is done or printed yet
pub unsynced_yet : (s : State) (lines : List Line) (m : Files) (o : Sent) → IsImage s m × (o ≡ s.printed) → IsUnsynced s lines m o
unsynced_yet s lines m o now = record { stands = now.0; part = ([], now.1 ∙ sym (append-nil s.printed), record { leading = 0; unread = tt; front = ([], refl) }) }

module _ {D : Type 0} (time : Timeline D) (state : D → State) where
  -- a later part of a run behind the sync
  after_sync : (Before After : Files → Sent → Type 0) (old mid new : D) → FromSync time state old mid Before After → EachSince time mid new After → FromSync time state old new Before After
  after_sync Before After old mid new from moments = record {
    synced = from.synced;
    one = from.one;
    before = from.before;
    after = joined time state After from.synced mid new from.after moments;
  }

  -- more is known of the moments behind the sync
  pub weaken_after : (Before P Q : Files → Sent → Type 0) (old new : D) → ((m : Files) (o : Sent) → P m o → Q m o) → FromSync time state old new Before P → FromSync time state old new Before Q
  weaken_after Before P Q old new so from = record {
    synced = from.synced;
    one = from.one;
    before = from.before;
    after = weaken time state P Q from.synced new so from.after;
  }

  -- no line so far is a command
  pub record UnreadRun (old now : D) (lines : List Line) (i : ℕ) : Type 0 where
    pub unread : AllUnread (take i lines)
    pub same : Prints (state old) (state now)
    pub moments : EachSince time old now (IsUnsynced (state old) lines)

  -- the names were synced before the first command
  pub record LateRun (old now : D) (lines : List Line) (i : ℕ) : Type 0 where
    pub same : states (latest_view (recovered_views (state old)) ∷ []) (take i lines) ≡ states (recovered_views (state old)) (take i lines)
    pub from : FromSync time state old now (IsUnsynced (state old) lines) (RunsAfresh (state old) lines)

  abbrev pub IsSynced : D → D → List Line → ℕ → Type 0
  IsSynced old now lines i = UnreadRun old now lines i ⊎ LateRun old now lines i

  module _ (old mid new : D) (lines : List Line) (i : ℕ) (refused : Bool) (line : Line) (within : i < length lines)
      (line_is : get_or lines i line ≡ line) (so_far : SoFar time state old mid lines i refused) where
    abbrev start : List Files
    start = latest_view (recovered_views (state old)) ∷ []

    one_more_line : take (i + 1) lines ≡ take i lines ++ line ∷ []
    one_more_line = take_more lines i line within ∙ ap (λ (x : Line). take i lines ++ x ∷ []) line_is

    said_alike : printed_by start (take i lines) ≡ printed_by (recovered_views (state old)) (take i lines)
    said_alike = said_latest start (recovered_views (state old)) (take i lines) refl

    mid_latest : latest_view (recovered_views (state mid)) ≡ recovered_now (state mid)
    mid_latest = latest_view-recovered_views (state mid)

    -- the replies to the lines so far
    so_said : printed_by (recovered_views (state old)) (take i lines) ≡ end_to_end (replies (recovered_now (state old)) (take i lines))
    so_said = printed_by-is (recovered_views (state old)) (take i lines) ∙ ap (λ v. end_to_end (replies v (take i lines))) (latest_view-recovered_views (state old))

    -- where no line so far is a command, what is printed so far may be before the sync
    unsynced_so_far : UnreadRun old mid lines i → (m : Files) (o : Sent) → IsIdleMoment (state mid) m o → IsUnsynced (state old) lines m o
    unsynced_so_far run m o stays = record {
      stands = image_stays (state old) (state mid) run.same m stays.0;
      part = (
        printed_by (recovered_views (state old)) (take i lines),
        stays.1 ∙ so_far.all.printed,
        record { leading = i; unread = run.unread; front = ([], append-nil _ ∙ so_said) },
      );
    }

    -- and so may a part of the reply to one more
    unsynced_more : UnreadRun old mid lines i → is_unread line ≡ true → (m : Files) (o : Sent)
        → PrintsPart (state mid) (line_deed (recovered_now (state mid)) line).sent m o → IsUnsynced (state old) lines m o
    unsynced_more run is m o prints = record {
      stands = image_stays (state old) (state mid) run.same m prints.stands;
      part = (
        printed_by (recovered_views (state old)) (take i lines) ++ prints.part.0,
        prints.part.1 ∙ ap (λ (l : Sent). l ++ prints.part.0) so_far.all.printed ∙ append_assoc (state old).printed (printed_by (recovered_views (state old)) (take i lines)) prints.part.0,
        record {
          leading = i + 1;
          unread = subst AllUnread (sym one_more_line) (unread_push (take i lines) line run.unread is);
          front =
              subst (IsPrefix (printed_by (recovered_views (state old)) (take i lines) ++ prints.part.0)) whole_said
              (prefix_behind (printed_by (recovered_views (state old)) (take i lines)) prints.part.0 _ prints.part.2);
        },
      );
    }
      where
        whole_said : printed_by (recovered_views (state old)) (take i lines) ++ (line_deed (recovered_now (state mid)) line).sent ≡ end_to_end
            (replies (recovered_now (state old)) (take (i + 1) lines))
        whole_said =
            ap (λ v. printed_by (recovered_views (state old)) (take i lines) ++ (line_deed v line).sent) (sym mid_latest ∙ ap latest_view so_far.all.state)
            ∙ sym (said_more (recovered_views (state old)) lines i line within line_is)
            ∙ printed_by-is (recovered_views (state old)) (take (i + 1) lines) ∙ ap (λ v. end_to_end (replies v (take (i + 1) lines))) (latest_view-recovered_views (state old))

    -- one more line that is no command
    pub unread_moments : UnreadRun old mid lines i → is_unread line ≡ true
        → OnlyPrints time state mid new (line_deed (recovered_now (state mid)) line).sent → EachSince time old new (IsUnsynced (state old) lines)
    unread_moments run is prints = joined time state (IsUnsynced (state old) lines) old mid new run.moments
        (weaken time state _ (IsUnsynced (state old) lines) mid new (unsynced_more run is) prints.moments)

    pub unread_more : UnreadRun old mid lines i → is_unread line ≡ true → OnlyPrints time state mid new (line_deed (recovered_now (state mid)) line).sent → UnreadRun old new lines (i + 1)
    unread_more run is prints = record {
      unread = subst AllUnread (sym one_more_line) (unread_push (take i lines) line run.unread is);
      same = record { stays = prints.same.stays ∙ ap (λ (x : State). record x { printed = (state new).printed }) run.same.stays };
      moments = unread_moments run is prints;
    }

    -- what breaks off in the line, of the run from one view
    late_breaks : (here : List Files) → states start (take i lines) ≡ here → (m : Files) (printed part : Sent) → printed ≡ (state mid).printed ++ part
        → Breaks (line_deed (latest_view here) line) here (recovered_view m ∷ []) part Stopped
        → RunsAfresh (state old) lines m printed
    late_breaks here here_is m printed part is broke = (
      printed_by start (take i lines) ++ part,
      is ∙ ap (λ (l : Sent). l ++ part) (so_far.all.printed ∙ ap (λ (l : Sent). (state old).printed ++ l) (sym said_alike)) ∙ append_assoc (state old).printed (printed_by start (take i lines)) part,
      runs_break start lines i line within line_is (recovered_view m ∷ []) part Stopped
          (subst (λ (s : List Files). Breaks (line_deed (latest_view s) line) s (recovered_view m ∷ []) part Stopped) (sym here_is) broke),
    )

    -- a line where the run is late already
    pub late_moments : LateRun old mid lines i
        → EachSince time mid new
        (λ image sent. Adds (state mid).printed sent
        (λ part. Breaks (line_deed (recovered_now (state mid)) line) (recovered_views (state mid)) (recovered_view image ∷ []) part Stopped))
        → FromSync time state old new (IsUnsynced (state old) lines) (RunsAfresh (state old) lines)
    late_moments late moments = after_sync (IsUnsynced (state old) lines) (RunsAfresh (state old) lines) old mid new late.from
        (weaken time state _ (RunsAfresh (state old) lines) mid new
        (λ m o adds. late_breaks (recovered_views (state mid)) (late.same ∙ sym so_far.all.state) m o adds.0 adds.1
        (subst (λ v. Breaks (line_deed v line) (recovered_views (state mid)) (recovered_view m ∷ []) adds.0 Stopped) (sym mid_latest) adds.2))
        moments)

    pub late_more : LateRun old mid lines i
        → EachSince time mid new
        (λ image sent. Adds (state mid).printed sent
        (λ part. Breaks (line_deed (recovered_now (state mid)) line) (recovered_views (state mid)) (recovered_view image ∷ []) part Stopped))
        → LateRun old new lines (i + 1)
    late_more late moments = record {
      same =
          ap (states start) one_more_line ∙ states-append start (take i lines) (line ∷ []) ∙ ap (λ s. states s (line ∷ [])) late.same
          ∙ sym (states-append (recovered_views (state old)) (take i lines) (line ∷ []))
          ∙ ap (states (recovered_views (state old))) (sym one_more_line);
      from = late_moments late moments;
    }

    -- the first command, before which the names are synced
    pub first_moments : UnreadRun old mid lines i → SyncsBefore time state mid new (line_deed (recovered_now (state mid)) line)
        → FromSync time state old new (IsUnsynced (state old) lines) (RunsAfresh (state old) lines)
    first_moments run syncs = record {
      synced = syncs.synced;
      one = syncs.one;
      before = joined time state (IsUnsynced (state old) lines) old mid syncs.synced run.moments
          (weaken time state (IsIdleMoment (state mid)) (IsUnsynced (state old) lines) mid syncs.synced (unsynced_so_far run) syncs.before);
      after = weaken time state _ (RunsAfresh (state old) lines) syncs.synced new
          (λ m o adds. late_breaks start (unread_states start (take i lines) run.unread) m o adds.0 adds.1
          (subst (λ (s : List Files). Breaks (line_deed (latest_view s) line) (latest_view s ∷ []) (recovered_view m ∷ []) adds.0 Stopped) (ap recovered_views run.same.stays)
          (subst (λ v. Breaks (line_deed v line) (latest_view (recovered_views (state mid)) ∷ []) (recovered_view m ∷ []) adds.0 Stopped) (sym mid_latest) adds.2)))
          syncs.after;
    }

    pub first_more : UnreadRun old mid lines i → is_unread line ≡ false → SyncsBefore time state mid new (line_deed (recovered_now (state mid)) line) → LateRun old new lines (i + 1)
    first_more run is syncs = record {
      same =
          ap (states start) one_more_line ∙ states-append start (take i lines) (line ∷ [])
          ∙ ap (λ s. left_by (line_deed (latest_view s) line) s) (unread_states start (take i lines) run.unread)
          ∙ left_settles start (recovered_views (state old)) (line_deed (latest_view (recovered_views (state old))) line) (command_settles (latest_view (recovered_views (state old))) line is)
          ∙ ap (λ s. left_by (line_deed (latest_view s) line) s) (sym (unread_states (recovered_views (state old)) (take i lines) run.unread))
          ∙ sym (states-append (recovered_views (state old)) (take i lines) (line ∷ [])) ∙ ap (states (recovered_views (state old))) (sym one_more_line);
      from = first_moments run syncs;
    }

    -- the first command is given up with nothing done
    pub first_not : UnreadRun old mid lines i → OnlyReads time state mid new → EachSince time old new (IsUnsynced (state old) lines)
    first_not run reads = joined time state (IsUnsynced (state old) lines) old mid new run.moments
        (weaken time state (IsIdleMoment (state mid)) (IsUnsynced (state old) lines) mid new (unsynced_so_far run) reads.moments)

  pub synced_done : (old new : D) (lines : List Line) (i : ℕ) → IsSynced old new lines i → IsSyncedBy time state old new lines
  synced_done old new lines i (inl run) = inl run.moments
  synced_done old new lines i (inr late) = inr late.from
